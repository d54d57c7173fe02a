-- The records that lie in bytes handed in, with a mark byte for each.
use Rattle.std.specs.Prelude.{ℕ, ◌*◌, ◌/◌, min, cond, List, map, length, take, drop, ◌==◌, slice_index}
use Rattle.std.specs.List.{range_with_len}
use Rattle.drive.specs.Meaning.{State, readable, spoiled}

-- how many records the bytes and the marks have room for, at most 65535
abbrev pub extent : ℕ → ℕ → ℕ
extent bytes marks = min (min (bytes / 512) marks) 65535

-- a mark other than 0 spoils its record
abbrev pub cell : List ℕ → List ℕ → ℕ → State
cell bytes marks a = cond (slice_index marks a == 0) (readable (take 512 (drop (a * 512) bytes))) spoiled

unfoldable pub states : List ℕ → List ℕ → List State
states bytes marks = map (cell bytes marks) (range_with_len 0 (extent (length bytes) (length marks)))
