-- The layout of a map section: a bit for each of 3,968 numbers, 32 to a word, the highest bit first. On means free.
use Rattle.std.specs.Prelude.{ℕ, zero, suc, ◌+◌, ◌-◌, ◌*◌, ◌/◌, ◌%◌, ◌^◌, Bool, true, cond, not, ◌&&◌, ◌||◌, List, ◌∷◌, map, drop, replicate, Some, None, count_by, Option, ◌==◌, slice_index, slice_set}
use Rattle.std.specs.List.{range_with_len}
use Rattle.record.specs.declared.region.Span.{Span}
use Rattle.record.specs.declared.section.Section.{Section}
use Rattle.record.specs.Words.{words, word}
use Rattle.record.specs.Control.{control, whole}
use Rattle.record.specs.Regions.{within}

-- the digit of w with the weight 2 ^ k
abbrev pub digit : ℕ → ℕ → ℕ
digit w k = w / 2 ^ k % 2

-- w with b for that digit: the digits above, b, and the digits below
abbrev pub with_digit : ℕ → ℕ → ℕ → ℕ
with_digit w k b = (w / 2 ^ k / 2 * 2 + b) * 2 ^ k + w % 2 ^ k

-- the weight of bit r in its word
abbrev pub weight : ℕ → ℕ
weight r = 31 - r % 32

-- bit r of the words bits: the r-th of the covered numbers is free
abbrev pub bit : List ℕ → ℕ → Bool
bit bits r = digit (slice_index bits (r / 32)) (weight r) == 1

-- the words with bit r off (b = 0) or on (b = 1)
abbrev pub marked : List ℕ → ℕ → ℕ → List ℕ
marked bits r b = slice_set bits (r / 32) (with_digit (slice_index bits (r / 32)) (weight r) b)

-- how many of the covered numbers are free
unfoldable pub free_count : List ℕ → ℕ
free_count bits = count_by (bit bits) (range_with_len 0 3968)

-- the lowest of the n numbers from r on that passes a test
unfoldable pub first_from : (ℕ → Bool) → ℕ → ℕ → Option ℕ
first_from f r zero = None
first_from f r (suc n) = cond (f r) (Some r) (first_from f (r + 1) n)

-- the lowest free number from r on
abbrev pub lowest_free : List ℕ → ℕ → Option ℕ
lowest_free bits r = first_from (bit bits) r (3968 - r)

-- a word of n bits more, after those of w: whether the numbers from r on pass the test, the highest bit first
abbrev pub packed : (ℕ → Bool) → ℕ → ℕ → ℕ → ℕ
packed f w r zero = w
packed f w r (suc n) = packed f (w * 2 + cond (f r) 1 0) (r + 1) n

-- the bits that are on for just the numbers that pass the test
unfoldable pub bits_of : (ℕ → Bool) → List ℕ
bits_of f = map (λ q. packed f 0 (32 * q) 32) (range_with_len 0 124)

-- the bits of a section in which every number that may be free is free
abbrev pub all_free : Span → List ℕ
all_free s = bits_of (λ r. within s.free (s.first + r))

abbrev pub none_free : List ℕ
none_free = replicate 124 0

-- words 2 to 127 of a section: what it covers, how many of that exist and are free, and the bits
unfoldable pub section_body : Span → List ℕ → List ℕ
section_body s bits = (s.first * 65536 + 124) ∷ (s.covered * 65536 + free_count bits) ∷ bits

unfoldable pub section_record : ℕ → ℕ → Span → List ℕ → List ℕ
section_record start id s bits = control start id (section_body s bits)

-- words 2 and 3 are right
abbrev pub figures_right : Span → List ℕ → Bool
figures_right s p =
    (word p 2 == s.first * 65536 + 124) && word p 3 == s.covered * 65536 + free_count (drop 4 (words p))

-- each of the n numbers from r on that passes f passes g
unfoldable pub all_pass : (ℕ → Bool) → (ℕ → Bool) → ℕ → ℕ → Bool
all_pass f g r zero = true
all_pass f g r (suc n) = (not (f r) || g r) && all_pass f g (r + 1) n

-- no bit is on but for numbers that may be free
abbrev pub free_within : Span → List ℕ → Bool
free_within s bits = all_pass (bit bits) (λ r. within s.free (s.first + r)) 0 3968

-- the section in the record p, where it is sound
abbrev pub sound_section : ℕ → ℕ → Span → List ℕ → Option Section
sound_section start id s p =
    cond (whole start id p && (figures_right s p && free_within s (drop 4 (words p)))) (Some (record { bits = drop 4 (words p) })) None
