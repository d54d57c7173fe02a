-- A control record: the volume id in word 0, the check word in word 1, and 126 words of its own.
use Rattle.std.specs.Prelude.{ℕ, suc, ◌+◌, ◌*◌, ◌/◌, ◌%◌, ◌^◌, Bool, cond, ◌&&◌, List, [], ◌∷◌, length, ◌==◌, bit_or}
use Rattle.record.specs.Words.{words, word, unwords}

-- a number of 32 bits, rotated left by one bit
abbrev pub rotated : ℕ → ℕ
rotated s = bit_or ((s * 2) % 2 ^ 32) (s / 2 ^ 31)

-- the sum s rotated, and the word w added modulo 2 ^ 32
abbrev pub added : ℕ → ℕ → ℕ
added s w = (rotated s + w) % 2 ^ 32

-- the sum s taken on over the words ws, of which the first is word i; word 1 is left out
abbrev pub sum_from : ℕ → ℕ → List ℕ → ℕ
sum_from i s [] = s
sum_from i s (w ∷ ws) = sum_from (suc i) (cond (i == 1) s (added s w)) ws

-- the check word of a record with the words ws, where the sum starts at a given number
abbrev pub check : ℕ → List ℕ → ℕ
check start ws = sum_from 0 start ws

-- the control record of a volume with these words 2 to 127
unfoldable pub control : ℕ → ℕ → List ℕ → List ℕ
control start id body = unwords (id ∷ check start (id ∷ 0 ∷ body) ∷ body)

-- the bytes p are a record of 512 bytes whose words 0 and 1 are right
abbrev pub whole : ℕ → ℕ → List ℕ → Bool
whole start id p = length p == 512 && (word p 0 == id && word p 1 == check start (words p))
