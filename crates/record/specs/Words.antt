-- A record's bytes, and its words: four bytes each, highest first.
use Rattle.std.specs.Prelude.{ℕ, ◌+◌, ◌*◌, ◌/◌, ◌%◌, Bool, true, false, ◌&&◌, List, [], ◌∷◌, ◌++◌, take, drop, ◌==◌, slice_index}

-- the number that four bytes write, highest first
abbrev pub be : ℕ → ℕ → ℕ → ℕ → ℕ
be a b c d = a * 16777216 + b * 65536 + c * 256 + d

-- the four bytes of a word, highest first
abbrev pub be_bytes : ℕ → List ℕ
be_bytes w = (w / 16777216 % 256) ∷ (w / 65536 % 256) ∷ (w / 256 % 256) ∷ (w % 256) ∷ []

-- the words of the bytes p, in order; up to three bytes at the end make none
abbrev pub words : List ℕ → List ℕ
words [] = []
words (a ∷ []) = []
words (a ∷ b ∷ []) = []
words (a ∷ b ∷ c ∷ []) = []
words (a ∷ b ∷ c ∷ d ∷ p) = be a b c d ∷ words p

-- word i of the bytes p, or 0 past the end
abbrev pub word : List ℕ → ℕ → ℕ
word p i = slice_index (words p) i

-- the bytes of the words ws, in order
abbrev pub unwords : List ℕ → List ℕ
unwords [] = []
unwords (w ∷ ws) = be_bytes w ++ unwords ws

-- the bytes p with w for word i
abbrev pub put : List ℕ → ℕ → ℕ → List ℕ
put p i w = take (4 * i) p ++ (be_bytes w ++ drop (4 * i + 4) p)

-- each word is 0
abbrev pub zeros : List ℕ → Bool
zeros [] = true
zeros (w ∷ ws) = w == 0 && zeros ws

-- two lists of numbers are the same
abbrev pub same : List ℕ → List ℕ → Bool
same [] [] = true
same [] (y ∷ ys) = false
same (x ∷ xs) [] = false
same (x ∷ xs) (y ∷ ys) = x == y && same xs ys
