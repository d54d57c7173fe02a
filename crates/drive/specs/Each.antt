-- Tests of every element of a list, as the ghost fields state them.
use Rattle.std.specs.Prelude.{ℕ, Bool, true, ◌&&◌, List, [], ◌∷◌, nat_lt}
use Rattle.drive.specs.Meaning.{State, readable, spoiled, Write}

-- whether each element passes a test
unfoldable pub each : {X : Type 0} → (X → Bool) → List X → Bool
each test [] = true
each test (x ∷ xs) = test x && each test xs

-- whether each number is below 256
abbrev pub all_bytes : List ℕ → Bool
all_bytes bs = each (λ b. nat_lt b 256) bs

-- whether what can be read there is bytes
abbrev pub holds_bytes : State → Bool
holds_bytes (readable bs) = all_bytes bs
holds_bytes spoiled = true

-- whether each write is to an address below n
abbrev pub all_below : ℕ → List Write → Bool
all_below n ws = each (λ w. nat_lt w.at n) ws
