-- Taking addresses from the map and giving them back.
use Rattle.std.specs.Prelude.{ℕ, zero, suc, ◌+◌, ◌-◌, ◌/◌, Bool, true, false, cond, List, [], ◌∷◌, take, Some, None, Option, ◌==◌, nat_lt}
use Rattle.record.specs.Regions.{first_of}
use Rattle.record.specs.Sections.{bit, marked}

-- the section that covers an address
abbrev pub cover : ℕ → ℕ
cover a = a / 3968

-- of the n covered numbers from r on, those that are free, lowest first, as addresses
unfoldable pub free_from : List ℕ → ℕ → ℕ → ℕ → List ℕ
free_from bits first r zero = []
free_from bits first r (suc n) = cond (bit bits r) ((first + r) ∷ free_from bits first (r + 1) n) (free_from bits first (r + 1) n)

-- the lowest n free addresses of section k, or as many as there are
abbrev pub lowest : List ℕ → ℕ → ℕ → List ℕ
lowest bits k n = take n (free_from bits (first_of k) 0 3968)

-- section k's bits with the addresses off (b = 0) or on (b = 1)
abbrev pub all_marked : ℕ → ℕ → List ℕ → List ℕ → List ℕ
all_marked k b [] bits = bits
all_marked k b (a ∷ as') bits = all_marked k b as' (marked bits (a - first_of k) b)

-- the first n addresses of section k, oldest first, and the others
abbrev pub given : ℕ → ℕ → List ℕ → List ℕ
given k n [] = []
given k zero (a ∷ as') = []
given k (suc n) (a ∷ as') = cond (cover a == k) (a ∷ given k n as') (given k (suc n) as')

abbrev pub staying : ℕ → ℕ → List ℕ → List ℕ
staying k n [] = []
staying k zero (a ∷ as') = a ∷ as'
staying k (suc n) (a ∷ as') = cond (cover a == k) (staying k n as') (a ∷ staying k (suc n) as')

-- the lowest section that counts a free address, where the first is number k
abbrev pub counting_free : ℕ → List ℕ → Option ℕ
counting_free k [] = None
counting_free k (n ∷ ns) = cond (nat_lt 0 n) (Some k) (counting_free (k + 1) ns)

abbrev pub is_some : {X : Type 0} → Option X → Bool
is_some None = false
is_some (Some x) = true

-- the oldest of a list
abbrev pub oldest : List ℕ → Option ℕ
oldest [] = None
oldest (a ∷ as') = Some a
