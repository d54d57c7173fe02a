-- What a test of every element tells.
use Rattle.std.proofs.Common.{Fits, w8, ◌≡◌, ℕ, zero, suc, Bool, true, ltb, List, [], ◌∷◌, ◌++◌, get_or, set, replicate, sym, refl, ap, ◌∙◌, ◌<◌}
use Rattle.std.specs.List.{AllByRecursion}
use Rattle.std.proofs.ByRecursion.{All-from_get_or, All-push, All-set}
use Rattle.std.proofs.lemmas.Bool.{and_from, and_parts, lt-ltb}
use Rattle.drive.specs.Each.{each, all_bytes}
use Rattle.drive.specs.Formed.{all_from_each}

pub each_from_all : {X : Type 0} (test : X → Bool) (xs : List X) → AllByRecursion (λ x. test x ≡ true) xs → each test xs ≡ true
unfolding each
each_from_all test [] h = refl
each_from_all test (x ∷ xs) h = and_from (test x) (each test xs) h.0 (each_from_all test xs h.1)

pub each_replicate : {X : Type 0} (test : X → Bool) (n : ℕ) (x : X) → test x ≡ true → each test (replicate n x) ≡ true
unfolding each
each_replicate test zero x h = refl
each_replicate test (suc n) x h = and_from (test x) (each test (replicate n x)) h (each_replicate test n x h)

-- bytes of the program are below 256
pub all_bytes_from : (bs : List ℕ) → ((i : ℕ) → get_or bs i 0 < 256) → all_bytes bs ≡ true
all_bytes_from bs h =
    each_from_all (λ b. ltb b 256) bs (All-from_get_or (λ b. ltb b 256 ≡ true) bs 0 (λ i _. lt-ltb (get_or bs i 0) 256 (h i)))

pub all_bytes_fit : (bs : List ℕ) → ((i : ℕ) → Fits w8 (get_or bs i 0)) → all_bytes bs ≡ true
all_bytes_fit bs h = all_bytes_from bs (λ i. (h i).fits)

pub each_none : {X : Type 0} (test : X → Bool) (xs : List X) → xs ≡ [] → each test xs ≡ true
unfolding each
each_none test xs e = ap (each test) e

pub each_push : {X : Type 0} (test : X → Bool) (xs after : List X) (x : X) → after ≡ xs ++ (x ∷ []) → each test xs ≡ true → test x ≡ true → each test after ≡ true
each_push test xs after x e h t =
    ap (each test) e ∙ each_from_all test (xs ++ (x ∷ [])) (All-push (λ y. test y ≡ true) xs x (all_from_each test xs h) t)

pub each_set : {X : Type 0} (test : X → Bool) (xs after : List X) (i : ℕ) (x : X) → after ≡ set xs i x → each test xs ≡ true → test x ≡ true → each test after ≡ true
each_set test xs after i x e h t =
    ap (each test) e ∙ each_from_all test (set xs i x) (All-set (λ y. test y ≡ true) xs i x t (all_from_each test xs h))

-- the first of a list passes, and each of the rest
pub each_parts : {X : Type 0} (test : X → Bool) (all rest : List X) (x : X) → all ≡ x ∷ rest → each test all ≡ true → (test x ≡ true) × (each test rest ≡ true)
unfolding each
each_parts test all rest x e h = and_parts (test x) (each test rest) (ap (each test) (sym e) ∙ h)
