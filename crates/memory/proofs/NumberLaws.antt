-- A list that is parted into what is given and what stays.
use Rattle.std.proofs.Common.{◌≡◌, ℕ, zero, suc, ◌-◌, ◌<◌, true, false, eqb, ◌⊎◌, List, [], ◌∷◌, ◌++◌, refl, ap, ◌∙◌, inl, inr, sub-one, arith}
use Rattle.std.proofs.lemmas.List.{append_assoc}
use Rattle.model.specs.Stock.{cover, given, staying}

given_none : (k : ℕ) (xs : List ℕ) → given k 0 xs ≡ []
given_none k [] = refl
given_none k (a ∷ xs) = refl

stay_all : (k : ℕ) (xs : List ℕ) → staying k 0 xs ≡ xs
stay_all k [] = refl
stay_all k (a ∷ xs) = refl

module _ (k a : ℕ) (xs : List ℕ) where
  given_here : (n : ℕ) → 0 < n → eqb (cover a) k ≡ true → a ∷ given k (n - 1) xs ≡ given k n (a ∷ xs)
  given_here zero p t = absurd (omega arith)
  given_here (suc n) p t = rw (sub-one, t)

  stay_here : (n : ℕ) → 0 < n → eqb (cover a) k ≡ true → staying k (n - 1) xs ≡ staying k n (a ∷ xs)
  stay_here zero p t = absurd (omega arith)
  stay_here (suc n) p t = rw (sub-one, t)

  given_past : (n : ℕ) → (n ≡ 0) ⊎ (eqb (cover a) k ≡ false) → given k n xs ≡ given k n (a ∷ xs)
  given_past zero w = given_none k xs
  given_past (suc n) (inl e) = absurd (omega arith)
  given_past (suc n) (inr t) = rw t

  stay_past : (n : ℕ) → (n ≡ 0) ⊎ (eqb (cover a) k ≡ false) → a ∷ staying k n xs ≡ staying k n (a ∷ xs)
  stay_past zero w = ap (λ l. a ∷ l) (stay_all k xs)
  stay_past (suc n) (inl e) = absurd (omega arith)
  stay_past (suc n) (inr t) = rw t

module _ (k n a : ℕ) (F xs : List ℕ) where
  pub given_in : 0 < n → eqb (cover a) k ≡ true → (F ++ (a ∷ [])) ++ given k (n - 1) xs ≡ F ++ given k n (a ∷ xs)
  given_in p t = append_assoc F (a ∷ []) (given k (n - 1) xs) ∙ ap (λ l. F ++ l) (given_here k a xs n p t)

  pub stay_in : 0 < n → eqb (cover a) k ≡ true → F ++ staying k (n - 1) xs ≡ F ++ staying k n (a ∷ xs)
  stay_in p t = ap (λ l. F ++ l) (stay_here k a xs n p t)

  pub given_out : (n ≡ 0) ⊎ (eqb (cover a) k ≡ false) → F ++ given k n xs ≡ F ++ given k n (a ∷ xs)
  given_out w = ap (λ l. F ++ l) (given_past k a xs n w)

  pub stay_out : (n ≡ 0) ⊎ (eqb (cover a) k ≡ false) → (F ++ (a ∷ [])) ++ staying k n xs ≡ F ++ staying k n (a ∷ xs)
  stay_out w = append_assoc F (a ∷ []) (staying k n xs) ∙ ap (λ l. F ++ l) (stay_past k a xs n w)
