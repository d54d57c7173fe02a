-- How often an address stands in a list, and what is read after a write to a list.
use Rattle.std.proofs.Common.{◌≡◌, ℕ, zero, suc, ◌+◌, ◌-◌, ◌<◌, ◌≤◌, Bool, true, false, cond, ◌||◌, eqb, ◌⊎◌, List, [], ◌∷◌, ◌++◌, map, length, get_or, take, set, replicate, sym, refl, ap, ◌∙◌, inl, inr, arith}
use Rattle.std.proofs.lemmas.Bool.{cases_eq, eq-eqb, ne_eqb, cases_Bool, eqb-true, cond-true, cond-false}
use Rattle.record.specs.Regions.{first_of}
use Rattle.record.specs.Sections.{bit, marked}
use Rattle.record.specs.Laws.{FittingBits}
use Rattle.record.specs.Entries.{among}
use Rattle.record.proofs.BitLaws.{a_changed_bit_changes_no_other}
use Rattle.model.specs.Stock.{cover, free_from, lowest, all_marked, given, staying}

abbrev pub one : ℕ → ℕ → ℕ
one x y = cond (eqb y x) 1 0

-- how often x stands in a list
abbrev pub count : ℕ → List ℕ → ℕ
count x [] = 0
count x (y ∷ ys) = one x y + count x ys

pub one_same : (x y : ℕ) → x ≡ y → one x y ≡ 1
one_same x y e = rw (eq-eqb y x (sym e))

pub one_other : (x y : ℕ) → (x ≡ y → ⊥) → one x y ≡ 0
one_other x y n = rw (ne_eqb y x (λ e. n (sym e)))

pub one_cases : (x y : ℕ) → ((x ≡ y) × (one x y ≡ 1)) ⊎ ((x ≡ y → ⊥) × (one x y ≡ 0))
one_cases x y = elim (cases_eq x y) [ inl e ↦ inl (e, one_same x y e) | inr n ↦ inr (n, one_other x y n) ]

pub count_append : (x : ℕ) (xs ys : List ℕ) → count x (xs ++ ys) ≡ count x xs + count x ys
count_append x [] ys = omega arith
count_append x (y ∷ xs) ys = omega (arith, count_append x xs ys)

count_take : (x n : ℕ) (xs : List ℕ) → count x (take n xs) ≤ count x xs
count_take x zero xs = omega arith
count_take x (suc n) [] = omega arith
count_take x (suc n) (y ∷ xs) = omega (arith, count_take x n xs)

pub count_among : (x : ℕ) (xs : List ℕ) → ((among x xs ≡ true) × (0 < count x xs)) ⊎ ((among x xs ≡ false) × (count x xs ≡ 0))
count_among x [] = inr (refl, refl)
count_among x (y ∷ xs) =
    let ih = count_among x xs in
    elim (cases_Bool (eqb y x)) [ inl e ↦ rw e (inl (refl, omega arith)) | inr e ↦ rw e (elim ih [ inl q ↦ inl (q.0, omega arith) | inr q ↦ inr (q.0, omega arith) ]) ]

-- ---- what is given back, and what stays

pub count_split : (k n x : ℕ) (xs : List ℕ) → count x xs ≡ count x (given k n xs) + count x (staying k n xs)
count_split k n x [] = refl
count_split k zero x (y ∷ xs) = omega arith
count_split k (suc n) x (y ∷ xs) =
    elim (cases_Bool (eqb (cover y) k))
    [ inl e ↦ rw e (omega (arith, count_split k n x xs)) | inr e ↦ rw e (omega (arith, count_split k (suc n) x xs)) ]

pub given_cover : (k n x : ℕ) (xs : List ℕ) → 0 < count x (given k n xs) → cover x ≡ k
given_cover k n x [] h = absurd (omega arith)
given_cover k zero x (y ∷ xs) h = absurd (omega arith)
given_cover k (suc n) x (y ∷ xs) h =
    elim (cases_Bool (eqb (cover y) k)) [
      | inl e ↦
          elim (one_cases x y) [
            | inl q ↦ ap cover q.0 ∙ eqb-true (cover y) k e
            | inr q ↦ let h' : 0 < count x (y ∷ given k n xs) = rw e at h in given_cover k n x xs (omega arith)
          ]
      | inr e ↦ given_cover k (suc n) x xs (rw e at h)
    ]

-- ---- the free addresses of a section

module _ (bits : List ℕ) (first : ℕ) where
  free_below : (r n x : ℕ) → x < first + r → count x (free_from bits first r n) ≡ 0
  unfolding free_from
  free_below r zero x h = refl
  free_below r (suc n) x h =
      let ih = free_below (r + 1) n x (omega arith) in
      elim (cases_Bool (bit bits r)) [ inl e ↦ rw e (omega (arith, one_other x (first + r) (omega arith))) | inr e ↦ rw e ih ]

  free_once : (r n x : ℕ) → count x (free_from bits first r n) ≤ 1
  unfolding free_from
  free_once r zero x = omega arith
  free_once r (suc n) x =
      let ih = free_once (r + 1) n x in
      elim (cases_Bool (bit bits r)) [
        | inl e ↦
            rw e (elim (one_cases x (first + r)) [
              | inl q ↦ omega (arith, free_below (r + 1) n x (omega arith))
              | inr q ↦ omega arith
            ])
        | inr e ↦ rw e ih
      ]

  free_is : (r n x : ℕ) → 0 < count x (free_from bits first r n) → (first + r ≤ x) × (x < first + r + n) × (bit bits (x - first) ≡ true)
  unfolding free_from
  free_is r zero x h = absurd (omega arith)
  free_is r (suc n) x h =
      elim (cases_Bool (bit bits r)) [
        | inl e ↦
            elim (one_cases x (first + r)) [
              | inl q ↦ let s : x - first ≡ r = omega arith in (omega arith, omega arith, rw s e)
              | inr q ↦
                  let h' : 0 < count x ((first + r) ∷ free_from bits first (r + 1) n) = rw e at h in
                  let ih = free_is (r + 1) n x (omega arith) in
                  (omega arith, omega arith, ih.2)
            ]
        | inr e ↦ let ih = free_is (r + 1) n x (rw e at h) in (omega arith, omega arith, ih.2)
      ]

pub lowest_once : (bits : List ℕ) (k n x : ℕ) → count x (lowest bits k n) ≤ 1
lowest_once bits k n x = omega (arith, count_take x n (free_from bits (first_of k) 0 3968), free_once bits (first_of k) 0 3968 x)

pub lowest_is : (bits : List ℕ) (k n x : ℕ) → 0 < count x (lowest bits k n) → (cover x ≡ k) × (bit bits (x - first_of k) ≡ true)
lowest_is bits k n x h =
    let f = free_is bits (first_of k) 0 3968 x (omega (arith, count_take x n (free_from bits (first_of k) 0 3968))) in
    (omega arith, f.2)

-- ---- marking addresses

module _ (k b : ℕ) (small : b < 2) where
  pub marks_fit : (as' bits : List ℕ) → ((x : ℕ) → 0 < count x as' → cover x ≡ k) → FittingBits bits → FittingBits (all_marked k b as' bits)
  marks_fit [] bits c f = f
  marks_fit (a ∷ as') bits c f =
      let here = c a (omega (arith, one_same a a refl)) in
      marks_fit as' (marked bits (a - first_of k) b) (λ x h. c x (omega arith))
      (a_changed_bit_changes_no_other bits (a - first_of k) b 0 f (omega arith) small).1

  -- the bit of an address is as it is marked, or as it was
  pub marks_show : (as' bits : List ℕ) → ((x : ℕ) → 0 < count x as' → cover x ≡ k) → FittingBits bits → (x : ℕ) → cover x ≡ k
      → bit (all_marked k b as' bits) (x - first_of k) ≡ cond (among x as') (eqb b 1) (bit bits (x - first_of k))
  marks_show [] bits c f x cx = refl
  marks_show (a ∷ as') bits c f x cx =
      let here = c a (omega (arith, one_same a a refl)) in
      let one_bit = a_changed_bit_changes_no_other bits (a - first_of k) b (x - first_of k) f (omega arith) small in
      marks_show as' (marked bits (a - first_of k) b) (λ y h. c y (omega arith)) one_bit.1 x cx
      ∙ elim (cases_eq a x) [
        | inl e ↦
            let s : x - first_of k ≡ a - first_of k = omega arith in
            let on : bit (marked bits (a - first_of k) b) (x - first_of k) ≡ eqb b 1 = one_bit.0 ∙ cond-true _ _ _ (eq-eqb _ _ s) in
            ap (λ (y : Bool). cond (among x as') (eqb b 1) y) on ∙ (same (among x as') (eqb b 1)
            ∙ sym (ap (λ (y : Bool). cond (y || among x as') (eqb b 1) (bit bits (x - first_of k))) (eq-eqb a x e)))
        | inr n ↦
            let off : bit (marked bits (a - first_of k) b) (x - first_of k) ≡ bit bits (x - first_of k) = one_bit.0 ∙ cond-false _ _ _ (ne_eqb (x - first_of k) (a - first_of k) (λ s. n (omega arith))) in
            ap (λ (y : Bool). cond (among x as') (eqb b 1) y) off
            ∙ sym (ap (λ (y : Bool). cond (y || among x as') (eqb b 1) (bit bits (x - first_of k))) (ne_eqb a x n))
      ]
    where
      same : (c t : Bool) → cond c t t ≡ t
      same true t = refl
      same false t = refl

-- ---- reads after a write

module _ {A : Type 0} where
  pub set_read : (l : List A) (i : ℕ) (a : A) (j : ℕ) (d b : A) → get_or (set l i a) j d ≡ b → ((j ≡ i) × (a ≡ b)) ⊎ ((get_or l j d ≡ b) × ((j ≡ i) → length l ≤ i))
  set_read [] i a j d b h = inr (h, λ e. omega arith)
  set_read (x ∷ l) zero a zero d b h = inl (refl, h)
  set_read (x ∷ l) zero a (suc j) d b h = inr (h, λ e. omega arith)
  set_read (x ∷ l) (suc i) a zero d b h = inr (h, λ e. omega arith)
  set_read (x ∷ l) (suc i) a (suc j) d b h =
      elim (set_read l i a j d b h) [ inl q ↦ inl (ap suc q.0, q.1) | inr q ↦ inr (q.0, λ e. omega (arith, q.1)) ]

  pub get_or_replicated : (n : ℕ) (a : A) (j : ℕ) → get_or (replicate n a) j a ≡ a
  get_or_replicated zero a j = refl
  get_or_replicated (suc n) a zero = refl
  get_or_replicated (suc n) a (suc j) = get_or_replicated n a j

  pub get_or_mapped : {B : Type 0} (f : A → B) (xs : List A) (i : ℕ) (d : A) → get_or (map f xs) i (f d) ≡ f (get_or xs i d)
  get_or_mapped f [] i d = refl
  get_or_mapped f (x ∷ xs) zero d = refl
  get_or_mapped f (x ∷ xs) (suc i) d = get_or_mapped f xs i d

  -- a write that changes nothing as f sees it
  pub map_set_same : {B : Type 0} (f : A → B) (l : List A) (i : ℕ) (a d : A) → f a ≡ f (get_or l i d) → map f (set l i a) ≡ map f l
  map_set_same {B} f [] i a d h = refl
  map_set_same {B} f (x ∷ l) zero a d h = ap {B = List B} (λ y. y ∷ map f l) h
  map_set_same {B} f (x ∷ l) (suc i) a d h = ap {B = List B} (λ ys. f x ∷ ys) (map_set_same f l i a d h)

  pub get_or_inside : (l : List A) (i : ℕ) (d : A) → (get_or l i d ≡ d → ⊥) → i < length l
  get_or_inside [] i d h = absurd (h refl)
  get_or_inside (x ∷ l) zero d h = omega arith
  get_or_inside (x ∷ l) (suc i) d h = omega (arith, get_or_inside l i d h)
