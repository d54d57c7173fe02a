-- What a tally says, one address after the other.
use Rattle.std.proofs.Common.{◌≡◌, ℕ, ◌+◌, ◌<◌, ◌≤◌, Bool, true, false, cond, not, ◌&&◌, ◌||◌, eqb, ltb, leb, ◌≢◌, List, [], ◌∷◌, ◌++◌, length, get_or, take, drop, set, replicate, sym, refl, ap, ◌∙◌, subst, inl, inr, arith}
use Rattle.std.proofs.lemmas.List.{append_assoc, at_drop_more, get_or_past, get_or-replicate, get_or-set_other, get_or-set_same, length-set, take_more, take_more_set}
use Rattle.std.proofs.lemmas.Bool.{and_parts, cases_Bool, cases_eq, cases_lt, eq-eqb, leb-true, ltb-true, ne_eqb, not-false, and_cases, both_ways}
use Rattle.record.specs.declared.region.Region.{Region}
use Rattle.record.specs.Regions.{within}
use Rattle.record.specs.Entries.{among}
use Rattle.model.specs.Mending.{mended_slots}
use Rattle.mending.specs.Tallies.{noted, Tallies, Adds}

-- ---- tests

pub or_assoc : (a b c : Bool) → ((a || b) || c) ≡ (a || (b || c))
or_assoc true b c = refl
or_assoc false b c = refl

pub or_comm : (a b : Bool) → (a || b) ≡ (b || a)
or_comm true true = refl
or_comm true false = refl
or_comm false true = refl
or_comm false false = refl

pub or_none : (a : Bool) → (a || false) ≡ a
or_none true = refl
or_none false = refl

-- ---- lists

pub among_joined : (a : ℕ) (xs ys : List ℕ) → among a (xs ++ ys) ≡ (among a xs || among a ys)
among_joined a [] ys = refl
among_joined a (x ∷ xs) ys = ap (λ b. eqb x a || b) (among_joined a xs ys) ∙ sym (or_assoc (eqb x a) (among a xs) (among a ys))

-- ---- one address

pub within_bounds : (g : Region) (a : ℕ) → within g a ≡ true → (g.from ≤ a) × (a < g.to)
within_bounds g a h =
    let k = and_parts (leb g.from a) (ltb a g.to) h in
    (leb-true g.from a k.0, ltb-true a g.to k.1)

noted_set : (t : List ℕ) (x a : ℕ) → x < length t → noted (set t x 1) a ≡ (eqb x a || noted t a)
noted_set t x a h =
    elim (cases_eq x a) [
      | inl e ↦
          let here : get_or (set t x 1) a 0 ≡ 1 = subst (λ (y : ℕ). get_or (set t x 1) y 0 ≡ 1) e (get_or-set_same t x 1 0 h) in
          rw (here, eq-eqb x a e) refl
      | inr ne ↦
          let other : a ≢ x = λ e. ne (sym e) in
          rw (get_or-set_other t x a 1 0 other, ne_eqb x a ne) refl
    ]

-- an address of the region that was not noted before is noted
abbrev pub Noting : Region → ℕ → List ℕ → Bool → List ℕ → Type 0
Noting g x t r t' = (r ≡ (within g x && not (noted t x))) × (t' ≡ cond r (set t x 1) t)

pub noting_adds : (g : Region) (x : ℕ) (t : List ℕ) (r : Bool) (t' : List ℕ) → g.to ≤ length t → Noting g x t r t'
    → (a : ℕ) → within g a ≡ true → noted t' a ≡ (eqb x a || noted t a)
noting_adds g x t true t' long n a h =
    let in_region = (and_parts (within g x) (not (noted t x)) (sym n.0)).0 in
    let low = (within_bounds g x in_region).1 in
    ap (λ (u : List ℕ). noted u a) n.1 ∙ noted_set t x a (omega arith)
noting_adds g x t false t' long n a h =
    ap (λ (u : List ℕ). noted u a) n.1
    ∙ elim (cases_eq x a) [
      | inl e ↦
          let in_region : within g x ≡ true = subst (λ (y : ℕ). within g y ≡ true) (sym e) h in
          let was : noted t x ≡ true = elim (and_cases (within g x) (not (noted t x)) (sym n.0)) [
            | inl no' ↦ absurd (both_ways (within g x) no' in_region)
            | inr no' ↦ not-false (noted t x) no'
          ] in
          rw (eq-eqb x a e) (subst (λ (y : ℕ). noted t y ≡ true) e was)
      | inr ne ↦ rw (ne_eqb x a ne) refl
    ]

-- ---- whole tallies

pub tallies_more : (g : Region) (xs t t' kept : List ℕ) → Adds g xs t t' → Tallies g t kept → Tallies g t' (xs ++ kept)
tallies_more g xs t t' kept A T a h = A a h ∙ (ap (λ b. among a xs || b) (T a h) ∙ sym (among_joined a xs kept))

-- ---- the addresses of a list, one after the other

-- ---- the slots of an entry, one after the other

-- the first p slots k of the mended form are found, and noted in t
pub record Mending (g : Region) (slots before t k : List ℕ) (p : ℕ) : Type 0 where
  pub form : (kept : List ℕ) → Tallies g before kept
      → (more : List ℕ) × Tallies g t more × (take p k ++ mended_slots g more (drop p slots) ≡ mended_slots g kept slots)
  pub tally : Adds g (take p k) before t
  pub rest : (j : ℕ) → p ≤ j → get_or k j 0 ≡ 0
  pub long : length k ≡ 64

pub mending_none : (g : Region) (slots t : List ℕ) → Mending g slots t t (replicate 64 0) 0
mending_none g slots t =
    record {
      form = λ kept T. (kept, T, refl);
      tally = λ a h. refl;
      rest = λ j h. elim (cases_lt j 64) [ inl low ↦ get_or-replicate {A = ℕ} 64 j 0 0 low | inr high ↦ get_or_past (replicate 64 0) j 0 high ];
      long = refl;
    }

-- whether a slot is kept, by the addresses that the tally speaks of
pub kept_when : (g : Region) (t kept : List ℕ) (x : ℕ) → Tallies g t kept → (within g x && not (noted t x)) ≡ (within g x && not (among x kept))
kept_when g t kept x T =
    elim (cases_Bool (within g x)) [
      | inl h ↦ ap (λ b. within g x && not b) (T x h)
      | inr h ↦ rw h refl
    ]

kept_step : (g : Region) (t kept : List ℕ) (x : ℕ) (xs : List ℕ) (r : Bool) → Tallies g t kept → r ≡ (within g x && not (noted t x))
    → mended_slots g kept (x ∷ xs) ≡ cond r (x ∷ mended_slots g (x ∷ kept) xs) (0 ∷ mended_slots g kept xs)
kept_step g t kept x xs r T e =
    ap (λ b. cond b (x ∷ mended_slots g (x ∷ kept) xs) (0 ∷ mended_slots g kept xs)) (sym (e ∙ kept_when g t kept x T))

-- a list that grows by v at the place p
grown : (k' k ys zs : List ℕ) (p v : ℕ) → take (p + 1) k' ≡ take p k ++ (v ∷ []) → take p k ++ (v ∷ ys) ≡ zs → take (p + 1) k' ++ ys ≡ zs
grown k' k ys zs p v e f = ap (λ u. u ++ ys) e ∙ (append_assoc (take p k) (v ∷ []) ys ∙ f)

among_pushed : (a : ℕ) (ys zs : List ℕ) (v : ℕ) → zs ≡ ys ++ (v ∷ []) → among a zs ≡ (eqb v a || among a ys)
among_pushed a ys zs v e =
    ap (among a) e ∙ (among_joined a ys (v ∷ []) ∙ (ap (λ b. among a ys || b) (or_none (eqb v a)) ∙ or_comm (among a ys) (eqb v a)))

-- the tally speaks of one slot more
adds_pushed : (g : Region) (before t t' ys zs : List ℕ) (v : ℕ) → zs ≡ ys ++ (v ∷ []) → Adds g ys before t
    → ((a : ℕ) → within g a ≡ true → noted t' a ≡ (eqb v a || noted t a)) → Adds g zs before t'
adds_pushed g before t t' ys zs v e A one a h =
    one a h
    ∙ (ap (λ b. eqb v a || b) (A a h)
    ∙ (sym (or_assoc (eqb v a) (among a ys) (noted before a)) ∙ ap (λ b. b || noted before a) (sym (among_pushed a ys zs v e))))

-- a slot is kept
pub mending_kept : (g : Region) (slots before t k : List ℕ) (p : ℕ) (t' k' : List ℕ) → p < length slots → p < length k → g.to ≤ length t
    → Noting g (get_or slots p 0) t true t' → k' ≡ set k p (get_or slots p 0) → Mending g slots before t k p → Mending g slots before t' k' (p + 1)
mending_kept g slots before t k p t' k' low low' long n is M =
    let x = get_or slots p 0 in
    let takes : take (p + 1) k' ≡ take p k ++ (x ∷ []) = ap (take (p + 1)) is ∙ take_more_set k p x low' in
    let one = noting_adds g x t true t' long n in
    record {
      form = λ kept T.
          let f = M.form kept T in
          let step = kept_step g t f.0 x (drop (p + 1) slots) true f.1 n.0 in (
            x ∷ f.0,
            (λ a h. one a h ∙ ap (λ b. eqb x a || b) (f.1 a h)),
            grown k' k (mended_slots g (x ∷ f.0) (drop (p + 1) slots)) (mended_slots g kept slots) p x takes
                (ap (λ u. take p k ++ u) (sym (at_drop_more (mended_slots g f.0) slots p 0 low ∙ step)) ∙ f.2),
          );
      tally = adds_pushed g before t t' (take p k) (take (p + 1) k') x takes M.tally one;
      rest = λ j h.
          let other : j ≢ p = omega arith in
          ap (λ u. get_or u j 0) is ∙ (get_or-set_other k p j x 0 other ∙ M.rest j (omega arith));
      long = ap length is ∙ (length-set k p x ∙ M.long);
    }

-- a slot is not kept
pub mending_passed : (g : Region) (slots before t k : List ℕ) (p : ℕ) (t' k' : List ℕ) → p < length slots → p < length k → 0 < g.from
    → Noting g (get_or slots p 0) t false t' → k' ≡ k → Mending g slots before t k p → Mending g slots before t' k' (p + 1)
mending_passed g slots before t k p t' k' low low' past n is M =
    let x = get_or slots p 0 in
    let takes : take (p + 1) k' ≡ take p k ++ (0 ∷ []) = ap (take (p + 1)) is ∙ (take_more k p 0 low' ∙ ap (λ v. take p k ++ (v ∷ [])) (M.rest p (omega arith))) in
    let one : (a : ℕ) → within g a ≡ true → noted t' a ≡ (eqb 0 a || noted t a) = λ a h.
    let high = (within_bounds g a h).0 in
    ap (λ (u : List ℕ). noted u a) n.1 ∙ ap (λ b. b || noted t a) (sym (ne_eqb 0 a (omega arith))) in
    record {
      form = λ kept T.
          let f = M.form kept T in
          let step = kept_step g t f.0 x (drop (p + 1) slots) false f.1 n.0 in (
            f.0,
            (λ a h. ap (λ (u : List ℕ). noted u a) n.1 ∙ f.1 a h),
            grown k' k (mended_slots g f.0 (drop (p + 1) slots)) (mended_slots g kept slots) p 0 takes
                (ap (λ u. take p k ++ u) (sym (at_drop_more (mended_slots g f.0) slots p 0 low ∙ step)) ∙ f.2),
          );
      tally = adds_pushed g before t t' (take p k) (take (p + 1) k') 0 takes M.tally one;
      rest = λ j h. ap (λ u. get_or u j 0) is ∙ M.rest j (omega arith);
      long = ap length is ∙ M.long;
    }
