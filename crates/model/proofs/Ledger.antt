-- Who has an address: one owner for each, and what a change of owner leaves alone.
use Rattle.std.proofs.Common.{◌≡◌, ℕ, ◌+◌, ◌<◌, ◌≤◌, false, cond, eqb, List, [], ◌∷◌, ◌++◌, sym, refl, ap, ◌∙◌, inl, inr, arith}
use Rattle.std.proofs.lemmas.Bool.{cases_lt, eq-eqb}
use Rattle.record.specs.Entries.{among}
use Rattle.model.proofs.Possible.{clash}
use Rattle.model.proofs.Lists.{one_cases, one_same, count, count_among, count_append}

-- an address is free on the map, in service, on a ticket or at a slot of an entry, or it is lost until a salvage
pub data Owner : Type 0 where
  lost : Owner
  free : Owner
  in_service : Owner
  on_ticket : ℕ → Owner
  at_slot : ℕ → ℕ → Owner

abbrev pub kind : Owner → ℕ
kind lost = 0
kind free = 1
kind in_service = 2
kind (on_ticket t) = 3
kind (at_slot e p) = 4

abbrev pub Ledger : Type 0
Ledger = ℕ → Owner

-- owners of two kinds differ: `differ u w refl`
pub differ : (u w : Owner) → eqb (kind u) (kind w) ≡ false → u ≡ w → ⊥
differ u w h e = clash (eqb (kind u) (kind w)) (eq-eqb (kind u) (kind w) (ap kind e)) h

-- each address of xs goes to v
abbrev pub hand : List ℕ → Owner → Ledger → Ledger
hand xs v o x = cond (among x xs) v (o x)

abbrev pub From : Ledger → List ℕ → Owner → Type 0
From o xs u = (x : ℕ) → 0 < count x xs → o x ≡ u

pub from_one : (o : Ledger) (y : ℕ) (u : Owner) → o y ≡ u → From o (y ∷ []) u
from_one o y u h x c = elim (one_cases x y) [ inl q ↦ ap o q.0 ∙ h | inr q ↦ absurd (omega arith) ]

pub hand_in : (o : Ledger) (xs : List ℕ) (v : Owner) (x : ℕ) → 0 < count x xs → hand xs v o x ≡ v
hand_in o xs v x h = elim (count_among x xs) [ inl q ↦ rw q.0 | inr q ↦ absurd (omega arith) ]

pub hand_one : (o : Ledger) (v : Owner) (x : ℕ) → hand (x ∷ []) v o x ≡ v
hand_one o v x = hand_in o (x ∷ []) v x (omega (arith, one_same x x refl))

pub hand_out : (o : Ledger) (xs : List ℕ) (v : Owner) (x : ℕ) → count x xs ≡ 0 → hand xs v o x ≡ o x
hand_out o xs v x h = elim (count_among x xs) [ inl q ↦ absurd (omega arith) | inr q ↦ rw q.0 ]

pub hand_kept : (o : Ledger) (xs : List ℕ) (u v w : Owner) (x : ℕ) → From o xs u → (u ≡ w → ⊥) → o x ≡ w → hand xs v o x ≡ w
hand_kept o xs u v w x fr n h =
    elim (cases_lt 0 (count x xs)) [ inl c ↦ absurd (n (sym (fr x c) ∙ h)) | inr c ↦ hand_out o xs v x (omega arith) ∙ h ]

-- w has each address of xs, and each stands there once
pub record Holds (o : Ledger) (xs : List ℕ) (w : Owner) : Type 0 where
  pub mine : From o xs w
  pub once : (x : ℕ) → count x xs ≤ 1

pub holds_none : (o : Ledger) (w : Owner) → Holds o [] w
holds_none o w = record { mine = λ x h. absurd (omega arith); once = λ x. omega arith }

pub holds_kept : (o : Ledger) (ys : List ℕ) (u v : Owner) (xs : List ℕ) (w : Owner) → From o ys u → (u ≡ w → ⊥) → Holds o xs w → Holds (hand ys v o) xs w
holds_kept o ys u v xs w fr n h = record { mine = λ x c. hand_kept o ys u v w x fr n (h.mine x c); once = h.once }

-- some go, the others stay
pub holds_split : (o : Ledger) (xs ys zs : List ℕ) (v w : Owner) → ((x : ℕ) → count x xs ≡ count x ys + count x zs) → Holds o xs w → Holds (hand ys v o) zs w
holds_split o xs ys zs v w eq h =
    record {
      mine = λ x c. hand_out o ys v x (omega (arith, eq x, h.once x)) ∙ h.mine x (omega (arith, eq x));
      once = λ x. omega (arith, eq x, h.once x);
    }

pub holds_part : (o : Ledger) (xs ys zs : List ℕ) (w : Owner) → ((x : ℕ) → count x xs ≡ count x ys + count x zs) → Holds o xs w → From o ys w
holds_part o xs ys zs w eq h x c = h.mine x (omega (arith, eq x))

-- some come to those that are there
pub holds_join : (o : Ledger) (xs ys : List ℕ) (u w : Owner) → Holds o xs w → Holds o ys u → (u ≡ w → ⊥) → Holds (hand ys w o) (xs ++ ys) w
holds_join o xs ys u w h k n =
    record {
      mine = λ x c.
          elim (cases_lt 0 (count x ys)) [
            | inl l ↦ hand_in o ys w x l
            | inr l ↦ hand_out o ys w x (omega arith) ∙ h.mine x (omega (arith, count_append x xs ys))
          ];
      once = λ x.
          elim (cases_lt 0 (count x ys)) [
            | inl l ↦
                elim (cases_lt 0 (count x xs)) [
                  | inl r ↦ absurd (n (sym (k.mine x l) ∙ h.mine x r))
                  | inr r ↦ omega (arith, count_append x xs ys, k.once x)
                ]
            | inr l ↦ omega (arith, count_append x xs ys, h.once x)
          ];
    }

pub holds_one : (o : Ledger) (y : ℕ) (u : Owner) → o y ≡ u → Holds o (y ∷ []) u
holds_one o y u h =
    record { mine = from_one o y u h; once = λ x. elim (one_cases x y) [ inl q ↦ omega arith | inr q ↦ omega arith ] }
