-- Laws of the tables in memory: how many places are used, the lowest unused one, the sections' counts.
use Rattle.std.proofs.Common.{◌≡◌, ℕ, zero, suc, ◌+◌, ◌≤◌, cond, List, [], ◌∷◌, drop, set, Some, None, Option, slice_get, sym, refl, ap, ◌∙◌, arith, ◌<◌, length, get_or, Ok, inl, inr}
use Rattle.std.specs.List.{count_by, position, position_from}
use Rattle.std.specs.Option.{is_some, is_none}
use Rattle.std.specs.Prelude.{nat_lt}
use Rattle.std.proofs.lemmas.Iterator.Adapters.{position_from-zero}
use Rattle.std.proofs.lemmas.List.Sums.{sum_by-cons}
use Rattle.model.specs.Memory.{used, unused_from, Memory, with_tickets, with_service, is_address, ticket_holds}
use Rattle.model.specs.Outcomes.{keep, granted}
use Rattle.model.specs.Plans.{withdrawing, shortage}
use Rattle.model.specs.Stock.{counting_free}
use Rattle.std.proofs.lemmas.List.{get_or_past, get_or-set_same, get_or-set_other, set_past}
use Rattle.std.proofs.lemmas.Bool.{cases_lt, cases_eq, ne_eqb}
use Rattle.model.specs.declared.memory.File.{File}
use Rattle.model.specs.Carried.{asked}
use Rattle.memory.specs.Bounds.{number_in}

-- ---- used places

pub used_counts : {X : Type 0} (ts : List (Option X)) → used ts ≡ count_by is_some ts
used_counts [] = refl
used_counts (None ∷ ts) = let i = used_counts ts in let c = sum_by-cons (λ o. cond (is_some o) 1 0) None ts in omega arith
used_counts (Some x ∷ ts) = let i = used_counts ts in let c = sum_by-cons (λ o. cond (is_some o) 1 0) (Some x) ts in omega arith

pub used_one_more : (ts : List (Option ℕ)) (t : ℕ) (o : Option ℕ) → used (set ts t o) ≤ used ts + 1
used_one_more [] t o = omega arith
used_one_more (None ∷ ts) zero None = omega arith
used_one_more (None ∷ ts) zero (Some a) = omega arith
used_one_more (Some b ∷ ts) zero None = omega arith
used_one_more (Some b ∷ ts) zero (Some a) = omega arith
used_one_more (None ∷ ts) (suc t) o = used_one_more ts t o
used_one_more (Some b ∷ ts) (suc t) o = let i = used_one_more ts t o in omega arith

pub used_no_more : (ts : List (Option ℕ)) (t : ℕ) → used (set ts t None) ≤ used ts
used_no_more [] t = omega arith
used_no_more (None ∷ ts) zero = omega arith
used_no_more (Some b ∷ ts) zero = omega arith
used_no_more (None ∷ ts) (suc t) = used_no_more ts t
used_no_more (Some b ∷ ts) (suc t) = let i = used_no_more ts t in omega arith

-- ---- the lowest unused ticket

unused_from_place : (n : ℕ) (ts : List (Option ℕ)) → position_from is_none n ts ≡ unused_from n ts
unused_from_place n [] = refl
unused_from_place n (None ∷ ts) = refl
unused_from_place n (Some a ∷ ts) = unused_from_place (n + 1) ts

pub first_unused : (ts : List (Option ℕ)) → position is_none ts ≡ unused_from 0 ts
first_unused ts = position_from-zero is_none ts ∙ unused_from_place 0 ts

-- ---- the counts of the sections

counting_from_place : (k : ℕ) (ns : List ℕ) → position_from (λ n. nat_lt 0 n) k ns ≡ counting_free k ns
counting_from_place k [] = refl
counting_from_place k (n ∷ ns) = ap (cond (nat_lt 0 n) (Some k)) (counting_from_place (k + 1) ns)

pub first_counting : (ns : List ℕ) → position (λ n. nat_lt 0 n) ns ≡ counting_free 0 ns
first_counting ns = position_from-zero (λ n. nat_lt 0 n) ns ∙ counting_from_place 0 ns

-- ---- withdrawing

first_and_rest : (xs : List ℕ) (a : ℕ) → Some a ≡ slice_get xs 0 → xs ≡ a ∷ drop 1 xs
first_and_rest [] a e = cc
first_and_rest (x ∷ xs) a e = cc

no_first : (xs : List ℕ) → None ≡ slice_get xs 0 → xs ≡ []
no_first [] e = refl
no_first (x ∷ xs) e = cc

pub withdrawing_some : (v : Memory) (t a : ℕ) (rest : List ℕ) → Some a ≡ slice_get v.service 0 → rest ≡ drop 1 v.service
    → withdrawing v t v.service ≡ keep (granted t a) (with_tickets (with_service v rest) (set v.tickets t (Some a)))
withdrawing_some v t a rest first after = ap (withdrawing v t) (first_and_rest v.service a first ∙ ap (λ l. a ∷ l) (sym after))

pub withdrawing_none : (v : Memory) (t : ℕ) → None ≡ slice_get v.service 0 → withdrawing v t v.service ≡ keep (shortage v) v
withdrawing_none v t none = let e = no_first v.service none in ap (withdrawing v t) e

pub used_emptied : (ts : List (Option ℕ)) (t a : ℕ) → get_or ts t None ≡ Some a → used (set ts t None) + 1 ≡ used ts
used_emptied [] t a e = let z : ◌≡◌ {A = ℕ} 0 1 = cc in absurd (omega arith)
used_emptied (None ∷ ts) zero a e = let z : ◌≡◌ {A = ℕ} 0 1 = cc in absurd (omega arith)
used_emptied (Some b ∷ ts) zero a e = refl
used_emptied (None ∷ ts) (suc t) a e = used_emptied ts t a e
used_emptied (Some b ∷ ts) (suc t) a e = let i = used_emptied ts t a e in omega arith

pub unused_is : (n : ℕ) (ts : List (Option ℕ)) (k : ℕ) → Some k ≡ unused_from n ts → (j : ℕ) × (k ≡ n + j) × (j < length ts) × (get_or ts j None ≡ None)
unused_is n [] k e = let z : ◌≡◌ {A = ℕ} 0 1 = cc in absurd (omega arith)
unused_is n (None ∷ ts) k e = (0, (let z : k ≡ n = cc in omega arith), omega arith, refl)
unused_is n (Some a ∷ ts) k e = let r = unused_is (n + 1) ts k e in (suc r.0, omega arith, omega arith, r.3)

pub lowest_is : (ts : List (Option ℕ)) (k : ℕ) → Some k ≡ unused_from 0 ts → (k < length ts) × (get_or ts k None ≡ None)
lowest_is ts k e =
    let r = unused_is 0 ts k e in
    let z : k ≡ r.0 = omega arith in
    (omega arith, rw z r.3)

held_is : (o : Option ℕ) (a : ℕ) → Ok tt ≡ asked 11 (is_address o a) → o ≡ Some a
held_is None a e = let z : ◌≡◌ {A = ℕ} 0 1 = cc in absurd (omega arith)
held_is (Some b) a e =
    elim (cases_eq b a) [
      | inl h ↦ ap Some h
      | inr h ↦ let n = ap (asked 11) (ne_eqb b a h) in let z : ◌≡◌ {A = ℕ} 0 1 = cc in absurd (omega arith)
    ]

pub ticket_is : (v : Memory) (t a : ℕ) → Ok tt ≡ asked 11 (ticket_holds v t a) → get_or v.tickets t None ≡ Some a
ticket_is v t a e = held_is (get_or v.tickets t None) a e

pub place_within : {X : Type 0} (ts : List (Option X)) (t : ℕ) (a : X) → get_or ts t None ≡ Some a → t < length ts
place_within ts t a e =
    elim (cases_lt t (length ts)) [
      | inl h ↦ h
      | inr h ↦ let q = get_or_past ts t None h in let z : ◌≡◌ {A = ℕ} 0 1 = cc in absurd (omega arith)
    ]

pub numbered_set : (fs : List (Option File)) (i : ℕ) (f : Option File) → ((k : ℕ) → number_in (get_or fs k None) < 3968) → number_in f < 3968
    → (k : ℕ) → number_in (get_or (set fs i f) k None) < 3968
numbered_set fs i f all here k =
    elim (cases_eq k i) [
      | inl e ↦
          elim (cases_lt i (length fs)) [
            | inl h ↦ rw (e, get_or-set_same fs i f None h) here
            | inr h ↦ rw (set_past fs i f h) (all k)
          ]
      | inr ne ↦ rw (get_or-set_other fs i k f None ne) (all k)
    ]
