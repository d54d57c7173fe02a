-- What salvage does next on a volume that is shut, whose control records have their form.
use Rattle.std.proofs.Common.{◌≡◌, ℕ, zero, suc, ◌+◌, ◌<◌, ◌≤◌, Bool, true, false, cond, not, eqb, ltb, leb, ◌⊎◌, List, [], ◌∷◌, ◌++◌, length, get_or, replicate, Some, None, Option, sym, refl, ap, ◌∙◌, subst, inl, inr, arith}
use Rattle.std.proofs.lemmas.List.{same_lists, get_or_default, get_or-replicate}
use Rattle.std.proofs.lemmas.Bool.{cases_eq, cases_Bool, eqb-true, eq-eqb, ne_eqb, and_from, and_left, or_cases, or_left, or_right, not_from_false, lt-leb, cond-true, cond-false, true≢false}
use Rattle.drive.specs.Meaning.{State, readable, spoiled}
use Rattle.record.specs.declared.entry.Entry.{Entry}
use Rattle.record.specs.Words.{same}
use Rattle.record.specs.Regions.{within}
use Rattle.record.specs.Entries.{free_entry, among, addresses_sound, whole_entry}
use Rattle.record.specs.Laws.{FittingEntry}
use Rattle.record.proofs.AddressLaws.{sound_addresses_name_each_page_once}
use Rattle.record.proofs.EntryLaws.{a_written_entry_is_read_back}
use Rattle.record.proofs.LabelLaws.{same_decides}
use Rattle.model.specs.Volume.{entry_at, section_at, entry_bytes}
use Rattle.model.specs.Shown.{whole_entry_in_state}
use Rattle.model.specs.Mending.{Unmended, mended_slots, mended, shows, States, first_unmended, mended_section, first_inexact}
use Rattle.model.proofs.ReadBack.{entry_is_record}
use Rattle.model.proofs.Ledger.{at_slot, Ledger}
use Rattle.model.proofs.Parts.{Shape, InRegion, region_within}
use Rattle.model.proofs.SalvageCalls.{region_of}
use Rattle.model.proofs.ControlForms.{AnEntry}

-- ---- tests that fail

-- how many of n tests from a on fail
abbrev pub misses : (ℕ → Bool) → ℕ → ℕ → ℕ
misses t a zero = 0
misses t a (suc n) = cond (t a) 0 1 + misses t (a + 1) n

pub misses_bound : (t : ℕ → Bool) (a n : ℕ) → misses t a n ≤ n
misses_bound t a zero = omega arith
misses_bound t a (suc n) =
    let ih = misses_bound t (a + 1) n in
    elim (cases_Bool (t a)) [ inl e ↦ rw e (omega arith) | inr e ↦ rw e (omega arith) ]

pub misses_none : (t : ℕ → Bool) (a n k : ℕ) → misses t a n ≡ 0 → a ≤ k → k < a + n → t k ≡ true
misses_none t a zero k h l u = absurd (omega arith)
misses_none t a (suc n) k h l u =
    elim (cases_Bool (t a)) [
      | inl e ↦
          let h' : 0 + misses t (a + 1) n ≡ 0 = subst (λ (b : Bool). cond b 0 1 + misses t (a + 1) n ≡ 0) e h in
          elim (cases_eq a k) [ inl i ↦ subst (λ (y : ℕ). t y ≡ true) i e | inr i ↦ misses_none t (a + 1) n k (omega arith) (omega arith) (omega arith) ]
      | inr e ↦ let h' : 1 + misses t (a + 1) n ≡ 0 = subst (λ (b : Bool). cond b 0 1 + misses t (a + 1) n ≡ 0) e h in absurd (omega arith)
    ]

one_miss : (a b : Bool) → (a ≡ true → b ≡ true) → cond b 0 1 ≤ cond a 0 1
one_miss true b h = rw (h refl) (omega arith)
one_miss false true h = omega arith
one_miss false false h = omega arith

pub misses_least : (t t' : ℕ → Bool) → ((k : ℕ) → t k ≡ true → t' k ≡ true) → (a n : ℕ) → misses t' a n ≤ misses t a n
misses_least t t' up a zero = omega arith
misses_least t t' up a (suc n) = omega (arith, misses_least t t' up (a + 1) n, one_miss (t a) (t' a) (up a))

-- one test more passes
pub misses_less : (t t' : ℕ → Bool) → ((k : ℕ) → t k ≡ true → t' k ≡ true) → (j : ℕ) → t j ≡ false → t' j ≡ true → (a n : ℕ) → a ≤ j → j < a + n
    → suc (misses t' a n) ≤ misses t a n
misses_less t t' up j f f' a zero l u = absurd (omega arith)
misses_less t t' up j f f' a (suc n) l u =
    elim (cases_eq a j) [
      | inl i ↦
          let z : ◌≡◌ {A = ℕ} (cond (t a) 0 1) 1 = ap (λ (b : Bool). cond b 0 1) (ap t i ∙ f) in
          let z' : ◌≡◌ {A = ℕ} (cond (t' a) 0 1) 0 = ap (λ (b : Bool). cond b 0 1) (ap t' i ∙ f') in
          omega (arith, misses_least t t' up (a + 1) n, z, z')
      | inr i ↦ omega (arith, misses_less t t' up j f f' (a + 1) n (omega arith) (omega arith), one_miss (t a) (t' a) (up a))
    ]

-- ---- a readable entry is its own mended form

-- the addresses kept so far belong to lower entries, or lower slots
abbrev pub Tally : Ledger → List ℕ → ℕ → ℕ → Type 0
Tally o t e q = (x : ℕ) → among x t ≡ true → 0 < x → (e' : ℕ) × (p' : ℕ) × (o x ≡ at_slot e' p') × ((e' < e) ⊎ ((e' ≡ e) × (p' < q)))

-- the addresses of the slots from q on belong to them
abbrev pub Claims : Shape → Ledger → ℕ → ℕ → List ℕ → Type 0
Claims g o e q xs = (p x : ℕ) → get_or xs p 0 ≡ x → 0 < x → (o x ≡ at_slot e (q + p)) × InRegion g x

not_before : (o : Ledger) (t : List ℕ) (e q x : ℕ) → Tally o t e q → o x ≡ at_slot e q → 0 < x → among x t ≡ false
not_before o t e q x T own pos =
    elim (cases_Bool (among x t)) [
      | inl h ↦
          let k = T x h pos in
          let both : at_slot k.0 k.1 ≡ at_slot e q = sym k.2 ∙ own in
          let ee : k.0 ≡ e = cc in
          let pp : k.1 ≡ q = cc in
          absurd (elim k.3 [ inl l ↦ omega arith | inr l ↦ omega arith ])
      | inr h ↦ h
    ]

slots_same : (g : Shape) (o : Ledger) (e q : ℕ) (t xs : List ℕ) → Tally o t e q → Claims g o e q xs → mended_slots (region_of g) t xs ≡ xs
slots_same g o e q t [] T C = refl
slots_same g o e q t (x ∷ xs) T C =
    let r = region_of g in
    let C' : Claims g o e (suc q) xs = λ p y at pos.
    let k = C (suc p) y at pos in
    let z : q + suc p ≡ suc q + p = omega arith in
    (subst (λ (v : ℕ). o y ≡ at_slot e v) z k.0, k.1) in
    elim (cases_eq x 0) [
      | inl i ↦
          let out : within r x ≡ false = and_left (leb (8 + g.entries) x) (ltb x g.records) (lt-leb (8 + g.entries) x (omega arith)) in
          let T' : Tally o t e (suc q) = λ y m pos.
          let k = T y m pos in
          (k.0, k.1, k.2, elim k.3 [ inl l ↦ inl l | inr l ↦ inr (l.0, omega arith) ]) in
          ap (λ (b : Bool). cond b (x ∷ mended_slots r (x ∷ t) xs) (0 ∷ mended_slots r t xs)) (and_left (within r x) (not (among x t)) out)
          ∙ (ap {B = List ℕ} (λ y. y ∷ mended_slots r t xs) (sym i) ∙ ap {B = List ℕ} (λ ys. x ∷ ys) (slots_same g o e (suc q) t xs T' C'))
      | inr i ↦
          let pos : 0 < x = omega arith in
          let k = C 0 x refl pos in
          let z : q + 0 ≡ q = omega arith in
          let own : o x ≡ at_slot e q = subst (λ (v : ℕ). o x ≡ at_slot e v) z k.0 in
          let new = not_before o t e q x T own pos in
          let T' : Tally o (x ∷ t) e (suc q) = λ y m pos'.
          elim (or_cases (eqb x y) (among y t) m) [
            | inl h ↦ (e, q, ap o (sym (eqb-true x y h)) ∙ own, inr (refl, omega arith))
            | inr h ↦
                let k = T y h pos' in
                (k.0, k.1, k.2, elim k.3 [ inl l ↦ inl l | inr l ↦ inr (l.0, omega arith) ])
          ] in
          ap (λ (b : Bool). cond b (x ∷ mended_slots r (x ∷ t) xs) (0 ∷ mended_slots r t xs))
          (and_from (within r x) (not (among x t)) (region_within g x k.1) (not_from_false (among x t) new))
          ∙ ap {B = List ℕ} (λ ys. x ∷ ys) (slots_same g o e (suc q) (x ∷ t) xs T' C')
    ]

-- a sound entry without a meter is the free entry
without_meter : (g : Shape) (x : Entry) → FittingEntry x → addresses_sound (region_of g) x ≡ true → x.meter ≡ 0 → x.slots ≡ replicate 64 0
without_meter g x fits sound z =
    let N = (sound_addresses_name_each_page_once (region_of g) x).0 sound in
    same_lists x.slots (replicate 64 0) fits.all
    (λ p d l.
    let low : p < 64 = omega (arith, fits.all) in
    get_or_default x.slots p d 0 l ∙ (N.free z p l ∙ sym (get_or-replicate {A = ℕ} 64 p 0 d low)))

entry_same : (g : Shape) (o : Ledger) (e : ℕ) (t : List ℕ) (x : Entry) → Tally o t e 0 → Claims g o e 0 x.slots → FittingEntry x → addresses_sound (region_of g) x ≡ true
    → mended (region_of g) t (Some x) ≡ x
entry_same g o e t x T C fits sound =
    let other : Entry = record { meter = x.meter; slots = mended_slots (region_of g) t x.slots } in
    elim (cases_eq x.meter 0) [
      | inl z ↦
          let bare = without_meter g x fits sound z in
          cond-true (eqb x.meter 0) free_entry other (eq-eqb x.meter 0 z) ∙ (λ i. record { meter = sym z i; slots = sym bare i })
      | inr z ↦
          cond-false (eqb x.meter 0) free_entry other (ne_eqb x.meter 0 z) ∙ (λ i. record { meter = x.meter; slots = slots_same g o e 0 t x.slots T C i })
    ]

-- ---- the first entry that salvage mends

pub among_at : (xs : List ℕ) (x : ℕ) → among x xs ≡ true → (p : ℕ) × (get_or xs p 0 ≡ x)
among_at [] x h = absurd (true≢false (sym h))
among_at (y ∷ xs) x h =
    let ih = among_at xs x in
    elim (or_cases (eqb y x) (among x xs) h) [
      | inl i ↦ (0, eqb-true y x i)
      | inr i ↦
          let k = ih i in
          (suc k.0, k.1)
    ]

pub among_append : (xs ys : List ℕ) (x : ℕ) → among x (xs ++ ys) ≡ true → (among x xs ≡ true) ⊎ (among x ys ≡ true)
among_append [] ys x h = inr h
among_append (z ∷ xs) ys x h =
    let ih = among_append xs ys x in
    elim (or_cases (eqb z x) (among x (xs ++ ys)) h) [
      | inl i ↦ inl (or_left (eqb z x) (among x xs) i)
      | inr i ↦ elim (ih i) [ inl j ↦ inl (or_right (eqb z x) (among x xs) j) | inr j ↦ inr j ]
    ]

abbrev pub is_readable : State → Bool
is_readable (readable bs) = true
is_readable spoiled = false

-- entry e can be read
abbrev pub fine : States → ℕ → Bool
fine s e = is_readable (s (entry_at e))

same_none : (ys : List ℕ) → length ys ≡ 512 → same [] ys ≡ false
same_none [] h = absurd (omega arith)
same_none (y ∷ ys) h = refl

module _ (g : Shape) (o : Ledger) (s : States)
    (N : (e : ℕ) (x : Entry) → e < g.entries → s (entry_at e) ≡ readable (entry_bytes g.id x) → FittingEntry x → Claims g o e 0 x.slots)
    (W : (e : ℕ) (bs : List ℕ) → e < g.entries → s (entry_at e) ≡ readable bs → AnEntry g bs) where
  abbrev from : List ℕ → ℕ → ℕ → Option Unmended
  from t e n = first_unmended g.id (region_of g) s t e n

  abbrev step_of : List ℕ → ℕ → ℕ → State → Entry → Option Unmended
  step_of t e n c x = cond (shows c (entry_bytes g.id x)) (from (x.slots ++ t) (e + 1) n) (Some (record { number = e; form = x }))

  abbrev step : List ℕ → ℕ → ℕ → State → Option Unmended
  step t e n c = step_of t e n c (mended (region_of g) t (whole_entry_in_state g.id c))

  -- none is to be mended, or the lowest that cannot be read is mended to a free entry
  abbrev Finds : List ℕ → ℕ → ℕ → Type 0
  Finds t e n =
      ((from t e n ≡ None) × (misses (fine s) e n ≡ 0))
      ⊎ ((e' : ℕ) × (e ≤ e') × (e' < e + n) × (fine s e' ≡ false) × (from t e n ≡ Some (record { number = e'; form = free_entry })))

  more_tally : (t : List ℕ) (e : ℕ) (x : Entry) → Claims g o e 0 x.slots → Tally o t e 0 → Tally o (x.slots ++ t) (e + 1) 0
  more_tally t e x C T y h pos =
      elim (among_append x.slots t y h) [
        | inl i ↦
            let k = among_at x.slots y i in
            (e, 0 + k.0, (C k.0 y k.1 pos).0, inl (omega arith))
        | inr i ↦
            let k = T y i pos in
            (k.0, k.1, k.2, inl (elim k.3 [ inl j ↦ omega arith | inr j ↦ absurd (omega arith) ]))
      ]

  pub unmended_cases : (t : List ℕ) (e n : ℕ) → e + n ≤ g.entries → Tally o t e 0 → Finds t e n
  unmended_cases t e zero low T = inl (refl, refl)
  unmended_cases t e (suc n) low T =
      let ih : (t : List ℕ) → Tally o t (e + 1) 0 → Finds t (e + 1) n = λ t T. unmended_cases t (e + 1) n (omega arith) T in
      go ih (s (entry_at e)) refl
    where
      go : ((t : List ℕ) → Tally o t (e + 1) 0 → Finds t (e + 1) n) → (c : State) → s (entry_at e) ≡ c → Finds t e (suc n)
      go ih spoiled is =
          let no' : shows spoiled (entry_bytes g.id free_entry) ≡ false = same_none (entry_bytes g.id free_entry) (entry_is_record g.id free_entry refl).0 in
          inr (e, omega arith, omega arith, ap is_readable is, ap (step t e n) is ∙ cond-false (shows spoiled (entry_bytes g.id free_entry)) _ _ no')
      go ih (readable bs) is =
          let A = W e bs (omega arith) is in
          let x = A.value in
          let C = N e x (omega arith) (is ∙ ap readable A.is) A.fits in
          let whole_is : whole_entry 0 g.id bs ≡ Some x =
          ap (whole_entry 0 g.id) A.is ∙ (a_written_entry_is_read_back 0 g.id (region_of g) x (omega arith) g.fits A.fits).0 in
          let form : mended (region_of g) t (whole_entry 0 g.id bs) ≡ x = ap (mended (region_of g) t) whole_is ∙ entry_same g o e t x T C A.fits A.sound in
          let eq : from t e (suc n) ≡ from (x.slots ++ t) (e + 1) n =
          ap (step t e n) is ∙ (ap (step_of t e n (readable bs)) form
          ∙ cond-true (same bs (entry_bytes g.id x)) _ _ ((same_decides bs (entry_bytes g.id x)).1 A.is)) in
          let here : fine s e ≡ true = ap is_readable is in
          elim (ih (x.slots ++ t) (more_tally t e x C T)) [
            | inl k ↦ inl (eq ∙ k.0, ap (λ (b : Bool). cond b 0 1 + misses (fine s) (e + 1) n) here ∙ (let z = k.1 in omega arith))
            | inr k ↦ inr (k.0, (let z = k.1 in omega arith), (let z = k.2 in omega arith), k.3, eq ∙ k.4)
          ]

-- ---- the first section that salvage writes

-- section k shows just what the entries leave free
abbrev pub exact : Shape → States → ℕ → Bool
exact g s k = shows (s (section_at k)) (mended_section g.id g.entries g.records s k)

abbrev inexact_from : Shape → States → ℕ → ℕ → Option ℕ
inexact_from g s k n = first_inexact g.id g.entries g.records s k n

pub inexact_cases : (g : Shape) (s : States) (k n : ℕ)
    → ((inexact_from g s k n ≡ None) × (misses (exact g s) k n ≡ 0))
    ⊎ ((j : ℕ) × (k ≤ j) × (j < k + n) × (exact g s j ≡ false) × (inexact_from g s k n ≡ Some j))
inexact_cases g s k zero = inl (refl, refl)
inexact_cases g s k (suc n) =
    let ih = inexact_cases g s (k + 1) n in
    elim (cases_Bool (exact g s k)) [
      | inl e ↦
          let eq : inexact_from g s k (suc n) ≡ inexact_from g s (k + 1) n = cond-true (exact g s k) _ _ e in
          elim ih [
            | inl q ↦ inl (eq ∙ q.0, ap (λ (b : Bool). cond b 0 1 + misses (exact g s) (k + 1) n) e ∙ (let z = q.1 in omega arith))
            | inr q ↦ inr (q.0, (let z = q.1 in omega arith), (let z = q.2 in omega arith), q.3, eq ∙ q.4)
          ]
      | inr e ↦ inr (k, omega arith, omega arith, e, cond-false (exact g s k) _ _ e)
    ]
