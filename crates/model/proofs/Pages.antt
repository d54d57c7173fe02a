-- The pages that entries name, against what a history placed there: what holds of them, and how writes, completions and
-- cuts keep it.
use Rattle.std.proofs.Common.{◌≡◌, ℕ, ◌<◌, true, false, ◌⊎◌, List, ◌∷◌, get_or, set, Some, None, Option, sym, refl, ap, ◌∙◌, subst, inl, inr, arith}
use Rattle.std.proofs.lemmas.Bool.{cases_eq}
use Rattle.drive.specs.Cuts.{Image}
use Rattle.drive.specs.Meaning.{readable, Write, Meaning, size, settled_at, shown, any_to, pending, posted, complete, WellFormed}
use Rattle.drive.proofs.MeaningLaws.{a_cut_keeps_what_has_nothing_outstanding}
use Rattle.record.specs.declared.entry.Entry.{Entry}
use Rattle.record.specs.Entries.{whole_entry}
use Rattle.record.specs.Laws.{FittingEntry}
use Rattle.model.specs.declared.memory.Slot.TheVariants.{Empty, Nulled}
use Rattle.model.specs.declared.memory.File.{File}
use Rattle.model.specs.Volume.{entry_at, entry_bytes}
use Rattle.model.specs.Outcomes.{Outcome}
use Rattle.model.specs.Shown.{whole_entry_in_state}
use Rattle.model.specs.Calls.{Call}
use Rattle.model.specs.Histories.{History, called, is_accepted, takes_entry, entry_of_file, gives_meter, meter_of_entry, Placed}
use Rattle.model.proofs.Possible.{Possible, possible_posted, possible_completed, shown_posted, shown_elsewhere, shown_completed, shown_possible, quiet_shown, quiet_possible, quiet_posted, quiet_completed, image_of_possible}
use Rattle.model.proofs.ReadBack.{entry_read_back, entry_readable, none_not}
use Rattle.model.proofs.Lists.{set_read, get_or_inside}
use Rattle.model.proofs.Ledger.{at_slot, Ledger}
use Rattle.model.proofs.Parts.{Shape, InRegion, OnDrive, Files, not_lost}

-- ---- what an entry may be

-- entry e may be y, should the power go
pub record MayBe (g : Shape) (d : Meaning) (e : ℕ) (y : Entry) : Type 0 where
  pub bytes : List ℕ
  pub possible : Possible d (entry_at e) bytes
  pub whole : whole_entry 0 g.id bytes ≡ Some y

pub may_less : (g : Shape) (d d' : Meaning) (e : ℕ) (y : Entry) → ((bs : List ℕ) → Possible d' (entry_at e) bs → Possible d (entry_at e) bs) → MayBe g d' e y → MayBe g d e y
may_less g d d' e y less m = record { bytes = m.bytes; possible = less m.bytes m.possible; whole = m.whole }

-- what an entry shows it may be
pub may_shown : (g : Shape) (d : Meaning) (e : ℕ) (y : Entry) → whole_entry_in_state g.id (shown d (entry_at e)) ≡ Some y → MayBe g d e y
may_shown g d e y h =
    let r = entry_readable g.id (shown d (entry_at e)) y h in
    record { bytes = r.0; possible = shown_possible d (entry_at e) r.0 r.1; whole = r.2 }

-- and with nothing outstanding it is nothing else
pub may_quiet : (g : Shape) (d : Meaning) (e : ℕ) (y : Entry) → pending d (entry_at e) ≡ false → MayBe g d e y → whole_entry_in_state g.id (shown d (entry_at e)) ≡ Some y
may_quiet g d e y q m = ap (whole_entry_in_state g.id) (quiet_possible d (entry_at e) m.bytes q m.possible) ∙ m.whole

may_elsewhere : (g : Shape) (d : Meaning) (a : ℕ) (bs : List ℕ) (e : ℕ) (y : Entry) → (entry_at e ≡ a → ⊥) → MayBe g (posted d a bs) e y → MayBe g d e y
may_elsewhere g d a bs e y far =
    may_less g d (posted d a bs) e y (λ cs ps. elim (possible_posted d a bs (entry_at e) cs ps) [ inl q ↦ q | inr q ↦ absurd (far (sym q.0)) ])

may_written : (g : Shape) (d : Meaning) (e₀ : ℕ) (x : Entry) (e : ℕ) (y : Entry) → FittingEntry x → MayBe g (posted d (entry_at e₀) (entry_bytes g.id x)) e y
    → MayBe g d e y ⊎ ((e₀ ≡ e) × (x ≡ y))
may_written g d e₀ x e y fit m =
    elim (possible_posted d (entry_at e₀) (entry_bytes g.id x) (entry_at e) m.bytes m.possible) [
      | inl q ↦ inl (record { bytes = m.bytes; possible = q; whole = m.whole })
      | inr q ↦
          let same : e₀ ≡ e = omega (arith, q.0) in
          inr (same, sym (entry_read_back g.id x y g.fits fit (subst (λ (cs : List ℕ). whole_entry 0 g.id cs ≡ Some y) (sym q.1) m.whole)))
    ]

-- ---- pages

-- the page at x is settled, and is what a place gave for slot p of entry e with this meter
pub record Page (d : Meaning) (h : History) (e meter p x : ℕ) : Type 0 where
  pub quiet : pending d x ≡ false
  pub bytes : List ℕ
  pub shows : shown d x ≡ readable bytes
  pub placed : Placed h e meter p bytes

-- each page that an entry may name; the meters that an entry may have are 0 and the one that `meters` says
pub record OnPages (g : Shape) (h : History) (meters : ℕ → ℕ) (d : Meaning) : Type 0 where
  pub pages : (e p x : ℕ) (y : Entry) → e < g.entries → MayBe g d e y → get_or y.slots p 0 ≡ x → 0 < x → Page d h e y.meter p x
  pub metered : (e : ℕ) (y : Entry) → e < g.entries → MayBe g d e y → (y.meter ≡ 0) ⊎ (meters e ≡ y.meter)
  pub unmetered : (e : ℕ) (y z : Entry) → e < g.entries → whole_entry_in_state g.id (shown d (entry_at e)) ≡ Some y → y.meter ≡ 0 → MayBe g d e z → z.meter ≡ 0

-- a used file's entry and meter are those that the history says, and its pages that no entry names yet show what was placed
pub record InFiles (h : History) (d : Meaning) (fs : List (Option File)) : Type 0 where
  pub nulled : (i : ℕ) (f : File) → get_or fs i None ≡ Some f → (p x : ℕ) → get_or f.slots p Empty ≡ Nulled x
      → (bs : List ℕ) × (shown d x ≡ readable bs) × Placed h f.entry f.meter p bs
  pub took : (i : ℕ) (f : File) → get_or fs i None ≡ Some f → (entry_of_file h i ≡ Some f.entry) × (meter_of_entry h f.entry ≡ f.meter) × (0 < f.meter)

pub pages_metered : (g : Shape) (h : History) (M M' : ℕ → ℕ) (d : Meaning) → ((e : ℕ) → M' e ≡ M e) → OnPages g h M d → OnPages g h M' d
pages_metered g h M M' d same P =
    record {
      pages = P.pages;
      metered = λ e y l m. elim (P.metered e y l m) [ inl z ↦ inl z | inr i ↦ inr (same e ∙ i) ];
      unmetered = P.unmetered;
    }

pub pages_later : (g : Shape) (h h' : History) (M : ℕ → ℕ) (d : Meaning) → ((e n p : ℕ) (bs : List ℕ) → Placed h e n p bs → Placed h' e n p bs) → OnPages g h M d → OnPages g h' M d
pages_later g h h' M d more P =
    record {
      pages = λ e p x y l m at pos.
          let q = P.pages e p x y l m at pos in
          record { quiet = q.quiet; bytes = q.bytes; shows = q.shows; placed = more e y.meter p q.bytes q.placed };
      metered = P.metered;
      unmetered = P.unmetered;
    }

-- a named page lies in the region
pub named_in : (g : Shape) (o : Ledger) (d : Meaning) → OnDrive g o d → (e p x : ℕ) (y : Entry) → e < g.entries → MayBe g d e y → get_or y.slots p 0 ≡ x → 0 < x → InRegion g x
named_in g o d D e p x y l m at pos = not_lost g o d x (at_slot e p) D (D.named e p x m.bytes y l m.possible m.whole at pos) refl

-- ---- a write is posted

page_posted : (d : Meaning) (h : History) (e n p x a : ℕ) (bs : List ℕ) → (x ≡ a → ⊥) → Page d h e n p x → Page (posted d a bs) h e n p x
page_posted d h e n p x a bs far q =
    record { quiet = quiet_posted d a bs x far q.quiet; bytes = q.bytes; shows = shown_elsewhere d a bs x far ∙ q.shows; placed = q.placed }

-- to no entry, and to no page that is named
pub pages_apart : (g : Shape) (h : History) (M : ℕ → ℕ) (d : Meaning) (a : ℕ) (bs : List ℕ) → ((e : ℕ) → e < g.entries → entry_at e ≡ a → ⊥)
    → ((e p x : ℕ) (y : Entry) → e < g.entries → MayBe g d e y → get_or y.slots p 0 ≡ x → 0 < x → x ≡ a → ⊥)
    → OnPages g h M d → OnPages g h M (posted d a bs)
pages_apart g h M d a bs far spare P =
    record {
      pages = λ e p x y l m at pos.
          let m' = may_elsewhere g d a bs e y (far e l) m in
          page_posted d h e y.meter p x a bs (spare e p x y l m' at pos) (P.pages e p x y l m' at pos);
      metered = λ e y l m. P.metered e y l (may_elsewhere g d a bs e y (far e l) m);
      unmetered = λ e y z l is zero_y m.
          P.unmetered e y z l (sym (ap (whole_entry_in_state g.id) (shown_elsewhere d a bs (entry_at e) (far e l))) ∙ is) zero_y (may_elsewhere g d a bs e z (far e l) m);
    }

-- to a label or a section
pub pages_low : (g : Shape) (h : History) (M : ℕ → ℕ) (o : Ledger) (d : Meaning) (a : ℕ) (bs : List ℕ) → a < 8 → OnDrive g o d → OnPages g h M d → OnPages g h M (posted d a bs)
pages_low g h M o d a bs low D P =
    pages_apart g h M d a bs (λ e l i. omega arith)
    (λ e p x y l m at pos i. let r = named_in g o d D e p x y l m at pos in omega arith) P

-- to an entry
module _ (g : Shape) (h : History) (M M' : ℕ → ℕ) (o : Ledger) (d : Meaning) (e₀ : ℕ) (x₀ : Entry) where
  pub pages_entry : OnDrive g o d → OnPages g h M d → e₀ < g.entries → FittingEntry x₀
      → ((p x : ℕ) → get_or x₀.slots p 0 ≡ x → 0 < x → Page d h e₀ x₀.meter p x × InRegion g x)
      → ((e : ℕ) → (e₀ ≡ e → ⊥) → M' e ≡ M e)
      → ((y : Entry) → MayBe g d e₀ y → (y.meter ≡ 0) ⊎ (M' e₀ ≡ y.meter))
      → ((x₀.meter ≡ 0) ⊎ (M' e₀ ≡ x₀.meter))
      → (x₀.meter ≡ 0 → (y : Entry) → MayBe g d e₀ y → y.meter ≡ 0)
      → OnPages g h M' (posted d (entry_at e₀) (entry_bytes g.id x₀))
  pages_entry D P low fit new others olds now none₀ =
      record { pages = pages'; metered = metered'; unmetered = unmetered' }
    where
      pages' : (e p x : ℕ) (y : Entry) → e < g.entries → MayBe g (posted d (entry_at e₀) (entry_bytes g.id x₀)) e y → get_or y.slots p 0 ≡ x → 0 < x
          → Page (posted d (entry_at e₀) (entry_bytes g.id x₀)) h e y.meter p x
      pages' e p x y l m at pos =
          elim (may_written g d e₀ x₀ e y fit m) [
            | inl q ↦
                let r = named_in g o d D e p x y l q at pos in
                page_posted d h e y.meter p x (entry_at e₀) _ (λ i. omega arith) (P.pages e p x y l q at pos)
            | inr q ↦
                let at' : get_or x₀.slots p 0 ≡ x = ap (λ (z : Entry). get_or z.slots p 0) q.1 ∙ at in
                let r = new p x at' pos in
                let here : Page d h e y.meter p x = subst (λ (z : Entry). Page d h e z.meter p x) q.1 (subst (λ (i : ℕ). Page d h i x₀.meter p x) q.0 r.0) in
                page_posted d h e y.meter p x (entry_at e₀) _ (λ i. let z = r.1 in omega arith) here
          ]

      metered' : (e : ℕ) (y : Entry) → e < g.entries → MayBe g (posted d (entry_at e₀) (entry_bytes g.id x₀)) e y → (y.meter ≡ 0) ⊎ (M' e ≡ y.meter)
      metered' e y l m =
          elim (may_written g d e₀ x₀ e y fit m) [
            | inl q ↦
                elim (cases_eq e₀ e) [
                  | inl i ↦ subst (λ (j : ℕ). (y.meter ≡ 0) ⊎ (M' j ≡ y.meter)) i (olds y (subst (λ (j : ℕ). MayBe g d j y) (sym i) q))
                  | inr i ↦ elim (P.metered e y l q) [ inl z ↦ inl z | inr j ↦ inr (others e i ∙ j) ]
                ]
            | inr q ↦
                subst (λ (z : Entry). (z.meter ≡ 0) ⊎ (M' e ≡ z.meter)) q.1 (subst (λ (j : ℕ). (x₀.meter ≡ 0) ⊎ (M' j ≡ x₀.meter)) q.0 now)
          ]

      unmetered' : (e : ℕ) (y z : Entry) → e < g.entries → whole_entry_in_state g.id (shown (posted d (entry_at e₀) (entry_bytes g.id x₀)) (entry_at e)) ≡ Some y
          → y.meter ≡ 0 → MayBe g (posted d (entry_at e₀) (entry_bytes g.id x₀)) e z → z.meter ≡ 0
      unmetered' e y z l is zero_y m =
          elim (cases_eq e₀ e) [
            | inl i ↦
                let shows : shown (posted d (entry_at e₀) (entry_bytes g.id x₀)) (entry_at e) ≡ readable (entry_bytes g.id x₀) =
                subst (λ (j : ℕ). shown (posted d (entry_at e₀) (entry_bytes g.id x₀)) (entry_at j) ≡ readable (entry_bytes g.id x₀)) i (shown_posted d (entry_at e₀) (entry_bytes g.id x₀)) in
                let read : y ≡ x₀ = entry_read_back g.id x₀ y g.fits fit (sym (ap (whole_entry_in_state g.id) shows) ∙ is) in
                let zero_x : x₀.meter ≡ 0 = sym (ap (λ (w : Entry). w.meter) read) ∙ zero_y in
                elim (may_written g d e₀ x₀ e z fit m) [
                  | inl q ↦ none₀ zero_x z (subst (λ (j : ℕ). MayBe g d j z) (sym i) q)
                  | inr q ↦ sym (ap (λ (w : Entry). w.meter) q.1) ∙ zero_x
                ]
            | inr i ↦
                let far : entry_at e ≡ entry_at e₀ → ⊥ = λ j. i (omega arith) in
                P.unmetered e y z l (sym (ap (whole_entry_in_state g.id) (shown_elsewhere d (entry_at e₀) _ (entry_at e) far)) ∙ is) zero_y
                (may_elsewhere g d (entry_at e₀) _ e z far m)
          ]

-- ---- writes complete

pub pages_completed : (g : Shape) (h : History) (M : ℕ → ℕ) (d : Meaning) (k : ℕ) → WellFormed d → OnPages g h M d → OnPages g h M (complete k d)
pages_completed g h M d k wf P =
    record {
      pages = λ e p x y l m at pos.
          let q = P.pages e p x y l (was e y m) at pos in
          record { quiet = quiet_completed d k x q.quiet; bytes = q.bytes; shows = shown_completed d k x wf ∙ q.shows; placed = q.placed };
      metered = λ e y l m. P.metered e y l (was e y m);
      unmetered = λ e y z l is zero_y m. P.unmetered e y z l (sym (ap (whole_entry_in_state g.id) (shown_completed d k (entry_at e) wf)) ∙ is) zero_y (was e z m);
    }
  where
    was : (e : ℕ) (y : Entry) → MayBe g (complete k d) e y → MayBe g d e y
    was e y = may_less g d (complete k d) e y (possible_completed d k (entry_at e))

-- ---- the power goes

module _ (g : Shape) (h : History) (M : ℕ → ℕ) (d n : Meaning) (sized : size d ≡ g.records) (im : Image d n) where
  pub image_quiet : (a : ℕ) → pending n a ≡ false
  image_quiet a = ap (λ (ws : List Write). any_to ws a) im.nothing_owed

  pub image_keeps : (a : ℕ) → a < g.records → pending d a ≡ false → settled_at n a ≡ shown d a
  image_keeps a l q = a_cut_keeps_what_has_nothing_outstanding d n a im (rw sized l) q ∙ sym (quiet_shown d a q)

  pub pages_cut : (o : Ledger) → OnDrive g o d → OnPages g h M d → OnPages g h M n
  pages_cut o D P =
      record {
        pages = λ e p x y l m at pos.
            let q = P.pages e p x y l (was e y m) at pos in
            let r = named_in g o d D e p x y l (was e y m) at pos in
            record { quiet = image_quiet x; bytes = q.bytes; shows = quiet_shown n x (image_quiet x) ∙ (image_keeps x r.1 q.quiet ∙ q.shows); placed = q.placed };
        metered = λ e y l m. P.metered e y l (was e y m);
        unmetered = λ e y z l is zero_y m.
            let both : Some y ≡ Some z = sym is ∙ may_quiet g n e z (image_quiet (entry_at e)) m in
            let same : y ≡ z = cc in
            sym (ap (λ (w : Entry). w.meter) same) ∙ zero_y;
      }
    where
      was : (e : ℕ) (y : Entry) → MayBe g n e y → MayBe g d e y
      was e y = may_less g d n e y (image_of_possible d n im (entry_at e))

-- ---- files, as a call adds to the history

pub file_called : (c : Call) (r : Outcome) (h : History) (i : ℕ) → is_accepted r ≡ true → entry_of_file (called c r ∷ h) i ≡ takes_entry c i (entry_of_file h i)
file_called c r h i acc = rw acc

pub meter_called : (c : Call) (r : Outcome) (h : History) (e : ℕ) → is_accepted r ≡ true → meter_of_entry (called c r ∷ h) e ≡ gives_meter c e (meter_of_entry h e)
meter_called c r h e acc = rw acc

module _ (g : Shape) (h h' : History) (o : Ledger) (d d' : Meaning) (fs : List (Option File)) (F : Files g o d fs) (P : InFiles h d fs)
    (more : (e n p : ℕ) (bs : List ℕ) → Placed h e n p bs → Placed h' e n p bs)
    (seen : (e p x : ℕ) → o x ≡ at_slot e p → shown d' x ≡ shown d x) where
  nulled_on : (i : ℕ) (f : File) → get_or fs i None ≡ Some f → (p x : ℕ) → get_or f.slots p Empty ≡ Nulled x
      → (bs : List ℕ) × (shown d' x ≡ readable bs) × Placed h' f.entry f.meter p bs
  nulled_on i f file p x at =
      let q = P.nulled i f file p x at in
      (q.0, seen f.entry p x ((F.each i f file).slots p x (rw at refl)) ∙ q.1, more f.entry f.meter p q.0 q.2)

  -- no file changes
  pub files_on : ((i : ℕ) → entry_of_file h' i ≡ entry_of_file h i) → ((e : ℕ) → meter_of_entry h' e ≡ meter_of_entry h e) → InFiles h' d' fs
  files_on same_entry same_meter =
      record {
        nulled = nulled_on;
        took = λ i f file.
            let q = P.took i f file in
            (same_entry i ∙ q.0, same_meter f.entry ∙ q.1, q.2);
      }

  -- one file is put in place
  pub files_in : (i : ℕ) (f : File) → ((j : ℕ) (f' : File) → get_or fs j None ≡ Some f' → f'.entry ≡ f.entry → j ≡ i)
      → ((j : ℕ) → (j ≡ i → ⊥) → entry_of_file h' j ≡ entry_of_file h j)
      → ((e : ℕ) → (e ≡ f.entry → ⊥) → meter_of_entry h' e ≡ meter_of_entry h e)
      → ((p x : ℕ) → get_or f.slots p Empty ≡ Nulled x → (bs : List ℕ) × (shown d' x ≡ readable bs) × Placed h' f.entry f.meter p bs)
      → (entry_of_file h' i ≡ Some f.entry) × (meter_of_entry h' f.entry ≡ f.meter) × (0 < f.meter)
      → InFiles h' d' (set fs i (Some f))
  files_in i f only same_entry same_meter new now =
      record { nulled = nulled'; took = took' }
    where
      cases : (j : ℕ) (f' : File) → get_or (set fs i (Some f)) j None ≡ Some f' → ((j ≡ i) × (f ≡ f')) ⊎ ((j ≡ i → ⊥) × (f'.entry ≡ f.entry → ⊥) × (get_or fs j None ≡ Some f'))
      cases j f' at =
          elim (set_read fs i (Some f) j None (Some f') at) [
            | inl q ↦
                let both = q.1 in
                let same : f ≡ f' = cc in
                inl (q.0, same)
            | inr q ↦
                let inside = get_or_inside fs j None (λ z. none_not f' (sym z ∙ q.0)) in
                let apart : j ≡ i → ⊥ = λ z. omega (arith, q.1 z) in
                inr (apart, (λ z. apart (only j f' q.0 z)), q.0)
          ]

      nulled' : (j : ℕ) (f' : File) → get_or (set fs i (Some f)) j None ≡ Some f' → (p x : ℕ) → get_or f'.slots p Empty ≡ Nulled x
          → (bs : List ℕ) × (shown d' x ≡ readable bs) × Placed h' f'.entry f'.meter p bs
      nulled' j f' file p x at =
          elim (cases j f' file) [
            | inl q ↦
                subst (λ (w : File). (bs : List ℕ) × (shown d' x ≡ readable bs) × Placed h' w.entry w.meter p bs) q.1
                (new p x (ap (λ (w : File). get_or w.slots p Empty) q.1 ∙ at))
            | inr q ↦ nulled_on j f' q.2 p x at
          ]

      took' : (j : ℕ) (f' : File) → get_or (set fs i (Some f)) j None ≡ Some f'
          → (entry_of_file h' j ≡ Some f'.entry) × (meter_of_entry h' f'.entry ≡ f'.meter) × (0 < f'.meter)
      took' j f' file =
          elim (cases j f' file) [
            | inl q ↦
                subst (λ (w : File). (entry_of_file h' j ≡ Some w.entry) × (meter_of_entry h' w.entry ≡ w.meter) × (0 < w.meter)) q.1
                (subst (λ (k : ℕ). (entry_of_file h' k ≡ Some f.entry) × (meter_of_entry h' f.entry ≡ f.meter) × (0 < f.meter)) (sym q.0) now)
            | inr q ↦
                let r = P.took j f' q.2 in
                (same_entry j q.0 ∙ r.0, same_meter f'.entry q.1 ∙ r.1, r.2)
          ]
