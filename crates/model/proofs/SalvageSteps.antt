-- The next call of salvage is accepted, and what it writes.
use Rattle.std.proofs.Common.{◌≡◌, ℕ, ◌+◌, ◌<◌, ◌≤◌, Bool, true, false, eqb, ltb, List, [], length, Some, Ok, Option, sym, refl, ap, ◌∙◌, subst, inl, inr, arith}
use Rattle.std.proofs.lemmas.Bool.{cases_Bool, eq-eqb, lt-ltb, cond-true, cond-false, true≢false}
use Rattle.drive.specs.Answers.{Answer, post_answer, and_then, address_answer, room_answer}
use Rattle.drive.specs.Faults.{refusal, no_record}
use Rattle.drive.specs.Meaning.{State, readable, spoiled, Write, Meaning, size, owed, shown}
use Rattle.record.specs.declared.label.Label.{Label}
use Rattle.record.specs.declared.label.LabelState.TheVariants.{Closed, InUse, Salvage}
use Rattle.record.specs.declared.entry.Entry.{Entry}
use Rattle.record.specs.Regions.{in_limits, page_region}
use Rattle.record.specs.Labels.{believed_label}
use Rattle.record.specs.Entries.{free_entry}
use Rattle.record.specs.Laws.{FittingEntry}
use Rattle.record.proofs.BitLaws.{bits_of_fit}
use Rattle.record.proofs.EntryLaws.{a_written_entry_is_read_back}
use Rattle.record.proofs.LabelLaws.{a_written_label_is_believed}
use Rattle.model.specs.declared.memory.Phase.TheVariants.{Shut}
use Rattle.model.specs.Volume.{entry_at, section_at, label_at, copy_at, label_bytes, entry_bytes}
use Rattle.model.specs.Memory.{Memory}
use Rattle.model.specs.Outcomes.{Reply, section, entry, begun, ended, Outcome, refuse, accept, ask, need, if_accepted, Rules, post}
use Rattle.model.specs.Shown.{with_state, counted_in_use, or_else, label_in_state, label_shown}
use Rattle.model.specs.Plans.{is_shut, label_write}
use Rattle.model.specs.Mending.{States, first_unmended, mended_section, first_inexact, is_salvage, end_or_section, map_or_entry, salvaging, salvage_plan}
use Rattle.model.specs.Calls.{salvage, plan}
use Rattle.model.proofs.Possible.{shown_possible, quiet_shown}
use Rattle.model.proofs.ReadBack.{entry_is_record, section_is_record, label_is_record}
use Rattle.model.proofs.Ledger.{at_slot, Ledger}
use Rattle.model.proofs.Parts.{Shape, OnDrive, not_lost}
use Rattle.model.proofs.SalvageCalls.{region_of}
use Rattle.model.proofs.ControlForms.{AnEntry, OwnLabel, ALabel, Formed, own_label}
use Rattle.model.proofs.MendingLaws.{misses, fine, exact, Claims, unmended_cases, inexact_cases}

-- ---- questions that pass

pub ask_yes : (n : ℕ) (b : Bool) (q : Outcome) → b ≡ true → ask n b q ≡ q
unfolding ask
ask_yes n true q h = refl
ask_yes n false q h = absurd (true≢false (sym h))

pub ask_no : (n : ℕ) (b : Bool) (q : Outcome) → b ≡ false → ask n b q ≡ refuse (refusal n no_record)
unfolding ask
ask_no n true q h = absurd (true≢false h)
ask_no n false q h = refl

pub need_some : {X : Type 0} (n : ℕ) (x : Option X) (y : X) (k : X → Outcome) → x ≡ Some y → need n x k ≡ k y
unfolding need
need_some {X} n x y k h = ap (λ (z : Option X). need n z k) h

-- with nothing outstanding and life left, a write is accepted
pub post_yes : (r : Rules) (d : Meaning) (a : Reply) (v : Memory) (w : Write) → length w.bytes ≡ 512 → w.at < size d → 1 ≤ r.depth → d.outstanding ≡ [] → d.wear < r.life
    → post r d a v w ≡ accept a v (Some w)
unfolding if_accepted
post_yes r d a v w full low deep still alive =
    let owing : owed d ≡ 0 = ap (λ (ws : List Write). length ws) still in
    let address : address_answer (length w.bytes) w.at (size d) ≡ Ok tt =
    cond-true (eqb (length w.bytes) 512) _ _ (eq-eqb (length w.bytes) 512 full) ∙ cond-true (ltb w.at (size d)) _ _ (lt-ltb w.at (size d) low) in
    let room : room_answer r.depth r.life (owed d) d.wear w.at ≡ Ok tt =
    cond-true (ltb (owed d) r.depth) _ _ (lt-ltb (owed d) r.depth (omega arith)) ∙ cond-true (ltb d.wear r.life) _ _ (lt-ltb d.wear r.life alive) in
    let both : post_answer r.depth r.life d w.at (length w.bytes) ≡ Ok tt =
    ap (λ (x : Answer). and_then x (room_answer r.depth r.life (owed d) d.wear w.at)) address ∙ room in
    ap (λ (x : Answer). if_accepted x (accept a v (Some w))) both

-- ---- the label is known

module _ (g : Shape) (lim : in_limits g.id g.entries g.records ≡ true) where
  pub own_believed : (l : Label) → OwnLabel g l → believed_label 0 g.records (label_bytes l) ≡ Some l
  own_believed l k =
      subst (λ (t : ℕ). believed_label 0 t (label_bytes l) ≡ Some l) k.records
      (a_written_label_is_believed 0 l (omega arith)
      (record { id = rw k.id g.fits; records = omega (arith, k.records); entries = omega (arith, k.entries); trouble = k.trouble })
      ((λ i. in_limits (k.id i) (k.entries i) (k.records i)) ∙ lim))

  -- what the label's record shows, where it can be read
  label_here : (c : State) → ((bs : List ℕ) → c ≡ readable bs → ALabel g bs) → (copy : Option Label) (m : Label) → copy ≡ Some m
      → (l : Label) × (or_else (label_in_state g.records c) (counted_in_use copy) ≡ Some l)
  label_here (readable bs) L copy m is =
      let A = L bs refl in
      (A.value, ap (λ (q : Option Label). or_else q (counted_in_use copy)) (ap (believed_label 0 g.records) A.is ∙ own_believed A.value A.own))
  label_here spoiled L copy m is = (with_state m InUse m.trouble, ap counted_in_use is)

  pub label_known : (d : Meaning) → size d ≡ g.records → Formed g d → (l : Label) × (label_shown d ≡ Some l)
  label_known d sized F =
      let c = F.copy in
      let copied : label_in_state g.records (shown d copy_at) ≡ Some c.0 =
      ap (label_in_state g.records) (quiet_shown d copy_at F.quiet ∙ c.1) ∙ own_believed c.0 c.2 in
      subst (λ (t : ℕ). (l : Label) × (or_else (label_in_state t (shown d label_at)) (counted_in_use (label_in_state t (shown d copy_at))) ≡ Some l)) (sym sized)
      (label_here (shown d label_at) (λ bs h. F.label bs (shown_possible d label_at bs h)) (label_in_state g.records (shown d copy_at)) c.0 copied)

-- ---- the next step

-- the label says that a salvage has begun
abbrev pub has_begun : Shape → States → Bool
has_begun g s = is_salvage (label_in_state g.records (s label_at))

abbrev pub free_write : Shape → ℕ → Write
free_write g e = record { at = entry_at e; bytes = entry_bytes g.id free_entry }

abbrev pub section_write : Shape → States → ℕ → Write
section_write g s k = record { at = section_at k; bytes = mended_section g.id g.entries g.records s k }

-- what salvage writes next, over the states that show and the label l
pub data Step (g : Shape) (l : Label) (s : States) : Reply → Write → Type 0 where
  begins : has_begun g s ≡ false → Step g l s begun (label_write (with_state l Salvage l.trouble))
  mends : (e : ℕ) → has_begun g s ≡ true → e < g.entries → fine s e ≡ false → Step g l s (entry e) (free_write g e)
  maps : (k : ℕ) → has_begun g s ≡ true → misses (fine s) 0 g.entries ≡ 0 → k < 3 → exact g s k ≡ false → Step g l s (section k) (section_write g s k)
  finishes : has_begun g s ≡ true → misses (fine s) 0 g.entries ≡ 0 → misses (exact g s) 0 3 ≡ 0 → Step g l s ended (label_write (with_state l Closed 0))

pub record Next (r : Rules) (g : Shape) (d : Meaning) (v : Memory) : Type 0 where
  pub label : Label
  pub own : OwnLabel g label
  pub reply : Reply
  pub write : Write
  pub says : plan r (salvage 512 (size d)) d v ≡ accept reply v (Some write)
  pub step : Step g label (shown d) reply write

module _ (r : Rules) (g : Shape) (lim : in_limits g.id g.entries g.records ≡ true) (o : Ledger) (d : Meaning) (v : Memory)
    (D : OnDrive g o d) (F : Formed g d) (shut : v.phase ≡ Shut) (deep : 1 ≤ r.depth) (still : d.outstanding ≡ []) (alive : d.wear < r.life) where
  accepts : (a : Reply) (w : Write) → length w.bytes ≡ 512 → w.at < g.records → post r d a v w ≡ accept a v (Some w)
  accepts a w full low = post_yes r d a v w full (omega (arith, D.sized)) deep still alive

  says_next : (l : Label) (q : Outcome) → label_shown d ≡ Some l → salvaging r d v l ≡ q → plan r (salvage 512 (size d)) d v ≡ q
  unfolding plan salvage_plan
  says_next l q is eq =
      ask_yes 1 (eqb 512 512) _ refl
      ∙ (ask_yes 2 (is_shut v.phase) _ (ap is_shut shut)
      ∙ (need_some 3 (label_shown d) l _ is
      ∙ (ask_yes 5 (eqb (size d) (size d)) _ (eq-eqb (size d) (size d) refl)
      ∙ (ask_yes 15 (eqb (owed d) 0) _ (eq-eqb (owed d) 0 (ap (λ (ws : List Write). length ws) still)) ∙ eq))))

  claims : (e : ℕ) (x : Entry) → e < g.entries → shown d (entry_at e) ≡ readable (entry_bytes g.id x) → FittingEntry x → Claims g o e 0 x.slots
  claims e x low is fits p y at pos =
      let read = (a_written_entry_is_read_back 0 g.id (region_of g) x (omega arith) g.fits fits).0 in
      let own = D.named e p y (entry_bytes g.id x) x low (shown_possible d (entry_at e) (entry_bytes g.id x) is) read at pos in
      let z : 0 + p ≡ p = omega arith in
      (rw z own, not_lost g o d y (at_slot e p) D own refl)

  entry_form : (e : ℕ) (bs : List ℕ) → e < g.entries → shown d (entry_at e) ≡ readable bs → AnEntry g bs
  entry_form e bs low is = F.entries e bs low (shown_possible d (entry_at e) bs is)

  pub salvage_next : Next r g d v
  salvage_next =
      let L = label_known g lim d D.sized F in
      let l = L.0 in
      let own = own_label g o d D l L.1 in
      let begun_is : is_salvage (label_in_state (size d) (shown d label_at)) ≡ has_begun g (shown d) = ap (λ (t : ℕ). is_salvage (label_in_state t (shown d label_at))) D.sized in
      let first = first_unmended l.id (page_region l.entries (size d)) (shown d) [] 0 l.entries in
      let first_is : first ≡ first_unmended g.id (region_of g) (shown d) [] 0 g.entries =
      λ j. first_unmended (own.id j) (page_region (own.entries j) (D.sized j)) (shown d) [] 0 (own.entries j) in
      let map_is : first_inexact l.id l.entries (size d) (shown d) 0 3 ≡ first_inexact g.id g.entries g.records (shown d) 0 3 =
      λ j. first_inexact (own.id j) (own.entries j) (D.sized j) (shown d) 0 3 in
      elim (cases_Bool (has_begun g (shown d))) [
        | inr b ↦
            let w = label_write (with_state l Salvage l.trouble) in
            record {
              label = l;
              own = own;
              reply = begun;
              write = w;
              says = says_next l _ L.1 (cond-false _ _ _ (begun_is ∙ b) ∙ accepts begun w (label_is_record (with_state l Salvage l.trouble)).0 (omega arith));
              step = begins b;
            }
        | inl b ↦
            elim (unmended_cases g o (shown d) claims entry_form [] 0 g.entries (omega arith) (λ x h pos. absurd (true≢false (sym h)))) [
              | inr k ↦
                  let e = k.0 in
                  let w = free_write g e in
                  let id_is : record { at = entry_at e; bytes = entry_bytes l.id free_entry } ≡ w = λ j. record { at = entry_at e; bytes = entry_bytes (own.id j) free_entry } in
                  record {
                    label = l;
                    own = own;
                    reply = entry e;
                    write = w;
                    says =
                        says_next l _ L.1
                        (cond-true _ _ _ (begun_is ∙ b) ∙ (ap (map_or_entry r d v l) (first_is ∙ k.4)
                        ∙ (ap (post r d (entry e) v) id_is ∙ accepts (entry e) w (entry_is_record g.id free_entry refl).0 (let z = k.2 in omega arith))));
                    step = mends e b (let z = k.2 in omega arith) k.3;
                  }
              | inl k ↦
                  elim (inexact_cases g (shown d) 0 3) [
                    | inr j ↦
                        let n = j.0 in
                        let w = section_write g (shown d) n in
                        let low : n < 3 = (let z = j.2 in omega arith) in
                        let same_w : record { at = section_at n; bytes = mended_section l.id l.entries (size d) (shown d) n } ≡ w =
                        λ i. record { at = section_at n; bytes = mended_section (own.id i) (own.entries i) (D.sized i) (shown d) n } in
                        record {
                          label = l;
                          own = own;
                          reply = section n;
                          write = w;
                          says =
                              says_next l _ L.1
                              (cond-true _ _ _ (begun_is ∙ b) ∙ (ap (map_or_entry r d v l) (first_is ∙ k.0) ∙ (ap (end_or_section r d v l) (map_is ∙ j.4)
                              ∙ (ap (post r d (section n) v) same_w
                              ∙ accepts (section n) w (section_is_record g.id g.entries g.records n _ (bits_of_fit _).0).0 (omega arith)))));
                          step = maps n b k.1 low j.3;
                        }
                    | inl j ↦
                        let w = label_write (with_state l Closed 0) in
                        record {
                          label = l;
                          own = own;
                          reply = ended;
                          write = w;
                          says =
                              says_next l _ L.1
                              (cond-true _ _ _ (begun_is ∙ b) ∙ (ap (map_or_entry r d v l) (first_is ∙ k.0) ∙ (ap (end_or_section r d v l) (map_is ∙ j.0)
                              ∙ accepts ended w (label_is_record (with_state l Closed 0)).0 (omega arith))));
                          step = finishes b k.1 j.1;
                        }
                  ]
            ]
      ]
