-- Whole histories: what they reach is good, and what is good names no record twice after a cut.
use Rattle.std.proofs.Common.{◌≡◌, ℕ, zero, suc, ◌+◌, ◌-◌, ◌^◌, ◌<◌, Bool, true, cond, ◌&&◌, ◌||◌, eqb, ltb, leb, List, [], get_or, take, replicate, Some, None, Option, sym, refl, ap, ◌∙◌, subst, inl, inr, arith}
use Rattle.std.proofs.lemmas.List.FromFn.{length-map-range_with_len, get_or-map-range_with_len}
use Rattle.std.proofs.lemmas.Bool.{cases_Bool, cond_both}
use Rattle.std.proofs.lemmas.Bool.Decides.{nat_tests}
use Rattle.drive.specs.Cuts.{Image}
use Rattle.drive.specs.Meaning.{State, readable, spoiled, Write, Meaning, size, settled_at, shown, any_to, posted, complete, WellFormedState, WellFormed}
use Rattle.drive.proofs.FormedLaws.{well_formed_complete, well_formed_shown, well_formed_image}
use Rattle.drive.proofs.MeaningLaws.{length_settle}
use Rattle.record.specs.declared.label.Label.{Label}
use Rattle.record.specs.declared.entry.Entry.{Entry}
use Rattle.record.specs.Regions.{in_limits, within, page_region, map_span, first_of}
use Rattle.record.specs.Sections.{bit, bits_of, all_free}
use Rattle.record.specs.Entries.{free_entry, whole_entry, sound_entry}
use Rattle.record.proofs.BitLaws.{bit_bits_of, bits_of_fit}
use Rattle.model.specs.declared.memory.File.{File}
use Rattle.model.specs.Volume.{entry_at, section_at, label_bytes, entry_bytes}
use Rattle.model.specs.New.{new_label, new_section, new_state, new_volume}
use Rattle.model.specs.Memory.{Memory, attached}
use Rattle.model.specs.Outcomes.{Reply, Outcome, refuse, accept, Rules}
use Rattle.model.specs.Shown.{bytes_in, label_of, section_in_state}
use Rattle.model.specs.Stock.{cover}
use Rattle.model.specs.Calls.{Call, plan, Volume, Leaves, Polls}
use Rattle.model.specs.Histories.{History, Fitting, Moment, resting, inside, Reached, at_first, by_call, by_poll, by_cut}
use Rattle.model.specs.Promises.{label_left, Names, Free, NoRecordIsNamedTwice, NoNamedRecordIsFree, EveryNamedRecordLiesInThePageRegion}
use Rattle.model.specs.NamesLaw.{PowerCutsNeverMixNames}
use Rattle.model.proofs.NewLaws.{limits}
use Rattle.model.proofs.Possible.{same_bytes, Possible, possible_completed, shown_completed, quiet_shown, image_of_possible}
use Rattle.model.proofs.ReadBack.{entry_is_record, section_is_record, label_is_record, entry_read_back, section_read_back, label_read_back, sound_whole, entry_readable, section_readable, none_not, free_fits}
use Rattle.model.proofs.Lists.{get_or_replicated}
use Rattle.model.proofs.Ledger.{lost, free, in_service, at_slot, Ledger, differ, holds_none}
use Rattle.model.proofs.Parts.{Shape, in_region, region_within, section_in, OnDrive, Good, not_lost, drive_less, off_same, files_moved, files_none}
use Rattle.model.proofs.Meets.{Meets}
use Rattle.model.proofs.FileCalls.{Keeps}
use Rattle.model.proofs.MapCalls.{joined_keeps, label_own}
use Rattle.model.proofs.SalvageCalls.{plan_keeps}

-- ---- what keeps it, apart from the calls

-- writes complete
completed_good : (g : Shape) (d : Meaning) (v : Memory) (k : ℕ) → Good g d v → Good g (complete k d) v
completed_good g d v k (o, I) =
    let D = I.drive in
    let wf = D.formed in (
      o,
      record {
        drive = drive_less g o d (complete k d) D (well_formed_complete d k wf) (length_settle (take k d.outstanding) d.settled) (possible_completed d k);
        stock = I.stock;
        off = off_same g d (complete k d) v.chart v.unsettled I.off (λ j _. shown_completed d k (section_at j) wf);
        tickets = I.tickets;
        files = files_moved g o o d (complete k d) v.files I.files (λ e p x own. own) (λ e _. shown_completed d k (entry_at e) wf);
        bare = I.bare;
        own = I.own;
        counted = I.counted;
      },
    )

-- memory is lost
pub attached_good : (g : Shape) (o : Ledger) (d : Meaning) → OnDrive g o d → Good g d attached
attached_good g o d D = (
  o,
  record {
    drive = D;
    stock = record { served = holds_none o in_service; coming = holds_none o free };
    off = refl;
    tickets = λ t x h. absurd (none_not x (sym (get_or_replicated {A = Option ℕ} 4 None t) ∙ h));
    files = files_none g o d (replicate 8 None) (get_or_replicated {A = Option File} 8 None);
    bare = (record { tickets = get_or_replicated {A = Option ℕ} 4 None; files = get_or_replicated {A = Option File} 8 None }, refl, refl);
    own = λ h. absurd (let z : ◌≡◌ {A = ℕ} 0 1 = cc in omega arith);
    counted = refl;
  },
)

pub image_good : (g : Shape) (o : Ledger) (d n : Meaning) → OnDrive g o d → Image d n → OnDrive g o n
image_good g o d n D im = drive_less g o d n D (well_formed_image d n D.formed im) im.same_size (image_of_possible d n im)

-- ---- histories

module _ (r : Rules) (g : Shape) where
  pub accepted_good : (d : Meaning) (q : Outcome) (a : Reply) (x : Memory) (w : Write) → q ≡ accept a x (Some w) → Meets q (Keeps g d) → Good g (posted d w.at w.bytes) x
  unfolding Meets
  accepted_good d q a x w is h = subst (λ (o : Outcome). Meets o (Keeps g d)) is h

  pub moment_good : (h h' : History) (v : Volume) (d : Meaning) → Good g v.drive v.memory → Moment r h v h' d → (o : Ledger) × OnDrive g o d
  moment_good h h' v d G resting = (G.0, G.1.drive)
  moment_good h h' v d G (inside c a x w fit is) =
      let P = accepted_good v.drive (plan r c v.drive v.memory) a x w is (plan_keeps r g v.drive c v.memory fit G) in
      (P.0, P.1.drive)

  leaves_good : (v u : Volume) (q : Outcome) → Good g v.drive v.memory → Meets q (Keeps g v.drive) → Leaves q v u → Good g u.drive u.memory
  unfolding Meets
  leaves_good v u (refuse f) G h e = subst (λ (w : Volume). Good g w.drive w.memory) (sym e) G
  leaves_good v u (accept a x None) G h e =
      subst (λ (m : Memory). Good g u.drive m) (sym e.0) (subst (λ (d : Meaning). Good g d x) (sym e.1) h)
  leaves_good v u (accept a x (Some w)) G h e =
      subst (λ (m : Memory). Good g u.drive m) (sym e.0)
      (subst (λ (d : Meaning). Good g d x) (sym e.1.1) (completed_good g (posted v.drive w.at w.bytes) x e.1.0 h))

  pub call_good : (c : Call) (q : Outcome) (v u : Volume) → Good g v.drive v.memory → Fitting c → plan r c v.drive v.memory ≡ q → Leaves q v u → Good g u.drive u.memory
  call_good c q v u G fit is e =
      leaves_good v u q G (subst (λ (o : Outcome). Meets o (Keeps g v.drive)) is (plan_keeps r g v.drive c v.memory fit G)) e

  pub poll_good : (v u : Volume) → Good g v.drive v.memory → Polls v u → Good g u.drive u.memory
  poll_good v u G P =
      let k = P.steps.0 in
      let stepped : Good g u.drive v.memory = subst (λ (d : Meaning). Good g d v.memory) (sym P.steps.1.1) (completed_good g v.drive v.memory k G) in
      subst (λ (m : Memory). Good g u.drive m) (sym P.joins) (joined_keeps g u.drive v.memory v.memory.chart refl stepped)

  pub cut_good : (h h' : History) (v : Volume) (d n : Meaning) → Good g v.drive v.memory → Moment r h v h' d → Image d n → (o : Ledger) × OnDrive g o n
  cut_good h h' v d n G mo im =
      let M = moment_good h h' v d G mo in
      (M.0, image_good g M.0 d n M.1 im)

  pub reached_good : (m : Meaning) → Good g m attached → (h : History) (v : Volume) → Reached r m h v → Good g v.drive v.memory
  reached_good m G h v at_first = G
  reached_good m G h v (by_call c q h₀ v₀ u before fit is e) = call_good c q v₀ u (reached_good m G h₀ v₀ before) fit is e
  reached_good m G h v (by_poll h₀ v₀ u before p) = poll_good v₀ u (reached_good m G h₀ v₀ before) p
  reached_good m G h v (by_cut h₀ h' v₀ d n before mo im) =
      let C = cut_good h₀ h' v₀ d n (reached_good m G h₀ v₀ before) mo im in
      attached_good g C.0 n C.1

-- ---- a volume made new

module _ (m : Meaning) (id e : ℕ) (wf : WellFormed m) (fits : id < 2 ^ 32) (lim : in_limits id e (size m) ≡ true) where
  unfoldable pub shape : Shape
  shape = record { id = id; entries = e; records = size m; fits = fits; low = (limits id e (size m) lim).0; high = (limits id e (size m) lim).1 }

  -- every record of the page region is free
  pub first_ledger : Ledger
  first_ledger x = cond (within (page_region e (size m)) x) free lost

  new_size : size (new_volume m id e) ≡ size m
  unfolding new_volume
  new_size = length-map-range_with_len (λ a. new_state id e (size m) a (shown m a)) 0 (size m)

  pub new_at : (a : ℕ) → a < size m → settled_at (new_volume m id e) a ≡ new_state id e (size m) a (shown m a)
  unfolding new_volume
  new_at a l = get_or-map-range_with_len (λ b. new_state id e (size m) b (shown m b)) 0 (size m) a a spoiled l (omega arith)

  pub new_possible : (a : ℕ) (bs : List ℕ) → a < size m → Possible (new_volume m id e) a bs → new_state id e (size m) a (shown m a) ≡ readable bs
  unfolding new_volume
  new_possible a bs l (inl h) = sym (new_at a l) ∙ h
  new_possible a bs l (inr h) = absurd h

  pub at_entry : (i : ℕ) (s : State) → i < e → new_state id e (size m) (entry_at i) s ≡ readable (entry_bytes id free_entry)
  at_entry i s l = grind (arith, nat_tests)

  at_section : (k : ℕ) (s : State) → k < 3 → new_state id e (size m) (section_at k) s ≡ readable (new_section id e (size m) k)
  at_section zero s l = refl
  at_section (suc zero) s l = refl
  at_section (suc (suc zero)) s l = refl
  at_section (suc (suc (suc k))) s l = absurd (omega arith)

  new_formed : WellFormed (new_volume m id e)
  unfolding new_volume
  new_formed =
      let t = size m in
      let few = limits id e t lim in
      record {
        small = omega (arith, new_size, few.1);
        inside = tt;
        full = λ a l.
            let small : a < t = omega (arith, new_size) in
            subst WellFormedState (sym (new_at a small))
            (cond_both (eqb a 0 || eqb a 7) _ _ WellFormedState (λ _. label_is_record (new_label id e t))
            (λ _.
            cond_both (leb 1 a && leb a 3) _ _ WellFormedState
            (λ _. section_is_record id e t (a - 1) (all_free (map_span (a - 1) e t)) (bits_of_fit (λ q. within (page_region e t) (first_of (a - 1) + q))).0)
            (λ _. cond_both (leb 8 a && ltb a (8 + e)) _ _ WellFormedState (λ _. entry_is_record id free_entry refl) (λ _. well_formed_shown m a wf))));
      }

  pub new_good : OnDrive shape first_ledger (new_volume m id e)
  unfolding shape first_ledger
  new_good =
      let t = size m in
      let few = limits id e t lim in
      let f : ℕ → ℕ → Bool = λ k q. within (page_region e t) (first_of k + q) in
      record {
        formed = new_formed;
        sized = new_size;
        within = λ x.
            elim (cases_Bool (within (page_region e t) x)) [
              | inl h ↦ inr (in_region shape x h)
              | inr h ↦ inl (ap (λ (b : Bool). cond b free lost) h)
            ];
        named = λ i p x bs y l ps is at h.
            let bytes : entry_bytes id free_entry ≡ bs = same_bytes _ bs (sym (at_entry i (shown m (entry_at i)) l) ∙ new_possible (entry_at i) bs (omega (arith, few.0)) ps) in
            let read : y ≡ free_entry = entry_read_back id free_entry y fits free_fits (subst (λ (cs : List ℕ). whole_entry 0 id cs ≡ Some y) (sym bytes) is) in
            let none : get_or y.slots p 0 ≡ 0 = ap (λ (z : Entry). get_or z.slots p 0) read ∙ get_or_replicated {A = ℕ} 64 0 p in
            absurd (omega arith);
        mapped = λ x bs s l ps is h.
            let k = cover x in
            let q = x - first_of k in
            let bytes : new_section id e t k ≡ bs = same_bytes _ bs (sym (at_section k (shown m (section_at k)) l) ∙ new_possible (section_at k) bs (omega (arith, few.0)) ps) in
            let read : s.bits ≡ bits_of (f k) = section_read_back id e t k (bits_of (f k)) s (bits_of_fit (f k)) (subst (λ (cs : List ℕ). section_in shape k cs ≡ Some s) (sym bytes) is) in
            let back : first_of k + q ≡ x = omega arith in
            let on : f k q ≡ true = sym (bit_bits_of (f k) q (omega arith)) ∙ (ap (λ (b : List ℕ). bit b q) (sym read) ∙ h) in
            ap (λ (b : Bool). cond b free lost) (subst (λ (y : ℕ). within (page_region e t) y ≡ true) back on);
        labelled = λ a bs l at ps is.
            let bytes : label_bytes (new_label id e t) ≡ bs = same_bytes _ bs (elim at [
              | inl z ↦ sym (ap (λ (b : ℕ). new_state id e t b (shown m b)) z) ∙ new_possible a bs (omega (arith, few.0)) ps
              | inr z ↦ sym (ap (λ (b : ℕ). new_state id e t b (shown m b)) z) ∙ new_possible a bs (omega (arith, few.0)) ps
            ]) in
            label_read_back t (new_label id e t) l fits (omega (arith, few.2)) (rw (← bytes) at is);
      }

-- ---- what is good names each record once

module _ (g : Shape) (o : Ledger) (n : Meaning) (D : OnDrive g o n) (nothing : n.outstanding ≡ []) where
  pub left_own : (l : Label) → label_left n ≡ Some l → (l.id ≡ g.id) × (l.entries ≡ g.entries)
  left_own l h =
      let still : (a : ℕ) → shown n a ≡ settled_at n a = λ a. quiet_shown n a (ap (λ (ws : List Write). any_to ws a) nothing) in
      label_own g n o l D ((λ i. label_of (size n) (still 0 i) (still 7 i)) ∙ h)

  named_owner : (e meter p a : ℕ) → Names n e meter p a → o a ≡ at_slot e p
  named_owner e meter p a N =
      let H = N.held in
      let own = left_own H.label H.believed in
      let region = page_region g.entries g.records in
      let s = settled_at n (entry_at e) in
      let sound : sound_entry 0 g.id region (bytes_in s) ≡ Some N.entry =
      (λ i. sound_entry 0 (sym own.0 i) (page_region (sym own.1 i) (sym D.sized i)) (bytes_in s)) ∙ H.sound in
      let read = entry_readable g.id s N.entry (sound_whole g.id region (bytes_in s) N.entry sound) in
      let low = H.numbered in
      let nz = N.some in
      D.named e p a read.0 N.entry (omega (arith, own.1)) (inl read.1) read.2 N.there (omega arith)

  free_owner : (a : ℕ) → Free n a → o a ≡ free
  free_owner a F =
      let own = left_own F.label F.believed in
      let k = cover a in
      let s = settled_at n (section_at k) in
      let sound : section_in_state g.id g.entries g.records k s ≡ Some F.section =
      (λ i. section_in_state (sym own.0 i) (sym own.1 i) (sym D.sized i) k s) ∙ F.sound in
      let read = section_readable g.id g.entries g.records k s F.section sound in
      D.mapped a read.0 F.section F.covered (inl read.1) read.2 F.on

  pub names_apart : NoRecordIsNamedTwice n × NoNamedRecordIsFree n × EveryNamedRecordLiesInThePageRegion g.entries n
  names_apart = (
    λ e e' meter meter' p p' a N N'.
        let i = named_owner e meter p a N in
        let i' = named_owner e' meter' p' a N' in
        ((cc), (cc)),
    λ e meter p a N F. differ (at_slot e p) free refl (sym (named_owner e meter p a N) ∙ free_owner a F),
    λ e meter p a N.
        subst (λ (t : ℕ). within (page_region g.entries t) a ≡ true) (sym D.sized)
        (region_within g a (not_lost g o n a (at_slot e p) D (named_owner e meter p a N) refl)),
  )

pub power_cuts_never_mix_names : PowerCutsNeverMixNames
unfolding shape
power_cuts_never_mix_names r m id e wf fits lim h h' v d n reached mo im =
    let g = shape m id e wf fits lim in
    let first = attached_good g (first_ledger m id e wf fits lim) (new_volume m id e) (new_good m id e wf fits lim) in
    let C = cut_good r g h h' v d n (reached_good r g (new_volume m id e) first h v reached) mo im in
    names_apart g C.0 n C.1 im.nothing_owed
