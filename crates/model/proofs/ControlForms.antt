-- What stands in the control records has their form: sound entries and labels of the volume.
use Rattle.std.proofs.Common.{◌≡◌, ℕ, ◌^◌, ◌<◌, true, false, not, eqb, ltb, ◌⊎◌, List, [], ◌∷◌, map, length, get_or, set, replicate, Some, None, Option, sym, refl, ap, ◌∙◌, subst, inl, inr, arith}
use Rattle.std.proofs.lemmas.List.{length-map}
use Rattle.std.proofs.lemmas.Bool.{cases_Bool, eqb-false, not-true, true≢false}
use Rattle.drive.specs.Cuts.{Image}
use Rattle.drive.specs.Meaning.{readable, Write, Meaning, size, settled_at, shown, any_to, pending, posted, complete, WellFormed}
use Rattle.drive.proofs.MeaningLaws.{a_cut_keeps_what_has_nothing_outstanding}
use Rattle.record.specs.declared.label.Label.{Label}
use Rattle.record.specs.declared.label.LabelState.{LabelState}
use Rattle.record.specs.declared.label.LabelState.TheVariants.{Closed, InUse, Salvage}
use Rattle.record.specs.declared.entry.Entry.{Entry}
use Rattle.record.specs.Regions.{page_region}
use Rattle.record.specs.Entries.{addresses_sound}
use Rattle.record.specs.Laws.{FittingEntry}
use Rattle.record.proofs.AddressLaws.{sound_addresses_name_each_page_once}
use Rattle.record.proofs.LabelLaws.{a_believed_label_is_the_record_of_what_is_read}
use Rattle.model.specs.declared.memory.MapState.{MapState}
use Rattle.model.specs.declared.memory.MapState.TheVariants.{Idle, Writing}
use Rattle.model.specs.declared.memory.Slot.{Slot}
use Rattle.model.specs.declared.memory.Slot.TheVariants.{Empty, Nulled}
use Rattle.model.specs.declared.memory.File.{File}
use Rattle.model.specs.Volume.{entry_at, section_at, label_at, copy_at, label_bytes, entry_bytes}
use Rattle.model.specs.Memory.{Memory, with_file}
use Rattle.model.specs.Outcomes.{Reply, Rules}
use Rattle.model.specs.Shown.{with_state, counted_in_use, or_else, label_in_state, label_shown, entry_shown}
use Rattle.model.specs.Slots.{updated}
use Rattle.model.specs.Stock.{cover, counting_free, oldest}
use Rattle.model.specs.Plans.{is_shut, is_idle, is_free, next_trouble, kept_label, label_write, open_plan, close_plan, finish_plan, create_plan, activate_plan, deactivate_plan, update_plan, place_plan, read_plan, clear_plan, reclaim_plan, withdrawing, withdraw_plan, deposit_plan, take_from, give_oldest, balance_plan, drain_plan, joined}
use Rattle.model.specs.Mending.{Unmended, first_unmended, first_inexact, is_salvage, end_or_section, map_or_entry, salvage_plan}
use Rattle.model.specs.Calls.{Call, open', create, activate, withdraw, place, deposit, read, update, clear, reclaim, deactivate, balance, close, drain, finish, salvage, plan}
use Rattle.model.specs.Histories.{Fitting}
use Rattle.model.proofs.Possible.{Possible, possible_posted, possible_completed, quiet_posted, quiet_completed, quiet_shown, shown_possible, shown_completed, image_of_possible}
use Rattle.model.proofs.ReadBack.{label_readable, possible_bytes, none_not}
use Rattle.model.proofs.Lists.{set_read}
use Rattle.model.proofs.Ledger.{on_ticket, at_slot, Ledger}
use Rattle.model.proofs.Parts.{Shape, InRegion, region_within, OnDrive, on_entry, Slots, Inv, not_lost, entry_fits}
use Rattle.model.proofs.Meets.{Meets, accept_meets, ask_meets, need_meets, need_of_meets, cond_meets, accepted_meets, post_meets}
use Rattle.model.proofs.FileCalls.{not_shut, address_is, wanted_passes, updated_slots, all_updated, named_own, none_has}
use Rattle.model.proofs.MapCalls.{closing_is, lowest_counted, low_cover}
use Rattle.model.proofs.SalvageCalls.{region_of, MendedForm, unmended_is, inexact_is, form_shown}

-- ---- the forms

-- the record of a sound entry of the volume
pub record AnEntry (g : Shape) (bs : List ℕ) : Type 0 where
  pub value : Entry
  pub is : bs ≡ entry_bytes g.id value
  pub fits : FittingEntry value
  pub sound : addresses_sound (region_of g) value ≡ true

-- the numbers of a label are the volume's
pub record OwnLabel (g : Shape) (l : Label) : Type 0 where
  pub id : l.id ≡ g.id
  pub records : l.records ≡ g.records
  pub entries : l.entries ≡ g.entries
  pub trouble : l.trouble < 2 ^ 32

-- the record of a label of the volume
pub record ALabel (g : Shape) (bs : List ℕ) : Type 0 where
  pub value : Label
  pub is : bs ≡ label_bytes value
  pub own : OwnLabel g value

-- what an entry's record may hold is an entry, what the label's may hold is a label, and the label's copy stays
pub record Formed (g : Shape) (d : Meaning) : Type 0 where
  pub entries : (e : ℕ) (bs : List ℕ) → e < g.entries → Possible d (entry_at e) bs → AnEntry g bs
  pub label : (bs : List ℕ) → Possible d label_at bs → ALabel g bs
  pub copy : (l : Label) × (settled_at d copy_at ≡ readable (label_bytes l)) × OwnLabel g l
  pub quiet : pending d copy_at ≡ false

-- a file has a meter, and the trouble count fits its word
pub record Kept (v : Memory) : Type 0 where
  pub metered : (i : ℕ) (f : File) → get_or v.files i None ≡ Some f → f.meter ≡ 0 → ⊥
  pub trouble : is_shut v.phase ≡ false → v.trouble < 2 ^ 32

-- a write keeps the forms
pub record Proper (g : Shape) (w : Write) : Type 0 where
  pub entries : (e : ℕ) → e < g.entries → w.at ≡ entry_at e → AnEntry g w.bytes
  pub label : w.at ≡ label_at → ALabel g w.bytes
  pub copy : w.at ≡ copy_at → ⊥

abbrev pub WritesProper : Shape → Option Write → Type 0
WritesProper g None = Unit {0}
WritesProper g (Some w) = Proper g w

abbrev pub Forms : Shape → Memory → Option Write → Type 0
Forms g v w = Kept v × WritesProper g w

-- ---- posting, completing, cutting

pub formed_posted : (g : Shape) (d : Meaning) (w : Write) → Formed g d → Proper g w → Formed g (posted d w.at w.bytes)
formed_posted g d w F W =
    record {
      entries = λ e bs l ps.
          elim (possible_posted d w.at w.bytes (entry_at e) bs ps) [ inl q ↦ F.entries e bs l q | inr q ↦ subst (AnEntry g) q.1 (W.entries e l q.0) ];
      label = λ bs ps.
          elim (possible_posted d w.at w.bytes label_at bs ps) [ inl q ↦ F.label bs q | inr q ↦ subst (ALabel g) q.1 (W.label q.0) ];
      copy = F.copy;
      quiet = quiet_posted d w.at w.bytes copy_at (λ e. W.copy (sym e)) F.quiet;
    }

pub formed_completed : (g : Shape) (d : Meaning) (k : ℕ) → WellFormed d → Formed g d → Formed g (complete k d)
formed_completed g d k wf F =
    let q = quiet_completed d k copy_at F.quiet in
    record {
      entries = λ e bs l ps. F.entries e bs l (possible_completed d k (entry_at e) bs ps);
      label = λ bs ps. F.label bs (possible_completed d k label_at bs ps);
      copy = (
        F.copy.0,
        sym (quiet_shown (complete k d) copy_at q) ∙ (shown_completed d k copy_at wf ∙ (quiet_shown d copy_at F.quiet ∙ F.copy.1)),
        F.copy.2,
      );
      quiet = q;
    }

pub formed_cut : (g : Shape) (d n : Meaning) → 7 < size d → Image d n → Formed g d → Formed g n
formed_cut g d n l im F =
    record {
      entries = λ e bs l ps. F.entries e bs l (image_of_possible d n im (entry_at e) bs ps);
      label = λ bs ps. F.label bs (image_of_possible d n im label_at bs ps);
      copy = (F.copy.0, a_cut_keeps_what_has_nothing_outstanding d n copy_at im l F.quiet ∙ F.copy.1, F.copy.2);
      quiet = ap (λ (ws : List Write). any_to ws copy_at) im.nothing_owed;
    }

-- ---- writes that keep the forms

module _ (g : Shape) where
  section_proper : (k : ℕ) (bs : List ℕ) → k < 3 → Proper g (record { at = section_at k; bytes = bs })
  section_proper k bs l =
      record { entries = λ e low i. absurd (omega arith); label = λ i. absurd (omega arith); copy = λ i. omega arith }

  page_proper : (x : ℕ) (bs : List ℕ) → InRegion g x → Proper g (record { at = x; bytes = bs })
  page_proper x bs r =
      record { entries = λ e low i. absurd (omega arith); label = λ i. absurd (omega arith); copy = λ i. omega arith }

  label_proper : (l : Label) → OwnLabel g l → Proper g (label_write l)
  label_proper l own =
      record { entries = λ e low i. absurd (omega arith); label = λ i. record { value = l; is = refl; own = own }; copy = λ i. omega arith }

  entry_proper : (e : ℕ) (bs : List ℕ) → AnEntry g bs → Proper g (record { at = entry_at e; bytes = bs })
  entry_proper e bs x =
      record { entries = λ e' low i. x; label = λ i. absurd (omega arith); copy = λ i. omega arith }

  -- the entry of a file's slots is sound
  file_entry : (o : Ledger) (d : Meaning) (e n : ℕ) (ss : List Slot) → OnDrive g o d → Slots o e ss → n < 2 ^ 32 → (n ≡ 0 → ⊥) → length ss ≡ 64
      → AnEntry g (entry_bytes g.id (record { meter = n; slots = map on_entry ss }))
  file_entry o d e n ss D S fit nz long =
      let x : Entry = record { meter = n; slots = map on_entry ss } in
      let own : (p : ℕ) → (get_or x.slots p 0 ≡ 0 → ⊥) → o (get_or x.slots p 0) ≡ at_slot e p = λ p some. named_own o e ss S p (get_or x.slots p 0) refl (omega arith) in
      record {
        value = x;
        is = refl;
        fits = entry_fits g o d e n ss D S fit long;
        sound =
            (sound_addresses_name_each_page_once (region_of g) x).1
            (record {
              region = λ p _ some. region_within g (get_or x.slots p 0) (not_lost g o d (get_or x.slots p 0) (at_slot e p) D (own p some) refl);
              once = λ p q l _ some same.
                  let a = own p some in
                  let b : o (get_or x.slots q 0) ≡ at_slot e q = own q (λ z. some (same ∙ z)) in
                  let c : at_slot e p ≡ at_slot e q = sym a ∙ (ap o same ∙ b) in
                  let i : p ≡ q = cc in
                  omega arith;
              free = λ z. absurd (nz z);
            });
      }

-- ---- labels

module _ (g : Shape) (o : Ledger) (d : Meaning) (D : OnDrive g o d) where
  own_at : (a : ℕ) (l : Label) → (a ≡ 0) ⊎ (a ≡ 7) → label_in_state (size d) (shown d a) ≡ Some l → OwnLabel g l
  own_at a l at h =
      let r = label_readable g.records (shown d a) l (subst (λ (t : ℕ). label_in_state t (shown d a) ≡ Some l) D.sized h) in
      let may = shown_possible d a r.0 r.1 in
      let law = a_believed_label_is_the_record_of_what_is_read 0 g.records r.0 l (omega arith) (possible_bytes d a r.0 D.formed may) (omega arith) r.2 in
      let k = D.labelled a r.0 l at may r.2 in
      record { id = k.0; records = law.1; entries = k.1; trouble = law.3.trouble }

  -- the label that a drive shows is the volume's
  pub own_label : (l : Label) → label_shown d ≡ Some l → OwnLabel g l
  own_label l h = first (label_in_state (size d) (shown d 0)) refl h
    where
      copied : (q : Option Label) → label_in_state (size d) (shown d 7) ≡ q → counted_in_use q ≡ Some l → OwnLabel g l
      copied None is h = absurd (none_not l h)
      copied (Some m) is h =
          let k = own_at 7 m (inr refl) is in
          let same : with_state m InUse m.trouble ≡ l = cc in
          subst (OwnLabel g) same (record { id = k.id; records = k.records; entries = k.entries; trouble = k.trouble })

      first : (q : Option Label) → label_in_state (size d) (shown d 0) ≡ q → or_else q (counted_in_use (label_in_state (size d) (shown d 7))) ≡ Some l → OwnLabel g l
      first None is h = copied (label_in_state (size d) (shown d 7)) refl h
      first (Some m) is h = own_at 0 l (inl refl) (is ∙ h)

  pub own_with_state : (l : Label) (s : LabelState) (n : ℕ) → OwnLabel g l → n < 2 ^ 32 → OwnLabel g (with_state l s n)
  own_with_state l s n k fit = record { id = k.id; records = k.records; entries = k.entries; trouble = fit }

next_fits : (s : LabelState) (n : ℕ) → n < 2 ^ 32 → next_trouble s n < 2 ^ 32
next_fits Closed n l = l
next_fits InUse n l = omega arith
next_fits Salvage n l = l

-- ---- memory

with_meter : (v : Memory) (i : ℕ) (f : File) → Kept v → (f.meter ≡ 0 → ⊥) → Kept (with_file v i (Some f))
with_meter v i f K nz =
    record {
      metered = λ j f' h.
          elim (set_read v.files i (Some f) j None (Some f') h) [
            | inl q ↦ let same : f ≡ f' = cc in λ z. nz (ap (λ (y : File). y.meter) same ∙ z)
            | inr q ↦ K.metered j f' q.0
          ];
      trouble = K.trouble;
    }

not_zero : (n : ℕ) → not (eqb n 0) ≡ true → n ≡ 0 → ⊥
not_zero n h = eqb-false n 0 (not-true (eqb n 0) h)

pub joined_kept : (d : Meaning) (v : Memory) (c : MapState) → Kept v → Kept (joined d v c)
joined_kept d v Idle K = K
joined_kept d v (Writing k) K =
    elim (cases_Bool (pending d (section_at k))) [
      | inl e ↦ rw e K
      | inr e ↦ rw e (record { metered = K.metered; trouble = K.trouble })
    ]

-- ---- the calls

module _ (r : Rules) (g : Shape) (d : Meaning) (v : Memory) (o : Ledger) (I : Inv g o d v) (K : Kept v) where
  abbrev P : Memory → Option Write → Type 0
  P = Forms g

  same_kept : (u : Memory) → u.files ≡ v.files → u.phase ≡ v.phase → u.trouble ≡ v.trouble → Kept u
  same_kept u fs ph tr =
      record {
        metered = λ i f h. K.metered i f (ap (λ (xs : List (Option File)). get_or xs i None) (sym fs) ∙ h);
        trouble = λ h. rw tr (K.trouble (ap is_shut (sym ph) ∙ h));
      }

  withdrawing_forms : (t : ℕ) (xs : List ℕ) → Meets (withdrawing v t xs) P
  withdrawing_forms t [] = accept_meets P _ _ _ (K, tt)
  withdrawing_forms t (x ∷ xs) = accept_meets P _ _ _ (same_kept _ refl refl refl, tt)

  oldest_forms : (n : ℕ) (a : Reply) (xs : List ℕ) → v.service ≡ xs → Meets (give_oldest r d v n a (oldest xs)) P
  oldest_forms n a [] is = accept_meets P _ _ _ (K, tt)
  oldest_forms n a (x ∷ xs) is = post_meets P _ _ _ _ (same_kept _ refl refl refl, section_proper g (cover x) _ (low_cover g d v o x xs is I))

  take_forms : (q : Option ℕ) → counting_free 0 v.counts ≡ q → Meets (take_from r d v q) P
  take_forms None is = accept_meets P _ _ _ (K, tt)
  take_forms (Some k) is =
      post_meets P _ _ _ _ (same_kept _ refl refl refl, section_proper g k _ (omega (arith, lowest_counted 0 v.counts k is, I.counted)))

  open_forms : (n : ℕ) → Meets (open_plan r n d v) P
  unfolding open_plan
  open_forms n =
      ask_meets P _ _ _ λ _. ask_meets P _ _ _ λ _. need_meets P _ _ _ λ l is. ask_meets P _ _ _ λ _.
      let own = own_label g o d I.drive l is in
      let fit = next_fits l.state l.trouble own.trouble in
      post_meets P _ _ _ _ (record { metered = K.metered; trouble = λ _. fit }, label_proper g _ (own_with_state g o d I.drive l InUse _ own fit))

  close_forms : Meets (close_plan v) P
  unfolding close_plan
  close_forms =
      ask_meets P _ _ _ λ work. ask_meets P _ _ _ λ _.
      accept_meets P _ _ _ (record { metered = K.metered; trouble = λ _. K.trouble (not_shut v.phase work) }, tt)

  finish_forms : (n : ℕ) → Meets (finish_plan r n d v) P
  unfolding finish_plan
  finish_forms n =
      ask_meets P _ _ _ λ _. ask_meets P _ _ _ λ q. ask_meets P _ _ _ λ _.
      let work : is_shut v.phase ≡ false = rw (closing_is v.phase q) refl in
      let own = I.own work in
      post_meets P _ _ _ _ (
        record { metered = K.metered; trouble = λ h. absurd (true≢false h) },
        label_proper g (kept_label d v Closed) (record { id = own.0; records = I.drive.sized; entries = own.1; trouble = K.trouble work }),
      )

  create_forms : (n i e meter : ℕ) → meter < 2 ^ 32 → Meets (create_plan r n i e meter d v) P
  unfolding create_plan
  create_forms n i e meter fits =
      ask_meets P _ _ _ λ _. ask_meets P _ _ _ λ work. ask_meets P _ _ _ λ _. ask_meets P _ _ _ λ q. ask_meets P _ _ _ λ pos.
      need_of_meets P _ _ _ _ λ x _.
      let nz = not_zero meter pos in
      let own = (I.own (not_shut v.phase work)).0 in
      post_meets P _ _ _ _ (
        with_meter v i _ K nz,
        entry_proper g e _ (subst (λ (j : ℕ). AnEntry g (entry_bytes j (record { meter = meter; slots = replicate 64 0 }))) (sym own)
            (file_entry g o d e meter (replicate 64 Empty) I.drive (none_has o e) fits nz refl)),
      )

  activate_forms : (n i e : ℕ) → Meets (activate_plan n i e d v) P
  unfolding activate_plan
  activate_forms n i e =
      ask_meets P _ _ _ λ _. ask_meets P _ _ _ λ _. ask_meets P _ _ _ λ _. ask_meets P _ _ _ λ _.
      need_of_meets P _ _ _ _ λ x w.
      accept_meets P _ _ _ (with_meter v i _ K (not_zero x.meter (wanted_passes (λ y. not (is_free y)) (entry_shown d v.id v.entries e) x w)), tt)

  deactivate_forms : (i : ℕ) → Meets (deactivate_plan i v) P
  unfolding deactivate_plan
  deactivate_forms i =
      ask_meets P _ _ _ λ _. need_meets P _ _ _ λ f _. ask_meets P _ _ _ λ _.
      accept_meets P _ _ _ (
        record {
          metered = λ j f' h.
              elim (set_read v.files i None j None (Some f') h) [ inl q ↦ absurd (none_not f' q.1) | inr q ↦ K.metered j f' q.0 ];
          trouble = K.trouble;
        },
        tt,
      )

  update_forms : (n i : ℕ) → Meets (update_plan r n i d v) P
  unfolding update_plan
  update_forms n i =
      ask_meets P _ _ _ λ _. ask_meets P _ _ _ λ work. need_meets P _ _ _ λ f file. ask_meets P _ _ _ λ _.
      let F = I.files.each i f file in
      let nz = K.metered i f file in
      let own = (I.own (not_shut v.phase work)).0 in
      let ss = map (updated d) f.slots in
      post_meets P _ _ _ _ (
        with_meter v i _ K nz,
        entry_proper g f.entry _
            (subst (AnEntry g) (λ j. entry_bytes (sym own j) (record { meter = f.meter; slots = sym (all_updated d f.slots) j }))
            (file_entry g o d f.entry f.meter ss I.drive (updated_slots d o f.entry f.slots F.slots) F.metered nz (length-map f.slots (updated d) ∙ F.long))),
      )

  place_forms : (bs : List ℕ) (i p t x : ℕ) → Meets (place_plan r bs i p t x d v) P
  unfolding place_plan
  place_forms bs i p t x =
      ask_meets P _ _ _ λ _. ask_meets P _ _ _ λ _. need_meets P _ _ _ λ f file. need_meets P _ _ _ λ _ _. ask_meets P _ _ _ λ k.
      let own = I.tickets t x (address_is (get_or v.tickets t None) x k) in
      let M = with_meter v i (record { entry = f.entry; meter = f.meter; slots = set f.slots p (Nulled x) }) K (K.metered i f file) in
      post_meets P _ _ _ _ (
        record { metered = M.metered; trouble = M.trouble },
        page_proper g x bs (not_lost g o d x (on_ticket t) I.drive own refl),
      )

  read_forms : (n i p : ℕ) → Meets (read_plan n i p d v) P
  unfolding read_plan
  read_forms n i p =
      ask_meets P _ _ _ λ _. ask_meets P _ _ _ λ _. need_meets P _ _ _ λ f _. need_meets P _ _ _ λ a _.
      accepted_meets P _ _ (accept_meets P _ _ _ (K, tt))

  clear_forms : (i p : ℕ) → Meets (clear_plan i p v) P
  unfolding clear_plan
  clear_forms i p =
      ask_meets P _ _ _ λ _. need_meets P _ _ _ λ f file. need_meets P _ _ _ λ s _.
      accept_meets P _ _ _ (with_meter v i _ K (K.metered i f file), tt)

  reclaim_forms : (i p : ℕ) → Meets (reclaim_plan i p d v) P
  unfolding reclaim_plan
  reclaim_forms i p =
      ask_meets P _ _ _ λ _. need_meets P _ _ _ λ f file. need_meets P _ _ _ λ x _. ask_meets P _ _ _ λ _. ask_meets P _ _ _ λ _.
      let M = with_meter v i (record { entry = f.entry; meter = f.meter; slots = set f.slots p Empty }) K (K.metered i f file) in
      accept_meets P _ _ _ (record { metered = M.metered; trouble = M.trouble }, tt)

  withdraw_forms : Meets (withdraw_plan v) P
  unfolding withdraw_plan
  withdraw_forms = ask_meets P _ _ _ λ _. need_meets P _ _ _ λ t _. withdrawing_forms t v.service

  deposit_forms : (t a : ℕ) → Meets (deposit_plan t a v) P
  unfolding deposit_plan
  deposit_forms t a = ask_meets P _ _ _ λ _. accept_meets P _ _ _ (same_kept _ refl refl refl, tt)

  balance_forms : (n : ℕ) → Meets (balance_plan r n d v) P
  unfolding balance_plan
  balance_forms n =
      ask_meets P _ _ _ λ _. ask_meets P _ _ _ λ _.
      cond_meets P (is_idle v.chart) _ _
      (λ _.
      cond_meets P (ltb (length v.service) 8) _ _ (λ _. take_forms (counting_free 0 v.counts) refl)
      (λ _. cond_meets P (ltb 24 (length v.service)) _ _ (λ _. oldest_forms 16 _ v.service refl) (λ _. accept_meets P _ _ _ (K, tt))))
      (λ _. accept_meets P _ _ _ (K, tt))

  drain_forms : (n : ℕ) → Meets (drain_plan r n d v) P
  unfolding drain_plan
  drain_forms n =
      ask_meets P _ _ _ λ _. ask_meets P _ _ _ λ _. ask_meets P _ _ _ λ _. oldest_forms 0 _ v.service refl

  section_forms : (l : Label) (q : Option ℕ) → OwnLabel g l → first_inexact l.id l.entries (size d) (shown d) 0 3 ≡ q → Meets (end_or_section r d v l q) P
  section_forms l None own is = post_meets P _ _ _ _ (K, label_proper g _ (own_with_state g o d I.drive l Closed 0 own (omega arith)))
  section_forms l (Some k) own is =
      let low = inexact_is l.id l.entries (size d) (shown d) 0 3 k is in
      post_meets P _ _ _ _ (K, section_proper g k _ (omega arith))

  mending_forms : (l : Label) (q : Option Unmended) → OwnLabel g l → first_unmended g.id (region_of g) (shown d) [] 0 g.entries ≡ q → Meets (map_or_entry r d v l q) P
  mending_forms l None own is = section_forms l _ own refl
  mending_forms l (Some u) own is =
      let m = unmended_is g.id (region_of g) (shown d) [] 0 g.entries u is in
      let n = u.number in
      let F : MendedForm g (shown d (entry_at n)) u.form = subst (MendedForm g (shown d (entry_at n))) (sym m.1.1) (form_shown r g d o n m.1.0 I.drive) in
      post_meets P _ _ _ _ (K, entry_proper g n _ (record { value = u.form; is = ap (λ (j : ℕ). entry_bytes j u.form) own.id; fits = F.fits; sound = F.sound }))

  salvage_forms : (n c : ℕ) → Meets (salvage_plan r n c d v) P
  unfolding salvage_plan
  salvage_forms n c =
      ask_meets P _ _ _ λ _. ask_meets P _ _ _ λ _. need_meets P _ _ _ λ l is. ask_meets P _ _ _ λ _. ask_meets P _ _ _ λ _.
      let own = own_label g o d I.drive l is in
      cond_meets P (is_salvage (label_in_state (size d) (shown d 0))) _ _
      (λ _. mending_forms l _ own (λ j. first_unmended (sym own.id j) (page_region (sym own.entries j) (sym I.drive.sized j)) (shown d) [] 0 (sym own.entries j)))
      (λ _. post_meets P _ _ _ _ (K, label_proper g _ (own_with_state g o d I.drive l Salvage l.trouble own own.trouble)))

  -- every call keeps the forms
  pub plan_forms : (c : Call) → Fitting c → Meets (plan r c d v) (Forms g)
  unfolding plan
  plan_forms (open' n) fit = open_forms n
  plan_forms (create n f e meter) fit = create_forms n f e meter fit
  plan_forms (activate n f e) fit = activate_forms n f e
  plan_forms withdraw fit = withdraw_forms
  plan_forms (place bs f p t a) fit = place_forms bs f p t a
  plan_forms (deposit t a) fit = deposit_forms t a
  plan_forms (read n f p) fit = read_forms n f p
  plan_forms (update n f) fit = update_forms n f
  plan_forms (clear f p) fit = clear_forms f p
  plan_forms (reclaim f p) fit = reclaim_forms f p
  plan_forms (deactivate f) fit = deactivate_forms f
  plan_forms (balance n) fit = balance_forms n
  plan_forms close fit = close_forms
  plan_forms (drain n) fit = drain_forms n
  plan_forms (finish n) fit = finish_forms n
  plan_forms (salvage n c) fit = salvage_forms n c
