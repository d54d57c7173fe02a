-- The calls on tickets, files and slots keep what holds of a volume.
use Rattle.std.proofs.Common.{◌≡◌, ℕ, zero, suc, ◌^◌, ◌<◌, Bool, true, false, cond, not, ◌&&◌, ltb, List, [], ◌∷◌, map, length, get_or, replicate, Some, None, Option, sym, refl, ap, ◌∙◌, subst, inl, inr, arith}
use Rattle.std.specs.List.{AllByRecursion}
use Rattle.std.proofs.lemmas.List.{length-map, length-set}
use Rattle.std.proofs.lemmas.Bool.{cases_eq, cases_Bool, eqb-true, and_parts, not-true, ltb-true, or_parts, eq-eqb, ne_eqb, true≢false}
use Rattle.drive.specs.Meaning.{State, readable, Write, Meaning, shown, pending, posted}
use Rattle.record.specs.declared.entry.Entry.{Entry}
use Rattle.record.specs.Regions.{page_region}
use Rattle.record.specs.Entries.{sound_entry}
use Rattle.record.specs.Laws.{FittingEntry}
use Rattle.record.proofs.EntryLaws.{a_sound_entry_is_the_record_of_what_is_read}
use Rattle.model.specs.declared.memory.Phase.{Phase}
use Rattle.model.specs.declared.memory.Phase.TheVariants.{Shut, Open, Closing}
use Rattle.model.specs.declared.memory.Slot.{Slot}
use Rattle.model.specs.declared.memory.Slot.TheVariants.{Empty, Nulled, Live, Leaving, Left}
use Rattle.model.specs.declared.memory.File.{File}
use Rattle.model.specs.Volume.{entry_at, section_at, entry_bytes}
use Rattle.model.specs.Memory.{Memory, with_file, is_address, is_entry, in_some_file}
use Rattle.model.specs.Outcomes.{Rules}
use Rattle.model.specs.Shown.{bytes_in}
use Rattle.model.specs.Slots.{with_slot, with_slots, cleared, left_address, updated, live_address, loaded}
use Rattle.model.specs.Plans.{is_shut, is_open, slot_of, and_then, empty_slot, entry_when, create_plan, activate_plan, deactivate_plan, update_plan, place_plan, read_plan, clear_plan, reclaim_plan, withdrawing, withdraw_plan, deposit_plan}
use Rattle.model.specs.Calls.{with_write}
use Rattle.model.proofs.Possible.{clash, same_bytes, Possible, shown_posted, shown_elsewhere, shown_possible, quiet_possible}
use Rattle.model.proofs.ReadBack.{entry_read_back, sound_whole, entry_readable, possible_bytes, none_not}
use Rattle.model.proofs.Lists.{one_same, get_or_replicated, get_or_mapped, map_set_same}
use Rattle.model.proofs.Ledger.{free, in_service, on_ticket, at_slot, Ledger, differ, hand, From, hand_one, hand_kept, from_one, Holds, holds_kept, holds_split, holds_part, holds_join, holds_one}
use Rattle.model.proofs.Parts.{Shape, InRegion, OnDrive, Has, on_entry, Slots, entry_of, InFile, Bare, Inv, Good, not_lost, within_handed, drive_handed, drive_page, drive_entry, off_same, file_moved, files_moved, slots_put, files_put, files_drop, entry_fits, tickets_handed, tickets_taken, tickets_spent}
use Rattle.model.proofs.Meets.{Meets, accept_meets, ask_meets, need_meets, need_of_meets, accepted_meets, post_meets}

-- ---- phases

pub at_work : (p : Phase) (ts : List (Option ℕ)) (fs : List (Option File)) (s u : List ℕ) → is_open p ≡ true → Bare p ts fs s u
at_work Shut ts fs s u h = absurd (true≢false (sym h))
at_work Open ts fs s u h = tt
at_work Closing ts fs s u h = absurd (true≢false (sym h))

pub not_shut : (p : Phase) → is_open p ≡ true → is_shut p ≡ false
not_shut Shut h = sym h
not_shut Open h = refl
not_shut Closing h = refl

-- ---- what the questions tell

pub address_is : (o : Option ℕ) (a : ℕ) → is_address o a ≡ true → o ≡ Some a
address_is None a h = absurd (true≢false (sym h))
address_is (Some b) a h = ap Some (eqb-true b a h)

pub slot_found : {Y : Type 0} (f : File) (p : ℕ) (k : Slot → Option Y) (y : Y) → and_then (slot_of f p) k ≡ Some y → k (get_or f.slots p Empty) ≡ Some y
slot_found {Y} f p k y h =
    let P : Bool → Type 0 = λ b. and_then (cond b (Some (get_or f.slots p Empty)) None) k ≡ Some y in
    elim (cases_Bool (ltb p 64)) [ inl e ↦ subst P e h | inr e ↦ absurd (none_not y (subst P e h)) ]

empty_is : (s : Slot) (u : Unit {0}) → empty_slot s ≡ Some u → s ≡ Empty
empty_is Empty u h = refl
empty_is (Nulled x) u h = absurd (none_not u h)
empty_is (Live x) u h = absurd (none_not u h)
empty_is (Leaving x) u h = absurd (none_not u h)
empty_is (Left x) u h = absurd (none_not u h)

left_is : (s : Slot) (x : ℕ) → left_address s ≡ Some x → s ≡ Left x
left_is Empty x h = absurd (none_not x h)
left_is (Nulled y) x h = absurd (none_not x h)
left_is (Live y) x h = absurd (none_not x h)
left_is (Leaving y) x h = absurd (none_not x h)
left_is (Left y) x h = let e : y ≡ x = cc in ap Left e

-- what is cleared keeps its address, and its entry sees no change
cleared_is : (s s' : Slot) → cleared s ≡ Some s' → ((x : ℕ) → Has s' x → Has s x) × (on_entry s' ≡ on_entry s)
cleared_is Empty s' h = absurd (none_not s' h)
cleared_is (Nulled y) s' h =
    let e : Left y ≡ s' = cc in
    subst (λ (t : Slot). ((x : ℕ) → Has t x → y ≡ x) × (on_entry t ≡ 0)) e (λ x i. i, refl)
cleared_is (Live y) s' h =
    let e : Leaving y ≡ s' = cc in
    subst (λ (t : Slot). ((x : ℕ) → Has t x → y ≡ x) × (on_entry t ≡ y)) e (λ x i. i, refl)
cleared_is (Leaving y) s' h = absurd (none_not s' h)
cleared_is (Left y) s' h = absurd (none_not s' h)

pub wanted_is : (t : Entry → Bool) (o : Option Entry) (x : Entry) → entry_when t o ≡ Some x → o ≡ Some x
wanted_is t None x h = h
wanted_is t (Some y) x h =
    let P : Bool → Type 0 = λ b. cond b (Some y) None ≡ Some x in
    elim (cases_Bool (t y)) [ inl e ↦ subst P e h | inr e ↦ absurd (none_not x (subst P e h)) ]

pub wanted_passes : (t : Entry → Bool) (o : Option Entry) (x : Entry) → entry_when t o ≡ Some x → t x ≡ true
wanted_passes t None x h = absurd (none_not x h)
wanted_passes t (Some y) x h =
    let P : Bool → Type 0 = λ b. cond b (Some y) None ≡ Some x in
    elim (cases_Bool (t y)) [
      | inl e ↦
          let both : Some y ≡ Some x = subst P e h in
          let same : y ≡ x = cc in
          ap t (sym same) ∙ e
      | inr e ↦ absurd (none_not x (subst P e h))
    ]

in_none : (e : ℕ) (fs : List (Option File)) → in_some_file fs e ≡ false → (i : ℕ) (f : File) → get_or fs i None ≡ Some f → f.entry ≡ e → ⊥
in_none e [] h i f is same = none_not f is
in_none e (x ∷ fs) h zero f is same =
    clash (is_entry x e) (rw is (eq-eqb f.entry e same)) (or_parts (is_entry x e) (in_some_file fs e) h).0
in_none e (x ∷ fs) h (suc i) f is same = in_none e fs (or_parts (is_entry x e) (in_some_file fs e) h).1 i f is same

-- ---- slots

slot_differs : (e p e' p' : ℕ) → ((e' ≡ e) → (p' ≡ p) → ⊥) → at_slot e p ≡ at_slot e' p' → ⊥
slot_differs e p e' p' n i =
    let ee : e' ≡ e = cc in
    let pp : p' ≡ p = cc in
    n ee pp

named_has : (s : Slot) (x : ℕ) → on_entry s ≡ x → 0 < x → Has s x
named_has Empty x h l = omega arith
named_has (Nulled y) x h l = omega arith
named_has (Live y) x h l = h
named_has (Leaving y) x h l = h
named_has (Left y) x h l = omega arith

-- the addresses that a file's entry names are its own
pub named_own : (o : Ledger) (e : ℕ) (ss : List Slot) → Slots o e ss → (p x : ℕ) → get_or (map on_entry ss) p 0 ≡ x → 0 < x → o x ≡ at_slot e p
named_own o e ss S p x at l = S p x (named_has (get_or ss p Empty) x (sym (get_or_mapped on_entry ss p Empty) ∙ at) l)

pub none_has : (o : Ledger) (e : ℕ) → Slots o e (replicate 64 Empty)
none_has o e p x h = absurd (subst (λ (s : Slot). Has s x) (get_or_replicated {A = Slot} 64 Empty p) h)

loaded_back : (xs : List ℕ) → map on_entry (map loaded xs) ≡ xs
loaded_back [] = refl
loaded_back (x ∷ xs) =
    let ih = loaded_back xs in
    elim (cases_eq x 0) [
      | inl e ↦ rw (eq-eqb x 0 e) (ap {B = List ℕ} (λ y. y ∷ map on_entry (map loaded xs)) (sym e) ∙ ap {B = List ℕ} (λ ys. x ∷ ys) ih)
      | inr n ↦ rw (ne_eqb x 0 n) (ap {B = List ℕ} (λ ys. x ∷ ys) ih)
    ]

loaded_has : (y x : ℕ) → Has (loaded y) x → (y ≡ x) × (0 < x)
loaded_has y x h =
    elim (cases_eq y 0) [
      | inl e ↦ absurd (subst (λ (b : Bool). Has (cond b Empty (Live y)) x) (eq-eqb y 0 e) h)
      | inr n ↦
          let i : y ≡ x = subst (λ (b : Bool). Has (cond b Empty (Live y)) x) (ne_eqb y 0 n) h in
          (i, omega arith)
    ]

module _ (d : Meaning) where
  updated_has : (s : Slot) (x : ℕ) → Has (updated d s) x → Has s x
  updated_has Empty x h = h
  updated_has (Nulled y) x h =
      let P : Bool → Type 0 = λ b. Has (cond b (Nulled y) (Live y)) x in
      elim (cases_Bool (pending d y)) [ inl e ↦ subst P e h | inr e ↦ subst P e h ]
  updated_has (Live y) x h = h
  updated_has (Leaving y) x h = h
  updated_has (Left y) x h = h

  pub updated_slots : (o : Ledger) (e : ℕ) (ss : List Slot) → Slots o e ss → Slots o e (map (updated d) ss)
  updated_slots o e ss S p x h = S p x (updated_has (get_or ss p Empty) x (rw (get_or_mapped (updated d) ss p Empty) at h))

  updated_live : (s : Slot) → live_address (updated d s) ≡ on_entry (updated d s)
  updated_live Empty = refl
  updated_live (Nulled y) =
      let P : Bool → Type 0 = λ b. live_address (cond b (Nulled y) (Live y)) ≡ on_entry (cond b (Nulled y) (Live y)) in
      elim (cases_Bool (pending d y)) [ inl e ↦ subst P (sym e) refl | inr e ↦ subst P (sym e) refl ]
  updated_live (Live y) = refl
  updated_live (Leaving y) = refl
  updated_live (Left y) = refl

  -- after an update an entry names just the Live addresses
  pub all_updated : (ss : List Slot) → map (λ s. live_address (updated d s)) ss ≡ map on_entry (map (updated d) ss)
  all_updated [] = refl
  all_updated (s ∷ ss) = cc (updated_live s, all_updated ss)

-- ---- the calls

module _ (g : Shape) (d : Meaning) where
  abbrev pub Keeps : Memory → Option Write → Type 0
  Keeps v w = Good g (with_write w d) v

  -- a file's slot changes where its entry sees nothing of it
  slot_put : (o o' : Ledger) (d' : Meaning) (f : File) (p : ℕ) (s : Slot) → InFile g o d f
      → ((x : ℕ) → Has s x → o' x ≡ at_slot f.entry p)
      → ((p' x : ℕ) → (p' ≡ p → ⊥) → o x ≡ at_slot f.entry p' → o' x ≡ at_slot f.entry p')
      → on_entry s ≡ on_entry (get_or f.slots p Empty)
      → shown d' (entry_at f.entry) ≡ shown d (entry_at f.entry) → InFile g o' d' (with_slot f p s)
  slot_put o o' d' f p s F new others seen same =
      record {
        slots = slots_put o o' f.entry f.slots p s F.slots new others;
        shows =
            same ∙ (F.shows
            ∙ ap (λ (l : List ℕ). readable (entry_bytes g.id (record { meter = f.meter; slots = l }))) (sym (map_set_same on_entry f.slots p s Empty seen)));
        low = F.low;
        metered = F.metered;
        long = length-set f.slots p s ∙ F.long;
      }

  withdrawing_keeps : (v : Memory) (o : Ledger) (t : ℕ) (xs : List ℕ) → v.service ≡ xs → is_open v.phase ≡ true → Inv g o d v → Meets (withdrawing v t xs) Keeps
  withdrawing_keeps v o t [] is work I = accept_meets Keeps _ _ _ (o, I)
  withdrawing_keeps v o t (x ∷ xs) is work I =
      let S : Holds o (x ∷ xs) in_service = rw is at I.stock.served in
      let fr : From o (x ∷ []) in_service = holds_part o (x ∷ xs) (x ∷ []) xs in_service (λ y. omega arith) S in
      accept_meets Keeps _ _ _ (
        hand (x ∷ []) (on_ticket t) o,
        record {
          drive = drive_handed g o d (x ∷ []) in_service (on_ticket t) I.drive fr refl refl refl;
          stock =
              record {
                served = holds_split o (x ∷ xs) (x ∷ []) xs (on_ticket t) in_service (λ y. omega arith) S;
                coming = holds_kept o (x ∷ []) in_service (on_ticket t) v.unsettled free fr (differ in_service free refl) I.stock.coming;
              };
          off = I.off;
          tickets = tickets_taken o v.tickets t x in_service I.tickets (S.mine x (omega (arith, one_same x x refl))) refl;
          files =
              files_moved g o (hand (x ∷ []) (on_ticket t) o) d d v.files I.files
              (λ e p y. hand_kept o (x ∷ []) in_service (on_ticket t) (at_slot e p) y fr (differ in_service (at_slot e p) refl)) (λ e _. refl);
          bare = at_work v.phase _ _ _ _ work;
          own = I.own;
          counted = I.counted;
        },
      )

  pub withdraw_keeps : (v : Memory) → Good g d v → Meets (withdraw_plan v) Keeps
  unfolding withdraw_plan
  withdraw_keeps v (o, I) =
      ask_meets Keeps _ _ _ λ work. need_meets Keeps _ _ _ λ t _. withdrawing_keeps v o t v.service refl work I

  -- a ticket is held only while the volume is open
  ticket_bare : (p : Phase) (ts ts' : List (Option ℕ)) (fs : List (Option File)) (s s' u : List ℕ) (t x : ℕ) → Bare p ts fs s u → get_or ts t None ≡ Some x → Bare p ts' fs s' u
  ticket_bare Shut ts ts' fs s s' u t x B at = absurd (none_not x (sym (B.0.tickets t) ∙ at))
  ticket_bare Open ts ts' fs s s' u t x B at = tt
  ticket_bare Closing ts ts' fs s s' u t x B at = absurd (none_not x (sym (B.tickets t) ∙ at))

  pub deposit_keeps : (v : Memory) (t x : ℕ) → Good g d v → Meets (deposit_plan t x v) Keeps
  unfolding deposit_plan
  deposit_keeps v t x (o, I) =
      ask_meets Keeps _ _ _ λ q.
      let at = address_is (get_or v.tickets t None) x q in
      let own : o x ≡ on_ticket t = I.tickets t x at in
      let fr : From o (x ∷ []) (on_ticket t) = from_one o x (on_ticket t) own in
      accept_meets Keeps _ _ _ (
        hand (x ∷ []) in_service o,
        record {
          drive = drive_handed g o d (x ∷ []) (on_ticket t) in_service I.drive fr refl refl refl;
          stock =
              record {
                served = holds_join o v.service (x ∷ []) (on_ticket t) in_service I.stock.served (holds_one o x (on_ticket t) own) (differ (on_ticket t) in_service refl);
                coming = holds_kept o (x ∷ []) (on_ticket t) in_service v.unsettled free fr (differ (on_ticket t) free refl) I.stock.coming;
              };
          off = I.off;
          tickets = tickets_spent o v.tickets t x in_service I.tickets at;
          files =
              files_moved g o (hand (x ∷ []) in_service o) d d v.files I.files
              (λ e p y. hand_kept o (x ∷ []) (on_ticket t) in_service (at_slot e p) y fr (differ (on_ticket t) (at_slot e p) refl)) (λ e _. refl);
          bare = ticket_bare v.phase v.tickets _ v.files v.service _ v.unsettled t x I.bare at;
          own = I.own;
          counted = I.counted;
        },
      )

  pub place_keeps : (r : Rules) (v : Memory) (bs : List ℕ) (i p t x : ℕ) → AllByRecursion (λ b. b < 256) bs → Good g d v → Meets (place_plan r bs i p t x d v) Keeps
  unfolding place_plan
  place_keeps r v bs i p t x bytes (o, I) =
      ask_meets Keeps _ _ _ λ n. ask_meets Keeps _ _ _ λ work. need_meets Keeps _ _ _ λ f file. need_meets Keeps _ _ _ λ u q. ask_meets Keeps _ _ _ λ k.
      let at = address_is (get_or v.tickets t None) x k in
      let e = f.entry in
      let F = I.files.each i f file in
      let hole : get_or f.slots p Empty ≡ Empty = empty_is (get_or f.slots p Empty) u (slot_found f p empty_slot u q) in
      let own : o x ≡ on_ticket t = I.tickets t x at in
      let fr : From o (x ∷ []) (on_ticket t) = from_one o x (on_ticket t) own in
      let inside : InRegion g x = not_lost g o d x (on_ticket t) I.drive own refl in
      let o' : Ledger = hand (x ∷ []) (at_slot e p) o in
      let others : (e' p' y : ℕ) → o y ≡ at_slot e' p' → o' y ≡ at_slot e' p' = λ e' p' y.
      hand_kept o (x ∷ []) (on_ticket t) (at_slot e p) (at_slot e' p') y fr (differ (on_ticket t) (at_slot e' p') refl) in
      let elsewhere : (e' : ℕ) → e' < g.entries → shown (posted d x bs) (entry_at e') ≡ shown d (entry_at e') = λ e' l.
      shown_elsewhere d x bs (entry_at e') (λ z. omega arith) in
      post_meets Keeps _ _ _ _ (
        o',
        record {
          drive =
              drive_page g o' d x bs (drive_handed g o d (x ∷ []) (on_ticket t) (at_slot e p) I.drive fr refl refl refl) inside
              (eqb-true (length bs) 512 n, bytes);
          stock =
              record {
                served = holds_kept o (x ∷ []) (on_ticket t) (at_slot e p) v.service in_service fr (differ (on_ticket t) in_service refl) I.stock.served;
                coming = holds_kept o (x ∷ []) (on_ticket t) (at_slot e p) v.unsettled free fr (differ (on_ticket t) free refl) I.stock.coming;
              };
          off = off_same g d (posted d x bs) v.chart v.unsettled I.off (λ k l. shown_elsewhere d x bs (section_at k) (λ z. omega arith));
          tickets = tickets_spent o v.tickets t x (at_slot e p) I.tickets at;
          files =
              files_put g o o' d (posted d x bs) v.files i (with_slot f p (Nulled x)) I.files
              (slot_put o o' (posted d x bs) f p (Nulled x) F
              (λ y is. rw (← is) (hand_one o (at_slot e p) x)) (λ p' y _. others e p' y) (rw hole refl) (elsewhere e F.low))
              (λ j f' h same. I.files.alone j i f' f h file same)
              (λ f' _ F'. file_moved g o o' d (posted d x bs) f' F' (others f'.entry) (elsewhere f'.entry F'.low));
          bare = at_work v.phase _ _ _ _ work;
          own = I.own;
          counted = I.counted;
        },
      )

  pub read_keeps : (v : Memory) (n i p : ℕ) → Good g d v → Meets (read_plan n i p d v) Keeps
  unfolding read_plan
  read_keeps v n i p G =
      ask_meets Keeps _ _ _ λ _. ask_meets Keeps _ _ _ λ _. need_meets Keeps _ _ _ λ f _. need_meets Keeps _ _ _ λ a _.
      accepted_meets Keeps _ _ (accept_meets Keeps _ _ _ G)

  pub clear_keeps : (v : Memory) (i p : ℕ) → Good g d v → Meets (clear_plan i p v) Keeps
  unfolding clear_plan
  clear_keeps v i p (o, I) =
      ask_meets Keeps _ _ _ λ work. need_meets Keeps _ _ _ λ f file. need_meets Keeps _ _ _ λ s q.
      let F = I.files.each i f file in
      let c = cleared_is (get_or f.slots p Empty) s (slot_found f p cleared s q) in
      accept_meets Keeps _ _ _ (
        o,
        record {
          drive = I.drive;
          stock = I.stock;
          off = I.off;
          tickets = I.tickets;
          files =
              files_put g o o d d v.files i (with_slot f p s) I.files
              (slot_put o o d f p s F (λ x h. F.slots p x (c.0 x h)) (λ p' x _ own. own) c.1 refl)
              (λ j f' h same. I.files.alone j i f' f h file same) (λ f' _ F'. F');
          bare = at_work v.phase _ _ _ _ work;
          own = I.own;
          counted = I.counted;
        },
      )

  pub deactivate_keeps : (v : Memory) (i : ℕ) → Good g d v → Meets (deactivate_plan i v) Keeps
  unfolding deactivate_plan
  deactivate_keeps v i (o, I) =
      ask_meets Keeps _ _ _ λ work. need_meets Keeps _ _ _ λ f file. ask_meets Keeps _ _ _ λ _.
      accept_meets Keeps _ _ _ (
        o,
        record {
          drive = I.drive;
          stock = I.stock;
          off = I.off;
          tickets = I.tickets;
          files = files_drop g o d v.files i I.files;
          bare = at_work v.phase _ _ _ _ work;
          own = I.own;
          counted = I.counted;
        },
      )

  -- an address that has left is named by nothing that the drive may hold, once its entry is written
  reclaim_drive : (o : Ledger) (f : File) (p x : ℕ) → OnDrive g o d → InFile g o d f → get_or f.slots p Empty ≡ Left x
      → pending d (entry_at f.entry) ≡ false → o x ≡ at_slot f.entry p → OnDrive g (hand (x ∷ []) in_service o) d
  reclaim_drive o f p x D F left still own =
      let e = f.entry in
      let fr : From o (x ∷ []) (at_slot e p) = from_one o x (at_slot e p) own in
      let fit = entry_fits g o d e f.meter f.slots D F.slots F.metered F.long in
      record {
        formed = D.formed;
        sized = D.sized;
        within = within_handed g o d (x ∷ []) (at_slot e p) in_service D fr refl;
        named = λ e' p' y bs z l ps is at h.
            hand_kept o (x ∷ []) (at_slot e p) in_service (at_slot e' p') y fr
            (λ i.
            let ee : e ≡ e' = cc in
            let pp : p ≡ p' = cc in
            let here : Possible d (entry_at e) bs = rw ee ps in
            let bytes : bs ≡ entry_bytes g.id (entry_of f) = same_bytes bs _ (sym (quiet_possible d (entry_at e) bs still here) ∙ F.shows) in
            let read : z ≡ entry_of f = entry_read_back g.id (entry_of f) z g.fits fit (rw bytes at is) in
            let none : get_or z.slots p' 0 ≡ 0 = ap (λ (w : Entry). get_or w.slots p' 0) read ∙ rw (← pp) (get_or_mapped on_entry f.slots p Empty ∙ ap on_entry left) in
            omega arith)
            (D.named e' p' y bs z l ps is at h);
        mapped = λ y bs s l ps is h. hand_kept o (x ∷ []) (at_slot e p) in_service free y fr (differ (at_slot e p) free refl) (D.mapped y bs s l ps is h);
        labelled = D.labelled;
      }

  pub reclaim_keeps : (v : Memory) (i p : ℕ) → Good g d v → Meets (reclaim_plan i p d v) Keeps
  unfolding reclaim_plan
  reclaim_keeps v i p (o, I) =
      ask_meets Keeps _ _ _ λ work. need_meets Keeps _ _ _ λ f file. need_meets Keeps _ _ _ λ x q. ask_meets Keeps _ _ _ λ _. ask_meets Keeps _ _ _ λ still.
      let F = I.files.each i f file in
      let e = f.entry in
      let left = left_is (get_or f.slots p Empty) x (slot_found f p left_address x q) in
      let own : o x ≡ at_slot e p = F.slots p x (rw left refl) in
      let fr : From o (x ∷ []) (at_slot e p) = from_one o x (at_slot e p) own in
      let o' : Ledger = hand (x ∷ []) in_service o in
      accept_meets Keeps _ _ _ (
        o',
        record {
          drive = reclaim_drive o f p x I.drive F left (not-true (pending d (entry_at e)) still) own;
          stock =
              record {
                served = holds_join o v.service (x ∷ []) (at_slot e p) in_service I.stock.served (holds_one o x (at_slot e p) own) (differ (at_slot e p) in_service refl);
                coming = holds_kept o (x ∷ []) (at_slot e p) in_service v.unsettled free fr (differ (at_slot e p) free refl) I.stock.coming;
              };
          off = I.off;
          tickets = tickets_handed o v.tickets (x ∷ []) (at_slot e p) in_service I.tickets fr refl;
          files =
              files_put g o o' d d v.files i (with_slot f p Empty) I.files
              (slot_put o o' d f p Empty F (λ y h. absurd h)
              (λ p' y ne. hand_kept o (x ∷ []) (at_slot e p) in_service (at_slot e p') y fr (slot_differs e p e p' (λ _ z. ne z))) (rw left refl) refl)
              (λ j f' h same. I.files.alone j i f' f h file same)
              (λ f' ne F'.
              file_moved g o o' d d f' F'
              (λ p' y. hand_kept o (x ∷ []) (at_slot e p) in_service (at_slot f'.entry p') y fr (slot_differs e p f'.entry p' (λ z _. ne z))) refl);
          bare = at_work v.phase _ _ _ _ work;
          own = I.own;
          counted = I.counted;
        },
      )

  -- a file's entry is posted
  entry_posted : (v : Memory) (o : Ledger) (i : ℕ) (f : File) (x : Entry) → is_open v.phase ≡ true → Inv g o d v → entry_of f ≡ x → f.entry < g.entries
      → f.meter < 2 ^ 32 → length f.slots ≡ 64 → Slots o f.entry f.slots
      → ((j : ℕ) (f' : File) → get_or v.files j None ≡ Some f' → f'.entry ≡ f.entry → j ≡ i)
      → Good g (posted d (entry_at f.entry) (entry_bytes v.id x)) (with_file v i (Some f))
  entry_posted v o i f x work I is low metered long S only =
      let e = f.entry in
      let id_is = (I.own (not_shut v.phase work)).0 in
      let fit : FittingEntry (entry_of f) = entry_fits g o d e f.meter f.slots I.drive S metered long in
      let d' = posted d (entry_at e) (entry_bytes v.id x) in (
        o,
        record {
          drive =
              drive_entry g o d e v.id x I.drive low id_is (subst FittingEntry is fit)
              (λ p y at h. named_own o e f.slots S p y (subst (λ (w : Entry). get_or w.slots p 0 ≡ y) (sym is) at) h);
          stock = I.stock;
          off = off_same g d d' v.chart v.unsettled I.off (λ k l. shown_elsewhere d (entry_at e) _ (section_at k) (λ z. omega arith));
          tickets = I.tickets;
          files =
              files_put g o o d d' v.files i f I.files
              (record {
                slots = S;
                shows = shown_posted d (entry_at e) _ ∙ (λ j. readable (entry_bytes (id_is j) (sym is j)));
                low = low;
                metered = metered;
                long = long;
              })
              only
              (λ f' ne F'. file_moved g o o d d' f' F' (λ p y own. own) (shown_elsewhere d (entry_at e) _ (entry_at f'.entry) (λ z. ne (omega arith))));
          bare = at_work v.phase _ _ _ _ work;
          own = I.own;
          counted = I.counted;
        },
      )

  pub update_keeps : (r : Rules) (v : Memory) (n i : ℕ) → Good g d v → Meets (update_plan r n i d v) Keeps
  unfolding update_plan
  update_keeps r v n i (o, I) =
      ask_meets Keeps _ _ _ λ _. ask_meets Keeps _ _ _ λ work. need_meets Keeps _ _ _ λ f file. ask_meets Keeps _ _ _ λ _.
      let F = I.files.each i f file in
      post_meets Keeps _ _ _ _
      (entry_posted v o i (with_slots f (map (updated d) f.slots)) _ work I
      (ap (λ (l : List ℕ). record { meter = f.meter; slots = l }) (sym (all_updated d f.slots)))
      F.low F.metered (length-map f.slots (updated d) ∙ F.long) (updated_slots d o f.entry f.slots F.slots)
      (λ j f' h same. I.files.alone j i f' f h file same))

  -- an entry of the volume that no file holds
  pub taken_is : (v : Memory) (o : Ledger) (e : ℕ) → is_open v.phase ≡ true → Inv g o d v → (ltb e v.entries && not (in_some_file v.files e)) ≡ true
      → (e < g.entries) × ((j : ℕ) (f : File) → get_or v.files j None ≡ Some f → f.entry ≡ e → ⊥)
  taken_is v o e work I h =
      let hs = and_parts (ltb e v.entries) (not (in_some_file v.files e)) h in
      let l = ltb-true e v.entries hs.0 in
      let many = (I.own (not_shut v.phase work)).1 in
      (omega arith, in_none e v.files (not-true (in_some_file v.files e) hs.1))

  pub create_keeps : (r : Rules) (v : Memory) (n i e meter : ℕ) → meter < 2 ^ 32 → Good g d v → Meets (create_plan r n i e meter d v) Keeps
  unfolding create_plan
  create_keeps r v n i e meter fits (o, I) =
      ask_meets Keeps _ _ _ λ _. ask_meets Keeps _ _ _ λ work. ask_meets Keeps _ _ _ λ _. ask_meets Keeps _ _ _ λ q. ask_meets Keeps _ _ _ λ _.
      need_of_meets Keeps _ _ _ _ λ x _.
      let t = taken_is v o e work I q in
      post_meets Keeps _ _ _ _
      (entry_posted v o i (record { entry = e; meter = meter; slots = replicate 64 Empty }) _ work I refl t.0 fits refl (none_has o e)
      (λ j f' h same. absurd (t.1 j f' h same)))

  pub activate_keeps : (v : Memory) (n i e : ℕ) → Good g d v → Meets (activate_plan n i e d v) Keeps
  unfolding activate_plan
  activate_keeps v n i e (o, I) =
      ask_meets Keeps _ _ _ λ _. ask_meets Keeps _ _ _ λ work. ask_meets Keeps _ _ _ λ _. ask_meets Keeps _ _ _ λ q.
      need_of_meets Keeps _ _ _ _ λ x w.
      let t = taken_is v o e work I q in
      let own = I.own (not_shut v.phase work) in
      let D = I.drive in
      let region = page_region g.entries g.records in
      let sound : sound_entry 0 g.id region (bytes_in (shown d (entry_at e))) ≡ Some x =
      (λ j. sound_entry 0 (sym own.0 j) (page_region (sym own.1 j) (sym D.sized j)) (bytes_in (shown d (entry_at e)))) ∙ wanted_is _ _ x w in
      let read = entry_readable g.id (shown d (entry_at e)) x (sound_whole g.id region (bytes_in (shown d (entry_at e))) x sound) in
      let bs = read.0 in
      let may = shown_possible d (entry_at e) bs read.1 in
      let sound' : sound_entry 0 g.id region bs ≡ Some x = subst (λ (s : State). sound_entry 0 g.id region (bytes_in s) ≡ Some x) read.1 sound in
      let law = a_sound_entry_is_the_record_of_what_is_read 0 g.id region bs x (omega arith) (possible_bytes d (entry_at e) bs D.formed may) sound' in
      accept_meets Keeps _ _ _ (
        o,
        record {
          drive = I.drive;
          stock = I.stock;
          off = I.off;
          tickets = I.tickets;
          files =
              files_put g o o d d v.files i (record { entry = e; meter = x.meter; slots = map loaded x.slots }) I.files
              (record {
                slots = λ p y h.
                    let at = loaded_has (get_or x.slots p 0) y (rw (get_or_mapped loaded x.slots p 0) at h) in
                    D.named e p y bs x t.0 may read.2 at.0 at.1;
                shows =
                    read.1 ∙ (ap readable law.0
                    ∙ ap (λ (l : List ℕ). readable (entry_bytes g.id (record { meter = x.meter; slots = l }))) (sym (loaded_back x.slots)));
                low = t.0;
                metered = law.1.meter;
                long = length-map x.slots loaded ∙ law.1.all;
              })
              (λ j f' h same. absurd (t.1 j f' h same)) (λ f' _ F'. F');
          bare = at_work v.phase _ _ _ _ work;
          own = I.own;
          counted = I.counted;
        },
      )
