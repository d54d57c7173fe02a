-- Each call keeps what holds of the pages.
use Rattle.std.proofs.Common.{◌≡◌, ℕ, ◌+◌, ◌^◌, ◌<◌, Bool, true, false, cond, not, eqb, ltb, ◌⊎◌, List, [], ◌∷◌, map, length, get_or, set, replicate, Some, None, Option, sym, refl, ap, ◌∙◌, subst, inl, inr, arith}
use Rattle.std.proofs.lemmas.List.{length-map}
use Rattle.std.proofs.lemmas.Bool.{cases_Bool, eqb-true, eqb-false, eq-eqb, ne_eqb, not-true}
use Rattle.drive.specs.Meaning.{State, readable, Write, Meaning, size, owed, shown, pending, posted}
use Rattle.record.specs.declared.label.Label.{Label}
use Rattle.record.specs.declared.entry.Entry.{Entry}
use Rattle.record.specs.Regions.{page_region}
use Rattle.record.specs.Entries.{free_entry, sound_entry}
use Rattle.record.specs.Laws.{FittingEntry}
use Rattle.record.proofs.EntryLaws.{a_written_entry_is_read_back}
use Rattle.model.specs.declared.memory.Slot.{Slot}
use Rattle.model.specs.declared.memory.Slot.TheVariants.{Empty, Nulled, Live, Leaving, Left}
use Rattle.model.specs.declared.memory.File.{File}
use Rattle.model.specs.Volume.{entry_at, entry_bytes}
use Rattle.model.specs.Memory.{Memory}
use Rattle.model.specs.Outcomes.{Reply, Outcome, Rules}
use Rattle.model.specs.Shown.{bytes_in, label_in_state, entry_shown, whole_entry_in_state}
use Rattle.model.specs.Slots.{with_slot, with_slots, cleared, updated, loaded}
use Rattle.model.specs.Stock.{counting_free, oldest}
use Rattle.model.specs.Plans.{is_open, is_idle, is_free, entry_when, open_plan, close_plan, finish_plan, create_plan, activate_plan, deactivate_plan, update_plan, place_plan, read_plan, clear_plan, reclaim_plan, withdrawing, withdraw_plan, deposit_plan, take_from, give_oldest, balance_plan, drain_plan}
use Rattle.model.specs.Mending.{Unmended, mended_slots, mended, first_unmended, first_inexact, is_salvage, end_or_section, map_or_entry, salvage_plan}
use Rattle.model.specs.Calls.{Call, open', create, activate, withdraw, place, deposit, read, update, clear, reclaim, deactivate, balance, close, drain, finish, salvage, plan, with_write}
use Rattle.model.specs.Histories.{History, called, Fitting, is_accepted, takes_entry, entry_of_file, gives_meter, meter_of_entry, Placed}
use Rattle.model.proofs.Possible.{shown_posted, shown_elsewhere, shown_possible}
use Rattle.model.proofs.ReadBack.{sound_whole, none_not}
use Rattle.model.proofs.Lists.{set_read, get_or_replicated, get_or_mapped}
use Rattle.model.proofs.Ledger.{on_ticket, at_slot, Ledger, differ}
use Rattle.model.proofs.Parts.{Shape, InRegion, OnDrive, Has, on_entry, entry_of, InFile, Inv, not_lost, entry_fits}
use Rattle.model.proofs.Meets.{Meets, accept_meets, ask_meets, need_meets, need_of_meets, cond_meets, accepted_meets, post_meets}
use Rattle.model.proofs.FileCalls.{not_shut, address_is, slot_found, wanted_is, wanted_passes, updated_slots, all_updated, taken_is}
use Rattle.model.proofs.MapCalls.{lowest_counted, low_cover, label_own}
use Rattle.model.proofs.SalvageCalls.{region_of, form_at, unmended_is, inexact_is, all_quiet, form_shown}
use Rattle.model.proofs.Pages.{MayBe, may_shown, may_quiet, Page, OnPages, InFiles, pages_metered, named_in, pages_apart, pages_low, pages_entry, file_called, meter_called, files_on, files_in}

-- ---- slots

empty_not : (x : ℕ) → Empty ≡ Nulled x → ⊥
empty_not x i = let z : ◌≡◌ {A = ℕ} 0 1 = cc in omega arith

live_not : (y x : ℕ) → Live y ≡ Nulled x → ⊥
live_not y x i = let z : ◌≡◌ {A = ℕ} 0 1 = cc in omega arith

leaving_not : (y x : ℕ) → Leaving y ≡ Nulled x → ⊥
leaving_not y x i = let z : ◌≡◌ {A = ℕ} 0 1 = cc in omega arith

left_not : (y x : ℕ) → Left y ≡ Nulled x → ⊥
left_not y x i = let z : ◌≡◌ {A = ℕ} 0 1 = cc in omega arith

nulled_same : (x y : ℕ) → Nulled x ≡ Nulled y → x ≡ y
nulled_same x y i = cc

cleared_not : (s s' : Slot) (x : ℕ) → cleared s ≡ Some s' → s' ≡ Nulled x → ⊥
cleared_not Empty s' x h i = none_not s' h
cleared_not (Nulled y) s' x h i = let e : Left y ≡ s' = cc in left_not y x (e ∙ i)
cleared_not (Live y) s' x h i = let e : Leaving y ≡ s' = cc in leaving_not y x (e ∙ i)
cleared_not (Leaving y) s' x h i = none_not s' h
cleared_not (Left y) s' x h i = none_not s' h

loaded_not : (y x : ℕ) → loaded y ≡ Nulled x → ⊥
loaded_not y x i =
    let P : Bool → Type 0 = λ b. cond b Empty (Live y) ≡ Nulled x in
    elim (cases_Bool (eqb y 0)) [ inl e ↦ empty_not x (subst P e i) | inr e ↦ live_not y x (subst P e i) ]

-- a slot is put in place that is not Nulled
slot_less : (ss : List Slot) (p : ℕ) (s : Slot) → ((x : ℕ) → s ≡ Nulled x → ⊥) → (p' x : ℕ) → get_or (set ss p s) p' Empty ≡ Nulled x → get_or ss p' Empty ≡ Nulled x
slot_less ss p s never p' x at = elim (set_read ss p s p' Empty (Nulled x) at) [ inl q ↦ absurd (never x q.1) | inr q ↦ q.0 ]

module _ (d : Meaning) where
  updated_nulled : (s : Slot) (x : ℕ) → updated d s ≡ Nulled x → s ≡ Nulled x
  updated_nulled Empty x i = i
  updated_nulled (Nulled y) x i =
      let P : Bool → Type 0 = λ b. cond b (Nulled y) (Live y) ≡ Nulled x in
      elim (cases_Bool (pending d y)) [ inl e ↦ subst P e i | inr e ↦ absurd (live_not y x (subst P e i)) ]
  updated_nulled (Live y) x i = i
  updated_nulled (Leaving y) x i = absurd (left_not y x i)
  updated_nulled (Left y) x i = i

  -- what an update names was on the entry, or is a page that has settled
  updated_named : (s : Slot) (x : ℕ) → on_entry (updated d s) ≡ x → 0 < x → (on_entry s ≡ x) ⊎ ((s ≡ Nulled x) × (pending d x ≡ false))
  updated_named Empty x i pos = inl i
  updated_named (Nulled y) x i pos =
      let P : Bool → Type 0 = λ b. on_entry (cond b (Nulled y) (Live y)) ≡ x in
      elim (cases_Bool (pending d y)) [
        | inl e ↦ let j : 0 ≡ x = subst P e i in absurd (omega arith)
        | inr e ↦ let j : y ≡ x = subst P e i in inr (ap Nulled j, subst (λ (z : ℕ). pending d z ≡ false) j e)
      ]
  updated_named (Live y) x i pos = inl i
  updated_named (Leaving y) x i pos = absurd (omega arith)
  updated_named (Left y) x i pos = inl i

-- ---- what the questions tell

positive : (n : ℕ) → not (eqb n 0) ≡ true → 0 < n
positive n i = let z = eqb-false n 0 (not-true (eqb n 0) i) in omega arith

-- ---- mended entries keep their meter

record MendedMeter (id : ℕ) (s : State) (x : Entry) : Type 0 where
  same : (z : Entry) → whole_entry_in_state id s ≡ Some z → z.meter ≡ x.meter
  whose : (x.meter ≡ 0) ⊎ ((z : Entry) × (whole_entry_in_state id s ≡ Some z))

mended_meter : (g : Shape) (s : State) (kept : List ℕ) → MendedMeter g.id s (mended (region_of g) kept (whole_entry_in_state g.id s))
mended_meter g s kept = go (whole_entry_in_state g.id s) refl
  where
    go : (q : Option Entry) → whole_entry_in_state g.id s ≡ q → MendedMeter g.id s (mended (region_of g) kept q)
    go None is = record { same = λ z h. absurd (none_not z (sym is ∙ h)); whose = inl refl }
    go (Some y) is =
        let form : Entry = record { meter = y.meter; slots = mended_slots (region_of g) kept y.slots } in
        let P : Bool → Type 0 = λ b. MendedMeter g.id s (cond b free_entry form) in
        let as_y : (z : Entry) → whole_entry_in_state g.id s ≡ Some z → z.meter ≡ y.meter = λ z h.
        let both : Some z ≡ Some y = sym h ∙ is in
        let same : z ≡ y = cc in
        ap (λ (w : Entry). w.meter) same in
        elim (cases_Bool (eqb y.meter 0)) [
          | inl e ↦ subst P (sym e) (record { same = λ z h. as_y z h ∙ eqb-true y.meter 0 e; whose = inl refl })
          | inr e ↦ subst P (sym e) (record { same = as_y; whose = inr (y, is) })
        ]

-- ---- the calls

module _ (g : Shape) (d : Meaning) (h : History) where
  -- what a call leaves: the pages at the history before it, the files at the history with it
  abbrev pub Stays : Call → Memory → Option Write → Type 0
  Stays c v w =
      OnPages g h (λ e. gives_meter c e (meter_of_entry h e)) (with_write w d)
      × ((q : Outcome) → is_accepted q ≡ true → InFiles (called c q ∷ h) (with_write w d) v.files)

  later : (c : Call) (q : Outcome) (e n p : ℕ) (bs : List ℕ) → Placed h e n p bs → Placed (called c q ∷ h) e n p bs
  later c q e n p bs placed = inr placed

  -- a call that takes no entry and gives no meter
  abbrev TakesNone : Call → Type 0
  TakesNone c = ((i : ℕ) (old : Option ℕ) → takes_entry c i old ≡ old) × ((e old : ℕ) → gives_meter c e old ≡ old)

  -- a used file's entry is one that its record may be
  may_file : (o : Ledger) (f : File) → OnDrive g o d → InFile g o d f → MayBe g d f.entry (entry_of f)
  may_file o f D F =
      let fit = entry_fits g o d f.entry f.meter f.slots D F.slots F.metered F.long in
      record {
        bytes = entry_bytes g.id (entry_of f);
        possible = shown_possible d (entry_at f.entry) (entry_bytes g.id (entry_of f)) F.shows;
        whole = (a_written_entry_is_read_back 0 g.id (region_of g) (entry_of f) (omega arith) g.fits fit).0;
      }

  -- the entry that a question found
  entry_is : (v : Memory) (o : Ledger) (e : ℕ) (t : Entry → Bool) (x : Entry) → is_open v.phase ≡ true → Inv g o d v
      → entry_when t (entry_shown d v.id v.entries e) ≡ Some x → (whole_entry_in_state g.id (shown d (entry_at e)) ≡ Some x) × (t x ≡ true)
  entry_is v o e t x work I w =
      let own = I.own (not_shut v.phase work) in
      let s = bytes_in (shown d (entry_at e)) in
      let sound : sound_entry 0 g.id (region_of g) s ≡ Some x =
      (λ j. sound_entry 0 (sym own.0 j) (page_region (sym own.1 j) (sym I.drive.sized j)) s) ∙ wanted_is t _ x w in
      (sound_whole g.id (region_of g) s x sound, wanted_passes t _ x w)

  -- the bytes that are posted are those of this volume's entry
  written_as : (M : ℕ → ℕ) (i e : ℕ) (x x' : Entry) → i ≡ g.id → x ≡ x' → OnPages g h M (posted d (entry_at e) (entry_bytes g.id x)) → OnPages g h M (posted d (entry_at e) (entry_bytes i x'))
  written_as M i e x x' own same P =
      subst (λ (j : ℕ). OnPages g h M (posted d (entry_at e) (entry_bytes j x'))) (sym own)
      (subst (λ (y : Entry). OnPages g h M (posted d (entry_at e) (entry_bytes g.id y))) same P)

  module _ (r : Rules) (o : Ledger) (v : Memory) (I : Inv g o d v) (P : OnPages g h (meter_of_entry h) d) (F : InFiles h d v.files) where
    idle_files : (c : Call) → TakesNone c → (d' : Meaning) → ((e p x : ℕ) → o x ≡ at_slot e p → shown d' x ≡ shown d x)
        → (q : Outcome) → is_accepted q ≡ true → InFiles (called c q ∷ h) d' v.files
    idle_files c idle d' seen q acc =
        files_on g h (called c q ∷ h) o d d' v.files I.files F (later c q) seen
        (λ i. file_called c q h i acc ∙ idle.0 i (entry_of_file h i)) (λ e. meter_called c q h e acc ∙ idle.1 e (meter_of_entry h e))

    idle_pages : (c : Call) → TakesNone c → OnPages g h (λ e. gives_meter c e (meter_of_entry h e)) d
    idle_pages c idle = pages_metered g h (meter_of_entry h) (λ e. gives_meter c e (meter_of_entry h e)) d (λ e. idle.1 e (meter_of_entry h e)) P

    -- a page at a slot shows the same after a write that is no page's
    slots_seen : (a : ℕ) (bs : List ℕ) → a < 8 + g.entries → (e p x : ℕ) → o x ≡ at_slot e p → shown (posted d a bs) x ≡ shown d x
    slots_seen a bs low e p x own = shown_elsewhere d a bs x (λ i. let z = not_lost g o d x (at_slot e p) I.drive own refl in omega arith)

    -- it posts nothing, and leaves the files
    idle_none : (c : Call) → TakesNone c → Stays c v None
    idle_none c idle = (idle_pages c idle, idle_files c idle d (λ e p x own. refl))

    -- it posts a label or a section, and leaves the files
    idle_low : (c : Call) → TakesNone c → (a : ℕ) (bs : List ℕ) → a < 8 → Stays c v (Some (record { at = a; bytes = bs }))
    idle_low c idle a bs low = (
      pages_low g h (λ e. gives_meter c e (meter_of_entry h e)) o d a bs low I.drive (idle_pages c idle),
      idle_files c idle (posted d a bs) (slots_seen a bs (omega arith)),
    )

    -- ---- tickets

    withdrawing_stays : (t : ℕ) (xs : List ℕ) → Meets (withdrawing v t xs) (Stays withdraw)
    withdrawing_stays t [] = accept_meets (Stays withdraw) _ _ _ (idle_none withdraw ((λ i old. refl), λ e old. refl))
    withdrawing_stays t (x ∷ xs) = accept_meets (Stays withdraw) _ _ _ (idle_none withdraw ((λ i old. refl), λ e old. refl))

    withdraw_stays : Meets (withdraw_plan v) (Stays withdraw)
    unfolding withdraw_plan
    withdraw_stays = ask_meets (Stays withdraw) _ _ _ λ _. need_meets (Stays withdraw) _ _ _ λ t _. withdrawing_stays t v.service

    deposit_stays : (t x : ℕ) → Meets (deposit_plan t x v) (Stays (deposit t x))
    unfolding deposit_plan
    deposit_stays t x = ask_meets (Stays (deposit t x)) _ _ _ λ _. accept_meets (Stays (deposit t x)) _ _ _ (idle_none (deposit t x) ((λ i old. refl), λ e old. refl))

    -- ---- slots

    -- a used file is put in place again with other slots, and nothing is posted
    again : (c : Call) → TakesNone c → (i : ℕ) (f : File) (ss : List Slot) → get_or v.files i None ≡ Some f
        → ((p x : ℕ) → get_or ss p Empty ≡ Nulled x → get_or f.slots p Empty ≡ Nulled x)
        → OnPages g h (λ e. gives_meter c e (meter_of_entry h e)) d
        × ((q : Outcome) → is_accepted q ≡ true → InFiles (called c q ∷ h) d (set v.files i (Some (with_slots f ss))))
    again c idle i f ss file less = (
      idle_pages c idle,
      λ q acc.
          files_in g h (called c q ∷ h) o d d v.files I.files F (later c q) (λ e p x own. refl) i (with_slots f ss)
          (λ j f' at same. I.files.alone j i f' f at file same)
          (λ j _. file_called c q h j acc ∙ idle.0 j (entry_of_file h j)) (λ e _. meter_called c q h e acc ∙ idle.1 e (meter_of_entry h e))
          (λ p x at.
          let z = F.nulled i f file p x (less p x at) in
          (z.0, z.1, inr z.2))
          (let z = F.took i f file in
          (file_called c q h i acc ∙ (idle.0 i (entry_of_file h i) ∙ z.0), meter_called c q h f.entry acc ∙ (idle.1 f.entry (meter_of_entry h f.entry) ∙ z.1), z.2)),
    )

    reclaim_stays : (i p : ℕ) → Meets (reclaim_plan i p d v) (Stays (reclaim i p))
    unfolding reclaim_plan
    reclaim_stays i p =
        let c = reclaim i p in
        ask_meets (Stays c) _ _ _ λ _. need_meets (Stays c) _ _ _ λ f file. need_meets (Stays c) _ _ _ λ x _. ask_meets (Stays c) _ _ _ λ _. ask_meets (Stays c) _ _ _ λ _.
        accept_meets (Stays c) _ _ _ (again c ((λ i old. refl), λ e old. refl) i f (set f.slots p Empty) file (slot_less f.slots p Empty empty_not))

    clear_stays : (i p : ℕ) → Meets (clear_plan i p v) (Stays (clear i p))
    unfolding clear_plan
    clear_stays i p =
        let c = clear i p in
        ask_meets (Stays c) _ _ _ λ _. need_meets (Stays c) _ _ _ λ f file. need_meets (Stays c) _ _ _ λ s q.
        accept_meets (Stays c) _ _ _
        (again c ((λ i old. refl), λ e old. refl) i f (set f.slots p s) file
        (slot_less f.slots p s (λ x. cleared_not (get_or f.slots p Empty) s x (slot_found f p cleared s q))))

    read_stays : (n i p : ℕ) → Meets (read_plan n i p d v) (Stays (read n i p))
    unfolding read_plan
    read_stays n i p =
        let c = read n i p in
        ask_meets (Stays c) _ _ _ λ _. ask_meets (Stays c) _ _ _ λ _. need_meets (Stays c) _ _ _ λ f _. need_meets (Stays c) _ _ _ λ a _.
        accepted_meets (Stays c) _ _ (accept_meets (Stays c) _ _ _ (idle_none c ((λ i old. refl), λ e old. refl)))

    place_stays : (bs : List ℕ) (i p t x : ℕ) → Meets (place_plan r bs i p t x d v) (Stays (place bs i p t x))
    unfolding place_plan
    place_stays bs i p t x =
        let c = place bs i p t x in
        ask_meets (Stays c) _ _ _ λ _. ask_meets (Stays c) _ _ _ λ _. need_meets (Stays c) _ _ _ λ f file. need_meets (Stays c) _ _ _ λ _ _. ask_meets (Stays c) _ _ _ λ k.
        let own : o x ≡ on_ticket t = I.tickets t x (address_is (get_or v.tickets t None) x k) in
        let inside : InRegion g x = not_lost g o d x (on_ticket t) I.drive own refl in
        let far : (e p y : ℕ) → o y ≡ at_slot e p → y ≡ x → ⊥ = λ e p y own' z. differ (on_ticket t) (at_slot e p) refl (sym own ∙ (sym (ap o z) ∙ own')) in
        let took = F.took i f file in
        post_meets (Stays c) _ _ _ _ (
          pages_apart g h (meter_of_entry h) d x bs (λ e l z. omega arith)
              (λ e p' y w l m at pos. far e p' y (I.drive.named e p' y m.bytes w l m.possible m.whole at pos)) P,
          λ q acc.
              files_in g h (called c q ∷ h) o d (posted d x bs) v.files I.files F (later c q) (λ e p' y own'. shown_elsewhere d x bs y (far e p' y own'))
              i (with_slot f p (Nulled x)) (λ j f' at same. I.files.alone j i f' f at file same)
              (λ j _. file_called c q h j acc) (λ e _. meter_called c q h e acc)
              (λ p' y at.
              elim (set_read f.slots p (Nulled x) p' Empty (Nulled y) at) [
                | inl z ↦ (
                  bs,
                  subst (λ (a : ℕ). shown (posted d x bs) a ≡ readable bs) (nulled_same x y z.1) (shown_posted d x bs),
                  inl (acc, (took.0, took.1, sym z.0, refl)),
                )
                | inr z ↦
                    let old = F.nulled i f file p' y z.0 in
                    (old.0, shown_elsewhere d x bs y (far f.entry p' y ((I.files.each i f file).slots p' y (rw z.0 refl))) ∙ old.1, inr old.2)
              ])
              (file_called c q h i acc ∙ took.0, meter_called c q h f.entry acc ∙ took.1, took.2),
        )

    -- ---- files

    deactivate_stays : (i : ℕ) → Meets (deactivate_plan i v) (Stays (deactivate i))
    unfolding deactivate_plan
    deactivate_stays i =
        let c = deactivate i in
        ask_meets (Stays c) _ _ _ λ _. need_meets (Stays c) _ _ _ λ f file. ask_meets (Stays c) _ _ _ λ _.
        accept_meets (Stays c) _ _ _ (
          P,
          λ q acc.
              let G = idle_files c ((λ i old. refl), λ e old. refl) d (λ e p x own. refl) q acc in
              record { nulled = λ j f' at. G.nulled j f' (was j f' at); took = λ j f' at. G.took j f' (was j f' at) },
        )
      where
        was : (j : ℕ) (f : File) → get_or (set v.files i None) j None ≡ Some f → get_or v.files j None ≡ Some f
        was j f at = elim (set_read v.files i None j None (Some f) at) [ inl q ↦ absurd (none_not f q.1) | inr q ↦ q.0 ]

    update_stays : (n i : ℕ) → Meets (update_plan r n i d v) (Stays (update n i))
    unfolding update_plan
    update_stays n i =
        let c = update n i in
        ask_meets (Stays c) _ _ _ λ _. ask_meets (Stays c) _ _ _ λ work. need_meets (Stays c) _ _ _ λ f file. ask_meets (Stays c) _ _ _ λ _.
        let e = f.entry in
        let f' : File = with_slots f (map (updated d) f.slots) in
        let G = I.files.each i f file in
        let took = F.took i f file in
        let may = may_file o f I.drive G in
        let fit : FittingEntry (entry_of f') =
        entry_fits g o d e f.meter f'.slots I.drive (updated_slots d o e f.slots G.slots) G.metered (length-map f.slots (updated d) ∙ G.long) in
        let low = G.low in
        let seen = slots_seen (entry_at e) _ (omega arith) in
        post_meets (Stays c) _ _ _ _ (
          written_as (meter_of_entry h) v.id e (entry_of f') _ (I.own (not_shut v.phase work)).0
              (ap (λ (l : List ℕ). record { meter = f.meter; slots = l }) (sym (all_updated d f.slots)))
              (pages_entry g h (meter_of_entry h) (meter_of_entry h) o d e (entry_of f') I.drive P low fit
              (λ p x at pos.
              let s = get_or f.slots p Empty in
              let at' : on_entry (updated d s) ≡ x = sym (ap on_entry (get_or_mapped (updated d) f.slots p Empty)) ∙ (sym (get_or_mapped on_entry f'.slots p Empty) ∙ at) in
              elim (updated_named d s x at' pos) [
                | inl z ↦
                    let there : get_or (entry_of f).slots p 0 ≡ x = get_or_mapped on_entry f.slots p Empty ∙ z in
                    (P.pages e p x (entry_of f) low may there pos, named_in g o d I.drive e p x (entry_of f) low may there pos)
                | inr z ↦
                    let q = F.nulled i f file p x z.0 in (
                      record { quiet = z.1; bytes = q.0; shows = q.1; placed = q.2 },
                      not_lost g o d x (at_slot e p) I.drive (G.slots p x (rw z.0 refl)) refl,
                    )
              ])
              (λ e' _. refl) (λ y m. P.metered e y low m) (inr took.1) (λ z. absurd (let l = took.2 in omega arith))),
          λ q acc.
              files_in g h (called c q ∷ h) o d _ v.files I.files F (later c q) seen
              i f' (λ j w at same. I.files.alone j i w f at file same)
              (λ j _. file_called c q h j acc) (λ e' _. meter_called c q h e' acc)
              (λ p x at.
              let was : get_or f.slots p Empty ≡ Nulled x = updated_nulled d (get_or f.slots p Empty) x (sym (get_or_mapped (updated d) f.slots p Empty) ∙ at) in
              let z = F.nulled i f file p x was in
              (z.0, seen e p x (G.slots p x (rw was refl)) ∙ z.1, inr z.2))
              (file_called c q h i acc ∙ took.0, meter_called c q h e acc ∙ took.1, took.2),
        )

    create_stays : (n i e meter : ℕ) → meter < 2 ^ 32 → Meets (create_plan r n i e meter d v) (Stays (create n i e meter))
    unfolding create_plan
    create_stays n i e meter fits =
        let c = create n i e meter in
        ask_meets (Stays c) _ _ _ λ _. ask_meets (Stays c) _ _ _ λ work. ask_meets (Stays c) _ _ _ λ _. ask_meets (Stays c) _ _ _ λ q. ask_meets (Stays c) _ _ _ λ some.
        need_of_meets (Stays c) _ _ _ _ λ y w.
        let t = taken_is g d v o e work I q in
        let low = t.0 in
        let pos = positive meter some in
        let f : File = record { entry = e; meter = meter; slots = replicate 64 Empty } in
        let shows = entry_is v o e is_free y work I w in
        let fit : FittingEntry (entry_of f) = entry_fits g o d e meter (replicate 64 Empty) I.drive (λ p x has. absurd (subst (λ (s : Slot). Has s x) (get_or_replicated {A = Slot} 64 Empty p) has)) fits refl in
        post_meets (Stays c) _ _ _ _ (
          written_as (λ e'. gives_meter c e' (meter_of_entry h e')) v.id e (entry_of f) _ (I.own (not_shut v.phase work)).0 refl
              (pages_entry g h (meter_of_entry h) (λ e'. gives_meter c e' (meter_of_entry h e')) o d e (entry_of f) I.drive P low fit
              (λ p x at l. absurd (let z = get_or_replicated {A = ℕ} 64 0 p in omega arith))
              (λ e' ne. rw (ne_eqb e e' ne)) (λ z m. inl (P.unmetered e y z low shows.0 (eqb-true y.meter 0 shows.1) m)) (inr (rw (eq-eqb e e refl)))
              (λ z. absurd (omega arith))),
          λ q' acc.
              files_in g h (called c q' ∷ h) o d _ v.files I.files F (later c q') (slots_seen (entry_at e) _ (omega arith))
              i f (λ j f' at same. absurd (t.1 j f' at same))
              (λ j ne. file_called c q' h j acc ∙ rw (ne_eqb i j (λ z. ne (sym z)))) (λ e' ne. meter_called c q' h e' acc ∙ rw (ne_eqb e e' (λ z. ne (sym z))))
              (λ p x at. absurd (empty_not x (sym (get_or_replicated {A = Slot} 64 Empty p) ∙ at)))
              (file_called c q' h i acc ∙ rw (eq-eqb i i refl), meter_called c q' h e acc ∙ rw (eq-eqb e e refl), pos),
        )

    activate_stays : (n i e : ℕ) → Meets (activate_plan n i e d v) (Stays (activate n i e))
    unfolding activate_plan
    activate_stays n i e =
        let c = activate n i e in
        ask_meets (Stays c) _ _ _ λ _. ask_meets (Stays c) _ _ _ λ work. ask_meets (Stays c) _ _ _ λ _. ask_meets (Stays c) _ _ _ λ q.
        need_of_meets (Stays c) _ _ _ _ λ x w.
        let t = taken_is g d v o e work I q in
        let shows = entry_is v o e (λ y. not (is_free y)) x work I w in
        let pos = positive x.meter shows.1 in
        accept_meets (Stays c) _ _ _ (
          P,
          λ q' acc.
              files_in g h (called c q' ∷ h) o d d v.files I.files F (later c q') (λ e' p y own. refl)
              i (record { entry = e; meter = x.meter; slots = map loaded x.slots }) (λ j f' at same. absurd (t.1 j f' at same))
              (λ j ne. file_called c q' h j acc ∙ rw (ne_eqb i j (λ z. ne (sym z)))) (λ e' _. meter_called c q' h e' acc)
              (λ p y at. absurd (loaded_not (get_or x.slots p 0) y (sym (get_or_mapped loaded x.slots p 0) ∙ at))) (
                file_called c q' h i acc ∙ rw (eq-eqb i i refl),
                meter_called c q' h e acc ∙ elim (P.metered e x t.0 (may_shown g d e x shows.0)) [ inl z ↦ absurd (omega arith) | inr z ↦ z ],
                pos,
              ),
        )

    -- ---- the map and the label

    oldest_stays : (c : Call) → TakesNone c → (n : ℕ) (a : Reply) (xs : List ℕ) → v.service ≡ xs → Meets (give_oldest r d v n a (oldest xs)) (Stays c)
    oldest_stays c idle n a [] is = accept_meets (Stays c) _ _ _ (idle_none c idle)
    oldest_stays c idle n a (x ∷ xs) is =
        let low = low_cover g d v o x xs is I in
        post_meets (Stays c) _ _ _ _ (idle_low c idle _ _ (omega arith))

    take_stays : (c : Call) → TakesNone c → (k : Option ℕ) → counting_free 0 v.counts ≡ k → Meets (take_from r d v k) (Stays c)
    take_stays c idle None is = accept_meets (Stays c) _ _ _ (idle_none c idle)
    take_stays c idle (Some k) is =
        let low = lowest_counted 0 v.counts k is in
        let many = I.counted in
        post_meets (Stays c) _ _ _ _ (idle_low c idle _ _ (omega arith))

    balance_stays : (n : ℕ) → Meets (balance_plan r n d v) (Stays (balance n))
    unfolding balance_plan
    balance_stays n =
        let c = balance n in
        let idle : TakesNone c = ((λ i old. refl), λ e old. refl) in
        ask_meets (Stays c) _ _ _ λ _. ask_meets (Stays c) _ _ _ λ _.
        cond_meets (Stays c) (is_idle v.chart) _ _
        (λ _.
        cond_meets (Stays c) (ltb (length v.service) 8) _ _ (λ _. take_stays c idle (counting_free 0 v.counts) refl)
        (λ _.
        cond_meets (Stays c) (ltb 24 (length v.service)) _ _ (λ _. oldest_stays c idle 16 _ v.service refl)
        (λ _. accept_meets (Stays c) _ _ _ (idle_none c idle))))
        (λ _. accept_meets (Stays c) _ _ _ (idle_none c idle))

    drain_stays : (n : ℕ) → Meets (drain_plan r n d v) (Stays (drain n))
    unfolding drain_plan
    drain_stays n =
        let c = drain n in
        ask_meets (Stays c) _ _ _ λ _. ask_meets (Stays c) _ _ _ λ _. ask_meets (Stays c) _ _ _ λ _.
        oldest_stays c ((λ i old. refl), λ e old. refl) 0 _ v.service refl

    open_stays : (n : ℕ) → Meets (open_plan r n d v) (Stays (open' n))
    unfolding open_plan
    open_stays n =
        let c = open' n in
        ask_meets (Stays c) _ _ _ λ _. ask_meets (Stays c) _ _ _ λ _. need_meets (Stays c) _ _ _ λ l _. ask_meets (Stays c) _ _ _ λ _.
        post_meets (Stays c) _ _ _ _ (idle_low c ((λ i old. refl), λ e old. refl) _ _ (omega arith))

    close_stays : Meets (close_plan v) (Stays close)
    unfolding close_plan
    close_stays =
        ask_meets (Stays close) _ _ _ λ _. ask_meets (Stays close) _ _ _ λ _. accept_meets (Stays close) _ _ _ (idle_none close ((λ i old. refl), λ e old. refl))

    finish_stays : (n : ℕ) → Meets (finish_plan r n d v) (Stays (finish n))
    unfolding finish_plan
    finish_stays n =
        let c = finish n in
        ask_meets (Stays c) _ _ _ λ _. ask_meets (Stays c) _ _ _ λ _. ask_meets (Stays c) _ _ _ λ _.
        post_meets (Stays c) _ _ _ _ (idle_low c ((λ i old. refl), λ e old. refl) _ _ (omega arith))

    -- ---- salvage

    module _ (c : Call) (idle : TakesNone c) (l : Label) (quiet : owed d ≡ 0) (own : l.id ≡ g.id) where
      section_stays : (k : Option ℕ) → first_inexact l.id l.entries (size d) (shown d) 0 3 ≡ k → Meets (end_or_section r d v l k) (Stays c)
      section_stays None is = post_meets (Stays c) _ _ _ _ (idle_low c idle _ _ (omega arith))
      section_stays (Some k) is =
          let low = inexact_is l.id l.entries (size d) (shown d) 0 3 k is in
          post_meets (Stays c) _ _ _ _ (idle_low c idle _ _ (omega arith))

      -- the mended form of an entry names pages that the entry showed, and has its meter
      mending_stays : (q : Option Unmended) → first_unmended g.id (region_of g) (shown d) [] 0 g.entries ≡ q → Meets (map_or_entry r d v l q) (Stays c)
      mending_stays None is = section_stays (first_inexact l.id l.entries (size d) (shown d) 0 3) refl
      mending_stays (Some u) is =
          let m = unmended_is g.id (region_of g) (shown d) [] 0 g.entries u is in
          let e = u.number in
          let low : e < g.entries = omega (arith, m.0) in
          let x = form_at g.id (region_of g) (shown d) m.1.0 e in
          let A = form_shown r g d o e m.1.0 I.drive in
          let L = mended_meter g (shown d (entry_at e)) m.1.0 in
          let M : ℕ → ℕ = λ e'. gives_meter c e' (meter_of_entry h e') in
          let Q = idle_pages c idle in
          post_meets (Stays c) _ _ _ _ (
            written_as M l.id e x u.form own (sym m.1.1)
                (pages_entry g h M M o d e x I.drive Q low A.fits
                (λ p y at pos.
                let z = A.names p y at pos in
                let may = may_shown g d e z.0 z.1 in (
                  subst (λ (n : ℕ). Page d h e n p y) (L.same z.0 z.1) (Q.pages e p y z.0 low may z.2 pos),
                  named_in g o d I.drive e p y z.0 low may z.2 pos,
                ))
                (λ e' _. refl) (λ y may. Q.metered e y low may)
                (elim L.whose [
                  | inl z ↦ inl z
                  | inr z ↦ subst (λ (n : ℕ). (n ≡ 0) ⊎ (M e ≡ n)) (L.same z.0 z.1) (Q.metered e z.0 low (may_shown g d e z.0 z.1))
                ])
                (λ none y may. L.same y (may_quiet g d e y (all_quiet r g d quiet (entry_at e)) may) ∙ none)),
            idle_files c idle _ (slots_seen (entry_at e) _ (omega arith)),
          )

    salvage_stays : (n t : ℕ) → Meets (salvage_plan r n t d v) (Stays (salvage n t))
    unfolding salvage_plan
    salvage_stays n t =
        let c = salvage n t in
        let idle : TakesNone c = ((λ i old. refl), λ e old. refl) in
        ask_meets (Stays c) _ _ _ λ _. ask_meets (Stays c) _ _ _ λ _. need_meets (Stays c) _ _ _ λ l is. ask_meets (Stays c) _ _ _ λ _. ask_meets (Stays c) _ _ _ λ q.
        let own = label_own g d o l I.drive is in
        cond_meets (Stays c) (is_salvage (label_in_state (size d) (shown d 0))) _ _
        (λ _.
        mending_stays c idle l (eqb-true (owed d) 0 q) own.0 _
        (λ j. first_unmended (sym own.0 j) (page_region (sym own.1 j) (sym I.drive.sized j)) (shown d) [] 0 (sym own.1 j)))
        (λ _. post_meets (Stays c) _ _ _ _ (idle_low c idle _ _ (omega arith)))

    -- ---- every call

    pub plan_stays : (c : Call) → Fitting c → Meets (plan r c d v) (Stays c)
    unfolding plan
    plan_stays (open' n) fit = open_stays n
    plan_stays (create n f e meter) fit = create_stays n f e meter fit
    plan_stays (activate n f e) fit = activate_stays n f e
    plan_stays withdraw fit = withdraw_stays
    plan_stays (place bs f p t a) fit = place_stays bs f p t a
    plan_stays (deposit t a) fit = deposit_stays t a
    plan_stays (read n f p) fit = read_stays n f p
    plan_stays (update n f) fit = update_stays n f
    plan_stays (clear f p) fit = clear_stays f p
    plan_stays (reclaim f p) fit = reclaim_stays f p
    plan_stays (deactivate f) fit = deactivate_stays f
    plan_stays (balance n) fit = balance_stays n
    plan_stays close fit = close_stays
    plan_stays (drain n) fit = drain_stays n
    plan_stays (finish n) fit = finish_stays n
    plan_stays (salvage n t) fit = salvage_stays n t
