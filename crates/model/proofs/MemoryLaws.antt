-- What a volume keeps in memory: its counts are those of the map, it holds few addresses, and each at one place.
use Rattle.std.proofs.Common.{◌≡◌, ℕ, zero, suc, ◌+◌, ◌-◌, ◌^◌, ◌<◌, ◌≤◌, Bool, true, false, cond, eqb, ltb, ◌⊎◌, List, [], ◌∷◌, ◌++◌, map, length, get_or, set, Some, None, Option, sym, refl, ap, ◌∙◌, subst, inl, inr, arith}
use Rattle.std.proofs.lemmas.List.{length-append, length-set, length-take, get_or-set_same, get_or-set_other}
use Rattle.std.proofs.lemmas.Bool.{cases_Bool, cases_eq, ltb-true, true≢false}
use Rattle.drive.specs.Meaning.{State, readable, Write, Meaning, size, shown, pending, posted, complete, WellFormed}
use Rattle.record.specs.declared.label.Label.{Label}
use Rattle.record.specs.Regions.{in_limits, within, page_region, map_span, first_of}
use Rattle.record.specs.Sections.{bit, free_count, sound_section}
use Rattle.record.specs.Entries.{among}
use Rattle.record.specs.Laws.{FittingBits}
use Rattle.record.proofs.CountLaws.{every_free_bit_lies_in_the_region}
use Rattle.record.proofs.SectionLaws.{a_written_section_is_read_back}
use Rattle.model.specs.declared.memory.MapState.{MapState}
use Rattle.model.specs.declared.memory.MapState.TheVariants.{Idle, Writing}
use Rattle.model.specs.declared.memory.Slot.{Slot}
use Rattle.model.specs.declared.memory.Slot.TheVariants.{Empty, Nulled, Live, Leaving, Left}
use Rattle.model.specs.declared.memory.File.{File}
use Rattle.model.specs.Volume.{section_at, section_bytes}
use Rattle.model.specs.New.{new_volume}
use Rattle.model.specs.Memory.{Memory, attached, with_stock, with_file, used, held}
use Rattle.model.specs.Outcomes.{Reply, Outcome, refuse, accept, Rules}
use Rattle.model.specs.Shown.{label_in_state, bits_or_none, section_in_state, bits_shown}
use Rattle.model.specs.Stock.{cover, free_from, lowest, all_marked, given, staying, counting_free, oldest}
use Rattle.model.specs.Plans.{is_shut, is_open, is_idle, and_then, opened, taking, giving, take_from, give_oldest, withdrawing, joined, open_plan, close_plan, finish_plan, create_plan, activate_plan, deactivate_plan, update_plan, place_plan, read_plan, clear_plan, reclaim_plan, withdraw_plan, deposit_plan, balance_plan, drain_plan}
use Rattle.model.specs.Mending.{Unmended, first_inexact, is_salvage, end_or_section, map_or_entry, salvage_plan}
use Rattle.model.specs.Calls.{Call, open', create, activate, withdraw, place, deposit, read, update, clear, reclaim, deactivate, balance, close, drain, finish, salvage, plan, Volume, with_write, Leaves, Polls}
use Rattle.model.specs.Histories.{History, Fitting, Reached, at_first, by_call, by_poll, by_cut}
use Rattle.model.specs.MemoryLaw.{MemoryCountsWhatTheMapShows, AtMost32AddressesAreHeld, Place, serving, settling, ticketed, slotted, nth, slot_address, address_at, NoAddressIsHeldTwice}
use Rattle.model.proofs.Possible.{shown_posted, shown_elsewhere, shown_completed}
use Rattle.model.proofs.ReadBack.{none_not}
use Rattle.model.proofs.Lists.{one_same, count, count_among, count_split, given_cover, lowest_is, marks_fit, marks_show}
use Rattle.model.proofs.Ledger.{Owner, free, in_service, on_ticket, at_slot, kind, Ledger, differ, From, holds_part}
use Rattle.model.proofs.Parts.{Shape, region_within, Has, bits_here, Off, Inv, Good, not_lost}
use Rattle.model.proofs.Meets.{Meets, accept_meets, ask_meets, need_meets, need_of_meets, cond_meets, accepted_meets, post_meets}
use Rattle.model.proofs.FileCalls.{Keeps, address_is, not_shut}
use Rattle.model.proofs.MapCalls.{closing_is, idle_is, lowest_counted, shown_free, here_fits, here_is, low_cover, label_own}
use Rattle.model.proofs.SalvageCalls.{plan_keeps}
use Rattle.model.proofs.ReachedLaws.{attached_good, reached_good, shape, first_ledger, new_good}

-- ---- how many

used_all : {X : Type 0} (xs : List (Option X)) → used xs ≤ length xs
used_all [] = omega arith
used_all (None ∷ xs) = omega (arith, used_all xs)
used_all (Some x ∷ xs) = omega (arith, used_all xs)

used_set : {X : Type 0} (xs : List (Option X)) (t : ℕ) (x : X) → used (set xs t (Some x)) ≤ used xs + 1
used_set [] t x = omega arith
used_set (None ∷ xs) zero x = omega arith
used_set (Some y ∷ xs) zero x = omega arith
used_set (None ∷ xs) (suc t) x = used_set xs t x
used_set (Some y ∷ xs) (suc t) x = omega (arith, used_set xs t x)

used_spent : {X : Type 0} (xs : List (Option X)) (t : ℕ) (x : X) → get_or xs t None ≡ Some x → used (set xs t None) + 1 ≡ used xs
used_spent [] t x h = absurd (none_not x h)
used_spent (None ∷ xs) zero x h = absurd (none_not x h)
used_spent (Some y ∷ xs) zero x h = refl
used_spent (None ∷ xs) (suc t) x h = used_spent xs t x h
used_spent (Some y ∷ xs) (suc t) x h = omega (arith, used_spent xs t x h)

staying_fewer : (k n : ℕ) (xs : List ℕ) → length (staying k n xs) ≤ length xs
staying_fewer k n [] = omega arith
staying_fewer k zero (x ∷ xs) = omega arith
staying_fewer k (suc n) (x ∷ xs) =
    elim (cases_Bool (eqb (cover x) k))
    [ inl e ↦ rw e (omega (arith, staying_fewer k n xs)) | inr e ↦ rw e (omega (arith, staying_fewer k (suc n) xs)) ]

-- what is worked out for each of the three sections
of_section : (f : ℕ → ℕ) (k : ℕ) → k < 3 → get_or (map f (0 ∷ 1 ∷ 2 ∷ [])) k 0 ≡ f k
of_section f zero l = refl
of_section f (suc zero) l = refl
of_section f (suc (suc zero)) l = refl
of_section f (suc (suc (suc k))) l = absurd (omega arith)

-- ---- what holds of memory, and what keeps it

pub record Reckoned (g : Shape) (d : Meaning) (v : Memory) : Type 0 where
  pub counts : is_shut v.phase ≡ false → (k : ℕ) → k < 3 → get_or v.counts k 0 ≡ free_count (bits_here g d k)
  pub few : held v ≤ 32
  pub four : length v.tickets ≡ 4

module _ (g : Shape) (d : Meaning) where
  -- the free count of section k in state s
  count_in : ℕ → State → ℕ
  count_in k s = free_count (bits_or_none (section_in_state g.id g.entries g.records k s))

  same_reckoned : (d' : Meaning) (v : Memory) → ((k : ℕ) → k < 3 → shown d' (section_at k) ≡ shown d (section_at k)) → Reckoned g d v → Reckoned g d' v
  unfolding count_in
  same_reckoned d' v same R =
      record { counts = λ work k l. R.counts work k l ∙ ap (count_in k) (sym (same k l)); few = R.few; four = R.four }

  -- a write to no section
  posted_reckoned : (v : Memory) (a : ℕ) (bs : List ℕ) → (a ≡ 0) ⊎ (8 ≤ a) → Reckoned g d v → Reckoned g (posted d a bs) v
  posted_reckoned v a bs at R =
      same_reckoned (posted d a bs) v (λ k l. shown_elsewhere d a bs (section_at k) (λ z. elim at [ inl e ↦ omega arith | inr e ↦ omega arith ])) R

  file_reckoned : (v : Memory) (i : ℕ) (f : Option File) → Reckoned g d v → Reckoned g d (with_file v i f)
  file_reckoned v i f R = record { counts = R.counts; few = R.few; four = R.four }

  -- once a volume is shut its counts say nothing
  shut_reckoned : (d' : Meaning) (v : Memory) → is_shut v.phase ≡ true → Reckoned g d v → Reckoned g d' v
  shut_reckoned d' v shut R = record { counts = λ work. absurd (true≢false (sym shut ∙ work)); few = R.few; four = R.four }

-- ---- the calls

module _ (g : Shape) (d : Meaning) where
  abbrev Reckons : Memory → Option Write → Type 0
  Reckons v w = Reckoned g (with_write w d) v

  withdrawing_reckons : (v : Memory) (t : ℕ) (xs : List ℕ) → v.service ≡ xs → Reckoned g d v → Meets (withdrawing v t xs) Reckons
  withdrawing_reckons v t [] is R = accept_meets Reckons _ _ _ R
  withdrawing_reckons v t (x ∷ xs) is R =
      let l : length v.service ≡ suc (length xs) = ap length is in
      accept_meets Reckons _ _ _ (record {
        counts = R.counts;
        few = omega (arith, R.few, used_set v.tickets t x);
        four = length-set v.tickets t (Some x) ∙ R.four;
      })

  withdraw_reckons : (v : Memory) → Reckoned g d v → Meets (withdraw_plan v) Reckons
  unfolding withdraw_plan
  withdraw_reckons v R = ask_meets Reckons _ _ _ λ _. need_meets Reckons _ _ _ λ t _. withdrawing_reckons v t v.service refl R

  deposit_reckons : (v : Memory) (t x : ℕ) → Reckoned g d v → Meets (deposit_plan t x v) Reckons
  unfolding deposit_plan
  deposit_reckons v t x R =
      ask_meets Reckons _ _ _ λ q.
      let at = address_is (get_or v.tickets t None) x q in
      accept_meets Reckons _ _ _ (record {
        counts = R.counts;
        few = omega (arith, R.few, used_spent v.tickets t x at, length-append v.service (x ∷ []));
        four = length-set v.tickets t None ∙ R.four;
      })

  place_reckons : (r : Rules) (v : Memory) (bs : List ℕ) (i p t x : ℕ) → Good g d v → Reckoned g d v → Meets (place_plan r bs i p t x d v) Reckons
  unfolding place_plan
  place_reckons r v bs i p t x (o, I) R =
      ask_meets Reckons _ _ _ λ _. ask_meets Reckons _ _ _ λ _. need_meets Reckons _ _ _ λ f _. need_meets Reckons _ _ _ λ _ _. ask_meets Reckons _ _ _ λ k.
      let at = address_is (get_or v.tickets t None) x k in
      let inside = not_lost g o d x (on_ticket t) I.drive (I.tickets t x at) refl in
      let P = posted_reckoned g d v x bs (inr (omega arith)) R in
      post_meets Reckons _ _ _ _ (record {
        counts = P.counts;
        few = omega (arith, R.few, used_spent v.tickets t x at);
        four = length-set v.tickets t None ∙ R.four;
      })

  read_reckons : (v : Memory) (n i p : ℕ) → Reckoned g d v → Meets (read_plan n i p d v) Reckons
  unfolding read_plan
  read_reckons v n i p R =
      ask_meets Reckons _ _ _ λ _. ask_meets Reckons _ _ _ λ _. need_meets Reckons _ _ _ λ f _. need_meets Reckons _ _ _ λ a _.
      accepted_meets Reckons _ _ (accept_meets Reckons _ _ _ R)

  clear_reckons : (v : Memory) (i p : ℕ) → Reckoned g d v → Meets (clear_plan i p v) Reckons
  unfolding clear_plan
  clear_reckons v i p R =
      ask_meets Reckons _ _ _ λ _. need_meets Reckons _ _ _ λ f _. need_meets Reckons _ _ _ λ s _. accept_meets Reckons _ _ _ (file_reckoned g d v i _ R)

  deactivate_reckons : (v : Memory) (i : ℕ) → Reckoned g d v → Meets (deactivate_plan i v) Reckons
  unfolding deactivate_plan
  deactivate_reckons v i R =
      ask_meets Reckons _ _ _ λ _. need_meets Reckons _ _ _ λ f _. ask_meets Reckons _ _ _ λ _. accept_meets Reckons _ _ _ (file_reckoned g d v i _ R)

  reclaim_reckons : (v : Memory) (i p : ℕ) → Reckoned g d v → Meets (reclaim_plan i p d v) Reckons
  unfolding reclaim_plan
  reclaim_reckons v i p R =
      ask_meets Reckons _ _ _ λ _. need_meets Reckons _ _ _ λ f _. need_meets Reckons _ _ _ λ x _. ask_meets Reckons _ _ _ λ q. ask_meets Reckons _ _ _ λ _.
      accept_meets Reckons _ _ _ (record {
        counts = R.counts;
        few = omega (arith, ltb-true (held v) 32 q, length-append v.service (x ∷ []));
        four = R.four;
      })

  entry_reckoned : (v : Memory) (i e : ℕ) (f : Option File) (bs : List ℕ) → Reckoned g d v → Reckoned g (posted d (8 + e) bs) (with_file v i f)
  entry_reckoned v i e f bs R = file_reckoned g (posted d (8 + e) bs) v i f (posted_reckoned g d v (8 + e) bs (inr (omega arith)) R)

  update_reckons : (r : Rules) (v : Memory) (n i : ℕ) → Reckoned g d v → Meets (update_plan r n i d v) Reckons
  unfolding update_plan
  update_reckons r v n i R =
      ask_meets Reckons _ _ _ λ _. ask_meets Reckons _ _ _ λ _. need_meets Reckons _ _ _ λ f _. ask_meets Reckons _ _ _ λ _.
      post_meets Reckons _ _ _ _ (entry_reckoned v i f.entry _ _ R)

  create_reckons : (r : Rules) (v : Memory) (n i e meter : ℕ) → Reckoned g d v → Meets (create_plan r n i e meter d v) Reckons
  unfolding create_plan
  create_reckons r v n i e meter R =
      ask_meets Reckons _ _ _ λ _. ask_meets Reckons _ _ _ λ _. ask_meets Reckons _ _ _ λ _. ask_meets Reckons _ _ _ λ _. ask_meets Reckons _ _ _ λ _.
      need_of_meets Reckons _ _ _ _ λ x _. post_meets Reckons _ _ _ _ (entry_reckoned v i e _ _ R)

  activate_reckons : (v : Memory) (n i e : ℕ) → Reckoned g d v → Meets (activate_plan n i e d v) Reckons
  unfolding activate_plan
  activate_reckons v n i e R =
      ask_meets Reckons _ _ _ λ _. ask_meets Reckons _ _ _ λ _. ask_meets Reckons _ _ _ λ _. ask_meets Reckons _ _ _ λ _.
      need_of_meets Reckons _ _ _ _ λ x _. accept_meets Reckons _ _ _ (file_reckoned g d v i _ R)

  -- ---- the map

  -- section k is posted with some addresses marked that are not lost: the section is sound, and shows just these bits
  section_reckoned : (v : Memory) (o : Ledger) (w : Owner) (k b : ℕ) (xs s u : List ℕ) → b < 2 → k < 3 → is_shut v.phase ≡ false → Inv g o d v
      → From o xs w → eqb (kind w) 0 ≡ false → ((x : ℕ) → 0 < count x xs → cover x ≡ k) → length s + length u + used v.tickets ≤ 32 → Reckoned g d v
      → Reckoned g (posted d (section_at k) (section_bytes v.id v.entries (size d) k (all_marked k b xs (bits_shown d v.id v.entries k))))
      (with_stock v (Writing k) (set v.counts k (free_count (all_marked k b xs (bits_shown d v.id v.entries k)))) s u)
  unfolding count_in
  section_reckoned v o w k b xs s u small low work I fr kept covered few R =
      let own = I.own work in
      let D = I.drive in
      let old = bits_shown d v.id v.entries k in
      let is : old ≡ bits_here g d k = here_is g d v o k work I in
      let fit_old : FittingBits old = subst FittingBits (sym is) (here_fits g d o k D) in
      let bits = all_marked k b xs old in
      let fit : FittingBits bits = marks_fit k b small xs old covered fit_old in
      let span = map_span k g.entries g.records in
      let inside : (r : ℕ) → r < 3968 → bit bits r ≡ true → within (page_region g.entries g.records) (first_of k + r) ≡ true = λ r l on.
      let x = first_of k + r in
      let back : x - first_of k ≡ r = omega arith in
      let at : cover x ≡ k = omega arith in
      let was : cond (among x xs) (eqb b 1) (bit old (x - first_of k)) ≡ true = sym (marks_show k b small xs old covered fit_old x at) ∙ (ap (bit bits) back ∙ on) in
      elim (count_among x xs) [
        | inl q ↦ region_within g x (not_lost g o d x w D (fr x q.1) kept)
        | inr q ↦
            let on_old : bit old (x - first_of k) ≡ true = subst (λ (c : Bool). cond c (eqb b 1) (bit old (x - first_of k)) ≡ true) q.0 was in
            region_within g x (not_lost g o d x free D (shown_free g d o k x D low at (ap (λ (y : List ℕ). bit y (x - first_of k)) (sym is) ∙ on_old)) refl)
      ] in
      let bs = section_bytes v.id v.entries (size d) k bits in
      let d' = posted d (section_at k) bs in
      let shows : shown d' (section_at k) ≡ readable (section_bytes g.id g.entries g.records k bits) =
      shown_posted d (section_at k) bs ∙ (λ j. readable (section_bytes (own.0 j) (own.1 j) (D.sized j) k bits)) in
      let sound : sound_section 0 g.id span (section_bytes g.id g.entries g.records k bits) ≡ Some (record { bits = bits }) =
      a_written_section_is_read_back 0 g.id span bits (omega arith) g.fits (record { first = omega arith; covered = omega arith }) fit
      ((every_free_bit_lies_in_the_region span bits).1 inside) in
      let here : bits_here g d' k ≡ bits = ap (λ (c : State). bits_or_none (section_in_state g.id g.entries g.records k c)) shows ∙ ap bits_or_none sound in
      record {
        counts = λ _ j l.
            elim (cases_eq j k) [
              | inl e ↦
                  subst (λ (y : ℕ). get_or (set v.counts k (free_count bits)) y 0 ≡ free_count (bits_here g d' y)) (sym e)
                  (get_or-set_same v.counts k (free_count bits) 0 (omega (arith, I.counted)) ∙ ap free_count (sym here))
              | inr n ↦
                  get_or-set_other v.counts k j (free_count bits) 0 n
                  ∙ (R.counts work j l ∙ ap (count_in g d j) (sym (shown_elsewhere d (section_at k) bs (section_at j) (λ z. n (omega arith)))))
            ];
        few = few;
        four = R.four;
      }

  -- with few in service and none unsettled, a take leaves at most 16 beside those on the four tickets
  taking_reckons : (r : Rules) (v : Memory) (o : Ledger) (k : ℕ) → k < 3 → is_open v.phase ≡ true → v.chart ≡ Idle → length v.service < 8 → Inv g o d v → Reckoned g d v
      → Meets (taking r d v k) Reckons
  taking_reckons r v o k low work idle short I R =
      let shut = not_shut v.phase work in
      let n = 16 - length v.service in
      let bits = bits_shown d v.id v.entries k in
      let is : bits ≡ bits_here g d k = here_is g d v o k shut I in
      let xs = lowest bits k n in
      let nil : v.unsettled ≡ [] = subst (λ (c : MapState). Off g d c v.unsettled) idle I.off in
      let none : length v.unsettled ≡ 0 = ap length nil in
      post_meets Reckons _ _ _ _
      (section_reckoned v o free k 0 xs v.service (v.unsettled ++ xs) (omega arith) low shut I
      (λ x c.
      let q = lowest_is bits k n x c in
      shown_free g d o k x I.drive low q.0 (ap (λ (y : List ℕ). bit y (x - first_of k)) (sym is) ∙ q.1))
      refl (λ x c. (lowest_is bits k n x c).0)
      (omega (arith, length-append v.unsettled xs, length-take n (free_from bits (first_of k) 0 3968), used_all v.tickets, R.four)) R)

  giving_reckons : (r : Rules) (v : Memory) (o : Ledger) (k n : ℕ) → k < 3 → is_shut v.phase ≡ false → Inv g o d v → Reckoned g d v → Meets (giving r d v k n) Reckons
  giving_reckons r v o k n low work I R =
      let gs = given k n v.service in
      let rest = staying k n v.service in
      post_meets Reckons _ _ _ _
      (section_reckoned v o in_service k 1 gs rest v.unsettled (omega arith) low work I
      (holds_part o v.service gs rest in_service (λ x. count_split k n x v.service) I.stock.served) refl
      (λ x c. given_cover k n x v.service c) (omega (arith, staying_fewer k n v.service, R.few)) R)

  oldest_reckons : (r : Rules) (v : Memory) (o : Ledger) (n : ℕ) (a : Reply) (xs : List ℕ) → v.service ≡ xs → is_shut v.phase ≡ false → Inv g o d v → Reckoned g d v
      → Meets (give_oldest r d v n a (oldest xs)) Reckons
  oldest_reckons r v o n a [] is work I R = accept_meets Reckons _ _ _ R
  oldest_reckons r v o n a (x ∷ xs) is work I R = giving_reckons r v o (cover x) (length v.service - n) (low_cover g d v o x xs is I) work I R

  take_reckons : (r : Rules) (v : Memory) (o : Ledger) (q : Option ℕ) → counting_free 0 v.counts ≡ q → is_open v.phase ≡ true → v.chart ≡ Idle → length v.service < 8
      → Inv g o d v → Reckoned g d v → Meets (take_from r d v q) Reckons
  take_reckons r v o None is work idle short I R = accept_meets Reckons _ _ _ R
  take_reckons r v o (Some k) is work idle short I R = taking_reckons r v o k (omega (arith, lowest_counted 0 v.counts k is, I.counted)) work idle short I R

  balance_reckons : (r : Rules) (v : Memory) (n : ℕ) → Good g d v → Reckoned g d v → Meets (balance_plan r n d v) Reckons
  unfolding balance_plan
  balance_reckons r v n (o, I) R =
      ask_meets Reckons _ _ _ λ _. ask_meets Reckons _ _ _ λ work.
      cond_meets Reckons (is_idle v.chart) _ _
      (λ c.
      cond_meets Reckons (ltb (length v.service) 8) _ _
      (λ short. take_reckons r v o (counting_free 0 v.counts) refl work (idle_is v.chart c) (ltb-true (length v.service) 8 short) I R)
      (λ _.
      cond_meets Reckons (ltb 24 (length v.service)) _ _ (λ _. oldest_reckons r v o 16 _ v.service refl (not_shut v.phase work) I R)
      (λ _. accept_meets Reckons _ _ _ R)))
      (λ _. accept_meets Reckons _ _ _ R)

  drain_reckons : (r : Rules) (v : Memory) (n : ℕ) → Good g d v → Reckoned g d v → Meets (drain_plan r n d v) Reckons
  unfolding drain_plan
  drain_reckons r v n (o, I) R =
      ask_meets Reckons _ _ _ λ _. ask_meets Reckons _ _ _ λ q. ask_meets Reckons _ _ _ λ _.
      oldest_reckons r v o 0 _ v.service refl (rw (closing_is v.phase q) refl) I R

  -- ---- labels

  open_reckons : (r : Rules) (v : Memory) (n : ℕ) → Good g d v → Reckoned g d v → Meets (open_plan r n d v) Reckons
  unfolding open_plan
  open_reckons r v n (o, I) R =
      ask_meets Reckons _ _ _ λ _. ask_meets Reckons _ _ _ λ _. need_meets Reckons _ _ _ λ l is. ask_meets Reckons _ _ _ λ _.
      let own = label_own g d o l I.drive is in
      let J : Reckoned g d (opened v d l) =
      record {
        counts = λ _ k low.
            of_section (λ j. free_count (bits_shown d l.id l.entries j)) k low
            ∙ (λ j. free_count (bits_or_none (section_in_state (own.0 j) (own.1 j) (I.drive.sized j) k (shown d (section_at k)))));
        few = R.few;
        four = R.four;
      } in
      post_meets Reckons _ _ _ _ (posted_reckoned g d (opened v d l) 0 _ (inl refl) J)

  close_reckons : (v : Memory) → Reckoned g d v → Meets (close_plan v) Reckons
  unfolding close_plan
  close_reckons v R =
      ask_meets Reckons _ _ _ λ work. ask_meets Reckons _ _ _ λ _.
      accept_meets Reckons _ _ _ (record { counts = λ _. R.counts (not_shut v.phase work); few = R.few; four = R.four })

  finish_reckons : (r : Rules) (v : Memory) (n : ℕ) → Reckoned g d v → Meets (finish_plan r n d v) Reckons
  unfolding finish_plan
  finish_reckons r v n R =
      ask_meets Reckons _ _ _ λ _. ask_meets Reckons _ _ _ λ _. ask_meets Reckons _ _ _ λ _.
      post_meets Reckons _ _ _ _ (record { counts = λ work. absurd (true≢false work); few = R.few; four = R.four })

  section_or_end_reckons : (r : Rules) (v : Memory) (l : Label) (q : Option ℕ) → is_shut v.phase ≡ true → Reckoned g d v → Meets (end_or_section r d v l q) Reckons
  section_or_end_reckons r v l None shut R = post_meets Reckons _ _ _ _ (shut_reckoned g d _ v shut R)
  section_or_end_reckons r v l (Some k) shut R = post_meets Reckons _ _ _ _ (shut_reckoned g d _ v shut R)

  mending_reckons : (r : Rules) (v : Memory) (l : Label) (q : Option Unmended) → is_shut v.phase ≡ true → Reckoned g d v → Meets (map_or_entry r d v l q) Reckons
  mending_reckons r v l None shut R = section_or_end_reckons r v l (first_inexact l.id l.entries (size d) (shown d) 0 3) shut R
  mending_reckons r v l (Some u) shut R = post_meets Reckons _ _ _ _ (shut_reckoned g d _ v shut R)

  salvage_reckons : (r : Rules) (v : Memory) (n c : ℕ) → Reckoned g d v → Meets (salvage_plan r n c d v) Reckons
  unfolding salvage_plan
  salvage_reckons r v n c R =
      ask_meets Reckons _ _ _ λ _. ask_meets Reckons _ _ _ λ shut. need_meets Reckons _ _ _ λ l _. ask_meets Reckons _ _ _ λ _. ask_meets Reckons _ _ _ λ _.
      cond_meets Reckons (is_salvage (label_in_state (size d) (shown d 0))) _ _ (λ _. mending_reckons r v l _ shut R)
      (λ _. post_meets Reckons _ _ _ _ (shut_reckoned g d _ v shut R))

  -- ---- every call, and poll

  plan_reckons : (r : Rules) (c : Call) (v : Memory) → Good g d v → Reckoned g d v → Meets (plan r c d v) Reckons
  unfolding plan
  plan_reckons r (open' n) v G R = open_reckons r v n G R
  plan_reckons r (create n f e meter) v G R = create_reckons r v n f e meter R
  plan_reckons r (activate n f e) v G R = activate_reckons v n f e R
  plan_reckons r withdraw v G R = withdraw_reckons v R
  plan_reckons r (place bs f p t a) v G R = place_reckons r v bs f p t a G R
  plan_reckons r (deposit t a) v G R = deposit_reckons v t a R
  plan_reckons r (read n f p) v G R = read_reckons v n f p R
  plan_reckons r (update n f) v G R = update_reckons r v n f R
  plan_reckons r (clear f p) v G R = clear_reckons v f p R
  plan_reckons r (reclaim f p) v G R = reclaim_reckons v f p R
  plan_reckons r (deactivate f) v G R = deactivate_reckons v f R
  plan_reckons r (balance n) v G R = balance_reckons r v n G R
  plan_reckons r close v G R = close_reckons v R
  plan_reckons r (drain n) v G R = drain_reckons r v n G R
  plan_reckons r (finish n) v G R = finish_reckons r v n R
  plan_reckons r (salvage n c) v G R = salvage_reckons r v n c R

  joined_reckoned : (v : Memory) (c : MapState) → Reckoned g d v → Reckoned g d (joined d v c)
  joined_reckoned v Idle R = R
  joined_reckoned v (Writing k) R =
      elim (cases_Bool (pending d (section_at k))) [
        | inl e ↦ rw e R
        | inr e ↦ rw e (record { counts = R.counts; few = omega (arith, R.few, length-append v.service v.unsettled); four = R.four })
      ]

-- ---- histories

module _ (r : Rules) (g : Shape) where
  completed_reckoned : (d : Meaning) (v : Memory) (k : ℕ) → WellFormed d → Reckoned g d v → Reckoned g (complete k d) v
  completed_reckoned d v k wf R = same_reckoned g d (complete k d) v (λ j _. shown_completed d k (section_at j) wf) R

  leaves_reckoned : (v u : Volume) (q : Outcome) → Reckoned g v.drive v.memory
      → Meets q (Keeps g v.drive) → Meets q (Reckons g v.drive) → Leaves q v u → Reckoned g u.drive u.memory
  unfolding Meets
  leaves_reckoned v u (refuse f) R k h e = subst (λ (w : Volume). Reckoned g w.drive w.memory) (sym e) R
  leaves_reckoned v u (accept a x None) R k h e =
      subst (λ (m : Memory). Reckoned g u.drive m) (sym e.0) (subst (λ (d : Meaning). Reckoned g d x) (sym e.1) h)
  leaves_reckoned v u (accept a x (Some w)) R k h e =
      subst (λ (m : Memory). Reckoned g u.drive m) (sym e.0)
      (subst (λ (d : Meaning). Reckoned g d x) (sym e.1.1) (completed_reckoned (posted v.drive w.at w.bytes) x e.1.0 k.1.drive.formed h))

  call_reckoned : (c : Call) (q : Outcome) (v u : Volume) → Good g v.drive v.memory → Reckoned g v.drive v.memory → Fitting c
      → plan r c v.drive v.memory ≡ q → Leaves q v u → Reckoned g u.drive u.memory
  call_reckoned c q v u G R fit is e =
      leaves_reckoned v u q R (subst (λ (o : Outcome). Meets o (Keeps g v.drive)) is (plan_keeps r g v.drive c v.memory fit G))
      (subst (λ (o : Outcome). Meets o (Reckons g v.drive)) is (plan_reckons g v.drive r c v.memory G R)) e

  poll_reckoned : (v u : Volume) → Good g v.drive v.memory → Reckoned g v.drive v.memory → Polls v u → Reckoned g u.drive u.memory
  poll_reckoned v u G R P =
      let stepped : Reckoned g u.drive v.memory =
      subst (λ (d : Meaning). Reckoned g d v.memory) (sym P.steps.1.1) (completed_reckoned v.drive v.memory P.steps.0 G.1.drive.formed R) in
      subst (λ (m : Memory). Reckoned g u.drive m) (sym P.joins) (joined_reckoned g u.drive v.memory v.memory.chart stepped)

  attached_reckoned : (d : Meaning) → Reckoned g d attached
  attached_reckoned d = record { counts = λ work. absurd (true≢false work); few = omega arith; four = refl }

  reached_reckoned : (m : Meaning) → Good g m attached → (h : History) (v : Volume) → Reached r m h v → Reckoned g v.drive v.memory
  reached_reckoned m G h v at_first = attached_reckoned m
  reached_reckoned m G h v (by_call c q h₀ v₀ u before fit is e) =
      call_reckoned c q v₀ u (reached_good r g m G h₀ v₀ before) (reached_reckoned m G h₀ v₀ before) fit is e
  reached_reckoned m G h v (by_poll h₀ v₀ u before p) = poll_reckoned v₀ u (reached_good r g m G h₀ v₀ before) (reached_reckoned m G h₀ v₀ before) p
  reached_reckoned m G h v (by_cut h₀ h' v₀ d n before mo im) = attached_reckoned n

-- ---- each address has one place

nth_in : (xs : List ℕ) (i x : ℕ) → nth xs i ≡ Some x → 0 < count x xs
nth_in [] i x h = absurd (none_not x h)
nth_in (y ∷ xs) zero x h =
    let e : x ≡ y = cc in
    omega (arith, one_same x y e)
nth_in (y ∷ xs) (suc i) x h = omega (arith, nth_in xs i x h)

-- an address that stands once stands at one turn
nth_once : (xs : List ℕ) (i j x : ℕ) → count x xs ≤ 1 → nth xs i ≡ Some x → nth xs j ≡ Some x → i ≡ j
nth_once [] i j x once h h' = absurd (none_not x h)
nth_once (y ∷ xs) zero zero x once h h' = refl
nth_once (y ∷ xs) zero (suc j) x once h h' =
    let e : x ≡ y = cc in
    absurd (omega (arith, one_same x y e, nth_in xs j x h'))
nth_once (y ∷ xs) (suc i) zero x once h h' =
    let e : x ≡ y = cc in
    absurd (omega (arith, one_same x y e, nth_in xs i x h))
nth_once (y ∷ xs) (suc i) (suc j) x once h h' = ap suc (nth_once xs i j x (omega arith) h h')

address_has : (s : Slot) (x : ℕ) → slot_address s ≡ Some x → Has s x
address_has Empty x h = absurd (none_not x h)
address_has (Nulled y) x h = cc
address_has (Live y) x h = cc
address_has (Leaving y) x h = cc
address_has (Left y) x h = cc

in_file_is : (q : Option File) (p x : ℕ) → and_then q (λ f. slot_address (get_or f.slots p Empty)) ≡ Some x → (f : File) × (q ≡ Some f) × Has (get_or f.slots p Empty) x
in_file_is None p x h = absurd (none_not x h)
in_file_is (Some f) p x h = (f, refl, address_has (get_or f.slots p Empty) x h)

module _ (g : Shape) (d : Meaning) (v : Memory) (o : Ledger) (I : Inv g o d v) where
  -- the owner of what a place holds
  Owns : Place → ℕ → Type 0
  Owns (serving i) x = o x ≡ in_service
  Owns (settling i) x = o x ≡ free
  Owns (ticketed t) x = o x ≡ on_ticket t
  Owns (slotted i p) x = (f : File) × (get_or v.files i None ≡ Some f) × (o x ≡ at_slot f.entry p)

  owns : (p : Place) (x : ℕ) → address_at v p ≡ Some x → Owns p x
  unfolding Owns
  owns (serving i) x h = I.stock.served.mine x (nth_in v.service i x h)
  owns (settling i) x h = I.stock.coming.mine x (nth_in v.unsettled i x h)
  owns (ticketed t) x h = I.tickets t x h
  owns (slotted i p) x h =
      let F = in_file_is (get_or v.files i None) p x h in
      (F.0, F.1, (I.files.each i F.0 F.1).slots p x F.2)

  -- owners of two kinds differ, and within a kind the place is told by the owner
  one_place : (p q : Place) (x : ℕ) → address_at v p ≡ Some x → address_at v q ≡ Some x → Owns p x → Owns q x → p ≡ q
  unfolding Owns
  one_place (serving i) (serving j) x h h' a b = ap serving (nth_once v.service i j x (I.stock.served.once x) h h')
  one_place (serving i) (settling j) x h h' a b = absurd (differ in_service free refl (sym a ∙ b))
  one_place (serving i) (ticketed t) x h h' a b = absurd (differ in_service (on_ticket t) refl (sym a ∙ b))
  one_place (serving i) (slotted j q) x h h' a b = absurd (differ in_service (at_slot b.0.entry q) refl (sym a ∙ b.2))
  one_place (settling i) (serving j) x h h' a b = absurd (differ free in_service refl (sym a ∙ b))
  one_place (settling i) (settling j) x h h' a b = ap settling (nth_once v.unsettled i j x (I.stock.coming.once x) h h')
  one_place (settling i) (ticketed t) x h h' a b = absurd (differ free (on_ticket t) refl (sym a ∙ b))
  one_place (settling i) (slotted j q) x h h' a b = absurd (differ free (at_slot b.0.entry q) refl (sym a ∙ b.2))
  one_place (ticketed t) (serving j) x h h' a b = absurd (differ (on_ticket t) in_service refl (sym a ∙ b))
  one_place (ticketed t) (settling j) x h h' a b = absurd (differ (on_ticket t) free refl (sym a ∙ b))
  one_place (ticketed t) (ticketed u) x h h' a b = let e : t ≡ u = cc in ap ticketed e
  one_place (ticketed t) (slotted j q) x h h' a b = absurd (differ (on_ticket t) (at_slot b.0.entry q) refl (sym a ∙ b.2))
  one_place (slotted i p) (serving j) x h h' a b = absurd (differ (at_slot a.0.entry p) in_service refl (sym a.2 ∙ b))
  one_place (slotted i p) (settling j) x h h' a b = absurd (differ (at_slot a.0.entry p) free refl (sym a.2 ∙ b))
  one_place (slotted i p) (ticketed t) x h h' a b = absurd (differ (at_slot a.0.entry p) (on_ticket t) refl (sym a.2 ∙ b))
  one_place (slotted i p) (slotted j q) x h h' a b =
      let at : at_slot a.0.entry p ≡ at_slot b.0.entry q = sym a.2 ∙ b.2 in
      let same : a.0.entry ≡ b.0.entry = cc in
      let pq : p ≡ q = cc in
      let ij : i ≡ j = I.files.alone i j a.0 b.0 a.1 b.1 same in
      λ k. slotted (ij k) (pq k)

-- ---- from a volume made new

module _ (m : Meaning) (id e : ℕ) (wf : WellFormed m) (fits : id < 2 ^ 32) (lim : in_limits id e (size m) ≡ true) where
  new_attached : Good (shape m id e wf fits lim) (new_volume m id e) attached
  new_attached = attached_good (shape m id e wf fits lim) (first_ledger m id e wf fits lim) (new_volume m id e) (new_good m id e wf fits lim)

  good_here : (r : Rules) (h : History) (v : Volume) → Reached r (new_volume m id e) h v → Good (shape m id e wf fits lim) v.drive v.memory
  good_here r h v reached = reached_good r (shape m id e wf fits lim) (new_volume m id e) new_attached h v reached

  reckoned_here : (r : Rules) (h : History) (v : Volume) → Reached r (new_volume m id e) h v → Reckoned (shape m id e wf fits lim) v.drive v.memory
  reckoned_here r h v reached = reached_reckoned r (shape m id e wf fits lim) (new_volume m id e) new_attached h v reached

pub memory_counts_what_the_map_shows : MemoryCountsWhatTheMapShows
unfolding shape
memory_counts_what_the_map_shows r m id e wf fits lim h v reached work k l =
    let G = good_here m id e wf fits lim r h v reached in
    (reckoned_here m id e wf fits lim r h v reached).counts work k l
    ∙ ap (λ (t : ℕ). free_count (bits_or_none (section_in_state id e t k (shown v.drive (section_at k))))) (sym G.1.drive.sized)

pub at_most_32_addresses_are_held : AtMost32AddressesAreHeld
at_most_32_addresses_are_held r m id e wf fits lim h v reached = (reckoned_here m id e wf fits lim r h v reached).few

pub no_address_is_held_twice : NoAddressIsHeldTwice
no_address_is_held_twice r m id e wf fits lim h v reached p q a at at' =
    let G = good_here m id e wf fits lim r h v reached in
    let g = shape m id e wf fits lim in
    one_place g v.drive v.memory G.0 G.1 p q a at at'
    (owns g v.drive v.memory G.0 G.1 p a at) (owns g v.drive v.memory G.0 G.1 q a at')
