-- The laws of the plans.
use Rattle.std.proofs.Common.{◌≡◌, ℕ, zero, suc, ◌+◌, ◌-◌, ◌<◌, ◌≤◌, min, Bool, true, false, cond, not, ◌&&◌, ◌||◌, eqb, ltb, leb, ◌⊎◌, List, [], ◌∷◌, ◌++◌, map, length, get_or, take, set, replicate, Some, None, Ok, Err, count_by, Option, sym, refl, ap, ◌∙◌, subst, inl, inr, arith}
use Rattle.std.specs.List.{range_with_len, AllByRecursion}
use Rattle.std.proofs.ByRecursion.{All-get_or, All-from_get_or, All-weaker}
use Rattle.std.proofs.lemmas.List.Sums.{sum_by-cons}
use Rattle.std.proofs.lemmas.List.{append-nil, length-take, get_or-take, length-map, get_or-map, get_or_past, get_or-set_same}
use Rattle.std.proofs.lemmas.Bool.{both_ways, eqb-true, eqb-false, leb-true, le-leb, cases_order, cond-true, cond-false, and_right, not-true, not_from_false, and_parts, and_from, or_parts, or_from, or_left, or_right, cases_eq, cases_lt, cases_Bool, eq-eqb, ne_eqb, lt-ltb, le-ltb}
use Rattle.drive.specs.Answers.{Answer, refused, readable_answer, and_then, address_answer, room_answer, post_answer, read_answer}
use Rattle.drive.specs.Faults.{Refusal, layer_of, refusal, no_record}
use Rattle.drive.specs.Meaning.{State, readable, spoiled, Write, Meaning, size, owed, shown, pending, posted, complete, RecordBytes, WellFormedState, WellFormed}
use Rattle.drive.proofs.FormedLaws.{well_formed_shown}
use Rattle.drive.proofs.AnswerLaws.{shown_back}
use Rattle.record.proofs.BitLaws.{a_changed_bit_changes_no_other, on_none}
use Rattle.record.proofs.CountLaws.{free_is}
use Rattle.record.proofs.EntryLaws.{a_written_entry_is_read_back}
use Rattle.record.specs.declared.label.Label.{Label}
use Rattle.record.specs.declared.entry.Entry.{Entry}
use Rattle.record.specs.declared.region.Region.{Region}
use Rattle.record.specs.Words.{same}
use Rattle.record.specs.declared.label.LabelState.TheVariants.{Closed, Salvage}
use Rattle.record.specs.Regions.{within, page_region, first_of, map_span}
use Rattle.record.specs.Sections.{bit, marked, free_count, none_free, sound_section}
use Rattle.record.specs.declared.region.Span.{Span}
use Rattle.record.specs.declared.section.Section.{Section}
use Rattle.record.proofs.SectionLaws.{a_sound_section_is_the_record_of_what_is_read}
use Rattle.record.specs.Laws.{FittingBits}
use Rattle.record.specs.Entries.{among, may_stand, slots_sound, free_entry, addresses_sound}
use Rattle.model.specs.declared.memory.Phase.TheVariants.{Open}
use Rattle.model.specs.declared.memory.MapState.{MapState}
use Rattle.model.specs.declared.memory.MapState.TheVariants.{Idle, Writing}
use Rattle.model.specs.declared.memory.Slot.{Slot}
use Rattle.model.specs.declared.memory.Slot.TheVariants.{Empty, Nulled, Live, Leaving, Left}
use Rattle.model.specs.declared.memory.File.{File}
use Rattle.model.specs.Volume.{entry_at, section_at, label_at, sum_start, section_bytes, entry_bytes}
use Rattle.model.specs.Memory.{Memory, with_stock, with_file, unused_from, file_of}
use Rattle.model.specs.Outcomes.{Reply, Outcome, refuse, accept, ask, need, need_of, if_accepted, Rules, post, keep, done, wait, full, busy, quiet, dry, section, entry, begun, ended}
use Rattle.model.specs.Shown.{bytes_in, with_state, label_shown, bits_or_none, section_in_state, bits_shown, label_in_state, whole_entry_in_state}
use Rattle.model.specs.Slots.{with_slots, updated, live_address}
use Rattle.model.specs.Stock.{is_some, free_from, lowest, all_marked, counting_free, oldest}
use Rattle.model.specs.Plans.{label_write, open_plan, close_plan, finish_plan, create_plan, activate_plan, deactivate_plan, update_plan, place_plan, read_plan, clear_plan, reclaim_plan, withdraw_plan, deposit_plan, balance_plan, drain_plan, is_idle, withdrawing, give_oldest, take_from, joined}
use Rattle.model.specs.Mending.{Unmended, mended_section, shows, States, first_unmended, first_inexact, mended_slots, mended, is_salvage, end_or_section, map_or_entry, salvaging, salvage_plan}
use Rattle.model.specs.Calls.{Call, open', create, activate, withdraw, place, deposit, read, update, clear, reclaim, deactivate, balance, close, drain, finish, salvage, plan, Volume, DriveFollows, Leaves}
use Rattle.model.specs.PlanLaws.{PlainlyTold, ARefusedCallChangesNothing, NothingLeft, WithdrawSaysFullExactlyWhenThereIsNone, TakesLowest, Takes, ATakeIsOfTheLowestFree, LiveOnly, AfterAnUpdateTheEntryShowsExactlyTheLiveSlots, Mends, all_kept, mended_form, PostsMended, NoDoubleBut0, AMendedEntryIsSoundAndKeepsOnlyWhatItHeld, SameAddresses, PollNeitherAddsNorLosesAnAddress}

-- ---- lists of addresses

among_append : (a : ℕ) (xs ys : List ℕ) → among a (xs ++ ys) ≡ (among a xs || among a ys)
among_append a [] ys = refl
among_append a (x ∷ xs) ys =
    elim (cases_eq x a) [ inl e ↦ rw (eq-eqb x a e) refl | inr n ↦ rw (ne_eqb x a n) (among_append a xs ys) ]

among_at : (l : List ℕ) (q : ℕ) → q < length l → among (get_or l q 0) l ≡ true
among_at [] q h = absurd (omega arith)
among_at (x ∷ l) zero h = or_left (eqb x x) (among x l) (eq-eqb x x refl)
among_at (x ∷ l) (suc q) h = or_right (eqb x (get_or l q 0)) (among (get_or l q 0) l) (among_at l q (omega arith))

-- ---- poll

same_joined : (m : Meaning) (v : Memory) (c : MapState) → SameAddresses v (joined m v c)
same_joined m v Idle = record { stock = refl; tickets = refl; files = refl }
same_joined m v (Writing k) =
    elim (cases_Bool (pending m (section_at k))) [
      | inl e ↦ rw e (record { stock = refl; tickets = refl; files = refl })
      | inr e ↦ rw e (record { stock = append-nil (v.service ++ v.unsettled); tickets = refl; files = refl })
    ]

pub poll_neither_adds_nor_loses_an_address : PollNeitherAddsNorLosesAnAddress
poll_neither_adds_nor_loses_an_address v u p =
    subst (SameAddresses v.memory) (sym p.joins) (same_joined u.drive v.memory v.memory.chart)

-- ---- refusals

-- a refusal is plainly told; nothing is said of an accepted call
Told : Outcome → Type 0
Told (refuse r) = PlainlyTold r
Told (accept r x w) = Unit {0}

told : (r : Reply) (x : Memory) (w : Option Write) → Told (accept r x w)
unfolding Told
told r x w = tt

-- the questions of no record
abbrev of_none : ℕ → Bool
of_none n = (leb 1 n && leb n 15) && not (eqb n 9)

none_told : (n : ℕ) → of_none n ≡ true → PlainlyTold (refusal n no_record)
none_told n e =
    let p = and_parts (leb 1 n && leb n 15) (not (eqb n 9)) e in
    let q = and_parts (leb 1 n) (leb n 15) p.0 in
    record {
      number = inl (leb-true 1 n q.0, leb-true n 15 q.1);
      layer = refl;
      nowhere = λ _ _. refl;
      entry = λ nine. absurd (eqb-false n 9 (not-true (eqb n 9) p.1) nine);
    }

ask_told : (n : ℕ) (b : Bool) (o : Outcome) → of_none n ≡ true → Told o → Told (ask n b o)
unfolding ask Told
ask_told n true o known h = h
ask_told n false o known h = none_told n known

need_told : {X : Type 0} (n : ℕ) (o : Option X) (k : X → Outcome) → of_none n ≡ true → ((x : X) → Told (k x)) → Told (need n o k)
unfolding need Told
need_told n None k known h = none_told n known
need_told n (Some x) k known h = h x

-- question 9 names a record
entry_told : {X : Type 0} (e : ℕ) (o : Option X) (k : X → Outcome) → ((x : X) → Told (k x)) → Told (need_of 9 (entry_at e) o k)
unfolding need_of Told
entry_told e None k h = record { number = inl (omega arith, omega arith); layer = refl; nowhere = λ _ nine. absurd (nine refl); entry = λ _. (e, refl) }
entry_told e (Some x) k h = h x

-- the drive's own refusals are of layer 1
abbrev DriveTold : Answer → Type 0
DriveTold (Ok x) = Unit {0}
DriveTold (Err r) = PlainlyTold r

drive_told : (n a : ℕ) → 21 ≤ n → n ≤ 25 → PlainlyTold (refusal n a)
drive_told n a least most =
    let one : layer_of n ≡ 1 = rw (le-leb 21 n least, le-leb n 25 most) refl in
    record { number = inr (least, most); layer = refl; nowhere = λ other _. absurd (other one); entry = λ nine. absurd (omega arith) }

cond_told : (b : Bool) (x y : Answer) → DriveTold x → DriveTold y → DriveTold (cond b x y)
cond_told true x y hx hy = hx
cond_told false x y hx hy = hy

then_told : (x y : Answer) → DriveTold x → DriveTold y → DriveTold (and_then x y)
then_told (Ok x) y hx hy = hy
then_told (Err f) y hx hy = hx

address_told : (n a t : ℕ) → DriveTold (address_answer n a t)
address_told n a t =
    cond_told (eqb n 512) (cond (ltb a t) (Ok tt) (refused 22 a)) (refused 21 a)
    (cond_told (ltb a t) (Ok tt) (refused 22 a) tt (drive_told 22 a (omega arith) (omega arith))) (drive_told 21 a (omega arith) (omega arith))

room_told : (depth life owed wear a : ℕ) → DriveTold (room_answer depth life owed wear a)
room_told depth life owed wear a =
    cond_told (ltb owed depth) (cond (ltb wear life) (Ok tt) (refused 25 a)) (refused 24 a)
    (cond_told (ltb wear life) (Ok tt) (refused 25 a) tt (drive_told 25 a (omega arith) (omega arith))) (drive_told 24 a (omega arith) (omega arith))

readable_told : (s : State) (a : ℕ) → DriveTold (readable_answer s a)
readable_told (readable bs) a = tt
readable_told spoiled a = drive_told 23 a (omega arith) (omega arith)

accepted_told : (r : Answer) (o : Outcome) → DriveTold r → Told o → Told (if_accepted r o)
unfolding if_accepted Told
accepted_told (Ok x) o hr ho = ho
accepted_told (Err f) o hr ho = hr

post_told : (g : Rules) (m : Meaning) (r : Reply) (v : Memory) (w : Write) → Told (post g m r v w)
post_told g m r v w =
    let n = length w.bytes in
    accepted_told (post_answer g.depth g.life m w.at n) (accept r v (Some w))
    (then_told (address_answer n w.at (size m)) (room_answer g.depth g.life (owed m) m.wear w.at) (address_told n w.at (size m)) (room_told g.depth g.life (owed m) m.wear w.at)) (told _ _ _)

read_told : (m : Meaning) (a n : ℕ) → DriveTold (read_answer m a n)
read_told m a n = then_told (address_answer n a (size m)) (readable_answer (shown m a) a) (address_told n a (size m)) (readable_told (shown m a) a)

either_told : (b : Bool) (x y : Outcome) → Told x → Told y → Told (cond b x y)
either_told true x y hx hy = hx
either_told false x y hx hy = hy

withdrawing_told : (v : Memory) (t : ℕ) (service : List ℕ) → Told (withdrawing v t service)
withdrawing_told v t [] = told _ _ _
withdrawing_told v t (a ∷ rest) = told _ _ _

giving_told : (g : Rules) (m : Meaning) (v : Memory) (n : ℕ) (r : Reply) (a : Option ℕ) → Told (give_oldest g m v n r a)
giving_told g m v n r None = told _ _ _
giving_told g m v n r (Some a) = post_told g m _ _ _

taking_told : (g : Rules) (m : Meaning) (v : Memory) (k : Option ℕ) → Told (take_from g m v k)
taking_told g m v None = told _ _ _
taking_told g m v (Some k) = post_told g m _ _ _

-- what balance comes to on an open volume whose map is so
abbrev balancing : Rules → Meaning → Memory → MapState → Outcome
balancing g m v c =
    cond (is_idle c)
    (cond (ltb (length v.service) 8)
    (take_from g m v (counting_free 0 v.counts))
    (cond (ltb 24 (length v.service)) (give_oldest g m v 16 quiet (oldest v.service)) (keep quiet v)))
    (keep busy v)

balancing_told : (g : Rules) (m : Meaning) (v : Memory) (c : MapState) → Told (balancing g m v c)
balancing_told g m v c =
    either_told (is_idle c) _ (keep busy v)
    (either_told (ltb (length v.service) 8) _ _ (taking_told g m v (counting_free 0 v.counts))
    (either_told (ltb 24 (length v.service)) _ (keep quiet v) (giving_told g m v 16 quiet (oldest v.service)) (told _ _ _))) (told _ _ _)

ending_told : (g : Rules) (m : Meaning) (v : Memory) (l : Label) (k : Option ℕ) → Told (end_or_section g m v l k)
ending_told g m v l None = post_told g m _ _ _
ending_told g m v l (Some k) = post_told g m _ _ _

mending_told : (g : Rules) (m : Meaning) (v : Memory) (l : Label) (u : Option Unmended) → Told (map_or_entry g m v l u)
mending_told g m v l None = ending_told g m v l (first_inexact l.id l.entries (size m) (shown m) 0 3)
mending_told g m v l (Some u) = post_told g m _ _ _

salvaging_told : (g : Rules) (m : Meaning) (v : Memory) (l : Label) → Told (salvaging g m v l)
salvaging_told g m v l =
    either_told (is_salvage (label_in_state (size m) (shown m label_at))) _ _
    (mending_told g m v l (first_unmended l.id (page_region l.entries (size m)) (shown m) [] 0 l.entries)) (post_told g m _ _ _)

plan_told : (g : Rules) (c : Call) (m : Meaning) (v : Memory) → Told (plan g c m v)
unfolding plan open_plan create_plan activate_plan withdraw_plan place_plan deposit_plan read_plan update_plan clear_plan reclaim_plan deactivate_plan balance_plan close_plan drain_plan finish_plan salvage_plan
plan_told g (open' n) m v = ask_told _ _ _ refl (ask_told _ _ _ refl (need_told _ _ _ refl (λ l. ask_told _ _ _ refl (post_told g m _ _ _))))
plan_told g (create n f e meter) m v =
    ask_told _ _ _ refl (ask_told _ _ _ refl (ask_told _ _ _ refl (ask_told _ _ _ refl (ask_told _ _ _ refl (entry_told e _ _ (λ x. post_told g m _ _ _))))))
plan_told g (activate n f e) m v = ask_told _ _ _ refl (ask_told _ _ _ refl (ask_told _ _ _ refl (ask_told _ _ _ refl (entry_told e _ _ (λ x. told _ _ _)))))
plan_told g withdraw m v = ask_told _ _ _ refl (need_told _ _ _ refl (λ t. withdrawing_told v t v.service))
plan_told g (place bs f p t a) m v = ask_told _ _ _ refl (ask_told _ _ _ refl (need_told _ _ _ refl (λ x. need_told _ _ _ refl (λ _. ask_told _ _ _ refl (post_told g m _ _ _)))))
plan_told g (deposit t a) m v = ask_told _ _ _ refl (told _ _ _)
plan_told g (read n f p) m v =
    ask_told _ _ _ refl (ask_told _ _ _ refl (need_told _ _ _ refl (λ x. need_told _ _ _ refl (λ a. accepted_told _ _ (read_told m a n) (told _ _ _)))))
plan_told g (update n f) m v = ask_told _ _ _ refl (ask_told _ _ _ refl (need_told _ _ _ refl (λ x. ask_told _ _ _ refl (post_told g m _ _ _))))
plan_told g (clear f p) m v = ask_told _ _ _ refl (need_told _ _ _ refl (λ x. need_told _ _ _ refl (λ s. told _ _ _)))
plan_told g (reclaim f p) m v = ask_told _ _ _ refl (need_told _ _ _ refl (λ x. need_told _ _ _ refl (λ a. ask_told _ _ _ refl (ask_told _ _ _ refl (told _ _ _)))))
plan_told g (deactivate f) m v = ask_told _ _ _ refl (need_told _ _ _ refl (λ x. ask_told _ _ _ refl (told _ _ _)))
plan_told g (balance n) m v = ask_told _ _ _ refl (ask_told _ _ _ refl (balancing_told g m v v.chart))
plan_told g close m v = ask_told _ _ _ refl (ask_told _ _ _ refl (told _ _ _))
plan_told g (drain n) m v = ask_told _ _ _ refl (ask_told _ _ _ refl (ask_told _ _ _ refl (giving_told g m v 0 dry (oldest v.service))))
plan_told g (finish n) m v = ask_told _ _ _ refl (ask_told _ _ _ refl (ask_told _ _ _ refl (post_told g m _ _ _)))
plan_told g (salvage n c) m v = ask_told _ _ _ refl (ask_told _ _ _ refl (need_told _ _ _ refl (λ l. ask_told _ _ _ refl (ask_told _ _ _ refl (salvaging_told g m v l)))))

left_as_it_was : (o : Outcome) (r : Refusal) (v u : Volume) → o ≡ refuse r → Leaves o v u → u ≡ v
left_as_it_was (refuse s) r v u e l = l
left_as_it_was (accept s x w) r v u e l = let z : ◌≡◌ {A = ℕ} 0 1 = cc in absurd (omega arith)

pub a_refused_call_changes_nothing : ARefusedCallChangesNothing
unfolding Told
a_refused_call_changes_nothing g c v u r e l =
    (left_as_it_was (plan g c v.drive v.memory) r v u e l, subst Told e (plan_told g c v.drive v.memory))

-- ---- withdraw

unused : (n t : ℕ) (ts : List (Option ℕ)) → t < length ts → get_or ts t None ≡ None → (k : ℕ) × (unused_from n ts ≡ Some k)
unused n t [] h e = absurd (omega arith)
unused n t (None ∷ ts) h e = (n, refl)
unused n zero (Some a ∷ ts) h e = let z : ◌≡◌ {A = ℕ} 0 1 = cc in absurd (omega arith)
unused n (suc t) (Some a ∷ ts) h e = unused (n + 1) t ts (omega arith) e

none_first : (k n : ℕ) (ns : List ℕ) → is_some (counting_free k (n ∷ ns)) ≡ false → (n ≡ 0) × (is_some (counting_free (k + 1) ns) ≡ false)
none_first k n ns h =
    elim (cases_lt 0 n) [
      | inl some ↦ absurd (both_ways true (rw (lt-ltb 0 n some) at h) refl)
      | inr none ↦ (omega arith, rw (le-ltb 0 n none) at h)
    ]

none_counted : (k : ℕ) (ns : List ℕ) → is_some (counting_free k ns) ≡ false → (i : ℕ) → get_or ns i 0 ≡ 0
none_counted k [] h i = refl
none_counted k (n ∷ ns) h zero = (none_first k n ns h).0
none_counted k (n ∷ ns) h (suc i) = none_counted (k + 1) ns (none_first k n ns h).1 i

counted_none : (k : ℕ) (ns : List ℕ) → ((i : ℕ) → get_or ns i 0 ≡ 0) → is_some (counting_free k ns) ≡ false
counted_none k [] h = refl
counted_none k (n ∷ ns) h = rw (le-ltb 0 n (omega (arith, h 0))) (counted_none (k + 1) ns (λ i. h (suc i)))

idle_from : (c : MapState) → not (is_idle c) ≡ false → c ≡ Idle
idle_from Idle h = refl
idle_from (Writing k) h = absurd (both_ways true h refl)

full_since : (v : Memory) (t : ℕ) (service : List ℕ) (x : Memory) (w : Option Write) → v.service ≡ service → withdrawing v t service ≡ accept full x w → NothingLeft v
full_since v t (a ∷ rest) x w s e = let z : ◌≡◌ {A = ℕ} 0 1 = cc in absurd (omega arith)
full_since v t [] x w s e =
    elim (cases_Bool (not (is_idle v.chart) || is_some (counting_free 0 v.counts))) [
      | inl some ↦
          let q : withdrawing v t [] ≡ accept wait v None = rw some refl in
          let z : ◌≡◌ {A = ℕ} 0 1 = cc in
          absurd (omega arith)
      | inr none ↦
          let both = or_parts (not (is_idle v.chart)) (is_some (counting_free 0 v.counts)) none in
          record { service = s; chart = idle_from v.chart both.0; counts = none_counted 0 v.counts both.1 }
    ]

full_then : (v : Memory) (t : ℕ) → NothingLeft v → withdrawing v t v.service ≡ accept full v None
full_then v t none = rw (none.service, none.chart, counted_none 0 v.counts none.counts) refl

withdrawn : (g : Rules) (m : Meaning) (v : Memory) (k : ℕ) → v.phase ≡ Open → unused_from 0 v.tickets ≡ Some k → plan g withdraw m v ≡ withdrawing v k v.service
unfolding plan withdraw_plan ask need
withdrawn g m v k phase e = rw (phase, e) refl

pub withdraw_says_full_exactly_when_there_is_none : WithdrawSaysFullExactlyWhenThereIsNone
withdraw_says_full_exactly_when_there_is_none g m v t phase inside free =
    let ticket = unused 0 t v.tickets inside free in
    let e = withdrawn g m v ticket.0 phase ticket.1 in
    (λ x w q. full_since v ticket.0 v.service x w refl (sym e ∙ q), λ none. e ∙ full_then v ticket.0 none)

-- ---- what an accepted plan was asked

ask_accepted : (n : ℕ) (b : Bool) (o : Outcome) (r : Reply) (x : Memory) (w : Option Write) → ask n b o ≡ accept r x w → o ≡ accept r x w
unfolding ask
ask_accepted n true o r x w e = e
ask_accepted n false o r x w e = let z : ◌≡◌ {A = ℕ} 0 1 = cc in absurd (omega arith)

need_accepted : {X : Type 0} (n : ℕ) (o : Option X) (k : X → Outcome) (x : X) (r : Reply) (y : Memory) (w : Option Write) → o ≡ Some x → need n o k ≡ accept r y w → k x ≡ accept r y w
unfolding need
need_accepted n None k x r y w is e = let z : ◌≡◌ {A = ℕ} 0 1 = cc in absurd (omega arith)
need_accepted n (Some q) k x r y w is e = let same : q ≡ x = cc in subst (λ z. k z ≡ accept r y w) same e

drive_accepted : (a : Answer) (o : Outcome) (r : Reply) (x : Memory) (w : Option Write) → if_accepted a o ≡ accept r x w → (a ≡ Ok tt) × (o ≡ accept r x w)
unfolding if_accepted
drive_accepted (Ok tt) o r x w e = (refl, e)
drive_accepted (Err f) o r x w e = let z : ◌≡◌ {A = ℕ} 0 1 = cc in absurd (omega arith)

-- a write that is accepted is to a record of the drive
post_inside : (depth life : ℕ) (m : Meaning) (a n : ℕ) → post_answer depth life m a n ≡ Ok tt → a < size m
post_inside depth life m a n e =
    elim (cases_lt a (size m)) [
      | inl inside ↦ inside
      | inr past ↦
          absurd (elim (cases_Bool (eqb n 512)) [
            | inl long ↦ let q : refused 22 a ≡ Ok tt = rw (long, le-ltb a (size m) past) at e in let z : ◌≡◌ {A = ℕ} 0 1 = cc in omega arith
            | inr short ↦ let q : refused 21 a ≡ Ok tt = rw short at e in let z : ◌≡◌ {A = ℕ} 0 1 = cc in omega arith
          ])
    ]

post_accepted : (g : Rules) (m : Meaning) (q : Reply) (y : Memory) (p : Write) (r : Reply) (x : Memory) (w : Option Write) → post g m q y p ≡ accept r x w
    → (p.at < size m) × (q ≡ r) × (y ≡ x) × (Some p ≡ w)
post_accepted g m q y p r x w e =
    let both = drive_accepted (post_answer g.depth g.life m p.at (length p.bytes)) (accept q y (Some p)) r x w e in
    let inside = post_inside g.depth g.life m p.at (length p.bytes) both.0 in
    let same = both.1 in
    (inside, cc, cc, cc)

-- ---- balance

abbrev Rising : List ℕ → Type 0
Rising l = (i j : ℕ) → i < j → j < length l → get_or l i 0 < get_or l j 0

rising_more : (a : ℕ) (l : List ℕ) → ((i : ℕ) → i < length l → a < get_or l i 0) → Rising l → Rising (a ∷ l)
rising_more a l low up i zero lt h = absurd (omega arith)
rising_more a l low up zero (suc j) lt h = low j (omega arith)
rising_more a l low up (suc i) (suc j) lt h = up i j (omega arith) (omega arith)

-- a stands in the list
abbrev Stands : List ℕ → ℕ → Type 0
Stands l a = (q : ℕ) × (q < length l) × (get_or l q 0 ≡ a)

module _ (bits : List ℕ) (first : ℕ) where
  free_none : (r : ℕ) → free_from bits first r zero ≡ []
  unfolding free_from
  free_none r = refl

  free_on : (r n : ℕ) → bit bits r ≡ true → free_from bits first r (suc n) ≡ (first + r) ∷ free_from bits first (r + 1) n
  unfolding free_from
  free_on r n e = rw e refl

  free_off : (r n : ℕ) → bit bits r ≡ false → free_from bits first r (suc n) ≡ free_from bits first (r + 1) n
  unfolding free_from
  free_off r n e = rw e refl

  -- an address of the n numbers from r on that is free
  pub record FreeThere (r n a : ℕ) : Type 0 where
    pub least : first + r ≤ a
    pub most : a < first + (r + n)
    pub on : bit bits (a - first) ≡ true

  free_wider : (r n a : ℕ) → FreeThere (r + 1) n a → FreeThere r (suc n) a
  free_wider r n a h = record { least = omega arith; most = omega arith; on = h.on }

  all_free_there : (r n : ℕ) → AllByRecursion (FreeThere r n) (free_from bits first r n)
  unfolding free_from
  all_free_there r zero = tt
  all_free_there r (suc n) =
      let rest = All-weaker (FreeThere (r + 1) n) (FreeThere r (suc n)) (free_wider r n) (free_from bits first (r + 1) n) (all_free_there (r + 1) n) in
      elim (cases_Bool (bit bits r)) [
        | inl e ↦
            let own : first + r - first ≡ r = omega arith in
            rw (free_on r n e) (record { least = omega arith; most = omega arith; on = rw own e }, rest)
        | inr e ↦ rw (free_off r n e) rest
      ]

  free_at : (r n i : ℕ) → i < length (free_from bits first r n) → FreeThere r n (get_or (free_from bits first r n) i 0)
  free_at r n i h = All-get_or (FreeThere r n) (free_from bits first r n) i 0 h (all_free_there r n)

  free_many : (r n : ℕ) → length (free_from bits first r n) ≡ count_by (bit bits) (range_with_len r n)
  free_many r zero = rw (free_none r) refl
  free_many r (suc n) =
      let one : ℕ → ℕ = λ x. cond (bit bits x) 1 0 in
      let more = sum_by-cons one r (range_with_len (r + 1) n) in
      let rest = free_many (r + 1) n in
      elim (cases_Bool (bit bits r)) [
        | inl e ↦ let own : one r ≡ 1 = rw e refl in rw (free_on r n e) (omega arith)
        | inr e ↦ let own : one r ≡ 0 = rw e refl in rw (free_off r n e) (omega arith)
      ]

  free_rising : (r n : ℕ) → Rising (free_from bits first r n)
  free_rising r zero = rw (free_none r) (λ i j lt h. absurd (omega arith))
  free_rising r (suc n) =
      elim (cases_Bool (bit bits r)) [
        | inl e ↦ rw (free_on r n e) (rising_more (first + r) (free_from bits first (r + 1) n) (λ i h. omega (arith, (free_at (r + 1) n i h).least)) (free_rising (r + 1) n))
        | inr e ↦ rw (free_off r n e) (free_rising (r + 1) n)
      ]

  -- every free number stands somewhere
  free_stands : (r n j : ℕ) → r ≤ j → j < r + n → bit bits j ≡ true → Stands (free_from bits first r n) (first + j)
  free_stands r zero j least most e = absurd (omega arith)
  free_stands r (suc n) j least most e =
      elim (cases_eq r j) [
        | inl here ↦ rw (free_on r n (subst (λ x. bit bits x ≡ true) (sym here) e)) (0, omega arith, ap (λ x. first + x) here)
        | inr other ↦
            let q = free_stands (r + 1) n j (omega arith) (omega arith) e in
            elim (cases_Bool (bit bits r)) [
              | inl b ↦ rw (free_on r n b) (suc q.0, omega (arith, q.1), q.2)
              | inr b ↦ rw (free_off r n b) q
            ]
      ]

-- ---- the lowest n

module _ (bits : List ℕ) (k n : ℕ) where
  -- all free addresses of the section
  free : List ℕ
  free = free_from bits (first_of k) 0 3968

  taken_length : length (lowest bits k n) ≡ min n (free_count bits)
  unfolding free
  taken_length = length-take n free ∙ ap (min n) (free_many bits (first_of k) 0 3968 ∙ free_is bits 3968 refl)

  taken_at : (i : ℕ) → i < length (lowest bits k n) → (i < length free) × (get_or (lowest bits k n) i 0 ≡ get_or free i 0)
  unfolding free
  taken_at i h = let l = length-take n free in (omega arith, get_or-take n free i 0 (omega arith))

  taken_there : (i : ℕ) → i < length (lowest bits k n) → FreeThere bits (first_of k) 0 3968 (get_or (lowest bits k n) i 0)
  unfolding free
  taken_there i h = let t = taken_at i h in subst (FreeThere bits (first_of k) 0 3968) (sym t.1) (free_at bits (first_of k) 0 3968 i t.0)

  taken_rising : (i j : ℕ) → i < j → j < length (lowest bits k n) → get_or (lowest bits k n) i 0 < get_or (lowest bits k n) j 0
  unfolding free
  taken_rising i j lt h =
      let ti = (taken_at i (omega arith)).1 in
      let tj = taken_at j h in
      let tj' = tj.1 in
      let up = free_rising bits (first_of k) 0 3968 i j lt tj.0 in
      omega arith

  taken_first : (r i : ℕ) → r < 3968 → bit bits r ≡ true → i < length (lowest bits k n) → first_of k + r < get_or (lowest bits k n) i 0 → among (first_of k + r) (lowest bits k n) ≡ true
  unfolding free
  taken_first r i lt e h below =
      let q = free_stands bits (first_of k) 0 3968 r (omega arith) (omega arith) e in
      let at_q = q.2 in
      let ti = taken_at i h in
      let at_i = ti.1 in
      elim (cases_order q.0 i) [
        | inl same ↦ absurd (let here : get_or free q.0 0 ≡ get_or free i 0 = ap (λ x. get_or free x 0) same in omega arith)
        | inr (inl before) ↦
            let tq = (taken_at q.0 (omega arith)).1 in
            subst (λ x. among x (lowest bits k n) ≡ true) (tq ∙ at_q) (among_at (lowest bits k n) q.0 (omega arith))
        | inr (inr after) ↦ absurd (let up = free_rising bits (first_of k) 0 3968 i q.0 after q.1 in omega arith)
      ]

-- a is one of the addresses that section k covers
abbrev Covered : ℕ → ℕ → Type 0
Covered k a = (first_of k ≤ a) × (a < first_of k + 3968)

-- the bits with covered addresses off
marked_off : (k : ℕ) (as' bits : List ℕ) → AllByRecursion (Covered k) as' → FittingBits bits
    → ((r : ℕ) → r < 3968 → bit (all_marked k 0 as' bits) r ≡ (bit bits r && not (among (first_of k + r) as'))) × FittingBits (all_marked k 0 as' bits)
marked_off k [] bits h fit = (λ r lt. sym (and_true (bit bits r)), fit)
  where
    and_true : (b : Bool) → (b && true) ≡ b
    and_true true = refl
    and_true false = refl
marked_off k (a ∷ as') bits h fit =
    let least = h.0.0 in
    let most = h.0.1 in
    let off = a - first_of k in
    let inside : off < 3968 = omega arith in
    let rest = marked_off k as' (marked bits off 0) h.1 (a_changed_bit_changes_no_other bits off 0 0 fit inside (omega arith)).1 in
    let one : (r : ℕ) → bit (marked bits off 0) r ≡ cond (eqb r off) false (bit bits r) = λ r. (a_changed_bit_changes_no_other bits off 0 r fit inside (omega arith)).0 in
    (λ r lt. rest.0 r lt ∙ step r (one r) (omega arith), rest.1)
  where
    step : (r : ℕ) {b : Bool} → b ≡ cond (eqb r (a - first_of k)) false (bit bits r) → first_of k ≤ a
        → (b && not (among (first_of k + r) as')) ≡ (bit bits r && not (eqb a (first_of k + r) || among (first_of k + r) as'))
    step r {b} e least =
        elim (cases_eq r (a - first_of k)) [
          | inl here ↦
              let q : b ≡ false = e ∙ cond-true (eqb r (a - first_of k)) false (bit bits r) (eq-eqb r (a - first_of k) here) in
              rw (q, eq-eqb a (first_of k + r) (omega arith)) (sym (and_right (bit bits r) false refl))
          | inr other ↦
              let q : b ≡ bit bits r = e ∙ cond-false (eqb r (a - first_of k)) false (bit bits r) (ne_eqb r (a - first_of k) other) in
              rw (q, ne_eqb a (first_of k + r) (λ s. other (omega arith))) refl
        ]

lowest_taken : (bits : List ℕ) (k n : ℕ) → FittingBits bits → TakesLowest bits k n (lowest bits k n) (all_marked k 0 (lowest bits k n) bits)
lowest_taken bits k n fit =
    let taken = lowest bits k n in
    let there : (i : ℕ) → i < length taken → FreeThere bits (first_of k) 0 3968 (get_or taken i 0) = taken_there bits k n in
    let covered = All-from_get_or (Covered k) taken 0 (λ i h. (omega (arith, (there i h).least), omega (arith, (there i h).most))) in
    let off = marked_off k taken bits covered fit in
    record {
      many = taken_length bits k n;
      covered = λ i h. (let low = (there i h).least in let high = (there i h).most in omega arith);
      free = λ i h. (there i h).on;
      rising = taken_rising bits k n;
      lowest_first = taken_first bits k n;
      differ = off.0;
      fit = off.1;
    }

-- ---- the call

-- the lowest section that counts a free address
counted_first : (j : ℕ) (ns : List ℕ) (k : ℕ) → counting_free j ns ≡ Some k
    → (j ≤ k) × (k < j + length ns) × (0 < get_or ns (k - j) 0) × ((i : ℕ) → j + i < k → get_or ns i 0 ≡ 0)
counted_first j [] k e = let z : ◌≡◌ {A = ℕ} 0 1 = cc in absurd (omega arith)
counted_first j (n ∷ ns) k e =
    elim (cases_lt 0 n) [
      | inl some ↦
          let here : Some j ≡ Some k = rw (lt-ltb 0 n some) at e in
          let same : j ≡ k = cc in
          let z : k - j ≡ 0 = omega arith in
          (omega arith, omega arith, rw z some, λ i lt. absurd (omega arith))
      | inr none ↦
          let rest = counted_first (j + 1) ns k (rw (le-ltb 0 n none) at e) in
          let above = rest.0 in
          let below = rest.1 in
          let z : k - j ≡ suc (k - (j + 1)) = omega arith in
          (omega arith, omega arith, rw z rest.2, before none rest.3)
    ]
  where
    before : n ≤ 0 → ((i : ℕ) → j + 1 + i < k → get_or ns i 0 ≡ 0) → (i : ℕ) → j + i < k → get_or (n ∷ ns) i 0 ≡ 0
    before none rest zero lt = omega arith
    before none rest (suc i) lt = rest i (omega arith)

none_fit : FittingBits none_free
none_fit = (on_none (λ _. false)).fit

section_fits : (id : ℕ) (span : Span) (p : List ℕ) (x : Option Section) → RecordBytes p → sound_section sum_start id span p ≡ x → FittingBits (bits_or_none x)
section_fits id span p None long e = none_fit
section_fits id span p (Some x) long e = (a_sound_section_is_the_record_of_what_is_read sum_start id span p x (omega arith) long e).1

state_fits : (id e t k : ℕ) (s : State) → WellFormedState s → FittingBits (bits_or_none (section_in_state id e t k s))
state_fits id e t k (readable bs) f = section_fits id (map_span k e t) bs (sound_section sum_start id (map_span k e t) bs) f refl
state_fits id e t k spoiled f = none_fit

bits_fit : (m : Meaning) (id e k : ℕ) → WellFormed m → FittingBits (bits_shown m id e k)
bits_fit m id e k formed = state_fits id e (size m) k (shown m (section_at k)) (well_formed_shown m (section_at k) formed)

-- what is taken from section k, and its bits then
abbrev taken_from : Meaning → Memory → ℕ → List ℕ
taken_from m v k = lowest (bits_shown m v.id v.entries k) k (16 - length v.service)

abbrev bits_after : Meaning → Memory → ℕ → List ℕ
bits_after m v k = all_marked k 0 (taken_from m v k) (bits_shown m v.id v.entries k)

abbrev stock_after : Meaning → Memory → ℕ → Memory
stock_after m v k = with_stock v (Writing k) (set v.counts k (free_count (bits_after m v k))) v.service (v.unsettled ++ taken_from m v k)

abbrev section_write : Meaning → Memory → ℕ → Write
section_write m v k = record { at = section_at k; bytes = section_bytes v.id v.entries (size m) k (bits_after m v k) }

take_accepted : (g : Rules) (m : Meaning) (v : Memory) (o : Option ℕ) (k : ℕ) (x : Memory) (w : Option Write) → take_from g m v o ≡ accept (section k) x w
    → (o ≡ Some k) × (stock_after m v k ≡ x) × (Some (section_write m v k) ≡ w)
take_accepted g m v None k x w e = let z : ◌≡◌ {A = ℕ} 0 1 = cc in absurd (omega arith)
take_accepted g m v (Some j) k x w e =
    let p = post_accepted g m (section j) (stock_after m v j) (section_write m v j) (section k) x w e in
    let named = p.1 in
    let same : j ≡ k = cc in
    (ap Some same, subst (λ y. stock_after m v y ≡ x) same p.2, subst (λ y. Some (section_write m v y) ≡ w) same p.3)

balance_accepted : (g : Rules) (n k : ℕ) (m : Meaning) (v x : Memory) (w : Option Write) → length v.service < 8 → plan g (balance n) m v ≡ accept (section k) x w
    → take_from g m v (counting_free 0 v.counts) ≡ accept (section k) x w
unfolding plan balance_plan
balance_accepted g n k m v x w few e = idle v.chart (ask_accepted _ _ _ (section k) x w (ask_accepted _ _ _ (section k) x w e))
  where
    idle : (c : MapState) → balancing g m v c ≡ accept (section k) x w → take_from g m v (counting_free 0 v.counts) ≡ accept (section k) x w
    idle Idle q = sym (cond-true (ltb (length v.service) 8) (take_from g m v (counting_free 0 v.counts)) _ (lt-ltb (length v.service) 8 few)) ∙ q
    idle (Writing j) q = let z : ◌≡◌ {A = ℕ} 0 1 = cc in absurd (omega arith)

balance_takes : (g : Rules) (n k : ℕ) (m : Meaning) (v x : Memory) (w : Option Write) → WellFormed m → length v.service < 8
    → plan g (balance n) m v ≡ accept (section k) x w → (y : Write) × (w ≡ Some y) × Takes m v k x y
balance_takes g n k m v x w formed few e =
    let t = take_accepted g m v (counting_free 0 v.counts) k x w (balance_accepted g n k m v x w few e) in
    let c = counted_first 0 v.counts k t.0 in
    let inside = c.1 in
    let whole : k - 0 ≡ k = omega arith in
    let stock : Memory → Type 0 = λ y. Takes m v k y (section_write m v k) in (
      section_write m v k,
      sym t.2,
      subst stock t.1 (record {
        counted = rw whole at c.2;
        lowest_section = λ j lt. c.3 j (omega arith);
        taken = taken_from m v k;
        after = bits_after m v k;
        takes = lowest_taken (bits_shown m v.id v.entries k) k (16 - length v.service) (bits_fit m v.id v.entries k formed);
        unsettled = refl;
        service = refl;
        counts = get_or-set_same v.counts k (free_count (bits_after m v k)) 0 (omega arith);
        posts = refl;
      }),
    )

pub a_take_is_of_the_lowest_free : ATakeIsOfTheLowestFree
a_take_is_of_the_lowest_free = (lowest_taken, balance_takes)

-- ---- update

live_or_0 : (s : Slot) → (live_address s ≡ 0 → ⊥) → s ≡ Live (live_address s)
live_or_0 Empty nz = absurd (nz refl)
live_or_0 (Nulled a) nz = absurd (nz refl)
live_or_0 (Live a) nz = refl
live_or_0 (Leaving a) nz = absurd (nz refl)
live_or_0 (Left a) nz = absurd (nz refl)

abbrev updated_entry : Meaning → File → Entry
updated_entry m x = record { meter = x.meter; slots = map (λ s. live_address (updated m s)) x.slots }

live_only : (m : Meaning) (x : File) → LiveOnly (map (updated m) x.slots) (updated_entry m x)
live_only m x =
    record {
      long = length-map x.slots (λ s. live_address (updated m s)) ∙ sym (length-map x.slots (updated m));
      live = λ p a h e. written p h ∙ ap live_address e;
      else_0 = λ p h nz. live_or_0 (get_or (map (updated m) x.slots) p Empty) (λ z. nz (written p h ∙ z)) ∙ ap Live (sym (written p h));
    }
  where
    written : (p : ℕ) → p < length (map (updated m) x.slots) → get_or (updated_entry m x).slots p 0 ≡ live_address (get_or (map (updated m) x.slots) p Empty)
    written p h =
        let l = length-map x.slots (updated m) in
        let inside : p < length x.slots = omega arith in
        get_or-map (λ s. live_address (updated m s)) x.slots p Empty 0 inside ∙ ap live_address (sym (get_or-map (updated m) x.slots p Empty Empty inside))

-- a posted write shows, whatever is completed
shown_after : (m n : Meaning) (k a : ℕ) (bs : List ℕ) → WellFormed m → a < size m → n ≡ complete k (posted m a bs) → shown n a ≡ readable bs
shown_after m n k a bs formed inside e = ap (λ x. shown x a) e ∙ shown_back m a k bs formed inside

-- the write and the memory of an accepted update
update_accepted : (g : Rules) (n f : ℕ) (m : Meaning) (v : Memory) (x : File) (r : Reply) (y : Memory) (w : Option Write) → file_of v f ≡ Some x
    → plan g (update n f) m v ≡ accept r y w
    → (entry_at x.entry < size m) × (with_file v f (Some (with_slots x (map (updated m) x.slots))) ≡ y)
    × (Some (record { at = entry_at x.entry; bytes = entry_bytes v.id (updated_entry m x) }) ≡ w)
unfolding plan update_plan
update_accepted g n f m v x r y w used e =
    let inside = ask_accepted _ _ _ r y w (need_accepted _ (file_of v f) _ x r y w used (ask_accepted _ _ _ r y w (ask_accepted _ _ _ r y w e))) in
    let form : Write = record { at = entry_at x.entry; bytes = entry_bytes v.id (updated_entry m x) } in
    let p = post_accepted g m done (with_file v f (Some (with_slots x (map (updated m) x.slots)))) form r y w inside in
    (p.0, p.2, p.3)

used_inside : (v : Memory) (f : ℕ) (x : File) → file_of v f ≡ Some x → f < length v.files
used_inside v f x used =
    elim (cases_lt f (length v.files)) [
      | inl inside ↦ inside
      | inr past ↦ absurd (let none = get_or_past v.files f None past in let z : ◌≡◌ {A = ℕ} 0 1 = cc in omega arith)
    ]

follows : (w : Option Write) (p : Write) (m n : Meaning) → Some p ≡ w → DriveFollows w m n → (k : ℕ) × (n ≡ complete k (posted m p.at p.bytes))
follows w p m n e h = subst (λ o. DriveFollows o m n) (sym e) h

pub after_an_update_the_entry_shows_exactly_the_live_slots : AfterAnUpdateTheEntryShowsExactlyTheLiveSlots
after_an_update_the_entry_shows_exactly_the_live_slots g n f v u x r y w formed used e l =
    let m = v.drive in
    let was = v.memory in
    let a = update_accepted g n f m was x r y w used e in
    let form = updated_entry m x in
    let posts : Write = record { at = entry_at x.entry; bytes = entry_bytes was.id form } in
    let after = follows w posts m u.drive a.2 l.1 in
    let file = with_slots x (map (updated m) x.slots) in
    let shows = shown_after m u.drive after.0 (entry_at x.entry) (entry_bytes was.id form) formed a.0 after.1 in
    record {
      form = form;
      metered = refl;
      only = live_only m x;
      file = ap (λ z. file_of z f) (l.0 ∙ sym a.1) ∙ get_or-set_same was.files f (Some file) None (used_inside was f x used);
      writes = sym a.2;
      shows = shows;
      reads = λ small fits. ap (whole_entry_in_state was.id) shows ∙ (a_written_entry_is_read_back sum_start was.id (page_region 0 0) form (omega arith) small fits).0;
    }

-- ---- mending

same_true : (xs ys : List ℕ) → same xs ys ≡ true → xs ≡ ys
same_true [] [] e = refl
same_true [] (y ∷ ys) e = absurd (both_ways false refl e)
same_true (x ∷ xs) [] e = absurd (both_ways false refl e)
same_true (x ∷ xs) (y ∷ ys) e =
    let p = and_parts (eqb x y) (same xs ys) e in
    let head = eqb-true x y p.0 in
    let tail = same_true xs ys p.1 in
    cc

zero_slots : (n p : ℕ) → get_or {A = ℕ} (replicate n 0) p 0 ≡ 0
zero_slots zero p = refl
zero_slots (suc n) zero = refl
zero_slots (suc n) (suc p) = zero_slots n p

module _ (g : Region) where
  -- an address of the region that is kept already, or not
  abbrev stays : List ℕ → ℕ → Bool
  stays kept a = within g a && not (among a kept)

  -- the mended slots after one that stays, and after one that does not
  slots_staying : (kept : List ℕ) (a : ℕ) (rest : List ℕ) → stays kept a ≡ true → mended_slots g kept (a ∷ rest) ≡ a ∷ mended_slots g (a ∷ kept) rest
  slots_staying kept a rest e = rw e refl

  slots_going : (kept : List ℕ) (a : ℕ) (rest : List ℕ) → stays kept a ≡ false → mended_slots g kept (a ∷ rest) ≡ 0 ∷ mended_slots g kept rest
  slots_going kept a rest e = rw e refl

  -- what is kept is not kept again
  not_again : (kept xs : List ℕ) (b : ℕ) → (b ≡ 0 → ⊥) → among b kept ≡ true → among b (mended_slots g kept xs) ≡ false
  not_again kept [] b nz h = refl
  not_again kept (a ∷ xs) b nz h =
      elim (cases_Bool (stays kept a)) [
        | inl e ↦
            let new = not-true (among a kept) (and_parts (within g a) (not (among a kept)) e).1 in
            let ne : eqb a b ≡ false = ne_eqb a b (λ s. both_ways (among b kept) (subst (λ x. among x kept ≡ false) s new) h) in
            rw (slots_staying kept a xs e) (or_from (eqb a b) (among b (mended_slots g (a ∷ kept) xs)) ne (not_again (a ∷ kept) xs b nz (or_right (eqb a b) (among b kept) h)))
        | inr e ↦ rw (slots_going kept a xs e) (or_from (eqb 0 b) (among b (mended_slots g kept xs)) (ne_eqb 0 b (λ s. nz (sym s))) (not_again kept xs b nz h))
      ]

  sound_slots : (meter : ℕ) (kept xs : List ℕ) → (meter ≡ 0 → ⊥) → slots_sound meter g (mended_slots g kept xs) ≡ true
  sound_slots meter kept [] nm = refl
  sound_slots meter kept (a ∷ xs) nm =
      elim (cases_Bool (stays kept a)) [
        | inl e ↦
            let rest = mended_slots g (a ∷ kept) xs in
            rw (slots_staying kept a xs e)
            (and_from (eqb a 0 || may_stand meter g a rest) (slots_sound meter g rest) (elim (cases_eq a 0) [
              | inl z ↦ or_left (eqb a 0) (may_stand meter g a rest) (eq-eqb a 0 z)
              | inr nz ↦
                  or_right (eqb a 0) (may_stand meter g a rest)
                  (and_from (not (eqb meter 0)) (within g a && not (among a rest)) (not_from_false (eqb meter 0) (ne_eqb meter 0 nm))
                  (and_from (within g a) (not (among a rest)) (and_parts (within g a) (not (among a kept)) e).0
                  (not_from_false (among a rest) (not_again (a ∷ kept) xs a nz (or_left (eqb a a) (among a kept) (eq-eqb a a refl))))))
            ]) (sound_slots meter (a ∷ kept) xs nm))
        | inr e ↦ rw (slots_going kept a xs e) (sound_slots meter kept xs nm)
      ]

  held_or_0 : (kept xs : List ℕ) (p : ℕ) → (get_or (mended_slots g kept xs) p 0 ≡ 0) ⊎ (get_or (mended_slots g kept xs) p 0 ≡ get_or xs p 0)
  held_or_0 kept [] p = inl refl
  held_or_0 kept (a ∷ xs) zero = elim (cases_Bool (stays kept a)) [ inl e ↦ inr (rw e refl) | inr e ↦ inl (rw e refl) ]
  held_or_0 kept (a ∷ xs) (suc p) =
      elim (cases_Bool (stays kept a)) [
        | inl e ↦ rw (slots_staying kept a xs e) (held_or_0 (a ∷ kept) xs p)
        | inr e ↦ rw (slots_going kept a xs e) (held_or_0 kept xs p)
      ]

  new_only : (kept xs : List ℕ) (p : ℕ) → (get_or (mended_slots g kept xs) p 0 ≡ 0 → ⊥) → among (get_or (mended_slots g kept xs) p 0) kept ≡ false
  new_only kept xs p nz =
      let ys = mended_slots g kept xs in
      elim (cases_Bool (among (get_or ys p 0) kept)) [
        | inl e ↦
            elim (cases_lt p (length ys)) [
              | inl inside ↦ absurd (both_ways (among (get_or ys p 0) ys) (not_again kept xs (get_or ys p 0) nz e) (among_at ys p inside))
              | inr past ↦ absurd (nz (get_or_past ys p 0 past))
            ]
        | inr e ↦ e
      ]

  other_kept : (kept xs : List ℕ) (p : ℕ) → p < length xs → within g (get_or xs p 0) ≡ true → among (get_or xs p 0) (kept ++ take p xs) ≡ false
      → get_or (mended_slots g kept xs) p 0 ≡ get_or xs p 0
  other_kept kept [] p h w f = absurd (omega arith)
  other_kept kept (a ∷ xs) zero h w f =
      let new = (or_parts (among a kept) (among a []) (sym (among_append a kept []) ∙ f)).0 in
      rw (slots_staying kept a xs (and_from (within g a) (not (among a kept)) w (not_from_false (among a kept) new))) refl
  other_kept kept (a ∷ xs) (suc p) h w f =
      let b = get_or xs p 0 in
      let fs = or_parts (among b kept) (among b (a ∷ take p xs)) (sym (among_append b kept (a ∷ take p xs)) ∙ f) in
      let gs = or_parts (eqb a b) (among b (take p xs)) fs.1 in
      let old = or_from (among b kept) (among b (take p xs)) fs.0 gs.1 in
      elim (cases_Bool (stays kept a)) [
        | inl e ↦ rw (slots_staying kept a xs e) (other_kept (a ∷ kept) xs p (omega arith) w (or_from (eqb a b) (among b (kept ++ take p xs)) gs.0 (among_append b kept (take p xs) ∙ old)))
        | inr e ↦ rw (slots_going kept a xs e) (other_kept kept xs p (omega arith) w (among_append b kept (take p xs) ∙ old))
      ]

  free_sound : addresses_sound g free_entry ≡ true
  free_sound = refl

  mends : (kept : List ℕ) (x : Entry) → Mends g kept x (mended g kept (Some x))
  mends kept x =
      elim (cases_eq x.meter 0) [
        | inl z ↦
            rw (eq-eqb x.meter 0 z)
            (record {
              sound = free_sound;
              metered = sym z;
              only_held = λ p. inl (zero_slots 64 p);
              none_kept = λ p nz. absurd (nz (zero_slots 64 p));
              all_other = λ nz p h w f. absurd (nz z);
            })
        | inr nz ↦
            rw (ne_eqb x.meter 0 nz)
            (record {
              sound = sound_slots x.meter kept x.slots nz;
              metered = refl;
              only_held = held_or_0 kept x.slots;
              none_kept = new_only kept x.slots;
              all_other = λ _ p h w f. other_kept kept x.slots p h w f;
            })
      ]

  -- ---- all entries in order

  -- each number but 0 does not stand after itself
  abbrev Once : List ℕ → Type 0
  Once [] = Unit {0}
  Once (a ∷ l) = ((a ≡ 0 → ⊥) → among a l ≡ false) × Once l

  once_zeros : (n : ℕ) (l : List ℕ) → Once l → Once (replicate n 0 ++ l)
  once_zeros zero l h = h
  once_zeros (suc n) l h = (λ nz. absurd (nz refl), once_zeros n l h)

  -- more may be kept than stands before
  once_slots : (kept xs l : List ℕ) → ((b : ℕ) → among b kept ≡ false → among b l ≡ false) → Once l → Once (mended_slots g kept xs ++ l)
  once_slots kept [] l sub h = h
  once_slots kept (a ∷ xs) l sub h =
      elim (cases_Bool (stays kept a)) [
        | inl e ↦
            let rest = mended_slots g (a ∷ kept) xs in
            let new = not-true (among a kept) (and_parts (within g a) (not (among a kept)) e).1 in
            rw (slots_staying kept a xs e) (
              λ nz. among_append a rest l ∙ or_from (among a rest) (among a l) (not_again (a ∷ kept) xs a nz (or_left (eqb a a) (among a kept) (eq-eqb a a refl))) (sub a new),
              once_slots (a ∷ kept) xs l (λ b f. sub b (or_parts (eqb a b) (among b kept) f).1) h,
            )
        | inr e ↦ rw (slots_going kept a xs e) (λ nz. absurd (nz refl), once_slots kept xs l sub h)
      ]

  once_mended : (kept : List ℕ) (x : Option Entry) → Once kept → Once ((mended g kept x).slots ++ kept)
  once_mended kept None h = once_zeros 64 kept h
  once_mended kept (Some x) h =
      elim (cases_Bool (eqb x.meter 0)) [
        | inl e ↦ rw e (once_zeros 64 kept h)
        | inr e ↦ rw e (once_slots kept x.slots kept (λ b f. f) h)
      ]

  once_kept : (id : ℕ) (s : States) (kept : List ℕ) (i n : ℕ) → Once kept → Once (all_kept id g s kept i n)
  once_kept id s kept i zero h = h
  once_kept id s kept i (suc n) h =
      let x = whole_entry_in_state id (s (entry_at i)) in
      once_kept id s ((mended g kept x).slots ++ kept) (i + 1) n (once_mended kept x h)

  no_double : (l : List ℕ) → Once l → NoDoubleBut0 l
  no_double [] h p q lt inside e = absurd (omega arith)
  no_double (a ∷ l) h p zero lt inside e = absurd (omega arith)
  no_double (a ∷ l) h zero (suc q) lt inside e =
      elim (cases_eq a 0) [
        | inl z ↦ z
        | inr nz ↦ absurd (both_ways (among a l) (h.0 nz) (subst (λ x. among x l ≡ true) (sym e) (among_at l q (omega arith))))
      ]
  no_double (a ∷ l) h (suc p) (suc q) lt inside e = no_double l h.1 p q (omega arith) (omega arith) e

  found : (id : ℕ) (s : States) (kept : List ℕ) (i n : ℕ) (u : Unmended) → first_unmended id g s kept i n ≡ Some u
      → (i ≤ u.number) × (u.number < i + n) × (u.form ≡ mended g (all_kept id g s kept i (u.number - i)) (whole_entry_in_state id (s (entry_at u.number))))
  found id s kept i zero u e = let z : ◌≡◌ {A = ℕ} 0 1 = cc in absurd (omega arith)
  found id s kept i (suc n) u e =
      let x = mended g kept (whole_entry_in_state id (s (entry_at i))) in
      elim (cases_Bool (shows (s (entry_at i)) (entry_bytes id x))) [
        | inl as_mended ↦
            let rest = found id s (x.slots ++ kept) (i + 1) n u (rw as_mended at e) in
            let above = rest.0 in
            let below = rest.1 in
            let next : u.number - i ≡ suc (u.number - (i + 1)) = omega arith in
            (omega arith, omega arith, rw next rest.2)
        | inr other ↦
            let here : Some (record { number = i; form = x }) ≡ Some u = rw other at e in
            let is : record { number = i; form = x } ≡ u = cc in
            let none : i - i ≡ 0 = omega arith in
            subst (λ y. (i ≤ y.number) × (y.number < i + suc n) × (y.form ≡ mended g (all_kept id g s kept i (y.number - i)) (whole_entry_in_state id (s (entry_at y.number))))) is
            (omega arith, omega arith, rw none refl)
      ]

  some_one : (u : Unmended) → Some u ≡ None → ⊥
  some_one u e = let z : ◌≡◌ {A = ℕ} 0 1 = cc in omega arith

  all_found : (id : ℕ) (s : States) (kept : List ℕ) (i n j : ℕ) → first_unmended id g s kept i n ≡ None → j < n
      → bytes_in (s (entry_at (i + j))) ≡ entry_bytes id (mended g (all_kept id g s kept i j) (whole_entry_in_state id (s (entry_at (i + j)))))
  all_found id s kept i zero j e lt = absurd (omega arith)
  all_found id s kept i (suc n) j e lt =
      let x = mended g kept (whole_entry_in_state id (s (entry_at i))) in
      elim (cases_Bool (shows (s (entry_at i)) (entry_bytes id x))) [
        | inr other ↦ absurd (some_one (record { number = i; form = x }) (rw other at e))
        | inl as_mended ↦ by j (same_true (bytes_in (s (entry_at i))) (entry_bytes id x) as_mended) (λ q. all_found id s (x.slots ++ kept) (i + 1) n q (rw as_mended at e)) lt
      ]
    where
      by : (j : ℕ) → bytes_in (s (entry_at i)) ≡ entry_bytes id (mended g kept (whole_entry_in_state id (s (entry_at i))))
          → ((q : ℕ) → q < n → bytes_in (s (entry_at (i + 1 + q))) ≡ entry_bytes id (mended g (all_kept id g s ((mended g kept (whole_entry_in_state id (s (entry_at i)))).slots ++ kept) (i + 1) q) (whole_entry_in_state id (s (entry_at (i + 1 + q))))))
          → j < suc n
          → bytes_in (s (entry_at (i + j))) ≡ entry_bytes id (mended g (all_kept id g s kept i j) (whole_entry_in_state id (s (entry_at (i + j)))))
      by zero own rest lt = let e : i + 0 ≡ i = omega arith in rw e own
      by (suc j) own rest lt = let e : i + suc j ≡ i + 1 + j = omega arith in rw e (rest j (omega arith))

all_mended : (id : ℕ) (g : Region) (s : States) (n i : ℕ) → first_unmended id g s [] 0 n ≡ None → i < n → bytes_in (s (entry_at i)) ≡ entry_bytes id (mended_form id g s i)
all_mended id g s n i e lt = let own : 0 + i ≡ i = omega arith in rw own at (all_found g id s [] 0 n i e lt)

first_found : (id : ℕ) (g : Region) (s : States) (n : ℕ) (u : Unmended) → first_unmended id g s [] 0 n ≡ Some u
    → (u.number < n) × (u.form ≡ mended_form id g s u.number)
first_found id g s n u e =
    let r = found g id s [] 0 n u e in
    let below = r.1 in
    let whole : u.number - 0 ≡ u.number = omega arith in
    (omega arith, rw whole at r.2)

-- ---- the call

need_found : {X : Type 0} (n : ℕ) (o : Option X) (k : X → Outcome) (r : Reply) (y : Memory) (w : Option Write) → need n o k ≡ accept r y w → (x : X) × (o ≡ Some x) × (k x ≡ accept r y w)
unfolding need
need_found n None k r y w e = let z : ◌≡◌ {A = ℕ} 0 1 = cc in absurd (omega arith)
need_found n (Some x) k r y w e = (x, refl, e)

module _ (g : Rules) (m : Meaning) (v x : Memory) (l : Label) (i : ℕ) (w : Option Write) where
  no_other : (q : Reply) (p : Write) → (q ≡ entry i → ⊥) → post g m q v p ≡ accept (entry i) x w → ⊥
  no_other q p ne e = ne (post_accepted g m q v p (entry i) x w e).1

  not_the_map : (k : Option ℕ) → end_or_section g m v l k ≡ accept (entry i) x w → ⊥
  not_the_map None e = no_other ended (label_write (with_state l Closed 0)) (λ q. let z : ◌≡◌ {A = ℕ} 0 1 = cc in omega arith) e
  not_the_map (Some k) e =
      no_other (section k) (record { at = section_at k; bytes = mended_section l.id l.entries (size m) (shown m) k }) (λ q. let z : ◌≡◌ {A = ℕ} 0 1 = cc in omega arith) e

  entry_posted : (u : Option Unmended) → map_or_entry g m v l u ≡ accept (entry i) x w
      → (y : Unmended) × (u ≡ Some y) × (y.number ≡ i) × (x ≡ v) × (w ≡ Some (record { at = entry_at y.number; bytes = entry_bytes l.id y.form }))
  entry_posted None e = absurd (not_the_map (first_inexact l.id l.entries (size m) (shown m) 0 3) e)
  entry_posted (Some u) e =
      let p = post_accepted g m (entry u.number) v (record { at = entry_at u.number; bytes = entry_bytes l.id u.form }) (entry i) x w e in
      let named = p.1 in
      (u, refl, cc, sym p.2, sym p.3)

  entry_mended : label_shown m ≡ Some l → salvaging g m v l ≡ accept (entry i) x w → PostsMended m v i x w
  entry_mended is e =
      elim (cases_Bool (is_salvage (label_in_state (size m) (shown m label_at)))) [
        | inr before ↦
            absurd (no_other begun (label_write (with_state l Salvage l.trouble)) (λ q. let z : ◌≡◌ {A = ℕ} 0 1 = cc in omega arith)
            (sym (cond-false (is_salvage (label_in_state (size m) (shown m label_at))) _ _ before) ∙ e))
        | inl going ↦
            let region = page_region l.entries (size m) in
            let p = entry_posted (first_unmended l.id region (shown m) [] 0 l.entries) (sym (cond-true (is_salvage (label_in_state (size m) (shown m label_at))) _ _ going) ∙ e) in
            let f = first_found l.id region (shown m) l.entries p.0 p.1 in
            let below = f.0 in
            let number = p.2 in
            let Form : ℕ → Type 0 = λ y. w ≡ Some (record { at = entry_at y; bytes = entry_bytes l.id (mended_form l.id region (shown m) y) }) in
            let at_own : Form p.0.number = p.4 ∙ ap (λ y. Some (record { at = entry_at p.0.number; bytes = entry_bytes l.id y })) f.1 in
            record { label = l; shown_label = is; numbered = omega arith; memory = p.3; posts = subst Form number at_own }
      ]

salvage_posts : (g : Rules) (n c i : ℕ) (m : Meaning) (v x : Memory) (w : Option Write) → plan g (salvage n c) m v ≡ accept (entry i) x w → PostsMended m v i x w
unfolding plan salvage_plan
salvage_posts g n c i m v x w e =
    let l = need_found _ (label_shown m) _ (entry i) x w (ask_accepted _ _ _ (entry i) x w (ask_accepted _ _ _ (entry i) x w e)) in
    entry_mended g m v x l.0 i w l.1 (ask_accepted _ _ _ (entry i) x w (ask_accepted _ _ _ (entry i) x w l.2))

pub a_mended_entry_is_sound_and_keeps_only_what_it_held : AMendedEntryIsSoundAndKeepsOnlyWhatItHeld
a_mended_entry_is_sound_and_keeps_only_what_it_held =
    (mends, λ g kept. free_sound g, λ id g s n. no_double g (all_kept id g s [] 0 n) (once_kept g id s [] 0 n tt), all_mended, salvage_posts)
