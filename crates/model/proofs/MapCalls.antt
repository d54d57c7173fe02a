-- The calls on the map and on the label, and poll, keep what holds of a volume.
use Rattle.std.proofs.Common.{◌≡◌, ℕ, zero, suc, ◌+◌, ◌-◌, ◌/◌, ◌<◌, Bool, true, false, cond, ◌&&◌, eqb, ltb, ◌⊎◌, List, [], ◌∷◌, ◌++◌, length, get_or, set, Some, None, Option, sym, refl, ap, ◌∙◌, subst, inl, inr, arith}
use Rattle.std.proofs.lemmas.List.{length-set, nil_from_length}
use Rattle.std.proofs.lemmas.Bool.{cases_lt, cases_Bool, eqb-true, and_parts, ne_eqb, true≢false}
use Rattle.drive.specs.Meaning.{State, readable, Meaning, size, owed, shown, pending, posted}
use Rattle.record.specs.declared.label.Label.{Label}
use Rattle.record.specs.declared.section.Section.{Section}
use Rattle.record.specs.Regions.{map_span, first_of}
use Rattle.record.specs.Sections.{digit, weight, bit, free_count, none_free}
use Rattle.record.specs.Entries.{among}
use Rattle.record.specs.Laws.{FittingBits}
use Rattle.record.proofs.BitLaws.{on_none}
use Rattle.record.proofs.SectionLaws.{a_sound_section_is_the_record_of_what_is_read}
use Rattle.model.specs.declared.memory.Phase.{Phase}
use Rattle.model.specs.declared.memory.Phase.TheVariants.{Shut, Open, Closing}
use Rattle.model.specs.declared.memory.MapState.{MapState}
use Rattle.model.specs.declared.memory.MapState.TheVariants.{Idle, Writing}
use Rattle.model.specs.declared.memory.File.{File}
use Rattle.model.specs.Volume.{entry_at, section_at, label_bytes, section_bytes}
use Rattle.model.specs.Memory.{Memory, with_stock, with_phase, used}
use Rattle.model.specs.Outcomes.{Reply, Rules}
use Rattle.model.specs.Shown.{counted_in_use, or_else, label_in_state, label_shown, bits_or_none, section_in_state, bits_shown}
use Rattle.model.specs.Stock.{cover, lowest, all_marked, given, staying, counting_free, oldest}
use Rattle.model.specs.Plans.{is_shut, is_open, is_closing, is_idle, opened, taking, giving, take_from, give_oldest, open_plan, close_plan, finish_plan, balance_plan, drain_plan, joined}
use Rattle.model.proofs.Possible.{clash, Possible, shown_posted, shown_elsewhere, shown_possible, quiet_possible}
use Rattle.model.proofs.ReadBack.{section_read_back, section_readable, label_readable, possible_bytes, none_not}
use Rattle.model.proofs.Lists.{one_same, count, count_among, count_split, given_cover, lowest_once, lowest_is, marks_fit, marks_show, get_or_replicated}
use Rattle.model.proofs.Ledger.{free, in_service, at_slot, Ledger, differ, hand, From, hand_in, hand_out, hand_kept, Holds, holds_none, holds_split, holds_part, holds_join}
use Rattle.model.proofs.Parts.{Shape, OnDrive, bits_here, Off, Stock, Tickets, Unheld, Bare, Inv, Good, not_lost, within_handed, drive_handed, drive_section, drive_label, off_same, files_moved, tickets_handed}
use Rattle.model.proofs.Meets.{Meets, accept_meets, ask_meets, need_meets, cond_meets, post_meets}
use Rattle.model.proofs.FileCalls.{Keeps, not_shut}

-- ---- phases and the map's state

pub closing_is : (p : Phase) → is_closing p ≡ true → p ≡ Closing
closing_is Shut h = absurd (true≢false (sym h))
closing_is Open h = absurd (true≢false (sym h))
closing_is Closing h = refl

pub shut_is : (p : Phase) → is_shut p ≡ true → p ≡ Shut
shut_is Shut h = refl
shut_is Open h = absurd (true≢false (sym h))
shut_is Closing h = absurd (true≢false (sym h))

pub idle_is : (c : MapState) → is_idle c ≡ true → c ≡ Idle
idle_is Idle h = refl
idle_is (Writing k) h = absurd (true≢false (sym h))

map_bare : (p : Phase) (ts : List (Option ℕ)) (fs : List (Option File)) (s u s' u' : List ℕ) → is_shut p ≡ false → Bare p ts fs s u → Bare p ts fs s' u'
map_bare Shut ts fs s u s' u' h B = absurd (true≢false h)
map_bare Open ts fs s u s' u' h B = tt
map_bare Closing ts fs s u s' u' h B = B

-- ---- sections as they show

-- a bit is on only in a sound section
pub section_on : (q : Option Section) (r : ℕ) → bit (bits_or_none q) r ≡ true → (s : Section) × (q ≡ Some s) × (bit s.bits r ≡ true)
section_on None r h =
    let off : bit none_free r ≡ false =
    ap (λ (w : ℕ). eqb (digit w (weight r)) 1) (get_or_replicated {A = ℕ} 124 0 (r / 32)) ∙ ne_eqb (digit 0 (weight r)) 1 (λ e. omega arith) in
    absurd (clash (bit none_free r) h off)
section_on (Some s) r h = (s, refl, h)

pub lowest_counted : (j : ℕ) (ns : List ℕ) (k : ℕ) → counting_free j ns ≡ Some k → k < j + length ns
lowest_counted j [] k h = absurd (none_not k h)
lowest_counted j (n ∷ ns) k h =
    let P : Bool → Type 0 = λ b. cond b (Some j) (counting_free (j + 1) ns) ≡ Some k in
    elim (cases_Bool (ltb 0 n)) [
      | inl e ↦
          let at : Some j ≡ Some k = subst P e h in
          let same : j ≡ k = cc in
          omega arith
      | inr e ↦ let ih = lowest_counted (j + 1) ns k (subst P e h) in omega arith
    ]

-- ---- nothing is used

none_used : {X : Type 0} (xs : List (Option X)) → used xs ≡ 0 → (i : ℕ) → get_or xs i None ≡ None
none_used [] h i = refl
none_used (None ∷ xs) h zero = refl
none_used (None ∷ xs) h (suc i) = none_used xs h i
none_used (Some x ∷ xs) h i = absurd (omega arith)

module _ (g : Shape) (d : Meaning) where
  -- a bit that shows on is that of a free address
  pub shown_free : (o : Ledger) (k x : ℕ) → OnDrive g o d → k < 3 → cover x ≡ k → bit (bits_here g d k) (x - first_of k) ≡ true → o x ≡ free
  shown_free o k x D l at h =
      let s = section_on (section_in_state g.id g.entries g.records k (shown d (section_at k))) (x - first_of k) h in
      let r = section_readable g.id g.entries g.records k (shown d (section_at k)) s.0 s.1 in
      D.mapped x r.0 s.0 (omega arith) (rw at (shown_possible d (section_at k) r.0 r.1)) (rw at r.2) (rw at s.2)

  pub here_fits : (o : Ledger) (k : ℕ) → OnDrive g o d → FittingBits (bits_here g d k)
  here_fits o k D = go (section_in_state g.id g.entries g.records k (shown d (section_at k))) refl
    where
      go : (q : Option Section) → section_in_state g.id g.entries g.records k (shown d (section_at k)) ≡ q → FittingBits (bits_or_none q)
      go None is = (on_none (λ _. true)).fit
      go (Some s) is =
          let r = section_readable g.id g.entries g.records k (shown d (section_at k)) s is in
          let may = shown_possible d (section_at k) r.0 r.1 in
          (a_sound_section_is_the_record_of_what_is_read 0 g.id (map_span k g.entries g.records) r.0 s (omega arith)
          (possible_bytes d (section_at k) r.0 D.formed may) r.2).1

  pub here_is : (v : Memory) (o : Ledger) (k : ℕ) → is_shut v.phase ≡ false → Inv g o d v → bits_shown d v.id v.entries k ≡ bits_here g d k
  here_is v o k work I =
      let own = I.own work in
      λ j. bits_or_none (section_in_state (own.0 j) (own.1 j) (I.drive.sized j) k (shown d (section_at k)))

  -- section k is posted with these bits
  section_posted : (v : Memory) (o o' : Ledger) (k : ℕ) (bits s u : List ℕ) → Inv g o d v → k < 3 → is_shut v.phase ≡ false → FittingBits bits
      → OnDrive g o' d → ((x : ℕ) → cover x ≡ k → bit bits (x - first_of k) ≡ true → o' x ≡ free)
      → Stock o' s u → ((x : ℕ) → 0 < count x u → (cover x ≡ k) × (bit bits (x - first_of k) ≡ false))
      → Tickets o' v.tickets → ((e p x : ℕ) → o x ≡ at_slot e p → o' x ≡ at_slot e p)
      → Good g (posted d (section_at k) (section_bytes v.id v.entries (size d) k bits)) (with_stock v (Writing k) (set v.counts k (free_count bits)) s u)
  section_posted v o o' k bits s u I l work fit D claim S off K slots =
      let own = I.own work in
      let bs = section_bytes v.id v.entries (size d) k bits in
      let is : bs ≡ section_bytes g.id g.entries g.records k bits = λ j. section_bytes (own.0 j) (own.1 j) (I.drive.sized j) k bits in
      let d' = posted d (section_at k) bs in
      let shows : shown d' (section_at k) ≡ readable (section_bytes g.id g.entries g.records k bits) = shown_posted d (section_at k) bs ∙ ap readable is in
      let still_off : (x : ℕ) → bit bits (x - first_of k) ≡ false → bit (bits_here g d' k) (x - first_of k) ≡ false = λ x h.
      elim (cases_Bool (bit (bits_here g d' k) (x - first_of k))) [
        | inl on ↦
            let q = section_on (section_in_state g.id g.entries g.records k (shown d' (section_at k))) (x - first_of k) on in
            let read = subst (λ (c : State). section_in_state g.id g.entries g.records k c ≡ Some q.0) shows q.1 in
            let same : q.0.bits ≡ bits = section_read_back g.id g.entries g.records k bits q.0 fit read in
            absurd (clash (bit bits (x - first_of k)) (ap (λ (b : List ℕ). bit b (x - first_of k)) (sym same) ∙ q.2) h)
        | inr e ↦ e
      ] in (
        o',
        record {
          drive = drive_section g o' d k bits bs D l fit is claim;
          stock = S;
          off = (l, λ x c. ((off x c).0, still_off x (off x c).1));
          tickets = K;
          files = files_moved g o o' d d' v.files I.files slots (λ e _. shown_elsewhere d (section_at k) bs (entry_at e) (λ z. omega arith));
          bare = map_bare v.phase v.tickets v.files v.service v.unsettled s u work I.bare;
          own = I.own;
          counted = length-set v.counts k (free_count bits) ∙ I.counted;
        },
      )

  -- ---- taking and giving back

  pub taking_keeps : (r : Rules) (v : Memory) (o : Ledger) (k : ℕ) → k < 3 → is_open v.phase ≡ true → v.chart ≡ Idle → Inv g o d v → Meets (taking r d v k) (Keeps g d)
  taking_keeps r v o k l work idle I =
      let shut = not_shut v.phase work in
      let n = 16 - length v.service in
      let bits = bits_shown d v.id v.entries k in
      let is : bits ≡ bits_here g d k = here_is v o k shut I in
      let fit : FittingBits bits = subst FittingBits (sym is) (here_fits o k I.drive) in
      let xs = lowest bits k n in
      let covered : (x : ℕ) → 0 < count x xs → cover x ≡ k = λ x c. (lowest_is bits k n x c).0 in
      let on_free : (x : ℕ) → cover x ≡ k → bit bits (x - first_of k) ≡ true → o x ≡ free = λ x at h.
      shown_free o k x I.drive l at (ap (λ (b : List ℕ). bit b (x - first_of k)) (sym is) ∙ h) in
      let nil : v.unsettled ≡ [] = subst (λ (c : MapState). Off g d c v.unsettled) idle I.off in
      let marks = marks_show k 0 (omega arith) xs bits covered fit in
      post_meets (Keeps g d) _ _ _ _
      (section_posted v o o k (all_marked k 0 xs bits) v.service (v.unsettled ++ xs) I l shut (marks_fit k 0 (omega arith) xs bits covered fit) I.drive
      (λ x at h.
      let c : cond (among x xs) false (bit bits (x - first_of k)) ≡ true = sym (marks x at) ∙ h in
      elim (count_among x xs) [
        | inl q ↦ absurd (true≢false (sym (subst (λ (b : Bool). cond b false (bit bits (x - first_of k)) ≡ true) q.0 c)))
        | inr q ↦ on_free x at (subst (λ (b : Bool). cond b false (bit bits (x - first_of k)) ≡ true) q.0 c)
      ])
      (record {
        served = I.stock.served;
        coming =
            subst (λ (us : List ℕ). Holds o (us ++ xs) free) (sym nil)
            (record { mine = λ x c. let q = lowest_is bits k n x c in on_free x q.0 q.1; once = lowest_once bits k n });
      })
      (λ x c.
      let c' : 0 < count x xs = subst (λ (us : List ℕ). 0 < count x (us ++ xs)) nil c in (
        covered x c',
        marks x (covered x c')
            ∙ elim (count_among x xs) [
              | inl q ↦ ap (λ (b : Bool). cond b false (bit bits (x - first_of k))) q.0
              | inr q ↦ absurd (omega arith)
            ],
      ))
      I.tickets (λ e p x own. own))

  pub giving_keeps : (r : Rules) (v : Memory) (o : Ledger) (k n : ℕ) → k < 3 → is_shut v.phase ≡ false → v.chart ≡ Idle → Inv g o d v → Meets (giving r d v k n) (Keeps g d)
  giving_keeps r v o k n l work idle I =
      let bits = bits_shown d v.id v.entries k in
      let is : bits ≡ bits_here g d k = here_is v o k work I in
      let fit : FittingBits bits = subst FittingBits (sym is) (here_fits o k I.drive) in
      let gs = given k n v.service in
      let rest = staying k n v.service in
      let o' : Ledger = hand gs free o in
      let covered : (x : ℕ) → 0 < count x gs → cover x ≡ k = λ x c. given_cover k n x v.service c in
      let split : (x : ℕ) → count x v.service ≡ count x gs + count x rest = λ x. count_split k n x v.service in
      let fr : From o gs in_service = holds_part o v.service gs rest in_service split I.stock.served in
      let nil : v.unsettled ≡ [] = subst (λ (c : MapState). Off g d c v.unsettled) idle I.off in
      let marks = marks_show k 1 (omega arith) gs bits covered fit in
      post_meets (Keeps g d) _ _ _ _
      (section_posted v o o' k (all_marked k 1 gs bits) rest v.unsettled I l work (marks_fit k 1 (omega arith) gs bits covered fit)
      (drive_handed g o d gs in_service free I.drive fr refl refl refl)
      (λ x at h.
      let c : cond (among x gs) true (bit bits (x - first_of k)) ≡ true = sym (marks x at) ∙ h in
      elim (count_among x gs) [
        | inl q ↦ hand_in o gs free x q.1
        | inr q ↦
            let on : bit bits (x - first_of k) ≡ true = subst (λ (b : Bool). cond b true (bit bits (x - first_of k)) ≡ true) q.0 c in
            hand_kept o gs in_service free free x fr (differ in_service free refl)
            (shown_free o k x I.drive l at (ap (λ (b : List ℕ). bit b (x - first_of k)) (sym is) ∙ on))
      ])
      (record {
        served = holds_split o v.service gs rest free in_service split I.stock.served;
        coming = subst (λ (us : List ℕ). Holds o' us free) (sym nil) (holds_none o' free);
      })
      (λ x c. absurd (let z : count x v.unsettled ≡ 0 = ap (count x) nil in omega arith))
      (tickets_handed o v.tickets gs in_service free I.tickets fr refl)
      (λ e p x. hand_kept o gs in_service free (at_slot e p) x fr (differ in_service (at_slot e p) refl)))

  pub low_cover : (v : Memory) (o : Ledger) (x : ℕ) (xs : List ℕ) → v.service ≡ x ∷ xs → Inv g o d v → cover x < 3
  low_cover v o x xs is I =
      let S : Holds o (x ∷ xs) in_service = rw is at I.stock.served in
      let r = not_lost g o d x in_service I.drive (S.mine x (omega (arith, one_same x x refl))) refl in
      omega arith

  oldest_keeps : (r : Rules) (v : Memory) (o : Ledger) (n : ℕ) (a : Reply) (xs : List ℕ) → v.service ≡ xs → is_shut v.phase ≡ false → v.chart ≡ Idle → Inv g o d v
      → Meets (give_oldest r d v n a (oldest xs)) (Keeps g d)
  oldest_keeps r v o n a [] is work idle I = accept_meets (Keeps g d) _ _ _ (o, I)
  oldest_keeps r v o n a (x ∷ xs) is work idle I = giving_keeps r v o (cover x) (length v.service - n) (low_cover v o x xs is I) work idle I

  take_keeps : (r : Rules) (v : Memory) (o : Ledger) (q : Option ℕ) → counting_free 0 v.counts ≡ q → is_open v.phase ≡ true → v.chart ≡ Idle → Inv g o d v
      → Meets (take_from r d v q) (Keeps g d)
  take_keeps r v o None is work idle I = accept_meets (Keeps g d) _ _ _ (o, I)
  take_keeps r v o (Some k) is work idle I = taking_keeps r v o k (omega (arith, lowest_counted 0 v.counts k is, I.counted)) work idle I

  pub balance_keeps : (r : Rules) (v : Memory) (n : ℕ) → Good g d v → Meets (balance_plan r n d v) (Keeps g d)
  unfolding balance_plan
  balance_keeps r v n (o, I) =
      ask_meets (Keeps g d) _ _ _ λ _. ask_meets (Keeps g d) _ _ _ λ work.
      cond_meets (Keeps g d) (is_idle v.chart) _ _
      (λ c.
      let idle = idle_is v.chart c in
      cond_meets (Keeps g d) (ltb (length v.service) 8) _ _ (λ _. take_keeps r v o (counting_free 0 v.counts) refl work idle I)
      (λ _.
      cond_meets (Keeps g d) (ltb 24 (length v.service)) _ _ (λ _. oldest_keeps r v o 16 _ v.service refl (not_shut v.phase work) idle I)
      (λ _. accept_meets (Keeps g d) _ _ _ (o, I))))
      (λ _. accept_meets (Keeps g d) _ _ _ (o, I))

  pub drain_keeps : (r : Rules) (v : Memory) (n : ℕ) → Good g d v → Meets (drain_plan r n d v) (Keeps g d)
  unfolding drain_plan
  drain_keeps r v n (o, I) =
      ask_meets (Keeps g d) _ _ _ λ _. ask_meets (Keeps g d) _ _ _ λ q. ask_meets (Keeps g d) _ _ _ λ c.
      oldest_keeps r v o 0 _ v.service refl (rw (closing_is v.phase q) refl) (idle_is v.chart c) I

  -- ---- labels

  -- a label is posted
  pub label_posted : (o : Ledger) (v : Memory) (l : Label) → Inv g o d v → l.id ≡ g.id → l.entries ≡ g.entries → Good g (posted d 0 (label_bytes l)) v
  label_posted o v l I i e =
      let d' = posted d 0 (label_bytes l) in (
        o,
        record {
          drive = drive_label g o d l I.drive i e;
          stock = I.stock;
          off = off_same g d d' v.chart v.unsettled I.off (λ k _. shown_elsewhere d 0 _ (section_at k) (λ z. omega arith));
          tickets = I.tickets;
          files = files_moved g o o d d' v.files I.files (λ e p x own. own) (λ e _. shown_elsewhere d 0 _ (entry_at e) (λ z. omega arith));
          bare = I.bare;
          own = I.own;
          counted = I.counted;
        },
      )

  -- a label that a drive shows is this volume's
  label_at_own : (o : Ledger) (a : ℕ) (l : Label) → OnDrive g o d → (a ≡ 0) ⊎ (a ≡ 7) → label_in_state (size d) (shown d a) ≡ Some l
      → (l.id ≡ g.id) × (l.entries ≡ g.entries)
  label_at_own o a l D at h =
      let r = label_readable g.records (shown d a) l (subst (λ (t : ℕ). label_in_state t (shown d a) ≡ Some l) D.sized h) in
      D.labelled a r.0 l at (shown_possible d a r.0 r.1) r.2

  pub label_own : (o : Ledger) (l : Label) → OnDrive g o d → label_shown d ≡ Some l → (l.id ≡ g.id) × (l.entries ≡ g.entries)
  label_own o l D h = first (label_in_state (size d) (shown d 0)) refl h
    where
      copy : (q : Option Label) → label_in_state (size d) (shown d 7) ≡ q → counted_in_use q ≡ Some l → (l.id ≡ g.id) × (l.entries ≡ g.entries)
      copy None is h = absurd (none_not l h)
      copy (Some m) is h =
          let k = label_at_own o 7 m D (inr refl) is in
          let i : m.id ≡ l.id = cc in
          let e : m.entries ≡ l.entries = cc in
          (sym i ∙ k.0, sym e ∙ k.1)

      first : (q : Option Label) → label_in_state (size d) (shown d 0) ≡ q → or_else q (counted_in_use (label_in_state (size d) (shown d 7))) ≡ Some l → (l.id ≡ g.id) × (l.entries ≡ g.entries)
      first None is h = copy (label_in_state (size d) (shown d 7)) refl h
      first (Some m) is h = label_at_own o 0 l D (inl refl) (is ∙ h)

  pub open_keeps : (r : Rules) (v : Memory) (n : ℕ) → Good g d v → Meets (open_plan r n d v) (Keeps g d)
  unfolding open_plan
  open_keeps r v n (o, I) =
      ask_meets (Keeps g d) _ _ _ λ _. ask_meets (Keeps g d) _ _ _ λ _. need_meets (Keeps g d) _ _ _ λ l is. ask_meets (Keeps g d) _ _ _ λ _.
      let own = label_own o l I.drive is in
      let J : Inv g o d (opened v d l) =
      record { drive = I.drive; stock = I.stock; off = I.off; tickets = I.tickets; files = I.files; bare = tt; own = λ _. own; counted = refl } in
      post_meets (Keeps g d) _ _ _ _ (label_posted o (opened v d l) _ J own.0 own.1)

  pub close_keeps : (v : Memory) → Good g d v → Meets (close_plan v) (Keeps g d)
  unfolding close_plan
  close_keeps v (o, I) =
      ask_meets (Keeps g d) _ _ _ λ work. ask_meets (Keeps g d) _ _ _ λ q.
      let hs = and_parts (eqb (used v.files) 0) (eqb (used v.tickets) 0) q in
      accept_meets (Keeps g d) _ _ _ (
        o,
        record {
          drive = I.drive;
          stock = I.stock;
          off = I.off;
          tickets = I.tickets;
          files = I.files;
          bare =
              record {
                tickets = none_used v.tickets (eqb-true (used v.tickets) 0 hs.1);
                files = none_used v.files (eqb-true (used v.files) 0 hs.0);
              };
          own = λ _. I.own (not_shut v.phase work);
          counted = I.counted;
        },
      )

  pub finish_keeps : (r : Rules) (v : Memory) (n : ℕ) → Good g d v → Meets (finish_plan r n d v) (Keeps g d)
  unfolding finish_plan
  finish_keeps r v n (o, I) =
      ask_meets (Keeps g d) _ _ _ λ _. ask_meets (Keeps g d) _ _ _ λ q. ask_meets (Keeps g d) _ _ _ λ c.
      let hs = and_parts (is_idle v.chart) (eqb (length v.service + length v.unsettled) 0 && eqb (owed d) 0) c in
      let ks = and_parts (eqb (length v.service + length v.unsettled) 0) (eqb (owed d) 0) hs.1 in
      let none = eqb-true (length v.service + length v.unsettled) 0 ks.0 in
      let closing = closing_is v.phase q in
      let B : Unheld v.tickets v.files = subst (λ (p : Phase). Bare p v.tickets v.files v.service v.unsettled) closing I.bare in
      let own = I.own (rw closing refl) in
      let J : Inv g o d (with_phase v Shut) =
      record {
        drive = I.drive;
        stock = I.stock;
        off = I.off;
        tickets = I.tickets;
        files = I.files;
        bare = (B, nil_from_length v.service (omega arith), nil_from_length v.unsettled (omega arith));
        own = λ h. absurd (true≢false h);
        counted = I.counted;
      } in
      post_meets (Keeps g d) _ _ _ _ (label_posted o (with_phase v Shut) _ J own.0 own.1)

  -- ---- poll

  -- once the section is written, nothing that the drive may hold has an unsettled address free
  joined_drive : (o : Ledger) (k : ℕ) (us : List ℕ) → OnDrive g o d → From o us free → Off g d (Writing k) us → pending d (section_at k) ≡ false
      → OnDrive g (hand us in_service o) d
  joined_drive o k us D fr off still =
      record {
        formed = D.formed;
        sized = D.sized;
        within = within_handed g o d us free in_service D fr refl;
        named = λ e p y bs z l ps is at h. hand_kept o us free in_service (at_slot e p) y fr (differ free (at_slot e p) refl) (D.named e p y bs z l ps is at h);
        mapped = λ y bs s l ps is h.
            elim (cases_lt 0 (count y us)) [
              | inl c ↦
                  let q = off.1 y c in
                  let here : Possible d (section_at k) bs = rw q.0 at ps in
                  let shows = quiet_possible d (section_at k) bs still here in
                  let read : section_in_state g.id g.entries g.records k (shown d (section_at k)) ≡ Some s =
                  ap (section_in_state g.id g.entries g.records k) shows ∙ rw q.0 at is in
                  let on : bit s.bits (y - first_of k) ≡ true = rw q.0 at h in
                  absurd (clash (bit s.bits (y - first_of k)) on (sym (ap (λ (o : Option Section). bit (bits_or_none o) (y - first_of k)) read) ∙ q.1))
              | inr c ↦ hand_out o us in_service y (omega arith) ∙ D.mapped y bs s l ps is h
            ];
        labelled = D.labelled;
      }

  joined_bare : (p : Phase) (ts : List (Option ℕ)) (fs : List (Option File)) (s u : List ℕ) → Bare p ts fs s u → Bare p ts fs (s ++ u) []
  joined_bare Shut ts fs s u B = (B.0, rw (B.1, B.2) refl, refl)
  joined_bare Open ts fs s u B = tt
  joined_bare Closing ts fs s u B = B

  pub joined_keeps : (v : Memory) (c : MapState) → v.chart ≡ c → Good g d v → Good g d (joined d v c)
  joined_keeps v Idle is G = G
  joined_keeps v (Writing k) is (o, I) =
      elim (cases_Bool (pending d (section_at k))) [
        | inl e ↦ rw e (o, I)
        | inr e ↦
            let us = v.unsettled in
            let off : Off g d (Writing k) us = subst (λ (c : MapState). Off g d c us) is I.off in
            let fr : From o us free = I.stock.coming.mine in
            let o' : Ledger = hand us in_service o in
            rw e (
              o',
              record {
                drive = joined_drive o k us I.drive fr off e;
                stock =
                    record {
                      served = holds_join o v.service us free in_service I.stock.served I.stock.coming (differ free in_service refl);
                      coming = holds_none o' free;
                    };
                off = refl;
                tickets = tickets_handed o v.tickets us free in_service I.tickets fr refl;
                files =
                    files_moved g o o' d d v.files I.files
                    (λ e p x. hand_kept o us free in_service (at_slot e p) x fr (differ free (at_slot e p) refl)) (λ e _. refl);
                bare = joined_bare v.phase v.tickets v.files v.service us I.bare;
                own = I.own;
                counted = I.counted;
              },
            )
      ]
