-- Whole histories: at every moment the pages that entries name are those that were placed, and a cut keeps them.
use Rattle.std.proofs.Common.{◌≡◌, ℕ, ◌^◌, ◌<◌, true, false, cond, eqb, List, [], ◌∷◌, get_or, Some, None, Option, sym, refl, ap, ◌∙◌, subst, inl, inr, arith}
use Rattle.std.proofs.lemmas.Bool.{cases_eq, cases_Bool, eq-eqb, ne_eqb}
use Rattle.drive.specs.Cuts.{Image}
use Rattle.drive.specs.Faults.{Refusal}
use Rattle.drive.specs.Meaning.{State, readable, Write, Meaning, size, settled_at, shown, any_to, pending, posted, complete, WellFormed}
use Rattle.record.specs.declared.entry.Entry.{Entry}
use Rattle.record.specs.Regions.{in_limits, page_region}
use Rattle.record.specs.Entries.{free_entry, whole_entry, sound_entry}
use Rattle.model.specs.declared.memory.MapState.{MapState}
use Rattle.model.specs.declared.memory.MapState.TheVariants.{Idle, Writing}
use Rattle.model.specs.declared.memory.File.{File}
use Rattle.model.specs.Volume.{entry_at, section_at, entry_bytes}
use Rattle.model.specs.New.{new_volume}
use Rattle.model.specs.Memory.{Memory, attached}
use Rattle.model.specs.Outcomes.{Reply, Outcome, refuse, accept, Rules}
use Rattle.model.specs.Shown.{bytes_in, whole_entry_in_state}
use Rattle.model.specs.Plans.{joined}
use Rattle.model.specs.Calls.{Call, plan, Volume, with_write, Leaves, Polls}
use Rattle.model.specs.Histories.{called, cut_short, cut, History, Fitting, Moment, resting, inside, Reached, at_first, by_call, by_poll, by_cut, gives_meter, meter_of_entry, Placed, last_written}
use Rattle.model.specs.Promises.{Names, EveryNamedPageHoldsWhatWasPlaced, EveryEntryHoldsItsLastWrite}
use Rattle.model.specs.PagesLaw.{PowerCutsLoseNoNamedPage}
use Rattle.model.proofs.NewLaws.{limits}
use Rattle.model.proofs.Possible.{clash, same_bytes, shown_posted, shown_elsewhere, shown_completed, quiet_shown, posted_pending}
use Rattle.model.proofs.ReadBack.{entry_read_back, sound_whole, none_not, free_fits}
use Rattle.model.proofs.Lists.{get_or_replicated}
use Rattle.model.proofs.Ledger.{Ledger}
use Rattle.model.proofs.Parts.{Shape, OnDrive, Good}
use Rattle.model.proofs.Meets.{Meets}
use Rattle.model.proofs.FileCalls.{Keeps}
use Rattle.model.proofs.SalvageCalls.{region_of, plan_keeps}
use Rattle.model.proofs.ReachedLaws.{moment_good, image_good, attached_good, reached_good, shape, first_ledger, new_at, new_possible, at_entry, new_good, left_own}
use Rattle.model.proofs.Pages.{MayBe, may_shown, OnPages, InFiles, pages_later, pages_completed, image_quiet, image_keeps, pages_cut}
use Rattle.model.proofs.PageCalls.{Stays, plan_stays}

-- the drive agrees with what the history says
record Told (g : Shape) (h : History) (d : Meaning) : Type 0 where
  pages : OnPages g h (meter_of_entry h) d
  last : (e : ℕ) → e < g.entries → shown d (entry_at e) ≡ last_written g.id h e

-- and so does memory
abbrev Full : Shape → History → Meaning → Memory → Type 0
Full g h d v = Told g h d × InFiles h d v.files

-- ---- what keeps it, apart from the calls

-- writes complete
completed_full : (g : Shape) (h : History) (d : Meaning) (v : Memory) (k : ℕ) → WellFormed d → Full g h d v → Full g h (complete k d) v
completed_full g h d v k wf (T, F) = (
  record { pages = pages_completed g h (meter_of_entry h) d k wf T.pages; last = λ e l. shown_completed d k (entry_at e) wf ∙ T.last e l },
  record {
    nulled = λ i f file p x at.
        let q = F.nulled i f file p x at in
        (q.0, shown_completed d k x wf ∙ q.1, q.2);
    took = F.took;
  },
)

-- memory is lost
attached_files : (h : History) (d : Meaning) → InFiles h d attached.files
attached_files h d =
    record { nulled = λ i f file. absurd (no_file i f file); took = λ i f file. absurd (no_file i f file) }
  where
    no_file : (i : ℕ) (f : File) → get_or attached.files i None ≡ Some f → ⊥
    no_file i f file = none_not f (sym (get_or_replicated {A = Option File} 8 None i) ∙ file)

joined_full : (g : Shape) (h : History) (d : Meaning) (v : Memory) (c : MapState) → Full g h d v → Full g h d (joined d v c)
joined_full g h d v Idle B = B
joined_full g h d v (Writing k) B = elim (cases_Bool (pending d (section_at k))) [ inl e ↦ rw e B | inr e ↦ rw e B ]

-- ---- calls

-- what an address shows once a write is posted
shown_now : (d : Meaning) (w : Write) (a : ℕ) → shown (posted d w.at w.bytes) a ≡ cond (eqb w.at a) (readable w.bytes) (shown d a)
shown_now d w a =
    elim (cases_eq w.at a) [
      | inl e ↦ rw (eq-eqb w.at a e) (subst (λ (b : ℕ). shown (posted d w.at w.bytes) b ≡ readable w.bytes) e (shown_posted d w.at w.bytes))
      | inr n ↦ rw (ne_eqb w.at a n) (shown_elsewhere d w.at w.bytes a (λ e. n (sym e)))
    ]

refused_full : (g : Shape) (h : History) (c : Call) (f : Refusal) (d : Meaning) (v : Memory) → Full g h d v → Full g (called c (refuse f) ∷ h) d v
refused_full g h c f d v (T, F) = (
  record { pages = pages_later g h (called c (refuse f) ∷ h) (meter_of_entry h) d (λ e n p bs q. inr q) T.pages; last = T.last },
  record {
    nulled = λ i f file p x at.
        let q = F.nulled i f file p x at in
        (q.0, q.1, inr q.2);
    took = F.took;
  },
)

-- before the drive completes anything
accepted_full : (g : Shape) (h : History) (c : Call) (a : Reply) (w : Option Write) (d : Meaning) (v : Memory) → Told g h d → Stays g d h c v w
    → Full g (called c (accept a v w) ∷ h) (with_write w d) v
accepted_full g h c a None d v T S = (
  record { pages = pages_later g h (called c (accept a v None) ∷ h) (λ e. gives_meter c e (meter_of_entry h e)) d (λ e n p bs q. inr q) S.0; last = T.last },
  S.1 (accept a v None) refl,
)
accepted_full g h c a (Some w) d v T S = (
  record {
    pages = pages_later g h (called c (accept a v (Some w)) ∷ h) (λ e. gives_meter c e (meter_of_entry h e)) (posted d w.at w.bytes) (λ e n p bs q. inr q) S.0;
    last = λ e l. shown_now d w (entry_at e) ∙ ap (λ (s : State). cond (eqb w.at (entry_at e)) (readable w.bytes) s) (T.last e l);
  },
  S.1 (accept a v (Some w)) refl,
)

module _ (r : Rules) (g : Shape) where
  leaves_full : (h : History) (c : Call) (q : Outcome) (v u : Volume) → Full g h v.drive v.memory → Meets q (Stays g v.drive h c) → Meets q (Keeps g v.drive)
      → Leaves q v u → Full g (called c q ∷ h) u.drive u.memory
  unfolding Meets
  leaves_full h c (refuse f) v u B S K e =
      subst (λ (w : Volume). Full g (called c (refuse f) ∷ h) w.drive w.memory) (sym e) (refused_full g h c f v.drive v.memory B)
  leaves_full h c (accept a x None) v u B S K e =
      subst (λ (m : Memory). Full g (called c (accept a x None) ∷ h) u.drive m) (sym e.0)
      (subst (λ (d : Meaning). Full g (called c (accept a x None) ∷ h) d x) (sym e.1) (accepted_full g h c a None v.drive x B.0 S))
  leaves_full h c (accept a x (Some w)) v u B S K e =
      let h' = called c (accept a x (Some w)) ∷ h in
      subst (λ (m : Memory). Full g h' u.drive m) (sym e.0)
      (subst (λ (d : Meaning). Full g h' d x) (sym e.1.1)
      (completed_full g h' (posted v.drive w.at w.bytes) x e.1.0 K.1.drive.formed (accepted_full g h c a (Some w) v.drive x B.0 S)))

  call_full : (h : History) (c : Call) (q : Outcome) (v u : Volume) → Good g v.drive v.memory → Full g h v.drive v.memory → Fitting c
      → plan r c v.drive v.memory ≡ q → Leaves q v u → Full g (called c q ∷ h) u.drive u.memory
  call_full h c q v u (o, I) B fit is e =
      let d = v.drive in
      leaves_full h c q v u B
      (subst (λ (w : Outcome). Meets w (Stays g d h c)) is (plan_stays g d h r o v.memory I B.0.pages B.1 c fit))
      (subst (λ (w : Outcome). Meets w (Keeps g d)) is (plan_keeps r g d c v.memory fit (o, I))) e

  poll_full : (h : History) (v u : Volume) → Good g v.drive v.memory → Full g h v.drive v.memory → Polls v u → Full g h u.drive u.memory
  poll_full h v u G B P =
      let stepped : Full g h u.drive v.memory =
      subst (λ (d : Meaning). Full g h d v.memory) (sym P.steps.1.1) (completed_full g h v.drive v.memory P.steps.0 G.1.drive.formed B) in
      subst (λ (m : Memory). Full g h u.drive m) (sym P.joins) (joined_full g h u.drive v.memory v.memory.chart stepped)

  -- ---- moments and cuts

  -- what holds of the drive at a moment, inside a call or not
  record Then (h : History) (d : Meaning) : Type 0 where
    pages : OnPages g h (meter_of_entry h) d
    last : (e : ℕ) → e < g.entries → pending d (entry_at e) ≡ false → shown d (entry_at e) ≡ last_written g.id h e

  accepted_stays : (h : History) (c : Call) (d : Meaning) (q : Outcome) (a : Reply) (x : Memory) (w : Write) → q ≡ accept a x (Some w) → Meets q (Stays g d h c) → Stays g d h c x (Some w)
  unfolding Meets
  accepted_stays h c d q a x w is S = subst (λ (o : Outcome). Meets o (Stays g d h c)) is S

  moment_then : (h h' : History) (v : Volume) (d : Meaning) → Good g v.drive v.memory → Full g h v.drive v.memory → Moment r h v h' d → Then h' d
  moment_then h h' v d G B resting = record { pages = B.0.pages; last = λ e l _. B.0.last e l }
  moment_then h h' v d (o, I) B (inside c a x w fit is) =
      let d₀ = v.drive in
      let S = accepted_stays h c d₀ (plan r c d₀ v.memory) a x w is (plan_stays g d₀ h r o v.memory I B.0.pages B.1 c fit) in
      let now = posted d₀ w.at w.bytes in
      record {
        pages = pages_later g h (cut_short c ∷ h) (λ e. gives_meter c e (meter_of_entry h e)) now (λ e n p bs q. q) S.0;
        last = λ e l q.
            shown_elsewhere d₀ w.at w.bytes (entry_at e)
            (λ i. clash (pending now (entry_at e)) (subst (λ (b : ℕ). pending now b ≡ true) (sym i) (posted_pending d₀ w.at w.bytes)) q)
            ∙ B.0.last e l;
      }

  cut_full : (h h' : History) (v : Volume) (d n : Meaning) → Good g v.drive v.memory → Full g h v.drive v.memory → Moment r h v h' d → Image d n
      → Full g (cut n ∷ h') n attached
  cut_full h h' v d n G B mo im =
      let T = moment_then h h' v d G B mo in
      let D = moment_good r g h h' v d G mo in (
        record {
          pages = pages_later g h' (cut n ∷ h') (meter_of_entry h') n (λ e k p bs q. q) (pages_cut g h' (meter_of_entry h') d n D.1.sized im D.0 D.1 T.pages);
          last = λ e l. quiet_shown n (entry_at e) (image_quiet g h' (meter_of_entry h') d n D.1.sized im (entry_at e));
        },
        attached_files (cut n ∷ h') n,
      )

  reached_full : (m : Meaning) → Good g m attached → Full g [] m attached → (h : History) (v : Volume) → Reached r m h v → Full g h v.drive v.memory
  reached_full m G B h v at_first = B
  reached_full m G B h v (by_call c q h₀ v₀ u before fit is e) = call_full h₀ c q v₀ u (reached_good r g m G h₀ v₀ before) (reached_full m G B h₀ v₀ before) fit is e
  reached_full m G B h v (by_poll h₀ v₀ u before p) = poll_full h₀ v₀ u (reached_good r g m G h₀ v₀ before) (reached_full m G B h₀ v₀ before) p
  reached_full m G B h v (by_cut h₀ h' v₀ d n before mo im) = cut_full h₀ h' v₀ d n (reached_good r g m G h₀ v₀ before) (reached_full m G B h₀ v₀ before) mo im

  -- ---- what a cut leaves

  -- an entry that an image names is one that its record may be
  may_name : (o : Ledger) (n : Meaning) → OnDrive g o n → n.outstanding ≡ [] → (e meter p a : ℕ) (N : Names n e meter p a) → (e < g.entries) × MayBe g n e N.entry
  may_name o n D nothing e meter p a N =
      let H = N.held in
      let own = left_own g o n D nothing H.label H.believed in
      let s = settled_at n (entry_at e) in
      let sound : sound_entry 0 g.id (region_of g) (bytes_in s) ≡ Some N.entry =
      (λ i. sound_entry 0 (sym own.0 i) (page_region (sym own.1 i) (sym D.sized i)) (bytes_in s)) ∙ H.sound in
      let low = H.numbered in
      let still : shown n (entry_at e) ≡ s = quiet_shown n (entry_at e) (ap (λ (ws : List Write). any_to ws (entry_at e)) nothing) in
      (omega (arith, own.1), may_shown g n e N.entry (ap (whole_entry_in_state g.id) still ∙ sound_whole g.id (region_of g) (bytes_in s) N.entry sound))

  pages_left : (h h' : History) (v : Volume) (d n : Meaning) → Good g v.drive v.memory → Full g h v.drive v.memory → Moment r h v h' d → Image d n
      → EveryNamedPageHoldsWhatWasPlaced h' n × EveryEntryHoldsItsLastWrite g.id g.entries h' d n
  pages_left h h' v d n G B mo im =
      let T = moment_then h h' v d G B mo in
      let D = moment_good r g h h' v d G mo in
      let M = meter_of_entry h' in
      let sized = D.1.sized in
      let P = pages_cut g h' M d n sized im D.0 D.1 T.pages in (
        λ e meter p a N.
            let m = may_name D.0 n (image_good g D.0 d n D.1 im) im.nothing_owed e meter p a N in
            let nz = N.some in
            let q = P.pages e p a N.entry m.0 m.1 N.there (omega arith) in (
              q.bytes,
              sym (quiet_shown n a q.quiet) ∙ q.shows,
              subst (λ (k : ℕ). Placed h' e k p q.bytes) N.metered q.placed,
            ),
        λ e l q. let low = g.low in image_keeps g h' M d n sized im (entry_at e) (omega arith) q ∙ T.last e l q,
      )

-- ---- a volume made new

module _ (m : Meaning) (id e : ℕ) (wf : WellFormed m) (fits : id < 2 ^ 32) (lim : in_limits id e (size m) ≡ true) where
  -- each entry is free
  new_entry : (i : ℕ) (y : Entry) → i < e → MayBe (shape m id e wf fits lim) (new_volume m id e) i y → y ≡ free_entry
  unfolding shape
  new_entry i y l may =
      let few = limits id e (size m) lim in
      let bytes : entry_bytes id free_entry ≡ may.bytes =
      same_bytes _ may.bytes (sym (at_entry m id e wf fits lim i (shown m (entry_at i)) l) ∙ new_possible m id e wf fits lim (entry_at i) may.bytes (omega (arith, few.0)) may.possible) in
      entry_read_back id free_entry y fits free_fits (subst (λ (cs : List ℕ). whole_entry 0 id cs ≡ Some y) (sym bytes) may.whole)

  new_full : Full (shape m id e wf fits lim) [] (new_volume m id e) attached
  unfolding shape new_volume
  new_full = (
    record {
      pages =
          record {
            pages = λ i p x y l may at pos.
                let none : get_or y.slots p 0 ≡ 0 = ap (λ (z : Entry). get_or z.slots p 0) (new_entry i y l may) ∙ get_or_replicated {A = ℕ} 64 0 p in
                absurd (omega arith);
            metered = λ i y l may. inl (ap (λ (z : Entry). z.meter) (new_entry i y l may));
            unmetered = λ i y z l _ _ may. ap (λ (w : Entry). w.meter) (new_entry i z l may);
          };
      last = λ i l. let few = limits id e (size m) lim in new_at m id e wf fits lim (entry_at i) (omega (arith, few.0)) ∙ at_entry m id e wf fits lim i (shown m (entry_at i)) l;
    },
    attached_files [] (new_volume m id e),
  )

pub power_cuts_lose_no_named_page : PowerCutsLoseNoNamedPage
unfolding shape
power_cuts_lose_no_named_page r m id e wf fits lim h h' v d n reached mo im =
    let g = shape m id e wf fits lim in
    let first = attached_good g (first_ledger m id e wf fits lim) (new_volume m id e) (new_good m id e wf fits lim) in
    pages_left r g h h' v d n (reached_good r g (new_volume m id e) first h v reached)
    (reached_full r g (new_volume m id e) first (new_full m id e wf fits lim) h v reached) mo im
