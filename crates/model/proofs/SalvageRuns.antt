-- Salvage run through mends what a cut leaves.
use Rattle.std.proofs.Common.{◌≡◌, ℕ, zero, suc, ◌+◌, ◌<◌, ◌≤◌, true, false, cond, not, ◌&&◌, eqb, ◌⊎◌, List, [], ◌++◌, Some, sym, refl, ap, ◌∙◌, subst, inl, inr, arith}
use mathlib.Core.Path.{fun_ext}
use Rattle.std.proofs.lemmas.Bool.{cases_eq, cases_Bool, eq-eqb, ne_eqb, cond-true, cond-false}
use Rattle.drive.specs.Meaning.{State, readable, Write, Meaning, size, settled_at, shown, any_to, pending, posted, WellFormed}
use Rattle.record.specs.declared.label.Label.{Label}
use Rattle.record.specs.declared.label.LabelState.TheVariants.{Salvage}
use Rattle.record.specs.Regions.{in_limits, within, first_of}
use Rattle.record.specs.Sections.{bits_of}
use Rattle.record.specs.Entries.{among}
use Rattle.record.proofs.LabelLaws.{same_decides}
use Rattle.model.specs.declared.memory.Phase.TheVariants.{Shut}
use Rattle.model.specs.declared.memory.MapState.{MapState}
use Rattle.model.specs.declared.memory.MapState.TheVariants.{Idle, Writing}
use Rattle.model.specs.Volume.{entry_at, section_at, label_at, section_bytes}
use Rattle.model.specs.Memory.{Memory}
use Rattle.model.specs.Outcomes.{Reply, ended, accept, Rules}
use Rattle.model.specs.Shown.{bytes_in, with_state, label_in_state, entry_in_state}
use Rattle.model.specs.Plans.{label_write, joined}
use Rattle.model.specs.Mending.{States, slots_or_none, named_from, mended_section, is_salvage}
use Rattle.model.specs.Calls.{Call, salvage, plan, Volume}
use Rattle.model.specs.Histories.{Fitting, attach}
use Rattle.model.specs.Promises.{Settles, still, again, Salvages, Salvaged, none_yet, one_more}
use Rattle.model.proofs.Possible.{clash, shown_posted, shown_elsewhere, shown_completed, quiet_shown}
use Rattle.model.proofs.Ledger.{Ledger}
use Rattle.model.proofs.Parts.{Shape, OnDrive, Good}
use Rattle.model.proofs.SalvageCalls.{region_of, plan_keeps}
use Rattle.model.proofs.ReachedLaws.{accepted_good, call_good, poll_good, attached_good}
use Rattle.model.proofs.ControlForms.{OwnLabel, Formed}
use Rattle.model.proofs.ReachedForms.{InForm, call_formed, poll_formed, attached_kept}
use Rattle.model.proofs.MendingLaws.{misses, misses_bound, misses_least, misses_less, is_readable, fine, exact}
use Rattle.model.proofs.SalvageSteps.{own_believed, has_begun, free_write, section_write, Step, begins, mends, maps, finishes, Next, salvage_next}

-- ---- the states once a write has landed

abbrev pub landed : States → Write → States
landed s w a = cond (eqb w.at a) (readable w.bytes) (s a)

landed_there : (s : States) (w : Write) (a : ℕ) → w.at ≡ a → landed s w a ≡ readable w.bytes
landed_there s w a e = cond-true (eqb w.at a) _ _ (eq-eqb w.at a e)

pub landed_elsewhere : (s : States) (w : Write) (a : ℕ) → (w.at ≡ a → ⊥) → landed s w a ≡ s a
landed_elsewhere s w a n = cond-false (eqb w.at a) _ _ (ne_eqb w.at a n)

shown_landed : (d : Meaning) (w : Write) (a : ℕ) → shown (posted d w.at w.bytes) a ≡ landed (shown d) w a
shown_landed d w a =
    elim (cases_eq w.at a) [
      | inl e ↦ subst (λ (b : ℕ). shown (posted d w.at w.bytes) b ≡ landed (shown d) w b) e (shown_posted d w.at w.bytes ∙ sym (landed_there (shown d) w w.at refl))
      | inr n ↦ shown_elsewhere d w.at w.bytes a (λ e. n (sym e)) ∙ sym (landed_elsewhere (shown d) w a n)
    ]

-- ---- how many writes are due at most

abbrev pub due : Shape → States → ℕ
due g s =
    cond (has_begun g s) (cond (eqb (misses (fine s) 0 g.entries) 0) (suc (misses (exact g s) 0 3)) (misses (fine s) 0 g.entries + 4)) (g.entries + 5)

due_begun : (g : Shape) (s : States) → has_begun g s ≡ true
    → ((misses (fine s) 0 g.entries ≡ 0) × (due g s ≡ suc (misses (exact g s) 0 3)))
    ⊎ ((0 < misses (fine s) 0 g.entries) × (due g s ≡ misses (fine s) 0 g.entries + 4))
due_begun g s begun =
    let B = misses (fine s) 0 g.entries in
    let S = misses (exact g s) 0 3 in
    let d : due g s ≡ cond (eqb B 0) (suc S) (B + 4) = cond-true (has_begun g s) _ _ begun in
    elim (cases_eq B 0) [
      | inl i ↦ inl (i, d ∙ cond-true (eqb B 0) _ _ (eq-eqb B 0 i))
      | inr i ↦ inr (omega arith, d ∙ cond-false (eqb B 0) _ _ (ne_eqb B 0 i))
    ]

due_not : (g : Shape) (s : States) → has_begun g s ≡ false → due g s ≡ g.entries + 5
due_not g s begun = cond-false (has_begun g s) _ _ begun

due_low : (g : Shape) (s : States) → has_begun g s ≡ true → due g s ≤ g.entries + 4
due_low g s begun =
    let b = misses_bound (fine s) 0 g.entries in
    let b' = misses_bound (exact g s) 0 3 in
    elim (due_begun g s begun) [ inl k ↦ let z = k.1 in omega arith | inr k ↦ let z = k.1 in omega arith ]

pub due_bound : (g : Shape) (s : States) → (0 < due g s) × (due g s ≤ g.entries + 5)
due_bound g s =
    elim (cases_Bool (has_begun g s)) [
      | inl begun ↦
          let u = due_low g s begun in
          (elim (due_begun g s begun) [ inl k ↦ let z = k.1 in omega arith | inr k ↦ let z = k.1 in omega arith ], omega arith)
      | inr begun ↦ let u = due_not g s begun in (omega arith, omega arith)
    ]

-- ---- sections depend on the entries alone

named_same : (id e t : ℕ) (s s' : States) → ((j : ℕ) → s' (entry_at j) ≡ s (entry_at j)) → (i n : ℕ) → named_from id e t s' i n ≡ named_from id e t s i n
named_same id e t s s' same i zero = refl
named_same id e t s s' same i (suc n) =
    λ j. slots_or_none (entry_in_state id e t (same i j)) ++ named_same id e t s s' same (i + 1) n j

section_same : (g : Shape) (s s' : States) → ((j : ℕ) → s' (entry_at j) ≡ s (entry_at j)) → (k : ℕ)
    → mended_section g.id g.entries g.records s' k ≡ mended_section g.id g.entries g.records s k
section_same g s s' same k =
    ap (λ (xs : List ℕ). section_bytes g.id g.entries g.records k (bits_of (λ r. within (region_of g) (first_of k + r) && not (among (first_of k + r) xs))))
    (named_same g.id g.entries g.records s s' same 0 g.entries)

-- ---- each step but the last leaves less to do

module _ (g : Shape) (lim : in_limits g.id g.entries g.records ≡ true) (l : Label) (own : OwnLabel g l) (s : States) where
  step_due : (a : Reply) (w : Write) → Step g l s a w → (a ≡ ended → ⊥) → suc (due g (landed s w)) ≤ due g s
  step_due a w (begins b) ne =
      let l' = with_state l Salvage l.trouble in
      let w₀ = label_write l' in
      let own' : OwnLabel g l' = record { id = own.id; records = own.records; entries = own.entries; trouble = own.trouble } in
      let b' : has_begun g (landed s w₀) ≡ true =
      ap (λ (c : State). is_salvage (label_in_state g.records c)) (landed_there s w₀ label_at refl) ∙ ap is_salvage (own_believed g lim l' own') in
      omega (arith, due_low g (landed s w₀) b', due_not g s b)
  step_due a w (mends e b low bad) ne =
      let w₀ = free_write g e in
      let s' = landed s w₀ in
      let b' : has_begun g s' ≡ true = ap (λ (c : State). is_salvage (label_in_state g.records c)) (landed_elsewhere s w₀ label_at (λ i. omega arith)) ∙ b in
      let good : fine s' e ≡ true = ap is_readable (landed_there s w₀ (entry_at e) refl) in
      let up : (k : ℕ) → fine s k ≡ true → fine s' k ≡ true = λ k h.
      elim (cases_eq (entry_at e) (entry_at k)) [
        | inl i ↦ ap is_readable (landed_there s w₀ (entry_at k) i)
        | inr i ↦ ap is_readable (landed_elsewhere s w₀ (entry_at k) i) ∙ h
      ] in
      let less = misses_less (fine s) (fine s') up e bad good 0 g.entries (omega arith) (omega arith) in
      let m = misses_bound (exact g s') 0 3 in
      elim (due_begun g s b) [
        | inl k ↦ let z = k.0 in absurd (omega arith)
        | inr k ↦
            let z = k.1 in
            elim (due_begun g s' b') [ inl j ↦ let y = j.1 in omega arith | inr j ↦ let y = j.1 in omega arith ]
      ]
  step_due a w (maps k b all low bad) ne =
      let w₀ = section_write g s k in
      let s' = landed s w₀ in
      let b' : has_begun g s' ≡ true = ap (λ (c : State). is_salvage (label_in_state g.records c)) (landed_elsewhere s w₀ label_at (λ i. omega arith)) ∙ b in
      let same : (e : ℕ) → s' (entry_at e) ≡ s (entry_at e) = λ e. landed_elsewhere s w₀ (entry_at e) (λ i. omega arith) in
      let least = misses_least (fine s) (fine s') (λ e h. ap is_readable (same e) ∙ h) 0 g.entries in
      let good : exact g s' k ≡ true =
      (same_decides (bytes_in (s' (section_at k))) (mended_section g.id g.entries g.records s' k)).1
      (ap bytes_in (landed_there s w₀ (section_at k) refl) ∙ sym (section_same g s s' same k)) in
      let up : (j : ℕ) → exact g s j ≡ true → exact g s' j ≡ true = λ j h.
      elim (cases_eq j k) [
        | inl i ↦ subst (λ (y : ℕ). exact g s' y ≡ true) (sym i) good
        | inr i ↦
            (same_decides (bytes_in (s' (section_at j))) (mended_section g.id g.entries g.records s' j)).1
            (ap bytes_in (landed_elsewhere s w₀ (section_at j) (λ z. i (omega arith)))
            ∙ ((same_decides (bytes_in (s (section_at j))) (mended_section g.id g.entries g.records s j)).0 h ∙ sym (section_same g s s' same j)))
      ] in
      let less = misses_less (exact g s) (exact g s') up k bad good 0 3 (omega arith) (omega arith) in
      elim (due_begun g s b) [
        | inl i ↦
            let z = i.1 in
            elim (due_begun g s' b') [ inl j ↦ let y = j.1 in omega arith | inr j ↦ let y = j.0 in absurd (omega arith) ]
        | inr i ↦ let z = i.0 in absurd (omega arith)
      ]
  step_due a w (finishes b all sections) ne = absurd (ne refl)

  -- what can be read of the entries stays
  step_kept : (a : Reply) (w : Write) → Step g l s a w → (e : ℕ) → fine s e ≡ true → landed s w (entry_at e) ≡ s (entry_at e)
  step_kept a w (begins b) e h = landed_elsewhere s _ (entry_at e) (λ i. omega arith)
  step_kept a w (mends e' b low bad) e h =
      landed_elsewhere s (free_write g e') (entry_at e) (λ i. let z : e ≡ e' = omega arith in clash (fine s e) h (ap (fine s) z ∙ bad))
  step_kept a w (maps k b all low bad) e h = landed_elsewhere s (section_write g s k) (entry_at e) (λ i. omega arith)
  step_kept a w (finishes b all sections) e h = landed_elsewhere s _ (entry_at e) (λ i. omega arith)

-- ---- polls until nothing is outstanding

joined_phase : (d : Meaning) (v : Memory) (c : MapState) → (joined d v c).phase ≡ v.phase
joined_phase d v Idle = refl
joined_phase d v (Writing k) = elim (cases_Bool (pending d (section_at k))) [ inl e ↦ rw e refl | inr e ↦ rw e refl ]

-- where a volume that is shut stands, with nothing outstanding
pub record IsAtRest (r : Rules) (g : Shape) (v : Volume) : Type 0 where
  pub good : Good g v.drive v.memory
  pub formed : InForm r g v
  pub shut : v.memory.phase ≡ Shut
  pub quiet : v.drive.outstanding ≡ []

pub record Settled (r : Rules) (g : Shape) (v u : Volume) : Type 0 where
  pub rest : IsAtRest r g u
  pub worn : u.drive.wear ≡ v.drive.wear
  pub same : (a : ℕ) → shown u.drive a ≡ shown v.drive a

settles : (r : Rules) (g : Shape) (v u : Volume) → Settles v u → Good g v.drive v.memory → InForm r g v → v.memory.phase ≡ Shut → Settled r g v u
settles r g v u (still v₁ quiet) G F is =
    record { rest = record { good = G; formed = F; shut = is; quiet = quiet }; worn = refl; same = λ a. refl }
settles r g v u (again v₁ t u₁ P rest) G F is =
    let k = P.steps.0 in
    let phase : t.memory.phase ≡ v.memory.phase = ap (λ (m : Memory). m.phase) P.joins ∙ joined_phase t.drive v.memory v.memory.chart in
    let S = settles r g t u rest (poll_good r g v t G P) (poll_formed r g v t G F P) (phase ∙ is) in
    record {
      rest = S.rest;
      worn = S.worn ∙ ap (λ (d : Meaning). d.wear) P.steps.1.1;
      same = λ a. S.same a ∙ (ap (λ (d : Meaning). shown d a) P.steps.1.1 ∙ shown_completed v.drive k a G.1.drive.formed);
    }

-- ---- one salvage, settled

posted_formed : (r : Rules) (g : Shape) (c : Call) (a : Reply) (x : Memory) (w : Write) (v : Volume) → Good g v.drive v.memory → Fitting c
    → plan r c v.drive v.memory ≡ accept a x (Some w) → WellFormed (posted v.drive w.at w.bytes)
posted_formed r g c a x w v G fit is = (accepted_good r g v.drive (plan r c v.drive v.memory) a x w is (plan_keeps r g v.drive c v.memory fit G)).1.drive.formed

pub record Done (r : Rules) (g : Shape) (a : Reply) (v u : Volume) : Type 0 where
  pub label : Label
  pub own : OwnLabel g label
  pub write : Write
  pub step : Step g label (shown v.drive) a write
  pub rest : IsAtRest r g u
  pub worn : u.drive.wear ≡ v.drive.wear + 1
  pub states : shown u.drive ≡ landed (shown v.drive) write

module _ (r : Rules) (g : Shape) (lim : in_limits g.id g.entries g.records ≡ true) (deep : 1 ≤ r.depth) where
  pub next : (v : Volume) → IsAtRest r g v → v.drive.wear < r.life → Next r g v.drive v.memory
  next v R alive = salvage_next r g lim R.good.0 v.drive v.memory R.good.1.drive R.formed.0 R.shut deep R.quiet alive

  pub done : (a : Reply) (v u : Volume) → IsAtRest r g v → v.drive.wear < r.life → Salvages r a v u → Done r g a v u
  done a v u R alive S =
      let N = next v R alive in
      let both : accept N.reply v.memory (Some N.write) ≡ accept a S.memory (Some S.write) = sym N.says ∙ S.answers in
      let aa : N.reply ≡ a = cc in
      let mm : v.memory ≡ S.memory = cc in
      let ww : N.write ≡ S.write = cc in
      let st : Step g N.label (shown v.drive) a S.write =
      subst (λ (b : Reply). Step g N.label (shown v.drive) b S.write) aa (subst (Step g N.label (shown v.drive) N.reply) ww N.step) in
      let c = salvage 512 (size v.drive) in
      let t = S.between in
      let d' = posted v.drive S.write.at S.write.bytes in
      let k = S.leaves.1.0 in
      let k_is = S.leaves.1.1 in
      let G₁ = call_good r g c (accept a S.memory (Some S.write)) v t R.good tt S.answers S.leaves in
      let F₁ = call_formed r g c (accept a S.memory (Some S.write)) v t R.good R.formed tt S.answers S.leaves in
      let shut₁ : t.memory.phase ≡ Shut = ap (λ (m : Memory). m.phase) (S.leaves.0 ∙ sym mm) ∙ R.shut in
      let C = settles r g t u S.settles G₁ F₁ shut₁ in
      let wf = posted_formed r g c a S.memory S.write v R.good tt S.answers in
      record {
        label = N.label;
        own = N.own;
        write = S.write;
        step = st;
        rest = C.rest;
        worn = C.worn ∙ ap (λ (d : Meaning). d.wear) k_is;
        states = fun_ext (λ x. C.same x ∙ (ap (λ (d : Meaning). shown d x) k_is ∙ (shown_completed d' k x wf ∙ shown_landed v.drive S.write x)));
      }

  -- ---- the run

  -- where the run on the image n stands after k salvages
  pub record Running (n : Meaning) (k : ℕ) (v : Volume) : Type 0 where
    pub rest : IsAtRest r g v
    pub worn : v.drive.wear ≡ n.wear + k
    pub kept : (e : ℕ) (bs : List ℕ) → e < g.entries → settled_at n (entry_at e) ≡ readable bs → shown v.drive (entry_at e) ≡ readable bs
    pub budget : k + due g (shown v.drive) ≤ g.entries + 5

  module _ (n : Meaning) (life : n.wear + (g.entries + 5) ≤ r.life) where
    pub alive : (k : ℕ) (v : Volume) → Running n k v → v.drive.wear < r.life
    alive k v R = let b = (due_bound g (shown v.drive)).0 in omega (arith, R.worn, R.budget)

    run_more : (k : ℕ) (a : Reply) (v u : Volume) → Running n k v → (a ≡ ended → ⊥) → Salvages r a v u → Running n (suc k) u
    run_more k a v u R ne S =
        let D = done a v u R.rest (alive k v R) S in
        let s = shown v.drive in
        let less : suc (due g (shown u.drive)) ≤ due g s =
        subst (λ (c : States). suc (due g c) ≤ due g s) (sym D.states) (step_due g lim D.label D.own s a D.write D.step ne) in
        record {
          rest = D.rest;
          worn = omega (arith, D.worn, R.worn);
          kept = λ e bs low i.
              let now = R.kept e bs low i in
              ap (λ (c : States). c (entry_at e)) D.states ∙ (step_kept g lim D.label D.own s a D.write D.step e (ap is_readable now) ∙ now);
          budget = omega (arith, R.budget, less);
        }

    pub runs : (o : Ledger) → OnDrive g o n → Formed g n → n.outstanding ≡ [] → (k : ℕ) (v : Volume) → Salvaged r (attach n) k v → Running n k v
    runs o D F quiet k v none_yet =
        record {
          rest = record { good = attached_good g o n D; formed = (F, attached_kept); shut = refl; quiet = quiet };
          worn = omega arith;
          kept = λ e bs low i. quiet_shown n (entry_at e) (ap (λ (ws : List Write). any_to ws (entry_at e)) quiet) ∙ i;
          budget = omega (arith, (due_bound g (shown n)).1);
        }
    runs o D F quiet k v (one_more k₀ a u t before ne S) = run_more k₀ a u t (runs o D F quiet k₀ u before) ne S
