-- Whole histories keep the forms of the control records.
use Rattle.std.proofs.Common.{◌≡◌, ℕ, ◌^◌, ◌<◌, true, Some, None, Option, sym, refl, ◌∙◌, subst, arith}
use Rattle.std.proofs.lemmas.Bool.{true≢false}
use Rattle.drive.specs.Cuts.{Image}
use Rattle.drive.specs.Meaning.{Write, Meaning, size, shown, posted, WellFormed}
use Rattle.record.specs.Regions.{in_limits}
use Rattle.record.specs.Entries.{free_entry}
use Rattle.model.specs.declared.memory.File.{File}
use Rattle.model.specs.Volume.{entry_at}
use Rattle.model.specs.New.{new_label, new_volume}
use Rattle.model.specs.Memory.{Memory, attached}
use Rattle.model.specs.Outcomes.{Reply, Outcome, refuse, accept, Rules}
use Rattle.model.specs.Calls.{Call, plan, Volume, Leaves, Polls}
use Rattle.model.specs.Histories.{History, Fitting, Moment, resting, inside, Reached, at_first, by_call, by_poll, by_cut}
use Rattle.model.proofs.NewLaws.{limits}
use Rattle.model.proofs.Possible.{same_bytes}
use Rattle.model.proofs.ReadBack.{none_not, free_fits}
use Rattle.model.proofs.Lists.{get_or_replicated}
use Rattle.model.proofs.Parts.{Shape, Good}
use Rattle.model.proofs.Meets.{Meets}
use Rattle.model.proofs.FileCalls.{Keeps}
use Rattle.model.proofs.SalvageCalls.{plan_keeps}
use Rattle.model.proofs.ReachedLaws.{moment_good, reached_good, shape, new_at, new_possible, at_entry}
use Rattle.model.proofs.ControlForms.{OwnLabel, Formed, Kept, Proper, Forms, formed_posted, formed_completed, formed_cut, joined_kept, plan_forms}

-- memory is lost
pub attached_kept : Kept attached
attached_kept =
    record {
      metered = λ i f h. absurd (none_not f (sym (get_or_replicated {A = Option File} 8 None i) ∙ h));
      trouble = λ h. absurd (true≢false h);
    }

module _ (r : Rules) (g : Shape) where
  abbrev pub InForm : Volume → Type 0
  InForm v = Formed g v.drive × Kept v.memory

  leaves_formed : (v u : Volume) (q : Outcome) → InForm v → Meets q (Keeps g v.drive) → Meets q (Forms g) → Leaves q v u → InForm u
  unfolding Meets
  leaves_formed v u (refuse f) F H M e = subst InForm (sym e) F
  leaves_formed v u (accept a x None) F H M e = (subst (Formed g) (sym e.1) F.0, subst Kept (sym e.0) M.0)
  leaves_formed v u (accept a x (Some w)) F H M e = (
    subst (Formed g) (sym e.1.1)
        (formed_completed g (posted v.drive w.at w.bytes) e.1.0 H.1.drive.formed (formed_posted g v.drive w F.0 M.1)),
    subst Kept (sym e.0) M.0,
  )

  pub call_formed : (c : Call) (q : Outcome) (v u : Volume) → Good g v.drive v.memory → InForm v → Fitting c → plan r c v.drive v.memory ≡ q → Leaves q v u → InForm u
  call_formed c q v u G F fit is e =
      leaves_formed v u q F (subst (λ (o : Outcome). Meets o (Keeps g v.drive)) is (plan_keeps r g v.drive c v.memory fit G))
      (subst (λ (o : Outcome). Meets o (Forms g)) is (plan_forms r g v.drive v.memory G.0 G.1 F.1 c fit)) e

  pub poll_formed : (v u : Volume) → Good g v.drive v.memory → InForm v → Polls v u → InForm u
  poll_formed v u G F P =
      let k = P.steps.0 in (
        subst (Formed g) (sym P.steps.1.1) (formed_completed g v.drive k G.1.drive.formed F.0),
        subst Kept (sym P.joins) (joined_kept u.drive v.memory v.memory.chart F.1),
      )

  accepted_proper : (q : Outcome) (a : Reply) (x : Memory) (w : Write) → q ≡ accept a x (Some w) → Meets q (Forms g) → Proper g w
  unfolding Meets
  accepted_proper q a x w is h = (subst (λ (o : Outcome). Meets o (Forms g)) is h).1

  moment_formed : (h h' : History) (v : Volume) (d : Meaning) → Good g v.drive v.memory → InForm v → Moment r h v h' d → Formed g d
  moment_formed h h' v d G F resting = F.0
  moment_formed h h' v d G F (inside c a x w fit is) =
      formed_posted g v.drive w F.0
      (accepted_proper (plan r c v.drive v.memory) a x w is (plan_forms r g v.drive v.memory G.0 G.1 F.1 c fit))

  pub cut_formed : (h h' : History) (v : Volume) (d n : Meaning) → Good g v.drive v.memory → InForm v → Moment r h v h' d → Image d n → Formed g n
  cut_formed h h' v d n G F mo im =
      let D = (moment_good r g h h' v d G mo).1 in
      formed_cut g d n (omega (arith, D.sized)) im (moment_formed h h' v d G F mo)

  pub reached_formed : (m : Meaning) → Good g m attached → Formed g m → (h : History) (v : Volume) → Reached r m h v → InForm v
  reached_formed m G F h v at_first = (F, attached_kept)
  reached_formed m G F h v (by_call c q h₀ v₀ u before fit is e) =
      call_formed c q v₀ u (reached_good r g m G h₀ v₀ before) (reached_formed m G F h₀ v₀ before) fit is e
  reached_formed m G F h v (by_poll h₀ v₀ u before p) =
      poll_formed v₀ u (reached_good r g m G h₀ v₀ before) (reached_formed m G F h₀ v₀ before) p
  reached_formed m G F h v (by_cut h₀ h' v₀ d n before mo im) =
      (cut_formed h₀ h' v₀ d n (reached_good r g m G h₀ v₀ before) (reached_formed m G F h₀ v₀ before) mo im, attached_kept)

module _ (m : Meaning) (id e : ℕ) (wf : WellFormed m) (fits : id < 2 ^ 32) (lim : in_limits id e (size m) ≡ true) where
  -- the label of a new volume is its own
  new_own : OwnLabel (shape m id e wf fits lim) (new_label id e (size m))
  unfolding shape
  new_own = record { id = refl; records = refl; entries = refl; trouble = omega arith }

  pub new_forms : Formed (shape m id e wf fits lim) (new_volume m id e)
  unfolding shape new_volume
  new_forms =
      let few = limits id e (size m) lim in
      record {
        entries = λ i bs l ps.
            record {
              value = free_entry;
              is = sym (same_bytes _ bs (sym (at_entry m id e wf fits lim i (shown m (entry_at i)) l) ∙ new_possible m id e wf fits lim (entry_at i) bs (omega (arith, few.0)) ps));
              fits = free_fits;
              sound = refl;
            };
        label = λ bs ps.
            record {
              value = new_label id e (size m);
              is = sym (same_bytes _ bs (new_possible m id e wf fits lim 0 bs (omega (arith, few.0)) ps));
              own = new_own;
            };
        copy = (new_label id e (size m), new_at m id e wf fits lim 7 (omega (arith, few.0)), new_own);
        quiet = refl;
      }
