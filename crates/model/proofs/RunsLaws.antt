-- Every run is a history.
use Rattle.std.proofs.Common.{List, [], ◌∷◌, Some, None, refl, inl, arith}
use Rattle.drive.specs.Cuts.{Image}
use Rattle.drive.specs.Meaning.{Meaning}
use Rattle.model.specs.Outcomes.{Outcome, refuse, accept}
use Rattle.model.specs.Calls.{Volume, Leaves, Polls, plan}
use Rattle.model.specs.Histories.{History, called, cut, attach, Reached, at_first, by_call, by_poll, by_cut, resting}
use Rattle.model.specs.Runs.{cabinet, Act, call, poll, power_cut, after_call, after_poll, as_settled, after_act, run, history, FittingRun, EveryRunIsAHistory}

-- what a call leaves where nothing is completed
left : (r : Outcome) (v : Volume) → Leaves r v (after_call r v)
left (refuse r) v = refl
left (accept r x None) v = (refl, refl)
left (accept r x (Some w)) v = (refl, (0, refl))

polls : (v : Volume) → Polls v (after_poll v)
polls v = record { steps = (1, (omega arith, refl)); joins = refl }

pub image : (m : Meaning) → Image m (as_settled m)
image m = record { same_size = refl; each = λ a h. inl refl; nothing_owed = refl; same_wear = refl }

from : (m : Meaning) (acts : List Act) (v : Volume) (h : History) → FittingRun acts → Reached cabinet m h v → Reached cabinet m (history acts v h) (run acts v)
unfolding history run after_act
from m [] v h f r = r
from m (call c ∷ acts) v h f r =
    let o = plan cabinet c v.drive v.memory in
    from m acts (after_call o v) (called c o ∷ h) f.1 (by_call c o h v (after_call o v) r f.0 refl (left o v))
from m (poll ∷ acts) v h f r = from m acts (after_poll v) h f (by_poll h v (after_poll v) r (polls v))
from m (power_cut ∷ acts) v h f r =
    let n = as_settled v.drive in
    from m acts (attach n) (cut n ∷ h) f (by_cut h h v v.drive n r resting (image v.drive))

pub every_run_is_a_history : EveryRunIsAHistory
every_run_is_a_history m acts f = from m acts (attach m) [] f at_first
