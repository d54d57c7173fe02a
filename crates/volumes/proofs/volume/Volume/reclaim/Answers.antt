use Rattle.std.proofs.Common.{refl, ◌∙◌}
use Rattle.model.specs.Calls.{plan}
use Rattle.model.specs.Plans.{reclaim_plan}
use Rattle.model.proofs.CarriedLaws.{asked_yes, asked_no, needed_some, needed_none, some_of}
use Rattle.volumes.proofs.Carrying.{call_refused, call_kept}
use Rattle.volumes.proofs.volume.Volume.reclaim.Goals as goal

pub returns-in_err-ask_phase : goal.returns-in_err-ask_phase
unfolding plan reclaim_plan
returns-in_err-ask_phase g c = call_refused _ _ _ tt c.from_residual.ensures.1 (asked_no _ _ _ _ c.in_err-ask_phase.ensures)

pub returns-in_err-used : goal.returns-in_err-used
unfolding plan reclaim_plan
returns-in_err-used g c =
    call_refused _ _ _ tt c.from_residual-in_err-used.ensures.1 (asked_yes _ _ _ c.in_ok-ask_phase.ensures ∙ needed_none _ _ _ _ c.in_err-used.ensures.found)

pub returns-in_err-address : goal.returns-in_err-address
unfolding plan reclaim_plan
returns-in_err-address g c =
    call_refused _ _ _ tt c.from_residual-in_err-address.ensures.1
    (asked_yes _ _ _ c.in_ok-ask_phase.ensures ∙ (needed_some _ _ _ _ c.in_ok-used.ensures.found ∙ needed_none _ _ _ _ c.in_err-address.ensures))

pub returns-in_err-ask_room : goal.returns-in_err-ask_room
unfolding plan reclaim_plan
returns-in_err-ask_room g c =
    call_refused _ _ _ tt c.from_residual-in_err-ask_room.ensures.1
    (asked_yes _ _ _ c.in_ok-ask_phase.ensures ∙ (needed_some _ _ _ _ c.in_ok-used.ensures.found ∙ (needed_some _ _ _ _ c.in_ok-address.ensures
    ∙ asked_no _ _ _ _ c.in_err-ask_room.ensures)))

pub returns-in_err-ask_settled : goal.returns-in_err-ask_settled
unfolding plan reclaim_plan
returns-in_err-ask_settled g c =
    call_refused _ _ _ tt c.from_residual-in_err-ask_settled.ensures.1
    (asked_yes _ _ _ c.in_ok-ask_phase.ensures ∙ (needed_some _ _ _ _ c.in_ok-used.ensures.found ∙ (needed_some _ _ _ _ c.in_ok-address.ensures
    ∙ (asked_yes _ _ _ c.in_ok-ask_room.ensures ∙ asked_no _ _ _ _ c.in_err-ask_settled.ensures))))

pub returns : goal.returns
unfolding plan reclaim_plan
returns g c =
    call_kept tt (asked_yes _ _ _ c.in_ok-ask_phase.ensures ∙ (needed_some _ _ _ _ c.in_ok-used.ensures.found ∙ (needed_some _ _ _ _ c.in_ok-address.ensures
    ∙ (asked_yes _ _ _ c.in_ok-ask_room.ensures ∙ asked_yes _ _ _ c.in_ok-ask_settled.ensures))))
    (c.reclaim.ensures _ (some_of 6 _ _ c.in_ok-used.ensures.found)) refl
