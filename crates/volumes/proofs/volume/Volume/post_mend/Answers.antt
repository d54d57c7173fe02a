use Rattle.std.proofs.Common.{refl, ◌∙◌}
use Rattle.model.specs.Calls.{plan}
use Rattle.model.specs.Mending.{salvage_plan}
use Rattle.model.proofs.CarriedLaws.{asked_yes, asked_no}
use Rattle.volumes.proofs.Carrying.{page_and_phase, call_refused, call_post_refused, call_posted}
use Rattle.volumes.proofs.volume.Volume.post_mend.Goals as goal

pub returns-in_err-page : goal.returns-in_err-page
unfolding plan salvage_plan
returns-in_err-page g c = call_refused _ _ _ tt c.from_residual.ensures.1 (asked_no _ _ _ _ c.in_err-page.ensures.answer)

pub returns-in_err-ask_phase : goal.returns-in_err-ask_phase
unfolding plan salvage_plan
returns-in_err-ask_phase g c =
    call_refused _ _ _ tt c.from_residual-in_err-ask_phase.ensures.1 (asked_yes _ _ _ c.in_ok-page.ensures.answer ∙ asked_no _ _ _ _ c.in_err-ask_phase.ensures)

pub returns-in_err-answer : goal.returns-in_err-answer
unfolding plan salvage_plan
returns-in_err-answer g c =
    call_refused _ _ _ tt c.from_residual-in_err-answer.ensures.1
    (page_and_phase _ _ _ c.in_ok-page.ensures.answer c.in_ok-ask_phase.ensures ∙ c.in_err-answer.ensures _ _)

pub returns-in_err-post : goal.returns-in_err-post
unfolding plan salvage_plan
returns-in_err-post g c =
    call_post_refused _ _ _ _ _ _ tt c.from_residual-in_err-post.ensures.1
    (page_and_phase _ _ _ c.in_ok-page.ensures.answer c.in_ok-ask_phase.ensures ∙ c.in_ok-answer.ensures _ _)
    refl c.in_err-post.ensures.answer c.in_err-post.ensures.after refl

pub returns : goal.returns
unfolding plan salvage_plan
returns g c =
    let posted = c.in_ok-post.ensures in
    call_posted _ tt (page_and_phase _ _ _ c.in_ok-page.ensures.answer c.in_ok-ask_phase.ensures ∙ c.in_ok-answer.ensures _ _)
    refl posted.answer refl posted.after
