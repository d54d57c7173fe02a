use Rattle.std.proofs.Common.{ap₂, refl, ◌∙◌, arith}
use Rattle.model.specs.Calls.{plan}
use Rattle.model.specs.Plans.{create_plan}
use Rattle.model.specs.Volume.{entry_bytes}
use Rattle.model.proofs.CarriedLaws.{asked_yes, asked_no, needed_at_some, needed_at_none}
use Rattle.volumes.proofs.Carrying.{page_and_phase, call_refused, call_post_refused, call_posted, asked_of_shown}
use Rattle.volumes.proofs.volume.Volume.create_entry.Goals as goal

pub returns-in_err-page : goal.returns-in_err-page
unfolding plan create_plan
returns-in_err-page g c = call_refused _ _ _ (omega arith) c.from_residual.ensures.1 (asked_no _ _ _ _ c.in_err-page.ensures.answer)

pub returns-in_err-ask_phase : goal.returns-in_err-ask_phase
unfolding plan create_plan
returns-in_err-ask_phase g c =
    call_refused _ _ _ (omega arith) c.from_residual-in_err-ask_phase.ensures.1 (asked_yes _ _ _ c.in_ok-page.ensures.answer ∙ asked_no _ _ _ _ c.in_err-ask_phase.ensures)

pub returns-in_err-ask_unused : goal.returns-in_err-ask_unused
unfolding plan create_plan
returns-in_err-ask_unused g c =
    call_refused _ _ _ (omega arith) c.from_residual-in_err-ask_unused.ensures.1
    (page_and_phase _ _ _ c.in_ok-page.ensures.answer c.in_ok-ask_phase.ensures ∙ asked_no _ _ _ _ c.in_err-ask_unused.ensures.unused)

pub returns-in_err-ask_number : goal.returns-in_err-ask_number
unfolding plan create_plan
returns-in_err-ask_number g c =
    call_refused _ _ _ (omega arith) c.from_residual-in_err-ask_number.ensures.1 (page_and_phase _ _ _ c.in_ok-page.ensures.answer c.in_ok-ask_phase.ensures
    ∙ (asked_yes _ _ _ c.in_ok-ask_unused.ensures.unused ∙ asked_no _ _ _ _ c.in_err-ask_number.ensures.taken))

pub returns-in_err-ask_meter : goal.returns-in_err-ask_meter
unfolding plan create_plan
returns-in_err-ask_meter g c =
    call_refused _ _ _ (omega arith) c.from_residual-in_err-ask_meter.ensures.1 (page_and_phase _ _ _ c.in_ok-page.ensures.answer c.in_ok-ask_phase.ensures
    ∙ (asked_yes _ _ _ c.in_ok-ask_unused.ensures.unused ∙ (asked_yes _ _ _ c.in_ok-ask_number.ensures.taken ∙ asked_no _ _ _ _ c.in_err-ask_meter.ensures)))

pub returns-in_err-ask_free : goal.returns-in_err-ask_free
unfolding plan create_plan
returns-in_err-ask_free g c =
    call_refused _ _ _ (omega arith) c.from_residual-in_err-ask_free.ensures.1 (page_and_phase _ _ _ c.in_ok-page.ensures.answer c.in_ok-ask_phase.ensures
    ∙ (asked_yes _ _ _ c.in_ok-ask_unused.ensures.unused ∙ (asked_yes _ _ _ c.in_ok-ask_number.ensures.taken ∙ (asked_yes _ _ _ c.in_ok-ask_meter.ensures
    ∙ needed_at_none _ _ _ _ _ (asked_of_shown _ _ _ _ _ c.in_err-ask_free.ensures c.shown_entry-shown.ensures)))))

pub returns-in_err-post_entry : goal.returns-in_err-post_entry
unfolding plan create_plan
returns-in_err-post_entry g c =
    call_post_refused _ _ _ _ _ _ (omega arith) c.from_residual-in_err-post_entry.ensures.1 (page_and_phase _ _ _ c.in_ok-page.ensures.answer c.in_ok-ask_phase.ensures
    ∙ (asked_yes _ _ _ c.in_ok-ask_unused.ensures.unused ∙ (asked_yes _ _ _ c.in_ok-ask_number.ensures.taken ∙ (asked_yes _ _ _ c.in_ok-ask_meter.ensures
    ∙ needed_at_some _ _ _ _ _ (asked_of_shown _ _ _ _ _ c.in_ok-ask_free.ensures c.shown_entry-shown.ensures)))))
    (ap₂ entry_bytes c.id.ensures refl) c.in_err-post_entry.ensures.answer c.in_err-post_entry.ensures.after refl

pub returns : goal.returns
unfolding plan create_plan
returns g c =
    let posted = c.in_ok-post_entry.ensures in
    call_posted _ (omega arith) (page_and_phase _ _ _ c.in_ok-page.ensures.answer c.in_ok-ask_phase.ensures
    ∙ (asked_yes _ _ _ c.in_ok-ask_unused.ensures.unused ∙ (asked_yes _ _ _ c.in_ok-ask_number.ensures.taken ∙ (asked_yes _ _ _ c.in_ok-ask_meter.ensures
    ∙ needed_at_some _ _ _ _ _ (asked_of_shown _ _ _ _ _ c.in_ok-ask_free.ensures c.shown_entry-shown.ensures)))))
    (ap₂ entry_bytes c.id.ensures refl) posted.answer c.hold.ensures posted.after
