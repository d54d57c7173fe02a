use Rattle.std.proofs.Common.{List, Some, refl, ap, ◌∙◌}
use Rattle.model.specs.Calls.{plan}
use Rattle.model.specs.Memory.{Memory, with_file}
use Rattle.model.specs.declared.memory.File.{File}
use Rattle.model.specs.declared.memory.Slot.{Slot}
use Rattle.model.specs.Plans.{activate_plan}
use Rattle.model.proofs.CarriedLaws.{asked_yes, asked_no, needed_at_some, needed_at_none}
use Rattle.volumes.proofs.Carrying.{page_and_phase, call_refused, call_kept, asked_of_shown}
use Rattle.volumes.proofs.volume.Volume.load_entry.Goals as goal

pub returns-in_err-page : goal.returns-in_err-page
unfolding plan activate_plan
returns-in_err-page g c = call_refused _ _ _ tt c.from_residual.ensures.1 (asked_no _ _ _ _ c.in_err-page.ensures.answer)

pub returns-in_err-ask_phase : goal.returns-in_err-ask_phase
unfolding plan activate_plan
returns-in_err-ask_phase g c =
    call_refused _ _ _ tt c.from_residual-in_err-ask_phase.ensures.1 (asked_yes _ _ _ c.in_ok-page.ensures.answer ∙ asked_no _ _ _ _ c.in_err-ask_phase.ensures)

pub returns-in_err-ask_unused : goal.returns-in_err-ask_unused
unfolding plan activate_plan
returns-in_err-ask_unused g c =
    call_refused _ _ _ tt c.from_residual-in_err-ask_unused.ensures.1
    (page_and_phase _ _ _ c.in_ok-page.ensures.answer c.in_ok-ask_phase.ensures ∙ asked_no _ _ _ _ c.in_err-ask_unused.ensures.unused)

pub returns-in_err-ask_number : goal.returns-in_err-ask_number
unfolding plan activate_plan
returns-in_err-ask_number g c =
    call_refused _ _ _ tt c.from_residual-in_err-ask_number.ensures.1 (page_and_phase _ _ _ c.in_ok-page.ensures.answer c.in_ok-ask_phase.ensures
    ∙ (asked_yes _ _ _ c.in_ok-ask_unused.ensures.unused ∙ asked_no _ _ _ _ c.in_err-ask_number.ensures.taken))

pub returns-in_err-entry : goal.returns-in_err-entry
unfolding plan activate_plan
returns-in_err-entry g c =
    call_refused _ _ _ tt c.from_residual-in_err-entry.ensures.1 (page_and_phase _ _ _ c.in_ok-page.ensures.answer c.in_ok-ask_phase.ensures
    ∙ (asked_yes _ _ _ c.in_ok-ask_unused.ensures.unused ∙ (asked_yes _ _ _ c.in_ok-ask_number.ensures.taken
    ∙ needed_at_none _ _ _ _ _ (asked_of_shown _ _ _ _ _ c.in_err-entry.ensures c.shown_entry-shown.ensures))))

pub returns : goal.returns
unfolding plan activate_plan
returns g c =
    let v = c.args.self.now.memory in
    let x = c.in_ok-entry.entry in
    let taken : List Slot → File = λ s. record { entry = c.args.number; meter = x.meter; slots = s } in
    call_kept tt (page_and_phase _ _ _ c.in_ok-page.ensures.answer c.in_ok-ask_phase.ensures
    ∙ (asked_yes _ _ _ c.in_ok-ask_unused.ensures.unused ∙ (asked_yes _ _ _ c.in_ok-ask_number.ensures.taken
    ∙ needed_at_some _ _ _ _ _ (asked_of_shown _ _ _ _ _ c.in_ok-entry.ensures c.shown_entry-shown.ensures))))
    (c.hold.ensures ∙ ap {B = Memory} (λ s. with_file v c.args.file (Some (taken s))) c.load.ensures) refl
