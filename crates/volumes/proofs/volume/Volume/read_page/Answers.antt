use Rattle.std.proofs.Common.{length, Ok, sym, refl, ap, ◌∙◌}
use Rattle.model.specs.Outcomes.{page}
use Rattle.reading.proofs.ReadLaws.{bytes_read}
use Rattle.model.specs.Plans.{read_plan}
use Rattle.model.proofs.CarriedLaws.{asked_yes, asked_no, needed_some, needed_none, accepted_yes, accepted_no, keeping}
use Rattle.volumes.proofs.Carrying.{page_and_phase, exit_refused, page_long}
use Rattle.volumes.proofs.volume.Volume.read_page.Goals as goal

pub returns-in_err-ask_record : goal.returns-in_err-ask_record
unfolding read_plan
returns-in_err-ask_record g c = exit_refused _ _ _ c.from_residual.ensures.1 (asked_no _ _ _ _ c.in_err-ask_record.ensures)

pub returns-in_err-ask_phase : goal.returns-in_err-ask_phase
unfolding read_plan
returns-in_err-ask_phase g c =
    exit_refused _ _ _ c.from_residual-in_err-ask_phase.ensures.1 (asked_yes _ _ _ c.in_ok-ask_record.ensures ∙ asked_no _ _ _ _ c.in_err-ask_phase.ensures)

pub returns-in_err-used : goal.returns-in_err-used
unfolding read_plan
returns-in_err-used g c =
    exit_refused _ _ _ c.from_residual-in_err-used.ensures.1
    (page_and_phase _ _ _ c.in_ok-ask_record.ensures c.in_ok-ask_phase.ensures ∙ needed_none _ _ _ _ c.in_err-used.ensures.found)

pub returns-in_err-address : goal.returns-in_err-address
unfolding read_plan
returns-in_err-address g c =
    exit_refused _ _ _ c.from_residual-in_err-address.ensures.1
    (page_and_phase _ _ _ c.in_ok-ask_record.ensures c.in_ok-ask_phase.ensures ∙ (needed_some _ _ _ _ c.in_ok-used.ensures.found
    ∙ needed_none _ _ _ _ c.in_err-address.ensures))

pub returns-in_err-read : goal.returns-in_err-read
unfolding read_plan
returns-in_err-read g c =
    exit_refused _ _ _ c.from_residual-in_err-read.ensures.1
    (page_and_phase _ _ _ c.in_ok-ask_record.ensures c.in_ok-ask_phase.ensures ∙ (needed_some _ _ _ _ c.in_ok-used.ensures.found
    ∙ (needed_some _ _ _ _ c.in_ok-address.ensures ∙ accepted_no _ _ _ c.in_err-read.ensures.answer)))

pub returns : goal.returns
unfolding read_plan
returns g c =
    let read = c.in_ok-read.ensures in
    let m = g.D.Drive.meaning c.args.self.now.drive in
    let bytes = bytes_read m c.in_ok-address.address (Ok tt) c.args.page.now c.read.new.page (g.D.Drive.formed c.args.self.now.drive) (page_long (length c.args.page.now) c.in_ok-ask_record.ensures) read.answer read.filled in
    keeping _ _ _ _ _ _
    (page_and_phase _ _ _ c.in_ok-ask_record.ensures c.in_ok-ask_phase.ensures ∙ (needed_some _ _ _ _ c.in_ok-used.ensures.found
    ∙ (needed_some _ _ _ _ c.in_ok-address.ensures ∙ accepted_yes _ _ read.answer)))
    (ap (λ bs. Ok (page bs)) (sym bytes)) refl refl
