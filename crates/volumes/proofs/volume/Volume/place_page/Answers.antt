use Rattle.std.proofs.Common.{refl, ◌∙◌, arith}
use Rattle.model.specs.Calls.{plan}
use Rattle.model.specs.Plans.{place_plan}
use Rattle.model.proofs.CarriedLaws.{asked_yes, asked_no, needed_some, needed_none, some_of}
use Rattle.volumes.proofs.Carrying.{page_and_phase, call_refused, call_post_refused, call_posted, bytes_fit}
use Rattle.volumes.proofs.volume.Volume.place_page.Goals as goal

pub returns-in_err-ask_record : goal.returns-in_err-ask_record
unfolding plan place_plan
returns-in_err-ask_record g c =
    call_refused _ _ _ (omega arith, bytes_fit c.args.page.now c.type_inv.page) c.from_residual.ensures.1 (asked_no _ _ _ _ c.in_err-ask_record.ensures)

pub returns-in_err-ask_phase : goal.returns-in_err-ask_phase
unfolding plan place_plan
returns-in_err-ask_phase g c =
    call_refused _ _ _ (omega arith, bytes_fit c.args.page.now c.type_inv.page) c.from_residual-in_err-ask_phase.ensures.1
    (asked_yes _ _ _ c.in_ok-ask_record.ensures ∙ asked_no _ _ _ _ c.in_err-ask_phase.ensures)

pub returns-in_err-used : goal.returns-in_err-used
unfolding plan place_plan
returns-in_err-used g c =
    call_refused _ _ _ (omega arith, bytes_fit c.args.page.now c.type_inv.page) c.from_residual-in_err-used.ensures.1
    (page_and_phase _ _ _ c.in_ok-ask_record.ensures c.in_ok-ask_phase.ensures ∙ needed_none _ _ _ _ c.in_err-used.ensures.found)

pub returns-in_err-ask_empty : goal.returns-in_err-ask_empty
unfolding plan place_plan
returns-in_err-ask_empty g c =
    call_refused _ _ _ (omega arith, bytes_fit c.args.page.now c.type_inv.page) c.from_residual-in_err-ask_empty.ensures.1
    (page_and_phase _ _ _ c.in_ok-ask_record.ensures c.in_ok-ask_phase.ensures ∙ (needed_some _ _ _ _ c.in_ok-used.ensures.found
    ∙ needed_none _ _ _ _ c.in_err-ask_empty.ensures))

pub returns-in_err-ask_ticket : goal.returns-in_err-ask_ticket
unfolding plan place_plan
returns-in_err-ask_ticket g c =
    call_refused _ _ _ (omega arith, bytes_fit c.args.page.now c.type_inv.page) c.from_residual-in_err-ask_ticket.ensures.1
    (page_and_phase _ _ _ c.in_ok-ask_record.ensures c.in_ok-ask_phase.ensures ∙ (needed_some _ _ _ _ c.in_ok-used.ensures.found
    ∙ (needed_some _ _ _ _ c.in_ok-ask_empty.ensures ∙ asked_no _ _ _ _ c.in_err-ask_ticket.ensures.held)))

pub returns-in_err-post : goal.returns-in_err-post
unfolding plan place_plan
returns-in_err-post g c =
    call_post_refused _ _ _ _ _ _ (omega arith, bytes_fit c.args.page.now c.type_inv.page) c.from_residual-in_err-post.ensures.1
    (page_and_phase _ _ _ c.in_ok-ask_record.ensures c.in_ok-ask_phase.ensures ∙ (needed_some _ _ _ _ c.in_ok-used.ensures.found
    ∙ (needed_some _ _ _ _ c.in_ok-ask_empty.ensures ∙ asked_yes _ _ _ c.in_ok-ask_ticket.ensures.held)))
    refl c.in_err-post.ensures.answer c.in_err-post.ensures.after refl

pub returns : goal.returns
unfolding plan place_plan
returns g c =
    let posted = c.in_ok-post.ensures in
    call_posted _ (omega arith, bytes_fit c.args.page.now c.type_inv.page)
    (page_and_phase _ _ _ c.in_ok-ask_record.ensures c.in_ok-ask_phase.ensures ∙ (needed_some _ _ _ _ c.in_ok-used.ensures.found
    ∙ (needed_some _ _ _ _ c.in_ok-ask_empty.ensures ∙ asked_yes _ _ _ c.in_ok-ask_ticket.ensures.held)))
    refl posted.answer (c.place.ensures _ (some_of 6 _ _ c.in_ok-used.ensures.found)) posted.after
