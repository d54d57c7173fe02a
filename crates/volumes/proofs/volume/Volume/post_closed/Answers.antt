use Rattle.std.proofs.Common.{◌≡◌, ℕ, ◌+◌, ◌&&◌, eqb, length, refl, ap, ◌∙◌}
use Rattle.model.specs.Calls.{plan}
use Rattle.model.specs.Carried.{asked}
use Rattle.model.specs.Memory.{Memory}
use Rattle.model.specs.Plans.{finish_plan, is_idle}
use Rattle.model.specs.Volume.{label_bytes}
use Rattle.model.proofs.CarriedLaws.{asked_yes, asked_no}
use Rattle.volumes.proofs.Carrying.{page_and_phase, call_refused, call_post_refused, call_posted}
use Rattle.volumes.proofs.volume.Volume.post_closed.Goals as goal

pub returns-in_err-page : goal.returns-in_err-page
unfolding plan finish_plan
returns-in_err-page g c = call_refused _ _ _ tt c.from_residual.ensures.1 (asked_no _ _ _ _ c.in_err-page.ensures.answer)

pub returns-in_err-ask_phase : goal.returns-in_err-ask_phase
unfolding plan finish_plan
returns-in_err-ask_phase g c =
    call_refused _ _ _ tt c.from_residual-in_err-ask_phase.ensures.1 (asked_yes _ _ _ c.in_ok-page.ensures.answer ∙ asked_no _ _ _ _ c.in_err-ask_phase.ensures)

-- question 15, of a count that is the number of owed writes
at_owed : (v : Memory) (n owed : ℕ) → n ≡ owed
    → asked 15 (is_idle v.chart && (eqb (length v.service + length v.unsettled) 0 && eqb n 0)) ≡ asked 15 (is_idle v.chart && (eqb (length v.service + length v.unsettled) 0 && eqb owed 0))
at_owed v n owed is = ap (λ k. asked 15 (is_idle v.chart && (eqb (length v.service + length v.unsettled) 0 && eqb k 0))) is

pub returns-in_err-ask_settled : goal.returns-in_err-ask_settled
unfolding plan finish_plan
returns-in_err-ask_settled g c =
    call_refused _ _ _ tt c.from_residual-in_err-ask_settled.ensures.1
    (page_and_phase _ _ _ c.in_ok-page.ensures.answer c.in_ok-ask_phase.ensures ∙ asked_no _ _ _ _ (c.in_err-ask_settled.ensures ∙ at_owed c.args.self.now.memory _ _ c.owed.ensures.value))

pub returns-in_err-post : goal.returns-in_err-post
unfolding plan finish_plan
returns-in_err-post g c =
    call_post_refused _ _ _ _ _ _ tt c.from_residual-in_err-post.ensures.1
    (page_and_phase _ _ _ c.in_ok-page.ensures.answer c.in_ok-ask_phase.ensures ∙ asked_yes _ _ _ (c.in_ok-ask_settled.ensures ∙ at_owed c.args.self.now.memory _ _ c.owed.ensures.value))
    (c.encode.ensures ∙ ap label_bytes c.label.ensures.kept) c.in_err-post.ensures.answer c.in_err-post.ensures.after refl

pub returns : goal.returns
unfolding plan finish_plan
returns g c =
    let posted = c.in_ok-post.ensures in
    call_posted _ tt (page_and_phase _ _ _ c.in_ok-page.ensures.answer c.in_ok-ask_phase.ensures ∙ asked_yes _ _ _ (c.in_ok-ask_settled.ensures ∙ at_owed c.args.self.now.memory _ _ c.owed.ensures.value))
    (c.encode.ensures ∙ ap label_bytes c.label.ensures.kept) posted.answer c.shut.ensures posted.after
