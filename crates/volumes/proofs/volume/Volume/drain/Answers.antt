use Rattle.std.proofs.Common.{Ok, refl, ap, ◌∙◌, rules}
use Rattle.model.specs.Calls.{plan}
use Rattle.model.specs.Outcomes.{dry}
use Rattle.model.specs.Replies.{drained_reply}
use Rattle.model.specs.declared.answers.Drained.TheVariants.{Section, Dry}
use Rattle.model.specs.Plans.{drain_plan}
use Rattle.model.proofs.CarriedLaws.{asked_yes, asked_no}
use Rattle.volumes.proofs.Mapping.{section_reply, both_yes, one_no}
use Rattle.volumes.proofs.Carrying.{call_leads, exit_tells, call_refused}
use Rattle.volumes.proofs.volume.Volume.drain.Goals as goal

pub returns-in_err-page : goal.returns-in_err-page
unfolding plan drain_plan
returns-in_err-page g c = record { carried = call_refused _ _ _ tt c.from_residual.ensures.1 (asked_no _ _ _ _ c.in_err-page.ensures.answer); zero = search rules }

pub returns-in_err-ask_drain : goal.returns-in_err-ask_drain
unfolding plan drain_plan
returns-in_err-ask_drain g c =
    let no' = asked_yes _ _ _ c.in_ok-page.ensures.answer ∙ one_no _ _ _ _ _ _ c.in_err-ask_drain.ensures in
    record { carried = call_refused _ _ _ tt c.from_residual-in_err-ask_drain.ensures.1 no'; zero = search rules }

pub returns-in_err-posted : goal.returns-in_err-posted
unfolding plan drain_plan
returns-in_err-posted g c =
    let gives = asked_yes _ _ _ c.in_ok-page.ensures.answer ∙ both_yes _ _ _ _ _ c.in_ok-ask_drain.ensures in
    record { carried = call_leads tt gives (exit_tells _ _ _ c.from_residual-in_err-posted.ensures.1) (c.in_err-posted.ensures dry); zero = search rules }

pub returns : goal.returns
unfolding plan drain_plan
returns g c =
    let gives = asked_yes _ _ _ c.in_ok-page.ensures.answer ∙ both_yes _ _ _ _ _ c.in_ok-ask_drain.ensures in
    record {
      carried = call_leads tt gives (ap Ok (section_reply drained_reply Dry Section dry _ _ c.map_or.ensures refl (λ k. refl))) (c.in_ok-posted.ensures dry);
      zero = search rules;
    }
