use Rattle.std.proofs.Common.{Ok, refl, ap, ◌∙◌, rules as found}
use Rattle.model.specs.Calls.{plan}
use Rattle.model.specs.Outcomes.{quiet}
use Rattle.model.specs.Replies.{balanced_reply}
use Rattle.model.specs.declared.answers.Balanced.TheVariants.{Section, Quiet}
use Rattle.model.specs.Plans.{balance_plan}
use Rattle.model.proofs.CarriedLaws.{asked_yes, asked_no}
use Rattle.volumes.proofs.Mapping.{section_reply, balance_busy, balance_takes, balance_gives, balance_quiet}
use Rattle.volumes.proofs.Carrying.{call_leads, exit_tells, call_refused, call_kept}
use Rattle.volumes.proofs.volume.Volume.balance.Goals as goal

pub returns-in_err-page : goal.returns-in_err-page
unfolding plan balance_plan
returns-in_err-page g c = record { carried = call_refused _ _ _ tt c.from_residual.ensures.1 (asked_no _ _ _ _ c.in_err-page.ensures.answer); zero = search found }

pub returns-in_err-ask_phase : goal.returns-in_err-ask_phase
unfolding plan balance_plan
returns-in_err-ask_phase g c =
    let no' = asked_yes _ _ _ c.in_ok-page.ensures.answer ∙ asked_no _ _ _ _ c.in_err-ask_phase.ensures in
    record { carried = call_refused _ _ _ tt c.from_residual-in_err-ask_phase.ensures.1 no'; zero = search found }

pub returns-then-not-is_idle : goal.returns-then-not-is_idle
unfolding plan
returns-then-not-is_idle g c =
    record { carried = call_kept tt (balance_busy _ _ _ c.args.self.now.memory c.in_ok-page.ensures.answer c.in_ok-ask_phase.ensures c.if-not-is_idle.ensures) refl refl; zero = search found }

pub returns-in_err-posted : goal.returns-in_err-posted
unfolding plan
returns-in_err-posted g c =
    record {
      carried = call_leads tt
          (balance_takes _ _ _ c.args.self.now.memory _ c.in_ok-page.ensures.answer c.in_ok-ask_phase.ensures c.if-not-is_idle.ensures c.service-in_service.ensures.value c.if-in_service-lt-FEW.true)
          (exit_tells _ _ _ c.from_residual-in_err-posted.ensures.1) c.in_err-posted.ensures;
      zero = search found;
    }

pub returns-then-in_service-lt-FEW : goal.returns-then-in_service-lt-FEW
unfolding plan
returns-then-in_service-lt-FEW g c =
    record {
      carried = call_leads tt
          (balance_takes _ _ _ c.args.self.now.memory _ c.in_ok-page.ensures.answer c.in_ok-ask_phase.ensures c.if-not-is_idle.ensures c.service-in_service.ensures.value c.if-in_service-lt-FEW.true)
          (ap Ok (section_reply balanced_reply Quiet Section quiet _ _ c.map_or.ensures refl (λ k. refl))) c.in_ok-posted.ensures;
      zero = search found;
    }

pub returns-in_err-posted-2 : goal.returns-in_err-posted-2
unfolding plan
returns-in_err-posted-2 g c =
    record {
      carried = call_leads tt
          (balance_gives _ _ _ c.args.self.now.memory _ c.in_ok-page.ensures.answer c.in_ok-ask_phase.ensures c.if-not-is_idle.ensures c.service-in_service.ensures.value c.if-in_service-gt-MANY.true)
          (exit_tells _ _ _ c.from_residual-in_err-posted-2.ensures.1) (c.in_err-posted-2.ensures quiet);
      zero = search found;
    }

pub returns-then-in_service-gt-MANY : goal.returns-then-in_service-gt-MANY
unfolding plan
returns-then-in_service-gt-MANY g c =
    record {
      carried = call_leads tt
          (balance_gives _ _ _ c.args.self.now.memory _ c.in_ok-page.ensures.answer c.in_ok-ask_phase.ensures c.if-not-is_idle.ensures c.service-in_service.ensures.value c.if-in_service-gt-MANY.true)
          (ap Ok (section_reply balanced_reply Quiet Section quiet _ _ c.map_or-then-in_service-gt-MANY.ensures refl (λ k. refl))) (c.in_ok-posted-2.ensures quiet);
      zero = search found;
    }

pub returns : goal.returns
unfolding plan
returns g c =
    record {
      carried = call_kept tt
          (balance_quiet _ _ _ c.args.self.now.memory _ c.in_ok-page.ensures.answer c.in_ok-ask_phase.ensures c.if-not-is_idle.ensures c.service-in_service.ensures.value c.if-in_service-lt-FEW.false c.if-in_service-gt-MANY.false)
          refl refl;
      zero = search found;
    }
