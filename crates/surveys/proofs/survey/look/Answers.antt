use Rattle.std.proofs.Common.{length, Ok, Result, ap, ◌∙◌}
use Rattle.drive.specs.Faults.{Refusal}
use Rattle.surveys.specs.declared.survey.Survey.{Survey}
use Rattle.surveys.specs.Surveys.{survey_of}
use Rattle.surveys.proofs.SurveyLaws.{found_under}
use Rattle.surveys.proofs.survey.look.Goals as goal

pub returns-clause-answer : goal.returns-clause-answer
returns-clause-answer g c =
    let m = g.D.Drive.meaning c.args.drive.now in
    let seen = found_under m _ (length c.args.page.now) _ c.in_ok-record.ensures.answer c.in_ok-records.ensures.label in
    ap {B = Result Survey Refusal} (λ x. Ok x) (c.survey_of.ensures ∙ ap (λ d. survey_of (g.D.Drive.meaning d) c.in_ok-records.records.label) c.in_ok-records.ensures.same) ∙ seen
