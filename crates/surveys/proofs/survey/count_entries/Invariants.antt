use Rattle.surveys.proofs.SurveyLaws.{Counted}
use Rattle.surveys.proofs.survey.count_entries.Given as goal

-- the first i entries are counted
abbrev pub invariant-loop-i : goal.invariant-loop-i
invariant-loop-i g l = Counted (g.D.Drive.meaning l.records.drive.now) l.records.label l.counts.free l.counts.sound l.counts.named l.i
