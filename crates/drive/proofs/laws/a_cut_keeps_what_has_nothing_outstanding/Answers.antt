use Rattle.drive.proofs.MeaningLaws.{a_cut_keeps_what_has_nothing_outstanding}
use Rattle.drive.proofs.laws.a_cut_keeps_what_has_nothing_outstanding.Goals as goal

pub returns : goal.returns
returns c = a_cut_keeps_what_has_nothing_outstanding
