use Rattle.drive.proofs.MeaningLaws.{completing_changes_nothing_shown}
use Rattle.drive.proofs.laws.completing_changes_nothing_shown.Goals as goal

pub returns : goal.returns
returns c = completing_changes_nothing_shown
