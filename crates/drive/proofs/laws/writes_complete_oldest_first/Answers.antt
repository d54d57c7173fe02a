use Rattle.drive.proofs.MeaningLaws.{writes_complete_oldest_first}
use Rattle.drive.proofs.laws.writes_complete_oldest_first.Goals as goal

pub returns : goal.returns
returns c = writes_complete_oldest_first
