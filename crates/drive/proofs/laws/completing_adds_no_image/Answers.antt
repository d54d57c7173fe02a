use Rattle.drive.proofs.MeaningLaws.{completing_adds_no_image}
use Rattle.drive.proofs.laws.completing_adds_no_image.Goals as goal

pub returns : goal.returns
returns c = completing_adds_no_image
