use Rattle.model.proofs.MendedImages.{salvage_mends_every_image}
use Rattle.model.proofs.salvage_law.salvage_mends_every_image.Goals as goal

pub returns : goal.returns
returns c = salvage_mends_every_image
