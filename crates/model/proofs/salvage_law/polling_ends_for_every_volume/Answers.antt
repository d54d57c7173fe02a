use Rattle.model.proofs.PollingLaws.{polling_ends_for_every_volume}
use Rattle.model.proofs.salvage_law.polling_ends_for_every_volume.Goals as goal

pub returns : goal.returns
returns c = polling_ends_for_every_volume
