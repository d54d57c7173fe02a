use Rattle.model.proofs.CarriedLaws.{carried_poll}
use Rattle.volumes.proofs.volume.Volume.poll.Goals as goal

pub returns : goal.returns
returns g c = carried_poll _ _ _ _ c.advance.ensures.polls c.advance.ensures.remain
