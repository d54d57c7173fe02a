use Rattle.std.proofs.Common.{refl}
use Rattle.model.specs.Calls.{plan}
use Rattle.model.specs.Replies.{done_reply}
use Rattle.volumes.proofs.Carrying.{remembered}
use Rattle.volumes.proofs.volume.Volume.deactivate.Goals as goal

pub returns : goal.returns
unfolding plan
returns g c = remembered _ _ _ _ done_reply c.deactivate.result tt c.deactivate.ensures.planned c.deactivate.ensures.same refl
