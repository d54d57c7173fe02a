use Rattle.std.proofs.Common.{refl}
use Rattle.model.specs.Calls.{plan}
use Rattle.model.specs.Replies.{done_reply}
use Rattle.volumes.proofs.Carrying.{remembered}
use Rattle.volumes.proofs.volume.Volume.clear.Goals as goal

pub returns : goal.returns
unfolding plan
returns g c = remembered _ _ _ _ done_reply c.clear.result tt c.clear.ensures.planned c.clear.ensures.same refl
