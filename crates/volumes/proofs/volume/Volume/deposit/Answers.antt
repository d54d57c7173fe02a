use Rattle.std.proofs.Common.{refl, arith}
use Rattle.model.specs.Calls.{plan}
use Rattle.model.specs.Replies.{done_reply}
use Rattle.volumes.proofs.Carrying.{remembered}
use Rattle.volumes.proofs.volume.Volume.deposit.Goals as goal

pub returns : goal.returns
unfolding plan
returns g c = remembered _ _ _ _ done_reply c.deposit.result (omega arith) c.deposit.ensures.planned c.deposit.ensures.same refl
