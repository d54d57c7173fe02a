use Rattle.std.proofs.Common.{refl}
use Rattle.model.proofs.CarriedLaws.{carried_attach}
use Rattle.volumes.proofs.Carrying.{volume_same}
use Rattle.volumes.proofs.volume.Volume.attach.Goals as goal

pub returns : goal.returns
returns g c = carried_attach _ _ _ (volume_same refl c.attached.ensures)
