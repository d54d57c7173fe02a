use Rattle.std.proofs.Common.{Ok, refl, ap}
use Rattle.model.specs.Calls.{plan}
use Rattle.model.proofs.CarriedLaws.{carried, refusing, keeping}
use Rattle.volumes.proofs.Carrying.{exit_tells, volume_same}
use Rattle.volumes.proofs.volume.Volume.withdraw.Goals as goal

pub returns-in_err-moved : goal.returns-in_err-moved
unfolding plan
returns-in_err-moved g c =
    let came = c.in_err-moved.ensures in
    carried _ _ _ _ _ tt (refusing _ _ _ _ _ came.planned (exit_tells _ _ _ c.from_residual.ensures.1) (volume_same refl came.same))

pub returns : goal.returns
unfolding plan
returns g c = carried _ _ _ _ _ tt (keeping _ _ _ _ _ _ c.in_ok-moved.ensures.planned (ap Ok c.granted.ensures) refl refl)
