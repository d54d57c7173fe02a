use Rattle.std.proofs.Common.{refl}
use Rattle.model.specs.Calls.{plan}
use Rattle.model.proofs.CarriedLaws.{carried, refusing}
use Rattle.volumes.proofs.Carrying.{call_kept, volume_same}
use Rattle.volumes.proofs.volume.Volume.close.Goals as goal

pub returns-in-Ok : goal.returns-in-Ok
unfolding plan
returns-in-Ok g c = record { carried = call_kept tt c.in-Ok.ensures.planned refl refl; back = tt }

pub returns-in-Err : goal.returns-in-Err
unfolding plan
returns-in-Err g c =
    let came = c.in-Err.ensures in
    record { carried = carried _ _ _ _ _ tt (refusing _ _ _ _ _ came.planned refl (volume_same refl came.same)); back = refl }
