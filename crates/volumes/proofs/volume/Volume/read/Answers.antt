use Rattle.std.proofs.Common.{rules}
use Rattle.model.specs.Calls.{plan}
use Rattle.model.proofs.CarriedLaws.{carried}
use Rattle.volumes.proofs.volume.Volume.read.Goals as goal

pub returns-in-Ok : goal.returns-in-Ok
unfolding plan
returns-in-Ok g c = record { carried = carried _ _ _ _ _ tt c.in-Ok.ensures; zero = tt }

pub returns-in-Err : goal.returns-in-Err
unfolding plan
returns-in-Err g c = record { carried = carried _ _ _ _ _ tt c.in-Err.ensures; zero = search rules }
