use Rattle.std.proofs.Common.{rules}
use Rattle.drive.proofs.EachLaws.{all_bytes_fit}
use Rattle.drive.proofs.SurfaceLaws.{states_sized}
use Rattle.drive.proofs.surface.Surface.new.Goals as goal

pub invariant_of-result : goal.invariant_of-result
invariant_of-result c = search (rules, states_sized, all_bytes_fit)
