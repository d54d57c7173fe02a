use Rattle.std.proofs.Common.{rules}
use Rattle.drive.specs.Formed.{length_states}
use Rattle.drive.proofs.surface.Surface.size.Goals as goal

pub returns : goal.returns
returns c = search (rules, length_states)
