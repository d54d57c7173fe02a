use Rattle.std.proofs.Common.{ap}
use Rattle.drive.specs.Queues.{line}
use Rattle.drive.proofs.EachLaws.{each_none}
use Rattle.drive.proofs.backlog.Backlog.new.Goals as goal

pub invariant_of-result : goal.invariant_of-result
invariant_of-result c = record { inside = each_none _ _ (ap line c.new-2.ensures) }
