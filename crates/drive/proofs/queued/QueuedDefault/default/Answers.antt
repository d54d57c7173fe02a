use Rattle.std.proofs.Common.{ltb, refl}
use Rattle.drive.proofs.EachLaws.{each_replicate}
use Rattle.drive.proofs.queued.QueuedDefault.default.Goals as goal

pub invariant_of-result : goal.invariant_of-result
invariant_of-result c = record { full = refl; sized = each_replicate (λ b. ltb b 256) 512 0 refl }
