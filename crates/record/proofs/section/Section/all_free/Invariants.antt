use Rattle.std.proofs.Common.{◌+◌}
use Rattle.record.specs.Regions.{within}
use Rattle.record.proofs.BitLaws.{OnBelow}
use Rattle.record.proofs.section.Section.all_free.Given as goal

abbrev pub invariant-loop-r : goal.invariant-loop-r
invariant-loop-r l = OnBelow (λ r. within l.span.free (l.span.first + r)) l.r l.section.bits
