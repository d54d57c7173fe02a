use Rattle.std.proofs.Common.{◌+◌}
use Rattle.record.proofs.BitLaws.{OnBelow}
use Rattle.mending.specs.Leftovers.{left_over}
use Rattle.mending.proofs.sections.exact_section.Given as goal

abbrev pub invariant-loop-r : goal.invariant-loop-r
invariant-loop-r l = OnBelow (λ r. left_over l.span.free l.tally (l.span.first + r)) l.r l.section.bits
