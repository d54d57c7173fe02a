use Rattle.std.proofs.Common.{◌≡◌, ◌*◌, count_by}
use Rattle.std.specs.List.{range_with_len}
use Rattle.record.specs.Sections.{bit}
use Rattle.record.proofs.section.Section.count.Given as goal

-- the bits of the words before the index are counted
abbrev pub invariant-loop-w : goal.invariant-loop-w
invariant-loop-w l = l.n ≡ count_by (bit l.self.bits) (range_with_len 0 (32 * l.w-index))
