use Rattle.std.proofs.Common.{◌≡◌, ◌+◌, ◌*◌, take}
use Rattle.record.specs.Words.{unwords}
use Rattle.record.specs.Sections.{free_count}
use Rattle.record.proofs.ControlLaws.{Fit}
use Rattle.record.proofs.SectionLaws.{laid}
use Rattle.record.proofs.section.Section.encode.Given as goal

-- the words of bits before k are written
abbrev pub invariant-loop-k : goal.invariant-loop-k
invariant-loop-k l =
    (l.page ≡ unwords (laid l.id (l.span.first * 65536 + 124) (l.span.covered * 65536 + free_count l.self.bits) l.k l.self.bits))
    × Fit (take l.k l.self.bits)
