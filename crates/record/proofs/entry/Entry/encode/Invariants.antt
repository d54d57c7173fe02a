use Rattle.std.proofs.Common.{◌≡◌, take}
use lib.Seq.{paste}
use Rattle.record.specs.Words.{unwords}
use Rattle.record.specs.Entries.{pack}
use Rattle.record.proofs.ControlLaws.{Fit}
use Rattle.record.proofs.EntryLaws.{head_words}
use Rattle.record.proofs.entry.Entry.encode.Given as goal

-- the first k words of slots stand in their places, and fit
abbrev pub invariant-loop-k : goal.invariant-loop-k
invariant-loop-k l =
    (l.page ≡ unwords (paste (head_words l.id l.self.meter) 8 (pack l.self.slots) l.k))
    × Fit (take l.k (pack l.self.slots))
