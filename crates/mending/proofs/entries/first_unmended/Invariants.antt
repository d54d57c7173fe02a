use Rattle.drive.specs.Meaning.{shown}
use Rattle.mending.proofs.UnmendedLaws.{Looking}
use Rattle.mending.proofs.entries.first_unmended.Given as goal

abbrev pub invariant-loop-i : goal.invariant-loop-i
invariant-loop-i g l = Looking l.records.label (shown (g.D.Drive.meaning l.records.drive.now)) l.tally l.i
