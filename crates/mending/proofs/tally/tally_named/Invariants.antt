use Rattle.drive.specs.Meaning.{shown}
use Rattle.mending.proofs.UnmendedLaws.{Naming}
use Rattle.mending.proofs.tally.tally_named.Given as goal

abbrev pub invariant-loop-i : goal.invariant-loop-i
invariant-loop-i g l = Naming l.records.label (shown (g.D.Drive.meaning l.records.drive.now)) l.tally l.i
