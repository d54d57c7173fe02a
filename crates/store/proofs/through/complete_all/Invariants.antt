use Rattle.std.proofs.Common.{◌≡◌}
use Rattle.drive.specs.Meaning.{owed, calm}
use Rattle.store.proofs.through.complete_all.Given as goal

abbrev pub invariant-loop : goal.invariant-loop
invariant-loop g l = calm (g.D.Drive.meaning l.drive) ≡ calm (g.D.Drive.meaning l.initial.drive)

abbrev pub decreases-loop : goal.decreases-loop
decreases-loop g l = owed (g.D.Drive.meaning l.drive)
