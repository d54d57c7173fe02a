use Rattle.std.proofs.Common.{◌≡◌, ◌-◌}
use Rattle.drive.specs.Meaning.{shown}
use Rattle.mending.specs.Sought.{inexact_in}
use Rattle.mending.proofs.InexactLaws.{inexact_from}
use Rattle.mending.proofs.sections.first_inexact.Given as goal

-- the sections from k on give the answer
abbrev pub invariant-loop-k : goal.invariant-loop-k
invariant-loop-k g l =
    let s = shown (g.D.Drive.meaning l.records.drive.now) in inexact_from l.records.label s l.k (3 - l.k) ≡ inexact_in l.records.label s
