use Rattle.std.proofs.Common.{ap, ◌∙◌, arith}
use Rattle.drive.specs.Backlogs.{held}
use Rattle.drive.specs.Meaning.{complete}
use Rattle.drive.proofs.MeaningLaws.{owed_complete}
use Rattle.drive.proofs.buffered.BufferedDrive.step.Goals as goal

pub invariant_of-self : goal.invariant_of-self
invariant_of-self g c =
    let d = c.args.self.now in
    let fewer = owed_complete (held d.backlog 0) (held c.complete.new.self 0) c.step-count.result (c.complete.ensures.settled 0) in
    record { worn = d.worn; few = omega (arith, fewer, d.few) }

pub returns-clause-after : goal.returns-clause-after
returns-clause-after g c =
    let d = c.args.self.now in
    let done = c.complete.ensures.settled d.wear ∙ ap (λ k. complete k (held d.backlog d.wear)) c.step-count.ensures.count in
    (g.P.Pace.in_step d.pace, (g.met.P.Pace.completes d.pace, done))

pub returns-clause-completes : goal.returns-clause-completes
returns-clause-completes g c =
    let d = c.args.self.now in
    c.complete.ensures.settled d.wear ∙ ap (λ k. complete k (held d.backlog d.wear)) c.step-count.ensures.count
