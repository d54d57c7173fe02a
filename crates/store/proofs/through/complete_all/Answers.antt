use Rattle.std.proofs.Common.{ap, ◌∙◌}
use Rattle.drive.specs.Meaning.{calm}
use Rattle.drive.proofs.CalmLaws.{calm_complete}
use Rattle.store.proofs.through.complete_all.Goals as goal

pub loop-preserved : goal.loop-preserved
loop-preserved g c =
    let s = c.step.ensures.after in
    ap calm s.1.1 ∙ (calm_complete s.0 (g.D.Drive.meaning c.loop.drive) ∙ c.loop.invariant)
