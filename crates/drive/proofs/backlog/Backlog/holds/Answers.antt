use Rattle.std.proofs.Common.{eqb, sym, ◌∙◌, rules, tests}
use Rattle.std.proofs.lemmas.Iterator.{YieldsList-from_slice}
use Rattle.std.proofs.lemmas.Iterator.Search.{any_from_yields_List}
use Rattle.drive.proofs.QueueLaws.{any_to-line}
use Rattle.drive.proofs.backlog.Backlog.holds.Goals as goal

pub returns : goal.returns
returns c =
    let qs = c.args.self.now.queue.items in
    any_from_yields_List (λ q. eqb q.at c.args.at) _ _ c.any.result c.any.ensures.ran (YieldsList-from_slice qs cc) (λ x b q k. search (rules, tests))
    ∙ sym (any_to-line qs c.args.at)
