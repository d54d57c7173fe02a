use Rattle.std.proofs.Common.{rules}
use borrow.Author.Tests.{tests}
use Rattle.model.specs.Slots.{loaded}
use Rattle.model.proofs.Mapped.{made_from}
use Rattle.memory.proofs.entries.load.Goals as goal

pub returns : goal.returns
returns c = made_from _ _ loaded c.args.shown.now.slots c.from_fn.result 0 (λ i y q k. search (rules, tests)) 64 (search rules) c.from_fn.ensures.items
