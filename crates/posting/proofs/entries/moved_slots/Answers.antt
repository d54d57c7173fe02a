use Rattle.std.proofs.Common.{◌∙◌, rules}
use borrow.Author.Tests.{tests}
use Rattle.model.specs.declared.memory.Slot.TheVariants.{Empty}
use Rattle.model.specs.Slots.{updated}
use Rattle.model.proofs.Mapped.{made_from}
use Rattle.posting.proofs.entries.moved_slots.Goals as goal

pub returns : goal.returns
returns g c =
    made_from _ _ (updated (g.D.Drive.meaning c.args.drive.now)) c.args.slots c.from_fn.result Empty (λ i y q k. search (rules, tests)) 64 (search rules) c.from_fn.ensures.items
