use Rattle.std.proofs.Common.{ap, rules}
use borrow.Author.Tests.{tests}
use Rattle.model.specs.declared.memory.Slot.TheVariants.{Empty}
use Rattle.model.specs.Slots.{live_address}
use Rattle.model.proofs.Mapped.{made_from}
use Rattle.memory.proofs.entries.naming_live.Goals as goal

pub returns : goal.returns
returns c =
    ap (λ (s : _). record { meter = c.args.meter; slots = s }) (made_from _ _ live_address c.args.slots.now c.from_fn.result Empty (λ i y q k. search (rules, tests)) 64 (search rules) c.from_fn.ensures.items)
