use Rattle.std.proofs.Common.{◌-◌, rules, sym, refl, ◌∙◌}
use Rattle.std.proofs.lemmas.Iterator.{YieldsList-from_range}
use Rattle.std.proofs.lemmas.Iterator.Search.{find_from_yields_List}
use Rattle.std.proofs.lemmas.Iterator.Adapters.{option_map_id}
use borrow.Author.Tests.{tests}
use Rattle.record.specs.Sections.{bit}
use Rattle.record.proofs.CountLaws.{first_found}
use Rattle.record.proofs.section.Section.lowest_free.Goals as goal

pub returns : goal.returns
returns c =
    let f = bit c.args.self.now.bits in
    let e = find_from_yields_List f _ _ c.find.result c.find.ensures.ran
    (YieldsList-from_range c.args.from 3968 (3968 - c.args.from) refl refl) (λ x b q k. search (rules, tests)) in
    sym (option_map_id c.find.result) ∙ (e ∙ first_found f c.args.from (3968 - c.args.from))
