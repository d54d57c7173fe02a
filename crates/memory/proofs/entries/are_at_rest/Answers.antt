use Rattle.std.proofs.Common.{◌∙◌, rules}
use Rattle.std.proofs.lemmas.Iterator.{YieldsList-from_slice}
use Rattle.std.proofs.lemmas.Iterator.Search.{all_from_yields_List}
use Rattle.model.specs.Slots.{at_rest}
use Rattle.memory.proofs.TableLaws.{each_at_rest}
use Rattle.memory.proofs.entries.are_at_rest.Goals as goal

pub returns : goal.returns
returns c =
    all_from_yields_List at_rest _ _ c.all.result c.all.ensures.ran (YieldsList-from_slice c.args.slots.now cc) (λ x b q k. search rules) ∙ each_at_rest c.args.slots.now
