use Rattle.std.proofs.Common.{ℕ, ◌+◌, Bool, not, ◌||◌, rules, refl, ◌∙◌}
use Rattle.std.proofs.lemmas.Iterator.{YieldsList-from_range}
use Rattle.std.proofs.lemmas.Iterator.Search.{all_from_yields_List}
use borrow.Author.Tests.{tests}
use Rattle.record.specs.Regions.{within}
use Rattle.record.specs.Sections.{bit}
use Rattle.record.proofs.CountLaws.{pass_at_each}
use Rattle.record.proofs.section.Section.is_within.Goals as goal

pub returns : goal.returns
returns c =
    let f = bit c.args.self.now.bits in
    let g : ℕ → Bool = λ r. within c.args.span.now.free (c.args.span.now.first + r) in
    all_from_yields_List (λ r. not (f r) || g r) _ _ c.all.result c.all.ensures.ran
    (YieldsList-from_range 0 3968 3968 refl refl) (λ x b q k. search (rules, tests))
    ∙ pass_at_each f g 0 3968
