use Rattle.std.proofs.Common.{◌-◌, eqb, rules, refl, ◌∙◌, arith}
use Rattle.std.proofs.lemmas.Iterator.{YieldsList-from_range}
use Rattle.std.proofs.lemmas.Iterator.Search.{all_from_yields_List}
use borrow.Author.Tests.{tests}
use Rattle.record.specs.Words.{word, words}
use Rattle.record.proofs.WordLaws.{length_words, zeros_at_each}
use Rattle.record.proofs.words.zero_between.Goals as goal

pub returns : goal.returns
returns c =
    let p = c.args.page.now in
    let n = length_words p in
    all_from_yields_List (λ i. eqb (word p i) 0) _ _ c.all.result c.all.ensures.ran
    (YieldsList-from_range c.args.from c.args.to (c.args.to - c.args.from) refl refl) (λ x b q k. search (rules, tests))
    ∙ zeros_at_each (words p) c.args.from (c.args.to - c.args.from) (λ k h. omega arith)
