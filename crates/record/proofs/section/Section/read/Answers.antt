use Rattle.std.proofs.Common.{◌+◌, rules}
use borrow.Author.Tests.{tests}
use Rattle.record.specs.Words.{word}
use Rattle.record.proofs.WordLaws.{made_each}
use Rattle.record.proofs.SectionLaws.{words_read}
use Rattle.record.proofs.section.Section.read.Goals as goal

pub returns : goal.returns
returns c =
    let p = c.args.page.now in
    let made = c.from_fn.ensures.items in
    words_read p c.from_fn.result c.told-page made.long
    (made_each _ _ (λ j. word p (4 + j)) c.from_fn.result 124 made (λ i y q k. search (rules, tests)))
