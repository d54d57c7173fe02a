use Rattle.std.proofs.Common.{[], arith}
use Rattle.std.specs.Option.{option_copied, unwrap_or}
use Rattle.drive.specs.Meaning.{shown}
use Rattle.mending.proofs.InexactLaws.{section_exact, section_told, inexact_more, inexact_found}
use Rattle.mending.proofs.sections.first_inexact.Goals as goal

pub returns-then-not-shows : goal.returns-then-not-shows
returns-then-not-shows g c =
    let l = c.args.records.now.label in
    let s = shown (g.D.Drive.meaning c.args.records.now.drive.now) in
    let k = c.loop-k.k in
    let form = section_exact l s c.args.tally.now k _ c.requires.named c.encode_exact.ensures in
    let told = section_told l s k _ _ (unwrap_or (option_copied c.read_shown.result) []) _ c.from.ensures c.read_shown.ensures form c.if-not-shows.ensures in
    inexact_found l s k (omega arith) told c.loop-k.invariant

pub loop-k-preserved : goal.loop-k-preserved
loop-k-preserved g c =
    let l = c.args.records.now.label in
    let s = shown (g.D.Drive.meaning c.args.records.now.drive.now) in
    let k = c.loop-k.k in
    let form = section_exact l s c.args.tally.now k _ c.requires.named c.encode_exact.ensures in
    let told = section_told l s k _ _ (unwrap_or (option_copied c.read_shown.result) []) _ c.from.ensures c.read_shown.ensures form c.if-not-shows.ensures in
    inexact_more l s k (omega arith) told c.loop-k.invariant
