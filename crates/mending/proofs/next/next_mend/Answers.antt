use Rattle.std.proofs.Common.{◌<◌, [], sym, arith, rules}
use Rattle.drive.specs.Meaning.{shown}
use Rattle.record.specs.Regions.{page_region}
use Rattle.model.specs.Mending.{Unmended}
use Rattle.model.proofs.SalvageCalls.{unmended_is}
use Rattle.reading.proofs.BelievedLaws.{label_sized, few_entries}
use Rattle.mending.proofs.InexactLaws.{section_exact}
use Rattle.mending.proofs.NextLaws.{next_section}
use Rattle.mending.proofs.next.next_mend.Goals as goal

pub overflow_add-result : goal.overflow_add-result
overflow_add-result g c =
    let m = g.D.Drive.meaning c.args.records.now.drive.now in
    let l = c.args.records.now.label in
    let u : Unmended = record { number = c.in-Some.unmended.number; form = c.in-Some.unmended.form } in
    let below = (unmended_is l.id (page_region l.entries l.records) (shown m) [] 0 l.entries u (sym c.in-Some.ensures)).0 in
    let small : u.number < 3968 = omega (arith, few_entries m l c.requires.believed) in search rules

pub returns-in-Some-first_inexact : goal.returns-in-Some-first_inexact
returns-in-Some-first_inexact g c =
    let m = g.D.Drive.meaning c.args.records.now.drive.now in
    let l = c.args.records.now.label in
    let k = c.in-Some-first_inexact.k in
    let form = section_exact l (shown m) c.tally_named.new.tally k _ c.tally_named.ensures c.encode_exact.ensures in
    next_section m l (label_sized m l c.requires.believed).0 c.if-not-has_begun.ensures k _ _ c.from.ensures c.in_default.ensures c.in-Some-first_inexact.ensures form
