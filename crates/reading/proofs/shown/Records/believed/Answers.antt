use Rattle.std.proofs.Common.{sym, ◌∙◌}
use Rattle.reading.proofs.BelievedLaws.{label_sized, few_entries}
use Rattle.reading.proofs.shown.Records.believed.Goals as goal

pub invariant_of-result : goal.invariant_of-result
invariant_of-result g c =
    let m = g.D.Drive.meaning c.args.drive.now in
    let l = c.in_ok-label.label in
    let shown = sym c.believed_label.ensures ∙ c.in_ok-label.ensures.ok_part in
    record { few = few_entries m l shown; sized = (label_sized m l shown).0 }
