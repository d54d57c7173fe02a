use Rattle.std.proofs.Common.{◌+◌, []}
use Rattle.std.specs.Option.{option_copied, unwrap_or}
use Rattle.drive.specs.Meaning.{shown}
use Rattle.mending.proofs.UnmendedLaws.{form_told}
use Rattle.mending.proofs.entries.unmended_form.Goals as goal

pub returns-then-shows : goal.returns-then-shows
returns-then-shows g c =
    let told = form_told c.args.records.now.label _ (shown (g.D.Drive.meaning c.args.records.now.drive.now) (8 + c.args.i)) c.args.tally.now _ _ (unwrap_or (option_copied c.read_shown-shown.result) []) _ _ _
    c.region.ensures c.read_shown-shown.ensures c.whole_entry.ensures (c.mended_form-form.ensures.form, c.mended_form-form.ensures.tally) c.encode.ensures c.if-shows.ensures in
    record { form = λ kept T. (told kept T).0; tally = λ kept T. (told kept T).1 }

pub returns : goal.returns
returns g c =
    let told = form_told c.args.records.now.label _ (shown (g.D.Drive.meaning c.args.records.now.drive.now) (8 + c.args.i)) c.args.tally.now _ _ (unwrap_or (option_copied c.read_shown-shown.result) []) _ _ _
    c.region.ensures c.read_shown-shown.ensures c.whole_entry.ensures (c.mended_form-form.ensures.form, c.mended_form-form.ensures.tally) c.encode.ensures c.if-shows.ensures in
    record { form = λ kept T. (told kept T).0; tally = λ kept T. (told kept T).1 }
