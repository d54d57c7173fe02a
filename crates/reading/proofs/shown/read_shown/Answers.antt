use Rattle.std.proofs.Common.{cond, [], sym, ap, ◌∙◌, arith}
use Rattle.std.specs.Option.{option_copied, unwrap_or}
use Rattle.reading.proofs.ReadLaws.{bytes_read}
use Rattle.reading.proofs.shown.read_shown.Goals as goal

pub returns-in_err-ok : goal.returns-in_err-ok
returns-in_err-ok g c =
    let m = g.D.Drive.meaning c.args.drive.now in
    bytes_read m c.args.at c.read.result c.args.page.now c.read.new.page (g.D.Drive.formed c.args.drive.now) (omega arith) c.read.ensures.answer c.read.ensures.filled
    ∙ (ap (λ b. cond b c.read.new.page []) (sym c.in_err-ok.ensures.variant)
    ∙ ap (λ o. unwrap_or (option_copied o) []) (sym c.from_residual.ensures))
