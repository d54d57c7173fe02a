use Rattle.std.proofs.Common.{sym, ◌∙◌, arith}
use Rattle.record.proofs.LabelLaws.{laid_fits}
use Rattle.record.proofs.label.Label.decode.Goals as goal

pub overflow_cast-result : goal.overflow_cast-result
overflow_cast-result c =
    let fit = laid_fits c.args.size c.in_ok-page.page.now (sym c.is_laid_out.ensures ∙ c.if-not-is_laid_out.false) in omega (arith, fit.0)

pub overflow_cast-result-2 : goal.overflow_cast-result-2
overflow_cast-result-2 c =
    let fit = laid_fits c.args.size c.in_ok-page.page.now (sym c.is_laid_out.ensures ∙ c.if-not-is_laid_out.false) in omega (arith, fit.1)
