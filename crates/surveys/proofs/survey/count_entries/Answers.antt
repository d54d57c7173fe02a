use Rattle.std.proofs.Common.{◌+◌, cond, Some, None, ap, ◌∙◌, arith}
use Rattle.surveys.proofs.SurveyLaws.{counted_more, byte_is}
use Rattle.surveys.proofs.survey.count_entries.Goals as goal

pub loop-i-preserved : goal.loop-i-preserved
loop-i-preserved g c =
    let n = c.loop-i.counts in
    let pages = c.count_addresses.ensures in
    let is_one = c.from.ensures ∙ (byte_is c.is_free.result ∙ ap (λ b. cond b 1 0) c.is_free.ensures) in
    counted_more _ _ n.free n.sound n.named c.loop-i.i (Some c.in-Some.entry) _ _ _ c.in-Some.ensures c.loop-i.invariant (ap (λ k. n.free + k) is_one) (omega arith) (ap (λ k. n.named + k) pages.value) (omega (arith, pages.value, pages.bound))

pub loop-i-preserved-in_default : goal.loop-i-preserved-in_default
loop-i-preserved-in_default g c =
    let n = c.loop-i.counts in
    counted_more _ _ n.free n.sound n.named c.loop-i.i None _ _ _ c.in_default.ensures c.loop-i.invariant (omega arith) (omega arith) (omega arith) (omega arith)
