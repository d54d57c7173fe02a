use Rattle.std.proofs.Common.{◌+◌, ◌*◌, ◌^◌, ◌<◌, get_or, sym, ap, ◌∙◌, arith, rules}
use lib.Count.{ones, ones-le}
use Rattle.record.specs.Sections.{bit}
use Rattle.record.proofs.CountLaws.{count_word, count_le, free_is}
use Rattle.record.proofs.section.Section.count.Goals as goal

pub overflow_add-n : goal.overflow_add-n
overflow_add-n c =
    let bits = c.args.self.now.bits in
    let i = c.loop-w.w-index in
    let fit : get_or bits i 0 < 2 ^ 32 = search rules in
    let b = ones-le 32 (get_or bits i 0) fit in
    let inv = c.loop-w.invariant in omega (arith, count_le (bit bits) 0 (32 * i))

pub loop-w-preserved : goal.loop-w-preserved
loop-w-preserved c =
    let bits = c.args.self.now.bits in
    let i = c.loop-w.w-index in
    let fit : get_or bits i 0 < 2 ^ 32 = search rules in
    ap (λ x. x + ones (get_or bits i 0)) c.loop-w.invariant ∙ sym (count_word bits i fit)

pub returns : goal.returns
returns c = c.loop-w.invariant ∙ free_is c.args.self.now.bits (32 * c.loop-w.w-index) (omega arith)
