use Rattle.std.proofs.Common.{◌≡◌, ◌+◌, ◌*◌, ◌^◌, ◌<◌, length, get_or, refl, ap, ◌∙◌, arith, rules}
use Rattle.std.proofs.ByRecursion.{All-more}
use Rattle.record.proofs.CountLaws.{free_le}
use Rattle.record.proofs.SectionLaws.{laid_none, laid_more, laid_all}
use Rattle.record.proofs.section.Section.encode.Goals as goal

pub overflow_cast-count : goal.overflow_cast-count
overflow_cast-count c = let n = c.count.ensures in let le = free_le c.args.self.now.bits in omega arith

pub loop-k-init : goal.loop-k-init
loop-k-init c =
    let s = c.args.span.now in
    let bits = c.args.self.now.bits in
    let b = c.joined-2.ensures ∙ ap (λ x. s.covered * 65536 + x) c.count.ensures in
    (laid_none c.args.id _ _ _ _ _ _ _ _ bits c.clear.ensures c.put_word.ensures c.put_word-2.ensures c.put_word-3.ensures c.joined.ensures b, tt)

pub loop-k-preserved : goal.loop-k-preserved
loop-k-preserved c =
    let bits = c.args.self.now.bits in
    let k = c.loop-k.k in
    let l : length bits ≡ 124 = omega arith in
    let h : k < 124 = omega arith in
    let fit : get_or bits k 0 < 2 ^ 32 = search rules in
    (c.put_word-in-loop-k.ensures ∙ laid_more c.loop-k.page _ _ _ k bits l h c.loop-k.invariant.0, All-more (λ w. w < 2 ^ 32) bits k 0 (omega arith) c.loop-k.invariant.1 fit)

pub returns : goal.returns
returns c =
    let l : length c.args.self.now.bits ≡ 124 = omega arith in
    laid_all c.loop-k.page c.seal.new.page c.args.start c.args.id _ _ c.loop-k.k c.args.span.now c.args.self.now.bits
    (omega arith) (omega arith) c.requires.first c.requires.covered refl refl (omega arith) l c.loop-k.invariant.1 c.loop-k.invariant.0 c.seal.ensures
