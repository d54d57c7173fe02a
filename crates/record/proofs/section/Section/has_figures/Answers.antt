use Rattle.std.proofs.Common.{◌≡◌, ◌+◌, ◌*◌, eqb, drop, refl, ap, ◌∙◌, arith}
use Rattle.record.specs.Words.{word, words}
use Rattle.record.specs.Sections.{free_count}
use Rattle.record.proofs.CountLaws.{free_le}
use Rattle.record.proofs.SectionLaws.{halves_tell, both_right}
use Rattle.record.proofs.section.Section.has_figures.Goals as goal

pub returns-then-eq : goal.returns-then-eq
returns-then-eq c =
    let s = c.args.span.now in
    let p = c.args.page.now in
    let free = free_count (drop 4 (words p)) in
    let n : c.count.result ≡ free = c.count.ensures ∙ ap free_count c.requires in
    let le = free_le (drop 4 (words p)) in
    let a = halves_tell _ (word p 2) s.first 124 124 _ _ c.get_word.ensures refl (omega arith) c.halves.ensures c.eq.ensures in
    let b = halves_tell _ (word p 3) s.covered _ free _ _ c.get_word-then-eq.ensures n (omega arith) c.halves-then-eq.ensures c.eq-then-eq.ensures in
    both_right (eqb (word p 2) (s.first * 65536 + 124)) (eqb (word p 3) (s.covered * 65536 + free)) _ _ a b c.if-eq.true
