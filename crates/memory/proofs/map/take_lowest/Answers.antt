use Rattle.std.proofs.Common.{◌≡◌, ◌+◌, ◌-◌, ◌*◌, [], ◌∷◌, length, take, ap, ◌∙◌, arith}
use Rattle.std.proofs.lemmas.List.{append_assoc, append-nil}
use Rattle.record.specs.Sections.{marked}
use Rattle.model.specs.Stock.{free_from, all_marked}
use Rattle.memory.proofs.MapLaws.{lowest_inside, next_taken, none_left}
use Rattle.memory.proofs.map.take_lowest.Goals as goal

pub overflow_add-first : goal.overflow_add-first
overflow_add-first g c =
    let h = lowest_inside c.loop-section.section.bits c.loop-section.from c.in-Some.r c.loop-section.invariant.0 c.in-Some.ensures in
    omega (arith, c.from.ensures)

pub overflow_cast-first-in-loop-section : goal.overflow_cast-first-in-loop-section
overflow_cast-first-in-loop-section g c =
    let h = lowest_inside c.loop-section.section.bits c.loop-section.from c.in-Some.r c.loop-section.invariant.0 c.in-Some.ensures in
    omega (arith, c.from.ensures)

pub overflow_add-from : goal.overflow_add-from
overflow_add-from g c =
    let h = lowest_inside c.loop-section.section.bits c.loop-section.from c.in-Some.r c.loop-section.invariant.0 c.in-Some.ensures in
    omega arith

pub loop-section-preserved : goal.loop-section-preserved
loop-section-preserved g c =
    let bits = c.loop-section.section.bits in
    let k = c.args.k in
    let first = 3968 * k in
    let s = c.loop-section.from in
    let r = c.in-Some.r in
    let F = c.loop-section.taken.items in
    let m = c.args.most - length F in
    let more = c.loop-section-test.true in
    let len = c.len.ensures.value in
    let e = c.in-Some.ensures in
    let h = lowest_inside bits s r c.loop-section.invariant.0 e in
    let X = take (m - 1) (free_from (marked bits r 0) first (r + 1) (3968 - (r + 1))) in
    let q = next_taken bits first s m r c.loop-section.invariant.0 (omega arith) e in
    let m' : c.args.most - length c.push.new.self.items ≡ m - 1 = omega (arith, c.push.ensures.len) in
    let after = c.push.ensures.items in
    let a : 3968 * c.from.result + r ≡ first + r = omega (arith, c.from.ensures) in
    let assoc = append_assoc F ((first + r) ∷ []) X in
    let d : first + r - first ≡ r = omega arith in
    let t : all_marked k 0 (take m (free_from bits first s (3968 - s))) bits ≡ all_marked k 0 X (marked bits r 0) =
    ap (λ l. all_marked k 0 l bits) q ∙ ap (λ n. all_marked k 0 X (marked bits n 0)) d in
    let taken = c.take.ensures in
    let v2 = c.loop-section.invariant.2 in
    let v3 = c.loop-section.invariant.3 in
    (omega arith, omega (arith, c.push.ensures.len), cc, cc)

pub returns-in_default : goal.returns-in_default
returns-in_default g c =
    let bits = c.loop-section.section.bits in
    let k = c.args.k in
    let F = c.loop-section.taken.items in
    let none = none_left bits (3968 * k) c.loop-section.from (c.args.most - length F) c.in_default.ensures in
    let nil = append-nil F in
    let same = ap (λ l. all_marked k 0 l bits) none in
    let v2 = c.loop-section.invariant.2 in
    let v3 = c.loop-section.invariant.3 in
    record { taken = cc; left = cc; len = omega arith }
