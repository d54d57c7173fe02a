use Rattle.std.proofs.Common.{◌≡◌, ◌+◌, ◌-◌, false, eqb, ◌⊎◌, length, get_or, drop, sym, ap, ◌∙◌, inl, inr, arith}
use Rattle.std.proofs.lemmas.List.{drop_more}
use Rattle.model.specs.Stock.{cover}
use Rattle.arrayvec.specs.ArrayVec.{array_vec_len}
use Rattle.memory.proofs.NumberLaws.{given_in, given_out, stay_in, stay_out}
use Rattle.memory.proofs.numbers.part.Goals as goal
use Rattle.memory.proofs.numbers.part.Goals.{then-len-most+then-is_covered, else-len-most, else-len-most-via-then-len-most+else-is_covered, else-len-most-via-else-len-most}

pub loop-a-preserved : goal.loop-a-preserved
loop-a-preserved g c =
    let xs = c.args.numbers.now in
    let i = c.loop-a.a-index in
    let k = c.args.k in
    let a = get_or xs i 0 in
    let rest = drop (i + 1) xs in
    let F = c.loop-a.given.items in
    let K = c.loop-a.staying.items in
    let n = c.args.most - length F in
    let D = drop_more xs i 0 c.loop-a-test.true in
    let v0 = c.loop-a.invariant.0 in
    let v1 = c.loop-a.invariant.1 in
    let v2 = c.loop-a.invariant.2 in
    elim c.if-len-most.branch [
      | then-len-most+then-is_covered w ↦
          let more = w.if-len-most.true in
          let t = sym w.is_covered.ensures ∙ w.if-is_covered.true in
          let e = w.push.ensures.items in
          let s = ap array_vec_len w.given-is in
          let o = ap array_vec_len w.staying-is in
          let m : c.args.most - length (c.if-len-most.given.items) ≡ n - 1 = omega (arith, w.push.ensures.len, c.len.ensures.value) in
          let p = given_in k n a F rest (omega (arith, c.len.ensures.value)) t in
          let q = stay_in k n a K rest (omega (arith, c.len.ensures.value)) t in
          (omega (arith, w.push.ensures.len), cc, cc)
      | else-len-most w ↦
          let t : (n ≡ 0) ⊎ (eqb (cover a) k ≡ false) =
          elim w.else-len-most.branch [
            | else-len-most-via-then-len-most+else-is_covered v ↦ inr (sym v.is_covered.ensures ∙ v.if-is_covered.false)
            | else-len-most-via-else-len-most v ↦ inl (omega (arith, v.if-len-most.false, c.len.ensures.value))
          ] in
          let e = w.push-else-len-most.ensures.items in
          let s = ap array_vec_len w.given-is in
          let o = ap array_vec_len w.staying-is in
          let m : c.args.most - length (c.if-len-most.given.items) ≡ n = omega arith in
          let p = given_out k n a F rest t in
          let q = stay_out k n a K rest t in
          (omega (arith, w.push-else-len-most.ensures.len), cc, cc)
    ]
