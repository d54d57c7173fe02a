use Rattle.std.proofs.Common.{◌≡◌, get_or, drop, sym, ◌∙◌, arith}
use Rattle.std.proofs.lemmas.List.{at_drop_all}
use Rattle.record.specs.Words.{words}
use Rattle.record.specs.Control.{sum_from, rotated}
use Rattle.record.proofs.WordLaws.{length_words}
use Rattle.record.proofs.ControlLaws.{walk_adds, walk_skips, get_or_quads}
use Rattle.record.proofs.control.check_word.Goals as goal
use Rattle.record.proofs.control.check_word.Goals.{then-i-ne-CHECK, else-i-ne-CHECK}

pub loop-i-preserved : goal.loop-i-preserved
loop-i-preserved c =
    let ws = words c.args.page.now in
    let i = c.loop-i.i in
    let q = get_or_quads c.args.page.now c.as_chunks.result.0.now i c.as_chunks.ensures.front c.loop-i-test.true in
    elim c.if-i-ne-CHECK.branch [
      | then-i-ne-CHECK w ↦
          let r : w.rotate_left.result ≡ rotated c.loop-i.sum = w.rotate_left.ensures in
          let h : w.from_be_bytes.result ≡ get_or ws i 0 = w.from_be_bytes.ensures ∙ sym q.1 in
          walk_adds ws i c.loop-i.sum _ q.0 w.if-i-ne-CHECK.true (rw (← r, ← h) w.sum-is) ∙ c.loop-i.invariant
      | else-i-ne-CHECK w ↦ walk_skips ws i c.loop-i.sum _ q.0 w.if-i-ne-CHECK.false w.sum-is ∙ c.loop-i.invariant
    ]

pub returns : goal.returns
returns c =
    let p = c.args.page.now in
    let i = c.loop-i.i in
    let n = length_words p in
    let m = c.as_chunks.ensures.front_len in
    let e : sum_from i c.loop-i.sum (drop i (words p)) ≡ c.loop-i.sum = at_drop_all (sum_from i c.loop-i.sum) (words p) i (omega arith) in
    sym e ∙ c.loop-i.invariant
