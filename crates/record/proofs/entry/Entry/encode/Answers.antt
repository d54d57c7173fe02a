use Rattle.std.proofs.Common.{◌≡◌, ℕ, ◌^◌, ◌<◌, length, get_or, sym, ap, ◌∙◌, subst, arith, rules}
use Rattle.std.proofs.lemmas.List.Edits.{paste_none}
use Rattle.std.proofs.ByRecursion.{All-more}
use Rattle.std.proofs.lemmas.List.{take_all}
use Rattle.record.specs.Words.{unwords}
use Rattle.record.specs.Entries.{pack, entry_body, entry_record}
use Rattle.record.proofs.ControlLaws.{Fit, sealed_control}
use Rattle.record.proofs.EntryLaws.{head_words, head_start, slots_more, slots_all, length_head, get_or_pack, length_pack, entry_body_fits}
use Rattle.record.proofs.entry.Entry.encode.Goals as goal

pub loop-k-init : goal.loop-k-init
loop-k-init c =
    let h = head_words c.args.id c.args.self.now.meter in
    let e = head_start _ _ _ _ _ c.clear.ensures c.put_word.ensures c.put_word-2.ensures in
    (e ∙ ap unwords (paste_none h 8 (pack c.args.self.now.slots)), tt)

pub loop-k-preserved : goal.loop-k-preserved
loop-k-preserved c =
    let hs = c.args.self.now.slots in
    let k = c.loop-k.k in
    let n = length_pack hs in
    let m = c.as_chunks.ensures.front_len in
    let b = length_head c.args.id c.args.self.now.meter in
    let lt : k < length (pack hs) = omega arith in
    let e = get_or_pack hs c.as_chunks.result.0.now k c.as_chunks.ensures.front c.loop-k-test.true in
    let w : c.joined.result ≡ get_or (pack hs) k 0 = c.joined.ensures ∙ sym e in
    let fit : get_or (pack hs) k 0 < 2 ^ 32 = subst (λ (x : ℕ). x < 2 ^ 32) w (search rules) in
    let written = slots_more (head_words c.args.id c.args.self.now.meter) (pack hs) _ _ k _ c.loop-k.invariant.0 c.put_word-in-loop-k.ensures w lt (omega arith) in
    (written, All-more (λ x. x < 2 ^ 32) (pack hs) k 0 lt c.loop-k.invariant.1 fit)

pub returns : goal.returns
unfolding entry_record
returns c =
    let e = c.args.self.now in
    let l : length e.slots ≡ 64 = omega arith in
    let n = length_pack e.slots in
    let m = c.as_chunks.ensures.front_len in
    let k : c.loop-k.k ≡ 32 = omega arith in
    let fit : Fit (pack e.slots) = subst Fit (take_all c.loop-k.k (pack e.slots) (omega arith)) c.loop-k.invariant.1 in
    sealed_control _ _ c.args.start c.args.id (entry_body e) (search rules) (search rules) (entry_body_fits e (search rules) fit)
    (rw k at c.loop-k.invariant.0 ∙ ap unwords (slots_all c.args.id e l)) c.seal.ensures
