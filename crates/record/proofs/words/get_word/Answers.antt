use Rattle.std.proofs.Common.{sym, ◌∙◌, arith}
use Rattle.record.proofs.ControlLaws.{get_or_quads}
use Rattle.record.proofs.words.get_word.Goals as goal

pub returns : goal.returns
returns c =
    let m = c.as_chunks.ensures.front_len in
    let q = get_or_quads c.args.page.now c.as_chunks.result.0.now c.args.i c.as_chunks.ensures.front (omega arith) in c.from_be_bytes.ensures ∙ sym q.1
