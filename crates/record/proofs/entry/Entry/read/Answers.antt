use Rattle.std.proofs.Common.{[], get_or, sym, ◌∙◌, ap₂, rules, arith}
use Rattle.std.proofs.lemmas.List.{ext_get_or}
use borrow.Author.Tests.{tests}
use Rattle.record.specs.declared.entry.Entry.{Entry}
use Rattle.record.proofs.WordLaws.{made_each}
use Rattle.record.proofs.EntryLaws.{two, get_or_slots, length_part, length_slots}
use Rattle.record.proofs.entry.Entry.read.Goals as goal

pub returns : goal.returns
returns c =
    let p = c.args.page.now in
    let made = c.from_fn.ensures.items in
    let qs = c.as_chunks.result.0.now in
    let n = length_slots p c.told-page in
    let q = length_part p c.told-page in
    let m = c.as_chunks.ensures.front_len in
    let e = made_each _ _ (λ k. two (get_or qs k [])) c.from_fn.result 64 made (λ i y q k. search (rules, tests)) in
    ap₂ {C = Entry} (λ m s. record { meter = m; slots = s }) c.get_word.ensures
    (ext_get_or 0 c.from_fn.result _ (made.long ∙ sym n) (λ k h. e k (omega arith) ∙ sym (get_or_slots p qs k c.told-page c.fits-page c.as_chunks.ensures.front (omega arith))))
