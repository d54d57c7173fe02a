use Rattle.std.proofs.Common.{◌≡◌, length, rules, refl, ◌∙◌, arith}
use Rattle.std.proofs.lemmas.Iterator.{YieldsList-from_slice}
use Rattle.std.proofs.lemmas.Iterator.Consumers.{YieldsList-from_enumerate}
use Rattle.std.proofs.lemmas.Iterator.Search.{all_from_yields_List}
use borrow.Author.Tests.{tests}
use Rattle.record.proofs.AddressLaws.{stands_in, sound_at_each}
use Rattle.record.proofs.entry.Entry.has_sound_addresses.Goals as goal

pub returns : goal.returns
returns c =
    let s = c.args.self.now.slots in
    let m = c.args.self.now.meter in
    let g = c.args.region.now in
    let l : length s ≡ 64 = omega arith in
    all_from_yields_List (stands_in m g s) _ _ c.all.result c.all.ensures.ran
    (YieldsList-from_enumerate (YieldsList-from_slice s (cc)) (cc)) (λ x b q k. search (rules, tests))
    ∙ sound_at_each m g s l s 0 refl
