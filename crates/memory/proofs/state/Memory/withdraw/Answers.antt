use Rattle.std.proofs.Common.{Some, ◌∙◌, arith}
use Rattle.std.proofs.lemmas.List.{length-set}
use Rattle.memory.proofs.StateLaws.{used_one_more}
use Rattle.memory.proofs.state.Memory.withdraw.Goals as goal

pub invariant_of-self-2 : goal.invariant_of-self-2
invariant_of-self-2 c =
    let m = c.self.inside in
    let i = c.self.invariant in
    let u = used_one_more m.tickets c.in-Some.ticket (Some c.in-Some-pop_at.address) in
    record { few = omega (arith, c.in-Some-pop_at.ensures.len, u, i.few); three = i.three; four = length-set m.tickets c.in-Some.ticket _ ∙ i.four; eight = i.eight; settled = i.settled; limited = i.limited; numbered = i.numbered }
