use Rattle.std.proofs.Common.{rules}
use Rattle.memory.proofs.StateLaws.{used_no_more}
use Rattle.memory.proofs.state.Memory.free_ticket.Goals as goal

pub invariant-of-self : goal.invariant-of-self
invariant-of-self c = search (rules, used_no_more)
