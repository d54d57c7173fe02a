use Rattle.std.proofs.Common.{◌≡◌, ◌+◌, ◌-◌, ◌++◌, length, drop}
use Rattle.model.specs.Stock.{given as given_of, staying}
use Rattle.memory.proofs.numbers.part.Given as goal

abbrev pub invariant-loop-a : goal.invariant-loop-a
invariant-loop-a g l =
    (length l.given.items + length l.staying.items ≡ l.a-index)
    × (l.given.items ++ given_of l.k (l.most - length l.given.items) (drop l.a-index l.numbers) ≡ given_of l.k l.most l.numbers)
    × (l.staying.items ++ staying l.k (l.most - length l.given.items) (drop l.a-index l.numbers) ≡ staying l.k l.most l.numbers)
