use Rattle.std.proofs.Common.{◌≡◌, drop}
use Rattle.model.specs.Stock.{all_marked}
use Rattle.memory.proofs.map.give_back.Given as goal

abbrev pub invariant-loop-a : goal.invariant-loop-a
invariant-loop-a l = all_marked l.k 1 (drop l.a-index l.given) l.section.bits ≡ all_marked l.k 1 l.given l.initial.section.bits
