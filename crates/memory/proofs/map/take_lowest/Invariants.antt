use Rattle.std.proofs.Common.{◌≡◌, ℕ, ◌-◌, ◌≤◌, List, ◌++◌, length, take}
use Rattle.record.specs.Regions.{first_of}
use Rattle.model.specs.Stock.{free_from, lowest, all_marked}
use Rattle.memory.proofs.map.take_lowest.Given as goal

-- what is still to be taken
abbrev pub to_take : List ℕ → ℕ → ℕ → ℕ → List ℕ
to_take bits k from m = take m (free_from bits (first_of k) from (3968 - from))

abbrev pub invariant-loop-section : goal.invariant-loop-section
invariant-loop-section g l =
    (l.from ≤ 3968)
    × (length l.taken.items ≤ l.most)
    × (l.taken.items ++ to_take l.section.bits l.k l.from (l.most - length l.taken.items) ≡ lowest l.initial.section.bits l.k l.most)
    × (all_marked l.k 0 (to_take l.section.bits l.k l.from (l.most - length l.taken.items)) l.section.bits ≡ all_marked l.k 0 (lowest l.initial.section.bits l.k l.most) l.initial.section.bits)

abbrev pub decreases-loop-section : goal.decreases-loop-section
decreases-loop-section g l = l.most - length l.taken.items
