use Rattle.std.proofs.Common.{◌≡◌, ◌≤◌, take}
use Rattle.surveys.specs.Surveys.{addresses_in}
use Rattle.surveys.proofs.survey.count_addresses.Given as goal

-- the slots before this one are counted
abbrev pub invariant-loop-a : goal.invariant-loop-a
invariant-loop-a l = (l.count ≡ addresses_in (take l.a-index l.slots)) × (l.count ≤ l.a-index)
