use Rattle.std.proofs.Common.{◌≡◌, ℕ, true, ◌||◌, drop}
use Rattle.record.specs.Regions.{within}
use Rattle.record.specs.Entries.{among}
use Rattle.mending.specs.Tallies.{noted}
use Rattle.mending.proofs.tally.note_slots.Given as goal

-- the addresses that are left make up what is to be noted
abbrev pub invariant-loop-a : goal.invariant-loop-a
invariant-loop-a l =
    (a : ℕ) → within l.region a ≡ true → (among a (drop l.a-index l.slots) || noted l.tally a) ≡ (among a l.slots || noted l.initial.tally a)
