-- The tally of a salvage: a byte for each record, which is not 0 where the record's address is noted.
use Rattle.std.specs.Prelude.{◌≡◌, ℕ, Bool, true, not, ◌||◌, List, ◌==◌, slice_index}
use Rattle.record.specs.declared.region.Region.{Region}
use Rattle.record.specs.Regions.{within}
use Rattle.record.specs.Entries.{among}

abbrev pub noted : List ℕ → ℕ → Bool
noted tally a = not (slice_index tally a == 0)

-- of the region's addresses, just those are noted that stand among these
abbrev pub Tallies : Region → List ℕ → List ℕ → Type 0
Tallies g tally as' = (a : ℕ) → within g a ≡ true → noted tally a ≡ among a as'

-- these are noted now, beside those that were noted before
abbrev pub Adds : Region → List ℕ → List ℕ → List ℕ → Type 0
Adds g as' before after = (a : ℕ) → within g a ≡ true → noted after a ≡ (among a as' || noted before a)
