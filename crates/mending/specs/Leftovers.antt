-- What a section of the map has to show after a tally.
use Rattle.std.specs.Prelude.{ℕ, ◌+◌, Bool, not, ◌&&◌, List}
use Rattle.record.specs.declared.region.Region.{Region}
use Rattle.record.specs.declared.region.Span.{Span}
use Rattle.record.specs.Regions.{within}
use Rattle.record.specs.Sections.{bits_of}
use Rattle.mending.specs.Tallies.{noted}

-- an address of the region that is not noted
abbrev pub left_over : Region → List ℕ → ℕ → Bool
left_over g tally a = within g a && not (noted tally a)

-- the bits of what a section covers, with exactly those free that are left over
abbrev pub left_over_bits : Span → List ℕ → List ℕ
left_over_bits s tally = bits_of (λ r. left_over s.free tally (s.first + r))
