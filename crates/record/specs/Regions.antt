-- The limits of a volume, its page region, and what a map section covers.
use Rattle.std.specs.Prelude.{ℕ, ◌+◌, ◌-◌, ◌*◌, min, Bool, not, ◌&&◌, ◌==◌, nat_le, nat_lt}
use Rattle.record.specs.declared.region.Region.{Region}
use Rattle.record.specs.declared.region.Span.{Span}

-- the id, the number of entries and the number of records that a volume may have
abbrev pub in_limits : ℕ → ℕ → ℕ → Bool
in_limits id e t = not (id == 0) && (nat_le 1 e && (nat_le e 3968 && (nat_le (e + 9) t && nat_le t 11904)))

-- n is one of the numbers of a region
abbrev pub within : Region → ℕ → Bool
within g n = nat_le g.from n && nat_lt n g.to

-- the records of a volume of e entries and t records that hold pages
abbrev pub page_region : ℕ → ℕ → Region
page_region e t = record { from = 8 + e; to = t }

-- the first number that section k covers
abbrev pub first_of : ℕ → ℕ
first_of k = 3968 * k

-- what section k of such a volume's map covers
abbrev pub map_span : ℕ → ℕ → ℕ → Span
map_span k e t = record { first = first_of k; covered = min 3968 (t - first_of k); free = page_region e t }
