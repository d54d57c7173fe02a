-- Where a volume's records lie, and the bytes of its control records.
use Rattle.std.specs.Prelude.{ℕ, ◌+◌, List}
use Rattle.record.specs.declared.label.Label.{Label}
use Rattle.record.specs.declared.entry.Entry.{Entry}
use Rattle.record.specs.Regions.{map_span}
use Rattle.record.specs.Labels.{label_record}
use Rattle.record.specs.Sections.{section_record}
use Rattle.record.specs.Entries.{entry_record}

-- the number that every check sum starts at
abbrev pub sum_start : ℕ
sum_start = 0

-- the record of entry i
abbrev pub entry_at : ℕ → ℕ
entry_at i = 8 + i

-- the record of map section k
abbrev pub section_at : ℕ → ℕ
section_at k = 1 + k

-- the record of the label, and of its copy
abbrev pub label_at : ℕ
label_at = 0

abbrev pub copy_at : ℕ
copy_at = 7

abbrev pub label_bytes : Label → List ℕ
label_bytes l = label_record sum_start l

-- section k of a volume of e entries and t records, with these bits on
abbrev pub section_bytes : ℕ → ℕ → ℕ → ℕ → List ℕ → List ℕ
section_bytes id e t k bits = section_record sum_start id (map_span k e t) bits

abbrev pub entry_bytes : ℕ → Entry → List ℕ
entry_bytes id x = entry_record sum_start id x
