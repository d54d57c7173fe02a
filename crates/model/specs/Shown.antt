-- What a volume's control records show.
use Rattle.std.specs.Prelude.{ℕ, List, [], Some, None, Option}
use Rattle.drive.specs.Meaning.{State, readable, spoiled, Meaning, size, shown}
use Rattle.record.specs.declared.label.Label.{Label}
use Rattle.record.specs.declared.label.LabelState.{LabelState}
use Rattle.record.specs.declared.label.LabelState.TheVariants.{InUse}
use Rattle.record.specs.declared.section.Section.{Section}
use Rattle.record.specs.declared.entry.Entry.{Entry}
use Rattle.record.specs.Regions.{page_region, map_span}
use Rattle.record.specs.Labels.{believed_label}
use Rattle.record.specs.Sections.{none_free, sound_section}
use Rattle.record.specs.Entries.{whole_entry, sound_entry}
use Rattle.model.specs.Volume.{sum_start, entry_at, section_at, label_at, copy_at}

-- the bytes of a state; a spoiled record has none, and so is never whole
abbrev pub bytes_in : State → List ℕ
bytes_in (readable bs) = bs
bytes_in spoiled = []

-- a label with another state and another trouble count
abbrev pub with_state : Label → LabelState → ℕ → Label
with_state l s n = record { id = l.id; records = l.records; entries = l.entries; state = s; trouble = n }

-- the copy's label, whose state counts as in use
abbrev pub counted_in_use : Option Label → Option Label
counted_in_use None = None
counted_in_use (Some l) = Some (with_state l InUse l.trouble)

abbrev pub or_else : Option Label → Option Label → Option Label
or_else None o = o
or_else (Some l) o = Some l

-- the label that a record of a drive of t records is believed to be
abbrev pub label_in_state : ℕ → State → Option Label
label_in_state t s = believed_label sum_start t (bytes_in s)

-- the label of what two records hold: the first, or else its copy
abbrev pub label_of : ℕ → State → State → Option Label
label_of t s copy = or_else (label_in_state t s) (counted_in_use (label_in_state t copy))

abbrev pub label_shown : Meaning → Option Label
label_shown m = label_of (size m) (shown m label_at) (shown m copy_at)

-- the bits of a section; an unsound one holds none free
abbrev pub bits_or_none : Option Section → List ℕ
bits_or_none None = none_free
bits_or_none (Some x) = x.bits

-- section k as a record of a volume of e entries and t records holds it
abbrev pub section_in_state : ℕ → ℕ → ℕ → ℕ → State → Option Section
section_in_state id e t k s = sound_section sum_start id (map_span k e t) (bytes_in s)

abbrev pub bits_shown : Meaning → ℕ → ℕ → ℕ → List ℕ
bits_shown m id e k = bits_or_none (section_in_state id e (size m) k (shown m (section_at k)))

-- the sound entry that a record holds
abbrev pub entry_in_state : ℕ → ℕ → ℕ → State → Option Entry
entry_in_state id e t s = sound_entry sum_start id (page_region e t) (bytes_in s)

abbrev pub entry_shown : Meaning → ℕ → ℕ → ℕ → Option Entry
entry_shown m id e i = entry_in_state id e (size m) (shown m (entry_at i))

-- the entry in a record that is whole, sound or not
abbrev pub whole_entry_in_state : ℕ → State → Option Entry
whole_entry_in_state id s = whole_entry sum_start id (bytes_in s)
