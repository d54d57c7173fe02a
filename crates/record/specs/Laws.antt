-- Laws of the layouts.
use Rattle.std.specs.Prelude.{◌≡◌, ℕ, ◌+◌, ◌^◌, ◌<◌, ◌≤◌, true, false, cond, List, length, Some, Decides, MatchOption, ◌==◌, ◌≢◌, slice_index}
use Rattle.std.specs.List.{AllByRecursion}
use Rattle.drive.specs.Meaning.{RecordBytes}
use Rattle.record.specs.declared.label.Label.{Label}
use Rattle.record.specs.declared.section.Section.{Section}
use Rattle.record.specs.declared.entry.Entry.{Entry}
use Rattle.record.specs.declared.region.Region.{Region}
use Rattle.record.specs.declared.region.Span.{Span}
use Rattle.record.specs.Regions.{in_limits, within}
use Rattle.record.specs.Labels.{label_record, believed_label}
use Rattle.record.specs.Sections.{bit, marked, free_count, lowest_free, free_within, section_record, sound_section}
use Rattle.record.specs.Entries.{entry_record, whole_entry, sound_entry, addresses_sound}

-- ---- the numbers of a value fit their places

pub record FittingLabel (l : Label) : Type 0 where
  pub id : l.id < 2 ^ 32
  pub records : l.records < 2 ^ 16
  pub entries : l.entries < 2 ^ 16
  pub trouble : l.trouble < 2 ^ 32

abbrev pub FittingBits : List ℕ → Type 0
FittingBits bits = (length bits ≡ 124) × AllByRecursion (λ w. w < 2 ^ 32) bits

pub record FittingSpan (s : Span) : Type 0 where
  pub first : s.first < 2 ^ 16
  pub covered : s.covered < 2 ^ 16

pub record FittingEntry (e : Entry) : Type 0 where
  pub meter : e.meter < 2 ^ 32
  pub all : length e.slots ≡ 64
  pub each : AllByRecursion (λ a. a < 2 ^ 16) e.slots

-- ---- what is written is read back

abbrev pub AWrittenLabelIsBelieved : Type 0
AWrittenLabelIsBelieved =
    (start : ℕ) (l : Label) → start < 2 ^ 32 → FittingLabel l → in_limits l.id l.entries l.records ≡ true
    → believed_label start l.records (label_record start l) ≡ Some l

abbrev pub AWrittenSectionIsReadBack : Type 0
AWrittenSectionIsReadBack =
    (start id : ℕ) (s : Span) (bits : List ℕ) → start < 2 ^ 32 → id < 2 ^ 32 → FittingSpan s → FittingBits bits → free_within s bits ≡ true
    → sound_section start id s (section_record start id s bits) ≡ Some (record { bits = bits })

abbrev pub AWrittenEntryIsReadBack : Type 0
AWrittenEntryIsReadBack =
    (start id : ℕ) (g : Region) (e : Entry) → start < 2 ^ 32 → id < 2 ^ 32 → FittingEntry e
    → (whole_entry start id (entry_record start id e) ≡ Some e)
    × (addresses_sound g e ≡ true → sound_entry start id g (entry_record start id e) ≡ Some e)

-- ---- what is believed is exactly the record of what is read, so a record that breaks its layout is not believed

abbrev pub ABelievedLabelIsTheRecordOfWhatIsRead : Type 0
ABelievedLabelIsTheRecordOfWhatIsRead =
    (start t : ℕ) (p : List ℕ) (l : Label) → start < 2 ^ 32 → RecordBytes p → t < 2 ^ 16 → believed_label start t p ≡ Some l
    → (p ≡ label_record start l) × (l.records ≡ t) × (in_limits l.id l.entries t ≡ true) × FittingLabel l

abbrev pub ASoundSectionIsTheRecordOfWhatIsRead : Type 0
ASoundSectionIsTheRecordOfWhatIsRead =
    (start id : ℕ) (s : Span) (p : List ℕ) (x : Section) → start < 2 ^ 32 → RecordBytes p → sound_section start id s p ≡ Some x
    → (p ≡ section_record start id s x.bits) × FittingBits x.bits × (free_within s x.bits ≡ true)

abbrev pub ASoundEntryIsTheRecordOfWhatIsRead : Type 0
ASoundEntryIsTheRecordOfWhatIsRead =
    (start id : ℕ) (g : Region) (p : List ℕ) (e : Entry) → start < 2 ^ 32 → RecordBytes p → sound_entry start id g p ≡ Some e
    → (p ≡ entry_record start id e) × FittingEntry e × (addresses_sound g e ≡ true)

-- ---- soundness in plain words

-- each address lies in the region, none stands twice, and an entry without a meter has none
pub record NamesEachPageOnce (g : Region) (e : Entry) : Type 0 where
  pub region : (p : ℕ) → p < length e.slots → (slice_index e.slots p ≢ 0) → within g (slice_index e.slots p) ≡ true
  pub once : (p q : ℕ) → p < q → q < length e.slots → (slice_index e.slots p ≢ 0) → slice_index e.slots p ≢ slice_index e.slots q
  pub free : e.meter ≡ 0 → (p : ℕ) → p < length e.slots → slice_index e.slots p ≡ 0

abbrev pub SoundAddressesNameEachPageOnce : Type 0
SoundAddressesNameEachPageOnce = (g : Region) (e : Entry) → Decides (addresses_sound g e) (NamesEachPageOnce g e)

abbrev pub EveryFreeBitLiesInTheRegion : Type 0
EveryFreeBitLiesInTheRegion =
    (s : Span) (bits : List ℕ)
    → Decides (free_within s bits) ((r : ℕ) → r < 3968 → bit bits r ≡ true → within s.free (s.first + r) ≡ true)

-- ---- bits

abbrev pub AChangedBitChangesNoOther : Type 0
AChangedBitChangesNoOther =
    (bits : List ℕ) (r b j : ℕ) → FittingBits bits → r < 3968 → b < 2
    → (bit (marked bits r b) j ≡ cond (j == r) (b == 1) (bit bits j)) × FittingBits (marked bits r b)

abbrev pub AChangedBitMovesTheCountByOne : Type 0
AChangedBitMovesTheCountByOne =
    (bits : List ℕ) (r : ℕ) → FittingBits bits → r < 3968
    → (bit bits r ≡ true → free_count (marked bits r 0) + 1 ≡ free_count bits)
    × (bit bits r ≡ false → free_count (marked bits r 1) ≡ free_count bits + 1)

-- sections with the same free numbers are the same
abbrev pub BitsAreToldByTheFreeNumbers : Type 0
BitsAreToldByTheFreeNumbers =
    (bits other : List ℕ) → FittingBits bits → FittingBits other → ((r : ℕ) → r < 3968 → bit bits r ≡ bit other r) → bits ≡ other

-- where one is found it is free and all below it from r on are not; else none from r on is free
abbrev pub TheLowestFreeNumberIsLowest : Type 0
TheLowestFreeNumberIsLowest =
    (bits : List ℕ) (r : ℕ)
    → MatchOption (lowest_free bits r) ((j : ℕ) → r ≤ j → j < 3968 → bit bits j ≡ false)
    (λ k. (r ≤ k) × (k < 3968) × (bit bits k ≡ true) × ((j : ℕ) → r ≤ j → j < k → bit bits j ≡ false))
