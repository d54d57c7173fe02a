-- Laws of the plans.
use Rattle.std.specs.Prelude.{◌≡◌, ℕ, zero, suc, ◌+◌, ◌-◌, ◌^◌, ◌<◌, ◌≤◌, min, true, false, not, ◌&&◌, ◌⊎◌, List, [], ◌++◌, map, length, get_or, take, Some, None, Option, ◌≢◌, slice_index, slice_index_or}
use Rattle.drive.specs.Faults.{Refusal, layer_of, no_record}
use Rattle.drive.specs.Meaning.{readable, Write, Meaning, WellFormed, size, shown}
use Rattle.record.specs.declared.region.Region.{Region}
use Rattle.record.specs.declared.label.Label.{Label}
use Rattle.record.specs.declared.entry.Entry.{Entry}
use Rattle.record.specs.Laws.{FittingBits, FittingEntry}
use Rattle.record.specs.Regions.{within, page_region, first_of}
use Rattle.record.specs.Sections.{bit, free_count}
use Rattle.record.specs.Entries.{among, addresses_sound}
use Rattle.model.specs.declared.memory.Phase.TheVariants.{Open}
use Rattle.model.specs.declared.memory.MapState.TheVariants.{Idle}
use Rattle.model.specs.declared.memory.Slot.{Slot}
use Rattle.model.specs.declared.memory.Slot.TheVariants.{Empty, Live}
use Rattle.model.specs.declared.memory.File.{File}
use Rattle.model.specs.Volume.{entry_at, section_at, section_bytes, entry_bytes}
use Rattle.model.specs.Memory.{Memory, file_of}
use Rattle.model.specs.Outcomes.{Reply, full, section, entry, refuse, accept, Rules}
use Rattle.model.specs.Shown.{bytes_in, label_shown, bits_shown, whole_entry_in_state}
use Rattle.model.specs.Slots.{with_slots, updated}
use Rattle.model.specs.Stock.{cover, lowest, all_marked}
use Rattle.model.specs.Mending.{mended, States, first_unmended}
use Rattle.model.specs.Calls.{withdraw, update, balance, salvage, Call, plan, Volume, Leaves, Polls}

-- ---- refusals

-- the questions of the calls are 1 to 15, and those of the drive 21 to 25
abbrev pub Numbered : ℕ → Type 0
Numbered n = ((1 ≤ n) × (n ≤ 15)) ⊎ ((21 ≤ n) × (n ≤ 25))

-- a refusal tells the layer of its question, and names a record only in layer 1 and in question 9, which is of an entry
pub record PlainlyTold (r : Refusal) : Type 0 where
  pub number : Numbered r.number
  pub layer : r.layer ≡ layer_of r.number
  pub nowhere : (r.layer ≢ 1) → (r.number ≢ 9) → r.address ≡ no_record
  pub entry : r.number ≡ 9 → (e : ℕ) × (r.address ≡ entry_at e)

abbrev pub ARefusedCallChangesNothing : Type 0
ARefusedCallChangesNothing =
    (g : Rules) (c : Call) (v u : Volume) (r : Refusal)
    → plan g c v.drive v.memory ≡ refuse r → Leaves (plan g c v.drive v.memory) v u → (u ≡ v) × PlainlyTold r

-- ---- withdraw

-- nothing is in service, none is on its way, and no section counts a free address
pub record NothingLeft (v : Memory) : Type 0 where
  pub service : v.service ≡ []
  pub chart : v.chart ≡ Idle
  pub counts : (k : ℕ) → slice_index v.counts k ≡ 0

-- on an open volume of which ticket t is unused
abbrev pub WithdrawSaysFullExactlyWhenThereIsNone : Type 0
WithdrawSaysFullExactlyWhenThereIsNone =
    (g : Rules) (m : Meaning) (v : Memory) (t : ℕ) → v.phase ≡ Open → t < length v.tickets → slice_index_or v.tickets t None ≡ None
    → ((x : Memory) (w : Option Write) → plan g withdraw m v ≡ accept full x w → NothingLeft v)
    × (NothingLeft v → plan g withdraw m v ≡ accept full v None)

-- ---- balance

-- the addresses are the lowest n that the bits of section k show free, or all where there are fewer; after are the bits without them
pub record TakesLowest (bits : List ℕ) (k n : ℕ) (taken after : List ℕ) : Type 0 where
  pub many : length taken ≡ min n (free_count bits)
  pub covered : (i : ℕ) → i < length taken → cover (slice_index taken i) ≡ k
  pub free : (i : ℕ) → i < length taken → bit bits (slice_index taken i - first_of k) ≡ true
  pub rising : (i j : ℕ) → i < j → j < length taken → slice_index taken i < slice_index taken j
  pub lowest_first : (r i : ℕ) → r < 3968 → bit bits r ≡ true → i < length taken → first_of k + r < slice_index taken i → among (first_of k + r) taken ≡ true
  pub differ : (r : ℕ) → r < 3968 → bit after r ≡ (bit bits r && not (among (first_of k + r) taken))
  pub fit : FittingBits after

-- a balance that finds fewer than 8 in service and answers with section k: the lowest that counts a free address
pub record Takes (m : Meaning) (v : Memory) (k : ℕ) (x : Memory) (w : Write) : Type 0 where
  pub counted : 0 < slice_index v.counts k
  pub lowest_section : (j : ℕ) → j < k → slice_index v.counts j ≡ 0
  pub taken : List ℕ
  pub after : List ℕ
  pub takes : TakesLowest (bits_shown m v.id v.entries k) k (16 - length v.service) taken after
  pub unsettled : x.unsettled ≡ v.unsettled ++ taken
  pub service : x.service ≡ v.service
  pub counts : get_or x.counts k 0 ≡ free_count after
  pub posts : w ≡ record { at = section_at k; bytes = section_bytes v.id v.entries (size m) k after }

-- of any bits, and of what balance takes and posts
abbrev pub ATakeIsOfTheLowestFree : Type 0
ATakeIsOfTheLowestFree =
    ((bits : List ℕ) (k n : ℕ) → FittingBits bits → TakesLowest bits k n (lowest bits k n) (all_marked k 0 (lowest bits k n) bits))
    × ((g : Rules) (n k : ℕ) (m : Meaning) (v x : Memory) (w : Option Write) → WellFormed m → length v.service < 8
    → plan g (balance n) m v ≡ accept (section k) x w → (y : Write) × (w ≡ Some y) × Takes m v k x y)

-- ---- update

-- entry x has the address of each Live slot, and nothing else
pub record LiveOnly (slots : List Slot) (x : Entry) : Type 0 where
  pub long : length x.slots ≡ length slots
  pub live : (p a : ℕ) → p < length slots → slice_index_or slots p Empty ≡ Live a → slice_index x.slots p ≡ a
  pub else_0 : (p : ℕ) → p < length slots → (slice_index x.slots p ≢ 0) → slice_index_or slots p Empty ≡ Live (slice_index x.slots p)

-- file f was x, and is updated from v to u
pub record Updates (v u : Volume) (f : ℕ) (x : File) (w : Option Write) : Type 0 where
  pub form : Entry
  pub metered : form.meter ≡ x.meter
  pub only : LiveOnly (map (updated v.drive) x.slots) form
  pub file : file_of u.memory f ≡ Some (with_slots x (map (updated v.drive) x.slots))
  pub writes : w ≡ Some (record { at = entry_at x.entry; bytes = entry_bytes v.memory.id form })
  pub shows : shown u.drive (entry_at x.entry) ≡ readable (entry_bytes v.memory.id form)
  pub reads : v.memory.id < 2 ^ 32 → FittingEntry form → whole_entry_in_state v.memory.id (shown u.drive (entry_at x.entry)) ≡ Some form

abbrev pub AfterAnUpdateTheEntryShowsExactlyTheLiveSlots : Type 0
AfterAnUpdateTheEntryShowsExactlyTheLiveSlots =
    (g : Rules) (n f : ℕ) (v u : Volume) (x : File) (r : Reply) (y : Memory) (w : Option Write) → WellFormed v.drive → file_of v.memory f ≡ Some x
    → plan g (update n f) v.drive v.memory ≡ accept r y w → Leaves (accept r y w) v u → Updates v u f x w

-- ---- mending

-- y is the mended form of x, where the addresses kept are taken already
pub record Mends (g : Region) (kept : List ℕ) (x y : Entry) : Type 0 where
  pub sound : addresses_sound g y ≡ true
  pub metered : y.meter ≡ x.meter
  pub only_held : (p : ℕ) → (slice_index y.slots p ≡ 0) ⊎ (slice_index y.slots p ≡ slice_index x.slots p)
  pub none_kept : (p : ℕ) → (slice_index y.slots p ≢ 0) → among (slice_index y.slots p) kept ≡ false
  pub all_other : (x.meter ≢ 0) → (p : ℕ) → p < length x.slots → within g (slice_index x.slots p) ≡ true
      → among (slice_index x.slots p) (kept ++ take p x.slots) ≡ false → slice_index y.slots p ≡ slice_index x.slots p

-- the addresses that n entries from i on keep, and those kept before
abbrev pub all_kept : ℕ → Region → States → List ℕ → ℕ → ℕ → List ℕ
all_kept id g s kept i zero = kept
all_kept id g s kept i (suc n) = all_kept id g s ((mended g kept (whole_entry_in_state id (s (entry_at i)))).slots ++ kept) (i + 1) n

-- no number but 0 stands twice
abbrev pub NoDoubleBut0 : List ℕ → Type 0
NoDoubleBut0 l = (p q : ℕ) → p < q → q < length l → slice_index l p ≡ slice_index l q → slice_index l p ≡ 0

-- the mended form of entry i, where the lower entries keep what they hold
abbrev pub mended_form : ℕ → Region → States → ℕ → Entry
mended_form id g s i = mended g (all_kept id g s [] 0 i) (whole_entry_in_state id (s (entry_at i)))

-- a salvage that answers with entry i posts its mended form
pub record PostsMended (m : Meaning) (v : Memory) (i : ℕ) (x : Memory) (w : Option Write) : Type 0 where
  pub label : Label
  pub shown_label : label_shown m ≡ Some label
  pub numbered : i < label.entries
  pub memory : x ≡ v
  pub posts : w ≡ Some (record { at = entry_at i; bytes = entry_bytes label.id (mended_form label.id (page_region label.entries (size m)) (shown m) i) })

-- of one entry, of a record that is none, of all entries in order, and of what salvage finds and posts
abbrev pub AMendedEntryIsSoundAndKeepsOnlyWhatItHeld : Type 0
AMendedEntryIsSoundAndKeepsOnlyWhatItHeld =
    ((g : Region) (kept : List ℕ) (x : Entry) → Mends g kept x (mended g kept (Some x)))
    × ((g : Region) (kept : List ℕ) → addresses_sound g (mended g kept None) ≡ true)
    × ((id : ℕ) (g : Region) (s : States) (n : ℕ) → NoDoubleBut0 (all_kept id g s [] 0 n))
    × ((id : ℕ) (g : Region) (s : States) (n i : ℕ) → first_unmended id g s [] 0 n ≡ None → i < n → bytes_in (s (entry_at i)) ≡ entry_bytes id (mended_form id g s i))
    × ((g : Rules) (n c i : ℕ) (m : Meaning) (v x : Memory) (w : Option Write) → plan g (salvage n c) m v ≡ accept (entry i) x w → PostsMended m v i x w)

-- ---- poll

pub record SameAddresses (v u : Memory) : Type 0 where
  pub stock : u.service ++ u.unsettled ≡ v.service ++ v.unsettled
  pub tickets : u.tickets ≡ v.tickets
  pub files : u.files ≡ v.files

abbrev pub PollNeitherAddsNorLosesAnAddress : Type 0
PollNeitherAddsNorLosesAnAddress = (v u : Volume) → Polls v u → SameAddresses v.memory u.memory
