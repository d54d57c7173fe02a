-- What a volume keeps in memory is right, whatever calls, polls and power cuts came before.
use Rattle.std.specs.Prelude.{◌≡◌, ℕ, zero, suc, ◌^◌, ◌<◌, ◌≤◌, true, false, List, [], ◌∷◌, Some, None, Option, slice_index, slice_index_or}
use Rattle.drive.specs.Meaning.{Meaning, WellFormed, size}
use Rattle.record.specs.Regions.{in_limits}
use Rattle.record.specs.Sections.{free_count}
use Rattle.model.specs.declared.memory.Slot.{Slot}
use Rattle.model.specs.declared.memory.Slot.TheVariants.{Empty, Nulled, Live, Leaving, Left}
use Rattle.model.specs.New.{new_volume}
use Rattle.model.specs.Memory.{Memory, held, file_of}
use Rattle.model.specs.Outcomes.{Rules}
use Rattle.model.specs.Shown.{bits_shown}
use Rattle.model.specs.Plans.{is_shut, and_then}
use Rattle.model.specs.Calls.{Volume}
use Rattle.model.specs.Histories.{History, Reached}

-- it holds of each volume that any history reaches from a volume made new with this id and this many entries
abbrev pub Always : (ℕ → ℕ → Volume → Type 0) → Type 0
Always P =
    (g : Rules) (m : Meaning) (id entries : ℕ) → WellFormed m → id < 2 ^ 32 → in_limits id entries (size m) ≡ true
    → (h : History) (v : Volume) → Reached g (new_volume m id entries) h v → P id entries v

-- ---- counts

-- while the volume is open or closing, the free count of each section is that of the bits that the section shows
abbrev pub MemoryCountsWhatTheMapShows : Type 0
MemoryCountsWhatTheMapShows =
    Always (λ id entries v.
    is_shut v.memory.phase ≡ false → (k : ℕ) → k < 3 → slice_index v.memory.counts k ≡ free_count (bits_shown v.drive id entries k))

abbrev pub AtMost32AddressesAreHeld : Type 0
AtMost32AddressesAreHeld = Always (λ id entries v. held v.memory ≤ 32)

-- ---- places

-- where memory may hold an address: by its turn in service or among the unsettled, by ticket, by file and slot
pub data Place : Type 0 where
  serving : ℕ → Place
  settling : ℕ → Place
  ticketed : ℕ → Place
  slotted : ℕ → ℕ → Place

abbrev pub nth : List ℕ → ℕ → Option ℕ
nth [] i = None
nth (a ∷ as') zero = Some a
nth (a ∷ as') (suc i) = nth as' i

-- the address of a slot in any case but Empty
abbrev pub slot_address : Slot → Option ℕ
slot_address Empty = None
slot_address (Nulled a) = Some a
slot_address (Live a) = Some a
slot_address (Leaving a) = Some a
slot_address (Left a) = Some a

-- the address that a place holds
abbrev pub address_at : Memory → Place → Option ℕ
address_at v (serving i) = nth v.service i
address_at v (settling i) = nth v.unsettled i
address_at v (ticketed t) = slice_index_or v.tickets t None
address_at v (slotted i p) = and_then (file_of v i) (λ f. slot_address (slice_index_or f.slots p Empty))

-- two places that hold one address are the same place
abbrev pub NoAddressIsHeldTwice : Type 0
NoAddressIsHeldTwice =
    Always (λ id entries v.
    (p q : Place) (a : ℕ) → address_at v.memory p ≡ Some a → address_at v.memory q ≡ Some a → p ≡ q)
