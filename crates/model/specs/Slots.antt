-- A slot's way through its cases.
use Rattle.std.specs.Prelude.{ℕ, Bool, true, false, cond, ◌&&◌, List, [], ◌∷◌, Some, None, Option, ◌==◌, slice_set}
use Rattle.drive.specs.Meaning.{Meaning, pending}
use Rattle.model.specs.declared.memory.Slot.{Slot}
use Rattle.model.specs.declared.memory.Slot.TheVariants.{Empty, Nulled, Live, Leaving, Left}
use Rattle.model.specs.declared.memory.File.{File}

abbrev pub with_slot : File → ℕ → Slot → File
with_slot f p s = record { entry = f.entry; meter = f.meter; slots = slice_set f.slots p s }

abbrev pub with_slots : File → List Slot → File
with_slots f ss = record { entry = f.entry; meter = f.meter; slots = ss }

abbrev pub is_empty : Slot → Bool
is_empty Empty = true
is_empty (Nulled a) = false
is_empty (Live a) = false
is_empty (Leaving a) = false
is_empty (Left a) = false

-- the address of a page that can be read
abbrev pub page_of : Slot → Option ℕ
page_of Empty = None
page_of (Nulled a) = Some a
page_of (Live a) = Some a
page_of (Leaving a) = None
page_of (Left a) = None

-- what clear makes of a slot
abbrev pub cleared : Slot → Option Slot
cleared Empty = None
cleared (Nulled a) = Some (Left a)
cleared (Live a) = Some (Leaving a)
cleared (Leaving a) = None
cleared (Left a) = None

-- the address that reclaim gets back
abbrev pub left_address : Slot → Option ℕ
left_address Empty = None
left_address (Nulled a) = None
left_address (Live a) = None
left_address (Leaving a) = None
left_address (Left a) = Some a

-- what update makes of a slot: a placed page that has settled is Live, and one that was leaving has left
abbrev pub updated : Meaning → Slot → Slot
updated m Empty = Empty
updated m (Nulled a) = cond (pending m a) (Nulled a) (Live a)
updated m (Live a) = Live a
updated m (Leaving a) = Left a
updated m (Left a) = Left a

-- what an entry has for a slot: the address where it is Live, else 0
abbrev pub live_address : Slot → ℕ
live_address Empty = 0
live_address (Nulled a) = 0
live_address (Live a) = a
live_address (Leaving a) = 0
live_address (Left a) = 0

-- a slot as it is loaded from an entry
abbrev pub loaded : ℕ → Slot
loaded a = cond (a == 0) Empty (Live a)

abbrev pub at_rest : Slot → Bool
at_rest Empty = true
at_rest (Nulled a) = false
at_rest (Live a) = true
at_rest (Leaving a) = false
at_rest (Left a) = false

abbrev pub all_at_rest : List Slot → Bool
all_at_rest [] = true
all_at_rest (s ∷ ss) = at_rest s && all_at_rest ss
