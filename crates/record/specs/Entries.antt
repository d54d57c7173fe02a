-- The layout of an entry.
use Rattle.std.specs.Prelude.{ℕ, ◌+◌, ◌*◌, ◌/◌, ◌%◌, Bool, true, false, cond, not, ◌&&◌, ◌||◌, List, [], ◌∷◌, ◌++◌, replicate, Some, None, Option, ◌==◌}
use Rattle.std.specs.List.{between}
use Rattle.record.specs.declared.entry.Entry.{Entry}
use Rattle.record.specs.declared.region.Region.{Region}
use Rattle.record.specs.Words.{words, word, zeros}
use Rattle.record.specs.Control.{control, whole}
use Rattle.record.specs.Regions.{within}

-- numbers of 16 bits, two to a word, the first in the high half
abbrev pub pack : List ℕ → List ℕ
pack [] = []
pack (h ∷ []) = []
pack (h ∷ l ∷ hs) = (h * 65536 + l) ∷ pack hs

abbrev pub unpack : List ℕ → List ℕ
unpack [] = []
unpack (w ∷ ws) = (w / 65536) ∷ (w % 65536) ∷ unpack ws

-- words 2 to 127 of an entry: the meter number, five zeros, the 64 slots, and zeros
unfoldable pub entry_body : Entry → List ℕ
entry_body e = e.meter ∷ 0 ∷ 0 ∷ 0 ∷ 0 ∷ 0 ∷ (pack e.slots ++ replicate 88 0)

unfoldable pub entry_record : ℕ → ℕ → Entry → List ℕ
entry_record start id e = control start id (entry_body e)

-- the entry without a meter and without pages
abbrev pub free_entry : Entry
free_entry = record { meter = 0; slots = replicate 64 0 }

-- the words that an entry does not use are zero
abbrev pub entry_laid_out : List ℕ → Bool
entry_laid_out p = zeros (between 3 8 (words p)) && zeros (between 40 128 (words p))

-- the entry that the words of p hold
abbrev pub entry_in : List ℕ → Entry
entry_in p = record { meter = word p 2; slots = unpack (between 8 40 (words p)) }

-- the entry in the record p where that is whole, whatever its unused words hold
abbrev pub whole_entry : ℕ → ℕ → List ℕ → Option Entry
whole_entry start id p = cond (whole start id p) (Some (entry_in p)) None

-- a stands among the numbers
abbrev pub among : ℕ → List ℕ → Bool
among a [] = false
among a (b ∷ bs) = b == a || among a bs

-- the address a may stand in a slot of an entry with meter m, before the slots rest
abbrev pub may_stand : ℕ → Region → ℕ → List ℕ → Bool
may_stand m g a rest = not (m == 0) && (within g a && not (among a rest))

-- each slot is empty or holds an address that may stand there
abbrev pub slots_sound : ℕ → Region → List ℕ → Bool
slots_sound m g [] = true
slots_sound m g (a ∷ rest) = (a == 0 || may_stand m g a rest) && slots_sound m g rest

abbrev pub addresses_sound : Region → Entry → Bool
addresses_sound g e = slots_sound e.meter g e.slots

-- the entry in the record p, where it is sound
abbrev pub sound_entry : ℕ → ℕ → Region → List ℕ → Option Entry
sound_entry start id g p =
    cond (whole start id p && (entry_laid_out p && addresses_sound g (entry_in p))) (Some (entry_in p)) None
