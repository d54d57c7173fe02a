-- Salvage: the form that each entry is mended to, what the map then has to show, and the plan of the call.
use Rattle.std.specs.Prelude.{ℕ, zero, suc, ◌+◌, Bool, true, false, cond, not, ◌&&◌, List, [], ◌∷◌, ◌++◌, Some, None, Option, ◌==◌}
use Rattle.drive.specs.Meaning.{State, Meaning, size, owed, shown}
use Rattle.record.specs.declared.region.Region.{Region}
use Rattle.record.specs.declared.label.Label.{Label}
use Rattle.record.specs.declared.label.LabelState.{LabelState}
use Rattle.record.specs.declared.label.LabelState.TheVariants.{Closed, InUse, Salvage}
use Rattle.record.specs.declared.entry.Entry.{Entry}
use Rattle.record.specs.Words.{same}
use Rattle.record.specs.Regions.{within, page_region, first_of}
use Rattle.record.specs.Sections.{bits_of}
use Rattle.record.specs.Entries.{free_entry, among}
use Rattle.model.specs.Volume.{entry_at, section_at, label_at, section_bytes, entry_bytes}
use Rattle.model.specs.Memory.{Memory}
use Rattle.model.specs.Outcomes.{section, entry, begun, ended, Outcome, ask, need, Rules, post}
use Rattle.model.specs.Shown.{bytes_in, with_state, label_in_state, label_shown, entry_in_state, whole_entry_in_state}
use Rattle.model.specs.Plans.{is_shut, ask_page, label_write}

-- ---- entries

-- each address of the region is kept that is not kept already, by a lower entry or a lower slot
abbrev pub mended_slots : Region → List ℕ → List ℕ → List ℕ
mended_slots g kept [] = []
mended_slots g kept (a ∷ as') = cond (within g a && not (among a kept)) (a ∷ mended_slots g (a ∷ kept) as') (0 ∷ mended_slots g kept as')

-- the mended form of a whole entry, or of a record that is none
abbrev pub mended : Region → List ℕ → Option Entry → Entry
mended g kept None = free_entry
mended g kept (Some x) = cond (x.meter == 0) free_entry (record { meter = x.meter; slots = mended_slots g kept x.slots })

-- a record shows just these bytes
abbrev pub shows : State → List ℕ → Bool
shows s bs = same (bytes_in s) bs

-- the states of a drive, by address
abbrev pub States : Type 0
States = ℕ → State

pub record Unmended : Type 0 where
  pub number : ℕ
  pub form : Entry

-- the lowest of n entries from i on that does not show its mended form
abbrev pub first_unmended : ℕ → Region → States → List ℕ → ℕ → ℕ → Option Unmended
first_unmended id g s kept i zero = None
first_unmended id g s kept i (suc n) =
    let x = mended g kept (whole_entry_in_state id (s (entry_at i))) in
    cond (shows (s (entry_at i)) (entry_bytes id x)) (first_unmended id g s (x.slots ++ kept) (i + 1) n) (Some (record { number = i; form = x }))

-- ---- the map

abbrev pub slots_or_none : Option Entry → List ℕ
slots_or_none None = []
slots_or_none (Some x) = x.slots

-- the addresses that n entries from i on name, in a volume of e entries and t records
abbrev pub named_from : ℕ → ℕ → ℕ → States → ℕ → ℕ → List ℕ
named_from id e t s i zero = []
named_from id e t s i (suc n) = slots_or_none (entry_in_state id e t (s (entry_at i))) ++ named_from id e t s (i + 1) n

-- the bits of section k with exactly the region's addresses free that no entry names
abbrev pub mended_bits : ℕ → ℕ → ℕ → States → ℕ → List ℕ
mended_bits id e t s k =
    bits_of (λ r. within (page_region e t) (first_of k + r) && not (among (first_of k + r) (named_from id e t s 0 e)))

abbrev pub mended_section : ℕ → ℕ → ℕ → States → ℕ → List ℕ
mended_section id e t s k = section_bytes id e t k (mended_bits id e t s k)

-- the lowest of n sections from k on that does not show that
abbrev pub first_inexact : ℕ → ℕ → ℕ → States → ℕ → ℕ → Option ℕ
first_inexact id e t s k zero = None
first_inexact id e t s k (suc n) = cond (shows (s (section_at k)) (mended_section id e t s k)) (first_inexact id e t s (k + 1) n) (Some k)

-- ---- the plan

abbrev pub is_salvage : Option Label → Bool
is_salvage None = false
is_salvage (Some l) = state_is_salvage l.state
  where
    state_is_salvage : LabelState → Bool
    state_is_salvage Closed = false
    state_is_salvage InUse = false
    state_is_salvage Salvage = true

abbrev pub end_or_section : Rules → Meaning → Memory → Label → Option ℕ → Outcome
end_or_section g m v l None = post g m ended v (label_write (with_state l Closed 0))
end_or_section g m v l (Some k) =
    post g m (section k) v (record { at = section_at k; bytes = mended_section l.id l.entries (size m) (shown m) k })

abbrev pub map_or_entry : Rules → Meaning → Memory → Label → Option Unmended → Outcome
map_or_entry g m v l None = end_or_section g m v l (first_inexact l.id l.entries (size m) (shown m) 0 3)
map_or_entry g m v l (Some u) = post g m (entry u.number) v (record { at = entry_at u.number; bytes = entry_bytes l.id u.form })

-- the first of these that applies: the label says that a salvage has begun, each entry, each section, the label again
abbrev pub salvaging : Rules → Meaning → Memory → Label → Outcome
salvaging g m v l =
    cond (is_salvage (label_in_state (size m) (shown m label_at)))
    (map_or_entry g m v l (first_unmended l.id (page_region l.entries (size m)) (shown m) [] 0 l.entries))
    (post g m begun v (label_write (with_state l Salvage l.trouble)))

-- with a page of n bytes and a tally of c bytes
unfoldable pub salvage_plan : Rules → ℕ → ℕ → Meaning → Memory → Outcome
salvage_plan g n c m v =
    ask_page n
    (ask 2 (is_shut v.phase)
    (need 3 (label_shown m) (λ l.
    ask 5 (c == size m)
    (ask 15 (owed m == 0)
    (salvaging g m v l)))))
