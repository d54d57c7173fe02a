-- What a salvage looks for in the volume of a label, by the numbers in the label.
use Rattle.std.specs.Prelude.{ℕ, cond, List, [], Some, None, Option}
use Rattle.drive.specs.Meaning.{State}
use Rattle.record.specs.declared.region.Region.{Region}
use Rattle.record.specs.declared.entry.Entry.{Entry}
use Rattle.record.specs.declared.label.Label.{Label}
use Rattle.record.specs.Regions.{page_region}
use Rattle.mending.specs.declared.unmended.Unmended.{Unmended as Found}
use Rattle.model.specs.Volume.{entry_bytes}
use Rattle.model.specs.Shown.{whole_entry_in_state}
use Rattle.model.specs.Mending.{Unmended, mended, shows, States, first_unmended, named_from, first_inexact}

abbrev pub pages_of : Label → Region
pages_of l = page_region l.entries l.records

-- the mended form of what a record shows, once lower entries have kept these addresses
abbrev pub form_of : Label → List ℕ → State → Entry
form_of l kept s = mended (pages_of l) kept (whole_entry_in_state l.id s)

-- a form, where the record does not show it
abbrev pub unless_shown : Label → State → Entry → Option Entry
unless_shown l s x = cond (shows s (entry_bytes l.id x)) None (Some x)

-- the lowest entry that does not show its mended form
abbrev pub unmended_in : Label → States → Option Unmended
unmended_in l s = first_unmended l.id (pages_of l) s [] 0 l.entries

-- what the code found, as the plan's unmended entry: the same number and form
abbrev pub unmended_of : Option Found → Option Unmended
unmended_of None = None
unmended_of (Some u) = Some (record { number = u.number; form = u.form })

-- the addresses that the sound entries name
abbrev pub named_in : Label → States → List ℕ
named_in l s = named_from l.id l.entries l.records s 0 l.entries

-- the lowest section that does not show exactly what these leave free
abbrev pub inexact_in : Label → States → Option ℕ
inexact_in l s = first_inexact l.id l.entries l.records s 0 3
