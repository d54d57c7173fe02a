-- A new volume.
use Rattle.std.specs.Prelude.{◌≡◌, ℕ, ◌+◌, ◌-◌, true, cond, ◌&&◌, ◌||◌, List, [], ◌∷◌, ◌++◌, map, Ok, Err, Result, ◌==◌, nat_le, nat_lt}
use Rattle.std.specs.List.{range_with_len}
use Rattle.drive.specs.Answers.{Answer, refused}
use Rattle.drive.specs.Faults.{no_record}
use Rattle.drive.specs.Meaning.{State, readable, Write, Meaning, WellFormed, size, shown, posted, calm}
use Rattle.record.specs.declared.label.Label.{Label}
use Rattle.record.specs.declared.label.LabelState.TheVariants.{Closed}
use Rattle.record.specs.Regions.{in_limits, map_span}
use Rattle.record.specs.Sections.{all_free}
use Rattle.record.specs.Entries.{free_entry}
use Rattle.model.specs.Volume.{entry_at, section_at, label_at, copy_at, label_bytes, section_bytes, entry_bytes}

-- the label of a new volume of e entries and t records
abbrev pub new_label : ℕ → ℕ → ℕ → Label
new_label id e t = record { id = id; records = t; entries = e; state = Closed; trouble = 0 }

-- its map section k: the whole page region is free
abbrev pub new_section : ℕ → ℕ → ℕ → ℕ → List ℕ
new_section id e t k = section_bytes id e t k (all_free (map_span k e t))

-- what lies at address a of a new volume, where s was shown before: a control record, or what was there
abbrev pub new_state : ℕ → ℕ → ℕ → ℕ → State → State
new_state id e t a s =
    cond (a == label_at || a == copy_at) (readable (label_bytes (new_label id e t)))
    (cond (nat_le 1 a && nat_le a 3) (readable (new_section id e t (a - 1)))
    (cond (nat_le 8 a && nat_lt a (8 + e)) (readable (entry_bytes id free_entry)) s))

-- the new volume of e entries that make leaves on a drive
unfoldable pub new_volume : Meaning → ℕ → ℕ → Meaning
new_volume m id e =
    record {
      settled = map (λ a. new_state id e (size m) a (shown m a)) (range_with_len 0 (size m));
      outstanding = [];
      wear = m.wear + (e + 5);
    }

-- the writes of make
abbrev pub entry_write : ℕ → ℕ → Write
entry_write id i = record { at = entry_at i; bytes = entry_bytes id free_entry }

abbrev pub section_write : ℕ → ℕ → ℕ → ℕ → Write
section_write id e t k = record { at = section_at k; bytes = new_section id e t k }

abbrev pub label_write : ℕ → ℕ → ℕ → ℕ → Write
label_write id e t a = record { at = a; bytes = label_bytes (new_label id e t) }

-- f 0 to f (n - 1)
abbrev pub writes_of : (ℕ → Write) → ℕ → List Write
writes_of f n = map f (range_with_len 0 n)

-- all of them in their order: the free entries, the map, the label's copy, the label
abbrev pub new_writes : ℕ → ℕ → ℕ → List Write
new_writes id e t =
    writes_of (entry_write id) e
    ++ (writes_of (section_write id e t) 3 ++ (label_write id e t copy_at ∷ label_write id e t label_at ∷ []))

-- the writes posted one after the other, each completed before the next
abbrev pub written : List Write → Meaning → Meaning
written [] m = m
written (w ∷ ws) m = written ws (calm (posted m w.at w.bytes))

-- what make answers, with a page of n bytes, on a drive with that life
abbrev pub make_answer : ℕ → Meaning → ℕ → ℕ → ℕ → Answer
make_answer life m id e n =
    cond (n == 512)
    (cond (in_limits id e (size m)) (cond (nat_le (e + 5) (life - m.wear)) (Ok tt) (refused 25 8)) (refused 16 no_record))
    (refused 1 no_record)

-- what it leaves of the drive
abbrev pub after_make : {E : Type 0} → Result (Unit {0}) E → Meaning → ℕ → ℕ → Meaning
after_make (Ok x) m id e = new_volume m id e
after_make (Err f) m id e = m

-- the writes of make, each completed before the next, leave the new volume and nothing else
abbrev pub MakeWritesLeaveTheNewVolume : Type 0
MakeWritesLeaveTheNewVolume =
    (m : Meaning) (id e : ℕ) → WellFormed m → in_limits id e (size m) ≡ true → written (new_writes id e (size m)) (calm m) ≡ new_volume m id e
