-- What a look at a volume finds.
use Rattle.std.specs.Prelude.{ℕ, ◌+◌, Bool, false, cond, not, List, [], ◌∷◌, Some, None, Ok, Err, sum_by, count_by, Option, Result, ◌==◌}
use Rattle.std.specs.List.{range_with_len}
use Rattle.std.specs.Option.{option_map, is_some}
use Rattle.drive.specs.Faults.{Refusal, refusal, no_record}
use Rattle.drive.specs.Meaning.{Meaning, shown}
use Rattle.record.specs.declared.label.Label.{Label}
use Rattle.record.specs.declared.section.Section.{Section}
use Rattle.record.specs.declared.entry.Entry.{Entry}
use Rattle.record.specs.Regions.{map_span}
use Rattle.record.specs.Sections.{free_count}
use Rattle.model.specs.Shown.{label_shown, section_in_state, entry_in_state}
use Rattle.surveys.specs.declared.survey.Survey.{Survey}
use Rattle.surveys.specs.declared.survey.SectionFigures.{SectionFigures}

-- section k as the drive shows it, of the volume with this label
abbrev pub section_found : Meaning → Label → ℕ → Option Section
section_found m l k = section_in_state l.id l.entries l.records k (shown m (1 + k))

abbrev pub figures_of : Meaning → Label → ℕ → SectionFigures
figures_of m l k =
    record { covered = (map_span k l.entries l.records).covered; free = option_map (λ x. free_count x.bits) (section_found m l k) }

-- entry i as the drive shows it
abbrev pub entry_found : Meaning → Label → ℕ → Option Entry
entry_found m l i = entry_in_state l.id l.entries l.records (shown m (8 + i))

abbrev pub is_free_entry : Option Entry → Bool
is_free_entry None = false
is_free_entry (Some x) = x.meter == 0

-- how many of the first n entries pass a test
abbrev pub entries_that : (Option Entry → Bool) → Meaning → Label → ℕ → ℕ
entries_that t m l n = count_by (λ i. t (entry_found m l i)) (range_with_len 0 n)

-- how many slots hold an address
abbrev pub addresses_in : List ℕ → ℕ
addresses_in slots = count_by (λ a. not (a == 0)) slots

-- how many pages an entry names, where it is sound
abbrev pub named_by : Option Entry → ℕ
named_by None = 0
named_by (Some x) = addresses_in x.slots

-- how many pages the first n entries name
abbrev pub pages_named : Meaning → Label → ℕ → ℕ
pages_named m l n = sum_by (λ i. named_by (entry_found m l i)) (range_with_len 0 n)

abbrev pub survey_of : Meaning → Label → Survey
survey_of m l =
    record {
      label = l;
      sections = figures_of m l 0 ∷ figures_of m l 1 ∷ figures_of m l 2 ∷ [];
      free_entries = entries_that is_free_entry m l l.entries;
      sound_entries = entries_that is_some m l l.entries;
      named_pages = pages_named m l l.entries;
    }

abbrev pub found : Meaning → Option Label → Result Survey Refusal
found m None = Err (refusal 3 no_record)
found m (Some l) = Ok (survey_of m l)

-- with a page of n bytes
abbrev pub survey_answer : Meaning → ℕ → Result Survey Refusal
survey_answer m n = cond (n == 512) (found m (label_shown m)) (Err (refusal 1 no_record))
