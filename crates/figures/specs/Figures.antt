-- The figures of a report.
use Rattle.std.specs.Prelude.{cond, ℕ, ◌-◌, ◌*◌, ◌/◌, eqb, sum_by, unwrap_or}
use Rattle.surveys.specs.declared.survey.SectionFigures.{SectionFigures}
use Rattle.surveys.specs.declared.survey.Survey.{Survey}

-- how many records a section counts as free: none where it is not sound
abbrev pub section_free : SectionFigures → ℕ
section_free x = unwrap_or x.free 0

-- how many records are free on the whole map
abbrev pub records_free : Survey → ℕ
records_free s = sum_by section_free s.sections

-- how many entries do not show sound
abbrev pub entries_unsound : Survey → ℕ
entries_unsound s = s.label.entries - s.sound_entries

-- how many records the volume has for pages
abbrev pub page_records : Survey → ℕ
page_records s = s.label.records - 8 - s.label.entries

-- how many page records no entry names and the map does not count as free
abbrev pub pages_adrift : Survey → ℕ
pages_adrift s = page_records s - s.named_pages - records_free s

-- how many more pages the entries name in the second look than in the first
abbrev pub pages_stored : Survey → Survey → ℕ
pages_stored before after = after.named_pages - before.named_pages

-- writes for each page, in hundredths; 0 where there is no page
abbrev pub hundredths : ℕ → ℕ → ℕ
hundredths spent pages = cond (eqb pages 0) 0 (spent * 100 / pages)
