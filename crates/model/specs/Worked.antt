-- Worked examples, computed on the definitions.
use Rattle.std.specs.Prelude.{◌≡◌, ℕ, zero, suc, ◌+◌, List, [], replicate, Ok, slice_index_or, slice_set}
use Rattle.drive.specs.Answers.{refused}
use Rattle.drive.specs.Faults.{no_record}
use Rattle.drive.specs.Meaning.{Meaning, spoiled}
use Rattle.record.specs.Control.{check}
use Rattle.record.specs.Regions.{map_span}
use Rattle.record.specs.Sections.{all_free, marked, section_body}
use Rattle.model.specs.New.{make_answer}

-- the words of a record in which only word i is 1
abbrev pub only : ℕ → List ℕ
only i = slice_set (replicate 128 0) i 1

-- words 2 to 127 of section k of a new volume of e entries and t records
abbrev pub new_words : ℕ → ℕ → ℕ → List ℕ
new_words e t k = section_body (map_span k e t) (all_free (map_span k e t))

-- the bits with n numbers from r on taken
abbrev pub taken : List ℕ → ℕ → ℕ → List ℕ
taken bits r zero = bits
taken bits r (suc n) = taken (marked bits r 0) (r + 1) n

-- the first section of a volume of 2 entries and 40 records, once 10 to 25 are taken
abbrev pub once_taken : List ℕ
once_taken = section_body (map_span 0 2 40) (taken (all_free (map_span 0 2 40)) 10 16)

-- a drive of t records of which none can be read
abbrev pub bare : ℕ → Meaning
bare t = record { settled = replicate t spoiled; outstanding = []; wear = 0 }

-- the record's words count from 2 in a body
pub record TheWorkedValuesComeOut : Type 0 where
  pub check_of_word_0 : check 0 (only 0) ≡ 0x40000000
  pub check_of_word_127 : check 0 (only 127) ≡ 1
  pub section_0_covers : slice_index_or (new_words 2 20 0) 0 0 ≡ 0x0000007C
  pub section_0_counts : slice_index_or (new_words 2 20 0) 1 0 ≡ 0x0014000A
  pub section_0_frees : slice_index_or (new_words 2 20 0) 2 0 ≡ 0x003FF000
  pub section_1_covers : slice_index_or (new_words 2 20 1) 0 0 ≡ 0x0F80007C
  pub section_1_counts : slice_index_or (new_words 2 20 1) 1 0 ≡ 0
  pub taking_16_counts : slice_index_or once_taken 1 0 ≡ 0x0028000E
  pub taking_16_leaves : slice_index_or once_taken 2 0 ≡ 0x0000003F
  pub taking_16_leaves_next : slice_index_or once_taken 3 0 ≡ 0xFF000000
  pub records_10 : make_answer 100 (bare 10) 1 2 512 ≡ refused 16 no_record
  pub records_11 : make_answer 100 (bare 11) 1 2 512 ≡ Ok tt
  pub records_11904 : make_answer 100 (bare 11904) 1 2 512 ≡ Ok tt
  pub records_11905 : make_answer 100 (bare 11905) 1 2 512 ≡ refused 16 no_record
