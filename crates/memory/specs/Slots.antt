-- What a call on a slot leaves of its file.
use Rattle.std.specs.Prelude.{ℕ, Some, None, Ok, Err, Option}
use Rattle.drive.specs.Answers.{Answer}
use Rattle.drive.specs.Faults.{refusal, no_record}
use Rattle.model.specs.declared.memory.File.{File}
use Rattle.model.specs.declared.memory.Slot.{Slot}
use Rattle.model.specs.Slots.{with_slot}

-- the answer to question 10, and the file: with the slot in another case, or as it was
abbrev pub slot_changed : File → ℕ → Option Slot → Answer × File
slot_changed x p None = (Err (refusal 10 no_record), x)
slot_changed x p (Some s) = (Ok tt, with_slot x p s)
