-- The questions by number, and what a refusal tells. Every contract reads answers through these definitions.
use Rattle.std.specs.Prelude.{ℕ, cond, ◌&&◌, Ok, Err, Result, nat_le}
use Rattle.drive.specs.declared.fault.Question.{Question}
use Rattle.drive.specs.declared.fault.Question.TheVariants.{PageLength, Phase, Believed, LabelState, TallyLength, File, EntryNumber, Meter, EntryShown, Slot, Grant, Ticket, Room, AtRest, Settled, Limits, RecordLength, Address, Readable, Depth, Life}
use Rattle.drive.specs.declared.fault.Layer.{Layer}
use Rattle.drive.specs.declared.fault.Layer.TheVariants.{Drive, Entries, Volume}
use Rattle.drive.specs.declared.fault.Fault.{Fault}

abbrev pub number_of : Question → ℕ
number_of PageLength = 1
number_of Phase = 2
number_of Believed = 3
number_of LabelState = 4
number_of TallyLength = 5
number_of File = 6
number_of EntryNumber = 7
number_of Meter = 8
number_of EntryShown = 9
number_of Slot = 10
number_of Grant = 11
number_of Ticket = 12
number_of Room = 13
number_of AtRest = 14
number_of Settled = 15
number_of Limits = 16
number_of RecordLength = 21
number_of Address = 22
number_of Readable = 23
number_of Depth = 24
number_of Life = 25

-- the layer that puts question n: 1 the drive, 2 the entries, 3 the volume
abbrev pub layer_of : ℕ → ℕ
layer_of n = cond (nat_le 21 n && nat_le n 25) 1 (cond (nat_le 7 n && nat_le n 10) 2 3)

abbrev pub layer_number : Layer → ℕ
layer_number Drive = 1
layer_number Entries = 2
layer_number Volume = 3

-- what a refusal tells
pub record Refusal : Type 0 where
  pub number : ℕ
  pub layer : ℕ
  pub address : ℕ

-- question n was answered no, of the record at a
abbrev pub refusal : ℕ → ℕ → Refusal
refusal n a = record { number = n; layer = layer_of n; address = a }

-- the address that names no record
abbrev pub no_record : ℕ
no_record = 65535

abbrev pub told : Fault → Refusal
told f = refusal (number_of f.question) f.address

-- an answer, with what its refusal tells
abbrev pub said : {X : Type 0} → Result X Fault → Result X Refusal
said (Ok x) = Ok x
said (Err f) = Err (told f)

-- an answer, without what it hands over
abbrev pub answered : {X E : Type 0} → Result X E → Result (Unit {0}) E
answered (Ok x) = Ok tt
answered (Err f) = Err f
