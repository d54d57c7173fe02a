-- What a call comes to: a refusal, or an answer, the memory then, and at most one write.
use Rattle.std.specs.Prelude.{ℕ, Bool, true, false, List, length, Some, None, Ok, Err, Option}
use Rattle.drive.specs.Answers.{Answer, post_answer}
use Rattle.drive.specs.Faults.{Refusal, refusal, no_record}
use Rattle.drive.specs.Meaning.{Write, Meaning}
use Rattle.model.specs.Memory.{Memory}

-- what an accepted call says
pub data Reply : Type 0 where
  done : Reply
  granted : ℕ → ℕ → Reply
  wait : Reply
  full : Reply
  busy : Reply
  quiet : Reply
  dry : Reply
  section : ℕ → Reply
  entry : ℕ → Reply
  begun : Reply
  ended : Reply
  page : List ℕ → Reply

pub data Outcome : Type 0 where
  refuse : Refusal → Outcome
  accept : Reply → Memory → Option Write → Outcome

-- question n, of no record
unfoldable pub ask : ℕ → Bool → Outcome → Outcome
ask n true o = o
ask n false o = refuse (refusal n no_record)

-- question n, of the record at a
unfoldable pub ask_of : ℕ → ℕ → Bool → Outcome → Outcome
ask_of n a true o = o
ask_of n a false o = refuse (refusal n a)

-- question n, whether there is one; what follows has it
unfoldable pub need : {X : Type 0} → ℕ → Option X → (X → Outcome) → Outcome
need n None k = refuse (refusal n no_record)
need n (Some x) k = k x

unfoldable pub need_of : {X : Type 0} → ℕ → ℕ → Option X → (X → Outcome) → Outcome
need_of n a None k = refuse (refusal n a)
need_of n a (Some x) k = k x

-- the drive's own answer comes before an outcome
unfoldable pub if_accepted : Answer → Outcome → Outcome
if_accepted (Ok x) o = o
if_accepted (Err r) o = refuse r

-- a drive's kind, as far as its rules name it
pub record Rules : Type 0 where
  pub depth : ℕ
  pub life : ℕ

-- post one write, if the drive accepts it
abbrev pub post : Rules → Meaning → Reply → Memory → Write → Outcome
post g m r v w = if_accepted (post_answer g.depth g.life m w.at (length w.bytes)) (accept r v (Some w))

abbrev pub keep : Reply → Memory → Outcome
keep r v = accept r v None
