-- How the code of a call is held to its plan.
use Rattle.std.specs.Prelude.{◌≡◌, ℕ, Bool, cond, [], ◌∷◌, Some, None, Ok, Err, Option, Result}
use Rattle.drive.specs.declared.fault.Fault.{Fault}
use Rattle.drive.specs.Answers.{Answer}
use Rattle.drive.specs.Cuts.{Image}
use Rattle.drive.specs.Faults.{Refusal, refusal, no_record, told}
use Rattle.drive.specs.Meaning.{Meaning, owed}
use Rattle.model.specs.Outcomes.{Reply, Outcome, refuse, accept, Rules}
use Rattle.model.specs.Calls.{Call, plan, Volume, Leaves, Polls}
use Rattle.model.specs.Histories.{History, called, cut, Moment, Reached, attach}

-- ---- answers

-- what the caller of a plan is told
abbrev pub answered : Outcome → Result Reply Refusal
answered (refuse f) = Err f
answered (accept r x w) = Ok r

-- what the result of a call tells, where an accepted one gives such a reply
abbrev pub replied : {X : Type 0} → (X → Reply) → Result X Fault → Result Reply Refusal
replied reply (Ok x) = Ok (reply x)
replied reply (Err f) = Err (told f)

-- the same of a call that hands back a token when it is refused
abbrev pub replied_with : {X T : Type 0} → (X → Reply) → Result X (T × Fault) → Result Reply Refusal
replied_with reply (Ok x) = Ok (reply x)
replied_with reply (Err (t, f)) = Err (told f)

-- a refusal hands back the very token that was handed in
abbrev pub HandsBack : {X T : Type 0} → Result X (T × Fault) → T → Type 0
HandsBack (Ok x) t = Unit {0}
HandsBack (Err (s, f)) t = s ≡ t

-- question n, of no record, as an answer
abbrev pub asked : ℕ → Bool → Answer
asked n b = cond b (Ok tt) (Err (refusal n no_record))

-- what there is, or a refusal by question n of the record at a
abbrev pub or_refused_at : {X : Type 0} → ℕ → ℕ → Option X → Result X Refusal
or_refused_at n a None = Err (refusal n a)
or_refused_at n a (Some x) = Ok x

abbrev pub or_refused : {X : Type 0} → ℕ → Option X → Result X Refusal
or_refused n o = or_refused_at n no_record o

-- ---- calls

-- the volume v was taken to u with the answer a, as an outcome says
pub record ComesTo (o : Outcome) (v u : Volume) (a : Result Reply Refusal) : Type 0 where
  pub answers : a ≡ answered o
  pub leaves : Leaves o v u

-- the call c took the volume v to u with the answer a, as its plan says; and a volume that was reached by a history is
-- then reached by that history and this call
pub record CarriesOut (g : Rules) (c : Call) (v u : Volume) (a : Result Reply Refusal) : Type 0 where
  pub answers : a ≡ answered (plan g c v.drive v.memory)
  pub leaves : Leaves (plan g c v.drive v.memory) v u
  pub stays_reached : (m : Meaning) (h : History) → Reached g m h v → Reached g m (called c (plan g c v.drive v.memory) ∷ h) u

-- a poll took the volume v to u, and answered how many writes are then outstanding
pub record CarriesOutPoll (g : Rules) (v u : Volume) (remain : ℕ) : Type 0 where
  pub polls : Polls v u
  pub answers : remain ≡ owed u.drive
  pub stays_reached : (m : Meaning) (h : History) → Reached g m h v → Reached g m h u

-- a drive that means m was attached as the volume u: reached by no call from m itself, and by a history and a cut from
-- a volume of which m is an image
pub record CarriesOutAttach (g : Rules) (m : Meaning) (u : Volume) : Type 0 where
  pub attaches : u ≡ attach m
  pub reached_at_first : Reached g m [] u
  pub reached_after_a_cut : (o : Meaning) (h h' : History) (v : Volume) (d : Meaning) → Reached g o h v → Moment g h v h' d → Image d m → Reached g o (cut m ∷ h') u
