-- What holds of whatever a call accepts, question by question.
use Rattle.std.proofs.Common.{◌≡◌, ℕ, Bool, true, false, cond, Some, None, Ok, Err, Option, refl}
use Rattle.drive.specs.Answers.{Answer}
use Rattle.drive.specs.Meaning.{Write}
use Rattle.model.specs.Memory.{Memory}
use Rattle.model.specs.Outcomes.{Reply, Outcome, refuse, accept, ask, need, need_of, if_accepted}

-- P holds of the memory and the write of an accepted call
unfoldable pub Meets : Outcome → (Memory → Option Write → Type 0) → Type 0
Meets (refuse r) P = Unit {0}
Meets (accept r v w) P = P v w

module _ (P : Memory → Option Write → Type 0) where
  pub accept_meets : (r : Reply) (v : Memory) (w : Option Write) → P v w → Meets (accept r v w) P
  unfolding Meets
  accept_meets r v w h = h

  pub ask_meets : (n : ℕ) (b : Bool) (o : Outcome) → (b ≡ true → Meets o P) → Meets (ask n b o) P
  unfolding Meets ask
  ask_meets n true o h = h refl
  ask_meets n false o h = tt

  pub need_meets : {X : Type 0} (n : ℕ) (x : Option X) (k : X → Outcome) → ((y : X) → x ≡ Some y → Meets (k y) P) → Meets (need n x k) P
  unfolding Meets need
  need_meets n None k h = tt
  need_meets n (Some y) k h = h y refl

  pub need_of_meets : {X : Type 0} (n a : ℕ) (x : Option X) (k : X → Outcome) → ((y : X) → x ≡ Some y → Meets (k y) P) → Meets (need_of n a x k) P
  unfolding Meets need_of
  need_of_meets n a None k h = tt
  need_of_meets n a (Some y) k h = h y refl

  pub cond_meets : (b : Bool) (o o' : Outcome) → (b ≡ true → Meets o P) → (b ≡ false → Meets o' P) → Meets (cond b o o') P
  unfolding Meets
  cond_meets true o o' h h' = h refl
  cond_meets false o o' h h' = h' refl

  pub accepted_meets : (a : Answer) (o : Outcome) → Meets o P → Meets (if_accepted a o) P
  unfolding Meets if_accepted
  accepted_meets (Ok x) o h = h
  accepted_meets (Err r) o h = tt

  -- a write is posted
  pub post_meets : (a : Answer) (r : Reply) (v : Memory) (w : Write) → P v (Some w) → Meets (if_accepted a (accept r v (Some w))) P
  post_meets a r v w h = accepted_meets a (accept r v (Some w)) (accept_meets r v (Some w) h)
