-- A call that comes to its plan is carried out, and the steps of a plan as its questions are answered.
use Rattle.std.proofs.Common.{◌≡◌, ℕ, Bool, true, false, List, length, Some, None, Ok, Err, Option, Result, refl, ap, ◌∙◌, arith}
use Rattle.drive.specs.Answers.{Answer, post_answer}
use Rattle.drive.specs.Faults.{Refusal, refusal, no_record}
use Rattle.drive.specs.Meaning.{Meaning, Write, owed, posted, complete}
use Rattle.model.specs.Memory.{Memory}
use Rattle.model.specs.Outcomes.{Reply, Outcome, refuse, accept, ask, need, need_of, if_accepted, Rules, post, keep}
use Rattle.model.specs.Calls.{Call, plan, Volume, Polls}
use Rattle.model.specs.Histories.{Fitting, by_call, by_poll, by_cut, at_first, attach}
use Rattle.model.specs.Carried.{ComesTo, asked, or_refused, or_refused_at, CarriesOut, CarriesOutPoll, CarriesOutAttach}

-- ---- the steps of a plan

pub asked_yes : (n : ℕ) (b : Bool) (o : Outcome) → Ok tt ≡ asked n b → ask n b o ≡ o
unfolding ask
asked_yes n true o e = refl
asked_yes n false o e = let z : ◌≡◌ {A = ℕ} 0 1 = cc in absurd (omega arith)

pub asked_no : (n : ℕ) (b : Bool) (o : Outcome) (f : Refusal) → Err f ≡ asked n b → ask n b o ≡ refuse f
unfolding ask
asked_no n true o f e = let z : ◌≡◌ {A = ℕ} 0 1 = cc in absurd (omega arith)
asked_no n false o f e = cc

-- what is there, where the answer is that it is
pub some_of : {X : Type 0} (n : ℕ) (q : Option X) (x : X) → Ok x ≡ or_refused n q → q ≡ Some x
some_of n None x e = let z : ◌≡◌ {A = ℕ} 0 1 = cc in absurd (omega arith)
some_of n (Some y) x e = cc

pub needed_some : {X : Type 0} (n : ℕ) (q : Option X) (k : X → Outcome) (x : X) → Ok x ≡ or_refused n q → need n q k ≡ k x
unfolding need
needed_some n None k x e = let z : ◌≡◌ {A = ℕ} 0 1 = cc in absurd (omega arith)
needed_some n (Some y) k x e = ap k (cc)

pub needed_none : {X : Type 0} (n : ℕ) (q : Option X) (k : X → Outcome) (f : Refusal) → Err f ≡ or_refused n q → need n q k ≡ refuse f
unfolding need
needed_none n None k f e = cc
needed_none n (Some y) k f e = let z : ◌≡◌ {A = ℕ} 0 1 = cc in absurd (omega arith)

pub needed_at_some : {X : Type 0} (n a : ℕ) (q : Option X) (k : X → Outcome) (x : X) → Ok x ≡ or_refused_at n a q → need_of n a q k ≡ k x
unfolding need_of
needed_at_some n a None k x e = let z : ◌≡◌ {A = ℕ} 0 1 = cc in absurd (omega arith)
needed_at_some n a (Some y) k x e = ap k (cc)

pub needed_at_none : {X : Type 0} (n a : ℕ) (q : Option X) (k : X → Outcome) (f : Refusal) → Err f ≡ or_refused_at n a q → need_of n a q k ≡ refuse f
unfolding need_of
needed_at_none n a None k f e = cc
needed_at_none n a (Some y) k f e = let z : ◌≡◌ {A = ℕ} 0 1 = cc in absurd (omega arith)

pub accepted_yes : (r : Answer) (o : Outcome) → Ok tt ≡ r → if_accepted r o ≡ o
unfolding if_accepted
accepted_yes (Ok x) o e = refl
accepted_yes (Err f) o e = let z : ◌≡◌ {A = ℕ} 0 1 = cc in absurd (omega arith)

pub accepted_no : (r : Answer) (o : Outcome) (f : Refusal) → Err f ≡ r → if_accepted r o ≡ refuse f
unfolding if_accepted
accepted_no (Ok x) o f e = let z : ◌≡◌ {A = ℕ} 0 1 = cc in absurd (omega arith)
accepted_no (Err y) o f e = cc

-- ---- what a call answers and leaves

-- a refusal changes nothing
pub refusing : (v u : Volume) (a : Result Reply Refusal) (o : Outcome) (f : Refusal) → o ≡ refuse f → a ≡ Err f → u ≡ v → ComesTo o v u a
refusing v u a o f is tells same = rw is (record { answers = tells; leaves = same })

-- an accepted call that posts nothing
pub keeping : (v u : Volume) (a : Result Reply Refusal) (o : Outcome) (r : Reply) (x : Memory) → o ≡ keep r x → a ≡ Ok r → u.memory ≡ x → u.drive ≡ v.drive → ComesTo o v u a
keeping v u a o r x is tells held same = rw is (record { answers = tells; leaves = (held, same) })

-- a call that posts its write, once the drive has answered
pub posting : (g : Rules) (v u : Volume) (a : Result Reply Refusal) (o : Outcome) (r : Reply) (x : Memory) (w : Write) (k : ℕ) → o ≡ post g v.drive r x w
    → Ok tt ≡ post_answer g.depth g.life v.drive w.at (length w.bytes) → a ≡ Ok r → u.memory ≡ x
    → u.drive ≡ complete k (posted v.drive w.at w.bytes) → ComesTo o v u a
posting g v u a o r x w k is agreed tells held left =
    let whole : o ≡ accept r x (Some w) = is ∙ accepted_yes _ _ agreed in rw whole (record { answers = tells; leaves = (held, (k, left)) })

-- a post that the drive refuses
pub post_refused : (g : Rules) (v u : Volume) (a : Result Reply Refusal) (o : Outcome) (r : Reply) (x : Memory) (w : Write) (f : Refusal) → o ≡ post g v.drive r x w
    → Err f ≡ post_answer g.depth g.life v.drive w.at (length w.bytes) → a ≡ Err f → u ≡ v → ComesTo o v u a
post_refused g v u a o r x w f is no' tells same = refusing v u a o f (is ∙ accepted_no _ _ f no') tells same

-- the same, where the page that was posted holds the bytes that the plan writes
pub posting_page : (g : Rules) (v u : Volume) (a : Result Reply Refusal) (o : Outcome) (r : Reply) (x : Memory) (w : Write) (page : List ℕ) (k : ℕ) → o ≡ post g v.drive r x w → page ≡ w.bytes
    → Ok tt ≡ post_answer g.depth g.life v.drive w.at (length page) → a ≡ Ok r → u.memory ≡ x
    → u.drive ≡ complete k (posted v.drive w.at page) → ComesTo o v u a
posting_page g v u a o r x w page k is holds agreed tells held left =
    posting g v u a o r x w k is (agreed ∙ ap (λ bs. post_answer g.depth g.life v.drive w.at (length bs)) holds) tells held
    (left ∙ ap (λ bs. complete k (posted v.drive w.at bs)) holds)

pub post_refused_page : (g : Rules) (v u : Volume) (a : Result Reply Refusal) (o : Outcome) (r : Reply) (x : Memory) (w : Write) (page : List ℕ) (f : Refusal) → o ≡ post g v.drive r x w → page ≡ w.bytes
    → Err f ≡ post_answer g.depth g.life v.drive w.at (length page) → a ≡ Err f → u ≡ v → ComesTo o v u a
post_refused_page g v u a o r x w page f is holds no' tells same =
    post_refused g v u a o r x w f is (no' ∙ ap (λ bs. post_answer g.depth g.life v.drive w.at (length bs)) holds) tells same

-- ---- calls

-- what a plan comes to decides what its call has to answer and leave, and the volume stays reached
pub carried : (g : Rules) (c : Call) (v u : Volume) (a : Result Reply Refusal) → Fitting c → ComesTo (plan g c v.drive v.memory) v u a → CarriesOut g c v u a
carried g c v u a fits done =
    record {
      answers = done.answers;
      leaves = done.leaves;
      stays_reached = λ m h r. by_call c (plan g c v.drive v.memory) h v u r fits refl done.leaves;
    }

pub carried_poll : (g : Rules) (v u : Volume) (n : ℕ) → Polls v u → n ≡ owed u.drive → CarriesOutPoll g v u n
carried_poll g v u n p e = record { polls = p; answers = e; stays_reached = λ m h r. by_poll h v u r p }

pub carried_attach : (g : Rules) (m : Meaning) (u : Volume) → u ≡ attach m → CarriesOutAttach g m u
carried_attach g m u e =
    record {
      attaches = e;
      reached_at_first = rw e at_first;
      reached_after_a_cut = λ o h h' v d r w i. rw e (by_cut h h' v d m r w i);
    }

pub found_some : {X : Type 0} (n : ℕ) (q : Option X) (k : X → Outcome) (x : X) → Some x ≡ q → need n q k ≡ k x
unfolding need
found_some n None k x e = let z : ◌≡◌ {A = ℕ} 0 1 = cc in absurd (omega arith)
found_some n (Some y) k x e = ap k (cc)

pub found_none : {X : Type 0} (n : ℕ) (q : Option X) (k : X → Outcome) → None ≡ q → need n q k ≡ refuse (refusal n no_record)
unfolding need
found_none n None k e = refl
found_none n (Some y) k e = let z : ◌≡◌ {A = ℕ} 0 1 = cc in absurd (omega arith)
