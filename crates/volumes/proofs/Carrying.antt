-- Steps that several calls share on the way to their plans.
use Rattle.std.proofs.Common.{◌≡◌, ℕ, ◌<◌, Bool, eqb, List, length, get_or, Ok, Err, IsErrAnd, Option, Result, refl, ap, ◌∙◌, ap₂, inl, inr, arith, w8, Fits, cond, ltb, Some, None}
use Rattle.std.specs.List.{AllByRecursion}
use Rattle.std.proofs.ByRecursion.{All-from_get_or}
use Rattle.std.proofs.lemmas.Bool.{cases_eq, ne_eqb, cases_lt, le-ltb}
use Rattle.drive.specs.declared.fault.Fault.{Fault}
use Rattle.drive.specs.Answers.{post_answer}
use Rattle.drive.specs.Faults.{Refusal, told, refusal, no_record}
use Rattle.drive.specs.Meaning.{Write, posted, complete}
use Rattle.record.specs.declared.entry.Entry.{Entry}
use Rattle.memory.specs.View.{came_to, UnlessAcceptedSame}
use Rattle.model.specs.Calls.{Call, plan, Volume}
use Rattle.model.specs.Carried.{CarriesOut, ComesTo, asked, or_refused_at, replied, or_refused}
use Rattle.model.specs.Plans.{entry_when, slot_of, and_then}
use Rattle.model.specs.Histories.{Fitting}
use Rattle.model.specs.Memory.{Memory, held}
use Rattle.model.specs.Outcomes.{Reply, Outcome, refuse, ask, Rules, post, keep}
use Rattle.model.proofs.CarriedLaws.{asked_yes, carried, refusing, keeping, posting_page, post_refused_page}
use Rattle.model.specs.declared.memory.File.{File}
use Rattle.model.specs.declared.memory.Slot.{Slot}
use Rattle.model.specs.declared.memory.Slot.TheVariants.{Empty}

-- a volume is as it was, where its drive and its memory are
pub volume_same : {v u : Volume} → u.drive ≡ v.drive → u.memory ≡ v.memory → u ≡ v
volume_same drive memory = ap₂ {C = Volume} (λ m n. record { drive = m; memory = n }) drive memory

-- a call on the memory alone is carried out
pub remembered : {X : Type 0} (g : Rules) (c : Call) (v u : Volume) (reply : X → Reply) (r : Result X Fault) → Fitting c
    → plan g c v.drive v.memory ≡ came_to (replied reply r) u.memory → UnlessAcceptedSame r v.memory u.memory → u.drive ≡ v.drive
    → CarriesOut g c v u (replied reply r)
remembered g c v u reply (Ok x) fits is same drive =
    carried g c v u (Ok (reply x)) fits (keeping v u (Ok (reply x)) _ (reply x) u.memory is refl refl drive)
remembered g c v u reply (Err f) fits is same drive =
    carried g c v u (Err (told f)) fits (refusing v u (Err (told f)) _ (told f) is refl (volume_same drive same))

-- the bytes of a program are below 256
pub bytes_fit : (bs : List ℕ) → ((i : ℕ) → Fits w8 (get_or bs i 0)) → AllByRecursion (λ b. b < 256) bs
bytes_fit bs h = All-from_get_or (λ b. b < 256) bs 0 (λ i _. (h i).fits)

-- two numbers are the same, where a question that asks that is answered yes
asked_same : (q n k : ℕ) → Ok tt ≡ asked q (eqb n k) → n ≡ k
asked_same q n k e =
    elim (cases_eq n k) [
      | inl h ↦ h
      | inr h ↦
          let other = ap (asked q) (ne_eqb n k h) in
          let z : ◌≡◌ {A = ℕ} 0 1 = cc in absurd (omega arith)
    ]

-- the page has 512 bytes, where question 1 is answered yes
pub page_long : (n : ℕ) → Ok tt ≡ asked 1 (eqb n 512) → n ≡ 512
page_long n e = asked_same 1 n 512 e

-- the tally has a byte for each record, where question 5 is answered yes
pub tally_long : (n t : ℕ) → Ok tt ≡ asked 5 (eqb n t) → n ≡ t
tally_long n t e = asked_same 5 n t e

-- a plan whose page is long enough and whose phase fits goes on
pub page_and_phase : (n : ℕ) (b : Bool) (o : Outcome) → Ok tt ≡ asked 1 (eqb n 512) → Ok tt ≡ asked 2 b → ask 1 (eqb n 512) (ask 2 b o) ≡ o
page_and_phase n b o page phase = asked_yes _ _ _ page ∙ asked_yes _ _ _ phase

-- question 9, of an entry that was read as it shows
pub asked_of_shown : (t : Entry → Bool) (a : ℕ) (q shows : Option Entry) (r : Result Entry Refusal) → r ≡ or_refused_at 9 a (entry_when t q) → q ≡ shows → r ≡ or_refused_at 9 a (entry_when t shows)
asked_of_shown t a q shows r e is = e ∙ ap {B = Result Entry Refusal} (λ o. or_refused_at 9 a (entry_when t o)) is

-- ---- calls that the exit of a `?` refuses

-- the exit of a `?` returns the fault of the step
pub exit_is : {X : Type 0} (r : Result X Fault) (f : Fault) → IsErrAnd r (λ e. e ≡ f) → r ≡ Err f
exit_is (Ok x) f exit = absurd exit
exit_is (Err e) f exit = ap {B = Result _ Fault} (λ y. Err y) exit

-- what the exit of a `?` tells is that fault
pub exit_tells : {X : Type 0} (reply : X → Reply) (r : Result X Fault) (f : Fault) → IsErrAnd r (λ e. e ≡ f) → replied reply r ≡ Err (told f)
exit_tells reply r f exit = ap (λ x. replied reply x) (exit_is r f exit)

-- a plan that refuses comes to the exit of a `?`
pub exit_refused : {X : Type 0} {o : Outcome} {v : Volume} (reply : X → Reply) (r : Result X Fault) (f : Fault) → IsErrAnd r (λ e. e ≡ f)
    → o ≡ refuse (told f) → ComesTo o v v (replied reply r)
exit_refused reply r f exit is = refusing _ _ _ _ _ is (exit_tells reply r f exit) refl

-- a plan that posts comes to the exit of a `?`, where the drive refuses the page
pub exit_post_refused : {X : Type 0} {o : Outcome} {v u : Volume} {page : List ℕ} (reply : X → Reply) (r : Result X Fault) (f : Fault) (g : Rules) (a : Reply) (x : Memory) (w : Write)
    → IsErrAnd r (λ e. e ≡ f) → o ≡ post g v.drive a x w → page ≡ w.bytes → Err (told f) ≡ post_answer g.depth g.life v.drive w.at (length page)
    → u.drive ≡ v.drive → u.memory ≡ v.memory → ComesTo o v u (replied reply r)
exit_post_refused reply r f g a x w exit is holds no' drive memory =
    post_refused_page g _ _ _ _ a x w _ (told f) is holds no' (exit_tells reply r f exit) (volume_same drive memory)

-- the call is carried out by the exit of a `?`, where its plan refuses
pub call_refused : {X : Type 0} {g : Rules} {c : Call} {v : Volume} (reply : X → Reply) (r : Result X Fault) (f : Fault) → Fitting c → IsErrAnd r (λ e. e ≡ f)
    → plan g c v.drive v.memory ≡ refuse (told f) → CarriesOut g c v v (replied reply r)
call_refused reply r f fits exit is = carried _ _ _ _ _ fits (exit_refused reply r f exit is)

-- the same, where its plan posts and the drive refuses the page
pub call_post_refused : {X : Type 0} {g : Rules} {c : Call} {v u : Volume} {page : List ℕ} (reply : X → Reply) (r : Result X Fault) (f : Fault) (a : Reply) (x : Memory) (w : Write)
    → Fitting c → IsErrAnd r (λ e. e ≡ f) → plan g c v.drive v.memory ≡ post g v.drive a x w → page ≡ w.bytes
    → Err (told f) ≡ post_answer g.depth g.life v.drive w.at (length page) → u.drive ≡ v.drive → u.memory ≡ v.memory → CarriesOut g c v u (replied reply r)
call_post_refused reply r f a x w fits exit is holds no' drive memory =
    carried _ _ _ _ _ fits (exit_post_refused reply r f _ a x w exit is holds no' drive memory)

-- the call is carried out, where its plan leads to an outcome that was come to
pub call_leads : {g : Rules} {c : Call} {v u : Volume} {o : Outcome} {a b : Result Reply Refusal} → Fitting c → plan g c v.drive v.memory ≡ o → b ≡ a → ComesTo o v u a → CarriesOut g c v u b
call_leads fits leads tells done = carried _ _ _ _ _ fits (rw (leads, tells) done)

-- ---- calls that are accepted

-- the call is carried out, where its plan keeps a memory and posts nothing
pub call_kept : {g : Rules} {c : Call} {v u : Volume} {r : Reply} {x : Memory} → Fitting c → plan g c v.drive v.memory ≡ keep r x → u.memory ≡ x → u.drive ≡ v.drive
    → CarriesOut g c v u (Ok r)
call_kept fits is held drive = carried _ _ _ _ _ fits (keeping _ _ _ _ _ _ is refl held drive)

-- the call is carried out, where its plan posts and the drive accepts the page
pub call_posted : {g : Rules} {c : Call} {v u : Volume} {r : Reply} {x : Memory} {page : List ℕ} (w : Write) → Fitting c → plan g c v.drive v.memory ≡ post g v.drive r x w
    → page ≡ w.bytes → Ok tt ≡ post_answer g.depth g.life v.drive w.at (length page) → u.memory ≡ x → (k : ℕ) × (u.drive ≡ complete k (posted v.drive w.at page))
    → CarriesOut g c v u (Ok r)
call_posted w fits is holds agreed held after =
    carried _ _ _ _ _ fits (posting_page _ _ _ _ _ _ _ w _ after.0 is holds agreed refl held after.1)

-- a slot of a file is below 64
pub slot_within : {X : Type 0} (n : ℕ) (x : File) (p : ℕ) (k : Slot → Option X) (y : X) → Ok y ≡ or_refused n (and_then (slot_of x p) k) → p < 64
slot_within n x p k y e =
    elim (cases_lt p 64) [
      | inl h ↦ h
      | inr h ↦
          let past : or_refused n (and_then (slot_of x p) k) ≡ Err (refusal n no_record) = ap (λ b. or_refused n (and_then (cond b (Some (get_or x.slots p Empty)) None) k)) (le-ltb p 64 h) in
          let z : ◌≡◌ {A = ℕ} 0 1 = cc in absurd (omega arith)
    ]

-- there is room for one more address, where question 13 is answered yes
pub room_within : (v : Memory) → Ok tt ≡ asked 13 (ltb (held v) 32) → held v < 32
room_within v e =
    elim (cases_lt (held v) 32) [
      | inl h ↦ h
      | inr h ↦
          let none = ap (asked 13) (le-ltb (held v) 32 h) in
          let z : ◌≡◌ {A = ℕ} 0 1 = cc in absurd (omega arith)
    ]
