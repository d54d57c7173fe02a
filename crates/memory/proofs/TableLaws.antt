-- Tests over the slots of a file and over the table of files, in the words of the library.
use Rattle.std.proofs.Common.{◌≡◌, ℕ, ◌&&◌, ◌||◌, List, [], ◌∷◌, Option, refl, ap, Some, None, Ok, Err, sym, ◌∙◌, arith}
use Rattle.std.specs.List.{list_all, list_any}
use Rattle.model.specs.declared.memory.Slot.{Slot}
use Rattle.model.specs.declared.memory.File.{File}
use Rattle.model.specs.Memory.{is_entry, in_some_file, Memory, file_of, with_file}
use Rattle.model.specs.Slots.{at_rest, all_at_rest, with_slot}
use Rattle.std.proofs.lemmas.List.{set-get_or}
use Rattle.drive.specs.Answers.{Answer}
use Rattle.drive.specs.Faults.{Refusal, refusal, no_record}
use Rattle.model.specs.Outcomes.{Outcome, refuse, need}
use Rattle.model.proofs.CarriedLaws.{found_some, found_none}
use Rattle.memory.specs.Slots.{slot_changed}

pub each_at_rest : (ss : List Slot) → list_all at_rest ss ≡ all_at_rest ss
each_at_rest [] = refl
each_at_rest (s ∷ ss) = ap (λ b. at_rest s && b) (each_at_rest ss)

pub in_some : (fs : List (Option File)) (n : ℕ) → in_some_file fs n ≡ list_any (λ f. is_entry f n) fs
in_some [] n = refl
in_some (f ∷ fs) n = ap (λ b. is_entry f n || b) (in_some fs n)

pub unchanged_file : (v : Memory) (i : ℕ) → with_file v i (file_of v i) ≡ v
unchanged_file v i =
    ap (λ fs. record { phase = v.phase; chart = v.chart; counts = v.counts; service = v.service; unsettled = v.unsettled; tickets = v.tickets; files = fs; id = v.id; entries = v.entries; trouble = v.trouble }) (set-get_or v.files i None)

pub given_back : (v : Memory) (i : ℕ) (x y : File) → file_of v i ≡ Some x → y ≡ x → with_file v i (Some y) ≡ v
given_back v i x y e same = ap (λ z. with_file v i (Some z)) same ∙ (ap (with_file v i) (sym e) ∙ unchanged_file v i)

-- a call on a slot, as the plan puts question 10
pub slot_refused : (x y : File) (p : ℕ) (q : Option Slot) (f : Refusal) (k : Slot → Outcome) → (Err f, y) ≡ slot_changed x p q → (need 10 q k ≡ refuse f) × (y ≡ x)
slot_refused x y p None f k e =
    let told : Err f ≡ (slot_changed x p None).0 = ap (λ z. z.0) e in
    let is : f ≡ refusal 10 no_record = cc in
    (found_none 10 None k refl ∙ ap refuse (sym is), ap (λ z. z.1) e)
slot_refused x y p (Some s) f k e = let t : ◌≡◌ {A = Answer} (Err f) (Ok tt) = ap (λ z. z.0) e in let z : ◌≡◌ {A = ℕ} 0 1 = cc in absurd (omega arith)

pub slot_accepted : (x y : File) (p : ℕ) (q : Option Slot) (k : Slot → Outcome) → (Ok tt, y) ≡ slot_changed x p q
    → (s : Slot) × (need 10 q k ≡ k s) × (y ≡ with_slot x p s)
slot_accepted x y p None k e = let t : ◌≡◌ {A = Answer} (Ok tt) (Err (refusal 10 no_record)) = ap (λ z. z.0) e in let z : ◌≡◌ {A = ℕ} 0 1 = cc in absurd (omega arith)
slot_accepted x y p (Some s) k e = (s, found_some 10 (Some s) k s refl, ap (λ z. z.1) e)
