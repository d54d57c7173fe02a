-- A post that cannot be refused.
use Rattle.std.proofs.Common.{◌≡◌, ℕ, ◌<◌, ◌≤◌, List, [], length, Ok, Result, refl, ap, ◌∙◌, arith, Err}
use Rattle.std.proofs.lemmas.Bool.{eq-eqb, lt-ltb}
use Rattle.drive.specs.declared.fault.Fault.{Fault}
use Rattle.drive.specs.Answers.{post_answer}
use Rattle.drive.specs.Meaning.{Meaning, size, owed, posted, calm}
use Rattle.store.specs.Through.{after_writing}
use Rattle.drive.specs.Faults.{said}

pub accepts : (depth life : ℕ) (m : Meaning) (a n : ℕ) → 1 ≤ depth → n ≡ 512 → a < size m → m.outstanding ≡ [] → m.wear < life
    → post_answer depth life m a n ≡ Ok tt
accepts depth life m a n deep paged inside quiet alive =
    let none : owed m ≡ 0 = ap length quiet in
    let room : owed m < depth = omega arith in
    rw (eq-eqb n 512 paged, lt-ltb a (size m) inside, lt-ltb (owed m) depth room, lt-ltb m.wear life alive) refl

pub after_accepted : (r : Result (Unit {0}) Fault) (m n : Meaning) (a : ℕ) (bs : List ℕ) → r ≡ Ok tt → n ≡ after_writing r m a bs → n ≡ calm (posted m a bs)
after_accepted r m n a bs e f = f ∙ ap (λ x. after_writing x m a bs) e

pub said_ok : (r : Result (Unit {0}) Fault) → said r ≡ Ok tt → r ≡ Ok tt
said_ok (Ok x) e = refl
said_ok (Err f) e = let z : ◌≡◌ {A = ℕ} 0 1 = cc in absurd (omega arith)
