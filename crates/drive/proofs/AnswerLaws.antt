-- What an accepted call tells.
use Rattle.std.proofs.Common.{◌≡◌, ℕ, ◌<◌, Bool, true, false, cond, eqb, ltb, List, Ok, Err, refl, ◌∙◌, arith, length, sym}
use Rattle.std.proofs.lemmas.Bool.{eqb-true, ltb-true}
use Rattle.drive.specs.Answers.{Answer, and_then, address_answer, room_answer, post_answer, read_answer, read_page, filled_page}
use Rattle.drive.specs.Faults.{Refusal}
use Rattle.drive.specs.Meaning.{Meaning, readable, size, owed, shown, posted, complete, WellFormed}
use Rattle.drive.proofs.FormedLaws.{posted_inside}
use Rattle.drive.proofs.MeaningLaws.{completing_changes_nothing_shown, a_posted_write_is_shown_and_no_other_address_changes}

pub passed : (b : Bool) (x : Answer) (f : Refusal) → Ok tt ≡ cond b x (Err f) → (b ≡ true) × (Ok tt ≡ x)
passed true x f e = (refl, e)
passed false x f e = let z : ◌≡◌ {A = ℕ} 0 1 = cc in absurd (omega arith)

both_passed : (x y : Answer) → Ok tt ≡ and_then x y → (Ok tt ≡ x) × (Ok tt ≡ y)
both_passed (Ok u) y e = (refl, e)
both_passed (Err f) y e = let z : ◌≡◌ {A = ℕ} 0 1 = cc in absurd (omega arith)

pub address_passed : (n a t : ℕ) → Ok tt ≡ address_answer n a t → (n ≡ 512) × (a < t)
address_passed n a t e =
    let p = passed (eqb n 512) _ _ e in
    let q = passed (ltb a t) _ _ p.1 in
    (eqb-true n 512 p.0, ltb-true a t q.0)

pub room_passed : (depth life owing wear a : ℕ) → Ok tt ≡ room_answer depth life owing wear a → (owing < depth) × (wear < life)
room_passed depth life owing wear a e =
    let p = passed (ltb owing depth) _ _ e in
    let q = passed (ltb wear life) _ _ p.1 in
    (ltb-true owing depth p.0, ltb-true wear life q.0)

-- what an accepted post of n bytes to a tells of the drive before it
pub record Accepted (depth life : ℕ) (m : Meaning) (a n : ℕ) : Type 0 where
  pub paged : n ≡ 512
  pub within : a < size m
  pub room : owed m < depth
  pub alive : m.wear < life

pub accepted : (depth life : ℕ) (m : Meaning) (a n : ℕ) → Ok tt ≡ post_answer depth life m a n → Accepted depth life m a n
accepted depth life m a n e =
    let both = both_passed (address_answer n a (size m)) (room_answer depth life (owed m) m.wear a) e in
    let p = address_passed n a (size m) both.0 in
    let q = room_passed depth life (owed m) m.wear a both.1 in
    record { paged = p.0; within = p.1; room = q.0; alive = q.1 }

-- what was posted is shown, whatever the drive has completed
pub shown_back : (m : Meaning) (a k : ℕ) (bs : List ℕ) → WellFormed m → a < size m → shown (complete k (posted m a bs)) a ≡ readable bs
shown_back m a k bs formed within =
    completing_changes_nothing_shown (posted m a bs) k a (posted_inside m a bs formed within)
    ∙ (a_posted_write_is_shown_and_no_other_address_changes m a a bs).0

-- a page that was read where bs is shown
pub read_back : (m : Meaning) (a : ℕ) (bs page : List ℕ) → shown m a ≡ readable bs → Ok tt ≡ read_answer m a (length page) → read_page m a page ≡ bs
read_back m a bs page e ok = λ i. filled_page (sym ok i) (e i) page
