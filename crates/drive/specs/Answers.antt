-- What each call of a drive answers, and what it may leave.
use Rattle.std.specs.Prelude.{◌≡◌, ℕ, ◌≤◌, cond, List, length, Ok, Err, Result, ◌==◌, nat_lt}
use Rattle.drive.specs.Faults.{Refusal, refusal}
use Rattle.drive.specs.Meaning.{State, readable, spoiled, Meaning, size, owed, shown, posted, complete}

abbrev pub Answer : Type 0
Answer = Result (Unit {0}) Refusal

abbrev pub refused : ℕ → ℕ → Answer
refused n a = Err (refusal n a)

-- question 23, of what an address shows
abbrev pub readable_answer : State → ℕ → Answer
readable_answer (readable bs) a = Ok tt
readable_answer spoiled a = refused 23 a

-- the first no of two answers
abbrev pub and_then : Answer → Answer → Answer
and_then (Ok x) r = r
and_then (Err f) r = Err f

-- questions 21 and 22, of a page of n bytes and a drive of t records
abbrev pub address_answer : ℕ → ℕ → ℕ → Answer
address_answer n a t = cond (n == 512) (cond (nat_lt a t) (Ok tt) (refused 22 a)) (refused 21 a)

-- questions 24 and 25
abbrev pub room_answer : ℕ → ℕ → ℕ → ℕ → ℕ → Answer
room_answer depth life owed wear a = cond (nat_lt owed depth) (cond (nat_lt wear life) (Ok tt) (refused 25 a)) (refused 24 a)

-- a read at address a into a page of n bytes
abbrev pub read_answer : Meaning → ℕ → ℕ → Answer
read_answer m a n = and_then (address_answer n a (size m)) (readable_answer (shown m a) a)

-- what the page holds after such an answer, where s is shown
abbrev pub filled_page : Answer → State → List ℕ → List ℕ
filled_page (Ok x) (readable bs) page = bs
filled_page (Ok x) spoiled page = page
filled_page (Err f) s page = page

abbrev pub read_page : Meaning → ℕ → List ℕ → List ℕ
read_page m a page = filled_page (read_answer m a (length page)) (shown m a) page

-- a post to address a of a page of n bytes
abbrev pub post_answer : ℕ → ℕ → Meaning → ℕ → ℕ → Answer
post_answer depth life m a n = and_then (address_answer n a (size m)) (room_answer depth life (owed m) m.wear a)

-- a post leaves n: after a refusal m itself, else the write added and some of the oldest completed
abbrev pub PostLeaves : {E : Type 0} → Result (Unit {0}) E → Meaning → ℕ → List ℕ → Meaning → Type 0
PostLeaves (Ok x) m a bs n = (k : ℕ) × (n ≡ complete k (posted m a bs))
PostLeaves (Err f) m a bs n = n ≡ m

-- the same, where exactly the oldest k are completed
abbrev pub after_post : {E : Type 0} → ℕ → Result (Unit {0}) E → Meaning → ℕ → List ℕ → Meaning
after_post k (Ok x) m a bs = complete k (posted m a bs)
after_post k (Err f) m a bs = m

-- a step leaves n: at least the oldest write completed, if there is one
abbrev pub Steps : Meaning → Meaning → Type 0
Steps m n = (k : ℕ) × ((1 ≤ k) × (n ≡ complete k m))
