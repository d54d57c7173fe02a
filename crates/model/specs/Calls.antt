-- The calls of a volume, what each comes to, and what a volume and its drive are afterwards.
use Rattle.std.specs.Prelude.{◌≡◌, ℕ, List, Some, None, Option}
use Rattle.drive.specs.Meaning.{Write, Meaning, posted, complete}
use Rattle.drive.specs.Answers.{Steps}
use Rattle.model.specs.Memory.{Memory}
use Rattle.model.specs.Outcomes.{Outcome, refuse, accept, Rules}
use Rattle.model.specs.Plans.{open_plan, close_plan, finish_plan, create_plan, activate_plan, deactivate_plan, update_plan, place_plan, read_plan, clear_plan, reclaim_plan, withdraw_plan, deposit_plan, balance_plan, drain_plan, joined}
use Rattle.model.specs.Mending.{salvage_plan}

-- a call with its arguments; a page is handed in by its length, but for the page that is placed
pub data Call : Type 0 where
  open' : (page : ℕ) → Call
  create : (page file number meter : ℕ) → Call
  activate : (page file number : ℕ) → Call
  withdraw : Call
  place : (bytes : List ℕ) (file slot ticket address : ℕ) → Call
  deposit : (ticket address : ℕ) → Call
  read : (page file slot : ℕ) → Call
  update : (page file : ℕ) → Call
  clear : (file slot : ℕ) → Call
  reclaim : (file slot : ℕ) → Call
  deactivate : (file : ℕ) → Call
  balance : (page : ℕ) → Call
  close : Call
  drain : (page : ℕ) → Call
  finish : (page : ℕ) → Call
  salvage : (page tally : ℕ) → Call

unfoldable pub plan : Rules → Call → Meaning → Memory → Outcome
plan g (open' n) m v = open_plan g n m v
plan g (create n f e meter) m v = create_plan g n f e meter m v
plan g (activate n f e) m v = activate_plan n f e m v
plan g withdraw m v = withdraw_plan v
plan g (place bs f p t a) m v = place_plan g bs f p t a m v
plan g (deposit t a) m v = deposit_plan t a v
plan g (read n f p) m v = read_plan n f p m v
plan g (update n f) m v = update_plan g n f m v
plan g (clear f p) m v = clear_plan f p v
plan g (reclaim f p) m v = reclaim_plan f p m v
plan g (deactivate f) m v = deactivate_plan f v
plan g (balance n) m v = balance_plan g n m v
plan g close m v = close_plan v
plan g (drain n) m v = drain_plan g n m v
plan g (finish n) m v = finish_plan g n m v
plan g (salvage n c) m v = salvage_plan g n c m v

-- a volume: what its drive means, and what it keeps in memory
pub record Volume : Type 0 where
  pub drive : Meaning
  pub memory : Memory

-- the drive with a call's write posted and none completed
abbrev pub with_write : Option Write → Meaning → Meaning
with_write None m = m
with_write (Some w) m = posted m w.at w.bytes

-- what the drive may be after a call that posts at most one write
abbrev pub DriveFollows : Option Write → Meaning → Meaning → Type 0
DriveFollows None m n = n ≡ m
DriveFollows (Some w) m n = (k : ℕ) × (n ≡ complete k (posted m w.at w.bytes))

-- what a call leaves
abbrev pub Leaves : Outcome → Volume → Volume → Type 0
Leaves (refuse r) v u = u ≡ v
Leaves (accept r x w) v u = (u.memory ≡ x) × DriveFollows w v.drive u.drive

-- poll steps the drive, and unsettled addresses join those in service once their section is written
pub record Polls (v u : Volume) : Type 0 where
  pub steps : Steps v.drive u.drive
  pub joins : u.memory ≡ joined u.drive v.memory v.memory.chart
