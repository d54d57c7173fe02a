-- What a drive means: a settled state for each address, the writes outstanding, and the wear.
use Rattle.std.specs.Prelude.{◌≡◌, ℕ, ◌+◌, ◌<◌, ◌≤◌, Bool, false, cond, ◌||◌, List, [], ◌∷◌, ◌++◌, length, take, drop, ◌==◌, slice_index_or, slice_set}
use Rattle.std.specs.List.{AllByRecursion}

-- what lies at an address: a record's bytes, or nothing that can be read
pub data State : Type 0 where
  readable : List ℕ → State
  spoiled : State

pub record Write : Type 0 where
  pub at : ℕ
  pub bytes : List ℕ

-- the outstanding writes stand oldest first; the wear counts the writes ever accepted
pub record Meaning : Type 0 where
  pub settled : List State
  pub outstanding : List Write
  pub wear : ℕ

-- T, how many records there are: their addresses are 0 to T - 1
abbrev pub size : Meaning → ℕ
size m = length m.settled

-- how many writes are outstanding
abbrev pub owed : Meaning → ℕ
owed m = length m.outstanding

-- what is settled at an address; past the last record nothing can be read
abbrev pub settled_at : Meaning → ℕ → State
settled_at m a = slice_index_or m.settled a spoiled

-- the youngest of the writes to a, or else s
abbrev pub youngest : List Write → ℕ → State → State
youngest [] a s = s
youngest (w ∷ ws) a s = youngest ws a (cond (w.at == a) (readable w.bytes) s)

-- what an address shows: its youngest outstanding write, or else its settled state
abbrev pub shown : Meaning → ℕ → State
shown m a = youngest m.outstanding a (settled_at m a)

-- whether one of the writes is to a
abbrev pub any_to : List Write → ℕ → Bool
any_to [] a = false
any_to (w ∷ ws) a = w.at == a || any_to ws a

abbrev pub pending : Meaning → ℕ → Bool
pending m a = any_to m.outstanding a

-- one write more, the youngest, and 1 more of wear
abbrev pub posted : Meaning → ℕ → List ℕ → Meaning
posted m a bs =
    record { settled = m.settled; outstanding = m.outstanding ++ (record { at = a; bytes = bs } ∷ []); wear = m.wear + 1 }

-- the states once the writes are settled, in their order
abbrev pub settle : List Write → List State → List State
settle [] ss = ss
settle (w ∷ ws) ss = settle ws (slice_set ss w.at (readable w.bytes))

-- the oldest k writes completed, or all where there are fewer
abbrev pub complete : ℕ → Meaning → Meaning
complete k m = record { settled = settle (take k m.outstanding) m.settled; outstanding = drop k m.outstanding; wear = m.wear }

-- all outstanding writes completed
abbrev pub calm : Meaning → Meaning
calm m = record { settled = settle m.outstanding m.settled; outstanding = []; wear = m.wear }

-- what holds of each write of a list
abbrev pub EveryWrite : (Write → Type 0) → List Write → Type 0
EveryWrite P [] = Unit {0}
EveryWrite P (w ∷ ws) = P w × EveryWrite P ws

-- the bytes of a record: 512 numbers below 256
abbrev pub RecordBytes : List ℕ → Type 0
RecordBytes bs = (length bs ≡ 512) × AllByRecursion (λ b. b < 256) bs

abbrev pub WellFormedState : State → Type 0
WellFormedState (readable bs) = RecordBytes bs
WellFormedState spoiled = Unit {0}

-- every write is to a record of the drive, and every record has its bytes
pub record WellFormed (m : Meaning) : Type 0 where
  pub small : size m ≤ 65535
  pub inside : EveryWrite (λ w. (w.at < size m) × RecordBytes w.bytes) m.outstanding
  pub full : (a : ℕ) → a < size m → WellFormedState (settled_at m a)
