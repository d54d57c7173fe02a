-- Histories of calls, polls and power cuts on a volume made new.
use Rattle.std.specs.Prelude.{◌≡◌, ℕ, ◌^◌, ◌<◌, Bool, true, false, cond, ◌⊎◌, List, [], ◌∷◌, Some, None, Option, ◌==◌}
use Rattle.std.specs.List.{AllByRecursion}
use Rattle.drive.specs.Cuts.{Image}
use Rattle.drive.specs.Meaning.{State, readable, Write, Meaning, posted, settled_at}
use Rattle.record.specs.Entries.{free_entry}
use Rattle.model.specs.Volume.{entry_at, entry_bytes}
use Rattle.model.specs.Memory.{attached, Memory}
use Rattle.model.specs.Outcomes.{Reply, Outcome, refuse, accept, Rules}
use Rattle.model.specs.Calls.{Call, open', create, activate, withdraw, place, deposit, read, update, clear, reclaim, deactivate, balance, close, drain, finish, salvage, plan, Volume, Leaves, Polls}

-- what happened: a call with what it came to, a call that had posted its write when the power went, a cut and its image
pub data Event : Type 0 where
  called : Call → Outcome → Event
  cut_short : Call → Event
  cut : Meaning → Event

-- newest first
abbrev pub History : Type 0
History = List Event

-- a call's arguments fit their types: a meter number has 32 bits, an address 16, a page's bytes 8
abbrev pub Fitting : Call → Type 0
Fitting (create n f e meter) = meter < 2 ^ 32
Fitting (place bs f p t a) = (a < 2 ^ 16) × AllByRecursion (λ b. b < 256) bs
Fitting (deposit t a) = a < 2 ^ 16
Fitting (open' n) = Unit {0}
Fitting (activate n f e) = Unit {0}
Fitting withdraw = Unit {0}
Fitting (read n f p) = Unit {0}
Fitting (update n f) = Unit {0}
Fitting (clear f p) = Unit {0}
Fitting (reclaim f p) = Unit {0}
Fitting (deactivate f) = Unit {0}
Fitting (balance n) = Unit {0}
Fitting close = Unit {0}
Fitting (drain n) = Unit {0}
Fitting (finish n) = Unit {0}
Fitting (salvage n c) = Unit {0}

-- a drive attached
abbrev pub attach : Meaning → Volume
attach m = record { drive = m; memory = attached }

-- the moments at which the power may go: before a call posts, or once it has posted
pub data Moment (g : Rules) (h : History) (v : Volume) : History → Meaning → Type 0 where
  resting : Moment g h v h v.drive
  inside : (c : Call) (r : Reply) (x : Memory) (w : Write) → Fitting c → plan g c v.drive v.memory ≡ accept r x (Some w)
      → Moment g h v (cut_short c ∷ h) (posted v.drive w.at w.bytes)

-- the volumes that a history leads to from a drive
pub data Reached (g : Rules) (m : Meaning) : History → Volume → Type 0 where
  at_first : Reached g m [] (attach m)
  by_call : (c : Call) (r : Outcome) (h : History) (v u : Volume) → Reached g m h v → Fitting c → plan g c v.drive v.memory ≡ r → Leaves r v u
      → Reached g m (called c r ∷ h) u
  by_poll : (h : History) (v u : Volume) → Reached g m h v → Polls v u → Reached g m h u
  by_cut : (h h' : History) (v : Volume) (d n : Meaning) → Reached g m h v → Moment g h v h' d → Image d n → Reached g m (cut n ∷ h') (attach n)

-- ---- what a history says

abbrev pub is_accepted : Outcome → Bool
is_accepted (refuse r) = false
is_accepted (accept r x w) = true

-- the entry that a call takes for file f
abbrev pub takes_entry : Call → ℕ → Option ℕ → Option ℕ
takes_entry (create n f e meter) f' old = cond (f == f') (Some e) old
takes_entry (activate n f e) f' old = cond (f == f') (Some e) old
takes_entry (open' n) f' old = old
takes_entry withdraw f' old = old
takes_entry (place bs f p t a) f' old = old
takes_entry (deposit t a) f' old = old
takes_entry (read n f p) f' old = old
takes_entry (update n f) f' old = old
takes_entry (clear f p) f' old = old
takes_entry (reclaim f p) f' old = old
takes_entry (deactivate f) f' old = old
takes_entry (balance n) f' old = old
takes_entry close f' old = old
takes_entry (drain n) f' old = old
takes_entry (finish n) f' old = old
takes_entry (salvage n c) f' old = old

-- the entry that the last accepted create or activate of file f took
abbrev pub entry_of_file : History → ℕ → Option ℕ
entry_of_file [] f = None
entry_of_file (called c r ∷ h) f = cond (is_accepted r) (takes_entry c f (entry_of_file h f)) (entry_of_file h f)
entry_of_file (cut_short c ∷ h) f = entry_of_file h f
entry_of_file (cut n ∷ h) f = entry_of_file h f

-- the meter that a call gives entry e
abbrev pub gives_meter : Call → ℕ → ℕ → ℕ
gives_meter (create n f e meter) e' old = cond (e == e') meter old
gives_meter (open' n) e' old = old
gives_meter (activate n f e) e' old = old
gives_meter withdraw e' old = old
gives_meter (place bs f p t a) e' old = old
gives_meter (deposit t a) e' old = old
gives_meter (read n f p) e' old = old
gives_meter (update n f) e' old = old
gives_meter (clear f p) e' old = old
gives_meter (reclaim f p) e' old = old
gives_meter (deactivate f) e' old = old
gives_meter (balance n) e' old = old
gives_meter close e' old = old
gives_meter (drain n) e' old = old
gives_meter (finish n) e' old = old
gives_meter (salvage n c) e' old = old

-- the meter that the last accepted create of entry e gave; one that was cut short after its post counts
abbrev pub meter_of_entry : History → ℕ → ℕ
meter_of_entry [] e = 0
meter_of_entry (called c r ∷ h) e = cond (is_accepted r) (gives_meter c e (meter_of_entry h e)) (meter_of_entry h e)
meter_of_entry (cut_short c ∷ h) e = gives_meter c e (meter_of_entry h e)
meter_of_entry (cut n ∷ h) e = meter_of_entry h e

-- a call gives the bytes bs for slot p of entry e with this meter
abbrev pub GivesPage : Call → History → ℕ → ℕ → ℕ → List ℕ → Type 0
GivesPage (place bs' f p' t a) h e meter p bs = (entry_of_file h f ≡ Some e) × (meter_of_entry h e ≡ meter) × (p' ≡ p) × (bs' ≡ bs)
GivesPage (open' n) h e meter p bs = ⊥
GivesPage (create n f e' meter') h e meter p bs = ⊥
GivesPage (activate n f e') h e meter p bs = ⊥
GivesPage withdraw h e meter p bs = ⊥
GivesPage (deposit t a) h e meter p bs = ⊥
GivesPage (read n f p') h e meter p bs = ⊥
GivesPage (update n f) h e meter p bs = ⊥
GivesPage (clear f p') h e meter p bs = ⊥
GivesPage (reclaim f p') h e meter p bs = ⊥
GivesPage (deactivate f) h e meter p bs = ⊥
GivesPage (balance n) h e meter p bs = ⊥
GivesPage close h e meter p bs = ⊥
GivesPage (drain n) h e meter p bs = ⊥
GivesPage (finish n) h e meter p bs = ⊥
GivesPage (salvage n c) h e meter p bs = ⊥

-- an accepted place gave bs for slot p of entry e with this meter
abbrev pub Placed : History → ℕ → ℕ → ℕ → List ℕ → Type 0
Placed [] e meter p bs = ⊥
Placed (called c r ∷ h) e meter p bs = ((is_accepted r ≡ true) × GivesPage c h e meter p bs) ⊎ Placed h e meter p bs
Placed (cut_short c ∷ h) e meter p bs = Placed h e meter p bs
Placed (cut n ∷ h) e meter p bs = Placed h e meter p bs

-- what an outcome writes to address a
abbrev pub written_by : Outcome → ℕ → State → State
written_by (refuse r) a s = s
written_by (accept r x None) a s = s
written_by (accept r x (Some w)) a s = cond (w.at == a) (readable w.bytes) s

-- the last accepted write of entry e of volume id, or what a cut left of it since; make's write is the first
abbrev pub last_written : ℕ → History → ℕ → State
last_written id [] e = readable (entry_bytes id free_entry)
last_written id (called c r ∷ h) e = written_by r (entry_at e) (last_written id h e)
last_written id (cut_short c ∷ h) e = last_written id h e
last_written id (cut n ∷ h) e = settled_at n (entry_at e)
