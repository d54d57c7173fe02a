-- Runs of calls, polls and cuts, computed on the plans, on a drive that completes nothing in a post and one write in a step.
use Rattle.std.specs.Prelude.{◌≡◌, ℕ, List, [], ◌∷◌, ◌++◌, map, replicate, Some, slice_set}
use Rattle.std.specs.List.{range_with_len}
use Rattle.drive.specs.Cuts.{Image}
use Rattle.drive.specs.Faults.{Refusal}
use Rattle.drive.specs.Meaning.{State, readable, spoiled, Meaning, owed, settled_at, shown, complete}
use Rattle.record.specs.declared.label.LabelState.TheVariants.{Salvage}
use Rattle.record.specs.declared.entry.Entry.{Entry}
use Rattle.record.specs.Words.{word}
use Rattle.model.specs.Volume.{label_bytes, entry_bytes}
use Rattle.model.specs.New.{new_volume, new_section}
use Rattle.model.specs.Outcomes.{Reply, done, granted, wait, full, section, entry, begun, ended, Outcome, refuse, accept, Rules}
use Rattle.model.specs.Shown.{bytes_in, entry_shown}
use Rattle.model.specs.Plans.{joined}
use Rattle.model.specs.Calls.{Call, open', create, withdraw, place, update, balance, salvage, plan, Volume, with_write}
use Rattle.model.specs.Histories.{called, cut, History, Fitting, attach, Reached, Placed}
use Rattle.model.specs.Promises.{Names, Free}
use Rattle.model.specs.Worked.{bare, TheWorkedValuesComeOut}

-- the rules of a cabinet drive
abbrev pub cabinet : Rules
cabinet = record { depth = 4; life = 1000000 }

-- a call, a poll, or a cut that leaves every record as it was settled
pub data Act : Type 0 where
  call : Call → Act
  poll : Act
  power_cut : Act

-- what an act tells: a call's reply or refusal, and how many writes a poll or a cut leaves outstanding
pub data Told : Type 0 where
  said : Reply → Told
  no : Refusal → Told
  owing : ℕ → Told

abbrev pub told_by : Outcome → Told
told_by (refuse r) = no r
told_by (accept r x w) = said r

-- the volume after a call: its write is posted, and none is completed
abbrev pub after_call : Outcome → Volume → Volume
after_call (refuse r) v = v
after_call (accept r x w) v = record { drive = with_write w v.drive; memory = x }

-- the volume after a poll: the oldest write is completed
abbrev pub after_poll : Volume → Volume
after_poll v =
    let d = complete 1 v.drive in record { drive = d; memory = joined d v.memory v.memory.chart }

-- the drive after a cut that leaves every record as it was settled
abbrev pub as_settled : Meaning → Meaning
as_settled m = record { settled = m.settled; outstanding = []; wear = m.wear }

unfoldable pub after_act : Act → Volume → Volume
after_act (call c) v = after_call (plan cabinet c v.drive v.memory) v
after_act poll v = after_poll v
after_act power_cut v = attach (as_settled v.drive)

unfoldable pub told_of_act : Act → Volume → Told
told_of_act (call c) v = told_by (plan cabinet c v.drive v.memory)
told_of_act poll v = owing (owed (after_poll v).drive)
told_of_act power_cut v = owing 0

-- the volume that a run leads to, and what is told on the way
unfoldable pub run : List Act → Volume → Volume
run [] v = v
run (a ∷ acts) v = run acts (after_act a v)

unfoldable pub told : List Act → Volume → List Told
told [] v = []
told (a ∷ acts) v = told_of_act a v ∷ told acts (after_act a v)

-- the history of a run, from one that led to v
unfoldable pub history : List Act → Volume → History → History
history [] v h = h
history (call c ∷ acts) v h = history acts (after_act (call c) v) (called c (plan cabinet c v.drive v.memory) ∷ h)
history (poll ∷ acts) v h = history acts (after_act poll v) h
history (power_cut ∷ acts) v h = history acts (after_act power_cut v) (cut (as_settled v.drive) ∷ h)

-- the arguments of its calls fit their types
abbrev pub FittingRun : List Act → Type 0
FittingRun [] = Unit {0}
FittingRun (call c ∷ acts) = Fitting c × FittingRun acts
FittingRun (poll ∷ acts) = FittingRun acts
FittingRun (power_cut ∷ acts) = FittingRun acts

abbrev pub EveryRunIsAHistory : Type 0
EveryRunIsAHistory =
    (m : Meaning) (acts : List Act) → FittingRun acts → Reached cabinet m (history acts (attach m) []) (run acts (attach m))

-- ---- the examples

-- the volume with the id 1, 2 entries and t records, new and attached
abbrev pub fresh : ℕ → Volume
fresh t = attach (new_volume (bare t) 1 2)

-- word i of what is shown at address a
abbrev pub word_shown : Volume → ℕ → ℕ → ℕ
word_shown v a i = word (bytes_in (shown v.drive a)) i

-- where the outstanding writes are to
abbrev pub targets : Volume → List ℕ
targets v = map (λ w. w.at) v.drive.outstanding

abbrev pub opened_and_balanced : List Act
opened_and_balanced = call (open' 512) ∷ call (balance 512) ∷ []

-- 16 of 40 records are taken
pub record TheFirstBalanceTakes16 : Type 0 where
  pub says : told opened_and_balanced (fresh 40) ≡ said done ∷ said (section 0) ∷ []
  pub takes : (run opened_and_balanced (fresh 40)).memory.unsettled ≡ range_with_len 10 16
  pub posts_at : targets (run opened_and_balanced (fresh 40)) ≡ 0 ∷ 1 ∷ []
  pub word_3 : word_shown (run opened_and_balanced (fresh 40)) 1 3 ≡ 0x0028000E
  pub word_4 : word_shown (run opened_and_balanced (fresh 40)) 1 4 ≡ 0x0000003F
  pub word_5 : word_shown (run opened_and_balanced (fresh 40)) 1 5 ≡ 0xFF000000

-- of 11 records one is for a page
abbrev pub TheOnlyPageIsGrantedOnce : Type 0
TheOnlyPageIsGrantedOnce =
    told (opened_and_balanced ++ (poll ∷ poll ∷ call withdraw ∷ call withdraw ∷ [])) (fresh 11)
    ≡ said done ∷ said (section 0) ∷ owing 1 ∷ owing 0 ∷ said (granted 0 10) ∷ said full ∷ []

-- an entry of which only slot 0 is used
abbrev pub only_slot_0 : ℕ → ℕ → Entry
only_slot_0 meter a = record { meter = meter; slots = slice_set (replicate 64 0) 0 a }

-- two entries hold the page at 12, on a volume of which a salvage has begun
abbrev pub doubly_held : Volume
doubly_held =
    let label = readable (label_bytes (record { id = 1; records = 20; entries = 2; state = Salvage; trouble = 0 })) in
    let map_of : ℕ → State = λ k. readable (new_section 1 2 20 k) in
    let entry_of : ℕ → State = λ meter. readable (entry_bytes 1 (only_slot_0 meter 12)) in
    attach (record { settled = label ∷ map_of 0 ∷ map_of 1 ∷ map_of 2 ∷ spoiled ∷ spoiled ∷ spoiled ∷ label ∷ entry_of 5 ∷ entry_of 6 ∷ replicate 10 spoiled; outstanding = []; wear = 0 })

abbrev pub one_salvage : List Act
one_salvage = call (salvage 512 20) ∷ []

-- the lower entry keeps it
pub record ADoublyHeldPageIsKeptByTheLowerEntry : Type 0 where
  pub says : told one_salvage doubly_held ≡ said (entry 1) ∷ []
  pub posts_at : targets (run one_salvage doubly_held) ≡ 9 ∷ []
  pub lower : entry_shown (run one_salvage doubly_held).drive 1 2 0 ≡ Some (only_slot_0 5 12)
  pub upper : entry_shown (run one_salvage doubly_held).drive 1 2 1 ≡ Some (only_slot_0 6 0)

-- ---- a run on a new volume of 20 records, up to its first page

abbrev pub first_page : List ℕ
first_page = replicate 512 1

abbrev pub up_to_balance : List Act
up_to_balance = call (open' 512) ∷ call (create 512 0 0 77) ∷ call (balance 512) ∷ []

abbrev pub up_to_place : List Act
up_to_place = up_to_balance ++ (call withdraw ∷ poll ∷ poll ∷ poll ∷ call withdraw ∷ call (place first_page 0 0 0 10) ∷ [])

-- then the power goes, and the page stays as it was
abbrev pub up_to_cut : List Act
up_to_cut = up_to_place ++ (power_cut ∷ [])

abbrev pub up_to_salvaged : List Act
up_to_salvaged =
    up_to_cut ++ (call (salvage 512 20) ∷ poll ∷ call (salvage 512 20) ∷ poll ∷ call (salvage 512 20) ∷ poll ∷ [])

-- or the page is settled and named before the power goes
abbrev pub up_to_named : List Act
up_to_named = up_to_place ++ (poll ∷ call (update 512 0) ∷ poll ∷ power_cut ∷ [])

pub record TheWorkedRunComesOut : Type 0 where
  pub says : told up_to_salvaged (fresh 20)
      ≡ said done ∷ said done ∷ said (section 0) ∷ said wait ∷ owing 2 ∷ owing 1 ∷ owing 0 ∷ said (granted 0 10) ∷ said done ∷ owing 0
      ∷ said begun ∷ owing 0 ∷ said (section 0) ∷ owing 0 ∷ said ended ∷ owing 0 ∷ []
  pub balance_takes : (run up_to_balance (fresh 20)).memory.unsettled ≡ range_with_len 10 10
  pub place_posts : (run up_to_place (fresh 20)).drive.outstanding ≡ record { at = 10; bytes = first_page } ∷ []
  pub place_shows : shown (run up_to_place (fresh 20)).drive 10 ≡ readable first_page
  pub cut_leaves : settled_at (run up_to_cut (fresh 20)).drive 10 ≡ spoiled

-- every worked example, of the layouts and of the plans
pub record AllWorkedExamplesComeOut : Type 0 where
  pub values : TheWorkedValuesComeOut
  pub first_balance : TheFirstBalanceTakes16
  pub only_page : TheOnlyPageIsGrantedOnce
  pub doubly_held_page : ADoublyHeldPageIsKeptByTheLowerEntry
  pub whole_run : TheWorkedRunComesOut

-- the run up to the place, with the cut, salvaged, and with the page named, in the sense of the law: the history says
-- what was placed, the cut leaves it as it was, and the page is free once salvaged, or named
pub record TheWorkedRunIsAHistory : Type 0 where
  pub to_place : Reached cabinet (new_volume (bare 20) 1 2) (history up_to_place (fresh 20) []) (run up_to_place (fresh 20))
  pub to_cut : Reached cabinet (new_volume (bare 20) 1 2)
      (cut (as_settled (run up_to_place (fresh 20)).drive) ∷ history up_to_place (fresh 20) []) (attach (as_settled (run up_to_place (fresh 20)).drive))
  pub to_salvaged : Reached cabinet (new_volume (bare 20) 1 2) (history up_to_salvaged (fresh 20) []) (run up_to_salvaged (fresh 20))
  pub to_named : Reached cabinet (new_volume (bare 20) 1 2) (history up_to_named (fresh 20) []) (run up_to_named (fresh 20))
  pub placed : Placed (history up_to_place (fresh 20) []) 0 77 0 first_page
  pub image : Image (run up_to_place (fresh 20)).drive (as_settled (run up_to_place (fresh 20)).drive)
  pub old : settled_at (as_settled (run up_to_place (fresh 20)).drive) 10 ≡ settled_at (fresh 20).drive 10
  pub named : Names (run up_to_named (fresh 20)).drive 0 77 0 10
  pub freed : Free (run up_to_salvaged (fresh 20)).drive 10
