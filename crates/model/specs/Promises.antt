-- What no power cut can break.
use Rattle.std.specs.Prelude.{◌≡◌, ℕ, suc, ◌+◌, ◌-◌, ◌<◌, ◌≤◌, true, false, not, ◌⊎◌, List, [], Some, Option, ◌==◌, ◌≢◌, slice_index_or}
use Rattle.drive.specs.Cuts.{Image}
use Rattle.drive.specs.Meaning.{readable, Write, Meaning, size, settled_at, pending}
use Rattle.record.specs.declared.label.Label.{Label}
use Rattle.record.specs.declared.section.Section.{Section}
use Rattle.record.specs.declared.entry.Entry.{Entry}
use Rattle.record.specs.Regions.{within, page_region, first_of}
use Rattle.record.specs.Labels.{state_number}
use Rattle.record.specs.Sections.{bit}
use Rattle.model.specs.Volume.{entry_at, section_at, label_at, copy_at}
use Rattle.model.specs.Memory.{Memory}
use Rattle.model.specs.Outcomes.{Reply, ended, accept, Rules}
use Rattle.model.specs.Shown.{label_of, section_in_state, entry_in_state}
use Rattle.model.specs.Stock.{cover}
use Rattle.model.specs.Calls.{open', salvage, plan, Volume, Leaves, Polls}
use Rattle.model.specs.Histories.{History, Reached, Moment, attach, is_accepted, Placed, last_written}

-- ---- what an image says

-- the label that is believed of an image
abbrev pub label_left : Meaning → Option Label
label_left n = label_of (size n) (settled_at n label_at) (settled_at n copy_at)

-- the sound entry x stands at number e in an image
pub record HoldsEntry (n : Meaning) (e : ℕ) (x : Entry) : Type 0 where
  pub label : Label
  pub believed : label_left n ≡ Some label
  pub numbered : e < label.entries
  pub sound : entry_in_state label.id label.entries (size n) (settled_at n (entry_at e)) ≡ Some x

-- entry e with meter names the record at a in its slot p
pub record Names (n : Meaning) (e meter p a : ℕ) : Type 0 where
  pub entry : Entry
  pub held : HoldsEntry n e entry
  pub metered : entry.meter ≡ meter
  pub there : slice_index_or entry.slots p 0 ≡ a
  pub some : a ≡ 0 → ⊥

-- the record at a is free on the map
pub record Free (n : Meaning) (a : ℕ) : Type 0 where
  pub label : Label
  pub believed : label_left n ≡ Some label
  pub section : Section
  pub sound : section_in_state label.id label.entries (size n) (cover a) (settled_at n (section_at (cover a))) ≡ Some section
  pub covered : cover a < 3
  pub on : bit section.bits (a - first_of (cover a)) ≡ true

-- ---- names

abbrev pub NoRecordIsNamedTwice : Meaning → Type 0
NoRecordIsNamedTwice n =
    (e e' meter meter' p p' a : ℕ) → Names n e meter p a → Names n e' meter' p' a → (e ≡ e') × (p ≡ p')

abbrev pub NoNamedRecordIsFree : Meaning → Type 0
NoNamedRecordIsFree n = (e meter p a : ℕ) → Names n e meter p a → Free n a → ⊥

-- in a volume of e entries
abbrev pub EveryNamedRecordLiesInThePageRegion : ℕ → Meaning → Type 0
EveryNamedRecordLiesInThePageRegion entries n = (e meter p a : ℕ) → Names n e meter p a → within (page_region entries (size n)) a ≡ true

-- ---- pages and last writes

abbrev pub EveryNamedPageHoldsWhatWasPlaced : History → Meaning → Type 0
EveryNamedPageHoldsWhatWasPlaced h n =
    (e meter p a : ℕ) → Names n e meter p a → (bs : List ℕ) × (settled_at n a ≡ readable bs) × Placed h e meter p bs

-- d is the drive at the moment of the cut
abbrev pub EveryEntryHoldsItsLastWrite : ℕ → ℕ → History → Meaning → Meaning → Type 0
EveryEntryHoldsItsLastWrite id entries h d n =
    (e : ℕ) → e < entries → pending d (entry_at e) ≡ false → settled_at n (entry_at e) ≡ last_written id h e

-- ---- salvage

-- polls until nothing is outstanding
pub data Settles : Volume → Volume → Type 0 where
  still : (v : Volume) → v.drive.outstanding ≡ [] → Settles v v
  again : (v u t : Volume) → Polls v u → Settles u t → Settles v t

-- one salvage that posts a write, and polls until that is settled
pub record Salvages (g : Rules) (r : Reply) (v u : Volume) : Type 0 where
  pub write : Write
  pub memory : Memory
  pub between : Volume
  pub answers : plan g (salvage 512 (size v.drive)) v.drive v.memory ≡ accept r memory (Some write)
  pub leaves : Leaves (accept r memory (Some write)) v between
  pub settles : Settles between u

-- k salvages one after the other, none of which ended
pub data Salvaged (g : Rules) (v : Volume) : ℕ → Volume → Type 0 where
  none_yet : Salvaged g v 0 v
  one_more : (k : ℕ) (r : Reply) (u t : Volume) → Salvaged g v k u → (r ≢ ended) → Salvages g r u t → Salvaged g v (suc k) t

-- m is the image n mended: readable entries byte for byte, and each page record named once or free, never both
pub record Mended (entries : ℕ) (n m : Meaning) : Type 0 where
  pub named_once : NoRecordIsNamedTwice m
  pub never_both : NoNamedRecordIsFree m
  pub readable_entries_stay : (e : ℕ) (bs : List ℕ) → e < entries → settled_at n (entry_at e) ≡ readable bs → settled_at m (entry_at e) ≡ readable bs
  pub named_or_free : (a : ℕ) → within (page_region entries (size m)) a ≡ true → ((e : ℕ) × (meter : ℕ) × (p : ℕ) × Names m e meter p a) ⊎ Free m a

-- polling ends, so a run through exists; an unfinished one goes on and is short; a finished one has mended the image
pub record SalvageMends (g : Rules) (entries : ℕ) (n : Meaning) : Type 0 where
  pub polling_ends : (v : Volume) → (u : Volume) × Settles v u
  pub goes_on : (k : ℕ) (v : Volume) → Salvaged g (attach n) k v
      → (r : Reply) × (x : Memory) × (w : Write) × (plan g (salvage 512 (size v.drive)) v.drive v.memory ≡ accept r x (Some w)) × (k < entries + 5)
  pub mends : (k : ℕ) (v u : Volume) → Salvaged g (attach n) k v → Salvages g ended v u → Mended entries n u.drive

-- the image opens exactly when a salvage has not begun on it
abbrev pub OpensUnlessASalvageHasBegun : Rules → Meaning → Type 0
OpensUnlessASalvageHasBegun g n =
    (l : Label) × (label_left n ≡ Some l) × (is_accepted (plan g (open' 512) n (attach n).memory) ≡ not (state_number l.state == 2))

-- ---- all of it

-- of an image n that a cut may leave at a moment with the history h and the drive d, on a volume of so many entries
pub record Unharmed (g : Rules) (id entries : ℕ) (h : History) (d n : Meaning) : Type 0 where
  pub named_once : NoRecordIsNamedTwice n
  pub never_free : NoNamedRecordIsFree n
  pub in_region : EveryNamedRecordLiesInThePageRegion entries n
  pub pages : EveryNamedPageHoldsWhatWasPlaced h n
  pub last_writes : EveryEntryHoldsItsLastWrite id entries h d n
  pub opens : n.wear + (entries + 5) ≤ g.life → OpensUnlessASalvageHasBegun g n
  pub mends : n.wear + (entries + 5) ≤ g.life → SalvageMends g entries n

-- over every history from a volume made new, at every moment, for every image
abbrev pub NoPowerCutHarms : Rules → ℕ → ℕ → Meaning → Type 0
NoPowerCutHarms g id entries m =
    (h h' : History) (v : Volume) (d n : Meaning) → Reached g m h v → Moment g h v h' d → Image d n → Unharmed g id entries h' d n
