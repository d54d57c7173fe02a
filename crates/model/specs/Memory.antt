-- What a volume keeps in memory.
use Rattle.std.specs.Prelude.{ℕ, ◌+◌, Bool, false, ◌||◌, List, [], ◌∷◌, length, replicate, Some, None, Option, ◌==◌, slice_index_or, slice_set}
use Rattle.model.specs.declared.memory.Phase.{Phase}
use Rattle.model.specs.declared.memory.Phase.TheVariants.{Shut}
use Rattle.model.specs.declared.memory.MapState.{MapState}
use Rattle.model.specs.declared.memory.MapState.TheVariants.{Idle}
use Rattle.model.specs.declared.memory.File.{File}

-- the stock is the addresses in service, oldest first, and the unsettled ones, which were taken off the map by a
-- write that may still be outstanding; id, entries and trouble are the opened label's
pub record Memory : Type 0 where
  pub phase : Phase
  pub chart : MapState
  pub counts : List ℕ
  pub service : List ℕ
  pub unsettled : List ℕ
  pub tickets : List (Option ℕ)
  pub files : List (Option File)
  pub id : ℕ
  pub entries : ℕ
  pub trouble : ℕ

-- a volume as it is attached
abbrev pub attached : Memory
attached =
    record {
      phase = Shut;
      chart = Idle;
      counts = replicate 3 0;
      service = [];
      unsettled = [];
      tickets = replicate 4 None;
      files = replicate 8 None;
      id = 0;
      entries = 0;
      trouble = 0;
    }

-- a memory with some of its parts replaced
abbrev pub with_phase : Memory → Phase → Memory
with_phase v p = record { phase = p; chart = v.chart; counts = v.counts; service = v.service; unsettled = v.unsettled; tickets = v.tickets; files = v.files; id = v.id; entries = v.entries; trouble = v.trouble }

abbrev pub with_stock : Memory → MapState → List ℕ → List ℕ → List ℕ → Memory
with_stock v c ns s u = record { phase = v.phase; chart = c; counts = ns; service = s; unsettled = u; tickets = v.tickets; files = v.files; id = v.id; entries = v.entries; trouble = v.trouble }

abbrev pub with_service : Memory → List ℕ → Memory
with_service v s = with_stock v v.chart v.counts s v.unsettled

abbrev pub with_tickets : Memory → List (Option ℕ) → Memory
with_tickets v ts = record { phase = v.phase; chart = v.chart; counts = v.counts; service = v.service; unsettled = v.unsettled; tickets = ts; files = v.files; id = v.id; entries = v.entries; trouble = v.trouble }

abbrev pub with_file : Memory → ℕ → Option File → Memory
with_file v i f = record { phase = v.phase; chart = v.chart; counts = v.counts; service = v.service; unsettled = v.unsettled; tickets = v.tickets; files = slice_set v.files i f; id = v.id; entries = v.entries; trouble = v.trouble }

-- how many of a table are used
abbrev pub used : {X : Type 0} → List (Option X) → ℕ
used [] = 0
used (None ∷ xs) = used xs
used (Some x ∷ xs) = used xs + 1

-- how many addresses the stock and the tickets hold
abbrev pub held : Memory → ℕ
held v = length v.service + length v.unsettled + used v.tickets

-- the lowest unused ticket, where the first is number n
abbrev pub unused_from : ℕ → List (Option ℕ) → Option ℕ
unused_from n [] = None
unused_from n (None ∷ ts) = Some n
unused_from n (Some a ∷ ts) = unused_from (n + 1) ts

abbrev pub is_address : Option ℕ → ℕ → Bool
is_address None a = false
is_address (Some b) a = b == a

-- ticket t holds address a
abbrev pub ticket_holds : Memory → ℕ → ℕ → Bool
ticket_holds v t a = is_address (slice_index_or v.tickets t None) a

abbrev pub file_of : Memory → ℕ → Option File
file_of v i = slice_index_or v.files i None

abbrev pub is_entry : Option File → ℕ → Bool
is_entry None e = false
is_entry (Some f) e = f.entry == e

-- some file holds entry e
abbrev pub in_some_file : List (Option File) → ℕ → Bool
in_some_file [] e = false
in_some_file (f ∷ fs) e = is_entry f e || in_some_file fs e
