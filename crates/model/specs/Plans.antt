-- One plan a call: its questions in their order, its answer, the memory it leaves, and the write it posts.
use Rattle.std.specs.Prelude.{ℕ, ◌+◌, ◌-◌, min, Bool, true, false, cond, not, ◌&&◌, ◌||◌, List, [], ◌∷◌, ◌++◌, map, length, replicate, Some, None, Option, ◌==◌, nat_lt, slice_index_or, slice_set}
use Rattle.drive.specs.Answers.{read_answer}
use Rattle.drive.specs.Meaning.{Write, Meaning, size, owed, shown, pending}
use Rattle.record.specs.declared.label.Label.{Label}
use Rattle.record.specs.declared.label.LabelState.{LabelState}
use Rattle.record.specs.declared.label.LabelState.TheVariants.{Closed, InUse, Salvage}
use Rattle.record.specs.declared.entry.Entry.{Entry}
use Rattle.record.specs.Sections.{free_count}
use Rattle.model.specs.declared.memory.Phase.{Phase}
use Rattle.model.specs.declared.memory.Phase.TheVariants.{Shut, Open, Closing}
use Rattle.model.specs.declared.memory.MapState.{MapState}
use Rattle.model.specs.declared.memory.MapState.TheVariants.{Idle, Writing}
use Rattle.model.specs.declared.memory.Slot.{Slot}
use Rattle.model.specs.declared.memory.Slot.TheVariants.{Empty, Nulled}
use Rattle.model.specs.declared.memory.File.{File}
use Rattle.model.specs.Volume.{entry_at, section_at, label_at, label_bytes, section_bytes, entry_bytes}
use Rattle.model.specs.Memory.{Memory, with_phase, with_stock, with_service, with_tickets, with_file, used, held, unused_from, ticket_holds, file_of, in_some_file}
use Rattle.model.specs.Outcomes.{Reply, done, granted, wait, full, busy, quiet, dry, section, page, Outcome, ask, need, need_of, if_accepted, Rules, post, keep}
use Rattle.model.specs.Shown.{bytes_in, with_state, label_shown, bits_shown, entry_shown}
use Rattle.model.specs.Slots.{with_slot, with_slots, is_empty, page_of, cleared, left_address, updated, live_address, loaded, all_at_rest}
use Rattle.model.specs.Stock.{cover, lowest, all_marked, given, staying, counting_free, is_some, oldest}

-- ---- the parts of plans

abbrev pub is_shut : Phase → Bool
is_shut Shut = true
is_shut Open = false
is_shut Closing = false

abbrev pub is_open : Phase → Bool
is_open Shut = false
is_open Open = true
is_open Closing = false

abbrev pub is_closing : Phase → Bool
is_closing Shut = false
is_closing Open = false
is_closing Closing = true

abbrev pub is_idle : MapState → Bool
is_idle Idle = true
is_idle (Writing k) = false

-- question 1, of a page of n bytes
abbrev pub ask_page : ℕ → Outcome → Outcome
ask_page n o = ask 1 (n == 512) o

-- the slot of a file, where it has one
abbrev pub slot_of : File → ℕ → Option Slot
slot_of f p = cond (nat_lt p 64) (Some (slice_index_or f.slots p Empty)) None

abbrev pub and_then : {X Y : Type 0} → Option X → (X → Option Y) → Option Y
and_then None k = None
and_then (Some x) k = k x

abbrev pub empty_slot : Slot → Option (Unit {0})
empty_slot s = cond (is_empty s) (Some tt) None

-- ---- open, close

abbrev pub may_open : LabelState → Bool
may_open Closed = true
may_open InUse = true
may_open Salvage = false

-- one more trouble where the volume was left in use
abbrev pub next_trouble : LabelState → ℕ → ℕ
next_trouble Closed n = n
next_trouble InUse n = min (n + 1) 4294967295
next_trouble Salvage n = n

abbrev pub opened : Memory → Meaning → Label → Memory
opened v m l =
    record {
      phase = Open;
      chart = v.chart;
      counts = map (λ k. free_count (bits_shown m l.id l.entries k)) (0 ∷ 1 ∷ 2 ∷ []);
      service = v.service;
      unsettled = v.unsettled;
      tickets = v.tickets;
      files = v.files;
      id = l.id;
      entries = l.entries;
      trouble = next_trouble l.state l.trouble;
    }

abbrev pub label_write : Label → Write
label_write l = record { at = label_at; bytes = label_bytes l }

unfoldable pub open_plan : Rules → ℕ → Meaning → Memory → Outcome
open_plan g n m v =
    ask_page n
    (ask 2 (is_shut v.phase)
    (need 3 (label_shown m) (λ l.
    ask 4 (may_open l.state)
    (post g m done (opened v m l) (label_write (with_state l InUse (next_trouble l.state l.trouble)))))))

unfoldable pub close_plan : Memory → Outcome
close_plan v =
    ask 2 (is_open v.phase)
    (ask 14 (used v.files == 0 && used v.tickets == 0)
    (keep done (with_phase v Closing)))

abbrev pub kept_label : Meaning → Memory → LabelState → Label
kept_label m v s = record { id = v.id; records = size m; entries = v.entries; state = s; trouble = v.trouble }

unfoldable pub finish_plan : Rules → ℕ → Meaning → Memory → Outcome
finish_plan g n m v =
    ask_page n
    (ask 2 (is_closing v.phase)
    (ask 15 (is_idle v.chart && (length v.service + length v.unsettled == 0 && owed m == 0))
    (post g m done (with_phase v Shut) (label_write (kept_label m v Closed)))))

-- ---- files

abbrev pub entry_write : Memory → ℕ → Entry → Write
entry_write v e x = record { at = entry_at e; bytes = entry_bytes v.id x }

-- an unused file of the table
abbrev pub unused_file : Memory → ℕ → Bool
unused_file v f = nat_lt f 8 && not (is_some (file_of v f))

-- the entry as it shows, where it is sound and free or not as wanted
abbrev pub entry_when : (Entry → Bool) → Option Entry → Option Entry
entry_when t None = None
entry_when t (Some x) = cond (t x) (Some x) None

abbrev pub is_free : Entry → Bool
is_free x = x.meter == 0

-- questions 6 and 7, of a file that is to take an entry
abbrev pub ask_taking : Memory → ℕ → ℕ → Outcome → Outcome
ask_taking v f e o = ask 6 (unused_file v f) (ask 7 (nat_lt e v.entries && not (in_some_file v.files e)) o)

unfoldable pub create_plan : Rules → ℕ → ℕ → ℕ → ℕ → Meaning → Memory → Outcome
create_plan g n f e meter m v =
    ask_page n
    (ask 2 (is_open v.phase)
    (ask_taking v f e
    (ask 8 (not (meter == 0))
    (need_of 9 (entry_at e) (entry_when is_free (entry_shown m v.id v.entries e)) (λ x.
    post g m done (with_file v f (Some (record { entry = e; meter = meter; slots = replicate 64 Empty })))
    (entry_write v e (record { meter = meter; slots = replicate 64 0 })))))))

unfoldable pub activate_plan : ℕ → ℕ → ℕ → Meaning → Memory → Outcome
activate_plan n f e m v =
    ask_page n
    (ask 2 (is_open v.phase)
    (ask_taking v f e
    (need_of 9 (entry_at e) (entry_when (λ x. not (is_free x)) (entry_shown m v.id v.entries e)) (λ x.
    keep done (with_file v f (Some (record { entry = e; meter = x.meter; slots = map loaded x.slots })))))))

-- question 2 for open, and question 6 for a used file
abbrev pub in_file : Memory → ℕ → (File → Outcome) → Outcome
in_file v f k = ask 2 (is_open v.phase) (need 6 (file_of v f) k)

unfoldable pub deactivate_plan : ℕ → Memory → Outcome
deactivate_plan f v = in_file v f (λ x. ask 14 (all_at_rest x.slots) (keep done (with_file v f None)))

unfoldable pub update_plan : Rules → ℕ → ℕ → Meaning → Memory → Outcome
update_plan g n f m v =
    ask_page n
    (in_file v f (λ x.
    ask 15 (not (pending m (entry_at x.entry)))
    (post g m done (with_file v f (Some (with_slots x (map (updated m) x.slots))))
    (entry_write v x.entry (record { meter = x.meter; slots = map (λ s. live_address (updated m s)) x.slots })))))

-- ---- slots

unfoldable pub place_plan : Rules → List ℕ → ℕ → ℕ → ℕ → ℕ → Meaning → Memory → Outcome
place_plan g bytes f p t a m v =
    ask_page (length bytes)
    (in_file v f (λ x.
    need 10 (and_then (slot_of x p) empty_slot) (λ _.
    ask 11 (ticket_holds v t a)
    (post g m done (with_tickets (with_file v f (Some (with_slot x p (Nulled a)))) (slice_set v.tickets t None))
    (record { at = a; bytes = bytes })))))

unfoldable pub read_plan : ℕ → ℕ → ℕ → Meaning → Memory → Outcome
read_plan n f p m v =
    ask_page n
    (in_file v f (λ x.
    need 10 (and_then (slot_of x p) page_of) (λ a.
    if_accepted (read_answer m a n) (keep (page (bytes_in (shown m a))) v))))

unfoldable pub clear_plan : ℕ → ℕ → Memory → Outcome
clear_plan f p v = in_file v f (λ x. need 10 (and_then (slot_of x p) cleared) (λ s. keep done (with_file v f (Some (with_slot x p s)))))

unfoldable pub reclaim_plan : ℕ → ℕ → Meaning → Memory → Outcome
reclaim_plan f p m v =
    in_file v f (λ x.
    need 10 (and_then (slot_of x p) left_address) (λ a.
    ask 13 (nat_lt (held v) 32)
    (ask 15 (not (pending m (entry_at x.entry)))
    (keep done (with_service (with_file v f (Some (with_slot x p Empty))) (v.service ++ (a ∷ [])))))))

-- ---- tickets

-- nothing is in service: more will come, or there is none
abbrev pub shortage : Memory → Reply
shortage v = cond (not (is_idle v.chart) || is_some (counting_free 0 v.counts)) wait full

abbrev pub withdrawing : Memory → ℕ → List ℕ → Outcome
withdrawing v t [] = keep (shortage v) v
withdrawing v t (a ∷ rest) = keep (granted t a) (with_tickets (with_service v rest) (slice_set v.tickets t (Some a)))

unfoldable pub withdraw_plan : Memory → Outcome
withdraw_plan v = ask 2 (is_open v.phase) (need 12 (unused_from 0 v.tickets) (λ t. withdrawing v t v.service))

unfoldable pub deposit_plan : ℕ → ℕ → Memory → Outcome
deposit_plan t a v =
    ask 11 (ticket_holds v t a)
    (keep done (with_service (with_tickets v (slice_set v.tickets t None)) (v.service ++ (a ∷ []))))

-- ---- the map

-- section k is posted with these bits; its count moves with it
abbrev pub write_section : Rules → Meaning → Memory → ℕ → List ℕ → List ℕ → List ℕ → Outcome
write_section g m v k bits s u =
    post g m (section k) (with_stock v (Writing k) (slice_set v.counts k (free_count bits)) s u)
    (record { at = section_at k; bytes = section_bytes v.id v.entries (size m) k bits })

-- the lowest free addresses of section k are taken: they are unsettled until the section is written
abbrev pub taking : Rules → Meaning → Memory → ℕ → Outcome
taking g m v k =
    let bits = bits_shown m v.id v.entries k in
    let as' = lowest bits k (16 - length v.service) in
    write_section g m v k (all_marked k 0 as' bits) v.service (v.unsettled ++ as')

-- the oldest n addresses of section k are given back
abbrev pub giving : Rules → Meaning → Memory → ℕ → ℕ → Outcome
giving g m v k n =
    write_section g m v k (all_marked k 1 (given k n v.service) (bits_shown m v.id v.entries k)) (staying k n v.service) v.unsettled

abbrev pub take_from : Rules → Meaning → Memory → Option ℕ → Outcome
take_from g m v None = keep quiet v
take_from g m v (Some k) = taking g m v k

-- give back to the section of the oldest address, down to n in service
abbrev pub give_oldest : Rules → Meaning → Memory → ℕ → Reply → Option ℕ → Outcome
give_oldest g m v n r None = keep r v
give_oldest g m v n r (Some a) = giving g m v (cover a) (length v.service - n)

unfoldable pub balance_plan : Rules → ℕ → Meaning → Memory → Outcome
balance_plan g n m v =
    ask_page n
    (ask 2 (is_open v.phase)
    (cond (is_idle v.chart)
    (cond (nat_lt (length v.service) 8)
    (take_from g m v (counting_free 0 v.counts))
    (cond (nat_lt 24 (length v.service)) (give_oldest g m v 16 quiet (oldest v.service)) (keep quiet v)))
    (keep busy v)))

unfoldable pub drain_plan : Rules → ℕ → Meaning → Memory → Outcome
drain_plan g n m v =
    ask_page n
    (ask 2 (is_closing v.phase)
    (ask 15 (is_idle v.chart)
    (give_oldest g m v 0 dry (oldest v.service))))

-- ---- poll

-- once the section is written, the unsettled addresses join those in service
abbrev pub joined : Meaning → Memory → MapState → Memory
joined m v Idle = v
joined m v (Writing k) =
    cond (pending m (section_at k)) v (with_stock v Idle v.counts (v.service ++ v.unsettled) [])
