-- The meaning of each kind of drive is well formed.
use Rattle.std.specs.Prelude.{◌≡◌, ℕ, ◌*◌, ◌<◌, Bool, true, false, cond, ltb, List, [], ◌∷◌, length, take, drop, ◌==◌, nat_lt, slice_index, slice_index_or}
use Rattle.std.proofs.Common.{sym, subst, arith}
use Rattle.std.specs.List.{AllByRecursion}
use Rattle.std.proofs.lemmas.List.FromFn.{length-map-range_with_len, get_or-map-range_with_len}
use Rattle.std.proofs.ByRecursion.{All-get_or, All-weaker}
use Rattle.std.proofs.lemmas.List.{length-take, length-drop}
use Rattle.std.proofs.lemmas.Bool.{and_parts, ltb-true}
use Rattle.drive.specs.declared.backlog.Backlog.{Backlog}
use Rattle.drive.specs.declared.card.Card.{Card}
use Rattle.drive.specs.declared.queued.Queued.{Queued}
use Rattle.drive.specs.declared.surface.Surface.{Surface}
use Rattle.drive.specs.Backlogs.{held}
use Rattle.drive.specs.Each.{each, all_bytes, holds_bytes, all_below}
use Rattle.drive.specs.Kinds.{of_card}
use Rattle.drive.specs.Meaning.{State, readable, spoiled, Write, EveryWrite, RecordBytes, WellFormedState, WellFormed}
use Rattle.drive.specs.Queues.{line}
use Rattle.drive.specs.Surfaces.{extent, cell, states}
use Rattle.drive.specs.Disks.{disk}

pub all_from_each : {X : Type 0} (test : X → Bool) (xs : List X) → each test xs ≡ true → AllByRecursion (λ x. test x ≡ true) xs
unfolding each
all_from_each test [] h = tt
all_from_each test (x ∷ xs) h = let p = and_parts (test x) (each test xs) h in (p.0, all_from_each test xs p.1)

pub length_states : (bytes marks : List ℕ) → length (states bytes marks) ≡ extent (length bytes) (length marks)
unfolding states
length_states bytes marks = length-map-range_with_len (cell bytes marks) 0 (extent (length bytes) (length marks))

pub at_states : (bytes marks : List ℕ) (a : ℕ) (d : State) → a < length (states bytes marks) → slice_index_or (states bytes marks) a d ≡ cell bytes marks a
unfolding states
at_states bytes marks a d h =
    get_or-map-range_with_len (cell bytes marks) 0 (extent (length bytes) (length marks)) a a d (omega (arith, length_states bytes marks)) (omega arith)

record_bytes : (bs : List ℕ) → length bs ≡ 512 → all_bytes bs ≡ true → RecordBytes bs
record_bytes bs long sized =
    (long, All-weaker (λ b. nat_lt b 256 ≡ true) (λ b. b < 256) (λ b. ltb-true b 256) bs (all_from_each (λ b. ltb b 256) bs sized))

full_cell : (clear : Bool) (bs : List ℕ) → length bs ≡ 512 → holds_bytes (cond clear (readable bs) spoiled) ≡ true → WellFormedState (cond clear (readable bs) spoiled)
full_cell true bs long sized = record_bytes bs long sized
full_cell false bs long sized = tt

full_states : (bytes marks : List ℕ) (a : ℕ) → each holds_bytes (states bytes marks) ≡ true → a < length (states bytes marks) → WellFormedState (slice_index_or (states bytes marks) a spoiled)
full_states bytes marks a sized h =
    let is = at_states bytes marks a spoiled h in
    let few = length_states bytes marks in
    let Sized : State → Type 0 = λ s. holds_bytes s ≡ true in
    let here = All-get_or Sized (states bytes marks) a spoiled h (all_from_each holds_bytes (states bytes marks) sized) in
    let long : length (take 512 (drop (a * 512) bytes)) ≡ 512 = simp (length-take, length-drop) (omega arith) in
    subst WellFormedState (sym is) (full_cell (slice_index marks a == 0) (take 512 (drop (a * 512) bytes)) long (subst Sized is here))

full_line : (n : ℕ) (qs : List Queued) → all_below n (line qs) ≡ true → EveryWrite (λ w. (w.at < n) × RecordBytes w.bytes) (line qs)
unfolding each
full_line n [] h = tt
full_line n (q ∷ qs) h =
    let p = and_parts (nat_lt q.at n) (all_below n (line qs)) h in
    ((ltb-true q.at n p.0, record_bytes q.bytes q.full q.sized), full_line n qs p.1)

formed : (s : Surface) (ws : List Write) (w : ℕ) → EveryWrite (λ v. (v.at < length (disk s)) × RecordBytes v.bytes) ws → WellFormed (record { settled = disk s; outstanding = ws; wear = w })
formed s ws w inside =
    let few = length_states s.bytes.now s.marks.now in
    record { small = omega arith; inside = inside; full = λ a h. full_states s.bytes.now s.marks.now a s.sized h }

pub card_formed : (c : Card) → WellFormed (of_card c)
card_formed c = formed c.surface [] c.wear tt

pub held_formed : (b : Backlog) (w : ℕ) → WellFormed (held b w)
held_formed b w = formed b.surface (line b.queue.items) w (full_line (length (disk b.surface)) b.queue.items b.inside)
