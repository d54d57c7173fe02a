-- A meaning stays well formed when writes are posted and completed, and so does each image of it.
use Rattle.std.proofs.Common.{ℕ, zero, suc, ◌<◌, cond, eqb, List, [], ◌∷◌, ◌++◌, length, get_or, take, drop, set, sym, subst, inl, inr, ⊎_elim, arith}
use Rattle.std.proofs.lemmas.List.{get_or_past, set_past}
use Rattle.std.proofs.lemmas.Bool.{cases_lt, cond_both}
use Rattle.drive.specs.Cuts.{SomeWrite, Torn, Image}
use Rattle.drive.specs.Meaning.{State, readable, spoiled, Write, Meaning, size, youngest, shown, posted, settle, complete, EveryWrite, RecordBytes, WellFormedState, WellFormed}
use Rattle.drive.proofs.MeaningLaws.{length_settle, settled_one}

every_push : (P : Write → Type 0) (ws : List Write) (w : Write) → EveryWrite P ws → P w → EveryWrite P (ws ++ (w ∷ []))
every_push P [] w h p = (p, tt)
every_push P (v ∷ ws) w h p = (h.0, every_push P ws w h.1 p)

every_take : (P : Write → Type 0) (k : ℕ) (ws : List Write) → EveryWrite P ws → EveryWrite P (take k ws)
every_take P zero ws h = tt
every_take P (suc k) [] h = tt
every_take P (suc k) (w ∷ ws) h = (h.0, every_take P k ws h.1)

every_drop : (P : Write → Type 0) (k : ℕ) (ws : List Write) → EveryWrite P ws → EveryWrite P (drop k ws)
every_drop P zero ws h = h
every_drop P (suc k) [] h = h
every_drop P (suc k) (w ∷ ws) h = every_drop P k ws h.1

every_weaker : (P Q : Write → Type 0) → ((w : Write) → P w → Q w) → (ws : List Write) → EveryWrite P ws → EveryWrite Q ws
every_weaker P Q f [] h = tt
every_weaker P Q f (w ∷ ws) h = (f w h.0, every_weaker P Q f ws h.1)

-- a write of a drive of n records
abbrev Placed : ℕ → Write → Type 0
Placed n w = (w.at < n) × RecordBytes w.bytes

-- every address is well formed, also past the last record
abbrev Full : List State → Type 0
Full ss = (a : ℕ) → WellFormedState (get_or ss a spoiled)

full_everywhere : (ss : List State) → ((a : ℕ) → a < length ss → WellFormedState (get_or ss a spoiled)) → Full ss
full_everywhere ss h a =
    ⊎_elim (h a) (λ past. subst WellFormedState (sym (get_or_past ss a spoiled past)) tt) (cases_lt a (length ss))

full_set : (ss : List State) (w : Write) → RecordBytes w.bytes → Full ss → Full (set ss w.at (readable w.bytes))
full_set ss w bytes full a =
    ⊎_elim
    (λ within. subst WellFormedState (sym (settled_one w ss a within))
    (cond_both (eqb w.at a) (readable w.bytes) (get_or ss a spoiled) WellFormedState (λ _. bytes) (λ _. full a)))
    (λ past. subst (λ l. WellFormedState (get_or l a spoiled)) (sym (set_past ss w.at (readable w.bytes) past)) (full a))
    (cases_lt w.at (length ss))

full_settle : (ws : List Write) (ss : List State) → EveryWrite (λ w. RecordBytes w.bytes) ws → Full ss → Full (settle ws ss)
full_settle [] ss h full = full
full_settle (w ∷ ws) ss h full = full_settle ws (set ss w.at (readable w.bytes)) h.1 (full_set ss w h.0 full)

pub well_formed_complete : (m : Meaning) (k : ℕ) → WellFormed m → WellFormed (complete k m)
well_formed_complete m k h =
    let same = length_settle (take k m.outstanding) m.settled in
    let bytes = every_take (λ w. RecordBytes w.bytes) k m.outstanding (every_weaker (Placed (size m)) (λ w. RecordBytes w.bytes) (λ w p. p.1) m.outstanding h.inside) in
    record {
      small = omega (arith, same, h.small);
      inside = subst (λ n. EveryWrite (Placed n) (drop k m.outstanding)) (sym same) (every_drop (Placed (size m)) k m.outstanding h.inside);
      full = λ a _. full_settle (take k m.outstanding) m.settled bytes (full_everywhere m.settled h.full) a;
    }

pub well_formed_posted : (m : Meaning) (a : ℕ) (bs : List ℕ) → WellFormed m → a < size m → RecordBytes bs → WellFormed (posted m a bs)
well_formed_posted m a bs h within bytes =
    record { small = h.small; inside = every_push (Placed (size m)) m.outstanding (record { at = a; bytes = bs }) h.inside (within, bytes); full = h.full }

-- each write of such a drive is to one of its records
pub writes_inside : (m : Meaning) → WellFormed m → EveryWrite (λ w. w.at < size m) m.outstanding
writes_inside m h = every_weaker (Placed (size m)) (λ w. w.at < size m) (λ w p. p.0) m.outstanding h.inside

pub posted_inside : (m : Meaning) (a : ℕ) (bs : List ℕ) → WellFormed m → a < size m → EveryWrite (λ w. w.at < size m) (m.outstanding ++ (record { at = a; bytes = bs } ∷ []))
posted_inside m a bs h within =
    every_push (λ w. w.at < size m) m.outstanding (record { at = a; bytes = bs }) (writes_inside m h) within

full_youngest : (n a : ℕ) (ws : List Write) (s : State) → EveryWrite (Placed n) ws → WellFormedState s → WellFormedState (youngest ws a s)
full_youngest n a [] s h full = full
full_youngest n a (w ∷ ws) s h full =
    full_youngest n a ws (cond (eqb w.at a) (readable w.bytes) s) h.1
    (cond_both (eqb w.at a) (readable w.bytes) s WellFormedState (λ _. h.0.1) (λ _. full))

-- what an address of such a drive shows
pub well_formed_shown : (m : Meaning) (a : ℕ) → WellFormed m → WellFormedState (shown m a)
well_formed_shown m a h =
    full_youngest (size m) a m.outstanding (get_or m.settled a spoiled) h.inside (full_everywhere m.settled h.full a)

full_torn : (n a : ℕ) (r : State) (ws : List Write) → EveryWrite (Placed n) ws → SomeWrite (Torn a r) ws → WellFormedState r
full_torn n a r [] h s = absurd s
full_torn n a r (w ∷ ws) h (inl t) =
    ⊎_elim (λ e. subst WellFormedState (sym e) h.0.1) (λ e. subst WellFormedState (sym e) tt) t.1
full_torn n a r (w ∷ ws) h (inr s) = full_torn n a r ws h.1 s

pub well_formed_image : (m n : Meaning) → WellFormed m → Image m n → WellFormed n
well_formed_image m n h i =
    let same = i.same_size in
    record {
      small = omega (arith, same, h.small);
      inside = subst (EveryWrite (Placed (size n))) (sym i.nothing_owed) tt;
      full = λ a lt.
          let within : a < size m = omega (arith, same, lt) in
          ⊎_elim
          (λ e. subst WellFormedState (sym e) (h.full a within))
          (full_torn (size m) a (get_or n.settled a spoiled) m.outstanding h.inside)
          (i.each a within);
    }
