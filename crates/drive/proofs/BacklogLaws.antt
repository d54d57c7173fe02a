-- Writes that are put to a backlog and settled from it.
use Rattle.std.proofs.Common.{◌≡◌, ℕ, zero, suc, ◌<◌, min, true, ltb, List, [], ◌∷◌, ◌++◌, length, get_or, take, drop, sym, refl, ap, ◌∙◌, ⊎_elim, arith}
use Rattle.std.proofs.lemmas.List.{take_all, drop_all, take-map, drop-map, get_or-take, length-take, length-map}
use Rattle.std.proofs.lemmas.Bool.{cases_lt, lt-ltb, ltb-true}
use Rattle.drive.specs.declared.queued.Queued.{Queued}
use Rattle.drive.specs.Each.{all_below}
use Rattle.drive.specs.Meaning.{State, Write, Meaning, settle, complete}
use Rattle.drive.specs.Queues.{write_of, line}
use Rattle.drive.proofs.EachLaws.{each_push, each_parts}

pub below_push : (n : ℕ) (ws after : List Write) (w : Write) → after ≡ ws ++ (w ∷ []) → w.at < n → all_below n ws ≡ true → all_below n after ≡ true
below_push n ws after w e within h = each_push (λ v. ltb v.at n) ws after w e h (lt-ltb w.at n within)

below_at : (n : ℕ) (qs : List Queued) (i : ℕ) (d : Queued) → i < length qs → all_below n (line qs) ≡ true → (get_or qs i d).at < n
below_at n [] i d lt h = absurd (omega arith)
below_at n (q ∷ qs) zero d lt h = ltb-true q.at n (each_parts (λ v. ltb v.at n) _ (line qs) (write_of q) refl h).0
below_at n (q ∷ qs) (suc i) d lt h = below_at n qs i d (omega arith) (each_parts (λ v. ltb v.at n) _ (line qs) (write_of q) refl h).1

below_drop : (n k : ℕ) (qs : List Queued) → all_below n (line qs) ≡ true → all_below n (line (drop k qs)) ≡ true
below_drop n zero qs h = h
below_drop n (suc k) [] h = h
below_drop n (suc k) (q ∷ qs) h = below_drop n k qs (each_parts (λ v. ltb v.at n) _ (line qs) (write_of q) refl h).1

pub below_rest : (n m k : ℕ) (qs rest : List Queued) → rest ≡ drop k qs → m ≡ n → all_below n (line qs) ≡ true → all_below m (line rest) ≡ true
below_rest n m k qs rest e same h = (λ i. all_below (same i) (line (e i))) ∙ below_drop n k qs h

-- the write at place i, of the oldest k
in_part : (k i : ℕ) (qs part : List Queued) (q : Queued) → part ≡ take k qs → i < length part → q ≡ get_or part i q → (i < length qs) × (q ≡ get_or qs i q)
in_part k i qs part q e lt is =
    let long : length part ≡ min k (length qs) = ap length e ∙ length-take k qs in
    let small : i < k = omega arith in
    (omega arith, is ∙ ap (λ l. get_or l i q) e ∙ get_or-take k qs i q small)

pub below_item : (n k i : ℕ) (qs part : List Queued) (q : Queued) → part ≡ take k qs → i < length part → q ≡ get_or part i q → all_below n (line qs) ≡ true → q.at < n
below_item n k i qs part q e lt is h =
    let here = in_part k i qs part q e lt is in
    let same : q.at ≡ (get_or qs i q).at = ap (λ x. x.at) here.1 in
    let below = below_at n qs i q here.0 h in
    omega arith

front_line : (qs : List Queued) (count : ℕ) → line (take (min count (length qs)) qs) ≡ take count (line qs)
front_line qs count =
    ⊎_elim
    (λ fewer. let all : min count (length qs) ≡ count = omega arith in ap (λ k. line (take k qs)) all ∙ sym (take-map write_of count qs))
    (λ most. let all : min count (length qs) ≡ length qs = omega arith in
    ap (λ k. line (take k qs)) all ∙ ap line (take_all (length qs) qs (omega arith)) ∙ sym (take_all count (line qs) (omega (arith, length-map qs write_of))))
    (cases_lt count (length qs))

back_line : (qs : List Queued) (count : ℕ) → line (drop (min count (length qs)) qs) ≡ drop count (line qs)
back_line qs count =
    ⊎_elim
    (λ fewer. let all : min count (length qs) ≡ count = omega arith in ap (λ k. line (drop k qs)) all ∙ sym (drop-map write_of count qs))
    (λ most. let all : min count (length qs) ≡ length qs = omega arith in
    ap (λ k. line (drop k qs)) all ∙ ap line (drop_all (length qs) qs (omega arith)) ∙ sym (drop_all count (line qs) (omega (arith, length-map qs write_of))))
    (cases_lt count (length qs))

-- the oldest writes are settled and off the queue
pub completed : (ss after : List State) (qs rest part : List Queued) (count n i : ℕ) → n ≡ min count (length qs) → part ≡ take n qs → i ≡ length part → after ≡ settle (line (take i qs)) ss → rest ≡ drop n qs → (w : ℕ) → ◌≡◌ {A = Meaning} (record { settled = after; outstanding = line rest; wear = w }) (complete count (record { settled = ss; outstanding = line qs; wear = w }))
completed ss after qs rest part count n i few e all done left w =
    let long : length part ≡ min n (length qs) = ap length e ∙ length-take n qs in
    let place : i ≡ n = omega arith in
    let front : line (take i qs) ≡ take count (line qs) = ap (λ k. line (take k qs)) (place ∙ few) ∙ front_line qs count in
    let back : line rest ≡ drop count (line qs) = ap line (left ∙ ap (λ k. drop k qs) few) ∙ back_line qs count in
    λ j. record { settled = (done ∙ ap (λ l. settle l ss) front) j; outstanding = back j; wear = w }
