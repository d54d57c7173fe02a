-- What the calls on the map come to.
use Rattle.std.proofs.Common.{MatchOption, ◌≡◌, ℕ, ◌-◌, ◌<◌, ◌≤◌, Bool, true, false, eqb, List, [], ◌∷◌, ◌++◌, length, Some, None, Ok, Err, Option, slice_get, sym, refl, ap, ◌∙◌, arith, Result}
use Rattle.std.proofs.lemmas.Bool.{lt-ltb, le-ltb, cond-true, cond-false}
use Rattle.drive.specs.Answers.{and_then}
use Rattle.drive.specs.Faults.{Refusal}
use Rattle.drive.specs.Meaning.{Meaning}
use Rattle.record.specs.declared.label.Label.{Label}
use Rattle.record.specs.declared.label.LabelState.TheVariants.{InUse}
use Rattle.model.specs.Carried.{asked, ComesTo}
use Rattle.model.specs.Memory.{Memory, used}
use Rattle.model.specs.Outcomes.{Reply, section, busy, quiet, Outcome, refuse, ask, Rules, keep}
use Rattle.model.specs.Plans.{kept_label, is_open, is_idle, write_section, take_from, taking, give_oldest, giving, balance_plan}
use Rattle.model.specs.Shown.{bits_shown}
use Rattle.model.specs.Stock.{cover, lowest, all_marked, given, staying, counting_free, oldest}
use Rattle.model.proofs.CarriedLaws.{asked_yes, asked_no}
use Rattle.volumes.specs.Volumes.{section_or}
use Rattle.volumes.proofs.Carrying.{page_and_phase}
use Rattle.model.specs.Calls.{Volume}

-- ---- how much is held

pub used_within : {X : Type 0} (ts : List (Option X)) → used ts ≤ length ts
used_within [] = omega arith
used_within (None ∷ ts) = let i = used_within ts in omega arith
used_within (Some x ∷ ts) = let i = used_within ts in omega arith

pub first_oldest : (xs : List ℕ) → slice_get xs 0 ≡ oldest xs
first_oldest [] = refl
first_oldest (x ∷ xs) = refl

-- ---- the section that is posted

-- addresses are taken from it, as the steps of take have done
pub section_taken : {D : Type 0} (g : Rules) (meaning : D → Meaning) (d e : D) (l : Label) (v : Memory) (k most : ℕ) (service shown left taken : List ℕ)
    → Some k ≡ counting_free 0 v.counts → service ≡ v.service → most ≡ 16 - length service
    → d ≡ e → l ≡ kept_label (meaning e) v InUse → shown ≡ bits_shown (meaning d) l.id l.entries k
    → left ≡ all_marked k 0 (lowest shown k most) shown → taken ≡ lowest shown k most
    → take_from g (meaning e) v (counting_free 0 v.counts) ≡ write_section g (meaning e) v k left v.service (v.unsettled ++ taken)
section_taken g meaning d e l v k most service shown left taken found serves wanted same label is leaves takes =
    let shows : shown ≡ bits_shown (meaning e) v.id v.entries k = is ∙ (λ j. bits_shown (meaning (same j)) (label j).id (label j).entries k) in
    let amount : most ≡ 16 - length v.service = wanted ∙ ap (λ s. 16 - length s) serves in
    let posts : taking g (meaning e) v k ≡ write_section g (meaning e) v k left v.service (v.unsettled ++ taken) = rw (takes, leaves, amount, shows) in
    ap (take_from g (meaning e) v) (sym found) ∙ posts

-- addresses are given back to it, as the steps of give have done
pub section_given : {D : Type 0} (g : Rules) (meaning : D → Meaning) (d e : D) (l : Label) (v : Memory) (n a k most : ℕ) (r : Reply) (first service shown back gives stays : List ℕ)
    → Some a ≡ slice_get first 0 → first ≡ v.service → k ≡ cover a → service ≡ v.service → most ≡ length service - n
    → d ≡ e → l ≡ kept_label (meaning e) v InUse → shown ≡ bits_shown (meaning d) l.id l.entries k
    → gives ≡ given k most service → back ≡ all_marked k 1 gives shown → stays ≡ staying k most service
    → give_oldest g (meaning e) v n r (oldest v.service) ≡ write_section g (meaning e) v k back stays v.unsettled
section_given g meaning d e l v n a k most r first service shown back gives stays begins firsts covers serves wanted same label is gone after kept =
    let found : Some a ≡ oldest v.service = begins ∙ (ap (λ s. slice_get s 0) firsts ∙ first_oldest v.service) in
    let shows : shown ≡ bits_shown (meaning e) v.id v.entries k = is ∙ (λ j. bits_shown (meaning (same j)) (label j).id (label j).entries k) in
    let posts : giving g (meaning e) v k (length v.service - n) ≡ write_section g (meaning e) v k back stays v.unsettled = rw (kept, after, gone, shows, wanted, serves) in
    ap (give_oldest g (meaning e) v n r) (sym found) ∙ (ap (λ x. giving g (meaning e) v x (length v.service - n)) (sym covers) ∙ posts)

-- ---- the plans, as far as their questions are answered

pub balance_busy : (g : Rules) (n : ℕ) (m : Meaning) (v : Memory) → Ok tt ≡ asked 1 (eqb n 512) → Ok tt ≡ asked 2 (is_open v.phase) → false ≡ is_idle v.chart
    → balance_plan g n m v ≡ keep busy v
unfolding balance_plan
balance_busy g n m v page open' idle = page_and_phase _ _ _ page open' ∙ cond-false _ _ _ (sym idle)

pub balance_takes : (g : Rules) (n : ℕ) (m : Meaning) (v : Memory) (service : List ℕ) → Ok tt ≡ asked 1 (eqb n 512) → Ok tt ≡ asked 2 (is_open v.phase) → true ≡ is_idle v.chart
    → service ≡ v.service → length service < 8 → balance_plan g n m v ≡ take_from g m v (counting_free 0 v.counts)
unfolding balance_plan
balance_takes g n m v service page open' idle serves few =
    let few' : length v.service < 8 = rw (sym serves) few in
    page_and_phase _ _ _ page open' ∙ (cond-true _ _ _ (sym idle) ∙ cond-true _ _ _ (lt-ltb (length v.service) 8 few'))

pub balance_gives : (g : Rules) (n : ℕ) (m : Meaning) (v : Memory) (service : List ℕ) → Ok tt ≡ asked 1 (eqb n 512) → Ok tt ≡ asked 2 (is_open v.phase) → true ≡ is_idle v.chart
    → service ≡ v.service → 24 < length service → balance_plan g n m v ≡ give_oldest g m v 16 quiet (oldest v.service)
unfolding balance_plan
balance_gives g n m v service page open' idle serves many =
    let many' : 24 < length v.service = rw (sym serves) many in
    let some' : 8 ≤ length v.service = omega arith in
    page_and_phase _ _ _ page open'
    ∙ (cond-true _ _ _ (sym idle) ∙ (cond-false _ _ _ (le-ltb (length v.service) 8 some') ∙ cond-true _ _ _ (lt-ltb 24 (length v.service) many')))

pub balance_quiet : (g : Rules) (n : ℕ) (m : Meaning) (v : Memory) (service : List ℕ) → Ok tt ≡ asked 1 (eqb n 512) → Ok tt ≡ asked 2 (is_open v.phase) → true ≡ is_idle v.chart
    → service ≡ v.service → 8 ≤ length service → length service ≤ 24 → balance_plan g n m v ≡ keep quiet v
unfolding balance_plan
balance_quiet g n m v service page open' idle serves some' most =
    let some'' : 8 ≤ length v.service = rw (sym serves) some' in
    let most' : length v.service ≤ 24 = rw (sym serves) most in
    page_and_phase _ _ _ page open'
    ∙ (cond-true _ _ _ (sym idle) ∙ (cond-false _ _ _ (le-ltb (length v.service) 8 some'') ∙ cond-false _ _ _ (le-ltb 24 (length v.service) most')))

-- two questions as one answer
pub both_yes : (i j : ℕ) (b d : Bool) (o : Outcome) → Ok tt ≡ and_then (asked i b) (asked j d) → ask i b (ask j d o) ≡ o
unfolding ask
both_yes i j true d o e = asked_yes j d o e
both_yes i j false d o e = let z : ◌≡◌ {A = ℕ} 0 1 = cc in absurd (omega arith)

pub one_no : (i j : ℕ) (b d : Bool) (o : Outcome) (f : Refusal) → Err f ≡ and_then (asked i b) (asked j d) → ask i b (ask j d o) ≡ refuse f
unfolding ask
one_no i j true d o f e = asked_no j d o f e
one_no i j false d o f e = cc

-- what a call tells that posted a section, or else did nothing
pub section_reply : {X : Type 0} (reply : X → Reply) (otherwise : X) (of : ℕ → X) (r : Reply) (o : Option ℕ) (x : X) → MatchOption o (x ≡ otherwise) (λ k. x ≡ of k)
    → reply otherwise ≡ r → ((k : ℕ) → reply (of k) ≡ section k) → reply x ≡ section_or r o
section_reply reply otherwise of r None x e none some = ap reply e ∙ none
section_reply reply otherwise of r (Some k) x e none some = ap reply e ∙ some k

-- what comes to an outcome comes to the plan that leads there
pub at_plan : (p o : Outcome) (v u : Volume) (a b : Result Reply Refusal) → p ≡ o → b ≡ a → ComesTo o v u a → ComesTo p v u b
at_plan p o v u a b leads tells done = rw (leads, tells) done
