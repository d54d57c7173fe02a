-- Counting what shows.
use mir.Val.{bool_byte}
use Rattle.std.proofs.lemmas.Bool.{cases_Bool}
use Rattle.std.proofs.Common.{true, false, Some, None, Ok, Err, Result, refl, inl, inr, ◌≡◌, ℕ, ◌+◌, ◌*◌, ◌<◌, ◌≤◌, Bool, cond, not, eqb, List, [], ◌∷◌, ◌++◌, length, get_or, take, sum_by, Option, sym, ap, ◌∙◌, arith}
use Rattle.std.specs.List.{range_with_len}
use Rattle.std.proofs.lemmas.List.Sums.{sum_by_push, sum_by_more}
use Rattle.drive.specs.Meaning.{Meaning}
use Rattle.record.specs.declared.label.Label.{Label}
use Rattle.record.specs.declared.entry.Entry.{Entry}
use Rattle.model.proofs.NewLaws.{counting_push}
use Rattle.drive.specs.Faults.{Refusal, refusal, no_record}
use Rattle.model.specs.Carried.{asked, or_refused}
use Rattle.surveys.specs.declared.survey.Survey.{Survey}
use Rattle.surveys.specs.Surveys.{entry_found, entries_that, addresses_in, is_free_entry, named_by, pages_named, survey_of, found}
use Rattle.std.specs.Option.{is_some}

-- one entry more
pub count_next : (t : Option Entry → Bool) (m : Meaning) (l : Label) (i n : ℕ) (o : Option Entry) (k : ℕ) → o ≡ entry_found m l i
    → n ≡ entries_that t m l i → k ≡ n + cond (t o) 1 0 → k ≡ entries_that t m l (i + 1)
count_next t m l i n o k is e f =
    let p : ℕ → ℕ = λ j. cond (t (entry_found m l j)) 1 0 in
    let z : 0 + i ≡ i = omega arith in
    f ∙ ((λ j. e j + cond (t (is j)) 1 0)
    ∙ sym (ap (sum_by p) (counting_push 0 i ∙ ap (λ x. range_with_len 0 i ++ (x ∷ [])) z) ∙ sum_by_push p (range_with_len 0 i) i))

-- the pages of one entry more
pub named_next : (m : Meaning) (l : Label) (i n : ℕ) (o : Option Entry) (k : ℕ) → o ≡ entry_found m l i
    → n ≡ pages_named m l i → k ≡ n + named_by o → k ≡ pages_named m l (i + 1)
named_next m l i n o k is e f =
    let p : ℕ → ℕ = λ j. named_by (entry_found m l j) in
    let z : 0 + i ≡ i = omega arith in
    f ∙ ((λ j. e j + named_by (is j))
    ∙ sym (ap (sum_by p) (counting_push 0 i ∙ ap (λ x. range_with_len 0 i ++ (x ∷ [])) z) ∙ sum_by_push p (range_with_len 0 i) i))

-- one slot more
pub address_more : (xs : List ℕ) (i n k : ℕ) → i < length xs → n ≡ addresses_in (take i xs)
    → k ≡ n + cond (not (eqb (get_or xs i 0) 0)) 1 0 → k ≡ addresses_in (take (i + 1) xs)
address_more xs i n k lt e f =
    f ∙ (ap (λ x. x + cond (not (eqb (get_or xs i 0) 0)) 1 0) e ∙ sym (sum_by_more (λ a. cond (not (eqb a 0)) 1 0) xs i 0 lt))

-- the first i entries are counted
pub record Counted (m : Meaning) (l : Label) (free sound named i : ℕ) : Type 0 where
  pub free_is : free ≡ entries_that is_free_entry m l i
  pub sound_is : sound ≡ entries_that is_some m l i
  pub named_is : named ≡ pages_named m l i
  pub few_free : free ≤ i
  pub few_sound : sound ≤ i
  pub few_named : named ≤ 64 * i

small : (b : Bool) → cond b 1 0 ≤ 1
small true = omega arith
small false = omega arith

pub counted_more : (m : Meaning) (l : Label) (free sound named i : ℕ) (o : Option Entry) (free' sound' named' : ℕ) → o ≡ entry_found m l i
    → Counted m l free sound named i → free' ≡ free + cond (is_free_entry o) 1 0 → sound' ≡ sound + cond (is_some o) 1 0 → named' ≡ named + named_by o
    → named_by o ≤ 64 → Counted m l free' sound' named' (i + 1)
counted_more m l free sound named i o free' sound' named' is c f s n most =
    let one = small (is_free_entry o) in
    let once = small (is_some o) in
    record {
      free_is = count_next is_free_entry m l i free o free' is c.free_is f;
      sound_is = count_next is_some m l i sound o sound' is c.sound_is s;
      named_is = named_next m l i named o named' is c.named_is n;
      few_free = omega (arith, c.few_free);
      few_sound = omega (arith, c.few_sound);
      few_named = omega (arith, c.few_named);
    }

-- a yes counts as 1
pub byte_is : (b : Bool) → bool_byte b ≡ cond b 1 0
byte_is true = refl
byte_is false = refl

-- what is found under the label that is believed
pub found_under : (m : Meaning) (l : Label) (n : ℕ) (o : Option Label) → Ok tt ≡ asked 1 (eqb n 512) → Ok l ≡ or_refused 3 o
    → Ok (survey_of m l) ≡ cond (eqb n 512) (found m o) (Err (refusal 1 no_record))
found_under m l n o page e =
    elim (cases_Bool (eqb n 512)) [
      | inl yes' ↦ rw yes' (under m l o e)
      | inr no' ↦ absurd (let q : Ok tt ≡ Err (refusal 1 no_record) = rw no' at page in let z : ◌≡◌ {A = ℕ} 0 1 = cc in omega arith)
    ]
  where
    under : (m : Meaning) (l : Label) (o : Option Label) → Ok l ≡ or_refused 3 o → Ok (survey_of m l) ≡ found m o
    under m l None e = absurd (let z : ◌≡◌ {A = ℕ} 0 1 = cc in omega arith)
    under m l (Some x) e = let is : l ≡ x = cc in ap {B = Result Survey Refusal} (λ y. Ok (survey_of m y)) is
