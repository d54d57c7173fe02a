-- The records that lie in bytes.
use Rattle.std.proofs.Common.{◌≡◌, ℕ, ◌+◌, ◌-◌, ◌*◌, ◌<◌, ◌≤◌, Bool, true, cond, eqb, ltb, List, length, Option, Some, None, MatchOption, Bor, ◌≢◌, get_or, take, drop, set, sym, refl, ap, ◌∙◌, subst, ⊎_elim, arith}
use borrow.Rule.Slice.PartMut.{put_mid}
use Rattle.std.proofs.lemmas.List.{length-append, length-take, length-drop, length-set, get_or-set_same, get_or-set_other, same_lists}
use Rattle.std.proofs.lemmas.Slice.{between_is, between-put_mid, drop-put_mid, take-put_mid_below}
use Rattle.std.proofs.lemmas.Bool.{cases_eq, cases_order, eq-eqb, ne_eqb, cond-true, cond-false, cond_both}
use Rattle.std.specs.List.{AllByRecursion}
use Rattle.std.proofs.ByRecursion.{All-from_get_or, All-get_or, All-take, All-drop}
use Rattle.std.specs.Array.{IsWholeChunk}
use Rattle.drive.specs.Disks.{record_state}
use Rattle.drive.specs.Each.{each, all_bytes, holds_bytes}
use Rattle.drive.proofs.EachLaws.{each_from_all, each_set, all_bytes_from}
use Rattle.drive.specs.Formed.{all_from_each, length_states, at_states}
use Rattle.drive.specs.Meaning.{State, readable, spoiled}
use Rattle.drive.specs.Surfaces.{extent, cell, states}

-- one record written over
pub states_set : (bytes marks after page : List ℕ) (at : ℕ) → length after ≡ length bytes → at < length (states bytes marks) → take 512 (drop (at * 512) after) ≡ page → ((b : ℕ) → (b ≡ at → ⊥) → take 512 (drop (b * 512) after) ≡ take 512 (drop (b * 512) bytes)) → states after (set marks at 0) ≡ set (states bytes marks) at (readable page)
states_set bytes marks after page at long h here others =
    let ss = states bytes marks in
    let n = length_states bytes marks in
    let n' = length_states after (set marks at 0) in
    let same : length (states after (set marks at 0)) ≡ length ss = n' ∙ (λ i. extent (long i) (length-set marks at 0 i)) ∙ sym n in
    same_lists (states after (set marks at 0)) (set ss at (readable page)) (same ∙ sym (length-set ss at (readable page)))
    (λ k d lt.
    at_states after (set marks at 0) k d lt
    ∙ ⊎_elim
    (λ e. subst (λ x. cell after (set marks at 0) x ≡ get_or (set ss at (readable page)) x d) (sym e)
    (cond-true (eqb (get_or (set marks at 0) at 0) 0) _ _ (eq-eqb _ 0 (get_or-set_same marks at 0 0 (omega arith)))
    ∙ ap readable here ∙ sym (get_or-set_same ss at (readable page) d h)))
    (λ ne. (λ i. cond (eqb (get_or-set_other marks at k 0 0 ne i) 0) (readable (others k ne i)) spoiled)
    ∙ sym (at_states bytes marks k d (omega arith)) ∙ sym (get_or-set_other ss at k (readable page) d ne))
    (cases_eq k at))

-- a record of a surface lies within its bytes and its marks
pub room : (bytes marks : List ℕ) (at : ℕ) → at < length (states bytes marks) → (at < length marks) × (at * 512 + 512 ≤ length bytes) × (at < 65535)
room bytes marks at h = let n = length_states bytes marks in (omega arith, omega arith, omega arith)

pub spoiled_shown : (bytes marks : List ℕ) (at : ℕ) → at < length (states bytes marks) → (get_or marks at 0 ≡ 0 → ⊥) → spoiled ≡ get_or (states bytes marks) at spoiled
spoiled_shown bytes marks at h marked =
    sym (at_states bytes marks at spoiled h ∙ cond-false (eqb (get_or marks at 0) 0) _ _ (ne_eqb _ 0 marked))

pub readable_shown : (bytes marks : List ℕ) (at : ℕ) → at < length (states bytes marks) → get_or marks at 0 ≡ 0 → readable (take 512 (drop (at * 512) bytes)) ≡ get_or (states bytes marks) at spoiled
readable_shown bytes marks at h clear =
    sym (at_states bytes marks at spoiled h ∙ cond-true (eqb (get_or marks at 0) 0) _ _ (eq-eqb _ 0 clear))

-- a record's bytes that are handed out as an array
pub record_shown : (bytes marks part : List ℕ) (at : ℕ) (r : Option (Bor (List ℕ))) → part ≡ take 512 (drop (at * 512) bytes) → at < length (states bytes marks) → get_or marks at 0 ≡ 0 → MatchOption r (length part ≢ 512) (λ y. IsWholeChunk part y.now 512) → record_state r ≡ get_or (states bytes marks) at spoiled
record_shown bytes marks part at (Some y) is h clear whole = ap readable (whole.same ∙ is) ∙ readable_shown bytes marks at h clear
record_shown bytes marks part at None is h clear short =
    let fits = room bytes marks at h in
    absurd (short (ap length is ∙ simp (length-take, length-drop) (omega arith)))

-- a page written over the record at `at`
module _ (bytes page : List ℕ) (at : ℕ) (long : length page ≡ 512) (fits : at * 512 + 512 ≤ length bytes) where
  put_length : length (put_mid (at * 512) 512 bytes page) ≡ length bytes
  put_length = simp (length-append, length-take, length-drop) (omega arith)

  put_here : take 512 (drop (at * 512) (put_mid (at * 512) 512 bytes page)) ≡ page
  put_here =
      let n : at * 512 + 512 - at * 512 ≡ 512 = omega arith in
      subst (λ k. take k (drop (at * 512) (put_mid (at * 512) 512 bytes page)) ≡ page) n (between-put_mid (at * 512) 512 bytes page (at * 512 + 512) (omega arith) (omega arith))

  put_other : (b : ℕ) → (b ≡ at → ⊥) → take 512 (drop (b * 512) (put_mid (at * 512) 512 bytes page)) ≡ take 512 (drop (b * 512) bytes)
  put_other b ne =
      ⊎_elim (λ e. absurd (ne e))
      (⊎_elim
      (λ below.
      let n : b * 512 + 512 - b * 512 ≡ 512 = omega arith in
      let all = put_mid (at * 512) 512 bytes page in
      subst (λ k. take k (drop (b * 512) all) ≡ take k (drop (b * 512) bytes)) n
      (between_is all (b * 512) (b * 512 + 512)
      ∙ ap (drop (b * 512)) (take-put_mid_below (at * 512) 512 bytes page (b * 512 + 512) (omega arith) (omega arith))
      ∙ sym (between_is bytes (b * 512) (b * 512 + 512))))
      (λ above. ap (take 512) (drop-put_mid (at * 512) 512 bytes page (b * 512) (omega arith) (omega arith) long)))
      (cases_order b at)

pub states_put : (bytes marks page last : List ℕ) (at k : ℕ) → k ≡ 512 → last ≡ page → length page ≡ 512 → at < length (states bytes marks) → states (put_mid (at * 512) k bytes last) (set marks at 0) ≡ set (states bytes marks) at (readable page)
states_put bytes marks page last at k n is long h =
    let fits = (room bytes marks at h).1 in
    (λ i. states (put_mid (at * 512) (n i) bytes (is i)) (set marks at 0))
    ∙ states_set bytes marks (put_mid (at * 512) 512 bytes page) page at (put_length bytes page at long fits) h (put_here bytes page at long fits) (put_other bytes page at long fits)

pub states_sized : (bytes marks : List ℕ) → all_bytes bytes ≡ true → each holds_bytes (states bytes marks) ≡ true
states_sized bytes marks h =
    let byte : ℕ → Bool = λ b. ltb b 256 in
    let Byte : ℕ → Type 0 = λ b. byte b ≡ true in
    let all : AllByRecursion Byte bytes = all_from_each byte bytes h in
    let part : (a : ℕ) → all_bytes (take 512 (drop (a * 512) bytes)) ≡ true =
    λ a. each_from_all byte (take 512 (drop (a * 512) bytes)) (All-take Byte 512 (drop (a * 512) bytes) (All-drop Byte (a * 512) bytes all)) in
    let Sized : State → Type 0 = λ s. holds_bytes s ≡ true in
    each_from_all holds_bytes (states bytes marks)
    (All-from_get_or Sized (states bytes marks) spoiled
    (λ a lt. subst Sized (sym (at_states bytes marks a spoiled lt))
    (cond_both (eqb (get_or marks a 0) 0) (readable (take 512 (drop (a * 512) bytes))) spoiled Sized (λ _. part a) (λ _. refl))))

pub settled_sized : (ss after : List State) (at : ℕ) (page : List ℕ) → after ≡ set ss at (readable page) → ((i : ℕ) → get_or page i 0 < 256) → each holds_bytes ss ≡ true → each holds_bytes after ≡ true
settled_sized ss after at page e h sized = each_set holds_bytes ss after at (readable page) e sized (all_bytes_from page h)

-- a page written over a record whose mark is still what it was
pub put_sized : (bytes marks page last : List ℕ) (at k : ℕ) → k ≡ 512 → last ≡ page → length page ≡ 512 → at < length (states bytes marks) → ((i : ℕ) → get_or page i 0 < 256) → each holds_bytes (states bytes marks) ≡ true → each holds_bytes (states (put_mid (at * 512) k bytes last) marks) ≡ true
put_sized bytes marks page last at k n is long h small sized =
    let Sized : State → Type 0 = λ s. holds_bytes s ≡ true in
    let after = put_mid (at * 512) 512 bytes page in
    let fits = (room bytes marks at h).1 in
    let same : length (states after marks) ≡ length (states bytes marks) =
    length_states after marks ∙ ap (λ l. extent l (length marks)) (put_length bytes page at long fits) ∙ sym (length_states bytes marks) in
    let before = all_from_each holds_bytes (states bytes marks) sized in
    ap (λ s. each holds_bytes (states s marks)) ((λ i. put_mid (at * 512) (n i) bytes (is i)))
    ∙ each_from_all holds_bytes (states after marks)
    (All-from_get_or Sized (states after marks) spoiled
    (λ a lt. subst Sized (sym (at_states after marks a spoiled lt))
    (⊎_elim
    (λ e. subst (λ x. holds_bytes (cell after marks x) ≡ true) (sym e)
    (cond_both (eqb (get_or marks at 0) 0) (readable (take 512 (drop (at * 512) after))) spoiled Sized
    (λ _. ap all_bytes (put_here bytes page at long fits) ∙ all_bytes_from page small) (λ _. refl)))
    (λ ne. let within : a < length (states bytes marks) = omega arith in
    ap (λ bs. holds_bytes (cond (eqb (get_or marks a 0) 0) (readable bs) spoiled)) (put_other bytes page at long fits a ne)
    ∙ ap holds_bytes (sym (at_states bytes marks a spoiled within))
    ∙ All-get_or Sized (states bytes marks) a spoiled within before)
    (cases_eq a at))))
