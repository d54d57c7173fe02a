-- The layout of a label, step by step, and its laws.
use Rattle.std.proofs.Common.{◌≡◌, ℕ, zero, suc, ◌+◌, ◌^◌, ◌<◌, ◌≤◌, Bool, true, not, ◌&&◌, eqb, leb, List, ◌∷◌, ◌++◌, length, get_or, take, drop, replicate, Some, Decides, sym, refl, ap, ◌∙◌, subst, ap₂, arith, rules}
use Rattle.std.specs.List.{between}
use Rattle.std.proofs.ByRecursion.{All-get_or}
use Rattle.std.proofs.lemmas.List.{drop_more, drop-drop, take-append-drop}
use Rattle.std.proofs.lemmas.Bool.{and_from, and_parts, cond-true, eq-eqb, eqb-true, leb-true}
use Rattle.drive.specs.Meaning.{RecordBytes}
use Rattle.std.proofs.lemmas.Slice.Eq.{compares_Decides}
use Rattle.record.specs.declared.label.Label.{Label}
use Rattle.record.specs.declared.label.LabelState.{LabelState}
use Rattle.record.specs.declared.label.LabelState.TheVariants.{Closed, InUse, Salvage}
use Rattle.record.specs.Words.{word, put, words, unwords, zeros, same}
use Rattle.record.specs.Control.{check, control, whole}
use Rattle.record.specs.Regions.{in_limits}
use Rattle.record.specs.Labels.{state_number, numbered_state, label_text, with_text, with_numbers, label_body, label_record, label_in, label_laid_out}
use Rattle.record.specs.Laws.{FittingLabel, AWrittenLabelIsBelieved, ABelievedLabelIsTheRecordOfWhatIsRead}
use Rattle.record.proofs.WordLaws.{length_words, words_take, words_drop}
use Rattle.record.proofs.ControlLaws.{Fit, words_control, whole_control, whole_is_control, words_fit}
use Rattle.record.proofs.LayoutLaws.{all_zeros, zeros_to_end, some_parts}
use Rattle.std.proofs.lemmas.Bool.Decides.{same_from_decides}

pub same_decides : (xs ys : List ℕ) → Decides (same xs ys) (xs ≡ ys)
same_decides xs ys = compares_Decides same (search rules) xs ys

-- ---- writing

-- the pages that `encode` goes through, from the cleared one on
pub label_steps : (l : Label) (p q r s : List ℕ) → p ≡ replicate 512 0 → q ≡ put p 0 l.id → r ≡ with_text q → s ≡ with_numbers l r
    → s ≡ unwords (l.id ∷ 0 ∷ label_body l)
unfolding label_body
label_steps l p q r s ep eq er es =
    let z : q ≡ put (replicate 512 0) 0 l.id = eq ∙ ap (λ x. put x 0 l.id) ep in
    es ∙ ap (with_numbers l) (er ∙ ap with_text z)

state_fits : (s : LabelState) → state_number s < 2 ^ 32
state_fits Closed = omega arith
state_fits InUse = omega arith
state_fits Salvage = omega arith

pub label_body_fits : (l : Label) → l.records < 2 ^ 16 → l.entries < 2 ^ 16 → l.trouble < 2 ^ 32 → Fit (label_body l)
unfolding label_body
label_body_fits l ht he hr =
    (omega arith, (omega arith, (omega arith, (omega arith, (omega arith, (omega arith, (omega arith, (state_fits l.state, (hr, all_zeros 117)))))))))

-- ---- what is written is believed

length_label_body : (l : Label) → length (label_body l) ≡ 126
unfolding label_body
length_label_body l = refl

text_stands : (start : ℕ) (l : Label) → between 8 24 (label_record start l) ≡ label_text
unfolding label_record label_body control
text_stands start l = refl

state_small : (s : LabelState) → leb (state_number s) 2 ≡ true
state_small Closed = refl
state_small InUse = refl
state_small Salvage = refl

numbered_number : (s : LabelState) → numbered_state (state_number s) ≡ s
numbered_number Closed = refl
numbered_number InUse = refl
numbered_number Salvage = refl

-- what the words ws hold from word 6 on suits the label of a volume of t records
abbrev numbers_laid_out : ℕ → List ℕ → Bool
numbers_laid_out t ws =
    eqb (get_or ws 6 0) 1
    && (eqb (get_or ws 7 0) t && (in_limits (get_or ws 0 0) (get_or ws 8 0) t && (leb (get_or ws 9 0) 2 && zeros (between 11 128 ws))))

abbrev label_of : List ℕ → Label
label_of ws =
    record { id = get_or ws 0 0; records = get_or ws 7 0; entries = get_or ws 8 0; state = numbered_state (get_or ws 9 0); trouble = get_or ws 10 0 }

body_laid_out : (c : ℕ) (l : Label) → in_limits l.id l.entries l.records ≡ true → numbers_laid_out l.records (l.id ∷ c ∷ label_body l) ≡ true
unfolding label_body
body_laid_out c l h =
    and_from (eqb l.records l.records) _ (eq-eqb l.records l.records refl)
    (and_from (in_limits l.id l.entries l.records) _ h (and_from (leb (state_number l.state) 2) true (state_small l.state) refl))

body_label : (c : ℕ) (l : Label) → label_of (l.id ∷ c ∷ label_body l) ≡ l
unfolding label_body
body_label c l =
    ap (λ s. record { id = l.id; records = l.records; entries = l.entries; state = s; trouble = l.trouble }) (numbered_number l.state)

pub a_written_label_is_believed : AWrittenLabelIsBelieved
unfolding label_record
a_written_label_is_believed start l hs f h =
    let p = label_record start l in
    let fit = label_body_fits l f.records f.entries f.trouble in
    let c = check start (l.id ∷ 0 ∷ label_body l) in
    let w : words p ≡ l.id ∷ c ∷ label_body l = words_control start l.id (label_body l) hs f.id fit in
    let a : whole start (word p 0) p ≡ true = ap (λ ws. whole start (get_or ws 0 0) p) w ∙ whole_control start l.id (label_body l) hs f.id fit (length_label_body l) in
    let t : same (between 8 24 p) label_text ≡ true = (same_decides (between 8 24 p) label_text).1 (text_stands start l) in
    let n : numbers_laid_out l.records (words p) ≡ true = ap (numbers_laid_out l.records) w ∙ body_laid_out c l h in
    cond-true _ _ _ (and_from _ _ a (and_from _ _ t n)) ∙ ap Some (ap label_of w ∙ body_label c l)

-- ---- what is believed is the record of what is read

number_numbered : (n : ℕ) → n ≤ 2 → state_number (numbered_state n) ≡ n
number_numbered zero h = refl
number_numbered (suc zero) h = refl
number_numbered (suc (suc zero)) h = refl
number_numbered (suc (suc (suc n))) h = absurd (omega arith)

-- words 6 to 10, and the rest
five_more : (ws : List ℕ) → 11 ≤ length ws → drop 6 ws ≡ get_or ws 6 0 ∷ get_or ws 7 0 ∷ get_or ws 8 0 ∷ get_or ws 9 0 ∷ get_or ws 10 0 ∷ drop 11 ws
five_more ws l =
    drop_more ws 6 0 (omega arith)
    ∙ ap (λ x. get_or ws 6 0 ∷ x) (drop_more ws 7 0 (omega arith)
    ∙ ap (λ x. get_or ws 7 0 ∷ x) (drop_more ws 8 0 (omega arith)
    ∙ ap (λ x. get_or ws 8 0 ∷ x) (drop_more ws 9 0 (omega arith)
    ∙ ap (λ x. get_or ws 9 0 ∷ x) (drop_more ws 10 0 (omega arith)))))

-- what a test of the layout says
record Laid (t : ℕ) (p : List ℕ) : Type 0 where
  text : between 8 24 p ≡ label_text
  version : word p 6 ≡ 1
  records : word p 7 ≡ t
  limits : in_limits (word p 0) (word p 8) t ≡ true
  state : word p 9 ≤ 2
  rest : zeros (between 11 128 (words p)) ≡ true

laid_parts : (t : ℕ) (p : List ℕ) → label_laid_out t p ≡ true → Laid t p
laid_parts t p h =
    let a = and_parts (same (between 8 24 p) label_text) (numbers_laid_out t (words p)) h in
    let b = and_parts _ _ a.1 in
    let c = and_parts _ _ b.1 in
    let d = and_parts (in_limits (word p 0) (word p 8) t) (leb (word p 9) 2 && zeros (between 11 128 (words p))) c.1 in
    let e = and_parts _ _ d.1 in
    record {
      text = (same_decides (between 8 24 p) label_text).0 a.0;
      version = eqb-true _ _ b.0;
      records = eqb-true _ _ c.0;
      limits = d.0;
      state = leb-true _ _ e.0;
      rest = e.1;
    }

-- words 2 to 127 of a record that is laid out as a label
body_is : (t : ℕ) (p : List ℕ) → length p ≡ 512 → Laid t p → drop 2 (words p) ≡ label_body (label_in p)
unfolding label_body
body_is t p l h =
    let ws = words p in
    let n = length_words p in
    let x : take 4 (drop 2 ws) ≡ words label_text = ap (take 4) (sym (words_drop 2 p)) ∙ (sym (words_take 4 (drop 8 p)) ∙ ap words h.text) in
    let y : drop 6 ws ≡ 1 ∷ word p 7 ∷ word p 8 ∷ state_number (numbered_state (word p 9)) ∷ word p 10 ∷ drop 11 ws = five_more ws (omega arith)
    ∙ ap₂ (λ v s. v ∷ word p 7 ∷ word p 8 ∷ s ∷ word p 10 ∷ drop 11 ws) h.version (sym (number_numbered (word p 9) h.state)) in
    let z : drop 11 ws ≡ replicate 117 0 = zeros_to_end ws 11 (omega arith) h.rest in
    sym (take-append-drop 4 (drop 2 ws))
    ∙ ap₂ (λ a b. a ++ b) x (drop-drop 4 2 ws ∙ (y ∙ ap (λ r. 1 ∷ word p 7 ∷ word p 8 ∷ state_number (numbered_state (word p 9)) ∷ word p 10 ∷ r) z))

-- numbers of entries and of records in the limits fit their places
counts_fit : (id e t : ℕ) → in_limits id e t ≡ true → (e < 2 ^ 16) × (t < 2 ^ 16)
counts_fit id e t h =
    let a = and_parts (not (eqb id 0)) _ h in
    let b = and_parts (leb 1 e) _ a.1 in
    let c = and_parts (leb e 3968) (leb (e + 9) t && leb t 11904) b.1 in
    let d = and_parts (leb (e + 9) t) (leb t 11904) c.1 in
    let m : e ≤ 3968 = leb-true e 3968 c.0 in
    let n : t ≤ 11904 = leb-true t 11904 d.1 in
    (omega arith, omega arith)

-- the numbers of records and of entries in a label that is laid out
pub laid_fits : (t : ℕ) (p : List ℕ) → label_laid_out t p ≡ true → (word p 7 < 2 ^ 16) × (word p 8 < 2 ^ 16)
laid_fits t p h =
    let o = laid_parts t p h in
    let f = counts_fit (word p 0) (word p 8) t o.limits in
    let r = o.records in
    (omega arith, f.0)

read_fits : (t : ℕ) (p : List ℕ) → RecordBytes p → t < 2 ^ 16 → Laid t p → FittingLabel (label_in p)
read_fits t p h ht o =
    let n = length_words p in
    let l = h.0 in
    let fit = words_fit p h in
    record {
      id = All-get_or (λ w. w < 2 ^ 32) (words p) 0 0 (omega arith) fit;
      records = rw o.records ht;
      entries = (counts_fit (word p 0) (word p 8) t o.limits).0;
      trouble = All-get_or (λ w. w < 2 ^ 32) (words p) 10 0 (omega arith) fit;
    }

pub a_believed_label_is_the_record_of_what_is_read : ABelievedLabelIsTheRecordOfWhatIsRead
unfolding label_record
a_believed_label_is_the_record_of_what_is_read start t p l hs h ht s =
    let b = some_parts _ (label_in p) l s in
    let a = and_parts (whole start (word p 0) p) (label_laid_out t p) b.0 in
    let o = laid_parts t p a.1 in
    let q : p ≡ label_record start (label_in p) = whole_is_control start (word p 0) p h a.0 ∙ ap (control start (word p 0)) (body_is t p h.0 o) in
    let all : (x : Label) → label_in p ≡ x → (p ≡ label_record start x) × (x.records ≡ t) × (in_limits x.id x.entries t ≡ true) × FittingLabel x = λ x e. (
      q ∙ ap (label_record start) e,
      ap (λ y. y.records) (sym e) ∙ o.records,
      subst (λ (y : Label). in_limits y.id y.entries t ≡ true) e o.limits,
      subst FittingLabel e (read_fits t p h ht o),
    ) in
    all l b.1

pub same_when : (xs ys : List ℕ) (r : Bool) → Decides r (xs ≡ ys) → r ≡ same xs ys
same_when xs ys r h = same_from_decides r (same xs ys) h (same_decides xs ys)
