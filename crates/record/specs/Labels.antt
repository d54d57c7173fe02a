-- The layout of a label.
use Rattle.std.specs.Prelude.{ℕ, Bool, cond, ◌&&◌, List, ◌∷◌, ◌++◌, take, drop, replicate, Some, None, codes, Option, ◌==◌, nat_le}
use Rattle.std.specs.List.{between}
use Rattle.record.specs.declared.label.Label.{Label}
use Rattle.record.specs.declared.label.LabelState.{LabelState}
use Rattle.record.specs.declared.label.LabelState.TheVariants.{Closed, InUse, Salvage}
use Rattle.record.specs.Words.{words, word, put, zeros, same}
use Rattle.record.specs.Control.{control, whole}
use Rattle.record.specs.Regions.{in_limits}

abbrev pub state_number : LabelState → ℕ
state_number Closed = 0
state_number InUse = 1
state_number Salvage = 2

-- the state with a number of at most 2
abbrev pub numbered_state : ℕ → LabelState
numbered_state n = cond (n == 0) Closed (cond (n == 1) InUse Salvage)

-- what a state is called
abbrev pub state_name : LabelState → List ℕ
state_name Closed = codes "closed"
state_name InUse = codes "in use"
state_name Salvage = codes "salvage begun"

-- the 16 bytes in words 2 to 5
abbrev pub label_text : List ℕ
label_text = codes "METER READ STORE"

-- the bytes p with the text in its place
abbrev pub with_text : List ℕ → List ℕ
with_text p = take 8 p ++ (label_text ++ drop 24 p)

-- the bytes p with the version and the numbers of a label in their places
abbrev pub with_numbers : Label → List ℕ → List ℕ
with_numbers l p = put (put (put (put (put p 6 1) 7 l.records) 8 l.entries) 9 (state_number l.state)) 10 l.trouble

-- words 2 to 127 of a label: the text, version 1, the numbers, and zeros
unfoldable pub label_body : Label → List ℕ
label_body l =
    words label_text ++ (1 ∷ l.records ∷ l.entries ∷ state_number l.state ∷ l.trouble ∷ replicate 117 0)

unfoldable pub label_record : ℕ → Label → List ℕ
unfolding label_body
label_record start l = control start l.id (label_body l)

-- the label that the words of p hold
abbrev pub label_in : List ℕ → Label
label_in p = record { id = word p 0; records = word p 7; entries = word p 8; state = numbered_state (word p 9); trouble = word p 10 }

-- the version, the numbers of records and of entries, and the state in p suit a volume of t records
abbrev pub label_numbers_right : ℕ → List ℕ → Bool
label_numbers_right t p = word p 6 == 1 && (word p 7 == t && (in_limits (word p 0) (word p 8) t && nat_le (word p 9) 2))

-- the record p is laid out as the label of a volume of t records
abbrev pub label_laid_out : ℕ → List ℕ → Bool
label_laid_out t p =
    same (between 8 24 p) label_text
    && (word p 6 == 1 && (word p 7 == t && (in_limits (word p 0) (word p 8) t && (nat_le (word p 9) 2 && zeros (between 11 128 (words p))))))

-- the label that is believed of the record p on a drive of t records
abbrev pub believed_label : ℕ → ℕ → List ℕ → Option Label
believed_label start t p = cond (whole start (word p 0) p && label_laid_out t p) (Some (label_in p)) None
