-- The writes that a queue holds.
use Rattle.std.proofs.Common.{◌≡◌, ℕ, Bool, true, false, cond, eqb, List, [], ◌∷◌, ◌||◌, Option, Some, None, reverse, ap, ◌∙◌, sym, refl}
use Rattle.std.specs.List.{list_any, find}
use Rattle.std.specs.Option.{option_or}
use Rattle.std.proofs.lemmas.List.{reverse-append}
use Rattle.std.proofs.lemmas.List.Folds.{find-append}
use Rattle.drive.specs.declared.queued.Queued.{Queued}
use Rattle.drive.specs.Meaning.{State, readable, youngest, any_to}
use Rattle.drive.specs.Queues.{line}

pub any_to-line : (qs : List Queued) (a : ℕ) → any_to (line qs) a ≡ list_any (λ q. eqb q.at a) qs
any_to-line [] a = refl
any_to-line (q ∷ qs) a = ap (λ b. eqb q.at a || b) (any_to-line qs a)

-- what a write that was found shows, or else s
abbrev pub found_state : Option Queued → State → State
found_state (Some q) s = readable q.bytes
found_state None s = s

found_first : (first : Option Queued) (q : Queued) (hit : Bool) (s : State) → found_state (option_or first (cond hit (Some q) None)) s ≡ found_state first (cond hit (readable q.bytes) s)
found_first (Some x) q hit s = refl
found_first None q true s = refl
found_first None q false s = refl

pub youngest-line : (qs : List Queued) (a : ℕ) (s : State) → youngest (line qs) a s ≡ found_state (find (λ q. eqb q.at a) (reverse qs)) s
youngest-line [] a s = refl
youngest-line (q ∷ qs) a s =
    let test : Queued → Bool = λ x. eqb x.at a in
    youngest-line qs a (cond (eqb q.at a) (readable q.bytes) s)
    ∙ sym (found_first (find test (reverse qs)) q (eqb q.at a) s)
    ∙ sym (ap (λ o. found_state o s) (ap (find test) (reverse-append (q ∷ []) qs) ∙ find-append test (reverse qs) (q ∷ [])))
