-- Completing all outstanding writes.
use Rattle.std.proofs.Common.{◌≡◌, ℕ, zero, suc, List, [], ◌∷◌, take, drop, set, refl, ap, ◌∙◌, sym}
use Rattle.drive.specs.Meaning.{State, readable, Write, Meaning, settle, posted, complete, calm}

settle_parts : (k : ℕ) (ws : List Write) (ss : List State) → settle (drop k ws) (settle (take k ws) ss) ≡ settle ws ss
settle_parts zero ws ss = refl
settle_parts (suc k) [] ss = refl
settle_parts (suc k) (w ∷ ws) ss = settle_parts k ws (set ss w.at (readable w.bytes))

pub calm_complete : (k : ℕ) (m : Meaning) → calm (complete k m) ≡ calm m
calm_complete k m = λ i. record { settled = settle_parts k m.outstanding m.settled i; outstanding = []; wear = m.wear }

-- what a post has left, once all is completed
pub calm_posted : (m n after : Meaning) (a k : ℕ) (bs : List ℕ) → n ≡ complete k (posted m a bs) → after ≡ calm n → after ≡ calm (posted m a bs)
calm_posted m n after a k bs e f = f ∙ ap calm e ∙ calm_complete k (posted m a bs)

-- where nothing is outstanding, all is completed
pub calm_is : (m : Meaning) → m.outstanding ≡ [] → m ≡ calm m
calm_is m e = λ i. record { settled = settle (sym e i) m.settled; outstanding = e i; wear = m.wear }
