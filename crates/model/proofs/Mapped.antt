-- An array as a closure maps it that keeps what it captures, and one as a closure makes it from the numbers of its places.
use Rattle.std.proofs.Common.{◌≡◌, ℕ, zero, suc, ◌+◌, ◌<◌, List, map, length, get_or, sym, ap, ◌∙◌, subst, arith}
use Rattle.std.proofs.lemmas.List.{same_lists, get_or-map, length-map}
use Rattle.std.specs.Array.{MapsFrom, IsMapOf, IsFromFnResult, IsFromFnResultFrom}
use Rattle.std.specs.Fn.{Called, Mut}

module _ {F A B : Type 0} (g : Mut F (A × Unit {0}) B) (P : F → Type 0) (h : A → B) (xs : List A) (ys : List B) (each : (p q : F) (x : A) (y : B) → P p → Called g p (x, tt) y q → P q × (y ≡ h x)) where
  mapped_at : (f : F) → P f → (i n : ℕ) → MapsFrom g f xs ys i n → (k : ℕ) → k < n → (d : A) (e : B) → get_or ys (i + k) e ≡ h (get_or xs (i + k) d)
  mapped_at f p i zero r k l d e = absurd (omega arith)
  mapped_at f p i (suc n) r zero l d e =
      let a = each f r.0 r.1 r.2 p r.5 in
      let z : i + 0 ≡ i = omega arith in
      rw z (r.4.1 e ∙ (a.1 ∙ ap h (sym (r.3.1 d))))
  mapped_at f p i (suc n) r (suc k) l d e =
      let a = each f r.0 r.1 r.2 p r.5 in
      let z : i + suc k ≡ i + 1 + k = omega arith in
      rw z (mapped_at r.0 a.0 (i + 1) n r.6 k (omega arith) d e)

  -- each element is what h gives of it, where each call that starts from what P holds of gives that, and keeps P
  pub mapped_by : (f : F) (a : A) (n : ℕ) → P f → length xs ≡ n → IsMapOf g f xs ys n → ys ≡ map h xs
  mapped_by f a n p long is =
      same_lists ys (map h xs) (omega (arith, is.long, long, length-map xs h)) (λ k d l.
      let z : 0 + k ≡ k = omega arith in
      (rw z at (mapped_at f p 0 n is.each k (omega (arith, is.long)) a d)) ∙ sym (get_or-map h xs k a d (omega (arith, is.long, long))))

module _ {F A B : Type 0} (g : Mut F (ℕ × Unit {0}) B) (f : F) (h : A → B) (xs : List A) (ys : List B) (a : A) (each : (i : ℕ) (y : B) (q : F) → Called g f (i, tt) y q → (q ≡ f) × (y ≡ h (get_or xs i a))) where
  made_at : (i n : ℕ) → IsFromFnResultFrom g f ys i n → (k : ℕ) → k < n → (e : B) → get_or ys (i + k) e ≡ h (get_or xs (i + k) a)
  made_at i zero r k l e = absurd (omega arith)
  made_at i (suc n) r zero l e =
      let b = each i r.1 r.0 r.3 in
      let z : i + 0 ≡ i = omega arith in
      rw z (r.2.1 e ∙ b.1)
  made_at i (suc n) r (suc k) l e =
      let b = each i r.1 r.0 r.3 in
      let P : F → Type 0 = λ q. IsFromFnResultFrom g q ys (i + 1) n in
      let z : i + suc k ≡ i + 1 + k = omega arith in
      rw z (made_at (i + 1) n (subst P b.0 r.4) k (omega arith) e)

  -- each element is what h gives of the one at its place, where the closure gives that and stays as it is made
  pub made_from : (n : ℕ) → length xs ≡ n → IsFromFnResult g f ys n → ys ≡ map h xs
  made_from n long is =
      same_lists ys (map h xs) (omega (arith, is.long, long, length-map xs h)) (λ k d l.
      let z : 0 + k ≡ k = omega arith in
      (rw z at (made_at 0 n is.each k (omega (arith, is.long)) d)) ∙ sym (get_or-map h xs k a d (omega (arith, is.long, long))))
