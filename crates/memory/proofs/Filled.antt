-- A loop that fills an array with what a function gives of each element of another list.
use Rattle.std.proofs.Common.{◌≡◌, ℕ, ◌+◌, ◌<◌, ◌≤◌, List, [], ◌∷◌, ◌++◌, map, length, get_or, take, set, sym, ap, ◌∙◌}
use Rattle.std.proofs.lemmas.List.{take_all, take_more_set, map_more}

pub filled_more : {X Y : Type 0} (f : X → Y) (xs : List X) (ys : List Y) (i : ℕ) (d : X) (y : Y) → i < length xs → i < length ys
    → take i ys ≡ map f (take i xs) → y ≡ f (get_or xs i d) → take (i + 1) (set ys i y) ≡ map f (take (i + 1) xs)
filled_more f xs ys i d y hx hy e is =
    take_more_set ys i y hy ∙ (ap (λ l. l ++ (y ∷ [])) e ∙ (ap (λ z. map f (take i xs) ++ (z ∷ [])) is ∙ sym (map_more f xs i d hx)))

pub filled_all : {X Y : Type 0} (f : X → Y) (xs : List X) (ys : List Y) (n : ℕ) → length xs ≤ n → length ys ≤ n → take n ys ≡ map f (take n xs) → ys ≡ map f xs
filled_all f xs ys n hx hy e = sym (take_all n ys hy) ∙ (e ∙ ap (map f) (take_all n xs hx))
