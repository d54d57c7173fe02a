-- The pace of a drive whose writes wait, and that of the lab drive: a number that decides how many writes it completes.
use Rattle.std.specs.Prelude.{ℕ, ◌+◌, ◌*◌, ◌/◌, ◌%◌, ◌^◌, max, cond, Ok, Err, Result, ◌==◌}

abbrev pub next_pace : ℕ → ℕ
next_pace x = (1664525 * x + 1013904223) % 2 ^ 32

-- how many writes a pace lets through: 0 to 3
abbrev pub paced : ℕ → ℕ
paced x = x / 65536 % 4

-- how many of the oldest writes an accepted post completes, from the pace before it
abbrev pub paced_post : ℕ → ℕ
paced_post x = paced (next_pace x)

-- how many of the oldest writes a step completes: at least one
abbrev pub paced_step : ℕ → ℕ
paced_step x = max (paced (next_pace x)) 1

-- a refused post keeps the pace; next is the pace that follows one
abbrev pub after_accepted : {E X : Type 0} → (X → X) → Result (Unit {0}) E → X → X
after_accepted next (Ok u) x = next x
after_accepted next (Err f) x = x

-- a step that finds nothing of n outstanding keeps the pace
abbrev pub after_finding : {X : Type 0} → (X → X) → ℕ → X → X
after_finding next n x = cond (n == 0) x (next x)

-- the pace of a lab drive after a post, and after a step
abbrev pub pace_after_post : {E : Type 0} → Result (Unit {0}) E → ℕ → ℕ
pace_after_post r x = after_accepted next_pace r x

abbrev pub pace_after_step : ℕ → ℕ → ℕ
pace_after_step n x = after_finding next_pace n x
