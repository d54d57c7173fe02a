-- What a surface holds, and what a lookup of one of its records tells.
use Rattle.std.specs.Prelude.{◌≡◌, Option, Some, None, List, ℕ}
use Rattle.std.specs.Borrow.{Bor, MutBor}
use Rattle.drive.specs.declared.surface.Surface.{Surface}
use Rattle.drive.specs.Meaning.{State, readable, spoiled}
use Rattle.drive.specs.Surfaces.{states}

-- what the surface's memory now holds
abbrev pub disk : Surface → List State
disk s = states s.bytes.now s.marks.now

-- the state that a lookup of a record's bytes tells: nothing can be read where it finds none
abbrev pub record_state : Option (Bor (List ℕ)) → State
record_state (Some bytes) = readable bytes.now
record_state None = spoiled

-- t works in the same memory as s
abbrev pub SameMemory : Surface → Surface → Type 0
SameMemory s t = (t.bytes.ghost_name ≡ s.bytes.ghost_name) × (t.marks.ghost_name ≡ s.marks.ghost_name)

-- s works in the memory of these bytes and marks
abbrev pub WorksIn : Surface → MutBor (List ℕ) → MutBor (List ℕ) → Type 0
WorksIn s bytes marks = (s.bytes.ghost_name ≡ bytes.ghost_name) × (s.marks.ghost_name ≡ marks.ghost_name)
