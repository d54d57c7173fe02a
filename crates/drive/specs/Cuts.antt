-- What a power cut may leave of a drive.
use Rattle.std.specs.Prelude.{◌≡◌, ℕ, ◌<◌, ◌⊎◌, List, [], ◌∷◌}
use Rattle.drive.specs.Meaning.{State, readable, spoiled, Write, Meaning, size, settled_at}

-- what holds of some write of a list
abbrev pub SomeWrite : (Write → Type 0) → List Write → Type 0
SomeWrite P [] = ⊥
SomeWrite P (w ∷ ws) = P w ⊎ SomeWrite P ws

-- a write to a of which a cut leaves r: its bytes, or a spoiled record
abbrev pub Torn : ℕ → State → Write → Type 0
Torn a r w = (w.at ≡ a) × ((r ≡ readable w.bytes) ⊎ (r ≡ spoiled))

-- r may stand at a after a cut, where s was settled and ws were outstanding
abbrev pub LeftAt : List Write → ℕ → State → State → Type 0
LeftAt ws a s r = (r ≡ s) ⊎ SomeWrite (Torn a r) ws

-- n is an image that a cut may leave of m: each address for itself, nothing outstanding, the wear kept
pub record Image (m n : Meaning) : Type 0 where
  pub same_size : size n ≡ size m
  pub each : (a : ℕ) → a < size m → LeftAt m.outstanding a (settled_at m a) (settled_at n a)
  pub nothing_owed : n.outstanding ≡ []
  pub same_wear : n.wear ≡ m.wear
