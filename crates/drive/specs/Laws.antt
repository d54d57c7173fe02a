-- Laws of a drive's meaning.
use Rattle.std.specs.Prelude.{◌≡◌, ℕ, ◌+◌, ◌<◌, false, List, ◌++◌, take, ◌≢◌}
use Rattle.drive.specs.Meaning.{Meaning, readable, size, settled_at, shown, pending, posted, complete, EveryWrite}
use Rattle.drive.specs.Cuts.{Image}

abbrev pub CompletingChangesNothingShown : Type 0
CompletingChangesNothingShown =
    (m : Meaning) (k a : ℕ) → EveryWrite (λ w. w.at < size m) m.outstanding → shown (complete k m) a ≡ shown m a

abbrev pub CompletingAddsNoImage : Type 0
CompletingAddsNoImage = (m n : Meaning) (k : ℕ) → Image (complete k m) n → Image m n

abbrev pub ACutKeepsWhatHasNothingOutstanding : Type 0
ACutKeepsWhatHasNothingOutstanding =
    (m n : Meaning) (a : ℕ) → Image m n → a < size m → pending m a ≡ false → settled_at n a ≡ settled_at m a

abbrev pub APostedWriteIsShownAndNoOtherAddressChanges : Type 0
APostedWriteIsShownAndNoOtherAddressChanges =
    (m : Meaning) (a b : ℕ) (bs : List ℕ)
    → (shown (posted m a bs) a ≡ readable bs) × ((a ≢ b) → shown (posted m a bs) b ≡ shown m b)

-- what is still outstanding is younger than all that was completed, and completing in two turns is completing in one
abbrev pub WritesCompleteOldestFirst : Type 0
WritesCompleteOldestFirst =
    (m : Meaning) (j k : ℕ)
    → (m.outstanding ≡ take k m.outstanding ++ (complete k m).outstanding) × (complete j (complete k m) ≡ complete (k + j) m)
