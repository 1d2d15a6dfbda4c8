-- Feeds over streams in memory, each with m pictures to come. Our own.
use Rattle.std.specs.Prelude.{◌≡◌, ℕ, suc, ◌<◌, ◌≤◌, List, [], ◌∷◌, drop, length, Some, None, slice_get, Result, Ok, Err}
use Rattle.std.specs.List.{AllZip}
use Rattle.vx_pic.specs.Bytes.{AreSourcePictures}
use Rattle.vx_pic.specs.Parts.{parts_of}
use Rattle.vx_pic.specs.Readings.{Picture}
use Rattle.vx_pic.specs.Rules.{Readers}
use Rattle.vx_assemble.specs.declared.fault.AssembleFault.{AssembleFault}
use Rattle.vx_assemble.specs.declared.fault.AssembleFault.TheVariants as faults
use Rattle.vx_assemble.specs.declared.feed.Step.{Step}
use Rattle.vx_assemble.specs.declared.feed.Step.TheVariants.{Picture as ToPicture, End as ToEnd}
use Rattle.vx_assemble.specs.Feed.{Feeding}
use Rattle.vx_assemble.specs.Held.{HasPicture, lent_by}
use Rattle.vx_assemble.specs.Memory.{HasSeen}
use Rattle.vx_write.specs.declared.fault.WriteError.{WriteError}
use Rattle.vx_write.specs.declared.fault.WriteError.TheVariants as errors

-- It has taken no picture of these bytes.
abbrev pub IsUnfed : Feeding → List ℕ → Type 0
IsUnfed f bytes = (R : Readers) → HasSeen R f bytes []

-- Of a stream of these pictures, the latest first, it has taken all except the last m.
pub record Waits (R : Readers) (m : ℕ) (f : Feeding) (ps : List Picture) : Type 0 where
  pub bytes : List ℕ
  pub read : AreSourcePictures R bytes ps None
  pub within : m ≤ length ps
  pub seen : HasSeen R f bytes (drop m ps)

-- And it lends the one that it took last.
pub record Lends (R : Readers) (m : ℕ) (f : Feeding) (ps : List Picture) : Type 0 where
  pub waits : Waits R m f ps
  pub holds : HasPicture f.assembler
  pub picture : Picture
  pub latest : drop m ps ≡ picture ∷ drop (suc m) ps
  pub lent : lent_by f.assembler ≡ parts_of picture

-- Each of these feeds has one more picture to come.
pub record AllWait (R : Readers) (feeds : List Feeding) : Type 0 where
  pub left : ℕ
  pub sources : List (List Picture)
  pub each : AllZip (Waits R (suc left)) feeds sources

-- The pairs before place k are so, and the others still so.
abbrev pub Turned : {A B : Type 0} → (old new : A → B → Type 0) → ℕ → List A → List B → Type 0
Turned old new k xs ys = (j : ℕ) (x : _) (y : _) → slice_get xs j ≡ Some x → slice_get ys j ≡ Some y → (j < k → new x y) × (k ≤ j → old x y)

-- ---- results if no rule is broken: only memory can be lacking

-- There is a picture to come.
abbrev pub IsToPicture : Result Step AssembleFault → Type 0
IsToPicture (Ok ToPicture) = Unit {0}
IsToPicture (Ok ToEnd) = ⊥
IsToPicture (Err faults.Memory) = Unit {0}
IsToPicture (Err (faults.Refused r)) = ⊥
IsToPicture (Err (faults.Stopped first)) = ⊥

-- A picture is written to memory.
abbrev pub IsUnbarred : Result (Unit {0}) WriteError → Type 0
IsUnbarred (Ok _) = Unit {0}
IsUnbarred (Err errors.Memory) = Unit {0}
IsUnbarred (Err errors.SinkFailed) = Unit {0}
IsUnbarred (Err (errors.Refused r)) = ⊥
IsUnbarred (Err (errors.Stopped first)) = ⊥
