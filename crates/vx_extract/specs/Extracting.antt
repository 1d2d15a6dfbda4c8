-- An extractor, as its callers see it: by these definitions, and by the relation `Stands` between it and the pictures that it has
-- written. Our own.
use Rattle.std.specs.Prelude.{◌≡◌, ℕ, ◌<◌, Bool, true, false, List, ◌∷◌, length, Option, Some, None, Result, Ok, Err}
use Rattle.std.specs.Io.KnownBytes.{Appends}
use Rattle.vx_io.specs.Faults.{Rose}
use Rattle.vx_io.specs.Written.{AppendsFront}
use Rattle.vx_annexb.specs.Laws.{written}
use Rattle.vx_pic.specs.Parts.{Parts}
use Rattle.vx_pic.specs.Written.{Set, Plan, units_of}
use Rattle.vx_pic.specs.Resident.{history_of, last_of, serves}
use Rattle.vx_write.specs.declared.fault.WriteError.{WriteError}
use Rattle.vx_write.specs.declared.fault.WriteError.TheVariants as errors
use Rattle.vx_write.specs.declared.fault.WriteFirst.{WriteFirst}
use Rattle.vx_extract.specs.Rules.{is_kept, refusal_of}
use Rattle.vx_extract.specs.Written.{extracted_slices, IsExtracted}
use Rattle.vx_write.specs.Slots.{Sent, held_serves}

-- An extractor: the subpicture, the level that is asked for, the highest TemporalId that is kept, the last set of each type and id that
-- was sent since the last IRAP or GDR picture, and its first error.
pub record Extracting : Type 0 where
  pub target : ℕ
  pub level : Option ℕ
  pub tid : ℕ
  pub slots : List Sent
  pub first : Option WriteFirst

-- It has written these pictures, the latest first, and goes on.
pub record Stands (x : Extracting) (done : List Plan) : Type 0 where
  pub slots : (t : ℕ) (s : Set) → held_serves t s x.slots ≡ serves t s (last_of s (history_of done))
  pub going : x.first ≡ None

-- What stays whatever a call returns: what was asked for.
pub record SameTask (old new : Extracting) : Type 0 where
  pub target : new.target ≡ old.target
  pub level : new.level ≡ old.level
  pub tid : new.tid ≡ old.tid

-- The picture has a slice of the subpicture, as each picture of a stream has of each of its subpictures.
abbrev pub HasSlice : ℕ → Parts → Type 0
HasSlice target q = 0 < length (extracted_slices q target)

-- A sink with these bytes and this count of faults, before and after a picture was written to it, or left out.
abbrev pub WritesKept : Bool → Parts → List Plan → Extracting → Option (List ℕ) → Option (List ℕ) → Type 0
WritesKept true q done new bytes bytes' =
    HasSlice new.target q → (p : Plan) × IsExtracted new.target new.level q done p × Appends bytes bytes' (written (units_of p)) × Stands new (p ∷ done)
WritesKept false q done new bytes bytes' = (bytes' ≡ bytes) × Stands new done

-- The result for a picture after these. It breaks no rule, and was written or left out; it breaks a rule; memory ran out before a byte
-- was written; or a write failed, and a prefix of it is written.
abbrev pub WritesPicture : Parts → List Plan → Extracting → Option (List ℕ) → Option (List ℕ) → ℕ → ℕ → Result (Unit {0}) WriteError → Type 0
WritesPicture q done new bytes bytes' faults faults' (Ok _) =
    (refusal_of new.target new.tid q ≡ None) × (faults' ≡ faults) × WritesKept (is_kept new.tid q) q done new bytes bytes'
WritesPicture q done new bytes bytes' faults faults' (Err (errors.Refused r)) =
    (refusal_of new.target new.tid q ≡ Some r) × (bytes' ≡ bytes) × (faults' ≡ faults)
WritesPicture q done new bytes bytes' faults faults' (Err errors.Memory) =
    (refusal_of new.target new.tid q ≡ None) × (is_kept new.tid q ≡ true) × (bytes' ≡ bytes) × (faults' ≡ faults)
WritesPicture q done new bytes bytes' faults faults' (Err errors.SinkFailed) =
    (refusal_of new.target new.tid q ≡ None) × (is_kept new.tid q ≡ true) × Rose faults faults'
    × (HasSlice new.target q → (p : Plan) × IsExtracted new.target new.level q done p × AppendsFront bytes bytes' (written (units_of p)))
WritesPicture q done new bytes bytes' faults faults' (Err (errors.Stopped f)) = ⊥

-- Whatever was written before, it is refused exactly for the first rule that the picture breaks.
abbrev pub JudgesSo : Parts → Extracting → Result (Unit {0}) WriteError → Type 0
JudgesSo q x (Ok _) = refusal_of x.target x.tid q ≡ None
JudgesSo q x (Err (errors.Refused r)) = refusal_of x.target x.tid q ≡ Some r
JudgesSo q x (Err errors.Memory) = refusal_of x.target x.tid q ≡ None
JudgesSo q x (Err errors.SinkFailed) = refusal_of x.target x.tid q ≡ None
JudgesSo q x (Err (errors.Stopped f)) = ⊥

-- The same verdict without a byte written.
abbrev pub ChecksPicture : Parts → Extracting → Result (Unit {0}) WriteError → Type 0
ChecksPicture q x (Ok _) = refusal_of x.target x.tid q ≡ None
ChecksPicture q x (Err (errors.Refused r)) = refusal_of x.target x.tid q ≡ Some r
ChecksPicture q x (Err _) = ⊥
