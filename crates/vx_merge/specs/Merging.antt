-- A merger, as its callers see it: by these definitions, and by the relation `Stands`. That is one between the merger and the pictures
-- that it has written, or that have passed its checks: a merger either checks or writes. Our own.
use Rattle.std.specs.Prelude.{◌≡◌, ◌⊎◌, ℕ, List, ◌∷◌, length, Option, Some, None, Result, Ok, Err}
use Rattle.std.specs.Io.KnownBytes.{Appends}
use Rattle.vx_bits.specs.declared.refusal.Refusal.{Refusal}
use Rattle.vx_io.specs.Faults.{Rose}
use Rattle.vx_io.specs.Written.{AppendsFront}
use Rattle.vx_annexb.specs.Laws.{written}
use Rattle.vx_pic.specs.Parts.{Parts}
use Rattle.vx_pic.specs.Resident.{history_of, units_written}
use Rattle.vx_pic.specs.Written.{Plan, units_of}
use Rattle.vx_write.specs.declared.fault.WriteError.{WriteError}
use Rattle.vx_write.specs.declared.fault.WriteError.TheVariants as errors
use Rattle.vx_write.specs.declared.fault.WriteFirst.{WriteFirst}
use Rattle.vx_write.specs.Slots.{AreLastOf, Sent}
use Rattle.vx_frame.specs.declared.corner.Corner.{Corner}
use Rattle.vx_frame.specs.Rules.{rules_of}
use Rattle.vx_frame.specs.Verdict.{IsVerdict}
use Rattle.vx_merge.specs.Written.{IsMerged, limits_of}

-- A merger: the corners of the regions, in luma samples; the level that is asked for; the last set of each type and id that was sent
-- since the last IRAP or GDR picture; how many bytes were written; and its first error. What passes a check counts as sent and as
-- written.
pub record Merging : Type 0 where
  pub corners : List Corner
  pub level : Option ℕ
  pub slots : List Sent
  pub bytes : ℕ
  pub first : Option WriteFirst

-- It has written these pictures, the latest first, or they have passed its checks and count as written; and it goes on.
pub record Stands (m : Merging) (done : List Plan) : Type 0 where
  pub slots : AreLastOf (history_of done) m.slots
  pub bytes : m.bytes ≡ length (written (units_written done))
  pub going : m.first ≡ None

-- What stays whatever a call returns: what was asked for.
pub record SameTask (old new : Merging) : Type 0 where
  pub corners : new.corners ≡ old.corners
  pub level : new.level ≡ old.level

-- ---- a round after others, in regions with these corners

-- This is the verdict on it.
abbrev pub Judges : List Corner → List Parts → Option Refusal → Type 0
Judges corners round verdict = IsVerdict (length corners) (rules_of corners round) verdict

-- It breaks no rule, and is written so after others, within the limits.
pub record Passes (corners : List Corner) (level : Option ℕ) (round : List Parts) (done : List Plan) (p : Plan) : Type 0 where
  pub verdict : Judges corners round None
  pub is : IsMerged corners level round done p
  pub limits : IsVerdict (length corners) (limits_of done p) None

-- It breaks no rule, and what would be written breaks a limit first.
pub record IsTooLong (corners : List Corner) (level : Option ℕ) (round : List Parts) (done : List Plan) (r : Refusal) : Type 0 where
  pub verdict : Judges corners round None
  pub plan : Plan
  pub is : IsMerged corners level round done plan
  pub limits : IsVerdict (length corners) (limits_of done plan) (Some r)

-- It can't be written after others for this rule, or for this limit.
abbrev pub IsBarred : List Corner → Option ℕ → List Parts → List Plan → Refusal → Type 0
IsBarred corners level round done r = Judges corners round (Some r) ⊎ IsTooLong corners level round done r

-- ---- what a merger returns

-- The result of a check of a round after others, which count as written: it passes, and counts as written too; or a rule or a limit is
-- broken; or memory ran out.
abbrev pub ChecksRound : List Parts → List Plan → Merging → Result (Unit {0}) WriteError → Type 0
ChecksRound round done new (Ok _) = (p : Plan) × Passes new.corners new.level round done p × Stands new (p ∷ done)
ChecksRound round done new (Err (errors.Refused r)) = IsBarred new.corners new.level round done r
ChecksRound round done new (Err errors.Memory) = Unit {0}
ChecksRound round done new (Err errors.SinkFailed) = ⊥
ChecksRound round done new (Err (errors.Stopped f)) = ⊥

-- The result of a round after others, with the bytes and the count of faults of a sink before and after. It was written; or a rule or a
-- limit is broken, and nothing was; or memory ran out before a byte was written; or a write failed, and a prefix of it is written.
abbrev pub WritesOneRound : List Parts → List Plan → Merging → Option (List ℕ) → Option (List ℕ) → ℕ → ℕ → Result (Unit {0}) WriteError → Type 0
WritesOneRound round done new bytes bytes' faults faults' (Ok _) =
    (faults' ≡ faults)
    × ((p : Plan) × Passes new.corners new.level round done p × Appends bytes bytes' (written (units_of p)) × Stands new (p ∷ done))
WritesOneRound round done new bytes bytes' faults faults' (Err (errors.Refused r)) =
    (bytes' ≡ bytes) × (faults' ≡ faults) × IsBarred new.corners new.level round done r
WritesOneRound round done new bytes bytes' faults faults' (Err errors.Memory) = (bytes' ≡ bytes) × (faults' ≡ faults)
WritesOneRound round done new bytes bytes' faults faults' (Err errors.SinkFailed) =
    Rose faults faults' × ((p : Plan) × Passes new.corners new.level round done p × AppendsFront bytes bytes' (written (units_of p)))
WritesOneRound round done new bytes bytes' faults faults' (Err (errors.Stopped f)) = ⊥
