-- The results if all that is written of a round is made and counts as written, and if it is written. Our own.
use Rattle.std.specs.Prelude.{◌≡◌, ℕ, Bool, true, false, List, ◌∷◌, map, Option, Result, Ok, Err}
use Rattle.vx_pic.specs.Parts.{Parts}
use Rattle.vx_pic.specs.Written.{Plan, SetUnit, units_of}
use Rattle.vx_write.specs.Slots.{Sent}
use Rattle.vx_write.specs.declared.fault.WriteError.{WriteError}
use Rattle.vx_frame.specs.declared.corner.Corner.{Corner}
use Rattle.vx_merge.specs.declared.output.RoundUnits.{RoundUnits}
use Rattle.vx_merge.specs.Joins.{WritesJoined, after_end_of_sequence}
use Rattle.vx_merge.specs.Merging.{ChecksRound, Merging, Passes, Stands, WritesOneRound}
use Rattle.vx_merge.specs.inner.Making.{AreRoundUnits, units_made}

-- This is all that is written of a round after sets that were sent, and these are the last sets then.
abbrev pub AreUnitsOf : List Corner → Option ℕ → List Parts → List SetUnit → List Sent → RoundUnits → Type 0
AreUnitsOf corners level round history slots m = AreRoundUnits corners level round history m slots

-- As for a check, with the units of what passes it.
abbrev pub MakesRound : List Parts → List Plan → Merging → Result RoundUnits WriteError → Type 0
MakesRound round done new (Ok m) = (p : Plan) × Passes new.corners new.level round done p × Stands new (p ∷ done) × (units_of p ≡ units_made m)
MakesRound round done new (Err e) = ChecksRound round done new (Err e)

-- The pictures of a round as they are written, joined or not.
abbrev pub pictures_where : (joins : Bool) → List Parts → List Parts
pictures_where true round = map after_end_of_sequence round
pictures_where false round = round

-- As for these pictures if they are joined, or for any.
abbrev pub WritesAs : (joins : Bool) → List Parts → List Plan → Merging → Option (List ℕ) → Option (List ℕ) → ℕ → ℕ → Result (Unit {0}) WriteError → Type 0
WritesAs true = WritesJoined
WritesAs false = WritesOneRound

-- As for a round that is joined, its pictures being marked so, or for any.
abbrev pub WritesWhere : (joins : Bool) → List Parts → List Plan → Merging → Option (List ℕ) → Option (List ℕ) → ℕ → ℕ → Result (Unit {0}) WriteError → Type 0
WritesWhere true round = WritesJoined (map after_end_of_sequence round)
WritesWhere false round = WritesOneRound round
