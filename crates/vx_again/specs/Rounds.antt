-- What is written for one round is read again as it says. Our own.
use Rattle.std.specs.List.{AllByRecursion}
use Rattle.std.specs.Prelude.{◌≡◌, ℕ, List, map, slice_get, Option, Some, None}
use Rattle.vx_pic.specs.Alike.{AlikeForCounts}
use Rattle.vx_pic.specs.H266.{AreOfH266}
use Rattle.vx_pic.specs.Inputs.{inputs_of}
use Rattle.vx_pic.specs.Parts.{Parts, parts_of}
use Rattle.vx_pic.specs.Readings.{Picture}
use Rattle.vx_pic.specs.Resident.{IsBodyOf, readings_of_plans}
use Rattle.vx_pic.specs.Rules.{Readers}
use Rattle.vx_pic.specs.Written.{IsStored, Plan, before_header, planned}
use Rattle.vx_write.specs.Again.{HasItsBodies, IsWholePlan, SendsItsSets, UnitsAreRead}
use Rattle.vx_frame.specs.declared.corner.Corner.{Corner}
use Rattle.vx_merge.specs.Merging.{Judges, Passes}
use Rattle.vx_merge.specs.Written.{IsMerged}
use Rattle.vx_again.specs.Frames.{IsReadyRound}

-- ---- units

-- The picture header and the slices are read as the plan says.
abbrev pub MergedUnitsAreRead : Type 0
MergedUnitsAreRead =
    (R : Readers) (corners : List Corner) (level : Option ℕ) (round : List Parts) (done : List Plan) (p : Plan) → AreOfH266 R
    → IsReadyRound corners round → Passes corners level round done p → UnitsAreRead R p

-- The slices are all those of the frame, in order.
abbrev pub MergedIsWhole : Type 0
MergedIsWhole =
    (corners : List Corner) (level : Option ℕ) (round : List Parts) (done : List Plan) (p : Plan) → IsReadyRound corners round
    → Passes corners level round done p → IsWholePlan p

-- ---- sets

-- Of the sets that it needs, no two of one type and id, those are sent that aren't resident.
abbrev pub MergedSendsItsSets : Type 0
MergedSendsItsSets =
    (corners : List Corner) (level : Option ℕ) (round : List Parts) (done : List Plan) (p : Plan)
    → (is : IsMerged corners level round done p) → SendsItsSets is.needed done p

-- They can be read again, and among them are all adaptation parameter sets that the slices name.
abbrev pub MergedHasItsBodies : Type 0
MergedHasItsBodies =
    (corners : List Corner) (level : Option ℕ) (round : List Parts) (done : List Plan) (p : Plan) → IsReadyRound corners round
    → Judges corners round None → (is : IsMerged corners level round done p) → HasItsBodies is.needed p

-- Each is the one in force for its header, and each adaptation parameter set among them is one of the picture that is read again.
pub record AreInForceFor (corners : List Corner) (level : Option ℕ) (round : List Parts) (done : List Plan) (p : Plan)
    (is : IsMerged corners level round done p) : Type 0 where
  pub stored : AllByRecursion (λ x. IsStored (before_header (readings_of_plans done) p) x.set) is.needed
  pub bodies : AllByRecursion (λ x. IsBodyOf (planned (readings_of_plans done) p) x.set) is.needed

abbrev pub MergedSetsAreInForce : Type 0
MergedSetsAreInForce =
    (corners : List Corner) (level : Option ℕ) (round : List Parts) (done : List Plan) (p : Plan)
    → (is : IsMerged corners level round done p) → AreInForceFor corners level round done p is

-- ---- counts, and decoding inputs

-- Its header agrees with that of each picture of the round in all that counts depend on.
abbrev pub MergedIsAlike : Type 0
MergedIsAlike =
    (corners : List Corner) (level : Option ℕ) (pics : List Picture) (done : List Plan) (p : Plan)
    → IsReadyRound corners (map parts_of pics) → Judges corners (map parts_of pics) None → IsMerged corners level (map parts_of pics) done p
    → AllByRecursion (λ q. AlikeForCounts q.begun p.begun) pics

-- Read again, region k has the decoding inputs of source k, if all pictures are of its kind.
abbrev pub MergedKeepsInputs : Type 0
MergedKeepsInputs =
    (corners : List Corner) (level : Option ℕ) (pics : List Picture) (done : List Plan) (p : Plan)
    → IsReadyRound corners (map parts_of pics) → Judges corners (map parts_of pics) None
    → (is : IsMerged corners level (map parts_of pics) done p) → SendsItsSets is.needed done p
    → AllByRecursion (λ q. q.kind ≡ p.kind) pics
    → (k : ℕ) (q : Picture) → slice_get pics k ≡ Some q → inputs_of (planned (readings_of_plans done) p) k ≡ inputs_of q 0
