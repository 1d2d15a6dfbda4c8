-- Plans that take the places of pictures that were read.
use Rattle.std.specs.Prelude.{◌≡◌, false, List, [], ◌∷◌}
use Rattle.vx_pic.specs.Readings.{Picture}
use Rattle.vx_pic.specs.Counts.{is_changed}
use Rattle.vx_pic.specs.Rules.{Readers}
use Rattle.vx_pic.specs.Alike.{IsNext, AlikeForCounts, AreAlike}
use Rattle.vx_pic.specs.Written.{Plan}
use Rattle.vx_pic.specs.Resident.{planned_of, IsPlanned, AreAllPlanned}
use Rattle.vx_pic.specs.Finished.{AreFinished}

-- A plan after others in the place of a picture after those before it. Its kind is the picture's, its header agrees on what counts
-- depend on, and its SPS is that of the plan before, unless it starts a coded layer video sequence. Except for its place among the
-- pictures it is as a plan must be.
pub record IsEdit (R : Readers) (earlier : List Picture) (p : Picture) (done : List Plan) (q : Plan) : Type 0 where
  pub kind : p.kind ≡ q.kind
  pub alike : AlikeForCounts p.begun q.begun
  pub keeps : p.kind.clvss ≡ false → is_changed (planned_of done) q.begun.sps ≡ false
  pub others : IsNext (planned_of done) q.begun q.kind → IsPlanned R done q

abbrev pub AreEdits : Readers → List Picture → List Plan → Type 0
AreEdits R [] [] = Unit {0}
AreEdits R (p ∷ earlier) (q ∷ done) = IsEdit R earlier p done q × AreEdits R earlier done
AreEdits R [] (q ∷ done) = ⊥
AreEdits R (p ∷ earlier) [] = ⊥

-- They are as plans must be, so they are read again, and their pictures have the counts of those that they replace.
abbrev pub EditsArePlanned : Type 0
EditsArePlanned = (R : Readers) (ps : List Picture) (plans : List Plan) → AreFinished R ps → AreEdits R ps plans
    → AreAllPlanned R plans × AreAlike ps (planned_of plans)
