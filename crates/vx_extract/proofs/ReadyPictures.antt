-- A subpicture that each picture of a stream up to a TemporalId has can be written.
use Rattle.std.proofs.Common.{ℕ, ◌<◌, List, [], ◌∷◌}
use Rattle.std.specs.Prelude.{nat_le}
use Rattle.std.specs.List.{AllByRecursion}
use Rattle.vx_sps.specs.Subpictures.{subpics_of}
use Rattle.vx_pic.specs.Readings.{Picture}
use Rattle.vx_pic.specs.Parts.{parts_of}
use Rattle.vx_pic.specs.Streams.{pictures_of}
use Rattle.vx_pic.specs.Sublayers.{at_most}
use Rattle.vx_pic.specs.Whole.{HasAllInOrder, SubpicturesAreWhole}
use Rattle.vx_write.proofs.OwnSets.{each_passing}
use Rattle.vx_extract.specs.Again.{IsReady}
use Rattle.vx_extract.specs.Ready.{HasItsReadings, PicturesAreInForce, PicturesAreReady, PicturesHaveTheirReadings}
use Rattle.vx_write.specs.InForce.{AreInForce}

-- what holds of each picture holds of those that are kept
pub each_kept : (P : Picture → Type 0) (tid : ℕ) (ps : List Picture) → AllByRecursion P ps → AllByRecursion P (at_most tid ps)
each_kept P tid ps all = each_passing P (λ (p : Picture). nat_le p.kind.temporal_id tid) ps all

each_ready : (target : ℕ) (ps : List Picture) → AllByRecursion (λ p. AreInForce (parts_of p)) ps → AllByRecursion HasItsReadings ps → AllByRecursion HasAllInOrder ps
    → AllByRecursion (λ p. target < subpics_of p.begun.sps) ps → AllByRecursion (IsReady target) ps
each_ready target [] sets readings slices has = tt
each_ready target (p ∷ ps) sets readings slices has = (
  record { in_force = sets.0; has = has.0; each = slices.0; readable = readings.0.readable; there = readings.0.there target; carried = readings.0.carried },
  each_ready target ps sets.1 readings.1 slices.1 has.1,
)

pub pictures_ready : PicturesAreInForce → PicturesHaveTheirReadings → SubpicturesAreWhole → PicturesAreReady
pictures_ready sets readings slices R target tid units of has =
    let all : List Picture = pictures_of R units in
    let sets_kept = each_kept (λ p. AreInForce (parts_of p)) tid all (sets R units of) in
    each_ready target (at_most tid all) sets_kept (each_kept HasItsReadings tid all (readings R units of)) (each_kept HasAllInOrder tid all (slices R units of)) has
