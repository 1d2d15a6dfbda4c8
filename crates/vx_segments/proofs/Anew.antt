-- The rounds of streams begin anew.
use Rattle.std.proofs.Common.{◌≡◌, ◌<◌, Bool, true, false, ◌||◌, List, [], ◌∷◌, map, drop, length, Some, refl, subst, arith}
use Rattle.std.specs.List.{AllByRecursion}
use Rattle.std.proofs.lemmas.Option.{same_Some}
use Rattle.vx_pic.specs.Finished.{AreFinished}
use Rattle.vx_pic.specs.Parts.{Parts, parts_of}
use Rattle.vx_pic.specs.Readings.{Picture}
use Rattle.vx_pic.specs.Rules.{Readers}
use Rattle.vx_pic.specs.Units.{is_irap_or_gdr}
use Rattle.vx_frame.specs.Rounds.{picture_at}
use Rattle.vx_segments.specs.Whole.{StreamsBeginAnew}
use Rattle.vx_segments.proofs.Sources.{head_of, there}

or_true : (b : Bool) → (b || true) ≡ true
or_true true = refl
or_true false = refl

module _ (R : Readers) where
  rest_finished : (sources : List (List Picture)) → AllByRecursion (AreFinished R) sources → AllByRecursion (AreFinished R) (map (drop 1) sources)
  rest_finished [] all = tt
  rest_finished ([] ∷ sources) all = (tt, rest_finished sources all.1)
  rest_finished ((p ∷ ps) ∷ sources) all = (all.0.2, rest_finished sources all.1)

  -- the only picture of a stream
  only : (ps : List Picture) (r : Parts) → AreFinished R ps → head_of ps ≡ Some r → drop 1 ps ≡ [] → is_irap_or_gdr r.kind.nal_type ≡ true
  only [] r finished head none = absurd (cc)
  only (p ∷ q ∷ ps) r finished head none = absurd (cc)
  only (p ∷ []) r finished head none =
      let is : is_irap_or_gdr p.kind.nal_type ≡ true = finished.0.next.begins (or_true p.kind.after_eos) in
      subst (λ (x : Parts). is_irap_or_gdr x.kind.nal_type ≡ true) (same_Some (parts_of p) r head) is

  one_round : (sources : List (List Picture)) (round : List Parts) → 0 < length sources → AllByRecursion (AreFinished R) sources
      → map head_of sources ≡ map there round → AllByRecursion (λ (ps : List Picture). ps ≡ []) (map (drop 1) sources)
      → is_irap_or_gdr (picture_at round 0).kind.nal_type ≡ true
  one_round [] round some finished heads none = absurd (omega (arith, some))
  one_round (ps ∷ sources) [] some finished heads none = absurd (cc)
  one_round (ps ∷ sources) (r ∷ round) some finished heads none =
      let first : head_of ps ≡ Some r = cc in
      only ps r finished.0 first none.0

  still_some : (sources : List (List Picture)) → 0 < length sources → 0 < length (map (drop 1) sources)
  still_some [] some = absurd (omega (arith, some))
  still_some (ps ∷ sources) some = omega arith

pub streams_begin_anew : StreamsBeginAnew
streams_begin_anew R sources [] some finished make = tt
streams_begin_anew R sources (round ∷ []) some finished make = one_round R sources round some finished make.0 make.1
streams_begin_anew R sources (round ∷ before ∷ rounds) some finished make =
    streams_begin_anew R (map (drop 1) sources) (before ∷ rounds) (still_some R sources some) (rest_finished R sources finished) make.1
