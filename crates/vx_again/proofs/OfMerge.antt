-- The pictures that are written for rounds are those of the merge of their streams.
use Rattle.std.proofs.Common.{◌≡◌, ℕ, List, [], ◌∷◌, length, map, slice_get, Option, Some, None, refl, ap, sym, subst, ◌∙◌}
use Rattle.std.specs.Prelude.{drop}
use Rattle.std.specs.List.{AllByRecursion, AllZip}
use Rattle.vx_pic.specs.declared.kind.Kind.{Kind}
use Rattle.vx_pic.specs.Alike.{AreAlike}
use Rattle.vx_pic.specs.Inputs.{Input, inputs_of}
use Rattle.vx_pic.specs.Parts.{Parts, parts_of}
use Rattle.vx_pic.specs.Readings.{Picture}
use Rattle.vx_pic.specs.Resident.{planned_of, readings_of_plans}
use Rattle.vx_pic.specs.Rules.{Readers}
use Rattle.vx_pic.specs.Written.{Plan, planned}
use Rattle.vx_frame.specs.declared.corner.Corner.{Corner}
use Rattle.vx_frame.specs.Corners.{AreCorners}
use Rattle.vx_frame.proofs.Gathered.{all_at}
use Rattle.vx_merge.specs.Merging.{Judges, Passes}
use Rattle.vx_merge.specs.Written.{IsMerged}
use Rattle.vx_again.specs.Frames.{IsReadyRound, SetsMakeTheFrame}
use Rattle.vx_again.specs.Regions.{HasRegions, PlannedAreOfMerge, StandsAt}
use Rattle.vx_again.specs.Rounds.{MergedKeepsInputs, MergedSendsItsSets}
use Rattle.vx_again.specs.Sources.{CanBeMerged}
use Rattle.vx_again.specs.Streams.{AreMerged, MergedArePlanned, earlier}
use Rattle.vx_again.proofs.Columns.{IsLast, all_last, earlier_at, earlier_can, earlier_long, last_at, ready_round, sound_lasts}
use Rattle.vx_again.proofs.Facts.{sets_of}

-- ---- kinds

-- pictures that are alike have the same kinds
alike_kinds : (ps qs : List Picture) → AreAlike ps qs → map (λ (q : Picture). q.kind) qs ≡ map (λ (p : Picture). p.kind) ps
alike_kinds [] [] alike = refl
alike_kinds [] (q ∷ qs) alike = absurd alike
alike_kinds (p ∷ ps) [] alike = absurd alike
alike_kinds (p ∷ ps) (q ∷ qs) alike =
    ap (λ (k : Kind). k ∷ map (λ (x : Picture). x.kind) qs) (sym alike.0) ∙ ap (λ (ks : List Kind). p.kind ∷ ks) (alike_kinds ps qs alike.2)

-- so it is with the last ones, and with those before
alike_last : (ps qs : List Picture) (q new : Picture) → IsLast ps q → AreAlike ps (new ∷ qs) → (q.kind ≡ new.kind) × AreAlike (drop 1 ps) qs
alike_last ps qs q new last_ alike =
    let both : AreAlike (q ∷ drop 1 ps) (new ∷ qs) = subst (λ xs. AreAlike xs (new ∷ qs)) last_.is alike in
    (both.0, both.2)

lasts_alike : (sources : List (List Picture)) (round qs : List Picture) (new : Picture) → AllZip IsLast sources round
    → AllByRecursion (λ ps. AreAlike ps (new ∷ qs)) sources
    → AllByRecursion (λ (q : Picture). q.kind ≡ new.kind) round
lasts_alike [] [] qs new lasts_ alike = tt
lasts_alike [] (q ∷ round) qs new lasts_ alike = absurd lasts_
lasts_alike (ps ∷ sources) [] qs new lasts_ alike = tt
lasts_alike (ps ∷ sources) (q ∷ round) qs new lasts_ alike =
    ((alike_last ps qs q new lasts_.0 alike.0).0, lasts_alike sources round qs new lasts_.1 alike.1)

earlier_alike : (sources : List (List Picture)) (round qs : List Picture) (new : Picture) → AllZip IsLast sources round
    → AllByRecursion (λ ps. AreAlike ps (new ∷ qs)) sources
    → AllByRecursion (λ ps. AreAlike ps qs) (earlier sources)
earlier_alike [] round qs new lasts_ alike = tt
earlier_alike (ps ∷ sources) [] qs new lasts_ alike = absurd lasts_
earlier_alike (ps ∷ sources) (q ∷ round) qs new lasts_ alike =
    ((alike_last ps qs q new lasts_.0 alike.0).1, earlier_alike sources round qs new lasts_.1 alike.1)

-- ---- rounds

-- the subpictures of a picture that is written stand at the corners
abbrev pub SubpicturesStand : Type 0
SubpicturesStand =
    (corners : List Corner) (level : Option ℕ) (round : List Parts) (done : List Plan) (p : Plan) → IsReadyRound corners round
    → Judges corners round None
    → IsMerged corners level round done p → (k : ℕ) (corner : Corner) → slice_get corners k ≡ Some corner → StandsAt p.begun.sps k corner

module _ (make : SetsMakeTheFrame) (stand : SubpicturesStand) (sends : MergedSendsItsSets) (keeps : MergedKeepsInputs) (R : Readers)
    (corners : List Corner) (level : Option ℕ) (are : AreCorners corners) where
  has_regions : (round : List Parts) (done : List Plan) (p : Plan) → IsReadyRound corners round → Passes corners level round done p
      → HasRegions corners (planned (readings_of_plans done) p)
  has_regions round done p ready passes =
      let sets = sets_of corners level round done p passes.is in
      let made = make corners level round p.begun.layout passes.is.ids.pps p.begun.sps p.begun.pps ready passes.verdict passes.is.frame sets in
      record {
        count = made.count ∙ sym ready.same;
        place = stand corners level round done p ready passes.verdict passes.is;
        treated = made.treated;
        filtered = made.filtered;
      }

  all_regions : (sources : List (List Picture)) (done : List Plan) → length corners ≡ length sources
      → AllByRecursion (CanBeMerged R) sources → AreMerged corners level sources done
      → AllByRecursion (HasRegions corners) (planned_of done)
  all_regions sources [] same can merged = tt
  all_regions sources (p ∷ done) same can ((round, at, passes), merged) =
      let ready = ready_round R corners sources round are same (sound_lasts R sources round (all_last sources round at) can) in (
        has_regions (map parts_of round) done p ready passes,
        all_regions (earlier sources) done (earlier_long corners sources same) (earlier_can R sources can) merged,
      )

  -- region k has the decoding inputs of stream k
  all_inputs : (sources : List (List Picture)) (done : List Plan) → length corners ≡ length sources → AllByRecursion (CanBeMerged R) sources
      → AreMerged corners level sources done
      → AllByRecursion (λ ps. AreAlike ps (planned_of done)) sources → (k : ℕ) (ps : List Picture) → slice_get sources k ≡ Some ps
      → map (λ (q : Picture). inputs_of q k) (planned_of done) ≡ map (λ (p : Picture). inputs_of p 0) ps
  all_inputs sources [] same can merged alike k ps here =
      ap (map (λ (p : Picture). inputs_of p 0)) (sym (all_at (λ (xs : List Picture). xs ≡ []) sources k ps merged here))
  all_inputs sources (p ∷ done) same can ((round, at, passes), merged) alike k ps here =
      let lasts_ = all_last sources round at in
      let ready = ready_round R corners sources round are same (sound_lasts R sources round lasts_ can) in
      let new : Picture = planned (readings_of_plans done) p in
      let own = last_at sources round k ps lasts_ here in
      let first : inputs_of new k ≡ inputs_of own.0 0 =
      keeps corners level round done p ready passes.verdict passes.is (sends corners level (map parts_of round) done p passes.is)
      (lasts_alike sources round (planned_of done) new lasts_ alike) k own.0 own.1 in
      let more = all_inputs (earlier sources) done (earlier_long corners sources same) (earlier_can R sources can) merged
      (earlier_alike sources round (planned_of done) new lasts_ alike) k (drop 1 ps) (earlier_at sources k ps here) in
      ap (λ (xs : List Input). xs ∷ map (λ (q : Picture). inputs_of q k) (planned_of done)) first
      ∙ ap (λ (xss : List (List Input)). inputs_of own.0 0 ∷ xss) more
      ∙ ap (map (λ (q : Picture). inputs_of q 0)) (sym own.2.is)

pub are_of_merge : MergedArePlanned → SetsMakeTheFrame → SubpicturesStand → MergedSendsItsSets → MergedKeepsInputs → PlannedAreOfMerge
are_of_merge plans make stand sends keeps R corners level sources done of so =
    let alike = (plans R corners level sources done of so).1 in
    record {
      regions = all_regions make stand sends keeps R corners level so.are sources done so.same so.can so.merged;
      each = λ k ps here. record {
        kinds = alike_kinds ps (planned_of done) (all_at (λ (xs : List Picture). AreAlike xs (planned_of done)) sources k ps alike here);
        inputs = all_inputs make stand sends keeps R corners level so.are sources done so.same so.can so.merged alike k ps here;
      };
    }
