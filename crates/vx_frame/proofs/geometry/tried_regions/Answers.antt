use Rattle.std.proofs.Common.{◌∷◌, [], ◌++◌, length, Some, None}
use Rattle.std.proofs.lemmas.Result.{err_from_is_err_and}
use Rattle.vx_frame.specs.Rules.{rules_of_frame, several_subpictures, sps_tools, too_many_slices}
use Rattle.vx_frame.specs.inner.Geometry.{AreRegionsOf, HaveRegions}
use Rattle.vx_frame.proofs.Sources.{joinable}
use Rattle.vx_frame.proofs.Verdicts.{broken, passed, passed_all, tries_behind, tries_front}
use Rattle.vx_frame.proofs.geometry.tried_regions.Goals as goal

pub returns-in-Some : goal.returns-in-Some
returns-in-Some c =
    let round = c.args.round.now in
    let frame = rules_of_frame c.args.corners.now round in
    broken (length round) (several_subpictures round) (sps_tools round ∷ (frame ++ too_many_slices round ∷ [])) c.in-Some.refusal c.in-Some.ensures

pub returns-in-Some-of_sps : goal.returns-in-Some-of_sps
returns-in-Some-of_sps c =
    let round = c.args.round.now in
    let frame = rules_of_frame c.args.corners.now round in
    passed (length round) (several_subpictures round) (sps_tools round ∷ (frame ++ too_many_slices round ∷ [])) (Some c.in-Some-of_sps.refusal) c.in_default.ensures
    (broken (length round) (sps_tools round) (frame ++ too_many_slices round ∷ []) c.in-Some-of_sps.refusal (rw c.in-Some-of_sps.is at c.in_ok-of_sps.ensures))

pub frame_regions-requires-clause-alone : goal.frame_regions-requires-clause-alone
frame_regions-requires-clause-alone c = c.in_default.ensures

pub frame_regions-requires-clause-alike : goal.frame_regions-requires-clause-alike
frame_regions-requires-clause-alike c = rw c.in_default-of_sps.is at c.in_ok-of_sps.ensures

pub returns-in_err-regions : goal.returns-in_err-regions
returns-in_err-regions c =
    let round = c.args.round.now in
    let corners = c.args.corners.now in
    let frame = rules_of_frame corners round in
    let front = passed (length round) (several_subpictures round) (sps_tools round ∷ []) None c.in_default.ensures (rw c.in_default-of_sps.is at c.in_ok-of_sps.ensures) in
    let p = err_from_is_err_and c.from_residual-in_err-regions.result c.from_residual-in_err-regions.ensures.1 in
    rw (p.1, p.2)
    (tries_behind (length round) (several_subpictures round ∷ sps_tools round ∷ []) (frame ++ too_many_slices round ∷ []) (AreRegionsOf corners round) (HaveRegions corners round) _ front
    (tries_front (length round) frame (too_many_slices round ∷ []) (AreRegionsOf corners round) (AreRegionsOf corners round) _ c.in_err-regions.ensures))

pub returns-in-Some-too_many_slices : goal.returns-in-Some-too_many_slices
returns-in-Some-too_many_slices c =
    let round = c.args.round.now in
    let frame = rules_of_frame c.args.corners.now round in
    passed (length round) (several_subpictures round) (sps_tools round ∷ (frame ++ too_many_slices round ∷ [])) (Some c.in-Some-too_many_slices.refusal) c.in_default.ensures
    (passed (length round) (sps_tools round) (frame ++ too_many_slices round ∷ []) (Some c.in-Some-too_many_slices.refusal) (rw c.in_default-of_sps.is at c.in_ok-of_sps.ensures)
    (passed_all (length round) frame (too_many_slices round ∷ []) (Some c.in-Some-too_many_slices.refusal) c.in_ok-regions.ensures.0 c.in-Some-too_many_slices.ensures.found))

pub returns : goal.returns
returns c =
    let round = c.args.round.now in
    let corners = c.args.corners.now in
    let frame = rules_of_frame corners round in
    let alike = rw c.in_default-of_sps.is at c.in_ok-of_sps.ensures in
    let are = c.in_ok-regions.ensures.1 in
    let few = c.in_default-too_many_slices.ensures.found in (
      passed (length round) (several_subpictures round) (sps_tools round ∷ (frame ++ too_many_slices round ∷ [])) None c.in_default.ensures
          (passed (length round) (sps_tools round) (frame ++ too_many_slices round ∷ []) None alike
          (passed_all (length round) frame (too_many_slices round ∷ []) None c.in_ok-regions.ensures.0 few)),
      record {
        are = are;
        can = joinable c.sets_tell_partitions.ensures c.read_slices_are_listable.ensures c.region_is_listable.ensures c.region_is_layout.ensures corners round c.requires.corners c.requires.same
            c.in_default.ensures alike (λ e. c.fit_fault_is_one.ensures.none _ _ e are.fit) (λ k. c.lines_are_one.ensures.none _ _ _ _ k are.lines) few c.requires.sets
            c.in_default-too_many_slices.ensures.whole;
      },
    )
