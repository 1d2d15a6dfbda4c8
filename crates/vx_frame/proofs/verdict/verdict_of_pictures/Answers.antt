use Rattle.std.proofs.Common.{◌∷◌, [], length, Some}
use Rattle.vx_frame.specs.Rules.{picture_header, picture_kind, pps_tools, reference_lists, shared_sets}
use Rattle.vx_frame.proofs.Verdicts.{broken, passed}
use Rattle.vx_frame.proofs.verdict.verdict_of_pictures.Goals as goal

pub returns-in-Some : goal.returns-in-Some
returns-in-Some c =
    let round = c.args.round.now in
    broken (length round) (picture_kind round) (pps_tools round ∷ picture_header round ∷ shared_sets round ∷ reference_lists round ∷ []) c.in-Some.refusal c.in-Some.ensures

pub returns-in-Some-of_pps : goal.returns-in-Some-of_pps
returns-in-Some-of_pps c =
    let round = c.args.round.now in
    passed (length round) (picture_kind round) (pps_tools round ∷ picture_header round ∷ shared_sets round ∷ reference_lists round ∷ []) (Some c.in-Some-of_pps.refusal) c.in_default.ensures
    (broken (length round) (pps_tools round) (picture_header round ∷ shared_sets round ∷ reference_lists round ∷ []) c.in-Some-of_pps.refusal (rw c.in-Some-of_pps.is at c.in_ok-of_pps.ensures))

pub returns-in-Some-of_header : goal.returns-in-Some-of_header
returns-in-Some-of_header c =
    let round = c.args.round.now in
    passed (length round) (picture_kind round) (pps_tools round ∷ picture_header round ∷ shared_sets round ∷ reference_lists round ∷ []) (Some c.in-Some-of_header.refusal) c.in_default.ensures
    (passed (length round) (pps_tools round) (picture_header round ∷ shared_sets round ∷ reference_lists round ∷ []) (Some c.in-Some-of_header.refusal) (rw c.in_default-of_pps.is at c.in_ok-of_pps.ensures)
    (broken (length round) (picture_header round) (shared_sets round ∷ reference_lists round ∷ []) c.in-Some-of_header.refusal (rw c.in-Some-of_header.is at c.in_ok-of_header.ensures)))

pub returns-in-Some-shared_sets : goal.returns-in-Some-shared_sets
returns-in-Some-shared_sets c =
    let round = c.args.round.now in
    passed (length round) (picture_kind round) (pps_tools round ∷ picture_header round ∷ shared_sets round ∷ reference_lists round ∷ []) (Some c.in-Some-shared_sets.refusal) c.in_default.ensures
    (passed (length round) (pps_tools round) (picture_header round ∷ shared_sets round ∷ reference_lists round ∷ []) (Some c.in-Some-shared_sets.refusal) (rw c.in_default-of_pps.is at c.in_ok-of_pps.ensures)
    (passed (length round) (picture_header round) (shared_sets round ∷ reference_lists round ∷ []) (Some c.in-Some-shared_sets.refusal) (rw c.in_default-of_header.is at c.in_ok-of_header.ensures)
    (broken (length round) (shared_sets round) (reference_lists round ∷ []) c.in-Some-shared_sets.refusal c.in-Some-shared_sets.ensures)))

pub returns : goal.returns
returns c =
    let round = c.args.round.now in
    passed (length round) (picture_kind round) (pps_tools round ∷ picture_header round ∷ shared_sets round ∷ reference_lists round ∷ []) c.reference_lists.result c.in_default.ensures
    (passed (length round) (pps_tools round) (picture_header round ∷ shared_sets round ∷ reference_lists round ∷ []) c.reference_lists.result (rw c.in_default-of_pps.is at c.in_ok-of_pps.ensures)
    (passed (length round) (picture_header round) (shared_sets round ∷ reference_lists round ∷ []) c.reference_lists.result (rw c.in_default-of_header.is at c.in_ok-of_header.ensures)
    (passed (length round) (shared_sets round) (reference_lists round ∷ []) c.reference_lists.result c.in_default-shared_sets.ensures c.reference_lists.ensures)))
