use Rattle.std.proofs.Common.{◌∷◌, [], length, Some}
use Rattle.vx_frame.specs.Rules.{collocated_pictures, filter_flags, output_of_prior, too_many_filters}
use Rattle.vx_frame.proofs.Verdicts.{broken, passed}
use Rattle.vx_frame.proofs.verdict.verdict_of_slices.Goals as goal

pub returns-in-Some : goal.returns-in-Some
returns-in-Some c =
    let round = c.args.round.now in
    broken (length round) (output_of_prior round) (too_many_filters round ∷ filter_flags round ∷ collocated_pictures round ∷ []) c.in-Some.refusal c.in-Some.ensures

pub returns-in-Some-too_many_filters : goal.returns-in-Some-too_many_filters
returns-in-Some-too_many_filters c =
    let round = c.args.round.now in
    passed (length round) (output_of_prior round) (too_many_filters round ∷ filter_flags round ∷ collocated_pictures round ∷ []) (Some c.in-Some-too_many_filters.refusal) c.in_default.ensures
    (broken (length round) (too_many_filters round) (filter_flags round ∷ collocated_pictures round ∷ []) c.in-Some-too_many_filters.refusal (c.in-Some-too_many_filters.ensures round c.requires.gathered.filters))

pub returns-in-Some-verdict_of_flags : goal.returns-in-Some-verdict_of_flags
returns-in-Some-verdict_of_flags c =
    let round = c.args.round.now in
    passed (length round) (output_of_prior round) (too_many_filters round ∷ filter_flags round ∷ collocated_pictures round ∷ []) (Some c.in-Some-verdict_of_flags.refusal) c.in_default.ensures
    (passed (length round) (too_many_filters round) (filter_flags round ∷ collocated_pictures round ∷ []) (Some c.in-Some-verdict_of_flags.refusal) (c.in_default-too_many_filters.ensures round c.requires.gathered.filters)
    (broken (length round) (filter_flags round) (collocated_pictures round ∷ []) c.in-Some-verdict_of_flags.refusal c.in-Some-verdict_of_flags.ensures))

pub returns : goal.returns
returns c =
    let round = c.args.round.now in
    passed (length round) (output_of_prior round) (too_many_filters round ∷ filter_flags round ∷ collocated_pictures round ∷ []) c.collocated_pictures.result c.in_default.ensures
    (passed (length round) (too_many_filters round) (filter_flags round ∷ collocated_pictures round ∷ []) c.collocated_pictures.result (c.in_default-too_many_filters.ensures round c.requires.gathered.filters)
    (passed (length round) (filter_flags round) (collocated_pictures round ∷ []) c.collocated_pictures.result c.in_default-verdict_of_flags.ensures c.collocated_pictures.ensures))
