use Rattle.std.proofs.Common.{Some, None, ap, length, map, sym, ◌∙◌}
use Rattle.std.proofs.lemmas.List.Elements.{recursion_from_All}
use Rattle.vx_write.specs.InForce.{AreInForce}
use Rattle.vx_frame.specs.inner.Frames.{HasSetsOf, HavePassed, IsKeptFrame, sets_in}
use Rattle.vx_frame.proofs.SameSets.{few_known, kept_serves, past_of, sources_count}
use Rattle.vx_frame.proofs.frame.round_frame.Goals as goal

pub have_sets-requires : goal.have_sets-requires
have_sets-requires c =
    let kept = rw c.in-Some.is at c.requires.kept in
    ap length (rw c.deref.ensures at c.as_slice.ensures.value) ∙ (sources_count c.args.corners.now kept.0 c.in-Some.frame.value kept.1 ∙ c.requires.same)

pub returns-in_default : goal.returns-in_default
returns-in_default c level was = c.new_frame.ensures level

pub returns-then-not-have_sets : goal.returns-then-not-have_sets
returns-then-not-have_sets c level was = c.new_frame-then-not-have_sets.ensures level

pub returns-in-Some-too_many_slices : goal.returns-in-Some-too_many_slices
returns-in-Some-too_many_slices c level was =
    let corners = c.args.corners.now in
    let round = c.args.round.now in
    let kept : IsKeptFrame corners level c.in-Some.frame.value = rw c.in-Some.is at was in
    let sets : HasSetsOf round c.in-Some.frame.value = ap (map sets_in) (sym (rw c.deref.ensures at c.as_slice.ensures.value)) ∙ c.if-not-have_sets.ensures.same in
    let past : HavePassed corners round = past_of corners level round c.in-Some.frame.value kept sets in
    few_known corners round c.requires.same past (Some c.in-Some-too_many_slices.refusal) c.in-Some-too_many_slices.ensures.found

pub returns : goal.returns
returns c level was =
    let corners = c.args.corners.now in
    let round = c.args.round.now in
    let kept : IsKeptFrame corners level c.in-Some.frame.value = rw c.in-Some.is at was in
    let sets : HasSetsOf round c.in-Some.frame.value = ap (map sets_in) (sym (rw c.deref.ensures at c.as_slice.ensures.value)) ∙ c.if-not-have_sets.ensures.same in
    let past : HavePassed corners round = past_of corners level round c.in-Some.frame.value kept sets in (
      few_known corners round c.requires.same past None c.in_default-too_many_slices.ensures.found,
      kept_serves corners level round c.in-Some.frame (recursion_from_All AreInForce round c.if-not-have_sets.ensures.sets) kept sets,
    )
