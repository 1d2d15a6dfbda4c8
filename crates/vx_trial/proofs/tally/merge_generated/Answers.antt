-- The streams that are made can be merged.
use Rattle.std.proofs.Common.{◌∙◌, List, subst, sym}
use Rattle.std.proofs.lemmas.Result.{IfOk-weaker}
use Rattle.vx_io.specs.Memory.{Growth}
use Rattle.vx_frame.specs.declared.corner.Corner.{Corner}
use Rattle.vx_frame.specs.Corners.{AreCorners}
use Rattle.vx_gen.proofs.InOrder.{corners_there}
use Rattle.vx_trial.specs.inner.Laws.{sources_of}
use Rattle.vx_trial.specs.inner.Merges.{IsMergeOf}
use Rattle.vx_trial.proofs.Counted.{can_here}
use Rattle.vx_trial.proofs.tally.merge_generated.Goals as goal

pub merge-requires-clause-corners : goal.merge-requires-clause-corners
merge-requires-clause-corners c =
    let same = c.deref.ensures.value ∙ c.in_ok-corners.ensures in
    subst AreCorners (sym same) (corners_there c.args.sources c.requires.sources.0 c.requires.sources.1).are

pub merge-requires-clause-can : goal.merge-requires-clause-can
merge-requires-clause-can c R of =
    let n = c.args.sources in
    let can = c.generated_can_be_tried.ensures R c.args.seed n c.args.pictures of c.requires.sources.0 c.requires.sources.1 c.requires.pictures.0 c.requires.pictures.1 in (
      sources_of c.args.seed n c.args.pictures,
      can_here R c.args.seed n c.args.pictures can c.deref.result.now c.as_slice.result.now (c.deref.ensures.value ∙ c.in_ok-corners.ensures)
          (c.as_slice.ensures ∙ c.in_ok-streams.ensures),
    )

pub returns : goal.returns
returns c R of =
    let n = c.args.sources in
    let same = c.deref.ensures.value ∙ c.in_ok-corners.ensures in
    let can = c.generated_can_be_tried.ensures R c.args.seed n c.args.pictures of c.requires.sources.0 c.requires.sources.1 c.requires.pictures.0 c.requires.pictures.1 in
    let here = can_here R c.args.seed n c.args.pictures can c.deref.result.now c.as_slice.result.now same (c.as_slice.ensures ∙ c.in_ok-streams.ensures) in
    let sources = sources_of c.args.seed n c.args.pictures in
    IfOk-weaker c.merge.result _ _ (λ (merged : Growth) made. subst (λ (l : List Corner). IsMergeOf l sources merged.taken) same made) (c.merge.ensures R of sources here)
