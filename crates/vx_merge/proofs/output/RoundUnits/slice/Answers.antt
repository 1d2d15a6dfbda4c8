use Rattle.std.proofs.Common.{◌++◌, Some, ap, sym, ◌∙◌}
use Rattle.vx_merge.proofs.Limiting.{slice_at}
use Rattle.vx_merge.proofs.output.RoundUnits.slice.Goals as goal

pub returns : goal.returns
returns c =
    slice_at c.args.self.now c.args.i _ c.item.result c.requires.within c.index.ensures c.item.ensures.value
    ∙ ap (λ front. Some (front ++ c.item.result.now)) (sym c.as_slice.ensures.value)
