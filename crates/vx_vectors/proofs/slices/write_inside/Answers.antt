use Rattle.std.proofs.Common.{sym, subst}
use Rattle.vx_sh.specs.InForce.{in_force_at}
use Rattle.vx_sh.specs.Value.{IsSliceOf}
use Rattle.vx_vectors.proofs.slices.write_inside.Goals as goal

-- the items are those of the values that the bits behind the first spell
pub write_again-requires-clause-slice : goal.write_again-requires-clause-slice
write_again-requires-clause-slice c =
    let header = c.requires.header in
    let is = (c.read_can_be_written.ensures _ _ _ _ c.requires.read).inside (cc) header.values _ header.spelled in
    subst (λ items. IsSliceOf (in_force_at c.args.numbers.now) c.args.slice.now.fields items) (sym header.gained) is
