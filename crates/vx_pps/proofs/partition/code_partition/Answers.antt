use Rattle.std.proofs.Common.{◌≡◌, ◌==◌, false}
use Rattle.std.proofs.lemmas.Bool.{ne_eqb}
use Rattle.vx_pps.specs.Partition.{partition}
use Rattle.vx_pps.specs.inner.Walked.{ended}
use Rattle.vx_pps.proofs.partition.code_partition.Goals as goal

pub returns : goal.returns
unfolding partition
returns g c =
    let none : (c.args.whole == 0) ≡ false = ne_eqb _ _ c.if-whole-eq0.false in
    rw (none, c.new.ensures, c.new-2.ensures) ended
