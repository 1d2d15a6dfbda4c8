use Rattle.std.proofs.Common.{rules}
use Rattle.vx_sps.specs.Set as set
use Rattle.vx_pps.specs.Pps as pps
use Rattle.vx_pic.proofs.Answering.{limits_of}
use Rattle.vx_pic.proofs.layouts.numbers_in.Goals as goal

pub returns-clause-limits : goal.returns-clause-limits
returns-clause-limits c =
    let one : set.AreSpsItems c.args.sps.now = rw c.fields-sps.ensures.items at c.fields-sps.ensures.set in
    let two : pps.ArePpsItems c.args.pps.now = rw c.fields-pps.ensures.items at c.fields-pps.ensures.set in
    limits_of c.sets_tell_partitions.ensures c.args.sps.now c.args.pps.now _ one two (search rules)
