use Rattle.std.proofs.Common.{sym, ◌∙◌, arith}
use Rattle.vx_frame.specs.Collocated.{collocated}
use Rattle.vx_frame.proofs.Gathered.{first_found, flat_read, none_first, none_of_all, none_read}
use Rattle.vx_frame.proofs.slices.first_of_all.Goals as goal

pub returns-in-Some : goal.returns-in-Some
returns-in-Some c =
    let round = c.args.round.now in
    let k = c.loop-k.k in
    sym (first_found collocated round k c.index-round-k.result c.in-Some.found c.loop-k.invariant
    (flat_read collocated round k c.index-round-k.result c.loop-k-test.true c.index-round-k.is) (sym c.first_named.ensures ∙ c.in-Some.is))

pub loop-k-preserved : goal.loop-k-preserved
loop-k-preserved c =
    none_read collocated c.args.round.now c.loop-k.k c.index-round-k.result c.loop-k-test.true c.index-round-k.is c.loop-k.invariant
    (none_first (collocated c.index-round-k.result) (sym c.first_named.ensures ∙ c.in_default.is))

pub returns : goal.returns
returns c = sym (none_of_all collocated c.args.round.now c.loop-k.k (omega arith) c.loop-k.invariant)
