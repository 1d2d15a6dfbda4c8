use Rattle.std.proofs.Common.{◌≡◌, ◌<◌, true, length, sym, subst, arith}
use Rattle.vx_pps.specs.Pps.{ArePpsItems, is_partitioned}
use Rattle.vx_vectors.proofs.Divided.{has_layout, is_listable}
use Rattle.vx_vectors.proofs.reshaped_pps.division_of.Goals as goal

pub region-requires : goal.region-requires
region-requires c = omega (arith, c.args.like.now.one_each)

pub returns-clause-layout : goal.returns-clause-layout
returns-clause-layout c =
    let some : 0 < length c.args.like.now.layout.subpics = omega (arith, c.args.like.now.one_each) in
    has_layout c.region_is_layout.ensures c.args.like.now.layout c.in_ok-region.region c.in_ok-region.ensures.layout c.in_ok-region.ensures.numbers some

pub returns-clause-listable : goal.returns-clause-listable
returns-clause-listable c =
    let some : 0 < length c.args.like.now.layout.subpics = omega (arith, c.args.like.now.one_each) in
    let items : ArePpsItems c.args.like.now.pps.now = subst ArePpsItems c.fields-set.ensures.items c.fields-set.ensures.set in
    let is : is_partitioned c.args.like.now.pps.now ≡ true = (cc) in
    is_listable c.read_slices_are_listable.ensures c.region_is_listable.ensures c.args.like.now.sps.now c.args.like.now.pps.now c.args.like.now.layout c.in_ok-region.region _
    items c.in_ok-region.ensures.layout c.requires.1 is (sym c.in-Some.ensures) c.in_ok-region.ensures.numbers some
