use Rattle.std.proofs.Common.{Some, refl, sym, ap}
use Rattle.vx_pic.specs.Readings.{Begun}
use Rattle.vx_frame.specs.Rounds.{picture_at}
use Rattle.vx_merge.specs.inner.Ready.{ids_in}
use Rattle.vx_merge.proofs.OneHeader.{has_header, header_is}
use Rattle.vx_merge.proofs.Planning.{some_round}
use Rattle.vx_merge.proofs.round.units_with_header.Goals as goal

pub kind_of-temporal_id-requires : goal.kind_of-temporal_id-requires
kind_of-temporal_id-requires c = some_round _ _ c.args.layout.now c.requires.ready

pub header_unit-requires-clause-tid : goal.header_unit-requires-clause-tid
header_unit-requires-clause-tid c = c.kind_of-temporal_id.ensures.tid

pub header_unit-requires-clause-is : goal.header_unit-requires-clause-is
header_unit-requires-clause-is c = c.requires.is

pub slice_fronts-requires-clause-ready : goal.slice_fronts-requires-clause-ready
slice_fronts-requires-clause-ready c = c.requires.ready

pub slice_fronts-requires-clause-says : goal.slice_fronts-requires-clause-says
slice_fronts-requires-clause-says c = c.requires.says

pub slice_fronts-requires-clause-is : goal.slice_fronts-requires-clause-is
slice_fronts-requires-clause-is c = c.requires.is

pub returns : goal.returns
returns c =
    let round = c.args.round.now in
    let n = c.args.needed.now in
    let header = c.args.header.now in
    let is = c.requires.is in
    let unit = rw (ap (λ k. k.temporal_id) c.kind_of-temporal_id.ensures.value) at c.in_ok-unit.ensures in
    let b : Begun = record {
      sps = n.sps.now;
      pps = n.pps.now;
      layout = c.args.layout.now;
      header = header.fields;
      temporal_id = (picture_at round 0).kind.temporal_id;
      unit = Some c.in_ok-unit.unit.items;
    } in
    record {
      begun = b;
      sps = refl;
      pps = refl;
      layout = refl;
      temporal_id = refl;
      unit = refl;
      header = has_header b header refl is round (ids_in n) c.in_ok-unit.unit.items unit.0 refl c.requires.says unit.1 unit.2;
      slices = c.in_ok-fronts.ensures b (record { sps = refl; pps = refl; header = sym (header_is b header refl is); layout = refl; temporal_id = refl });
    }
