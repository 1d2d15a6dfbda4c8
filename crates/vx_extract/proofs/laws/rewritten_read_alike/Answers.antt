use Rattle.std.proofs.Common.{Ok, sym}
use Rattle.vx_layout.specs.Regions.{region_of}
use Rattle.vx_extract.proofs.AgainHeaders.{header_read}
use Rattle.vx_extract.proofs.AgainSlices.{slice_read}
use Rattle.vx_extract.proofs.laws.rewritten_read_alike.Goals as goal

pub returns : goal.returns
returns c = λ R target level q sps pps of are within re.
    let make = c.rewritten_make_region.ensures.made target level q sps pps are within re in
    let agree = c.rewritten_agree.ensures target level q sps pps are re in
    let unique = c.readers_are_unique.ensures in
    record {
      layout = unique.layout sps pps (R.layout sps pps) (Ok (region_of q.layout target)) (of.layout sps pps) (make.made, sym make.numbers);
      header = header_read unique R of q sps pps agree;
      slice = λ nal_type unit h mine reads. slice_read c.regions_nest.ensures.bounds c.region_keeps_slices.ensures.slices c.region_is_layout.ensures c.regions_nest.ensures.region
          target q sps pps are within agree make c.slice_read_elsewhere.ensures c.slice_scopes_agree.ensures.whole c.numbers_are_told.ensures nal_type unit h unique R of mine reads;
    }
