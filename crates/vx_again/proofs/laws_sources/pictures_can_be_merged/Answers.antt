use Rattle.vx_again.proofs.SourceSlices.{pictures_can_be_merged}
use Rattle.vx_again.proofs.laws_sources.pictures_can_be_merged.Goals as goal

pub returns : goal.returns
returns c = pictures_can_be_merged (record {
  splits = c.escaped_splits.ensures;
  scopes = c.slice_scopes_agree.ensures.whole;
  told = c.numbers_are_told.ensures;
  no_filter = c.header_is_enabled.ensures.filter;
  no_slice_filter = c.no_slice_filter.ensures;
  no_lmcs = c.header_is_enabled.ensures.lmcs;
  no_scaling = c.header_is_enabled.ensures.scaling;
  no_chroma = c.header_is_enabled.ensures.chroma;
  finished = c.pictures_are_finished.ensures;
  in_force = c.pictures_are_in_force.ensures;
  readings = c.pictures_have_their_readings.ensures;
  whole = c.subpictures_have_slices.ensures.all;
})
