-- The picture that is lent.
use Rattle.std.specs.Prelude.{pos, false, [], map, None}
use Rattle.vx_pic.specs.Parts.{Parts, header_unit_in, slice_in}
use Rattle.vx_assemble.specs.declared.state.CurrentPicture.{CurrentPicture}
use Rattle.vx_assemble.specs.declared.state.Stage.{Stage}
use Rattle.vx_assemble.specs.declared.state.Stage.TheVariants as stages

-- What there is of none.
abbrev pub no_parts : Parts
no_parts = record {
  kind = record { nal_type = 0; temporal_id = 0; clvss = false; after_eos = false; poc = pos 0 };
  sps = [];
  pps = [];
  layout = record { columns = []; rows = []; slices = []; subpics = [] };
  header = record { fields = []; lists = record { first = []; second = [] } };
  ids = [];
  unit = None;
  slices = [];
  bodies = [];
  messages = [];
}

-- For a picture that was taken this far.
abbrev pub parts_by : Stage → CurrentPicture → Parts
parts_by stages.Nothing c = no_parts
parts_by (stages.Headed b) c = no_parts
parts_by (stages.Going g) c = record {
  kind = g.kind;
  sps = g.begun.sets.sps;
  pps = g.begun.sets.pps;
  layout = g.begun.sets.layout;
  header = g.begun.header;
  ids = g.begun.sets.ids;
  unit = header_unit_in c.bytes c.header_end;
  slices = map (slice_in c.bytes) c.slices;
  bodies = c.bodies;
  messages = c.messages;
}

abbrev pub parts_in : CurrentPicture → Parts
parts_in c = parts_by c.stage c
