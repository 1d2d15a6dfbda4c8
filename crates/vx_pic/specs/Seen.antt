-- The decoding inputs in the code, related to those of their definition. The contract of `decoding_input` relies on it.
use Rattle.std.specs.Prelude.{map, option_map, option_copied}
use Rattle.vx_pic.specs.declared.in_force.AlfInForce.{AlfInForce}
use Rattle.vx_pic.specs.declared.input.DecodingInput.{DecodingInput}
use Rattle.vx_pic.specs.Inputs.{Alf, Input}

-- Borrowed bodies, as their bytes.
abbrev pub alf_seen : AlfInForce → Alf
alf_seen a = record {
  enabled = a.enabled;
  luma = map (λ body. body.now) a.luma;
  cb = a.cb;
  cr = a.cr;
  chroma = option_copied a.chroma;
  cc_cb = option_copied a.cc_cb;
  cc_cr = option_copied a.cc_cr;
}

abbrev pub input_seen : DecodingInput → Input
input_seen d = record {
  kind = d.kind;
  sps = d.sps;
  pps = d.pps;
  header = d.header;
  slice = d.slice;
  alf = alf_seen d.alf;
  lmcs = option_map (λ x. (x.0.now, x.1)) d.lmcs;
  scaling = option_copied d.scaling;
  lists = d.lists;
  slice_qp = d.slice_qp;
  place = d.place;
  payload = d.payload.now;
}
