use Rattle.std.proofs.Common.{rules, ◌≡◌, ap, ◌∙◌, None, true, w32, to_z, of_z}
use Rattle.vx_fields.specs.declared.pps.TheConstants.{pps_init_qp_minus26}
use Rattle.vx_sps.specs.Set.{ctb_size_of}
use Rattle.vx_pic.specs.Sets.{signed}
use Rattle.vx_frame.specs.Regions.{ctb_of}
use Rattle.vx_frame.specs.Rounds.{picture_at}
use Rattle.vx_frame.proofs.Reading.{picture_read}
use Rattle.vx_frame.proofs.frame_sets.pps_shape.Goals as goal

pub bounds-round-0 : goal.bounds-round-0
bounds-round-0 c = c.requires.frame.1.some

pub lowest_crosses-requires-clause-few : goal.lowest_crosses-requires-clause-few
lowest_crosses-requires-clause-few c = c.requires.frame.1.few

pub lowest_crosses-requires-clause-layouts : goal.lowest_crosses-requires-clause-layouts
lowest_crosses-requires-clause-layouts c = c.as_slice-layouts.ensures.value ∙ c.requires.frame.1.layouts

pub lowest_crosses-requires-2-clause-few : goal.lowest_crosses-requires-2-clause-few
lowest_crosses-requires-2-clause-few c = c.requires.frame.1.few

pub lowest_crosses-requires-2-clause-layouts : goal.lowest_crosses-requires-2-clause-layouts
lowest_crosses-requires-2-clause-layouts c = c.as_slice-layouts.ensures.value ∙ c.requires.frame.1.layouts

pub bounds-round-0-2 : goal.bounds-round-0-2
bounds-round-0-2 c = c.requires.frame.1.some

pub returns : goal.returns
returns c = λ corners is.
    let round = c.args.round.now in
    let ctb_is : c.ctb.result ≡ ctb_of round = c.ctb.ensures ∙ (ap ctb_size_of c.sps.ensures ∙ ap (λ q. ctb_size_of q.sps) (picture_read round 0 c.index-round-0.result is.some c.index-round-0.is)) in
    let own : to_z w32 (of_z w32 c.init_qp.result) ≡ c.init_qp.result = search rules in
    let qp_is : to_z w32 (of_z w32 c.init_qp.result) ≡ signed (picture_at round 0).pps pps_init_qp_minus26 = own ∙ c.init_qp.ensures.value ∙ ap (λ q. signed q.pps pps_init_qp_minus26) (picture_read round 0 c.index-round-0-2.result is.some c.index-round-0-2.is) in
    λ j. record {
      id = c.args.id;
      sps_id = 0;
      width = is.width j;
      height = is.height j;
      ctb = ctb_is j;
      subpic_id = None;
      tiles = record { columns = c.requires.columns j; rows = c.requires.rows j };
      slices = c.requires.slices j;
      across_tiles = c.lowest_crosses.ensures j;
      across_slices = c.lowest_crosses-2.ensures j;
      init_qp = qp_is j;
      merged = true;
    }
