use Rattle.vx_pic.specs.Resident.{history_of, kept_for}
use Rattle.vx_extract.specs.Shapes.{sps_shape, pps_shape}
use Rattle.vx_write.proofs.SetBySet.{sei_again}
use Rattle.vx_write.proofs.Spelled.{sps_items, pps_items}
use Rattle.vx_extract.proofs.send.make.Goals as goal

pub send_needed-requires-clause-sps : goal.send_needed-requires-clause-sps
send_needed-requires-clause-sps c = sps_items c.args.picture.now.sps (sps_shape c.args.picture.now c.args.target c.args.level) c.in_ok-rewritten.rewritten.sps c.in_ok-rewritten.ensures.sps

pub send_needed-requires-clause-pps : goal.send_needed-requires-clause-pps
send_needed-requires-clause-pps c = pps_items c.args.picture.now.pps (pps_shape c.args.picture.now c.args.target) c.in_ok-rewritten.rewritten.pps c.in_ok-rewritten.ensures.pps

pub returns-clause-made : goal.returns-clause-made
returns-clause-made c done last =
    let cleared = c.forget_before.ensures (history_of done) last in
    let is = c.in_ok-rewritten.ensures in
    record {
      sps = c.in_ok-rewritten.rewritten.sps;
      pps = c.in_ok-rewritten.rewritten.pps;
      sps_is = is.sps;
      pps_is = is.pps;
      sent = c.in_ok-sets.ensures (kept_for c.args.picture.now.kind.nal_type (history_of done)) (rw c.kind-kind.ensures.value at cleared);
      sei_is = sei_again _ c.args.picture.now.kind.temporal_id c.args.picture.now.messages c.in_ok-sei.sei (rw (c.kind-kind.ensures.value, c.messages.ensures) at c.in_ok-sei.ensures);
    }
