use Rattle.std.proofs.lemmas.Result.{on_ok_weaker}
use Rattle.vx_assemble.proofs.Named.{named_there, qp_fine}
use Rattle.vx_assemble.proofs.join.check_slice.Goals as goal

pub returns-clause-joined : goal.returns-clause-joined
returns-clause-joined c =
    let b = c.args.place.begun.now in
    let h = c.args.read.now.header in
    on_ok_weaker c.check_limits.result (λ less. record {
      read = c.requires.read.read;
      subpic = c.requires.read.subpic;
      header = c.requires.read.header;
      payload = less;
      bodies = named_there c.args.place.bodies.now b.sets.pps b.header.fields h
          (rw (c.value-pps.ensures, c.value-sets.ensures) at c.in_ok-check_bodies.ensures);
      qp = qp_fine b.sets.sps b.sets.pps b.header.fields h c.in_ok-check_slice_qp.field-0
          (rw (c.value.ensures, c.value-pps.ensures, c.value-sets.ensures) at c.in_ok-check_slice_qp.ensures);
    }) c.check_limits.ensures.payload
