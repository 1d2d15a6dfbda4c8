use Rattle.std.proofs.lemmas.Result.{err_from_is_err_and}
use Rattle.vx_assemble.proofs.Taking.{took_vps, failed_vps}
use Rattle.vx_assemble.proofs.state.State.take_vps.Goals as goal

pub returns : goal.returns
returns c = record {
  answer = λ R h before held.
      took_vps R c.args.self.now c.keep_items.new.self before c.args.unit.bytes.now c.args.unit.rbsp.now c.in_ok-items.items c.args.unit.spells
      (c.in_ok-items.ensures R h) held c.keep_items.ensures;
  order = rw c.keep_items.ensures (record {
    sps = c.requires.sps;
    pps = c.requires.pps;
    aps = c.requires.aps;
    made = c.requires.made;
    under = c.requires.under;
    known = c.requires.known;
    picture = c.requires.picture;
    spelled = c.requires.spelled;
    gathered = c.requires.gathered;
  });
  quiet = λ is. absurd (cc);
}

pub returns-in_err-items : goal.returns-in_err-items
returns-in_err-items c =
    let p = err_from_is_err_and c.from_residual.result c.from_residual.ensures.1 in
    record {
      answer = λ R h before held. rw (p.1, p.2) (failed_vps R c.args.self.now before c.args.unit.bytes.now c.args.unit.rbsp.now c.in_err-items.field-0.0 c.args.unit.spells (c.in_err-items.ensures R h));
      order = c.requires;
      quiet = rw p.1 tt;
    }
