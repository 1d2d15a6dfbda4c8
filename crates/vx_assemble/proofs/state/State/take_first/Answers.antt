use Rattle.std.proofs.Common.{ap, arith}
use Rattle.std.proofs.lemmas.Result.{err_from_is_err_and}
use Rattle.vx_pic.specs.Rules.{first}
use Rattle.vx_assemble.specs.inner.Held.{header_at}
use Rattle.vx_assemble.proofs.KeptPicture.{header_is}
use Rattle.vx_assemble.proofs.Slots.{headed_known, joined_headed}
use Rattle.vx_assemble.proofs.Slicing.{headed_fresh, took_first}
use Rattle.vx_assemble.proofs.Taking.{takes_error}
use Rattle.vx_assemble.proofs.state.State.take_first.Goals as goal

pub open_first-requires : goal.open_first-requires
open_first-requires c = record {
  size = c.requires.picture.bytes;
  header = header_is c.args.self.now.picture c.in-Headed.begun (ap header_at c.in-Headed.is) c.requires.picture;
  sps = headed_known c.args.self.now c.in-Headed.begun c.requires c.in-Headed.is;
}

pub put_first-requires : goal.put_first-requires
put_first-requires c =
    let e = c.in_ok-opened.ensures in
    record {
      order = c.requires;
      size = e.size;
      payload = e.joined.payload;
      joined = joined_headed c.args.self.now.picture c.in-Headed.begun c.in_ok-opened.opened _ c.in-Headed.is e.joined;
      kind = e.kind;
      bodies = rw e.bodies c.requires.aps;
    }

pub settle-requires : goal.settle-requires
settle-requires c = record { order = c.put_first.ensures.order; some = rw c.in_ok-put_first.ensures.ok (omega arith) }

pub returns-in_err-opened : goal.returns-in_err-opened
returns-in_err-opened c =
    let p = err_from_is_err_and c.from_residual.result c.from_residual.ensures.1 in
    record {
      answer = λ R h before held b head.
          rw (p.1, p.2) (takes_error (first R before b c.args.unit.bytes.now) before c.args.self.now _
          (c.in_err-opened.ensures.answer R h before held b (headed_fresh c.args.self.now.picture c.in-Headed.begun b (ap header_at c.in-Headed.is) head)));
      order = c.requires;
      done = rw p.1 tt;
    }

pub returns-in_err-put_first : goal.returns-in_err-put_first
returns-in_err-put_first c =
    let p = err_from_is_err_and c.from_residual-in_err-put_first.result c.from_residual-in_err-put_first.ensures.1 in
    record { answer = λ R h before held b head. rw (p.1, p.2) tt; order = c.put_first.ensures.order; done = rw p.1 tt }

pub returns-in_err-settle : goal.returns-in_err-settle
returns-in_err-settle c =
    let p = err_from_is_err_and c.from_residual-in_err-settle.result c.from_residual-in_err-settle.ensures.1 in
    record { answer = λ R h before held b head. rw (p.1, p.2) tt; order = c.settle.ensures.order; done = rw p.1 tt }

pub returns : goal.returns
returns c = record {
  answer = λ R h before held b head.
      took_first R c.args.self.now c.put_first.new.self c.settle.new.self before b c.args.unit.bytes.now c.in_ok-opened.opened c.in_ok-settle.field-0 held head
      c.requires.picture c.in_ok-opened.ensures.bodies
      (c.in_ok-opened.ensures.answer R h before held b (headed_fresh c.args.self.now.picture c.in-Headed.begun b (ap header_at c.in-Headed.is) head))
      c.in_ok-put_first.ensures.ok c.in_ok-put_first.ensures.order.picture c.in_ok-settle.ensures.ok;
  order = c.settle.ensures.order;
  done = c.in_ok-settle.ensures.done;
}
