use Rattle.std.proofs.Common.{ap, refl}
use Rattle.std.proofs.lemmas.Result.{err_from_is_err_and}
use Rattle.vx_assemble.specs.inner.Held.{header_at, kind_at}
use Rattle.vx_assemble.proofs.KeptPicture.{header_is}
use Rattle.vx_assemble.proofs.Slots.{joined_further, some_slot}
use Rattle.vx_assemble.proofs.Slicing.{going_at, going_kept, further_refused, took_further}
use Rattle.vx_assemble.proofs.state.State.take_further.Goals as goal

pub join-requires : goal.join-requires
join-requires c = record {
  size = rw c.len-2.ensures c.requires.picture.bytes;
  header = header_is c.args.self.now.picture c.in-Going.going.begun (ap header_at c.in-Going.is) c.requires.picture;
}

pub put_slice-requires : goal.put_slice-requires
put_slice-requires c =
    let joined = c.in_ok-read.ensures.joined in
    record {
      order = c.requires;
      size = rw c.len-2.ensures at c.in_ok-read.ensures.size;
      payload = joined.payload;
      joined = joined_further c.args.self.now.picture c.in-Going.going c.in_ok-read.read _ c.in-Going.is joined;
    }

pub settle-requires : goal.settle-requires
settle-requires c = record { order = c.put_slice.ensures.order; some = rw c.in_ok-put_slice.ensures.ok (some_slot c.args.self.now.picture.slices _) }

pub returns-in_err-read : goal.returns-in_err-read
returns-in_err-read c =
    let s = c.args.self.now in
    let e = err_from_is_err_and c.from_residual.result c.from_residual.ensures.1 in
    record {
      answer = λ R h before held p is whole.
          rw (e.1, e.2) (further_refused R s before p c.args.unit.bytes.now _
          (c.in_err-read.ensures.answer R h p
          (going_at _ s.picture p (going_kept s before p held is) (ap header_at c.in-Going.is) (ap kind_at c.in-Going.is) refl c.len.ensures c.len-2.ensures)));
      order = c.requires;
      done = rw e.1 tt;
    }

pub returns-in_err-put_slice : goal.returns-in_err-put_slice
returns-in_err-put_slice c =
    let e = err_from_is_err_and c.from_residual-in_err-put_slice.result c.from_residual-in_err-put_slice.ensures.1 in
    record { answer = λ R h before held p is whole. rw (e.1, e.2) tt; order = c.put_slice.ensures.order; done = rw e.1 tt }

pub returns-in_err-settle : goal.returns-in_err-settle
returns-in_err-settle c =
    let e = err_from_is_err_and c.from_residual-in_err-settle.result c.from_residual-in_err-settle.ensures.1 in
    record { answer = λ R h before held p is whole. rw (e.1, e.2) tt; order = c.settle.ensures.order; done = rw e.1 tt }

pub returns : goal.returns
returns c =
    let s = c.args.self.now in
    record {
      answer = λ R h before held p is whole.
          took_further R s c.put_slice.new.self c.settle.new.self before p c.in-Going.going.begun c.args.unit.bytes.now c.in_ok-read.read c.in_ok-settle.field-0 held is whole
          c.requires.picture (ap header_at c.in-Going.is)
          (c.in_ok-read.ensures.answer R h p
          (going_at _ s.picture p (going_kept s before p held is) (ap header_at c.in-Going.is) (ap kind_at c.in-Going.is) refl c.len.ensures c.len-2.ensures))
          c.in_ok-put_slice.ensures.ok c.in_ok-put_slice.ensures.order.picture c.in_ok-settle.ensures.ok;
      order = c.settle.ensures.order;
      done = c.in_ok-settle.ensures.done;
    }
