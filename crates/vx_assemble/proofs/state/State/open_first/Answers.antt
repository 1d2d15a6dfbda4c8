use Rattle.std.proofs.Common.{ap, refl}
use Rattle.std.proofs.lemmas.Result.{err_from_is_err_and}
use Rattle.vx_pic.specs.Rules.{opened}
use Rattle.vx_assemble.specs.inner.Takes.{slice_read_as}
use Rattle.vx_assemble.proofs.Slicing.{fresh_at, join_refused, first_reads}
use Rattle.vx_assemble.proofs.state.State.open_first.Goals as goal

pub returns-in-Err-clause-joined : goal.returns-in-Err-clause-joined
returns-in-Err-clause-joined c = tt

pub returns-in-Err-clause-kind : goal.returns-in-Err-clause-kind
returns-in-Err-clause-kind c = tt

pub returns-in-Err-clause-bodies : goal.returns-in-Err-clause-bodies
returns-in-Err-clause-bodies c = tt

pub returns-in-Err-clause-size : goal.returns-in-Err-clause-size
returns-in-Err-clause-size c = tt

pub returns-in_err-bodies : goal.returns-in_err-bodies
returns-in_err-bodies c =
    let p = err_from_is_err_and c.from_residual.result c.from_residual.ensures.1 in
    record { answer = λ R h before held b fresh. rw (p.1, p.2) tt; joined = rw p.1 tt; kind = rw p.1 tt; bodies = rw p.1 tt; size = rw p.1 tt }

pub returns-in_err-read : goal.returns-in_err-read
returns-in_err-read c =
    let u = c.args.unit in
    let s = c.args.self.now in
    let p = err_from_is_err_and c.from_residual-in_err-read.result c.from_residual-in_err-read.ensures.1 in
    record {
      answer = λ R h before held b fresh.
          rw (p.1, p.2) (join_refused R s before c.args.begun.now b u.bytes.now u.header.nal_type u.header.temporal_id c.in-Ok.kind _ held fresh
          (ap (λ x. x.nal_type) u.heads) (ap (λ x. x.temporal_id) u.heads) c.in-Ok.ensures.value
          (c.in_err-read.ensures.answer R h (opened before b c.in-Ok.kind)
          (fresh_at _ s.picture before b c.in-Ok.kind s.aps fresh held.aps c.in_ok-bodies.ensures refl c.len.ensures c.len-2.ensures)));
      joined = rw p.1 tt;
      kind = rw p.1 tt;
      bodies = rw p.1 tt;
      size = rw p.1 tt;
    }

pub returns : goal.returns
returns c =
    let u = c.args.unit in
    let s = c.args.self.now in
    let heads = c.in-Ok.ensures.heads in
    let low = c.header_is_low.ensures in
    record {
      answer = λ R h before held b fresh.
          first_reads R s before c.args.begun.now b u.bytes.now u.header.nal_type u.header.temporal_id c.in-Ok.kind (slice_read_as u.bytes.now c.in_ok-read.read)
          held fresh (ap (λ x. x.nal_type) u.heads) (ap (λ x. x.temporal_id) u.heads) c.in-Ok.ensures.value
          (c.in_ok-read.ensures.answer R h (opened before b c.in-Ok.kind)
          (fresh_at _ s.picture before b c.in-Ok.kind s.aps fresh held.aps c.in_ok-bodies.ensures refl c.len.ensures c.len-2.ensures));
      joined = c.in_ok-read.ensures.joined;
      kind = (rw heads.0 low.0, rw heads.1 low.1);
      bodies = c.in_ok-bodies.ensures;
      size = rw c.len-2.ensures at c.in_ok-read.ensures.size;
    }
