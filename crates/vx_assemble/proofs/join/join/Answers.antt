use Rattle.std.proofs.Common.{◌≡◌, subst, Ok}
use Rattle.std.proofs.lemmas.Result.{err_from_is_err_and}
use Rattle.vx_assemble.specs.inner.Takes.{header_read_as}
use Rattle.vx_assemble.specs.inner.Joining.{same_picture}
use Rattle.vx_assemble.proofs.Joins.{slice_refused, check_refused, joined}
use Rattle.vx_assemble.proofs.join.join.Goals as goal

pub returns-in-Err-clause-joined : goal.returns-in-Err-clause-joined
returns-in-Err-clause-joined c = tt

pub returns-in-Err-clause-size : goal.returns-in-Err-clause-size
returns-in-Err-clause-size c = tt

pub returns-in_err-read : goal.returns-in_err-read
returns-in_err-read c =
    let place = c.args.place in
    let is = err_from_is_err_and c.from_residual.result c.from_residual.ensures.1 in
    record {
      answer = λ R h p at_.
          rw (is.1, is.2) (slice_refused R place p c.args.unit.bytes.now _ at_
          (subst (λ x. Ok tt ≡ same_picture place.begun.now.temporal_id place.kind.nal_type x.nal_type x.temporal_id) c.args.unit.heads c.in_default.ensures)
          (c.in_err-read.ensures.answer R h p.begun.unit));
      joined = rw is.1 tt;
      size = rw is.1 tt;
    }

pub returns-in-Err-check_slice : goal.returns-in-Err-check_slice
returns-in-Err-check_slice c =
    let place = c.args.place in
    record {
      answer = λ R h p at_.
          check_refused R place p c.args.unit.bytes.now (header_read_as c.in_ok-read.read) c.in-Err-check_slice.refusal at_
          (subst (λ x. Ok tt ≡ same_picture place.begun.now.temporal_id place.kind.nal_type x.nal_type x.temporal_id) c.args.unit.heads c.in_default.ensures)
          (c.in_ok-read.ensures.answer R h p.begun.unit) c.in_ok-read.ensures.made.small c.in-Err-check_slice.ensures.answer;
      joined = tt;
      size = tt;
    }

pub returns : goal.returns
returns c =
    let place = c.args.place in
    record {
      answer = λ R h p at_.
          joined R place p c.args.unit.bytes.now (header_read_as c.in_ok-read.read) at_
          (subst (λ x. Ok tt ≡ same_picture place.begun.now.temporal_id place.kind.nal_type x.nal_type x.temporal_id) c.args.unit.heads c.in_default.ensures)
          (c.in_ok-read.ensures.answer R h p.begun.unit) c.in_ok-read.ensures.made.small c.in_default-check_slice.ensures.answer;
      joined = c.in_default-check_slice.ensures.joined;
      size = c.in_default-check_slice.ensures.size;
    }
