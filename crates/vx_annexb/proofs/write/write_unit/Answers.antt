use Rattle.std.proofs.Common.{◌++◌}
use Rattle.std.proofs.lemmas.Result.{err_from_is_err_and, on_err_weaker}
use Rattle.vx_io.proofs.WrittenLemmas.{AppendsFront-append, AppendsFront-after}
use Rattle.vx_annexb.specs.ByteStream.{long_start_code}
use Rattle.vx_annexb.proofs.write.write_unit.Goals as goal

pub returns-in_err-write_all-clause-err : goal.returns-in_err-write_all-clause-err
returns-in_err-write_all-clause-err g c =
    let p = err_from_is_err_and c.from_residual.result c.from_residual.ensures.1 in
    rw p.1 (AppendsFront-append _ _ long_start_code (c.args.front.now ++ c.args.rest.now) c.in_err-write_all.ensures.err)

pub returns-in_err-write_all-2-clause-err : goal.returns-in_err-write_all-2-clause-err
returns-in_err-write_all-2-clause-err g c =
    let p = err_from_is_err_and c.from_residual-in_err-write_all-2.result c.from_residual-in_err-write_all-2.ensures.1 in
    rw p.1 (AppendsFront-after _ _ _ long_start_code (c.args.front.now ++ c.args.rest.now) c.in_ok-write_all.ensures.ok
    (AppendsFront-append _ _ c.args.front.now c.args.rest.now c.in_err-write_all-2.ensures.err))

pub returns-clause-err : goal.returns-clause-err
returns-clause-err g c = on_err_weaker c.write_all-3.result
    (λ rest. AppendsFront-after _ _ _ long_start_code (c.args.front.now ++ c.args.rest.now) c.in_ok-write_all.ensures.ok
    (AppendsFront-after _ _ _ c.args.front.now c.args.rest.now c.in_ok-write_all-2.ensures.ok rest))
    c.write_all-3.ensures.err
