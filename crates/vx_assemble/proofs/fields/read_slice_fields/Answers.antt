use Rattle.std.proofs.lemmas.Result.{err_from_is_err_and}
use Rattle.vx_assemble.specs.inner.Held.{begun_of}
use Rattle.vx_assemble.proofs.Shown.{under_begun}
use Rattle.vx_assemble.proofs.fields.read_slice_fields.Goals as goal

pub returns-in_err-read_sh_fields : goal.returns-in_err-read_sh_fields
returns-in_err-read_sh_fields c head =
    let n = c.numbers_under-numbers in
    let p = err_from_is_err_and c.from_residual.result c.from_residual.ensures.1 in
    let read = rw c.in_err-read_sh_fields.was at c.read_sh_fields.ensures in
    rw (p.1, p.2) (under_begun n.result (begun_of c.args.begun.now head) c.args.nal_type c.args.unit.rbsp.now c.args.unit.bytes.now _ _ _ (n.ensures.under head) n.ensures.nal_type c.args.unit.spells read)

pub returns : goal.returns
returns c head =
    let n = c.numbers_under-numbers in
    let read = rw c.in_ok-read_sh_fields.was at c.read_sh_fields.ensures in
    under_begun n.result (begun_of c.args.begun.now head) c.args.nal_type c.args.unit.rbsp.now c.args.unit.bytes.now _ _ _ (n.ensures.under head) n.ensures.nal_type c.args.unit.spells read
