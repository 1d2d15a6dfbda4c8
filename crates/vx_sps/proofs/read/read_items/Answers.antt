use Rattle.std.proofs.lemmas.Result.{err_from_is_err_and}
use Rattle.vx_table.proofs.Readings.{reads_error}
use Rattle.vx_sps.proofs.read.read_items.Goals as goal

pub returns-in_err-read_sps_fields : goal.returns-in_err-read_sps_fields
returns-in_err-read_sps_fields c =
    let p = err_from_is_err_and c.from_residual.result c.from_residual.ensures.1 in
    let read = rw (c.in_err-read_sps_fields.was, c.new-items.ensures) at c.read_sps_fields.ensures in
    rw (p.1, p.2) (read.0, c.read_sps_fields.new.into, reads_error _ read.1)

pub returns : goal.returns
returns c =
    let read = rw (c.in_ok-read_sps_fields.was, c.new-items.ensures) at c.read_sps_fields.ensures in
    (read.0, record { is = read.1.is; only = read.1.only; refusal = read.1.refusal })
