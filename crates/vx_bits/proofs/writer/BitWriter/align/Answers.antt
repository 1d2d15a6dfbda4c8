use Rattle.std.proofs.Common.{◌≡◌, ◌++◌, ◌-◌, ◌%◌, ◌∙◌, ap, length}
use Rattle.std.proofs.lemmas.Result.{on_ok_weaker}
use Rattle.vx_bits.specs.Codes.{to_boundary}
use Rattle.vx_bits.proofs.Appending.{align_is, boundary_of}
use Rattle.vx_bits.proofs.writer.BitWriter.align.Goals as goal

pub returns-clause-ok : goal.returns-clause-ok
returns-clause-ok c =
    let boundary : (8 - c.self.inside.used) % 8 ≡ to_boundary (length c.args.self.now)
    = rw (← c.self.view_is) (boundary_of c.self.inside.bytes.items c.self.inside.used c.self.inside.begun c.self.invariant.0) in
    on_ok_weaker c.put.result (λ e. e ∙ ap (λ ys. c.args.self.now ++ ys) (align_is _ c.args.self.now boundary)) c.put.ensures.ok
