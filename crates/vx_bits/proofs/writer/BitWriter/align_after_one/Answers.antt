use Rattle.std.proofs.Common.{◌≡◌, ◌++◌, ◌+◌, ◌-◌, ◌∙◌, ap, length, arith}
use Rattle.std.proofs.lemmas.Result.{on_ok_weaker}
use Rattle.vx_bits.specs.Codes.{to_boundary}
use Rattle.vx_bits.proofs.Appending.{stop_word, stop_put, stop_of}
use Rattle.vx_bits.proofs.writer.BitWriter.align_after_one.Goals as goal

pub put-requires-clause-range : goal.put-requires-clause-range
put-requires-clause-range c =
    let word = stop_word (7 - c.self.inside.used) (omega arith) in
    omega (arith, word.0, word.1)

pub returns-clause-ok : goal.returns-clause-ok
returns-clause-ok c =
    let boundary : 7 - c.self.inside.used ≡ to_boundary (length c.args.self.now + 1)
    = rw (← c.self.view_is) (stop_of c.self.inside.bytes.items c.self.inside.used c.self.inside.begun c.self.invariant.0) in
    on_ok_weaker c.put.result (λ e. e ∙ ap (λ ys. c.args.self.now ++ ys) (stop_put _ c.args.self.now (omega arith) boundary)) c.put.ensures.ok
