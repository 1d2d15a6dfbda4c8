use Rattle.std.proofs.Common.{◌+◌, ◌++◌, ◌∙◌, ap, arith}
use Rattle.std.proofs.lemmas.Result.{on_ok_weaker}
use Rattle.vx_bits.proofs.Appending.{code_size, code_is}
use Rattle.vx_bits.proofs.writer.BitWriter.ue.Goals as goal

pub put-requires-clause-range : goal.put-requires-clause-range
put-requires-clause-range c =
    rw c.from.ensures (code_size (c.args.value + 1) (omega arith) c.requires).1

pub returns-clause-ok : goal.returns-clause-ok
returns-clause-ok c =
    let size = code_size (c.args.value + 1) (omega arith) c.requires in
    on_ok_weaker c.put.result (λ e. e ∙ ap (λ ys. c.args.self.now ++ ys) (rw c.from.ensures (code_is _ c.args.value size.2 size.0 size.1))) c.put.ensures.ok
