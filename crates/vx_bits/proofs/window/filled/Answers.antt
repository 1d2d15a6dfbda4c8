use Rattle.std.proofs.Common.{◌≡◌, ◌≤◌, ◌+◌, ◌-◌, ℕ, List, length, take, drop, ◌∙◌, ap, arith}
use Rattle.std.proofs.lemmas.List.{take_all, length-drop}
use Rattle.vx_bits.proofs.EightBytes.{eight_here}
use Rattle.vx_bits.proofs.window.filled.Goals as goal

pub with_some_of-requires-clause-eight : goal.with_some_of-requires-clause-eight
with_some_of-requires-clause-eight c =
    let rest : List ℕ = drop c.args.window.next c.args.bytes.now in
    let left : take (length c.args.bytes.now - c.args.window.next) rest ≡ rest
    = take_all (length c.args.bytes.now - c.args.window.next) rest (omega (arith, length-drop c.args.window.next c.args.bytes.now)) in
    let within : c.args.window.next + 8 ≤ length c.args.bytes.now
    = omega (arith, c.in-Some.ensures.cases.enough, length-drop c.args.window.next c.args.bytes.now, ap length left) in
    let front = c.in-Some.ensures.cases.same ∙ ap (take 8) left in
    c.from_be_bytes.ensures ∙ eight_here c.args.bytes.now c.in-Some.eight.now c.args.window.next within front (λ i. omega (arith, c.type_inv.bytes i))
