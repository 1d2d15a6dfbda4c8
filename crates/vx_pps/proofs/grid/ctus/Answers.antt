use Rattle.std.proofs.Common.{arith, ◌+◌, ◌*◌, ◌%◌, ◌^◌, ◌≤◌, ◌≡◌, ◌∙◌, ap, min}
use Rattle.std.proofs.lemmas.Nat.{pow-add}
use Rattle.std.proofs.Math.Pow.{pow_mono}
use Rattle.std.specs.Int.{div_ceil}
use Rattle.vx_pps.proofs.grid.ctus.Goals as goal

pub returns-clause-count : goal.returns-clause-count
returns-clause-count c =
    let size : 2 ^ (c.args.log2 + 5) ≡ 2 ^ c.args.log2 * 32 = pow-add 2 c.args.log2 5 in
    let two : c.args.log2 ≤ 2 = omega (arith, c.requires) in
    let low : 2 ^ c.args.log2 ≤ 2 ^ 2 = pow_mono two in
    let same : (32 * 2 ^ c.args.log2) % 4294967296 ≡ 2 ^ (c.args.log2 + 5) = omega (arith, size, low) in
    c.min.ensures ∙ ap (λ n. min n 512) (c.div_ceil.ensures ∙ ap (λ d. div_ceil c.args.samples d) same)
