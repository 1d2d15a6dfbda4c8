use Rattle.std.proofs.Common.{◌≡◌, ◌∙◌, decimal, sym, arith}
use Rattle.std.proofs.lemmas.Fmt.{decimal_injective}
use Rattle.vx_run.proofs.words.counted.Goals as goal

pub returns-then-n-eq0 : goal.returns-then-n-eq0
returns-then-n-eq0 c n some most is =
    let zero_ : c.args.word.now ≡ decimal c.in_ok-n.n = c.in_ok-n.ensures.0 in
    let same = decimal_injective c.in_ok-n.n n (omega (arith, c.in_ok-n.ensures)) (omega (arith, most, c.ranges.most.fits)) (sym zero_ ∙ is) in
    omega (arith, same, c.if-n-eq0.true, some)
