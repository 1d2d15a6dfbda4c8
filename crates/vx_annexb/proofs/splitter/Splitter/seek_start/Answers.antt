use Rattle.std.proofs.Common.{arith, ◌≡◌, ◌<◌, None, length, rules}
use Rattle.vx_annexb.proofs.Options.{none_is}
use Rattle.vx_annexb.proofs.Steps.{Stands-zeros, Stands-stray, Stands-code}
use Rattle.vx_annexb.proofs.splitter.Splitter.seek_start.Goals as goal
use Rattle.vx_annexb.proofs.splitter.Splitter.seek_start.Goals.{then-kept-place-ne1-via-then-kept-place-ne1, then-kept-place-ne1-via-else-kept-place-ne1+then-self-lt2}

pub returns-then-place-kept-clause-answer : goal.returns-then-place-kept-clause-answer
returns-then-place-kept-clause-answer c g units s =
    let unbegun : c.self.inside.start ≡ None = none_is _ (search rules) in
    let place : c.skip_zeros-place.result ≡ length c.self.inside.kept.items = rw c.as_slice-kept.ensures at c.if-place-kept.true in
    Stands-zeros _ g units c.self.invariant unbegun (rw (← c.self.view_is) at c.requires) c.skip_zeros-place.result
    (rw c.as_slice-kept.ensures at c.skip_zeros-place.ensures.zeros)
    (rw (← c.self.view_is) at s) place

pub returns-then-kept-place-ne1-clause-answer : goal.returns-then-kept-place-ne1-clause-answer
returns-then-kept-place-ne1-clause-answer c g units s =
    let unbegun : c.self.inside.start ≡ None = none_is _ (search rules) in
    let zeros = rw c.as_slice-kept.ensures at c.skip_zeros-place.ensures.zeros in
    let within : c.skip_zeros-place.result < length c.self.inside.kept.items = omega (arith, zeros.within, rw c.as_slice-kept.ensures at c.if-place-kept.false) in
    Stands-stray _ g units c.self.invariant unbegun (rw (← c.self.view_is) at c.requires) c.skip_zeros-place.result zeros
    (rw (← c.self.view_is) at s) within
    ((rw c.as_slice-kept.ensures at c.skip_zeros-place.ensures.stops) within)
    (λ one. elim c.then-kept-place-ne1.branch [ then-kept-place-ne1-via-then-kept-place-ne1 w ↦ absurd ((rw c.as_slice-kept.ensures at w.if-kept-place-ne1.true) one) | then-kept-place-ne1-via-else-kept-place-ne1+then-self-lt2 w ↦ omega (arith, w.if-self-lt2.true) ])

pub returns-clause-answer : goal.returns-clause-answer
returns-clause-answer c g units s =
    let unbegun : c.self.inside.start ≡ None = none_is _ (search rules) in
    let zeros = rw c.as_slice-kept.ensures at c.skip_zeros-place.ensures.zeros in
    let within : c.skip_zeros-place.result < length c.self.inside.kept.items = omega (arith, zeros.within, rw c.as_slice-kept.ensures at c.if-place-kept.false) in
    Stands-code _ g units c.self.invariant unbegun (rw (← c.self.view_is) at c.requires) c.skip_zeros-place.result zeros
    (rw (← c.self.view_is) at s) within
    (rw c.as_slice-kept.ensures at c.if-kept-place-ne1.false)
    (omega (arith, c.if-self-lt2.false))
