use Rattle.std.proofs.Common.{sym, ◌∙◌}
use Rattle.vx_frame.specs.inner.Borders.{crosses, has_several}
use Rattle.vx_frame.proofs.Seeking.{lacks_lowest, none_lowest, tells_flags}
use Rattle.vx_frame.proofs.borders.crosses_otherwise.Goals as goal

pub returns-in_default : goal.returns-in_default
returns-in_default c = record {
  unlike = tt;
  alike = none_lowest (has_several c.args.pieces) (crosses c.args.pieces) c.args.round.now c.args.k (rw c.in_default.is at c.requires.lowest);
}

pub returns-then-not-has_pieces : goal.returns-then-not-has_pieces
returns-then-not-has_pieces c = record {
  unlike = tt;
  alike = lacks_lowest (has_several c.args.pieces) (crosses c.args.pieces) c.args.round.now c.args.k (sym c.has_pieces.ensures ∙ c.if-not-has_pieces.true);
}

pub returns : goal.returns
returns c =
    let p = tells_flags (has_several c.args.pieces) (crosses c.args.pieces) c.args.round.now c.args.k c.in-Some.j c.index-round-k.result c.index-round-from.result c.crosses.result c.crosses-2.result
    (rw c.in-Some.is at c.requires.lowest) (sym c.has_pieces.ensures ∙ c.if-not-has_pieces.false) c.requires.k c.index-round-k.is (rw c.from.ensures at c.index-round-from.is)
    c.crosses.ensures c.crosses-2.ensures in
    record { unlike = p.has; alike = p.none }
