use Rattle.vx_frame.specs.Bodies.{has_lmcs, is_chroma_scaled}
use Rattle.vx_frame.proofs.Seeking.{has_read, lacks_lowest, none_lowest, tells_flags}
use Rattle.vx_frame.proofs.headers.scales_otherwise.Goals as goal

pub returns-in_default : goal.returns-in_default
returns-in_default c = record { unlike = tt; alike = none_lowest has_lmcs is_chroma_scaled c.args.round.now c.args.k (rw c.in_default.is at c.requires.lowest) }

pub returns-then-not-has_lmcs : goal.returns-then-not-has_lmcs
returns-then-not-has_lmcs c = record {
  unlike = tt;
  alike = lacks_lowest has_lmcs is_chroma_scaled c.args.round.now c.args.k (has_read has_lmcs c.args.round.now c.args.k c.index-round-k.result _ _ c.requires.k c.index-round-k.is c.has_lmcs.ensures c.if-not-has_lmcs.true);
}

pub returns : goal.returns
returns c =
    let p = tells_flags has_lmcs is_chroma_scaled c.args.round.now c.args.k c.in-Some.j c.index-round-k.result c.index-round-from.result c.is_chroma_scaled.result c.is_chroma_scaled-2.result
    (rw c.in-Some.is at c.requires.lowest) (has_read has_lmcs c.args.round.now c.args.k c.index-round-k.result _ _ c.requires.k c.index-round-k.is c.has_lmcs.ensures c.if-not-has_lmcs.false)
    c.requires.k c.index-round-k.is (rw c.from.ensures at c.index-round-from.is) c.is_chroma_scaled.ensures c.is_chroma_scaled-2.ensures in
    record { unlike = p.has; alike = p.none }
