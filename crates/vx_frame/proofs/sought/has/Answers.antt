use Rattle.std.proofs.Common.{◌<◌, arith}
use Rattle.vx_sps.specs.Subpictures.{subpics_of}
use Rattle.vx_frame.specs.Bodies.{has_lmcs, has_scaling}
use Rattle.vx_frame.specs.Collocated.{collocated}
use Rattle.vx_frame.specs.Rules.{first_lists, shared_kind}
use Rattle.vx_frame.proofs.Seeking.{tells_bool, tells_bool_read, tells_read, tells_some, tells_unlike}
use Rattle.vx_frame.proofs.sought.has.Goals as goal

pub returns-in-Subpictures : goal.returns-in-Subpictures
returns-in-Subpictures c =
    let p = tells_read (λ q. 1 < subpics_of q.sps) c.args.round.now c.args.k c.index-round-k.result c.has_several.result c.requires.k c.index-round-k.is c.has_several.ensures.several c.has_several.ensures.alone in
    rw c.in-Subpictures.is (record { has = p.has; none = p.none })

pub returns-in-OtherKind : goal.returns-in-OtherKind
returns-in-OtherKind c =
    let p = tells_unlike shared_kind c.args.round.now c.args.k c.index-round-k.result c.index-round-0.result c.same_kind.result c.requires.k (omega (arith, c.requires.k))
    c.index-round-k.is c.index-round-0.is c.same_kind.ensures.same c.same_kind.ensures.other in
    rw c.in-OtherKind.is (record { has = p.has; none = p.none })

pub returns-in-OtherLists : goal.returns-in-OtherLists
returns-in-OtherLists c =
    let p = tells_unlike first_lists c.args.round.now c.args.k c.index-round-k.result c.index-round-0-in-OtherLists.result c.same_first_lists.result c.requires.k
    (omega (arith, c.requires.k)) c.index-round-k.is c.index-round-0-in-OtherLists.is c.same_first_lists.ensures.same c.same_first_lists.ensures.other in
    rw c.in-OtherLists.is (record { has = p.has; none = p.none })

pub returns-in-Lmcs : goal.returns-in-Lmcs
returns-in-Lmcs c =
    let p = tells_bool_read has_lmcs c.args.round.now c.args.k c.index-round-k.result c.has_lmcs.result c.requires.k c.index-round-k.is c.has_lmcs.ensures in
    rw c.in-Lmcs.is (record { has = p.has; none = p.none })

pub returns-in-Scaling : goal.returns-in-Scaling
returns-in-Scaling c =
    let p = tells_bool_read has_scaling c.args.round.now c.args.k c.index-round-k.result c.has_scaling.result c.requires.k c.index-round-k.is c.has_scaling.ensures in
    rw c.in-Scaling.is (record { has = p.has; none = p.none })

pub returns-in-Several : goal.returns-in-Several
returns-in-Several c =
    let p = tells_bool c.has_pieces.result _ c.has_pieces.ensures in
    rw c.in-Several.is (record { has = p.has; none = p.none })

pub returns-in-OtherCollocated : goal.returns-in-OtherCollocated
returns-in-OtherCollocated c =
    let p = tells_some collocated c.args.round.now c.args.k c.index-round-k.result c.in-OtherCollocated.first c.names_other.result c.requires.k
    c.index-round-k.is (rw c.in-OtherCollocated.is at c.requires.known) c.names_other.ensures.unlike c.names_other.ensures.alike in
    rw c.in-OtherCollocated.is (record { has = p.has; none = p.none })
