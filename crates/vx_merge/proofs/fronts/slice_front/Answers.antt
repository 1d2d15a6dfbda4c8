use Rattle.std.proofs.Common.{◌≡◌, ◌<◌, ℕ, Vec, Global, length, Some, slice_get, refl, ap, sym, subst, ◌∙◌}
use Rattle.std.specs.Prelude.{IfOk, IfSome}
use Rattle.std.proofs.lemmas.List.{length-map}
use Rattle.std.proofs.lemmas.Result.{IfOk-weaker}
use Rattle.vx_bits.specs.Codes.{EndsInNoZero}
use Rattle.vx_write.specs.Units.{IsUnitOf}
use Rattle.vx_pic.specs.Parts.{Parts, part_of}
use Rattle.vx_frame.specs.Rounds.{picture_at}
use Rattle.vx_frame.proofs.Reading.{picture_read}
use Rattle.vx_merge.specs.Headers.{IsFront}
use Rattle.vx_merge.specs.inner.Fronts.{HasShape}
use Rattle.vx_merge.specs.inner.Ready.{ids_in}
use Rattle.vx_merge.proofs.SliceFronts.{goes_at, is_front, is_shape, some_round}
use Rattle.vx_merge.proofs.fronts.slice_front.Goals as goal

pub bounds-round-0 : goal.bounds-round-0
bounds-round-0 c = some_round c.args.round.now c.args.needed.now c.args.sender.now c.requires.sender

pub bounds-round-k : goal.bounds-round-k
bounds-round-k c = c.requires.k

pub slice-slice-requires : goal.slice-slice-requires
slice-slice-requires c =
    let q_is = picture_read c.args.round.now c.args.k c.index-round-k.result c.requires.k c.index-round-k.is in
    subst (λ (q : Parts). c.args.i < length q.slices) (sym q_is) c.requires.i

pub filter_in-requires : goal.filter_in-requires
filter_in-requires c =
    let needed = c.requires.sender.ready.1.1.needed in
    needed.taken.of_alf.one_each ∙ (sym (ap length needed.alf) ∙ length-map c.args.needed.now.alf.bodies (λ b. b.now))

pub slice_shape-shape-requires : goal.slice_shape-shape-requires
slice_shape-shape-requires c = c.slice-slice.ensures.qp

pub plain_unit-requires-clause-nal_type : goal.plain_unit-requires-clause-nal_type
plain_unit-requires-clause-nal_type c = c.kind-kind.ensures.nal_type

pub plain_unit-requires-clause-temporal_id : goal.plain_unit-requires-clause-temporal_id
plain_unit-requires-clause-temporal_id c = c.kind-kind.ensures.tid

pub send-requires-clause-shape : goal.send-requires-clause-shape
send-requires-clause-shape c =
    let round = c.args.round.now in
    let n = c.args.needed.now in
    let m = c.args.sender.now in
    let q : Parts = c.index-round-k.result in
    let h = c.slice-slice.result.header.now in
    let shape = c.slice_shape-shape.result in
    let q_is = picture_read round c.args.k c.index-round-k.result c.requires.k c.index-round-k.is in
    let first_is = picture_read round 0 c.index-round-0-2.result (some_round round n m c.requires.sender) c.index-round-0-2.is in
    let has = subst (λ f. HasShape (picture_at round 0) q c.args.k h f shape) c.in_ok-filter.ensures
    (subst (λ (p : Parts). HasShape p q c.args.k h c.in_ok-filter.filter shape) first_is c.slice_shape-shape.ensures) in
    is_shape round n m c.requires.sender c.slice_has_filter.ensures c.args.k c.requires.k q q_is h c.header-header.ensures.read
    c.slice-slice.ensures.subpic c.slice-slice.ensures.read shape has

pub send-requires-clause-source : goal.send-requires-clause-source
send-requires-clause-source c =
    let round = c.args.round.now in
    let n = c.args.needed.now in
    let m = c.args.sender.now in
    let q : Parts = c.index-round-k.result in
    let q_is = picture_read round c.args.k c.index-round-k.result c.requires.k c.index-round-k.is in
    goes_at round n m c.requires.sender c.slice_has_filter.ensures c.args.k c.requires.k q q_is c.slice-slice.result.header.now
    c.header-header.ensures.read c.slice-slice.ensures.subpic c.slice-slice.ensures.read
    c.slice_shape-shape.result.subpic_id c.slice_shape-shape.ensures.subpic

pub plain_unit-requires-clause-ends : goal.plain_unit-requires-clause-ends
plain_unit-requires-clause-ends c = subst EndsInNoZero (sym c.deref.ensures.value) c.in_ok-bytes.ensures.spelled.last

pub returns : goal.returns
returns c = λ b begun.
    let round = c.args.round.now in
    let n = c.args.needed.now in
    let m = c.args.sender.now in
    let q : Parts = c.index-round-k.result in
    let h = c.slice-slice.result.header.now in
    let shape = c.slice_shape-shape.result in
    let q_is = picture_read round c.args.k c.index-round-k.result c.requires.k c.index-round-k.is in
    let some = some_round round n m c.requires.sender in
    let first_is = picture_read round 0 c.index-round-0-2.result some c.index-round-0-2.is in
    let has = subst (λ f. HasShape (picture_at round 0) q c.args.k h f shape) c.in_ok-filter.ensures
    (subst (λ (p : Parts). HasShape p q c.args.k h c.in_ok-filter.filter shape) first_is c.slice_shape-shape.ensures) in
    let kind_is = c.kind-kind.ensures.value ∙ ap (λ (p : Parts). p.kind)
    (picture_read round 0 c.index-round-0.result some c.index-round-0.is) in
    let at : slice_get (picture_at round c.args.k).slices c.args.i ≡ Some (part_of c.slice-slice.result) = ap
    (λ (p : Parts). slice_get p.slices c.args.i) (sym q_is) ∙ c.slice-slice.ensures.slice in
    let unit_is = λ (u : Vec ℕ Global). IsUnitOf c.kind-kind.result.nal_type c.kind-kind.result.temporal_id c.deref.result.now u.items in
    let front_is = λ (u : Vec ℕ Global). IsFront round (ids_in n) (picture_at round 0).kind.nal_type b c.args.k (part_of c.slice-slice.result) u.items in
    subst (λ o. IfOk c.plain_unit.result (λ u. IfSome o (λ s. IsFront round (ids_in n) (picture_at round 0).kind.nal_type b c.args.k s u.items))) (sym at)
    (IfOk-weaker c.plain_unit.result unit_is front_is
    (λ u is.
    let made = subst (λ xs. IsUnitOf c.kind-kind.result.nal_type c.kind-kind.result.temporal_id xs u.items) c.deref.ensures.value is in
    is_front round n m c.requires.sender c.slice_has_filter.ensures c.args.k c.requires.k q q_is h c.header-header.ensures.read
    c.slice-slice.ensures.subpic c.slice-slice.ensures.read shape has
    (part_of c.slice-slice.result) refl c.in_ok-bytes.bytes.items c.in_ok-bytes.ensures u.items c.kind-kind.result
    kind_is made b begun)
    c.plain_unit.ensures)
