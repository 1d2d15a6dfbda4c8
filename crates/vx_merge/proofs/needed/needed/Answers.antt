use Rattle.std.proofs.Common.{◌≡◌, Bor, ℕ, List, length, ap, sym, subst, ◌∙◌, arith}
use Rattle.std.specs.List.{AllByRecursion}
use Rattle.std.proofs.lemmas.List.{length-map}
use Rattle.vx_write.proofs.Spelled.{pps_items, sps_items}
use Rattle.vx_frame.specs.Rounds.{picture_at}
use Rattle.vx_frame.specs.Shapes.{frame_pps_shape, frame_sps_shape}
use Rattle.vx_frame.proofs.Passing.{filters_are, filters_few, not_too_many}
use Rattle.vx_frame.proofs.Reading.{picture_read}
use Rattle.vx_frame.proofs.SameSets.{some_used}
use Rattle.vx_merge.specs.Needed.{Ids, TakeIds}
use Rattle.vx_merge.specs.inner.Sending.{CanEnd}
use Rattle.vx_merge.proofs.needed.needed.Goals as goal

pub bounds-round-0 : goal.bounds-round-0
bounds-round-0 c = some_used c.args.round.now c.args.frame.now c.requires.frame

pub bodies_end-requires-clause-few : goal.bodies_end-requires-clause-few
bodies_end-requires-clause-few c =
    let used = c.requires.frame.1.1 in
    not_too_many c.requires.frame.0 c.args.round.now used.count used.passes c.args.bodies.filters c.requires.bodies.filters

pub named-requires : goal.named-requires
named-requires c =
    let used = c.requires.frame.1.1 in
    let filters = c.args.bodies.filters in
    let few = filters_few c.requires.frame.0 c.args.round.now used.count used.passes used.is.geometry.some in
    let are = filters_are c.requires.frame.0 c.args.round.now used.count used.passes filters c.requires.bodies.filters in
    let size = length-map filters.bodies (λ (b : Bor (List ℕ)). b.now) in
    let same = ap length are in
    omega (arith, size, same, few, ap (λ s. s.count) c.of_alf.ensures)

pub returns-clause-needed : goal.returns-clause-needed
returns-clause-needed c = λ corners level sent used last.
    let round = c.args.round.now in
    let plain = c.args.frame.now.plain in
    let of_alf = filters_are c.requires.frame.0 round c.requires.frame.1.1.count c.requires.frame.1.1.passes c.args.bodies.filters c.requires.bodies.filters in
    let alf = rw (of_alf, c.of_alf.ensures) at c.in_ok-alf.ensures in
    let ids : Ids = record { pps = c.args.pps_id; alf = c.in_ok-alf.alf.ids.items; lmcs = c.in_ok-lmcs.lmcs.ids.items; scaling = c.in_ok-scaling.scaling.ids.items } in
    let own : c.kind-temporal_id.result.temporal_id ≡ (picture_at round 0).kind.temporal_id =
    ap (λ k. k.temporal_id) (c.kind-temporal_id.ensures.value ∙ ap (λ q. q.kind) (picture_read round 0 c.index-round-0.result used.is.geometry.some c.index-round-0.is)) in
    let taken : TakeIds round (picture_at round 0).kind.temporal_id sent plain ids = record {
      of_pps = c.requires.taken sent last;
      of_alf = rw own at (alf.taken sent last);
      of_lmcs = rw own at (c.in_ok-lmcs.ensures.taken sent last);
      of_scaling = rw own at (c.in_ok-scaling.ensures.taken sent last);
    } in
    record {
      sps = used.is.sps;
      plain = plain;
      plain_is = used.is.plain;
      pps = rw c.pps_under-pps.ensures (c.requires.pps corners level used);
      pps_id = c.requires.low;
      alf = alf.are;
      lmcs = c.in_ok-lmcs.ensures.are;
      scales = c.scales_chroma-scales_chroma.ensures;
      scaling = c.in_ok-scaling.ensures.are;
      taken = taken;
    }

pub returns-clause-can : goal.returns-clause-can
returns-clause-can c =
    let round = c.args.round.now in
    let corners = c.requires.frame.0 in
    let level = c.requires.frame.1.0 in
    let used = c.requires.frame.1.1 in
    let frame = c.args.frame.now in
    let first = picture_at round 0 in
    let ends = λ (bodies : List (List ℕ)). AllByRecursion CanEnd bodies in
    let of_alf = filters_are corners round used.count used.passes c.args.bodies.filters c.requires.bodies.filters in
    let alf = rw (of_alf, c.of_alf.ensures) at c.in_ok-alf.ensures in
    record {
      sps = sps_items first.sps (frame_sps_shape corners round level) frame.sps used.is.sps;
      pps = pps_items first.pps (frame_pps_shape corners round frame.geometry.numbers c.args.pps_id) c.pps_under-pps.result.now (rw c.pps_under-pps.ensures (c.requires.pps corners level used));
      alf = record { one_each = alf.one_each; ends = subst ends (sym alf.are) c.bodies_end.ensures.alf };
      lmcs = record { one_each = c.in_ok-lmcs.ensures.one_each; ends = subst ends (sym c.in_ok-lmcs.ensures.are) c.bodies_end.ensures.lmcs };
      scaling = record { one_each = c.in_ok-scaling.ensures.one_each; ends = subst ends (sym c.in_ok-scaling.ensures.are) c.bodies_end.ensures.scaling };
    }
