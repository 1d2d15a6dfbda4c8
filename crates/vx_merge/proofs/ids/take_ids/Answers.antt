use Rattle.std.proofs.Common.{[], ◌∷◌, length-append, map, arith}
use Rattle.std.proofs.lemmas.List.{length-map}
use Rattle.vx_merge.proofs.Assigning.{held_count, ids_more, take_slots}
use Rattle.vx_merge.proofs.ids.take_ids.Goals as goal

pub next_id-id-requires-clause-few : goal.next_id-id-requires-clause-few
next_id-id-requires-clause-few c =
    let count = held_count c.args.slots.now c.args.search.temporal_id c.args.search.kind c.args.search.count (map (λ b. b.now) c.args.bodies.now) c.in_ok-held.held.items c.in_ok-held.ensures in
    let bodies = length-map c.args.bodies.now (λ b. b.now) in
    rw c.deref.ensures.value (omega (arith, c.requires, count, bodies))

pub loop-k-preserved : goal.loop-k-preserved
loop-k-preserved c =
    let next = rw (c.deref.ensures.value, c.deref-in-loop-k.ensures.value) at c.next_id-id.ensures in
    let more = ids_more c.args.slots.now c.args.search.kind c.args.search.count c.in_ok-held.held.items c.loop-k.ids.items c.next_id-id.result c.loop-k.invariant.0 next in
    let size = length-append c.loop-k.ids.items (c.next_id-id.result ∷ []) in
    rw c.in_ok-push.ensures.items (more, omega (arith, size, c.loop-k.invariant.1))

pub returns-clause-number : goal.returns-clause-number
returns-clause-number c =
    let count = held_count c.args.slots.now c.args.search.temporal_id c.args.search.kind c.args.search.count (map (λ b. b.now) c.args.bodies.now) c.in_ok-held.held.items c.in_ok-held.ensures in
    let bodies = length-map c.args.bodies.now (λ b. b.now) in
    omega (arith, c.loop-k.invariant.1, c.len-k-end.ensures, count, bodies)

pub returns-clause-taken : goal.returns-clause-taken
returns-clause-taken c = λ sent last.
    take_slots c.args.slots.now c.args.search.temporal_id c.args.search.kind c.args.search.count (map (λ b. b.now) c.args.bodies.now) c.in_ok-held.held.items c.loop-k.ids.items
    sent last c.in_ok-held.ensures c.loop-k.invariant.0 (omega (arith, c.loop-k.invariant.1, c.len-k-end.ensures))
