use Rattle.std.proofs.Common.{◌≡◌, ◌+◌, ◌++◌, map, ap, sym, subst, ◌∙◌, arith, append_assoc}
use Rattle.std.proofs.lemmas.List.{append-nil}
use Rattle.std.specs.Prelude.{flat_map}
use Rattle.std.specs.List.{range_with_len}
use Rattle.vx_write.specs.Sending.{AreSent}
use Rattle.vx_write.proofs.SetBySet.{append_others}
use Rattle.vx_merge.specs.Needed.{sets_with_id}
use Rattle.vx_merge.specs.inner.Taking.{an_aps_of}
use Rattle.vx_merge.proofs.Rising.{lower_others, rise_more}
use Rattle.vx_merge.proofs.send.send_named.Goals as goal

pub loop-id-init : goal.loop-id-init
loop-id-init c before sets apart sent others = rw (append-nil sets) sent

pub loop-id-preserved : goal.loop-id-preserved
loop-id-preserved c before sets apart sent others =
    let kind = c.args.search.kind in
    let bodies = map (λ b. b.now) c.args.named.now.bodies in
    let ids = c.args.named.now.ids.items in
    let of = sets_with_id kind bodies ids in
    let lower = flat_map of (range_with_len 0 c.loop-id.id) in
    let apart_from = append_others (an_aps_of kind c.loop-id.id) sets lower (others c.loop-id.id) (lower_others kind c.loop-id.id bodies ids) in
    let next = c.in_ok-send_with.ensures before (sets ++ lower) apart (c.loop-id.invariant before sets apart sent others) apart_from in
    let more : (sets ++ lower) ++ of c.loop-id.id ≡ sets ++ flat_map of (range_with_len 0 (c.loop-id.id + 1)) =
    append_assoc sets lower (of c.loop-id.id) ∙ ap (λ xs. sets ++ xs) (sym (rise_more of 0 c.loop-id.id c.loop-id.id (omega arith))) in
    subst (λ xs. AreSent c.args.search.temporal_id before xs c.send_with.new.slots (map (λ u. u.items) c.send_with.new.units.items)) more next
