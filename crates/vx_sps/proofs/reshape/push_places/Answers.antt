-- Behind the two flags stand the places of all subpictures.
use Rattle.std.proofs.Common.{◌≡◌, true, nat_lt, length, ap, arith}
use Rattle.std.proofs.lemmas.Bool.{lt-ltb}
use Rattle.vx_table.specs.Rewrites.{in_all_turns}
use Rattle.vx_sps.specs.Reshaped.{place_items}
use Rattle.vx_sps.proofs.Pushed.{two_pushed, turn_pushed}
use Rattle.vx_sps.proofs.reshape.push_places.Goals as goal

pub returns : goal.returns
returns c =
    let several : nat_lt 1 (length c.args.rects.now) ≡ true = lt-ltb 1 (length c.args.rects.now) (omega (arith, c.len.ensures)) in
    let all : c.loop-i.i ≡ length c.args.rects.now = omega (arith, c.len-i-end.ensures) in
    rw several (two_pushed _ _ _ _ _ _ _ c.in_ok-extend_from_slice.ensures.ok c.loop-i.invariant c.item.ensures c.item-2.ensures
    (ap (λ n. in_all_turns (place_items c.args.columns c.args.rows c.args.rects.now) 0 n) all))

pub loop-i-preserved : goal.loop-i-preserved
loop-i-preserved c = turn_pushed (place_items c.args.columns c.args.rows c.args.rects.now) c.loop-i.i c.extend_from_slice.new.self c.loop-i.invariant c.in_ok-push_place.ensures
