use Rattle.std.proofs.Common.{◌≡◌, ◌++◌, Bor, ℕ, List, map, ◌∙◌, arith, append_assoc}
use Rattle.vx_aps.specs.declared.aps.TheConstants as aps
use Rattle.vx_frame.specs.Counts.{alf_slots, lmcs_slots, scaling_slots}
use Rattle.vx_merge.specs.Needed.{by_ids}
use Rattle.vx_merge.proofs.Rising.{both_others, of_another}
use Rattle.vx_merge.proofs.send.send_bodies.Goals as goal

pub returns : goal.returns
returns c before sets apart sent others =
    let n = c.args.needed.now in
    let now = λ (bodies : List (Bor (List ℕ))). map (λ (b : Bor (List ℕ)). b.now) bodies in
    let alf = by_ids aps.ALF alf_slots (now n.alf.bodies) n.alf.ids.items in
    let lmcs = by_ids aps.LMCS lmcs_slots (now n.lmcs.bodies) n.lmcs.ids.items in
    let scaling = by_ids aps.SCALING scaling_slots (now n.scaling.bodies) n.scaling.ids.items in
    let two = sets ++ alf in
    let first = (rw c.of_alf.ensures at c.in_ok-send_named.ensures) before sets apart.alf sent (others aps.ALF) in
    let of_two = λ (kind : ℕ) (differ : aps.ALF ≡ kind → ⊥). both_others kind sets alf (others kind) (of_another aps.ALF kind alf_slots (now n.alf.bodies) n.alf.ids.items differ) in
    let second = (rw c.of_lmcs.ensures at c.in_ok-send_named-2.ensures) before two apart.lmcs first (of_two aps.LMCS (λ same. omega (arith, same))) in
    let of_three = both_others aps.SCALING two lmcs (of_two aps.SCALING (λ same. omega (arith, same)))
    (of_another aps.LMCS aps.SCALING lmcs_slots (now n.lmcs.bodies) n.lmcs.ids.items (λ same. omega (arith, same))) in
    let third = (rw c.of_scaling-scaling.ensures at c.send_named-3.ensures) before (two ++ lmcs) apart.scaling second of_three in
    let all : (two ++ lmcs) ++ scaling ≡ sets ++ (alf ++ (lmcs ++ scaling)) = append_assoc two lmcs scaling ∙ append_assoc sets alf (lmcs ++ scaling) in
    rw (← all) third
