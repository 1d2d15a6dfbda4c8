use Rattle.std.proofs.Common.{◌≡◌, option_map, take, map, length}
use Rattle.vx_pic.proofs.aps_list.ApsList.share.Given as goal

-- the sets are shared up to here
abbrev pub invariant-loop-i : goal.invariant-loop-i
invariant-loop-i l = (length l.list-inside.sets ≡ 24)
    × (take l.i (map (option_map (λ arc. arc.value)) l.list-inside.sets) ≡ take l.i (map (option_map (λ arc. arc.value)) l.self-inside.sets))
