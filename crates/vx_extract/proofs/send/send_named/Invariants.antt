use Rattle.std.proofs.Common.{◌∷◌, [], map, List}
use Rattle.vx_bits.specs.declared.list.Item.{Item}
use Rattle.vx_pic.specs.Written.{SetUnit, an_sps, a_pps}
use Rattle.vx_write.specs.Sending.{AreSent}
use Rattle.vx_extract.specs.inner.Sending.{sets_to}
use Rattle.vx_extract.proofs.send.send_named.Given as goal

-- the sets of the first places were sent
abbrev pub invariant-loop-place : goal.invariant-loop-place
invariant-loop-place l =
    (before : List SetUnit) (sps pps : List Item)
    → AreSent l.picture.kind.temporal_id before (an_sps sps ∷ a_pps pps ∷ []) l.fn.slots (map (λ unit. unit.items) l.fn.units.items)
    → AreSent l.picture.kind.temporal_id before (sets_to l.picture l.target sps pps l.place) l.slots (map (λ unit. unit.items) l.units.items)
