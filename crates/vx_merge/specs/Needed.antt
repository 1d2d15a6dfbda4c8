-- The sets that the picture of a round needs, with the ids that they take. Our own.
use Rattle.std.specs.Prelude.{ℕ, ◌==◌, cond, List, [], ◌∷◌, ◌++◌, map, flat_map, filter, length, None, option_to_list}
use Rattle.std.specs.List.{range_with_len, slice_index_or, zip}
use Rattle.vx_bits.specs.declared.list.Item.{Item}
use Rattle.vx_aps.specs.declared.aps.TheConstants as aps
use Rattle.vx_pic.specs.Parts.{Parts}
use Rattle.vx_pic.specs.Resident.{same_bytes}
use Rattle.vx_pic.specs.Written.{Set, an_sps, a_pps, an_aps, SetUnit}
use Rattle.vx_write.specs.Slots.{pps_with_id}
use Rattle.vx_frame.specs.Bodies.{alf_bodies, has_lmcs, has_scaling, lmcs_body, scaling_body}
use Rattle.vx_frame.specs.Shapes.{of_lowest}
use Rattle.vx_frame.specs.Counts.{alf_slots, lmcs_slots, pps_slots, scaling_slots}
use Rattle.vx_merge.specs.Slots.{TakeSlots}

-- ---- bodies of adaptation parameter sets

-- The bodies of LMCS and of scaling lists: those of the lowest source whose picture header has them. The bodies of adaptive loop filters
-- are `alf_bodies`.
abbrev pub lmcs_bodies : List Parts → List (List ℕ)
lmcs_bodies round = option_to_list (of_lowest has_lmcs lmcs_body None round)

abbrev pub scaling_bodies : List Parts → List (List ℕ)
scaling_bodies round = option_to_list (of_lowest has_scaling scaling_body None round)

-- The set of a type with this id, of the k-th body.
abbrev pub aps_of_body : ℕ → List (List ℕ) → ℕ → ℕ → Set
aps_of_body kind bodies k id = an_aps (record { kind = kind; id = id; body = slice_index_or bodies k [] })

-- ---- ids

-- The ids that the sets of a picture have: that of the PPS, and of the bodies of each type in their order. The SPS has the id 0.
pub record Ids : Type 0 where
  pub pps : ℕ
  pub alf : List ℕ
  pub lmcs : List ℕ
  pub scaling : List ℕ

-- The sets take these ids, for a picture of this TemporalId after sets that count as sent. The PPS, here with the id 0, is looked for
-- with each id.
pub record TakeIds (round : List Parts) (t : ℕ) (sent : List SetUnit) (pps : List Item) (ids : Ids) : Type 0 where
  pub of_pps : TakeSlots pps_slots 1 t sent (λ k id. a_pps (pps_with_id id pps)) (ids.pps ∷ [])
  pub of_alf : TakeSlots alf_slots (length (alf_bodies round)) t sent (aps_of_body aps.ALF (alf_bodies round)) ids.alf
  pub of_lmcs : TakeSlots lmcs_slots (length (lmcs_bodies round)) t sent (aps_of_body aps.LMCS (lmcs_bodies round)) ids.lmcs
  pub of_scaling : TakeSlots scaling_slots (length (scaling_bodies round)) t sent (aps_of_body aps.SCALING (scaling_bodies round)) ids.scaling

-- The id of a body among these.
abbrev pub id_of_body : List (List ℕ) → List ℕ → List ℕ → ℕ
id_of_body (b ∷ bodies) (id ∷ ids) body = cond (same_bytes b body) id (id_of_body bodies ids body)
id_of_body _ _ body = 0

-- ---- the sets

-- The sets of a type, by rising id.
abbrev pub sets_with_id : ℕ → List (List ℕ) → List ℕ → ℕ → List Set
sets_with_id kind bodies ids id = map (λ p. an_aps (record { kind = kind; id = id; body = p.0 })) (filter (λ p. p.1 == id) (zip bodies ids))

abbrev pub by_ids : ℕ → ℕ → List (List ℕ) → List ℕ → List Set
by_ids kind count bodies ids = flat_map (sets_with_id kind bodies ids) (range_with_len 0 count)

-- All: the SPS, the PPS, and adaptation parameter sets by rising type and id.
abbrev pub sets_of_round : List Parts → Ids → (sps pps : List Item) → List Set
sets_of_round round ids sps pps =
    an_sps sps ∷ a_pps pps
    ∷ (by_ids aps.ALF alf_slots (alf_bodies round) ids.alf
    ++ (by_ids aps.LMCS lmcs_slots (lmcs_bodies round) ids.lmcs ++ by_ids aps.SCALING scaling_slots (scaling_bodies round) ids.scaling))
