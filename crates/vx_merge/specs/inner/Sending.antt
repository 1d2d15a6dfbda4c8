-- The sets of a round as they are named and sent, type by type. Our own.
use Rattle.std.specs.Prelude.{◌≡◌, ◌≢◌, ℕ, ◌<◌, List, ◌++◌, length, map, slice_index, IfSome}
use Rattle.std.specs.List.{AllByRecursion}
use Rattle.vx_bits.specs.Codes.{EndsInNoZero}
use Rattle.vx_sps.specs.Set as sps_set
use Rattle.vx_pps.specs.Pps as pps_set
use Rattle.vx_aps.specs.declared.aps.TheConstants as aps
use Rattle.vx_pic.specs.Inputs.{body_of}
use Rattle.vx_pic.specs.Parts.{Parts}
use Rattle.vx_pic.specs.Written.{Set, SetUnit}
use Rattle.vx_write.specs.Sending.{AreOthers}
use Rattle.vx_write.specs.Slots.{AreLastOf, Sent}
use Rattle.vx_frame.specs.Bodies.{alf_bodies}
use Rattle.vx_frame.specs.Counts.{alf_slots, lmcs_slots, scaling_slots}
use Rattle.vx_merge.specs.declared.needed.NamedBodies.{NamedBodies}
use Rattle.vx_merge.specs.declared.needed.RoundSets.{RoundSets}
use Rattle.vx_merge.specs.Needed.{aps_of_body, by_ids, lmcs_bodies, scaling_bodies}
use Rattle.vx_merge.specs.Slots.{TakeSlots}
use Rattle.vx_merge.specs.inner.Taking.{an_aps_of}

-- ---- bodies

-- A body can end a unit.
abbrev pub CanEnd : List ℕ → Type 0
CanEnd body = (0 < length body) × EndsInNoZero body

-- Each body that a picture has can.
abbrev pub HasEnds : Parts → Type 0
HasEnds q = (kind id : ℕ) → IfSome (body_of q kind id) CanEnd

-- Each body that a round needs can.
pub record HaveEnds (round : List Parts) : Type 0 where
  pub alf : AllByRecursion CanEnd (alf_bodies round)
  pub lmcs : AllByRecursion CanEnd (lmcs_bodies round)
  pub scaling : AllByRecursion CanEnd (scaling_bodies round)

-- ---- ids

-- No two are the same.
abbrev pub AreApart : List ℕ → Type 0
AreApart ids = (j k : ℕ) → j < k → k < length ids → slice_index ids j ≢ slice_index ids k

-- The bodies are these, with the ids of this type that they take after sets that count as sent.
pub record AreNamed (kind count t : ℕ) (slots : List Sent) (bodies : List (List ℕ)) (n : NamedBodies) : Type 0 where
  pub are : map (λ b. b.now) n.bodies ≡ bodies
  pub one_each : length n.ids.items ≡ length n.bodies
  pub taken : (sent : List SetUnit) → AreLastOf sent slots → TakeSlots count (length bodies) t sent (aps_of_body kind bodies) n.ids.items

-- ---- sending

-- There is an id for each body, which can end a unit.
pub record CanBeNamed (n : NamedBodies) : Type 0 where
  pub one_each : length n.ids.items ≡ length n.bodies
  pub ends : AllByRecursion CanEnd (map (λ b. b.now) n.bodies)

-- The sets can be written.
pub record CanBeSent (n : RoundSets) : Type 0 where
  pub sps : sps_set.AreSpsItems n.sps.now
  pub pps : pps_set.ArePpsItems n.pps.now
  pub alf : CanBeNamed n.alf
  pub lmcs : CanBeNamed n.lmcs
  pub scaling : CanBeNamed n.scaling

-- None is an adaptation parameter set of this type.
abbrev pub AreOfOthers : ℕ → List Set → Type 0
AreOfOthers kind sets = (id : ℕ) → AreOthers (an_aps_of kind id) sets

-- No two ids of one type are the same.
pub record AreAllApart (n : RoundSets) : Type 0 where
  pub alf : AreApart n.alf.ids.items
  pub lmcs : AreApart n.lmcs.ids.items
  pub scaling : AreApart n.scaling.ids.items

-- The adaptation parameter sets, by rising type and id.
abbrev pub bodies_sent : RoundSets → List Set
bodies_sent n =
    by_ids aps.ALF alf_slots (map (λ b. b.now) n.alf.bodies) n.alf.ids.items
    ++ (by_ids aps.LMCS lmcs_slots (map (λ b. b.now) n.lmcs.bodies) n.lmcs.ids.items
    ++ by_ids aps.SCALING scaling_slots (map (λ b. b.now) n.scaling.bodies) n.scaling.ids.items)
