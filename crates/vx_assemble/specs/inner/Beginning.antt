-- The rules on a picture header, in the steps in which they are tried.
use Rattle.std.specs.Prelude.{◌≡◌, ℕ, not, Bool, cond, List, Option, Some, None, ok_or, is_none, Result, Ok}
use Rattle.std.specs.List.{slice_index_or}
use Rattle.vx_bits.specs.declared.list.Item.{Item}
use Rattle.vx_bits.specs.declared.refusal.Refusal.{Refusal}
use Rattle.vx_bits.specs.declared.rules.TheConstants as rules
use Rattle.vx_layout.specs.declared.numbers.Numbers.{Numbers}
use Rattle.vx_pic.specs.declared.sets.TheConstants as sets
use Rattle.vx_pic.specs.Answers.{◌>>=◌, refuse_if}
use Rattle.vx_pic.specs.Units.{temporal_id, rbsp_of}
use Rattle.vx_pic.specs.Sets.{referred_sps, same_size}
use Rattle.vx_pic.specs.Readings.{Begun}
use Rattle.vx_pic.specs.Rules.{Readers, structure, missing}
use Rattle.vx_assemble.specs.declared.begin.SetPair.{SetPair}
use Rattle.vx_assemble.specs.declared.in_force.InForce.{InForce}
use Rattle.vx_assemble.specs.declared.in_force.MadeUp.{MadeUp}
use Rattle.vx_assemble.specs.declared.state.State.{State}
use Rattle.vx_assemble.specs.inner.Order.{AreMade}

-- The layout that two sets make up.
abbrev pub layout_under : Readers → List Item → List Item → Result Numbers Refusal
layout_under R sps pps = do
  _ ← refuse_if (not (same_size sps pps)) (structure rules.SIZE_DIFFERS)
  R.layout sps pps

-- Two sets, with what was made of them.
abbrev pub with_sets : List Item → List Item → MadeUp → InForce
with_sets sps pps made = record { sps = sps; pps = pps; layout = made.layout; ids = made.ids; slices = made.slices; scope = made.scope }

-- Two sets, and what they make up.
pub record AreOf (sps pps : List Item) (f : InForce) : Type 0 where
  pub sps_is : f.sps ≡ sps
  pub pps_is : f.pps ≡ pps
  pub made : AreMade f

-- The sets to which a PPS id refers, among those stored at their ids.
abbrev pub sets_at : (ℕ → Option (List Item)) → (ℕ → Option (List Item)) → ℕ → Result SetPair Refusal
sets_at pps_at sps_at id = do
  pps ← ok_or (pps_at id) (missing sets.PPS id)
  sps ← ok_or (sps_at (referred_sps pps)) (missing sets.SPS (referred_sps pps))
  Ok (record { sps = sps; pps = pps })

abbrev pub pps_kept : State → ℕ → Option (List Item)
pps_kept s id = slice_index_or s.pps id None

abbrev pub sps_kept : State → ℕ → Option (List Item)
sps_kept s id = slice_index_or s.sps id None

abbrev pub sets_kept : State → ℕ → Result SetPair Refusal
sets_kept s id = sets_at (pps_kept s) (sps_kept s) id

-- What they make up.
abbrev pub layout_kept : Readers → State → ℕ → Result Numbers Refusal
layout_kept R s id = do
  pair ← sets_kept s id
  layout_under R pair.sps pair.pps

-- The two sets are those that a PPS id refers to, with what they make up.
pub record AreInForce (s : State) (id : ℕ) (f : InForce) : Type 0 where
  pub found : sets_kept s id ≡ Ok (record { sps = f.sps; pps = f.pps })
  pub made : AreMade f

-- The PH unit of a header that isn't inside a slice.
abbrev pub unit_in : Bool → List ℕ → Option (List ℕ)
unit_in inside unit = cond inside None (Some unit)

-- All of it.
abbrev pub header_under : Readers → List Item → List Item → Numbers → List ℕ → Option (List ℕ) → Result Begun Refusal
header_under R sps pps layout u unit = do
  header ← R.header (is_none unit) sps pps (rbsp_of u)
  Ok (record { sps = sps; pps = pps; layout = layout; header = header; temporal_id = temporal_id u; unit = unit })

abbrev pub begins_at : Readers → (ℕ → Option (List Item)) → (ℕ → Option (List Item)) → List ℕ → Option (List ℕ) → Result Begun Refusal
begins_at R pps_at sps_at u unit = do
  id ← R.referred_pps (is_none unit) (rbsp_of u)
  pair ← sets_at pps_at sps_at id
  layout ← layout_under R pair.sps pair.pps
  header_under R pair.sps pair.pps layout u unit
