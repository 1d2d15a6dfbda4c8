-- What sending the fields of a slice header does, and the scopes that a sender stores.
use Rattle.std.specs.Prelude.{◌≡◌, ◌≤◌, ℕ, Bool, List, [], ◌∷◌, ◌++◌, length, slice_index, Result}
use Rattle.vx_bits.specs.declared.list.Item.{Item}
use Rattle.vx_table.specs.declared.writer.SpellError.{SpellError}
use Rattle.vx_table.specs.Scope.{is_set, one_if}
use Rattle.vx_table.specs.Rewritten.{IsRewritten, other_items}
use Rattle.vx_table.specs.Values.{bits_along}
use Rattle.vx_table.specs.Writing.{IsWritten}
use Rattle.vx_fields.specs.declared.ph.TheConstants.{ph_explicit_scaling_list_enabled_flag, ph_lmcs_enabled_flag}
use Rattle.vx_fields.specs.declared.sh.TheConstants.{sh_explicit_scaling_list_used_flag, sh_lmcs_used_flag}
use Rattle.vx_sps.specs.Reshaped.{item}
use Rattle.vx_table.specs.Rewritten.{where_so}
use Rattle.vx_ph.specs.InForce.{in_force}
use Rattle.vx_sh.specs.declared.numbers.SliceNumbers.{SliceNumbers}
use Rattle.vx_sh.specs.declared.tables.TheConstants.{STARRED}
use Rattle.vx_sh.specs.InForce.{slice_scope}
use Rattle.vx_sh.specs.Whole.{At, apart_form}

-- The scopes are those of the sets and of the slices in force.
pub record AreScopes (n : SliceNumbers) (sets slice : List ℕ) : Type 0 where
  pub sets_are : sets ≡ in_force n.sps.now n.pps.now
  pub slice_is : slice ≡ slice_scope n.nal_type n.sps.now n.pps.now n.header.now sets
  pub few : length n.ids.now ≤ 1000
  pub one_each : length n.ids.now ≡ length n.layout.now.subpics

-- What is used of LMCS and scaling lists, if a slice's scope has them on.
abbrev pub uses_at : List ℕ → (uses_lmcs uses_scaling : Bool) → List Item
uses_at slice uses_lmcs uses_scaling =
    where_so (is_set (slice_index slice ph_lmcs_enabled_flag)) (item sh_lmcs_used_flag (one_if uses_lmcs) ∷ [])
    ++ where_so (is_set (slice_index slice ph_explicit_scaling_list_enabled_flag))
    (item sh_explicit_scaling_list_used_flag (one_if uses_scaling) ∷ [])

-- The slice header that has these new items, and the source's of the other fields, is written, if there is one.
abbrev pub SendsApart : At → List Item → List Item → Result (Unit {0}) SpellError → List Bool → Type 0
SendsApart n stated source result bits = (items : List Item)
    → (is : IsRewritten (apart_form n.table n.ids n.layout n.slice) STARRED stated (other_items STARRED source) items)
    → IsWritten result (bits ≡ bits_along (apart_form n.table n.ids n.layout n.slice) 0 is.values)
