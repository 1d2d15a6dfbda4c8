-- The adaptive loop filter of a header, with other ids of its sets (H.266 7.3.7). Our own, except for what the fields name. Merging
-- relies on it.
use Rattle.std.specs.Prelude.{◌≡◌, ◌≤◌, ◌==◌, ℕ, pos, ◌<◌, cond, filter, true, List, [], ◌∷◌, length, map, slice_index}
use Rattle.vx_bits.specs.declared.list.Item.{Item}
use Rattle.vx_table.specs.Depends.{has}
use Rattle.vx_table.specs.Forms.{form_of}
use Rattle.vx_table.specs.Rewrites.{Takes}
use Rattle.vx_table.specs.Scope.{is_set, natural}
use Rattle.vx_table.specs.Shown.{shown_items}
use Rattle.vx_fields.specs.declared.alf.TheConstants as alf
use Rattle.vx_fields.specs.declared.pps.TheConstants.{pps_alf_info_in_ph_flag}
use Rattle.vx_fields.specs.declared.sps.TheConstants.{sps_alf_enabled_flag, sps_ccalf_enabled_flag, sps_chroma_format_idc}
use Rattle.vx_rpl.specs.declared.entry.RplTable.{RplTable}
use Rattle.vx_ph.specs.declared.tables.TheConstants.{ALF}
use Rattle.vx_ph.specs.Picture.{ArePictureHeaderFields}

-- The fields that name a set (7.3.7, 7.3.2.8).
abbrev pub set_ids : List ℕ
set_ids = alf.alf_aps_id_luma ∷ alf.alf_aps_id_chroma ∷ alf.alf_cc_cb_aps_id ∷ alf.alf_cc_cr_aps_id ∷ []

-- The filter's items, of those of a header (our own).
abbrev pub filter_of : List Item → List Item
filter_of items = shown_items alf.ALL items

-- With another id in place of each (our own).
abbrev pub with_ids : (ℕ → ℕ) → List Item → List Item
with_ids ids items = map
    (λ item. cond (has set_ids item.field) (record { field = item.field; value = pos (ids (natural item.value)) }) item) items

-- A filter goes through with other ids, under sets with the same chroma and the same cross-component filter.
abbrev pub FilterGoesAgain : Type 0
FilterGoesAgain = (ids : ℕ → ℕ) (s t : List ℕ) (items : List Item) → ((n : ℕ) → ids n < 8) → length s ≡ length t
    → slice_index s sps_chroma_format_idc ≡ slice_index t sps_chroma_format_idc
    → slice_index s sps_ccalf_enabled_flag ≡ slice_index t sps_ccalf_enabled_flag
    → Takes (form_of ALF s) items → Takes (form_of ALF t) (with_ids ids items)

-- That of a picture header goes through under its sets, if it is in the header.
abbrev pub HeaderHasFilter : Type 0
HeaderHasFilter = (table : RplTable) (s : List ℕ) (items : List Item) → ArePictureHeaderFields table s items
    → is_set (slice_index s sps_alf_enabled_flag) ≡ true → is_set (slice_index s pps_alf_info_in_ph_flag) ≡ true
    → Takes (form_of ALF s) (filter_of items)

-- A field has at most one item.
abbrev pub ComesOnce : ℕ → List Item → Type 0
ComesOnce of items = length (filter (λ item. item.field == of) items) ≤ 1

-- A filter names at most one set for chroma, one for Cb and one for Cr.
pub record NamesOnce (items : List Item) : Type 0 where
  pub chroma : ComesOnce alf.alf_aps_id_chroma items
  pub cb : ComesOnce alf.alf_cc_cb_aps_id items
  pub cr : ComesOnce alf.alf_cc_cr_aps_id items

abbrev pub FilterNamesOnce : Type 0
FilterNamesOnce = (s : List ℕ) (items : List Item) → Takes (form_of ALF s) items → NamesOnce items
