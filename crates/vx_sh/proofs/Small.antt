-- The fields of picture headers and slice headers that name adaptation parameter sets have at most three bits.
use Rattle.std.proofs.Common.{◌≡◌, ℕ, ℤ, true, List, [], ◌∷◌, refl, sym, subst, arith}
use Rattle.std.specs.Prelude.{All}
use Rattle.std.proofs.lemmas.List.Elements.{All-append}
use Rattle.vx_bits.specs.declared.list.Item.{Item}
use Rattle.vx_table.specs.declared.rows.Formula.{Formula}
use Rattle.vx_table.specs.declared.rows.Cell.{Cell}
use Rattle.vx_table.specs.declared.rows.Row.TheVariants.{Field}
use Rattle.vx_table.specs.Forms.{has_value, cell_at, one_field, part, form_of}
use Rattle.vx_table.specs.EachField.{rows_pass}
use Rattle.vx_table.specs.Spelling.{items_along}
use Rattle.vx_table.specs.Loaded.{IsBelow, StaysBelow, code_below, range_below, row_below}
use Rattle.vx_table.proofs.EachField.{each_of_rows}
use Rattle.vx_table.proofs.Loading.{below, tables_stay_below}
use Rattle.vx_fields.specs.declared.alf.TheConstants as alf
use Rattle.vx_fields.specs.declared.ph.TheConstants as ph
use Rattle.vx_rpl.specs.declared.entry.RplTable.{RplTable}
use Rattle.vx_ph.specs.Picture as picture
use Rattle.vx_ph.proofs.Passing as header
use Rattle.vx_sh.specs.declared.tables.TheConstants.{HEADER_INSIDE}
use Rattle.vx_sh.specs.Whole.{At, behind_header}
use Rattle.vx_sh.specs.Value.{AreFields}
use Rattle.vx_sh.proofs.Depending.{Pass, behind_each}

-- a row that passes the test
row_stays : (of : ℕ) (c : Cell Formula) (s : List ℕ) → row_below of 8 (Field c) ≡ true → StaysBelow of 8 (cell_at s c)
unfolding form_of part one_field
row_stays of c s test = (tables_stay_below of 8 (Field c ∷ []) s (omega arith) (rw test refl)).0

-- ---- picture headers

in_header : (of : ℕ) → header.Pass (row_below of 8) → (table : RplTable) (s : List ℕ) (items : List Item) → picture.ArePictureHeaderFields table s items → All (IsBelow of 8) items
in_header of pass table s items f =
    subst (λ x. All (IsBelow of 8) x) (sym f.all) (below of 8 (header.header_each (StaysBelow of 8) (row_below of 8) (row_stays of) table s pass) f.follows)

-- what such items name
pub record NamesSmall (items : List Item) : Type 0 where
  pub luma : All (IsBelow alf.alf_aps_id_luma 8) items
  pub chroma : All (IsBelow alf.alf_aps_id_chroma 8) items
  pub cb : All (IsBelow alf.alf_cc_cb_aps_id 8) items
  pub cr : All (IsBelow alf.alf_cc_cr_aps_id 8) items
  pub lmcs : All (IsBelow ph.ph_lmcs_aps_id 8) items
  pub scaling : All (IsBelow ph.ph_scaling_list_aps_id 8) items

pub header_names : (table : RplTable) (s : List ℕ) (items : List Item) → picture.ArePictureHeaderFields table s items → NamesSmall items
unfolding has_value code_below range_below row_below
header_names table s items f = record {
  luma = in_header alf.alf_aps_id_luma (record { front = refl; lists = refl; middle = refl; weights = refl; back = refl }) table s items f;
  chroma = in_header alf.alf_aps_id_chroma (record { front = refl; lists = refl; middle = refl; weights = refl; back = refl }) table s items f;
  cb = in_header alf.alf_cc_cb_aps_id (record { front = refl; lists = refl; middle = refl; weights = refl; back = refl }) table s items f;
  cr = in_header alf.alf_cc_cr_aps_id (record { front = refl; lists = refl; middle = refl; weights = refl; back = refl }) table s items f;
  lmcs = in_header ph.ph_lmcs_aps_id (record { front = refl; lists = refl; middle = refl; weights = refl; back = refl }) table s items f;
  scaling = in_header ph.ph_scaling_list_aps_id (record { front = refl; lists = refl; middle = refl; weights = refl; back = refl }) table s items f;
}

-- ---- slice headers

in_slice : (of : ℕ) → rows_pass (row_below of 8) HEADER_INSIDE ≡ true → Pass (row_below of 8) → (n : At) (items : List Item) (inside : List ℤ) → AreFields n items inside
    → All (IsBelow of 8) items
in_slice of first pass n items inside f =
    let front = below of 8 (each_of_rows (StaysBelow of 8) (row_below of 8) (row_stays of) HEADER_INSIDE n.slice first) f.begins in
    let behind = below of 8 (behind_each (StaysBelow of 8) (row_below of 8) (row_stays of) n.table n.ids n.layout f.at pass) f.ends in
    subst (λ x. All (IsBelow of 8) x) (sym f.all)
    (All-append (IsBelow of 8) (items_along (form_of HEADER_INSIDE n.slice) f.first) (items_along (behind_header n.table n.ids n.layout f.at) f.behind) front behind)

pub slice_names : (n : At) (items : List Item) (inside : List ℤ) → AreFields n items inside → NamesSmall items
unfolding has_value code_below range_below row_below
slice_names n items inside f = record {
  luma = in_slice alf.alf_aps_id_luma refl (record { id = refl; known = refl; address = refl; before_lists = refl; lists = refl; between = refl; weights = refl; behind_weights = refl }) n items inside f;
  chroma = in_slice alf.alf_aps_id_chroma refl (record { id = refl; known = refl; address = refl; before_lists = refl; lists = refl; between = refl; weights = refl; behind_weights = refl }) n items inside f;
  cb = in_slice alf.alf_cc_cb_aps_id refl (record { id = refl; known = refl; address = refl; before_lists = refl; lists = refl; between = refl; weights = refl; behind_weights = refl }) n items inside f;
  cr = in_slice alf.alf_cc_cr_aps_id refl (record { id = refl; known = refl; address = refl; before_lists = refl; lists = refl; between = refl; weights = refl; behind_weights = refl }) n items inside f;
  lmcs = in_slice ph.ph_lmcs_aps_id refl (record { id = refl; known = refl; address = refl; before_lists = refl; lists = refl; between = refl; weights = refl; behind_weights = refl }) n items inside f;
  scaling = in_slice ph.ph_scaling_list_aps_id refl (record { id = refl; known = refl; address = refl; before_lists = refl; lists = refl; between = refl; weights = refl; behind_weights = refl }) n items inside f;
}
