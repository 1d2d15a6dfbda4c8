-- The slices of a subpicture of a partitioned picture can be listed.
use Rattle.std.proofs.Common.{◌≡◌, ℕ, ◌<◌, true, cond, List, [], ◌∷◌, length, Option, Some, None, refl, ap, sym, ◌∙◌}
use Rattle.std.specs.Prelude.{unwrap_or}
use Rattle.vx_layout.specs.declared.rect.Rect.{Rect}
use Rattle.vx_layout.specs.Bounds.{last}
use Rattle.vx_layout.specs.laws.Layouts.{RegionIsListable}
use Rattle.vx_layout.specs.Rects.{CoversOnce, whole_picture}
use Rattle.vx_layout.specs.Regions.{region_of}
use Rattle.vx_layout.specs.Shapes.{AreListable}
use Rattle.vx_sps.specs.Set as sps
use Rattle.vx_pps.specs.Pps as pps
use Rattle.vx_pps.specs.laws.Sets.{ReadSlicesAreListable}
use Rattle.vx_pic.specs.Parts.{Parts}
use Rattle.vx_pic.specs.PictureLayout.{subpictures_of}
use Rattle.vx_write.specs.InForce.{AreInForce}
use Rattle.vx_write.proofs.Regions.{subpics_listable}

-- the slices of a picture that is partitioned, of which each is a subpicture where the PPS lists none
listed : (q : Parts) (rects : List Rect) → AreInForce q → pps.is_partitioned q.pps ≡ true → pps.slice_list_of q.pps ≡ Some rects → q.layout.slices ≡ rects
listed q rects are is some =
    ap (λ n. n.slices) are.numbers ∙ ap (λ b. cond b (unwrap_or (pps.slice_list_of q.pps) (subpictures_of q.sps)) (whole_picture (sps.ctu_columns_of q.sps) (sps.ctu_rows_of q.sps) ∷ [])) is
    ∙ ap (λ o. unwrap_or o (subpictures_of q.sps)) some

unlisted : (q : Parts) → AreInForce q → pps.is_partitioned q.pps ≡ true → pps.slice_list_of q.pps ≡ None → q.layout.slices ≡ q.layout.subpics
unlisted q are is none =
    ap (λ n. n.slices) are.numbers ∙ ap (λ b. cond b (unwrap_or (pps.slice_list_of q.pps) (subpictures_of q.sps)) (whole_picture (sps.ctu_columns_of q.sps) (sps.ctu_rows_of q.sps) ∷ [])) is
    ∙ ap (λ o. unwrap_or o (subpictures_of q.sps)) none ∙ sym (ap (λ n. n.subpics) are.numbers)

columns_are : (q : Parts) → AreInForce q → pps.is_partitioned q.pps ≡ true → q.layout.columns ≡ pps.tile_columns_of q.pps
columns_are q are is = ap (λ n. n.columns) are.numbers ∙ rw is refl

rows_are : (q : Parts) → AreInForce q → pps.is_partitioned q.pps ≡ true → q.layout.rows ≡ pps.tile_rows_of q.pps
rows_are q are is = ap (λ n. n.rows) are.numbers ∙ rw is refl

-- the region's slices can be listed
pub listable : ReadSlicesAreListable → RegionIsListable → (q : Parts) (k : ℕ) → AreInForce q → k < length q.layout.subpics → pps.is_partitioned q.pps ≡ true
    → (o : Option (List Rect)) → pps.slice_list_of q.pps ≡ o → AreListable (region_of q.layout k).columns (region_of q.layout k).rows (region_of q.layout k).slices
listable reads regions q k are within is (Some rects) some =
    let slices = listed q rects are is some in
    let columns = columns_are q are is in
    let rows = rows_are q are is in
    let cover : CoversOnce rects (last (pps.tile_columns_of q.pps)) (last (pps.tile_rows_of q.pps)) = rw (← slices, ← columns, ← rows) are.layout.faultless.slices in
    let all = reads q.pps rects are.pps some cover in
    regions q.layout k are.layout within (rw (columns, rows, slices) all)
listable reads regions q k are within is None none = subpics_listable q.layout k are.layout (unlisted q are is none) within
