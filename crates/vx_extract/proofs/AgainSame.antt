-- One SPS is rewritten one way for a subpicture, whatever the picture has besides.
use Rattle.std.proofs.Common.{◌≡◌, ℕ, ◌<◌, false, cond, List, map, slice_index, Option, Some, None, refl, ap, subst, ◌∙◌, inl, inr, arith}
use Rattle.std.specs.List.{range_with_len}
use Rattle.std.proofs.lemmas.Bool.{cases_Bool}
use Rattle.std.proofs.lemmas.List.FromFn.{get_or-map-range_with_len}
use Rattle.vx_bits.specs.declared.list.Item.{Item}
use Rattle.vx_fields.specs.declared.sps.TheConstants as sps_fields
use Rattle.vx_fields.specs.declared.pps.TheConstants as pps_fields
use Rattle.vx_table.specs.Loaded.{number}
use Rattle.vx_table.specs.Scope.{is_set}
use Rattle.vx_table.specs.Shown.{shown_items}
use Rattle.vx_table.proofs.Rewriting.{rewrites_one_way}
use Rattle.vx_sps.specs.declared.shape.SpsShape.{SpsShape}
use Rattle.vx_sps.specs.declared.shape.SubpicPlan.TheVariants.{Absent, One}
use Rattle.vx_sps.specs.Depends.{taken_sps_fields}
use Rattle.vx_sps.specs.Structure.{sps_form}
use Rattle.vx_sps.specs.Set as sps
use Rattle.vx_sps.specs.Subpictures.{sps_subpic_id_of, rect_of, subpics_of}
use Rattle.vx_sps.specs.Reshaped.{IsReshapedSps, stated_sps_items}
use Rattle.vx_table.specs.Loaded as loading
use Rattle.vx_pps.specs.laws.Sets.{SetsTellPartitions}
use Rattle.vx_pic.specs.Inputs.{luma_size}
use Rattle.vx_pic.specs.Sets.{sps_id}
use Rattle.vx_pic.specs.Parts.{Parts}
use Rattle.vx_pic.specs.PictureLayout.{ids_of, needs_ids}
use Rattle.vx_extract.specs.Shapes.{dpb_of, id_in, level_of, sps_shape, window_of}
use Rattle.vx_write.specs.InForce.{AreInForce}
use Rattle.vx_extract.proofs.ShapesIdBits.{not_in_pps_elsewhere}
use Rattle.vx_write.proofs.Sizes.{has_size}

-- what is written of the SPS alone, of pictures of the size that it says
abbrev id_from : List Item → ℕ → Option ℕ
id_from s target = cond (needs_ids s) None (Some (sps_subpic_id_of s target))

abbrev shape_from : List Item → ℕ → Option ℕ → SpsShape
shape_from s target level = record {
  id = sps_id s;
  width = luma_size (rect_of s target).x (rect_of s target).w (sps.ctb_size_of s) (sps.width_of s);
  height = luma_size (rect_of s target).y (rect_of s target).h (sps.ctb_size_of s) (sps.height_of s);
  window = window_of s (rect_of s target);
  level = level_of s level;
  dpb = dpb_of s;
  subpics = cond (is_set (number s sps_fields.sps_subpic_info_present_flag)) (One (number s sps_fields.sps_subpic_id_len_minus1) (id_from s target)) Absent;
}

own_id : (q : Parts) (target : ℕ) → AreInForce q → target < subpics_of q.sps → needs_ids q.sps ≡ false → id_in q target ≡ sps_subpic_id_of q.sps target
unfolding ids_of
own_id q target are within none =
    let elsewhere = not_in_pps_elsewhere q.sps q.pps are.made.ids.placed none in
    ap (λ xs. slice_index xs target) are.ids ∙ ap (λ b. slice_index (cond b (loading.numbers_of q.pps pps_fields.pps_subpic_id) (map (sps_subpic_id_of q.sps) (range_with_len 0 (subpics_of q.sps)))) target) elsewhere
    ∙ get_or-map-range_with_len (sps_subpic_id_of q.sps) 0 (subpics_of q.sps) target target 0 within (omega arith)

same_id : (q : Parts) (target : ℕ) → AreInForce q → target < subpics_of q.sps → cond (needs_ids q.sps) None (Some (id_in q target)) ≡ id_from q.sps target
same_id q target are within = elim (cases_Bool (needs_ids q.sps)) [
  | inl needed ↦ rw needed refl
  | inr none ↦ rw none (ap (λ n. Some n) (own_id q target are within none))
]

shape_is : SetsTellPartitions → (q : Parts) (target : ℕ) (level : Option ℕ) → AreInForce q → target < subpics_of q.sps → sps_shape q target level ≡ shape_from q.sps target level
shape_is tells q target level are within =
    let size = has_size tells q are in
    rw (size.width, size.height, same_id q target are within) refl

pub same_again : SetsTellPartitions → (target : ℕ) (level : Option ℕ) (q r : Parts) (s t : List Item) → AreInForce q → AreInForce r → target < subpics_of q.sps → q.sps ≡ r.sps
    → IsReshapedSps q.sps (sps_shape q target level) s → IsReshapedSps r.sps (sps_shape r target level) t → s ≡ t
same_again tells target level q r s t are others within same one two =
    let inside : target < subpics_of r.sps = subst (λ x. target < subpics_of x) same within in
    let first : IsReshapedSps q.sps (shape_from q.sps target level) s = subst (λ x. IsReshapedSps q.sps x s) (shape_is tells q target level are within) one in
    let second : IsReshapedSps r.sps (shape_from r.sps target level) t = subst (λ x. IsReshapedSps r.sps x t) (shape_is tells r target level others inside) two in
    let moved : IsReshapedSps r.sps (shape_from r.sps target level) s = subst (λ x. IsReshapedSps x (shape_from x target level) s) same first in
    rewrites_one_way sps_form taken_sps_fields (shown_items taken_sps_fields r.sps) (stated_sps_items r.sps (shape_from r.sps target level)) s t moved second
