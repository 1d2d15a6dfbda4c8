-- Rounds of the same SPSs have one rewritten SPS.
use Rattle.std.proofs.Common.{◌≡◌, ℕ, Bool, true, List, [], ◌∷◌, Option, refl, ap, sym, subst, ◌∙◌, inl, inr}
use Rattle.std.specs.List.{AllZip}
use Rattle.std.proofs.lemmas.Bool.{cases_Bool}
use Rattle.vx_bits.specs.declared.list.Item.{Item}
use Rattle.vx_fields.specs.declared.dpb.TheConstants as dpb
use Rattle.vx_fields.specs.declared.ptl.TheConstants.{general_level_idc}
use Rattle.vx_fields.specs.declared.sps.TheConstants as sps_fields
use Rattle.vx_table.specs.Loaded.{number}
use Rattle.vx_table.specs.Shown.{shown_items}
use Rattle.vx_table.proofs.Rewriting.{rewritten_one}
use Rattle.vx_fit.specs.declared.placed.Placed.{Placed}
use Rattle.vx_sps.specs.declared.shape.SpsShape.{SpsShape}
use Rattle.vx_sps.specs.Depends.{taken_sps_fields}
use Rattle.vx_sps.specs.Reshaped.{IsReshapedSps, stated_sps_items}
use Rattle.vx_sps.specs.Set.{ctb_size_of}
use Rattle.vx_sps.specs.Structure.{sps_form}
use Rattle.vx_pic.specs.Parts.{Parts}
use Rattle.vx_pic.specs.Sets.{same_size}
use Rattle.vx_pic.proofs.PictureSizes.{both_sizes}
use Rattle.vx_frame.specs.declared.corner.Corner.{Corner}
use Rattle.vx_frame.specs.Regions.{ctb_of, placed_at, placed_in}
use Rattle.vx_frame.specs.Rounds.{picture_at}
use Rattle.vx_frame.specs.Shapes.{frame_dpb, frame_level, numbers_in_round, offsets_at, frame_sps_shape, frame_window}

-- pictures with one SPS, whose sets have one size
pub record HasSameSps (e q : Parts) : Type 0 where
  pub same : e.sps ≡ q.sps
  pub size : same_size e.sps e.pps ≡ true
  pub other_size : same_size q.sps q.pps ≡ true

abbrev pub AreSame : List Parts → List Parts → Type 0
AreSame es qs = AllZip HasSameSps es qs

-- ---- what the shape is made of

placed_same : (corner : Corner) (e q : Parts) → HasSameSps e q → placed_at corner e ≡ placed_at corner q
placed_same corner e q is =
    let one = both_sizes e.sps e.pps is.size in
    let other = both_sizes q.sps q.pps is.other_size in
    let wide = one.0 ∙ ap (λ s. number s sps_fields.sps_pic_width_max_in_luma_samples) is.same ∙ sym other.0 in
    let high = one.1 ∙ ap (λ s. number s sps_fields.sps_pic_height_max_in_luma_samples) is.same ∙ sym other.1 in
    rw (wide, high) refl

all_placed : (corners : List Corner) (es qs : List Parts) → AreSame es qs → placed_in corners es ≡ placed_in corners qs
all_placed [] [] [] is = refl
all_placed [] [] (q ∷ qs) is = absurd is
all_placed [] (e ∷ es) [] is = absurd is
all_placed [] (e ∷ es) (q ∷ qs) is = refl
all_placed (c ∷ corners) [] [] is = refl
all_placed (c ∷ corners) [] (q ∷ qs) is = absurd is
all_placed (c ∷ corners) (e ∷ es) [] is = absurd is
all_placed (c ∷ corners) (e ∷ es) (q ∷ qs) is =
    ap (λ p. p ∷ placed_in corners es) (placed_same c e q is.0) ∙ ap (λ ps. placed_at c q ∷ ps) (all_placed corners es qs is.1)

numbers_same : (of : ℕ) (es qs : List Parts) → AreSame es qs → numbers_in_round es of ≡ numbers_in_round qs of
numbers_same of [] [] is = refl
numbers_same of [] (q ∷ qs) is = absurd is
numbers_same of (e ∷ es) [] is = absurd is
numbers_same of (e ∷ es) (q ∷ qs) is = ap (λ s. number s of ∷ numbers_in_round es of) is.0.same
    ∙ ap (λ ns. number q.sps of ∷ ns) (numbers_same of es qs is.1)

offsets_same : (touches : Placed → Bool) (of : ℕ) (placed : List Placed) (es qs : List Parts) → AreSame es qs
    → offsets_at touches of placed es ≡ offsets_at touches of placed qs
offsets_same touches of [] es qs is = refl
offsets_same touches of (p ∷ placed) [] [] is = refl
offsets_same touches of (p ∷ placed) [] (q ∷ qs) is = absurd is
offsets_same touches of (p ∷ placed) (e ∷ es) [] is = absurd is
offsets_same touches of (p ∷ placed) (e ∷ es) (q ∷ qs) is =
    let more = offsets_same touches of placed es qs is.1 in
    elim (cases_Bool (touches p)) [
      | inl on ↦ rw on (ap (λ s. number s of ∷ offsets_at touches of placed es) is.0.same ∙ ap (λ ns. number q.sps of ∷ ns) more)
      | inr off ↦ rw off more
    ]

ctb_same : (es qs : List Parts) → AreSame es qs → ctb_of es ≡ ctb_of qs
ctb_same [] [] is = refl
ctb_same [] (q ∷ qs) is = absurd is
ctb_same (e ∷ es) [] is = absurd is
ctb_same (e ∷ es) (q ∷ qs) is = ap ctb_size_of is.0.same

first_same : (es qs : List Parts) → AreSame es qs → (picture_at es 0).sps ≡ (picture_at qs 0).sps
first_same [] [] is = refl
first_same [] (q ∷ qs) is = absurd is
first_same (e ∷ es) [] is = absurd is
first_same (e ∷ es) (q ∷ qs) is = is.0.same

window_same : (placed : List Placed) (es qs : List Parts) → AreSame es qs → frame_window placed es ≡ frame_window placed qs
window_same placed es qs is =
    rw (
      offsets_same _ sps_fields.sps_conf_win_left_offset placed es qs is,
      offsets_same _ sps_fields.sps_conf_win_right_offset placed es qs is,
      offsets_same _ sps_fields.sps_conf_win_top_offset placed es qs is,
      offsets_same _ sps_fields.sps_conf_win_bottom_offset placed es qs is,
    ) refl

dpb_same : (es qs : List Parts) → AreSame es qs → frame_dpb es ≡ frame_dpb qs
dpb_same es qs is =
    rw (numbers_same dpb.dpb_max_dec_pic_buffering_minus1 es qs is, numbers_same dpb.dpb_max_num_reorder_pics es qs is, numbers_same dpb.dpb_max_latency_increase_plus1 es qs is) refl

level_same : (es qs : List Parts) (level : Option ℕ) → AreSame es qs → frame_level es level ≡ frame_level qs level
level_same es qs level is = rw (numbers_same general_level_idc es qs is) refl

shape_same : (corners : List Corner) (level : Option ℕ) (es qs : List Parts) → AreSame es qs
    → frame_sps_shape corners es level ≡ frame_sps_shape corners qs level
shape_same corners level es qs is =
    let placed = all_placed corners es qs is in
    let window : frame_window (placed_in corners qs) es ≡ frame_window (placed_in corners qs) qs = window_same (placed_in corners qs) es qs is in
    rw (placed, window, ctb_same es qs is, level_same es qs level is, dpb_same es qs is) refl

-- ---- the SPS

pub one_sps : (corners : List Corner) (level : Option ℕ) (es qs : List Parts) (s t : List Item) → AreSame es qs
    → IsReshapedSps (picture_at es 0).sps (frame_sps_shape corners es level) s → IsReshapedSps (picture_at qs 0).sps (frame_sps_shape corners qs level) t
    → s ≡ t
one_sps corners level es qs s t is one two =
    let source : List Item = (picture_at qs 0).sps in
    let shape : SpsShape = frame_sps_shape corners qs level in
    let moved : IsReshapedSps source shape s = subst (λ x. IsReshapedSps x shape s) (first_same es qs is) (subst (λ x. IsReshapedSps (picture_at es 0).sps x s) (shape_same corners level es qs is) one) in
    rewritten_one sps_form taken_sps_fields (shown_items taken_sps_fields source) (stated_sps_items source shape) s t moved two
