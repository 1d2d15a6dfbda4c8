-- Numbers that lie in a range.
use Rattle.std.proofs.Common.{◌≡◌, ℕ, ℤ, pos, negsuc, neg_ℤ, ◌+ℤ◌, ◌≤ℤ◌, true, ◌<◌, List, length, subst, sym, refl, ap, ◌∙◌, arith}
use Rattle.std.proofs.lemmas.Bool.Decides.{nat_tests}
use Rattle.std.proofs.Math.IntN.{+ℤ_comm, +ℤ_assoc}
use Rattle.std.proofs.lemmas.List.FromFn.{length-map-range_with_len}
use Rattle.vx_bits.specs.declared.list.Item.{Item}
use Rattle.vx_layout.specs.declared.numbers.Numbers.{Numbers}
use Rattle.vx_table.specs.Forms.{has_value}
use Rattle.vx_table.specs.Scope.{fresh}
use Rattle.vx_table.specs.Loaded.{number, code_below, range_below, row_below}
use Rattle.vx_table.proofs.Loading.{number_below, sections_stay_below}
use Rattle.vx_fields.specs.declared.sps.TheConstants.{sps_bitdepth_minus8}
use Rattle.vx_sps.specs.Structure.{sps_sections, sps_form}
use Rattle.vx_sps.specs.Set.{AreSpsItems}
use Rattle.vx_sps.specs.Subpictures.{subpics_of, rect_of}
use Rattle.vx_fields.specs.declared.pps.TheConstants.{pps_init_qp_minus26}
use Rattle.vx_pic.specs.Sets.{SliceHeader, signed, qp_delta, slice_qp, is_qp}
use Rattle.vx_pic.specs.PictureLayout.{numbers_in}

-- a subpicture of the layout of two sets is one of the SPS
pub within_sps : (s p : List Item) (n : Numbers) (k : ℕ) → n ≡ numbers_in s p → k < length n.subpics → k < subpics_of s
within_sps s p n k is within =
    let count : length n.subpics ≡ subpics_of s = ap (λ m. length m.subpics) is ∙ length-map-range_with_len (rect_of s) 0 (subpics_of s) in
    omega (arith, within, count)

-- sps_bitdepth_minus8 is at most 2
pub depth_below : (items : List Item) → AreSpsItems items → number items sps_bitdepth_minus8 < 3
unfolding has_value code_below range_below row_below
depth_below items set = subst (λ x. number x sps_bitdepth_minus8 < 3) (sym set.all)
    (number_below sps_bitdepth_minus8 3 sps_form set.values set.end (omega arith) (sections_stay_below sps_bitdepth_minus8 3 sps_sections fresh (omega arith) refl) set.follows)

-- SliceQpY is from -12 to 63
low : (items : List Item) (qp : ℤ) → AreSpsItems items → is_qp items qp ≡ true → neg_ℤ (pos 12) ≤ℤ qp
unfolding is_qp
low items (pos n) set is = let depth = depth_below items set in grind (arith, nat_tests)
low items (negsuc n) set is = let depth = depth_below items set in grind (arith, nat_tests)

high : (items : List Item) (qp : ℤ) → is_qp items qp ≡ true → qp ≤ℤ pos 63
unfolding is_qp
high items (pos n) is = grind (arith, nat_tests)
high items (negsuc n) is = grind (arith, nat_tests)

-- the same sum in another order
pub qp_sum : (p header : List Item) (h : SliceHeader) (init delta qp : ℤ) → init ≡ signed p pps_init_qp_minus26 → delta ≡ qp_delta p header h
    → qp ≡ (init +ℤ delta) +ℤ pos 26 → qp ≡ slice_qp p header h
unfolding slice_qp
qp_sum p header h init delta qp ei ed is =
    let order : (init +ℤ delta) +ℤ pos 26 ≡ (pos 26 +ℤ init) +ℤ delta = +ℤ_comm (init +ℤ delta) (pos 26) ∙ sym (+ℤ_assoc (pos 26) init delta) in
    is ∙ order ∙ ap (λ z. (pos 26 +ℤ z) +ℤ delta) ei ∙ ap (λ z. (pos 26 +ℤ signed p pps_init_qp_minus26) +ℤ z) ed

pub qp_low : (s p header items : List Item) (h : SliceHeader) (init delta : ℤ) → init ≡ signed p pps_init_qp_minus26
    → delta ≡ qp_delta p header h → is_qp s (slice_qp p header h) ≡ true → items ≡ s → AreSpsItems items
    → neg_ℤ (pos 12) ≤ℤ ((init +ℤ delta) +ℤ pos 26)
qp_low s p header items h init delta ei ed is same set =
    let sum = qp_sum p header h init delta ((init +ℤ delta) +ℤ pos 26) ei ed refl in
    let at : is_qp s ((init +ℤ delta) +ℤ pos 26) ≡ true = ap (is_qp s) sum ∙ is in
    low s ((init +ℤ delta) +ℤ pos 26) (subst AreSpsItems same set) at

pub qp_high : (s p header : List Item) (h : SliceHeader) (init delta : ℤ) → init ≡ signed p pps_init_qp_minus26
    → delta ≡ qp_delta p header h → is_qp s (slice_qp p header h) ≡ true → ((init +ℤ delta) +ℤ pos 26) ≤ℤ pos 63
qp_high s p header h init delta ei ed is =
    let sum = qp_sum p header h init delta ((init +ℤ delta) +ℤ pos 26) ei ed refl in
    let at : is_qp s ((init +ℤ delta) +ℤ pos 26) ≡ true = ap (is_qp s) sum ∙ is in
    high s ((init +ℤ delta) +ℤ pos 26) at
