-- The ids of the frame's subpictures are their indices, and have the bits that the SPS says.
use Rattle.std.proofs.Common.{◌≡◌, ℕ, zero, suc, ◌+◌, ◌-◌, ◌<◌, ◌≤◌, ◌^◌, ◌==◌, false, List, length, map, refl, ap, sym, subst, ◌∙◌, arith}
use Rattle.std.specs.List.{range_with_len}
use Rattle.std.proofs.Math.Pow.{pow_mono}
use Rattle.std.proofs.lemmas.Bool.{eq-eqb, ne_eqb}
use Rattle.std.proofs.lemmas.List.FromFn.{length-map-range_with_len}
use Rattle.vx_bits.specs.declared.list.Item.{Item}
use Rattle.vx_fields.specs.declared.sps.TheConstants as fields
use Rattle.vx_layout.specs.declared.rect.Rect.{Rect}
use Rattle.vx_table.specs.Loaded.{number}
use Rattle.vx_table.specs.Scope.{powers_below}
use Rattle.vx_table.proofs.Numbers.{powers_least}
use Rattle.vx_sps.specs.declared.shape.SpsShape.{SpsShape}
use Rattle.vx_sps.specs.declared.shape.SubpicPlan.TheVariants.{Many}
use Rattle.vx_sps.specs.Set.{AreSpsItems, ctb_size_of}
use Rattle.vx_sps.specs.Subpictures.{sps_subpic_id_of, subpics_of}
use Rattle.vx_sps.specs.laws.Reread.{Says, Signals, count_in, described_in, explicit_in, id_in_plan, id_len_in}
use Rattle.vx_sps.specs.Reshaped.{IsReshapedSps, IsShape, id_bits}
use Rattle.vx_sps.proofs.Says.{reshaped_says}
use Rattle.vx_sps.proofs.Signals.{reshaped_signals}
use Rattle.vx_sh.specs.Whole.{index_of}
use Rattle.vx_pic.specs.PictureLayout.{are_in_pps, ids_of}

-- ids have bits enough for all of them
bits_short : (n : ℕ) → n ≤ 64 → id_bits n ≤ 6
bits_short n few = let short : powers_below 32 n ≤ 6 = (powers_least 32 n 6 (omega (arith, few))).0 (omega (arith, few)) in omega
    (arith, short)

bits_enough : (n k : ℕ) → n ≤ 64 → k < n → k < 2 ^ id_bits n
bits_enough n k few short =
    let large : n ≤ 2 ^ powers_below 32 n = (powers_least 32 n (powers_below 32 n) (omega (arith, few))).1 (omega arith) in
    let more : powers_below 32 n ≤ id_bits n = omega arith in
    let most : 2 ^ powers_below 32 n ≤ 2 ^ id_bits n = pow_mono more in
    omega (arith, large, most, short)

-- ---- indices

-- a number stands at its place among those from one on
index_at : (f : ℕ → ℕ) (from n k : ℕ) → k < n → ((i : ℕ) → i < n → f (from + i) ≡ from + i)
    → index_of (from + k) (map f (range_with_len from n)) ≡ k
index_at f from zero k short each = absurd (omega (arith, short))
index_at f from (suc n) zero short each =
    let first : f from ≡ from + 0 = ap f (omega arith) ∙ each 0 (omega arith) in
    rw (eq-eqb (f from) (from + 0) first) refl
index_at f from (suc n) (suc k) short each =
    let first : f from ≡ from + 0 = ap f (omega arith) ∙ each 0 (omega arith) in
    let other : (f from == from + suc k) ≡ false = ne_eqb (f from) (from + suc k) (λ e. absurd (omega (arith, e, first))) in
    let next : from + suc k ≡ (from + 1) + k = omega arith in
    let later : (i : ℕ) → i < n → f ((from + 1) + i) ≡ (from + 1) + i = λ i less. let step : (from + 1) + i ≡ from + suc i = omega arith
    in rw step (each (suc i) (omega (arith, less))) in
    let more : index_of (from + suc k) (map f (range_with_len (from + 1) n)) ≡ k = ap
    (λ m. index_of m (map f (range_with_len (from + 1) n))) next ∙ index_at f (from + 1) n k (omega (arith, short)) later in
    rw other (omega (arith, more))

-- ---- the SPS

-- What is known of the ids of several subpictures, by both sets.
pub record HaveIndices (sps pps : List Item) (n : ℕ) : Type 0 where
  pub described : number sps fields.sps_subpic_info_present_flag ≡ 1
  pub count : length (ids_of sps pps) ≡ n
  pub index : (k : ℕ) → k < n → index_of k (ids_of sps pps) ≡ k
  pub bits : (k : ℕ) → k < n → k < 2 ^ (number sps fields.sps_subpic_id_len_minus1 + 1)

module _ (source items pps : List Item) (shape : SpsShape) (rects : List Rect) (set : AreSpsItems source)
    (fits : IsShape (ctb_size_of source) shape) (is : IsReshapedSps source shape items)
    (plan : shape.subpics ≡ Many rects) (few : length rects ≤ 64) where
  pub signals : Signals shape items
  signals =
      let short = bits_short (length rects) few in
      let low : id_len_in shape.subpics < 16 = subst (λ p. id_len_in p < 16) (sym plan) (omega (arith, short)) in
      reshaped_signals source items shape fits.id low is

  says : Says source shape items
  says = reshaped_says source items shape set fits is

  counted : subpics_of items ≡ length rects
  counted = says.subpics ∙ ap (λ p. count_in p) plan

  pub ids_are : ids_of items pps ≡ map (sps_subpic_id_of items) (range_with_len 0 (length rects))
  unfolding ids_of
  ids_are =
      let apart : are_in_pps items pps ≡ false = rw (signals.explicit ∙ ap (λ p. explicit_in p) plan) refl in
      rw apart (ap (λ n. map (sps_subpic_id_of items) (range_with_len 0 n)) counted)

  pub own_id : (i : ℕ) → i < length rects → sps_subpic_id_of items i ≡ i
  own_id i short = says.id i (subst (λ p. i < count_in p) (sym plan) short) ∙ ap (λ p. id_in_plan p i) plan

  pub have_indices : HaveIndices items pps (length rects)
  have_indices = record {
    described = signals.described ∙ ap (λ p. described_in p) plan;
    count = ap (λ xs. length xs) ids_are ∙ length-map-range_with_len (sps_subpic_id_of items) 0 (length rects);
    index = λ k short.
        let here : 0 + k ≡ k = omega arith in
        ap (λ xs. index_of k xs) ids_are ∙ ap (λ j. index_of j (map (sps_subpic_id_of items) (range_with_len 0 (length rects)))) (sym here)
        ∙ index_at (sps_subpic_id_of items) 0 (length rects) k short (λ i less. let same : 0 + i ≡ i = omega arith in rw same (own_id i less));
    bits = λ k short.
        let some : 0 < id_bits (length rects) = omega arith in
        let more : number items fields.sps_subpic_id_len_minus1 ≡ id_bits (length rects) - 1 = signals.id_len ∙ ap (λ p. id_len_in p) plan in
        let same : number items fields.sps_subpic_id_len_minus1 + 1 ≡ id_bits (length rects) = omega (arith, more, some) in
        rw same (bits_enough (length rects) k few short);
  }
