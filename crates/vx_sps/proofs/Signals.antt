-- What a rewritten set signals of itself and of the ids of its subpictures.
use Rattle.std.proofs.Common.{◌≡◌, ℕ, ◌-◌, ◌<◌, false, List, [], ◌∷◌, ◌++◌, length, Some, None, refl, ap, sym, ◌∙◌, arith}
use Rattle.std.specs.Prelude.{nat_lt}
use Rattle.vx_bits.specs.declared.list.Item.{Item}
use Rattle.vx_layout.specs.declared.rect.Rect.{Rect}
use Rattle.vx_table.specs.Loaded.{number}
use Rattle.vx_table.specs.Scope.{fresh, quotient}
use Rattle.vx_table.proofs.With.{lacks, no_number, one_number, others_with, passing_append, same_number, with_field, with_second}
use Rattle.vx_sps.specs.declared.shape.SpsShape.{SpsShape}
use Rattle.vx_sps.specs.declared.shape.SubpicPlan.{SubpicPlan}
use Rattle.vx_sps.specs.declared.shape.SubpicPlan.TheVariants.{Absent, One, Many}
use Rattle.vx_sps.specs.Depends.{taken_sps_fields}
use Rattle.vx_sps.specs.Set.{ctb_size_of}
use Rattle.vx_sps.specs.Reshaped.{dpb_items, id_bits, item, many_items, picture_items, places_items, profile_items, picture_size_items, stated_sps_items, subpic_items, timing_items}
use Rattle.vx_sps.specs.laws.Reread.{ReshapedSignals, described_in, explicit_in, id_len_in, mapped_in}
use Rattle.vx_sps.proofs.Places.{places_pass}
use Rattle.vx_sps.proofs.Says.{beside, block_of, limits_beside, profile_beside, subpics_pass, window_passes}

-- ---- the ids of many

-- behind their places
behind_places : (of columns rows : ℕ) (rects : List Rect) → with_field of (item 116 1 ∷ item 117 (length rects - 1) ∷ []) ≡ [] → nat_lt of 126 ≡ false
    → with_field of (subpic_items columns rows (Many rects)) ≡ with_field of (item 126 (id_bits (length rects) - 1) ∷ item 127 0 ∷ [])
behind_places of columns rows rects before past =
    with_second of (item 116 1 ∷ item 117 (length rects - 1) ∷ []) (places_items columns rows rects ++ item 126 (id_bits (length rects) - 1) ∷ item 127 0 ∷ []) before
    ∙ with_second of (places_items columns rows rects) (item 126 (id_bits (length rects) - 1) ∷ item 127 0 ∷ [])
    (lacks (λ f. nat_lt f 126) of (places_items columns rows rects) past (places_pass (λ f. nat_lt f 126) refl refl refl refl refl refl columns rows rects))

-- ---- what the subpictures' items say

module _ (columns rows : ℕ) where
  described : (plan : SubpicPlan) → number (subpic_items columns rows plan) 116 ≡ described_in plan
  unfolding fresh
  described Absent = one_number 116 0 (subpic_items columns rows Absent) (omega arith) (omega arith) refl
  described (One len None) = one_number 116 1 (subpic_items columns rows (One len None)) (omega arith) (omega arith) refl
  described (One len (Some id)) = one_number 116 1 (subpic_items columns rows (One len (Some id))) (omega arith) (omega arith) refl
  described (Many rects) = one_number 116 1 (subpic_items columns rows (Many rects)) (omega arith) (omega arith)
      (ap (λ xs. item 116 1 ∷ xs) (lacks (λ f. nat_lt 116 f) 116 (many_items columns rows rects) refl
      (refl, passing_append (λ f. nat_lt 116 f) (places_items columns rows rects) _ (places_pass (λ f. nat_lt 116 f) refl refl refl refl refl refl columns rows rects) (refl, (refl, tt)))))

  id_len : (plan : SubpicPlan) → id_len_in plan < 16 → number (subpic_items columns rows plan) 126 ≡ id_len_in plan
  unfolding fresh
  id_len Absent few = no_number 126 (subpic_items columns rows Absent) refl
  id_len (One len None) few = one_number 126 len (subpic_items columns rows (One len None)) (omega arith) (omega (arith, few)) refl
  id_len (One len (Some id)) few = one_number 126 len (subpic_items columns rows (One len (Some id))) (omega arith) (omega (arith, few)) refl
  id_len (Many rects) few =
      one_number 126 (id_bits (length rects) - 1) (subpic_items columns rows (Many rects)) (omega arith) (omega (arith, few)) (behind_places 126 columns rows rects refl refl)

  explicit : (plan : SubpicPlan) → number (subpic_items columns rows plan) 127 ≡ explicit_in plan
  unfolding fresh
  explicit Absent = no_number 127 (subpic_items columns rows Absent) refl
  explicit (One len None) = one_number 127 1 (subpic_items columns rows (One len None)) (omega arith) (omega arith) refl
  explicit (One len (Some id)) = one_number 127 1 (subpic_items columns rows (One len (Some id))) (omega arith) (omega arith) refl
  explicit (Many rects) = one_number 127 0 (subpic_items columns rows (Many rects)) (omega arith) (omega arith) (behind_places 127 columns rows rects refl refl)

  mapped : (plan : SubpicPlan) → number (subpic_items columns rows plan) 128 ≡ mapped_in plan
  unfolding fresh
  mapped Absent = no_number 128 (subpic_items columns rows Absent) refl
  mapped (One len None) = one_number 128 0 (subpic_items columns rows (One len None)) (omega arith) (omega arith) refl
  mapped (One len (Some id)) = one_number 128 1 (subpic_items columns rows (One len (Some id))) (omega arith) (omega arith) refl
  mapped (Many rects) = no_number 128 (subpic_items columns rows (Many rects)) (behind_places 128 columns rows rects refl refl)

-- ---- its own id

own_id : (source : List Item) (shape : SpsShape) → with_field 100 (stated_sps_items source shape) ≡ item 100 shape.id ∷ []
own_id source shape =
    let across : ℕ = quotient shape.width (ctb_size_of source) in
    let down : ℕ = quotient shape.height (ctb_size_of source) in
    let limits : List Item = dpb_items source shape.dpb ++ timing_items source in
    let picture : with_field 100 (picture_items source shape) ≡ []
    = lacks (λ f. nat_lt 100 f) 100 (picture_items source shape) refl
    (passing_append (λ f. nat_lt 100 f) (picture_size_items shape.width shape.height shape.window) (subpic_items across down shape.subpics)
    (refl, (refl, window_passes (λ f. nat_lt 100 f) refl refl refl refl refl shape.window))
    (subpics_pass (λ f. nat_lt 100 f) refl refl refl refl refl refl refl refl refl refl refl refl across down shape.subpics)) in
    ap (λ xs. item 100 shape.id ∷ xs)
    (with_second 100 (profile_items source shape.level) (picture_items source shape ++ limits) (lacks beside 100 (profile_items source shape.level) refl (profile_beside source shape.level))
    ∙ with_second 100 (picture_items source shape) limits picture
    ∙ lacks beside 100 limits refl (limits_beside source shape.dpb))

-- ---- the set

pub reshaped_signals : ReshapedSignals
unfolding fresh
reshaped_signals source items shape low few is =
    let across : ℕ = quotient shape.width (ctb_size_of source) in
    let down : ℕ = quotient shape.height (ctb_size_of source) in
    record {
      id = one_number 100 shape.id items (omega arith) (omega (arith, low)) (sym (others_with taken_sps_fields 100 items refl) ∙ ap (λ xs. with_field 100 xs) is.other_ones ∙ own_id source shape);
      described = same_number 116 items (subpic_items across down shape.subpics) (block_of source items shape is 116 refl refl refl refl) ∙ described across down shape.subpics;
      id_len = same_number 126 items (subpic_items across down shape.subpics) (block_of source items shape is 126 refl refl refl refl) ∙ id_len across down shape.subpics few;
      explicit = same_number 127 items (subpic_items across down shape.subpics) (block_of source items shape is 127 refl refl refl refl) ∙ explicit across down shape.subpics;
      mapped = same_number 128 items (subpic_items across down shape.subpics) (block_of source items shape is 128 refl refl refl refl) ∙ mapped across down shape.subpics;
    }
