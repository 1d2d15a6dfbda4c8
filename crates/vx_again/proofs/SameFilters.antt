-- A filter whose sets have other ids has the same bodies, where each is found at the id that stands for it.
use Rattle.std.proofs.Common.{◌≡◌, ℕ, ℤ, pos, ◌<◌, ◌==◌, true, false, min, List, [], ◌∷◌, ◌++◌, map, Option, Some, None, refl, ap, sym}
use Rattle.std.proofs.Common.{subst, ◌∙◌, inl, inr, arith}
use Rattle.std.specs.Prelude.{is_none, option_and_then, option_map, option_to_list, unwrap_or}
use Rattle.std.proofs.lemmas.Bool.{cases_Bool, eqb-true, false_from_ne_true, true≢false}
use Rattle.std.proofs.lemmas.Option.{none-some, same_Some}
use Rattle.vx_bits.specs.declared.list.Item.{Item}
use Rattle.vx_bits.specs.Fields.{first_value}
use Rattle.vx_fields.specs.declared.alf.TheConstants as alf
use Rattle.vx_table.specs.Depends.{has}
use Rattle.vx_table.specs.Loaded.{number}
use Rattle.vx_table.specs.Scope.{fresh, is_set, natural}
use Rattle.vx_table.proofs.With.{first_with, same_number, with_field}
use Rattle.vx_aps.specs.declared.aps.Aps.{Aps}
use Rattle.vx_aps.specs.declared.aps.TheConstants as aps
use Rattle.vx_ph.specs.Filter.{filter_of, set_ids, with_ids}
use Rattle.vx_sh.specs.Depends.{kept_fields}
use Rattle.vx_pic.specs.Inputs.{alf_of, bodies_of, body_of, named_body}
use Rattle.vx_pic.specs.Parts.{AreThere, Parts, aps_at}
use Rattle.vx_pic.specs.Sets.{Slot, named, named_filters}
use Rattle.vx_frame.specs.Bodies.{bodies_in}
use Rattle.vx_again.proofs.Bodies.{HasBody, body_first, body_second}
use Rattle.vx_again.proofs.Named.{there_front}

-- ---- the items of a field

abbrev renamed : (ℕ → ℕ) → Item → Item
renamed ids x = record { field = x.field; value = pos (ids (natural x.value)) }

-- those that name sets are renamed,
with_renamed : (of : ℕ) (ids : ℕ → ℕ) (items : List Item) → has set_ids of ≡ true → has alf.ALL of ≡ true
    → with_field of (with_ids ids (filter_of items)) ≡ map (renamed ids) (with_field of items)
with_renamed of ids [] named_ shown = refl
with_renamed of ids (x ∷ items) named_ shown = elim (cases_Bool (x.field == of)) [
  | inl on ↦
      let all : has alf.ALL x.field ≡ true = ap (has alf.ALL) (eqb-true x.field of on) ∙ shown in
      let known : has set_ids x.field ≡ true = ap (has set_ids) (eqb-true x.field of on) ∙ named_ in
      rw (all, known, on) (ap (λ xs. renamed ids x ∷ xs) (with_renamed of ids items named_ shown))
  | inr off ↦ elim (cases_Bool (has alf.ALL x.field)) [
    | inr hidden ↦ rw (hidden, off) (with_renamed of ids items named_ shown)
    | inl all ↦ elim (cases_Bool (has set_ids x.field)) [
      | inl known ↦ rw (all, known, off) (with_renamed of ids items named_ shown)
      | inr other ↦ rw (all, other, off) (with_renamed of ids items named_ shown)
    ]
  ]
]

-- and all others stay
with_others : (of : ℕ) (ids : ℕ → ℕ) (items : List Item) → has set_ids of ≡ false → has alf.ALL of ≡ true
    → with_field of (with_ids ids (filter_of items)) ≡ with_field of items
with_others of ids [] other shown = refl
with_others of ids (x ∷ items) other shown = elim (cases_Bool (x.field == of)) [
  | inl on ↦
      let all : has alf.ALL x.field ≡ true = ap (has alf.ALL) (eqb-true x.field of on) ∙ shown in
      let plain : has set_ids x.field ≡ false = ap (has set_ids) (eqb-true x.field of on) ∙ other in
      rw (all, plain, on) (ap (λ xs. x ∷ xs) (with_others of ids items other shown))
  | inr off ↦ elim (cases_Bool (has alf.ALL x.field)) [
    | inr hidden ↦ rw (hidden, off) (with_others of ids items other shown)
    | inl all ↦ elim (cases_Bool (has set_ids x.field)) [
      | inl known ↦ rw (all, known, off) (with_others of ids items other shown)
      | inr plain ↦ rw (all, plain, off) (with_others of ids items other shown)
    ]
  ]
]

-- there are none of other fields
pub with_none : (of : ℕ) (ids : ℕ → ℕ) (items : List Item) → has alf.ALL of ≡ false
    → with_field of (with_ids ids (filter_of items)) ≡ []
with_none of ids [] hidden = refl
with_none of ids (x ∷ items) hidden = elim (cases_Bool (has alf.ALL x.field)) [
  | inr out ↦ rw out (with_none of ids items hidden)
  | inl all ↦
      let off : (x.field == of) ≡ false
      = false_from_ne_true (x.field == of) (λ on. true≢false (sym all ∙ ap (has alf.ALL) (eqb-true x.field of on) ∙ hidden)) in
      elim (cases_Bool (has set_ids x.field)) [
        | inl known ↦ rw (all, known, off) (with_none of ids items hidden)
        | inr other ↦ rw (all, other, off) (with_none of ids items hidden)
      ]
]

first_renamed : (of : ℕ) (ids : ℕ → ℕ) (items : List Item)
    → first_value (map (renamed ids) items) of ≡ option_map (λ v. pos (ids (natural v))) (first_value items of)
first_renamed of ids [] = refl
first_renamed of ids (x ∷ items) = elim (cases_Bool (x.field == of)) [ inl on ↦ rw on refl | inr off ↦ rw off (first_renamed of ids items) ]

-- ---- sets that are named are there

found : (o : Option Aps) → is_none o ≡ false → (a : Aps) × (o ≡ Some a)
found None none = absurd (true≢false none)
found (Some a) some = (a, refl)

body_at : (q : Parts) (id : ℕ) → is_none (aps_at q.bodies aps.ALF id) ≡ false → (body : List ℕ) × (body_of q aps.ALF id ≡ Some body)
body_at q id some = let a = found (aps_at q.bodies aps.ALF id) some in (a.0.body, ap (option_map (λ (x : Aps). x.body)) a.1)

there_rest : (sets : List (Option Aps)) (xs ys : List Slot) → AreThere sets (xs ++ ys) → AreThere sets ys
there_rest sets [] ys all = all
there_rest sets (x ∷ xs) ys all = there_rest sets xs ys all.1

there_first : (q : Parts) (of : ℕ) (items : List Item) (v : ℤ) → first_value items of ≡ Some v → AreThere q.bodies (named aps.ALF of items)
    → is_none (aps_at q.bodies aps.ALF (natural v)) ≡ false
there_first q of [] v first there = absurd (none-some v first)
there_first q of (x ∷ items) v first there = elim (cases_Bool (x.field == of)) [
  | inl on ↦
      let is : x.value ≡ v = same_Some x.value v (rw on at first) in
      let here : AreThere q.bodies (record { kind = aps.ALF; id = natural x.value } ∷ named aps.ALF of items) = rw on at there in
      subst (λ n. is_none (aps_at q.bodies aps.ALF (natural n)) ≡ false) is here.0
  | inr off ↦
      let later : first_value items of ≡ Some v = rw off at first in
      let rest : AreThere q.bodies (named aps.ALF of items) = rw off at there in
      there_first q of items v later rest
]

-- ---- a filter, as a picture has it, and under other ids in another

abbrev slot : Item → Slot
slot x = record { kind = aps.ALF; id = natural x.value }

module _ (q r : Parts) (ids : ℕ → ℕ) (own : List ℕ → ℕ) (low : (n : ℕ) → ids n < 8)
    (told : (n : ℕ) → ids n ≡ own (unwrap_or (body_of q aps.ALF n) [])) where
  one_body : (n : ℕ) (b : List ℕ) → body_of q aps.ALF n ≡ Some b → body_of r aps.ALF (own b) ≡ Some b
      → body_of r aps.ALF (natural (pos (ids n))) ≡ Some b
  unfolding natural
  one_body n b at has_ =
      let small = low n in
      let whole : min (ids n) 4294967295 ≡ ids n = omega (arith, small) in
      ap (body_of r aps.ALF) (whole ∙ told n ∙ ap (λ o. own (unwrap_or o [])) at) ∙ has_

  -- of luma each,
  all_bodies : (xs : List Item) → AreThere q.bodies (map slot xs)
      → ((b : List ℕ) → HasBody (bodies_of q (map slot xs)) b → body_of r aps.ALF (own b) ≡ Some b)
      → bodies_of r (map slot (map (renamed ids) xs)) ≡ bodies_of q (map slot xs)
  all_bodies [] there has_ = refl
  all_bodies (x ∷ xs) there has_ =
      let n : ℕ = natural x.value in
      let is = body_at q n there.0 in
      let rest : List (List ℕ) = bodies_of q (map slot xs) in
      let here : HasBody (option_to_list (body_of q aps.ALF n) ++ rest) is.0
      = body_first (option_to_list (body_of q aps.ALF n)) rest is.0 (subst (λ o. HasBody (option_to_list o) is.0) (sym is.1) (inl refl)) in
      let same : body_of r aps.ALF (natural (pos (ids n))) ≡ body_of q aps.ALF n = one_body n is.0 is.1 (has_ is.0 here) ∙ sym is.1 in
      let more = all_bodies xs there.1 (λ b among. has_ b (body_second (option_to_list (body_of q aps.ALF n)) rest b among)) in
      ap (λ o. option_to_list o ++ bodies_of r (map slot (map (renamed ids) xs))) same
      ∙ ap (λ bs. option_to_list (body_of q aps.ALF n) ++ bs) more

  -- and of the others the first
  first_body : (v : Option ℤ) → ((n : ℤ) → v ≡ Some n → is_none (aps_at q.bodies aps.ALF (natural n)) ≡ false)
      → ((b : List ℕ) → HasBody (option_to_list (option_and_then (λ n. body_of q aps.ALF (natural n)) v)) b → body_of r aps.ALF (own b) ≡ Some b)
      → option_and_then (λ n. body_of r aps.ALF (natural n)) (option_map (λ n. pos (ids (natural n))) v)
      ≡ option_and_then (λ n. body_of q aps.ALF (natural n)) v
  first_body None there has_ = refl
  first_body (Some n) there has_ =
      let is = body_at q (natural n) (there n refl) in
      let here : HasBody (option_to_list (body_of q aps.ALF (natural n))) is.0
      = subst (λ o. HasBody (option_to_list o) is.0) (sym is.1) (inl refl) in
      one_body (natural n) is.0 is.1 (has_ is.0 here) ∙ sym is.1

  module _ (items written : List Item) (there : AreThere q.bodies (named_filters items))
      (has_ : (b : List ℕ) → HasBody (bodies_in (alf_of q items)) b → body_of r aps.ALF (own b) ≡ Some b)
      (same : (of : ℕ) → has alf.ALL of ≡ true → has kept_fields of ≡ false
      → with_field of written ≡ with_field of (with_ids ids (filter_of items))) where
    abbrev luma : List Slot
    luma = named aps.ALF alf.alf_aps_id_luma items

    abbrev chroma : List Slot
    chroma = named aps.ALF alf.alf_aps_id_chroma items

    abbrev cb : List Slot
    cb = named aps.ALF alf.alf_cc_cb_aps_id items

    abbrev cr : List Slot
    cr = named aps.ALF alf.alf_cc_cr_aps_id items

    abbrev of_luma : List (List ℕ)
    of_luma = (alf_of q items).luma

    abbrev of_chroma : List (List ℕ)
    of_chroma = option_to_list (alf_of q items).chroma

    abbrev of_cb : List (List ℕ)
    of_cb = option_to_list (alf_of q items).cc_cb

    abbrev of_cr : List (List ℕ)
    of_cr = option_to_list (alf_of q items).cc_cr

    behind_luma : AreThere q.bodies (chroma ++ (cb ++ cr))
    behind_luma = there_rest q.bodies luma (chroma ++ (cb ++ cr)) there

    behind_chroma : AreThere q.bodies (cb ++ cr)
    behind_chroma = there_rest q.bodies chroma (cb ++ cr) behind_luma

    flag_is : (of : ℕ) → has set_ids of ≡ false → has alf.ALL of ≡ true → has kept_fields of ≡ false
        → is_set (number written of) ≡ is_set (number items of)
    flag_is of other shown starred = ap is_set (same_number of written items (same of shown starred ∙ with_others of ids items other shown))

    luma_is : bodies_of r (named aps.ALF alf.alf_aps_id_luma written) ≡ of_luma
    unfolding fresh
    luma_is =
        ap (λ xs. bodies_of r (map slot xs)) (same alf.alf_aps_id_luma refl refl ∙ with_renamed alf.alf_aps_id_luma ids items refl refl)
        ∙ all_bodies (with_field alf.alf_aps_id_luma items) (there_front q.bodies luma (chroma ++ (cb ++ cr)) there)
        (λ b among. has_ b (body_first of_luma (of_chroma ++ (of_cb ++ of_cr)) b among))

    first_is : (of : ℕ) → has set_ids of ≡ true → has alf.ALL of ≡ true → has kept_fields of ≡ false
        → AreThere q.bodies (named aps.ALF of items)
        → ((b : List ℕ) → HasBody (option_to_list (named_body q aps.ALF of items)) b → HasBody (bodies_in (alf_of q items)) b)
        → named_body r aps.ALF of written ≡ named_body q aps.ALF of items
    first_is of known shown starred its inside =
        let first : first_value written of ≡ option_map (λ n. pos (ids (natural n))) (first_value items of)
        = first_with of written ∙ ap (λ xs. first_value xs of) (same of shown starred ∙ with_renamed of ids items known shown)
        ∙ first_renamed of ids (with_field of items) ∙ ap (option_map (λ n. pos (ids (natural n)))) (sym (first_with of items)) in
        ap (option_and_then (λ n. body_of r aps.ALF (natural n))) first
        ∙ first_body (first_value items of) (λ n at. there_first q of items n at its) (λ b among. has_ b (inside b among))

    chroma_is : named_body r aps.ALF alf.alf_aps_id_chroma written ≡ (alf_of q items).chroma
    unfolding fresh
    chroma_is = first_is alf.alf_aps_id_chroma refl refl refl (there_front q.bodies chroma (cb ++ cr) behind_luma)
        (λ b among. body_second of_luma (of_chroma ++ (of_cb ++ of_cr)) b (body_first of_chroma (of_cb ++ of_cr) b among))

    cb_is : named_body r aps.ALF alf.alf_cc_cb_aps_id written ≡ (alf_of q items).cc_cb
    unfolding fresh
    cb_is = first_is alf.alf_cc_cb_aps_id refl refl refl (there_front q.bodies cb cr behind_chroma)
        (λ b among. body_second of_luma (of_chroma ++ (of_cb ++ of_cr)) b
        (body_second of_chroma (of_cb ++ of_cr) b (body_first of_cb of_cr b among)))

    cr_is : named_body r aps.ALF alf.alf_cc_cr_aps_id written ≡ (alf_of q items).cc_cr
    unfolding fresh
    cr_is = first_is alf.alf_cc_cr_aps_id refl refl refl (there_rest q.bodies cb cr behind_chroma)
        (λ b among. body_second of_luma (of_chroma ++ (of_cb ++ of_cr)) b
        (body_second of_chroma (of_cb ++ of_cr) b (body_second of_cb of_cr b among)))

    pub filter_same : alf_of r written ≡ alf_of q items
    unfolding fresh
    filter_same =
        let on = flag_is alf.alf_enabled_flag refl refl refl in
        let of_b = flag_is alf.alf_cb_enabled_flag refl refl refl in
        let of_r = flag_is alf.alf_cr_enabled_flag refl refl refl in
        let luma_ = luma_is in
        let chroma_ = chroma_is in
        let cc_b = cb_is in
        let cc_r = cr_is in
        λ j. record { enabled = on j; luma = luma_ j; cb = of_b j; cr = of_r j; chroma = chroma_ j; cc_cb = cc_b j; cc_cr = cc_r j }
