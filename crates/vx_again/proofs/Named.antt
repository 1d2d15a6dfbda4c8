-- All adaptation parameter sets that the slices and the header of a merged picture name are among those that it needs.
use Rattle.std.proofs.Common.{◌≡◌, ℕ, ◌<◌, ◌≤◌, ◌==◌, Bool, true, false, min, List, [], ◌∷◌, ◌++◌, length, map, Option, Some, None, refl, ap, sym, subst, ◌∙◌, inl, inr, arith}
use Rattle.std.specs.Prelude.{is_none, nat_lt, option_and_then, option_map, option_to_list, unwrap_or}
use Rattle.std.specs.List.{AllByRecursion}
use Rattle.std.proofs.lemmas.Bool.{cases_Bool, eqb-true, true≢false}
use Rattle.std.proofs.lemmas.List.{length-map}
use Rattle.vx_bits.specs.declared.list.Item.{Item}
use Rattle.vx_bits.specs.Fields.{first_value}
use Rattle.vx_fields.specs.declared.alf.TheConstants as alf
use Rattle.vx_fields.specs.declared.ph.TheConstants as ph
use Rattle.vx_fields.specs.declared.sps.TheConstants as sps_fields
use Rattle.vx_table.specs.Depends.{has}
use Rattle.vx_table.specs.Loaded.{number}
use Rattle.vx_table.specs.Scope.{fresh, is_set, natural, one_if}
use Rattle.vx_table.proofs.With.{first_with, lacks, others_with, passing_append, passing_where, with_field, with_first, with_second}
use Rattle.vx_aps.specs.declared.aps.Aps.{Aps}
use Rattle.vx_aps.specs.declared.aps.TheConstants as aps
use Rattle.vx_layout.proofs.Parts.{Each-append}
use Rattle.vx_sps.specs.Reshaped.{item}
use Rattle.vx_table.specs.Rewritten.{where_so}
use Rattle.vx_ph.specs.Filter.{NamesOnce, filter_of, set_ids, with_ids}
use Rattle.vx_ph.specs.Reshaped as ph_reshaped
use Rattle.vx_ph.specs.declared.shape.LmcsShape.{LmcsShape}
use Rattle.vx_ph.specs.declared.shape.PhShape.{PhShape}
use Rattle.vx_sh.specs.declared.numbers.SliceNumbers.{SliceNumbers}
use Rattle.vx_sh.specs.declared.shape.ShShape.{ShShape}
use Rattle.vx_sh.specs.Depends.{kept_fields}
use Rattle.vx_sh.specs.Reshaped as sh_reshaped
use Rattle.vx_pic.specs.Inputs.{alf_of, bodies_of, body_of, named_body}
use Rattle.vx_pic.specs.Parts.{AreThere, Parts, aps_at}
use Rattle.vx_pic.specs.Resident.{HasSet, HaveNamed}
use Rattle.vx_pic.specs.Sets.{Slot, named, named_filters}
use Rattle.vx_pic.specs.Written.{SetUnit, an_aps}
use Rattle.vx_frame.specs.Bodies.{bodies_in}
use Rattle.vx_again.proofs.Bodies.{HasBody, body_first, body_second, set_at}

-- ---- slots of a field's items

abbrev slots_by : ℕ → (ℕ → ℕ) → List Item → List Slot
slots_by kind ids items = map (λ (x : Item). record { kind = kind; id = ids (natural x.value) }) items

-- with other ids
renamed_with : (of : ℕ) (ids : ℕ → ℕ) (items : List Item) → ((n : ℕ) → ids n < 8) → has set_ids of ≡ true
    → named aps.ALF of (with_ids ids items) ≡ slots_by aps.ALF ids (with_field of items)
unfolding natural
renamed_with of ids [] low is = refl
renamed_with of ids (x ∷ items) low is = elim (cases_Bool (x.field == of)) [
  | inl on ↦
      let known : has set_ids x.field ≡ true = ap (has set_ids) (eqb-true x.field of on) ∙ is in
      let small = low (natural x.value) in
      let same : min (ids (natural x.value)) 4294967295 ≡ ids (natural x.value) = omega (arith, small) in
      rw (known, on) (ap (λ n. record { kind = aps.ALF; id = n } ∷ named aps.ALF of (with_ids ids items)) same ∙ ap (λ ss. record { kind = aps.ALF; id = ids (natural x.value) } ∷ ss) (renamed_with of ids items low is))
  | inr off ↦ elim (cases_Bool (has set_ids x.field)) [
    | inl known ↦ rw (known, off) (renamed_with of ids items low is)
    | inr other ↦ rw (other, off) (renamed_with of ids items low is)
  ]
]

-- a filter has a header's items of its fields
filter_with : (of : ℕ) (items : List Item) → has alf.ALL of ≡ true → with_field of (filter_of items) ≡ with_field of items
filter_with of [] is = refl
filter_with of (x ∷ items) is = elim (cases_Bool (x.field == of)) [
  | inl on ↦ let shown : has alf.ALL x.field ≡ true = ap (has alf.ALL) (eqb-true x.field of on)
      ∙ is in rw (shown, on) (ap (λ xs. x ∷ xs) (filter_with of items is))
  | inr off ↦ elim (cases_Bool (has alf.ALL x.field)) [
    | inl shown ↦ rw (shown, off) (filter_with of items is)
    | inr hidden ↦ rw (hidden, off) (filter_with of items is)
  ]
]

-- ---- a set that is named is there, and has a body

found : (o : Option Aps) → is_none o ≡ false → (a : Aps) × (o ≡ Some a)
found None none = absurd (true≢false none)
found (Some a) some = (a, refl)

-- what is known of an item that names a set: its set is there, with a body that is one of some
record HasItsBody (q : Parts) (bodies : List (List ℕ)) (x : Item) : Type 0 where
  body : List ℕ
  at : body_of q aps.ALF (natural x.value) ≡ Some body
  is : HasBody bodies body

there_at : (q : Parts) (id : ℕ) → is_none (aps_at q.bodies aps.ALF id) ≡ false → (body : List ℕ) × (body_of q aps.ALF id ≡ Some body)
there_at q id some = let a = found (aps_at q.bodies aps.ALF id) some in (a.0.body, ap (option_map (λ (x : Aps). x.body)) a.1)

-- of luma each is
each_luma : (q : Parts) (items : List Item) → AreThere q.bodies (map (λ (x : Item). record { kind = aps.ALF; id = natural x.value }) items)
    → AllByRecursion (HasItsBody q (bodies_of q (map (λ (x : Item). record { kind = aps.ALF; id = natural x.value }) items))) items
each_luma q [] there = tt
each_luma q (x ∷ items) there =
    let here = there_at q (natural x.value) there.0 in
    let rest : List (List ℕ) = bodies_of q (map (λ (y : Item). record { kind = aps.ALF; id = natural y.value }) items) in
    let first : List (List ℕ) = option_to_list (body_of q aps.ALF (natural x.value)) in (
      record { body = here.0; at = here.1; is = body_first first rest here.0 (subst (λ o. HasBody (option_to_list o) here.0) (sym here.1) (inl refl)) },
      more first rest items (each_luma q items there.1),
    )
  where
    more : (first rest : List (List ℕ)) (items : List Item) → AllByRecursion (HasItsBody q rest) items
        → AllByRecursion (HasItsBody q (first ++ rest)) items
    more first rest [] all = tt
    more first rest (y ∷ items) all = (record { body = all.0.body; at = all.0.at; is = body_second first rest all.0.body all.0.is }, more first rest items all.1)

-- the only item of a field is the first
passes : (of : ℕ) (items : List Item) → AllByRecursion (λ (y : Item). (y.field == of) ≡ true) (with_field of items)
passes of [] = tt
passes of (y ∷ items) = elim (cases_Bool (y.field == of)) [ inl on ↦ rw on (on, passes of items) | inr off ↦ rw off (passes of items) ]

of_one : (of : ℕ) (items : List Item) (x : Item) → with_field of items ≡ x ∷ [] → first_value (x ∷ []) of ≡ Some x.value
of_one of items x are = let on : (x.field == of) ≡ true = (subst (λ ys. AllByRecursion (λ (y : Item). (y.field == of) ≡ true) ys) are (passes of items)).0 in rw on refl

-- of the others the only one
only_first : (q : Parts) (of : ℕ) (items xs : List Item) → with_field of items ≡ xs → length xs ≤ 1 → AreThere q.bodies (map (λ (x : Item). record { kind = aps.ALF; id = natural x.value }) xs)
    → AllByRecursion (HasItsBody q (option_to_list (named_body q aps.ALF of items))) xs
only_first q of items [] are few there = tt
only_first q of items (x ∷ y ∷ xs) are few there = absurd (omega (arith, few))
only_first q of items (x ∷ []) are few there =
    let here = there_at q (natural x.value) there.0 in
    let first : first_value items of ≡ Some x.value = first_with of items ∙ ap (λ ys. first_value ys of) are ∙ of_one of items x are in
    let body : named_body q aps.ALF of items ≡ Some here.0 = ap (option_and_then (λ id. body_of q aps.ALF (natural id))) first ∙ here.1 in
    (record { body = here.0; at = here.1; is = subst (λ o. HasBody (option_to_list o) here.0) (sym body) (inl refl) }, tt)

-- ---- sets that are needed

-- with the ids of their bodies
named_each : (q : Parts) (needed : List SetUnit) (ids : ℕ → ℕ) (own : List ℕ → ℕ) (bodies : List (List ℕ))
    → ((n : ℕ) → ids n ≡ own (unwrap_or (body_of q aps.ALF n) []))
    → ((body : List ℕ) → HasBody bodies body → HasSet needed (set_at aps.ALF (own body) body)) → (xs : List Item)
    → AllByRecursion (HasItsBody q bodies) xs → HaveNamed needed (slots_by aps.ALF ids xs)
named_each q needed ids own bodies told each [] all = tt
named_each q needed ids own bodies told each (x ∷ xs) all =
    let body : List ℕ = all.0.body in
    let id : ids (natural x.value) ≡ own body = told (natural x.value) ∙ ap (λ o. own (unwrap_or o [])) all.0.at in (
      (record { kind = aps.ALF; id = ids (natural x.value); body = body }, refl, refl, subst (λ n. HasSet needed (set_at aps.ALF n body)) (sym id) (each body all.0.is)),
      named_each q needed ids own bodies told each xs all.1,
    )

pub have_append : (needed : List SetUnit) (xs ys : List Slot) → HaveNamed needed xs → HaveNamed needed ys → HaveNamed needed (xs ++ ys)
have_append needed xs ys first second = Each-append (λ (slot : Slot). (a : Aps) × (a.kind ≡ slot.kind) × (a.id ≡ slot.id) × HasSet needed (an_aps a)) xs ys first second

pub there_front : (sets : List (Option Aps)) (xs ys : List Slot) → AreThere sets (xs ++ ys) → AreThere sets xs
there_front sets [] ys all = tt
there_front sets (x ∷ xs) ys all = (all.0, there_front sets xs ys all.1)

pub there_back : (sets : List (Option Aps)) (xs ys : List Slot) → AreThere sets (xs ++ ys) → AreThere sets ys
there_back sets [] ys all = all
there_back sets (x ∷ xs) ys all = there_back sets xs ys all.1

-- ---- the filter of a slice

module _ (q : Parts) (items : List Item) (there : AreThere q.bodies (named_filters items)) (needed : List SetUnit) (ids : ℕ → ℕ)
    (own : List ℕ → ℕ) (low : (n : ℕ) → ids n < 8) (told : (n : ℕ) → ids n ≡ own (unwrap_or (body_of q aps.ALF n) []))
    (each : (body : List ℕ) → HasBody (bodies_in (alf_of q items)) body → HasSet needed (set_at aps.ALF (own body) body))
    (once : NamesOnce (with_ids ids (filter_of items))) where
  abbrev luma : List Slot
  luma = named aps.ALF alf.alf_aps_id_luma items

  abbrev chroma : List Slot
  chroma = named aps.ALF alf.alf_aps_id_chroma items

  abbrev cb : List Slot
  cb = named aps.ALF alf.alf_cc_cb_aps_id items

  abbrev cr : List Slot
  cr = named aps.ALF alf.alf_cc_cr_aps_id items

  abbrev of_luma : List (List ℕ)
  of_luma = (alf_of q items).luma

  abbrev of_chroma : List (List ℕ)
  of_chroma = option_to_list (alf_of q items).chroma

  abbrev of_cb : List (List ℕ)
  of_cb = option_to_list (alf_of q items).cc_cb

  abbrev of_cr : List (List ℕ)
  of_cr = option_to_list (alf_of q items).cc_cr

  there_chroma : AreThere q.bodies chroma
  there_chroma = there_front q.bodies chroma (cb ++ cr) (there_back q.bodies luma (chroma ++ (cb ++ cr)) there)

  there_cb : AreThere q.bodies cb
  there_cb = there_front q.bodies cb cr (there_back q.bodies chroma (cb ++ cr) (there_back q.bodies luma (chroma ++ (cb ++ cr)) there))

  there_cr : AreThere q.bodies cr
  there_cr = there_back q.bodies cb cr (there_back q.bodies chroma (cb ++ cr) (there_back q.bodies luma (chroma ++ (cb ++ cr)) there))

  -- with other ids there are as many items
  as_many : (of : ℕ) → has set_ids of ≡ true → has alf.ALL of ≡ true
      → length (with_field of (with_ids ids (filter_of items))) ≤ 1 → length (with_field of items) ≤ 1
  as_many of known shown few =
      let slots : length (named aps.ALF of (with_ids ids (filter_of items))) ≡ length (with_field of (filter_of items)) = ap (λ ss. length ss) (renamed_with of ids (filter_of items) low known) ∙ length-map (with_field of (filter_of items)) (λ (x : Item). record { kind = aps.ALF; id = ids (natural x.value) }) in
      let all : length (named aps.ALF of (with_ids ids (filter_of items))) ≡ length (with_field of (with_ids ids (filter_of items))) = length-map (with_field of (with_ids ids (filter_of items))) (λ (x : Item). record { kind = aps.ALF; id = natural x.value }) in
      let shown_ = ap (λ xs. length xs) (filter_with of items shown) in
      omega (arith, slots, all, shown_, few)

  -- the slots of a field
  field_named : (of : ℕ) (bodies : List (List ℕ)) → has set_ids of ≡ true → has alf.ALL of ≡ true
      → ((body : List ℕ) → HasBody bodies body → HasBody (bodies_in (alf_of q items)) body)
      → AllByRecursion (HasItsBody q bodies) (with_field of items) → HaveNamed needed (named aps.ALF of (with_ids ids (filter_of items)))
  field_named of bodies known shown inside all =
      subst (HaveNamed needed) (sym (renamed_with of ids (filter_of items) low known ∙ ap (slots_by aps.ALF ids) (filter_with of items shown)))
      (named_each q needed ids own bodies told (λ body is. each body (inside body is)) (with_field of items) all)

  pub filter_named : HaveNamed needed (named_filters (with_ids ids (filter_of items)))
  unfolding fresh
  filter_named =
      have_append needed _ _
      (field_named alf.alf_aps_id_luma of_luma refl refl (λ body is. body_first of_luma (of_chroma ++ (of_cb ++ of_cr)) body is)
      (each_luma q (with_field alf.alf_aps_id_luma items) (there_front q.bodies luma (chroma ++ (cb ++ cr)) there)))
      (have_append needed _ _
      (field_named alf.alf_aps_id_chroma of_chroma refl refl (λ body is. body_second of_luma (of_chroma ++ (of_cb ++ of_cr)) body (body_first of_chroma (of_cb ++ of_cr) body is))
      (only_first q alf.alf_aps_id_chroma items (with_field alf.alf_aps_id_chroma items) refl (as_many alf.alf_aps_id_chroma refl refl once.chroma) there_chroma))
      (have_append needed _ _
      (field_named alf.alf_cc_cb_aps_id of_cb refl refl (λ body is. body_second of_luma (of_chroma ++ (of_cb ++ of_cr)) body (body_second of_chroma (of_cb ++ of_cr) body (body_first of_cb of_cr body is)))
      (only_first q alf.alf_cc_cb_aps_id items (with_field alf.alf_cc_cb_aps_id items) refl (as_many alf.alf_cc_cb_aps_id refl refl once.cb) there_cb))
      (field_named alf.alf_cc_cr_aps_id of_cr refl refl (λ body is. body_second of_luma (of_chroma ++ (of_cb ++ of_cr)) body (body_second of_chroma (of_cb ++ of_cr) body (body_second of_cb of_cr body is)))
      (only_first q alf.alf_cc_cr_aps_id items (with_field alf.alf_cc_cr_aps_id items) refl (as_many alf.alf_cc_cr_aps_id refl refl once.cr) there_cr))))

-- ---- the sets of the picture header

-- one item of a field names one set
one_named : (kind of id : ℕ) (items : List Item) (needed : List SetUnit) (body : List ℕ) → id < 8 → with_field of items ≡ item of id ∷ []
    → HasSet needed (set_at kind id body) → HaveNamed needed (named kind of items)
unfolding natural
one_named kind of id items needed body low same is =
    let whole : min id 4294967295 ≡ id = omega (arith, low) in
    subst (HaveNamed needed) (sym (ap (map (λ (x : Item). record { kind = kind; id = natural x.value })) same ∙ ap (λ n. record { kind = kind; id = n } ∷ []) whole))
    ((record { kind = kind; id = id; body = body }, refl, refl, is), tt)

none_named : (kind of : ℕ) (items : List Item) (needed : List SetUnit) → with_field of items ≡ [] → HaveNamed needed (named kind of items)
none_named kind of items needed none = subst (λ xs. HaveNamed needed (map (λ (x : Item). record { kind = kind; id = natural x.value }) xs)) (sym none) tt

-- what is said of LMCS has no id of scaling lists, and the other way round
lmcs_aside : (format : ℕ) (lmcs : Option LmcsShape) → with_field ph.ph_scaling_list_aps_id (ph_reshaped.lmcs_said format lmcs) ≡ []
lmcs_aside format None = refl
lmcs_aside format (Some lmcs) = elim (cases_Bool (is_set format)) [ inl on ↦ rw on refl | inr off ↦ rw off refl ]

scaling_aside : (scaling : Option ℕ) → with_field ph.ph_lmcs_aps_id (ph_reshaped.scaling_said scaling) ≡ []
scaling_aside None = refl
scaling_aside (Some id) = refl

lmcs_with : (format : ℕ) (lmcs : LmcsShape)
    → with_field ph.ph_lmcs_aps_id (ph_reshaped.lmcs_said format (Some lmcs)) ≡ item ph.ph_lmcs_aps_id lmcs.id ∷ []
lmcs_with format lmcs = elim (cases_Bool (is_set format)) [ inl on ↦ rw on refl | inr off ↦ rw off refl ]

none_where : (of : ℕ) (b : Bool) (xs : List Item) → with_field of xs ≡ [] → with_field of (where_so b xs) ≡ []
none_where of true xs none = none
none_where of false xs none = refl

-- of all that is stated
pub lmcs_stated : (s : List Item) (shape : PhShape)
    → with_field ph.ph_lmcs_aps_id (ph_reshaped.stated_ph_items s shape) ≡ with_field ph.ph_lmcs_aps_id (where_so (is_set (number s sps_fields.sps_lmcs_enabled_flag)) (ph_reshaped.lmcs_said (number s sps_fields.sps_chroma_format_idc) shape.lmcs))
lmcs_stated s shape = with_first ph.ph_lmcs_aps_id (where_so (is_set (number s sps_fields.sps_lmcs_enabled_flag)) (ph_reshaped.lmcs_said (number s sps_fields.sps_chroma_format_idc) shape.lmcs))
    (where_so (is_set (number s sps_fields.sps_explicit_scaling_list_enabled_flag)) (ph_reshaped.scaling_said shape.scaling))
    (none_where ph.ph_lmcs_aps_id (is_set (number s sps_fields.sps_explicit_scaling_list_enabled_flag)) (ph_reshaped.scaling_said shape.scaling) (scaling_aside shape.scaling))

pub scaling_stated : (s : List Item) (shape : PhShape)
    → with_field ph.ph_scaling_list_aps_id (ph_reshaped.stated_ph_items s shape) ≡ with_field ph.ph_scaling_list_aps_id (where_so (is_set (number s sps_fields.sps_explicit_scaling_list_enabled_flag)) (ph_reshaped.scaling_said shape.scaling))
scaling_stated s shape = with_second ph.ph_scaling_list_aps_id (where_so (is_set (number s sps_fields.sps_lmcs_enabled_flag)) (ph_reshaped.lmcs_said (number s sps_fields.sps_chroma_format_idc) shape.lmcs))
    (where_so (is_set (number s sps_fields.sps_explicit_scaling_list_enabled_flag)) (ph_reshaped.scaling_said shape.scaling))
    (none_where ph.ph_scaling_list_aps_id (is_set (number s sps_fields.sps_lmcs_enabled_flag)) (ph_reshaped.lmcs_said (number s sps_fields.sps_chroma_format_idc) shape.lmcs) (lmcs_aside (number s sps_fields.sps_chroma_format_idc) shape.lmcs))

-- where a set is said, it is one that is needed
pub lmcs_named : (b : Bool) (format : ℕ) (lmcs : Option LmcsShape) (items : List Item) (needed : List SetUnit)
    → with_field ph.ph_lmcs_aps_id items ≡ with_field ph.ph_lmcs_aps_id (where_so b (ph_reshaped.lmcs_said format lmcs))
    → ((shape : LmcsShape) → lmcs ≡ Some shape → (shape.id < 8) × ((body : List ℕ) × HasSet needed (set_at aps.LMCS shape.id body)))
    → HaveNamed needed (named aps.LMCS ph.ph_lmcs_aps_id items)
lmcs_named false format lmcs items needed same each = none_named aps.LMCS ph.ph_lmcs_aps_id items needed same
lmcs_named true format None items needed same each = none_named aps.LMCS ph.ph_lmcs_aps_id items needed same
lmcs_named true format (Some shape) items needed same each =
    let is = each shape refl in
    one_named aps.LMCS ph.ph_lmcs_aps_id shape.id items needed is.1.0 is.0 (same ∙ lmcs_with format shape) is.1.1

pub scaling_named : (b : Bool) (scaling : Option ℕ) (items : List Item) (needed : List SetUnit)
    → with_field ph.ph_scaling_list_aps_id items ≡ with_field ph.ph_scaling_list_aps_id (where_so b (ph_reshaped.scaling_said scaling))
    → ((id : ℕ) → scaling ≡ Some id → (id < 8) × ((body : List ℕ) × HasSet needed (set_at aps.SCALING id body)))
    → HaveNamed needed (named aps.SCALING ph.ph_scaling_list_aps_id items)
scaling_named false scaling items needed same each = none_named aps.SCALING ph.ph_scaling_list_aps_id items needed same
scaling_named true None items needed same each = none_named aps.SCALING ph.ph_scaling_list_aps_id items needed same
scaling_named true (Some id) items needed same each = let is = each id refl in one_named aps.SCALING ph.ph_scaling_list_aps_id id items needed is.1.0 is.0 same is.1.1

-- ---- the filter of a written slice header

-- but for the filter nothing that is stated is of its fields
abbrev is_apart : ℕ → Bool
is_apart f = nat_lt 690 f

filter_stated : (of : ℕ) (n : SliceNumbers) (shape : ShShape) → is_apart of ≡ false
    → with_field of (sh_reshaped.stated_sh_items n shape) ≡ with_field of (where_so (is_set (number n.sps.now sps_fields.sps_alf_enabled_flag)) shape.filter.now)
filter_stated of n shape fails =
    let first : List Item = sh_reshaped.sh_subpic_id_items n.sps.now shape.subpic_id in
    let filter_ : List Item = where_so (is_set (number n.sps.now sps_fields.sps_alf_enabled_flag)) shape.filter.now in
    let uses : List Item = sh_reshaped.use_items n.header.now.fields shape.uses_lmcs shape.uses_scaling in
    let qp : List Item = sh_reshaped.qp_items shape.qp_delta in
    with_second of first ((filter_ ++ uses) ++ qp) (lacks is_apart of first fails (refl, passing_where is_apart (is_set (number n.sps.now sps_fields.sps_subpic_info_present_flag)) (item 701 shape.subpic_id ∷ []) (refl, tt)))
    ∙ with_first of (filter_ ++ uses) qp (lacks is_apart of qp fails (refl, tt))
    ∙ with_first of filter_ uses (lacks is_apart of uses fails
    (passing_append is_apart (where_so (is_set (number n.header.now.fields ph.ph_lmcs_enabled_flag)) (item 706 (one_if shape.uses_lmcs) ∷ [])) (where_so (is_set (number n.header.now.fields ph.ph_explicit_scaling_list_enabled_flag)) (item 707 (one_if shape.uses_scaling) ∷ []))
    (passing_where is_apart (is_set (number n.header.now.fields ph.ph_lmcs_enabled_flag)) (item 706 (one_if shape.uses_lmcs) ∷ []) (refl, tt))
    (passing_where is_apart (is_set (number n.header.now.fields ph.ph_explicit_scaling_list_enabled_flag)) (item 707 (one_if shape.uses_scaling) ∷ []) (refl, tt))))

same_slots : (of : ℕ) (items others : List Item) → with_field of items ≡ with_field of others
    → named aps.ALF of items ≡ named aps.ALF of others
same_slots of items others same = ap (slots_by aps.ALF (λ n. n)) same

-- a written header names the sets of its filter, where there is one
same_filters : (items others : List Item)
    → ((of : ℕ) → is_apart of ≡ false → has kept_fields of ≡ false → with_field of items ≡ with_field of others)
    → named_filters items ≡ named_filters others
unfolding fresh
same_filters items others same =
    rw (
      same_slots alf.alf_aps_id_luma items others (same alf.alf_aps_id_luma refl refl),
      same_slots alf.alf_aps_id_chroma items others (same alf.alf_aps_id_chroma refl refl),
      same_slots alf.alf_cc_cb_aps_id items others (same alf.alf_cc_cb_aps_id refl refl),
      same_slots alf.alf_cc_cr_aps_id items others (same alf.alf_cc_cr_aps_id refl refl),
    ) refl

pub filter_written : (n : SliceNumbers) (shape : ShShape) (source written : List Item) → sh_reshaped.AreReshapedInSliceHeader source shape n written
    → named_filters written ≡ named_filters (where_so (is_set (number n.sps.now sps_fields.sps_alf_enabled_flag)) shape.filter.now)
filter_written n shape source written re =
    same_filters written (where_so (is_set (number n.sps.now sps_fields.sps_alf_enabled_flag)) shape.filter.now)
    (λ of aside outside. sym (others_with kept_fields of written outside) ∙ ap (with_field of) re.others ∙ filter_stated of n shape aside)
