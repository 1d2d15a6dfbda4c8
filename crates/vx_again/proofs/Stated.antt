-- What the headers of a merged picture say of filters, of LMCS and of scaling lists, field by field.
use Rattle.std.proofs.Common.{◌≡◌, ℕ, pos, ◌<◌, ◌^◌, ◌==◌, ◌&&◌, Bool, true, false, cond, not, List, [], ◌∷◌, ◌++◌, Option, Some, None}
use Rattle.std.proofs.Common.{refl, ap, sym, ◌∙◌, arith}
use Rattle.vx_bits.specs.declared.list.Item.{Item}
use Rattle.vx_bits.specs.Fields.{first_value}
use Rattle.vx_fields.specs.declared.alf.TheConstants as alf
use Rattle.vx_fields.specs.declared.ph.TheConstants as ph
use Rattle.vx_fields.specs.declared.sh.TheConstants as sh
use Rattle.vx_fields.specs.declared.sps.TheConstants as sps
use Rattle.vx_table.specs.Depends.{has}
use Rattle.vx_table.specs.Loaded.{number}
use Rattle.vx_table.specs.Rewritten.{other_items}
use Rattle.vx_table.specs.Scope.{fresh, is_set, one_if}
use Rattle.vx_table.proofs.With.{first_with, lacks, no_number, one_number, others_with}
use Rattle.vx_table.proofs.With.{passing_append, passing_where, with_field, with_first, with_second}
use Rattle.vx_sps.specs.Reshaped.{item}
use Rattle.vx_table.specs.Rewritten.{where_so}
use Rattle.vx_ph.specs.Depends.{kept_ph_fields}
use Rattle.vx_ph.specs.Reshaped as header
use Rattle.vx_ph.specs.Reshaped.{lmcs_said, scaling_said}
use Rattle.vx_ph.specs.declared.shape.LmcsShape.{LmcsShape}
use Rattle.vx_ph.specs.declared.shape.PhShape.{PhShape}
use Rattle.vx_sh.specs.declared.numbers.SliceNumbers.{SliceNumbers}
use Rattle.vx_sh.specs.declared.shape.ShShape.{ShShape}
use Rattle.vx_sh.specs.Depends.{kept_fields}
use Rattle.vx_sh.specs.Reshaped as slice
use Rattle.vx_sh.specs.Reshaped.{stated_filter_items, sh_subpic_id_items, qp_items, use_items}

-- ---- flags

flag_of : (b : Bool) → is_set (one_if b) ≡ b
flag_of true = refl
flag_of false = refl

small_flag : (b : Bool) → one_if b < 2 ^ 32
small_flag true = omega arith
small_flag false = omega arith

none_where : (of : ℕ) (b : Bool) (xs : List Item) → with_field of xs ≡ [] → with_field of (where_so b xs) ≡ []
none_where of true xs none = none
none_where of false xs none = refl

-- ---- slices

module _ (n : SliceNumbers) (shape : ShShape) where
  abbrev ids : List Item
  ids = sh_subpic_id_items n.sps.now shape.subpic_id

  abbrev filters : List Item
  filters = stated_filter_items n.sps.now shape.filter.now

  abbrev uses : List Item
  uses = use_items n.header.now.fields shape.uses_lmcs shape.uses_scaling

  abbrev qp : List Item
  qp = qp_items shape.qp_delta

  -- a field of a filter
  abbrev beside : ℕ → Bool
  beside f = not (has alf.ALL f)

  pub filter_stated : (of : ℕ) → has alf.ALL of ≡ true → with_field of (slice.stated_sh_items n shape) ≡ with_field of filters
  unfolding fresh
  filter_stated of is =
      let out : beside of ≡ false = ap not is in
      let described = is_set (number n.sps.now sps.sps_subpic_info_present_flag) in
      let none_ids : with_field of ids ≡ []
      = lacks beside of ids out (refl, passing_where beside described (item sh.sh_subpic_id shape.subpic_id ∷ []) (refl, tt)) in
      let has_lmcs = is_set (number n.header.now.fields ph.ph_lmcs_enabled_flag) in
      let has_scaling = is_set (number n.header.now.fields ph.ph_explicit_scaling_list_enabled_flag) in
      let none_uses : with_field of uses ≡ [] = lacks beside of uses out (passing_append beside _ _
      (passing_where beside has_lmcs (item sh.sh_lmcs_used_flag (one_if shape.uses_lmcs) ∷ []) (refl, tt))
      (passing_where beside has_scaling (item sh.sh_explicit_scaling_list_used_flag (one_if shape.uses_scaling) ∷ []) (refl, tt))) in
      let none_qp : with_field of qp ≡ [] = lacks beside of qp out (refl, tt) in
      with_second of ids ((filters ++ uses) ++ qp) none_ids ∙ with_first of (filters ++ uses) qp none_qp ∙ with_first of filters uses none_uses

  -- whether it uses LMCS, and scaling lists, where the picture header has them
  uses_stated : (of : ℕ) → (sh.sh_picture_header_in_slice_header_flag == of) ≡ false → (sh.sh_subpic_id == of) ≡ false
      → (sh.sh_qp_delta == of) ≡ false
      → with_field of shape.filter.now ≡ [] → with_field of (slice.stated_sh_items n shape) ≡ with_field of uses
  uses_stated of inside id delta none =
      let described = is_set (number n.sps.now sps.sps_subpic_info_present_flag) in
      let enabled = is_set (number n.sps.now sps.sps_alf_enabled_flag) in
      let none_ids : with_field of ids ≡ [] = rw inside (none_where of described (item sh.sh_subpic_id shape.subpic_id ∷ []) (rw id refl)) in
      let none_qp : with_field of qp ≡ [] = rw delta refl in
      with_second of ids ((filters ++ uses) ++ qp) none_ids ∙ with_first of (filters ++ uses) qp none_qp
      ∙ with_second of filters uses (none_where of enabled shape.filter.now none)

used_lmcs : (l e a b : Bool)
    → with_field sh.sh_lmcs_used_flag
    (where_so l (item sh.sh_lmcs_used_flag (one_if a) ∷ []) ++ where_so e (item sh.sh_explicit_scaling_list_used_flag (one_if b) ∷ []))
    ≡ where_so l (item sh.sh_lmcs_used_flag (one_if a) ∷ [])
used_lmcs true true a b = refl
used_lmcs true false a b = refl
used_lmcs false true a b = refl
used_lmcs false false a b = refl

used_scaling : (l e a b : Bool)
    → with_field sh.sh_explicit_scaling_list_used_flag
    (where_so l (item sh.sh_lmcs_used_flag (one_if a) ∷ []) ++ where_so e (item sh.sh_explicit_scaling_list_used_flag (one_if b) ∷ []))
    ≡ where_so e (item sh.sh_explicit_scaling_list_used_flag (one_if b) ∷ [])
used_scaling true true a b = refl
used_scaling true false a b = refl
used_scaling false true a b = refl
used_scaling false false a b = refl

-- a flag that stands where another is set counts with that one
flag_where : (of : ℕ) (fields : List Item) (on b : Bool) → of < 1024 → with_field of fields ≡ where_so on (item of (one_if b) ∷ [])
    → (on && is_set (number fields of)) ≡ (on && b)
flag_where of fields false b low same = refl
flag_where of fields true b low same = ap is_set (one_number of (one_if b) fields low (small_flag b) same) ∙ flag_of b

module _ (n : SliceNumbers) (shape : ShShape) (fields : List Item) (others : other_items kept_fields fields ≡ slice.stated_sh_items n shape) where
  pub filter_with : (of : ℕ) → has alf.ALL of ≡ true → has kept_fields of ≡ false
      → with_field of fields ≡ with_field of (stated_filter_items n.sps.now shape.filter.now)
  filter_with of is starred =
      sym (others_with kept_fields of fields starred) ∙ ap (with_field of) others ∙ filter_stated n shape of is

  pub lmcs_used : with_field sh.sh_lmcs_used_flag shape.filter.now ≡ []
      → (is_set (number n.header.now.fields ph.ph_lmcs_enabled_flag) && is_set (number fields sh.sh_lmcs_used_flag))
      ≡ (is_set (number n.header.now.fields ph.ph_lmcs_enabled_flag) && shape.uses_lmcs)
  unfolding fresh
  lmcs_used none =
      let of = sh.sh_lmcs_used_flag in
      let on = is_set (number n.header.now.fields ph.ph_lmcs_enabled_flag) in
      let on_lists = is_set (number n.header.now.fields ph.ph_explicit_scaling_list_enabled_flag) in
      flag_where of fields on shape.uses_lmcs (omega arith)
      (sym (others_with kept_fields of fields refl) ∙ ap (with_field of) others ∙ uses_stated n shape of refl refl refl none
      ∙ used_lmcs on on_lists shape.uses_lmcs shape.uses_scaling)

  pub scaling_used : with_field sh.sh_explicit_scaling_list_used_flag shape.filter.now ≡ []
      → (is_set (number n.header.now.fields ph.ph_explicit_scaling_list_enabled_flag)
      && is_set (number fields sh.sh_explicit_scaling_list_used_flag))
      ≡ (is_set (number n.header.now.fields ph.ph_explicit_scaling_list_enabled_flag) && shape.uses_scaling)
  unfolding fresh
  scaling_used none =
      let of = sh.sh_explicit_scaling_list_used_flag in
      let on = is_set (number n.header.now.fields ph.ph_lmcs_enabled_flag) in
      let on_lists = is_set (number n.header.now.fields ph.ph_explicit_scaling_list_enabled_flag) in
      flag_where of fields on_lists shape.uses_scaling (omega arith)
      (sym (others_with kept_fields of fields refl) ∙ ap (with_field of) others ∙ uses_stated n shape of refl refl refl none
      ∙ used_scaling on on_lists shape.uses_lmcs shape.uses_scaling)

-- ---- the picture header

-- what is said of scaling lists has none of these fields, nor what is said of LMCS of those
aside_scaling : (of : ℕ) (scaling : Option ℕ) → (ph.ph_explicit_scaling_list_enabled_flag == of) ≡ false
    → (ph.ph_scaling_list_aps_id == of) ≡ false
    → with_field of (scaling_said scaling) ≡ []
aside_scaling of None one two = rw one refl
aside_scaling of (Some id) one two = rw (one, two) refl

aside_lmcs : (of chroma : ℕ) (lmcs : Option LmcsShape) → (ph.ph_lmcs_enabled_flag == of) ≡ false → (ph.ph_lmcs_aps_id == of) ≡ false
    → (ph.ph_chroma_residual_scale_flag == of) ≡ false → with_field of (lmcs_said chroma lmcs) ≡ []
aside_lmcs of chroma None one two three = rw one refl
aside_lmcs of chroma (Some lmcs) one two three =
    rw (one, two) (none_where of (is_set chroma) (item ph.ph_chroma_residual_scale_flag (one_if lmcs.scales_chroma) ∷ []) (rw three refl))

module _ (s fields : List Item) (shape : PhShape) (others : other_items kept_ph_fields fields ≡ header.stated_ph_items s shape) where
  abbrev chroma : ℕ
  chroma = number s sps.sps_chroma_format_idc

  abbrev maps : List Item
  maps = where_so (is_set (number s sps.sps_lmcs_enabled_flag)) (lmcs_said chroma shape.lmcs)

  abbrev lists : List Item
  lists = where_so (is_set (number s sps.sps_explicit_scaling_list_enabled_flag)) (scaling_said shape.scaling)

  with_maps : (of : ℕ) → has kept_ph_fields of ≡ false → (ph.ph_pic_parameter_set_id == of) ≡ false
      → with_field of fields ≡ with_field of (maps ++ lists)
  with_maps of starred beside =
      sym (others_with kept_ph_fields of fields starred) ∙ ap (with_field of) others
      ∙ ap (λ b. cond b (item ph.ph_pic_parameter_set_id shape.pps_id ∷ with_field of (maps ++ lists)) (with_field of (maps ++ lists))) beside

  -- a field of LMCS, and one of scaling lists
  in_maps : (of : ℕ) → has kept_ph_fields of ≡ false → (ph.ph_pic_parameter_set_id == of) ≡ false
      → (ph.ph_explicit_scaling_list_enabled_flag == of) ≡ false
      → (ph.ph_scaling_list_aps_id == of) ≡ false → with_field of fields ≡ with_field of maps
  in_maps of starred beside one two =
      with_maps of starred beside ∙ with_first of maps lists
      (none_where of (is_set (number s sps.sps_explicit_scaling_list_enabled_flag)) (scaling_said shape.scaling)
      (aside_scaling of shape.scaling one two))

  in_lists : (of : ℕ) → has kept_ph_fields of ≡ false → (ph.ph_pic_parameter_set_id == of) ≡ false → (ph.ph_lmcs_enabled_flag == of) ≡ false
      → (ph.ph_lmcs_aps_id == of) ≡ false → (ph.ph_chroma_residual_scale_flag == of) ≡ false → with_field of fields ≡ with_field of lists
  in_lists of starred beside one two three =
      with_maps of starred beside ∙ with_second of maps lists
      (none_where of (is_set (number s sps.sps_lmcs_enabled_flag)) (lmcs_said chroma shape.lmcs) (aside_lmcs of chroma shape.lmcs one two three))

  -- ---- LMCS

  pub lmcs_off : shape.lmcs ≡ None → is_set (number fields ph.ph_lmcs_enabled_flag) ≡ false
  unfolding fresh
  lmcs_off none =
      let of = ph.ph_lmcs_enabled_flag in
      off (is_set (number s sps.sps_lmcs_enabled_flag))
      (in_maps of refl refl refl refl
      ∙ ap (λ o. with_field of (where_so (is_set (number s sps.sps_lmcs_enabled_flag)) (lmcs_said chroma o))) none)
    where
      off : (b : Bool) → with_field ph.ph_lmcs_enabled_flag fields
          ≡ with_field ph.ph_lmcs_enabled_flag (where_so b (item ph.ph_lmcs_enabled_flag 0 ∷ []))
          → is_set (number fields ph.ph_lmcs_enabled_flag) ≡ false
      off true same = ap is_set (one_number ph.ph_lmcs_enabled_flag 0 fields (omega arith) (omega arith) same)
      off false same = ap is_set (no_number ph.ph_lmcs_enabled_flag fields same)

  module _ (enabled : is_set (number s sps.sps_lmcs_enabled_flag) ≡ true) (lmcs : LmcsShape) (is : shape.lmcs ≡ Some lmcs) where
    said : (of : ℕ) → has kept_ph_fields of ≡ false → (ph.ph_pic_parameter_set_id == of) ≡ false
        → (ph.ph_explicit_scaling_list_enabled_flag == of) ≡ false
        → (ph.ph_scaling_list_aps_id == of) ≡ false → with_field of fields ≡ with_field of (lmcs_said chroma (Some lmcs))
    said of starred beside one two =
        in_maps of starred beside one two ∙ ap (λ b. with_field of (where_so b (lmcs_said chroma shape.lmcs))) enabled
        ∙ ap (λ o. with_field of (lmcs_said chroma o)) is

    abbrev scales : List Item
    scales = item ph.ph_chroma_residual_scale_flag (one_if lmcs.scales_chroma) ∷ []

    pub lmcs_on : is_set (number fields ph.ph_lmcs_enabled_flag) ≡ true
    unfolding fresh
    lmcs_on =
        let of = ph.ph_lmcs_enabled_flag in
        ap is_set (one_number of 1 fields (omega arith) (omega arith)
        (said of refl refl refl refl ∙ ap (λ xs. item of 1 ∷ xs) (none_where of (is_set chroma) scales refl)))

    pub lmcs_id : first_value fields ph.ph_lmcs_aps_id ≡ Some (pos lmcs.id)
    unfolding fresh
    lmcs_id =
        let of = ph.ph_lmcs_aps_id in
        first_with of fields
        ∙ ap (λ xs. first_value xs of)
        (said of refl refl refl refl ∙ ap (λ xs. item of lmcs.id ∷ xs) (none_where of (is_set chroma) scales refl))

    -- whether chroma residuals are scaled, where there is chroma
    pub chroma_is : (is_set chroma ≡ false → lmcs.scales_chroma ≡ false)
        → is_set (number fields ph.ph_chroma_residual_scale_flag) ≡ lmcs.scales_chroma
    unfolding fresh
    chroma_is gray = by (is_set chroma) refl (said ph.ph_chroma_residual_scale_flag refl refl refl refl)
      where
        by : (b : Bool) → is_set chroma ≡ b → with_field ph.ph_chroma_residual_scale_flag fields
            ≡ with_field ph.ph_chroma_residual_scale_flag (where_so b scales)
            → is_set (number fields ph.ph_chroma_residual_scale_flag) ≡ lmcs.scales_chroma
        by true on same =
            ap is_set
            (one_number ph.ph_chroma_residual_scale_flag (one_if lmcs.scales_chroma) fields (omega arith) (small_flag lmcs.scales_chroma) same)
            ∙ flag_of lmcs.scales_chroma
        by false off same = ap is_set (no_number ph.ph_chroma_residual_scale_flag fields same) ∙ sym (gray off)

  -- ---- scaling lists

  pub scaling_off : shape.scaling ≡ None → is_set (number fields ph.ph_explicit_scaling_list_enabled_flag) ≡ false
  unfolding fresh
  scaling_off none =
      let of = ph.ph_explicit_scaling_list_enabled_flag in
      off (is_set (number s sps.sps_explicit_scaling_list_enabled_flag))
      (in_lists of refl refl refl refl refl
      ∙ ap (λ o. with_field of (where_so (is_set (number s sps.sps_explicit_scaling_list_enabled_flag)) (scaling_said o))) none)
    where
      off : (b : Bool) → with_field ph.ph_explicit_scaling_list_enabled_flag fields
          ≡ with_field ph.ph_explicit_scaling_list_enabled_flag (where_so b (item ph.ph_explicit_scaling_list_enabled_flag 0 ∷ []))
          → is_set (number fields ph.ph_explicit_scaling_list_enabled_flag) ≡ false
      off true same = ap is_set (one_number ph.ph_explicit_scaling_list_enabled_flag 0 fields (omega arith) (omega arith) same)
      off false same = ap is_set (no_number ph.ph_explicit_scaling_list_enabled_flag fields same)

  module _ (enabled : is_set (number s sps.sps_explicit_scaling_list_enabled_flag) ≡ true) (id : ℕ) (is : shape.scaling ≡ Some id) where
    lists_said : (of : ℕ) → has kept_ph_fields of ≡ false → (ph.ph_pic_parameter_set_id == of) ≡ false
        → (ph.ph_lmcs_enabled_flag == of) ≡ false
        → (ph.ph_lmcs_aps_id == of) ≡ false → (ph.ph_chroma_residual_scale_flag == of) ≡ false
        → with_field of fields ≡ with_field of (scaling_said (Some id))
    lists_said of starred beside one two three =
        in_lists of starred beside one two three ∙ ap (λ b. with_field of (where_so b (scaling_said shape.scaling))) enabled
        ∙ ap (λ o. with_field of (scaling_said o)) is

    pub scaling_on : is_set (number fields ph.ph_explicit_scaling_list_enabled_flag) ≡ true
    unfolding fresh
    scaling_on =
        let of = ph.ph_explicit_scaling_list_enabled_flag in
        ap is_set (one_number of 1 fields (omega arith) (omega arith) (lists_said of refl refl refl refl refl))

    pub scaling_id : first_value fields ph.ph_scaling_list_aps_id ≡ Some (pos id)
    unfolding fresh
    scaling_id =
        let of = ph.ph_scaling_list_aps_id in
        first_with of fields ∙ ap (λ xs. first_value xs of) (lists_said of refl refl refl refl refl)
