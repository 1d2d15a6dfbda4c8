-- The filter of a slice, with the ids that its bodies take.
use Rattle.std.proofs.Common.{◌≡◌, ℕ, zero, suc, ◌+◌, ◌<◌, ◌≤◌, true, false, cond, List, [], ◌∷◌, ◌++◌, length, take, drop, slice_get, slice_index, Some, unwrap_or, refl, ap, sym, subst, ◌∙◌, inl, inr, arith}
use Rattle.std.proofs.lemmas.Bool.{cases_Bool, cases_lt, eqb-true, not-false}
use Rattle.std.proofs.lemmas.List.{append-nil, drop_all, map-append, take_all}
use Rattle.std.proofs.lemmas.List.Elements.{filter_more}
use Rattle.std.proofs.lemmas.Option.{none-some, slice_get_within, get_or_from_slice_get}
use Rattle.vx_bits.specs.declared.list.Item.{Item}
use Rattle.vx_fields.specs.declared.pps.TheConstants.{pps_alf_info_in_ph_flag}
use Rattle.vx_fields.specs.declared.sps.TheConstants.{sps_alf_enabled_flag, sps_ccalf_enabled_flag, sps_chroma_format_idc}
use Rattle.vx_table.specs.Depends.{Agree, has}
use Rattle.vx_table.specs.Forms.{form_of}
use Rattle.vx_table.specs.Loaded.{number}
use Rattle.vx_table.specs.Rewrites.{Takes}
use Rattle.vx_table.specs.Scope.{fresh, is_set}
use Rattle.vx_table.specs.Shown.{shown_items}
use Rattle.vx_ph.specs.declared.tables.TheConstants.{ALF}
use Rattle.vx_ph.specs.Depends.{kept_for_starred}
use Rattle.vx_ph.specs.Filter.{filter_of, with_ids}
use Rattle.vx_ph.specs.InForce.{in_force, structures}
use Rattle.vx_ph.specs.Picture.{IsHeader}
use Rattle.vx_ph.specs.Reshaped.{HaveSameKept}
use Rattle.vx_ph.proofs.Filtering.{header_has_filter}
use Rattle.vx_ph.proofs.Renaming.{filter_goes_again}
use Rattle.vx_ph.proofs.Same.{same_kept_agree}
use Rattle.vx_ph.proofs.Sets.{in_force_length, of_pps, of_sps}
use Rattle.vx_sh.specs.declared.header.SliceHeader.{SliceHeader as SliceValue}
use Rattle.vx_sh.specs.laws.Filter.{SliceHasFilter}
use Rattle.vx_sh.proofs.SameScopes.{pps_told, sps_told}
use Rattle.vx_sh.proofs.Scopes.{slice_scopes_are_whole}
use Rattle.vx_pic.specs.Parts.{IsReadAt, Parts, read_of}
use Rattle.vx_pic.specs.Resident.{same_bytes}
use Rattle.vx_pic.specs.Sets.{filter_items}
use Rattle.vx_sh.specs.InForce.{at_sets}
use Rattle.vx_pic.specs.Written.{Set, SetUnit}
use Rattle.vx_merge.specs.Needed.{id_of_body}
use Rattle.vx_merge.specs.Slots.{IsHeld, TakeSlots}

-- ---- the id of a body

id_at : (bodies : List (List ℕ)) (ids : List ℕ) (body : List ℕ) (i : ℕ) (b : List ℕ) → slice_get bodies i ≡ Some b → i < length ids
    → id_of_body (drop i bodies) (drop i ids) body ≡ cond (same_bytes b body) (slice_index ids i)
    (id_of_body (drop (suc i) bodies) (drop (suc i) ids) body)
id_at [] ids body i b at short = absurd (none-some b at)
id_at (x ∷ bodies) [] body i b at short = absurd (omega (arith, short))
id_at (x ∷ bodies) (n ∷ ids) body zero b at short = ap (λ z. cond (same_bytes z body) n (id_of_body bodies ids body))
    (ap (λ o. unwrap_or o x) at)
id_at (x ∷ bodies) (n ∷ ids) body (suc i) b at short = id_at bodies ids body i b at (omega (arith, short))

pub id_found : (bodies : List (List ℕ)) (ids : List ℕ) (body : List ℕ) (i : ℕ) (b : List ℕ) → slice_get bodies i ≡ Some b
    → i < length ids → same_bytes b body ≡ true
    → id_of_body (drop i bodies) (drop i ids) body ≡ id_of_body bodies ids body → slice_index ids i ≡ id_of_body bodies ids body
id_found bodies ids body i b at short same is =
    sym (sym is ∙ (id_at bodies ids body i b at short ∙ ap (λ t. cond t (slice_index ids i)
    (id_of_body (drop (suc i) bodies) (drop (suc i) ids) body)) same))

pub id_passed : (bodies : List (List ℕ)) (ids : List ℕ) (body : List ℕ) (i : ℕ) (b : List ℕ) → slice_get bodies i ≡ Some b
    → i < length ids → same_bytes b body ≡ false
    → id_of_body (drop i bodies) (drop i ids) body ≡ id_of_body bodies ids body → id_of_body (drop (i + 1) bodies) (drop (i + 1) ids) body ≡ id_of_body
    bodies ids body
id_passed bodies ids body i b at short other is =
    let next : suc i ≡ i + 1 = omega arith in
    let here : id_of_body (drop (suc i) bodies) (drop (suc i) ids) body ≡ id_of_body bodies ids body =
    sym (ap (λ t. cond t (slice_index ids i) (id_of_body (drop (suc i) bodies) (drop (suc i) ids) body)) other)
    ∙ (sym (id_at bodies ids body i b at short) ∙ is) in
    subst (λ n. id_of_body (drop n bodies) (drop n ids) body ≡ id_of_body bodies ids body) next here

pub id_none : (bodies : List (List ℕ)) (ids : List ℕ) (body : List ℕ) (i : ℕ) → length bodies ≤ i
    → id_of_body (drop i bodies) (drop i ids) body ≡ id_of_body bodies ids body → 0 ≡ id_of_body bodies ids body
id_none bodies ids body i past is = sym (ap (λ bs. id_of_body bs (drop i ids) body) (drop_all i bodies past)) ∙ is

-- ---- it is below the number of ids

pub slots_low : (count n t : ℕ) (sent : List SetUnit) (at : ℕ → ℕ → Set) (slots : List ℕ) → TakeSlots count n t sent at slots → (k : ℕ)
    → k < length slots → slice_index slots k < count
slots_low count n t sent at slots taken k short =
    let one_each = taken.one_each in
    let within : k < n = omega (arith, short, one_each) in
    elim (cases_lt (slice_index slots k) count) [
      | inl low ↦ low
      | inr past ↦
          let none : ¬ IsHeld count n t sent at k = λ held. let low = (taken.held k within held).in_range in absurd
          (omega (arith, low, past)) in
          elim (taken.others k within none) [
            | inl fresh_one ↦ fresh_one.in_range
            | inr free ↦ free.1.in_range
          ]
    ]

pub id_low : (bodies : List (List ℕ)) (ids : List ℕ) (body : List ℕ) (count : ℕ) → 0 < count → ((k : ℕ) → k < length ids
    → slice_index ids k < count) → id_of_body bodies ids body < count
id_low [] ids body count some low = some
id_low (b ∷ bodies) [] body count some low = some
id_low (b ∷ bodies) (id ∷ ids) body count some low = elim (cases_Bool (same_bytes b body)) [
  | inl same ↦ rw same (low 0 (omega arith))
  | inr other ↦ rw other (id_low bodies ids body count some (λ k short. low (suc k) (omega (arith, short))))
]

-- ---- the items so far

more : (names : List ℕ) (ids : ℕ → ℕ) (items : List Item) (i : ℕ) (item : Item) → slice_get items i ≡ Some item
    → with_ids ids (shown_items names (take (i + 1) items)) ≡ with_ids ids (shown_items names (take i items)) ++ with_ids ids
    (cond (has names item.field) (item ∷ []) [])
more names ids items i item at =
    ap (with_ids ids) (filter_more (λ (x : Item). has names x.field) items i item (slice_get_within items i item at)
    ∙ ap (λ (x : Item). shown_items names (take i items) ++ cond (has names x.field) (x ∷ []) [])
    (get_or_from_slice_get items i item item at))
    ∙ map-append _ (shown_items names (take i items)) (cond (has names item.field) (item ∷ []) [])

pub renamed_more : (names : List ℕ) (ids : ℕ → ℕ) (items : List Item) (i : ℕ) (item : Item) → slice_get items i ≡ Some item
    → has names item.field ≡ true
    → with_ids ids (shown_items names (take (i + 1) items)) ≡ with_ids ids (shown_items names (take i items)) ++ with_ids ids (item ∷ [])
renamed_more names ids items i item at is =
    more names ids items i item at ∙ ap (λ b. with_ids ids (shown_items names (take i items)) ++ with_ids ids (cond b (item ∷ []) [])) is

pub renamed_passed : (names : List ℕ) (ids : ℕ → ℕ) (items : List Item) (i : ℕ) (item : Item) → slice_get items i ≡ Some item
    → has names item.field ≡ false
    → with_ids ids (shown_items names (take (i + 1) items)) ≡ with_ids ids (shown_items names (take i items))
renamed_passed names ids items i item at is =
    more names ids items i item at ∙ ap (λ b. with_ids ids (shown_items names (take i items)) ++ with_ids ids (cond b (item ∷ []) [])) is
    ∙ append-nil _

pub renamed_all : (names : List ℕ) (ids : ℕ → ℕ) (items : List Item) (i : ℕ) → length items ≤ i
    → with_ids ids (shown_items names (take i items)) ≡ with_ids ids (shown_items names items)
renamed_all names ids items i past = ap (λ xs. with_ids ids (shown_items names xs)) (take_all i items past)

-- ---- it goes through under other sets with the same kept fields

module _ (has_filter : SliceHasFilter) (ids : ℕ → ℕ) (low : (n : ℕ) → ids n < 8) (q : Parts) (h : SliceValue) (sps pps : List Item)
    (same : HaveSameKept q.sps q.pps sps pps)
    (header : IsHeader (structures q.sps) (in_force q.sps q.pps) q.header)
    (read : IsReadAt (at_sets q.kind.nal_type q.sps q.pps q.header q.ids q.layout) h)
    (enabled : is_set (number sps sps_alf_enabled_flag) ≡ true) where
  agree : Agree kept_for_starred (in_force q.sps q.pps) (in_force sps pps)
  agree = (same_kept_agree q.sps q.pps sps pps same).numbers

  -- kept fields of the SPS
  enabled_is : number q.sps sps_alf_enabled_flag ≡ number sps sps_alf_enabled_flag
  unfolding fresh
  enabled_is = sym (of_sps q.sps q.pps sps_alf_enabled_flag (omega arith)) ∙ agree.same sps_alf_enabled_flag refl
      ∙ of_sps sps pps sps_alf_enabled_flag (omega arith)

  own_enabled : is_set (number q.sps sps_alf_enabled_flag) ≡ true
  own_enabled = ap is_set enabled_is ∙ enabled

  chroma : slice_index (in_force q.sps q.pps) sps_chroma_format_idc ≡ slice_index (in_force sps pps) sps_chroma_format_idc
  unfolding fresh
  chroma = agree.same sps_chroma_format_idc refl

  cross : slice_index (in_force q.sps q.pps) sps_ccalf_enabled_flag ≡ slice_index (in_force sps pps) sps_ccalf_enabled_flag
  unfolding fresh
  cross = agree.same sps_ccalf_enabled_flag refl

  in_header : is_set (number q.pps pps_alf_info_in_ph_flag) ≡ true → Takes (form_of ALF (in_force sps pps))
      (with_ids ids (filter_of q.header.fields))
  in_header there =
      filter_goes_again ids (in_force q.sps q.pps) (in_force sps pps) (filter_of q.header.fields) low agree.size chroma cross
      (header_has_filter (structures q.sps) (in_force q.sps q.pps) q.header.fields header.fields
      (ap is_set (of_sps q.sps q.pps sps_alf_enabled_flag (omega arith)) ∙ own_enabled)
      (ap is_set (of_pps q.sps q.pps pps_alf_info_in_ph_flag (omega arith) (λ e. absurd (omega (arith, e)))) ∙ there))

  abbrev scope : List ℕ
  scope = (at_sets q.kind.nal_type q.sps q.pps q.header q.ids q.layout).slice

  as_sets : (n : ℕ) → n < 400 → slice_index scope n ≡ slice_index (in_force q.sps q.pps) n
  as_sets n small = sps_told q.kind.nal_type q.sps q.pps q.header n small ∙ sym (of_sps q.sps q.pps n small)

  whole : length scope ≡ 1024
  whole = slice_scopes_are_whole q.kind.nal_type q.sps q.pps q.header

  in_slice : is_set (number q.pps pps_alf_info_in_ph_flag) ≡ false → Takes (form_of ALF (in_force sps pps))
      (with_ids ids (filter_of h.fields))
  in_slice apart =
      filter_goes_again ids scope (in_force sps pps) (filter_of h.fields) low (whole ∙ sym (in_force_length sps pps))
      (as_sets sps_chroma_format_idc (omega arith) ∙ chroma) (as_sets sps_ccalf_enabled_flag (omega arith) ∙ cross)
      (has_filter (at_sets q.kind.nal_type q.sps q.pps q.header q.ids q.layout) h.fields read.inside read.fields whole
      (ap is_set (sps_told q.kind.nal_type q.sps q.pps q.header sps_alf_enabled_flag (omega arith)) ∙ own_enabled)
      (pps_told q.kind.nal_type q.sps q.pps q.header pps_alf_info_in_ph_flag (omega arith) (omega arith)
      ∙ eqb-true _ 0 (not-false _ apart)))

  pub filter_takes : Takes (form_of ALF (in_force sps pps)) (with_ids ids (filter_of (filter_items q.pps q.header.fields (read_of h))))
  filter_takes = elim (cases_Bool (is_set (number q.pps pps_alf_info_in_ph_flag))) [
    | inl there ↦ rw there (in_header there)
    | inr apart ↦ rw apart (in_slice apart)
  ]
