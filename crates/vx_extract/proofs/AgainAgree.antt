-- Headers find under the rewritten sets what they find under the source's.
use Rattle.std.proofs.Common.{◌≡◌, ◌≢◌, ℕ, zero, suc, ◌<◌, ◌≤◌, ◌==◌, ◌&&◌, ◌||◌, true, false, cond, Bool, IsFalse, IsTrue, List, [], ◌∷◌, map, slice_index, Option, refl, ap, sym, subst, ◌∙◌, inl, inr, arith}
use Rattle.std.specs.Prelude.{All, nat_le, nat_lt}
use Rattle.std.proofs.lemmas.Bool.{and_parts, cases_Bool, eqb-true, false≢true, leb-true, ltb-true, not-false, or_cases}
use Rattle.std.proofs.lemmas.List.Elements.{All-cons, All-nil}
use Rattle.vx_bits.specs.declared.list.Item.{Item}
use Rattle.vx_fields.specs.declared.sps.TheConstants as sps_fields
use Rattle.vx_fields.specs.declared.pps.TheConstants as pps_fields
use Rattle.vx_fields.specs.declared.ph.TheConstants as ph_fields
use Rattle.vx_fields.specs.declared.rpl.TheConstants as rpl_fields
use Rattle.vx_fields.specs.declared.names.ph.TheConstants.{EXTRA_PH_BITS}
use Rattle.vx_table.specs.Depends.{Agree, has}
use Rattle.vx_table.specs.Forms.{has_value}
use Rattle.vx_table.specs.Loaded.{code_below, number, range_below, row_below}
use Rattle.vx_table.specs.Scope.{capped, fresh, is_set, natural}
use Rattle.vx_table.specs.Shown.{shown_items}
use Rattle.vx_table.proofs.Loading.{number_of_shown}
use Rattle.vx_layout.proofs.Counting.{count_by-filter_all}
use Rattle.vx_rpl.specs.Depends.{ListsFollowItems, TablesFollowItems}
use Rattle.vx_rpl.specs.HeaderLists.{lists_of}
use Rattle.vx_rpl.specs.Resolved.{table_of}
use Rattle.vx_sps.specs.declared.shape.SubpicPlan.TheVariants.{Absent, One}
use Rattle.vx_sps.specs.Depends.{taken_sps_fields}
use Rattle.vx_sps.specs.Set.{extra_ph_bits_of, extra_sh_bits_of, is_weighted, set_flags}
use Rattle.vx_sps.specs.laws.Reread.{Signals, described_in, id_len_in}
use Rattle.vx_sps.proofs.Stated.{below}
use Rattle.vx_table.proofs.With.{no_number, with_field}
use Rattle.vx_pps.specs.Reshaped.{taken_for_region}
use Rattle.vx_pps.specs.Pps.{default_active}
use Rattle.vx_ph.specs.declared.header.PictureHeader.{PictureHeader}
use Rattle.vx_ph.specs.Depends.{all_of_sets}
use Rattle.vx_ph.specs.InForce.{SetsAgree, in_force, structures}
use Rattle.vx_sh.specs.Elsewhere.{given}
use Rattle.vx_sh.specs.InForce.{SliceScopesAgree, beside, slice_scope}
use Rattle.vx_pic.specs.Parts.{Parts}
use Rattle.vx_extract.specs.Again.{AgreeForHeaders, AreRewritten}
use Rattle.vx_extract.specs.Shapes.{id_in_sps, plan_of, sps_shape}
use Rattle.vx_write.specs.InForce.{AreInForce}
use Rattle.vx_extract.proofs.AgainAbsent.{length_only, undescribed}
use Rattle.vx_extract.proofs.AgainSps.{sps_signals, sps_taken}

-- ---- fields that are taken over

-- the items of a field are among those of each set of fields that has it
shown_with : (names : List ℕ) (of : ℕ) (items : List Item) → IsTrue (has names of) → with_field of (shown_items names items) ≡ with_field of items
shown_with names of [] inside = refl
shown_with names of (x ∷ items) inside = elim (cases_Bool (x.field == of)) [
  | inl is ↦ let shown : has names x.field ≡ true = ap (λ n. has names n) (eqb-true x.field of is) ∙ inside in rw (shown, is) (ap (λ xs. x ∷ xs) (shown_with names of items inside))
  | inr other ↦ elim (cases_Bool (has names x.field)) [
    | inl shown ↦ rw (shown, other) (shown_with names of items inside)
    | inr hidden ↦ rw (hidden, other) (shown_with names of items inside)
  ]
]

same_with : (names : List ℕ) (of : ℕ) (items others : List Item) → IsTrue (has names of) → shown_items names items ≡ shown_items names others → with_field of items ≡ with_field of others
same_with names of items others inside same = sym (shown_with names of items inside) ∙ ap (λ xs. with_field of xs) same ∙ shown_with names of others inside

every : (P : Item → Type 0) → ((x : Item) → P x) → (items : List Item) → All P items
every P each [] = All-nil P
every P each (x ∷ items) = All-cons P x items (each x) (every P each items)

-- the flags of a field are told by its items
flags_with : (of : ℕ) (items : List Item) → set_flags of items ≡ set_flags of (with_field of items)
flags_with of items =
    let test : Item → Bool = λ item. item.field == of && is_set (natural item.value) in
    ap capped (sym (count_by-filter_all test (λ item. item.field == of) items (every (λ x. test x ≡ true → (x.field == of) ≡ true) (λ x h. (and_parts (x.field == of) (is_set (natural x.value)) h).0) items)))

same_flags : (of : ℕ) (items others : List Item) → with_field of items ≡ with_field of others → set_flags of items ≡ set_flags of others
same_flags of items others same = flags_with of items ∙ ap (λ xs. set_flags of xs) same ∙ sym (flags_with of others)

-- ---- lists of fields

abbrev passes : (ℕ → Bool) → List ℕ → Bool
passes test [] = true
passes test (n ∷ ns) = test n && passes test ns

all_pass : (test : ℕ → Bool) (P : ℕ → Type 0) → ((n : ℕ) → test n ≡ true → P n) → (ns : List ℕ) → passes test ns ≡ true → All P ns
all_pass test P each [] pass = All-nil P
all_pass test P each (n ∷ ns) pass = let parts = and_parts (test n) (passes test ns) pass in All-cons P n ns (each n parts.0) (all_pass test P each ns parts.1)

all_of : (P : ℕ → Type 0) → ((n : ℕ) → P n) → (ns : List ℕ) → All P ns
all_of P each [] = All-nil P
all_of P each (n ∷ ns) = All-cons P n ns (each n) (all_of P each ns)

-- fields of an SPS that are taken over, or say whether it describes subpictures and how long ids are; and what is no field of one
abbrev of_sps : ℕ → Bool
of_sps n = nat_le 400 n || (has taken_sps_fields n || (n == 116 || n == 126))

-- fields of a PPS that are taken over; and what is none of one
abbrev of_pps : ℕ → Bool
of_pps n = (nat_lt n 400 || nat_le ph_fields.ph_gdr_or_irap_pic_flag n) || has taken_for_region n

sps_fields_pass : (passes of_sps all_of_sets ≡ true) × (passes of_sps given ≡ true)
unfolding fresh
sps_fields_pass = (refl, refl)

pps_fields_pass : (passes of_pps all_of_sets ≡ true) × (passes of_pps given ≡ true)
unfolding fresh
pps_fields_pass = (refl, refl)

-- what picture headers name beside fields
abbrev no_name : ℕ → Bool
no_name n = nat_lt n ph_fields.ph_gdr_or_irap_pic_flag || n == EXTRA_PH_BITS

both_pass : passes (λ n. of_pps n && no_name n) all_of_sets ≡ true
unfolding fresh
both_pass = refl

low_flag : (n : ℕ) → n < 2 → is_set n ≡ true → n ≡ 1
low_flag zero low is = absurd (false≢true is)
low_flag (suc zero) low is = refl
low_flag (suc (suc n)) low is = absurd (omega (arith, low))

unset : (n : ℕ) → is_set n ≡ false → n ≡ 0
unset n is = eqb-true n 0 (not-false (n == 0) is)

module _ (target : ℕ) (level : Option ℕ) (q : Parts) (s p : List Item) (are : AreInForce q) (re : AreRewritten target level q s p) where
  -- ---- the SPS

  taken_with : (of : ℕ) → IsTrue (has taken_sps_fields of) → with_field of q.sps ≡ with_field of s
  taken_with of is = same_with taken_sps_fields of q.sps s is (sym re.of_sps.shown_ones)

  info_low : number q.sps sps_fields.sps_subpic_info_present_flag < 2
  unfolding has_value row_below code_below range_below
  info_low = subst (λ x. number x sps_fields.sps_subpic_info_present_flag < 2) (sym are.sps.all) (below sps_fields.sps_subpic_info_present_flag 2 (omega arith) refl are.sps.follows)

  plan_there : is_set (number q.sps sps_fields.sps_subpic_info_present_flag) ≡ true → plan_of q target ≡ One (number q.sps sps_fields.sps_subpic_id_len_minus1) (id_in_sps q target)
  plan_there is = ap (λ b. cond b (One (number q.sps sps_fields.sps_subpic_id_len_minus1) (id_in_sps q target)) Absent) is

  plan_absent : is_set (number q.sps sps_fields.sps_subpic_info_present_flag) ≡ false → plan_of q target ≡ Absent
  plan_absent none = ap (λ b. cond b (One (number q.sps sps_fields.sps_subpic_id_len_minus1) (id_in_sps q target)) Absent) none

  signals : Signals (sps_shape q target level) s
  signals = sps_signals q target level s re.of_sps are

  same_info : number q.sps sps_fields.sps_subpic_info_present_flag ≡ number s sps_fields.sps_subpic_info_present_flag
  same_info = elim (cases_Bool (is_set (number q.sps sps_fields.sps_subpic_info_present_flag))) [
    | inl is ↦ low_flag (number q.sps sps_fields.sps_subpic_info_present_flag) info_low is
        ∙ sym (signals.described ∙ ap described_in (plan_there is))
    | inr none ↦ unset (number q.sps sps_fields.sps_subpic_info_present_flag) none ∙ sym (signals.described ∙ ap described_in (plan_absent none))
  ]

  same_length : number q.sps sps_fields.sps_subpic_id_len_minus1 ≡ number s sps_fields.sps_subpic_id_len_minus1
  same_length = elim (cases_Bool (is_set (number q.sps sps_fields.sps_subpic_info_present_flag))) [
    | inl is ↦ sym (signals.id_len ∙ ap id_len_in (plan_there is))
    | inr none ↦ no_number 126 q.sps (undescribed 126 q.sps are.sps length_only none) ∙ sym (signals.id_len ∙ ap id_len_in (plan_absent none))
  ]

  sps_number : (n : ℕ) → of_sps n ≡ true → n < 400 → number q.sps n ≡ number s n
  sps_number n pass low = elim (or_cases (nat_le 400 n) (has taken_sps_fields n || (n == 116 || n == 126)) pass) [
    | inl high ↦ absurd (omega (arith, low, leb-true 400 n high))
    | inr some ↦ elim (or_cases (has taken_sps_fields n) (n == 116 || n == 126) some) [
      | inl is ↦ sym (sps_taken q target level s re.of_sps n is)
      | inr either ↦ elim (or_cases (n == 116) (n == 126) either) [
        | inl info ↦ subst (λ m. number q.sps m ≡ number s m) (sym (eqb-true n 116 info)) same_info
        | inr size ↦ subst (λ m. number q.sps m ≡ number s m) (sym (eqb-true n 126 size)) same_length
      ]
    ]
  ]

  extra_ph : extra_ph_bits_of q.sps ≡ extra_ph_bits_of s
  unfolding fresh
  extra_ph = same_flags sps_fields.sps_extra_ph_bit_present_flag q.sps s (taken_with sps_fields.sps_extra_ph_bit_present_flag refl)

  extra_sh : extra_sh_bits_of q.sps ≡ extra_sh_bits_of s
  unfolding fresh
  extra_sh = same_flags sps_fields.sps_extra_sh_bit_present_flag q.sps s (taken_with sps_fields.sps_extra_sh_bit_present_flag refl)

  weighted : is_weighted s ≡ is_weighted q.sps
  unfolding fresh
  weighted =
      let first : number s sps_fields.sps_weighted_pred_flag ≡ number q.sps sps_fields.sps_weighted_pred_flag = sps_taken q target level s re.of_sps sps_fields.sps_weighted_pred_flag refl in
      let second : number s sps_fields.sps_weighted_bipred_flag ≡ number q.sps sps_fields.sps_weighted_bipred_flag = sps_taken q target level s re.of_sps sps_fields.sps_weighted_bipred_flag refl in
      rw (first, second) refl

  tables : TablesFollowItems → structures s ≡ structures q.sps
  unfolding fresh
  tables follow = ap (λ b. table_of b s) weighted ∙ follow (is_weighted q.sps) taken_sps_fields s q.sps refl refl re.of_sps.shown_ones

  -- ---- the PPS

  pub pps_with : (of : ℕ) → IsTrue (has taken_for_region of) → with_field of q.pps ≡ with_field of p
  pps_with of is = same_with taken_for_region of q.pps p is (sym re.of_pps.rewritten.shown_ones)

  pub pps_taken : (of : ℕ) → IsTrue (has taken_for_region of) → number q.pps of ≡ number p of
  pps_taken of is = number_of_shown taken_for_region of q.pps is ∙ ap (λ xs. number xs of) (sym re.of_pps.rewritten.shown_ones) ∙ sym (number_of_shown taken_for_region of p is)

  pps_number : (n : ℕ) → of_pps n ≡ true → 400 ≤ n → n < ph_fields.ph_gdr_or_irap_pic_flag → number q.pps n ≡ number p n
  pps_number n pass from upto = elim (or_cases (nat_lt n 400 || nat_le ph_fields.ph_gdr_or_irap_pic_flag n) (has taken_for_region n) pass) [
    | inl out ↦ elim (or_cases (nat_lt n 400) (nat_le ph_fields.ph_gdr_or_irap_pic_flag n) out) [
      | inl low ↦ absurd (omega (arith, from, ltb-true n 400 low))
      | inr high ↦ absurd (omega (arith, upto, leb-true ph_fields.ph_gdr_or_irap_pic_flag n high))
    ]
    | inr is ↦ pps_taken n is
  ]

  active : (list : ℕ) → default_active q.pps list ≡ default_active p list
  unfolding fresh
  active list = ap (λ xs. slice_index (map (λ (x : Item). natural x.value) xs) list) (pps_with pps_fields.pps_num_ref_idx_default_active_minus1 refl)

  -- ---- both

  sets_agree : SetsAgree → Agree all_of_sets (in_force q.sps q.pps) (in_force s p)
  sets_agree agree = agree all_of_sets q.sps s q.pps p
      (all_pass of_sps (λ n. n < 400 → number q.sps n ≡ number s n) sps_number all_of_sets sps_fields_pass.0)
      (all_pass (λ n. of_pps n && no_name n) (λ n. 400 ≤ n → n ≢ EXTRA_PH_BITS → number q.pps n ≡ number p n)
      (λ n pass from other. let parts = and_parts (of_pps n) (no_name n) pass in elim (or_cases (nat_lt n ph_fields.ph_gdr_or_irap_pic_flag) (n == EXTRA_PH_BITS) parts.1) [
        | inl low ↦ pps_number n parts.0 from (ltb-true n ph_fields.ph_gdr_or_irap_pic_flag low)
        | inr is ↦ absurd (other (eqb-true n EXTRA_PH_BITS is))
      ]) all_of_sets both_pass)
      extra_ph

  slices_agree : SliceScopesAgree → (nal_type : ℕ) (h : PictureHeader) → Agree given (slice_scope nal_type q.sps q.pps h (in_force q.sps q.pps)) (slice_scope nal_type s p h (in_force s p))
  slices_agree agree nal_type h = agree given nal_type q.sps s q.pps p h h
      (all_pass of_sps (λ n. n < 400 → number q.sps n ≡ number s n) sps_number given sps_fields_pass.1)
      (all_pass of_pps (λ n. 400 ≤ n → n < ph_fields.ph_gdr_or_irap_pic_flag → number q.pps n ≡ number p n) pps_number given pps_fields_pass.1)
      (all_of (λ n. ph_fields.ph_gdr_or_irap_pic_flag ≤ n → IsFalse (has beside n) → number h.fields n ≡ number h.fields n) (λ n from other. refl) given)
      extra_sh (active 0) (active 1) refl refl

  same_lists : SetsAgree → TablesFollowItems → ListsFollowItems → (header : List Item) → lists_of (structures s) (in_force s p) header ≡ lists_of (structures q.sps) (in_force q.sps q.pps) header
  unfolding fresh
  same_lists agree follow lists header =
      ap (λ t. lists_of t (in_force s p) header) (tables follow)
      ∙ sym (lists (structures q.sps) all_of_sets (in_force q.sps q.pps) (in_force s p) rpl_fields.ALL header header (sets_agree agree) refl refl refl refl refl refl)

  pub agree_for_headers : SetsAgree → SliceScopesAgree → TablesFollowItems → ListsFollowItems → AgreeForHeaders q s p
  agree_for_headers agree scopes follow lists = record {
    same_structures = tables follow;
    sets = sets_agree agree;
    lists = same_lists agree follow lists;
    slices = slices_agree scopes;
  }
