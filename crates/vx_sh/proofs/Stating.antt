-- What is stated of a slice header goes through.
use Rattle.std.proofs.Common.{◌≡◌, ℕ, ℤ, pos, zero, suc, ◌+◌, ◌<◌, ◌≤◌, ◌^◌, ◌==◌, Bool, true, false, not, nat_le, List, [], ◌∷◌, ◌++◌, length, slice_index, slice_set, min, inl, inr, refl, ap, sym, subst, ◌∙◌, arith}
use Rattle.std.proofs.lemmas.Bool.{cases_Bool, lt-leb}
use Rattle.std.proofs.lemmas.Grind.{get_or-set_at}
use Rattle.std.proofs.lemmas.List.{append-nil, get_or-set_other, length-set}
use Rattle.vx_bits.specs.Codes.{IsCodeNumber, code_number}
use Rattle.vx_bits.specs.declared.list.Item.{Item}
use Rattle.vx_bits.proofs.Bits.{pow_le}
use Rattle.vx_table.specs.declared.rows.Term.TheVariants.{Latest, Number}
use Rattle.vx_table.specs.declared.rows.Formula.TheVariants.{Plain}
use Rattle.vx_table.specs.declared.rows.Presence.TheVariants.{When}
use Rattle.vx_table.specs.Scope.{capped, fresh, is_set, natural, one_if, value}
use Rattle.vx_table.specs.Forms.{Form, done, field, ◌>>=◌, after, coding_at, form_of, has_value, limits_at, one_field, part, present}
use Rattle.vx_table.specs.declared.rows.Row.{Row}
use Rattle.vx_table.specs.Parts.{always, provided, sections_form}
use Rattle.vx_table.specs.Spelling.{HasCode, fault_of, item_of, items_along}
use Rattle.vx_table.specs.Values.{Follows, to_end, through}
use Rattle.vx_table.specs.Depends.{Agree, Leaves}
use Rattle.vx_table.specs.Claims.{behind_field, behind_rows, behind_table, depends, hides_counter, hides_row, knows_formula, knows_presence, knows_range, knows_width, table_depends, within_block}
use Rattle.vx_table.specs.Named.{named_by}
use Rattle.vx_table.specs.laws.Again.{shows_row}
use Rattle.vx_table.specs.Rewrites.{Takes}
use Rattle.vx_table.proofs.Again.{tables_show}
use Rattle.vx_table.proofs.Chains.{table_carries}
use Rattle.vx_table.proofs.Dependence.{inside_with_all}
use Rattle.vx_table.proofs.Groups.{agree_given}
use Rattle.vx_table.proofs.Rewrites.{leaves_agree, leaves_present, tables_leave, takes_again, takes_together}
use Rattle.vx_fields.specs.declared.sps.TheConstants.{sps_alf_enabled_flag, sps_ccalf_enabled_flag, sps_chroma_format_idc, sps_subpic_id_len_minus1, sps_subpic_info_present_flag}
use Rattle.vx_fields.specs.declared.pps.TheConstants.{pps_alf_info_in_ph_flag, pps_qp_delta_info_in_ph_flag}
use Rattle.vx_fields.specs.declared.ph.TheConstants.{ph_explicit_scaling_list_enabled_flag, ph_lmcs_enabled_flag}
use Rattle.vx_fields.specs.declared.sh.TheConstants.{sh_explicit_scaling_list_used_flag, sh_lmcs_used_flag, sh_picture_header_in_slice_header_flag, sh_subpic_id}
use Rattle.vx_fields.specs.declared.names.sh.TheConstants.{HAS_ALF, NUM_SUBPICS, SUBPIC}
use Rattle.vx_sps.specs.Reshaped.{item}
use Rattle.vx_table.specs.Rewritten.{where_so}
use Rattle.vx_ph.specs.declared.tables.TheConstants.{ALF}
use Rattle.vx_ph.proofs.Renaming.{filter_again}
use Rattle.vx_sh.specs.declared.tables.TheConstants.{FILTER_HERE, HEADER_INSIDE, KNOWN_SUBPIC, LMCS_AND_SCALING, SUBPIC_ID}
use Rattle.vx_sh.specs.Reshaped.{qp_items}
use Rattle.vx_sh.specs.Slice.{own, qp}

-- ---- the first field

pub apart_there : (s : List ℕ) → Follows (form_of HEADER_INSIDE s) (pos 0 ∷ []) (slice_set s sh_picture_header_in_slice_header_flag 0)
unfolding form_of part one_field coding_at limits_at after has_value value HasCode fault_of natural
apart_there s = through (record { code = omega arith; range = refl }) to_end

pub apart_items : (s : List ℕ) → items_along (form_of HEADER_INSIDE s) (pos 0 ∷ []) ≡ item sh_picture_header_in_slice_header_flag 0 ∷ []
unfolding form_of part one_field coding_at limits_at after has_value value item_of
apart_items s = refl

-- ---- the id of the subpicture

pub record IdThere (s : List ℕ) (id : ℕ) : Type 0 where
  pub values : List ℤ
  pub end : List ℕ
  pub follows : Follows (form_of SUBPIC_ID s) values end
  pub items : items_along (form_of SUBPIC_ID s) values ≡ where_so (is_set (slice_index s sps_subpic_info_present_flag)) (item sh_subpic_id id ∷ [])
  pub told : slice_index end sh_subpic_id ≡ id

with_default : List ℕ → List ℕ
with_default s = slice_set s sh_subpic_id 0

id_absent : (s : List ℕ) → (slice_index (with_default s) sps_subpic_info_present_flag == 0) ≡ true → Follows (form_of SUBPIC_ID s) [] (with_default s) × (items_along (form_of SUBPIC_ID s) [] ≡ [])
unfolding with_default form_of part present value
id_absent s none = rw none (to_end, refl)

id_present : (s : List ℕ) (id : ℕ) → (slice_index (with_default s) sps_subpic_info_present_flag == 0) ≡ false → id < 2 ^ min (capped (slice_index (with_default s) sps_subpic_id_len_minus1 + 1)) 32
    → Follows (form_of SUBPIC_ID s) (pos id ∷ []) (slice_set (with_default s) sh_subpic_id (natural (pos id))) × (items_along (form_of SUBPIC_ID s) (pos id ∷ []) ≡ item sh_subpic_id id ∷ [])
unfolding with_default form_of part present value one_field coding_at limits_at after has_value HasCode fault_of item_of
id_present s id some fits = rw some (through (record { code = fits; range = refl }) to_end, refl)

pub id_there : (s : List ℕ) (id : ℕ) → length s ≡ 1024 → slice_index s sps_subpic_id_len_minus1 < 16
    → (is_set (slice_index s sps_subpic_info_present_flag) ≡ true → id < 2 ^ (slice_index s sps_subpic_id_len_minus1 + 1))
    → (is_set (slice_index s sps_subpic_info_present_flag) ≡ false → id ≡ 0) → IdThere s id
unfolding with_default natural
id_there s id size narrow spelled unspelled =
    let described : slice_index (with_default s) sps_subpic_info_present_flag ≡ slice_index s sps_subpic_info_present_flag = get_or-set_other s sh_subpic_id sps_subpic_info_present_flag 0 0 (λ e. absurd (omega (arith, e))) in
    let bits : slice_index (with_default s) sps_subpic_id_len_minus1 ≡ slice_index s sps_subpic_id_len_minus1 = get_or-set_other s sh_subpic_id sps_subpic_id_len_minus1 0 0 (λ e. absurd (omega (arith, e))) in
    elim (cases_Bool (slice_index s sps_subpic_info_present_flag == 0)) [
      | inl none ↦
          let absent = id_absent s (rw described none) in
          record {
            values = [];
            end = with_default s;
            follows = absent.0;
            items = rw none absent.1;
            told = get_or-set_at s sh_subpic_id sh_subpic_id 0 0 refl (omega (arith, size)) ∙ sym (unspelled (ap not none));
          }
      | inr some ↦
          let width : min (capped (slice_index (with_default s) sps_subpic_id_len_minus1 + 1)) 32 ≡ slice_index s sps_subpic_id_len_minus1 + 1 = omega (arith, bits, narrow) in
          let short : id < 2 ^ (slice_index s sps_subpic_id_len_minus1 + 1) = spelled (ap not some) in
          let there = id_present s id (rw described some) (rw width short) in
          let low : id < 2 ^ 16 = below_power id (slice_index s sps_subpic_id_len_minus1 + 1) short (omega (arith, narrow)) in
          let same : natural (pos id) ≡ id = omega (arith, low) in
          record {
            values = pos id ∷ [];
            end = slice_set (with_default s) sh_subpic_id (natural (pos id));
            follows = there.0;
            items = rw some there.1;
            told = get_or-set_at (with_default s) sh_subpic_id sh_subpic_id (natural (pos id)) 0 refl (omega (arith, size, length-set s sh_subpic_id 0)) ∙ same;
          }
    ]
  where
    below_power : (n k : ℕ) → n < 2 ^ k → k ≤ 16 → n < 2 ^ 16
    below_power n k below few = omega (arith, below, pow_le k 16 few)

-- it is that of a subpicture
pub known_there : (s : List ℕ) → slice_index s SUBPIC < slice_index s NUM_SUBPICS → Follows (form_of KNOWN_SUBPIC s) [] s
unfolding form_of part present value
known_there s below =
    let past : nat_le (slice_index s NUM_SUBPICS) (slice_index s SUBPIC) ≡ false = lt-leb (slice_index s NUM_SUBPICS) (slice_index s SUBPIC) below in
    rw past to_end

-- ---- the filter, and the uses of LMCS and scaling lists

-- a table that is always there
once : List Row → List ℕ → Form (List ℕ)
once rows = present (When (Plain (Number 1))) (form_of rows)

pub no_items : {A : Type 0} (f : Form A) → items_along f [] ≡ []
no_items (done a) = refl
no_items (field cell goes) = refl

-- that the filter stands here
filter_here : (t : List ℕ) → slice_index t pps_alf_info_in_ph_flag ≡ 0 → Follows (once FILTER_HERE t) [] (slice_set t HAS_ALF (slice_index t sps_alf_enabled_flag))
unfolding once present value form_of part
filter_here t apart =
    let there : slice_index (slice_set t HAS_ALF (slice_index t sps_alf_enabled_flag)) pps_alf_info_in_ph_flag ≡ 0
    = get_or-set_other t HAS_ALF pps_alf_info_in_ph_flag (slice_index t sps_alf_enabled_flag) 0 (λ e. absurd (omega (arith, e))) ∙ apart in
    rw there to_end

-- the uses, at a scope that has what they read
small : ℕ → ℕ → List ℕ
small l k = slice_set (slice_set fresh ph_lmcs_enabled_flag l) ph_explicit_scaling_list_enabled_flag k

said : ℕ → ℕ → Bool → Bool → List Item
said l k lmcs scaling = where_so (is_set l) (item sh_lmcs_used_flag (one_if lmcs) ∷ []) ++ where_so (is_set k) (item sh_explicit_scaling_list_used_flag (one_if scaling) ∷ [])

one_bit : (b : Bool) → one_if b < 2
one_bit true = omega arith
one_bit false = omega arith

small_takes : (l k : ℕ) (lmcs scaling : Bool) → l < 2 → k < 2 → Takes (form_of LMCS_AND_SCALING (small l k)) (said l k lmcs scaling)
unfolding small said fresh form_of part present value one_field after coding_at limits_at has_value HasCode fault_of item_of natural
small_takes zero zero lmcs scaling low_l low_k = record { values = []; end = _; follows = to_end; all = refl }
small_takes (suc zero) zero lmcs scaling low_l low_k = record { values = pos (one_if lmcs) ∷ []; end = _; follows = through (record { code = one_bit lmcs; range = refl }) to_end; all = refl }
small_takes zero (suc zero) lmcs scaling low_l low_k = record { values = pos (one_if scaling) ∷ []; end = _; follows = through (record { code = one_bit scaling; range = refl }) to_end; all = refl }
small_takes (suc zero) (suc zero) lmcs scaling low_l low_k =
    record { values = pos (one_if lmcs) ∷ pos (one_if scaling) ∷ []; end = _; follows = through (record { code = one_bit lmcs; range = refl }) (through (record { code = one_bit scaling; range = refl }) to_end); all = refl }
small_takes (suc (suc l)) k lmcs scaling low_l low_k = absurd (omega (arith, low_l))
small_takes zero (suc (suc k)) lmcs scaling low_l low_k = absurd (omega (arith, low_k))
small_takes (suc zero) (suc (suc k)) lmcs scaling low_l low_k = absurd (omega (arith, low_k))

abbrev of_uses : List ℕ
of_uses = ph_lmcs_enabled_flag ∷ ph_explicit_scaling_list_enabled_flag ∷ sh_picture_header_in_slice_header_flag ∷ []

small_agrees : (t : List ℕ) → length t ≡ 1024 → slice_index t sh_picture_header_in_slice_header_flag ≡ 0
    → Agree of_uses (small (slice_index t ph_lmcs_enabled_flag) (slice_index t ph_explicit_scaling_list_enabled_flag)) t
unfolding small fresh
small_agrees t size apart = agree_given of_uses (sym size) (refl, (refl, (sym apart, tt)))

uses_take : (t : List ℕ) (lmcs scaling : Bool) → length t ≡ 1024 → slice_index t sh_picture_header_in_slice_header_flag ≡ 0 → slice_index t ph_lmcs_enabled_flag < 2 → slice_index t ph_explicit_scaling_list_enabled_flag < 2
    → Takes (form_of LMCS_AND_SCALING t) (said (slice_index t ph_lmcs_enabled_flag) (slice_index t ph_explicit_scaling_list_enabled_flag) lmcs scaling)
unfolding fresh has_value knows_formula knows_width knows_range knows_presence hides_counter hides_row behind_field within_block depends behind_rows table_depends behind_table shows_row
uses_take t lmcs scaling size apart low_l low_k =
    let l = slice_index t ph_lmcs_enabled_flag in
    let k = slice_index t ph_explicit_scaling_list_enabled_flag in
    let shown : List ℕ = of_uses ++ named_by LMCS_AND_SCALING in
    let carries = table_carries shown of_uses LMCS_AND_SCALING refl in
    let all = tables_show shown LMCS_AND_SCALING refl in
    takes_again shown _ (form_of LMCS_AND_SCALING (small l k)) (form_of LMCS_AND_SCALING t) (said l k lmcs scaling)
    (carries.alike (inside_with_all of_uses (named_by LMCS_AND_SCALING)) (small l k) t (small_agrees t size apart)) (all.at (small l k)) (all.at t) (small_takes l k lmcs scaling low_l low_k)

filter_if : List ℕ → Form (List ℕ)
filter_if = present (When (Plain (Latest HAS_ALF))) (form_of ALF)

filter_takes : (t : List ℕ) (filter : List Item) → (is_set (slice_index t HAS_ALF) ≡ true → Takes (form_of ALF t) filter) → Takes (filter_if t) (where_so (is_set (slice_index t HAS_ALF)) filter)
unfolding filter_if present value
filter_takes t filter takes = elim (cases_Bool (slice_index t HAS_ALF == 0)) [
  | inl none ↦ rw none (let nothing : Takes (done t) [] = record { values = []; end = t; follows = to_end; all = refl } in nothing)
  | inr some ↦ rw some (takes (ap not some))
]

filter_leaves : Leaves of_uses filter_if
unfolding filter_if fresh hides_counter hides_row
filter_leaves = leaves_present of_uses (Plain (Latest HAS_ALF)) (form_of ALF) (tables_leave of_uses ALF refl)

one_table : (t : List ℕ) (items : List Item) → Takes (form_of LMCS_AND_SCALING t) items → Takes (sections_form (always LMCS_AND_SCALING ∷ []) t) items
unfolding sections_form present value
one_table t items takes = subst (λ xs. Takes (form_of LMCS_AND_SCALING t >>= sections_form []) xs) (append-nil items)
    (takes_together (form_of LMCS_AND_SCALING t) (sections_form []) items [] takes (record { values = []; end = takes.end; follows = to_end; all = refl }))

module _ (s t : List ℕ) (filter : List Item) (lmcs scaling : Bool) (size : length t ≡ 1024) (other : length s ≡ 1024) (apart : slice_index t pps_alf_info_in_ph_flag ≡ 0)
    (outside : slice_index t sh_picture_header_in_slice_header_flag ≡ 0) (low_l : slice_index t ph_lmcs_enabled_flag < 2) (low_k : slice_index t ph_explicit_scaling_list_enabled_flag < 2)
    (chroma : slice_index s sps_chroma_format_idc ≡ slice_index t sps_chroma_format_idc) (cross : slice_index s sps_ccalf_enabled_flag ≡ slice_index t sps_ccalf_enabled_flag)
    (takes : is_set (slice_index t sps_alf_enabled_flag) ≡ true → Takes (form_of ALF s) filter) where
  -- what the slice uses
  pub own_takes : Takes (sections_form own t) (where_so (is_set (slice_index t sps_alf_enabled_flag)) filter
      ++ (where_so (is_set (slice_index t ph_lmcs_enabled_flag)) (item sh_lmcs_used_flag (one_if lmcs) ∷ []) ++ where_so (is_set (slice_index t ph_explicit_scaling_list_enabled_flag)) (item sh_explicit_scaling_list_used_flag (one_if scaling) ∷ [])))
  unfolding sections_form once filter_if said fresh
  own_takes =
      let has_filter = slice_index t sps_alf_enabled_flag in
      let u : List ℕ = slice_set t HAS_ALF has_filter in
      let in_u : (n : ℕ) → n < 800 → slice_index u n ≡ slice_index t n = λ n low. get_or-set_other t HAS_ALF n has_filter 0 (λ e. absurd (omega (arith, e, low))) in
      let first : Takes (once FILTER_HERE t) [] = record { values = []; end = u; follows = filter_here t apart; all = no_items (once FILTER_HERE t) } in
      let named : slice_index u HAS_ALF ≡ has_filter = get_or-set_at t HAS_ALF HAS_ALF has_filter 0 refl (omega (arith, size)) in
      let second : Takes (filter_if u) (where_so (is_set has_filter) filter) = subst (λ n. Takes (filter_if u) (where_so (is_set n) filter)) named
      (filter_takes u filter (λ is. filter_again s u filter (other ∙ sym (length-set t HAS_ALF has_filter ∙ size)) (chroma ∙ sym (in_u sps_chroma_format_idc (omega arith))) (cross ∙ sym (in_u sps_ccalf_enabled_flag (omega arith)))
      (takes (ap is_set (sym named) ∙ is)))) in
      let v = second.end in
      let left = leaves_agree of_uses filter_if u second.values v filter_leaves second.follows in
      let long : length v ≡ 1024 = sym left.size ∙ length-set t HAS_ALF has_filter ∙ size in
      let at_l : slice_index v ph_lmcs_enabled_flag ≡ slice_index t ph_lmcs_enabled_flag = sym (left.same ph_lmcs_enabled_flag refl) ∙ in_u ph_lmcs_enabled_flag (omega arith) in
      let at_k : slice_index v ph_explicit_scaling_list_enabled_flag ≡ slice_index t ph_explicit_scaling_list_enabled_flag
      = sym (left.same ph_explicit_scaling_list_enabled_flag refl) ∙ in_u ph_explicit_scaling_list_enabled_flag (omega arith) in
      let at_first : slice_index v sh_picture_header_in_slice_header_flag ≡ 0 = sym (left.same sh_picture_header_in_slice_header_flag refl) ∙ in_u sh_picture_header_in_slice_header_flag (omega arith) ∙ outside in
      let third : Takes (form_of LMCS_AND_SCALING v) (said (slice_index t ph_lmcs_enabled_flag) (slice_index t ph_explicit_scaling_list_enabled_flag) lmcs scaling)
      = subst (λ k. Takes (form_of LMCS_AND_SCALING v) (said (slice_index t ph_lmcs_enabled_flag) k lmcs scaling)) at_k
      (subst (λ l. Takes (form_of LMCS_AND_SCALING v) (said l (slice_index v ph_explicit_scaling_list_enabled_flag) lmcs scaling)) at_l
      (uses_take v lmcs scaling long at_first (omega (arith, at_l, low_l)) (omega (arith, at_k, low_k)))) in
      takes_together (once FILTER_HERE t) (sections_form (provided (Plain (Latest HAS_ALF)) ALF ∷ always LMCS_AND_SCALING ∷ [])) [] _ first
      (takes_together (filter_if u) (sections_form (always LMCS_AND_SCALING ∷ [])) (where_so (is_set has_filter) filter) _ second (one_table v _ third))

-- ---- the QP

pub qp_takes : (t : List ℕ) (delta : ℤ) → slice_index t pps_qp_delta_info_in_ph_flag ≡ 0 → IsCodeNumber (code_number delta) → Takes (sections_form qp t) (qp_items delta)
unfolding sections_form present value form_of part one_field coding_at limits_at after has_value HasCode fault_of item_of
qp_takes t delta none code = rw none (record { values = delta ∷ []; end = _; follows = through (record { code = code; range = refl }) to_end; all = refl })
