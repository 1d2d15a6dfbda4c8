-- The ids of subpictures that an SPS gives have as many bits as it says.
use Rattle.std.proofs.Common.{◌≡◌, ◌⊎◌, inl, inr, ℕ, ℤ, ◌+◌, ◌<◌, ◌≤◌, ◌^◌, ◌==◌, ◌&&◌, ◌||◌, not, Bool, true, false, List, [], ◌∷◌, ◌++◌, length, map, slice_index, slice_set, refl, ap, sym, subst, ◌∙◌, arith}
use Rattle.std.specs.Prelude.{drop, take, nat_lt, slice_index_or}
use Rattle.std.specs.List.{range_with_len}
use Rattle.std.proofs.lemmas.Bool.{cases_lt, ltb-false}
use Rattle.std.proofs.lemmas.List.{get_or_past, get_or-set_other, get_or-set_same}
use Rattle.std.proofs.lemmas.List.Elements.{All-nil}
use Rattle.std.proofs.lemmas.List.FromFn.{get_or-map-range_with_len}
use Rattle.vx_bits.specs.declared.list.Item.{Item}
use Rattle.vx_fields.specs.declared.sps.TheConstants as sps
use Rattle.vx_fields.specs.declared.pps.TheConstants as pps
use Rattle.vx_fields.specs.declared.names.sps.TheConstants.{SUBPIC}
use Rattle.vx_table.specs.declared.rows.Formula.TheVariants.{Plain}
use Rattle.vx_table.specs.declared.rows.Presence.TheVariants.{When}
use Rattle.vx_table.specs.declared.rows.Term.TheVariants.{Latest}
use Rattle.vx_table.specs.Claims.{hides_counter, hides_row}
use Rattle.vx_table.specs.Forms.{Form, done, has_value, form_of, part, one_field, after, coding_at, limits_at, present, turns}
use Rattle.vx_table.specs.Loaded.{number}
use Rattle.vx_table.specs.Parts.{Section, sections_form}
use Rattle.vx_table.specs.Scope.{capped, fresh, is_set, natural, value}
use Rattle.vx_table.specs.Spelling.{item_of, items_along}
use Rattle.vx_table.specs.Values.{Follows, through}
use Rattle.vx_table.proofs.EachField.{each_of_rows}
use Rattle.vx_table.proofs.Groups.{cut}
use Rattle.vx_table.proofs.Joined.{items_joined, parted}
use Rattle.vx_table.proofs.Rewrites.{leaves_agree, sections_leave, sections_together}
use Rattle.vx_sps.specs.declared.tables.TheConstants.{SUBPIC_IDS}
use Rattle.vx_sps.specs.Structure as structure
use Rattle.vx_sps.specs.Structure.{sps_form}
use Rattle.vx_sps.specs.Set.{AreSpsItems}
use Rattle.vx_sps.specs.Subpictures.{sps_subpic_id_of, subpics_of}
use Rattle.vx_table.specs.Loaded.{numbers_of}
use Rattle.vx_pic.specs.PictureLayout.{are_in_pps, ids_of, ids_misplaced, ids_unlike, ids_too_short, needs_ids, same_flag}
use Rattle.vx_pic.proofs.Ids.{Lacks, LengthAndLow, Low, and_set, at_end_nothing, bind_nothing, fresh_size, items_lack, lacks_both, low_told, low_turns, numbers_none, or_false, other_row, other_sound, sections_lack}

-- ---- the table

abbrev length_of_ids : ℕ
length_of_ids = sps.sps_subpic_id_len_minus1

-- the rows of the ids
abbrev id_turns : List ℕ → Form (List ℕ)
id_turns s = turns (form_of (drop 7 SUBPIC_IDS)) SUBPIC 0 (capped (slice_index s sps.sps_num_subpics_minus1 + 1)) s

id_rows_are : (s : List ℕ) → form_of (drop 6 SUBPIC_IDS) s ≡ id_turns s
unfolding form_of part present value
id_rows_are s = bind_nothing (id_turns s) (part 1 0 (drop 7 SUBPIC_IDS)) (λ t. refl)

-- ids have as many bits as a scope says
abbrev LowAt : List ℕ → List Item → Type 0
LowAt s items = Low (slice_index s length_of_ids + 1) (numbers_of items sps.sps_subpic_id)

low_rows : (s : List ℕ) {w : List ℤ} {e : List ℕ} → Follows (form_of (drop 6 SUBPIC_IDS) s) w e → LowAt s (items_along (form_of (drop 6 SUBPIC_IDS) s) w)
low_rows s follows =
    rw (id_rows_are s) (low_turns sps.sps_subpic_id length_of_ids SUBPIC 0 (capped (slice_index s sps.sps_num_subpics_minus1 + 1)) s (omega arith) (omega arith) (rw (id_rows_are s) at follows))

-- where they are there
low_where : (s : List ℕ) (b : Bool) {w : List ℤ} {e : List ℕ} → (slice_index s sps.sps_subpic_id_mapping_present_flag == 0) ≡ b → Follows (form_of (drop 5 SUBPIC_IDS) s) w e
    → LowAt s (items_along (form_of (drop 5 SUBPIC_IDS) s) w)
unfolding form_of part present value
low_where s true {w} {e} is follows =
    let ends : form_of (drop 5 SUBPIC_IDS) s ≡ done s = rw is refl in
    let none : w ≡ [] = at_end_nothing (subst (λ f. Follows f w e) ends follows) in
    rw (none, ends) (All-nil (λ (n : ℕ). n < 2 ^ (slice_index s length_of_ids + 1)))
low_where s false {w} {e} is follows =
    let form : form_of (drop 5 SUBPIC_IDS) s ≡ form_of (drop 6 SUBPIC_IDS) s = rw is (bind_nothing (form_of (drop 6 SUBPIC_IDS) s) (part 2 0 (drop 6 SUBPIC_IDS)) (λ r. refl)) in
    rw form (low_rows s (subst (λ f. Follows f w e) form follows))

-- behind the flag that says so
low_spelled : (s : List ℕ) {w : List ℤ} {e : List ℕ} → Follows (form_of (drop 4 SUBPIC_IDS) s) w e → LowAt s (items_along (form_of (drop 4 SUBPIC_IDS) s) w)
unfolding form_of part one_field after has_value coding_at limits_at item_of
low_spelled s (through {v} {w} is more) =
    let t : List ℕ = slice_set s sps.sps_subpic_id_mapping_present_flag (natural v) in
    let same : slice_index t length_of_ids ≡ slice_index s length_of_ids = get_or-set_other s sps.sps_subpic_id_mapping_present_flag length_of_ids (natural v) 0 (omega arith) in
    rw same at (low_where t _ refl more)

-- where ids are signalled
low_signalled : (s : List ℕ) (b : Bool) {w : List ℤ} {e : List ℕ} → (slice_index s sps.sps_subpic_id_mapping_explicitly_signalled_flag == 0) ≡ b → Follows (form_of (drop 3 SUBPIC_IDS) s) w e
    → LowAt s (items_along (form_of (drop 3 SUBPIC_IDS) s) w)
unfolding form_of part one_field after has_value coding_at limits_at item_of present value
low_signalled s true is follows = rw is (low_where s _ refl (rw is at follows))
low_signalled s false is follows = rw is (low_spelled s (rw is at follows))

-- the table gives a length, and ids of it
table_low : (s : List ℕ) {w : List ℤ} {e : List ℕ} → length s ≡ 1024 → Follows (form_of SUBPIC_IDS s) w e → LengthAndLow sps.sps_subpic_id length_of_ids (items_along (form_of SUBPIC_IDS s) w)
unfolding form_of part one_field after has_value coding_at limits_at item_of other_row value
table_low s size (through {v} first (through {v = u} {w} second more)) =
    let signalled : ℕ = sps.sps_subpic_id_mapping_explicitly_signalled_flag in
    let present_flag : ℕ = sps.sps_subpic_id_mapping_present_flag in
    let r : List ℕ = slice_set s length_of_ids (natural v) in
    let t : List ℕ = slice_set r signalled (natural u) in
    let at_rows : List ℕ = slice_set t present_flag 0 in
    let told : slice_index at_rows length_of_ids ≡ natural v
    = get_or-set_other t present_flag length_of_ids 0 0 (omega arith) ∙ get_or-set_other r signalled length_of_ids (natural u) 0 (omega arith) ∙ get_or-set_same s length_of_ids (natural v) 0 (omega (arith, size)) in
    record {
      length_of = v;
      ids = items_along (form_of (drop 1 SUBPIC_IDS) r) (u ∷ w);
      low = rw told at (low_signalled at_rows _ refl more);
      no_length = items_lack length_of_ids (each_of_rows (λ cell. (cell.field == length_of_ids) ≡ false) (other_row length_of_ids) (other_sound length_of_ids) (drop 1 SUBPIC_IDS) r refl) (through second more);
      all = refl;
    }

-- ---- the whole set

-- the table, where subpictures are described
abbrev table_there : List ℕ → Form (List ℕ)
table_there s = present (When (Plain (Latest sps.sps_subpic_info_present_flag))) (form_of SUBPIC_IDS) s

where_there : (s : List ℕ) (b : Bool) {w : List ℤ} {e : List ℕ} → length s ≡ 1024 → (slice_index s sps.sps_subpic_info_present_flag == 0) ≡ b → Follows (table_there s) w e
    → (items_along (table_there s) w ≡ []) ⊎ LengthAndLow sps.sps_subpic_id length_of_ids (items_along (table_there s) w)
unfolding present value
where_there s true {w} {e} size is follows =
    let ends : table_there s ≡ done s = rw is refl in
    let none : w ≡ [] = at_end_nothing (subst (λ f. Follows f w e) ends follows) in
    inl (rw (none, ends) refl)
where_there s false {w} {e} size is follows =
    let form : table_there s ≡ form_of SUBPIC_IDS s = rw is refl in
    inr (rw form (table_low s size (subst (λ f. Follows f w e) form follows)))

abbrev before : List Section
before = structure.ids ++ (structure.start ++ (structure.profile ++ (structure.resampling ++ take 4 structure.picture)))

abbrev behind : List Section
behind = structure.counts ++ (structure.dpb ++ (structure.tools ++ (structure.timing ++ structure.end)))

abbrev from_table : List Section
from_table = structure.with_subpictures SUBPIC_IDS ∷ behind

low_ids_of_sps : (items : List Item) → AreSpsItems items → Low (number items length_of_ids + 1) (numbers_of items sps.sps_subpic_id)
unfolding fresh sections_form hides_row hides_counter other_row
low_ids_of_sps items set =
    let p = cut before from_table fresh set.follows in
    let size : length p.mid ≡ 1024 = sym (leaves_agree fresh (sections_form before) fresh p.front p.mid (sections_leave fresh before refl) p.first).size ∙ fresh_size in
    let q = parted (table_there p.mid) (sections_form behind) p.second in
    let a : List Item = items_along (sections_form before fresh) p.front in
    let t : List Item = items_along (table_there p.mid) q.front in
    let b : List Item = items_along (sections_form behind q.mid) q.others in
    let rest : items_along (sections_form from_table p.mid) p.others ≡ t ++ b
    = ap (λ w. items_along (sections_form from_table p.mid) w) q.all ∙ items_joined (sections_form behind) q.others q.first in
    let all : items ≡ a ++ (t ++ b)
    = set.all ∙ ap (λ w. items_along sps_form w) p.all ∙ ap (λ f. items_along f (p.front ++ p.others)) (sections_together before from_table fresh)
    ∙ items_joined (sections_form from_table) p.others p.first ∙ ap (λ xs. a ++ xs) rest in
    let none_a : Lacks sps.sps_subpic_id a = sections_lack sps.sps_subpic_id before fresh refl p.first in
    let none_b : Lacks sps.sps_subpic_id b = sections_lack sps.sps_subpic_id behind q.mid refl q.second in
    let no_length : Lacks length_of_ids b = sections_lack length_of_ids behind q.mid refl q.second in
    elim (where_there p.mid _ size refl q.first) [
      | inl none ↦
          let nothing : numbers_of items sps.sps_subpic_id ≡ []
          = ap (λ xs. numbers_of xs sps.sps_subpic_id) (all ∙ ap (λ xs. a ++ (xs ++ b)) none) ∙ numbers_none sps.sps_subpic_id (a ++ b) (lacks_both sps.sps_subpic_id a b none_a none_b) in
          rw nothing (All-nil (λ (n : ℕ). n < 2 ^ (number items length_of_ids + 1)))
      | inr told ↦ rw all (low_told sps.sps_subpic_id length_of_ids a t b (omega arith) refl told none_a none_b no_length)
    ]

-- ids that stand in the SPS, and indices in place of them, have as many bits
pub ids_low_in_sps : (s p : List Item) (i : ℕ) → AreSpsItems s → ids_misplaced s p ≡ false → are_in_pps s p ≡ false → is_set (number s sps.sps_subpic_info_present_flag) ≡ true → i < subpics_of s
    → slice_index (ids_of s p) i < 2 ^ (number s length_of_ids + 1)
unfolding ids_of ids_misplaced
ids_low_in_sps s p i set agree none described within =
    let bound : ℕ = 2 ^ (number s length_of_ids + 1) in
    let has_ids : Bool = is_set (number p pps.pps_subpic_id_mapping_present_flag) in
    let others = or_false (not (same_flag has_ids (needs_ids s))) ((has_ids && ids_unlike s p) || ids_too_short s) agree in
    let short : ids_too_short s ≡ false = (or_false (has_ids && ids_unlike s p) (ids_too_short s) others.1).1 in
    let fit : subpics_of s ≤ bound = ltb-false bound (subpics_of s) (and_set (is_set (number s sps.sps_subpic_info_present_flag)) (nat_lt bound (subpics_of s)) described short) in
    let at : slice_index (map (sps_subpic_id_of s) (range_with_len 0 (subpics_of s))) i ≡ sps_subpic_id_of s i = get_or-map-range_with_len (sps_subpic_id_of s) 0 (subpics_of s) i i 0 within (omega arith) in
    let ids : List ℕ = numbers_of s sps.sps_subpic_id in
    rw (none, at) (elim (cases_lt i (length ids)) [
      | inl there ↦ low_ids_of_sps s set i i there
      | inr past ↦ let own : slice_index_or ids i i ≡ i = get_or_past ids i i past in rw own (omega (arith, within, fit))
    ])
