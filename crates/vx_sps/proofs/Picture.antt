-- The picture's size goes through, and behind it the subpictures: none, or one.
use Rattle.std.proofs.Common.{◌≡◌, inl, inr, ℕ, pos, zero, suc, ◌+◌, ◌%◌, ◌<◌, ◌≤◌, ◌^◌, min, true, cond, List, [], ◌∷◌, ◌++◌, slice_index, slice_set, Some, None, refl, sym, subst, arith}
use Rattle.std.specs.Prelude.{All, nat_lt}
use Rattle.std.proofs.lemmas.Bool.{cases_Bool, eq-eqb, le-leb, lt-ltb}
use Rattle.vx_table.specs.declared.rows.Term.TheVariants.{Latest}
use Rattle.vx_table.specs.declared.rows.Formula.TheVariants.{Plain}
use Rattle.vx_bits.specs.Codes.{IsCodeNumber}
use Rattle.vx_bits.specs.declared.list.Item.{Item}
use Rattle.vx_fields.specs.declared.sps.TheConstants as sps
use Rattle.vx_fields.specs.declared.names.sps.TheConstants as names
use Rattle.vx_table.specs.declared.rows.Fault.{Fault}
use Rattle.vx_table.specs.declared.rows.Limits.TheVariants.{Within, Multiple}
use Rattle.vx_table.specs.Scope.{most, fresh, value, natural, capped, one_if, quotient, powers_below}
use Rattle.vx_table.specs.Forms.{has_value, coding_at, limits_at, one_field, turns, present, part, form_of, after}
use Rattle.vx_table.specs.Parts.{Section, always, in_turns, sections_form}
use Rattle.vx_table.specs.Spelling.{HasCode, fault_of, item_of}
use Rattle.vx_table.specs.Depends.{Agree}
use Rattle.vx_table.specs.Claims.{knows_formula, knows_width, knows_range, knows_presence, hides_counter, hides_row, behind_field, within_block, depends, behind_rows, table_depends, behind_table, comes_always}
use Rattle.vx_table.specs.laws.Again.{shows_row}
use Rattle.vx_table.specs.Rewrites.{Takes}
use Rattle.vx_sps.specs.declared.tables.TheConstants.{SIZE, CTUS, SUBPICTURES, PLACE, SUBPIC_IDS}
use Rattle.vx_sps.specs.Structure.{picture, with_subpictures}
use Rattle.vx_sps.specs.Reshaped.{item, has_window, picture_size_items, mapping_items, IsSize}
use Rattle.vx_table.proofs.Groups.{agree_given, takes_at}
use Rattle.vx_sps.proofs.Stages.{TakesTo, Meets, stage_at, groups_take_to}
use Rattle.vx_sps.proofs.Testing.{owed, tested, all_tested, at_end, they_take, values_take_to}
use Rattle.vx_sps.proofs.Limits.{coded_at}

-- ---- ranges

pub within_range : (n high : ℕ) (fault : Fault) → n ≤ high → fault_of (Within (pos 0) high fault) (pos n) ≡ None
unfolding fault_of
within_range n high fault few = let z = le-leb 0 n (omega arith) in let h = le-leb n high few in rw (z, h) refl

pub size_range : (n : ℕ) (fault : Fault) → IsSize n → fault_of (Multiple 8 16384 fault) (pos n) ≡ None
unfolding fault_of
size_range zero fault is = absurd (omega (arith, is.some))
size_range (suc n) fault is = let h = le-leb (suc n) 16384 is.small in let e = eq-eqb (suc n % 8) 0 is.whole in rw (h, e) refl

-- ---- the size

ctu_at : ℕ → List ℕ
ctu_at ctu = slice_set fresh sps.sps_log2_ctu_size_minus5 ctu

-- numbers as formulas see them
abbrev pub side_seen : ℕ → ℕ
side_seen ctu = cond (nat_lt (capped (ctu + 5)) 32) (2 ^ capped (ctu + 5)) most

abbrev pub units_seen : ℕ → ℕ → ℕ
units_seen n ctu = quotient (natural (pos n)) (side_seen ctu)

abbrev pub unset_names : List ℕ
unset_names = sps.sps_num_subpics_minus1 ∷ sps.sps_independent_subpics_flag ∷ sps.sps_subpic_same_size_flag ∷ []

-- what the subpictures' tables read
abbrev pub block_given : List ℕ
block_given = sps.sps_subpic_info_present_flag ∷ names.IS_WIDE ∷ names.IS_HIGH ∷ names.X_BITS ∷ names.Y_BITS ∷ names.NUM_PLACES ∷ unset_names

unfoldable pub block_at : ℕ → ℕ → ℕ → List ℕ
block_at info columns rows =
    slice_set (slice_set (slice_set (slice_set (slice_set fresh sps.sps_subpic_info_present_flag info) names.IS_WIDE (one_if (nat_lt 1 columns))) names.IS_HIGH (one_if (nat_lt 1 rows)))
    names.X_BITS (powers_below 32 columns)) names.Y_BITS (powers_below 32 rows)

-- behind the size
abbrev pub size_given : List ℕ
size_given = sps.sps_log2_ctu_size_minus5 ∷ sps.sps_pic_width_max_in_luma_samples ∷ sps.sps_pic_height_max_in_luma_samples ∷ unset_names

pub sized_at : ℕ → ℕ → ℕ → List ℕ
sized_at ctu width height = slice_set (slice_set (ctu_at ctu) sps.sps_pic_width_max_in_luma_samples (natural (pos width))) sps.sps_pic_height_max_in_luma_samples (natural (pos height))

abbrev SizeAt : ℕ → ℕ → ℕ → List Item → Type 0
SizeAt ctu width height items = TakesTo (sections_form (always SIZE ∷ []) (ctu_at ctu)) items (Meets size_given (sized_at ctu width height))

plain_size : (ctu width height : ℕ) → IsCodeNumber width → IsCodeNumber height → IsSize width → IsSize height
    → SizeAt ctu width height (item sps.sps_pic_width_max_in_luma_samples width ∷ item sps.sps_pic_height_max_in_luma_samples height ∷ item sps.sps_conformance_window_flag 0 ∷ [])
unfolding fresh ctu_at sized_at sections_form form_of part one_field after present has_value coding_at limits_at value HasCode fault_of item_of natural
plain_size ctu width height a b wide high =
    values_take_to _ (pos width ∷ pos height ∷ pos 0 ∷ []) _ _ (owed a (size_range width _ wide) (owed b (size_range height _ high) (tested refl (at_end (refl, (refl, (refl, (refl, (refl, (refl, (refl, tt))))))))))) refl

window_size : (ctu width height left right top bottom : ℕ) → IsCodeNumber width → IsCodeNumber height → IsSize width → IsSize height → IsCodeNumber left → IsCodeNumber right
    → IsCodeNumber top → IsCodeNumber bottom
    → SizeAt ctu width height (item sps.sps_pic_width_max_in_luma_samples width ∷ item sps.sps_pic_height_max_in_luma_samples height ∷ item sps.sps_conformance_window_flag 1
    ∷ item sps.sps_conf_win_left_offset left ∷ item sps.sps_conf_win_right_offset right ∷ item sps.sps_conf_win_top_offset top ∷ item sps.sps_conf_win_bottom_offset bottom ∷ [])
unfolding fresh ctu_at sized_at sections_form form_of part one_field after present has_value coding_at limits_at value HasCode fault_of item_of natural
window_size ctu width height left right top bottom a b wide high l r t d =
    values_take_to _ (pos width ∷ pos height ∷ pos 1 ∷ pos left ∷ pos right ∷ pos top ∷ pos bottom ∷ []) _ _
    (owed a (size_range width _ wide) (owed b (size_range height _ high) (tested refl (owed l refl (owed r refl (owed t refl (owed d refl (at_end (refl, (refl, (refl, (refl, (refl, (refl, (refl, tt))))))))))))))) refl

small_size : (n : ℕ) → IsSize n → IsCodeNumber n
small_size n is = omega (arith, is.small)

size_at : (ctu width height : ℕ) (window : List ℕ) → IsSize width → IsSize height → All IsCodeNumber window → SizeAt ctu width height (picture_size_items width height window)
size_at ctu width height window wide high are = elim (cases_Bool (has_window window)) [
  | inl some ↦ rw some
      (window_size ctu width height (slice_index window 0) (slice_index window 1) (slice_index window 2) (slice_index window 3) (small_size width wide) (small_size height high) wide high
      (coded_at window 0 are) (coded_at window 1 are) (coded_at window 2 are) (coded_at window 3 are))
  | inr none ↦ rw none (plain_size ctu width height (small_size width wide) (small_size height high) wide high)
]

-- and whether there are subpictures
info_at : (ctu width height info : ℕ) → info < 2
    → TakesTo (sections_form (always CTUS ∷ []) (sized_at ctu width height)) (item sps.sps_subpic_info_present_flag info ∷ [])
    (Meets block_given (block_at (natural (pos info)) (units_seen width ctu) (units_seen height ctu)))
unfolding fresh ctu_at sized_at block_at sections_form form_of part one_field after present has_value coding_at limits_at value HasCode fault_of item_of natural
info_at ctu width height info few = values_take_to _ (pos info ∷ []) _ _ (owed few refl (at_end (refl, (refl, (refl, (refl, (refl, (refl, (refl, (refl, (refl, (refl, tt)))))))))))) refl

-- the numbers that formulas see are those of the set
pub flag_seen : (n : ℕ) → n < 2 → natural (pos n) ≡ n
unfolding natural
flag_seen n few = omega arith

pub units_are : (n ctu : ℕ) → ctu < 3 → IsSize n → units_seen n ctu ≡ quotient n (2 ^ (ctu + 5))
unfolding natural
units_are n ctu few is =
    let a : min n 4294967295 ≡ n = omega (arith, is.small) in
    let b : min (ctu + 5) 4294967295 ≡ ctu + 5 = omega arith in
    let c : nat_lt (ctu + 5) 32 ≡ true = lt-ltb (ctu + 5) 32 (omega arith) in
    rw (a, b, c) refl

-- ---- the subpictures

abbrev pub block : List Section
block = with_subpictures SUBPICTURES ∷ in_turns names.SUBPIC (Plain (Latest names.NUM_PLACES)) PLACE ∷ with_subpictures SUBPIC_IDS ∷ []

-- none
pub absent_at : (columns rows : ℕ) → Takes (sections_form block (block_at 0 columns rows)) []
unfolding fresh block_at sections_form present turns value
absent_at columns rows = they_take _ [] _ (at_end tt) refl

-- one, whose id the set has not, or has
pub unmapped_at : (columns rows id_len : ℕ) → id_len ≤ 15
    → Takes (sections_form block (block_at 1 columns rows))
    (item sps.sps_num_subpics_minus1 0 ∷ item sps.sps_subpic_id_len_minus1 id_len ∷ item sps.sps_subpic_id_mapping_explicitly_signalled_flag 1 ∷ mapping_items None)
unfolding fresh block_at sections_form form_of part one_field after present turns has_value coding_at limits_at value HasCode fault_of item_of natural
unmapped_at columns rows id_len few =
    they_take _ (pos 0 ∷ pos id_len ∷ pos 1 ∷ pos 0 ∷ []) _ (tested refl (owed (omega arith) (within_range id_len 15 _ few) (all_tested refl (λ s. tt)))) refl

pub mapped_at : (columns rows id_len id : ℕ) → id_len ≤ 15 → id < 2 ^ (id_len + 1)
    → Takes (sections_form block (block_at 1 columns rows))
    (item sps.sps_num_subpics_minus1 0 ∷ item sps.sps_subpic_id_len_minus1 id_len ∷ item sps.sps_subpic_id_mapping_explicitly_signalled_flag 1 ∷ mapping_items (Some id))
unfolding fresh block_at sections_form form_of part one_field after present turns has_value coding_at limits_at value HasCode fault_of item_of natural
mapped_at columns rows id_len id few small =
    let bits : min (min (min id_len 4294967295 + 1) 4294967295) 32 ≡ id_len + 1 = omega arith in
    they_take _ (pos 0 ∷ pos id_len ∷ pos 1 ∷ pos 1 ∷ pos id ∷ []) _
    (tested refl (owed (omega arith) (within_range id_len 15 _ few) (tested refl (tested refl (owed (subst (λ n. id < 2 ^ n) (sym bits) small) refl (at_end tt)))))) refl

-- ---- the picture

-- the size and the flag, and behind them what goes through the subpictures' tables
pub picture_take : (ctu width height info : ℕ) (window : List ℕ) (others : List Item) (t : List ℕ) → ctu < 3 → info < 2 → IsSize width → IsSize height → All IsCodeNumber window
    → Agree unset_names fresh t → slice_index t sps.sps_log2_ctu_size_minus5 ≡ ctu
    → Takes (sections_form block (block_at info (quotient width (2 ^ (ctu + 5))) (quotient height (2 ^ (ctu + 5))))) others
    → Takes (sections_form picture t) (picture_size_items width height window ++ item sps.sps_subpic_info_present_flag info ∷ others)
unfolding fresh has_value knows_formula knows_width knows_range knows_presence hides_counter hides_row behind_field within_block depends behind_rows table_depends behind_table comes_always shows_row ctu_at sized_at
picture_take ctu width height info window others t small few wide high are empty same takes =
    groups_take_to (always SIZE ∷ []) (always CTUS ∷ block) t
    (stage_at (sps.sps_log2_ctu_size_minus5 ∷ unset_names) size_given (always SIZE ∷ []) (ctu_at ctu) t (sized_at ctu width height) refl refl refl
    (empty.size, (sym same, (empty.same sps.sps_num_subpics_minus1 refl, (empty.same sps.sps_independent_subpics_flag refl, (empty.same sps.sps_subpic_same_size_flag refl, tt)))))
    (size_at ctu width height window wide high are))
    (λ e met. groups_take_to (always CTUS ∷ []) block e
    (stage_at size_given block_given (always CTUS ∷ []) (sized_at ctu width height) e (block_at (natural (pos info)) (units_seen width ctu) (units_seen height ctu)) refl refl refl met
    (info_at ctu width height info few))
    (λ f known. takes_at block_given block (block_at (natural (pos info)) (units_seen width ctu) (units_seen height ctu)) f refl refl (agree_given block_given known.0 known.1)
    (seen takes)))
  where
    seen : Takes (sections_form block (block_at info (quotient width (2 ^ (ctu + 5))) (quotient height (2 ^ (ctu + 5))))) others
        → Takes (sections_form block (block_at (natural (pos info)) (units_seen width ctu) (units_seen height ctu))) others
    seen there = let i : natural (pos info) ≡ info = flag_seen info few in rw (i, units_are width ctu small wide, units_are height ctu small high) there
