-- There is a rewritten set for each source and shape, and a rewriter makes it.
use Rattle.std.proofs.Common.{◌≡◌, ◌≢◌, ◌||◌, ◌&&◌, negsuc, inl, inr, ℕ, ℤ, pos, zero, suc, ◌+◌, ◌-◌, ◌<◌, ◌≤◌, ◌^◌, take, drop, true, false, not, ◌==◌, List, [], ◌∷◌, ◌++◌, length, slice_index, Some, None, Result, Ok, Err, refl, ap, sym, subst, ◌∙◌, arith}
use Rattle.std.specs.Prelude.{Bool, All, IfOk}
use Rattle.std.proofs.lemmas.Bool.Decides.{eqb_tells}
use Rattle.std.proofs.lemmas.List.{take_all}
use Rattle.vx_bits.specs.Codes.{IsCodeNumber}
use Rattle.vx_layout.specs.declared.rect.Rect.{Rect}
use Rattle.vx_bits.specs.declared.list.Item.{Item}
use Rattle.vx_fields.specs.declared.timing.TheConstants as timing_fields
use Rattle.vx_fields.specs.declared.sps.TheConstants as sps
use Rattle.vx_table.specs.declared.writer.SpellError.{SpellError}
use Rattle.vx_table.specs.declared.writer.SpellError.TheVariants as errors
use Rattle.vx_table.specs.declared.rows.Formula.{Formula}
use Rattle.vx_table.specs.declared.rows.Coding.{Coding}
use Rattle.vx_table.specs.declared.rows.Coding.TheVariants.{Fixed, Golomb, SignedGolomb, Zeros, OneAndZeros, Trailing, Absent as Filled, Refused}
use Rattle.vx_table.specs.declared.rows.Cell.{Cell}
use Rattle.vx_table.specs.declared.rows.Row.{Row}
use Rattle.vx_table.specs.declared.rows.Row.TheVariants.{Field, Block, Name}
use Rattle.vx_table.specs.Scope.{fresh, natural, quotient}
use Rattle.vx_table.specs.EachField.{sections_pass}
use Rattle.vx_table.specs.Forms.{has_value, coding_at, cell_at}
use Rattle.vx_table.specs.Parts.{sections_form}
use Rattle.vx_table.specs.Spelling.{HasCode, items_along}
use Rattle.vx_table.specs.Values.{Follows}
use Rattle.vx_table.specs.Depends.{Agree}
use Rattle.vx_table.specs.Loaded.{StaysBelow, number, row_below, code_below, range_below}
use Rattle.vx_table.specs.Rewrites.{Takes}
use Rattle.vx_table.specs.Rewritten.{IsRewritten, Sources, RewritesField, RewritesInto}
use Rattle.vx_table.specs.Shown.{shown_items}
use Rattle.vx_table.specs.Writing.{IsWritten}
use Rattle.std.proofs.lemmas.Bool.{eq-eqb}
use Rattle.vx_table.proofs.Agreeing.{valued}
use Rattle.vx_table.proofs.EachField.{each_of_sections}
use Rattle.vx_table.proofs.Loading.{number_below}
use Rattle.vx_table.specs.Walks.{Walks, leaving}
use Rattle.vx_table.proofs.Rewriting.{makes_rewritten, rewrites}
use Rattle.vx_sps.specs.declared.shape.SpsShape.{SpsShape}
use Rattle.vx_sps.specs.declared.shape.SubpicPlan.{SubpicPlan}
use Rattle.vx_sps.specs.declared.shape.SubpicPlan.TheVariants.{Absent, One, Many}
use Rattle.vx_sps.specs.Depends.{taken_sps_fields}
use Rattle.vx_sps.specs.Set.{AreSpsItems, ctb_size_of}
use Rattle.vx_sps.specs.Structure.{picture, timing, sps_sections, sps_form}
use Rattle.vx_sps.specs.Reshaped.{picture_size_items, subpic_items, timing_items, stated_sps_items, one_items, many_items, AreParts, IsSize, IsPlan, IsShape, IsReshapedSps}
use Rattle.vx_sps.specs.inner.Makes.{MakesSet}
use Rattle.vx_sps.proofs.Chain.{Replaces, set_rewrites}
use Rattle.vx_sps.proofs.Stated.{below, ids_take, profile_take}
use Rattle.vx_sps.proofs.Limits.{dpb_take, timed_take, untimed_take}
use Rattle.vx_sps.proofs.Picture.{block, block_at, unset_names, picture_take, absent_at, unmapped_at, mapped_at}
use Rattle.vx_sps.proofs.Many.{alone_at, several_at}

flag_is : (n : ℕ) → n < 2 → n ≢ 0 → n ≡ 1
flag_is zero few some = absurd (some refl)
flag_is (suc zero) few some = refl
flag_is (suc (suc n)) few some = absurd (omega (arith, few))

-- a picture has few columns and rows of CTUs
pub few_units : (n ctu : ℕ) → ctu < 3 → IsSize n → quotient n (2 ^ (ctu + 5)) ≤ 16384
few_units n zero few is = omega (arith, is.small)
few_units n (suc zero) few is = omega (arith, is.small)
few_units n (suc (suc zero)) few is = omega (arith, is.small)
few_units n (suc (suc (suc ctu))) few is = absurd (omega (arith, few))

-- a number that is coded by ue(v) is one that has a code
abbrev is_golomb : Coding Formula → Bool
is_golomb Golomb = true
is_golomb coding = false

unfoldable pub golomb_row : ℕ → Row → Bool
golomb_row of (Field c) = not (has_value c.coding && c.field == of) || is_golomb c.coding
golomb_row of (Block presence n) = true
golomb_row of (Name name formula) = true

golomb_below : (coding : Coding Formula) (s : List ℕ) (v : ℤ) → is_golomb coding ≡ true → HasCode (coding_at s coding) v → natural v < 4294967295
unfolding coding_at HasCode natural
golomb_below Golomb s (pos v) is has = omega (arith, has)
golomb_below Golomb s (negsuc v) is has = absurd has
golomb_below (Fixed width) s v is has = absurd (cc)
golomb_below SignedGolomb s v is has = absurd (cc)
golomb_below Zeros s v is has = absurd (cc)
golomb_below OneAndZeros s v is has = absurd (cc)
golomb_below Trailing s v is has = absurd (cc)
golomb_below Filled s v is has = absurd (cc)
golomb_below Refused s v is has = absurd (cc)

golomb_stays : (of : ℕ) (c : Cell Formula) (s : List ℕ) → golomb_row of (Field c) ≡ true → StaysBelow of 4294967295 (cell_at s c)
unfolding golomb_row
golomb_stays of c s test = λ has same v is. golomb_below c.coding s v (rw (sym (valued s c.coding) ∙ has, eq-eqb c.field of same) at test) is.code

pub coded_number : (of : ℕ) {values : List ℤ} {last : List ℕ} → sections_pass (golomb_row of) sps_sections ≡ true → Follows sps_form values last → IsCodeNumber (number (items_along sps_form values) of)
coded_number of {values} {last} test follows =
    let less = number_below of 4294967295 sps_form values last (omega arith) (each_of_sections (StaysBelow of 4294967295) (golomb_row of) (λ c s h. golomb_stays of c s h) sps_sections fresh test) follows in
    omega (arith, less)

many_at : (columns rows : ℕ) (rects : List Rect) → columns ≤ 16384 → rows ≤ 16384 → AreParts columns rows rects → Takes (sections_form block (block_at 1 columns rows)) (many_items columns rows rects)
many_at columns rows [] few small are = absurd (omega (arith, are.some))
many_at columns rows (rect ∷ []) few small are = alone_at columns rows rect
many_at columns rows (rect ∷ next ∷ more) few small are = several_at columns rows (rect ∷ next ∷ more) few small (omega arith) are.few are.parts

module _ {values : List ℤ} {last : List ℕ} (follows : Follows sps_form values last) where
  abbrev source : List Item
  source = items_along sps_form values

  abbrev number_of : ℕ → ℕ
  number_of n = number source n

  -- timing, which the source has or not
  timing_goes : (t : List ℕ) → length fresh ≡ length t → slice_index t sps.sps_max_sublayers_minus1 ≡ number_of sps.sps_max_sublayers_minus1
      → slice_index t sps.sps_timing_hrd_params_present_flag ≡ number_of sps.sps_timing_hrd_params_present_flag → Takes (sections_form timing t) (timing_items source)
  unfolding has_value row_below code_below range_below golomb_row
  timing_goes t size most there = elim (eqb_tells (number_of sps.sps_timing_hrd_params_present_flag) 0) [
    | inl none ↦ rw none.0 (untimed_take (number_of sps.sps_max_sublayers_minus1) t size most (there ∙ none.1))
    | inr some ↦
        let flag = below sps.sps_timing_hrd_params_present_flag 2 (omega arith) refl follows in
        let one : number_of sps.sps_timing_hrd_params_present_flag ≡ 1 = flag_is (number_of sps.sps_timing_hrd_params_present_flag) flag some.1 in
        rw some.0
        (timed_take (number_of sps.sps_max_sublayers_minus1) (number_of timing_fields.num_units_in_tick) (number_of timing_fields.time_scale) (number_of timing_fields.fixed_pic_rate_general_flag)
        (number_of timing_fields.fixed_pic_rate_within_cvs_flag) (number_of timing_fields.elemental_duration_in_tc_minus1) t
        (below timing_fields.num_units_in_tick (2 ^ 32) (omega arith) refl follows) (below timing_fields.time_scale (2 ^ 32) (omega arith) refl follows)
        (below timing_fields.fixed_pic_rate_general_flag 2 (omega arith) refl follows) (below timing_fields.fixed_pic_rate_within_cvs_flag 2 (omega arith) refl follows)
        (coded_number timing_fields.elemental_duration_in_tc_minus1 refl follows) size most (there ∙ one))
  ]

  -- the picture, as each plan has it
  plan_goes : (ctu width height : ℕ) (window : List ℕ) (plan : SubpicPlan) (t : List ℕ) → ctu < 3 → IsSize width → IsSize height → All IsCodeNumber window
      → IsPlan (quotient width (2 ^ (ctu + 5))) (quotient height (2 ^ (ctu + 5))) plan → Agree unset_names fresh t → slice_index t sps.sps_log2_ctu_size_minus5 ≡ ctu
      → Takes (sections_form picture t) (picture_size_items width height window ++ subpic_items (quotient width (2 ^ (ctu + 5))) (quotient height (2 ^ (ctu + 5))) plan)
  plan_goes ctu width height window Absent t small wide high are is empty same = picture_take ctu width height 0 window [] t small (omega arith) wide high are empty same (absent_at _ _)
  plan_goes ctu width height window (One id_len None) t small wide high are is empty same =
      picture_take ctu width height 1 window (one_items id_len None) t small (omega arith) wide high are empty same (unmapped_at _ _ id_len is.0)
  plan_goes ctu width height window (One id_len (Some id)) t small wide high are is empty same =
      picture_take ctu width height 1 window (one_items id_len (Some id)) t small (omega arith) wide high are empty same (mapped_at _ _ id_len id is.0 is.1)
  plan_goes ctu width height window (Many rects) t small wide high are is empty same =
      picture_take ctu width height 1 window _ t small (omega arith) wide high are empty same (many_at _ _ rects (few_units width ctu small wide) (few_units height ctu small high) is)

  all_go : (shape : SpsShape) → IsShape (ctb_size_of source) shape → shape.level < 256 → Replaces source shape
  unfolding has_value row_below code_below range_below
  all_go shape fits level = record {
    ids = λ t size. ids_take shape.id t fits.id;
    profile = λ t size most. profile_take shape.level t level follows size most;
    picture = λ t empty ctu. plan_goes (number_of sps.sps_log2_ctu_size_minus5) shape.width shape.height shape.window shape.subpics t (below sps.sps_log2_ctu_size_minus5 3 (omega arith) refl follows)
        fits.width fits.height fits.window fits.plan empty ctu;
    dpb = λ t size most. dpb_take (number_of sps.sps_max_sublayers_minus1) shape.dpb t fits.dpb size most;
    timing = timing_goes;
  }

-- so there is a rewritten set
pub reshaped_is : (source : List Item) (shape : SpsShape) → AreSpsItems source → IsShape (ctb_size_of source) shape → shape.level < 256 → (items : List Item) × IsReshapedSps source shape items
reshaped_is source shape is fits level =
    let back : items_along sps_form is.values ≡ source = sym is.all in
    subst (λ x. (items : List Item) × IsReshapedSps x shape items) back (set_rewrites shape is.follows (all_go is.follows shape (subst (λ x. IsShape (ctb_size_of x) shape) is.all fits) level))

-- all items of a list
all_of : (items : List Item) (n : ℕ) → n ≡ length items → take (n - 0) (drop 0 items) ≡ items
all_of items n size = take_all (n - 0) items (omega (arith, size))

-- what a rewriter makes of all items of two lists
pub made : {taken others shown hidden : List Item} {start names : List ℕ} {old new : Sources} {into after : List Item} {n m : ℕ} (a : List ℕ) (result : Result (Unit {0}) SpellError) → start ≡ fresh
    → names ≡ taken_sps_fields → n ≡ length taken → shown ≡ take (n - 0) (drop 0 taken) → m ≡ length others → hidden ≡ take (m - 0) (drop 0 others)
    → old ≡ record { names = names; shown = shown; others = hidden } → into ≡ [] → Walks RewritesField (sections_form sps_sections start) old into (leaving a result) new after
    → MakesSet taken others result after
made {taken} {others} {shown} {hidden} {start} {names} {old} {new} {into} {after} {n} {m} a result at_start set size first count second whole empty walk items is =
    let makes = rewrites a result walk in
    let from : RewritesInto sps_form old [] result new after = subst (λ x. RewritesInto sps_form old x result new after) empty (subst (λ x. RewritesInto (sections_form sps_sections x) old into result new after) at_start makes) in
    let taken_is : old.shown ≡ taken = ap (λ r. r.shown) whole ∙ first ∙ all_of taken n size in
    let others_are : old.others ≡ others = ap (λ r. r.others) whole ∙ second ∙ all_of others m count in
    let names_are : old.names ≡ taken_sps_fields = ap (λ r. r.names) whole ∙ set in
    makes_rewritten sps_form old new items after result from (rw (names_are, taken_is, others_are) is)

-- so of what a source gives and what a shape states it makes the rewritten set
so_written : {P Q : Type 0} (result : Result (Unit {0}) SpellError) → (P → Q) → IsWritten result P → IsWritten result Q
so_written (Ok u) f p = f p
so_written (Err errors.Memory) f p = tt
so_written (Err errors.NoValue) f p = p

pub reshapes : {source fields taken others : List Item} (after : List Item) {shape : SpsShape} {names : List ℕ} (result : Result (Unit {0}) SpellError) → fields ≡ source → AreSpsItems fields → IsShape (ctb_size_of source) shape
    → shape.level < 256 → names ≡ taken_sps_fields → taken ≡ shown_items names fields → others ≡ stated_sps_items source shape → MakesSet taken others result after → IsWritten result (IsReshapedSps source shape after)
reshapes {source} {fields} {taken} {others} after {shape} result same is fits level set first second makes =
    let there = reshaped_is source shape (subst AreSpsItems same is) fits level in
    let wanted : IsRewritten sps_form taken_sps_fields taken others there.0 = rw (first, second, set, same) there.1 in
    so_written result (λ e. subst (λ x. IsReshapedSps source shape x) (sym e) there.1) (makes there.0 wanted)

-- a rewritten set is a set
pub reshaped_set : (from items : List Item) (shape : SpsShape) → IsReshapedSps from shape items → AreSpsItems items
reshaped_set from items shape is = record { values = is.values; end = is.end; follows = is.follows; all = is.all }

-- and so is what is made of its items
pub is_made : {E : Type 0} (from items : List Item) (shape : SpsShape) (result : Result (List Item) E) → IsReshapedSps from shape items → IfOk result (λ made. made ≡ items)
    → IfOk result (λ made. IsReshapedSps from shape made)
is_made from items shape (Ok made) is same = subst (λ x. IsReshapedSps from shape x) (sym same) is
is_made from items shape (Err e) is same = tt
