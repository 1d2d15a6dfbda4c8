-- That a rewritten picture parameter set exists: its parts go through, one behind another.
use Rattle.std.proofs.Common.{◌≡◌, ℕ, ℤ, pos, zero, suc, ◌<◌, ◌≤ℤ◌, eqb, Bool, true, false, cond, neg_ℤ, IsFalse, List, [], ◌∷◌, ◌++◌, length, Option, Some, None, slice_index, sym, ap, ◌∙◌, subst, arith, refl}
use Rattle.std.specs.Prelude.{◌==◌, All, filter, not}
use Rattle.std.proofs.lemmas.Bool.{ne_eqb, true≢false}
use Rattle.std.proofs.lemmas.List.Elements.{All-cons, All-nil, filter-append}
use Rattle.vx_bits.specs.declared.list.Item.{Item}
use Rattle.vx_fields.specs.declared.pps.TheConstants as pps
use Rattle.vx_table.specs.Forms.{Form, done}
use Rattle.vx_table.specs.Kept.{kept_along}
use Rattle.vx_table.specs.Parts.{sections_form}
use Rattle.vx_table.specs.Spelling.{items_along}
use Rattle.vx_table.specs.Depends.{Agree, has}
use Rattle.vx_table.specs.Loaded.{number}
use Rattle.vx_table.specs.Rewritten.{IsRewritten, other_items}
use Rattle.vx_table.specs.Scope.{fresh, is_set}
use Rattle.vx_table.specs.Shown.{KeepsShown, shown_items}
use Rattle.vx_table.proofs.Again.{sections_show}
use Rattle.vx_table.proofs.Agreeing.{inside_itself}
use Rattle.vx_table.proofs.Keeping.{rewritten_keeps, sections_fill_none}
use Rattle.vx_table.proofs.Starred.{structure_keeps_only}
use Rattle.vx_table.proofs.Groups.{agree_given}
use Rattle.vx_table.proofs.Loading.{number_of_last, sections_load}
use Rattle.vx_table.proofs.Rewrites.{leaves_agree, sections_leave}
use Rattle.vx_pps.specs.declared.partition.Partition.{Partition}
use Rattle.vx_pps.specs.declared.shape.PpsShape.{PpsShape}
use Rattle.vx_pps.specs.Reshaped.{taken_for_region, taken_for_frame, CanBeDivided, IsDivision, IsReshapedPps, IsShape, IsSize, RegionKeeps, ReshapedHasItsTiles, frame_tool_items, front_items, pps_subpic_id_items, taken, tool_items, whole_flag}
use Rattle.vx_pps.specs.Partition.{partition, undivided}
use Rattle.vx_pps.specs.Pps.{before_tiles, kept_pps_items, partition_at, partition_of, pps_form, after_slices}
use Rattle.vx_table.specs.Rewritten.{where_so}
use Rattle.vx_pps.specs.Written.{Gives, only_item}
use Rattle.vx_pps.proofs.Cutting.{Clear, Parts, clear_from, cut_parts, division_unshown, flag_below, none_other, number_by_others, numbers_before, numbers_told, override_told, put_parts}
use Rattle.vx_pps.proofs.Division.{a_division, division_gives}
use Rattle.vx_pps.proofs.Fronts.{HasFront, front_goes}
use Rattle.vx_pps.proofs.Keeping.{kept_put}
use Rattle.vx_pps.proofs.Giving.{gives_done, natural_is}
use Rattle.vx_table.proofs.Rewriting.{apart}
use Rattle.vx_pps.proofs.Told.{partition_is}
use Rattle.vx_pps.proofs.Testing.{flags_are, front_fills, front_numbered, front_starred, names, numbered, override, override_stands, tools_read, whole}
use Rattle.vx_pps.proofs.Tooled.{HasFlags, frame_tools, tools_again, tools_keep}

-- ---- the numbers that the stated front gives

-- no item of such a field
abbrev pub NoneOf : ℕ → List Item → Type 0
NoneOf of items = All (λ item. (item.field == of) ≡ false) items

pub no_item : (of n : ℕ) (v : ℤ) (items : List Item) → of < n → NoneOf of items → NoneOf of (only_item n v ++ items)
no_item of n v items less none = All-cons (λ item. (item.field == of) ≡ false) (record { field = n; value = v }) items (ne_eqb n of (λ e. omega (arith, e, less))) none

pub none_where : (of n : ℕ) (v : ℤ) (b : Bool) (items : List Item) → of < n → NoneOf of items → NoneOf of (where_so b (only_item n v) ++ items)
none_where of n v true items less none = no_item of n v items less none
none_where of n v false items less none = none

pub no_more : (of : ℕ) → NoneOf of []
no_more of = All-nil (λ item. (item.field == of) ≡ false)

none_ids : (of whole_ : ℕ) (id : Option (ℕ × ℕ)) → of < 413 → NoneOf of (pps_subpic_id_items whole_ id)
none_ids of whole_ None low = no_item of pps.pps_subpic_id_mapping_present_flag (pos 0) [] low (no_more of)
none_ids of whole_ (Some (bits, id)) low =
    no_item of pps.pps_subpic_id_mapping_present_flag (pos 1)
    (where_so (eqb whole_ 0) (only_item pps.pps_num_subpics_minus1 (pos 0)) ++ (only_item pps.pps_subpic_id_len_minus1 (pos bits) ++ only_item pps.pps_subpic_id (pos id))) low
    (none_where of pps.pps_num_subpics_minus1 (pos 0) (eqb whole_ 0) (only_item pps.pps_subpic_id_len_minus1 (pos bits) ++ only_item pps.pps_subpic_id (pos id)) (omega (arith, low))
    (no_item of pps.pps_subpic_id_len_minus1 (pos bits) (only_item pps.pps_subpic_id (pos id)) (omega (arith, low)) (no_item of pps.pps_subpic_id (pos id) [] (omega (arith, low)) (no_more of))))

stated_whole : (whole_ : ℕ) (shape : PpsShape) → whole_ < 2 → number (front_items whole_ shape) pps.pps_no_pic_partition_flag ≡ whole_
stated_whole whole_ shape low =
    number_of_last pps.pps_no_pic_partition_flag (pos whole_)
    (only_item pps.pps_pic_parameter_set_id (pos shape.id) ++ (only_item pps.pps_seq_parameter_set_id (pos shape.sps_id) ++ (only_item pps.pps_pic_width_in_luma_samples (pos shape.width)
    ++ (only_item pps.pps_pic_height_in_luma_samples (pos shape.height) ++ only_item pps.pps_conformance_window_flag (pos 0)))))
    (pps_subpic_id_items whole_ shape.subpic_id) (omega arith) (none_ids pps.pps_no_pic_partition_flag whole_ shape.subpic_id (omega arith))
    ∙ natural_is whole_ (omega arith)

stated_height : (whole_ : ℕ) (shape : PpsShape) → IsSize shape.height → number (front_items whole_ shape) pps.pps_pic_height_in_luma_samples ≡ shape.height
stated_height whole_ shape is =
    number_of_last pps.pps_pic_height_in_luma_samples (pos shape.height)
    (only_item pps.pps_pic_parameter_set_id (pos shape.id) ++ (only_item pps.pps_seq_parameter_set_id (pos shape.sps_id) ++ only_item pps.pps_pic_width_in_luma_samples (pos shape.width)))
    (only_item pps.pps_conformance_window_flag (pos 0) ++ (only_item pps.pps_no_pic_partition_flag (pos whole_) ++ pps_subpic_id_items whole_ shape.subpic_id)) (omega arith)
    (no_item pps.pps_pic_height_in_luma_samples pps.pps_conformance_window_flag (pos 0) (only_item pps.pps_no_pic_partition_flag (pos whole_) ++ pps_subpic_id_items whole_ shape.subpic_id) (omega arith)
    (no_item pps.pps_pic_height_in_luma_samples pps.pps_no_pic_partition_flag (pos whole_) (pps_subpic_id_items whole_ shape.subpic_id) (omega arith) (none_ids pps.pps_pic_height_in_luma_samples whole_ shape.subpic_id (omega arith))))
    ∙ natural_is shape.height (omega (arith, is.small))

stated_width : (whole_ : ℕ) (shape : PpsShape) → IsSize shape.width → number (front_items whole_ shape) pps.pps_pic_width_in_luma_samples ≡ shape.width
stated_width whole_ shape is =
    number_of_last pps.pps_pic_width_in_luma_samples (pos shape.width)
    (only_item pps.pps_pic_parameter_set_id (pos shape.id) ++ only_item pps.pps_seq_parameter_set_id (pos shape.sps_id))
    (only_item pps.pps_pic_height_in_luma_samples (pos shape.height) ++ (only_item pps.pps_conformance_window_flag (pos 0) ++ (only_item pps.pps_no_pic_partition_flag (pos whole_) ++ pps_subpic_id_items whole_ shape.subpic_id))) (omega arith)
    (no_item pps.pps_pic_width_in_luma_samples pps.pps_pic_height_in_luma_samples (pos shape.height) (only_item pps.pps_conformance_window_flag (pos 0) ++ (only_item pps.pps_no_pic_partition_flag (pos whole_) ++ pps_subpic_id_items whole_ shape.subpic_id)) (omega arith)
    (no_item pps.pps_pic_width_in_luma_samples pps.pps_conformance_window_flag (pos 0) (only_item pps.pps_no_pic_partition_flag (pos whole_) ++ pps_subpic_id_items whole_ shape.subpic_id) (omega arith)
    (no_item pps.pps_pic_width_in_luma_samples pps.pps_no_pic_partition_flag (pos whole_) (pps_subpic_id_items whole_ shape.subpic_id) (omega arith) (none_ids pps.pps_pic_width_in_luma_samples whole_ shape.subpic_id (omega arith)))))
    ∙ natural_is shape.width (omega (arith, is.small))

-- ---- sets

names_clear : (merged : Bool) → Clear (names merged)
names_clear true = clear_from taken_for_frame refl
names_clear false = clear_from taken_for_region refl

front_untaken : (merged : Bool) → IsFalse (has (names merged) pps.pps_no_pic_partition_flag) × IsFalse (has (names merged) pps.pps_pic_width_in_luma_samples) × IsFalse (has (names merged) pps.pps_pic_height_in_luma_samples)
unfolding fresh
front_untaken true = (refl, refl, refl)
front_untaken false = (refl, refl, refl)

ones : (has (pps.pps_no_pic_partition_flag ∷ []) pps.pps_no_pic_partition_flag ≡ true) × (has (pps.pps_pic_width_in_luma_samples ∷ []) pps.pps_pic_width_in_luma_samples ≡ true)
    × (has (pps.pps_pic_height_in_luma_samples ∷ []) pps.pps_pic_height_in_luma_samples ≡ true) × (has numbered pps.pps_no_pic_partition_flag ≡ true) × (has numbered pps.pps_pic_width_in_luma_samples ≡ true)
    × (has numbered pps.pps_pic_height_in_luma_samples ≡ true)
unfolding fresh
ones = (refl, refl, refl, refl, refl, refl)

-- ---- the front

-- a front that goes: its scope has the shape's numbers, and agrees with the source's
pub record FrontGone (merged : Bool) (whole_ : ℕ) (shape : PpsShape) (scope : List ℕ) (source : List Item) : Type 0 where
  pub items : List Item
  pub last : List ℕ
  pub gives : Gives (sections_form before_tiles fresh) items last
  pub agree : Agree (names merged) scope last
  pub shown : shown_items (names merged) items ≡ shown_items (names merged) source
  pub others : other_items (names merged) items ≡ front_items whole_ shape
  pub whole_is : slice_index last pps.pps_no_pic_partition_flag ≡ whole_
  pub width_is : slice_index last pps.pps_pic_width_in_luma_samples ≡ shape.width
  pub height_is : slice_index last pps.pps_pic_height_in_luma_samples ≡ shape.height
  pub long : length fresh ≡ length last

front_gone : (merged : Bool) (whole_ : ℕ) (shape : PpsShape) {source : List Item} {scope : List ℕ} → HasFront whole_ shape → Gives (sections_form before_tiles fresh) source scope → FrontGone merged whole_ shape scope source
front_gone merged whole_ shape {source} {scope} has_ gives =
    let goes = front_goes merged whole_ shape has_ gives.follows in
    let items : List Item = items_along (sections_form before_tiles fresh) goes.values in
    let loads = (sections_load numbered before_tiles front_numbered).at fresh goes.values goes.last goes.follows in
    let same : (of : ℕ) → has numbered of ≡ true → has (of ∷ []) of ≡ true → IsFalse (has (names merged) of) → slice_index goes.last of ≡ number (front_items whole_ shape) of
    = λ of is one out. sym (loads.same of is) ∙ number_by_others (names merged) of items one out ∙ ap (λ xs. number xs of) goes.other_ones in
    record {
      items = items;
      last = goes.last;
      gives = record { values = goes.values; follows = goes.follows; given = refl };
      agree = goes.agree;
      shown = goes.shown_ones ∙ ap (λ xs. shown_items (names merged) xs) gives.given;
      others = goes.other_ones;
      whole_is = same pps.pps_no_pic_partition_flag ones.3 ones.0 (front_untaken merged).0 ∙ stated_whole whole_ shape has_.whole_is;
      width_is = same pps.pps_pic_width_in_luma_samples ones.4 ones.1 (front_untaken merged).1 ∙ stated_width whole_ shape has_.width;
      height_is = same pps.pps_pic_height_in_luma_samples ones.5 ones.2 (front_untaken merged).2 ∙ stated_height whole_ shape has_.height;
      long = (leaves_agree override (sections_form before_tiles) fresh goes.values goes.last (sections_leave override before_tiles override_stands.0) goes.follows).size;
    }

-- ---- tiles and slices

pub record Divided (whole_ : ℕ) (shape : PpsShape) (items : List Item) : Type 0 where
  pub end : Partition
  pub gives : Gives (partition whole_ shape.width shape.height) items end
  pub end_is : whole_ ≡ 0 → end ≡ record { tiles = shape.tiles; slices = Some shape.slices }

divide : (whole_ : ℕ) (shape : PpsShape) (items : List Item) → whole_ < 2 → (whole_ ≡ 0 → CanBeDivided shape) → IsDivision (is_set whole_) shape items → Divided whole_ shape items
unfolding partition
divide zero shape items low can d = record { end = record { tiles = shape.tiles; slices = Some shape.slices }; gives = division_gives shape items (can refl) d; end_is = λ e. refl }
divide (suc zero) shape items low can none = record { end = undivided; gives = subst (λ xs. Gives (done undivided) xs undivided) (sym none) (gives_done undivided); end_is = λ e. absurd (omega (arith, e)) }
divide (suc (suc n)) shape items low can d = absurd (omega arith)

some_division : (whole_ : ℕ) (shape : PpsShape) → (whole_ ≡ 0 → CanBeDivided shape) → (items : List Item) × IsDivision (is_set whole_) shape items
some_division zero shape can = a_division shape (can refl)
some_division (suc n) shape can =
    let other : eqb (suc n) 0 ≡ false = ne_eqb (suc n) 0 (λ e. omega (arith, e)) in
    ([], rw other refl)

-- ---- the tools

pub record ToolsGone (merged : Bool) (source : List Item) (qp : ℤ) (t : List ℕ) (tool_items_ kept : List Item) : Type 0 where
  pub items : List Item
  pub last : List ℕ
  pub gives : Gives (sections_form after_slices t) items last
  pub shown : shown_items (names merged) items ≡ shown_items (names merged) tool_items_
  pub others : other_items (names merged) items ≡ where_so merged (frame_tool_items source qp)
  pub keeps : merged ≡ false → kept_along (sections_form after_slices t) gives.values ≡ kept

pub flags_of : {source : List Item} {end : Partition} → Parts source end → HasFlags source
flags_of p = record {
  weighted = flag_below p pps.pps_weighted_pred_flag flags_are.1 (λ low high. omega (arith, high));
  biweighted = flag_below p pps.pps_weighted_bipred_flag flags_are.2 (λ low high. omega (arith, high));
  override = flag_below p pps.pps_deblocking_filter_override_enabled_flag flags_are.3 (λ low high. omega (arith, high));
  dbf = flag_below p pps.pps_dbf_info_in_ph_flag flags_are.4 (λ low high. omega (arith, high));
  lists = flag_below p pps.pps_rpl_info_in_ph_flag flags_are.5 (λ low high. omega (arith, high));
  sao = flag_below p pps.pps_sao_info_in_ph_flag flags_are.6 (λ low high. omega (arith, high));
  weights = flag_below p pps.pps_wp_info_in_ph_flag flags_are.7 (λ low high. omega (arith, high));
}

tools_gone : (merged : Bool) {source : List Item} {end : Partition} (p : Parts source end) (qp : ℤ) (t : List ℕ) → neg_ℤ (pos 38) ≤ℤ qp → qp ≤ℤ pos 37 → Agree (names merged) p.scope t → length fresh ≡ length t
    → slice_index t pps.pps_no_pic_partition_flag ≡ cond merged 0 (number source pps.pps_no_pic_partition_flag) → ToolsGone merged source qp t p.tool_items (kept_along (sections_form after_slices p.scope) p.third.values)
unfolding fresh
tools_gone true {source} p qp t low high agree long whole_is =
    let empty : Agree whole fresh t = agree_given (pps.pps_no_pic_partition_flag ∷ []) long (sym whole_is, tt) in
    let goes = (frame_tools source qp low high (flags_of p) {last = p.last} (numbers_told p) (override_told p) p.scope p.third.values p.third.follows).at t agree empty in
    record {
      items = items_along (sections_form after_slices t) goes.values;
      last = goes.last;
      gives = record { values = goes.values; follows = goes.follows; given = refl };
      shown = goes.shown_ones ∙ ap (λ xs. shown_items (names true) xs) p.third.given;
      others = goes.other_ones;
      keeps = λ e. absurd (true≢false e);
    }
tools_gone false {source} p qp t low high agree long whole_is =
    let same : Agree whole p.scope t = agree_given (pps.pps_no_pic_partition_flag ∷ []) agree.size (numbers_before p pps.pps_no_pic_partition_flag refl refl ∙ sym whole_is, tt) in
    let again = tools_again same p.third.follows in
    record {
      items = items_along (sections_form after_slices t) p.third.values;
      last = again.last;
      gives = record { values = p.third.values; follows = again.follows; given = refl };
      shown = ap (λ xs. shown_items (names false) xs) (again.items ∙ p.third.given);
      others = none_other (names false) ((sections_show (names false) after_slices tools_read.2).at t) again.follows;
      keeps = λ e. sym (tools_keep same p.third.follows again.follows);
    }

-- ---- the set

three_parts : (f : Item → Bool) (a b c : List Item) → filter f (a ++ (b ++ c)) ≡ filter f a ++ (filter f b ++ filter f c)
three_parts f a b c = filter-append f a (b ++ c) ∙ ap (λ xs. filter f a ++ xs) (filter-append f b c)

-- all that is stated, with these items of tiles and slices
abbrev pub stated : List Item → PpsShape → List Item → List Item
stated source shape division = front_items (whole_flag source shape) shape ++ (division ++ tool_items source shape)

-- a rewritten set, and its tiles and slices
pub record Reshapes (source : List Item) (shape : PpsShape) (division : List Item) : Type 0 where
  pub items : List Item
  pub rewritten : IsRewritten pps_form (taken shape) (shown_items (taken shape) source) (stated source shape division) items
  pub keeps : shape.merged ≡ false → kept_pps_items items ≡ kept_pps_items source
  pub divided_as : whole_flag source shape ≡ 0 → rewritten.end ≡ record { tiles = shape.tiles; slices = Some shape.slices }

-- the front keeps those of its fields that are taken over
front_keeps_shown : (merged : Bool) → KeepsShown (names merged) (sections_form before_tiles fresh)
front_keeps_shown true = (structure_keeps_only [] taken_for_frame before_tiles (front_starred true)).keeps fresh
front_keeps_shown false = (structure_keeps_only [] taken_for_region before_tiles (front_starred false)).keeps fresh

front_keeps : (merged : Bool) {xs ys : List Item} {s t : List ℕ} (f : Gives (sections_form before_tiles fresh) xs s) (g : Gives (sections_form before_tiles fresh) ys t) → shown_items (names merged) xs ≡ shown_items (names merged) ys
    → kept_along (sections_form before_tiles fresh) f.values ≡ kept_along (sections_form before_tiles fresh) g.values
front_keeps merged {xs} {ys} {s} {t} f g same =
    let keeps = front_keeps_shown merged in
    let fills = sections_fill_none before_tiles fresh front_fills in
    let form : Form (List ℕ) = sections_form before_tiles fresh in
    let shown : shown_items (names merged) (items_along form f.values) ≡ shown_items (names merged) (items_along form g.values) = ap (λ x. shown_items (names merged) x) f.given ∙ same ∙ ap (λ x. shown_items (names merged) x) (sym g.given) in
    rewritten_keeps (names merged) (names merged) form form f.values g.values s t (inside_itself (names merged)) keeps keeps fills fills f.follows g.follows shown

whole_low : (merged : Bool) (n : ℕ) → n < 2 → cond merged 0 n < 2
whole_low true n low = omega arith
whole_low false n low = low

pub reshapes : (source : List Item) (end : Partition) (shape : PpsShape) (division : List Item) → Gives pps_form source end → IsShape source shape → IsDivision (is_set (whole_flag source shape)) shape division → Reshapes source shape division
reshapes source end shape division gives is divides =
    let p = cut_parts source end gives in
    let set : List ℕ = names shape.merged in
    let whole_ : ℕ = whole_flag source shape in
    let low : whole_ < 2 = whole_low shape.merged (number source pps.pps_no_pic_partition_flag) (flag_below p pps.pps_no_pic_partition_flag flags_are.0 (λ l h. omega (arith, l))) in
    let has_ : HasFront whole_ shape = record { whole_is = low; id = is.id; sps_id = is.sps_id; width = is.width; height = is.height; subpic_id = is.subpic_id } in
    let f = front_gone shape.merged whole_ shape has_ p.first in
    let d = divide whole_ shape division low is.divided divides in
    let t = tools_gone shape.merged p shape.init_qp f.last is.init_qp.0 is.init_qp.1 f.agree f.long f.whole_is in
    let there : Gives (partition_at f.last) division d.end = subst (λ n. Gives (partition n (slice_index f.last pps.pps_pic_width_in_luma_samples) (slice_index f.last pps.pps_pic_height_in_luma_samples)) division d.end) (sym f.whole_is)
    (subst (λ n. Gives (partition whole_ n (slice_index f.last pps.pps_pic_height_in_luma_samples)) division d.end) (sym f.width_is)
    (subst (λ n. Gives (partition whole_ shape.width n) division d.end) (sym f.height_is) d.gives)) in
    let all = put_parts f.gives there t.gives in
    let clear = names_clear shape.merged in
    let old = division_unshown set p.scope clear p.second in
    let new = division_unshown set f.last clear there in
    let shown : Item → Bool = λ item. has set item.field in
    let hidden : Item → Bool = λ item. not (has set item.field) in
    record {
      items = f.items ++ (division ++ t.items);
      rewritten = record {
        values = all.values;
        end = d.end;
        follows = all.follows;
        all = sym all.given;
        shown_ones = three_parts shown f.items division t.items ∙ ap (λ xs. xs ++ (shown_items set division ++ shown_items set t.items)) f.shown
            ∙ ap (λ xs. shown_items set p.front_items ++ (xs ++ shown_items set t.items)) (new.0 ∙ sym old.0)
            ∙ ap (λ xs. shown_items set p.front_items ++ (shown_items set p.division ++ xs)) t.shown
            ∙ sym (ap (λ xs. shown_items set xs) p.all ∙ three_parts shown p.front_items p.division p.tool_items);
        other_ones = three_parts hidden f.items division t.items ∙ ap (λ xs. xs ++ (other_items set division ++ other_items set t.items)) f.others
            ∙ ap (λ xs. front_items whole_ shape ++ (xs ++ other_items set t.items)) new.1
            ∙ ap (λ xs. front_items whole_ shape ++ (division ++ xs)) t.others;
      };
      keeps = λ region. kept_put f.gives there t.gives
          ∙ ap (λ xs. xs ++ kept_along (sections_form after_slices f.last) t.gives.values) (front_keeps shape.merged f.gives p.first f.shown)
          ∙ ap (λ xs. kept_along (sections_form before_tiles fresh) p.first.values ++ xs) (t.keeps region)
          ∙ sym (ap kept_pps_items p.all ∙ kept_put p.first p.second p.third);
      divided_as = d.end_is;
    }

-- there is one
pub division_of : (source : List Item) (shape : PpsShape) → IsShape source shape → (division : List Item) × IsDivision (is_set (whole_flag source shape)) shape division
division_of source shape is = some_division (whole_flag source shape) shape is.divided

-- and no other
same_set : (source items : List Item) (shape : PpsShape) (re : IsReshapedPps source shape items) → (r : Reshapes source shape re.stated.division) → r.items ≡ items
same_set source items shape re r =
    let a = re.rewritten in
    let b = r.rewritten in
    let shown = ap (λ xs. shown_items (taken shape) xs) (sym a.all) ∙ a.shown_ones ∙ sym b.shown_ones ∙ ap (λ xs. shown_items (taken shape) xs) b.all in
    let others = ap (λ xs. other_items (taken shape) xs) (sym a.all) ∙ a.other_ones ∙ re.stated.all ∙ sym b.other_ones ∙ ap (λ xs. other_items (taken shape) xs) b.all in
    let values = (apart (taken shape) [] [] [] [] a.follows b.follows (ap (λ xs. xs ++ []) shown) (ap (λ xs. xs ++ []) others)).0 in
    b.all ∙ ap (λ w. items_along pps_form w) (sym values) ∙ sym a.all

-- ---- what it tells and keeps

pub has_its_tiles : ReshapedHasItsTiles
has_its_tiles source items shape set is re partitioned =
    let r = reshapes source set.end shape re.stated.division set.set is re.stated.divides in
    let b = r.rewritten in
    let same : items_along pps_form b.values ≡ items = sym b.all ∙ same_set source items shape re r in
    let told : partition_of items ≡ record { tiles = shape.tiles; slices = Some shape.slices } = partition_is items b.end (record { values = b.values; follows = b.follows; given = same }) ∙ r.divided_as partitioned in
    (ap (λ (d : Partition). d.tiles.columns) told, ap (λ (d : Partition). d.tiles.rows) told, ap (λ (d : Partition). d.slices) told)

pub region_keeps : RegionKeeps
region_keeps source items shape set is re region =
    let r = reshapes source set.end shape re.stated.division set.set is re.stated.divides in
    ap kept_pps_items (sym (same_set source items shape re r)) ∙ r.keeps region
