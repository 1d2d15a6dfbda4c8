-- What a rewritten set tells, from the items that are stated.
use Rattle.std.proofs.Common.{◌≡◌, ℕ, pos, zero, suc, ◌+◌, ◌-◌, ◌*◌, ◌<◌, ◌≤◌, ◌^◌, ◌==◌, true, false, cond, Bool, IsFalse, List, [], ◌∷◌, ◌++◌, length, map, Option, Some, None, refl, ap, sym, subst, ◌∙◌, arith}
use Rattle.std.specs.Prelude.{IfSome, nat_lt}
use Rattle.std.proofs.Math.Pow.{pow_mono}
use Rattle.std.proofs.lemmas.Bool.{lt-ltb}
use Rattle.vx_bits.specs.declared.list.Item.{Item}
use Rattle.vx_fields.specs.declared.pps.TheConstants as fields
use Rattle.vx_table.specs.Depends.{has}
use Rattle.vx_table.specs.Loaded.{number}
use Rattle.vx_table.specs.Scope.{fresh, is_set, natural, one_if, powers_below}
use Rattle.vx_table.proofs.With.{Passing, lacks, no_number, number_with, one_number, others_with, passing_append, passing_where, same_first, with_field, with_first, with_second}
use Rattle.vx_pps.specs.declared.shape.PpsShape.{PpsShape}
use Rattle.vx_pps.specs.Tiles.{across, down}
use Rattle.vx_pps.specs.Groups.{Group}
use Rattle.vx_pps.specs.Pps.{ArePpsItems}
use Rattle.vx_pps.specs.Reshaped.{Divides, IsDivision, IsReshapedPps, IsShape, MapsId, ReshapedTells, TellsPpsShape, TellsDivision, divided_items, frame_tool_items, front_items, has_weights, pps_subpic_id_items, info_items, items_of_source, taken, tool_items, whole_flag}
use Rattle.vx_table.specs.Rewritten.{where_so}
use Rattle.vx_pps.specs.Written.{only_item}
use Rattle.vx_pps.proofs.Crossing.{ctb_with, division_without, is_dividing, slice_flag, tile_flag}
use Rattle.vx_pps.proofs.Cutting.{cut_parts, flag_below}
use Rattle.vx_pps.proofs.Giving.{natural_is}
use Rattle.vx_pps.proofs.Testing.{flags_are, names}

-- ---- the front

ids_pass : (test : ℕ → Bool) → test 413 ≡ true → test 414 ≡ true → test 415 ≡ true → test 416 ≡ true → (whole : ℕ) (id : Option (ℕ × ℕ)) → Passing test (pps_subpic_id_items whole id)
ids_pass test a b c d whole None = (a, tt)
ids_pass test a b c d whole (Some (bits, id)) = (a, passing_append test (where_so (whole == 0) (only_item 414 (pos 0))) (only_item 415 (pos bits) ++ only_item 416 (pos id)) (passing_where test (whole == 0) (only_item 414 (pos 0)) (b, tt)) (c, (d, tt)))

no_ids : (of whole : ℕ) (id : Option (ℕ × ℕ)) → nat_lt 412 of ≡ false → with_field of (pps_subpic_id_items whole id) ≡ []
no_ids of whole id before = lacks (λ f. nat_lt 412 f) of (pps_subpic_id_items whole id) before (ids_pass (λ f. nat_lt 412 f) refl refl refl refl whole id)

module _ (whole : ℕ) (shape : PpsShape) where
  own_id : with_field 400 (front_items whole shape) ≡ only_item 400 (pos shape.id)
  own_id = ap (λ xs. only_item 400 (pos shape.id) ++ xs) (no_ids 400 whole shape.subpic_id refl)

  sps_id : with_field 401 (front_items whole shape) ≡ only_item 401 (pos shape.sps_id)
  sps_id = ap (λ xs. only_item 401 (pos shape.sps_id) ++ xs) (no_ids 401 whole shape.subpic_id refl)

  width : with_field 403 (front_items whole shape) ≡ only_item 403 (pos shape.width)
  width = ap (λ xs. only_item 403 (pos shape.width) ++ xs) (no_ids 403 whole shape.subpic_id refl)

  height : with_field 404 (front_items whole shape) ≡ only_item 404 (pos shape.height)
  height = ap (λ xs. only_item 404 (pos shape.height) ++ xs) (no_ids 404 whole shape.subpic_id refl)

  flag_of_whole : with_field 412 (front_items whole shape) ≡ only_item 412 (pos whole)
  flag_of_whole = ap (λ xs. only_item 412 (pos whole) ++ xs) (no_ids 412 whole shape.subpic_id refl)

  -- ids where it has none, and where it has one
  no_mapping : shape.subpic_id ≡ None → with_field 413 (front_items whole shape) ≡ only_item 413 (pos 0)
  no_mapping none = ap (λ o. with_field 413 (pps_subpic_id_items whole o)) none

  module _ (bits id : ℕ) (some : shape.subpic_id ≡ Some (bits, id)) where
    mapping : with_field 413 (front_items whole shape) ≡ only_item 413 (pos 1)
    mapping = ap (λ o. with_field 413 (pps_subpic_id_items whole o)) some
        ∙ ap (λ xs. only_item 413 (pos 1) ++ xs) (lacks (λ f. nat_lt 413 f) 413 (where_so (whole == 0) (only_item 414 (pos 0)) ++ (only_item 415 (pos bits) ++ only_item 416 (pos id))) refl
        (passing_append (λ f. nat_lt 413 f) (where_so (whole == 0) (only_item 414 (pos 0))) (only_item 415 (pos bits) ++ only_item 416 (pos id)) (passing_where (λ f. nat_lt 413 f) (whole == 0) (only_item 414 (pos 0)) (refl, tt)) (refl, (refl, tt))))

    id_length : with_field 415 (front_items whole shape) ≡ only_item 415 (pos bits)
    id_length = ap (λ o. with_field 415 (pps_subpic_id_items whole o)) some
        ∙ with_second 415 (where_so (whole == 0) (only_item 414 (pos 0))) (only_item 415 (pos bits) ++ only_item 416 (pos id)) (lacks (λ f. nat_lt f 415) 415 (where_so (whole == 0) (only_item 414 (pos 0))) refl (passing_where (λ f. nat_lt f 415) (whole == 0) (only_item 414 (pos 0)) (refl, tt)))

    the_id : with_field 416 (front_items whole shape) ≡ only_item 416 (pos id)
    the_id = ap (λ o. with_field 416 (pps_subpic_id_items whole o)) some
        ∙ with_second 416 (where_so (whole == 0) (only_item 414 (pos 0))) (only_item 415 (pos bits) ++ only_item 416 (pos id)) (lacks (λ f. nat_lt f 415) 416 (where_so (whole == 0) (only_item 414 (pos 0))) refl (passing_where (λ f. nat_lt f 415) (whole == 0) (only_item 414 (pos 0)) (refl, tt)))

  -- it counts no more than one
  count : number (with_field 414 (front_items whole shape)) 414 ≡ 0
  count = counted shape.subpic_id refl
    where
      spelled : (b : Bool) → number (with_field 414 (where_so b (only_item 414 (pos 0)) ++ (only_item 415 (pos 0) ++ []))) 414 ≡ 0
      spelled true = one_number 414 0 (only_item 414 (pos 0)) (omega arith) (omega arith) refl
      spelled false = no_number 414 [] refl

      counted : (o : Option (ℕ × ℕ)) → shape.subpic_id ≡ o → number (with_field 414 (front_items whole shape)) 414 ≡ 0
      counted None e = ap (λ o. number (with_field 414 (pps_subpic_id_items whole o)) 414) e ∙ no_number 414 [] refl
      counted (Some (bits, id)) e = ap (λ o. number (with_field 414 (pps_subpic_id_items whole o)) 414) e ∙ both (whole == 0) bits id
        where
          both : (b : Bool) (bits id : ℕ) → number (with_field 414 (where_so b (only_item 414 (pos 0)) ++ (only_item 415 (pos bits) ++ only_item 416 (pos id)))) 414 ≡ 0
          both true bits id = one_number 414 0 (only_item 414 (pos 0)) (omega arith) (omega arith) refl
          both false bits id = no_number 414 [] refl

-- ---- the tools of a frame

-- they are of later fields
abbrev is_tool : ℕ → Bool
is_tool f = nat_lt 432 f

info_pass : (test : ℕ → Bool) → test 462 ≡ true → test 463 ≡ true → test 464 ≡ true → test 465 ≡ true → test 466 ≡ true → (source : List Item) → Passing test (info_items source)
info_pass test a b c d e source = (
  a,
  (
    b,
    (
      c,
      passing_append test (where_so (has_weights source) (items_of_source source fields.pps_wp_info_in_ph_flag)) (only_item fields.pps_qp_delta_info_in_ph_flag (pos 0))
          (passing_where test (has_weights source) (items_of_source source fields.pps_wp_info_in_ph_flag) (d, tt)) (e, tt),
    ),
  ),
)

behind_qp : (test : ℕ → Bool) → test 455 ≡ true → test 462 ≡ true → test 463 ≡ true → test 464 ≡ true → test 465 ≡ true → test 466 ≡ true → (source : List Item)
    → Passing test (where_so (is_set (number source fields.pps_deblocking_filter_override_enabled_flag)) (items_of_source source fields.pps_dbf_info_in_ph_flag) ++ info_items source)
behind_qp test a b c d e f source =
    passing_append test (where_so (is_set (number source fields.pps_deblocking_filter_override_enabled_flag)) (items_of_source source fields.pps_dbf_info_in_ph_flag)) (info_items source)
    (passing_where test (is_set (number source fields.pps_deblocking_filter_override_enabled_flag)) (items_of_source source fields.pps_dbf_info_in_ph_flag) (a, tt)) (info_pass test b c d e f source)

tools_pass : (source : List Item) (shape : PpsShape) → Passing is_tool (tool_items source shape)
tools_pass source shape = passing_where is_tool shape.merged _ (refl, behind_qp is_tool refl refl refl refl refl refl source)

qp_with : (source : List Item) (shape : PpsShape) → shape.merged ≡ true → with_field 439 (tool_items source shape) ≡ only_item 439 shape.init_qp
qp_with source shape merged =
    ap (λ b. with_field 439 (where_so b (frame_tool_items source shape.init_qp))) merged
    ∙ ap (λ xs. only_item 439 shape.init_qp ++ xs)
    (lacks (λ f. nat_lt 439 f) 439 (where_so (is_set (number source fields.pps_deblocking_filter_override_enabled_flag)) (items_of_source source fields.pps_dbf_info_in_ph_flag) ++ info_items source) refl
    (behind_qp (λ f. nat_lt 439 f) refl refl refl refl refl refl source))

-- ---- the fields that neither is taken over for a region nor for a frame

untaken : (merged : Bool) (of : ℕ) → IsFalse (has (names true) of) → IsFalse (has (names false) of) → IsFalse (has (names merged) of)
untaken true of frame region = frame
untaken false of frame region = region

-- ---- the set

log2_back : (log2 : ℕ) → log2 < 3 → powers_below 32 (2 ^ (log2 + 5)) - 5 ≡ log2
unfolding powers_below
log2_back zero low = refl
log2_back (suc zero) low = refl
log2_back (suc (suc zero)) low = refl
log2_back (suc (suc (suc n))) low = absurd (omega (arith, low))

flag_small : (b : Bool) → one_if b < 2 ^ 32
flag_small true = omega arith
flag_small false = omega arith

whole_small : (merged : Bool) (n : ℕ) → n < 2 → cond merged 0 n < 2
whole_small true n low = omega arith
whole_small false n low = low

module _ (source : List Item) (shape : PpsShape) (items : List Item) (set : ArePpsItems source) (is : IsShape source shape) (re : IsReshapedPps source shape items) where
  abbrev whole_of : ℕ
  whole_of = whole_flag source shape

  stated_with : (of : ℕ) → IsFalse (has (taken shape) of) → with_field of items ≡ with_field of (front_items whole_of shape ++ (re.stated.division ++ tool_items source shape))
  stated_with of outside = sym (others_with (taken shape) of items outside) ∙ ap (λ xs. with_field of xs) (re.rewritten.other_ones ∙ re.stated.all)

  whole_low : whole_of < 2
  whole_low = whole_small shape.merged (number source fields.pps_no_pic_partition_flag) (flag_below (cut_parts source set.end set.set) fields.pps_no_pic_partition_flag flags_are.0 (λ low high. omega (arith, low)))

  -- nothing is said of tiles and slices in another field
  no_division : (of whole : ℕ) (items : List Item) → is_dividing of ≡ false → whole < 2 → IsDivision (is_set whole) shape items → with_field of items ≡ []
  no_division of zero items aside low d = ap (λ xs. with_field of xs) d.same ∙ division_without of shape (d.groups.group ∷ d.groups.groups) aside
  no_division of (suc zero) items aside low none = ap (λ xs. with_field of xs) none
  no_division of (suc (suc n)) items aside low d = absurd (omega (arith, low))

  -- a field of the front
  front_with : (of : ℕ) → IsFalse (has (names true) of) → IsFalse (has (names false) of) → is_dividing of ≡ false → nat_lt 432 of ≡ false → with_field of items ≡ with_field of (front_items whole_of shape)
  front_with of frame region aside before =
      stated_with of (untaken shape.merged of frame region)
      ∙ with_first of (front_items whole_of shape) (re.stated.division ++ tool_items source shape)
      (with_second of re.stated.division (tool_items source shape) (no_division of whole_of re.stated.division aside whole_low re.stated.divides) ∙ lacks is_tool of (tool_items source shape) before (tools_pass source shape))

  -- a field of the tools
  tool_with : (of : ℕ) → IsFalse (has (taken shape) of) → is_dividing of ≡ false → nat_lt of 417 ≡ false → with_field of items ≡ with_field of (tool_items source shape)
  tool_with of outside aside past =
      stated_with of outside
      ∙ with_second of (front_items whole_of shape) (re.stated.division ++ tool_items source shape) (front_without of past)
      ∙ with_second of re.stated.division (tool_items source shape) (no_division of whole_of re.stated.division aside whole_low re.stated.divides)
    where
      front_without : (of : ℕ) → nat_lt of 417 ≡ false → with_field of (front_items whole_of shape) ≡ []
      front_without of past = lacks (λ f. nat_lt f 417) of (front_items whole_of shape) past (refl, (refl, (refl, (refl, (refl, (refl, ids_pass (λ f. nat_lt f 417) refl refl refl refl whole_of shape.subpic_id))))))

  -- where the picture is partitioned
  module _ (partitioned : whole_of ≡ 0) where
    divides : Divides shape re.stated.division
    divides = subst (λ n. IsDivision (is_set n) shape re.stated.division) partitioned re.stated.divides

    abbrev groups : List Group
    groups = divides.groups.group ∷ divides.groups.groups

    divided_with : (of : ℕ) → IsFalse (has (names true) of) → IsFalse (has (names false) of) → nat_lt of 417 ≡ false → nat_lt 432 of ≡ false → with_field of items ≡ with_field of (divided_items shape groups)
    divided_with of frame region past before =
        stated_with of (untaken shape.merged of frame region)
        ∙ with_second of (front_items whole_of shape) (re.stated.division ++ tool_items source shape)
        (lacks (λ f. nat_lt f 417) of (front_items whole_of shape) past (refl, (refl, (refl, (refl, (refl, (refl, ids_pass (λ f. nat_lt f 417) refl refl refl refl whole_of shape.subpic_id)))))))
        ∙ with_first of re.stated.division (tool_items source shape) (lacks is_tool of (tool_items source shape) before (tools_pass source shape))
        ∙ ap (λ xs. with_field of xs) divides.same

    tells_division : TellsDivision shape items
    unfolding fresh
    tells_division = record {
      ctb = λ log2 low ctb.
          let back : powers_below 32 shape.ctb - 5 ≡ log2 = ap (λ n. powers_below 32 n - 5) ctb ∙ log2_back log2 low in
          one_number 417 log2 items (omega arith) (omega (arith, low)) (divided_with 417 refl refl refl refl ∙ ctb_with shape groups ∙ ap (λ n. only_item 417 (pos n)) back);
      across_tiles = λ several.
          one_number 422 (one_if shape.across_tiles) items (omega arith) (flag_small shape.across_tiles) (divided_with 422 refl refl refl refl ∙ tile_flag shape groups (lt-ltb 1 (across shape.tiles * down shape.tiles) several));
      across_slices = λ several.
          one_number 432 (one_if shape.across_slices) items (omega arith) (flag_small shape.across_slices) (divided_with 432 refl refl refl refl ∙ slice_flag shape groups (lt-ltb 1 (length shape.slices) several));
    }

  maps_id : (bits id : ℕ) → shape.subpic_id ≡ Some (bits, id) → (bits < 16) × (id < 2 ^ 32) → MapsId bits id items
  unfolding fresh
  maps_id bits id some low = record {
    mapped = one_number 413 1 items (omega arith) (omega arith) (front_with 413 refl refl refl refl ∙ mapping whole_of shape bits id some);
    id_len = one_number 415 bits items (omega arith) (omega (arith, low.0)) (front_with 415 refl refl refl refl ∙ id_length whole_of shape bits id some);
    ids = ap (λ xs. map (λ (y : Item). natural y.value) xs) (front_with 416 refl refl refl refl ∙ the_id whole_of shape bits id some) ∙ ap (λ v. v ∷ []) (natural_is id low.1);
  }

  tells : TellsPpsShape source shape items
  unfolding fresh
  tells = record {
    id = one_number 400 shape.id items (omega arith) (omega (arith, is.id)) (front_with 400 refl refl refl refl ∙ own_id whole_of shape);
    sps_id = one_number 401 shape.sps_id items (omega arith) (omega (arith, is.sps_id)) (front_with 401 refl refl refl refl ∙ sps_id whole_of shape);
    width = let small = is.width.small in one_number 403 shape.width items (omega arith) (omega (arith, small)) (front_with 403 refl refl refl refl ∙ width whole_of shape);
    height = let small = is.height.small in one_number 404 shape.height items (omega arith) (omega (arith, small)) (front_with 404 refl refl refl refl ∙ height whole_of shape);
    whole = let low = whole_low in one_number 412 whole_of items (omega arith) (omega (arith, low)) (front_with 412 refl refl refl refl ∙ flag_of_whole whole_of shape);
    count = number_with 414 items ∙ ap (λ xs. number xs 414) (front_with 414 refl refl refl refl) ∙ count whole_of shape;
    unmapped = λ none. one_number 413 0 items (omega arith) (omega arith) (front_with 413 refl refl refl refl ∙ no_mapping whole_of shape none);
    mapped = λ bits id some. maps_id bits id some (id_small bits id some);
    division = tells_division;
    init_qp = λ merged.
        same_first 439 items (tool_items source shape) (tool_with 439 (subst (λ b. IsFalse (has (names b) 439)) (sym merged) refl) refl refl)
        ∙ same_first 439 (tool_items source shape) (only_item 439 shape.init_qp) (qp_with source shape merged ∙ refl);
  }
    where
      id_small : (bits id : ℕ) → shape.subpic_id ≡ Some (bits, id) → (bits < 16) × (id < 2 ^ 32)
      id_small bits id some =
          let fits : (bits ≤ 15) × (id < 2 ^ (bits + 1)) = subst (λ o. IfSome o (λ (bits, id). (bits ≤ 15) × (id < 2 ^ (bits + 1)))) some is.subpic_id in
          let few : bits + 1 ≤ 32 = omega (arith, fits.0) in
          let most : 2 ^ (bits + 1) ≤ 2 ^ 32 = pow_mono few in
          (omega (arith, fits.0), omega (arith, fits.1, most))

pub reshaped_tells : ReshapedTells
reshaped_tells source items shape set is re = tells source shape items set is re
