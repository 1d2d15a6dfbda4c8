-- There is a rewritten slice header, and it is what is made.
use Rattle.std.proofs.Common.{◌≡◌, ℕ, ℤ, pos, ◌+◌, ◌<◌, ◌≤◌, ◌^◌, ◌==◌, ◌||◌, Bool, true, false, not, IsFalse, IsTrue, List, [], ◌∷◌, ◌++◌, length, slice_index, slice_set, inl, inr, refl, ap, sym, subst, ◌∙◌, arith}
use Rattle.std.proofs.Math.Path.{fun_ext}
use Rattle.std.proofs.lemmas.Bool.{cases_Bool, eqb-true, not-true, or_cases}
use Rattle.std.proofs.lemmas.Grind.{get_or-set_at}
use Rattle.std.proofs.lemmas.List.{append-nil, length-set}
use Rattle.std.proofs.lemmas.List.Elements.{filter-append}
use Rattle.vx_bits.specs.Codes.{IsCodeNumber, code_number}
use Rattle.vx_bits.specs.declared.list.Item.{Item}
use Rattle.vx_bits.proofs.Bits.{pow_le}
use Rattle.vx_table.specs.declared.rows.Cell.{Cell}
use Rattle.vx_table.specs.declared.rows.Formula.{Formula}
use Rattle.vx_table.specs.declared.rows.Row.TheVariants.{Field}
use Rattle.vx_table.specs.Scope.{fresh, is_set, natural, one_if}
use Rattle.vx_table.specs.Forms.{Form, done, has_value, form_of}
use Rattle.vx_table.specs.EachField.{rows_pass}
use Rattle.vx_table.specs.Parts.{sections_form}
use Rattle.vx_table.specs.Spelling.{items_along}
use Rattle.vx_table.specs.Values.{Follows, to_end}
use Rattle.vx_table.specs.Claims.{hides_counter, hides_row}
use Rattle.vx_table.specs.Depends.{Agree, Leaves, has}
use Rattle.vx_table.specs.Loaded.{number}
use Rattle.vx_table.specs.Rewritten.{IsRewritten, other_items}
use Rattle.vx_table.specs.Rewrites.{Takes}
use Rattle.vx_table.specs.Shown.{shown_items}
use Rattle.vx_table.proofs.Agreeing.{agree_back, agree_on}
use Rattle.vx_table.proofs.EachField.{each_of_rows}
use Rattle.vx_table.proofs.Joined.{items_joined, joined, parted}
use Rattle.vx_table.proofs.Rewrites.{leaves_agree, leaves_together, tables_leave}
use Rattle.vx_fields.specs.declared.sps.TheConstants.{sps_alf_enabled_flag, sps_ccalf_enabled_flag, sps_chroma_format_idc, sps_entropy_coding_sync_enabled_flag, sps_entry_point_offsets_present_flag, sps_subpic_id_len_minus1, sps_subpic_info_present_flag}
use Rattle.vx_fields.specs.declared.pps.TheConstants.{pps_alf_info_in_ph_flag, pps_qp_delta_info_in_ph_flag}
use Rattle.vx_fields.specs.declared.ph.TheConstants.{ph_explicit_scaling_list_enabled_flag, ph_lmcs_enabled_flag}
use Rattle.vx_fields.specs.declared.sh.TheConstants.{sh_explicit_scaling_list_used_flag, sh_lmcs_used_flag, sh_picture_header_in_slice_header_flag, sh_subpic_id}
use Rattle.vx_fields.specs.declared.names.sh.TheConstants.{NUM_SLICES, NUM_SUBPICS, SUBPIC}
use Rattle.vx_layout.specs.declared.numbers.Numbers.{Numbers}
use Rattle.vx_rpl.specs.declared.entry.RplTable.{RplTable}
use Rattle.vx_sps.specs.Reshaped.{item}
use Rattle.vx_table.specs.Rewritten.{where_so}
use Rattle.vx_pps.proofs.Cutting.{none_shown}
use Rattle.vx_pps.proofs.Fields.{all_pass, named, passes}
use Rattle.vx_ph.specs.declared.tables.TheConstants.{ALF}
use Rattle.vx_ph.proofs.Telling.{Alike, alike_items, of_fields, tells, told}
use Rattle.vx_sh.specs.declared.tables.TheConstants.{HEADER_INSIDE, KNOWN_SUBPIC, STARRED, SUBPIC_ID}
use Rattle.vx_sh.specs.Slice.{own, qp, rest_form}
use Rattle.vx_sh.specs.Whole.{At, behind_header, header_inside, subpic_id_form, index_of, located, points_at, points_of, num_slices_in_subpic, subpic_form, there}
use Rattle.vx_sh.specs.Value.{AreFields}
use Rattle.vx_sh.specs.Depends.{kept_fields, kept_given}
use Rattle.vx_sh.specs.laws.Again.{kept}
use Rattle.vx_sh.specs.Reshaped.{HaveSameSlices, kept_in_force, qp_items}
use Rattle.vx_sh.proofs.Depending.{Pass, RestPass, behind_each, rest_passes, subpic_passes}
use Rattle.vx_sh.proofs.Rewritten.{slices_rewrite}
use Rattle.vx_sh.proofs.Stating.{apart_items, apart_there, id_there, known_there, no_items, own_takes, qp_takes}
use Rattle.vx_sh.proofs.Told.{count_is, done_is, id_is, id_size, in_first, in_second, inside_size, located_is, located_leaves, only_id, only_inside}
use Rattle.vx_sh.proofs.Writable.{nothing_inside}

-- ---- items of slice headers whose fields two tests tell alike

fields_alike : (p q : ℕ → Bool) → rows_pass (tells p q) HEADER_INSIDE ≡ true → Pass (tells p q) → (n : At) (fields : List Item) (inside : List ℤ) → AreFields n fields inside
    → of_fields p fields ≡ of_fields q fields
fields_alike p q first pass n fields inside f =
    let one = alike_items p q (each_of_rows (Alike p q) (tells p q) (told p q) HEADER_INSIDE n.slice first) f.begins in
    let two = alike_items p q (behind_each (Alike p q) (tells p q) (told p q) n.table n.ids n.layout f.at pass) f.ends in
    let a = items_along (form_of HEADER_INSIDE n.slice) f.first in
    let b = items_along (behind_header n.table n.ids n.layout f.at) f.behind in
    ap (λ xs. of_fields p xs) f.all ∙ filter-append (λ item. p item.field) a b ∙ rw (one, two) refl ∙ sym (filter-append (λ item. q item.field) a b) ∙ ap (λ xs. of_fields q xs) (sym f.all)

abbrev in_kept : ℕ → Bool
in_kept n = has kept_fields n

abbrev in_given : ℕ → Bool
in_given n = has kept n

abbrev in_starred : ℕ → Bool
in_starred n = has STARRED n

module _ (n : At) (fields : List Item) (inside : List ℤ) (f : AreFields n fields inside) where
  -- kept are all but those with a star
  pub kept_has_no_star : of_fields in_kept fields ≡ of_fields (λ k. not (in_starred k)) fields
  unfolding fresh has_value tells
  kept_has_no_star = fields_alike in_kept (λ k. not (in_starred k)) refl
      (record { id = refl; known = refl; address = refl; before_lists = refl; lists = refl; between = refl; weights = refl; behind_weights = refl }) n fields inside f

  pub not_kept_is_starred : of_fields (λ k. not (in_kept k)) fields ≡ of_fields in_starred fields
  unfolding fresh has_value tells
  not_kept_is_starred = fields_alike (λ k. not (in_kept k)) in_starred refl
      (record { id = refl; known = refl; address = refl; before_lists = refl; lists = refl; between = refl; weights = refl; behind_weights = refl }) n fields inside f

-- what kept fields depend on has none of them besides, behind the id
rest_alike : (p q : ℕ → Bool) → RestPass (tells p q) → (table : RplTable) (points : ℕ → ℕ) (s : List ℕ) {w : List ℤ} {a : List ℕ} → Follows (rest_form table points s) w a
    → of_fields p (items_along (rest_form table points s) w) ≡ of_fields q (items_along (rest_form table points s) w)
rest_alike p q pass table points s on = alike_items p q (rest_passes (Alike p q) (tells p q) (told p q) table points s pass) on

module _ (table : RplTable) (points : ℕ → ℕ) (s : List ℕ) {w : List ℤ} {a : List ℕ} (on : Follows (rest_form table points s) w a) where
  given_is_kept : of_fields in_given (items_along (rest_form table points s) w) ≡ of_fields in_kept (items_along (rest_form table points s) w)
  unfolding fresh has_value tells
  given_is_kept = rest_alike in_given in_kept (record { address = refl; before_lists = refl; lists = refl; between = refl; weights = refl; behind_weights = refl }) table points s on

  not_given_is_not_kept : of_fields (λ k. not (in_given k)) (items_along (rest_form table points s) w) ≡ of_fields (λ k. not (in_kept k)) (items_along (rest_form table points s) w)
  unfolding fresh has_value tells
  not_given_is_not_kept = rest_alike (λ k. not (in_given k)) (λ k. not (in_kept k))
      (record { address = refl; before_lists = refl; lists = refl; between = refl; weights = refl; behind_weights = refl }) table points s on

-- ---- what stands before the part behind the id

unfoldable pub kept_there : List ℕ
kept_there = kept_in_force

first_leaves : Leaves kept_there (form_of HEADER_INSIDE)
unfolding fresh hides_counter hides_row kept_there
first_leaves = tables_leave kept_there HEADER_INSIDE refl

pub subpic_leaves : (names : List ℕ) (ids : List ℕ) (layout : Numbers) → Leaves names (form_of SUBPIC_ID) → Leaves names (form_of KNOWN_SUBPIC) → IsFalse (has names NUM_SUBPICS) → IsFalse (has names SUBPIC)
    → IsFalse (has names NUM_SLICES) → Leaves names (subpic_form ids layout)
unfolding subpic_id_form subpic_form
subpic_leaves names ids layout id known a b c = leaves_together names (subpic_id_form ids layout) (form_of KNOWN_SUBPIC)
    (leaves_together names (form_of SUBPIC_ID) (λ t. done (located ids layout t)) id (located_leaves names ids layout a b c)) known

in_force_left : (ids : List ℕ) (layout : Numbers) → Leaves kept_there (subpic_form ids layout)
unfolding fresh hides_counter hides_row kept_there
in_force_left ids layout = subpic_leaves kept_there ids layout (tables_leave kept_there SUBPIC_ID refl) (tables_leave kept_there KNOWN_SUBPIC refl) refl refl refl

-- what is read of fields with a star
abbrev of_starred : List ℕ
of_starred = sps_subpic_info_present_flag ∷ sps_subpic_id_len_minus1 ∷ pps_alf_info_in_ph_flag ∷ pps_qp_delta_info_in_ph_flag ∷ ph_lmcs_enabled_flag ∷ ph_explicit_scaling_list_enabled_flag ∷ []

starred_read : List ℕ
starred_read = of_starred

starred_left_first : Leaves starred_read (form_of HEADER_INSIDE)
unfolding fresh hides_counter hides_row starred_read
starred_left_first = tables_leave starred_read HEADER_INSIDE refl

starred_left : (ids : List ℕ) (layout : Numbers) → Leaves starred_read (subpic_form ids layout)
unfolding fresh hides_counter hides_row starred_read
starred_left ids layout = subpic_leaves starred_read ids layout (tables_leave starred_read SUBPIC_ID refl) (tables_leave starred_read KNOWN_SUBPIC refl) refl refl refl

first_left : (ids : List ℕ) (layout : Numbers) → Leaves only_inside (subpic_form ids layout)
unfolding fresh hides_counter hides_row
first_left ids layout = subpic_leaves only_inside ids layout (tables_leave only_inside SUBPIC_ID refl) (tables_leave only_inside KNOWN_SUBPIC refl) refl refl refl

-- the slices of the subpicture, where it is known
slices_is : (ids : List ℕ) (layout : Numbers) (s : List ℕ) → length s ≡ 1024 → slice_index (located ids layout s) NUM_SLICES ≡ num_slices_in_subpic layout (index_of (slice_index s sh_subpic_id) ids)
unfolding located
slices_is ids layout s size =
    let i = index_of (slice_index s sh_subpic_id) ids in
    let first = slice_set s NUM_SUBPICS (length ids) in
    let second = slice_set first SUBPIC i in
    get_or-set_at second NUM_SLICES NUM_SLICES (num_slices_in_subpic layout i) 0 refl (omega (arith, length-set first SUBPIC i, length-set s NUM_SUBPICS (length ids), size))

abbrev two : List ℕ
two = SUBPIC ∷ NUM_SLICES ∷ []

known_leaves_two : Leaves two (form_of KNOWN_SUBPIC)
unfolding fresh hides_counter hides_row
known_leaves_two = tables_leave two KNOWN_SUBPIC refl

-- ---- no field of a set

hidden_row : (names : List ℕ) (c : Cell Formula) (s : List ℕ) → hides_row names (Field c) ≡ true → IsFalse (has names c.field)
unfolding hides_row
hidden_row names c s h = not-true (has names c.field) h

first_hidden : (names s : List ℕ) {w : List ℤ} {a : List ℕ} → rows_pass (hides_row names) HEADER_INSIDE ≡ true → Follows (form_of HEADER_INSIDE s) w a → shown_items names (items_along (form_of HEADER_INSIDE s) w) ≡ []
first_hidden names s hide on = none_shown names (each_of_rows (λ cell. IsFalse (has names cell.field)) (hides_row names) (hidden_row names) HEADER_INSIDE s hide) on

subpic_hidden : (names : List ℕ) (ids : List ℕ) (layout : Numbers) (s : List ℕ) {w : List ℤ} {a : List ℕ} → rows_pass (hides_row names) SUBPIC_ID ≡ true → rows_pass (hides_row names) KNOWN_SUBPIC ≡ true
    → Follows (subpic_form ids layout s) w a → shown_items names (items_along (subpic_form ids layout s) w) ≡ []
subpic_hidden names ids layout s id known on = none_shown names (subpic_passes (λ cell. IsFalse (has names cell.field)) (hides_row names) (hidden_row names) ids layout s id known) on

rest_hidden : (names : List ℕ) (table : RplTable) (points : ℕ → ℕ) (s : List ℕ) {w : List ℤ} {a : List ℕ} → RestPass (hides_row names) → Follows (rest_form table points s) w a
    → shown_items names (items_along (rest_form table points s) w) ≡ []
rest_hidden names table points s pass on = none_shown names (rest_passes (λ cell. IsFalse (has names cell.field)) (hides_row names) (hidden_row names) table points s pass) on

-- ---- the source

record Source (p : At) (fields : List Item) : Type 0 where
  mid : List ℕ
  values : List ℤ
  end : List ℕ
  follows : Follows (there p.table p.layout mid) values end
  agree : Agree kept_there p.slice mid
  subpic : slice_index mid SUBPIC ≡ index_of (number fields sh_subpic_id) p.ids
  slices : slice_index mid NUM_SLICES ≡ num_slices_in_subpic p.layout (index_of (number fields sh_subpic_id) p.ids)
  kept_ones : shown_items kept_fields fields ≡ shown_items kept_fields (items_along (there p.table p.layout mid) values)

source_of : (p : At) (fields : List Item) (inside : List ℤ) (f : AreFields p fields inside) → length p.slice ≡ 1024 → Source p fields
unfolding behind_header subpic_form subpic_id_form fresh hides_row hides_counter
source_of p fields inside f size =
    let form = there p.table p.layout in
    let b = parted (subpic_form p.ids p.layout f.at) form f.ends in
    let k = parted (subpic_id_form p.ids p.layout f.at) (form_of KNOWN_SUBPIC) b.first in
    let i = parted (form_of SUBPIC_ID f.at) (λ t. done (located p.ids p.layout t)) k.first in
    let left = leaves_agree two (form_of KNOWN_SUBPIC) k.mid k.others b.mid known_leaves_two k.second in
    let at_size : length f.at ≡ 1024 = sym (inside_size p.slice f.first f.at f.begins) ∙ size in
    let mid_size : length i.mid ≡ 1024 = sym (id_size f.at i.front i.mid i.first) ∙ at_size in
    let same : located p.ids p.layout i.mid ≡ k.mid = done_is i.second in
    let id = id_is p fields inside f size b k i in
    let set = kept_fields in
    let a = items_along (form_of HEADER_INSIDE p.slice) f.first in
    let c = items_along (subpic_form p.ids p.layout f.at) b.front in
    let d = items_along (form b.mid) b.others in
    let all : items_along (behind_header p.table p.ids p.layout f.at) f.behind ≡ c ++ d = ap (items_along (behind_header p.table p.ids p.layout f.at)) b.all ∙ items_joined form b.others b.first in
    record {
      mid = b.mid;
      values = b.others;
      end = f.end;
      follows = b.second;
      agree = agree_on (leaves_agree kept_there (form_of HEADER_INSIDE) p.slice f.first f.at first_leaves f.begins) (leaves_agree kept_there (subpic_form p.ids p.layout) f.at b.front b.mid (in_force_left p.ids p.layout) b.first);
      subpic = sym (left.same SUBPIC refl) ∙ ap (λ s. slice_index s SUBPIC) (sym same) ∙ located_is p.ids p.layout i.mid mid_size ∙ ap (λ n. index_of n p.ids) id;
      slices = sym (left.same NUM_SLICES refl) ∙ ap (λ s. slice_index s NUM_SLICES) (sym same) ∙ slices_is p.ids p.layout i.mid mid_size ∙ ap (λ n. num_slices_in_subpic p.layout (index_of n p.ids)) id;
      kept_ones = ap (λ xs. shown_items set xs) f.all ∙ filter-append (λ item. has set item.field) a (items_along (behind_header p.table p.ids p.layout f.at) f.behind)
          ∙ rw (first_hidden set p.slice refl f.begins) (ap (λ xs. shown_items set xs) all ∙ filter-append (λ item. has set item.field) c d ∙ rw (subpic_hidden set p.ids p.layout f.at refl refl b.first) refl);
    }

-- ---- the target up to the id

abbrev at_first : At → List ℕ
at_first n = slice_set n.slice sh_picture_header_in_slice_header_flag 0

record Target (n : At) (id : ℕ) : Type 0 where
  mid : List ℕ
  front : List ℤ
  follows : Follows (subpic_form n.ids n.layout (at_first n)) front mid
  items : items_along (subpic_form n.ids n.layout (at_first n)) front ≡ where_so (is_set (slice_index n.slice sps_subpic_info_present_flag)) (item sh_subpic_id id ∷ [])
  agree : Agree kept_there n.slice mid
  starred : Agree starred_read n.slice mid
  apart : slice_index mid sh_picture_header_in_slice_header_flag ≡ 0
  subpic : slice_index mid SUBPIC ≡ index_of id n.ids
  slices : slice_index mid NUM_SLICES ≡ num_slices_in_subpic n.layout (index_of id n.ids)
  size : length mid ≡ 1024

target_of : (n : At) (id : ℕ) → length n.slice ≡ 1024 → slice_index n.slice sps_subpic_id_len_minus1 < 16
    → (is_set (slice_index n.slice sps_subpic_info_present_flag) ≡ true → id < 2 ^ (slice_index n.slice sps_subpic_id_len_minus1 + 1))
    → (is_set (slice_index n.slice sps_subpic_info_present_flag) ≡ false → id ≡ 0) → index_of id n.ids < length n.ids → Target n id
unfolding subpic_form subpic_id_form fresh starred_read
target_of n id size narrow spelled unspelled known =
    let t = at_first n in
    let first = sh_picture_header_in_slice_header_flag in
    let long : length t ≡ 1024 = length-set n.slice first 0 ∙ size in
    let still = leaves_agree starred_read (form_of HEADER_INSIDE) n.slice (pos 0 ∷ []) t starred_left_first (apart_there n.slice) in
    let info : slice_index n.slice sps_subpic_info_present_flag ≡ slice_index t sps_subpic_info_present_flag = still.same sps_subpic_info_present_flag refl in
    let bits : slice_index n.slice sps_subpic_id_len_minus1 ≡ slice_index t sps_subpic_id_len_minus1 = still.same sps_subpic_id_len_minus1 refl in
    let d = id_there t id long (subst (λ k. k < 16) bits narrow) (λ is. subst (λ k. id < 2 ^ (k + 1)) bits (spelled (ap is_set info ∙ is))) (λ is. unspelled (ap is_set info ∙ is)) in
    let u = d.end in
    let v = located n.ids n.layout u in
    let long_u : length u ≡ 1024 = sym (id_size t d.values u d.follows) ∙ long in
    let at : slice_index v SUBPIC ≡ index_of id n.ids = located_is n.ids n.layout u long_u ∙ ap (λ k. index_of k n.ids) d.told in
    let below : slice_index v SUBPIC < slice_index v NUM_SUBPICS = omega (arith, at, count_is n.ids n.layout u long_u, known) in
    let step : List ℕ → Form (List ℕ) = λ s. done (located n.ids n.layout s) in
    let one : Follows (subpic_id_form n.ids n.layout t) (d.values ++ []) v = joined step d.follows to_end in
    let both : Follows (subpic_form n.ids n.layout t) ((d.values ++ []) ++ []) v = joined (form_of KNOWN_SUBPIC) one (known_there v below) in
    let still_v = leaves_agree starred_read (subpic_form n.ids n.layout) t ((d.values ++ []) ++ []) v (starred_left n.ids n.layout) both in
    let left_v = leaves_agree only_inside (subpic_form n.ids n.layout) t ((d.values ++ []) ++ []) v (first_left n.ids n.layout) both in
    record {
      mid = v;
      front = (d.values ++ []) ++ [];
      follows = both;
      items = items_joined (form_of KNOWN_SUBPIC) [] one ∙ ap (λ xs. items_along (subpic_id_form n.ids n.layout t) (d.values ++ []) ++ xs) (no_items (form_of KNOWN_SUBPIC v)) ∙ append-nil (items_along (subpic_id_form n.ids n.layout t) (d.values ++ []))
          ∙ items_joined step [] d.follows ∙ append-nil (items_along (form_of SUBPIC_ID t) d.values) ∙ d.items ∙ ap (λ k. where_so (is_set k) (item sh_subpic_id id ∷ [])) (sym info);
      agree = agree_on (leaves_agree kept_there (form_of HEADER_INSIDE) n.slice (pos 0 ∷ []) t first_leaves (apart_there n.slice)) (leaves_agree kept_there (subpic_form n.ids n.layout) t ((d.values ++ []) ++ []) v (in_force_left n.ids n.layout) both);
      starred = agree_on still still_v;
      apart = sym (left_v.same first refl) ∙ get_or-set_at n.slice first first 0 0 refl (omega (arith, size));
      subpic = at;
      slices = slices_is n.ids n.layout u long_u ∙ ap (λ k. num_slices_in_subpic n.layout (index_of k n.ids)) d.told;
      size = sym still_v.size ∙ long;
    }

-- ---- both

abbrev known_given : ℕ → Bool
known_given k = k == NUM_SLICES || has kept_there k

all_given : passes known_given kept_given ≡ true
unfolding fresh kept_there
all_given = refl

-- all that is stated, at a scope
abbrev pub said_at : List ℕ → ℕ → List Item → Bool → Bool → ℤ → List Item
said_at s id filter lmcs scaling delta =
    (item sh_picture_header_in_slice_header_flag 0 ∷ where_so (is_set (slice_index s sps_subpic_info_present_flag)) (item sh_subpic_id id ∷ []))
    ++ ((where_so (is_set (slice_index s sps_alf_enabled_flag)) filter
    ++ (where_so (is_set (slice_index s ph_lmcs_enabled_flag)) (item sh_lmcs_used_flag (one_if lmcs) ∷ []) ++ where_so (is_set (slice_index s ph_explicit_scaling_list_enabled_flag)) (item sh_explicit_scaling_list_used_flag (one_if scaling) ∷ [])))
    ++ qp_items delta)

-- what is made
pub record Made (n : At) (source : List Item) (id : ℕ) (others items : List Item) : Type 0 where
  pub fields : AreFields n items []
  pub apart : number items sh_picture_header_in_slice_header_flag ≡ 0
  pub id_told : number items sh_subpic_id ≡ id
  pub kept_ones : shown_items kept_fields items ≡ shown_items kept_fields source
  pub other_ones : other_items kept_fields items ≡ others

module _ (p n : At) (source : List Item) (inside : List ℤ) (f : AreFields p source inside) (size : length p.slice ≡ 1024) (long : length n.slice ≡ 1024) (agree : Agree kept_there p.slice n.slice) (tables : p.table ≡ n.table)
    (id : ℕ) (known : index_of id n.ids < length n.ids) (same : HaveSameSlices p.layout (index_of (number source sh_subpic_id) p.ids) n.layout (index_of id n.ids))
    (narrow : slice_index n.slice sps_subpic_id_len_minus1 < 16)
    (spelled : is_set (slice_index n.slice sps_subpic_info_present_flag) ≡ true → id < 2 ^ (slice_index n.slice sps_subpic_id_len_minus1 + 1))
    (unspelled : is_set (slice_index n.slice sps_subpic_info_present_flag) ≡ false → id ≡ 0)
    (filter_apart : slice_index n.slice pps_alf_info_in_ph_flag ≡ 0) (qp_apart : slice_index n.slice pps_qp_delta_info_in_ph_flag ≡ 0)
    (low_l : slice_index n.slice ph_lmcs_enabled_flag < 2) (low_k : slice_index n.slice ph_explicit_scaling_list_enabled_flag < 2)
    (at_sets : List ℕ) (whole : length at_sets ≡ 1024) (chroma : slice_index at_sets sps_chroma_format_idc ≡ slice_index n.slice sps_chroma_format_idc)
    (cross : slice_index at_sets sps_ccalf_enabled_flag ≡ slice_index n.slice sps_ccalf_enabled_flag)
    (filter : List Item) (filter_goes : is_set (slice_index n.slice sps_alf_enabled_flag) ≡ true → Takes (form_of ALF at_sets) filter)
    (lmcs scaling : Bool) (delta : ℤ) (code : IsCodeNumber (code_number delta)) where
  src : Source p source
  src = source_of p source inside f size

  tgt : Target n id
  tgt = target_of n id long narrow spelled unspelled known

  between : Agree kept_there src.mid tgt.mid
  between = agree_on (agree_back src.agree) (agree_on agree tgt.agree)

  same_points : points_of p.layout src.mid ≡ points_of n.layout tgt.mid
  unfolding fresh kept_there
  same_points = fun_ext (λ a.
      let entry : is_set (slice_index src.mid sps_entry_point_offsets_present_flag) ≡ is_set (slice_index tgt.mid sps_entry_point_offsets_present_flag) = ap is_set (between.same sps_entry_point_offsets_present_flag refl) in
      let sync : is_set (slice_index src.mid sps_entropy_coding_sync_enabled_flag) ≡ is_set (slice_index tgt.mid sps_entropy_coding_sync_enabled_flag) = ap is_set (between.same sps_entropy_coding_sync_enabled_flag refl) in
      ap (λ e. points_at p.layout e (is_set (slice_index src.mid sps_entropy_coding_sync_enabled_flag)) (slice_index src.mid SUBPIC) a) entry
      ∙ ap (λ s. points_at p.layout (is_set (slice_index tgt.mid sps_entry_point_offsets_present_flag)) s (slice_index src.mid SUBPIC) a) sync
      ∙ ap (λ k. points_at p.layout (is_set (slice_index tgt.mid sps_entry_point_offsets_present_flag)) (is_set (slice_index tgt.mid sps_entropy_coding_sync_enabled_flag)) k a) src.subpic
      ∙ same.points (is_set (slice_index tgt.mid sps_entry_point_offsets_present_flag)) (is_set (slice_index tgt.mid sps_entropy_coding_sync_enabled_flag)) a
      ∙ ap (λ k. points_at n.layout (is_set (slice_index tgt.mid sps_entry_point_offsets_present_flag)) (is_set (slice_index tgt.mid sps_entropy_coding_sync_enabled_flag)) k a) (sym tgt.subpic))

  at_number : (k : ℕ) → known_given k ≡ true → slice_index src.mid k ≡ slice_index tgt.mid k
  at_number k is = elim (or_cases (k == NUM_SLICES) (has kept_there k) is) [
    | inl slices ↦ subst (λ m. slice_index src.mid m ≡ slice_index tgt.mid m) (sym (eqb-true k NUM_SLICES slices)) (src.slices ∙ same.slices ∙ sym tgt.slices)
    | inr there_ ↦ between.same k there_
  ]

  given_agree : Agree kept_given src.mid tgt.mid
  given_agree = record {
    size = between.size;
    same = λ k is. named (λ m. slice_index src.mid m ≡ slice_index tgt.mid m) kept_given k (all_pass known_given (λ m. slice_index src.mid m ≡ slice_index tgt.mid m) at_number kept_given all_given) is;
  }

  points : ℕ → ℕ
  points = points_of n.layout tgt.mid

  form_is : there p.table p.layout src.mid ≡ rest_form n.table points src.mid
  unfolding points
  form_is = ap (λ x. rest_form x (points_of p.layout src.mid) src.mid) tables ∙ ap (λ x. rest_form n.table x src.mid) same_points

  used : List Item
  used = where_so (is_set (slice_index n.slice sps_alf_enabled_flag)) filter
      ++ (where_so (is_set (slice_index n.slice ph_lmcs_enabled_flag)) (item sh_lmcs_used_flag (one_if lmcs) ∷ []) ++ where_so (is_set (slice_index n.slice ph_explicit_scaling_list_enabled_flag)) (item sh_explicit_scaling_list_used_flag (one_if scaling) ∷ []))

  uses_go : Takes (sections_form own tgt.mid) used
  unfolding fresh kept_there starred_read used
  uses_go =
      let t = tgt.mid in
      let star : (k : ℕ) → IsTrue (has starred_read k) → slice_index n.slice k ≡ slice_index t k = λ k is. tgt.starred.same k is in
      let alf : slice_index n.slice sps_alf_enabled_flag ≡ slice_index t sps_alf_enabled_flag = tgt.agree.same sps_alf_enabled_flag refl in
      let l = star ph_lmcs_enabled_flag refl in
      let k = star ph_explicit_scaling_list_enabled_flag refl in
      let there_ = own_takes at_sets t filter lmcs scaling tgt.size whole (sym (star pps_alf_info_in_ph_flag refl) ∙ filter_apart) tgt.apart (subst (λ x. x < 2) l low_l) (subst (λ x. x < 2) k low_k)
      (chroma ∙ tgt.agree.same sps_chroma_format_idc refl) (cross ∙ tgt.agree.same sps_ccalf_enabled_flag refl) (λ is. filter_goes (ap is_set alf ∙ is)) in
      subst (λ x. Takes (sections_form own t) (where_so (is_set (slice_index n.slice sps_alf_enabled_flag)) filter
      ++ (where_so (is_set (slice_index n.slice ph_lmcs_enabled_flag)) (item sh_lmcs_used_flag (one_if lmcs) ∷ []) ++ where_so (is_set x) (item sh_explicit_scaling_list_used_flag (one_if scaling) ∷ [])))) (sym k)
      (subst (λ x. Takes (sections_form own t) (where_so (is_set (slice_index n.slice sps_alf_enabled_flag)) filter
      ++ (where_so (is_set x) (item sh_lmcs_used_flag (one_if lmcs) ∷ []) ++ where_so (is_set (slice_index t ph_explicit_scaling_list_enabled_flag)) (item sh_explicit_scaling_list_used_flag (one_if scaling) ∷ [])))) (sym l)
      (subst (λ x. Takes (sections_form own t) (where_so (is_set x) filter
      ++ (where_so (is_set (slice_index t ph_lmcs_enabled_flag)) (item sh_lmcs_used_flag (one_if lmcs) ∷ []) ++ where_so (is_set (slice_index t ph_explicit_scaling_list_enabled_flag)) (item sh_explicit_scaling_list_used_flag (one_if scaling) ∷ [])))) (sym alf)
      there_))

  qp_goes : Takes (sections_form qp tgt.mid) (qp_items delta)
  unfolding fresh starred_read
  qp_goes = qp_takes tgt.mid delta (sym (tgt.starred.same pps_qp_delta_info_in_ph_flag refl) ∙ qp_apart) code

  rest : (items : List Item) × IsRewritten (rest_form n.table points tgt.mid) kept (shown_items kept (items_along (rest_form n.table points src.mid) src.values)) (used ++ qp_items delta) items
  rest = slices_rewrite n.table points src.mid tgt.mid src.values src.end used (qp_items delta) given_agree (subst (λ g. Follows g src.values src.end) form_is src.follows) uses_go qp_goes

  id_part : List Item
  id_part = where_so (is_set (slice_index n.slice sps_subpic_info_present_flag)) (item sh_subpic_id id ∷ [])

  are_fields : AreFields n (item sh_picture_header_in_slice_header_flag 0 ∷ (id_part ++ rest.0)) []
  unfolding behind_header points id_part
  are_fields =
      let t = at_first n in
      let none : (slice_index t sh_picture_header_in_slice_header_flag == 0) ≡ true = ap (λ k. k == 0) (get_or-set_at n.slice sh_picture_header_in_slice_header_flag sh_picture_header_in_slice_header_flag 0 0 refl (omega (arith, long))) in
      let r = rest.1 in
      let stops : Follows (header_inside n.table n.sets t) [] t = rw (nothing_inside n.table n.sets t none) to_end in
      record {
        first = pos 0 ∷ [];
        behind = tgt.front ++ r.values;
        at = t;
        end = r.end;
        begins = apart_there n.slice;
        goes_on = stops;
        ends = joined (there n.table n.layout) tgt.follows r.follows;
        all = sym (ap (λ xs. xs ++ items_along (behind_header n.table n.ids n.layout t) (tgt.front ++ r.values)) (apart_items n.slice)
            ∙ ap (λ xs. item sh_picture_header_in_slice_header_flag 0 ∷ xs) (items_joined (there n.table n.layout) r.values tgt.follows ∙ rw tgt.items (ap (λ xs. id_part ++ xs) (sym r.all))));
      }

  id_hidden : (names : List ℕ) → has names sh_subpic_id ≡ false → shown_items names id_part ≡ []
  unfolding id_part
  id_hidden names none = elim (cases_Bool (is_set (slice_index n.slice sps_subpic_info_present_flag))) [
    | inl is ↦ rw (is, none) refl
    | inr is_not ↦ rw is_not refl
  ]

  id_other : (names : List ℕ) → has names sh_subpic_id ≡ false → other_items names id_part ≡ id_part
  unfolding id_part
  id_other names none = elim (cases_Bool (is_set (slice_index n.slice sps_subpic_info_present_flag))) [
    | inl is ↦ rw (is, none) refl
    | inr is_not ↦ rw is_not refl
  ]

  id_number : number id_part sh_subpic_id ≡ id
  unfolding id_part fresh natural
  id_number = elim (cases_Bool (is_set (slice_index n.slice sps_subpic_info_present_flag))) [
    | inl is ↦
        let low : id < 2 ^ 16 = below_power id (slice_index n.slice sps_subpic_id_len_minus1 + 1) (spelled is) (omega (arith, narrow)) in
        rw is (let capped_ : natural (pos id) ≡ id = omega (arith, low) in capped_)
    | inr is_not ↦ rw is_not (sym (unspelled is_not))
  ]
    where
      below_power : (m k : ℕ) → m < 2 ^ k → k ≤ 16 → m < 2 ^ 16
      below_power m k below few = omega (arith, below, pow_le k 16 few)

  pub made_there : (items : List Item) × Made n source id (said_at n.slice id filter lmcs scaling delta) items
  unfolding fresh natural hides_row hides_counter points id_part used
  made_there =
      let r = rest.1 in
      let set = kept_fields in
      let first : Item = item sh_picture_header_in_slice_header_flag 0 in
      let behind_first : shown_items only_inside (id_part ++ rest.0) ≡ []
      = filter-append (λ x. has only_inside x.field) id_part rest.0 ∙ rw (id_hidden only_inside refl, r.all) (rest_hidden only_inside n.table points tgt.mid
      (record { address = refl; before_lists = refl; lists = refl; between = refl; weights = refl; behind_weights = refl }) r.follows) in
      let behind_id : shown_items only_id rest.0 ≡ []
      = ap (λ xs. shown_items only_id xs) r.all ∙ rest_hidden only_id n.table points tgt.mid
      (record { address = refl; before_lists = refl; lists = refl; between = refl; weights = refl; behind_weights = refl }) r.follows in
      let follows_source = subst (λ g. Follows g src.values src.end) form_is src.follows in
      let kept_rest : shown_items set rest.0 ≡ shown_items set (items_along (rest_form n.table points src.mid) src.values)
      = ap (λ xs. shown_items set xs) r.all ∙ sym (given_is_kept n.table points tgt.mid r.follows) ∙ ap (λ xs. shown_items kept xs) (sym r.all) ∙ r.shown_ones ∙ given_is_kept n.table points src.mid follows_source in
      let other_rest : other_items set rest.0 ≡ used ++ qp_items delta
      = ap (λ xs. other_items set xs) r.all ∙ sym (not_given_is_not_kept n.table points tgt.mid r.follows) ∙ ap (λ xs. other_items kept xs) (sym r.all) ∙ r.other_ones in (
        item sh_picture_header_in_slice_header_flag 0 ∷ (id_part ++ rest.0),
        record {
          fields = are_fields;
          apart = in_first only_inside sh_picture_header_in_slice_header_flag (first ∷ []) (id_part ++ rest.0) refl behind_first;
          id_told = in_second only_id sh_subpic_id (first ∷ []) (id_part ++ rest.0) refl refl ∙ in_first only_id sh_subpic_id id_part rest.0 refl behind_id ∙ id_number;
          kept_ones = filter-append (λ x. has set x.field) id_part rest.0 ∙ rw (id_hidden set refl) (kept_rest ∙ ap (λ g. shown_items set (items_along g src.values)) (sym form_is) ∙ sym src.kept_ones);
          other_ones = ap (λ xs. first ∷ xs) (filter-append (λ x. not (has set x.field)) id_part rest.0 ∙ rw (id_other set refl, other_rest) refl);
        },
      )
