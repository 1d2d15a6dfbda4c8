-- What is written of groups of slices gives them: turns, and the whole list.
use Rattle.std.proofs.Common.{◌≡◌, ◌==◌, ℕ, ℤ, pos, negsuc, zero, suc, ◌+◌, ◌-◌, ◌*◌, ◌^◌, ◌<◌, ◌≤◌, eqb, leb, ltb, ◌&&◌, Bool, true, false, cond, List, [], ◌∷◌, ◌++◌, length, sum, Some, None, sym, ap, ◌∙◌, subst, inl, inr, arith, refl, append_assoc, length-append}
use Rattle.std.proofs.Common.{neg_ℤ, ◌+ℤ◌}
use Rattle.std.proofs.Math.Nat.{mul-le-mul_left}
use Rattle.std.proofs.lemmas.Bool.{and_parts, cases_Bool, cases_lt, eqb-true, false_from_ne_true, le-leb, le-ltb, leb-true, lt-ltb, ne_eqb}
use Rattle.std.proofs.lemmas.Int.{ints}
use Rattle.std.proofs.lemmas.List.{append-nil, length-take-le}
use Rattle.std.proofs.lemmas.List.Elements.{All-head, All-tail, All-take}
use Rattle.std.proofs.lemmas.List.Sums.{sum_by-append, sum_by-cons}
use Rattle.std.specs.List.{All}
use Rattle.vx_bits.specs.declared.list.Item.{Item}
use Rattle.vx_fields.specs.declared.pps.TheConstants as pps
use Rattle.vx_layout.specs.declared.rect.Rect.{Rect}
use Rattle.vx_layout.specs.Bounds.{last, repeated_sizes}
use Rattle.vx_layout.specs.Heights.{all_but_last, written_heights}
use Rattle.vx_layout.proofs.ReadBack.{heights_read, heights_some, split_last}
use Rattle.vx_table.specs.declared.rows.Coding.TheVariants.{SignedGolomb}
use Rattle.vx_table.specs.declared.rows.Fault.TheVariants.{OutOfRange}
use Rattle.vx_table.specs.declared.rows.Limits.TheVariants.{Within}
use Rattle.vx_table.specs.Forms.{Form, done, ◌>>=◌, has_value}
use Rattle.vx_table.specs.Scope.{natural}
use Rattle.vx_table.specs.Spelling.{HasCode, fault_of, item_of}
use Rattle.vx_table.specs.Values.{Follows, IsValueOf, to_end, through}
use Rattle.vx_pps.specs.declared.tiles.Tiles.{Tiles}
use Rattle.vx_pps.specs.Tiles.{IsGrid, across, block, column, down, row, tile, tile_behind}
use Rattle.vx_pps.specs.Groups.{Ends, Follow, Group, InGroups, Lies, GroupStands, cut, high_of, slices_of_group, slices_of_all, first_tile_of, strips, whole, wide_of}
use Rattle.vx_pps.specs.laws.Lists.{FewAreReadBack, ListGivesSlices, SlicesAreReadBack}
use Rattle.vx_pps.specs.declared.list.Listed.{Listed}
use Rattle.vx_pps.specs.Slices.{all_slices, below, delta, delta_cell, height_in_tiles, list_from, may_be_cut, none_listed, slices_from_tile, slices_in_tile, spells_delta, strips_from, tile_after, turn, turns_from}
use Rattle.vx_pps.specs.Written.{Gives, delta_items, heights_items, only_item, last_items, list_items, strip_items, turn_items}
use Rattle.vx_pps.proofs.Blocks.{row_inside}
use Rattle.vx_pps.proofs.Few.{few_fall, group_some, strips_length}
use Rattle.vx_pps.proofs.Grouping.{lists_fall}
use Rattle.vx_pps.proofs.Giving.{FitHeights, below_allows, gives_done, gives_end, gives_height, gives_number, gives_strips, gives_then, gives_width, natural_is}

-- ---- the slices of a tile

-- heights that can be spelled, by how much the last one has to cover
fit_from : (heights : List ℕ) (left room : ℕ) → All (λ h. 1 ≤ h) heights → sum heights ≤ left → length heights ≤ room → left - sum heights ≤ (room - length heights) * last heights → FitHeights heights left room
fit_from [] left room some fits has covers = tt
fit_from (e ∷ []) left room some fits has covers =
    let whole : sum (e ∷ []) ≡ e + 0 = sum_by-cons (λ n. n) e [] in
    let first : 1 ≤ e = All-head (λ h. 1 ≤ h) e [] some in
    let one : room ≡ (room - 1) + 1 = omega arith in
    let product : ((room - 1) + 1) * e ≡ (room - 1) * e + e = omega arith in
    let all : left ≤ room * e = subst (λ n. left ≤ n * e) (sym one) (omega (arith, product, covers, whole)) in
    (first, omega (arith, whole), omega arith, λ _. all, tt)
fit_from (e ∷ (f ∷ es)) left room some fits has covers =
    let whole : sum (e ∷ (f ∷ es)) ≡ e + sum (f ∷ es) = sum_by-cons (λ n. n) e (f ∷ es) in
    let first : 1 ≤ e = All-head (λ h. 1 ≤ h) e (f ∷ es) some in
    let left_is : left - sum (e ∷ (f ∷ es)) ≡ left - e - sum (f ∷ es) = omega (arith, whole) in
    let room_is : room - length (e ∷ (f ∷ es)) ≡ room - 1 - length (f ∷ es) = omega arith in
    let covers_rest : left - e - sum (f ∷ es) ≤ (room - 1 - length (f ∷ es)) * last (f ∷ es) = subst (λ n. n ≤ (room - 1 - length (f ∷ es)) * last (f ∷ es)) left_is (subst (λ n. left - sum (e ∷ (f ∷ es)) ≤ n * last (f ∷ es)) room_is covers) in
    (first, omega (arith, whole, fits), omega arith, λ none. absurd (cc), fit_from (f ∷ es) (left - e) (room - 1) (All-tail (λ h. 1 ≤ h) e (f ∷ es) some) (omega (arith, whole, fits)) (omega arith) covers_rest)

-- those that are written
fit_written : (heights : List ℕ) (room : ℕ) → 2 ≤ length heights → All (λ h. 1 ≤ h) heights → length heights ≤ room → FitHeights (written_heights heights) (sum heights) room
fit_written heights room several some has =
    let fewer : List ℕ = all_but_last heights in
    let short : length fewer ≡ length heights - 1 = length-take-le (length heights - 1) heights (omega arith) in
    elim (cases_Bool (leb (last heights) (last fewer))) [
      | inr higher ↦ let none : sum heights - sum heights ≡ 0 = omega arith in rw higher (fit_from heights (sum heights) room some (omega arith) has (rw none (omega arith)))
      | inl level ↦
          let low : last heights ≤ last fewer = leb-true _ _ level in
          let whole : sum heights ≡ sum fewer + last heights = ap sum (sym (split_last heights (omega arith))) ∙ (sum_by-append (λ n. n) fewer (last heights ∷ []) ∙ omega arith) in
          let each : All (λ h. 1 ≤ h) fewer = All-take (λ h. 1 ≤ h) (length heights - 1) heights some in
          let once : 1 ≤ room - length fewer = omega (arith, short) in
          let up = mul-le-mul_left (last fewer) once in
          rw level (fit_from fewer (sum heights) room each (omega (arith, whole)) (omega (arith, short)) (omega (arith, whole, up, low)))
    ]

written_short : (heights : List ℕ) → 2 ≤ length heights → length (written_heights heights) ≤ length heights
written_short heights several =
    let short : length (all_but_last heights) ≡ length heights - 1 = length-take-le (length heights - 1) heights (omega arith) in
    elim (cases_Bool (leb (last heights) (last (all_but_last heights)))) [ inl level ↦ rw level (omega (arith, short)) | inr higher ↦ rw higher (omega arith) ]

-- no tile reaches far down
tile_low : (g : Tiles) (t : ℕ) → IsGrid g → (tile g t).y + (tile g t).h < 2 ^ 21
tile_low g t grid = omega (arith, grid.low (row g t), grid.low (row g t + 1))

abbrev on_explicit : Rect → ℕ → List Rect → ℕ → Form (List Rect)
on_explicit r last slices explicit = cond (explicit == 0) (done (slices ++ r ∷ [])) (strips_from r last explicit r.y 0 slices)

gives_cut : (g : Tiles) (last : ℕ) (t : ℕ) (heights : List ℕ) (slices : List Rect) → IsGrid g → last < 1000 → Lies g (cut t heights) → length slices + length heights ≤ last + 1
    → Gives (slices_in_tile (tile g t) last slices) (heights_items g (cut t heights)) (slices ++ slices_of_group g (cut t heights))
gives_cut g last_one t heights slices grid few lies room =
    let r : Rect = tile g t in
    let written : List ℕ = written_heights heights in
    let some : 1 ≤ length written = heights_some heights lies.0 in
    let short = written_short heights lies.0 in
    let first = gives_number pps.pps_num_exp_slices_in_tile (length written) (below (last_one + 2 - length slices)) (omega (arith, short, room)) (below_allows (length written) (last_one + 2 - length slices) (omega (arith, short, room))) in
    let high : sum heights ≡ r.y + r.h - r.y = omega (arith, lies.2) in
    let fit : FitHeights written (r.y + r.h - r.y) (last_one + 1 - length slices) = subst (λ n. FitHeights written n (last_one + 1 - length slices)) high (fit_written heights (last_one + 1 - length slices) lies.0 lies.1 (omega (arith, room))) in
    let rest = gives_strips r last_one written r.y 0 slices (tile_low g t grid) fit in
    let all : written ++ repeated_sizes (last written) (r.y + r.h - r.y - sum written) ≡ heights = subst (λ n. written ++ repeated_sizes (last written) (n - sum written) ≡ heights) high (heights_read heights (omega (arith, lies.0)) lies.1) in
    let several : eqb (length written) 0 ≡ false = ne_eqb (length written) 0 (omega (arith, some)) in
    let second : Gives (on_explicit r last_one slices (length written)) (strip_items written) (slices ++ strips r r.y heights) = rw several (subst (λ hs. Gives (strips_from r last_one (length written) r.y 0 slices) (strip_items written) (slices ++ strips r r.y hs)) all rest) in
    gives_then (on_explicit r last_one slices) first second

-- ---- one slice of whole tiles, or those of a tile

gives_whole : (g : Tiles) (last : ℕ) (t wide high : ℕ) (slices : List Rect) → last < 1000 → 1 ≤ wide → 1 ≤ high → length slices + 1 ≤ last + 1
    → Gives (slices_from_tile g last t (wide - 1) (high - 1) slices) (heights_items g (whole t wide high)) (slices ++ block g t wide high ∷ [])
gives_whole g last_one t wide high slices few wide_some high_some room =
    let back_wide : wide - 1 + 1 ≡ wide = omega arith in
    let back_high : high - 1 + 1 ≡ high = omega arith in
    elim (cases_Bool (may_be_cut (wide - 1) (high - 1) (tile g t))) [
      | inl may ↦
          let both = and_parts (eqb (wide - 1) 0) (eqb (high - 1) 0) (and_parts (eqb (wide - 1) 0 && eqb (high - 1) 0) (ltb 1 (tile g t).h) may).0 in
          let one_wide : 1 ≡ wide = omega (arith, eqb-true (wide - 1) 0 both.0) in
          let one_high : 1 ≡ high = omega (arith, eqb-true (high - 1) 0 both.1) in
          let is : block g t 1 1 ≡ block g t wide high = ap (λ n. block g t n 1) one_wide ∙ ap (λ n. block g t wide n) one_high in
          let first = gives_number pps.pps_num_exp_slices_in_tile 0 (below (last_one + 2 - length slices)) (omega arith) (below_allows 0 (last_one + 2 - length slices) (omega (arith, room))) in
          rw may (subst (λ b. Gives (slices_in_tile (tile g t) last_one slices) (only_item pps.pps_num_exp_slices_in_tile (pos 0)) (slices ++ b ∷ [])) is (gives_then (on_explicit (tile g t) last_one slices) first (gives_done (slices ++ tile g t ∷ []))))
      | inr not_cut ↦
          let is : block g t (wide - 1 + 1) (high - 1 + 1) ≡ block g t wide high = ap (λ n. block g t n (high - 1 + 1)) back_wide ∙ ap (λ n. block g t wide n) back_high in
          rw not_cut (subst (λ b. Gives (done (slices ++ block g t (wide - 1 + 1) (high - 1 + 1) ∷ [])) [] (slices ++ b ∷ [])) is (gives_done (slices ++ block g t (wide - 1 + 1) (high - 1 + 1) ∷ [])))
    ]

-- the heights of a tile's slices are two CTU rows at least
sum_some : (heights : List ℕ) → All (λ h. 1 ≤ h) heights → length heights ≤ sum heights
sum_some [] some = omega arith
sum_some (h ∷ hs) some = omega (arith, sum_by-cons (λ n. n) h hs, All-head (λ h. 1 ≤ h) h hs some, sum_some hs (All-tail (λ h. 1 ≤ h) h hs some))

gives_slices : (g : Tiles) (last : ℕ) (group : Group) (slices : List Rect) → IsGrid g → last < 1000 → Lies g group → length slices + length (slices_of_group g group) ≤ last + 1
    → Gives (slices_from_tile g last (first_tile_of group) (wide_of group - 1) (high_of group - 1) slices) (heights_items g group) (slices ++ slices_of_group g group)
gives_slices g last_one (whole t wide high) slices grid few lies room = gives_whole g last_one t wide high slices few lies.0 lies.1 room
gives_slices g last_one (cut t heights) slices grid few lies room =
    let may : ltb 1 (tile g t).h ≡ true = lt-ltb 1 (tile g t).h (omega (arith, sum_some heights lies.1, lies.0, lies.2)) in
    rw may (gives_cut g last_one t heights slices grid few lies (omega (arith, room, strips_length (tile g t) (tile g t).y heights)))

-- ---- the next tile

-- how far on the next tile is
abbrev moved : ℕ → ℕ → ℤ
moved t next = pos next +ℤ neg_ℤ (pos t)

moved_up : (t k : ℕ) → moved t (t + k) ≡ pos k
moved_up t k = omega (arith, ints)

moved_down : (next k : ℕ) → moved (suc (next + k)) next ≡ negsuc k
moved_down next k = omega (arith, ints)

moved_back : (t next : ℕ) → pos t +ℤ moved t next ≡ pos next
moved_back t next = omega (arith, ints)

code_up : (k : ℕ) → k < 2 ^ 20 → HasCode SignedGolomb (pos k)
unfolding HasCode
code_up zero low = omega arith
code_up (suc k) low = omega arith

code_down : (k : ℕ) → k < 2 ^ 20 → HasCode SignedGolomb (negsuc k)
unfolding HasCode
code_down k low = omega arith

range_up : (t k high : ℕ) → k ≤ high → fault_of (Within (neg_ℤ (pos t)) high OutOfRange) (pos k) ≡ None
unfolding fault_of
range_up zero k high fits =
    let from : leb 0 k ≡ true = le-leb 0 k (omega arith) in
    let upto : leb k high ≡ true = le-leb k high fits in
    rw (from, upto) refl
range_up (suc t) k high fits = let upto : leb k high ≡ true = le-leb k high fits in rw upto refl

range_down : (t k high : ℕ) → k ≤ t → fault_of (Within (neg_ℤ (pos (suc t))) high OutOfRange) (negsuc k) ≡ None
unfolding fault_of
range_down t k high fits = let from : leb k t ≡ true = le-leb k t fits in rw from refl

count_low : (g : Tiles) → IsGrid g → across g * down g < 2 ^ 20
count_low g grid =
    let high : down g ≤ 512 = omega (arith, grid.rows) in
    let up = mul-le-mul_left (across g) high in
    omega (arith, up, grid.columns)

delta_value : (g : Tiles) (t next : ℕ) → IsGrid g → t < across g * down g → next < across g * down g → IsValueOf (delta_cell g t) (moved t next)
delta_value g t next grid inside in_next =
    let low = count_low g grid in
    elim (cases_lt next t) [
      | inr on_ ↦
          let e : t + (next - t) ≡ next = omega arith in
          subst (λ n. IsValueOf (delta_cell g t) (moved t n)) e (subst (λ v. IsValueOf (delta_cell g t) v) (sym (moved_up t (next - t))) (record { code = code_up (next - t) (omega arith); range = range_up t (next - t) (across g * down g - 1 - t) (omega arith) }))
      | inl back ↦
          let e : suc (next + (t - next - 1)) ≡ t = omega arith in
          subst (λ n. IsValueOf (delta_cell g n) (moved n next)) e (subst (λ v. IsValueOf (delta_cell g (suc (next + (t - next - 1)))) v) (sym (moved_down next (t - next - 1)))
          (record { code = code_down (t - next - 1) (omega arith); range = range_down (next + (t - next - 1)) (t - next - 1) (across g * down g - 1 - suc (next + (t - next - 1))) (omega arith) }))
    ]

gives_delta : (g : Tiles) (t next : ℕ) → IsGrid g → t < across g * down g → next < across g * down g → Gives (delta g t) (only_item pps.pps_tile_idx_delta_val (moved t next)) next
unfolding item_of has_value
gives_delta g t next grid inside in_next =
    let end : natural (pos t +ℤ moved t next) ≡ next = ap natural (moved_back t next) ∙ natural_is next (omega (arith, count_low g grid, in_next)) in
    record {
      values = moved t next ∷ [];
      follows = subst (λ m. Follows (delta g t) (moved t next ∷ []) m) end (through (delta_value g t next grid inside in_next) to_end);
      given = refl;
    }

gives_next : (g : Tiles) (spelled : Bool) (t width height next : ℕ) → IsGrid g → t < across g * down g → (spelled ≡ true → next < across g * down g) → (spelled ≡ false → next ≡ tile_behind g t width height)
    → Gives (tile_after g spelled t width height) (delta_items spelled t next) next
gives_next g true t width height next grid inside there behind = gives_delta g t next grid inside (there refl)
gives_next g false t width height next grid inside there behind = subst (λ n. Gives (done (tile_behind g t width height)) [] n) (sym (behind refl)) (gives_done (tile_behind g t width height))

-- ---- a turn

abbrev on_slices : Tiles → ℕ → Bool → Listed → ℕ → ℕ → List Rect → Form Listed
on_slices g last deltas at width height slices = tile_after g (spells_delta deltas slices last) at.next width height >>= λ next. done (record { slices = slices; next = next; before = height })

abbrev on_height : Tiles → ℕ → Bool → Listed → ℕ → ℕ → Form Listed
on_height g last deltas at width height = slices_from_tile g last at.next width height at.slices >>= on_slices g last deltas at width height

abbrev on_width : Tiles → ℕ → Bool → Listed → ℕ → Form Listed
on_width g last deltas at width = height_in_tiles g deltas at.next at.before >>= on_height g last deltas at width

-- the tiles that a group takes
pub record Takes (g : Tiles) (group : Group) : Type 0 where
  pub wide : 1 ≤ wide_of group
  pub high : 1 ≤ high_of group
  pub across : column g (first_tile_of group) + wide_of group ≤ across g
  pub down : row g (first_tile_of group) + high_of group ≤ down g

takes : (g : Tiles) (group : Group) → IsGrid g → first_tile_of group < across g * down g → Lies g group → Takes g group
takes g (whole t wide high) grid inside lies = record { wide = lies.0; high = lies.1; across = lies.2; down = lies.3 }
takes g (cut t heights) grid inside lies =
    let in_row = row_inside g t inside in
    record { wide = omega arith; high = omega arith; across = omega (arith, grid.columns); down = omega (arith, in_row) }

gives_turn : (g : Tiles) (last : ℕ) (deltas spelled : Bool) (group : Group) (before next : ℕ) (slices : List Rect) → IsGrid g → last < 1000 → GroupStands g deltas before group → length slices + length (slices_of_group g group) ≤ last + 1
    → spells_delta deltas (slices ++ slices_of_group g group) last ≡ spelled → (spelled ≡ true → next < across g * down g) → (spelled ≡ false → next ≡ tile_behind g (first_tile_of group) (wide_of group - 1) (high_of group - 1))
    → Gives (turn g last deltas (record { slices = slices; next = first_tile_of group; before = before })) (turn_items g deltas spelled group next) (record { slices = slices ++ slices_of_group g group; next = next; before = high_of group - 1 })
gives_turn g last_one deltas spelled group before next slices grid few s room spells there behind =
    let at : Listed = record { slices = slices; next = first_tile_of group; before = before } in
    let all : List Rect = slices ++ slices_of_group g group in
    let t = takes g group grid s.inside s.lies in
    let width : ℕ = wide_of group - 1 in
    let height : ℕ = high_of group - 1 in
    let step : Gives (tile_after g (spells_delta deltas all last_one) (first_tile_of group) width height) (delta_items spelled (first_tile_of group) next) next =
    subst (λ b. Gives (tile_after g b (first_tile_of group) width height) (delta_items spelled (first_tile_of group) next) next) (sym spells) (gives_next g spelled (first_tile_of group) width height next grid s.inside there behind)
    in
    let ended : Gives (on_slices g last_one deltas at width height all) (delta_items spelled (first_tile_of group) next) (record { slices = all; next = next; before = height }) = gives_end (λ (n : ℕ). let r : Listed = record { slices = all; next = n; before = height } in r) step in
    let third = gives_then (on_slices g last_one deltas at width height) (gives_slices g last_one group slices grid few s.lies room) ended in
    let second = gives_then (on_height g last_one deltas at width) (gives_height g deltas (first_tile_of group) before (high_of group) grid t.high t.down s.height) third in
    gives_then (on_width g last_one deltas at) (gives_width g (first_tile_of group) (wide_of group) grid t.wide t.across) second

-- ---- the list

both_false : (a b : Bool) → b ≡ false → (a && b) ≡ false
both_false true b e = e
both_false false b e = refl

and_one : (a b : Bool) → b ≡ true → (a && b) ≡ a
and_one true b e = e
and_one false b e = refl

-- turns from here on, and the slices that they come to
pub record Lists (g : Tiles) (last : ℕ) (deltas : Bool) (more : ℕ) (at : Listed) (items : List Item) (all : List Rect) : Type 0 where
  pub end : Listed
  pub gives : Gives (turns_from g last deltas more at) items end
  pub all_are : all_slices g last end ≡ Some all

-- where no slice before the last is left
gives_none : (g : Tiles) (last : ℕ) (deltas : Bool) (more : ℕ) (at : Listed) → last ≤ length at.slices → Gives (turns_from g last deltas more at) [] at
gives_none g last_one deltas zero at full = gives_done at
gives_none g last_one deltas (suc more) at full = let none = le-ltb (length at.slices) last_one full in rw none (gives_done at)

-- where one is left
gives_more : (g : Tiles) (last : ℕ) (deltas : Bool) (more : ℕ) (at mid end : Listed) (xs ys : List Item) → length at.slices < last → at.next < across g * down g
    → Gives (turn g last deltas at) xs mid → Gives (turns_from g last deltas more mid) ys end → Gives (turns_from g last deltas (suc more) at) (xs ++ ys) end
gives_more g last_one deltas more at mid end xs ys left inside first rest =
    let some : ltb (length at.slices) last_one ≡ true = lt-ltb _ _ left in
    let there : ltb at.next (across g * down g) ≡ true = lt-ltb _ _ inside in
    rw (some, there) (gives_then (turns_from g last_one deltas more) first rest)

lists_whole : (g : Tiles) (last : ℕ) (deltas : Bool) (more t wide high before : ℕ) (slices : List Rect) → length slices ≡ last → t < across g * down g → Ends g (whole t wide high)
    → Lists g last deltas more (record { slices = slices; next = t; before = before }) [] (slices ++ block g t wide high ∷ [])
lists_whole g last_one deltas more t wide high before slices full inside ends =
    let at : Listed = record { slices = slices; next = t; before = before } in
    let none : ltb last_one (length slices) ≡ false = le-ltb last_one (length slices) (omega arith) in
    let there : ltb t (across g * down g) ≡ true = lt-ltb _ _ inside in
    let to_right : across g - column g t ≡ wide = omega (arith, ends.0) in
    let to_bottom : down g - row g t ≡ high = omega (arith, ends.1) in
    let is : block g t (across g - column g t) (down g - row g t) ≡ block g t wide high = ap (λ n. block g t n (down g - row g t)) to_right ∙ ap (λ n. block g t wide n) to_bottom in
    record { end = at; gives = gives_none g last_one deltas more at (omega arith); all_are = rw (none, there) (ap (λ b. Some (slices ++ b ∷ [])) is) }

one_less : (last done_ more : ℕ) → last ≤ done_ + more → done_ < last → more ≡ suc (more - 1)
one_less last done_ more enough less = omega arith

lists_cut : (g : Tiles) (last : ℕ) (deltas : Bool) (more t before : ℕ) (heights : List ℕ) (slices : List Rect) → IsGrid g → last < 1000 → length slices + length heights ≡ last + 1 → last ≤ length slices + more → GroupStands g deltas before (cut t heights)
    → Lists g last deltas more (record { slices = slices; next = t; before = before }) (turn_items g deltas false (cut t heights) 0) (slices ++ slices_of_group g (cut t heights))
lists_cut g last_one deltas more t before heights slices grid few size enough s =
    let group : Group = cut t heights in
    let next : ℕ = tile_behind g t 0 0 in
    let all : List Rect = slices ++ slices_of_group g group in
    let at : Listed = record { slices = slices; next = t; before = before } in
    let end : Listed = record { slices = all; next = next; before = 0 } in
    let long : length all ≡ last_one + 1 = length-append slices (slices_of_group g group) ∙ omega (arith, size, strips_length (tile g t) (tile g t).y heights) in
    let full : leb (length all) last_one ≡ false = false_from_ne_true (leb (length all) last_one) (λ e. let le : length all ≤ last_one = leb-true _ _ e in omega (arith, long, le)) in
    let spells : spells_delta deltas all last_one ≡ false = both_false deltas (leb (length all) last_one) full in
    let first = gives_turn g last_one deltas false group before next slices grid few s (omega (arith, size, strips_length (tile g t) (tile g t).y heights)) spells (λ e. absurd (cc)) (λ _. refl) in
    let less : length slices < last_one = omega (arith, size, s.lies.0) in
    let one = one_less last_one (length slices) more enough less in
    let walked = gives_more g last_one deltas (more - 1) at end end (turn_items g deltas false group next) [] less s.inside first (gives_none g last_one deltas (more - 1) end (omega (arith, long))) in
    let kept : ltb last_one (length all) ≡ true = lt-ltb _ _ (omega (arith, long)) in
    record {
      end = end;
      gives = subst (λ n. Gives (turns_from g last_one deltas n at) (turn_items g deltas false group 0) end) (sym one) (subst (λ xs. Gives (turns_from g last_one deltas (suc (more - 1)) at) xs end) (append-nil (turn_items g deltas false group 0)) walked);
      all_are = rw kept refl;
    }

lists_last : (g : Tiles) (last : ℕ) (deltas : Bool) (more before : ℕ) (group : Group) (slices : List Rect) → IsGrid g → last < 1000 → length slices + length (slices_of_group g group) ≡ last + 1 → last ≤ length slices + more → GroupStands g deltas before group → Ends g group
    → Lists g last deltas more (record { slices = slices; next = first_tile_of group; before = before }) (last_items g deltas group) (slices ++ slices_of_group g group)
lists_last g last_one deltas more before (whole t wide high) slices grid few size enough s ends = lists_whole g last_one deltas more t wide high before slices (omega arith) s.inside ends
lists_last g last_one deltas more before (cut t heights) slices grid few size enough s ends = lists_cut g last_one deltas more t before heights slices grid few (omega (arith, size, strips_length (tile g t) (tile g t).y heights)) enough s

-- what groups say of the first of them
first_of : (g : Tiles) (deltas : Bool) (before : ℕ) (group : Group) (groups : List Group) → Follow g deltas before (group ∷ groups) → GroupStands g deltas before group
first_of g deltas before group [] follow = follow.0
first_of g deltas before group (next ∷ more) follow = follow.0

lists : (g : Tiles) (last : ℕ) (deltas : Bool) (groups : List Group) (more before : ℕ) (group : Group) (slices : List Rect) → IsGrid g → last < 1000 → length slices + length (slices_of_all g (group ∷ groups)) ≡ last + 1 → last ≤ length slices + more → Follow g deltas before (group ∷ groups)
    → Lists g last deltas more (record { slices = slices; next = first_tile_of group; before = before }) (list_items g deltas (group ∷ groups)) (slices ++ slices_of_all g (group ∷ groups))
lists g last_one deltas [] more before group slices grid few size enough follow =
    let none = append-nil (slices_of_group g group) in
    subst (λ xs. Lists g last_one deltas more (record { slices = slices; next = first_tile_of group; before = before }) (last_items g deltas group) (slices ++ xs)) (sym none)
    (lists_last g last_one deltas more before group slices grid few (subst (λ xs. length slices + length xs ≡ last_one + 1) none size) enough follow.0 follow.1)
lists g last_one deltas (next ∷ groups) more before group slices grid few size enough follow =
    let s : GroupStands g deltas before group = follow.0 in
    let n = first_of g deltas (high_of group - 1) next groups follow.2 in
    let at : Listed = record { slices = slices; next = first_tile_of group; before = before } in
    let mid : List Rect = slices ++ slices_of_group g group in
    let here = length-append (slices_of_group g group) (slices_of_all g (next ∷ groups)) in
    let there = length-append (slices_of_group g next) (slices_of_all g groups) in
    let some_next = group_some g next n.lies in
    let some_here = group_some g group s.lies in
    let long : length mid ≡ length slices + length (slices_of_group g group) = length-append slices (slices_of_group g group) in
    let left : length mid ≤ last_one = omega (arith, long, size, here, there, some_next) in
    let spells : spells_delta deltas mid last_one ≡ deltas = and_one deltas (leb (length mid) last_one) (le-leb _ _ left) in
    let first = gives_turn g last_one deltas deltas group before (first_tile_of next) slices grid few s (omega (arith, long, left)) spells (λ _. n.inside) (λ e. follow.1 e) in
    let less : length slices < last_one = omega (arith, long, left, some_here) in
    let one = one_less last_one (length slices) more enough less in
    let rest = lists g last_one deltas groups (more - 1) (high_of group - 1) next mid grid few (omega (arith, long, size, here)) (omega (arith, long, some_here, enough, less)) follow.2 in
    let walked = gives_more g last_one deltas (more - 1) at (record { slices = mid; next = first_tile_of next; before = high_of group - 1 }) rest.end (turn_items g deltas deltas group (first_tile_of next)) (list_items g deltas (next ∷ groups)) less s.inside first rest.gives in
    record {
      end = rest.end;
      gives = subst (λ k. Gives (turns_from g last_one deltas k at) (list_items g deltas (group ∷ next ∷ groups)) rest.end) (sym one) walked;
      all_are = rest.all_are ∙ ap Some (append_assoc slices (slices_of_group g group) (slices_of_all g (next ∷ groups)));
    }

pub list_gives : ListGivesSlices
list_gives g last_one deltas group groups grid few first size follow =
    let all = lists g last_one deltas groups last_one 0 group [] grid few (omega (arith, size)) (omega arith) follow in
    let from : Gives (turns_from g last_one deltas last_one none_listed) (list_items g deltas (group ∷ groups)) all.end = subst (λ k. Gives (turns_from g last_one deltas last_one (record { slices = []; next = k; before = 0 })) (list_items g deltas (group ∷ groups)) all.end) first all.gives in
    subst (λ end. Gives (list_from g last_one deltas) (list_items g deltas (group ∷ groups)) end) all.all_are (gives_end (all_slices g last_one) from)

pub given_back : (g : Tiles) (last : ℕ) (deltas : Bool) (slices : List Rect) → IsGrid g → last < 1000 → length slices ≡ last + 1 → (groups : InGroups g deltas slices) → Gives (list_from g last deltas) (list_items g deltas (groups.group ∷ groups.groups)) (Some slices)
given_back g last_one deltas slices grid few size groups =
    subst (λ xs. Gives (list_from g last_one deltas) (list_items g deltas (groups.group ∷ groups.groups)) (Some xs)) groups.same
    (list_gives g last_one deltas groups.group groups.groups grid few groups.first (ap length groups.same ∙ size) groups.follow)

pub slices_read : SlicesAreReadBack
slices_read g slices last_one l size few =
    let groups = lists_fall g slices l (omega arith) in
    (groups, given_back g last_one true slices l.grid few size groups)

pub few_read : FewAreReadBack
few_read g slices last_one l size few =
    let groups = few_fall g slices l (omega arith) (omega arith) in
    (groups, given_back g last_one false slices l.grid (omega arith) size groups)
