-- The walk over a slice list, part by part.
use Rattle.std.proofs.Common.{◌≡◌, ℕ, zero, suc, ◌+◌, ◌-◌, ◌*◌, ◌/◌, ◌%◌, ◌^◌, ◌<◌, ◌≤◌, ◌==◌, Bool, true, false, cond, List, [], ◌∷◌, ◌++◌, length, sum, replicate, Result, Ok, Err, inl, inr, refl, sym, ap, subst, ◌∙◌, arith, append_assoc, length-append, eq-eqb}
use Rattle.std.proofs.lemmas.Bool.{cases_Bool, ne_eqb}
use Rattle.std.proofs.lemmas.List.{append-nil, replicate-append-replicate}
use Rattle.std.proofs.lemmas.List.Sums.{sum_by-cons}
use Rattle.vx_fields.specs.declared.pps.TheConstants as pps
use Rattle.vx_layout.specs.declared.rect.Rect.{Rect}
use Rattle.vx_layout.specs.Bounds.{repeated_sizes}
use Rattle.vx_table.specs.Forms.{done}
use Rattle.vx_table.specs.Walks.{Step}
use Rattle.vx_pps.specs.declared.halt.Halt.{Halt}
use Rattle.vx_pps.specs.declared.list.Listed.{Listed}
use Rattle.vx_pps.specs.declared.tiles.Tiles.{Tiles}
use Rattle.vx_pps.specs.inner.Walked.{Walked, ended}
use Rattle.vx_pps.specs.Groups.{spells_height, strips}
use Rattle.vx_pps.specs.Partition.{golomb_below}
use Rattle.vx_pps.specs.Slices.{may_be_cut, goes_on, height_in_tiles, slices_from_tile, slices_in_tile, strip_height, strips_from, turn, turns_from, width_in_tiles}
use Rattle.vx_pps.specs.Tiles.{IsGrid, across, block, column, down, row, tile}
use Rattle.vx_pps.proofs.Walking.{Leads, leads, leads-then, leads-stop, leads-end, then, stop}

-- ---- slices of a tile

pub strips-append : (t : Rect) (y : ℕ) (xs ys : List ℕ) → strips t y (xs ++ ys) ≡ strips t y xs ++ strips t (y + sum xs) ys
strips-append t y [] ys = let none : y + sum [] ≡ y = omega arith in rw none refl
strips-append t y (x ∷ xs) ys =
    let same : y + sum (x ∷ xs) ≡ y + x + sum xs = omega (arith, sum_by-cons (λ n. n) x xs) in
    rw same (ap (λ s. record { x = t.x; y = y; w = t.w; h = x } ∷ s) (strips-append t (y + x) xs ys))

pub sum-same : (times size : ℕ) → sum (replicate times size) ≡ times * size
sum-same zero size = omega arith
sum-same (suc times) size = omega (arith, sum_by-cons (λ n. n) size (replicate times size), sum-same times size)

-- one more slice behind them
behind-strips : (t : Rect) (y h : ℕ) (xs : List ℕ) (r : Rect) (old now after : List Rect) → now ≡ old ++ strips t y xs
    → after ≡ now ++ r ∷ [] → (r ∷ []) ≡ strips t (y + sum xs) (h ∷ []) → after ≡ old ++ strips t y (xs ++ h ∷ [])
behind-strips t y h xs r old now after before more is =
    more ∙ (ap (λ s. s ++ (r ∷ [])) before ∙ (append_assoc old (strips t y xs) (r ∷ [])
    ∙ ap (λ s. old ++ s) (ap (λ u. strips t y xs ++ u) is ∙ sym (strips-append t y xs (h ∷ [])))))

-- one more of the same height
pub strips-more : (t : Rect) (y size turn : ℕ) (r : Rect) (old now after : List Rect) → now ≡ old ++ strips t y (replicate turn size)
    → after ≡ now ++ r ∷ [] → (r ∷ []) ≡ strips t (y + turn * size) (size ∷ []) → after ≡ old ++ strips t y (replicate (turn + 1) size)
strips-more t y size turn r old now after before more is =
    let there : y + turn * size ≡ y + sum (replicate turn size) = omega (arith, sum-same turn size) in
    let one : replicate (turn + 1) size ≡ replicate turn size ++ size ∷ [] = sym (replicate-append-replicate turn 1 size) in
    rw one (behind-strips t y size (replicate turn size) r old now after before more (rw there at is))

-- and the rest behind them
pub strips-rest : (t : Rect) (y size left : ℕ) (r : Rect) (old now after : List Rect) → now ≡ old ++ strips t y (replicate (left / size) size)
    → after ≡ now ++ r ∷ [] → (r ∷ []) ≡ strips t (y + left / size * size) (left % size ∷ []) → (left % size ≡ 0 → ⊥)
    → after ≡ old ++ strips t y (repeated_sizes size left)
strips-rest t y size left r old now after before more is some =
    let there : y + left / size * size ≡ y + sum (replicate (left / size) size) = omega (arith, sum-same (left / size) size) in
    let cut : (left % size == 0) ≡ false = ne_eqb _ _ some in
    rw cut (behind-strips t y (left % size) (replicate (left / size) size) r old now after before more (rw there at is))

pub strips-even : (t : Rect) (y size left : ℕ) (old now : List Rect) → now ≡ old ++ strips t y (replicate (left / size) size) → left % size ≡ 0
    → now ≡ old ++ strips t y (repeated_sizes size left)
strips-even t y size left old now before none =
    let even : (left % size == 0) ≡ true = eq-eqb _ _ none in
    rw (even, append-nil (replicate (left / size) size)) before

-- ---- slices of whole tiles

-- a slice that may be cut is its tile
pub cut-tile : (g : Tiles) (t width height : ℕ) (r : Rect) → may_be_cut width height r ≡ true → block g t (width + 1) (height + 1) ≡ tile g t
cut-tile g t zero zero r cut = refl
cut-tile g t zero (suc height) r cut = absurd (grind (arith, cut))
cut-tile g t (suc width) height r cut = absurd (grind (arith, cut))

-- one that may not be cut isn't its tile
pub cut-not : (g : Tiles) (t width height : ℕ) → may_be_cut width height (block g t (width + 1) (height + 1)) ≡ false → may_be_cut width height (tile g t) ≡ false
cut-not g t width height whole = elim (cases_Bool (may_be_cut width height (tile g t))) [
  | inl cut ↦
      let same : may_be_cut width height (tile g t) ≡ false = subst (λ r. may_be_cut width height r ≡ false) (cut-tile g t width height (tile g t) cut) whole in
      same
  | inr not_cut ↦ not_cut
]

pub block_low : (g : Tiles) (t width height : ℕ) → IsGrid g → (block g t width height).y + (block g t width height).h < 2 ^ 20
block_low g t width height grid = omega (arith, grid.low (row g t), grid.low (row g t + height))

module _ {C I E : Type 0} {step : Step C I E} where
  -- ---- the width of a slice

  pub width-last : (g : Tiles) (t : ℕ) {c : C} {i : I} → column g t + 1 ≡ across g → Walked step (width_in_tiles g t) c i (Ok 0) c i
  width-last g t end = let is : (column g t + 1 == across g) ≡ true = eq-eqb _ _ end in rw is ended

  pub width-spelled : (g : Tiles) (t : ℕ) {r : Result ℕ (Halt E)} {c d : C} {i j : I} → (column g t + 1 ≡ across g → ⊥)
      → Walked step (golomb_below pps.pps_slice_width_in_tiles_minus1 (across g - column g t)) c i r d j → Walked step (width_in_tiles g t) c i r d j
  unfolding golomb_below
  width-spelled g t more walk = let is : (column g t + 1 == across g) ≡ false = ne_eqb _ _ more in rw is walk

  -- ---- its height

  pub height-last : (g : Tiles) (deltas : Bool) (t before : ℕ) {c : C} {i : I} → row g t + 1 ≡ down g → Walked step (height_in_tiles g deltas t before) c i (Ok 0) c i
  height-last g deltas t before end = let is : (row g t + 1 == down g) ≡ true = eq-eqb _ _ end in rw is ended

  pub height-taken : (g : Tiles) (deltas : Bool) (t before : ℕ) {c : C} {i : I} → (row g t + 1 ≡ down g → ⊥) → spells_height g deltas t ≡ false
      → Walked step (height_in_tiles g deltas t before) c i (Ok before) c i
  height-taken g deltas t before more taken = let is : (row g t + 1 == down g) ≡ false = ne_eqb _ _ more in rw (is, taken) ended

  pub height-spelled : (g : Tiles) (deltas : Bool) (t before : ℕ) {r : Result ℕ (Halt E)} {c d : C} {i j : I} → (row g t + 1 ≡ down g → ⊥) → spells_height g deltas t ≡ true
      → Walked step (golomb_below pps.pps_slice_height_in_tiles_minus1 (down g - row g t)) c i r d j → Walked step (height_in_tiles g deltas t before) c i r d j
  unfolding golomb_below
  height-spelled g deltas t before more spelled walk = let is : (row g t + 1 == down g) ≡ false = ne_eqb _ _ more in rw (is, spelled) walk

  -- ---- the slices of a tile

  pub tile-whole : (t : Rect) (last explicit : ℕ) (slices : List Rect) {c d : C} {i j : I} → explicit ≡ 0
      → Walked step (golomb_below pps.pps_num_exp_slices_in_tile (last + 2 - length slices)) c i (Ok explicit) d j → Walked step (slices_in_tile t last slices) c i (Ok (slices ++ t ∷ [])) d j
  unfolding golomb_below
  tile-whole t last explicit slices none walk =
      then (λ n. cond (n == 0) (done (slices ++ t ∷ [])) (strips_from t last n t.y 0 slices)) walk (let is : (explicit == 0) ≡ true = eq-eqb _ _ none in rw is ended)

  pub tile-cut : (t : Rect) (last explicit : ℕ) (slices : List Rect) {r : Result (List Rect) (Halt E)} {c d e : C} {i j k : I} → (explicit ≡ 0 → ⊥)
      → Walked step (golomb_below pps.pps_num_exp_slices_in_tile (last + 2 - length slices)) c i (Ok explicit) d j → Walked step (strips_from t last explicit t.y 0 slices) d j r e k
      → Walked step (slices_in_tile t last slices) c i r e k
  unfolding golomb_below
  tile-cut t last explicit slices some walk behind =
      then (λ n. cond (n == 0) (done (slices ++ t ∷ [])) (strips_from t last n t.y 0 slices)) walk (let is : (explicit == 0) ≡ false = ne_eqb _ _ some in rw is behind)

  pub tile-stop : (t : Rect) (last : ℕ) (slices : List Rect) {e : Halt E} {c d : C} {i j : I}
      → Walked step (golomb_below pps.pps_num_exp_slices_in_tile (last + 2 - length slices)) c i (Err e) d j → Walked step (slices_in_tile t last slices) c i (Err e) d j
  unfolding golomb_below
  tile-stop t last slices walk = stop (λ n. cond (n == 0) (done (slices ++ t ∷ [])) (strips_from t last n t.y 0 slices)) walk

-- so many explicit slices of a tile were coded, down to CTU row y
pub record Stripping {C I E : Type 0} (step : Step C I E) (t : Rect) (last explicit : ℕ) (old : List Rect) (first : C) (first_items : I) (turn y size : ℕ) (slices : List Rect) (c : C) (i : I) : Type 0 where
  pub walk : Leads step (strips_from t last explicit t.y 0 old) first first_items (strips_from t last (explicit - turn) y size slices) c i
  pub so_many : length slices ≡ length old + turn
  pub inside : y ≤ t.y + t.h
  pub some : 1 ≤ turn → 1 ≤ size

-- so many turns of the list were coded
pub record Turns {C I E : Type 0} (step : Step C I E) (g : Tiles) (last : ℕ) (deltas : Bool) (old : Listed) (first : C) (first_items : I) (turn : ℕ) (at : Listed) (c : C) (i : I) : Type 0 where
  pub walk : Leads step (turns_from g last deltas last old) first first_items (turns_from g last deltas (last - turn) at) c i
  pub low : at.before < 512

module _ {C I E : Type 0} {step : Step C I E} where
  pub strips-begin : (t : Rect) (last explicit : ℕ) (old : List Rect) (c : C) (i : I) → Stripping step t last explicit old c i 0 t.y 0 old c i
  strips-begin t last explicit old c i =
      let whole : explicit - 0 ≡ explicit = omega arith in
      record { walk = rw whole (leads step (strips_from t last explicit t.y 0 old) c i); so_many = omega arith; inside = omega arith; some = λ more. absurd (omega (arith, more)) }

  pub strips-turn : (t : Rect) (last explicit turn y size height : ℕ) (old slices after : List Rect) {first c d : C} {first_items i j : I} → turn < explicit
      → Stripping step t last explicit old first first_items turn y size slices c i → Walked step (strip_height t last (explicit - 1 - turn) y slices) c i (Ok height) d j
      → 1 ≤ height → y + height ≤ t.y + t.h → after ≡ slices ++ strips t y (height ∷ [])
      → Stripping step t last explicit old first first_items (turn + 1) (y + height) height after d j
  strips-turn t last explicit turn y size height old slices after more before walked some inside all =
      let one : explicit - turn ≡ suc (explicit - 1 - turn) = omega arith in
      let rest : explicit - (turn + 1) ≡ explicit - 1 - turn = omega arith in
      record {
        walk = rw (rest, all) (leads-then (λ h. strips_from t last (explicit - 1 - turn) (y + h) h (slices ++ strips t y (h ∷ []))) (rw one at before.walk) walked);
        so_many = rw all (omega (arith, before.so_many, length-append slices (strips t y (height ∷ []))));
        inside = inside;
        some = λ _. some;
      }

  pub strips-stop : (t : Rect) (last explicit turn y size : ℕ) (old slices : List Rect) {e : Halt E} {first c d : C} {first_items i j : I} → turn < explicit
      → Stripping step t last explicit old first first_items turn y size slices c i → Walked step (strip_height t last (explicit - 1 - turn) y slices) c i (Err e) d j
      → Walked step (strips_from t last explicit t.y 0 old) first first_items (Err e) d j
  strips-stop t last explicit turn y size old slices more before walked =
      let one : explicit - turn ≡ suc (explicit - 1 - turn) = omega arith in
      leads-stop (λ h. strips_from t last (explicit - 1 - turn) (y + h) h (slices ++ strips t y (h ∷ []))) (rw one at before.walk) walked

  pub strips-end : (t : Rect) (last explicit turn y size : ℕ) (old slices after : List Rect) {first c : C} {first_items i : I} → explicit ≤ turn
      → Stripping step t last explicit old first first_items turn y size slices c i → after ≡ slices ++ strips t y (repeated_sizes size (t.y + t.h - y))
      → Walked step (strips_from t last explicit t.y 0 old) first first_items (Ok after) c i
  strips-end t last explicit turn y size old slices after over before all =
      let none : explicit - turn ≡ 0 = omega arith in
      rw all (leads-end (rw none at before.walk))

  -- ---- the slices of a turn

  pub slices-cut : (g : Tiles) (last t width height : ℕ) (slices : List Rect) {r : Result (List Rect) (Halt E)} {c d : C} {i j : I} → may_be_cut width height (tile g t) ≡ true
      → Walked step (slices_in_tile (tile g t) last slices) c i r d j → Walked step (slices_from_tile g last t width height slices) c i r d j
  slices-cut g last t width height slices cut walk = rw cut walk

  pub slices-whole : (g : Tiles) (last t width height : ℕ) (slices : List Rect) {c : C} {i : I} → may_be_cut width height (tile g t) ≡ false
      → Walked step (slices_from_tile g last t width height slices) c i (Ok (slices ++ block g t (width + 1) (height + 1) ∷ [])) c i
  slices-whole g last t width height slices cut = rw cut ended

  -- ---- turns

  pub turns-begin : (g : Tiles) (last : ℕ) (deltas : Bool) (old : Listed) (c : C) (i : I) → old.before < 512 → Turns step g last deltas old c i 0 old c i
  turns-begin g last deltas old c i low = let whole : last - 0 ≡ last = omega arith in record { walk = rw whole (leads step (turns_from g last deltas last old) c i); low = low }

  pub turns-more : (g : Tiles) (last : ℕ) (deltas : Bool) (old at next : Listed) (turn_ : ℕ) {first c d : C} {first_items i j : I} → turn_ < last
      → Turns step g last deltas old first first_items turn_ at c i → goes_on g last at ≡ true → Walked step (turn g last deltas at) c i (Ok next) d j → next.before < 512
      → Turns step g last deltas old first first_items (turn_ + 1) next d j
  turns-more g last deltas old at next turn_ more before goes walked low =
      let one : last - turn_ ≡ suc (last - (turn_ + 1)) = omega arith in
      record { walk = leads-then (turns_from g last deltas (last - (turn_ + 1))) (rw (one, goes) at before.walk) walked; low = low }

  pub turns-stop : (g : Tiles) (last : ℕ) (deltas : Bool) (old at : Listed) (turn_ : ℕ) {e : Halt E} {first c d : C} {first_items i j : I} → turn_ < last
      → Turns step g last deltas old first first_items turn_ at c i → goes_on g last at ≡ true → Walked step (turn g last deltas at) c i (Err e) d j
      → Walked step (turns_from g last deltas last old) first first_items (Err e) d j
  turns-stop g last deltas old at turn_ more before goes walked =
      let one : last - turn_ ≡ suc (last - (turn_ + 1)) = omega arith in
      leads-stop (turns_from g last deltas (last - (turn_ + 1))) (rw (one, goes) at before.walk) walked

  pub turns-over : (g : Tiles) (last : ℕ) (deltas : Bool) (old at : Listed) (turn_ : ℕ) {first c : C} {first_items i : I} → turn_ < last
      → Turns step g last deltas old first first_items turn_ at c i → goes_on g last at ≡ false → Walked step (turns_from g last deltas last old) first first_items (Ok at) c i
  turns-over g last deltas old at turn_ more before ends =
      let one : last - turn_ ≡ suc (last - (turn_ + 1)) = omega arith in
      leads-end (rw (one, ends) at before.walk)

  pub turns-end : (g : Tiles) (last : ℕ) (deltas : Bool) (old at : Listed) (turn_ : ℕ) {first c : C} {first_items i : I} → last ≤ turn_
      → Turns step g last deltas old first first_items turn_ at c i → Walked step (turns_from g last deltas last old) first first_items (Ok at) c i
  turns-end g last deltas old at turn_ over before =
      let none : last - turn_ ≡ 0 = omega arith in
      leads-end (rw none at before.walk)
