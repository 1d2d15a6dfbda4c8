-- The slices of a picture fall into groups in one way, so that tiles and slices are said in one way.
use Rattle.std.proofs.Common.{◌≡◌, ℕ, ◌+◌, ◌-◌, ◌*◌, ◌<◌, ◌≤◌, Bool, List, [], ◌∷◌, ◌++◌, length, slice_index, sum, refl, sym, ap, subst, ◌∙◌, inl, inr, arith, length-append}
use Rattle.std.specs.List.{All, AllByRecursion, slice_index_or}
use Rattle.std.proofs.Math.Nat.{div-add-mod, mod-lt}
use Rattle.std.proofs.lemmas.Bool.{cases_lt}
use Rattle.std.proofs.lemmas.List.Elements.{All-head, All-tail}
use Rattle.std.proofs.lemmas.List.Sums.{sum_by-cons}
use Rattle.vx_bits.specs.declared.list.Item.{Item}
use Rattle.vx_layout.specs.declared.rect.Rect.{Rect}
use Rattle.vx_layout.specs.Bounds.{Rises}
use Rattle.vx_layout.specs.Layouts.{no_rect}
use Rattle.vx_layout.proofs.Rising.{Rises-level}
use Rattle.vx_pps.specs.declared.shape.PpsShape.{PpsShape}
use Rattle.vx_pps.specs.declared.tiles.Tiles.{Tiles}
use Rattle.vx_pps.specs.Groups.{Follow, Group, cut, high_of, slices_of_group, slices_of_all, strips, whole}
use Rattle.vx_pps.specs.Reshaped.{Divides, divided_items}
use Rattle.vx_pps.specs.Tiles.{across, block, column, down, row, tile}
use Rattle.vx_pps.specs.inner.Found.{LiesInside}
use Rattle.vx_pps.proofs.Blocks.{row_inside, same_index}
use Rattle.vx_pps.proofs.Few.{group_some}

-- behind the first
abbrev pub behind : {A : Type 0} → List A → List A
behind [] = []
behind (x ∷ xs) = xs

-- ---- the slices of a tile

no_sum : (h : ℕ) (hs : List ℕ) → All (λ n. 1 ≤ n) (h ∷ hs) → sum (h ∷ hs) ≡ 0 → ⊥
no_sum h hs some none = let first = All-head (λ n. 1 ≤ n) h hs some in let all = sum_by-cons (λ n. n) h hs in omega (arith, first, all, none)

strips_one : (t : Rect) (y : ℕ) (hs ks : List ℕ) (xs ys : List Rect) → All (λ h. 1 ≤ h) hs → All (λ h. 1 ≤ h) ks → sum hs ≡ sum ks
    → strips t y hs ++ xs ≡ strips t y ks ++ ys → (hs ≡ ks) × (xs ≡ ys)
strips_one t y [] [] xs ys some others total same = (refl, same)
strips_one t y [] (k ∷ ks) xs ys some others total same = absurd (no_sum k ks others (sym total))
strips_one t y (h ∷ hs) [] xs ys some others total same = absurd (no_sum h hs some total)
strips_one t y (h ∷ hs) (k ∷ ks) xs ys some others total same =
    let first : h ≡ k = ap (λ (rs : List Rect). (slice_index_or rs 0 no_rect).h) same in
    let all = sum_by-cons (λ n. n) h hs in
    let every = sum_by-cons (λ n. n) k ks in
    let on = strips_one t (y + h) hs ks xs ys (All-tail (λ n. 1 ≤ n) h hs some) (All-tail (λ n. 1 ≤ n) k ks others) (omega (arith, first, all, every, total))
    (ap behind same ∙ ap (λ n. strips t (y + n) ks ++ ys) (sym first)) in
    let rest = on.0 in
    (λ j. first j ∷ rest j, on.1)

-- ---- a group

module _ (g : Tiles) (columns : Rises g.columns) (rows : Rises g.rows) where
  column_inside : (t : ℕ) → t < across g * down g → column g t < across g
  column_inside t inside =
      elim (cases_lt 0 (across g)) [
        | inl some ↦ mod-lt t some
        | inr none ↦ let zero_across : across g ≡ 0 = omega arith in absurd (omega (arith, subst (λ n. t < n * down g) zero_across inside))
      ]

  -- a tile by its corner
  same_start : (t u : ℕ) → t < across g * down g → u < across g * down g → (tile g t).x ≡ (tile g u).x → (tile g t).y ≡ (tile g u).y → t ≡ u
  same_start t u inside within same_x same_y =
      let left = column_inside t inside in
      let right = column_inside u within in
      let top = row_inside g t inside in
      let bottom = row_inside g u within in
      let across_is = same_index g.columns (column g t) (column g u) columns (omega (arith, left)) (omega (arith, right)) same_x in
      let down_is = same_index g.rows (row g t) (row g u) rows (omega (arith, top)) (omega (arith, bottom)) same_y in
      sym (div-add-mod t (across g)) ∙ (ap (λ k. across g * k + column g t) down_is ∙ (ap (λ k. across g * row g u + k) across_is ∙ div-add-mod u (across g)))

  wholes_one : (t wide high u broad tall : ℕ) (xs ys : List Rect) → LiesInside g (whole t wide high) → LiesInside g (whole u broad tall)
      → block g t wide high ∷ xs ≡ block g u broad tall ∷ ys → (whole t wide high ≡ whole u broad tall) × (xs ≡ ys)
  wholes_one t wide high u broad tall xs ys is of same =
      let first : block g t wide high ≡ block g u broad tall = ap (λ (rs : List Rect). slice_index_or rs 0 no_rect) same in
      let start = same_start t u is.inside of.inside (ap (λ (r : Rect). r.x) first) (ap (λ (r : Rect). r.y) first) in
      let columns_in : column g t + wide < length g.columns = let low = column_inside t is.inside in omega (arith, low, is.lies.2) in
      let columns_of : column g u + broad < length g.columns = let low = column_inside u of.inside in omega (arith, low, of.lies.2) in
      let rows_in : row g t + high < length g.rows = let low = row_inside g t is.inside in omega (arith, low, is.lies.3) in
      let rows_of : row g u + tall < length g.rows = let low = row_inside g u of.inside in omega (arith, low, of.lies.3) in
      let right : slice_index g.columns (column g t + wide) ≡ slice_index g.columns (column g u + broad)
      = omega (
        arith,
        ap (λ (r : Rect). r.x) first,
        ap (λ (r : Rect). r.w) first,
        Rises-level g.columns (column g t) (column g t + wide) columns (omega arith) columns_in,
        Rises-level g.columns (column g u) (column g u + broad) columns (omega arith) columns_of,
      ) in
      let bottom : slice_index g.rows (row g t + high) ≡ slice_index g.rows (row g u + tall)
      = omega (
        arith,
        ap (λ (r : Rect). r.y) first,
        ap (λ (r : Rect). r.h) first,
        Rises-level g.rows (row g t) (row g t + high) rows (omega arith) rows_in,
        Rises-level g.rows (row g u) (row g u + tall) rows (omega arith) rows_of,
      ) in
      let wide_is : wide ≡ broad = omega (arith, ap (column g) start, same_index g.columns (column g t + wide) (column g u + broad) columns columns_in columns_of right) in
      let high_is : high ≡ tall = omega (arith, ap (row g) start, same_index g.rows (row g t + high) (row g u + tall) rows rows_in rows_of bottom) in
      (λ j. whole (start j) (wide_is j) (high_is j), ap behind same)

  cuts_one : (t h u k : ℕ) (hs ks : List ℕ) (xs ys : List Rect) → LiesInside g (cut t (h ∷ hs)) → LiesInside g (cut u (k ∷ ks))
      → slices_of_group g (cut t (h ∷ hs)) ++ xs ≡ slices_of_group g (cut u (k ∷ ks)) ++ ys → (cut t (h ∷ hs) ≡ cut u (k ∷ ks)) × (xs ≡ ys)
  cuts_one t h u k hs ks xs ys is of same =
      let start = same_start t u is.inside of.inside (ap (λ (rs : List Rect). (slice_index_or rs 0 no_rect).x) same) (ap (λ (rs : List Rect). (slice_index_or rs 0 no_rect).y) same) in
      let back : slices_of_group g (cut u (k ∷ ks)) ++ ys ≡ slices_of_group g (cut t (k ∷ ks)) ++ ys = ap (λ n. slices_of_group g (cut n (k ∷ ks)) ++ ys) (sym start) in
      let total : sum (h ∷ hs) ≡ sum (k ∷ ks) = is.lies.2 ∙ (ap (λ n. (tile g n).h) start ∙ sym of.lies.2) in
      let on = strips_one (tile g t) (tile g t).y (h ∷ hs) (k ∷ ks) xs ys is.lies.1 of.lies.1 total (same ∙ back) in
      let heights = on.0 in
      (λ j. cut (start j) (heights j), on.1)

  -- the first slice of a tile is lower than whole tiles
  no_cut : (t wide high u : ℕ) (heights : List ℕ) (xs ys : List Rect) → LiesInside g (whole t wide high) → LiesInside g (cut u heights)
      → slices_of_group g (whole t wide high) ++ xs ≡ slices_of_group g (cut u heights) ++ ys → ⊥
  no_cut t wide high u [] xs ys is of same = omega (arith, of.lies.0)
  no_cut t wide high u (h ∷ []) xs ys is of same = omega (arith, of.lies.0)
  no_cut t wide high u (h ∷ k ∷ hs) xs ys is of same =
      let first : (block g t wide high).h ≡ h = ap (λ (rs : List Rect). (slice_index_or rs 0 no_rect).h) same in
      let start = same_start t u is.inside of.inside (ap (λ (rs : List Rect). (slice_index_or rs 0 no_rect).x) same) (ap (λ (rs : List Rect). (slice_index_or rs 0 no_rect).y) same) in
      let rows_in : row g t + high < length g.rows = let low = row_inside g t is.inside in omega (arith, low, is.lies.3) in
      let up = Rises-level g.rows (row g t + 1) (row g t + high) rows (omega (arith, is.lies.1)) rows_in in
      let more = All-head (λ n. 1 ≤ n) k hs (All-tail (λ n. 1 ≤ n) h (k ∷ hs) of.lies.1) in
      omega (
        arith,
        first,
        up,
        more,
        ap (λ n. (tile g n).h) start,
        of.lies.2,
        sum_by-cons (λ n. n) h (k ∷ hs),
        sum_by-cons (λ n. n) k hs,
      )

  group_one : (a b : Group) (xs ys : List Rect) → LiesInside g a → LiesInside g b → slices_of_group g a ++ xs ≡ slices_of_group g b ++ ys → (a ≡ b) × (xs ≡ ys)
  group_one (whole t wide high) (whole u broad tall) xs ys is of same = wholes_one t wide high u broad tall xs ys is of same
  group_one (whole t wide high) (cut u heights) xs ys is of same = absurd (no_cut t wide high u heights xs ys is of same)
  group_one (cut t heights) (whole u broad tall) xs ys is of same = absurd (no_cut u broad tall t heights ys xs of is (sym same))
  group_one (cut t []) (cut u heights) xs ys is of same = absurd (omega (arith, is.lies.0))
  group_one (cut t (h ∷ hs)) (cut u []) xs ys is of same = absurd (omega (arith, of.lies.0))
  group_one (cut t (h ∷ hs)) (cut u (k ∷ ks)) xs ys is of same = cuts_one t h u k hs ks xs ys is of same

  -- ---- groups

  some_slices : (a : Group) (groups : List Group) → LiesInside g a → slices_of_all g (a ∷ groups) ≡ [] → ⊥
  some_slices a groups is none = let some = group_some g a is.lies in omega (arith, some, ap length none, length-append (slices_of_group g a) (slices_of_all g groups))

  groups_one : (groups others : List Group) → AllByRecursion (LiesInside g) groups → AllByRecursion (LiesInside g) others → slices_of_all g groups ≡ slices_of_all g others → groups ≡ others
  groups_one [] [] is of same = refl
  groups_one [] (b ∷ others) is of same = absurd (some_slices b others of.0 (sym same))
  groups_one (a ∷ groups) [] is of same = absurd (some_slices a groups is.0 same)
  groups_one (a ∷ groups) (b ∷ others) is of same =
      let one = group_one a b (slices_of_all g groups) (slices_of_all g others) is.0 of.0 same in
      let first = one.0 in
      let rest = groups_one groups others is.1 of.1 one.1 in
      λ j. first j ∷ rest j

  follow_inside : (deltas : Bool) (before : ℕ) (groups : List Group) → Follow g deltas before groups → AllByRecursion (LiesInside g) groups
  follow_inside deltas before [] follow = tt
  follow_inside deltas before (group ∷ []) follow = (record { inside = follow.0.inside; lies = follow.0.lies }, tt)
  follow_inside deltas before (group ∷ next ∷ more) follow =
      (record { inside = follow.0.inside; lies = follow.0.lies }, follow_inside deltas (high_of group - 1) (next ∷ more) follow.2)

-- ---- the items

pub divided_one : (shape : PpsShape) (a b : List Item) → Rises shape.tiles.columns → Rises shape.tiles.rows → Divides shape a → Divides shape b → a ≡ b
divided_one shape a b columns rows first second =
    let is = first.groups in
    let of = second.groups in
    let groups = groups_one shape.tiles columns rows (is.group ∷ is.groups) (of.group ∷ of.groups) (follow_inside shape.tiles columns rows _ 0 (is.group ∷ is.groups) is.follow)
    (follow_inside shape.tiles columns rows _ 0 (of.group ∷ of.groups) of.follow) (is.same ∙ sym of.same) in
    first.same ∙ (ap (divided_items shape) groups ∙ sym second.same)
