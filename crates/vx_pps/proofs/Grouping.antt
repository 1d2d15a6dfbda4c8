-- Slices that a slice list can name fall into groups.
use Rattle.std.proofs.Common.{◌≡◌, ℕ, zero, suc, ◌+◌, ◌-◌, ◌*◌, ◌<◌, ◌≤◌, true, List, [], ◌∷◌, ◌++◌, length, get_or, drop, sym, ap, ◌∙◌, subst, inl, inr, arith, refl, add-one, drop-cons}
use Rattle.std.proofs.Math.Nat.{div-add-mod}
use Rattle.std.proofs.Math.Seq.{drop-length}
use Rattle.std.proofs.lemmas.Bool.{cases_lt, true≢false}
use Rattle.vx_layout.specs.declared.rect.Rect.{Rect}
use Rattle.vx_layout.specs.Bounds.{Rises, last}
use Rattle.vx_layout.specs.Faults.{IsTile}
use Rattle.vx_layout.specs.Layouts.{no_rect}
use Rattle.vx_layout.specs.Rects.{fits, holds}
use Rattle.vx_layout.specs.Shapes.{AreTiles, AreRowsOf}
use Rattle.vx_layout.proofs.Corners.{first-begins, holder, last-ends}
use Rattle.vx_layout.proofs.Counting.{holds-fits}
use Rattle.vx_layout.proofs.Holding.{holds_from, holds_tells}
use Rattle.vx_layout.proofs.Tiling.{last-get_or}
use Rattle.vx_pps.specs.declared.tiles.Tiles.{Tiles}
use Rattle.vx_pps.specs.Tiles.{across, column, down, row, tile}
use Rattle.vx_pps.specs.Groups.{Ends, Follow, Group, IsList, Lies, GroupStands, cut, high_of, slices_of_group, slices_of_all, first_tile_of, strips, whole}
use Rattle.vx_pps.specs.laws.Lists.{ListsFallIntoGroups}
use Rattle.vx_pps.proofs.Blocks.{IsBlock, block_is, row_inside, same_index, tile_block, tiles_block}
use Rattle.vx_pps.proofs.Runs.{InTile, Run, column_on, corner_on, in_tile, nth, ordered, part_of, rows_in, run, run_later, same_slice, tile_same, tiles_have}

-- no tile has slices before place i and from there on
abbrev pub Fresh : Tiles → List Rect → ℕ → Type 0
Fresh g slices i =
    (t : Rect) (j k : ℕ) → IsTile g.columns g.rows t → j < i → i ≤ k → k < length slices → fits (nth slices j) t ≡ true → fits (nth slices k) t ≡ true → ⊥

-- the first slice of a tile begins it
pub begins_tile : (g : Tiles) (slices : List Rect) (t : Rect) (i : ℕ) → IsList g slices → Fresh g slices i → InTile g slices t i → (nth slices i).y ≡ t.y
begins_tile g slices t i l fresh is =
    let r : Rect = nth slices i in
    let f = in_tile g slices t i l is in
    let part = part_of g slices i l is.short in
    elim (cases_lt t.y r.y) [
      | inr level ↦ omega (arith, f)
      | inl later ↦
          let k = holder slices (last g.columns) (last g.rows) t.x t.y (ordered g slices l) (omega (arith, f, part.across, part.wide)) (omega (arith, f, part.down, part.high)) in
          let on_k : holds (nth slices k.place) t.x t.y ≡ true = k.passes no_rect in
          let no_later : k.place ≤ i = run_later g slices k.place i t.x t.y t.x r.y l k.low is.short on_k (column_on g slices t i r.y l is (omega arith) (omega (arith, part.high))) (omega arith) (omega arith) in
          let apart : i ≡ k.place → ⊥ = λ e. omega (arith, later, (holds_tells r t.x t.y (subst (λ j. holds (nth slices j) t.x t.y ≡ true) (sym e) on_k)).2) in
          let before : k.place < i = elim (cases_lt k.place i) [ inl fine ↦ fine | inr level ↦ absurd (apart (omega (arith, no_later))) ] in
          let on_t : holds t t.x t.y ≡ true = holds_from t t.x t.y (omega arith) (omega (arith, is.rows.tile.across.rises)) (omega arith) (omega (arith, is.rows.tile.down.rises)) in
          let kin = rows_in g slices t i k.place t.x t.y l is k.low apart on_k on_t in
          absurd (fresh t k.place i is.rows.tile before (omega arith) is.short kin.rows.inside is.rows.inside)
    ]

-- behind a slice of whole tiles no tile has slices before and behind
pub fresh_tiles : (g : Tiles) (slices : List Rect) (i : ℕ) → IsList g slices → i < length slices → AreTiles g.columns g.rows (nth slices i) → Fresh g slices i → Fresh g slices (i + 1)
fresh_tiles g slices i l short tiles fresh t j k is before behind short_k in_j in_k =
    elim (cases_lt j i) [
      | inl earlier ↦ fresh t j k is earlier (omega arith) short_k in_j in_k
      | inr level ↦
          let e : j ≡ i = omega arith in
          let on_i = corner_on g slices i l short in
          let r : Rect = nth slices i in
          let s : Rect = nth slices k in
          let on_t : holds t r.x r.y ≡ true = holds-fits r t r.x r.y (subst (λ m. fits (nth slices m) t ≡ true) e in_j) on_i in
          let b = tiles_have g.columns g.rows r t r.x r.y tiles is on_i on_t in
          let on_k = corner_on g slices k l short_k in
          let p = holds_tells t s.x s.y (holds-fits s t s.x s.y in_k on_k) in
          let same = same_slice g slices i k s.x s.y l short short_k (holds_from r s.x s.y (omega (arith, b, p)) (omega (arith, b, p)) (omega (arith, b, p)) (omega (arith, b, p))) on_k in
          omega (arith, same)
    ]

-- nor behind the slices of a tile
pub fresh_run : (g : Tiles) (slices : List Rect) (t : Rect) (i y : ℕ) → IsList g slices → (a : Run g slices t i y) → Fresh g slices i → Fresh g slices (i + length a.heights)
fresh_run g slices t i y l a fresh u j k is before behind short_k in_j in_k =
    elim (cases_lt j i) [
      | inl earlier ↦ fresh u j k is earlier (omega (arith, a.some)) short_k in_j in_k
      | inr later ↦
          let kin = a.within j later before in
          let r : Rect = nth slices j in
          let on_j = corner_on g slices j l kin.short in
          let same : u ≡ t = tile_same g.columns g.rows u t r.x r.y is kin.rows.tile (holds-fits r u r.x r.y in_j on_j) (holds-fits r t r.x r.y kin.rows.inside on_j) in
          let s : Rect = nth slices k in
          let on_k = corner_on g slices k l short_k in
          let p = holds_tells t s.x s.y (holds-fits s t s.x s.y (subst (λ v. fits s v ≡ true) same in_k) on_k) in
          let m : ℕ = i + length a.heights - 1 in
          let last_one : Rect = nth slices m in
          let f = in_tile g slices t m l a.final in
          let part = part_of g slices m l a.final.short in
          let on_m : holds last_one s.x (t.y + t.h - 1) ≡ true = holds_from last_one s.x (t.y + t.h - 1) (omega (arith, f, p)) (omega (arith, f, p)) (omega (arith, a.ends, part.high)) (omega (arith, a.ends, part.high)) in
          let order : k ≤ m = run_later g slices k m s.x s.y s.x (t.y + t.h - 1) l short_k a.final.short on_k on_m (omega arith) (omega (arith, p)) in
          omega (arith, order, a.some, behind)
    ]

-- the group that begins with slice i
pub record Step (g : Tiles) (slices : List Rect) (i : ℕ) : Type 0 where
  pub group : Group
  pub after : ℕ
  pub more : i < after
  pub upto : after ≤ length slices
  pub same : slices_of_group g group ++ drop after slices ≡ drop i slices
  pub inside : first_tile_of group < across g * down g
  pub lies : Lies g group
  pub ends : after ≡ length slices → Ends g group
  pub left : (tile g (first_tile_of group)).x ≡ (nth slices i).x
  pub top : (tile g (first_tile_of group)).y ≡ (nth slices i).y
  pub fresh : Fresh g slices after

-- the last bound has the last index
pub last_index : (bs : List ℕ) (i : ℕ) → Rises bs → i < length bs → get_or bs i 0 ≡ last bs → i ≡ length bs - 1
last_index bs i rises short is = same_index bs i (length bs - 1) rises short (omega (arith, short)) (is ∙ sym (last-get_or bs (omega (arith, short))))

pub step_whole : (g : Tiles) (slices : List Rect) (i : ℕ) → IsList g slices → i < length slices → AreTiles g.columns g.rows (nth slices i) → Fresh g slices i → Step g slices i
step_whole g slices i l short tiles fresh =
    let r : Rect = nth slices i in
    let part = part_of g slices i l short in
    let b : IsBlock g r = tiles_block g r l.columns l.rows (part.wide, part.high) tiles in
    record {
      group = whole b.first b.wide b.high;
      after = i + 1;
      more = omega arith;
      upto = omega arith;
      same = ap (λ s. s ∷ drop (i + 1) slices) (block_is g r b) ∙ ap (λ k. r ∷ drop k slices) (add-one i) ∙ sym (drop-cons slices i no_rect short);
      inside = b.inside;
      lies = (b.some.0, b.some.1, b.columns, b.rows);
      ends = λ all.
          let e : i ≡ length slices - 1 = omega arith in
          let end = last-ends slices (last g.columns) (last g.rows) no_rect l.once l.order (omega arith) (part_of g slices (length slices - 1) l (omega arith)) in
          let right : r.x + r.w ≡ last g.columns = subst (λ k. (nth slices k).x + (nth slices k).w ≡ last g.columns) (sym e) end.right in
          let bottom : r.y + r.h ≡ last g.rows = subst (λ k. (nth slices k).y + (nth slices k).h ≡ last g.rows) (sym e) end.bottom in (
            last_index g.columns (column g b.first + b.wide) l.columns (omega (arith, b.columns, l.grid.columns)) (b.right ∙ right),
            last_index g.rows (row g b.first + b.high) l.rows (omega (arith, b.rows, l.grid.rows)) (b.bottom ∙ bottom),
          );
      left = b.left;
      top = b.top;
      fresh = fresh_tiles g slices i l short tiles fresh;
    }

pub step_cut : (g : Tiles) (slices : List Rect) (t : Rect) (i : ℕ) → IsList g slices → InTile g slices t i → (nth slices i).h < t.h → Fresh g slices i → Step g slices i
step_cut g slices t i l is part_way fresh =
    let r : Rect = nth slices i in
    let at = tile_block g t l.columns l.rows is.rows.tile in
    let f = in_tile g slices t i l is in
    let begins = begins_tile g slices t i l fresh is in
    let a : Run g slices t i t.y = run g slices t (length slices) i t.y l (omega arith) is begins in
    record {
      group = cut at.at a.heights;
      after = i + length a.heights;
      more = omega (arith, a.some);
      upto = a.upto;
      same = ap (λ u. strips u u.y a.heights ++ drop (i + length a.heights) slices) at.is ∙ a.same;
      inside = at.inside;
      lies = (a.several (omega (arith, begins, part_way)), a.each, omega (arith, a.whole) ∙ sym (ap (λ (u : Rect). u.h) at.is));
      ends = λ all. tt;
      left = ap (λ (u : Rect). u.x) at.is ∙ sym f.0;
      top = ap (λ (u : Rect). u.y) at.is ∙ sym begins;
      fresh = fresh_run g slices t i t.y l a fresh;
    }

-- rows of a tile that are all of it are a whole tile
pub full_rows : (columns rows : List ℕ) (r t : Rect) → AreRowsOf columns rows r t → r.y ≡ t.y → r.h ≡ t.h → AreTiles columns rows r
full_rows columns rows r t is top high =
    let bottom : r.y + r.h ≡ t.y + t.h = omega arith in
    record { left = rw is.sides.0 is.tile.across.begins; right = rw is.sides.1 is.tile.across.ends; top = rw top is.tile.down.begins; bottom = rw bottom is.tile.down.ends }

pub step : (g : Tiles) (slices : List Rect) (i : ℕ) → IsList g slices → i < length slices → Fresh g slices i → Step g slices i
step g slices i l short fresh =
    elim (l.listable.shapes i no_rect short) [
      | inl tiles ↦ step_whole g slices i l short tiles fresh
      | inr (t, rows) ↦
          let is : InTile g slices t i = record { short = short; rows = rows } in
          let f = in_tile g slices t i l is in
          elim (cases_lt (nth slices i).h t.h) [
            | inl part_way ↦ step_cut g slices t i l is part_way fresh
            | inr full ↦ step_whole g slices i l short (full_rows g.columns g.rows (nth slices i) t rows (omega (arith, f)) (omega (arith, f))) fresh
          ]
    ]

-- groups of the slices from slice i on
pub record From (g : Tiles) (slices : List Rect) (i : ℕ) : Type 0 where
  pub group : Group
  pub groups : List Group
  pub same : slices_of_all g (group ∷ groups) ≡ drop i slices
  pub left : (tile g (first_tile_of group)).x ≡ (nth slices i).x
  pub top : (tile g (first_tile_of group)).y ≡ (nth slices i).y
  pub inside : first_tile_of group < across g * down g
  pub follow : (before : ℕ) → Follow g true before (group ∷ groups)

stands : (g : Tiles) (before : ℕ) (group : Group) → first_tile_of group < across g * down g → Lies g group → GroupStands g true before group
stands g before group inside lies = record { inside = inside; lies = lies; height = λ e. absurd (true≢false e) }

joined : (xs ys zs all : List Rect) → xs ++ ys ≡ all → zs ≡ ys → xs ++ zs ≡ all
joined xs ys zs all e f = ap (λ t. xs ++ t) f ∙ e

pub grouped : (g : Tiles) (slices : List Rect) (n i : ℕ) → IsList g slices → length slices ≤ i + n → i < length slices → Fresh g slices i → From g slices i
grouped g slices zero i l enough short fresh = absurd (omega arith)
grouped g slices (suc n) i l enough short fresh =
    let s = step g slices i l short fresh in
    elim (cases_lt s.after (length slices)) [
      | inl more ↦
          let rest = grouped g slices n s.after l (omega (arith, s.more)) more s.fresh in
          record {
            group = s.group;
            groups = rest.group ∷ rest.groups;
            same = joined (slices_of_group g s.group) (drop s.after slices) (slices_of_all g (rest.group ∷ rest.groups)) (drop i slices) s.same rest.same;
            left = s.left;
            top = s.top;
            inside = s.inside;
            follow = λ before. (stands g before s.group s.inside s.lies, λ e. absurd (true≢false e), rest.follow (high_of s.group - 1));
          }
      | inr none ↦
          let e : s.after ≡ length slices = omega (arith, s.upto) in
          let empty : drop s.after slices ≡ [] = ap (λ k. drop k slices) e ∙ drop-length slices in
          record {
            group = s.group;
            groups = [];
            same = joined (slices_of_group g s.group) (drop s.after slices) [] (drop i slices) s.same (sym empty);
            left = s.left;
            top = s.top;
            inside = s.inside;
            follow = λ before. (stands g before s.group s.inside s.lies, s.ends e);
          }
    ]

pub first_bound : (bs : List ℕ) → Rises bs → get_or bs 0 0 ≡ 0
first_bound [] rises = refl
first_bound (b ∷ bs) rises = rises.0

-- the tile that begins the picture is tile 0
pub first_tile : (g : Tiles) (t : ℕ) → Rises g.columns → Rises g.rows → 2 ≤ length g.columns → 2 ≤ length g.rows → t < across g * down g → (tile g t).x ≡ 0 → (tile g t).y ≡ 0 → t ≡ 0
first_tile g t rises_columns rises_rows wide high inside left top =
    let in_columns : column g t < across g = omega arith in
    let in_rows : row g t < down g = row_inside g t inside in
    let x = same_index g.columns (column g t) 0 rises_columns (omega arith) (omega arith) (left ∙ sym (first_bound g.columns rises_columns)) in
    let y = same_index g.rows (row g t) 0 rises_rows (omega arith) (omega arith) (top ∙ sym (first_bound g.rows rises_rows)) in
    sym (div-add-mod t (across g)) ∙ ap (λ r. across g * r + column g t) y ∙ omega (arith, x)

pub lists_fall : ListsFallIntoGroups
lists_fall g slices l some =
    let all = grouped g slices (length slices) 0 l (omega arith) some (λ t j k is before. absurd (omega arith)) in
    let begin = first-begins slices (last g.columns) (last g.rows) no_rect l.once l.order some (part_of g slices 0 l some) in
    record {
      group = all.group;
      groups = all.groups;
      same = all.same;
      first = first_tile g (first_tile_of all.group) l.columns l.rows l.grid.columns.0 l.grid.rows.0 all.inside (all.left ∙ begin.left) (all.top ∙ begin.top);
      follow = all.follow 0;
    }
