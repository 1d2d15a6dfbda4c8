-- Rectangles of whole tiles as blocks of tiles.
use Rattle.std.proofs.Common.{◌≡◌, ℕ, suc, ◌+◌, ◌-◌, ◌*◌, ◌<◌, ◌≤◌, List, length, get_or, sym, ap, ◌∙◌, subst, inl, inr, arith, refl}
use Rattle.std.proofs.Math.Nat.{div-add-mod, mul-le-mul_left}
use Rattle.std.proofs.lemmas.Bool.{cases_lt}
use Rattle.std.proofs.lemmas.Nat.{div-mul-add, mod-mul-add}
use Rattle.std.specs.List.{Contains}
use Rattle.vx_layout.specs.declared.rect.Rect.{Rect}
use Rattle.vx_layout.specs.Bounds.{Rises}
use Rattle.vx_layout.specs.Faults.{IsTile}
use Rattle.vx_layout.specs.Shapes.{HasCtu, AreTiles}
use Rattle.vx_layout.proofs.Holding.{same_rect}
use Rattle.vx_layout.proofs.Rising.{Rises-apart, Rises-level, bound_at, bound_from}
use Rattle.vx_pps.specs.declared.tiles.Tiles.{Tiles}
use Rattle.vx_pps.specs.Tiles.{across, block, column, down, row, tile}

-- an index by its bound
pub same_index : (bs : List ℕ) (i j : ℕ) → Rises bs → i < length bs → j < length bs → get_or bs i 0 ≡ get_or bs j 0 → i ≡ j
same_index bs i j rises low_i low_j e =
    elim (cases_lt i j) [
      | inl less ↦ let apart = Rises-apart bs i j rises less low_j in absurd (omega (arith, apart, e))
      | inr level ↦ elim (cases_lt j i) [
        | inl less ↦ let apart = Rises-apart bs j i rises less low_i in absurd (omega (arith, apart, e))
        | inr back ↦ omega arith
      ]
    ]

-- an earlier index by a lower bound
pub before_index : (bs : List ℕ) (i j : ℕ) → Rises bs → i < length bs → get_or bs i 0 < get_or bs j 0 → i < j
before_index bs i j rises low_i less =
    elim (cases_lt i j) [
      | inl before ↦ before
      | inr back ↦ let level = Rises-level bs j i rises back low_i in absurd (omega (arith, level, less))
    ]

-- the block of tiles that a rectangle is
pub record IsBlock (g : Tiles) (r : Rect) : Type 0 where
  pub first : ℕ
  pub wide : ℕ
  pub high : ℕ
  pub some : (1 ≤ wide) × (1 ≤ high)
  pub inside : first < across g * down g
  pub columns : column g first + wide ≤ across g
  pub rows : row g first + high ≤ down g
  pub left : get_or g.columns (column g first) 0 ≡ r.x
  pub right : get_or g.columns (column g first + wide) 0 ≡ r.x + r.w
  pub top : get_or g.rows (row g first) 0 ≡ r.y
  pub bottom : get_or g.rows (row g first + high) 0 ≡ r.y + r.h

pub block_is : (g : Tiles) (r : Rect) (b : IsBlock g r) → block g b.first b.wide b.high ≡ r
block_is g r b = same_rect (block g b.first b.wide b.high) r b.left b.top (omega (arith, b.left, b.right)) (omega (arith, b.top, b.bottom))

-- a place in a grid, row by row
pub place_in_grid : (wide high x y : ℕ) → x < wide → y < high → y * wide + x < wide * high
place_in_grid wide high x y in_x in_y =
    let rows : suc y ≤ high = omega arith in
    let up = mul-le-mul_left wide rows in
    omega (arith, up)

pub tiles_block : (g : Tiles) (r : Rect) → Rises g.columns → Rises g.rows → HasCtu r → AreTiles g.columns g.rows r → IsBlock g r
tiles_block g r rises_columns rises_rows some tiles =
    let left = bound_at g.columns r.x tiles.left in
    let right = bound_at g.columns (r.x + r.w) tiles.right in
    let top = bound_at g.rows r.y tiles.top in
    let bottom = bound_at g.rows (r.y + r.h) tiles.bottom in
    let wide : left.0 < right.0 = before_index g.columns left.0 right.0 rises_columns left.1 (omega (arith, left.2, right.2, some.0)) in
    let high : top.0 < bottom.0 = before_index g.rows top.0 bottom.0 rises_rows top.1 (omega (arith, top.2, bottom.2, some.1)) in
    let in_columns : left.0 < across g = omega (arith, right.1) in
    let in_rows : top.0 < down g = omega (arith, bottom.1) in
    let first : ℕ = top.0 * across g + left.0 in
    let column_is : column g first ≡ left.0 = mod-mul-add top.0 (across g) left.0 in_columns in
    let row_is : row g first ≡ top.0 = div-mul-add top.0 (across g) left.0 in_columns in
    let to_right : column g first + (right.0 - left.0) ≡ right.0 = omega (arith, column_is) in
    let to_bottom : row g first + (bottom.0 - top.0) ≡ bottom.0 = omega (arith, row_is) in
    record {
      first = first;
      wide = right.0 - left.0;
      high = bottom.0 - top.0;
      some = (omega arith, omega arith);
      inside = place_in_grid (across g) (down g) left.0 top.0 in_columns in_rows;
      columns = omega (arith, to_right, right.1);
      rows = omega (arith, to_bottom, bottom.1);
      left = ap (λ i. get_or g.columns i 0) column_is ∙ left.2;
      right = ap (λ i. get_or g.columns i 0) to_right ∙ right.2;
      top = ap (λ i. get_or g.rows i 0) row_is ∙ top.2;
      bottom = ap (λ i. get_or g.rows i 0) to_bottom ∙ bottom.2;
    }

-- a tile, by its index
pub record IsTileAt (g : Tiles) (t : Rect) : Type 0 where
  pub at : ℕ
  pub inside : at < across g * down g
  pub is : tile g at ≡ t

-- no bound stands between neighbours
next_index : (bs : List ℕ) (i n : ℕ) → Rises bs → i + n < length bs → 1 ≤ n → ((c : ℕ) → Contains bs c → get_or bs i 0 < c → get_or bs (i + n) 0 ≤ c) → n ≡ 1
next_index bs i n rises short some next =
    elim (cases_lt 1 n) [
      | inr fine ↦ omega arith
      | inl more ↦
          let here = Rises-apart bs i (i + 1) rises (omega arith) (omega arith) in
          let there = Rises-apart bs (i + 1) (i + n) rises (omega arith) short in
          let up = next (get_or bs (i + 1) 0) (bound_from bs (i + 1) (get_or bs (i + 1) 0) (omega arith) refl) here in
          absurd (omega (arith, up, there))
    ]

pub tile_block : (g : Tiles) (t : Rect) → Rises g.columns → Rises g.rows → IsTile g.columns g.rows t → IsTileAt g t
tile_block g t rises_columns rises_rows is =
    let b = tiles_block g t rises_columns rises_rows (omega (arith, is.across.rises), omega (arith, is.down.rises)) (record { left = is.across.begins; right = is.across.ends; top = is.down.begins; bottom = is.down.ends }) in
    let one_wide : b.wide ≡ 1 = next_index g.columns (column g b.first) b.wide rises_columns (omega (arith, b.columns, b.inside)) b.some.0 (λ c inside up. subst (λ n. n ≤ c) (sym b.right) (is.across.next c inside (subst (λ n. n < c) b.left up))) in
    let one_high : b.high ≡ 1 = next_index g.rows (row g b.first) b.high rises_rows (omega (arith, b.rows, b.inside)) b.some.1 (λ c inside up. subst (λ n. n ≤ c) (sym b.bottom) (is.down.next c inside (subst (λ n. n < c) b.top up))) in
    record { at = b.first; inside = b.inside; is = ap (λ n. block g b.first n 1) (sym one_wide) ∙ ap (λ n. block g b.first b.wide n) (sym one_high) ∙ block_is g t b }

-- a tile's row is one of the picture's
pub row_inside : (g : Tiles) (t : ℕ) → t < across g * down g → row g t < down g
row_inside g t inside =
    elim (cases_lt (row g t) (down g)) [
      | inl fine ↦ fine
      | inr past ↦ let up = mul-le-mul_left (across g) past in absurd (omega (arith, up, inside, div-add-mod t (across g)))
    ]
