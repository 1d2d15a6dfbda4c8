-- The walk over explicit sizes, turn by turn; and that tiles of such sizes are a grid.
use Rattle.std.proofs.Common.{◌≡◌, ℕ, suc, ◌+◌, ◌-◌, ◌<◌, ◌≤◌, List, [], ◌∷◌, ◌++◌, length, sum, All, Ok, Err, refl, arith}
use Rattle.std.proofs.lemmas.List.{length-append}
use Rattle.std.proofs.lemmas.List.Elements.{All-append, All-cons, All-nil}
use Rattle.vx_layout.specs.Bounds.{Rises, bounds_of, last}
use Rattle.vx_layout.proofs.Members.{bounds_of-reach}
use Rattle.vx_layout.proofs.Rising.{length-le-last}
use Rattle.vx_table.specs.Walks.{Step}
use Rattle.vx_pps.specs.declared.halt.Halt.{Halt}
use Rattle.vx_pps.specs.inner.Walked.{Walked}
use Rattle.vx_pps.specs.Partition.{sizes_of, tiles_of}
use Rattle.vx_pps.specs.Slices.{tile_size_form, sizes_from}
use Rattle.vx_pps.specs.Tiles.{IsGrid}
use Rattle.vx_pps.proofs.Pictures.{upto_last}
use Rattle.vx_pps.proofs.Walking.{Leads, leads, leads-then, leads-stop, leads-end}

-- so many sizes were coded, and so many CTUs are left
pub record Sizing {C I E : Type 0} (step : Step C I E) (of count total : ℕ) (first : C) (first_items : I) (turn left : ℕ) (sizes : List ℕ) (c : C) (i : I) : Type 0 where
  pub walk : Leads step (sizes_of of count total) first first_items (sizes_from of (count - turn) left sizes) c i
  pub so_many : length sizes ≡ turn
  pub some : All (λ size. 1 ≤ size) sizes

module _ {C I E : Type 0} {step : Step C I E} where
  pub sizes-begin : (of count total : ℕ) (c : C) (i : I) → Sizing step of count total c i 0 total [] c i
  unfolding sizes_of
  sizes-begin of count total c i =
      let whole : count - 0 ≡ count = omega arith in
      record { walk = rw whole (leads step (sizes_from of count total []) c i); so_many = refl; some = All-nil (λ size. 1 ≤ size) }

  pub sizes-more : (of count total turn left size : ℕ) (sizes : List ℕ) {first c d : C} {first_items i j : I} → turn < count
      → Sizing step of count total first first_items turn left sizes c i → Walked step (tile_size_form of left) c i (Ok size) d j → 1 ≤ size
      → Sizing step of count total first first_items (turn + 1) (left - size) (sizes ++ size ∷ []) d j
  sizes-more of count total turn left size sizes more before walked some =
      let one : count - turn ≡ suc (count - (turn + 1)) = omega arith in
      record {
        walk = leads-then (λ n. sizes_from of (count - (turn + 1)) (left - n) (sizes ++ n ∷ [])) (rw one at before.walk) walked;
        so_many = omega (arith, before.so_many, length-append sizes (size ∷ []));
        some = All-append (λ n. 1 ≤ n) sizes (size ∷ []) before.some (All-cons (λ n. 1 ≤ n) size [] some (All-nil (λ n. 1 ≤ n)));
      }

  pub sizes-stop : (of count total turn left : ℕ) (sizes : List ℕ) {e : Halt E} {first c d : C} {first_items i j : I} → turn < count
      → Sizing step of count total first first_items turn left sizes c i → Walked step (tile_size_form of left) c i (Err e) d j
      → Walked step (sizes_of of count total) first first_items (Err e) d j
  sizes-stop of count total turn left sizes more before walked =
      let one : count - turn ≡ suc (count - (turn + 1)) = omega arith in
      leads-stop (λ n. sizes_from of (count - (turn + 1)) (left - n) (sizes ++ n ∷ [])) (rw one at before.walk) walked

  pub sizes-end : (of count total turn left : ℕ) (sizes : List ℕ) {first c : C} {first_items i : I} → count ≤ turn
      → Sizing step of count total first first_items turn left sizes c i → Walked step (sizes_of of count total) first first_items (Ok sizes) c i
  sizes-end of count total turn left sizes over before =
      let none : count - turn ≡ 0 = omega arith in
      leads-end (rw none at before.walk)

-- ---- grids

two_bounds : (bs : List ℕ) → Rises bs → 1 ≤ last bs → 2 ≤ length bs
two_bounds [] rises high = omega (arith, high)
two_bounds (a ∷ []) rises high = omega (arith, high, rises.0)
two_bounds (a ∷ b ∷ bs) rises high = omega arith

pub sizes_grid : (widths heights : List ℕ) (columns rows : ℕ) → 1 ≤ length widths → All (λ size. 1 ≤ size) widths → sum widths ≤ columns → 1 ≤ columns → columns ≤ 512
    → 1 ≤ length heights → All (λ size. 1 ≤ size) heights → sum heights ≤ rows → 1 ≤ rows → rows ≤ 512 → IsGrid (tiles_of widths columns heights rows)
sizes_grid widths heights columns rows some_widths wide fit_columns across most_columns some_heights high fit_rows down most_rows =
    let x = bounds_of-reach widths columns some_widths wide across fit_columns in
    let y = bounds_of-reach heights rows some_heights high down fit_rows in
    record {
      columns = (two_bounds (bounds_of widths columns) x.0 (omega (arith, x.1)), omega (arith, x.1, length-le-last (bounds_of widths columns) x.0));
      rows = (two_bounds (bounds_of heights rows) y.0 (omega (arith, y.1)), omega (arith, y.1, length-le-last (bounds_of heights rows) y.0));
      low = λ i. omega (arith, upto_last (bounds_of heights rows) i y.0, y.1);
    }
