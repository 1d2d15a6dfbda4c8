-- The CTUs of regions that fit together cover the frame that their lines bound, each CTU once.
use Rattle.std.proofs.Common.{◌≡◌, ℕ, suc, zero, ◌+◌, ◌*◌, ◌<◌, ◌≤◌, true, List, [], ◌∷◌, length, get_or, map, count_by, ap, sym, ◌∙◌, subst, inl, inr, arith}
use Rattle.std.specs.Int.{div_ceil}
use Rattle.std.specs.List.{All, AllPairs, AllZip}
use Rattle.std.proofs.lemmas.Bool.{cases_lt}
use Rattle.std.proofs.lemmas.List.{get_or_default}
use Rattle.vx_layout.specs.declared.numbers.Numbers.{Numbers}
use Rattle.vx_layout.specs.declared.rect.Rect.{Rect}
use Rattle.vx_layout.specs.Bounds.{last}
use Rattle.vx_layout.specs.Layouts.{no_rect}
use Rattle.vx_layout.specs.Rects.{CoversOnce, IsPart, Precedes, holds}
use Rattle.vx_layout.proofs.Counting.{count_by-some}
use Rattle.vx_layout.proofs.Rising.{Contains-last, Contains-le-last}
use Rattle.vx_fit.specs.declared.placed.Placed.{Placed}
use Rattle.vx_fit.specs.FitFaults.{nowhere, region_at}
use Rattle.vx_fit.specs.FrameLines.{AreBounds, IsFull, IsHorizontal, IsVertical, corner_at, part_at}
use Rattle.vx_fit.specs.Placing.{FitTogether, covers, frame_height, frame_width, in_ctus}
use Rattle.vx_fit.specs.Sources.{IsSized}
use Rattle.vx_fit.proofs.Areas.{at_most_one}
use Rattle.vx_fit.proofs.Framed.{first_column, first_row, fitted_at, fitted_long}
use Rattle.vx_fit.proofs.Lined.{sized_at}
use Rattle.vx_fit.proofs.Positions.{ceil_is, ctu_back, ctu_there, high_back, high_there}
use Rattle.vx_fit.proofs.Sizes.{greatest_above, greatest_bounds}

-- regions that fit together, the pictures in them, and the lines that these give
pub record IsFrame (placed : List Placed) (ctb : ℕ) (corners : List Rect) (parts : List Numbers) (columns rows : List ℕ) : Type 0 where
  pub some : 0 < ctb
  pub fit : FitTogether placed ctb
  pub ctus : corners ≡ map (in_ctus ctb) placed
  pub sized : AllZip IsSized corners parts
  pub vertical : AreBounds (IsVertical corners parts) columns
  pub horizontal : AreBounds (IsHorizontal corners parts) rows

-- one of the rectangles gives the most
farthest : (f : Rect → ℕ) (s : Rect) (ss : List Rect) → (k : ℕ) × (k < length (s ∷ ss)) × ((j : ℕ) (d : Rect) → j < length (s ∷ ss) → f (get_or (s ∷ ss) j d) ≤ f (get_or (s ∷ ss) k d))
farthest f s [] = (0, omega arith, λ j d short. let first : j ≡ 0 = omega arith in rw first (omega arith))
farthest f s (t ∷ ts) =
    let rest = farthest f t ts in
    let k : ℕ = rest.0 in
    elim (cases_lt (f s) (f (get_or (t ∷ ts) k no_rect))) [
      | inl less ↦ (suc k, omega (arith, rest.1), λ j d short. farther f s t ts k j d rest.1 rest.2 less short)
      | inr most ↦ (0, omega arith, λ j d short. nearer f s t ts k j d rest.1 rest.2 most short)
    ]
  where
    farther : (f : Rect → ℕ) (s t : Rect) (ts : List Rect) (k j : ℕ) (d : Rect) → k < length (t ∷ ts) → ((j : ℕ) (d : Rect) → j < length (t ∷ ts) → f (get_or (t ∷ ts) j d) ≤ f (get_or (t ∷ ts) k d)) → f s < f (get_or (t ∷ ts) k no_rect) → j < length (s ∷ t ∷ ts) →
        f (get_or (s ∷ t ∷ ts) j d) ≤ f (get_or (s ∷ t ∷ ts) (suc k) d)
    farther f s t ts k zero d low most less short = let same : f (get_or (t ∷ ts) k no_rect) ≡ f (get_or (t ∷ ts) k d) = ap f (get_or_default (t ∷ ts) k no_rect d low) in omega arith
    farther f s t ts k (suc j) d low most less short = most j d (omega arith)

    nearer : (f : Rect → ℕ) (s t : Rect) (ts : List Rect) (k j : ℕ) (d : Rect) → k < length (t ∷ ts) → ((j : ℕ) (d : Rect) → j < length (t ∷ ts) → f (get_or (t ∷ ts) j d) ≤ f (get_or (t ∷ ts) k d)) → f (get_or (t ∷ ts) k no_rect) ≤ f s → j < length (s ∷ t ∷ ts) →
        f (get_or (s ∷ t ∷ ts) j d) ≤ f s
    nearer f s t ts k zero d low most less short = omega arith
    nearer f s t ts k (suc j) d low most less short =
        let same : f (get_or (t ∷ ts) k no_rect) ≡ f (get_or (t ∷ ts) k d) = ap f (get_or_default (t ∷ ts) k no_rect d low) in
        let upto = most j d (omega arith) in
        omega arith

some_farthest : (f : Rect → ℕ) (ss : List Rect) → 0 < length ss → (k : ℕ) × (k < length ss) × ((j : ℕ) (d : Rect) → j < length ss → f (get_or ss j d) ≤ f (get_or ss k d))
some_farthest f [] some = absurd (omega arith)
some_farthest f (s ∷ ss) some = farthest f s ss

-- the last bounds of a picture are lines at its region's right and lower borders
pub right_line : (corners : List Rect) (parts : List Numbers) (k : ℕ) → AllZip IsSized corners parts → k < length corners → IsVertical corners parts ((corner_at corners k).x + (corner_at corners k).w)
right_line corners parts k sized short =
    let here = sized_at corners parts k sized short in
    (k, short, (last (part_at parts k).columns, Contains-last (part_at parts k).columns (omega (arith, here.wide)), omega (arith, here.wide)))

pub bottom_line : (corners : List Rect) (parts : List Numbers) (k : ℕ) → AllZip IsSized corners parts → k < length corners → IsFull corners parts ((corner_at corners k).y + (corner_at corners k).h)
bottom_line corners parts k sized short =
    let here = sized_at corners parts k sized short in
    (k, short, (last (part_at parts k).rows, Contains-last (part_at parts k).rows (omega (arith, here.high)), omega (arith, here.high)))

pub left_line : (corners : List Rect) (parts : List Numbers) (k : ℕ) → AllZip IsSized corners parts → k < length corners → IsVertical corners parts (corner_at corners k).x
left_line corners parts k sized short = (k, short, (0, first_column _ _ (sized_at corners parts k sized short), omega arith))

pub upper_line : (corners : List Rect) (parts : List Numbers) (k : ℕ) → AllZip IsSized corners parts → k < length corners → IsFull corners parts (corner_at corners k).y
upper_line corners parts k sized short = (k, short, (0, first_row _ _ (sized_at corners parts k sized short), omega arith))

module _ (placed : List Placed) (ctb : ℕ) (corners : List Rect) (parts : List Numbers) (columns rows : List ℕ) (frame : IsFrame placed ctb corners parts columns rows) where
  right_in : (k : ℕ) → k < length corners → (corner_at corners k).x + (corner_at corners k).w ≤ last columns
  right_in k short = Contains-le-last columns _ frame.vertical.rises ((frame.vertical.each _).1 (right_line corners parts k frame.sized short))

  -- the lowest border of all passes through no region, so it is a line
  bottom_in : (k : ℕ) → k < length corners → (corner_at corners k).y + (corner_at corners k).h ≤ last rows
  bottom_in k short =
      let low = some_farthest (λ s. s.y + s.h) corners (omega arith) in
      let end : ℕ = (corner_at corners low.0).y + (corner_at corners low.0).h in
      let line : IsHorizontal corners parts end = (
        bottom_line corners parts low.0 frame.sized low.1,
        λ dropped. let through = dropped.crosses in let most = low.2 through.0 no_rect through.1 in omega (arith, through.2.0.1, most),
      ) in
      let inside : end ≤ last rows = Contains-le-last rows end frame.horizontal.rises ((frame.horizontal.each end).1 line) in
      let most : (corner_at corners k).y + (corner_at corners k).h ≤ end = low.2 k no_rect short in
      omega arith

  right_out : (i : ℕ) → i < last columns → (k : ℕ) × (k < length corners) × (i < (corner_at corners k).x + (corner_at corners k).w)
  right_out i below =
      let line = (frame.vertical.each (last columns)).0 (Contains-last columns (omega arith)) in
      let here = sized_at corners parts line.0 frame.sized line.1 in
      let upto = Contains-le-last (part_at parts line.0).columns line.2.0 here.columns line.2.1 in
      (line.0, line.1, omega (arith, line.2.2, upto, here.wide))

  bottom_out : (j : ℕ) → j < last rows → (k : ℕ) × (k < length corners) × (j < (corner_at corners k).y + (corner_at corners k).h)
  bottom_out j below =
      let line = ((frame.horizontal.each (last rows)).0 (Contains-last rows (omega arith))).0 in
      let here = sized_at corners parts line.0 frame.sized line.1 in
      let upto = Contains-le-last (part_at parts line.0).rows line.2.0 here.rows line.2.1 in
      (line.0, line.1, omega (arith, line.2.2, upto, here.high))

  pub long : length corners ≡ length placed
  long = fitted_long placed ctb corners frame.ctus

  corner_is : (k : ℕ) → k < length placed → corner_at corners k ≡ in_ctus ctb (region_at placed k)
  corner_is k short = fitted_at placed ctb corners k no_rect frame.ctus short

  -- a CTU column of the frame begins within its width, and a row within its height
  in_width : (i : ℕ) → i < last columns → i * ctb < frame_width placed
  in_width i below =
      let out = right_out i below in
      let p : Placed = region_at placed out.0 in
      let low : out.0 < length placed = omega (arith, long, out.1) in
      let is : (corner_at corners out.0).x + (corner_at corners out.0).w ≡ (in_ctus ctb p).x + (in_ctus ctb p).w = ap (λ s. s.x + s.w) (corner_is out.0 low) in
      let inside : i * ctb < p.x + p.w = high_there ctb p.x p.w i frame.some (frame.fit.grid out.0 nowhere low).0 (omega (arith, out.2, is)) in
      let most : p.x + p.w ≤ frame_width placed = greatest_bounds (λ q. q.x + q.w) placed out.0 nowhere low in
      omega arith

  in_height : (j : ℕ) → j < last rows → j * ctb < frame_height placed
  in_height j below =
      let out = bottom_out j below in
      let p : Placed = region_at placed out.0 in
      let low : out.0 < length placed = omega (arith, long, out.1) in
      let is : (corner_at corners out.0).y + (corner_at corners out.0).h ≡ (in_ctus ctb p).y + (in_ctus ctb p).h = ap (λ s. s.y + s.h) (corner_is out.0 low) in
      let inside : j * ctb < p.y + p.h = high_there ctb p.y p.h j frame.some (frame.fit.grid out.0 nowhere low).1 (omega (arith, out.2, is)) in
      let most : p.y + p.h ≤ frame_height placed = greatest_bounds (λ q. q.y + q.h) placed out.0 nowhere low in
      omega arith

  from_width : (i : ℕ) → i * ctb < frame_width placed → i < last columns
  from_width i below =
      let above = greatest_above (λ q. q.x + q.w) placed (i * ctb) nowhere below in
      let p : Placed = region_at placed above.0 in
      let is : (corner_at corners above.0).x + (corner_at corners above.0).w ≡ (in_ctus ctb p).x + (in_ctus ctb p).w = ap (λ s. s.x + s.w) (corner_is above.0 above.1) in
      let inside : i < (in_ctus ctb p).x + (in_ctus ctb p).w = high_back ctb p.x p.w i frame.some (frame.fit.grid above.0 nowhere above.1).0 above.2 in
      omega (arith, is, inside, right_in above.0 (omega (arith, long, above.1)))

  from_height : (j : ℕ) → j * ctb < frame_height placed → j < last rows
  from_height j below =
      let above = greatest_above (λ q. q.y + q.h) placed (j * ctb) nowhere below in
      let p : Placed = region_at placed above.0 in
      let is : (corner_at corners above.0).y + (corner_at corners above.0).h ≡ (in_ctus ctb p).y + (in_ctus ctb p).h = ap (λ s. s.y + s.h) (corner_is above.0 above.1) in
      let inside : j < (in_ctus ctb p).y + (in_ctus ctb p).h = high_back ctb p.y p.h j frame.some (frame.fit.grid above.0 nowhere above.1).1 above.2 in
      omega (arith, is, inside, bottom_in above.0 (omega (arith, long, above.1)))

  pub frame_wide : last columns ≡ div_ceil (frame_width placed) ctb
  frame_wide = ceil_is ctb (frame_width placed) (last columns) frame.some in_width from_width

  pub frame_high : last rows ≡ div_ceil (frame_height placed) ctb
  frame_high = ceil_is ctb (frame_height placed) (last rows) frame.some in_height from_height

  pub regions_are_parts : All (IsPart (last columns) (last rows)) corners
  regions_are_parts = λ k d short.
      let here = sized_at corners parts k frame.sized short in
      subst (IsPart (last columns) (last rows)) (get_or_default corners k no_rect d short)
      (record { wide = here.wide.0; high = here.high.0; across = right_in k short; down = bottom_in k short })

  -- no two regions hold a CTU
  held_once : (i j a b : ℕ) (d : Rect) → a < b → b < length corners → holds (get_or corners a d) i j ≡ true → holds (get_or corners b d) i j ≡ true → ⊥
  held_once i j a b d less short on_a on_b =
      let low : b < length placed = omega (arith, long) in
      let first = ctu_there ctb (region_at placed a) i j frame.some (frame.fit.grid a nowhere (omega arith)) (subst (λ s. holds s i j ≡ true) (fitted_at placed ctb corners a d frame.ctus (omega arith)) on_a) in
      let second = ctu_there ctb (region_at placed b) i j frame.some (frame.fit.grid b nowhere low) (subst (λ s. holds s i j ≡ true) (fitted_at placed ctb corners b d frame.ctus low) on_b) in
      frame.fit.apart a b nowhere less low (i * ctb, j * ctb, first, second)

  pub regions_cover_once : CoversOnce corners (last columns) (last rows)
  regions_cover_once = λ i j left above.
      let holder = frame.fit.filled (i * ctb) (j * ctb) (in_width i left) (in_height j above) in
      let k : ℕ = holder.0 in
      let is : region_at placed k ≡ holder.1 = get_or_default placed k nowhere holder.1 holder.2 ∙ holder.3 in
      let on : covers (region_at placed k) (i * ctb) (j * ctb) ≡ true = subst (λ p. covers p (i * ctb) (j * ctb) ≡ true) (sym is) holder.4 in
      let held : holds (corner_at corners k) i j ≡ true = subst (λ s. holds s i j ≡ true) (sym (corner_is k holder.2)) (ctu_back ctb (region_at placed k) i j frame.some (frame.fit.grid k nowhere holder.2) on) in
      let one : 1 ≤ count_by (λ r. holds r i j) corners = count_by-some (λ r. holds r i j) corners k no_rect (omega (arith, long, holder.2)) held in
      let most : count_by (λ r. holds r i j) corners ≤ 1 = at_most_one (λ r. holds r i j) corners (λ a b d less short on_a on_b. held_once i j a b d less short on_a on_b) in
      omega arith

  pub regions_in_order : AllPairs Precedes corners
  regions_in_order = subst (AllPairs Precedes) (sym frame.ctus) frame.fit.order
