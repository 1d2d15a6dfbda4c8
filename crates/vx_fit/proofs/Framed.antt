-- What fitting regions give of their CTUs: they stay within the greatest size, and a region begins each axis.
use Rattle.std.proofs.Common.{◌≡◌, ℕ, zero, suc, ◌+◌, ◌/◌, ◌%◌, ◌<◌, ◌≤◌, min, List, length, get_or, map, ap, sym, ◌∙◌, subst, inl, inr, arith}
use Rattle.std.specs.Int.{div_ceil}
use Rattle.std.proofs.lemmas.Bool.{cases_lt}
use Rattle.std.proofs.lemmas.List.{get_or_default, get_or-map, length-map}
use Rattle.std.specs.List.{AllZip, Contains}
use Rattle.vx_layout.specs.declared.numbers.Numbers.{Numbers}
use Rattle.vx_layout.specs.declared.rect.Rect.{Rect}
use Rattle.vx_layout.specs.Layouts.{no_rect}
use Rattle.vx_layout.proofs.FrameSlices.{AllZip-long}
use Rattle.vx_layout.proofs.Rising.{Contains-first}
use Rattle.vx_fit.specs.declared.placed.Placed.{Placed}
use Rattle.vx_fit.specs.FitFaults.{nowhere, region_at}
use Rattle.vx_fit.specs.FrameLines.{IsFull, IsHorizontal, corner_at}
use Rattle.vx_fit.specs.Placing.{IsTooLarge, frame_height, frame_width, greatest_size, in_ctus}
use Rattle.vx_fit.specs.Sources.{IsFitted, IsSized}
use Rattle.vx_fit.specs.inner.Passing.{AreFramed}
use Rattle.vx_fit.proofs.Lined.{sized_at}
use Rattle.vx_fit.proofs.Overlapping.{covers_tells}
use Rattle.vx_fit.proofs.Sizes.{greatest_bounds}

-- a span of samples has no more CTUs than samples, counted from 0 too
div_upto : (c n m : ℕ) → 0 < c → n / c + div_ceil m c ≤ n + m
div_upto zero n m some = absurd (omega arith)
div_upto (suc c) n m some =
    let low : n / suc c ≤ n = grind arith in
    let size : m / suc c + min 1 (m % suc c) ≤ m = grind arith in
    omega arith

-- region k in CTUs
pub fitted_at : (placed : List Placed) (ctb : ℕ) (corners : List Rect) (k : ℕ) (d : Rect) → corners ≡ map (in_ctus ctb) placed → k < length placed → get_or corners k d ≡ in_ctus ctb (region_at placed k)
fitted_at placed ctb corners k d is short = ap (λ ss. get_or ss k d) is ∙ get_or-map (in_ctus ctb) placed k nowhere d short

pub fitted_long : (placed : List Placed) (ctb : ℕ) (corners : List Rect) → corners ≡ map (in_ctus ctb) placed → length corners ≡ length placed
fitted_long placed ctb corners is = ap length is ∙ length-map placed (in_ctus ctb)

not_too_wide : (placed : List Placed) → ¬ IsTooLarge placed → frame_width placed ≤ greatest_size
not_too_wide placed small = elim (cases_lt greatest_size (frame_width placed)) [ inl wider ↦ absurd (small (inl wider)) | inr fine ↦ fine ]

not_too_high : (placed : List Placed) → ¬ IsTooLarge placed → frame_height placed ≤ greatest_size
not_too_high placed small = elim (cases_lt greatest_size (frame_height placed)) [ inl higher ↦ absurd (small (inr higher)) | inr fine ↦ fine ]

-- the first bounds of a picture
pub first_column : (s : Rect) (p : Numbers) → IsSized s p → Contains p.columns 0
first_column s p sized = Contains-first p.columns sized.columns (omega (arith, sized.wide))

pub first_row : (s : Rect) (p : Numbers) → IsSized s p → Contains p.rows 0
first_row s p sized = Contains-first p.rows sized.rows (omega (arith, sized.high))

-- a region in the frame's upper left corner
record IsFirst (corners : List Rect) (k : ℕ) : Type 0 where
  short : k < length corners
  left : (corner_at corners k).x ≡ 0
  top : (corner_at corners k).y ≡ 0

no_size : (ctb n : ℕ) → 0 < ctb → n ≡ 0 → div_ceil n ctb ≡ 0
no_size ctb n some none = rw none (let d : 0 / ctb ≡ 0 = omega arith in let m : 0 % ctb ≡ 0 = omega arith in omega arith)

first_region : (corners : List Rect) (parts : List Numbers) → 1 ≤ length corners → AllZip IsSized corners parts → IsFitted corners → (k : ℕ) × IsFirst corners k
first_region corners parts some sized fitted =
    let placed = fitted.placed in
    let ctb = fitted.ctb in
    let long : length corners ≡ length placed = fitted_long placed ctb corners fitted.ctus in
    let p : Placed = region_at placed 0 in
    let here = sized_at corners parts 0 sized some in
    let at : corner_at corners 0 ≡ in_ctus ctb p = fitted_at placed ctb corners 0 no_rect fitted.ctus (omega arith) in
    let wide : 0 < p.w =
    elim (cases_lt 0 p.w) [
      | inl fine ↦ fine
      | inr none ↦
          let w : (corner_at corners 0).w ≡ div_ceil p.w ctb = ap (λ s. s.w) at in
          absurd (omega (arith, here.wide, w, no_size ctb p.w fitted.some (omega arith)))
    ]
    in
    let high : 0 < p.h =
    elim (cases_lt 0 p.h) [
      | inl fine ↦ fine
      | inr none ↦
          let h : (corner_at corners 0).h ≡ div_ceil p.h ctb = ap (λ s. s.h) at in
          absurd (omega (arith, here.high, h, no_size ctb p.h fitted.some (omega arith)))
    ]
    in
    let right : p.x + p.w ≤ frame_width placed = greatest_bounds (λ q. q.x + q.w) placed 0 nowhere (omega arith) in
    let bottom : p.y + p.h ≤ frame_height placed = greatest_bounds (λ q. q.y + q.h) placed 0 nowhere (omega arith) in
    let holder = fitted.fit.filled 0 0 (omega arith) (omega arith) in
    let j : ℕ = holder.0 in
    let q : Placed = holder.1 in
    let is : q ≡ region_at placed j = sym holder.3 ∙ get_or_default placed j q nowhere holder.2 in
    let on = covers_tells q 0 0 holder.4 in
    let s : corner_at corners j ≡ in_ctus ctb q = fitted_at placed ctb corners j no_rect fitted.ctus holder.2 ∙ ap (in_ctus ctb) (sym is) in
    let x : q.x ≡ 0 = omega (arith, on) in
    let y : q.y ≡ 0 = omega (arith, on) in
    let none : 0 / ctb ≡ 0 = omega arith in (
      j,
      record {
        short = omega (arith, holder.2);
        left = ap (λ r. r.x) s ∙ (ap (λ n. n / ctb) x ∙ none);
        top = ap (λ r. r.y) s ∙ (ap (λ n. n / ctb) y ∙ none);
      },
    )

pub AreFramed-from : (corners : List Rect) (parts : List Numbers) → 1 ≤ length corners → AllZip IsSized corners parts → IsFitted corners → AreFramed corners parts
AreFramed-from corners parts some sized fitted =
    let placed = fitted.placed in
    let ctb = fitted.ctb in
    let long : length corners ≡ length placed = fitted_long placed ctb corners fitted.ctus in
    let width : frame_width placed ≤ greatest_size = not_too_wide placed fitted.fit.small in
    let height : frame_height placed ≤ greatest_size = not_too_high placed fitted.fit.small in
    let first = first_region corners parts some sized fitted in
    let here = sized_at corners parts first.0 sized first.1.short in
    record {
      sized = sized;
      same = AllZip-long IsSized corners parts sized;
      across = λ k d short.
          let p : Placed = region_at placed k in
          let low : k < length placed = omega arith in
          let right : p.x + p.w ≤ frame_width placed = greatest_bounds (λ q. q.x + q.w) placed k nowhere low in
          let cut = div_upto ctb p.x p.w fitted.some in
          subst (λ s. s.x + s.w ≤ greatest_size) (sym (fitted_at placed ctb corners k d fitted.ctus low)) (omega (arith, cut, right, width));
      down = λ k d short.
          let p : Placed = region_at placed k in
          let low : k < length placed = omega arith in
          let bottom : p.y + p.h ≤ frame_height placed = greatest_bounds (λ q. q.y + q.h) placed k nowhere low in
          let cut = div_upto ctb p.y p.h fitted.some in
          subst (λ s. s.y + s.h ≤ greatest_size) (sym (fitted_at placed ctb corners k d fitted.ctus low)) (omega (arith, cut, bottom, height));
      left = (first.0, first.1.short, (0, first_column _ _ here, omega (arith, first.1.left)));
      top = (first.0, first.1.short, (0, first_row _ _ here, omega (arith, first.1.top)));
    }

-- the frame's upper border is a line: it passes through no region
pub top_line : (corners : List Rect) (parts : List Numbers) → IsFull corners parts 0 → IsHorizontal corners parts 0
top_line corners parts full = (full, λ dropped. let through = dropped.crosses in omega (arith, through.2.0.0))
