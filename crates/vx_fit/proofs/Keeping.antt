-- Where the regions keep their lines, their pictures stand in a frame of these lines, and the regions of one tile make up a run.
use Rattle.std.proofs.Common.{◌≡◌, ℕ, ◌+◌, ◌<◌, List, [], ◌∷◌, length, get_or, refl, sym, ◌∙◌, subst, inl, inr, arith, ◌⊎◌}
use Rattle.std.specs.List.{All, AllZip, Contains}
use Rattle.std.proofs.lemmas.Bool.{cases_eq, cases_lt}
use Rattle.std.proofs.lemmas.List.{get_or_default}
use Rattle.vx_layout.specs.declared.numbers.Numbers.{Numbers}
use Rattle.vx_layout.specs.declared.rect.Rect.{Rect}
use Rattle.vx_layout.specs.Borders.{SplitsAtLines}
use Rattle.vx_layout.specs.Bounds.{Rises, last}
use Rattle.vx_layout.specs.Faults.{NoneBetween}
use Rattle.vx_layout.specs.laws.Frames.{BeginsOrFollows, StandInRuns}
use Rattle.vx_layout.specs.Frames.{IsPlaced}
use Rattle.vx_layout.specs.Layouts.{no_rect}
use Rattle.vx_layout.proofs.FrameSlices.{AllZip-at, AllZip-from, AllZip-long}
use Rattle.vx_layout.proofs.Rising.{length-le-last}
use Rattle.vx_layout.proofs.Splitting.{Contains-cases, Contains-cons}
use Rattle.vx_fit.specs.FrameLines.{HasOneTile, HaveLines, IsBorder, IsDropped, IsFull, IsHorizontal, IsVertical, StandsOn, corner_at, no_numbers, part_at}
use Rattle.vx_fit.specs.Sources.{IsSized, IsSource}
use Rattle.vx_fit.specs.inner.Passing.{AreOwn}
use Rattle.vx_fit.proofs.Covering.{bottom_line, left_line, right_line, upper_line}
use Rattle.vx_fit.proofs.Lined.{own_from_lines, own_tells}

-- a source has its region's size
sized_source : (s : Rect) (p : Numbers) → IsSource s p → IsSized s p
sized_source s p source =
    let columns = length-le-last p.columns source.layout.columns in
    let rows = length-le-last p.rows source.layout.rows in
    record {
      columns = source.layout.columns;
      rows = source.layout.rows;
      wide = (omega (arith, columns, source.layout.limits.columns, source.wide), source.wide);
      high = (omega (arith, rows, source.layout.limits.rows, source.high), source.high);
    }

pub source_at : (corners : List Rect) (parts : List Numbers) (k : ℕ) → AllZip IsSource corners parts → k < length corners → IsSource (corner_at corners k) (part_at parts k)
source_at corners parts k sources short = AllZip-at IsSource corners parts k no_rect no_numbers sources short

pub sized_sources : (corners : List Rect) (parts : List Numbers) → AllZip IsSource corners parts → AllZip IsSized corners parts
sized_sources [] [] sources = tt
sized_sources [] (p ∷ ps) sources = absurd sources
sized_sources (s ∷ ss) [] sources = absurd sources
sized_sources (s ∷ ss) (p ∷ ps) sources = (sized_source s p sources.0, sized_sources ss ps sources.1)

contains_or_not : (bounds : List ℕ) (n : ℕ) → Contains bounds n ⊎ (¬ Contains bounds n)
contains_or_not [] n = inr (λ inside. omega (arith, inside.1))
contains_or_not (b ∷ bs) n =
    elim (cases_eq b n) [
      | inl here ↦ inl (0, omega arith, here)
      | inr other ↦
          elim (contains_or_not bs n) [
            | inl later ↦ inl (Contains-cons b bs n later)
            | inr none ↦ inr (λ inside. elim (Contains-cases b bs n inside) [ inl here ↦ other here | inr later ↦ none later ])
          ]
    ]

-- two bounds are 0 and the last
two_bounds : (own : List ℕ) (c : ℕ) → length own ≡ 2 → Rises own → Contains own c → (c ≡ 0) ⊎ (c ≡ last own)
two_bounds [] c two rises inside = absurd (omega arith)
two_bounds (a ∷ []) c two rises inside = absurd (omega arith)
two_bounds (a ∷ b ∷ d ∷ ds) c two rises inside = absurd (omega arith)
two_bounds (a ∷ b ∷ []) c two rises inside =
    elim (Contains-cases a (b ∷ []) c inside) [
      | inl first ↦ inl (sym first ∙ rises.0)
      | inr later ↦ elim (Contains-cases b [] c later) [ inl second ↦ inr (sym second) | inr none ↦ absurd (omega (arith, none.1)) ]
    ]

-- where a picture has no inner bound, and the lines inside its region are its own, there are none
none_inside : (bounds : List ℕ) (from size : ℕ) (own : List ℕ) → length own ≡ 2 → Rises own → last own ≡ size → AreOwn bounds from size own → NoneBetween bounds from (from + size)
none_inside bounds from size own two rises sized are = λ c has above.
    elim (cases_lt c (from + size)) [
      | inr past ↦ past
      | inl below ↦
          let bound = (are c (above, below)).0 has in
          elim (two_bounds own bound.0 two rises bound.1) [
            | inl first ↦ absurd (omega (arith, bound.2, first))
            | inr end ↦ absurd (omega (arith, bound.2, end, sized))
          ]
    ]

module _ (columns rows : List ℕ) (corners : List Rect) (parts : List Numbers) (sources : AllZip IsSource corners parts) (lines : HaveLines columns rows corners parts) where
  sized : AllZip IsSized corners parts
  sized = sized_sources corners parts sources

  own_columns : (k : ℕ) → k < length corners → AreOwn columns (corner_at corners k).x (corner_at corners k).w (part_at parts k).columns
  own_columns k short = own_from_lines (IsVertical corners parts) columns _ _ (part_at parts k).columns lines.vertical (lines.keep k short).columns

  own_rows : (k : ℕ) → k < length corners → AreOwn rows (corner_at corners k).y (corner_at corners k).h (part_at parts k).rows
  own_rows k short = own_from_lines (IsHorizontal corners parts) rows _ _ (part_at parts k).rows lines.horizontal (lines.keep k short).rows

  -- a full line that isn't there is left out: what follows of two numbers then is so
  forced : (n a b : ℕ) → IsFull corners parts n → ¬ Contains rows n → (IsDropped corners parts n → a ≡ b) → a ≡ b
  forced n a b full none same =
      elim (cases_eq a b) [
        | inl is ↦ is
        | inr other ↦ absurd (none ((lines.horizontal.each n).1 (full, λ dropped. other (same dropped))))
      ]

  single_tile : (k n : ℕ) → k < length corners → IsFull corners parts n → ¬ Contains rows n → IsBorder (corner_at corners k) n → HasOneTile (part_at parts k)
  single_tile k n short full none border = (forced n _ 2 full none (λ dropped. (dropped.single k short border).0), forced n _ 2 full none (λ dropped. (dropped.single k short border).1))

  none_between : (k n : ℕ) → k < length corners → IsFull corners parts n → ¬ Contains rows n → IsBorder (corner_at corners k) n →
      NoneBetween columns (corner_at corners k).x ((corner_at corners k).x + (corner_at corners k).w) × NoneBetween rows (corner_at corners k).y ((corner_at corners k).y + (corner_at corners k).h)
  none_between k n short full none border =
      let source = source_at corners parts k sources short in
      let one = single_tile k n short full none border in (
        none_inside columns _ _ (part_at parts k).columns one.0 source.layout.columns source.wide (own_columns k short),
        none_inside rows _ _ (part_at parts k).rows one.1 source.layout.rows source.high (own_rows k short),
      )

  borders_at : (k : ℕ) → k < length corners → SplitsAtLines columns rows (corner_at corners k)
  borders_at k short =
      let s : Rect = corner_at corners k in
      record {
        left = (lines.vertical.each s.x).1 (left_line corners parts k sized short);
        right = (lines.vertical.each (s.x + s.w)).1 (right_line corners parts k sized short);
        ends =
            elim (contains_or_not rows s.y) [
              | inr none ↦ inr (none_between k s.y short (upper_line corners parts k sized short) none (inl refl))
              | inl top ↦
                  elim (contains_or_not rows (s.y + s.h)) [
                    | inl bottom ↦ inl (top, bottom)
                    | inr none ↦ inr (none_between k (s.y + s.h) short (bottom_line corners parts k sized short) none (inr refl))
                  ]
            ];
      }

  placed_at : (k : ℕ) → k < length corners → IsPlaced columns rows (corner_at corners k) (part_at parts k)
  placed_at k short =
      let source = source_at corners parts k sources short in
      let s : Rect = corner_at corners k in
      record {
        layout = source.layout;
        lone = source.lone;
        slices = source.listable.some;
        wide = source.wide;
        high = source.high;
        across = λ c above below. own_tells columns s.x s.w (part_at parts k).columns c above (omega (arith, source.wide)) (own_columns k short);
        down = λ c above below. own_tells rows s.y s.h (part_at parts k).rows c above (omega (arith, source.high)) (own_rows k short);
        borders = borders_at k short;
      }

  pub pictures_are_placed : AllZip (IsPlaced columns rows) corners parts
  pictures_are_placed =
      let long : length corners ≡ length parts = AllZip-long IsSource corners parts sources in
      AllZip-from (IsPlaced columns rows) corners parts long
      (λ k d e short.
      subst (λ s. IsPlaced columns rows s (get_or parts k e)) (get_or_default corners k no_rect d short)
      (subst (λ p. IsPlaced columns rows (corner_at corners k) p) (get_or_default parts k no_numbers e (omega (arith, long))) (placed_at k short)))

  pub borders_split : All (SplitsAtLines columns rows) corners
  borders_split = λ k d short. subst (SplitsAtLines columns rows) (get_or_default corners k no_rect d short) (borders_at k short)

  -- a region whose upper border is left out stands upon the one before it
  stands_on : (k : ℕ) → k + 1 < length corners → ¬ Contains rows (corner_at corners (k + 1)).y → StandsOn (corner_at corners k) (corner_at corners (k + 1))
  stands_on k short none =
      let s : Rect = corner_at corners (k + 1) in
      let full : IsFull corners parts s.y = upper_line corners parts (k + 1) sized short in
      let on : IsDropped corners parts s.y → StandsOn (corner_at corners k) s = λ dropped.
      let upon = (lines.keep (k + 1) short).above dropped in
      let same : upon.0 ≡ k = omega (arith, upon.1) in
      subst (λ j. StandsOn (corner_at corners j) s) same upon.2
      in
      ((forced s.y _ _ full none (λ dropped. (on dropped).0.0), forced s.y _ _ full none (λ dropped. (on dropped).0.1)), forced s.y _ _ full none (λ dropped. (on dropped).1))

  pub regions_in_runs : StandInRuns rows corners
  regions_in_runs = λ k d short.
      let first : corner_at corners k ≡ get_or corners k d = get_or_default corners k no_rect d (omega arith) in
      let second : corner_at corners (k + 1) ≡ get_or corners (k + 1) d = get_or_default corners (k + 1) no_rect d short in
      subst (λ r. BeginsOrFollows rows r (get_or corners (k + 1) d)) first
      (subst (λ s. BeginsOrFollows rows (corner_at corners k) s) second
      (elim (contains_or_not rows (corner_at corners (k + 1)).y) [ inl begins ↦ inl begins | inr none ↦ inr (stands_on k short none) ]))
