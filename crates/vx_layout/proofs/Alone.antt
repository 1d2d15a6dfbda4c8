-- A picture as one subpicture that is all of it.
use Rattle.std.proofs.Common.{◌≡◌, ◌+◌, ◌<◌, true, cond, [], ◌∷◌, refl, ap, sym, ◌∙◌, subst, inl, arith, zero-add}
use Rattle.std.proofs.lemmas.List.{append-nil}
use Rattle.std.proofs.lemmas.List.Elements.{All-cons, All-nil}
use Rattle.std.specs.List.{All, AllPairs, Contains}
use Rattle.vx_layout.specs.declared.numbers.Numbers.{Numbers}
use Rattle.vx_layout.specs.declared.rect.Rect.{Rect}
use Rattle.vx_layout.specs.Borders.{SplitsAtLines}
use Rattle.vx_layout.specs.Bounds.{Rises}
use Rattle.vx_layout.specs.Faults.{IsLayout, SplitsWell, height, width}
use Rattle.vx_layout.specs.Frames.{with_one_subpic}
use Rattle.vx_layout.specs.Rects.{CoversOnce, IsPart, Precedes, fits, holds, in_order, slices_of_subpicture, whole_picture}
use Rattle.vx_layout.proofs.Counting.{count_by-cons, slices_all}
use Rattle.vx_layout.proofs.Holding.{holds_from}
use Rattle.vx_layout.proofs.Rising.{Contains-first, Contains-last}
use Rattle.vx_layout.proofs.Splitting.{SplitsWell-from}

-- the picture's borders are bounds
whole_at_lines : (n : Numbers) → Rises n.columns → Rises n.rows → 0 < width n → 0 < height n → SplitsAtLines n.columns n.rows (whole_picture (width n) (height n))
whole_at_lines n columns_rise rows_rise wide high = record {
  left = Contains-first n.columns columns_rise wide;
  right = subst (Contains n.columns) (sym (zero-add (width n))) (Contains-last n.columns wide);
  ends = inl (Contains-first n.rows rows_rise high, subst (Contains n.rows) (sym (zero-add (height n))) (Contains-last n.rows high));
}

-- slices in order that cover a picture are a layout with one subpicture
pub layout-alone : (n : Numbers) → Rises n.columns → Rises n.rows → 0 < width n → 0 < height n → CoversOnce n.slices (width n) (height n) → All (λ r. fits r (whole_picture (width n) (height n)) ≡ true) n.slices → AllPairs Precedes n.slices → IsLayout (with_one_subpic n)
layout-alone n columns_rise rows_rise wide high cover fit order =
    let all : Rect = whole_picture (width n) (height n) in
    let P : Rect → Type 0 = IsPart (width n) (height n) in
    let same : in_order n.slices (all ∷ []) ≡ n.slices = append-nil (slices_of_subpicture n.slices all) ∙ slices_all n.slices all fit in
    record {
      subpics = record {
        parts = All-cons P all [] (record { wide = wide; high = high; across = omega arith; down = omega arith }) (All-nil P);
        once = λ x y v u.
            let here : holds all x y ≡ true = holds_from all x y (omega arith) (omega arith) (omega arith) (omega arith) in
            count_by-cons (λ r. holds r x y) all [] ∙ ap (λ b. cond b 1 0 + 0) here;
      };
      tiles = All-cons (SplitsWell n.columns n.rows) all [] (SplitsWell-from n.columns n.rows all (whole_at_lines n columns_rise rows_rise wide high)) (All-nil (SplitsWell n.columns n.rows));
      slices = cover;
      split = λ i d low. (0, all, omega arith, refl, fit i d low);
      order = subst (AllPairs Precedes) (sym same) order;
    }
