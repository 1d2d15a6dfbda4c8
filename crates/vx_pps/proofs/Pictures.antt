-- The slices of a layout of one subpicture.
use Rattle.std.proofs.Common.{◌≡◌, ℕ, ◌≤◌, true, List, [], ◌∷◌, length, get_or, sym, ◌∙◌, subst, inl, inr, arith, refl}
use Rattle.std.proofs.lemmas.List.{append-nil, get_or_past}
use Rattle.std.proofs.lemmas.Bool.{cases_lt}
use Rattle.std.specs.List.{All, AllPairs, Any}
use Rattle.vx_layout.specs.declared.rect.Rect.{Rect}
use Rattle.vx_layout.specs.Bounds.{Rises, last}
use Rattle.vx_layout.specs.Rects.{IsPart, Precedes, fits, in_order, slices_of_subpicture, whole_picture}
use Rattle.vx_layout.specs.Shapes.{HasCtu}
use Rattle.vx_layout.proofs.Counting.{slices_all}
use Rattle.vx_layout.proofs.Holding.{fits_tells}
use Rattle.vx_layout.proofs.Rising.{Contains-le-last, bound_from, length-le-last}
use Rattle.vx_pps.specs.laws.Lists.{LayoutsAreLists}

-- some of one is that one
any_one : (r s : Rect) → Any (λ t. fits r t ≡ true) (s ∷ []) → fits r s ≡ true
any_one r s (j, t, short, is, fit) =
    let first : j ≡ 0 = omega arith in
    let same : s ≡ t = subst (λ k. get_or (s ∷ []) k t ≡ t) first is in
    subst (λ u. fits r u ≡ true) (sym same) fit

-- a rectangle with a CTU that lies in the picture is a part of it
part_in : (w h : ℕ) (r : Rect) → HasCtu r → fits r (whole_picture w h) ≡ true → IsPart w h r
part_in w h r some fit =
    elim (fits_tells r (whole_picture w h) fit) [
      | inl (inl e) ↦ absurd (omega (arith, e, some))
      | inl (inr e) ↦ absurd (omega (arith, e, some))
      | inr q ↦ record { wide = some.0; high = some.1; across = omega (arith, q); down = omega (arith, q) }
    ]

-- no bound is above the last
pub upto_last : (bs : List ℕ) (i : ℕ) → Rises bs → get_or bs i 0 ≤ last bs
upto_last bs i rises =
    elim (cases_lt i (length bs)) [
      | inl short ↦ Contains-le-last bs (get_or bs i 0) rises (bound_from bs i (get_or bs i 0) short refl)
      | inr past ↦ rw (get_or_past bs i 0 past) (omega arith)
    ]

pub layouts_are : LayoutsAreLists
layouts_are g slices layout listable =
    let all : Rect = whole_picture (last g.columns) (last g.rows) in
    let fit : All (λ r. fits r all ≡ true) slices = λ i d short. any_one (get_or slices i d) all (layout.faultless.split i d short) in
    let same : in_order slices (all ∷ []) ≡ slices = append-nil (slices_of_subpicture slices all) ∙ slices_all slices all fit in
    record {
      grid = record {
        columns = (layout.limits.columns.0, omega (arith, layout.limits.columns, length-le-last g.columns layout.columns));
        rows = (layout.limits.rows.0, omega (arith, layout.limits.rows, length-le-last g.rows layout.rows));
        low = λ i. omega (arith, upto_last g.rows i layout.rows, layout.limits.rows.1);
      };
      columns = layout.columns;
      rows = layout.rows;
      once = layout.faultless.slices;
      order = subst (AllPairs Precedes) same layout.faultless.order;
      parts = λ i d short. part_in (last g.columns) (last g.rows) (get_or slices i d) (listable.some i d short) (fit i d short);
      listable = listable;
    }
