-- The borders of a subpicture against the tiles, and what tables of next bounds tell of them.
use Rattle.std.proofs.Common.{◌≡◌, ℕ, suc, zero, ◌+◌, ◌-◌, ◌<◌, ◌≤◌, true, false, List, [], ◌∷◌, get_or, refl, sym, subst, inl, inr, arith, ◌⊎◌}
use Rattle.std.proofs.lemmas.Bool.{cases_lt, both_ways, and_parts, and_from, or_cases, or_left, or_right, eqb-true, eq-eqb, leb-true, le-leb}
use Rattle.std.specs.List.{Contains}
use Rattle.vx_layout.specs.declared.rect.Rect.{Rect}
use Rattle.vx_layout.specs.Borders.{SplitsAtLines}
use Rattle.vx_layout.specs.Bounds.{RisesAbove, Rises, last_after, last}
use Rattle.vx_layout.specs.Faults.{NoneBetween, IsSpan, IsTile, LiesIn, SameSides, SplitsWell}
use Rattle.vx_layout.specs.inner.Lines.{AreNextBounds, is_line, none_between, splits_by}
use Rattle.vx_layout.specs.Rects.{IsPart, holds}
use Rattle.vx_layout.proofs.Holding.{holds_tells, holds_from}
use Rattle.vx_layout.proofs.Rising.{RisesAbove-get_or, bound_at}

pub Contains-cons : (a : ℕ) (bs : List ℕ) (c : ℕ) → Contains bs c → Contains (a ∷ bs) c
Contains-cons a bs c (k, short, is) = (suc k, omega arith, is)

pub Contains-cases : (a : ℕ) (bs : List ℕ) (c : ℕ) → Contains (a ∷ bs) c → (a ≡ c) ⊎ Contains bs c
Contains-cases a bs c (zero, short, is) = inl is
Contains-cases a bs c (suc k, short, is) = inr (k, omega arith, is)

pub Contains-above : (a : ℕ) (bs : List ℕ) (c : ℕ) → RisesAbove a bs → Contains bs c → a < c
Contains-above a bs c rises inside =
    let at = bound_at bs c inside in
    let above = RisesAbove-get_or a bs at.0 rises at.1 in
    omega (arith, at.2, above)

-- the tile column or row that x lies in
pub record SpanAt (bounds : List ℕ) (x : ℕ) : Type 0 where
  pub a : ℕ
  pub b : ℕ
  pub span : IsSpan bounds a b
  pub low : a ≤ x
  pub high : x < b

span_after : (a : ℕ) (bs : List ℕ) (x : ℕ) → RisesAbove a bs → a ≤ x → x < last_after a bs → SpanAt (a ∷ bs) x
span_after a [] x rises low high = absurd (omega arith)
span_after a (b ∷ bs) x rises low high =
    elim (cases_lt x b) [
      | inl here ↦ record {
        a = a;
        b = b;
        span = record {
          begins = (0, omega arith, refl);
          ends = (1, omega arith, refl);
          rises = rises.0;
          next = λ c inside above.
              elim (Contains-cases a (b ∷ bs) c inside) [
                | inl e ↦ absurd (omega arith)
                | inr later ↦
                    elim (Contains-cases b bs c later) [
                      | inl e ↦ omega arith
                      | inr behind ↦ let up = Contains-above b bs c rises.1 behind in omega arith
                    ]
              ];
        };
        low = low;
        high = here;
      }
      | inr later ↦
          let rest = span_after b bs x rises.1 later high in
          record {
            a = rest.a;
            b = rest.b;
            span = record {
              begins = Contains-cons a (b ∷ bs) rest.a rest.span.begins;
              ends = Contains-cons a (b ∷ bs) rest.b rest.span.ends;
              rises = rest.span.rises;
              next = λ c inside above.
                  elim (Contains-cases a (b ∷ bs) c inside) [
                    | inl e ↦ let up = Contains-above a (b ∷ bs) rest.a rises rest.span.begins in absurd (omega arith)
                    | inr behind ↦ rest.span.next c behind above
                  ];
            };
            low = rest.low;
            high = rest.high;
          }
    ]

pub span_at : (bounds : List ℕ) (x : ℕ) → Rises bounds → x < last bounds → SpanAt bounds x
span_at [] x rises h = absurd (omega arith)
span_at (a ∷ bs) x rises h = span_after a bs x rises.1 (omega (arith, rises.0)) h

-- the tile that a CTU lies in
pub record TileAt (columns rows : List ℕ) (x y : ℕ) : Type 0 where
  pub t : Rect
  pub tile : IsTile columns rows t
  pub here : holds t x y ≡ true

pub tile_at : (columns rows : List ℕ) (x y : ℕ) → Rises columns → Rises rows → x < last columns → y < last rows → TileAt columns rows x y
tile_at columns rows x y c r v w =
    let across = span_at columns x c v in
    let down = span_at rows y r w in
    let t : Rect = record { x = across.a; y = down.a; w = across.b - across.a; h = down.b - down.a } in
    let right : across.a + (across.b - across.a) ≡ across.b = omega (arith, across.span.rises) in
    let bottom : down.a + (down.b - down.a) ≡ down.b = omega (arith, down.span.rises) in
    record {
      t = t;
      tile = record {
        across = subst (λ n. IsSpan columns across.a n) (sym right) across.span;
        down = subst (λ n. IsSpan rows down.a n) (sym bottom) down.span;
      };
      here = holds_from t x y across.low (omega (arith, across.high)) down.low (omega (arith, down.high));
    }

-- a bound that doesn't pass strictly between two others
at_or_below : (low c high : ℕ) → (low < c → high ≤ c) → c < high → c ≤ low
at_or_below low c high next h = elim (cases_lt low c) [ inl less ↦ let past : high ≤ c = next less in absurd (omega arith) | inr level ↦ level ]

pub SplitsWell-from : (columns rows : List ℕ) (s : Rect) → SplitsAtLines columns rows s → SplitsWell columns rows s
SplitsWell-from columns rows s lines = λ t tile meet.
    let in_t = holds_tells t meet.0 meet.1 meet.2 in
    let in_s = holds_tells s meet.0 meet.1 meet.3 in
    let left : s.x ≤ t.x = at_or_below t.x s.x (t.x + t.w) (tile.across.next s.x lines.left) (omega (arith, in_t, in_s)) in
    let right : t.x + t.w ≤ s.x + s.w = tile.across.next (s.x + s.w) lines.right (omega (arith, in_t, in_s)) in
    elim lines.ends [
      | inl ends ↦
          let top : s.y ≤ t.y = at_or_below t.y s.y (t.y + t.h) (tile.down.next s.y ends.0) (omega (arith, in_t, in_s)) in
          let bottom : t.y + t.h ≤ s.y + s.h = tile.down.next (s.y + s.h) ends.1 (omega (arith, in_t, in_s)) in
          inl (λ i j h. let p = holds_tells t i j h in holds_from s i j (omega (arith, p)) (omega (arith, p)) (omega (arith, p)) (omega (arith, p)))
      | inr apart ↦
          let t_left : t.x ≤ s.x = at_or_below s.x t.x (s.x + s.w) (apart.0 t.x tile.across.begins) (omega (arith, in_t, in_s)) in
          let t_right : s.x + s.w ≤ t.x + t.w = apart.0 (t.x + t.w) tile.across.ends (omega (arith, in_t, in_s)) in
          let t_top : t.y ≤ s.y = at_or_below s.y t.y (s.y + s.h) (apart.1 t.y tile.down.begins) (omega (arith, in_t, in_s)) in
          let t_bottom : s.y + s.h ≤ t.y + t.h = apart.1 (t.y + t.h) tile.down.ends (omega (arith, in_t, in_s)) in
          let same_left : s.x ≡ t.x = omega arith in
          let same_right : s.x + s.w ≡ t.x + t.w = omega arith in
          inr (λ i j h. let p = holds_tells s i j h in holds_from t i j (omega (arith, p)) (omega (arith, p)) (omega (arith, p)) (omega (arith, p)), (same_left, same_right))
    ]

-- a tile that holds the subpicture between its own sides
at_lines_held : (columns rows : List ℕ) (s t : Rect) → 0 < s.w → 0 < s.h → IsTile columns rows t → LiesIn s t → SameSides s t → SplitsAtLines columns rows s
at_lines_held columns rows s t wide high tile inside sides =
    let first = holds_tells t s.x s.y (inside s.x s.y (holds_from s s.x s.y (omega arith) (omega arith) (omega arith) (omega arith))) in
    let low : ℕ = s.y + s.h - 1 in
    let final = holds_tells t s.x low (inside s.x low (holds_from s s.x low (omega arith) (omega arith) (omega arith) (omega arith))) in
    record {
      left = subst (λ n. Contains columns n) (sym sides.0) tile.across.begins;
      right = subst (λ n. Contains columns n) (sym sides.1) tile.across.ends;
      ends = inr (
        λ c bound above. let past : t.x + t.w ≤ c = tile.across.next c bound (omega (arith, sides)) in omega (arith, sides),
        λ c bound above. let past : t.y + t.h ≤ c = tile.down.next c bound (omega (arith, first)) in omega (arith, final),
      );
    }

-- a tile that lies in the subpicture lies between its borders
tile_between : (columns rows : List ℕ) (s t : Rect) → IsTile columns rows t → LiesIn t s → (s.x ≤ t.x) × (t.x + t.w ≤ s.x + s.w) × (s.y ≤ t.y) × (t.y + t.h ≤ s.y + s.h)
tile_between columns rows s t tile inside =
    let wide = tile.across.rises in
    let high = tile.down.rises in
    let right : ℕ = t.x + t.w - 1 in
    let low : ℕ = t.y + t.h - 1 in
    let first = holds_tells s t.x t.y (inside t.x t.y (holds_from t t.x t.y (omega arith) (omega arith) (omega arith) (omega arith))) in
    let final = holds_tells s right low (inside right low (holds_from t right low (omega arith) (omega arith) (omega arith) (omega arith))) in
    (first.0, omega (arith, final), first.2, omega (arith, final))

-- each CTU of the subpicture shows that its tile holds the subpicture, or lies in it
corner : (columns rows : List ℕ) (s : Rect) (x y : ℕ) → Rises columns → Rises rows → IsPart (last columns) (last rows) s → SplitsWell columns rows s → holds s x y ≡ true →
    SplitsAtLines columns rows s ⊎ ((t : Rect) × IsTile columns rows t × (holds t x y ≡ true) × LiesIn t s)
corner columns rows s x y c r part well here =
    let p = holds_tells s x y here in
    let at = tile_at columns rows x y c r (omega (arith, part.across, p)) (omega (arith, part.down, p)) in
    elim (well at.t at.tile (x, y, at.here, here)) [
      | inl inside ↦ inr (at.t, at.tile, at.here, inside)
      | inr held ↦ inl (at_lines_held columns rows s at.t part.wide part.high at.tile held.0 held.1)
    ]

pub SplitsAtLines-from : (columns rows : List ℕ) (s : Rect) → Rises columns → Rises rows → IsPart (last columns) (last rows) s → SplitsWell columns rows s → SplitsAtLines columns rows s
SplitsAtLines-from columns rows s c r part well =
    let wide = part.wide in
    let high = part.high in
    let far : ℕ = s.x + s.w - 1 in
    let low : ℕ = s.y + s.h - 1 in
    elim (corner columns rows s s.x s.y c r part well (holds_from s s.x s.y (omega arith) (omega arith) (omega arith) (omega arith))) [
      | inl done ↦ done
      | inr first ↦
          elim (corner columns rows s far s.y c r part well (holds_from s far s.y (omega arith) (omega arith) (omega arith) (omega arith))) [
            | inl done ↦ done
            | inr second ↦
                elim (corner columns rows s s.x low c r part well (holds_from s s.x low (omega arith) (omega arith) (omega arith) (omega arith))) [
                  | inl done ↦ done
                  | inr third ↦
                      let at_first = holds_tells first.0 s.x s.y first.2 in
                      let in_first = tile_between columns rows s first.0 first.1 first.3 in
                      let at_second = holds_tells second.0 far s.y second.2 in
                      let in_second = tile_between columns rows s second.0 second.1 second.3 in
                      let at_third = holds_tells third.0 s.x low third.2 in
                      let in_third = tile_between columns rows s third.0 third.1 third.3 in
                      record {
                        left = subst (λ n. Contains columns n) (omega (arith, at_first, in_first)) first.1.across.begins;
                        right = subst (λ n. Contains columns n) (omega (arith, at_second, in_second)) second.1.across.ends;
                        ends = inl (
                          subst (λ n. Contains rows n) (omega (arith, at_first, in_first)) first.1.down.begins,
                          subst (λ n. Contains rows n) (omega (arith, at_third, in_third)) third.1.down.ends,
                        );
                      }
                ]
          ]
    ]

is_line_tells : (bounds next : List ℕ) (x : ℕ) → AreNextBounds bounds next → x ≤ last bounds → is_line next x ≡ true → Contains bounds x
is_line_tells bounds next x table low e =
    let each = table.each x (omega (arith, table.long)) in
    subst (λ n. Contains bounds n) (eqb-true _ _ e) each.bound

is_line_from : (bounds next : List ℕ) (x : ℕ) → AreNextBounds bounds next → x ≤ last bounds → Contains bounds x → is_line next x ≡ true
is_line_from bounds next x table low inside =
    let each = table.each x (omega (arith, table.long)) in
    let below : get_or next x 0 ≤ x = each.first x inside (omega arith) in
    eq-eqb _ _ (omega (arith, each.reaches))

none_between_tells : (bounds next : List ℕ) (a b : ℕ) → AreNextBounds bounds next → a + 1 ≤ last bounds → none_between next a b ≡ true → NoneBetween bounds a b
none_between_tells bounds next a b table low e = λ c inside above.
    let each = table.each (a + 1) (omega (arith, table.long)) in
    let first : get_or next (a + 1) 0 ≤ c = each.first c inside (omega arith) in
    omega (arith, leb-true _ _ e)

none_between_from : (bounds next : List ℕ) (a b : ℕ) → AreNextBounds bounds next → a + 1 ≤ last bounds → NoneBetween bounds a b → none_between next a b ≡ true
none_between_from bounds next a b table low none =
    let each = table.each (a + 1) (omega (arith, table.long)) in
    le-leb _ _ (none (get_or next (a + 1) 0) each.bound (omega (arith, each.reaches)))

pub splits_by_tells : (columns rows next_columns next_rows : List ℕ) (s : Rect) → AreNextBounds columns next_columns → AreNextBounds rows next_rows → IsPart (last columns) (last rows) s → splits_by next_columns next_rows s ≡ true → SplitsAtLines columns rows s
unfolding splits_by
splits_by_tells columns rows next_columns next_rows s c r part h =
    let wide = part.wide in
    let high = part.high in
    let across = part.across in
    let down = part.down in
    let both = and_parts _ _ h in
    let sides = and_parts _ _ both.0 in
    record {
      left = is_line_tells columns next_columns s.x c (omega arith) sides.0;
      right = is_line_tells columns next_columns (s.x + s.w) c (omega arith) sides.1;
      ends =
          elim (or_cases _ _ both.1) [
            | inl lines ↦
                let ends = and_parts _ _ lines in
                inl (is_line_tells rows next_rows s.y r (omega arith) ends.0, is_line_tells rows next_rows (s.y + s.h) r (omega arith) ends.1)
            | inr none ↦
                let apart = and_parts _ _ none in
                inr (none_between_tells columns next_columns s.x (s.x + s.w) c (omega arith) apart.0, none_between_tells rows next_rows s.y (s.y + s.h) r (omega arith) apart.1)
          ];
    }

pub splits_by_from : (columns rows next_columns next_rows : List ℕ) (s : Rect) → AreNextBounds columns next_columns → AreNextBounds rows next_rows → IsPart (last columns) (last rows) s → SplitsAtLines columns rows s → splits_by next_columns next_rows s ≡ true
unfolding splits_by
splits_by_from columns rows next_columns next_rows s c r part lines =
    let wide = part.wide in
    let high = part.high in
    let across = part.across in
    let down = part.down in
    let sides = and_from _ _ (is_line_from columns next_columns s.x c (omega arith) lines.left) (is_line_from columns next_columns (s.x + s.w) c (omega arith) lines.right) in
    elim lines.ends [
      | inl ends ↦ and_from _ _ sides (or_left _ _ (and_from _ _ (is_line_from rows next_rows s.y r (omega arith) ends.0) (is_line_from rows next_rows (s.y + s.h) r (omega arith) ends.1)))
      | inr none ↦ and_from _ _ sides (or_right _ _ (and_from _ _ (none_between_from columns next_columns s.x (s.x + s.w) c (omega arith) none.0) (none_between_from rows next_rows s.y (s.y + s.h) r (omega arith) none.1)))
    ]

-- the test by tables, in both directions
pub SplitsWell-at : (columns rows next_columns next_rows : List ℕ) (s : Rect) → AreNextBounds columns next_columns → AreNextBounds rows next_rows → IsPart (last columns) (last rows) s → splits_by next_columns next_rows s ≡ true → SplitsWell columns rows s
SplitsWell-at columns rows next_columns next_rows s c r part h = SplitsWell-from columns rows s (splits_by_tells columns rows next_columns next_rows s c r part h)

pub SplitsWell-refuted : (columns rows next_columns next_rows : List ℕ) (s : Rect) → Rises columns → Rises rows → AreNextBounds columns next_columns → AreNextBounds rows next_rows → IsPart (last columns) (last rows) s →
    splits_by next_columns next_rows s ≡ false → SplitsWell columns rows s → ⊥
SplitsWell-refuted columns rows next_columns next_rows s rises_c rises_r c r part h well =
    both_ways _ h (splits_by_from columns rows next_columns next_rows s c r part (SplitsAtLines-from columns rows s rises_c rises_r part well))
