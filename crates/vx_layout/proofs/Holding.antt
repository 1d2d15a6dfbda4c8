-- Rectangles by their borders: which CTUs lie in them, which rectangles lie in others, and which are the same.
use Rattle.std.proofs.Common.{◌≡◌, ℕ, zero, suc, ◌+◌, ◌<◌, ◌≤◌, true, false, ◌||◌, eqb, refl, ap, ◌∙◌, inl, inr, arith, ◌⊎◌}
use Rattle.std.proofs.lemmas.Bool.{and_parts, and_from, leb-true, ltb-true, le-leb, lt-ltb, or_cases, or_left, or_right, eqb-true, eqb-false, eq-eqb, or_parts}
use Rattle.vx_layout.specs.declared.rect.Rect.{Rect}
use Rattle.vx_layout.specs.Rects.{holds, fits}

pub holds_tells : (r : Rect) (x y : ℕ) → holds r x y ≡ true → (r.x ≤ x) × (x < r.x + r.w) × (r.y ≤ y) × (y < r.y + r.h)
unfolding holds
holds_tells r x y h =
    let both = and_parts _ _ h in
    let across = and_parts _ _ both.0 in
    let down = and_parts _ _ both.1 in
    (leb-true _ _ across.0, ltb-true _ _ across.1, leb-true _ _ down.0, ltb-true _ _ down.1)

pub holds_from : (r : Rect) (x y : ℕ) → r.x ≤ x → x < r.x + r.w → r.y ≤ y → y < r.y + r.h → holds r x y ≡ true
unfolding holds
holds_from r x y a b c d =
    and_from _ _ (and_from _ _ (le-leb _ _ a) (lt-ltb _ _ b)) (and_from _ _ (le-leb _ _ c) (lt-ltb _ _ d))

-- inner has no CTU, or its borders are within those of outer
pub fits_tells : (inner outer : Rect) → fits inner outer ≡ true → ((inner.w ≡ 0) ⊎ (inner.h ≡ 0)) ⊎ ((outer.x ≤ inner.x) × (inner.x + inner.w ≤ outer.x + outer.w) × (outer.y ≤ inner.y) × (inner.y + inner.h ≤ outer.y + outer.h))
unfolding fits
fits_tells inner outer h =
    elim (or_cases _ _ h) [
      | inl empty ↦ elim (or_cases _ _ empty) [ inl e ↦ inl (inl (eqb-true _ _ e)) | inr e ↦ inl (inr (eqb-true _ _ e)) ]
      | inr inside ↦
          let both = and_parts _ _ inside in
          let across = and_parts _ _ both.0 in
          let down = and_parts _ _ both.1 in
          inr (leb-true _ _ across.0, leb-true _ _ across.1, leb-true _ _ down.0, leb-true _ _ down.1)
    ]

pub fits_from : (inner outer : Rect) → outer.x ≤ inner.x → inner.x + inner.w ≤ outer.x + outer.w → outer.y ≤ inner.y → inner.y + inner.h ≤ outer.y + outer.h → fits inner outer ≡ true
unfolding fits
fits_from inner outer a b c d =
    or_right _ _ (and_from _ _ (and_from _ _ (le-leb _ _ a) (le-leb _ _ b)) (and_from _ _ (le-leb _ _ c) (le-leb _ _ d)))

pub fits_empty : (inner outer : Rect) → (inner.w ≡ 0) ⊎ (inner.h ≡ 0) → fits inner outer ≡ true
unfolding fits
fits_empty inner outer (inl e) = or_left _ _ (or_left _ _ (eq-eqb _ _ e))
fits_empty inner outer (inr e) = or_left _ _ (or_right _ _ (eq-eqb _ _ e))

pub is_empty_tells : (w h : ℕ) → (eqb w 0 || eqb h 0) ≡ true → (w ≡ 0) ⊎ (h ≡ 0)
is_empty_tells w h e = elim (or_cases _ _ e) [ inl wide ↦ inl (eqb-true _ _ wide) | inr high ↦ inr (eqb-true _ _ high) ]

above_zero : (n : ℕ) → (n ≡ 0 → ⊥) → 0 < n
above_zero zero f = absurd (f refl)
above_zero (suc n) f = omega arith

pub is_empty_fails : (w h : ℕ) → (eqb w 0 || eqb h 0) ≡ false → (0 < w) × (0 < h)
is_empty_fails w h e =
    let both = or_parts _ _ e in
    let wide : w ≡ 0 → ⊥ = eqb-false w 0 both.0 in
    let high : h ≡ 0 → ⊥ = eqb-false h 0 both.1 in
    (above_zero w wide, above_zero h high)

-- rectangles of the same corner and size are the same
pub same_rect : (t u : Rect) → t.x ≡ u.x → t.y ≡ u.y → t.w ≡ u.w → t.h ≡ u.h → t ≡ u
same_rect t u a b c d =
    let made : ℕ → ℕ → ℕ → ℕ → Rect = λ x y w h. record { x = x; y = y; w = w; h = h } in
    ap (λ n. made n t.y t.w t.h) a ∙ (ap (λ n. made u.x n t.w t.h) b ∙ (ap (λ n. made u.x u.y n t.h) c ∙ ap (λ n. made u.x u.y u.w n) d))
