-- A region of a region: bounds that are cut twice, and numbers that are the same.
use Rattle.std.proofs.Common.{◌≡◌, ℕ, ◌+◌, ◌-◌, ◌<◌, ◌≤◌, Bool, true, false, ◌&&◌, ltb, List, [], ◌∷◌, ◌++◌, get_or, filter, map, refl, ap, ◌∙◌, inl, inr, arith}
use Rattle.std.proofs.lemmas.Bool.{and_from, and_parts, both_ways, cases_Bool, false_from_ne_true, lt-ltb, ltb-true}
use Rattle.std.proofs.lemmas.List.{append-nil}
use Rattle.std.proofs.lemmas.List.Elements.{filter-append}
use Rattle.std.proofs.lemmas.List.Folds.{map_fixed}
use Rattle.vx_layout.specs.declared.numbers.Numbers.{Numbers}
use Rattle.vx_layout.specs.declared.rect.Rect.{Rect}
use Rattle.vx_layout.specs.Layouts.{slices_in, subpic_at}
use Rattle.vx_layout.specs.Rects.{whole_picture}
use Rattle.vx_layout.specs.Regions.{counted_from, cut_bounds, inner, region_of}
use Rattle.vx_layout.proofs.Moving.{slices_in-region}

-- the bounds within the inner columns, counted from their first one: by way of the outer columns or not
inner_nested : (bounds : List ℕ) (from size inner_from inner_size : ℕ) → inner_from + inner_size ≤ size →
    map (λ b. b - inner_from) (inner (map (λ b. b - from) (inner bounds from size)) inner_from inner_size) ≡ map (λ b. b - (from + inner_from)) (inner bounds (from + inner_from) inner_size)
inner_nested [] f s g t low = refl
inner_nested (b ∷ bs) f s g t low =
    let rest = inner_nested bs f s g t low in
    elim (cases_Bool (ltb (f + g) b && ltb b (f + g + t))) [
      | inl deep ↦
          let d = and_parts _ _ deep in
          let above : f + g < b = ltb-true (f + g) b d.0 in
          let below : b < f + g + t = ltb-true b (f + g + t) d.1 in
          let outer : (ltb f b && ltb b (f + s)) ≡ true = and_from _ _ (lt-ltb f b (omega arith)) (lt-ltb b (f + s) (omega arith)) in
          let within : (ltb g (b - f) && ltb (b - f) (g + t)) ≡ true = and_from _ _ (lt-ltb g (b - f) (omega arith)) (lt-ltb (b - f) (g + t) (omega arith)) in
          let same : b - f - g ≡ b - (f + g) = omega arith in
          rw (outer, within, deep) (ap (λ n. n ∷ map (λ b. b - g) (inner (map (λ b. b - f) (inner bs f s)) g t)) same ∙ ap (λ l. (b - (f + g)) ∷ l) rest)
      | inr shallow ↦
          elim (cases_Bool (ltb f b && ltb b (f + s))) [
            | inr out ↦ rw (out, shallow) rest
            | inl outer ↦
                let o = and_parts _ _ outer in
                let above : f < b = ltb-true _ _ o.0 in
                let not_within : (ltb g (b - f) && ltb (b - f) (g + t)) ≡ false =
                false_from_ne_true _
                (λ on.
                let d = and_parts _ _ on in
                let over : g < b - f = ltb-true _ _ d.0 in
                let under : b - f < g + t = ltb-true _ _ d.1 in
                both_ways _ shallow (and_from _ _ (lt-ltb (f + g) b (omega arith)) (lt-ltb b (f + g + t) (omega arith))))
                in
                rw (outer, not_within, shallow) rest
          ]
    ]

inner-end : (bounds : List ℕ) (n from size : ℕ) → from + size ≤ n → inner (bounds ++ n ∷ []) from size ≡ inner bounds from size
inner-end bounds n from size low =
    let test : ℕ → Bool = λ b. ltb from b && ltb b (from + size) in
    let out : test n ≡ false = false_from_ne_true _ (λ on. let d = and_parts _ _ on in let under : n < from + size = ltb-true _ _ d.1 in absurd (omega arith)) in
    filter-append test bounds (n ∷ []) ∙ rw out (append-nil (filter test bounds))

pub cut_nested : (bounds : List ℕ) (from size inner_from inner_size : ℕ) → inner_from + inner_size ≤ size → cut_bounds (cut_bounds bounds from size) inner_from inner_size ≡ cut_bounds bounds (from + inner_from) inner_size
cut_nested bounds f s g t low =
    let first : (ltb g 0 && ltb 0 (g + t)) ≡ false =
    false_from_ne_true _ (λ on. let d = and_parts _ _ on in let under : g < 0 = ltb-true _ _ d.0 in absurd (omega arith))
    in
    let between : inner (cut_bounds bounds f s) g t ≡ inner (map (λ b. b - f) (inner bounds f s)) g t = rw first (inner-end (map (λ b. b - f) (inner bounds f s)) s g t low) in
    ap (λ l. 0 ∷ (map (λ b. b - g) l ++ t ∷ [])) between ∙ ap (λ l. 0 ∷ (l ++ t ∷ [])) (inner_nested bounds f s g t low)

-- numbers are the same where their parts are
pub same_numbers : (a b : Numbers) → a.columns ≡ b.columns → a.rows ≡ b.rows → a.slices ≡ b.slices → a.subpics ≡ b.subpics → a ≡ b
same_numbers a b columns rows slices subpics =
    let first : a ≡ record { columns = b.columns; rows = b.rows; slices = a.slices; subpics = a.subpics } =
    ap (λ t. record { columns = t; rows = a.rows; slices = a.slices; subpics = a.subpics }) columns
    ∙ ap (λ t. record { columns = b.columns; rows = t; slices = a.slices; subpics = a.subpics }) rows
    in
    first ∙ (ap (λ t. record { columns = b.columns; rows = b.rows; slices = t; subpics = a.subpics }) slices ∙ ap (λ t. record { columns = b.columns; rows = b.rows; slices = b.slices; subpics = t }) subpics)

-- a rectangle counted from 0, 0
counted-whole : (w h : ℕ) (r : Rect) → counted_from (whole_picture w h) r ≡ r
counted-whole w h r =
    let across : r.x - 0 ≡ r.x = omega arith in
    let down : r.y - 0 ≡ r.y = omega arith in
    rw (across, down) refl

-- the region of a region's only subpicture is the region
pub region_of-region : (n : Numbers) (k : ℕ) → region_of (region_of n k) 0 ≡ region_of n k
region_of-region n k =
    let s : Rect = subpic_at n k in
    let own : List Rect = map (counted_from s) (slices_in n k) in
    let left : s.x + 0 ≡ s.x = omega arith in
    let top : s.y + 0 ≡ s.y = omega arith in
    let columns : cut_bounds (cut_bounds n.columns s.x s.w) 0 s.w ≡ cut_bounds n.columns s.x s.w = cut_nested n.columns s.x s.w 0 s.w (omega arith) ∙ ap (λ a. cut_bounds n.columns a s.w) left in
    let rows : cut_bounds (cut_bounds n.rows s.y s.h) 0 s.h ≡ cut_bounds n.rows s.y s.h = cut_nested n.rows s.y s.h 0 s.h (omega arith) ∙ ap (λ a. cut_bounds n.rows a s.h) top in
    let whole : Rect = whole_picture s.w s.h in
    let slices : map (counted_from whole) (slices_in (region_of n k) 0) ≡ own =
    ap (λ t. map (counted_from whole) t) (slices_in-region n k) ∙ map_fixed (counted_from whole) own (λ i d low. counted-whole s.w s.h (get_or own i d))
    in
    same_numbers (region_of (region_of n k) 0) (region_of n k) columns rows slices refl
