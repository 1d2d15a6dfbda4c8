-- A subpicture's layout counted from its corner.
use Rattle.std.proofs.Common.{◌≡◌, ℕ, suc, zero, ◌+◌, ◌-◌, ◌<◌, ◌≤◌, true, cond, ◌&&◌, ltb, List, [], ◌∷◌, ◌++◌, length, get_or, take, count_by, map, refl, ap, sym, ◌∙◌, subst, inl, inr, arith, length-append}
use Rattle.std.proofs.lemmas.Bool.{cases_Bool, both_ways, false_from_ne_true}
use Rattle.std.proofs.lemmas.List.{get_or-map, length-map}
use Rattle.std.proofs.lemmas.List.Concat.{get_or-flat_map}
use Rattle.std.proofs.lemmas.List.Elements.{All-head, All-map, All-tail, All-weaker, Contains-append_right}
use Rattle.std.proofs.lemmas.List.Folds.{length-flat_map-take}
use Rattle.std.proofs.lemmas.List.Sums.{count_by-le-length}
use Rattle.std.specs.List.{All, AllPairs, Contains}
use Rattle.vx_layout.specs.declared.numbers.Numbers.{Numbers}
use Rattle.vx_layout.specs.declared.rect.Rect.{Rect}
use Rattle.vx_layout.specs.Bounds.{Rises, last}
use Rattle.vx_layout.specs.Faults.{IsLayout, width, height}
use Rattle.vx_layout.specs.Frames.{with_one_subpic}
use Rattle.vx_layout.specs.Layouts.{HasLayout, no_rect, slices_in, subpic_at}
use Rattle.vx_layout.specs.Rects.{CoversOnce, IsPart, Precedes, fits, holds, in_order, slices_of_subpicture, whole_picture}
use Rattle.vx_layout.specs.Regions.{counted_from, cut_bounds, inner, region_of}
use Rattle.vx_layout.proofs.Alone.{layout-alone}
use Rattle.vx_layout.proofs.Counting.{All-slices_of, count_by-cons, length-slices_of-le, slices_all, slices_of-once}
use Rattle.vx_layout.proofs.Cutting.{CutSoFar, CutSoFar-more, CutSoFar-start, cut-all, cut-may}
use Rattle.vx_layout.proofs.Holding.{fits_empty, fits_from, fits_tells, holds_from, holds_tells}
use Rattle.vx_layout.proofs.Splitting.{Contains-cons}
use Rattle.vx_layout.proofs.Tiling.{last_after-push}

-- cut bounds are bounds
so_far : (bounds : List ℕ) (from size i : ℕ) → Rises bounds → 0 < size → i ≤ length bounds → (out : List ℕ) × CutSoFar bounds from size out i
so_far bounds from size zero rises some upto = (0 ∷ [], CutSoFar-start bounds from size some)
so_far bounds from size (suc i) rises some upto =
    let before = so_far bounds from size i rises some (omega arith) in
    let b : ℕ = get_or bounds i 0 in
    let next : i + 1 ≡ suc i = omega arith in
    let out : List ℕ = before.0 ++ cond (ltb from b && ltb b (from + size)) ((b - from) ∷ []) [] in
    (out, subst (λ n. CutSoFar bounds from size out n) next (CutSoFar-more bounds from size before.0 out i b rises refl (omega arith) refl before.1))

pub Rises-cut : (bounds : List ℕ) (from size : ℕ) → Rises bounds → 0 < size → Rises (cut_bounds bounds from size)
Rises-cut bounds from size rises some =
    let all = so_far bounds from size (length bounds) rises some (omega arith) in
    subst Rises (cut-all bounds from size all.0 (length bounds) (omega arith) all.1) (cut-may bounds from size all.0 (length bounds) all.1)

pub last-cut : (bounds : List ℕ) (from size : ℕ) → last (cut_bounds bounds from size) ≡ size
last-cut bounds from size = last_after-push 0 (map (λ b. b - from) (inner bounds from size)) size

-- cut bounds begin at 0 and end at the size
pub cut_first : (bounds : List ℕ) (from size : ℕ) → Contains (cut_bounds bounds from size) 0
cut_first bounds from size = (0, omega arith, refl)

pub cut_last : (bounds : List ℕ) (from size : ℕ) → Contains (cut_bounds bounds from size) size
cut_last bounds from size =
    let between : List ℕ = map (λ b. b - from) (inner bounds from size) in
    Contains-cons 0 (between ++ size ∷ []) size (Contains-append_right between (size ∷ []) size (0, omega arith, refl))

-- a slice that lies in s, counted from its corner, holds the CTUs moved likewise
pub holds-counted : (s r : Rect) (x y : ℕ) → fits r s ≡ true → holds (counted_from s r) x y ≡ holds r (x + s.x) (y + s.y)
holds-counted s r x y f =
    let there : holds (counted_from s r) x y ≡ true → holds r (x + s.x) (y + s.y) ≡ true = λ h.
    let p = holds_tells (counted_from s r) x y h in
    elim (fits_tells r s f) [
      | inl (inl e) ↦ absurd (omega (arith, p))
      | inl (inr e) ↦ absurd (omega (arith, p))
      | inr q ↦ holds_from r (x + s.x) (y + s.y) (omega (arith, p, q)) (omega (arith, p, q)) (omega (arith, p, q)) (omega (arith, p, q))
    ]
    in
    let back : holds r (x + s.x) (y + s.y) ≡ true → holds (counted_from s r) x y ≡ true = λ h.
    let p = holds_tells r (x + s.x) (y + s.y) h in
    elim (fits_tells r s f) [
      | inl (inl e) ↦ absurd (omega (arith, p))
      | inl (inr e) ↦ absurd (omega (arith, p))
      | inr q ↦ holds_from (counted_from s r) x y (omega (arith, p, q)) (omega (arith, p, q)) (omega (arith, p, q)) (omega (arith, p, q))
    ]
    in
    elim (cases_Bool (holds r (x + s.x) (y + s.y))) [
      | inl on ↦ back on ∙ sym on
      | inr off ↦ false_from_ne_true _ (λ on. both_ways _ off (there on)) ∙ sym off
    ]

count-counted : (s : Rect) (rects : List Rect) (x y : ℕ) → All (λ r. fits r s ≡ true) rects → count_by (λ r. holds r x y) (map (counted_from s) rects) ≡ count_by (λ r. holds r (x + s.x) (y + s.y)) rects
count-counted s [] x y f = refl
count-counted s (r ∷ rs) x y f =
    let P : Rect → Type 0 = λ r. fits r s ≡ true in
    let first : cond {A = ℕ} (holds (counted_from s r) x y) 1 0 ≡ cond (holds r (x + s.x) (y + s.y)) 1 0 = ap (λ b. cond b 1 0) (holds-counted s r x y (All-head P r rs f)) in
    let rest : count_by (λ r. holds r x y) (map (counted_from s) rs) ≡ count_by (λ r. holds r (x + s.x) (y + s.y)) rs = count-counted s rs x y (All-tail P r rs f) in
    omega (arith, count_by-cons (λ r. holds r x y) (counted_from s r) (map (counted_from s) rs), count_by-cons (λ r. holds r (x + s.x) (y + s.y)) r rs, first, rest)

fits-counted : (s r : Rect) → fits r s ≡ true → fits (counted_from s r) (whole_picture s.w s.h) ≡ true
fits-counted s r f =
    elim (fits_tells r s f) [
      | inl e ↦ fits_empty (counted_from s r) (whole_picture s.w s.h) e
      | inr q ↦ fits_from (counted_from s r) (whole_picture s.w s.h) (omega (arith, q)) (omega (arith, q)) (omega (arith, q)) (omega (arith, q))
    ]

fit-counted : (s : Rect) (rects : List Rect) → All (λ r. fits r s ≡ true) rects → All (λ r. fits r (whole_picture s.w s.h) ≡ true) (map (counted_from s) rects)
fit-counted s rects fit = All-map (λ r. fits r (whole_picture s.w s.h) ≡ true) (counted_from s) rects (All-weaker (λ r. fits r s ≡ true) (λ r. fits (counted_from s r) (whole_picture s.w s.h) ≡ true) (fits-counted s) rects fit)

Precedes-counted : (s r t : Rect) → fits r s ≡ true → fits t s ≡ true → Precedes r t → Precedes (counted_from s r) (counted_from s t)
Precedes-counted s r t f g order = λ x y on.
    let on_t : holds t (x + s.x) (y + s.y) ≡ true = sym (holds-counted s t x y g) ∙ on in
    let both = order (x + s.x) (y + s.y) on_t in
    let across : x + 1 + s.x ≡ x + s.x + 1 = omega arith in
    let down : y + 1 + s.y ≡ y + s.y + 1 = omega arith in (
      λ on_r. both.0 (subst (λ n. holds r n (y + s.y) ≡ true) across (sym (holds-counted s r (x + 1) y f) ∙ on_r)),
      λ on_r. both.1 (subst (λ n. holds r (x + s.x) n ≡ true) down (sym (holds-counted s r x (y + 1) f) ∙ on_r)),
    )

-- the slices of one subpicture stand together among the slices in order
AllPairs-slices_in : (slices subpics : List Rect) (k : ℕ) (d : Rect) → k < length subpics → AllPairs Precedes (in_order slices subpics) → AllPairs Precedes (slices_of_subpicture slices (get_or subpics k d))
AllPairs-slices_in slices subpics k d short pairs = λ i j e less low.
    let before : ℕ = length (in_order slices (take k subpics)) in
    let fit : before + length (slices_of_subpicture slices (get_or subpics k d)) ≤ length (in_order slices subpics) = length-flat_map-take (slices_of_subpicture slices) subpics k d short in
    let at_i : get_or (in_order slices subpics) (before + i) e ≡ get_or (slices_of_subpicture slices (get_or subpics k d)) i e = get_or-flat_map (slices_of_subpicture slices) subpics k i d e short (omega arith) in
    let at_j : get_or (in_order slices subpics) (before + j) e ≡ get_or (slices_of_subpicture slices (get_or subpics k d)) j e = get_or-flat_map (slices_of_subpicture slices) subpics k j d e short low in
    subst (λ t. Precedes t (get_or (slices_of_subpicture slices (get_or subpics k d)) j e)) at_i (subst (λ t. Precedes (get_or (in_order slices subpics) (before + i) e) t) at_j (pairs (before + i) (before + j) e (omega arith) (omega arith)))

pub all_fit : (n : Numbers) (k : ℕ) → All (λ r. fits r (subpic_at n k) ≡ true) (slices_in n k)
all_fit n k = All-slices_of n.slices (subpic_at n k) (λ r. fits r (subpic_at n k) ≡ true) (λ r f. f)

-- the slices of a region are the subpicture's, counted from its corner
pub slices_in-region : (n : Numbers) (k : ℕ) → slices_in (region_of n k) 0 ≡ map (counted_from (subpic_at n k)) (slices_in n k)
slices_in-region n k =
    let s : Rect = subpic_at n k in
    slices_all (map (counted_from s) (slices_in n k)) (whole_picture s.w s.h) (fit-counted s (slices_in n k) (all_fit n k))

-- a region of a layout is a layout
IsLayout-region : (n : Numbers) (k : ℕ) → HasLayout n → k < length n.subpics → IsLayout (region_of n k)
IsLayout-region n k layout short =
    let s : Rect = subpic_at n k in
    let own : Numbers = region_of n k in
    let rs : List Rect = slices_in n k in
    let part : IsPart (width n) (height n) s = layout.faultless.subpics.parts k no_rect short in
    let fit : All (λ r. fits r s ≡ true) rs = all_fit n k in
    let w_is : width own ≡ s.w = last-cut n.columns s.x s.w in
    let h_is : height own ≡ s.h = last-cut n.rows s.y s.h in
    let sized : whole_picture (width own) (height own) ≡ whole_picture s.w s.h = ap (λ w. whole_picture w (height own)) w_is ∙ ap (λ h. whole_picture s.w h) h_is in
    let cover : CoversOnce own.slices (width own) (height own) = λ x y v u.
    let here : holds s (x + s.x) (y + s.y) ≡ true = holds_from s (x + s.x) (y + s.y) (omega arith) (omega arith) (omega arith) (omega arith) in
    count-counted s rs x y fit
    ∙ (slices_of-once n.slices n.subpics (width n) (height n) k no_rect (x + s.x) (y + s.y) layout.faultless.split layout.faultless.subpics.once layout.faultless.slices short (omega (arith, part.across)) (omega (arith, part.down))
    ∙ ap (λ b. cond b 1 0) here)
    in
    let order : AllPairs Precedes own.slices = λ i j d less low.
    let low_j : j < length rs = omega (arith, length-map rs (counted_from s)) in
    let low_i : i < length rs = omega arith in
    let pairs = AllPairs-slices_in n.slices n.subpics k no_rect short layout.faultless.order i j d less low_j in
    rw (get_or-map (counted_from s) rs i d d low_i, get_or-map (counted_from s) rs j d d low_j) (Precedes-counted s (get_or rs i d) (get_or rs j d) (fit i d low_i) (fit j d low_j) pairs)
    in
    let alone : IsLayout (with_one_subpic own) =
    layout-alone own (Rises-cut n.columns s.x s.w layout.columns part.wide) (Rises-cut n.rows s.y s.h layout.rows part.high) (omega (arith, part.wide)) (omega (arith, part.high)) cover
    (subst (λ t. All (λ r. fits r t ≡ true) own.slices) (sym sized) (fit-counted s rs fit)) order
    in
    subst (λ t. IsLayout (record { columns = own.columns; rows = own.rows; slices = own.slices; subpics = t ∷ [] })) sized alone

-- and within the limits
pub HasLayout-region : (n : Numbers) (k : ℕ) → HasLayout n → k < length n.subpics → HasLayout (region_of n k)
HasLayout-region n k layout short =
    let s : Rect = subpic_at n k in
    let part : IsPart (width n) (height n) s = layout.faultless.subpics.parts k no_rect short in
    let here : holds s s.x s.y ≡ true = holds_from s s.x s.y (omega arith) (omega (arith, part.wide)) (omega arith) (omega (arith, part.high)) in
    let one : count_by (λ r. holds r s.x s.y) (slices_in n k) ≡ 1 =
    slices_of-once n.slices n.subpics (width n) (height n) k no_rect s.x s.y layout.faultless.split layout.faultless.subpics.once layout.faultless.slices short (omega (arith, part.across, part.wide)) (omega (arith, part.down, part.high)) ∙ ap (λ b. cond b 1 0) here
    in
    let some = count_by-le-length (λ r. holds r s.x s.y) (slices_in n k) in
    let few = length-slices_of-le n.slices s in
    let long = length-map (slices_in n k) (counted_from s) in
    record {
      faultless = IsLayout-region n k layout short;
      limits = record {
        columns = (omega (arith, length-append (map (λ b. b - s.x) (inner n.columns s.x s.w)) (s.w ∷ [])), omega (arith, last-cut n.columns s.x s.w, part.across, layout.limits.columns));
        rows = (omega (arith, length-append (map (λ b. b - s.y) (inner n.rows s.y s.h)) (s.h ∷ [])), omega (arith, last-cut n.rows s.y s.h, part.down, layout.limits.rows));
        slices = (omega (arith, one, some, long), omega (arith, few, long, layout.limits.slices));
        subpics = (omega arith, omega arith);
      };
      columns = Rises-cut n.columns s.x s.w layout.columns part.wide;
      rows = Rises-cut n.rows s.y s.h layout.rows part.high;
    }
