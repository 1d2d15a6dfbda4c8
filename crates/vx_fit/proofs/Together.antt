-- Rules that no region breaks hold of all regions, and the other way round.
use Rattle.std.proofs.Common.{◌≡◌, ℕ, ◌%◌, ◌<◌, ◌≤◌, List, length, get_or, map, sym, subst, inl, inr, arith}
use Rattle.std.proofs.lemmas.Bool.{cases_eq}
use Rattle.std.proofs.lemmas.List.{get_or_default, get_or-map, length-map}
use Rattle.std.specs.List.{All, AllPairs}
use Rattle.vx_fit.specs.declared.placed.Placed.{Placed}
use Rattle.vx_fit.specs.FitFaults.{ComesTooEarly, IsOffGrid, OverlapsLower, nowhere, region_at}
use Rattle.vx_fit.specs.Placing.{IsOnGrid, IsTooLarge, Overlap, frame_height, frame_width, greatest_size, in_ctus}
use Rattle.vx_layout.specs.declared.rect.Rect.{Rect}
use Rattle.vx_layout.specs.Layouts.{no_rect}
use Rattle.vx_layout.specs.Rects.{Precedes}

pub small_enough : (ps : List Placed) → frame_width ps ≤ greatest_size → frame_height ps ≤ greatest_size → ¬ IsTooLarge ps
small_enough ps wide high (inl wider) = omega (arith, wide, wider)
small_enough ps wide high (inr higher) = omega (arith, high, higher)

on_grid_or_not : (ctb : ℕ) (p : Placed) → ¬ ¬ IsOnGrid ctb p → IsOnGrid ctb p
on_grid_or_not ctb p sure =
    elim (cases_eq (p.x % ctb) 0) [
      | inr off ↦ absurd (sure (λ on. off on.0))
      | inl left ↦ elim (cases_eq (p.y % ctb) 0) [ inr off ↦ absurd (sure (λ on. off on.1)) | inl top ↦ (left, top) ]
    ]

pub grid_all : (ps : List Placed) (ctb : ℕ) → ((k : ℕ) → k < length ps → ¬ IsOffGrid ps ctb k) → All (IsOnGrid ctb) ps
grid_all ps ctb none = λ k d short. subst (IsOnGrid ctb) (get_or_default ps k nowhere d short) (on_grid_or_not ctb (region_at ps k) (none k short))

pub grid_none : (ps : List Placed) (ctb k : ℕ) → All (IsOnGrid ctb) ps → k < length ps → ¬ IsOffGrid ps ctb k
grid_none ps ctb k all short off = off (all k nowhere short)

pub apart_all : (ps : List Placed) → ((k : ℕ) → k < length ps → ¬ OverlapsLower ps k) → AllPairs (λ p q. ¬ Overlap p q) ps
apart_all ps none = λ i j d less short both.
    let first : get_or ps i d ≡ region_at ps i = get_or_default ps i d nowhere (omega arith) in
    let second : get_or ps j d ≡ region_at ps j = get_or_default ps j d nowhere short in
    none j short (i, less, subst (λ p. Overlap p (region_at ps j)) first (subst (λ q. Overlap (get_or ps i d) q) second both))

pub apart_none : (ps : List Placed) (k : ℕ) → AllPairs (λ p q. ¬ Overlap p q) ps → k < length ps → ¬ OverlapsLower ps k
apart_none ps k apart short some = apart some.0 k nowhere some.1 short some.2

Precedes-stable : (r s : Rect) → ¬ ¬ Precedes r s → Precedes r s
Precedes-stable r s sure = λ x y on. (λ beside. sure (λ order. (order x y on).0 beside), λ below. sure (λ order. (order x y on).1 below))

-- a region's CTUs in the list of all regions' CTUs
ctus_at : (ps : List Placed) (ctb k : ℕ) (d : Rect) → k < length ps → get_or (map (in_ctus ctb) ps) k d ≡ in_ctus ctb (region_at ps k)
ctus_at ps ctb k d short = get_or-map (in_ctus ctb) ps k nowhere d short

pub order_all : (ps : List Placed) (ctb : ℕ) → ((k : ℕ) → k < length ps → ¬ ComesTooEarly ps ctb k) → AllPairs Precedes (map (in_ctus ctb) ps)
order_all ps ctb none = λ i j d less low.
    let short : j < length ps = omega (arith, low, length-map ps (in_ctus ctb)) in
    subst (λ r. Precedes r (get_or (map (in_ctus ctb) ps) j d)) (sym (ctus_at ps ctb i d (omega arith)))
    (subst (λ s. Precedes (in_ctus ctb (region_at ps i)) s) (sym (ctus_at ps ctb j d short))
    (Precedes-stable _ _ (λ early. none i (omega arith) (j, less, short, early))))

pub order_none : (ps : List Placed) (ctb k : ℕ) → AllPairs Precedes (map (in_ctus ctb) ps) → k < length ps → ¬ ComesTooEarly ps ctb k
order_none ps ctb k order short some =
    let low : some.0 < length (map (in_ctus ctb) ps) = omega (arith, some.2, length-map ps (in_ctus ctb)) in
    some.3
    (subst (λ s. Precedes (in_ctus ctb (region_at ps k)) s) (ctus_at ps ctb some.0 no_rect some.2)
    (subst (λ r. Precedes r (get_or (map (in_ctus ctb) ps) some.0 no_rect)) (ctus_at ps ctb k no_rect short) (order k some.0 no_rect some.1 low)))
