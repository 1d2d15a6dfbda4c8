-- Which subpicture a slice lies in, and what adding it to its group does.
use Rattle.std.proofs.Common.{◌≡◌, ◌≢◌, ℕ, ◌+◌, ◌-◌, ◌<◌, ◌≤◌, true, false, cond, List, [], ◌∷◌, ◌++◌, length, get_or, take, count_by, map, ap, sym, ◌∙◌, subst, arith, ◌⊎◌}
use Rattle.std.proofs.lemmas.Bool.{both_ways}
use Rattle.std.proofs.lemmas.List.{get_or_default, get_or-map, length-map, same_lists}
use Rattle.std.proofs.lemmas.List.Elements.{filter_more}
use Rattle.std.proofs.lemmas.List.Folds.{flat_map-map}
use Rattle.std.proofs.Math.Seq.{take-length}
use Rattle.std.specs.List.{All, Any, flat_map}
use Rattle.vx_layout.specs.declared.grid.Grid.{Grid}
use Rattle.vx_layout.specs.declared.rect.Rect.{Rect}
use Rattle.vx_layout.specs.inner.Groups.{AreGroups, Adds, IsOwner}
use Rattle.vx_layout.specs.inner.Marks.{IsMapOf, IsMark, mark_at}
use Rattle.vx_layout.specs.Rects.{holds, fits, IsPart, slices_of_subpicture, in_order}
use Rattle.vx_layout.proofs.Holding.{holds_tells, holds_from, fits_empty}
use Rattle.vx_layout.proofs.Counting.{holds-fits, same_place}

-- the corner CTU of a slice
pub corner_held : (r : Rect) → 0 < r.w → 0 < r.h → holds r r.x r.y ≡ true
corner_held r wide high = holds_from r r.x r.y (omega arith) (omega arith) (omega arith) (omega arith)

-- a slice that begins outside the picture lies in no subpicture
pub no_owner-outside : (subpics : List Rect) (r : Rect) (w h : ℕ) → 0 < r.w → 0 < r.h → All (IsPart w h) subpics → (r.x < w → r.y < h → ⊥) → Any (λ s. fits r s ≡ true) subpics → ⊥
no_owner-outside subpics r w h wide high parts off some =
    let s : Rect = some.1 in
    let part : IsPart w h s = subst (λ t. IsPart w h t) some.3 (parts some.0 s some.2) in
    let p = holds_tells s r.x r.y (holds-fits r s r.x r.y some.4 (corner_held r wide high)) in
    off (omega (arith, p, part.across)) (omega (arith, p, part.down))

-- the subpicture of its corner CTU is the only one that can hold a slice
pub owner_only : (g : Grid) (subpics : List Rect) (r : Rect) (w h m : ℕ) → IsMapOf g subpics w h → 0 < r.w → 0 < r.h → r.x < w → r.y < h → m ≡ mark_at g r.x r.y →
    (m - 1 < length subpics) × ((j : ℕ) (d : Rect) → j < length subpics → fits r (get_or subpics j d) ≡ true → j ≡ m - 1)
owner_only g subpics r w h m map wide high v u is =
    let mark : IsMark subpics (length subpics) r.x r.y (mark_at g r.x r.y) = map.marks r.x r.y (omega (arith, map.width_is)) (omega (arith, map.height_is)) in
    let marked : mark_at g r.x r.y ≢ 0 = map.all r.x r.y v u in
    let low : mark_at g r.x r.y ≤ length subpics = mark.place marked in
    let place : m - 1 ≡ mark_at g r.x r.y - 1 = ap (λ n. n - 1) is in
    let short : m - 1 < length subpics = omega (arith, place, low, marked) in
    let once : count_by (λ s. holds s r.x r.y) subpics ≡ 1 = ap (λ t. count_by (λ s. holds s r.x r.y) t) (sym (take-length subpics)) ∙ mark.one marked in (
      short,
      λ j d k f.
          let here : holds (get_or subpics (m - 1) d) r.x r.y ≡ true = rw place (mark.holder marked d) in
          let there : holds (get_or subpics j d) r.x r.y ≡ true = holds-fits r (get_or subpics j d) r.x r.y f (corner_held r wide high) in
          same_place (λ s. holds s r.x r.y) subpics j (m - 1) d (omega arith) k short there here,
    )

pub IsOwner-from : (g : Grid) (subpics : List Rect) (r s : Rect) (w h m : ℕ) → IsMapOf g subpics w h → 0 < r.w → 0 < r.h → r.x < w → r.y < h → m ≡ mark_at g r.x r.y → s ≡ get_or subpics (m - 1) s → fits r s ≡ true → IsOwner subpics r (m - 1)
IsOwner-from g subpics r s w h m map wide high v u is at f =
    let only = owner_only g subpics r w h m map wide high v u is in
    record {
      short = only.0;
      inside = λ d. rw (get_or_default subpics (m - 1) d s only.0, ← at) f;
      only = only.1;
    }

pub no_owner : (g : Grid) (subpics : List Rect) (r s : Rect) (w h m : ℕ) → IsMapOf g subpics w h → 0 < r.w → 0 < r.h → r.x < w → r.y < h → m ≡ mark_at g r.x r.y → s ≡ get_or subpics (m - 1) s → fits r s ≡ false → Any (λ t. fits r t ≡ true) subpics → ⊥
no_owner g subpics r s w h m map wide high v u is at f some =
    let only = owner_only g subpics r w h m map wide high v u is in
    let t : Rect = some.1 in
    let same : some.0 ≡ m - 1 = only.1 some.0 t some.2 (rw some.3 some.4) in
    let t_is : t ≡ s = sym some.3 ∙ (ap (λ n. get_or subpics n t) same ∙ (get_or_default subpics (m - 1) t s only.0 ∙ sym at)) in
    both_ways _ f (subst (λ q. fits r q ≡ true) t_is some.4)

-- an owner is a subpicture that holds the slice
pub Any-owner : (subpics : List Rect) (r : Rect) (i : ℕ) → IsOwner subpics r i → Any (λ s. fits r s ≡ true) subpics
Any-owner subpics r i owner =
    let s : Rect = get_or subpics i r in
    (i, s, owner.short, get_or_default subpics i s r owner.short, owner.inside r)

-- a slice without a CTU lies in the first subpicture
pub Any-empty : (subpics : List Rect) (r : Rect) → 1 ≤ length subpics → (r.w ≡ 0) ⊎ (r.h ≡ 0) → Any (λ s. fits r s ≡ true) subpics
Any-empty subpics r some empty =
    let s : Rect = get_or subpics 0 r in
    (0, s, some, get_or_default subpics 0 s r some, fits_empty r s empty)

-- and is added to each group
pub Adds-empty : (before after : List (List Rect)) (r : Rect) (subpics : List Rect) → (r.w ≡ 0) ⊎ (r.h ≡ 0) → length after ≡ length before → ((i : ℕ) (e : List Rect) → i < length before → get_or after i e ≡ get_or before i e ++ r ∷ []) → Adds before after r subpics
Adds-empty before after r subpics empty long each = record {
  long = long;
  each = λ i d e short. rw (fits_empty r (get_or subpics i d) empty) (each i e short);
}

-- groups of the slices so far, and of one more
pub AreGroups-more : (before after : List (List Rect)) (slices subpics : List Rect) (k : ℕ) (r : Rect) → k < length slices → r ≡ get_or slices k r → AreGroups before (take k slices) subpics → Adds before after r subpics → AreGroups after (take (k + 1) slices) subpics
AreGroups-more before after slices subpics k r short is groups adds = record {
  long = adds.long ∙ groups.long;
  each = λ i d e low.
      let s : Rect = get_or subpics i d in
      let more : slices_of_subpicture (take (k + 1) slices) s ≡ slices_of_subpicture (take k slices) s ++ cond (fits (get_or slices k r) s) (get_or slices k r ∷ []) [] =
      filter_more (λ t. fits t s) slices k r short
      in
      let same : cond (fits (get_or slices k r) s) (get_or slices k r ∷ []) [] ≡ cond (fits r s) (r ∷ []) [] = ap (λ t. cond (fits t s) (t ∷ []) []) (sym is) in
      adds.each i d e (omega (arith, groups.long)) ∙ (ap (λ t. t ++ cond (fits r s) (r ∷ []) []) (groups.each i d e low) ∙ (ap (λ t. slices_of_subpicture (take k slices) s ++ t) (sym same) ∙ sym more));
}

-- the groups one after another are the slices in order
pub in_order-groups : (groups : List (List Rect)) (slices subpics : List Rect) → AreGroups groups slices subpics → flat_map (λ g. g) groups ≡ in_order slices subpics
in_order-groups groups slices subpics g =
    let none : Rect = record { x = 0; y = 0; w = 0; h = 0 } in
    let same : groups ≡ map (slices_of_subpicture slices) subpics =
    same_lists groups (map (slices_of_subpicture slices) subpics) (g.long ∙ sym (length-map subpics (slices_of_subpicture slices)))
    (λ k e short.
    let low : k < length subpics = omega (arith, g.long) in
    g.each k none e low ∙ sym (get_or-map (slices_of_subpicture slices) subpics k none e low))
    in
    ap (λ t. flat_map (λ x. x) t) same ∙ flat_map-map (λ x. x) (slices_of_subpicture slices) subpics
