-- It is decided which numbers are a layout, and which fault the others have: all that is asked of them is asked of numbers below
-- bounds.
use Rattle.std.proofs.Common.{◌≡◌, ◌⊎◌, inl, inr, ℕ, zero, suc, ◌+◌, ◌<◌, ◌≤◌, ◌&&◌, leb, ltb, Bool, true, false, List, [], ◌∷◌, length, get_or, refl, sym, subst, arith}
use Rattle.std.specs.Prelude.{All, Any, Contains, count_by, sum}
use Rattle.std.specs.List.{AllPairs}
use Rattle.std.proofs.lemmas.Bool.{and_parts, cases_eq, cases_lt, ltb-true, true≢false}
use Rattle.std.proofs.lemmas.List.Sums.{sum_by-cons}
use Rattle.std.proofs.lemmas.List.Elements.{All-cons, All-head, All-nil, All-tail}
use Rattle.vx_layout.specs.declared.numbers.Numbers.{Numbers}
use Rattle.vx_layout.specs.declared.rect.Rect.{Rect}
use Rattle.vx_layout.specs.Faults.{IsLayout, IsLowestFault, IsSpan, IsTile, LiesIn, Meet, NoneBetween, SlicesCover, SlicesFit, SlicesInOrder, SplitsWell, SubpicsCover, TileAgrees, TilesSplit, height, order_fault, slice_cover_fault, slice_split_fault, subpics_fault, tile_split_fault, width}
use Rattle.vx_layout.specs.Layouts.{no_rect}
use Rattle.vx_layout.specs.Rects.{CoversOnce, IsPart, Precedes, fits, holds, in_order}

-- ---- what is decided

abbrev Decided : Type 0 → Type 0
Decided P = P ⊎ ¬ P

both : {P Q : Type 0} → Decided P → Decided Q → Decided (P × Q)
both (inl p) (inl q) = inl (p, q)
both (inl p) (inr no_q) = inr (λ (a, b). no_q b)
both (inr no_p) q = inr (λ (a, b). no_p a)

either : {P Q : Type 0} → Decided P → Decided Q → Decided (P ⊎ Q)
either (inl p) q = inl (inl p)
either (inr no_p) (inl q) = inl (inr q)
either (inr no_p) (inr no_q) = inr (λ h. elim h [ inl p ↦ no_p p | inr q ↦ no_q q ])

implied : {P Q : Type 0} → Decided P → Decided Q → Decided (P → Q)
implied (inr no_p) q = inl (λ p. absurd (no_p p))
implied (inl p) (inl q) = inl (λ a. q)
implied (inl p) (inr no_q) = inr (λ f. no_q (f p))

denied : {P : Type 0} → Decided P → Decided (¬ P)
denied (inl p) = inr (λ not_so. not_so p)
denied (inr not_so) = inl not_so

same_as : {P Q : Type 0} → (P → Q) → (Q → P) → Decided P → Decided Q
same_as to back (inl p) = inl (to p)
same_as to back (inr not_so) = inr (λ q. not_so (back q))

equal : (a b : ℕ) → Decided (a ≡ b)
equal a b = cases_eq a b

is_true : (b : Bool) → Decided (b ≡ true)
is_true true = inl refl
is_true false = inr (λ e. true≢false (sym e))

less : (a b : ℕ) → Decided (a < b)
less a b = elim (cases_lt a b) [ inl is ↦ inl is | inr other ↦ inr (λ is. omega (arith, is, other)) ]

at_most : (a b : ℕ) → Decided (a ≤ b)
at_most a b = elim (cases_lt b a) [ inl is ↦ inr (λ few. omega (arith, is, few)) | inr few ↦ inl few ]

-- of all numbers below a bound, and of some
all_below : (n : ℕ) (P : ℕ → Type 0) → ((k : ℕ) → Decided (P k)) → Decided ((k : ℕ) → k < n → P k)
all_below zero P each = inl (λ k below. absurd (omega (arith, below)))
all_below (suc n) P each = elim (each n) [
  | inr not_so ↦ inr (λ all. not_so (all n (omega arith)))
  | inl here ↦ elim (all_below n P each) [
    | inr not_so ↦ inr (λ all. not_so (λ k below. all k (omega (arith, below))))
    | inl before ↦ inl (λ k below. elim (cases_eq k n) [
      | inl same ↦ subst P (sym same) here
      | inr other ↦ before k (omega (arith, below, other))
    ])
  ]
]

some_below : (n : ℕ) (P : ℕ → Type 0) → ((k : ℕ) → Decided (P k)) → Decided ((k : ℕ) × (k < n) × P k)
some_below zero P each = inr (λ some. omega (arith, some.1))
some_below (suc n) P each = elim (each n) [
  | inl here ↦ inl (n, omega arith, here)
  | inr not_so ↦ elim (some_below n P each) [
    | inl some ↦ inl (some.0, omega (arith, some.1), some.2)
    | inr none ↦ inr (λ some. elim (cases_eq some.0 n) [
      | inl same ↦ not_so (subst P same some.2)
      | inr other ↦ none (some.0, omega (arith, some.1, other), some.2)
    ])
  ]
]

-- of all of a list, and of one
all_of : {X : Type 0} (P : X → Type 0) (xs : List X) → ((x : X) → Decided (P x)) → Decided (All P xs)
all_of P [] each = inl (All-nil P)
all_of P (x ∷ xs) each = elim (each x) [
  | inr not_so ↦ inr (λ all. not_so (All-head P x xs all))
  | inl here ↦ elim (all_of P xs each) [
    | inr not_so ↦ inr (λ all. not_so (All-tail P x xs all))
    | inl rest ↦ inl (All-cons P x xs here rest)
  ]
]

any_behind : {X : Type 0} (P : X → Type 0) (x : X) (xs : List X) → ¬ P x → ¬ Any P xs → ¬ Any P (x ∷ xs)
any_behind P x xs not_so none (zero, y, below, is, p) = not_so (subst P (sym is) p)
any_behind P x xs not_so none (suc k, y, below, is, p) = none (k, y, omega (arith, below), is, p)

any_of : {X : Type 0} (P : X → Type 0) (xs : List X) → ((x : X) → Decided (P x)) → Decided (Any P xs)
any_of P [] each = inr (λ any. omega (arith, any.2))
any_of P (x ∷ xs) each = elim (each x) [
  | inl here ↦ inl (0, x, omega arith, refl, here)
  | inr not_so ↦ elim (any_of P xs each) [
    | inl any ↦ inl (suc any.0, any.1, omega (arith, any.2), any.3, any.4)
    | inr none ↦ inr (any_behind P x xs not_so none)
  ]
]

contained : (bounds : List ℕ) (v : ℕ) → Decided (Contains bounds v)
contained bounds v = some_below (length bounds) (λ k. get_or bounds k v ≡ v) (λ k. equal (get_or bounds k v) v)

-- ---- CTUs

held : (r : Rect) (x y : ℕ) → holds r x y ≡ true → (x < r.x + r.w) × (y < r.y + r.h)
unfolding holds
held r x y is =
    let parts = and_parts (leb r.x x && ltb x (r.x + r.w)) (leb r.y y && ltb y (r.y + r.h)) is in
    let across = and_parts (leb r.x x) (ltb x (r.x + r.w)) parts.0 in
    let down = and_parts (leb r.y y) (ltb y (r.y + r.h)) parts.1 in
    (ltb-true x (r.x + r.w) across.1, ltb-true y (r.y + r.h) down.1)

-- of all CTUs of a rectangle
all_in : (r : Rect) (P : ℕ → ℕ → Type 0) → ((x y : ℕ) → Decided (P x y)) → Decided ((x y : ℕ) → holds r x y ≡ true → P x y)
all_in r P each =
    same_as (λ all x y here. let within = held r x y here in all x within.0 y within.1 here) (λ all x wide y high here. all x y here)
    (all_below (r.x + r.w) (λ x. (y : ℕ) → y < r.y + r.h → holds r x y ≡ true → P x y)
    (λ x. all_below (r.y + r.h) (λ y. holds r x y ≡ true → P x y) (λ y. implied (is_true (holds r x y)) (each x y))))

covered : (rects : List Rect) (w h : ℕ) → Decided (CoversOnce rects w h)
covered rects w h =
    same_as (λ all x y wide high. all x wide y high) (λ all x wide y high. all x y wide high)
    (all_below w (λ x. (y : ℕ) → y < h → count_by (λ r. holds r x y) rects ≡ 1)
    (λ x. all_below h (λ y. count_by (λ r. holds r x y) rects ≡ 1) (λ y. equal (count_by (λ r. holds r x y) rects) 1)))

lies : (r s : Rect) → Decided (LiesIn r s)
lies r s = all_in r (λ x y. holds s x y ≡ true) (λ x y. is_true (holds s x y))

meets : (r s : Rect) → Decided (Meet r s)
meets r s =
    same_as (λ some. (some.0, some.2.0, some.2.2.0, some.2.2.1)) (λ some. let within = held r some.0 some.1 some.2 in (some.0, within.0, (some.1, within.1, (some.2, some.3))))
    (some_below (r.x + r.w) (λ x. (y : ℕ) × (y < r.y + r.h) × ((holds r x y ≡ true) × (holds s x y ≡ true)))
    (λ x. some_below (r.y + r.h) (λ y. (holds r x y ≡ true) × (holds s x y ≡ true)) (λ y. both (is_true (holds r x y)) (is_true (holds s x y)))))

part : (w h : ℕ) (r : Rect) → Decided (IsPart w h r)
part w h r =
    same_as (λ is. record { wide = is.0; high = is.1.0; across = is.1.1.0; down = is.1.1.1 }) (λ is. (is.wide, (is.high, (is.across, is.down))))
    (both (less 0 r.w) (both (less 0 r.h) (both (at_most (r.x + r.w) w) (at_most (r.y + r.h) h))))

subpics_cover : (n : Numbers) → Decided (SubpicsCover n)
subpics_cover n =
    same_as (λ is. record { parts = is.0; once = is.1 }) (λ is. (is.parts, is.once))
    (both (all_of (IsPart (width n) (height n)) n.subpics (part (width n) (height n))) (covered n.subpics (width n) (height n)))

-- ---- tiles

-- a number that is a bound is below this
abbrev above : List ℕ → ℕ
above bounds = sum bounds + 1

bound_below : (bounds : List ℕ) (v : ℕ) → Contains bounds v → v < above bounds
bound_below [] v (k, below, is) = absurd (omega (arith, below))
bound_below (b ∷ bounds) v (zero, below, is) = let same : b ≡ v = is in omega (arith, same, sum_by-cons (λ n. n) b bounds)
bound_below (b ∷ bounds) v (suc k, below, is) =
    let rest = bound_below bounds v (k, omega (arith, below), is) in
    omega (arith, rest, sum_by-cons (λ n. n) b bounds)

none_between : (bounds : List ℕ) (a b : ℕ) → Decided (NoneBetween bounds a b)
none_between bounds a b =
    same_as (λ all c is more. all c (bound_below bounds c is) is more) (λ all c below is more. all c is more)
    (all_below (above bounds) (λ c. Contains bounds c → a < c → b ≤ c) (λ c. implied (contained bounds c) (implied (less a c) (at_most b c))))

span : (bounds : List ℕ) (a b : ℕ) → Decided (IsSpan bounds a b)
span bounds a b =
    same_as (λ is. record { begins = is.0; ends = is.1.0; rises = is.1.1.0; next = is.1.1.1 }) (λ is. (is.begins, (is.ends, (is.rises, is.next))))
    (both (contained bounds a) (both (contained bounds b) (both (less a b) (none_between bounds a b))))

tile : (columns rows : List ℕ) (t : Rect) → Decided (IsTile columns rows t)
tile columns rows t =
    same_as (λ is. record { across = is.0; down = is.1 }) (λ is. (is.across, is.down))
    (both (span columns t.x (t.x + t.w)) (span rows t.y (t.y + t.h)))

agrees : (t s : Rect) → Decided (TileAgrees t s)
agrees t s = implied (meets t s) (either (lies t s) (both (lies s t) (both (equal s.x t.x) (equal (s.x + s.w) (t.x + t.w)))))

shorter : (from size n : ℕ) → from + size < n → size < n
shorter from size n below = omega (arith, below)

splits : (columns rows : List ℕ) (s : Rect) → Decided (SplitsWell columns rows s)
splits columns rows s =
    let at : ℕ → ℕ → ℕ → ℕ → Rect = λ x y w h. record { x = x; y = y; w = w; h = h } in
    let P : ℕ → ℕ → ℕ → ℕ → Type 0 = λ x y w h. IsTile columns rows (at x y w h) → TileAgrees (at x y w h) s in
    same_as
    (λ all t is. all t.x (bound_below columns t.x is.across.begins) t.y (bound_below rows t.y is.down.begins)
    t.w (shorter t.x t.w (above columns) (bound_below columns (t.x + t.w) is.across.ends)) t.h (shorter t.y t.h (above rows) (bound_below rows (t.y + t.h) is.down.ends)) is)
    (λ all x wide y high w narrow h low is. all (at x y w h) is)
    (all_below (above columns) (λ x. (y : ℕ) → y < above rows → (w : ℕ) → w < above columns → (h : ℕ) → h < above rows → P x y w h)
    (λ x. all_below (above rows) (λ y. (w : ℕ) → w < above columns → (h : ℕ) → h < above rows → P x y w h)
    (λ y. all_below (above columns) (λ w. (h : ℕ) → h < above rows → P x y w h)
    (λ w. all_below (above rows) (λ h. P x y w h) (λ h. implied (tile columns rows (at x y w h)) (agrees (at x y w h) s))))))

-- ---- slices

slices_fit : (n : Numbers) → Decided (SlicesFit n)
slices_fit n = all_of (λ r. Any (λ s. fits r s ≡ true) n.subpics) n.slices (λ r. any_of (λ s. fits r s ≡ true) n.subpics (λ s. is_true (fits r s)))

precedes : (r s : Rect) → Decided (Precedes r s)
precedes r s = all_in s (λ x y. (¬ (holds r (x + 1) y ≡ true)) × (¬ (holds r x (y + 1) ≡ true))) (λ x y. both (denied (is_true (holds r (x + 1) y))) (denied (is_true (holds r x (y + 1)))))

-- what stands within a list is the same whatever stands for what is past it
same_within : (rects : List Rect) (i : ℕ) (d e : Rect) → i < length rects → get_or rects i d ≡ get_or rects i e
same_within [] i d e below = absurd (omega (arith, below))
same_within (r ∷ rects) zero d e below = refl
same_within (r ∷ rects) (suc i) d e below = same_within rects i d e (omega (arith, below))

in_pairs : (rects : List Rect) → Decided (AllPairs Precedes rects)
in_pairs rects =
    let P : ℕ → ℕ → Type 0 = λ i j. Precedes (get_or rects i no_rect) (get_or rects j no_rect) in
    same_as
    (λ all i j d first below. rw (same_within rects i d no_rect (omega (arith, first, below)), same_within rects j d no_rect below) (all j below i first))
    (λ all j below i first. all i j no_rect first below)
    (all_below (length rects) (λ j. (i : ℕ) → i < j → P i j) (λ j. all_below j (λ i. P i j) (λ i. precedes (get_or rects i no_rect) (get_or rects j no_rect))))

-- ---- faults

abbrev HasFault : Numbers → Type 0
HasFault n = (k : ℕ) × IsLowestFault n k

no_subpics : (n : Numbers) → ¬ SubpicsCover n → IsLowestFault n subpics_fault
no_subpics n not_so = record {
  from = omega arith;
  upto = omega arith;
  breaks_subpics = λ e. not_so;
  keeps_subpics = λ h. absurd (omega (arith, h));
  breaks_tiles = λ e. absurd (omega (arith, e));
  keeps_tiles = λ h. absurd (omega (arith, h));
  breaks_slices = λ e. absurd (omega (arith, e));
  keeps_slices = λ h. absurd (omega (arith, h));
  breaks_split = λ e. absurd (omega (arith, e));
  keeps_split = λ h. absurd (omega (arith, h));
  breaks_order = λ e. absurd (omega (arith, e));
}

no_tiles : (n : Numbers) → SubpicsCover n → ¬ TilesSplit n → IsLowestFault n tile_split_fault
no_tiles n subpics not_so = record {
  from = omega arith;
  upto = omega arith;
  breaks_subpics = λ e. absurd (omega (arith, e));
  keeps_subpics = λ h. subpics;
  breaks_tiles = λ e. not_so;
  keeps_tiles = λ h. absurd (omega (arith, h));
  breaks_slices = λ e. absurd (omega (arith, e));
  keeps_slices = λ h. absurd (omega (arith, h));
  breaks_split = λ e. absurd (omega (arith, e));
  keeps_split = λ h. absurd (omega (arith, h));
  breaks_order = λ e. absurd (omega (arith, e));
}

no_slices : (n : Numbers) → SubpicsCover n → TilesSplit n → ¬ SlicesCover n → IsLowestFault n slice_cover_fault
no_slices n subpics tiles not_so = record {
  from = omega arith;
  upto = omega arith;
  breaks_subpics = λ e. absurd (omega (arith, e));
  keeps_subpics = λ h. subpics;
  breaks_tiles = λ e. absurd (omega (arith, e));
  keeps_tiles = λ h. tiles;
  breaks_slices = λ e. not_so;
  keeps_slices = λ h. absurd (omega (arith, h));
  breaks_split = λ e. absurd (omega (arith, e));
  keeps_split = λ h. absurd (omega (arith, h));
  breaks_order = λ e. absurd (omega (arith, e));
}

no_split : (n : Numbers) → SubpicsCover n → TilesSplit n → SlicesCover n → ¬ SlicesFit n → IsLowestFault n slice_split_fault
no_split n subpics tiles slices not_so = record {
  from = omega arith;
  upto = omega arith;
  breaks_subpics = λ e. absurd (omega (arith, e));
  keeps_subpics = λ h. subpics;
  breaks_tiles = λ e. absurd (omega (arith, e));
  keeps_tiles = λ h. tiles;
  breaks_slices = λ e. absurd (omega (arith, e));
  keeps_slices = λ h. slices;
  breaks_split = λ e. not_so;
  keeps_split = λ h. absurd (omega (arith, h));
  breaks_order = λ e. absurd (omega (arith, e));
}

no_order : (n : Numbers) → SubpicsCover n → TilesSplit n → SlicesCover n → SlicesFit n → ¬ SlicesInOrder n → IsLowestFault n order_fault
no_order n subpics tiles slices split not_so = record {
  from = omega arith;
  upto = omega arith;
  breaks_subpics = λ e. absurd (omega (arith, e));
  keeps_subpics = λ h. subpics;
  breaks_tiles = λ e. absurd (omega (arith, e));
  keeps_tiles = λ h. tiles;
  breaks_slices = λ e. absurd (omega (arith, e));
  keeps_slices = λ h. slices;
  breaks_split = λ e. absurd (omega (arith, e));
  keeps_split = λ h. split;
  breaks_order = λ e. not_so;
}

pub layouts_are_decided : (n : Numbers) → IsLayout n ⊎ HasFault n
layouts_are_decided n = elim (subpics_cover n) [
  | inr not_so ↦ inr (subpics_fault, no_subpics n not_so)
  | inl subpics ↦ elim (all_of (SplitsWell n.columns n.rows) n.subpics (splits n.columns n.rows)) [
    | inr not_so ↦ inr (tile_split_fault, no_tiles n subpics not_so)
    | inl tiles ↦ elim (covered n.slices (width n) (height n)) [
      | inr not_so ↦ inr (slice_cover_fault, no_slices n subpics tiles not_so)
      | inl slices ↦ elim (slices_fit n) [
        | inr not_so ↦ inr (slice_split_fault, no_split n subpics tiles slices not_so)
        | inl split ↦ elim (in_pairs (in_order n.slices n.subpics)) [
          | inr not_so ↦ inr (order_fault, no_order n subpics tiles slices split not_so)
          | inl order ↦ inl (record { subpics = subpics; tiles = tiles; slices = slices; split = split; order = order })
        ]
      ]
    ]
  ]
]
