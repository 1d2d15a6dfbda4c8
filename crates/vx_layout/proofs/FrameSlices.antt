-- The slices of a frame: where they stand, in which order, and which of them are a region's.
use Rattle.std.proofs.Common.{◌≡◌, ℕ, suc, zero, ◌+◌, ◌-◌, ◌<◌, ◌≤◌, true, false, cond, List, [], ◌∷◌, ◌++◌, length, get_or, take, count_by, map, refl, ap, sym, ◌∙◌, subst, inl, inr, arith}
use Rattle.std.proofs.lemmas.Bool.{cases_Bool, both_ways, false_from_ne_true}
use Rattle.std.proofs.lemmas.List.{append-nil, append_assoc, get_or-map, length-map}
use Rattle.std.proofs.lemmas.List.Elements.{All-append, All-head, All-map, All-nil, All-tail, All-weaker, filter-append}
use Rattle.std.proofs.lemmas.List.Kept.{AllPairs-cons}
use Rattle.std.specs.List.{All, AllPairs, AllZip, Any}
use Rattle.vx_layout.specs.declared.rect.Rect.{Rect}
use Rattle.vx_layout.specs.Frames.{Fills, frame_slices}
use Rattle.vx_layout.specs.Rects.{CoversOnce, IsPart, Precedes, fits, holds, in_order, slices_of_subpicture}
use Rattle.vx_layout.specs.Regions.{counted_from, moved_to}
use Rattle.vx_layout.proofs.Counting.{count_by-append, count_by-cons, holds-fits, same_place, slices_all}
use Rattle.vx_layout.proofs.Holding.{fits_from, holds_from, holds_tells}
use Rattle.vx_layout.proofs.Owners.{corner_held}

-- what holds of each pair holds of the pair at k
pub AllZip-at : {X Y : Type 0} (R : X → Y → Type 0) (xs : List X) (ys : List Y) (k : ℕ) (d : X) (e : Y) → AllZip R xs ys → k < length xs → R (get_or xs k d) (get_or ys k e)
AllZip-at R [] ys k d e each short = absurd (omega arith)
AllZip-at R (x ∷ xs) [] k d e each short = absurd each
AllZip-at R (x ∷ xs) (y ∷ ys) zero d e each short = each.0
AllZip-at R (x ∷ xs) (y ∷ ys) (suc k) d e each short = AllZip-at R xs ys k d e each.1 (omega arith)

pub AllZip-long : {X Y : Type 0} (R : X → Y → Type 0) (xs : List X) (ys : List Y) → AllZip R xs ys → length xs ≡ length ys
AllZip-long R [] [] each = refl
AllZip-long R [] (y ∷ ys) each = absurd each
AllZip-long R (x ∷ xs) [] each = absurd each
AllZip-long R (x ∷ xs) (y ∷ ys) each = omega (arith, AllZip-long R xs ys each.1)

pub AllZip-from : {X Y : Type 0} (R : X → Y → Type 0) (xs : List X) (ys : List Y) → length xs ≡ length ys → ((k : ℕ) (d : X) (e : Y) → k < length xs → R (get_or xs k d) (get_or ys k e)) → AllZip R xs ys
AllZip-from R [] [] long each = tt
AllZip-from R [] (y ∷ ys) long each = absurd (omega arith)
AllZip-from R (x ∷ xs) [] long each = absurd (omega arith)
AllZip-from R (x ∷ xs) (y ∷ ys) long each = (each 0 x y (omega arith), AllZip-from R xs ys (omega arith) (λ k d e short. each (suc k) d e (omega arith)))

-- the slices of one more region
pub frame-more : (regions : List Rect) (pictures : List (List Rect)) (k : ℕ) (d : Rect) (e : List Rect) → k < length regions → k < length pictures →
    frame_slices (take (k + 1) regions) (take (k + 1) pictures) ≡ frame_slices (take k regions) (take k pictures) ++ map (moved_to (get_or regions k d)) (get_or pictures k e)
frame-more [] pictures k d e short low = absurd (omega arith)
frame-more (s ∷ ss) [] k d e short low = absurd (omega arith)
frame-more (s ∷ ss) (p ∷ ps) zero d e short low = append-nil (map (moved_to s) p)
frame-more (s ∷ ss) (p ∷ ps) (suc k) d e short low =
    let next : suc k + 1 ≡ suc (k + 1) = omega arith in
    ap (λ n. frame_slices (take n (s ∷ ss)) (take n (p ∷ ps))) next
    ∙ (ap (λ t. map (moved_to s) p ++ t) (frame-more ss ps k d e (omega arith) (omega arith)) ∙ sym (append_assoc (map (moved_to s) p) (frame_slices (take k ss) (take k ps)) (map (moved_to (get_or ss k d)) (get_or ps k e))))

-- moved to a corner and counted from there, a rectangle is what it was
pub counted-moved : (c r : Rect) → counted_from c (moved_to c r) ≡ r
counted-moved c r =
    let across : r.x + c.x - c.x ≡ r.x = omega arith in
    let down : r.y + c.y - c.y ≡ r.y = omega arith in
    rw (across, down) refl

pub moved-counted : (c r : Rect) → c.x ≤ r.x → c.y ≤ r.y → moved_to c (counted_from c r) ≡ r
moved-counted c r left top =
    let across : r.x - c.x + c.x ≡ r.x = omega arith in
    let down : r.y - c.y + c.y ≡ r.y = omega arith in
    rw (across, down) refl

pub counted-moved_all : (c : Rect) (rects : List Rect) → map (counted_from c) (map (moved_to c) rects) ≡ rects
counted-moved_all c [] = refl
counted-moved_all c (r ∷ rs) = ap (λ t. t ∷ map (counted_from c) (map (moved_to c) rs)) (counted-moved c r) ∙ ap (λ t. r ∷ t) (counted-moved_all c rs)

-- the CTUs of a moved rectangle
moved_tells : (c r : Rect) (x y : ℕ) → holds (moved_to c r) x y ≡ true → (c.x ≤ x) × (c.y ≤ y) × (holds r (x - c.x) (y - c.y) ≡ true)
moved_tells c r x y on =
    let p = holds_tells (moved_to c r) x y on in
    (omega (arith, p), omega (arith, p), holds_from r (x - c.x) (y - c.y) (omega (arith, p)) (omega (arith, p)) (omega (arith, p)) (omega (arith, p)))

moved_from : (c r : Rect) (x y : ℕ) → c.x ≤ x → c.y ≤ y → holds r (x - c.x) (y - c.y) ≡ true → holds (moved_to c r) x y ≡ true
moved_from c r x y a b on =
    let p = holds_tells r (x - c.x) (y - c.y) on in
    holds_from (moved_to c r) x y (omega (arith, p)) (omega (arith, p)) (omega (arith, p)) (omega (arith, p))

holds-moved : (c r : Rect) (x y : ℕ) → c.x ≤ x → c.y ≤ y → holds (moved_to c r) x y ≡ holds r (x - c.x) (y - c.y)
holds-moved c r x y a b =
    elim (cases_Bool (holds r (x - c.x) (y - c.y))) [
      | inl on ↦ moved_from c r x y a b on ∙ sym on
      | inr off ↦ false_from_ne_true _ (λ on. both_ways _ off (moved_tells c r x y on).2) ∙ sym off
    ]

count-moved : (c : Rect) (rects : List Rect) (x y : ℕ) → c.x ≤ x → c.y ≤ y → count_by (λ r. holds r x y) (map (moved_to c) rects) ≡ count_by (λ r. holds r (x - c.x) (y - c.y)) rects
count-moved c [] x y a b = refl
count-moved c (r ∷ rs) x y a b =
    let first : cond {A = ℕ} (holds (moved_to c r) x y) 1 0 ≡ cond (holds r (x - c.x) (y - c.y)) 1 0 = ap (λ t. cond t 1 0) (holds-moved c r x y a b) in
    let rest = count-moved c rs x y a b in
    omega (arith, count_by-cons (λ r. holds r x y) (moved_to c r) (map (moved_to c) rs), count_by-cons (λ r. holds r (x - c.x) (y - c.y)) r rs, first, rest)

-- the moved slices lie in the region, and hold CTUs
pub record IsIn (s r : Rect) : Type 0 where
  pub fit : fits r s ≡ true
  pub wide : 0 < r.w
  pub high : 0 < r.h

IsIn-moved : (c r : Rect) → IsPart c.w c.h r → IsIn c (moved_to c r)
IsIn-moved c r part = record {
  fit = fits_from (moved_to c r) c (omega arith) (omega (arith, part.across)) (omega arith) (omega (arith, part.down));
  wide = part.wide;
  high = part.high;
}

pub AreIn-moved : (c : Rect) (rects : List Rect) → All (IsPart c.w c.h) rects → All (IsIn c) (map (moved_to c) rects)
AreIn-moved c rects parts = All-map (IsIn c) (moved_to c) rects (All-weaker (IsPart c.w c.h) (λ r. IsIn c (moved_to c r)) (IsIn-moved c) rects parts)

none_outside : (s : Rect) (rects : List Rect) (x y : ℕ) → All (IsIn s) rects → holds s x y ≡ false → count_by (λ r. holds r x y) rects ≡ 0
none_outside s [] x y inside off = refl
none_outside s (r ∷ rs) x y inside off =
    let none : holds r x y ≡ false = false_from_ne_true _ (λ on. both_ways _ off (holds-fits r s x y (All-head (IsIn s) r rs inside).fit on)) in
    let first : cond {A = ℕ} (holds r x y) 1 0 ≡ 0 = ap (λ t. cond t 1 0) none in
    omega (arith, count_by-cons (λ r. holds r x y) r rs, first, none_outside s rs x y (All-tail (IsIn s) r rs inside) off)

-- each CTU of a region lies in one of its moved slices, and no other CTU does
region-once : (c : Rect) (rects : List Rect) (x y : ℕ) → Fills c rects → count_by (λ r. holds r x y) (map (moved_to c) rects) ≡ cond (holds c x y) 1 0
region-once c rects x y fills =
    elim (cases_Bool (holds c x y)) [
      | inl on ↦
          let p = holds_tells c x y on in
          rw on (count-moved c rects x y (omega (arith, p)) (omega (arith, p)) ∙ fills.once (x - c.x) (y - c.y) (omega (arith, p)) (omega (arith, p)))
      | inr off ↦ rw off (none_outside c (map (moved_to c) rects) x y (AreIn-moved c rects fills.parts) off)
    ]

pub frame-count : (regions : List Rect) (pictures : List (List Rect)) (x y : ℕ) → AllZip Fills regions pictures → count_by (λ r. holds r x y) (frame_slices regions pictures) ≡ count_by (λ s. holds s x y) regions
frame-count [] pictures x y fill = refl
frame-count (s ∷ ss) [] x y fill = absurd fill
frame-count (s ∷ ss) (p ∷ ps) x y fill =
    let first = region-once s p x y fill.0 in
    let rest = frame-count ss ps x y fill.1 in
    count_by-append (λ r. holds r x y) (map (moved_to s) p) (frame_slices ss ps) ∙ (omega (arith, first, rest, count_by-cons (λ t. holds t x y) s ss))

pub frame-once : (regions : List Rect) (pictures : List (List Rect)) (w h : ℕ) → CoversOnce regions w h → AllZip Fills regions pictures → CoversOnce (frame_slices regions pictures) w h
frame-once regions pictures w h cover fill = λ x y v u. frame-count regions pictures x y fill ∙ cover x y v u

-- each slice of the frame lies in a region

pub frame-in : (regions : List Rect) (pictures : List (List Rect)) → AllZip Fills regions pictures → All (λ r. Any (λ s. IsIn s r) regions) (frame_slices regions pictures)
frame-in [] pictures fill = All-nil (λ r. Any (λ s. IsIn s r) [])
frame-in (s ∷ ss) [] fill = absurd fill
frame-in (s ∷ ss) (p ∷ ps) fill =
    let Q : Rect → Type 0 = λ r. Any (λ t. IsIn t r) (s ∷ ss) in
    All-append Q (map (moved_to s) p) (frame_slices ss ps)
    (All-weaker (IsIn s) Q (λ r inside. (0, s, omega arith, refl, inside)) (map (moved_to s) p) (AreIn-moved s p fill.0.parts))
    (All-weaker (λ r. Any (λ t. IsIn t r) ss) Q (λ r some. (suc some.0, some.1, omega (arith, some.2), some.3, some.4)) (frame_slices ss ps) (frame-in ss ps fill.1))

pub frame-fit : (regions : List Rect) (pictures : List (List Rect)) → AllZip Fills regions pictures → All (λ r. Any (λ s. fits r s ≡ true) regions) (frame_slices regions pictures)
frame-fit regions pictures fill =
    All-weaker (λ r. Any (λ s. IsIn s r) regions) (λ r. Any (λ s. fits r s ≡ true) regions) (λ r some. (some.0, some.1, some.2, some.3, some.4.fit)) (frame_slices regions pictures) (frame-in regions pictures fill)

-- pairs of a joined list
pub AllPairs-append : {X : Type 0} (R : X → X → Type 0) (xs ys : List X) → AllPairs R xs → AllPairs R ys → All (λ x. All (R x) ys) xs → AllPairs R (xs ++ ys)
AllPairs-append R [] ys a b c = b
AllPairs-append {X} R (x ∷ xs) ys a b c =
    let P : X → Type 0 = λ x. All (R x) ys in
    AllPairs-cons R x (xs ++ ys) (All-append (R x) xs ys (λ k d low. a 0 (suc k) d (omega arith) (omega arith)) (All-head P x xs c))
    (AllPairs-append R xs ys (λ i j d less low. a (suc i) (suc j) d (omega arith) (omega arith)) b (All-tail P x xs c))

Precedes-moved : (c r t : Rect) → Precedes r t → Precedes (moved_to c r) (moved_to c t)
Precedes-moved c r t order = λ x y on.
    let p = moved_tells c t x y on in
    let both = order (x - c.x) (y - c.y) p.2 in
    let across : x + 1 - c.x ≡ x - c.x + 1 = omega arith in
    let down : y + 1 - c.y ≡ y - c.y + 1 = omega arith in (
      λ on_r. both.0 (subst (λ n. holds r n (y - c.y) ≡ true) across (moved_tells c r (x + 1) y on_r).2),
      λ on_r. both.1 (subst (λ n. holds r (x - c.x) n ≡ true) down (moved_tells c r x (y + 1) on_r).2),
    )

AllPairs-moved : (c : Rect) (rects : List Rect) → AllPairs Precedes rects → AllPairs Precedes (map (moved_to c) rects)
AllPairs-moved c rects pairs = λ i j d less low.
    let low_j : j < length rects = omega (arith, length-map rects (moved_to c)) in
    let low_i : i < length rects = omega arith in
    rw (get_or-map (moved_to c) rects i d d low_i, get_or-map (moved_to c) rects j d d low_j) (Precedes-moved c (get_or rects i d) (get_or rects j d) (pairs i j d less low_j))

-- what lies in rectangles in order is in order
Precedes-in : (r s t u : Rect) → fits r s ≡ true → fits t u ≡ true → Precedes s u → Precedes r t
Precedes-in r s t u f g order = λ x y on.
    let both = order x y (holds-fits t u x y g on) in
    (λ on_r. both.0 (holds-fits r s (x + 1) y f on_r), λ on_r. both.1 (holds-fits r s x (y + 1) f on_r))

pub frame-order : (regions : List Rect) (pictures : List (List Rect)) → AllPairs Precedes regions → AllZip Fills regions pictures → All (AllPairs Precedes) pictures → AllPairs Precedes (frame_slices regions pictures)
frame-order [] pictures pairs fill own = λ i j d less low. absurd (omega arith)
frame-order (s ∷ ss) [] pairs fill own = absurd fill
frame-order (s ∷ ss) (p ∷ ps) pairs fill own =
    AllPairs-append Precedes (map (moved_to s) p) (frame_slices ss ps) (AllPairs-moved s p (All-head (AllPairs Precedes) p ps own))
    (frame-order ss ps (λ i j d less low. pairs (suc i) (suc j) d (omega arith) (omega arith)) fill.1 (All-tail (AllPairs Precedes) p ps own))
    (λ i d low j e short.
    let some = frame-in ss ps fill.1 j e short in
    let later : Precedes s some.1 = subst (λ t. Precedes s t) some.3 (pairs 0 (suc some.0) some.1 (omega arith) (omega (arith, some.2))) in
    Precedes-in _ s _ some.1 (AreIn-moved s p fill.0.parts i d low).fit some.4.fit later)

-- two rectangles share no CTU
abbrev pub Apart : Rect → Rect → Type 0
Apart r s = (x y : ℕ) → holds r x y ≡ true → holds s x y ≡ true → ⊥

pub apart_regions : (regions : List Rect) (w h : ℕ) → All (IsPart w h) regions → CoversOnce regions w h → AllPairs Apart regions
apart_regions regions w h parts cover = λ i j d less short x y on_i on_j.
    let part = parts j d short in
    let p = holds_tells _ x y on_j in
    let one = cover x y (omega (arith, p, part.across)) (omega (arith, p, part.down)) in
    let same : i ≡ j = same_place (λ s. holds s x y) regions i j d (omega arith) (omega arith) short on_i on_j in
    omega arith

-- a slice that lies in a rectangle lies in none apart from it
pub not_in : (r s t : Rect) → IsIn s r → Apart t s → fits r t ≡ false
not_in r s t inside apart =
    let here : holds r r.x r.y ≡ true = corner_held r inside.wide inside.high in
    false_from_ne_true _ (λ f. apart r.x r.y (holds-fits r t r.x r.y f here) (holds-fits r s r.x r.y inside.fit here))

slices_none : (rects : List Rect) (s : Rect) → All (λ r. fits r s ≡ false) rects → slices_of_subpicture rects s ≡ []
slices_none [] s off = refl
slices_none (r ∷ rs) s off =
    let P : Rect → Type 0 = λ r. fits r s ≡ false in
    rw (All-head P r rs off) (slices_none rs s (All-tail P r rs off))

-- the slices of each region are its picture's, behind slices that lie in no region
frame-slices_after : (front regions : List Rect) (pictures : List (List Rect)) → All (λ s. slices_of_subpicture front s ≡ []) regions → AllPairs Apart regions → AllZip Fills regions pictures →
    AllZip (λ s p. slices_of_subpicture (front ++ frame_slices regions pictures) s ≡ map (moved_to s) p) regions pictures
frame-slices_after front [] [] clear apart fill = tt
frame-slices_after front [] (p ∷ ps) clear apart fill = absurd fill
frame-slices_after front (s ∷ ss) [] clear apart fill = absurd fill
frame-slices_after front (s ∷ ss) (p ∷ ps) clear apart fill =
    let Clear : Rect → Type 0 = λ t. slices_of_subpicture front t ≡ [] in
    let mine : List Rect = map (moved_to s) p in
    let rest : List Rect = frame_slices ss ps in
    let mine_in : All (IsIn s) mine = AreIn-moved s p fill.0.parts in
    let rest_out : slices_of_subpicture rest s ≡ [] =
    slices_none rest s
    (λ j e short.
    let some = frame-in ss ps fill.1 j e short in
    not_in _ some.1 s some.4 (subst (λ t. Apart s t) some.3 (apart 0 (suc some.0) some.1 (omega arith) (omega (arith, some.2)))))
    in
    let here : slices_of_subpicture (front ++ (mine ++ rest)) s ≡ mine =
    filter-append (λ r. fits r s) front (mine ++ rest)
    ∙ (ap (λ t. t ++ slices_of_subpicture (mine ++ rest) s) (All-head Clear s ss clear)
    ∙ (filter-append (λ r. fits r s) mine rest ∙ (ap (λ t. t ++ slices_of_subpicture rest s) (slices_all mine s (λ i e short. (mine_in i e short).fit)) ∙ (ap (λ t. mine ++ t) rest_out ∙ append-nil mine))))
    in
    let clear_more : All (λ t. slices_of_subpicture (front ++ mine) t ≡ []) ss = λ k d low.
    let t : Rect = get_or ss k d in
    filter-append (λ r. fits r t) front mine
    ∙ (ap (λ u. u ++ slices_of_subpicture mine t) (All-tail Clear s ss clear k d low)
    ∙ slices_none mine t (λ i e short. not_in _ s t (mine_in i e short) (λ x y on_t on_s. apart 0 (suc k) d (omega arith) (omega arith) x y on_s on_t)))
    in
    let there = frame-slices_after (front ++ mine) ss ps clear_more (λ i j d less low. apart (suc i) (suc j) d (omega arith) (omega arith)) fill.1 in
    (here, subst (λ u. AllZip (λ t q. slices_of_subpicture u t ≡ map (moved_to t) q) ss ps) (append_assoc front mine rest) there)

frame-slices_zip : (regions : List Rect) (pictures : List (List Rect)) (w h : ℕ) → All (IsPart w h) regions → CoversOnce regions w h → AllZip Fills regions pictures →
    AllZip (λ s p. slices_of_subpicture (frame_slices regions pictures) s ≡ map (moved_to s) p) regions pictures
frame-slices_zip regions pictures w h parts cover fill = frame-slices_after [] regions pictures (λ k d low. refl) (apart_regions regions w h parts cover) fill

pub frame-slices_of : (regions : List Rect) (pictures : List (List Rect)) (w h k : ℕ) (d : Rect) (e : List Rect) → All (IsPart w h) regions → CoversOnce regions w h → AllZip Fills regions pictures → k < length regions →
    slices_of_subpicture (frame_slices regions pictures) (get_or regions k d) ≡ map (moved_to (get_or regions k d)) (get_or pictures k e)
frame-slices_of regions pictures w h k d e parts cover fill short =
    AllZip-at (λ s p. slices_of_subpicture (frame_slices regions pictures) s ≡ map (moved_to s) p) regions pictures k d e (frame-slices_zip regions pictures w h parts cover fill) short

pub frame-counted : (regions : List Rect) (pictures : List (List Rect)) (w h k : ℕ) (d : Rect) (e : List Rect) → All (IsPart w h) regions → CoversOnce regions w h → AllZip Fills regions pictures → k < length regions →
    map (counted_from (get_or regions k d)) (slices_of_subpicture (frame_slices regions pictures) (get_or regions k d)) ≡ get_or pictures k e
frame-counted regions pictures w h k d e parts cover fill short =
    ap (λ t. map (counted_from (get_or regions k d)) t) (frame-slices_of regions pictures w h k d e parts cover fill short) ∙ counted-moved_all (get_or regions k d) (get_or pictures k e)

-- region by region, the frame's slices are its slices
joined : (slices regions : List Rect) (pictures : List (List Rect)) → AllZip (λ s p. slices_of_subpicture slices s ≡ map (moved_to s) p) regions pictures → in_order slices regions ≡ frame_slices regions pictures
joined slices [] [] same = refl
joined slices [] (p ∷ ps) same = absurd same
joined slices (s ∷ ss) [] same = absurd same
joined slices (s ∷ ss) (p ∷ ps) same = ap (λ t. t ++ in_order slices ss) same.0 ∙ ap (λ t. map (moved_to s) p ++ t) (joined slices ss ps same.1)

pub frame-in_order : (regions : List Rect) (pictures : List (List Rect)) (w h : ℕ) → All (IsPart w h) regions → CoversOnce regions w h → AllZip Fills regions pictures → in_order (frame_slices regions pictures) regions ≡ frame_slices regions pictures
frame-in_order regions pictures w h parts cover fill = joined (frame_slices regions pictures) regions pictures (frame-slices_zip regions pictures w h parts cover fill)
