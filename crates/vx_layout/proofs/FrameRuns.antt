-- The slices of a frame that lie in one tile stand next to one another.
use Rattle.std.proofs.Common.{◌≡◌, ℕ, suc, zero, ◌-◌, ◌<◌, true, false, List, [], ◌∷◌, ◌++◌, length, get_or, map, refl, sym, subst, inl, inr, arith, length-append}
use Rattle.std.proofs.lemmas.Bool.{both_ways, cases_lt}
use Rattle.std.proofs.lemmas.List.{get_or-append_right, get_or-map, get_or_append_left, length-map}
use Rattle.std.proofs.lemmas.List.Elements.{All-append, All-cons, All-head, All-nil, All-tail, All-weaker}
use Rattle.std.specs.List.{All, AllPairs, AllZip, Any}
use Rattle.vx_layout.specs.declared.numbers.Numbers.{Numbers}
use Rattle.vx_layout.specs.declared.rect.Rect.{Rect}
use Rattle.vx_layout.specs.Bounds.{Rises, last}
use Rattle.vx_layout.specs.Faults.{IsTile, SubpicsCover}
use Rattle.vx_layout.specs.laws.Frames.{TilesHoldRuns}
use Rattle.vx_layout.specs.Frames.{Fills, IsPlaced, frame_of, frame_slices}
use Rattle.vx_layout.specs.Rects.{IsPart, fits}
use Rattle.vx_layout.specs.Regions.{counted_from, moved_to}
use Rattle.vx_layout.specs.Shapes.{AreListable, HasCtu, StandTogether}
use Rattle.vx_layout.proofs.FrameLines.{Beside, Within, tile_back, tile_place}
use Rattle.vx_layout.proofs.FrameShapes.{shapes_there}
use Rattle.vx_layout.proofs.FrameSlices.{AllPairs-append, Apart, AreIn-moved, IsIn, apart_regions, frame-in, not_in}
use Rattle.vx_layout.proofs.FrameWhole.{fill_each, slices_fill}
use Rattle.vx_layout.proofs.Counting.{holds-fits}
use Rattle.vx_layout.proofs.Holding.{fits_empty, fits_from, fits_tells, holds_from, holds_tells}
use Rattle.vx_layout.proofs.Owners.{corner_held}

-- a moved slice lies in a tile of the region where the slice lies in the picture's tile
fits_back : (s r t : Rect) → Within s t → fits (moved_to s r) t ≡ true → fits r (counted_from s t) ≡ true
fits_back s r t within f =
    elim (fits_tells (moved_to s r) t f) [
      | inl empty ↦ fits_empty r (counted_from s t) empty
      | inr q ↦ fits_from r (counted_from s t) (omega (arith, q)) (omega (arith, q)) (omega (arith, q)) (omega (arith, q))
    ]

fits_there : (s r t : Rect) → Within s t → fits r (counted_from s t) ≡ true → fits (moved_to s r) t ≡ true
fits_there s r t within f =
    elim (fits_tells r (counted_from s t) f) [
      | inl empty ↦ fits_empty (moved_to s r) t empty
      | inr q ↦ fits_from (moved_to s r) t (omega (arith, q)) (omega (arith, q)) (omega (arith, q)) (omega (arith, q))
    ]

together_moved : (s t : Rect) (rects : List Rect) → Within s t → StandTogether rects (counted_from s t) → StandTogether (map (moved_to s) rects) t
together_moved s t rects within together = λ i j k d a b low f g.
    let low_k : k < length rects = omega (arith, length-map rects (moved_to s)) in
    let at : (m : ℕ) → m < length rects → get_or (map (moved_to s) rects) m d ≡ moved_to s (get_or rects m d) = λ m short. get_or-map (moved_to s) rects m d d short in
    let first = fits_back s (get_or rects i d) t within (subst (λ r. fits r t ≡ true) (at i (omega arith)) f) in
    let third = fits_back s (get_or rects k d) t within (subst (λ r. fits r t ≡ true) (at k low_k) g) in
    subst (λ r. fits r t ≡ true) (sym (at j (omega arith))) (fits_there s (get_or rects j d) t within (together i j k d a b low_k first third))

-- slices behind or before others that don't lie in the tile
abbrev NoneIn : Rect → List Rect → Type 0
NoneIn t rects = All (λ r. fits r t ≡ false) rects

-- one rectangle more in front: where it lies in the tile, none that does stands behind one that doesn't
abbrev pub Leads : Rect → Rect → Rect → Type 0
Leads t r s = fits s t ≡ true → fits r t ≡ true

pub together_cons : (t r : Rect) (rects : List Rect) → (fits r t ≡ true → AllPairs (Leads t) rects) → StandTogether rects t → StandTogether (r ∷ rects) t
together_cons t r rects lead together zero zero k d a b low f g = absurd (omega arith)
together_cons t r rects lead together zero (suc j) zero d a b low f g = absurd (omega arith)
together_cons t r rects lead together zero (suc j) (suc k) d a b low f g = lead f j k d (omega arith) (omega arith) g
together_cons t r rects lead together (suc i) zero k d a b low f g = absurd (omega arith)
together_cons t r rects lead together (suc i) (suc j) zero d a b low f g = absurd (omega arith)
together_cons t r rects lead together (suc i) (suc j) (suc k) d a b low f g = together i j k d (omega arith) (omega arith) (omega arith) f g

together_after : (t : Rect) (front rects : List Rect) → NoneIn t front → StandTogether rects t → StandTogether (front ++ rects) t
together_after t [] rects off together = together
together_after t (r ∷ front) rects off together =
    let P : Rect → Type 0 = λ u. fits u t ≡ false in
    together_cons t r (front ++ rects) (λ on. absurd (both_ways _ (All-head P r front off) on)) (together_after t front rects (All-tail P r front off) together)

together_before : (t : Rect) (front rects : List Rect) → StandTogether front t → NoneIn t rects → StandTogether (front ++ rects) t
together_before t front rects together off = λ i j k d a b low f g.
    let n : ℕ = length front in
    elim (cases_lt k n) [
      | inl here ↦
          let at : (m : ℕ) → m < n → get_or (front ++ rects) m d ≡ get_or front m d = λ m short. get_or_append_left front rects d m short in
          subst (λ r. fits r t ≡ true) (sym (at j (omega arith)))
          (together i j k d a b here (subst (λ r. fits r t ≡ true) (at i (omega arith)) f) (subst (λ r. fits r t ≡ true) (at k here) g))
      | inr past ↦
          let place : k - n < length rects = omega (arith, length-append front rects) in
          absurd (both_ways _ (off (k - n) d place) (subst (λ r. fits r t ≡ true) (get_or-append_right front rects n k d refl past) g))
    ]

-- a slice in a region that lies in a tile lies there too
fits_through : (t s r : Rect) → IsIn s r → fits s t ≡ true → fits r t ≡ true
fits_through t s r inside f =
    let wide = inside.wide in
    let high = inside.high in
    elim (fits_tells r s inside.fit) [
      | inl empty ↦ fits_empty r t empty
      | inr p ↦
          elim (fits_tells s t f) [
            | inl (inl e) ↦ absurd (omega (arith, e, p))
            | inl (inr e) ↦ absurd (omega (arith, e, p))
            | inr q ↦ fits_from r t (omega (arith, p, q)) (omega (arith, p, q)) (omega (arith, p, q)) (omega (arith, p, q))
          ]
    ]

-- where none that lies in the tile stands behind one that doesn't, they stand together
together_leads : (t : Rect) (rects : List Rect) → AllPairs (Leads t) rects → StandTogether rects t
together_leads t rects leads = λ i j k d a b low f g. leads j k d b low g

leads_front : (t : Rect) (front rects : List Rect) → All (λ r. fits r t ≡ true) front → AllPairs (Leads t) rects → AllPairs (Leads t) (front ++ rects)
leads_front t front rects on leads =
    AllPairs-append (Leads t) front rects (λ i j d less low f. on i d (omega arith)) leads (λ i d low j e short f. on i d low)

leads_none : (t : Rect) (rects : List Rect) → NoneIn t rects → AllPairs (Leads t) rects
leads_none t rects off = λ i j d less low f. absurd (both_ways _ (off j d low) f)

-- a rectangle that holds a CTU doesn't lie in a tile that it shares none with
apart_off : (t s : Rect) → HasCtu s → Apart t s → fits s t ≡ true → ⊥
apart_off t s some apart f =
    let here = corner_held s some.0 some.1 in
    apart s.x s.y (holds-fits s t s.x s.y f here) here

-- the slices of regions that share no CTU with the tile don't lie in it
frame_none : (t : Rect) (regions : List Rect) (pictures : List (List Rect)) → All (Apart t) regions → AllZip Fills regions pictures → NoneIn t (frame_slices regions pictures)
frame_none t regions pictures apart fill = λ k d low.
    let some = frame-in regions pictures fill k d low in
    not_in _ some.1 t some.4 (subst (λ u. Apart t u) some.3 (apart some.0 some.1 some.2))

-- none of the regions lies in the tile, where the first doesn't and none leads the others
later_apart : (t s : Rect) (ss : List Rect) → All HasCtu (s ∷ ss) → Apart t s → All (Beside t) ss → AllPairs (Leads t) (s ∷ ss) → All (Apart t) ss
later_apart t s ss some apart beside leads = λ k d low.
    elim (beside k d low) [
      | inr out ↦ out
      | inl on ↦ absurd (apart_off t s (All-head HasCtu s ss some) apart (leads 0 (suc k) d (omega arith) (omega arith) on))
    ]

frame_leads : (t : Rect) (regions : List Rect) (pictures : List (List Rect)) → All HasCtu regions → All (Beside t) regions → AllPairs (Leads t) regions → AllZip Fills regions pictures → AllPairs (Leads t) (frame_slices regions pictures)
frame_leads t [] pictures some beside leads fill = λ i j d less low. absurd (omega arith)
frame_leads t (s ∷ ss) [] some beside leads fill = absurd fill
frame_leads t (s ∷ ss) (p ∷ ps) some beside leads fill =
    let mine : List Rect = map (moved_to s) p in
    let mine_in : All (IsIn s) mine = AreIn-moved s p fill.0.parts in
    let rest : All (Beside t) ss = All-tail (Beside t) s ss beside in
    elim (All-head (Beside t) s ss beside) [
      | inl on ↦
          leads_front t mine (frame_slices ss ps) (All-weaker (IsIn s) (λ r. fits r t ≡ true) (λ r inside. fits_through t s r inside on) mine mine_in)
          (frame_leads t ss ps (All-tail HasCtu s ss some) rest (λ i j d less low. leads (suc i) (suc j) d (omega arith) (omega arith)) fill.1)
      | inr out ↦
          leads_none t (mine ++ frame_slices ss ps)
          (All-append (λ r. fits r t ≡ false) mine (frame_slices ss ps) (λ k d low. not_in _ s t (mine_in k d low) out)
          (frame_none t ss ps (later_apart t s ss some out rest leads) fill.1))
    ]

-- beside a region that lies in the tile, none holds the tile
beside_each : (columns rows : List ℕ) (s t : Rect) (regions : List Rect) (pictures : List Numbers) → HasCtu s → fits s t ≡ true → IsTile columns rows t → All (Apart s) regions → AllZip (IsPlaced columns rows) regions pictures → All (Beside t) regions
beside_each columns rows s t [] pictures some on tile apart all_placed = All-nil (Beside t)
beside_each columns rows s t (u ∷ us) [] some on tile apart all_placed = absurd all_placed
beside_each columns rows s t (u ∷ us) (p ∷ ps) some on tile apart all_placed =
    All-cons (Beside t) u us
    (elim (tile_place columns rows u t p all_placed.0 tile) [
      | inr beside ↦ beside
      | inl (within, lines) ↦
          let here = corner_held s some.0 some.1 in
          let q = holds_tells t s.x s.y (holds-fits s t s.x s.y on here) in
          absurd (All-head (Apart s) u us apart s.x s.y here (holds_from u s.x s.y (omega (arith, q, within.left)) (omega (arith, q, within.right)) (omega (arith, q, within.top)) (omega (arith, q, within.bottom))))
    ])
    (beside_each columns rows s t us ps some on tile (All-tail (Apart s) u us apart) all_placed.1)

-- the slices in a tile of the frame stand together
tile_together : (columns rows : List ℕ) (t : Rect) (regions : List Rect) (pictures : List Numbers) → IsTile columns rows t → All HasCtu regions → AllPairs Apart regions → StandTogether regions t → AllZip (IsPlaced columns rows) regions pictures
    → All (λ p. AreListable p.columns p.rows p.slices) pictures → StandTogether (frame_slices regions (map (λ p. p.slices) pictures)) t
tile_together columns rows t [] pictures tile some apart together all_placed listable = λ i j k d a b low. absurd (omega arith)
tile_together columns rows t (s ∷ ss) [] tile some apart together all_placed listable = absurd all_placed
tile_together columns rows t (s ∷ ss) (p ∷ ps) tile some apart together all_placed listable =
    let L : Numbers → Type 0 = λ q. AreListable q.columns q.rows q.slices in
    let mine : List Rect = map (moved_to s) p.slices in
    let rest : List Rect = frame_slices ss (map (λ q. q.slices) ps) in
    let mine_in : All (IsIn s) mine = AreIn-moved s p.slices (slices_fill columns rows s p all_placed.0).parts in
    let rest_fill = fill_each columns rows ss ps all_placed.1 in
    let away : All (Apart s) ss = λ k d low. apart 0 (suc k) d (omega arith) (omega arith) in
    elim (tile_place columns rows s t p all_placed.0 tile) [
      | inr (inr out) ↦
          together_after t mine rest (λ k d low. not_in _ s t (mine_in k d low) out)
          (tile_together columns rows t ss ps tile (All-tail HasCtu s ss some) (λ i j d less low. apart (suc i) (suc j) d (omega arith) (omega arith))
          (λ i j k d a b low. together (suc i) (suc j) (suc k) d (omega arith) (omega arith) (omega arith)) all_placed.1 (All-tail L p ps listable))
      | inr (inl on) ↦
          let leads : AllPairs (Leads t) ss = λ i j d less low f. together 0 (suc i) (suc j) d (omega arith) (omega arith) (omega arith) on f in
          together_leads t (mine ++ rest)
          (leads_front t mine rest (All-weaker (IsIn s) (λ r. fits r t ≡ true) (λ r inside. fits_through t s r inside on) mine mine_in)
          (frame_leads t ss (map (λ q. q.slices) ps) (All-tail HasCtu s ss some) (beside_each columns rows s t ss ps (All-head HasCtu s ss some) on tile away all_placed.1) leads rest_fill))
      | inl (within, lines) ↦
          together_before t mine rest (together_moved s t p.slices within ((All-head L p ps listable).together (counted_from s t) (tile_back columns rows s t p all_placed.0 lines within tile)))
          (frame_none t ss (map (λ q. q.slices) ps)
          (λ k d low x y on_t on_u.
          let q = holds_tells t x y on_t in
          away k d low x y (holds_from s x y (omega (arith, q, within.left)) (omega (arith, q, within.right)) (omega (arith, q, within.top)) (omega (arith, q, within.bottom))) on_u)
          rest_fill)
    ]

pub frame-listable : (columns rows : List ℕ) (regions : List Rect) (pictures : List Numbers) → Rises rows → SubpicsCover (frame_of columns rows regions pictures) → AllZip (IsPlaced columns rows) regions pictures → TilesHoldRuns columns rows regions
    → All (λ p. AreListable p.columns p.rows p.slices) pictures → AreListable columns rows (frame_of columns rows regions pictures).slices
frame-listable columns rows regions pictures rows_rise cover all_placed runs listable = record {
  some =
      All-weaker (λ r. Any (λ s. IsIn s r) regions) HasCtu (λ r one. (one.4.wide, one.4.high)) (frame_of columns rows regions pictures).slices
      (frame-in regions (map (λ p. p.slices) pictures) (fill_each columns rows regions pictures all_placed));
  shapes = shapes_there columns rows regions pictures rows_rise cover.parts all_placed listable;
  together = λ t tile.
      tile_together columns rows t regions pictures tile (All-weaker (IsPart (last columns) (last rows)) HasCtu (λ r part. (part.wide, part.high)) regions cover.parts)
      (apart_regions regions (last columns) (last rows) cover.parts cover.once) (runs t tile) all_placed listable;
}
