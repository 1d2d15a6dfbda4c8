-- Where each region begins at a tile row or follows the one before it, the regions of one tile stand next to one another.
use Rattle.std.proofs.Common.{◌≡◌, ℕ, suc, zero, ◌+◌, ◌<◌, ◌≤◌, true, List, length, get_or, subst, inl, inr, arith, ◌⊎◌}
use Rattle.std.proofs.lemmas.Bool.{cases_lt}
use Rattle.std.specs.List.{All, AllPairs, Contains}
use Rattle.vx_layout.specs.declared.rect.Rect.{Rect}
use Rattle.vx_layout.specs.Borders.{SplitsAtLines}
use Rattle.vx_layout.specs.Bounds.{last}
use Rattle.vx_layout.specs.Faults.{IsTile, SameSides}
use Rattle.vx_layout.specs.laws.Frames.{StandInRuns, TilesHoldRuns}
use Rattle.vx_layout.specs.Rects.{CoversOnce, IsPart, Precedes, fits}
use Rattle.vx_layout.proofs.Corners.{IsOrdered, no_later}
use Rattle.vx_layout.proofs.FrameLines.{Within}
use Rattle.vx_layout.proofs.Holding.{fits_from, fits_tells}
use Rattle.vx_layout.proofs.Owners.{corner_held}

-- regions of a frame that cover it in order, and whose borders split its tiles well
pub record AreRegions (columns rows : List ℕ) (regions : List Rect) : Type 0 where
  pub parts : All (IsPart (last columns) (last rows)) regions
  pub ordered : IsOrdered regions (last columns) (last rows)
  pub borders : All (SplitsAtLines columns rows) regions

-- a region in a tile, by its borders
in_tile : (columns rows : List ℕ) (s t : Rect) → IsPart (last columns) (last rows) s → fits s t ≡ true → Within t s
in_tile columns rows s t part f =
    elim (fits_tells s t f) [
      | inl (inl e) ↦ absurd (omega (arith, e, part.wide))
      | inl (inr e) ↦ absurd (omega (arith, e, part.high))
      | inr q ↦ record { left = q.0; right = q.1; top = q.2; bottom = q.3 }
    ]

-- a bound in a span, but not behind it, is where it begins
begins_there : (rows : List ℕ) (s t : Rect) (columns : List ℕ) → IsTile columns rows t → IsPart (last columns) (last rows) s → Within t s → Contains rows s.y → s.y ≡ t.y
begins_there rows s t columns tile part within begins =
    let top = within.top in
    elim (cases_lt t.y s.y) [
      | inr level ↦ omega arith
      | inl below ↦ let past : t.y + t.h ≤ s.y = tile.down.next s.y begins below in absurd (omega (arith, part.high, within.bottom))
    ]

-- and so is a left border
left_there : (columns rows : List ℕ) (s t : Rect) → IsTile columns rows t → IsPart (last columns) (last rows) s → Within t s → Contains columns s.x → s.x ≡ t.x
left_there columns rows s t tile part within begins =
    let left = within.left in
    elim (cases_lt t.x s.x) [
      | inr level ↦ omega arith
      | inl below ↦ let past : t.x + t.w ≤ s.x = tile.across.next s.x begins below in absurd (omega (arith, part.wide, within.right))
    ]

-- no region of the tile comes before one that begins at a tile row
none_before : (columns rows : List ℕ) (regions : List Rect) (t : Rect) (i k : ℕ) (d : Rect) → AreRegions columns rows regions → IsTile columns rows t → i < length regions → k < length regions
    → fits (get_or regions i d) t ≡ true → fits (get_or regions k d) t ≡ true → Contains rows (get_or regions k d).y → k ≤ i
none_before columns rows regions t i k d are tile low_i low_k f g begins =
    let r : Rect = get_or regions i d in
    let s : Rect = get_or regions k d in
    let part_r = are.parts i d low_i in
    let part_s = are.parts k d low_k in
    let in_r = in_tile columns rows r t part_r f in
    let in_s = in_tile columns rows s t part_s g in
    let top : s.y ≡ t.y = begins_there rows s t columns tile part_s in_s begins in
    let left : s.x ≡ t.x = left_there columns rows s t tile part_s in_s (are.borders k d low_k).left in
    no_later regions (last columns) (last rows) s.x s.y r.x r.y k i d are.ordered (omega (arith, in_r.left)) (omega (arith, in_r.top)) (omega (arith, part_r.wide, part_r.across)) (omega (arith, part_r.high, part_r.down))
    low_k low_i (corner_held s part_s.wide part_s.high) (corner_held r part_r.wide part_r.high)

-- a region that another one of the tile follows lies in the tile, unless that one begins at a tile row
follows_in : (columns rows : List ℕ) (r s t : Rect) → IsTile columns rows t → IsPart (last columns) (last rows) r → IsPart (last columns) (last rows) s → SplitsAtLines columns rows r → SameSides r s → r.y + r.h ≡ s.y → fits s t ≡ true
    → Contains rows s.y ⊎ (fits r t ≡ true)
follows_in columns rows r s t tile part_r part_s borders sides below g =
    let within = in_tile columns rows s t part_s g in
    elim borders.ends [
      | inl ends ↦ inl (subst (λ m. Contains rows m) below ends.1)
      | inr free ↦
          elim (cases_lt r.y t.y) [
            | inl above ↦
                let upto : r.y + r.h ≤ t.y = free.1 t.y tile.down.begins above in
                let top : t.y ≡ s.y = omega (arith, within.top) in
                inl (subst (λ m. Contains rows m) top tile.down.begins)
            | inr from ↦ inr (fits_from r t (omega (arith, within.left, sides)) (omega (arith, within.right, sides)) from (omega (arith, within.bottom)))
          ]
    ]

-- between two regions of the tile stands one of the tile, right before the later one
one_up : (columns rows : List ℕ) (regions : List Rect) (t : Rect) (i k : ℕ) (d : Rect) → AreRegions columns rows regions → StandInRuns rows regions → IsTile columns rows t → i < k + 1 → k + 1 < length regions
    → fits (get_or regions i d) t ≡ true → fits (get_or regions (k + 1) d) t ≡ true → fits (get_or regions k d) t ≡ true
one_up columns rows regions t i k d are runs tile less low f g =
    let low_k : k < length regions = omega arith in
    elim (runs k d low) [
      | inl begins ↦ let up : k + 1 ≤ i = none_before columns rows regions t i (k + 1) d are tile (omega arith) low f g begins in absurd (omega arith)
      | inr (sides, below) ↦
          elim (follows_in columns rows (get_or regions k d) (get_or regions (k + 1) d) t tile (are.parts k d low_k) (are.parts (k + 1) d low) (are.borders k d low_k) sides below g) [
            | inl begins ↦ let up : k + 1 ≤ i = none_before columns rows regions t i (k + 1) d are tile (omega arith) low f g begins in absurd (omega arith)
            | inr on ↦ on
          ]
    ]

run : (columns rows : List ℕ) (regions : List Rect) (t : Rect) (i j k : ℕ) (d : Rect) → AreRegions columns rows regions → StandInRuns rows regions → IsTile columns rows t → i < j → j < k → k < length regions
    → fits (get_or regions i d) t ≡ true → fits (get_or regions k d) t ≡ true → fits (get_or regions j d) t ≡ true
run columns rows regions t i j zero d are runs tile a b low f g = absurd (omega arith)
run columns rows regions t i j (suc k) d are runs tile a b low f g =
    let next : suc k ≡ k + 1 = omega arith in
    let before : fits (get_or regions k d) t ≡ true = one_up columns rows regions t i k d are runs tile (omega arith) (omega arith) f (subst (λ m. fits (get_or regions m d) t ≡ true) next g) in
    elim (cases_lt j k) [
      | inl less ↦ run columns rows regions t i j k d are runs tile a less (omega arith) f before
      | inr level ↦ let same : k ≡ j = omega arith in subst (λ m. fits (get_or regions m d) t ≡ true) same before
    ]

pub runs-fill : (columns rows : List ℕ) (regions : List Rect) → All (IsPart (last columns) (last rows)) regions → CoversOnce regions (last columns) (last rows) → AllPairs Precedes regions → All (SplitsAtLines columns rows) regions → StandInRuns rows regions
    → TilesHoldRuns columns rows regions
runs-fill columns rows regions parts once order borders runs = λ t tile i j k d a b low f g.
    run columns rows regions t i j k d (record { parts = parts; ordered = record { once = once; order = order }; borders = borders }) runs tile a b low f g
