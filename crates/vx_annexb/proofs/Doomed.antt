-- A splitter's unit that is too long already: what it is refused for where it ends, and how it is given up.
use Rattle.std.proofs.Common.{◌≡◌, ℕ, ◌+◌, ◌-◌, ◌<◌, ◌≤◌, List, ◌++◌, Option, Some, None, length, take, drop, slice_range, sym, ap, subst, ◌∙◌, arith, length-drop, refl, MatchOption, IfNone}
use Rattle.std.proofs.lemmas.List.{drop-drop, drop-take, take-take, take-append-drop}
use Rattle.vx_bits.specs.declared.refusal.Refusal.{Refusal}
use Rattle.vx_bits.specs.declared.refusal.Refusal.TheVariants.{Framing, Limit}
use Rattle.vx_bits.specs.declared.rules.TheConstants.{BAD_EMULATION, LONG_UNIT}
use Rattle.vx_annexb.specs.Places.{IsFirstFrom}
use Rattle.vx_annexb.specs.Emulation.{BreaksRule}
use Rattle.vx_bits.specs.Limits.{unit_limit}
use Rattle.vx_annexb.specs.ByteStream.{UnitPlace, IsSound, RefusesUnit}
use Rattle.vx_annexb.specs.inner.Held.{Held, fed, IsDoomedBy, HasSought, Stands}
use Rattle.vx_annexb.specs.inner.Order.{IsKept, HasBegun, IsInOrder, cut_held, IsCut}
use Rattle.vx_annexb.proofs.Places.{length-slice}
use Rattle.vx_annexb.proofs.Endless.{refuses_longer, refuses_at, refuses_still}
use Rattle.vx_annexb.proofs.Steps.{has_begun, sought_start}

-- bytes from place s up to place e, split at place m
slice_front : (g : List ℕ) (s m e : ℕ) → m ≤ e → take (m - s) (slice_range g s e) ≡ slice_range g s m
slice_front g s m e le = take-take (m - s) (e - s) (drop s g) (omega arith)

slice_back : (g : List ℕ) (s m e : ℕ) → s ≤ m → m ≤ e → drop (m - s) (slice_range g s e) ≡ slice_range g m e
slice_back g s m e low le =
    let n : m - s + (e - m) ≡ e - s = omega arith in
    let at : s + (m - s) ≡ m = omega arith in
    let same = drop-take (m - s) (e - m) (drop s g) in
    (rw n at same) ∙ ap (take (e - m)) (drop-drop (m - s) s g ∙ ap (λ k. drop k g) at)

-- the unit that has begun, with what it is refused for so far, and a place behind it
module _ (h : Held) (order : IsInOrder h) (start : ℕ) (begun : h.start ≡ Some start) (end : ℕ) (sought : h.sought ≤ end) (within : end ≤ fed h) where
  in_order : HasBegun h start
  in_order = has_begun h h.start start begun order.start

  -- what is not doomed is kept whole
  pub kept_whole : h.doomed ≡ None → (h.base ≤ start) × (start ≤ h.clear)
  kept_whole whole = let kept = rw whole at in_order.held in (kept.0, kept.1)

  module _ (g : List ℕ) (units : List UnitPlace) (s : Stands h g units) (open_ : h.refused ≡ None) (r : Refusal) (doomed : h.doomed ≡ Some r) where
    bounds : (start + unit_limit < h.base + 3) × (h.base + 3 ≤ h.sought)
    bounds = rw doomed at in_order.held

    so_far : RefusesUnit (slice_range g start (h.base + 3)) start r
    so_far = rw doomed at (sought_start h g units order start begun open_ s).2

    before : List ℕ
    before = slice_range g start (h.base + 3)

    len : length (slice_range g start (h.base + 3)) ≡ h.base - start + 3
    len = let n = length-slice g start (h.base + 3) (omega (arith, bounds)) (omega (arith, bounds, s.taken)) in omega (arith, n, bounds)

    long : unit_limit < length (slice_range g start (h.base + 3))
    long = omega (arith, len, bounds)

    behind : List ℕ → List ℕ
    behind xs = drop (h.base + 3 - start) xs

    join : slice_range g start (h.base + 3) ++ drop (h.base + 3 - start) (slice_range g start end) ≡ slice_range g start end
    join =
        let front = slice_front g start (h.base + 3) end (omega (arith, bounds)) in
        ap (λ xs. xs ++ drop (h.base + 3 - start) (slice_range g start end)) (sym front) ∙ take-append-drop (h.base + 3 - start) (slice_range g start end)

    kept_is : take (end - h.base) h.kept ≡ drop (h.base - start) (slice_range g start (h.base + 3) ++ drop (h.base + 3 - start) (slice_range g start end))
    kept_is = ap (take (end - h.base)) s.kept ∙ sym (slice_back g start h.base end (omega (arith, bounds)) (omega (arith, bounds))) ∙ ap (drop (h.base - start)) (sym join)

    pub doomed_longer : (r ≡ Limit LONG_UNIT → ⊥) → RefusesUnit (slice_range g start end) start r
    doomed_longer other =
        let P : List ℕ → Type 0 = λ xs. RefusesUnit xs start r in
        subst P join (refuses_longer (slice_range g start (h.base + 3)) (drop (h.base + 3 - start) (slice_range g start end)) start (h.base - start) long len r so_far other)

    pub doomed_at : (code : ℕ) → r ≡ Limit code → (k : ℕ) → IsFirstFrom (BreaksRule (take (end - h.base) h.kept)) 0 k → RefusesUnit (slice_range g start end) start (Framing BAD_EMULATION (h.base + k))
    doomed_at code same k first =
        let P : List ℕ → Type 0 = λ xs. RefusesUnit xs start (Framing BAD_EMULATION (h.base + k)) in
        let Q : List ℕ → Type 0 = λ xs. IsFirstFrom (BreaksRule xs) 0 k in
        let place : start + (h.base - start) ≡ h.base = omega (arith, bounds) in
        subst P join (rw place at (refuses_at (slice_range g start (h.base + 3)) (drop (h.base + 3 - start) (slice_range g start end)) start (h.base - start) long len r code same so_far k (subst Q kept_is first)))

    pub doomed_still : (code : ℕ) → r ≡ Limit code → ((k : ℕ) → ¬ BreaksRule (take (end - h.base) h.kept) k) → RefusesUnit (slice_range g start end) start r
    doomed_still code same none =
        let P : List ℕ → Type 0 = λ xs. RefusesUnit xs start r in
        let Q : List ℕ → Type 0 = λ xs. (k : ℕ) → ¬ BreaksRule xs k in
        subst P join (refuses_still (slice_range g start (h.base + 3)) (drop (h.base + 3 - start) (slice_range g start end)) start (h.base - start) long len r code same so_far (subst Q kept_is none))

-- the unit that has begun is given up, with what it is refused for so far
cut_sought : (h : Held) (base : ℕ) (doomed : Option Refusal) (g : List ℕ) (start : ℕ) (refused : Option Refusal) → (refused ≡ None → IsDoomedBy g (base + 3) start doomed) → HasSought h g (Some start) refused → HasSought (cut_held h base doomed) g (Some start) refused
cut_sought h base doomed g start (Some r) new s = s
cut_sought h base doomed g start None new s = (s.0, s.1, new refl)

-- bytes are kept from no place past the last three
base_low : (h : Held) (start : ℕ) (doomed : Option Refusal) → unit_limit < h.sought - start → IsKept h start doomed → h.base ≤ h.sought - 3
base_low h start None long kept = omega (arith, kept.0)
base_low h start (Some r) long kept = omega (arith, kept.1)

module _ (h : Held) (order : IsInOrder h) (start : ℕ) (begun : h.start ≡ Some start) (long : unit_limit < h.sought - start) (seen : fed h ≤ h.sought + 2) where
  pub cut_doomed : (r : Option Refusal)
      → ((g : List ℕ) (units : List UnitPlace) → Stands h g units → h.refused ≡ None → MatchOption r (IsSound (slice_range g start h.sought)) (RefusesUnit (slice_range g start h.sought) start))
      → IfNone r (h.doomed ≡ None) → IfNone r (IsSound (slice_range h.kept (start - h.base) (h.sought - h.base))) → IsCut h (h.sought - 3) r
  cut_doomed None judged whole sound =
      let low = kept_whole h order start begun h.sought (omega arith) order.sought whole in
      let len = length-slice h.kept (start - h.base) (h.sought - h.base) (omega arith) (omega (arith, order.sought)) in
      absurd (omega (arith, len, sound.size, low.0))
  cut_doomed (Some r) judged whole sound =
      let e : h.sought - 3 + 3 ≡ h.sought = omega arith in
      let was = has_begun h h.start start begun order.start in
      let low : h.base ≤ h.sought - 3 = base_low h start h.doomed long was.held in
      record {
        low = low;
        high = omega arith;
        begun = rw begun (record {
          from = was.from;
          order = was.order;
          clear = was.clear;
          sought = omega (arith, was.sought, low, order.sought, length-drop (h.sought - 3 - h.base) h.kept);
          held = (omega arith, omega arith);
        });
        sought = λ g units s. rw begun (cut_sought h (h.sought - 3) (Some r) g start h.refused (λ open_. rw e (judged g units s open_)) (rw begun at s.sought));
      }
