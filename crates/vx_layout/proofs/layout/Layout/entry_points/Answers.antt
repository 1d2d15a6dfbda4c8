use Rattle.std.proofs.Common.{◌≡◌, ℕ, ◌+◌, ◌<◌, ◌≤◌, length, sym, subst}
use Rattle.vx_layout.specs.declared.numbers.Numbers.{Numbers}
use Rattle.vx_layout.specs.declared.rect.Rect.{Rect}
use Rattle.vx_layout.specs.Bounds.{last}
use Rattle.vx_layout.specs.Faults.{height, width}
use Rattle.vx_layout.specs.Layouts.{HasLayout, slice_at, slices_in}
use Rattle.vx_layout.specs.Rects.{IsPart}
use Rattle.vx_layout.proofs.Ordering.{slice_within}
use Rattle.vx_layout.proofs.layout.Layout.entry_points.Goals as goal

within : (n : Numbers) (k m : ℕ) (r : Rect) → r ≡ slice_at n k m → HasLayout n → k < length n.subpics → m < length (slices_in n k) → 0 < r.w → 0 < r.h → IsPart (width n) (height n) r
within n k m r is layout short low = subst (λ (t : Rect). 0 < t.w → 0 < t.h → IsPart (width n) (height n) t) (sym is) (slice_within n k m layout short low)

pub count_entries-requires-clause-across : goal.count_entries-requires-clause-across
count_entries-requires-clause-across c = λ wide high.
    let r : Rect = c.slice_rect-slice.result in
    let part = within c.args.self.now c.args.subpic c.args.address r c.slice_rect-slice.ensures.index c.slice_rect-slice.ensures.layout c.requires.subpic c.requires.address wide high in
    subst (λ (t : Numbers). r.x + r.w ≤ last t.columns) (sym c.self.view_is) part.across

pub count_entries-requires-clause-down : goal.count_entries-requires-clause-down
count_entries-requires-clause-down c = λ wide high.
    let r : Rect = c.slice_rect-slice.result in
    let part = within c.args.self.now c.args.subpic c.args.address r c.slice_rect-slice.ensures.index c.slice_rect-slice.ensures.layout c.requires.subpic c.requires.address wide high in
    subst (λ (t : Numbers). r.y + r.h ≤ last t.rows) (sym c.self.view_is) part.down
