use Rattle.std.proofs.Common.{◌≡◌, ◌<◌, ℕ, get_or, length, sym, subst, arith}
use Rattle.std.proofs.lemmas.Bool.{OnFalse_from, OnTrue_at, OnTrue_from}
use Rattle.std.proofs.lemmas.List.{get_or_default}
use Rattle.vx_fit.specs.FrameLines.{IsHorizontal, IsVertical, KeepsLines, corner_at, no_numbers, part_at}
use Rattle.vx_fit.specs.inner.Passing.{AreOwn}
use Rattle.vx_fit.proofs.Lined.{lines_from_own, own_from_lines}
use Rattle.vx_fit.proofs.lines.keeps_lines.Goals as goal

pub returns-then-not-are_own-clause-breaks : goal.returns-then-not-are_own-clause-breaks
returns-then-not-are_own-clause-breaks c = λ keeps.
    let corners = c.args.corners.now in
    let parts = c.args.parts.now in
    let columns = c.args.columns.now in
    let k : ℕ = c.args.k in
    let short : k < length parts = omega (arith, c.requires.place, c.requires.framed.same) in
    let is : get_or parts k c.index-parts-k.result ≡ part_at parts k = get_or_default parts k c.index-parts-k.result no_numbers short in
    c.if-not-are_own.ensures.other
    (subst (λ p. AreOwn columns (corner_at corners k).x (corner_at corners k).w p.columns) (sym is)
    (own_from_lines (IsVertical corners parts) columns (corner_at corners k).x (corner_at corners k).w (part_at parts k).columns c.requires.vertical keeps.columns))

pub returns-then-are_own-clause-keeps : goal.returns-then-are_own-clause-keeps
returns-then-are_own-clause-keeps c =
    let corners = c.args.corners.now in
    let parts = c.args.parts.now in
    let columns = c.args.columns.now in
    let rows = c.args.rows.now in
    let k : ℕ = c.args.k in
    let short : k < length parts = omega (arith, c.requires.place, c.requires.framed.same) in
    let first : get_or parts k c.index-parts-k.result ≡ part_at parts k = get_or_default parts k c.index-parts-k.result no_numbers short in
    let second : get_or parts k c.index-parts-k-2.result ≡ part_at parts k = get_or_default parts k c.index-parts-k-2.result no_numbers short in
    OnTrue_from c.follows.result (KeepsLines corners parts k)
    (λ so. record {
      columns =
          lines_from_own (IsVertical corners parts) columns (corner_at corners k).x (corner_at corners k).w (part_at parts k).columns c.requires.vertical
          (subst (λ p. AreOwn columns (corner_at corners k).x (corner_at corners k).w p.columns) first c.if-not-are_own.ensures.own);
      rows =
          lines_from_own (IsHorizontal corners parts) rows (corner_at corners k).y (corner_at corners k).h (part_at parts k).rows c.requires.horizontal
          (subst (λ p. AreOwn rows (corner_at corners k).y (corner_at corners k).h p.rows) second c.if-are_own.ensures.own);
      above = OnTrue_at so c.follows.ensures.follows;
    })

pub returns-else-are_own-clause-breaks : goal.returns-else-are_own-clause-breaks
returns-else-are_own-clause-breaks c =
    let corners = c.args.corners.now in
    let parts = c.args.parts.now in
    let rows = c.args.rows.now in
    let k : ℕ = c.args.k in
    let short : k < length parts = omega (arith, c.requires.place, c.requires.framed.same) in
    let is : get_or parts k c.index-parts-k-2.result ≡ part_at parts k = get_or_default parts k c.index-parts-k-2.result no_numbers short in
    OnFalse_from c.are_own-2.result (¬ KeepsLines corners parts k)
    (λ off keeps.
    c.if-are_own.ensures.other
    (subst (λ p. AreOwn rows (corner_at corners k).y (corner_at corners k).h p.rows) (sym is)
    (own_from_lines (IsHorizontal corners parts) rows (corner_at corners k).y (corner_at corners k).h (part_at parts k).rows c.requires.horizontal keeps.rows)))
