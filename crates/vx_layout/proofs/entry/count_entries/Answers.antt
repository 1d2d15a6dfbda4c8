use Rattle.std.proofs.Common.{◌≡◌, ◌+◌, ◌-◌, ◌*◌, length, ap, sym, ◌∙◌}
use Rattle.vx_layout.specs.Regions.{inner}
use Rattle.vx_layout.proofs.Holding.{is_empty_tells, is_empty_fails}
use Rattle.vx_layout.proofs.Entries.{entries-is, entries-empty, rows_met, rows_met-sync, rows_met-plain}
use Rattle.vx_layout.proofs.entry.count_entries.Goals as goal
use Rattle.vx_layout.proofs.entry.count_entries.Goals.{then-sync, else-sync}

pub returns-then-is_empty : goal.returns-then-is_empty
returns-then-is_empty c = sym (entries-empty _ _ c.args.slice c.args.sync (is_empty_tells _ _ (sym c.if-is_empty.ensures)))

pub returns : goal.returns
returns c =
    let r = c.args.slice in
    let some = is_empty_fails r.w r.h (sym c.if-is_empty.ensures) in
    let across : c.count_inner-across.result ≡ length (inner c.args.columns.now r.x r.w) = c.count_inner-across.ensures.count in
    let down : c.if-sync.down ≡ rows_met c.args.sync c.args.rows.now r.y r.h =
    elim c.if-sync.branch [
      | then-sync w ↦ rw w.if-sync.true (w.down-is ∙ sym (rows_met-sync c.args.rows.now r.y r.h))
      | else-sync w ↦ rw w.if-sync.false (w.down-is ∙ (ap (λ n. n + 1) w.count_inner.ensures.count ∙ sym (rows_met-plain c.args.rows.now r.y r.h)))
    ]
    in
    ap (λ n. (n + 1) * c.if-sync.down - 1) across
    ∙ (ap (λ n. (length (inner c.args.columns.now r.x r.w) + 1) * n - 1) down
    ∙ sym (entries-is c.args.columns.now c.args.rows.now r c.args.sync c.requires.rises.0 c.requires.rises.1 some.0 some.1 (c.requires.across some.0 some.1) (c.requires.down some.0 some.1)))
