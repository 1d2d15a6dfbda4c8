use Rattle.std.proofs.Common.{◌≡◌, ◌-◌, ◌++◌, pos, ap, sym, ◌∙◌, arith}
use Rattle.std.proofs.lemmas.Result.{on_ok_weaker}
use Rattle.vx_fields.specs.declared.pps.TheConstants as pps
use Rattle.vx_table.specs.Scope.{powers_below}
use Rattle.vx_pps.specs.Written.{only_item}
use Rattle.vx_pps.proofs.Pushing.{are_groups, five_parts}
use Rattle.vx_pps.proofs.reshape.push_division.Goals as goal

pub returns : goal.returns
returns c =
    let log2 : c.saturating_sub.result ≡ powers_below 32 c.args.shape.now.ctb - 5 = omega (arith, c.ceil_log2.ensures, c.saturating_sub.ensures) in
    let first = c.in_ok-push.ensures ∙ ap (λ n. c.args.items.now ++ only_item pps.pps_log2_ctu_size_minus5 (pos n)) log2 in
    on_ok_weaker c.push_slices.result
    (λ pushed division d.
    five_parts c.args.items.now _ _ _ _ _ _ _ _ _ _ first c.in_ok-push_tiles.ensures c.in_ok-push_tile_flags.ensures c.in_ok-push-2.ensures (pushed _ (are_groups d.groups))
    ∙ ap (λ xs. c.args.items.now ++ xs) (sym d.same))
    c.push_slices.ensures
