-- What is stated, part by part.
use Rattle.std.proofs.Common.{◌≡◌, ◌++◌, refl, ap, ◌∙◌}
use Rattle.vx_table.specs.Scope.{quotient}
use Rattle.vx_sps.specs.Set.{ctb_size_of}
use Rattle.vx_sps.specs.Reshaped.{sps_id_items, profile_items, picture_size_items, subpic_items, dpb_items, timing_items}
use Rattle.vx_sps.proofs.Pushed.{six_pushed}
use Rattle.vx_sps.proofs.reshape.stated_items.Goals as goal

pub returns-clause-items : goal.returns-clause-items
returns-clause-items c =
    let shape = c.args.shape.now in
    let source = c.args.source.now in
    let columns : c.quotient-columns.result ≡ quotient shape.width (ctb_size_of source) = c.quotient-columns.ensures ∙ ap (λ n. quotient shape.width n) c.ctb-side.ensures in
    let rows : c.quotient-rows.result ≡ quotient shape.height (ctb_size_of source) = c.quotient-rows.ensures ∙ ap (λ n. quotient shape.height n) c.ctb-side.ensures in
    six_pushed (sps_id_items shape.id) (profile_items source shape.level) (picture_size_items shape.width shape.height shape.window)
    (subpic_items (quotient shape.width (ctb_size_of source)) (quotient shape.height (ctb_size_of source)) shape.subpics) (dpb_items source shape.dpb) (timing_items source)
    c.new-into.ensures c.in_ok-push_ids.ensures c.in_ok-push_profile.ensures c.in_ok-push_size.ensures
    (c.in_ok-push_subpics.ensures ∙ ap (λ x. c.push_size.new.into ++ x) (rw (columns, rows) refl)) c.in_ok-push_dpb.ensures c.in_ok-push_timing.ensures
