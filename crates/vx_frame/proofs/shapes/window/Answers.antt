use Rattle.std.proofs.Common.{◌≡◌, ◌+◌, refl, ap, ◌∙◌}
use Rattle.std.specs.Prelude.{◌==◌}
use Rattle.vx_fields.specs.declared.sps.TheConstants.{sps_conf_win_bottom_offset, sps_conf_win_right_offset}
use Rattle.vx_fit.specs.Placing.{frame_height, frame_width}
use Rattle.vx_frame.specs.Shapes.{least, offsets_at}
use Rattle.vx_frame.proofs.shapes.window.Goals as goal

pub returns : goal.returns
returns c =
    let right : c.least_offset-2.result ≡ least (offsets_at (λ p. p.x + p.w == frame_width c.args.placed.now) sps_conf_win_right_offset c.args.placed.now c.args.round.now)
    = c.least_offset-2.ensures ∙ ap (λ n. least (offsets_at (λ p. p.x + p.w == n) sps_conf_win_right_offset c.args.placed.now c.args.round.now)) c.requires.wide in
    let bottom : c.least_offset-4.result ≡ least (offsets_at (λ p. p.y + p.h == frame_height c.args.placed.now) sps_conf_win_bottom_offset c.args.placed.now c.args.round.now)
    = c.least_offset-4.ensures ∙ ap (λ n. least (offsets_at (λ p. p.y + p.h == n) sps_conf_win_bottom_offset c.args.placed.now c.args.round.now)) c.requires.high in
    rw (c.least_offset.ensures, right, c.least_offset-3.ensures, bottom) refl
