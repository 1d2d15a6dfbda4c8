use Rattle.std.proofs.Common.{ap, ◌∙◌, arith}
use Rattle.vx_frame.specs.Rules.{kept_header}
use Rattle.vx_frame.proofs.Differing.{headers_alike}
use Rattle.vx_frame.proofs.Reading.{picture_read}
use Rattle.vx_frame.proofs.headers.lowest_other_header.Goals as goal

pub lowest_in_headers-requires-clause-first : goal.lowest_in_headers-requires-clause-first
lowest_in_headers-requires-clause-first c =
    c.in_ok-first.ensures ∙ ap kept_header (picture_read c.args.round.now 0 c.index-round-0.result (omega (arith, c.requires)) c.index-round-0.is)

pub returns-then-have_same_items : goal.returns-then-have_same_items
returns-then-have_same_items c = headers_alike c.args.round.now c.if-have_same_items.ensures
