use Rattle.std.proofs.Common.{ap, sym, ◌∙◌, inl, inr, unwrap_or}
use Rattle.vx_frame.proofs.Differing.{header_alike, header_differs, header_read}
use Rattle.vx_frame.proofs.headers.header_field.Goals as goal

pub returns-in-Some : goal.returns-in-Some
returns-in-Some c =
    let round = c.args.round.now in
    let is = header_read round c.args.k c.index-round-k.result c.args.first.now c.in_ok-kept.kept c.requires.k c.index-round-k.is c.requires.first c.in_ok-kept.ensures in
    let both = header_differs round c.args.k c.in-Some.field (sym is ∙ c.in-Some.is) in
    (inl both.0, both.1)

pub returns-then-scales_otherwise : goal.returns-then-scales_otherwise
returns-then-scales_otherwise c =
    let round = c.args.round.now in
    let is = header_read round c.args.k c.index-round-k.result c.args.first.now c.in_ok-kept.kept c.requires.k c.index-round-k.is c.requires.first c.in_ok-kept.ensures in
    (inr c.if-scales_otherwise.ensures.unlike, sym (ap (λ o. unwrap_or o 613) (sym is ∙ c.in_default.is)))

pub returns : goal.returns
returns c =
    let round = c.args.round.now in
    let is = header_read round c.args.k c.index-round-k.result c.args.first.now c.in_ok-kept.kept c.requires.k c.index-round-k.is c.requires.first c.in_ok-kept.ensures in
    λ either. elim either [ inl x ↦ header_alike round c.args.k (sym is ∙ c.in_default.is) x | inr y ↦ c.if-scales_otherwise.ensures.alike y ]
