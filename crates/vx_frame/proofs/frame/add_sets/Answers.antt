use Rattle.std.proofs.Common.{◌∷◌, [], ◌++◌, map, ◌∙◌, ap}
use Rattle.std.proofs.lemmas.List.{map-append}
use Rattle.vx_pic.specs.Keys.{SetItems}
use Rattle.vx_frame.specs.inner.Frames.{sets_in}
use Rattle.vx_frame.proofs.SameSets.{sets_alike}
use Rattle.vx_frame.proofs.frame.add_sets.Goals as goal

pub returns : goal.returns
returns c =
    let old = c.args.sources.now.items in
    let key = c.in_ok-key.key in
    ap (map sets_in) c.in_ok-push.ensures.items
    ∙ (map-append sets_in old (key ∷ [])
    ∙ ap (λ x. map sets_in old ++ x ∷ [])
    (sets_alike c.args.picture.now key (ap (λ (x : SetItems). x.sps) c.in_ok-key.ensures ∙ c.sps.ensures) (ap (λ (x : SetItems). x.pps) c.in_ok-key.ensures ∙ c.pps.ensures) c.requires.numbers))
