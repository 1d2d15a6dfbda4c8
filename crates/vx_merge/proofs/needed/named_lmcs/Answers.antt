use Rattle.std.proofs.Common.{◌≡◌, Bor, ℕ, List, map, ap, ◌∙◌, arith, length}
use Rattle.std.specs.Prelude.{option_copied, option_to_list}
use Rattle.std.proofs.lemmas.List.{length-map}
use Rattle.vx_merge.specs.Needed.{lmcs_bodies}
use Rattle.vx_merge.proofs.BodyEnds.{few_listed}
use Rattle.vx_merge.proofs.needed.named_lmcs.Goals as goal

pub named-requires : goal.named-requires
named-requires c =
    let size = length-map c.in_ok-bodies.bodies (λ (b : Bor (List ℕ)). b.now) in
    let same = ap length c.in_ok-bodies.ensures in
    let few = few_listed (option_copied c.shared_lmcs.result) in
    omega (arith, size, same, few, ap (λ s. s.count) c.of_lmcs.ensures)

pub returns : goal.returns
returns c =
    let are : map (λ (b : Bor (List ℕ)). b.now) c.in_ok-bodies.bodies ≡ lmcs_bodies c.args.round.now = c.in_ok-bodies.ensures ∙ ap option_to_list c.shared_lmcs.ensures in
    rw (are, c.of_lmcs.ensures) at c.named.ensures
