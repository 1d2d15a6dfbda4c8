use Rattle.std.proofs.Common.{◌≡◌, ◌-◌, ◌<◌, ℕ, List, length, get_or, arith, ap, ◌∙◌}
use Rattle.std.proofs.lemmas.List.{get_or_default}
use Rattle.vx_layout.specs.Bounds.{last}
use Rattle.vx_layout.proofs.Tiling.{last-get_or}
use Rattle.vx_layout.proofs.bounds.Bounds.last.Goals as goal

pub returns-clause-value : goal.returns-clause-value
returns-clause-value c =
    let ns : List ℕ = c.self.inside.numbers.items in
    let view : ns ≡ c.args.self.now = c.self.view_is in
    let some : 0 < length ns = rw view c.requires in
    let len : c.len.result ≡ length ns = omega (arith, c.len.ensures, c.self.inside.numbers.ok) in
    c.index.ensures
    ∙ (get_or_default ns (c.len.result - 1) c.index.result.now 0 (omega arith)
    ∙ (ap (λ n. get_or ns (n - 1) 0) len ∙ (last-get_or ns some ∙ ap last view)))
