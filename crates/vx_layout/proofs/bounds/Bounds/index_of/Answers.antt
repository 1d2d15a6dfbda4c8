use Rattle.std.proofs.Common.{◌≡◌, ℕ, ◌<◌, List, length, get_or, sym, ◌∙◌, subst, Contains, MatchOption}
use Rattle.std.specs.Result.{result_ok}
use Rattle.vx_layout.specs.Bounds.{Rises}
use Rattle.vx_layout.proofs.Searching.{search-index}
use Rattle.vx_layout.proofs.bounds.Bounds.index_of.Goals as goal

pub returns-clause-index : goal.returns-clause-index
returns-clause-index c =
    let ns : List ℕ = c.deref.result.now in
    let rises : Rises ns = subst Rises (sym c.deref.ensures.value) c.self.invariant in
    subst (λ r. MatchOption r (Contains c.args.self.now c.args.number → ⊥) (λ i. (i < length c.args.self.now) × (get_or c.args.self.now i 0 ≡ c.args.number))) (sym c.ok.ensures.value)
    (subst (λ bs. MatchOption (result_ok c.binary_search.result) (Contains bs c.args.number → ⊥) (λ i. (i < length bs) × (get_or bs i 0 ≡ c.args.number))) (c.deref.ensures.value ∙ c.self.view_is)
    (search-index ns c.args.number c.binary_search.result rises c.binary_search.ensures.position))
