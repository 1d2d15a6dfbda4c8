use Rattle.std.proofs.Common.{ℕ, List, sym, ◌∙◌, subst, Contains}
use Rattle.std.proofs.lemmas.Bool.{OnFalse_from, OnTrue_from}
use Rattle.vx_layout.specs.Bounds.{Rises}
use Rattle.vx_layout.proofs.Searching.{search-finds, search-misses}
use Rattle.vx_layout.proofs.bounds.Bounds.has.Goals as goal

pub returns-clause-found : goal.returns-clause-found
returns-clause-found c =
    let ns : List ℕ = c.deref.result.now in
    let rises : Rises ns = subst Rises (sym c.deref.ensures.value) c.self.invariant in
    OnTrue_from c.is_ok.result (Contains c.args.self.now c.args.number)
    (λ is.
    subst (λ bs. Contains bs c.args.number) (c.deref.ensures.value ∙ c.self.view_is)
    (search-finds ns c.args.number c.binary_search.result rises c.binary_search.ensures.position (sym c.is_ok.ensures.value ∙ is)))

pub returns-clause-missing : goal.returns-clause-missing
returns-clause-missing c =
    let ns : List ℕ = c.deref.result.now in
    let rises : Rises ns = subst Rises (sym c.deref.ensures.value) c.self.invariant in
    OnFalse_from c.is_ok.result (Contains c.args.self.now c.args.number → ⊥)
    (λ is inside.
    search-misses ns c.args.number c.binary_search.result rises c.binary_search.ensures.position (sym c.is_ok.ensures.value ∙ is)
    (subst (λ bs. Contains bs c.args.number) (sym (c.deref.ensures.value ∙ c.self.view_is)) inside))
