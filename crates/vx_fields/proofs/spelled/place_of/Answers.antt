use Rattle.std.proofs.Common.{rules, ◌≡◌, ◌≤◌, ◌+◌, false, nat_lt, length, subst, sym}
use Rattle.std.proofs.lemmas.Bool.{ltb-false}
use Rattle.std.proofs.lemmas.List.{get_or_past}
use Rattle.vx_fields.specs.Names.{place_of_name}
use Rattle.vx_fields.specs.declared.text.TheConstants.{TEXT, PLACES}
use Rattle.vx_fields.proofs.Naming.{place_climbs, place_within}
use Rattle.vx_fields.proofs.spelled.place_of.Goals as goal

pub returns-in-Some-clause-climbs : goal.returns-in-Some-clause-climbs
returns-in-Some-clause-climbs c =
    let place : c.from.result ≡ place_of_name c.args.number = search rules in
    subst (λ p. p ≤ place_of_name (c.args.number + 1)) (sym place) (place_climbs c.args.number)

pub returns-in-Some-clause-within : goal.returns-in-Some-clause-within
returns-in-Some-clause-within c =
    let place : c.from.result ≡ place_of_name c.args.number = search rules in
    subst (λ p. p ≤ length TEXT) (sym place) (place_within c.args.number)

-- behind the last place
past : (n : _) → false ≡ nat_lt n (length PLACES) → length TEXT ≡ place_of_name n
past n behind = sym (get_or_past PLACES n (length TEXT) (ltb-false n (length PLACES) (sym behind)))

pub returns-in-None-clause-place : goal.returns-in-None-clause-place
returns-in-None-clause-place c = past c.args.number c.in-None.ensures.lookup.0

pub returns-in-None-clause-climbs : goal.returns-in-None-clause-climbs
returns-in-None-clause-climbs c =
    subst (λ p. p ≤ place_of_name (c.args.number + 1)) (sym (past c.args.number c.in-None.ensures.lookup.0)) (place_climbs c.args.number)
