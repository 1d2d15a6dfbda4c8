use Rattle.std.proofs.Common.{rules, arith, ◌≡◌, ◌∙◌, ◌+◌, ap, refl}
use Rattle.std.specs.Option.{option_copied}
use Rattle.vx_fields.specs.Names.{place_of_name}
use Rattle.vx_fields.proofs.Naming.{given_name}
use Rattle.vx_fields.proofs.spelled.name_of.Goals as goal

pub returns : goal.returns
returns c =
    let from : c.place_of.result ≡ place_of_name c.args.field = search (arith, rules) in
    let end : c.place_of-2.result ≡ place_of_name (c.args.field + 1) = search (arith, rules) in
    ap option_copied c.then_some.ensures
    ∙ given_name c.args.field c.place_of.result c.place_of-2.result _ c.is_empty.result from end refl c.is_empty.ensures
