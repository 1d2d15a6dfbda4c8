use Rattle.std.proofs.Common.{rules, refl, ◌+◌, ◌*◌, ◌<◌, length}
use Rattle.vx_aps.specs.Aps.{IsValid}
use Rattle.vx_pic.proofs.ApsLists.{place_within, read_valid}
use Rattle.vx_pic.proofs.aps_list.ApsList.at.Goals as goal

pub returns-in-Some-clause-valid : goal.returns-in-Some-clause-valid
returns-in-Some-clause-valid c =
    let within : c.from-2.result * c.from-3.result + c.args.id < length c.self.inside.sets =
    place_within c.from-2.result c.from-3.result c.args.id c.args.kind c.args.id (length c.self.inside.sets) (search rules) (search rules) refl
    (search rules) (search rules) c.self.invariant.0 in
    let valid : IsValid c.in-Some.aps.value =
    read_valid (λ arc. arc.value) c.self.inside.sets (c.from-2.result * c.from-3.result + c.args.id) c.index-self-from.result c.in-Some.aps c.self.invariant.1
    within (search rules) in
    search rules
