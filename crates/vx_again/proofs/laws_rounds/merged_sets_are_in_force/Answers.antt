use Rattle.std.proofs.Common.{subst}
use Rattle.std.specs.List.{AllByRecursion}
use Rattle.vx_pic.specs.Resident.{IsBodyOf, readings_of_plans}
use Rattle.vx_pic.specs.Written.{IsStored, SetUnit, before_header, planned}
use Rattle.vx_again.proofs.laws_rounds.merged_sets_are_in_force.Goals as goal

pub returns : goal.returns
returns c = λ corners level round done p is.
    let sent = c.merged_sends_its_sets.ensures corners level round done p is in
    record {
      stored = subst (AllByRecursion (λ (x : SetUnit). IsStored (before_header (readings_of_plans done) p) x.set)) sent.same (c.needed_is_stored.ensures done p sent.sends);
      bodies = subst (AllByRecursion (λ (x : SetUnit). IsBodyOf (planned (readings_of_plans done) p) x.set)) sent.same (c.needed_is_body.ensures done p sent.sends);
    }
