use Rattle.std.proofs.Common.{◌∙◌, sym, ap}
use Rattle.std.specs.Prelude.{not}
use Rattle.vx_assemble.proofs.KeptPicture.{nothing_open, headed_open, going_open}
use Rattle.vx_assemble.proofs.state.CurrentPicture.is_open.Goals as goal

pub returns-in-Nothing : goal.returns-in-Nothing
returns-in-Nothing c p keeps = sym (nothing_open c.args.self.now p c.in-Nothing.is keeps)

pub returns-in-Headed : goal.returns-in-Headed
returns-in-Headed c p keeps = sym (headed_open c.args.self.now _ p c.in-Headed.is keeps)

pub returns-in-Going : goal.returns-in-Going
returns-in-Going c p keeps = ap not c.came_all.ensures ∙ going_open c.args.self.now c.in-Going.going p c.in-Going.is c.requires keeps
