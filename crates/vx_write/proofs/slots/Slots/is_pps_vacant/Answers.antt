use Rattle.std.proofs.Common.{sym}
use Rattle.vx_write.specs.Slots.{a_pps_of}
use Rattle.vx_write.proofs.Vacant.{vacant_from_none, vacant_from_place}
use Rattle.vx_write.proofs.slots.Slots.is_pps_vacant.Goals as goal

pub returns-in-Some : goal.returns-in-Some
returns-in-Some c = sym (vacant_from_place (a_pps_of c.args.id) c.args.self.now _ c.in-Some.ensures)

pub returns-in-None : goal.returns-in-None
returns-in-None c = sym (vacant_from_none (a_pps_of c.args.id) c.args.self.now c.in-None.ensures)
