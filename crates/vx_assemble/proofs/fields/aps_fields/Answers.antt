use Rattle.std.proofs.Common.{ap}
use Rattle.std.specs.Prelude.{Some}
use Rattle.vx_pic.specs.declared.structure.Structure.TheVariants as structures
use Rattle.vx_pic.specs.declared.structure.StructureFields.{StructureFields}
use Rattle.vx_aps.specs.declared.fields.ApsFields.{ApsFields}
use Rattle.vx_assemble.proofs.fields.aps_fields.Goals as goal

pub returns : goal.returns
returns c R h =
    let rbsp = c.args.rbsp.now in
    ap (λ (f : ApsFields). let s : StructureFields = record { structure = Some structures.Aps; items = f.items; body = f.body } in s) (c.in_ok-read.ensures (R.aps rbsp) (h.aps rbsp))
