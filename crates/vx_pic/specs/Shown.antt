-- The fields of the structure that a unit contains, for display. Our own. Contracts on the display of fields rely on it.
use Rattle.std.specs.Prelude.{List, [], Some, None}
use Rattle.vx_bits.specs.declared.list.Item.{Item}
use Rattle.vx_pic.specs.declared.structure.Structure.{Structure}
use Rattle.vx_pic.specs.declared.structure.StructureFields.{StructureFields}

-- Of no structure.
abbrev pub no_fields : StructureFields
no_fields = record { structure = None; items = []; body = None }

-- Of one that has no body.
abbrev pub fields_of : Structure → List Item → StructureFields
fields_of structure items = record { structure = Some structure; items = items; body = None }
