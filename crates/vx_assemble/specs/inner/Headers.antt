-- A picture header under its sets.
use Rattle.std.specs.Prelude.{◌≡◌, List}
use Rattle.vx_bits.specs.declared.list.Item.{Item}
use Rattle.vx_rpl.specs.HeaderLists.{lists_of}
use Rattle.vx_ph.specs.declared.header.PictureHeader.{PictureHeader}
use Rattle.vx_ph.specs.InForce.{in_force, structures}

-- It has the lists that its items determine.
abbrev pub IsHeaderUnder : List Item → List Item → PictureHeader → Type 0
IsHeaderUnder s p h = h.lists ≡ lists_of (structures s) (in_force s p) h.fields
