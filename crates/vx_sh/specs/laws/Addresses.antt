-- The addresses of slices (H.266 7.4.8, sh_slice_address).
use Rattle.std.specs.Prelude.{◌≡◌, ◌⊎◌, ℤ, ◌<◌, List, length, slice_index}
use Rattle.vx_bits.specs.declared.list.Item.{Item}
use Rattle.vx_table.specs.Loaded.{number}
use Rattle.vx_fields.specs.declared.sh.TheConstants.{sh_slice_address}
use Rattle.vx_fields.specs.declared.names.sh.TheConstants.{SUBPIC}
use Rattle.vx_sh.specs.Whole.{At, num_slices_in_subpic}
use Rattle.vx_sh.specs.Value.{AreFields}

-- The address of a slice is below the number of slices of its subpicture; it is 0 if there is none.
abbrev pub AddressesAreBelow : Type 0
AddressesAreBelow = (n : At) (fields : List Item) (inside : List ℤ) (f : AreFields n fields inside) → length n.slice ≡ 1024
    → (number fields sh_slice_address ≡ 0) ⊎ (number fields sh_slice_address < num_slices_in_subpic n.layout (slice_index f.end SUBPIC))
