-- Sets that are known by the RBSPs that they were read from: bytes are read as one list of items.
use Rattle.std.proofs.Common.{◌≡◌, ℕ, true, List, Option, sym, subst}
use Rattle.vx_bits.specs.declared.list.Item.{Item}
use Rattle.vx_table.specs.Forms.{Form}
use Rattle.vx_table.specs.ReadFrom.{IsReadFrom}
use Rattle.vx_pic.specs.Sets.{same_items}
use Rattle.vx_pic.specs.inner.Keyed.{AreSameRbsp}
use Rattle.vx_pic.proofs.AsRead.{begins_of}
use Rattle.vx_pic.proofs.SameItems.{same_itself}
use Rattle.vx_pic.proofs.Determined.{one_value}

pub one_reading : {A : Type 0} (form : Form A) (items others : List Item) (kept other : Option (List ℕ))
    → IsReadFrom form kept items → IsReadFrom form other others → AreSameRbsp kept other → items ≡ others
one_reading form items others kept other one two (rbsp, same, again) =
    let first = subst (λ (x : Option (List ℕ)). IsReadFrom form x items) same one in
    let second = subst (λ (x : Option (List ℕ)). IsReadFrom form x others) again two in
    one_value (begins_of first.1) (begins_of second.1)

pub known_again : {A : Type 0} (form : Form A) (items others : List Item) (kept other : Option (List ℕ))
    → IsReadFrom form kept items → IsReadFrom form other others → AreSameRbsp kept other → true ≡ same_items items others
known_again form items others kept other one two same =
    rw (one_reading form items others kept other one two same) (sym (same_itself others))
