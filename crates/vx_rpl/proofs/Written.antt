-- A writer that has taken all items answers for them.
use Rattle.std.proofs.Common.{◌≡◌, ℕ, Bool, List, [], ◌∷◌, length, Result, Ok, Err, sym, subst}
use Rattle.vx_bits.specs.declared.list.Item.{Item}
use Rattle.vx_table.specs.declared.writer.SpellError.{SpellError}
use Rattle.vx_table.specs.declared.writer.SpellError.TheVariants as errors
use Rattle.vx_table.specs.Forms.{Form}
use Rattle.vx_table.specs.Walks.{Walks, leaving}
use Rattle.vx_table.specs.Values.{bits_along}
use Rattle.vx_table.specs.Writing.{WritesField, Writes}
use Rattle.vx_table.proofs.Writings.{writes}
use Rattle.vx_rpl.specs.Written.{WritesAll, all_taken}

-- from a writer's answer
from_writes : {form : Form (List ℕ)} {old new : List Bool} {items : List Item} (left : List Item) (result : Result (Unit {0}) SpellError)
    → Writes form old items result new left → WritesAll form old items (all_taken result left) new
from_writes {form} {old} {new} {items} [] (Ok u) w = record {
  is = (w.is.1.values, w.is.0, record { follows = w.is.1.follows; given = w.is.1.taken }, w.is.1.gained);
  only = λ values end of. (w.only values end [] of).0;
  none = λ others. others w.is.1.values w.is.0 (record { follows = w.is.1.follows; given = w.is.1.taken });
  gained = (bits_along form (length old) w.is.1.values, w.is.1.gained);
}
from_writes {form} {old} {new} {items} (item ∷ left) (Ok u) w = record {
  is = tt;
  only = λ values end of. let same : item ∷ left ≡ [] = (w.only values end [] of).1 in cc;
  none = λ others. tt;
  gained = (bits_along form (length old) w.is.1.values, w.is.1.gained);
}
from_writes {form} {old} {new} {items} left (Err errors.Memory) w = record {
  is = tt;
  only = λ values end of. tt;
  none = λ others. tt;
  gained = (bits_along form (length old) w.is.1.values, w.is.1.gained);
}
from_writes {form} {old} {new} {items} left (Err errors.NoValue) w = record {
  is = tt;
  only = λ values end of. w.only values end [] of;
  none = λ others. tt;
  gained = (bits_along form (length old) w.is.1.values, w.is.1.gained);
}

pub writes_all : {form : Form (List ℕ)} {old new : List Bool} {items left : List Item} (a : List ℕ) (written result : Result (Unit {0}) SpellError)
    → Walks WritesField form old items (leaving a written) new left → result ≡ all_taken written left → WritesAll form old items result new
writes_all {form} {old} {new} {items} {left} a written result walk is =
    subst (λ r. WritesAll form old items r new) (sym is) (from_writes left written (writes a written walk))
