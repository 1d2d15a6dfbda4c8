-- What a form admits of fields outside a set, part by part; and that it is then rewritten.
use Rattle.std.proofs.Common.{◌≡◌, ℕ, ℤ, List, [], ◌∷◌, ◌++◌, refl, ap, sym, ◌∙◌}
use Rattle.std.proofs.lemmas.Bool.{both_ways}
use Rattle.std.proofs.lemmas.List.{append-nil, append_assoc}
use Rattle.vx_bits.specs.declared.list.Item.{Item}
use Rattle.vx_table.specs.Forms.{Form, done, field, ◌>>=◌}
use Rattle.vx_table.specs.Parts.{Section, sections_form}
use Rattle.vx_table.specs.Spelling.{item_of, items_along}
use Rattle.vx_table.specs.Values.{Follows, to_end, through}
use Rattle.vx_table.specs.Depends.{Agree, Alike, at_ends, both, hidden_left, hidden_right, IsLeft, Leaves}
use Rattle.vx_table.specs.Shown.{shown_items}
use Rattle.vx_table.specs.laws.Again.{AllShown, AlwaysShown}
use Rattle.vx_table.specs.Rewritten.{other_items}
use Rattle.vx_table.specs.Rewrites.{Takes, Admits, no_more, at_shown, at_other}
use Rattle.vx_table.proofs.Agreeing.{agree_on}
use Rattle.vx_table.proofs.Rewriting.{other_here, no_other_here}
use Rattle.vx_table.proofs.Rewrites.{leaves_together, sections_together}
use Rattle.vx_table.proofs.Shown.{shown_here, hidden_here}

-- fields of the set alone
pub admits_none : {names : List ℕ} (f : Form (List ℕ)) → AllShown names f → Admits names f []
admits_none (done s) all = no_more
admits_none (field cell goes) all = at_shown all.0 (λ v value. admits_none (goes v) (all.1 v))

-- none of the set
pub admits_all : {names : List ℕ} (s : List ℕ) {f : Form (List ℕ)} {w : List ℤ} {a : List ℕ} → IsLeft names s f → Follows f w a → Admits names f (items_along f w)
admits_all s left to_end = no_more
admits_all s left (through {v} value on) = at_other left.0 value (admits_all s (left.1 v) on)

-- one form behind another, where the first leaves some names alone
pub admits_then : {names at s : List ℕ} {f : Form (List ℕ)} {here others : List Item} (next : List ℕ → Form (List ℕ)) → Admits names f here → IsLeft at s f
    → ((t : List ℕ) → Agree at s t → Admits names (next t) others) → Admits names (f >>= next) (here ++ others)
admits_then next (no_more {s}) left more = more s left
admits_then next (at_shown is each) left more = at_shown is (λ v value. admits_then next (each v value) (left.1 v) more)
admits_then {others} next (at_other {cell} {v} {others = rest} is value on) left more =
    rw (append_assoc (item_of cell v) rest others) (at_other is value (admits_then next on (left.1 v) more))

-- At each scope that agrees with this one on some names a structure admits these items.
pub record Adds (names at s : List ℕ) (form : List ℕ → Form (List ℕ)) (others : List Item) : Type 0 where
  pub admits : (t : List ℕ) → Agree at s t → Admits names (form t) others
  pub leaves : Leaves at form

module _ {names at s : List ℕ} where
  pub adds_none : (form : List ℕ → Form (List ℕ)) → AlwaysShown names form → Leaves at form → Adds names at s form []
  adds_none form all leaves = record { admits = λ t agree. admits_none (form t) (all.at t); leaves = leaves }

  -- one that takes them at each such scope, and has no field of the set
  pub adds_all : (form : List ℕ → Form (List ℕ)) (others : List Item) → Leaves names form → Leaves at form
      → ((t : List ℕ) → Agree at s t → Takes (form t) others) → Adds names at s form others
  adds_all form others hidden leaves takes = record {
    admits = λ t agree. rw (sym (takes t agree).all) (admits_all t (hidden.at t) (takes t agree).follows);
    leaves = leaves;
  }

  -- one behind another
  pub adds_then : (first more : List ℕ → Form (List ℕ)) (here others : List Item) → Adds names at s first here → Adds names at s more others
      → Adds names at s (λ t. first t >>= more) (here ++ others)
  adds_then first more here others front behind = record {
    admits = λ t agree. admits_then more (front.admits t agree) (front.leaves.at t) (λ u same. behind.admits u (agree_on agree same));
    leaves = leaves_together at first more front.leaves behind.leaves;
  }

  pub adds_before : (first more : List ℕ → Form (List ℕ)) (here : List Item) → Adds names at s first here → Adds names at s more []
      → Adds names at s (λ t. first t >>= more) here
  adds_before first more here front behind = rw (append-nil here) at (adds_then first more here [] front behind)

  pub adds_sections : (first more : List Section) (here others : List Item) → Adds names at s (sections_form first) here → Adds names at s (sections_form more) others
      → Adds names at s (sections_form (first ++ more)) (here ++ others)
  adds_sections first more here others front behind =
      let both = adds_then (sections_form first) (sections_form more) here others front behind in
      record {
        admits = λ t agree. rw (sections_together first more t) (both.admits t agree);
        leaves = record { at = λ t. rw (sections_together first more t) (both.leaves.at t) };
      }

-- Values with the set's items of a value of an alike form, and with the others that a form admits, go through it.
pub record Refilled (names : List ℕ) (form : Form (List ℕ)) (shown others : List Item) : Type 0 where
  pub values : List ℤ
  pub end : List ℕ
  pub follows : Follows form values end
  pub shown_ones : shown_items names (items_along form values) ≡ shown
  pub other_ones : other_items names (items_along form values) ≡ others

pub refilled : {names known : List ℕ} {f g : Form (List ℕ)} {w : List ℤ} {a : List ℕ} {others : List Item} → Alike names known f g → Admits names g others → Follows f w a
    → Refilled names g (shown_items names (items_along f w)) others
refilled (at_ends {t} agree) no_more to_end = record { values = []; end = t; follows = to_end; shown_ones = refl; other_ones = refl }
refilled {names} (both {cell} {goes} {other} is more) (at_shown it_is admits) (through {v} {w} value on) =
    let rest = refilled (more v) (admits v value) on in
    record {
      values = v ∷ rest.values;
      end = rest.end;
      follows = through value rest.follows;
      shown_ones = shown_here names cell v (items_along (other v) rest.values) is ∙ ap (λ x. item_of cell v ++ x) rest.shown_ones ∙ sym (shown_here names cell v (items_along (goes v) w) is);
      other_ones = no_other_here names cell v (items_along (other v) rest.values) is ∙ rest.other_ones;
    }
refilled (both is more) (at_other it_is_not value admits) on = absurd (both_ways _ it_is_not is)
refilled {names} (hidden_left {cell} {goes} is more) admits (through {v} {w} value on) =
    let rest = refilled (more v) admits on in
    record {
      values = rest.values;
      end = rest.end;
      follows = rest.follows;
      shown_ones = rest.shown_ones ∙ sym (hidden_here names cell v (items_along (goes v) w) is);
      other_ones = rest.other_ones;
    }
refilled {names} (hidden_right {cell} {goes} is more) (at_other {v} it_is_not value admits) on =
    let rest = refilled (more v) admits on in
    record {
      values = v ∷ rest.values;
      end = rest.end;
      follows = through value rest.follows;
      shown_ones = hidden_here names cell v (items_along (goes v) rest.values) is ∙ rest.shown_ones;
      other_ones = other_here names cell v (items_along (goes v) rest.values) is ∙ ap (λ x. item_of cell v ++ x) rest.other_ones;
    }
refilled (hidden_right is more) (at_shown it_is admits) on = absurd (both_ways _ is it_is)
