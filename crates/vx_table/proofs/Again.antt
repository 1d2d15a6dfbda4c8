-- The same bits, values and answers again, of alike forms all of whose fields are shown.
use Rattle.std.proofs.Common.{◌≡◌, inl, inr, ℕ, ℤ, ◌+◌, Bool, true, IsTrue, List, [], ◌∷◌, ◌++◌, length, Result, Ok, Err, refl, ap, subst, ◌∙◌}
use Rattle.std.proofs.lemmas.Bool.{both_ways}
use Rattle.vx_bits.specs.declared.list.Item.{Item}
use Rattle.vx_bits.specs.declared.refusal.ReadError.{ReadError}
use Rattle.vx_bits.specs.declared.refusal.ReadError.TheVariants as errors
use Rattle.vx_bits.specs.Place.{Place}
use Rattle.vx_table.specs.declared.rows.Formula.{Formula}
use Rattle.vx_table.specs.declared.rows.Cell.{Cell}
use Rattle.vx_table.specs.declared.rows.Row.TheVariants.{Field}
use Rattle.vx_table.specs.Forms.{Form, done, field, ◌>>=◌, cell_at}
use Rattle.vx_table.specs.Spelling.{Spells, at_end, behind, Reaches, here, later, code_of, item_of, items_along}
use Rattle.vx_table.specs.Values.{Follows, to_end, through}
use Rattle.vx_table.specs.Reading.{IsFound, StopsAt, IsReadingAnswer, IsAnswered, IsRefusedWith, Reads}
use Rattle.vx_table.specs.Depends.{has, Inside, Alike, at_ends, both, hidden_left, hidden_right}
use Rattle.vx_table.specs.laws.Again.{AllShown, GoesToo, FollowsAgain, ReadsAgain, StopsAgain, AnswersAgain, shows_row, TablesShow, SectionsShow}
use Rattle.vx_table.proofs.Agreeing.{agree_back}
use Rattle.vx_table.proofs.EachField.{each_then, each_of_rows, each_of_sections}

pub alike_back : {shown known : List ℕ} {f g : Form (List ℕ)} → Alike shown known f g → Alike shown known g f
alike_back (at_ends agree) = at_ends (agree_back agree)
alike_back (both is more) = both is (λ v. alike_back (more v))
alike_back (hidden_left is more) = hidden_right is (λ v. alike_back (more v))
alike_back (hidden_right is more) = hidden_left is (λ v. alike_back (more v))

follow : {shown known : List ℕ} {f g : Form (List ℕ)} {w : List ℤ} {a : List ℕ} → Alike shown known f g → AllShown shown f → AllShown shown g → Follows f w a → GoesToo known f g w a
follow (at_ends {t} agree) all others to_end = record { last = t; follows = to_end; agree = agree; items = refl; bits = λ place. refl }
follow (both {cell} is more) all others (through {v} value on) =
    let rest = follow (more v) (all.1 v) (others.1 v) on in
    record {
      last = rest.last;
      follows = through value rest.follows;
      agree = rest.agree;
      items = ap (λ x. item_of cell v ++ x) rest.items;
      bits = λ place. ap (λ x. code_of cell.coding place v ++ x) (rest.bits (place + length (code_of cell.coding place v)));
    }
follow (hidden_left is more) all others on = absurd (both_ways _ is all.0)
follow (hidden_right is more) all others on = absurd (both_ways _ is others.0)

pub follows_again : FollowsAgain
follows_again shown known f g values end alike all others on = follow alike all others on

spell : {shown known : List ℕ} {f g : Form (List ℕ)} {total : ℕ} {w : List ℤ} {left rest : List Bool} → Alike shown known f g → AllShown shown f → AllShown shown g
    → Spells total f w left rest → Spells total g w left rest
spell (at_ends agree) all others at_end = at_end
spell (both is more) all others (behind {v} begins on) = behind begins (spell (more v) (all.1 v) (others.1 v) on)
spell (hidden_left is more) all others on = absurd (both_ways _ is all.0)
spell (hidden_right is more) all others on = absurd (both_ways _ is others.0)

pub reads_again : ReadsAgain
reads_again shown known f g total values left rest alike all others on = spell alike all others on

reach : {shown known : List ℕ} {f g : Form (List ℕ)} {total : ℕ} {w : List ℤ} {left rest : List Bool} {cell : Cell ℕ} → Alike shown known f g → AllShown shown f → AllShown shown g
    → Reaches total f w left cell rest → Reaches total g w left cell rest
reach (at_ends agree) all others on = elim on [ ]
reach (both is more) all others here = here
reach (both is more) all others (later {v} begins on) = later begins (reach (more v) (all.1 v) (others.1 v) on)
reach (hidden_left is more) all others on = absurd (both_ways _ is all.0)
reach (hidden_right is more) all others on = absurd (both_ways _ is others.0)

pub stops_again : StopsAgain
stops_again shown known f g total values left rest cell alike all others on = reach alike all others on

-- the items are the same, whatever the values
same_items : {shown known : List ℕ} {f g : Form (List ℕ)} → Alike shown known f g → AllShown shown f → AllShown shown g → (w : List ℤ) → items_along f w ≡ items_along g w
same_items (at_ends agree) all others w = refl
same_items (both is more) all others [] = refl
same_items (both {cell} is more) all others (v ∷ w) = ap (λ x. item_of cell v ++ x) (same_items (more v) (all.1 v) (others.1 v) w)
same_items (hidden_left is more) all others w = absurd (both_ways _ is all.0)
same_items (hidden_right is more) all others w = absurd (both_ways _ is others.0)

module _ {shown known : List ℕ} {f g : Form (List ℕ)} (alike : Alike shown known f g) (all : AllShown shown f) (others : AllShown shown g) where
  found : {old new : Place} {items after : List Item} → IsFound f old items new after → IsFound g old items new after
  found {items} is = record {
    values = is.values;
    spelled = spell alike all others is.spelled;
    total = is.total;
    gained = is.gained ∙ ap (λ x. items ++ x) (same_items alike all others is.values);
  }

  stops : {old new : Place} {items after : List Item} {cell : Cell ℕ} → StopsAt f old items new after cell → StopsAt g old items new after cell
  stops {items} is = record {
    values = is.values;
    reached = reach alike all others is.reached;
    total = is.total;
    gained = is.gained ∙ ap (λ x. items ++ x) (same_items alike all others is.values);
  }

  answers : {B : Type 0} (old new : Place) (items after : List Item) (result : Result B ReadError) → IsReadingAnswer f old items result new after → IsReadingAnswer g old items result new after
  answers old new items after (Ok b) is = found is
  answers old new items after (Err errors.Memory) (inl is) = inl (is.0, stops is.1)
  answers old new items after (Err errors.Memory) (inr is) = inr (found is)
  answers old new items after (Err (errors.Refused r)) is = record { cell = is.cell; stops = stops is.stops; refused = is.refused }

pub answer_again : {B : Type 0} {shown known : List ℕ} {f g : Form (List ℕ)} {old new : Place} {items after : List Item} {result : Result B ReadError}
    → Alike shown known f g → AllShown shown f → AllShown shown g → Reads f old items result new after → Reads g old items result new after
answer_again {f} {old} {new} {items} {after} {result} alike all others reads = record {
  is = answers alike all others old new items after result reads.is;
  only = λ w rest on. subst (λ x. IsAnswered result ((new.left ≡ rest) × (after ≡ items ++ x))) (same_items alike all others w) (reads.only w rest (spell (alike_back alike) others all on));
  refusal = λ w cell rest r on out. subst (λ x. IsRefusedWith result r ((new.left ≡ rest) × (after ≡ items ++ x))) (same_items alike all others w)
      (reads.refusal w cell rest r (reach (alike_back alike) others all on) out);
}

pub answers_again : AnswersAgain
answers_again shown known f g old new items after result alike all others reads = answer_again alike all others reads

-- ---- when all are shown

shown_row : (shown : List ℕ) (c : Cell Formula) (s : List ℕ) → shows_row shown (Field c) ≡ true → IsTrue (has shown (cell_at s c).field)
unfolding shows_row
shown_row shown c s h = h

pub tables_show : TablesShow
tables_show shown rows test = record { at = λ s. each_of_rows (λ cell. IsTrue (has shown cell.field)) (shows_row shown) (λ c t h. shown_row shown c t h) rows s test }

pub sections_show : SectionsShow
sections_show shown sections test = record { at = λ s. each_of_sections (λ cell. IsTrue (has shown cell.field)) (shows_row shown) (λ c t h. shown_row shown c t h) sections s test }

-- more are shown of a larger set, and of one form behind another
pub all_shown_more : {names shown : List ℕ} (f : Form (List ℕ)) → Inside names shown → AllShown names f → AllShown shown f
all_shown_more (done s) inside all = tt
all_shown_more (field cell goes) inside all = (inside.has_too cell.field all.0, λ v. all_shown_more (goes v) inside (all.1 v))

pub all_shown_then : (shown : List ℕ) (f : Form (List ℕ)) (next : List ℕ → Form (List ℕ)) → AllShown shown f → ((s : List ℕ) → AllShown shown (next s)) → AllShown shown (f >>= next)
all_shown_then shown f next all more = each_then (λ cell. IsTrue (has shown cell.field)) f next all more
