-- A walk of a writer appends the spelling.
use Rattle.std.proofs.Common.{◌≡◌, ℕ, ℤ, ◌+◌, Bool, List, [], ◌∷◌, ◌++◌, length, Result, Ok, Err, refl, ap, sym, subst, ◌∙◌, arith}
use Rattle.std.specs.Prelude.{OnOk}
use Rattle.std.proofs.lemmas.List.{append-nil, append_assoc, length-append}
use Rattle.vx_bits.specs.declared.list.Item.{Item}
use Rattle.vx_table.specs.declared.rows.Cell.{Cell}
use Rattle.vx_table.specs.declared.writer.SpellError.{SpellError}
use Rattle.vx_table.specs.declared.writer.SpellError.TheVariants as errors
use Rattle.vx_table.specs.Forms.{Form, done, field}
use Rattle.vx_table.specs.Walks.{Walks, ended, coded, refused, leaving}
use Rattle.vx_table.specs.Spelling.{code_of, item_of, items_along}
use Rattle.vx_table.specs.Values.{IsValueOf, Follows, to_end, through, ComesTo, at_field, past, bits_along}
use Rattle.vx_table.specs.laws.Spelling.{ItemsApart}
use Rattle.vx_table.specs.Writing.{WritesField, TellsNoValue, IsSpelled, HaltsAt, HasWritten, AreItemsOf, WritesAs, Writes, ItemsLeadTo}
use Rattle.vx_table.proofs.Items.{item_apart}

-- the bits of a value and of those behind it
bits_more : {A : Type 0} (cell : Cell ℕ) (goes : ℤ → Form A) (old mid new : List Bool) (v : ℤ) (w : List ℤ)
    → mid ≡ old ++ code_of cell.coding (length old) v → new ≡ mid ++ bits_along (goes v) (length mid) w → new ≡ old ++ bits_along (field cell goes) (length old) (v ∷ w)
bits_more cell goes old mid new v w first more =
    let code : List Bool = code_of cell.coding (length old) v in
    let place : length mid ≡ length old + length code = omega (arith, ap length first, length-append old code) in
    more ∙ ap (λ at. mid ++ bits_along (goes v) at w) place ∙ ap (λ front. front ++ bits_along (goes v) (length old + length code) w) first ∙ append_assoc old code (bits_along (goes v) (length old + length code) w)

-- and their items
pub items_more : {A : Type 0} (cell : Cell ℕ) (goes : ℤ → Form A) (items between left : List Item) (v : ℤ) (w : List ℤ)
    → items ≡ item_of cell v ++ between → between ≡ items_along (goes v) w ++ left → items ≡ items_along (field cell goes) (v ∷ w) ++ left
items_more cell goes items between left v w first more = first ∙ ap (λ x. item_of cell v ++ x) more ∙ sym (append_assoc (item_of cell v) (items_along (goes v) w) left)

-- what was written is spelled
written : {A : Type 0} {form : Form A} {old new : List Bool} {items left : List Item} {a : A}
    → Walks WritesField form old items (Ok a) new left → IsSpelled form (bits_along form (length old)) old items new left a
written {old} ended = record { values = []; follows = to_end; gained = sym (append-nil old); taken = refl }
written {form = field cell goes} {old} {new} {items} {left} (coded {d} {j} {v} s walk) =
    let more = written walk in
    record {
      values = v ∷ more.values;
      follows = through s.0 more.follows;
      gained = bits_more cell goes old d new v more.values s.1 more.gained;
      taken = items_more cell goes items j left v more.values s.2 more.taken;
    }

pub at_once : {A X : Type 0} {cell : Cell ℕ} {goes : ℤ → Form A} {spelling : List ℤ → List X} {old new : List X} {items left : List Item}
    → spelling [] ≡ [] → new ≡ old → left ≡ items → HaltsAt (field cell goes) spelling old items new left cell
at_once {old} empty still same = record { values = []; comes = at_field; gained = still ∙ sym (ap (λ x. old ++ x) empty ∙ append-nil old); taken = sym same }

-- a longer front
pub longer : {A X : Type 0} {cell : Cell ℕ} {goes : ℤ → Form A} {spelling behind : List ℤ → List X} {old mid new : List X} {items between left : List Item} {v : ℤ} {next : Cell ℕ}
    → IsValueOf cell v → ((w : List ℤ) → new ≡ mid ++ behind w → new ≡ old ++ spelling (v ∷ w)) → items ≡ item_of cell v ++ between
    → HaltsAt (goes v) behind mid between new left next → HaltsAt (field cell goes) spelling old items new left next
longer {cell} {goes} {items} {between} {left} {v} is gain taken more = record {
  values = v ∷ more.values;
  comes = past is more.comes;
  gained = gain more.values more.gained;
  taken = items_more cell goes items between left v more.values taken more.taken;
}

-- where memory runs out, a front was written
interrupted : {A : Type 0} {form : Form A} {old new : List Bool} {items left : List Item}
    → Walks {A = A} WritesField form old items (Err errors.Memory) new left → (cell : Cell ℕ) × HaltsAt form (bits_along form (length old)) old items new left cell
interrupted {form = done a} walk = elim walk [ ]
interrupted {form = field cell goes} (refused s) = (cell, at_once refl s.0 s.1)
interrupted {form = field cell goes} {old} {new} (coded {d} {v} s walk) =
    let more = interrupted walk in
    (more.0, longer s.0 (λ w gained. bits_more cell goes old d new v w s.1 gained) s.2 more.1)

-- and where the items are of no value
stopped : {A : Type 0} {form : Form A} {old new : List Bool} {items left : List Item}
    → Walks {A = A} WritesField form old items (Err errors.NoValue) new left → (cell : Cell ℕ) × HaltsAt form (bits_along form (length old)) old items new left cell × TellsNoValue cell left
stopped {form = done a} walk = elim walk [ ]
stopped {form = field cell goes} (refused s) = (cell, at_once refl s.1 s.2, subst (λ x. TellsNoValue cell x) (sym s.2) s.0)
stopped {form = field cell goes} {old} {new} (coded {d} {v} s walk) =
    let more = stopped walk in
    (more.0, longer s.0 (λ w gained. bits_more cell goes old d new v w s.1 gained) s.2 more.1, more.2)

-- ---- items tell their values

pub apart : {A : Type 0} {form : Form A} {v w : List ℤ} {a b : A} (r s : List Item) → Follows form v a → Follows form w b → items_along form v ++ r ≡ items_along form w ++ s → (v ≡ w) × (r ≡ s) × (a ≡ b)
apart r s to_end to_end same = (refl, same, refl)
apart {form = field cell goes} {b} r s (through {v} {w} is more) (through {v = u} {w = us} other others) same =
    let first = item_apart cell {v = v} {w = u} (items_along (goes v) w ++ r) (items_along (goes u) us ++ s) is.code other.code
    (sym (append_assoc (item_of cell v) (items_along (goes v) w) r) ∙ same ∙ append_assoc (item_of cell u) (items_along (goes u) us) s) in
    let ahead : items_along (goes v) w ++ r ≡ items_along (goes v) us ++ s = first.1 ∙ ap (λ x. items_along (goes x) us ++ s) (sym first.0) in
    let on = apart r s more (subst (λ x. Follows (goes x) us b) (sym first.0) others) ahead in
    let head = first.0 in
    let tail = on.0 in
    (cc (head, tail), on.1, on.2)

-- items tell the values, and so the bits
pub values_one : {A : Type 0} (form : Form A) {v w : List ℤ} {x y : A} → Follows form v x → Follows form w y → items_along form v ≡ items_along form w → v ≡ w
values_one form is of same = (apart [] [] is of (ap (λ items. items ++ []) same)).0

pub items_apart : ItemsApart
items_apart form v w a b r s follows others same = apart r s follows others same

-- items of values that go on behind a front begin with those of a value of the next field
goes_on : {A : Type 0} {form : Form A} {v w : List ℤ} {a : A} {cell : Cell ℕ} (left more : List Item) → ComesTo form v cell → Follows form w a → items_along form v ++ left ≡ items_along form w ++ more
    → TellsNoValue cell left → ⊥
goes_on {form = done e} left more comes follows same none = elim comes [ ]
goes_on {form = field cell goes} left more at_field (through {v} {w} is rest) same none = none v (items_along (goes v) w ++ more) is (same ∙ append_assoc (item_of cell v) (items_along (goes v) w) more)
goes_on {form = field cell goes} {a} left more (past {v} {w} is rest) (through {v = u} {w = us} other others) same none =
    let first = item_apart cell {v = v} {w = u} (items_along (goes v) w ++ left) (items_along (goes u) us ++ more) is.code other.code
    (sym (append_assoc (item_of cell v) (items_along (goes v) w) left) ∙ same ∙ append_assoc (item_of cell u) (items_along (goes u) us) more) in
    let ahead : items_along (goes v) w ++ left ≡ items_along (goes v) us ++ more = first.1 ∙ ap (λ x. items_along (goes x) us ++ more) (sym first.0) in
    goes_on left more rest (subst (λ x. Follows (goes x) us a) (sym first.0) others) ahead none

-- ---- a writer's answer

accepted : {A X : Type 0} {form : Form A} {spelling : List ℤ → List X} {old new : List X} {items left : List Item} {a end : A} {values : List ℤ} {more : List Item}
    → IsSpelled form spelling old items new left a → AreItemsOf form items values end more → (new ≡ old ++ spelling values) × (left ≡ more) × (end ≡ a)
accepted {spelling} {old} {left} {more} is of =
    let same = apart left more is.follows of.follows (sym is.taken ∙ of.given) in
    (is.gained ∙ ap (λ w. old ++ spelling w) same.0, same.1, sym same.2)

-- the rest of it follows from what it says
pub whole : {A B X : Type 0} {form : Form A} {spelling : List ℤ → List X} {old new : List X} {items left : List Item} (result : Result B SpellError)
    → HasWritten form spelling old items result new left → WritesAs form spelling old items result new left
whole {left} (Ok b) is = record {
  is = is;
  only = λ values end more of. let same = accepted is.1 of in (same.0, same.1);
  none = λ others. others is.1.values is.0 left (record { follows = is.1.follows; given = is.1.taken });
}
whole (Err errors.Memory) is = record { is = is; only = λ values end more of. tt; none = λ others. tt }
whole {left} (Err errors.NoValue) is = record {
  is = is;
  only = λ values end more of. goes_on left more is.1.comes of.follows (sym is.1.taken ∙ of.given) is.2;
  none = λ others. tt;
}

-- and its items lead to its end
pub leads_to : {A X : Type 0} {form : Form A} {spelling : List ℤ → List X} {old new : List X} {items left : List Item} {a : A} → IsSpelled form spelling old items new left a → ItemsLeadTo form items a
leads_to is = λ values other more of. (accepted is of).2

pub writes : {A B : Type 0} {form : Form A} {old new : List Bool} {items left : List Item} (a : A) (result : Result B SpellError)
    → Walks WritesField form old items (leaving a result) new left → Writes form old items result new left
writes a (Ok b) walk = whole (Ok b) (a, written walk)
writes a (Err errors.Memory) walk = whole (Err errors.Memory) (interrupted walk)
writes a (Err errors.NoValue) walk = whole (Err errors.NoValue) (stopped walk)

pub leads : {A B : Type 0} {form : Form A} {old new : List Bool} {items left : List Item} (a : A) (result : Result B SpellError)
    → Walks WritesField form old items (leaving a result) new left → OnOk result (ItemsLeadTo form items a)
leads a (Ok b) walk = leads_to (written walk)
leads a (Err e) walk = tt
