-- A walk of a rewriter makes the rewritten structure, which is the only one.
use Rattle.std.proofs.Common.{◌≡◌, inl, inr, ℕ, ℤ, true, false, cond, not, IsTrue, IsFalse, List, [], ◌∷◌, ◌++◌, Option, Some, None, Result, Ok, Err, refl, ap, sym, subst, ◌∙◌}
use Rattle.std.proofs.lemmas.Bool.{cases_Bool}
use Rattle.std.proofs.lemmas.List.{append-nil, append_assoc}
use Rattle.std.proofs.lemmas.List.Elements.{filter-append}
use Rattle.vx_bits.specs.declared.list.Item.{Item}
use Rattle.vx_table.specs.declared.rows.Cell.{Cell}
use Rattle.vx_table.specs.declared.writer.SpellError.{SpellError}
use Rattle.vx_table.specs.declared.writer.SpellError.TheVariants as errors
use Rattle.vx_table.specs.Forms.{Form, done, field, has_value}
use Rattle.vx_table.specs.Walks.{Walks, ended, coded, refused, leaving}
use Rattle.vx_table.specs.Spelling.{item_of, items_along}
use Rattle.vx_table.specs.Values.{IsValueOf, Follows, to_end, through, at_field, past}
use Rattle.vx_table.specs.Writing.{IsWritten, TakesValue}
use Rattle.vx_table.specs.Depends.{has}
use Rattle.vx_table.specs.Shown.{shown_items}
use Rattle.vx_table.specs.Rewritten.{IsRewritten, other_items, RewritesOneWay, Sources, TakesItems, TakesNext, RewritesField, AreTaken, BreaksOff, RewritesInto, MakesRewritten, MadeIsRewritten}
use Rattle.vx_table.proofs.Items.{item_apart}
use Rattle.vx_table.proofs.Shown.{shown_here, hidden_here}

-- the items of other fields, of a value and of those behind it
pub other_here : (names : List ℕ) (cell : Cell ℕ) (v : ℤ) (rest : List Item) → IsFalse (has names cell.field) → other_items names (item_of cell v ++ rest) ≡ item_of cell v ++ other_items names rest
unfolding item_of
other_here names cell v rest is = elim (has_value cell.coding)
    as (λ b. other_items names (cond b (record { field = cell.field; value = v } ∷ []) [] ++ rest) ≡ cond b (record { field = cell.field; value = v } ∷ []) [] ++ other_items names rest) [
      | true ↦ rw is refl
      | false ↦ refl
    ]

pub no_other_here : (names : List ℕ) (cell : Cell ℕ) (v : ℤ) (rest : List Item) → IsTrue (has names cell.field) → other_items names (item_of cell v ++ rest) ≡ other_items names rest
unfolding item_of
no_other_here names cell v rest is = elim (has_value cell.coding)
    as (λ b. other_items names (cond b (record { field = cell.field; value = v } ∷ []) [] ++ rest) ≡ other_items names rest) [
      | true ↦ rw is refl
      | false ↦ refl
    ]

-- alone
shown_alone : (names : List ℕ) (cell : Cell ℕ) (v : ℤ) → IsTrue (has names cell.field) → shown_items names (item_of cell v) ≡ item_of cell v
shown_alone names cell v is = rw (append-nil (item_of cell v)) at (shown_here names cell v [] is)

hidden_alone : (names : List ℕ) (cell : Cell ℕ) (v : ℤ) → IsFalse (has names cell.field) → shown_items names (item_of cell v) ≡ []
hidden_alone names cell v is = rw (append-nil (item_of cell v)) at (hidden_here names cell v [] is)

other_alone : (names : List ℕ) (cell : Cell ℕ) (v : ℤ) → IsFalse (has names cell.field) → other_items names (item_of cell v) ≡ item_of cell v
other_alone names cell v is = rw (append-nil (item_of cell v)) at (other_here names cell v [] is)

no_other_alone : (names : List ℕ) (cell : Cell ℕ) (v : ℤ) → IsTrue (has names cell.field) → other_items names (item_of cell v) ≡ []
no_other_alone names cell v is = rw (append-nil (item_of cell v)) at (no_other_here names cell v [] is)

-- in one list of the two a value's item comes first, and in the other there is none
pub takes_shown : (names : List ℕ) (cell : Cell ℕ) (v : ℤ) (others shown left : List Item) → IsTrue (has names cell.field) → shown ≡ item_of cell v ++ left
    → TakesItems (item_of cell v) (record { names = names; shown = shown; others = others }) (record { names = names; shown = left; others = others })
takes_shown names cell v others shown left is taken = record {
  names = refl;
  shown = taken ∙ ap (λ x. x ++ left) (sym (shown_alone names cell v is));
  others = ap (λ x. x ++ others) (sym (no_other_alone names cell v is));
}

pub takes_other : (names : List ℕ) (cell : Cell ℕ) (v : ℤ) (others shown left : List Item) → IsFalse (has names cell.field) → others ≡ item_of cell v ++ left
    → TakesItems (item_of cell v) (record { names = names; shown = shown; others = others }) (record { names = names; shown = shown; others = left })
takes_other names cell v others shown left is taken = record {
  names = refl;
  shown = ap (λ x. x ++ shown) (sym (hidden_alone names cell v is));
  others = taken ∙ ap (λ x. x ++ left) (sym (other_alone names cell v is));
}

-- what taking a value from one of the two lists says
pub takes_next_shown : (names : List ℕ) (cell : Cell ℕ) (result : Option ℤ) (others shown left : List Item) → IsTrue (has names cell.field) → TakesValue cell shown result left
    → TakesNext cell (record { names = names; shown = shown; others = others }) result (record { names = names; shown = left; others = others })
takes_next_shown names cell (Some v) others shown left is took = (took.0, takes_shown names cell v others shown left is took.1)
takes_next_shown names cell None others shown left is none = λ v more value taken. none v more.shown value (taken.shown ∙ ap (λ x. x ++ more.shown) (shown_alone names cell v is))

pub takes_next_other : (names : List ℕ) (cell : Cell ℕ) (result : Option ℤ) (others shown left : List Item) → IsFalse (has names cell.field) → TakesValue cell others result left
    → TakesNext cell (record { names = names; shown = shown; others = others }) result (record { names = names; shown = shown; others = left })
takes_next_other names cell (Some v) others shown left is took = (took.0, takes_other names cell v others shown left is took.1)
takes_next_other names cell None others shown left is none = λ v more value taken. none v more.others value (taken.others ∙ ap (λ x. x ++ more.others) (other_alone names cell v is))

-- both lists tell the value of a field, and what is left
field_apart : (names : List ℕ) (cell : Cell ℕ) (v w : ℤ) (a b c d : List Item) → IsValueOf cell v → IsValueOf cell w
    → shown_items names (item_of cell v) ++ a ≡ shown_items names (item_of cell w) ++ b → other_items names (item_of cell v) ++ c ≡ other_items names (item_of cell w) ++ d
    → (v ≡ w) × (a ≡ b) × (c ≡ d)
field_apart names cell v w a b c d is other same_shown same_others = elim (cases_Bool (has names cell.field)) [
  | inl shown ↦
      let apart = item_apart cell {v = v} {w = w} a b is.code other.code (rw (shown_alone names cell v shown, shown_alone names cell w shown) at same_shown) in
      (apart.0, apart.1, rw (no_other_alone names cell v shown, no_other_alone names cell w shown) at same_others)
  | inr hidden ↦
      let apart = item_apart cell {v = v} {w = w} c d is.code other.code (rw (other_alone names cell v hidden, other_alone names cell w hidden) at same_others) in
      (apart.0, rw (hidden_alone names cell v hidden, hidden_alone names cell w hidden) at same_shown, apart.1)
]

-- ---- the only one

front_shown : (names : List ℕ) (xs ys more : List Item) → shown_items names (xs ++ ys) ++ more ≡ shown_items names xs ++ (shown_items names ys ++ more)
front_shown names xs ys more = ap (λ x. x ++ more) (filter-append (λ item. has names item.field) xs ys) ∙ append_assoc (shown_items names xs) (shown_items names ys) more

front_others : (names : List ℕ) (xs ys more : List Item) → other_items names (xs ++ ys) ++ more ≡ other_items names xs ++ (other_items names ys ++ more)
front_others names xs ys more = ap (λ x. x ++ more) (filter-append (λ item. not (has names item.field)) xs ys) ∙ append_assoc (other_items names xs) (other_items names ys) more

-- lists that begin with the shown items and with the others of values tell the values and what is left
pub apart : {A : Type 0} (names : List ℕ) {form : Form A} {v w : List ℤ} {x y : A} (a b c d : List Item) → Follows form v x → Follows form w y
    → shown_items names (items_along form v) ++ a ≡ shown_items names (items_along form w) ++ b → other_items names (items_along form v) ++ c ≡ other_items names (items_along form w) ++ d
    → (v ≡ w) × (a ≡ b) × (c ≡ d)
apart names a b c d to_end to_end same_shown same_others = (refl, same_shown, same_others)
apart names {form = field cell goes} {y} a b c d (through {v} {w} is more) (through {v = u} {w = us} other others) same_shown same_others =
    let here : List Item = items_along (goes v) w in
    let there : List Item = items_along (goes u) us in
    let first = field_apart names cell v u (shown_items names here ++ a) (shown_items names there ++ b) (other_items names here ++ c) (other_items names there ++ d) is other
    (sym (front_shown names (item_of cell v) here a) ∙ same_shown ∙ front_shown names (item_of cell u) there b)
    (sym (front_others names (item_of cell v) here c) ∙ same_others ∙ front_others names (item_of cell u) there d) in
    let back = sym first.0 in
    let on = apart names a b c d more (subst (λ x. Follows (goes x) us y) back others) (first.1 ∙ ap (λ x. shown_items names (items_along (goes x) us) ++ b) back)
    (first.2 ∙ ap (λ x. other_items names (items_along (goes x) us) ++ d) back) in
    let head = first.0 in
    let tail = on.0 in
    (cc (head, tail), on.1, on.2)

pub rewrites_one_way : RewritesOneWay
rewrites_one_way form names shown others a b first second =
    let same_shown : shown_items names (items_along form first.values) ++ [] ≡ shown_items names (items_along form second.values) ++ []
    = ap (λ x. shown_items names x ++ []) (sym first.all) ∙ ap (λ x. x ++ []) (first.shown_ones ∙ sym second.shown_ones) ∙ ap (λ x. shown_items names x ++ []) second.all in
    let same_others : other_items names (items_along form first.values) ++ [] ≡ other_items names (items_along form second.values) ++ []
    = ap (λ x. other_items names x ++ []) (sym first.all) ∙ ap (λ x. x ++ []) (first.other_ones ∙ sym second.other_ones) ∙ ap (λ x. other_items names x ++ []) second.all in
    let values = apart names [] [] [] [] first.follows second.follows same_shown same_others in
    first.all ∙ ap (λ w. items_along form w) values.0 ∙ sym second.all

-- ---- items taken one behind another

taken_none : (old : Sources) → TakesItems [] old old
taken_none old = record { names = refl; shown = refl; others = refl }

taken_then : (xs ys : List Item) {old mid new : Sources} → TakesItems xs old mid → TakesItems ys mid new → TakesItems (xs ++ ys) old new
taken_then xs ys {old} {mid} {new} first more = record {
  names = more.names ∙ first.names;
  shown = first.shown ∙ ap (λ x. shown_items old.names xs ++ x) (more.shown ∙ ap (λ n. shown_items n ys ++ new.shown) first.names) ∙ sym (front_shown old.names xs ys new.shown);
  others = first.others ∙ ap (λ x. other_items old.names xs ++ x) (more.others ∙ ap (λ n. other_items n ys ++ new.others) first.names) ∙ sym (front_others old.names xs ys new.others);
}

-- what is left behind the first of them
between : List Item → Sources → Sources → Sources
between ys old new = record { names = old.names; shown = shown_items old.names ys ++ new.shown; others = other_items old.names ys ++ new.others }

taken_first : (xs ys : List Item) {old new : Sources} → TakesItems (xs ++ ys) old new → TakesItems xs old (between ys old new)
unfolding between
taken_first xs ys {old} {new} taken = record {
  names = refl;
  shown = taken.shown ∙ front_shown old.names xs ys new.shown;
  others = taken.others ∙ front_others old.names xs ys new.others;
}

same_sources : {a b : Sources} → a.names ≡ b.names → a.shown ≡ b.shown → a.others ≡ b.others → a ≡ b
same_sources {a} {b} names shown others = rw (← names, ← shown, ← others) refl

-- ---- a rewriter's answer

gained_more : {A : Type 0} (cell : Cell ℕ) (goes : ℤ → Form A) (into mid after : List Item) (v : ℤ) (w : List ℤ) → mid ≡ into ++ item_of cell v → after ≡ mid ++ items_along (goes v) w
    → after ≡ into ++ items_along (field cell goes) (v ∷ w)
gained_more cell goes into mid after v w first more = more ∙ ap (λ x. x ++ items_along (goes v) w) first ∙ append_assoc into (item_of cell v) (items_along (goes v) w)

made : {A : Type 0} {form : Form A} {old new : Sources} {into after : List Item} {a : A} → Walks RewritesField form old into (Ok a) new after
    → (values : List ℤ) × AreTaken form old values a new × (after ≡ into ++ items_along form values)
made {old} {into} ended = ([], record { follows = to_end; taken = taken_none old }, sym (append-nil into))
made {form = field cell goes} {old} {new} {into} {after} (coded {j} {v} s walk) =
    let more = made walk in (
      v ∷ more.0,
      record { follows = through s.0 more.1.follows; taken = taken_then (item_of cell v) (items_along (goes v) more.0) s.1 more.1.taken },
      gained_more cell goes into j after v more.0 s.2 more.2,
    )

unchanged : (e : SpellError) (old new : Sources) (cell : Cell ℕ) (into after : List Item) → RewritesField old into cell (Err e) new after → after ≡ into
unchanged errors.Memory old new cell into after s = s
unchanged errors.NoValue old new cell into after s = s.1

broken_off : {A : Type 0} {form : Form A} {old new : Sources} {into after : List Item} {e : SpellError} → Walks {A = A} RewritesField form old into (Err e) new after → BreaksOff form into after
broken_off {form = done a} walk = elim walk [ ]
broken_off {form = field cell goes} {old} {new} {into} {after} (refused {e} s) =
    record { values = []; cell = cell; comes = at_field; gained = unchanged e old new cell into after s ∙ sym (append-nil into) }
broken_off {form = field cell goes} {into} {after} (coded {j} {v} s walk) =
    let more = broken_off walk in
    record { values = v ∷ more.values; cell = more.cell; comes = past s.0 more.comes; gained = gained_more cell goes into j after v more.values s.2 more.gained }

written_more : {B P Q : Type 0} (result : Result B SpellError) → (P → Q) → IsWritten result P → IsWritten result Q
written_more (Ok b) f p = f p
written_more (Err errors.Memory) f p = tt
written_more (Err errors.NoValue) f p = p

-- values whose items come next are those that are written
only : {A : Type 0} {form : Form A} {old new more : Sources} {into after : List Item} {result : Result A SpellError} {values : List ℤ} {end : A}
    → Walks RewritesField form old into result new after → Follows form values end → TakesItems (items_along form values) old more
    → IsWritten result ((after ≡ into ++ items_along form values) × (new ≡ more))
only {more} {into} ended to_end taken = (sym (append-nil into), same_sources (sym taken.names) taken.shown taken.others)
only {form = field cell goes} (refused {e = errors.Memory} s) (through value follows) taken = tt
only {form = field cell goes} {old} {more} (refused {e = errors.NoValue} s) (through {v} {w} value follows) taken =
    s.0 v (between (items_along (goes v) w) old more) value (taken_first (item_of cell v) (items_along (goes v) w) taken)
only {form = field cell goes} {old} {new} {more} {into} {after} {result} {end} (coded {d} {j} {v} s walk) (through {v = u} {w = us} value follows) taken =
    let there : List Item = items_along (goes u) us in
    let next = taken_first (item_of cell u) there taken in
    let first = field_apart old.names cell v u d.shown (shown_items old.names there ++ more.shown) d.others (other_items old.names there ++ more.others) s.0 value
    (sym s.1.shown ∙ taken.shown ∙ front_shown old.names (item_of cell u) there more.shown) (sym s.1.others ∙ taken.others ∙ front_others old.names (item_of cell u) there more.others) in
    let back = sym first.0 in
    let rest : TakesItems (items_along (goes v) us) d more = record {
      names = taken.names ∙ sym s.1.names;
      shown = first.1 ∙ ap (λ x. shown_items old.names (items_along (goes x) us) ++ more.shown) back ∙ ap (λ n. shown_items n (items_along (goes v) us) ++ more.shown) (sym s.1.names);
      others = first.2 ∙ ap (λ x. other_items old.names (items_along (goes x) us) ++ more.others) back ∙ ap (λ n. other_items n (items_along (goes v) us) ++ more.others) (sym s.1.names);
    } in
    let on = only walk (subst (λ x. Follows (goes x) us end) back follows) rest in
    let here : IsWritten result ((after ≡ into ++ items_along (field cell goes) (v ∷ us)) × (new ≡ more)) = written_more result (λ p. (gained_more cell goes into j after v us s.2 p.0, p.1)) on in
    subst (λ x. IsWritten result ((after ≡ into ++ items_along (field cell goes) (x ∷ us)) × (new ≡ more))) first.0 here

-- a walk's answer is the same with nothing in place of the scope
pub rewrites : {A B : Type 0} {form : Form A} {old new : Sources} {into after : List Item} (a : A) (result : Result B SpellError)
    → Walks RewritesField form old into (leaving a result) new after → RewritesInto form old into result new after
rewrites a (Ok b) walk =
    let is = made walk in
    record { is = (is.0, a, is.1, is.2); only = λ values end more are. only walk are.follows are.taken }
rewrites a (Err errors.Memory) walk = record { is = broken_off walk; only = λ values end more are. tt }
rewrites a (Err errors.NoValue) walk = record { is = broken_off walk; only = λ values end more are. only walk are.follows are.taken }

pub makes : {A B : Type 0} (form : Form A) (old new : Sources) (items after : List Item) (result : Result B SpellError) → RewritesInto form old [] result new after → IsRewritten form old.names old.shown old.others items → IsWritten result (after ≡ items)
makes form old new items after result made_ is =
    let left : Sources = record { names = old.names; shown = []; others = [] } in
    let taken : TakesItems (items_along form is.values) old left = record {
      names = refl;
      shown = sym (append-nil old.shown) ∙ ap (λ x. x ++ []) (sym is.shown_ones ∙ ap (λ x. shown_items old.names x) is.all);
      others = sym (append-nil old.others) ∙ ap (λ x. x ++ []) (sym is.other_ones ∙ ap (λ x. other_items old.names x) is.all);
    } in
    written_more result (λ p. p.0 ∙ sym is.all) (made_.only is.values is.end left (record { follows = is.follows; taken = taken }))

-- a rewritten structure is the only one
pub rewritten_one : {A : Type 0} (form : Form A) (names : List ℕ) (shown others a b : List Item) → IsRewritten form names shown others a → IsRewritten form names shown others b → a ≡ b
rewritten_one form names shown others a b first second =
    let same_shown = ap (λ x. shown_items names x ++ []) (sym first.all) ∙ (ap (λ x. x ++ []) (first.shown_ones ∙ sym second.shown_ones) ∙ ap (λ x. shown_items names x ++ []) second.all) in
    let same_others = ap (λ x. other_items names x ++ []) (sym first.all) ∙ (ap (λ x. x ++ []) (first.other_ones ∙ sym second.other_ones) ∙ ap (λ x. other_items names x ++ []) second.all) in
    first.all ∙ (ap (items_along form) (apart names [] [] [] [] first.follows second.follows same_shown same_others).0 ∙ sym second.all)

pub makes_rewritten : MakesRewritten
makes_rewritten form old new items after result made_ is = makes form old new items after result made_ is

pub made_is_rewritten : MadeIsRewritten
made_is_rewritten form old new after makes no_shown no_others =
    let is = makes.is in
    record {
      values = is.0;
      end = is.1;
      follows = is.2.follows;
      all = is.3;
      shown_ones = ap (λ x. shown_items old.names x) is.3 ∙ sym (append-nil (shown_items old.names (items_along form is.0))) ∙ sym (is.2.taken.shown ∙ ap (λ x. shown_items old.names (items_along form is.0) ++ x) no_shown);
      other_ones = ap (λ x. other_items old.names x) is.3 ∙ sym (append-nil (other_items old.names (items_along form is.0))) ∙ sym (is.2.taken.others ∙ ap (λ x. other_items old.names (items_along form is.0) ++ x) no_others);
    }
