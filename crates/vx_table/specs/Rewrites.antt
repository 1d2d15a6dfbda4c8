-- That a structure can be rewritten, part by part: fields of a set go through again, and others are replaced by given items. Our
-- own. Laws on rewritten sets and headers rely on it.
use Rattle.std.specs.Prelude.{◌≡◌, ℕ, ℤ, ◌+◌, ◌<◌, zero, suc, Bool, true, false, ◌==◌, IsTrue, IsFalse, All, List, [], ◌∷◌, ◌++◌, length}
use Rattle.std.specs.Prelude.{slice_set}
use Rattle.vx_bits.specs.declared.list.Item.{Item}
use Rattle.vx_table.specs.declared.rows.Formula.{Formula}
use Rattle.vx_table.specs.declared.rows.Cell.{Cell}
use Rattle.vx_table.specs.declared.rows.Presence.TheVariants.{When}
use Rattle.vx_table.specs.declared.rows.Row.{Row}
use Rattle.vx_table.specs.Scope.{fresh, value}
use Rattle.vx_table.specs.Forms.{Form, done, field, ◌>>=◌, turns, present, form_of}
use Rattle.vx_table.specs.Parts.{Section, sections_form}
use Rattle.vx_table.specs.Spelling.{Spells, item_of, items_along}
use Rattle.vx_table.specs.Values.{IsValueOf, Follows, Parted, bits_along, Closes}
use Rattle.vx_table.specs.EachField.{EachField}
use Rattle.vx_table.specs.Depends.{has, Inside, Agree, Alike, Carries, Leaves}
use Rattle.vx_table.specs.Claims.{knows_formula, hides, sections_hide}
use Rattle.vx_table.specs.Shown.{shown_items}
use Rattle.vx_table.specs.laws.Again.{AllShown, AlwaysShown}
use Rattle.vx_table.specs.Rewritten.{other_items, IsRewritten}

-- These are the items of values that go through the form.
pub record Takes (form : Form (List ℕ)) (items : List Item) : Type 0 where
  pub values : List ℤ
  pub end : List ℕ
  pub follows : Follows form values end
  pub all : items_along form values ≡ items

-- Values with these items of a set's fields and those of the others go through the form, to an end that agrees with this one on the
-- set.
pub record Goes (names end : List ℕ) (shown others : List Item) (form : Form (List ℕ)) : Type 0 where
  pub values : List ℤ
  pub last : List ℕ
  pub follows : Follows form values last
  pub agree : Agree names end last
  pub shown_ones : shown_items names (items_along form values) ≡ shown
  pub other_ones : other_items names (items_along form values) ≡ others

-- The values go through a structure at a scope, to an end. Take any scope that agrees with it on a set, and in which some names
-- have no number yet. There, values with the same items of the set's fields, and with these of the others, go through it to an end
-- that agrees.
pub record Rewrites (names none : List ℕ) (form : List ℕ → Form (List ℕ)) (s : List ℕ) (values : List ℤ) (end : List ℕ)
    (others : List Item) : Type 0 where
  pub at : (t : List ℕ) → Agree names s t → Agree none fresh t
      → Goes names end (shown_items names (items_along (form s) values)) others (form t)

-- Values that go through in this way are a rewritten structure.
abbrev pub WhatGoesIsRewritten : Type 0
WhatGoesIsRewritten = (names end : List ℕ) (shown others : List Item) (form : Form (List ℕ)) → Goes names end shown others form
    → (items : List Item) × IsRewritten form names shown others items

-- ---- parts

-- A part all of whose fields are in the set, if the set carries it.
abbrev pub CopiedRewrites : Type 0
CopiedRewrites = (names none shown after : List ℕ) (form : List ℕ → Form (List ℕ)) (s : List ℕ) (values : List ℤ) (end : List ℕ)
    → Inside names shown → Carries shown names after form → AlwaysShown names form → Follows (form s) values end
    → Rewrites names none form s values end []

-- A part that has no field of the set, if the items in its place go through it at each scope in question.
abbrev pub ReplacedRewrites : Type 0
ReplacedRewrites = (names none : List ℕ) (form : List ℕ → Form (List ℕ)) (s : List ℕ) (values : List ℤ) (end : List ℕ) (here : List Item)
    → Leaves names form → Follows (form s) values end → ((t : List ℕ) → Agree names s t → Agree none fresh t → Takes (form t) here)
    → Rewrites names none form s values end here

-- The items of the set's fields, with any values, and these others go through the form.
pub data Admits (names : List ℕ) : Form (List ℕ) → List Item → Type 0 where
  no_more : {s : List ℕ} → Admits names (done s) []
  at_shown : {cell : Cell ℕ} {goes : ℤ → Form (List ℕ)} {others : List Item} → IsTrue (has names cell.field)
      → ((v : ℤ) → IsValueOf cell v → Admits names (goes v) others) → Admits names (field cell goes) others
  at_other : {cell : Cell ℕ} {goes : ℤ → Form (List ℕ)} {v : ℤ} {others : List Item} → IsFalse (has names cell.field)
      → IsValueOf cell v → Admits names (goes v) others → Admits names (field cell goes) (item_of cell v ++ others)

-- A part of both kinds of fields, which admits the others whatever the set's fields are.
abbrev pub MixedRewrites : Type 0
MixedRewrites = (names none after : List ℕ) (form : List ℕ → Form (List ℕ)) (s : List ℕ) (values : List ℤ) (end : List ℕ)
    (others : List Item)
    → Carries names names after form → Follows (form s) values end
    → ((t : List ℕ) → Agree names s t → Agree none fresh t → Admits names (form t) others) → Rewrites names none form s values end others

-- Or a part in which each other field may have a value that is given for its number: then the set's items go through with others of
-- these values, however many there are.
abbrev pub MayHaveGiven : List ℕ → (ℕ → ℤ) → Cell ℕ → Type 0
MayHaveGiven names given cell = IsFalse (has names cell.field) → IsValueOf cell (given cell.field)

abbrev pub GivenGoes : Type 0
GivenGoes = (names known : List ℕ) (given : ℕ → ℤ) (f g : Form (List ℕ)) (values : List ℤ) (end : List ℕ) → Alike names known f g
    → EachField (MayHaveGiven names given) g → Inside names known → Follows f values end
    → (others : List Item) × Goes names end (shown_items names (items_along f values)) others g
    × All (λ item. item.value ≡ given item.field) others

-- One part after another, before which some names still have no number and are left unchanged by the first.
abbrev pub RewritesTogether : Type 0
RewritesTogether = (names none later : List ℕ) (first more : List ℕ → Form (List ℕ)) (s : List ℕ) (values : List ℤ) (end : List ℕ)
    (here others : List Item)
    → (parts : Parted (first s) more values end) → Inside later none → Leaves later first
    → Rewrites names none first s parts.front parts.mid here → Rewrites names later more parts.mid parts.others end others
    → Rewrites names none (λ t. first t >>= more) s values end (here ++ others)

-- A part on a condition that the set knows: where it doesn't hold, and where it does.
abbrev pub AbsentRewrites : Type 0
AbsentRewrites = (names none : List ℕ) (holds : Formula) (form : List ℕ → Form (List ℕ)) (s : List ℕ) → knows_formula names holds ≡ true
    → value s holds ≡ 0 → Rewrites names none (present (When holds) form) s [] s []

abbrev pub PresentRewrites : Type 0
PresentRewrites = (names none : List ℕ) (holds : Formula) (form : List ℕ → Form (List ℕ)) (s : List ℕ) (values : List ℤ) (end : List ℕ)
    (others : List Item)
    → knows_formula names holds ≡ true → (value s holds == 0) ≡ false → Rewrites names none form s values end others
    → Rewrites names none (present (When holds) form) s values end others

-- An empty part.
abbrev pub NothingRewrites : Type 0
NothingRewrites = (names none s : List ℕ) → Rewrites names none done s [] s []

-- ---- items in place of others

-- Values that the fields may have, as many as there are: a form at a given scope determines what that requires.
abbrev pub AreValues : Form (List ℕ) → List ℤ → Type 0
AreValues (done s) [] = Unit {0}
AreValues (done s) (v ∷ w) = ⊥
AreValues (field cell goes) [] = ⊥
AreValues (field cell goes) (v ∷ w) = IsValueOf cell v × AreValues (goes v) w

abbrev pub ValuesTake : Type 0
ValuesTake = (form : Form (List ℕ)) (values : List ℤ) (items : List Item) → AreValues form values → items_along form values ≡ items
    → Takes form items

-- What goes through at one scope goes through at all that agree, if all fields are shown.
abbrev pub TakesAgain : Type 0
TakesAgain = (shown known : List ℕ) (f g : Form (List ℕ)) (items : List Item) → Alike shown known f g → AllShown shown f → AllShown shown g
    → Takes f items → Takes g items

-- One part after another, which takes its items where the first ends.
abbrev pub TakesTogether : Type 0
TakesTogether = (first : Form (List ℕ)) (more : List ℕ → Form (List ℕ)) (here others : List Item) → (before : Takes first here)
    → Takes (more before.end) others → Takes (first >>= more) (here ++ others)

-- The items of the turns from this one on.
abbrev pub in_all_turns : (ℕ → List Item) → ℕ → ℕ → List Item
in_all_turns items turn zero = []
in_all_turns items turn (suc more) = items turn ++ in_all_turns items (turn + 1) more

-- A block whose items are known for each turn at one scope goes through as many turns at each scope that agrees with it, if the
-- block leaves unchanged what it knows except the counter.
abbrev pub TurnsTake : Type 0
TurnsTake = (shown known after : List ℕ) (form : List ℕ → Form (List ℕ)) (counter times : ℕ) (s t : List ℕ) (items : ℕ → List Item)
    → IsFalse (has known counter) → Inside (counter ∷ known) shown → Carries shown (counter ∷ known) after form
    → AlwaysShown shown form → Leaves known form → Agree known s t
    → ((turn : ℕ) → turn < times → Takes (form (slice_set s counter turn)) (items turn))
    → Takes (turns form counter 0 times t) (in_all_turns items 0 times)

-- ---- read again

-- What is written of a rewritten structure is read as that structure: with the same items of the set's fields, whatever the others
-- are.
abbrev pub RewrittenIsRead : Type 0
RewrittenIsRead = (form : Form (List ℕ)) (names : List ℕ) (shown others items : List Item) (place : ℕ) (rest left : List Bool)
    (values : List ℤ)
    → (is : IsRewritten form names shown others items) → Closes form place is.values rest
    → Spells (place + length (bits_along form place is.values ++ rest)) form values (bits_along form place is.values ++ rest) left
    → (items_along form values ≡ items) × (shown_items names (items_along form values) ≡ shown) × (left ≡ rest)

-- ---- structures that leave names unchanged

abbrev pub TablesLeave : Type 0
TablesLeave = (names : List ℕ) (rows : List Row) → hides names rows ≡ true → Leaves names (form_of rows)

abbrev pub SectionsLeave : Type 0
SectionsLeave = (names : List ℕ) (sections : List Section) → sections_hide names sections ≡ true → Leaves names (sections_form sections)

abbrev pub LeavesTogether : Type 0
LeavesTogether = (names : List ℕ) (first more : List ℕ → Form (List ℕ)) → Leaves names first → Leaves names more
    → Leaves names (λ s. first s >>= more)

abbrev pub LeavesPresent : Type 0
LeavesPresent = (names : List ℕ) (holds : Formula) (form : List ℕ → Form (List ℕ)) → Leaves names form
    → Leaves names (present (When holds) form)

-- Its end agrees with its start on them.
abbrev pub LeavesAgree : Type 0
LeavesAgree = (names : List ℕ) (form : List ℕ → Form (List ℕ)) (s : List ℕ) (values : List ℤ) (end : List ℕ) → Leaves names form
    → Follows (form s) values end → Agree names s end

-- Sections cut in two.
abbrev pub SectionsTogether : Type 0
SectionsTogether = (first more : List Section) (s : List ℕ)
    → sections_form (first ++ more) s ≡ (sections_form first s >>= sections_form more)
