-- What stands in place of a group of tables goes through it: stage by stage, and row by row where conditions don't compute.
use Rattle.std.proofs.Common.{◌≡◌, ℕ, ℤ, true, false, cond, not, ◌&&◌, ◌==◌, IsTrue, IsFalse, List, [], ◌∷◌, ◌++◌, length, slice_index, slice_set, None, refl, ap, sym, subst, ◌∙◌}
use Rattle.std.specs.Prelude.{Bool}
use Rattle.std.proofs.lemmas.Bool.{and_parts}
use Rattle.std.proofs.lemmas.List.{append-nil, length-set}
use Rattle.vx_bits.specs.declared.list.Item.{Item}
use Rattle.vx_table.specs.declared.rows.Term.TheVariants.{Number}
use Rattle.vx_table.specs.declared.rows.Formula.{Formula}
use Rattle.vx_table.specs.declared.rows.Formula.TheVariants.{Plain}
use Rattle.vx_table.specs.declared.rows.Cell.{Cell}
use Rattle.vx_table.specs.declared.rows.Presence.TheVariants.{When}
use Rattle.vx_table.specs.declared.rows.Row.{Row}
use Rattle.vx_table.specs.Scope.{fresh, value, natural}
use Rattle.vx_table.specs.Forms.{Form, done, field, ◌>>=◌, cell_at, one_field, has_value, after, present, form_of}
use Rattle.vx_table.specs.Parts.{Section, always, sections_form}
use Rattle.vx_table.specs.Spelling.{HasCode, fault_of, item_of, items_along}
use Rattle.vx_table.specs.Values.{IsValueOf, Follows, to_end, through}
use Rattle.vx_table.specs.EachField.{sections_pass}
use Rattle.vx_table.specs.Depends.{has, Agree}
use Rattle.vx_table.specs.Claims.{knows_formula, knows_cell, sections_chain, behind_sections, sections_depend_only_on, sections_hide}
use Rattle.vx_table.specs.Named.{named_by_all}
use Rattle.vx_table.specs.laws.Again.{shows_row}
use Rattle.vx_table.specs.Loaded.{number, sections_name_none}
use Rattle.vx_table.specs.Rewrites.{Takes}
use Rattle.vx_table.proofs.Agreeing.{agree_outside, same_value, same_cell}
use Rattle.vx_table.proofs.Chains.{sections_carry}
use Rattle.vx_table.proofs.Dependence.{inside_with_all}
use Rattle.vx_table.proofs.Again.{follows_again, sections_show}
use Rattle.vx_table.proofs.Joined.{joined, items_joined}
use Rattle.vx_table.proofs.Loading.{sections_load}
use Rattle.vx_table.proofs.Groups.{AgreeOn, agree_given, takes_at, groups_take}
use Rattle.vx_table.specs.Rewritten.{where_so}
use Rattle.vx_table.proofs.Rewrites.{leaves_agree, sections_leave}

-- ---- numbers of the source

-- The numbers of a set's items, at each scope before the rest of a set: of names that the rest leaves alone, and that are taken over.
pub standing : (given names : List ℕ) (whole rest : List Section) {values others : List ℤ} {s end t : List ℕ} → sections_name_none given whole ≡ true → sections_hide given rest ≡ true
    → Follows (sections_form whole fresh) values end → Follows (sections_form rest s) others end → Agree names s t → (n : ℕ) → IsTrue (has given n) → IsTrue (has names n)
    → slice_index t n ≡ number (items_along (sections_form whole fresh) values) n
standing given names whole rest {values} {others} {s} {end} loads hide follows behind agree n is_given is_taken =
    sym (agree.same n is_taken) ∙ (leaves_agree given (sections_form rest) s others end (sections_leave given rest hide) behind).same n is_given
    ∙ sym (((sections_load given whole loads).at fresh values end follows).same n is_given)

-- ---- what goes through a group

-- One group beside another, which reads numbers that the first leaves alone: what goes through each at one scope.
pub groups_beside : (given : List ℕ) (first more : List Section) (s : List ℕ) {here others : List Item} → sections_hide given first ≡ true
    → sections_depend_only_on given (named_by_all more) more ≡ true → sections_pass (shows_row (given ++ named_by_all more)) more ≡ true
    → Takes (sections_form first s) here → Takes (sections_form more s) others → Takes (sections_form (first ++ more) s) (here ++ others)
groups_beside given first more s hide depends shows before rest =
    groups_take first more s before
    (takes_at given more s before.end depends shows (leaves_agree given (sections_form first) s before.values before.end (sections_leave given first hide) before.follows) rest)

-- These are the items of values that go through the form, to an end of which a fact holds.
pub record TakesTo (form : Form (List ℕ)) (items : List Item) (P : List ℕ → Type 0) : Type 0 where
  pub takes : Takes form items
  pub at_end : P takes.end

pub then_to : {first : Form (List ℕ)} {here others : List Item} {P Q : List ℕ → Type 0} (more : List ℕ → Form (List ℕ)) → TakesTo first here P
    → ((s : List ℕ) → P s → TakesTo (more s) others Q) → TakesTo (first >>= more) (here ++ others) Q
then_to {first} {here} {others} {P} {Q} more before rest =
    let front = before.takes in
    let behind = rest front.end before.at_end in
    record {
      takes = record {
        values = front.values ++ behind.takes.values;
        end = behind.takes.end;
        follows = joined more front.follows behind.takes.follows;
        all = items_joined more behind.takes.values front.follows ∙ ap (λ x. x ++ items_along (more front.end) behind.takes.values) front.all ∙ ap (λ x. here ++ x) behind.takes.all;
      };
      at_end = behind.at_end;
    }

pub groups_take_to : (first more : List Section) (s : List ℕ) {here others : List Item} {P : List ℕ → Type 0} → TakesTo (sections_form first s) here P
    → ((t : List ℕ) → P t → Takes (sections_form more t) others) → Takes (sections_form (first ++ more) s) (here ++ others)
groups_take_to first more s before rest = groups_take first more s before.takes (rest before.takes.end before.at_end)

-- ---- stages: a group at a scope that is written out, and then at each that meets it

-- two scopes are of one length, and give these names the same numbers
abbrev pub Meets : List ℕ → List ℕ → List ℕ → Type 0
Meets given s t = (length s ≡ length t) × AgreeOn given s t

abbrev pub knows_all : List ℕ → List ℕ → Bool
knows_all known [] = true
knows_all known (n ∷ more) = has known n && knows_all known more

meets_on : (known next c : List ℕ) {s t : List ℕ} → knows_all known next ≡ true → AgreeOn next c s → Agree known s t → AgreeOn next c t
meets_on known [] c knows met agree = tt
meets_on known (n ∷ more) c knows met agree =
    let parts = and_parts (has known n) (knows_all known more) knows in
    (met.0 ∙ agree.same n parts.0, meets_on known more c parts.1 met.1 agree)

-- what goes through at one scope, to an end that meets another, does so at each scope that agrees on the numbers read
pub stage_at : (given next : List ℕ) (sections : List Section) (s t c : List ℕ) {items : List Item}
    → sections_chain (given ++ named_by_all sections) given sections ≡ true
    → sections_pass (shows_row (given ++ named_by_all sections)) sections ≡ true
    → knows_all (behind_sections (given ++ named_by_all sections) given sections) next ≡ true
    → Meets given s t → TakesTo (sections_form sections s) items (Meets next c) → TakesTo (sections_form sections t) items (Meets next c)
stage_at given next sections s t c chain shows knows met there =
    let shown : List ℕ = given ++ named_by_all sections in
    let known : List ℕ = behind_sections shown given sections in
    let alike = (sections_carry shown given sections chain).alike (inside_with_all given (named_by_all sections)) s t (agree_given given met.0 met.1) in
    let all = sections_show shown sections shows in
    let first = there.takes in
    let again = follows_again shown known (sections_form sections s) (sections_form sections t) first.values first.end alike (all.at s) (all.at t) first.follows in
    record {
      takes = record { values = first.values; end = again.last; follows = again.follows; all = again.items ∙ first.all };
      at_end = (there.at_end.0 ∙ again.agree.size, meets_on known next c knows there.at_end.1 again.agree);
    }

-- ---- blocks on a condition

pub no_more_to : {first : Form (List ℕ)} {items : List Item} {P : List ℕ → Type 0} → TakesTo first items P → TakesTo (first >>= done) items P
no_more_to {first} {items} {P} before =
    subst (λ x. TakesTo (first >>= done) x P) (append-nil items) (then_to done before (λ s holds. record { takes = record { values = []; end = s; follows = to_end; all = refl }; at_end = holds }))

-- a block that is there
pub there_to : {items : List Item} {P : List ℕ → Type 0} (holds : Formula) (block : List ℕ → Form (List ℕ)) (s : List ℕ) → (value s holds == 0) ≡ false → TakesTo (block s) items P
    → TakesTo (present (When holds) block s) items P
unfolding present
there_to {items} {P} holds block s is takes = subst (λ b. TakesTo (cond b (done s) (block s)) items P) (sym is) takes

-- one that isn't
pub absent_to : {P : List ℕ → Type 0} (holds : Formula) (block : List ℕ → Form (List ℕ)) (s : List ℕ) → (value s holds == 0) ≡ true → P s → TakesTo (present (When holds) block s) [] P
unfolding present
absent_to {P} holds block s is here = subst (λ b. TakesTo (cond b (done s) (block s)) [] P) (sym is) (record { takes = record { values = []; end = s; follows = to_end; all = refl }; at_end = here })

-- one that is there where something holds
pub where_to : {items : List Item} {P : List ℕ → Type 0} (so : Bool) (holds : Formula) (block : List ℕ → Form (List ℕ)) (s : List ℕ) → (value s holds == 0) ≡ not so
    → TakesTo (block s) items P → P s → TakesTo (present (When holds) block s) (where_so so items) P
where_to true holds block s is takes here = there_to holds block s is takes
where_to false holds block s is takes here = absent_to holds block s is here

-- a table
pub table_to : {items : List Item} {P : List ℕ → Type 0} (rows : List Row) (s : List ℕ) → TakesTo (form_of rows s) items P → TakesTo (sections_form (always rows ∷ []) s) items P
unfolding sections_form value
table_to rows s takes = no_more_to (there_to (Plain (Number 1)) (form_of rows) s refl takes)

-- a field and what is behind it
pub field_to : {cell : Cell ℕ} {goes : ℤ → Form (List ℕ)} (v : ℤ) {items : List Item} {P : List ℕ → Type 0} → HasCode cell.coding v → fault_of cell.limits v ≡ None → TakesTo (goes v) items P
    → TakesTo (field cell goes) (item_of cell v ++ items) P
field_to {cell} {goes} v {items} code range rest = record {
  takes = record {
    values = v ∷ rest.takes.values;
    end = rest.takes.end;
    follows = through (record { code = code; range = range }) rest.takes.follows;
    all = ap (λ x. item_of cell v ++ x) rest.takes.all;
  };
  at_end = rest.at_end;
}

-- A field on a condition, in a block of its own, at each scope that meets one at which its width, range and condition are known.
meets_set : (given : List ℕ) (c s : List ℕ) (f v : ℕ) → knows_all given given ≡ true → IsFalse (has given f) → Meets given c s → Meets given c (slice_set s f v)
meets_set given c s f v knows outside met = (met.0 ∙ sym (length-set s f v), meets_on given given c knows met.1 (agree_outside given s f v outside))

meets_after : (given : List ℕ) (c s : List ℕ) (cell : Cell ℕ) (v : ℤ) → knows_all given given ≡ true → IsFalse (has given cell.field) → Meets given c s → Meets given c (after s cell v)
unfolding after
meets_after given c s cell v knows outside met =
    elim (has_value cell.coding) as (λ b. Meets given c (cond b (slice_set s cell.field (natural v)) s)) [ true ↦ meets_set given c s cell.field (natural v) knows outside met | false ↦ met ]

one_to : {P : List ℕ → Type 0} (s : List ℕ) (cell : Cell ℕ) (v : ℤ) → IsValueOf cell v → P (after s cell v) → TakesTo (field cell (λ w. done (after s cell w))) (item_of cell v) P
one_to {P} s cell v is here =
    subst (λ x. TakesTo (field cell (λ w. done (after s cell w))) x P) (append-nil (item_of cell v))
    (field_to v is.code is.range (record { takes = record { values = []; end = after s cell v; follows = to_end; all = refl }; at_end = here }))

pub field_where : (given : List ℕ) (c s : List ℕ) (holds : Formula) (cell : Cell Formula) (so : Bool) (v : ℤ) → knows_all given given ≡ true → knows_formula given holds ≡ true
    → knows_cell given cell ≡ true → IsFalse (has given cell.field) → Meets given c s → (value c holds == 0) ≡ not so → IsValueOf (cell_at c cell) v
    → TakesTo (present (When holds) (λ t. one_field t cell) s) (where_so so (item_of (cell_at c cell) v)) (Meets given c)
unfolding one_field
field_where given c s holds cell so v knows knows_holds knows_it outside met is value_is =
    let agree : Agree given c s = agree_given given met.0 met.1 in
    let same : cell_at c cell ≡ cell_at s cell = same_cell cell agree knows_it in
    let takes : TakesTo (field (cell_at c cell) (λ w. done (after s (cell_at c cell) w))) (item_of (cell_at c cell) v) (Meets given c)
    = one_to s (cell_at c cell) v value_is (meets_after given c s (cell_at c cell) v knows outside met) in
    where_to so holds (λ t. one_field t cell) s (ap (λ x. x == 0) (sym (same_value holds agree knows_holds)) ∙ is)
    (subst (λ x. TakesTo (field x (λ w. done (after s x w))) (item_of (cell_at c cell) v) (Meets given c)) same takes) met

-- a block that isn't there, at each scope that meets one at which its condition is known not to hold
pub nowhere : (given : List ℕ) (c s : List ℕ) (holds : Formula) (block : List ℕ → Form (List ℕ)) → knows_formula given holds ≡ true → Meets given c s
    → (value c holds == 0) ≡ true → TakesTo (present (When holds) block s) [] (Meets given c)
nowhere given c s holds block knows met is =
    absent_to holds block s (ap (λ x. x == 0) (sym (same_value holds (agree_given given met.0 met.1) knows)) ∙ is) met
