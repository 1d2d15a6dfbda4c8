-- That a structure can be rewritten, part by part.
use Rattle.std.proofs.Common.{◌≡◌, ℕ, ℤ, zero, suc, ◌+◌, ◌<◌, Bool, true, false, cond, ◌==◌, IsFalse, List, [], ◌∷◌, ◌++◌, length, slice_set, refl, ap, sym, ◌∙◌, arith}
use Rattle.std.specs.Prelude.{not, filter, All}
use Rattle.std.proofs.Math.Path.{fun_ext}
use Rattle.std.proofs.lemmas.Bool.{both_ways, and_parts}
use Rattle.std.proofs.lemmas.List.Elements.{filter-append, All-cons, All-nil}
use Rattle.vx_bits.specs.declared.list.Item.{Item}
use Rattle.vx_table.specs.declared.rows.Formula.{Formula}
use Rattle.vx_table.specs.declared.rows.Cell.{Cell}
use Rattle.vx_table.specs.declared.rows.Presence.TheVariants.{When}
use Rattle.vx_table.specs.Scope.{fresh, value}
use Rattle.vx_table.specs.Forms.{Form, done, field, ◌>>=◌, has_value, turns, present, form_of}
use Rattle.vx_table.specs.Parts.{Section, sections_form}
use Rattle.vx_table.specs.Spelling.{item_of, items_along}
use Rattle.vx_table.specs.Values.{Follows, to_end, through, bits_along}
use Rattle.vx_table.specs.EachField.{EachField}
use Rattle.vx_table.specs.Depends.{has, Inside, Agree, Alike, at_ends, both, hidden_left, hidden_right, Carries, IsLeft, Leaves}
use Rattle.vx_table.specs.Claims.{hides_counter, hides, hides_section, sections_hide, knows_formula}
use Rattle.vx_table.specs.Shown.{shown_items}
use Rattle.vx_table.specs.laws.Again.{AllShown, AlwaysShown}
use Rattle.vx_table.specs.Rewritten.{other_items}
use Rattle.vx_table.specs.Rewrites.{Takes, Goes, WhatGoesIsRewritten, CopiedRewrites, ReplacedRewrites, Admits, no_more, at_shown, at_other, MixedRewrites, MayHaveGiven, GivenGoes, RewritesTogether, AbsentRewrites, PresentRewrites, NothingRewrites, AreValues, ValuesTake, TakesAgain, TakesTogether, in_all_turns, TurnsTake, RewrittenIsRead, TablesLeave, SectionsLeave, LeavesTogether, LeavesPresent, LeavesAgree, SectionsTogether}
use Rattle.vx_table.proofs.Agreeing.{inside_itself, agree_itself, agree_back, agree_on, agree_less, agree_set, agree_outside, others_too, same_value}
use Rattle.vx_table.proofs.Dependence.{left_then, left_present, left_table}
use Rattle.vx_table.proofs.Again.{follows_again, all_shown_more}
use Rattle.vx_table.proofs.Joined.{joined, items_joined}
use Rattle.vx_table.proofs.Rewriting.{other_here, no_other_here}
use Rattle.vx_table.proofs.Shown.{shown_here, hidden_here}
use Rattle.vx_table.proofs.Spelled.{reads_back}
use Rattle.vx_table.proofs.Apart.{reads_one_way}

-- ---- what is left alone

pub left_end : {names s : List ℕ} {f : Form (List ℕ)} {w : List ℤ} {a : List ℕ} → IsLeft names s f → Follows f w a → Agree names s a
left_end left to_end = left
left_end left (through {v} value on) = left_end (left.1 v) on

-- such a form has no item of the set
left_shown : (names s : List ℕ) {f : Form (List ℕ)} {w : List ℤ} {a : List ℕ} → IsLeft names s f → Follows f w a → shown_items names (items_along f w) ≡ []
left_shown names s left to_end = refl
left_shown names s left (through {cell} {goes} {v} {w} value on) = hidden_here names cell v (items_along (goes v) w) left.0 ∙ left_shown names s (left.1 v) on

left_others : (names s : List ℕ) {f : Form (List ℕ)} {w : List ℤ} {a : List ℕ} → IsLeft names s f → Follows f w a → other_items names (items_along f w) ≡ items_along f w
left_others names s left to_end = refl
left_others names s left (through {cell} {goes} {v} {w} value on) =
    other_here names cell v (items_along (goes v) w) left.0 ∙ ap (λ x. item_of cell v ++ x) (left_others names s (left.1 v) on)

-- and one with all fields in the set has no others
no_others : (names : List ℕ) {f : Form (List ℕ)} {w : List ℤ} {a : List ℕ} → AllShown names f → Follows f w a → other_items names (items_along f w) ≡ []
no_others names all to_end = refl
no_others names all (through {cell} {goes} {v} {w} value on) = no_other_here names cell v (items_along (goes v) w) all.0 ∙ no_others names (all.1 v) on

pub leaves_agree : LeavesAgree
leaves_agree names form s values end leaves follows = left_end (leaves.at s) follows

pub tables_leave : TablesLeave
tables_leave names rows hide = record { at = λ s. left_table names rows s hide }

pub leaves_together : LeavesTogether
leaves_together names first more before behind = record { at = λ s. left_then names s (first s) more (before.at s) (λ t. behind.at t) }

pub leaves_present : LeavesPresent
unfolding hides_counter
leaves_present names holds form leaves = record { at = λ s. left_present names (When holds) form s refl (λ t. leaves.at t) }

left_sections : (names : List ℕ) (sections : List Section) (s : List ℕ) → sections_hide names sections ≡ true → IsLeft names s (sections_form sections s)
unfolding sections_form
left_sections names [] s hide = agree_itself names s
left_sections names (section ∷ more) s hide =
    let parts = and_parts (hides_section names section) (sections_hide names more) hide in
    let here = and_parts (hides_counter names section.presence) (hides names section.rows) parts.0 in
    left_then names s (present section.presence (form_of section.rows) s) (sections_form more)
    (left_present names section.presence (form_of section.rows) s here.0 (λ t. left_table names section.rows t here.1)) (λ t. left_sections names more t parts.1)

pub sections_leave : SectionsLeave
sections_leave names sections hide = record { at = λ s. left_sections names sections s hide }

-- ---- sections cut in two

bind_on : {A B C : Type 0} (f : Form A) (g : A → Form B) (h : B → Form C) → ((f >>= g) >>= h) ≡ (f >>= (λ a. g a >>= h))
bind_on (done a) g h = refl
bind_on (field cell goes) g h = ap (λ x. field cell x) (fun_ext (λ v. bind_on (goes v) g h))

pub sections_together : SectionsTogether
unfolding sections_form
sections_together [] more s = refl
sections_together (section ∷ first) more s =
    ap (λ next. present section.presence (form_of section.rows) s >>= next) (fun_ext (λ t. sections_together first more t))
    ∙ sym (bind_on (present section.presence (form_of section.rows) s) (sections_form first) (sections_form more))

-- ---- parts

pub what_goes_is_rewritten : WhatGoesIsRewritten
what_goes_is_rewritten names end shown others form goes =
    (items_along form goes.values, record { values = goes.values; end = goes.last; follows = goes.follows; all = refl; shown_ones = goes.shown_ones; other_ones = goes.other_ones })

pub nothing_rewrites : NothingRewrites
nothing_rewrites names none s = record { at = λ t agree fresh_there. record { values = []; last = t; follows = to_end; agree = agree; shown_ones = refl; other_ones = refl } }

pub copied_rewrites : CopiedRewrites
copied_rewrites names none shown after form s values end inside carries all follows = record {
  at = λ t agree fresh_there.
      let again = follows_again shown after (form s) (form t) values end (carries.alike inside s t agree) (all_shown_more (form s) inside (all.at s)) (all_shown_more (form t) inside (all.at t)) follows in
      record {
        values = values;
        last = again.last;
        follows = again.follows;
        agree = agree_less carries.grows again.agree;
        shown_ones = ap (λ x. shown_items names x) again.items;
        other_ones = no_others names (all.at t) again.follows;
      };
}

pub replaced_rewrites : ReplacedRewrites
replaced_rewrites names none form s values end here leaves follows takes = record {
  at = λ t agree fresh_there.
      let there = takes t agree fresh_there in
      record {
        values = there.values;
        last = there.end;
        follows = there.follows;
        agree = agree_on (agree_back (left_end (leaves.at s) follows)) (agree_on agree (left_end (leaves.at t) there.follows));
        shown_ones = left_shown names t (leaves.at t) there.follows ∙ sym (left_shown names s (leaves.at s) follows);
        other_ones = left_others names t (leaves.at t) there.follows ∙ there.all;
      };
}

-- ---- parts of both kinds of fields

-- a form that admits others goes with the shown items of a value of an alike one
refill : {names known : List ℕ} {f g : Form (List ℕ)} {w : List ℤ} {a : List ℕ} {others : List Item} → Alike names known f g → Admits names g others → Inside names known → Follows f w a
    → Goes names a (shown_items names (items_along f w)) others g
refill (at_ends {t} agree) no_more inside to_end = record { values = []; last = t; follows = to_end; agree = agree_less inside agree; shown_ones = refl; other_ones = refl }
refill {names} (both {cell} {goes} {other} is more) (at_shown it_is admits) inside (through {v} {w} value on) =
    let rest = refill (more v) (admits v value) inside on in
    record {
      values = v ∷ rest.values;
      last = rest.last;
      follows = through value rest.follows;
      agree = rest.agree;
      shown_ones = shown_here names cell v (items_along (other v) rest.values) is ∙ ap (λ x. item_of cell v ++ x) rest.shown_ones ∙ sym (shown_here names cell v (items_along (goes v) w) is);
      other_ones = no_other_here names cell v (items_along (other v) rest.values) is ∙ rest.other_ones;
    }
refill (both is more) (at_other it_is_not value admits) inside on = absurd (both_ways _ it_is_not is)
refill {names} (hidden_left {cell} {goes} is more) admits inside (through {v} {w} value on) =
    let rest = refill (more v) admits inside on in
    record {
      values = rest.values;
      last = rest.last;
      follows = rest.follows;
      agree = rest.agree;
      shown_ones = rest.shown_ones ∙ sym (hidden_here names cell v (items_along (goes v) w) is);
      other_ones = rest.other_ones;
    }
refill {names} (hidden_right {cell} {goes} is more) (at_other {v} it_is_not value admits) inside on =
    let rest = refill (more v) admits inside on in
    record {
      values = v ∷ rest.values;
      last = rest.last;
      follows = through value rest.follows;
      agree = rest.agree;
      shown_ones = hidden_here names cell v (items_along (goes v) rest.values) is ∙ rest.shown_ones;
      other_ones = other_here names cell v (items_along (goes v) rest.values) is ∙ ap (λ x. item_of cell v ++ x) rest.other_ones;
    }
refill (hidden_right is more) (at_shown it_is admits) inside on = absurd (both_ways _ is it_is)

pub mixed_rewrites : MixedRewrites
mixed_rewrites names none after form s values end others carries follows admits = record {
  at = λ t agree fresh_there. refill (carries.alike (inside_itself names) s t agree) (admits t agree fresh_there) carries.grows follows;
}

-- an item of the value that is given to its field
given_item : (given : ℕ → ℤ) (cell : Cell ℕ) (others : List Item) → All (λ item. item.value ≡ given item.field) others → All (λ item. item.value ≡ given item.field) (item_of cell (given cell.field) ++ others)
unfolding item_of
given_item given cell others all = elim (has_value cell.coding)
    as (λ b. All (λ item. item.value ≡ given item.field) (cond b (record { field = cell.field; value = given cell.field } ∷ []) [] ++ others)) [
      | true ↦ All-cons (λ item. item.value ≡ given item.field) (record { field = cell.field; value = given cell.field }) others refl all
      | false ↦ all
    ]

fill_given : {names known : List ℕ} {f g : Form (List ℕ)} {w : List ℤ} {a : List ℕ} (given : ℕ → ℤ) → Alike names known f g → EachField (MayHaveGiven names given) g → Inside names known → Follows f w a
    → (others : List Item) × Goes names a (shown_items names (items_along f w)) others g × All (λ item. item.value ≡ given item.field) others
fill_given given (at_ends {t} agree) may inside to_end =
    ([], record { values = []; last = t; follows = to_end; agree = agree_less inside agree; shown_ones = refl; other_ones = refl }, All-nil (λ item. item.value ≡ given item.field))
fill_given {names} given (both {cell} {goes} {other} is more) may inside (through {v} {w} value on) =
    let rest = fill_given given (more v) (may.1 v) inside on in
    let there = rest.1 in (
      rest.0,
      record {
        values = v ∷ there.values;
        last = there.last;
        follows = through value there.follows;
        agree = there.agree;
        shown_ones = shown_here names cell v (items_along (other v) there.values) is ∙ ap (λ x. item_of cell v ++ x) there.shown_ones ∙ sym (shown_here names cell v (items_along (goes v) w) is);
        other_ones = no_other_here names cell v (items_along (other v) there.values) is ∙ there.other_ones;
      },
      rest.2,
    )
fill_given {names} given (hidden_left {cell} {goes} is more) may inside (through {v} {w} value on) =
    let rest = fill_given given (more v) may inside on in
    let there = rest.1 in (
      rest.0,
      record {
        values = there.values;
        last = there.last;
        follows = there.follows;
        agree = there.agree;
        shown_ones = there.shown_ones ∙ sym (hidden_here names cell v (items_along (goes v) w) is);
        other_ones = there.other_ones;
      },
      rest.2,
    )
fill_given {names} given (hidden_right {cell} {goes} is more) may inside on =
    let v : ℤ = given cell.field in
    let rest = fill_given given (more v) (may.1 v) inside on in
    let there = rest.1 in (
      item_of cell v ++ rest.0,
      record {
        values = v ∷ there.values;
        last = there.last;
        follows = through (may.0 is) there.follows;
        agree = there.agree;
        shown_ones = hidden_here names cell v (items_along (goes v) there.values) is ∙ there.shown_ones;
        other_ones = other_here names cell v (items_along (goes v) there.values) is ∙ ap (λ x. item_of cell v ++ x) there.other_ones;
      },
      given_item given cell rest.0 rest.2,
    )

pub given_goes : GivenGoes
given_goes names known given f g values end alike may inside follows = fill_given given alike may inside follows

-- the items of the set, and the others, of one form behind another
both_items : (p : Item → Bool) {f : Form (List ℕ)} (next : List ℕ → Form (List ℕ)) {v : List ℤ} (w : List ℤ) {a : List ℕ} → Follows f v a
    → filter p (items_along (f >>= next) (v ++ w)) ≡ filter p (items_along f v) ++ filter p (items_along (next a) w)
both_items p {f} next {v} w {a} follows = ap (λ x. filter p x) (items_joined next w follows) ∙ filter-append p (items_along f v) (items_along (next a) w)

pub rewrites_together : RewritesTogether
rewrites_together names none later first more s values end here others parts inside leaves before behind = record {
  at = λ t agree fresh_there.
      let front = before.at t agree fresh_there in
      let still : Agree later fresh front.last = agree_on (agree_less inside fresh_there) (left_end (leaves.at t) front.follows) in
      let rest = behind.at front.last front.agree still in
      let shown : Item → Bool = λ item. has names item.field in
      let hidden : Item → Bool = λ item. not (has names item.field) in
      record {
        values = front.values ++ rest.values;
        last = rest.last;
        follows = joined more front.follows rest.follows;
        agree = rest.agree;
        shown_ones = both_items shown more rest.values front.follows
            ∙ ap (λ x. x ++ shown_items names (items_along (more front.last) rest.values)) front.shown_ones
            ∙ ap (λ x. shown_items names (items_along (first s) parts.front) ++ x) rest.shown_ones
            ∙ sym (both_items shown more parts.others parts.first)
            ∙ ap (λ w. shown_items names (items_along (first s >>= more) w)) (sym parts.all);
        other_ones = both_items hidden more rest.values front.follows
            ∙ ap (λ x. x ++ other_items names (items_along (more front.last) rest.values)) front.other_ones
            ∙ ap (λ x. here ++ x) rest.other_ones;
      };
}

absent_there : (names s t : List ℕ) (holds : Formula) (form : List ℕ → Form (List ℕ)) → knows_formula names holds ≡ true → Agree names s t → value s holds ≡ 0 → present (When holds) form t ≡ done t
unfolding present
absent_there names s t holds form knows agree none = rw (sym (same_value holds agree knows) ∙ none) refl

present_there : (names s t : List ℕ) (holds : Formula) (form : List ℕ → Form (List ℕ)) → knows_formula names holds ≡ true → Agree names s t → (value s holds == 0) ≡ false → present (When holds) form t ≡ form t
unfolding present
present_there names s t holds form knows agree some =
    let there : (value t holds == 0) ≡ false = rw (same_value holds agree knows) at some in
    rw there refl

pub absent_rewrites : AbsentRewrites
absent_rewrites names none holds form s knows no_number = record {
  at = λ t agree fresh_there.
      rw (absent_there names s t holds form knows agree no_number, absent_there names s s holds form knows (agree_itself names s) no_number)
      (record { values = []; last = t; follows = to_end; agree = agree; shown_ones = refl; other_ones = refl });
}

pub present_rewrites : PresentRewrites
present_rewrites names none holds form s values end others knows some rewrites = record {
  at = λ t agree fresh_there.
      rw (present_there names s t holds form knows agree some, present_there names s s holds form knows (agree_itself names s) some) (rewrites.at t agree fresh_there);
}

-- ---- what stands in place of others

values_go : (form : Form (List ℕ)) (values : List ℤ) → AreValues form values → (end : List ℕ) × Follows form values end
values_go (done s) [] are = (s, to_end)
values_go (done s) (v ∷ w) are = absurd are
values_go (field cell goes) [] are = absurd are
values_go (field cell goes) (v ∷ w) are = let more = values_go (goes v) w are.1 in (more.0, through are.0 more.1)

pub values_take : ValuesTake
values_take form values items are same = let go = values_go form values are in record { values = values; end = go.0; follows = go.1; all = same }

pub takes_again : TakesAgain
takes_again shown known f g items alike all others takes =
    let again = follows_again shown known f g takes.values takes.end alike all others takes.follows in
    record { values = takes.values; end = again.last; follows = again.follows; all = again.items ∙ takes.all }

pub takes_together : TakesTogether
takes_together first more here others before rest =
    record {
      values = before.values ++ rest.values;
      end = rest.end;
      follows = joined more before.follows rest.follows;
      all = items_joined more rest.values before.follows ∙ ap (λ x. x ++ items_along (more before.end) rest.values) before.all ∙ ap (λ x. here ++ x) rest.all;
    }

-- what is known with one name more, of a name that isn't it
take_turns : (shown known after : List ℕ) (form : List ℕ → Form (List ℕ)) (counter turn more : ℕ) (s t : List ℕ) (items : ℕ → List Item) → IsFalse (has known counter)
    → Inside (counter ∷ known) shown → Carries shown (counter ∷ known) after form → AlwaysShown shown form → Leaves known form → Agree known s t
    → ((i : ℕ) → i < turn + more → Takes (form (slice_set s counter i)) (items i)) → Takes (turns form counter turn more t) (in_all_turns items turn more)
unfolding turns
take_turns shown known after form counter turn zero s t items outside inside carries all leaves agree each = record { values = []; end = t; follows = to_end; all = refl }
take_turns shown known after form counter turn (suc more) s t items outside inside carries all leaves agree each =
    let here : List ℕ = slice_set s counter turn in
    let there : List ℕ = slice_set t counter turn in
    let same : Agree (counter ∷ known) here there = agree_set counter turn (λ m is_not h. others_too known counter m is_not h) agree in
    let first = takes_again shown after (form here) (form there) (items turn) (carries.alike inside here there same) (all.at here) (all.at there) (each turn (omega arith)) in
    let behind : Agree known s first.end = agree_on agree (agree_on (agree_outside known t counter turn outside) (left_end (leaves.at there) first.follows)) in
    let rest = take_turns shown known after form counter (turn + 1) more s first.end items outside inside carries all leaves behind (λ i few. each i (omega arith)) in
    record {
      values = first.values ++ rest.values;
      end = rest.end;
      follows = joined (turns form counter (turn + 1) more) first.follows rest.follows;
      all = items_joined (turns form counter (turn + 1) more) rest.values first.follows
          ∙ ap (λ x. x ++ items_along (turns form counter (turn + 1) more first.end) rest.values) first.all ∙ ap (λ x. items turn ++ x) rest.all;
    }

pub turns_take : TurnsTake
turns_take shown known after form counter times s t items outside inside carries all leaves agree each =
    take_turns shown known after form counter 0 times s t items outside inside carries all leaves agree (λ i few. each i (omega (arith, few)))

-- ---- read again

pub rewritten_is_read : RewrittenIsRead
rewritten_is_read form names shown others items place rest left values is closes spelled =
    let back = reads_back form place is.values is.end rest is.follows closes in
    let same = reads_one_way form (place + length (bits_along form place is.values ++ rest)) values is.values (bits_along form place is.values ++ rest) left rest spelled back in
    let all : items_along form values ≡ items = ap (λ w. items_along form w) same.0 ∙ sym is.all in
    (all, ap (λ x. shown_items names x) all ∙ is.shown_ones, same.1)
