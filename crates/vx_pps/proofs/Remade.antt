-- A set that a rewriter puts together of the items of some fields and of those of the others.
use Rattle.std.proofs.Common.{◌≡◌, ℕ, ℤ, ◌-◌, length, take, arith, List, [], ◌∷◌, ◌++◌, Result, Ok, Err, Option, Some, None, sym, ap, subst, ◌∙◌, append_assoc}
use Rattle.std.proofs.lemmas.List.{append-nil, take_all}
use Rattle.vx_bits.specs.declared.list.Item.{Item}
use Rattle.vx_table.specs.declared.writer.SpellError.{SpellError}
use Rattle.vx_table.specs.declared.writer.SpellError.TheVariants as spellings
use Rattle.vx_table.specs.Forms.{Form, field}
use Rattle.vx_table.specs.Rewritten.{IsRewritten, RewritesField, Sources}
use Rattle.vx_table.specs.Shown.{shown_items}
use Rattle.vx_table.specs.Spelling.{item_of, items_along}
use Rattle.vx_table.specs.Values.{Follows, to_end, through}
use Rattle.vx_table.proofs.Rewriting.{makes, rewrites}
use Rattle.vx_pps.specs.declared.halt.Halt.{Halt}
use Rattle.vx_pps.specs.declared.halt.Halt.TheVariants.{Refused}
use Rattle.vx_pps.specs.declared.partition.Partition.{Partition}
use Rattle.vx_pps.specs.declared.shape.PpsShape.{PpsShape}
use Rattle.vx_pps.specs.Partition.{undivided}
use Rattle.vx_pps.specs.Pps.{ArePpsItems, IsPps, pps_form}
use Rattle.vx_pps.specs.Reshaped.{IsReshapedPps, IsShape, taken}
use Rattle.vx_pps.specs.inner.Stated.{PutsTogether, StatesAll}
use Rattle.vx_pps.specs.inner.Walked.{Walked, coded, ended}
use Rattle.vx_pps.proofs.Reshaping.{division_of, reshapes, stated as stated_items}
use Rattle.vx_pps.proofs.Walking.{to_end as end_of, to_refusal}

-- what it takes to the end are items of values
walked_gives : {A : Type 0} {form : Form A} {old new : Sources} {into after : List Item} {a : A} → Walked {E = SpellError} RewritesField form old into (Ok a) new after
    → (w : List ℤ) × Follows form w a × (after ≡ into ++ items_along form w)
walked_gives {into} ended = ([], to_end, sym (append-nil into))
walked_gives {form = field cell goes} {into} {after} (coded {j} {v} s rest) =
    let more = walked_gives rest in
    (v ∷ more.0, through s.0 more.1, more.2 ∙ ap (λ x. x ++ items_along (goes v) more.0) s.2 ∙ append_assoc into (item_of cell v) (items_along (goes v) more.0))

pub put_is : (old new : Sources) (items : List Item) (end : Partition) → Walked {E = SpellError} RewritesField pps_form old [] (Ok end) new items → IsPps items end
put_is old new items end walked =
    let w = walked_gives walked in
    record { values = w.0; follows = w.1; given = sym w.2 }

pub puts : (old new : Sources) (set : List Item) (end : Partition) → Walked {E = SpellError} RewritesField pps_form old [] (Ok end) new set → PutsTogether old.names old.shown old.others (Some set)
puts old new set end walked = λ items is. makes {B = Unit {0}} pps_form old new items set (Ok tt) (rewrites end (Ok tt) (end_of walked)) is

pub puts_none : (old new : Sources) (set : List Item) → Walked {E = SpellError} {A = Partition} RewritesField pps_form old [] (Err (Refused spellings.NoValue)) new set → PutsTogether old.names old.shown old.others None
puts_none old new set walked = λ items is. makes {B = Unit {0}} pps_form old new items set (Err spellings.NoValue) (rewrites undivided (Err spellings.NoValue) (to_refusal walked)) is

pub puts_none_at : (old new : Sources) (set : List Item) (result : Result Partition (Halt SpellError)) → result ≡ Err (Refused spellings.NoValue) → Walked RewritesField pps_form old [] result new set → PutsTogether old.names old.shown old.others None
puts_none_at old new set result is walked = puts_none old new set (subst (λ r. Walked RewritesField pps_form old [] r new set) is walked)

there : {names : List ℕ} {shown others : List Item} (set : Option (List Item)) (items : List Item) → IsRewritten pps_form names shown others items → PutsTogether names shown others set → set ≡ Some items
there None items is puts_ = absurd (puts_ items is)
there (Some set) items is puts_ = ap Some (puts_ items is)

pub from_sources : {result : Result Partition (Halt SpellError)} {old goal new : Sources} {items set : List Item} → old ≡ goal → items ≡ [] → Walked RewritesField pps_form old items result new set
    → Walked RewritesField pps_form goal [] result new set
from_sources {result} {old} {goal} {new} {items} {set} same none walked =
    subst (λ s. Walked RewritesField pps_form s [] result new set) same (subst (λ xs. Walked RewritesField pps_form old xs result new set) none walked)

-- all items of both kinds
pub whole_sources : (names : List ℕ) (shown others a b : List Item) (n m : ℕ) (r : Sources) → r ≡ record { names = names; shown = a; others = b } → a ≡ take (n - 0) shown → b ≡ take (m - 0) others → n ≡ length shown → m ≡ length others
    → r ≡ record { names = names; shown = shown; others = others }
whole_sources names shown others a b n m r is is_a is_b size long =
    let all_a : a ≡ shown = is_a ∙ take_all (n - 0) shown (omega (arith, size)) in
    let all_b : b ≡ others = is_b ∙ take_all (m - 0) others (omega (arith, long)) in
    is ∙ ap (λ xs. record { names = names; shown = xs; others = b }) all_a ∙ ap (λ xs. record { names = names; shown = shown; others = xs }) all_b

-- the rewritten set is put together
pub remade : (source : List Item) (shape : PpsShape) (others : List Item) (set : Option (List Item)) → ArePpsItems source → IsShape source shape → StatesAll source shape others
    → PutsTogether (taken shape) (shown_items (taken shape) source) others set → (items : List Item) × IsReshapedPps source shape items × (set ≡ Some items)
remade source shape others set is_set is stated puts_ =
    let d = division_of source shape is in
    let r = reshapes source is_set.end shape d.0 is_set.set is d.1 in
    let same : stated_items source shape d.0 ≡ others = sym (stated.all d.0 d.1) in
    let rewritten : IsRewritten pps_form (taken shape) (shown_items (taken shape) source) others r.items = subst (λ xs. IsRewritten pps_form (taken shape) (shown_items (taken shape) source) xs r.items) same r.rewritten in
    (r.items, record { others = others; stated = record { division = d.0; divides = d.1; all = sym same }; rewritten = rewritten }, there set r.items rewritten puts_)

pub remade_from : (source fields : List Item) (shape : PpsShape) (names : List ℕ) (shown others : List Item) (set : Option (List Item)) → ArePpsItems fields → fields ≡ source → IsShape source shape → names ≡ taken shape → shown ≡ shown_items names fields
    → StatesAll source shape others → PutsTogether names shown others set → (items : List Item) × IsReshapedPps source shape items × (set ≡ Some items)
remade_from source fields shape names shown others set is_set same is names_are shown_are stated puts_ =
    let items : ArePpsItems source = subst ArePpsItems same is_set in
    let shown_same : shown ≡ shown_items (taken shape) source = shown_are ∙ ap (λ n. shown_items n fields) names_are ∙ ap (λ xs. shown_items (taken shape) xs) same in
    remade source shape others set items is stated (subst (λ xs. PutsTogether (taken shape) xs others set) shown_same (subst (λ n. PutsTogether n shown others set) names_are puts_))

pub reshaped_some : (source : List Item) (shape : PpsShape) (set : List Item) (option : Option (List Item)) → option ≡ Some set → (items : List Item) × IsReshapedPps source shape items × (option ≡ Some items) → IsReshapedPps source shape set
reshaped_some source shape set option is (items, reshaped, same) = let e : items ≡ set = cc in subst (λ xs. IsReshapedPps source shape xs) e reshaped

pub reshaped_none : (source : List Item) (shape : PpsShape) (option : Option (List Item)) → option ≡ None → (items : List Item) × IsReshapedPps source shape items × (option ≡ Some items) → ⊥
reshaped_none source shape option is (items, reshaped, same) = absurd (cc)
