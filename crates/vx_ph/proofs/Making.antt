-- What a rewriter makes of all items of two lists.
use Rattle.std.proofs.Common.{◌≡◌, ℕ, ◌-◌, List, [], length, take, drop, Result, Ok, Err, arith, ap, sym, subst, ◌∙◌}
use Rattle.std.proofs.lemmas.List.{take_all}
use Rattle.vx_bits.specs.declared.list.Item.{Item}
use Rattle.vx_table.specs.declared.writer.SpellError.{SpellError}
use Rattle.vx_table.specs.declared.writer.SpellError.TheVariants as errors
use Rattle.vx_table.specs.Forms.{Form}
use Rattle.vx_table.specs.Walks.{Walks, leaving}
use Rattle.vx_table.specs.Rewritten.{Sources, RewritesField, RewritesInto}
use Rattle.vx_table.specs.Writing.{IsWritten}
use Rattle.vx_table.proofs.Rewriting.{makes_rewritten, rewrites}
use Rattle.vx_ph.specs.inner.Makes.{Makes}

-- all items of a list
all_of : (items : List Item) (n : ℕ) → n ≡ length items → take (n - 0) (drop 0 items) ≡ items
all_of items n size = take_all (n - 0) items (omega (arith, size))

pub makes : (fields : List ℕ) {form : Form (List ℕ)} {stated kept shown hidden : List Item} {names : List ℕ} {old new : Sources} {into after : List Item} {n m : ℕ} (a : List ℕ) (result : Result (Unit {0}) SpellError)
    → names ≡ fields → n ≡ length stated → shown ≡ take (n - 0) (drop 0 stated) → m ≡ length kept → hidden ≡ take (m - 0) (drop 0 kept)
    → old ≡ record { names = names; shown = shown; others = hidden } → into ≡ [] → Walks RewritesField form old into (leaving a result) new after → Makes form fields stated kept result after
makes fields {form} {stated} {kept} {old} {new} {into} {after} {n} {m} a result set size first count second whole empty walk items is =
    let from : RewritesInto form old [] result new after = subst (λ x. RewritesInto form old x result new after) empty (rewrites a result walk) in
    let stated_is : old.shown ≡ stated = ap (λ r. r.shown) whole ∙ first ∙ all_of stated n size in
    let kept_are : old.others ≡ kept = ap (λ r. r.others) whole ∙ second ∙ all_of kept m count in
    let names_are : old.names ≡ fields = ap (λ r. r.names) whole ∙ set in
    makes_rewritten form old new items after result from (rw (names_are, stated_is, kept_are) is)

-- so it makes what there is, and never answers that there is none
pub made : (P : List Item → Type 0) (result : Result (Unit {0}) SpellError) (after items : List Item) → P items → IsWritten result (after ≡ items) → IsWritten result (P after)
made P (Ok u) after items is same = subst P (sym same) is
made P (Err errors.Memory) after items is same = tt
made P (Err errors.NoValue) after items is same = same
