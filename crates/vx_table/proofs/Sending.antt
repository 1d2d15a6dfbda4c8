-- A sender's walk is that of a rewriter and that of a writer behind it.
use Rattle.std.proofs.Common.{◌≡◌, ℕ, ℤ, Bool, true, false, cond, IsFalse, List, [], ◌∷◌, ◌++◌, Option, Some, None, Result, Ok, Err, refl, ap, sym, subst, ◌∙◌}
use Rattle.std.proofs.lemmas.List.{append-nil, append_assoc}
use Rattle.std.proofs.lemmas.Result.{IfOk-weaker}
use Rattle.vx_bits.specs.declared.list.Item.{Item}
use Rattle.vx_table.specs.declared.rows.Cell.{Cell}
use Rattle.vx_table.specs.declared.writer.SpellError.{SpellError}
use Rattle.vx_table.specs.declared.writer.SpellError.TheVariants as errors
use Rattle.vx_table.specs.Forms.{Form, field, has_value}
use Rattle.vx_table.specs.Walks.{Walks, ended, coded, refused}
use Rattle.vx_table.specs.Spelling.{item_of, items_along}
use Rattle.vx_table.specs.Writing.{WritesField, TakesValue}
use Rattle.vx_table.specs.Depends.{has}
use Rattle.vx_table.specs.Rewritten.{other_items, Sources, RewritesField}
use Rattle.vx_table.specs.Sent.{BeginsWithOther, SendsField, IsSentAs, SentAsRewritten, SendsRewritten}
use Rattle.vx_table.proofs.Rewriting.{makes, other_here, rewrites}
use Rattle.vx_table.proofs.Writings.{writes}

-- ---- the next item of another field

-- where the items that tell a value come next among those of other fields, they come next at all
comes_next : (names : List ℕ) (cell : Cell ℕ) (v : ℤ) (items more : List Item) → BeginsWithOther names items → other_items names items ≡ item_of cell v ++ more
    → (left : List Item) × (items ≡ item_of cell v ++ left)
unfolding item_of
comes_next names cell v [] more begins same = elim (has_value cell.coding)
    as (λ b. [] ≡ cond b (record { field = cell.field; value = v } ∷ []) [] ++ more → (left : List Item) × ([] ≡ cond b (record { field = cell.field; value = v } ∷ []) [] ++ left)) [
      | true ↦ λ e. absurd (let none : ⊥ = cc in none)
      | false ↦ λ e. ([], refl)
    ] same
comes_next names cell v (item ∷ items) more begins same = elim (has_value cell.coding)
    as (λ b. item ∷ other_items names items ≡ cond b (record { field = cell.field; value = v } ∷ []) [] ++ more
    → (left : List Item) × (item ∷ items ≡ cond b (record { field = cell.field; value = v } ∷ []) [] ++ left)) [
      | true ↦ λ e. (items, let first : item ≡ record { field = cell.field; value = v } = cc in ap (λ x. x ∷ items) first)
      | false ↦ λ e. (item ∷ items, refl)
    ] (rw begins at same)

-- so taking a value from the items that come next tells what taking one among those of other fields does
pub takes_other_value : (names : List ℕ) (cell : Cell ℕ) (result : Option ℤ) (items left : List Item) → IsFalse (has names cell.field) → BeginsWithOther names items → TakesValue cell items result left
    → TakesValue cell (other_items names items) result (other_items names left)
takes_other_value names cell (Some v) items left is begins took = (took.0, ap (λ x. other_items names x) took.1 ∙ other_here names cell v left is)
takes_other_value names cell None items left is begins none = λ v more value same. let next = comes_next names cell v items more begins same in none v next.0 value next.1

-- ---- the walk

-- a walk of a rewriter appends behind what it is given
behind_given : {A : Type 0} {form : Form A} {old new : Sources} {items after : List Item} {result : Result A SpellError} (into : List Item)
    → Walks RewritesField form old items result new after → Walks RewritesField form old (into ++ items) result new (into ++ after)
behind_given into ended = ended
behind_given {form = field cell goes} {items} into (coded {j} {v} s walk) =
    coded (s.0, s.1, ap (λ x. into ++ x) s.2 ∙ sym (append_assoc into items (item_of cell v))) (behind_given into walk)
behind_given into (refused {e = errors.Memory} s) = refused (ap (λ x. into ++ x) s)
behind_given into (refused {e = errors.NoValue} s) = refused (s.0, ap (λ x. into ++ x) s.1)

-- both walks
sent : {A : Type 0} {form : Form A} {old new : Sources} {bits after : List Bool} {result : Result A SpellError} → Walks SendsField form old bits result new after → IsSentAs form old bits result new after
sent ended = record { items = []; rewritten = ended; written = ended }
sent {form = field cell goes} {new} {bits} {after} {result} (coded {d} {j} {v} s walk) =
    let more = sent walk in
    record {
      items = item_of cell v ++ more.items;
      rewritten = coded (s.0, s.1, refl) (subst (λ x. Walks RewritesField (goes v) d x result new (item_of cell v ++ more.items)) (append-nil (item_of cell v)) (behind_given (item_of cell v) more.rewritten));
      written = IfOk-weaker result (λ end. Walks WritesField (goes v) j more.items (Ok end) after []) (λ end. Walks WritesField (field cell goes) bits (item_of cell v ++ more.items) (Ok end) after []) (λ end rest. coded (s.0, s.2, refl) rest) more.written;
    }
sent (refused {e = errors.Memory} s) = record { items = []; rewritten = refused refl; written = tt }
sent (refused {e = errors.NoValue} s) = record { items = []; rewritten = refused (s.0, refl); written = tt }

pub sent_as_rewritten : SentAsRewritten
sent_as_rewritten form old new bits after result walk = sent walk

-- ---- what a sender writes

pub sends_rewritten : SendsRewritten
sends_rewritten form old new items after end (Ok u) walk is =
    let both = sent walk in
    let same : both.items ≡ items = makes form old new items both.items (Ok u) (rewrites end (Ok u) both.rewritten) is in
    ((writes end (Ok u) both.written).only is.values is.end [] (record { follows = is.follows; given = same ∙ is.all ∙ sym (append-nil (items_along form is.values)) })).0
sends_rewritten form old new items after end (Err errors.Memory) walk is = tt
sends_rewritten form old new items after end (Err errors.NoValue) walk is =
    let both = sent walk in
    makes {B = Unit {0}} form old new items both.items (Err errors.NoValue) (rewrites end (Err errors.NoValue) both.rewritten) is
