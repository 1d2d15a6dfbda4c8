-- Writing items one after another.
use Rattle.std.proofs.Common.{◌≡◌, ℕ, ◌+◌, Bool, List, [], ◌∷◌, ◌++◌, length, take, drop, Some, ◌↔◌, refl, ap, sym, ◌∙◌, arith}
use Rattle.std.proofs.lemmas.List.{append_assoc, append-nil, length-append, take-append-drop}
use Rattle.std.proofs.Math.Seq.{take-append_seam}
use Rattle.std.specs.Prelude.{All}
use Rattle.std.proofs.lemmas.List.Elements.{All-head, All-tail, All-cons}
use Rattle.vx_bits.specs.declared.list.Item.{Item}
use Rattle.vx_table.specs.declared.rows.Coding.{Coding}
use Rattle.vx_table.specs.Spelling.{code_of}
use Rattle.vx_ptl.specs.Run.{item_bits, run_bits, gap, field_code, IsRunItem, GrowsByFront}

-- The bits have gained a front of all, and more of it is to come.
abbrev pub Gained : List Bool → List Bool → List Bool → List Bool → Type 0
Gained old new all more = (front : List Bool) × (new ≡ old ++ front) × (all ≡ front ++ more)

gained_all : (old new all : List Bool) → Gained old new all [] → new ≡ old ++ all
gained_all old new all (front, gained, is) = gained ∙ ap (λ x. old ++ x) (sym (is ∙ append-nil front))

-- more of all was gained
gained_more : (old mid new all more rest : List Bool) → Gained old mid all more → Gained mid new more rest → Gained old new all rest
gained_more old mid new all more rest (front, first, is) (on, second, next) =
    (front ++ on, second ∙ (ap (λ x. x ++ on) first ∙ append_assoc old front on), is ∙ (ap (λ x. front ++ x) next ∙ sym (append_assoc front on rest)))

grows_by_front : (old new all more : List Bool) → Gained old new all more → GrowsByFront old new all
grows_by_front old new all more (front, gained, is) = (length front, gained ∙ ap (λ x. old ++ x) (sym (ap (take (length front)) is ∙ take-append_seam front more)))

-- a front of the first of all that is to come
front_gained : (old mid new all bits behind : List Bool) → Gained old mid all (bits ++ behind) → GrowsByFront mid new bits → GrowsByFront old new all
front_gained old mid new all bits behind before (n, gained) =
    let split : bits ++ behind ≡ take n bits ++ (drop n bits ++ behind) = ap (λ x. x ++ behind) (sym (take-append-drop n bits)) ∙ append_assoc (take n bits) (drop n bits) behind in
    grows_by_front old new all _ (gained_more old mid new all _ _ before (take n bits, gained, split))

pub run_over : (before place : ℕ) (old new all : List Bool) → Gained old new all (run_bits before place []) → new ≡ old ++ all
unfolding run_bits
run_over before place old new all gained = gained_all old new all gained

-- an item was written
pub run_step : (before : ℕ) (old mid new all : List Bool) (item : Item) (items : List Item)
    → Gained old mid all (run_bits before (length mid) (item ∷ items)) → new ≡ mid ++ item_bits before (length mid) item → Gained old new all (run_bits item.field (length new) items)
unfolding run_bits
run_step before old mid new all item items is gained =
    let place : length new ≡ length mid + length (item_bits before (length mid) item) = omega (arith, ap length gained, length-append mid (item_bits before (length mid) item)) in
    rw place (gained_more old mid new all _ _ is (item_bits before (length mid) item, gained, refl))

-- an item was written in part
pub run_stopped : (before : ℕ) (old mid new all : List Bool) (item : Item) (items : List Item)
    → Gained old mid all (run_bits before (length mid) (item ∷ items)) → GrowsByFront mid new (item_bits before (length mid) item) → GrowsByFront old new all
unfolding run_bits
run_stopped before old mid new all item items is front = front_gained old mid new all (item_bits before (length mid) item) _ is front

pub item_written : (before : ℕ) (item : Item) (old mid new : List Bool) (coding : Coding ℕ) → (field_code item.field).coding ≡ Some coding
    → mid ≡ old ++ gap before item.field (length old) → new ≡ mid ++ code_of coding (length mid) item.value → new ≡ old ++ item_bits before (length old) item
unfolding item_bits
item_written before item old mid new coding is gapped coded =
    let place : length mid ≡ length old + length (gap before item.field (length old)) = omega (arith, ap length gapped, length-append old (gap before item.field (length old))) in
    rw (is, coded, place, gapped) (append_assoc old (gap before item.field (length old)) (code_of coding (length old + length (gap before item.field (length old))) item.value))

-- of an item the zeros before it alone were written
pub item_interrupted : (before : ℕ) (item : Item) (old mid new : List Bool) → mid ≡ old ++ gap before item.field (length old) → new ≡ mid → GrowsByFront old new (item_bits before (length old) item)
unfolding item_bits
item_interrupted before item old mid new gapped same = grows_by_front old new _ _ (gap before item.field (length old), same ∙ gapped, refl)

pub first_run : (item : Item) (items all : List Item) → all ≡ item ∷ items → All IsRunItem all → IsRunItem item
first_run item items all is run = All-head IsRunItem item items (rw is at run)

pub rest_run : (item : Item) (items all : List Item) → all ≡ item ∷ items → All IsRunItem all → All IsRunItem items
rest_run item items all is run = All-tail IsRunItem item items (rw is at run)

-- one item after another
pub run_more : (item : Item) (items all : List Item) (whole : Type 0) → all ≡ item ∷ items → IsRunItem item → (All IsRunItem all ↔ whole) → (All IsRunItem items ↔ whole)
run_more item items all whole is run before =
    ((λ (rest : All IsRunItem items). before.0 (rw is (All-cons IsRunItem item items run rest))), (λ w. rest_run item items all is (before.1 w)))
