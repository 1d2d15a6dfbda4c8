-- A walk of sifting gains the kept items.
use Rattle.std.proofs.Common.{◌≡◌, ℕ, ℤ, List, [], ◌∷◌, ◌++◌, Result, Ok, Err, refl, ap, sym, subst, ◌∙◌}
use Rattle.std.specs.Prelude.{OnOk}
use Rattle.std.proofs.lemmas.List.{append-nil, append_assoc}
use Rattle.vx_bits.specs.declared.list.Item.{Item}
use Rattle.vx_table.specs.declared.rows.Cell.{Cell}
use Rattle.vx_table.specs.declared.writer.SpellError.{SpellError}
use Rattle.vx_table.specs.declared.writer.SpellError.TheVariants as errors
use Rattle.vx_table.specs.Forms.{Form, done, field}
use Rattle.vx_table.specs.Walks.{Walks, ended, coded, refused, leaving}
use Rattle.vx_table.specs.Values.{to_end, through}
use Rattle.vx_table.specs.Writing.{TellsNoValue, IsSpelled, HaltsAt, ItemsLeadTo}
use Rattle.vx_table.specs.Kept.{kept_item, kept_along, KeepsField, Keeps}
use Rattle.vx_table.proofs.Writings.{items_more, at_once, longer, whole, leads_to}

-- the kept item of a value and those behind it
kept_more : {A : Type 0} (cell : Cell ℕ) (goes : ℤ → Form A) (into mid new : List Item) (v : ℤ) (w : List ℤ)
    → mid ≡ into ++ kept_item cell v → new ≡ mid ++ kept_along (goes v) w → new ≡ into ++ kept_along (field cell goes) (v ∷ w)
kept_more cell goes into mid new v w first more = more ∙ ap (λ x. x ++ kept_along (goes v) w) first ∙ append_assoc into (kept_item cell v) (kept_along (goes v) w)

-- what was sifted is kept
kept : {A : Type 0} {form : Form A} {items into left new : List Item} {a : A}
    → Walks KeepsField form items into (Ok a) left new → IsSpelled form (kept_along form) into items new left a
kept {into} ended = record { values = []; follows = to_end; gained = sym (append-nil into); taken = refl }
kept {form = field cell goes} {items} {into} {left} {new} (coded {d} {j} {v} s walk) =
    let more = kept walk in
    record {
      values = v ∷ more.values;
      follows = through s.0 more.follows;
      gained = kept_more cell goes into j new v more.values s.2 more.gained;
      taken = items_more cell goes items d left v more.values s.1 more.taken;
    }

-- where memory runs out, a front was kept
interrupted : {A : Type 0} {form : Form A} {items into left new : List Item}
    → Walks {A = A} KeepsField form items into (Err errors.Memory) left new → (cell : Cell ℕ) × HaltsAt form (kept_along form) into items new left cell
interrupted {form = done a} walk = elim walk [ ]
interrupted {form = field cell goes} (refused s) = (cell, at_once refl s.0 s.1)
interrupted {form = field cell goes} {into} {new} (coded {j} {v} s walk) =
    let more = interrupted walk in
    (more.0, longer s.0 (λ w gained. kept_more cell goes into j new v w s.2 gained) s.1 more.1)

-- and where the items are of no value
stopped : {A : Type 0} {form : Form A} {items into left new : List Item}
    → Walks {A = A} KeepsField form items into (Err errors.NoValue) left new → (cell : Cell ℕ) × HaltsAt form (kept_along form) into items new left cell × TellsNoValue cell left
stopped {form = done a} walk = elim walk [ ]
stopped {form = field cell goes} (refused s) = (cell, at_once refl s.1 s.2, subst (λ x. TellsNoValue cell x) (sym s.2) s.0)
stopped {form = field cell goes} {into} {new} (coded {j} {v} s walk) =
    let more = stopped walk in
    (more.0, longer s.0 (λ w gained. kept_more cell goes into j new v w s.2 gained) s.1 more.1, more.2)

pub keeps : {A B : Type 0} {form : Form A} {items into left new : List Item} (a : A) (result : Result B SpellError)
    → Walks KeepsField form items into (leaving a result) left new → Keeps form into items result new left
keeps a (Ok b) walk = whole (Ok b) (a, kept walk)
keeps a (Err errors.Memory) walk = whole (Err errors.Memory) (interrupted walk)
keeps a (Err errors.NoValue) walk = whole (Err errors.NoValue) (stopped walk)

pub leads : {A B : Type 0} {form : Form A} {items into left new : List Item} (a : A) (result : Result B SpellError)
    → Walks KeepsField form items into (leaving a result) left new → OnOk result (ItemsLeadTo form items a)
leads a (Ok b) walk = leads_to (kept walk)
leads a (Err e) walk = tt
