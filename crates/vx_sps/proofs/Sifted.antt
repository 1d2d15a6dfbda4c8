-- What sifting keeps of a set.
use Rattle.std.proofs.Common.{◌≡◌, ℕ, ◌-◌, List, [], length, take, drop, Result, Ok, Err, refl, arith, ap, sym, subst, ◌∙◌}
use Rattle.std.proofs.lemmas.List.{append-nil, take_all}
use Rattle.vx_bits.specs.declared.list.Item.{Item}
use Rattle.vx_table.specs.declared.writer.SpellError.{SpellError}
use Rattle.vx_table.specs.declared.writer.SpellError.TheVariants as spellings
use Rattle.vx_table.specs.Scope.{fresh}
use Rattle.vx_table.specs.Forms.{has_value}
use Rattle.vx_table.specs.EachField.{EachField}
use Rattle.vx_table.specs.Spelling.{items_along}
use Rattle.vx_table.specs.Kept.{stands_for_field, Keeps}
use Rattle.vx_table.specs.Shown.{star_tells, KeepsShown}
use Rattle.vx_table.specs.Rewritten.{FillsNone, fills_none}
use Rattle.vx_table.proofs.Keeping.{kept_are_shown, sections_fill_none}
use Rattle.vx_table.proofs.Starred.{structure_keeps_only}
use Rattle.vx_sps.specs.Depends.{kept_sps_fields, kept_sps_items, KeptAreSifted}
use Rattle.vx_sps.specs.Set.{AreSpsItems}
use Rattle.vx_sps.specs.Structure.{sps_sections, sps_form}

-- ---- those of a set

keeps_shown : KeepsShown kept_sps_fields sps_form
unfolding fresh has_value stands_for_field star_tells
keeps_shown = (structure_keeps_only [] kept_sps_fields sps_sections refl).keeps fresh

fills : EachField FillsNone sps_form
unfolding has_value stands_for_field fills_none
fills = sections_fill_none sps_sections fresh refl

pub kept_are_sifted : KeptAreSifted
kept_are_sifted values end follows = kept_are_shown kept_sps_fields keeps_shown fills follows

-- ---- what the sifter of a set's items has kept

-- one that begins with none kept, and with all items
pub from_all : {B : Type 0} (result : Result B SpellError) (old new fields items left : List Item) (n : ℕ) → old ≡ [] → n ≡ length fields
    → items ≡ take (n - 0) (drop 0 fields) → Keeps sps_form old items result new left → Keeps sps_form [] fields result new left
from_all result old new fields items left n none size all sifted =
    let whole : take (n - 0) (drop 0 fields) ≡ fields = take_all (n - 0) fields (omega (arith, size)) in
    subst (λ f. Keeps sps_form [] f result new left) (all ∙ whole) (subst (λ k. Keeps sps_form k items result new left) none sifted)

pub sifted : {B : Type 0} (items left new : List Item) (b : B) → AreSpsItems items → Keeps sps_form [] items (Ok b) new left → new ≡ kept_sps_items items
sifted items left new b set keeps =
    (keeps.only set.values set.end [] (record { follows = set.follows; given = set.all ∙ sym (append-nil (items_along sps_form set.values)) })).0
    ∙ kept_are_sifted set.values set.end set.follows ∙ ap kept_sps_items (sym set.all)

-- it isn't refused
pub is_no_value : {B : Type 0} (items left new : List Item) → AreSpsItems items → Keeps {B = B} sps_form [] items (Err spellings.NoValue) new left → ⊥
is_no_value items left new set keeps = keeps.only set.values set.end [] (record { follows = set.follows; given = set.all ∙ sym (append-nil (items_along sps_form set.values)) })
