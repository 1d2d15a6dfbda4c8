-- A slice header that is written part by part.
use Rattle.std.proofs.Common.{◌≡◌, ℕ, ℤ, Bool, List, [], ◌++◌, length, take, ◌+◌, ◌-◌, Ok, Err, ap, sym, ◌∙◌, arith}
use Rattle.std.specs.Prelude.{Result}
use Rattle.std.proofs.lemmas.List.{append-nil, take_all}
use Rattle.vx_bits.specs.declared.list.Item.{Item}
use Rattle.vx_table.specs.declared.writer.SpellError.{SpellError}
use Rattle.vx_table.specs.declared.writer.SpellError.TheVariants as errors
use Rattle.vx_table.specs.Forms.{Form, ◌>>=◌, form_of}
use Rattle.vx_table.specs.Walks.{Walks, leaving}
use Rattle.vx_table.specs.Spelling.{items_along}
use Rattle.vx_table.specs.Values.{Follows, bits_along}
use Rattle.vx_table.specs.Writing.{WritesField, AreItemsOf}
use Rattle.vx_table.proofs.Joined.{joined, bits_joined}
use Rattle.vx_table.proofs.Writings.{writes, leads}
use Rattle.vx_sh.specs.declared.tables.TheConstants.{HEADER_INSIDE}
use Rattle.vx_sh.specs.Whole.{At, behind_header, header_inside, slice_form}
use Rattle.vx_sh.specs.Value.{values_of, IsSliceOf}
use Rattle.vx_sh.specs.inner.Writing.{WritesPart}

-- all items from the first on
pub from_all : (n : ℕ) (items : List Item) → n ≡ length items → take (n - 0) items ≡ items
from_all n items is = take_all (n - 0) items (omega (arith, is))

-- where the items of values come next, a writer writes these
pub part_written : {form : Form (List ℕ)} {values : List ℤ} {end : List ℕ} (more : List Item) {old new : List Bool} {items left : List Item} (scope : List ℕ)
    (result : Result (Unit {0}) SpellError) → Follows form values end → items ≡ items_along form values ++ more
    → Walks WritesField form old items (leaving scope result) new left → WritesPart form values end more old scope result new left
part_written {form} {values} {end} more {items} scope (Ok u) follows given walk =
    let of : AreItemsOf form items values end more = record { follows = follows; given = given } in
    let is = (writes scope (Ok u) walk).only values end more of in
    record { bits = is.0; items = is.1; ends = sym (leads scope (Ok u) walk values end more of) }
part_written more scope (Err errors.Memory) follows given walk = tt
part_written {form} {values} {end} more {items} scope (Err errors.NoValue) follows given walk =
    let of : AreItemsOf form items values end more = record { follows = follows; given = given } in
    (writes {B = Unit {0}} scope (Err errors.NoValue) walk).only values end more of

-- the bits of the three parts
pub parts_written : (n : At) (fields header : List Item) (is : IsSliceOf n fields header) (first second third : List Bool)
    → first ≡ [] ++ bits_along (form_of HEADER_INSIDE n.slice) 0 is.slice.first
    → second ≡ first ++ bits_along (header_inside n.table n.sets is.slice.at) (length first) is.inside
    → third ≡ second ++ bits_along (behind_header n.table n.ids n.layout is.slice.at) (length second) is.slice.behind
    → third ≡ bits_along (slice_form n) 0 (values_of is.slice)
unfolding slice_form
parts_written n fields header is first second third one two three =
    let f = is.slice in
    let inside = header_inside n.table n.sets in
    let behind = behind_header n.table n.ids n.layout in
    let place : 0 + length (bits_along (form_of HEADER_INSIDE n.slice) 0 f.first) ≡ length (bits_along (form_of HEADER_INSIDE n.slice) 0 f.first) = omega arith in
    let whole : 0 + length (bits_along (form_of HEADER_INSIDE n.slice >>= inside) 0 (f.first ++ is.inside)) ≡ length (bits_along (form_of HEADER_INSIDE n.slice >>= inside) 0 (f.first ++ is.inside)) = omega arith in
    let front = rw place at (bits_joined inside 0 is.inside f.begins) in
    let same : second ≡ bits_along (form_of HEADER_INSIDE n.slice >>= inside) 0 (f.first ++ is.inside)
    = two ∙ ap (λ x. x ++ bits_along (inside f.at) (length x) is.inside) one ∙ sym (front) in
    three ∙ ap (λ x. x ++ bits_along (behind f.at) (length x) f.behind) same ∙ sym (rw whole at (bits_joined behind 0 f.behind (joined inside f.begins f.goes_on)))

-- ---- the parts of a slice header, from the items of the whole

pub first_written : (n : At) (fields header : List Item) (is : IsSliceOf n fields header) (scope : List ℕ) (old new : List Bool) (items left : List Item) (result : Result (Unit {0}) SpellError)
    → old ≡ [] → items ≡ fields → Walks WritesField (form_of HEADER_INSIDE n.slice) old items (leaving scope result) new left
    → WritesPart (form_of HEADER_INSIDE n.slice) is.slice.first is.slice.at (items_along (behind_header n.table n.ids n.layout is.slice.at) is.slice.behind) [] scope result new left
first_written n fields header is scope old new items left result none all walk = part_written _ scope result is.slice.begins (all ∙ is.slice.all) (rw none at walk)

pub inside_written : (n : At) (fields header : List Item) (is : IsSliceOf n fields header) (scope : List ℕ) (old new : List Bool) (items left : List Item) (result : Result (Unit {0}) SpellError)
    → scope ≡ is.slice.at → items ≡ header → Walks WritesField (header_inside n.table n.sets scope) old items (leaving scope result) new left
    → WritesPart (header_inside n.table n.sets is.slice.at) is.inside is.slice.at is.others old is.slice.at result new left
inside_written n fields header is scope old new items left result at all walk = part_written is.others is.slice.at result is.slice.goes_on (all ∙ is.given) (rw at at walk)

pub behind_written : (n : At) (fields header : List Item) (is : IsSliceOf n fields header) (at scope : List ℕ) (old new : List Bool) (items left : List Item) (result : Result (Unit {0}) SpellError)
    → at ≡ is.slice.at → items ≡ items_along (behind_header n.table n.ids n.layout is.slice.at) is.slice.behind
    → Walks WritesField (behind_header n.table n.ids n.layout at) old items (leaving scope result) new left
    → WritesPart (behind_header n.table n.ids n.layout is.slice.at) is.slice.behind is.slice.end [] old scope result new left
behind_written n fields header is at scope old new items left result same all walk =
    part_written [] scope result is.slice.ends (all ∙ sym (append-nil (items_along (behind_header n.table n.ids n.layout is.slice.at) is.slice.behind))) (rw same at walk)
