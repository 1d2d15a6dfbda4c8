-- What was read of a slice header can be written.
use Rattle.std.proofs.Common.{◌≡◌, ℕ, ℤ, ◌*◌, Bool, true, false, ◌==◌, List, [], length, drop, slice_index, refl, ap, sym, subst, ◌∙◌}
use Rattle.std.specs.Int.RustNames.{unsigned_abs}
use Rattle.std.proofs.lemmas.Bool.{not-true, not-false}
use Rattle.std.proofs.lemmas.List.{append-nil, drop_at}
use Rattle.vx_bits.specs.declared.list.Item.{Item}
use Rattle.vx_bits.specs.Codes.{fixed, bits_of}
use Rattle.vx_bits.proofs.Bits.{length-fixed}
use Rattle.vx_table.specs.Scope.{fresh, value}
use Rattle.vx_table.specs.Forms.{Form, done, ◌>>=◌, coding_at, limits_at, after, has_value, one_field, part, present, form_of}
use Rattle.vx_table.specs.Spelling.{Spells, at_end, behind, code_of, items_along}
use Rattle.vx_table.specs.Values.{Follows, to_end}
use Rattle.vx_table.proofs.Apart.{reads_one_way}
use Rattle.vx_table.proofs.Joined.{parted, joined, items_joined, spells_parted}
use Rattle.vx_table.proofs.Rewrites.{left_end}
use Rattle.vx_fields.specs.declared.sh.TheConstants.{sh_picture_header_in_slice_header_flag}
use Rattle.vx_rpl.specs.declared.entry.RplTable.{RplTable}
use Rattle.vx_ph.specs.Header.{header_form}
use Rattle.vx_sh.specs.declared.tables.TheConstants.{HEADER_INSIDE}
use Rattle.vx_sh.specs.declared.header.SliceHeader.{SliceHeader}
use Rattle.vx_sh.specs.Whole.{At, behind_header, header_inside, slice_form}
use Rattle.vx_sh.specs.Value.{AreFields, BeginsSlice, IsSliceOf, ReadCanBeWritten}
use Rattle.vx_sh.proofs.Told.{behind_leaves_inside}

abbrev flag : List ℕ → ℕ
flag s = slice_index s sh_picture_header_in_slice_header_flag

-- the flag behind it is the one at the end
same_flag : (n : At) (fields : List Item) (inside : List ℤ) (f : AreFields n fields inside) → flag f.at ≡ flag f.end
unfolding fresh
same_flag n fields inside f = (left_end ((behind_leaves_inside n.table n.ids n.layout).at f.at) f.ends).same sh_picture_header_in_slice_header_flag refl

pub nothing_inside : (table : RplTable) (sets s : List ℕ) → (flag s == 0) ≡ true → header_inside table sets s ≡ done s
unfolding present value
nothing_inside table sets s none = rw none refl

pub something_inside : (table : RplTable) (sets s : List ℕ) → (flag s == 0) ≡ false → header_inside table sets s ≡ (header_form table sets >>= λ t. done s)
unfolding present value
something_inside table sets s some = rw some refl

pub no_values : {A : Type 0} {a b : A} {w : List ℤ} → Follows (done a) w b → w ≡ []
no_values to_end = refl

-- the bits behind the first
behind_first : (s : List ℕ) (total : ℕ) (values : List ℤ) (left mid : List Bool) (end : List ℕ) → Follows (form_of HEADER_INSIDE s) values end → Spells total (form_of HEADER_INSIDE s) values left mid
    → drop 1 left ≡ mid
unfolding form_of part one_field coding_at limits_at after has_value code_of fixed value
behind_first s total values left mid end follows (behind {v} begins at_end) =
    ap (drop 1) begins.code.bits ∙ drop_at (fixed 1 (unsigned_abs v)) mid 1 (length-fixed 1 (unsigned_abs v))

respell : {f g : Form (List ℕ)} {v w : List ℤ} {total : ℕ} {left rest : List Bool} → f ≡ g → v ≡ w → Spells total f v left rest → Spells total g w left rest
respell {g} {v} {total} {left} {rest} forms values spelled = subst (λ x. Spells total g x left rest) values (subst (λ h. Spells total h v left rest) forms spelled)

from_left : {f : Form (List ℕ)} {v : List ℤ} {total : ℕ} {left other rest : List Bool} → left ≡ other → Spells total f v left rest → Spells total f v other rest
from_left {f} {v} {total} {rest = rest} same spelled = subst (λ x. Spells total f v x rest) same spelled

apart_is : (n : At) (rbsp : List ℕ) (header : SliceHeader) (size : ℕ) → BeginsSlice n rbsp header size → header.inside ≡ false → (others : List Item) → IsSliceOf n header.fields others
apart_is n rbsp header size read none others =
    let f = read.fields in
    let at_none : (flag f.at == 0) ≡ true = ap (λ k. k == 0) (same_flag n header.fields read.inside f) ∙ not-false (flag f.end == 0) (sym read.numbers.inside ∙ none) in
    let form = nothing_inside n.table n.sets f.at at_none in
    let values : read.inside ≡ [] = no_values (rw form at f.goes_on) in
    record { inside = read.inside; slice = f; others = others; given = rw (values, form) refl }

inside_is : (n : At) (rbsp : List ℕ) (header : SliceHeader) (size : ℕ) → BeginsSlice n rbsp header size → header.inside ≡ true → (values : List ℤ) (rest : List Bool)
    → Spells (8 * length rbsp) (header_form n.table n.sets) values (drop 1 (bits_of rbsp)) rest → IsSliceOf n header.fields (items_along (header_form n.table n.sets) values)
unfolding slice_form
inside_is n rbsp header size read is values rest spelled =
    let f = read.fields in
    let inside = header_inside n.table n.sets in
    let total = 8 * length rbsp in
    let at_some : (flag f.at == 0) ≡ false = ap (λ k. k == 0) (same_flag n header.fields read.inside f) ∙ not-true (flag f.end == 0) (sym read.numbers.inside ∙ is) in
    let form = something_inside n.table n.sets f.at at_some in
    let whole = spells_parted (behind_header n.table n.ids n.layout) (joined inside f.begins f.goes_on) read.spelled in
    let first = spells_parted inside f.begins whole.1 in
    let mid : drop 1 (bits_of rbsp) ≡ first.0 = behind_first n.slice total f.first (bits_of rbsp) first.0 f.at f.begins first.1 in
    let parts = parted (header_form n.table n.sets) (λ t. done f.at) (rw form at f.goes_on) in
    let front : (between : List Bool) × Spells total (header_form n.table n.sets) parts.front first.0 between × Spells total (done f.at) parts.others between whole.0
    = spells_parted (λ t. done f.at) parts.first (respell form parts.all first.2) in
    let same = reads_one_way (header_form n.table n.sets) total values parts.front (drop 1 (bits_of rbsp)) rest front.0 spelled (from_left (sym mid) front.1) in
    let items : items_along (inside f.at) read.inside ≡ items_along (header_form n.table n.sets) values
    = ap (λ g. items_along g read.inside) form ∙ ap (λ w. items_along (header_form n.table n.sets >>= λ t. done f.at) w) parts.all ∙ items_joined (λ t. done f.at) parts.others parts.first
    ∙ append-nil (items_along (header_form n.table n.sets) parts.front) ∙ ap (λ w. items_along (header_form n.table n.sets) w) (sym same.0) in
    record { inside = read.inside; slice = f; others = []; given = sym (append-nil (items_along (inside f.at) read.inside) ∙ items) }

pub read_can_be_written : ReadCanBeWritten
read_can_be_written n rbsp header size read = record { apart = apart_is n rbsp header size read; inside = inside_is n rbsp header size read }
