-- A slice header that is sent: rewritten and written in one walk.
use Rattle.std.proofs.Common.{◌≡◌, ℕ, ◌+◌, ◌-◌, ◌%◌, Bool, false, List, [], ◌++◌, length, take, drop, Result, Ok, Err, refl, ap, sym, subst, ◌∙◌}
use Rattle.std.proofs.lemmas.List.{append-nil}
use Rattle.vx_bits.specs.Codes.{bits_of}
use Rattle.vx_bits.specs.declared.list.Item.{Item}
use Rattle.vx_table.specs.declared.writer.SpellError.{SpellError}
use Rattle.vx_table.specs.declared.writer.SpellError.TheVariants as errors
use Rattle.vx_table.specs.Forms.{Form, done, field, form_of}
use Rattle.vx_table.specs.laws.Trailing.{EndsWithStop}
use Rattle.vx_table.specs.Rewritten.{other_items, Sources}
use Rattle.vx_table.specs.Sent.{SendsField}
use Rattle.vx_table.specs.Walks.{Walks, leaving}
use Rattle.vx_table.specs.Values.{bits_along}
use Rattle.vx_table.specs.Writing.{IsWritten}
use Rattle.vx_table.proofs.Joined.{bits_joined, joined}
use Rattle.vx_table.proofs.Sending.{sends_rewritten}
use Rattle.vx_table.proofs.Stopped.{last_byte}
use Rattle.vx_rpl.specs.declared.entry.RplTable.{RplTable}
use Rattle.vx_rpl.specs.HeaderLists.{lists_of}
use Rattle.vx_ph.specs.InForce.{structures}
use Rattle.vx_sh.specs.declared.header.SliceHeader.{SliceHeader}
use Rattle.vx_sh.specs.declared.numbers.SliceNumbers.{SliceNumbers}
use Rattle.vx_sh.specs.declared.shape.ShShape.{ShShape}
use Rattle.vx_sh.specs.declared.tables.TheConstants.{HEADER_INSIDE, STARRED}
use Rattle.vx_sh.specs.InForce.{in_force_at, slice_scope}
use Rattle.vx_sh.specs.Reshaped.{AreReshapedInSliceHeader, GoesAt, IsSent, IsShape, stated_sh_items}
use Rattle.vx_sh.specs.Value.{AreFields, values_of}
use Rattle.vx_sh.specs.Whole.{At, apart_form, behind_header, header_inside, index_of, slice_form}
use Rattle.vx_sh.specs.inner.Sending.{AreScopes, SendsApart}
use Rattle.vx_sh.proofs.Reshaped.{can_be_written, is_reshaped, reshaped_is, starred_ones, starred_values, tells_numbers, written_values}
use Rattle.vx_sh.proofs.Sized.{all_follow}
use Rattle.vx_sh.proofs.Stopped.{slice_ends, whole_bytes}
use Rattle.vx_sh.proofs.Written.{from_all}

-- no values have no bits
no_bits : {A : Type 0} (form : Form A) (place : ℕ) → bits_along form place [] ≡ []
no_bits (done a) place = refl
no_bits (field cell goes) place = refl

-- a slice header inside of which no picture header stands has the bits of one whose picture header stands apart
pub apart_bits : (n : At) (items : List Item) (f : AreFields n items []) → bits_along (apart_form n.table n.ids n.layout n.slice) 0 (f.first ++ f.behind) ≡ bits_along (slice_form n) 0 (values_of f)
unfolding slice_form apart_form
apart_bits n items f =
    let front : Form (List ℕ) = form_of HEADER_INSIDE n.slice in
    let inside = header_inside n.table n.sets in
    let behind = behind_header n.table n.ids n.layout in
    let first : List Bool = bits_along front 0 f.first in
    let same = bits_joined inside 0 [] f.begins ∙ ap (λ x. first ++ x) (no_bits (inside f.at) (0 + length first)) ∙ append-nil first in
    bits_joined behind 0 f.behind f.begins
    ∙ ap (λ x. x ++ bits_along (behind f.at) (0 + length x) f.behind) (sym same)
    ∙ sym (bits_joined behind 0 f.behind (joined inside f.begins f.goes_on))

-- ---- what is sent

-- what the walk of a sender of all items writes
pub sent_apart : (n : SliceNumbers) {sets slice : List ℕ} (are : AreScopes n sets slice) (stated_ones source : List Item) {table : RplTable} {old new : Sources} {before after : List Bool} {shown all : List Item}
    {k m : ℕ} (scope : List ℕ) (result : Result (Unit {0}) SpellError) → table ≡ structures n.sps.now → k ≡ length stated_ones → shown ≡ take (k - 0) (drop 0 stated_ones) → m ≡ length source → all ≡ take (m - 0) (drop 0 source)
    → old ≡ record { names = STARRED; shown = shown; others = other_items STARRED all } → before ≡ [] → Walks SendsField (apart_form table n.ids.now n.layout.now slice) old before (leaving scope result) new after
    → SendsApart (in_force_at n) stated_ones source result after
sent_apart n {slice} are stated_ones source {table} {old} {new} {before} {after} {shown} {all} {k} {m} scope result at_table size first count second whole none walk items is =
    let at = in_force_at n in
    let shown_are : shown ≡ stated_ones = first ∙ from_all k stated_ones size in
    let all_are : all ≡ source = second ∙ from_all m source count in
    let at_slice : slice ≡ at.slice = are.slice_is ∙ ap (λ s. slice_scope n.nal_type n.sps.now n.pps.now n.header.now s) are.sets_are in
    let from : old ≡ record { names = STARRED; shown = stated_ones; others = other_items STARRED source } = whole ∙ rw (shown_are, all_are) refl in
    let one = subst (λ t. Walks SendsField (apart_form t n.ids.now n.layout.now slice) old before (leaving scope result) new after) at_table walk in
    let two = subst (λ s. Walks SendsField (apart_form at.table n.ids.now n.layout.now s) old before (leaving scope result) new after) at_slice one in
    let three = subst (λ xs. Walks SendsField (apart_form at.table at.ids at.layout at.slice) old xs (leaving scope result) new after) none two in
    let four = subst (λ x. Walks SendsField (apart_form at.table at.ids at.layout at.slice) x [] (leaving scope result) new after) from three in
    sends_rewritten (apart_form at.table at.ids at.layout at.slice) (record { names = STARRED; shown = stated_ones; others = other_items STARRED source }) new items after scope result four is

weaker : {B P Q : Type 0} (result : Result B SpellError) → (P → Q) → IsWritten result P → IsWritten result Q
weaker (Ok b) f p = f p
weaker (Err errors.Memory) f p = tt
weaker (Err errors.NoValue) f p = p

-- the bits of a rewritten slice header
pub record Says (source : List Item) (shape : ShShape) (n : SliceNumbers) (bits : List Bool) : Type 0 where
  pub items : List Item
  pub are : AreReshapedInSliceHeader source shape n items
  pub bits_are : bits ≡ bits_along (slice_form (in_force_at n)) 0 (values_of are.fields)

module _ (source : SliceHeader) (shape : ShShape) (n : SliceNumbers) (is : IsShape n shape) (goes : GoesAt source shape.subpic_id n) where
  pub sends : (stated_ones : List Item) (bits : List Bool) (result : Result (Unit {0}) SpellError) → stated_ones ≡ stated_sh_items n shape → SendsApart (in_force_at n) stated_ones source.fields result bits
      → IsWritten result (Says source.fields shape n bits)
  sends stated_ones bits result stated_are make =
      let at = in_force_at n in
      let one = reshaped_is source shape n is goes in
      let made = (rw stated_are at make) one.0 (starred_ones source shape n is goes one.0 one.1) in
      weaker result (λ same. record { items = one.0; are = one.1; bits_are = same ∙ ap (λ w. bits_along (apart_form at.table at.ids at.layout at.slice) 0 w) (starred_values source shape n is goes one.0 one.1) ∙ apart_bits at one.0 one.1.fields }) made

  pub ends : (bits : List Bool) → Says source.fields shape n bits → EndsWithStop 0 bits
  ends bits says =
      let f = says.are.fields in
      subst (EndsWithStop 0) (sym says.bits_are) (slice_ends (in_force_at n) (values_of f) f.end (all_follow (in_force_at n) says.items [] f))

  pub whole : (bits : List Bool) → Says source.fields shape n bits → length bits % 8 ≡ 0
  whole bits says = whole_bytes bits (ends bits says)

  pub is_sent : (bytes : List ℕ) (bits : List Bool) → bits_of bytes ≡ bits → Says source.fields shape n bits → IsSent source shape n bytes
  is_sent bytes bits same says =
      let m = in_force_at n in
      let header : SliceHeader = record { inside = false; fields = says.items; subpic = index_of shape.subpic_id n.ids.now; address = source.address; lists = lists_of m.table m.sets says.items } in
      record {
        header = header;
        reshaped = is_reshaped source shape n is goes header says.are refl refl refl refl;
        told = tells_numbers source shape n is goes header says.are refl refl refl refl;
        spelled = record {
          is = can_be_written source.fields shape n says.items says.are;
          bits = same ∙ says.bits_are ∙ ap (λ w. bits_along (slice_form m) 0 w) (sym (written_values source.fields shape n says.items says.are));
          last = last_byte bytes (subst (EndsWithStop 0) (sym same) (ends bits says));
        };
      }
