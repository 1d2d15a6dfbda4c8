-- Anything may follow a slice header; and what is written of it is read again.
use Rattle.std.proofs.Common.{◌≡◌, ℕ, ℤ, ◌+◌, ◌*◌, Bool, List, [], ◌∷◌, ◌++◌, length, refl, ap, sym, subst, ◌∙◌, arith}
use Rattle.std.proofs.lemmas.List.{append-nil, length-append, take_at}
use Rattle.vx_bits.specs.declared.list.Item.{Item}
use Rattle.vx_bits.specs.Codes.{bits_of, EndsInNoZero}
use Rattle.vx_table.specs.Scope.{is_set}
use Rattle.vx_bits.proofs.Bits.{length-bits_of, bits_of-append}
use Rattle.vx_table.specs.declared.rows.Term.TheVariants.{Latest}
use Rattle.vx_table.specs.declared.rows.Formula.TheVariants.{Plain}
use Rattle.vx_table.specs.declared.rows.Presence.TheVariants.{When}
use Rattle.vx_table.specs.Forms.{Form, done, field, ◌>>=◌, form_of}
use Rattle.vx_table.specs.Spelling.{Spells, code_of, items_along}
use Rattle.vx_table.specs.Values.{Follows, to_end, through, bits_along, Closes}
use Rattle.vx_table.specs.EachField.{EachField}
use Rattle.vx_table.specs.laws.Trailing.{is_trailing}
use Rattle.vx_table.proofs.Apart.{reads_one_way}
use Rattle.vx_table.proofs.EachField.{each_then, each_present, each_of_rows}
use Rattle.vx_table.proofs.Joined.{joined}
use Rattle.vx_table.proofs.Spelled.{reads_back}
use Rattle.vx_fields.specs.declared.sh.TheConstants.{sh_picture_header_in_slice_header_flag, sh_slice_address, sh_subpic_id}
use Rattle.vx_table.specs.Loaded.{number}
use Rattle.vx_rpl.specs.HeaderLists.{lists_of}
use Rattle.vx_rpl.specs.declared.entry.RplTable.{RplTable}
use Rattle.vx_ph.specs.Header.{header_form}
use Rattle.vx_ph.proofs.Opening.{Opens, header_opens, row_is_open, row_opens}
use Rattle.vx_sh.specs.declared.tables.TheConstants.{HEADER_INSIDE}
use Rattle.vx_sh.specs.Whole.{At, behind_header, header_inside, index_of, slice_form}
use Rattle.vx_sh.specs.declared.header.SliceHeader.{SliceHeader}
use Rattle.vx_sh.specs.InForce.{in_force_at}
use Rattle.vx_sh.specs.Reshaped.{ReshapedIsReadAgain}
use Rattle.vx_sh.specs.Value.{AreFields, values_of, BeginsSlice, IsSliceHeaderSpelling, NoProperPrefix, SpellingIsRead, SpellingBegins, TellsNumbers}
use Rattle.vx_sh.proofs.Depending.{Pass, behind_each}
use Rattle.vx_sh.proofs.Sized.{all_follow}
use Rattle.vx_sh.proofs.Told.{numbers_are_told}
use Rattle.vx_sh.proofs.Scopes.{slice_scopes_are_whole}

-- ---- anything may follow

closes : {A : Type 0} (form : Form A) (place : ℕ) (values : List ℤ) (rest : List Bool) → EachField Opens form → Closes form place values rest
closes (done a) place values rest is = tt
closes (field cell goes) place [] rest is = tt
closes (field cell goes) place (v ∷ w) rest is =
    (is.0 (bits_along (goes v) (place + length (code_of cell.coding place v)) w ++ rest), closes (goes v) (place + length (code_of cell.coding place v)) w rest (is.1 v))

inside_opens : (table : RplTable) (sets s : List ℕ) → EachField Opens (header_inside table sets s)
inside_opens table sets s =
    each_present Opens (When (Plain (Latest sh_picture_header_in_slice_header_flag))) (λ t. header_form table sets >>= λ u. done t) s
    (λ t. each_then Opens (header_form table sets) (λ u. done t)
    (header_opens table sets) (λ u. tt))

slice_opens : (n : At) → EachField Opens (slice_form n)
unfolding row_opens is_trailing slice_form
slice_opens n =
    let behind : Pass row_opens = record { id = refl; known = refl; address = refl; before_lists = refl; lists = refl; between = refl; weights = refl; behind_weights = refl } in
    each_then Opens (form_of HEADER_INSIDE n.slice >>= header_inside n.table n.sets) (behind_header n.table n.ids n.layout)
    (each_then Opens (form_of HEADER_INSIDE n.slice) (header_inside n.table n.sets) (each_of_rows Opens row_opens row_is_open HEADER_INSIDE n.slice refl) (inside_opens n.table n.sets))
    (λ t. behind_each Opens row_opens row_is_open n.table n.ids n.layout t behind)

-- ---- read again

-- the bytes begin the slice header, whatever payload follows
spelled_again : (n : At) (fields header : List Item) (bytes payload : List ℕ) (is : IsSliceHeaderSpelling n fields header bytes)
    → Spells (8 * length (bytes ++ payload)) (slice_form n) (values_of is.is.slice) (bits_of (bytes ++ payload)) (bits_of payload)
spelled_again n fields header bytes payload is =
    let f = is.is.slice in
    let values = values_of f in
    let bits = bits_along (slice_form n) 0 values in
    let all : bits ++ bits_of payload ≡ bits_of (bytes ++ payload) = ap (λ x. x ++ bits_of payload) (sym is.bits) ∙ sym (bits_of-append bytes payload) in
    let total : 0 + length (bits ++ bits_of payload) ≡ 8 * length (bytes ++ payload) = omega (arith, ap length all, length-bits_of (bytes ++ payload)) in
    rw (← total, ← all) (reads_back (slice_form n) 0 values f.end (bits_of payload) (all_follow n fields is.is.inside f) (closes (slice_form n) 0 values (bits_of payload) (slice_opens n)))

-- values of one form in front of others, in two ways, are the same
fronts_apart : {A : Type 0} {f : Form A} {v w x y : List ℤ} {a b : A} → Follows f v a → Follows f w b → v ++ x ≡ w ++ y → (v ≡ w) × (x ≡ y) × (a ≡ b)
fronts_apart to_end to_end same = (refl, same, refl)
fronts_apart {f = field cell goes} {x} {y} {b} (through {v} {w} value more) (through {v = u} {w = z} other others) same =
    let first : v ≡ u = cc in
    let behind : w ++ x ≡ z ++ y = cc in
    let rest = fronts_apart more (subst (λ k. Follows (goes k) z b) (sym first) others) behind in
    (rw (first, rest.0) refl, rest.1, rest.2)

same_fields : (n : At) (fields others : List Item) (inside within : List ℤ) (f : AreFields n fields inside) (g : AreFields n others within) → values_of f ≡ values_of g → fields ≡ others
same_fields n fields others inside within f g same =
    let one = fronts_apart (joined (header_inside n.table n.sets) f.begins f.goes_on) (joined (header_inside n.table n.sets) g.begins g.goes_on) same in
    let two = fronts_apart f.begins g.begins one.0 in
    f.all ∙ ap (λ v. items_along (form_of HEADER_INSIDE n.slice) v ++ items_along (behind_header n.table n.ids n.layout f.at) f.behind) two.0
    ∙ ap (λ w. items_along (form_of HEADER_INSIDE n.slice) g.first ++ items_along (behind_header n.table n.ids n.layout f.at) w) one.1
    ∙ ap (λ s. items_along (form_of HEADER_INSIDE n.slice) g.first ++ items_along (behind_header n.table n.ids n.layout s) g.behind) two.2 ∙ sym g.all

pub spelling_is_read : SpellingIsRead
spelling_is_read n fields header bytes payload read size is begins =
    let one = reads_one_way (slice_form n) (8 * length (bytes ++ payload)) (values_of begins.fields) (values_of is.is.slice) (bits_of (bytes ++ payload)) begins.rest (bits_of payload) begins.spelled (spelled_again n fields header bytes payload is) in (
      same_fields n read.fields fields begins.inside is.is.inside begins.fields is.is.slice one.0,
      omega (arith, begins.size, ap length one.1, length-bits_of payload, length-append bytes payload),
    )

-- ---- written in front of a payload

pub spelling_begins : SpellingBegins
spelling_begins n header others bytes payload size tells is =
    let f = is.is.slice in
    let told = numbers_are_told n header.fields is.is.inside f size in
    record {
      inside = is.is.inside;
      fields = f;
      rest = bits_of payload;
      spelled = spelled_again n header.fields others bytes payload is;
      numbers = record {
        inside = tells.inside ∙ ap is_set (sym told.inside);
        subpic = tells.subpic ∙ sym told.subpic;
        address = tells.address ∙ sym told.address;
        lists = tells.lists;
      };
      size = omega (arith, length-append bytes payload, length-bits_of payload);
      last = subst EndsInNoZero (sym (take_at bytes payload (length bytes) refl)) is.last;
    }

-- ---- no spelling is a proper prefix of another's

none_left : (bytes : List ℕ) → length (bits_of bytes) ≡ 0 → bytes ≡ []
none_left [] none = refl
none_left (b ∷ bytes) none = absurd (omega (arith, none, length-bits_of (b ∷ bytes)))

pub no_proper_prefix : NoProperPrefix
no_proper_prefix n fields others header other bytes more is of =
    let whole = spelled_again n others other (bytes ++ more) [] of in
    let one = reads_one_way (slice_form n) (8 * length (bytes ++ more)) (values_of is.is.slice) (values_of of.is.slice) (bits_of (bytes ++ more)) (bits_of more) []
    (spelled_again n fields header bytes more is) (rw (append-nil (bytes ++ more)) at whole) in
    (same_fields n fields others is.is.inside of.is.inside is.is.slice of.is.slice one.0, none_left more (ap length one.1))

-- ---- a rewritten slice header

-- slice headers with the same parts are the same
same_header : (a b : SliceHeader) → a.inside ≡ b.inside → a.fields ≡ b.fields → a.subpic ≡ b.subpic → a.address ≡ b.address → a.lists ≡ b.lists → a ≡ b
same_header a b inside fields subpic address lists = rw (inside, fields, subpic, address, lists) refl

-- what is read of the spelling of a header whose numbers its items tell is that header
read_as_written : (n : At) (written read : SliceHeader) (others : List Item) (bytes payload : List ℕ) (size : ℕ) → length n.slice ≡ 1024
    → TellsNumbers n written → IsSliceHeaderSpelling n written.fields others bytes → BeginsSlice n (bytes ++ payload) read size
    → (read ≡ written) × (size ≡ length bytes)
read_as_written n written read others bytes payload size whole tells is begins =
    let one = spelling_is_read n written.fields others bytes payload read size is begins in
    let told = numbers_are_told n read.fields begins.inside begins.fields whole in
    let has = begins.numbers in (
      same_header read written (has.inside ∙ ap is_set (told.inside ∙ ap (λ f. number f sh_picture_header_in_slice_header_flag) one.0) ∙ sym tells.inside) one.0
          (has.subpic ∙ told.subpic ∙ ap (λ f. index_of (number f sh_subpic_id) n.ids) one.0 ∙ sym tells.subpic)
          (has.address ∙ told.address ∙ ap (λ f. number f sh_slice_address) one.0 ∙ sym tells.address)
          (has.lists ∙ ap (lists_of n.table n.sets) one.0 ∙ sym tells.lists),
      one.1,
    )

pub reshaped_is_read_again : ReshapedIsReadAgain
reshaped_is_read_again source written shape n bytes payload reshaped tells is =
    let whole = slice_scopes_are_whole n.nal_type n.sps.now n.pps.now n.header.now in
    record {
      begins = spelling_begins (in_force_at n) written n.header.now.fields bytes payload whole tells is;
      only = λ read size begins. read_as_written (in_force_at n) written read n.header.now.fields bytes payload size whole tells is begins;
      kept = reshaped.fields.kept;
    }
