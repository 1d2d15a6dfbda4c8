-- How many ids a picture has: one for each subpicture, where its sets agree on them; and how large those of its PPS are.
use Rattle.std.proofs.Common.{◌≡◌, ◌≢◌, inl, inr, ℕ, ℤ, pos, negsuc, zero, suc, ◌+◌, ◌<◌, ◌≤◌, ◌==◌, ◌&&◌, ◌||◌, not, Bool, true, false, List, [], ◌∷◌, ◌++◌, length, map, slice_index, slice_set, refl, ap, sym, subst, ◌∙◌, arith, append_assoc}
use Rattle.std.proofs.Math.Pow.{pow_mono}
use Rattle.std.specs.Prelude.{filter, drop, All, ◌^◌, min}
use Rattle.std.proofs.lemmas.Bool.{and_parts, cases_Bool, eq-eqb, ne_eqb, not-true, eqb-true, true≢false}
use Rattle.std.proofs.lemmas.List.{append-nil, map-append}
use Rattle.std.proofs.lemmas.List.Elements.{All-append, All-cons, All-head, All-nil, All-tail, filter-append}
use Rattle.std.proofs.lemmas.List.FromFn.{length-map-range_with_len}
use Rattle.std.proofs.Math.Path.{fun_ext}
use Rattle.std.proofs.lemmas.List.{get_or-set_other, get_or-set_same, length-set, length-replicate}
use Rattle.vx_bits.specs.declared.list.Item.{Item}
use Rattle.vx_table.specs.declared.rows.Coding.TheVariants.{Fixed, Golomb}
use Rattle.vx_table.specs.declared.rows.Formula.TheVariants.{Equal, Plus}
use Rattle.vx_table.specs.declared.rows.Limits.TheVariants.{Any}
use Rattle.vx_table.specs.declared.rows.Term.TheVariants.{Latest, Number}
use Rattle.vx_table.specs.Spelling.{HasCode}
use Rattle.vx_fields.specs.declared.sps.TheConstants as sps_fields
use Rattle.vx_fields.specs.declared.pps.TheConstants as pps
use Rattle.vx_fields.specs.declared.names.pps.TheConstants.{SUBPIC}
use Rattle.vx_table.specs.declared.rows.Cell.{Cell}
use Rattle.vx_table.specs.declared.rows.Formula.{Formula}
use Rattle.vx_table.specs.declared.rows.Row.{Row}
use Rattle.vx_table.specs.declared.rows.Row.TheVariants.{Field, Block, Name}
use Rattle.vx_table.specs.EachField.{EachField, sections_pass}
use Rattle.vx_table.specs.Forms.{Form, done, field, ◌>>=◌, has_value, form_of, part, one_field, after, coding_at, limits_at, present, turns}
use Rattle.vx_table.specs.Loaded.{number}
use Rattle.vx_table.specs.Parts.{Section, always, sections_form}
use Rattle.vx_table.specs.Scope.{capped, fresh, is_set, natural, value}
use Rattle.vx_table.specs.Spelling.{item_of, items_along}
use Rattle.vx_table.specs.Values.{Follows, to_end, through}
use Rattle.vx_table.proofs.EachField.{each_of_rows, each_of_sections}
use Rattle.vx_table.proofs.Groups.{cut}
use Rattle.vx_table.proofs.Joined.{items_joined}
use Rattle.vx_table.proofs.Loading.{number_of_last, number_of_none}
use Rattle.vx_table.specs.Claims.{hides_counter, hides_row}
use Rattle.vx_table.proofs.Rewrites.{leaves_agree, sections_leave, sections_together}
use Rattle.vx_sps.specs.Subpictures.{sps_subpic_id_of, subpics_of}
use Rattle.vx_pps.specs.declared.partition.Partition.{Partition}
use Rattle.vx_pps.specs.declared.tables.TheConstants as tables
use Rattle.vx_table.specs.Loaded.{numbers_of}
use Rattle.vx_pps.specs.Pps.{ArePpsItems, before_tiles, partition_at, after_slices}
use Rattle.vx_pps.proofs.Cutting.{Parts, cut_parts, each_weaker}
use Rattle.vx_pps.proofs.Division.{IsDividing, each_division}
use Rattle.vx_pic.specs.PictureLayout.{are_in_pps, ids_of, ids_misplaced, ids_unlike, ids_too_short, needs_ids, same_flag}

-- ---- items of other fields

abbrev pub Lacks : ℕ → List Item → Type 0
Lacks of items = All (λ (item : Item). (item.field == of) ≡ false) items

one_lacks : (of : ℕ) (cell : Cell ℕ) (v : ℤ) (b : Bool) → has_value cell.coding ≡ b → (cell.field == of) ≡ false → Lacks of (item_of cell v)
unfolding item_of
one_lacks of cell v true is other = rw is (All-cons (λ (item : Item). (item.field == of) ≡ false) (record { field = cell.field; value = v }) [] other (All-nil (λ (item : Item). (item.field == of) ≡ false)))
one_lacks of cell v false is other = rw is (All-nil (λ (item : Item). (item.field == of) ≡ false))

pub items_lack : {A : Type 0} (of : ℕ) {f : Form A} {w : List ℤ} {a : A} → EachField (λ cell. (cell.field == of) ≡ false) f → Follows f w a → Lacks of (items_along f w)
items_lack of each to_end = All-nil (λ (item : Item). (item.field == of) ≡ false)
items_lack of each (through {cell} {goes} {v} {w} is more) =
    All-append (λ (item : Item). (item.field == of) ≡ false) (item_of cell v) (items_along (goes v) w) (one_lacks of cell v (has_value cell.coding) refl each.0) (items_lack of (each.1 v) more)

unfoldable pub other_row : ℕ → Row → Bool
other_row of (Field c) = not (c.field == of)
other_row of (Block presence n) = true
other_row of (Name name formula) = true

pub other_sound : (of : ℕ) (c : Cell Formula) (s : List ℕ) → other_row of (Field c) ≡ true → (c.field == of) ≡ false
unfolding other_row
other_sound of c s is = not-true (c.field == of) is

pub sections_lack : (of : ℕ) (sections : List Section) (s : List ℕ) {w : List ℤ} {e : List ℕ} → sections_pass (other_row of) sections ≡ true → Follows (sections_form sections s) w e
    → Lacks of (items_along (sections_form sections s) w)
sections_lack of sections s test follows = items_lack of (each_of_sections (λ cell. (cell.field == of) ≡ false) (other_row of) (other_sound of) sections s test) follows

pub numbers_joined : (of : ℕ) (xs ys : List Item) → numbers_of (xs ++ ys) of ≡ numbers_of xs of ++ numbers_of ys of
numbers_joined of xs ys =
    ap (map (λ (item : Item). natural item.value)) (filter-append (λ (item : Item). item.field == of) xs ys)
    ∙ map-append (λ (item : Item). natural item.value) (filter (λ (item : Item). item.field == of) xs) (filter (λ (item : Item). item.field == of) ys)

pub numbers_none : (of : ℕ) (items : List Item) → Lacks of items → numbers_of items of ≡ []
numbers_none of [] lacks = refl
numbers_none of (item ∷ items) lacks =
    let here : (item.field == of) ≡ false = All-head (λ (x : Item). (x.field == of) ≡ false) item items lacks in
    let rest = numbers_none of items (All-tail (λ (x : Item). (x.field == of) ≡ false) item items lacks) in
    rw here rest

-- ---- ids of so many bits

-- numbers of so many bits
abbrev pub Low : ℕ → List ℕ → Type 0
Low bits numbers = All (λ n. n < 2 ^ bits) numbers

id_low : (len : ℕ) (v : ℤ) → HasCode (Fixed (min (capped (len + 1)) 32)) v → natural v < 2 ^ (len + 1)
unfolding HasCode natural
id_low len (pos n) code =
    let fewer : min (capped (len + 1)) 32 ≤ len + 1 = omega arith in
    let most : 2 ^ min (capped (len + 1)) 32 ≤ 2 ^ (len + 1) = pow_mono fewer in
    omega (arith, code, most)
id_low len (negsuc n) code = absurd code

-- the row of an id, whose bits another field gives, less 1
abbrev pub id_row : ℕ → ℕ → Row
id_row of len = Field (record { field = of; kept = false; coding = Fixed (Plus (Latest len) (Number 1)); limits = Any })

pub low_turns : (of len counter turn times : ℕ) (s : List ℕ) {w : List ℤ} {e : List ℕ} → len ≢ of → len ≢ counter → Follows (turns (form_of (id_row of len ∷ [])) counter turn times s) w e
    → Low (slice_index s len + 1) (numbers_of (items_along (turns (form_of (id_row of len ∷ [])) counter turn times s) w) of)
unfolding turns form_of part one_field after has_value coding_at limits_at item_of value
low_turns of len counter turn zero s not_of not_counter to_end = All-nil (λ (n : ℕ). n < 2 ^ (slice_index s len + 1))
low_turns of len counter turn (suc times) s not_of not_counter (through {v} {w} is more) =
    let r : List ℕ = slice_set s counter turn in
    let t : List ℕ = slice_set r of (natural v) in
    let before : slice_index r len ≡ slice_index s len = get_or-set_other s counter len turn 0 not_counter in
    let behind : slice_index t len ≡ slice_index s len = get_or-set_other r of len (natural v) 0 not_of ∙ before in
    let here : natural v < 2 ^ (slice_index s len + 1) = subst (λ n. natural v < 2 ^ (n + 1)) before (id_low (slice_index r len) v is.code) in
    let rest = low_turns of len counter (turn + 1) times t not_of not_counter more in
    rw (eq-eqb of of refl) (All-cons (λ (n : ℕ). n < 2 ^ (slice_index s len + 1)) (natural v) _ here (rw behind at rest))

-- The bits of ids, less 1, and items of which the ids have so many bits.
pub record LengthAndLow (of len : ℕ) (items : List Item) : Type 0 where
  pub length_of : ℤ
  pub ids : List Item
  pub low : Low (natural length_of + 1) (numbers_of ids of)
  pub no_length : Lacks len ids
  pub all : items ≡ record { field = len; value = length_of } ∷ ids

-- ---- the table of ids

abbrev flag_of_ids : ℕ
flag_of_ids = pps.pps_subpic_id_mapping_present_flag

abbrev count_of_ids : ℕ
count_of_ids = pps.pps_num_subpics_minus1

-- so many ids
record AreIds (n : ℕ) (items : List Item) : Type 0 where
  many : length (numbers_of items pps.pps_subpic_id) ≡ n
  no_flag : Lacks flag_of_ids items
  no_count : Lacks count_of_ids items

no_more_ids : AreIds 0 []
no_more_ids = record { many = refl; no_flag = All-nil (λ (x : Item). (x.field == flag_of_ids) ≡ false); no_count = All-nil (λ (x : Item). (x.field == count_of_ids) ≡ false) }

one_more_id : (n : ℕ) (v : ℤ) (items : List Item) → AreIds n items → AreIds (suc n) (record { field = pps.pps_subpic_id; value = v } ∷ items)
one_more_id n v items are = record {
  many = omega (arith, are.many);
  no_flag = All-cons (λ (x : Item). (x.field == flag_of_ids) ≡ false) _ items refl are.no_flag;
  no_count = All-cons (λ (x : Item). (x.field == count_of_ids) ≡ false) _ items refl are.no_count;
}

turns_of_ids : (turn times : ℕ) (s : List ℕ) {w : List ℤ} {e : List ℕ} → Follows (turns (form_of (drop 8 tables.SUBPIC_IDS)) SUBPIC turn times s) w e
    → AreIds times (items_along (turns (form_of (drop 8 tables.SUBPIC_IDS)) SUBPIC turn times s) w)
unfolding turns form_of part one_field after has_value coding_at limits_at item_of
turns_of_ids turn zero s to_end = no_more_ids
turns_of_ids turn (suc times) s (through {v} {w} is more) = one_more_id times v _ (turns_of_ids (turn + 1) times _ more)

pub at_end_nothing : {s : List ℕ} {w : List ℤ} {e : List ℕ} → Follows (done s) w e → w ≡ []
at_end_nothing to_end = refl

-- nothing follows
pub bind_nothing : (f : Form (List ℕ)) (next : List ℕ → Form (List ℕ)) → ((s : List ℕ) → next s ≡ done s) → (f >>= next) ≡ f
bind_nothing (done s) next ends = ends s
bind_nothing (field cell goes) next ends = ap (λ g. field cell g) (fun_ext (λ v. bind_nothing (goes v) next ends))

-- the rows of ids, behind their length
abbrev id_rows : List Row
id_rows = drop 7 tables.SUBPIC_IDS

abbrev id_turns : List ℕ → Form (List ℕ)
id_turns s = turns (form_of (drop 8 tables.SUBPIC_IDS)) SUBPIC 0 (capped (slice_index s count_of_ids + 1)) s

id_rows_are : (s : List ℕ) → form_of id_rows s ≡ id_turns s
unfolding form_of part present value
id_rows_are s = bind_nothing (id_turns s) (part 1 0 (drop 8 tables.SUBPIC_IDS)) (λ t. refl)

ids_behind : (s : List ℕ) {w : List ℤ} {e : List ℕ} → Follows (form_of id_rows s) w e → AreIds (capped (slice_index s count_of_ids + 1)) (items_along (form_of id_rows s) w)
ids_behind s follows = rw (id_rows_are s) (turns_of_ids 0 (capped (slice_index s count_of_ids + 1)) s (rw (id_rows_are s) at follows))

abbrev item : ℕ → ℤ → Item
item of v = record { field = of; value = v }

abbrev length_of_ids : ℕ
length_of_ids = pps.pps_subpic_id_len_minus1

low_ids : (s : List ℕ) {w : List ℤ} {e : List ℕ} → Follows (form_of id_rows s) w e → Low (slice_index s length_of_ids + 1) (numbers_of (items_along (form_of id_rows s) w) pps.pps_subpic_id)
low_ids s follows =
    rw (id_rows_are s) (low_turns pps.pps_subpic_id length_of_ids SUBPIC 0 (capped (slice_index s count_of_ids + 1)) s (omega arith) (omega arith) (rw (id_rows_are s) at follows))

no_length_behind : (s : List ℕ) {w : List ℤ} {e : List ℕ} → Follows (form_of id_rows s) w e → Lacks length_of_ids (items_along (form_of id_rows s) w)
unfolding other_row
no_length_behind s follows = items_lack length_of_ids (each_of_rows (λ cell. (cell.field == length_of_ids) ≡ false) (other_row length_of_ids) (other_sound length_of_ids) id_rows s refl) follows

-- a length, and so many ids
record LengthAndIds (n : ℕ) (items : List Item) : Type 0 where
  low : LengthAndLow pps.pps_subpic_id length_of_ids items
  are : AreIds n low.ids

length_and_ids : (s : List ℕ) {w : List ℤ} {e : List ℕ} → length s ≡ 1024 → Follows (form_of (drop 6 tables.SUBPIC_IDS) s) w e
    → LengthAndIds (capped (slice_index s count_of_ids + 1)) (items_along (form_of (drop 6 tables.SUBPIC_IDS) s) w)
unfolding form_of part one_field after has_value coding_at limits_at item_of
length_and_ids s size (through {v} {w} is more) =
    let t : List ℕ = slice_set s pps.pps_subpic_id_len_minus1 (natural v) in
    let other : slice_index t count_of_ids ≡ slice_index s count_of_ids = get_or-set_other s pps.pps_subpic_id_len_minus1 count_of_ids (natural v) 0 (omega arith) in
    let are : AreIds (capped (slice_index t count_of_ids + 1)) (items_along (form_of id_rows t) w) = ids_behind t more in
    let told : slice_index t length_of_ids ≡ natural v = get_or-set_same s length_of_ids (natural v) 0 (omega (arith, size)) in
    record {
      low = record { length_of = v; ids = items_along (form_of id_rows t) w; low = rw told at (low_ids t more); no_length = no_length_behind t more; all = refl };
      are = rw other at are;
    }

-- the count, where it is spelled, before them
data CountAndIds : List Item → Type 0 where
  one_id : {items : List Item} → LengthAndIds 1 items → CountAndIds items
  counted_ids : (n : ℤ) (items : List Item) → LengthAndIds (natural n + 1) items → CountAndIds (item count_of_ids n ∷ items)

count_few : (n : ℤ) → HasCode Golomb n → capped (natural n + 1) ≡ natural n + 1
unfolding HasCode natural
count_few (pos n) code = omega (arith, code)
count_few (negsuc n) code = absurd code

spelled_count : (s : List ℕ) {w : List ℤ} {e : List ℕ} → length s ≡ 1024 → Follows (form_of (drop 5 tables.SUBPIC_IDS) s) w e → CountAndIds (items_along (form_of (drop 5 tables.SUBPIC_IDS) s) w)
unfolding form_of part one_field after has_value coding_at limits_at item_of
spelled_count s size (through {v} {w} is more) =
    let t : List ℕ = slice_set s count_of_ids (natural v) in
    let told : slice_index t count_of_ids ≡ natural v = get_or-set_same s count_of_ids (natural v) 0 (omega (arith, size)) in
    let many : capped (slice_index t count_of_ids + 1) ≡ natural v + 1 = ap (λ n. capped (n + 1)) told ∙ count_few v is.code in
    counted_ids v (items_along (form_of (drop 6 tables.SUBPIC_IDS) t) w) (rw many at (length_and_ids t (length-set s count_of_ids (natural v) ∙ size) more))

count_and_ids : (s : List ℕ) (b : Bool) {w : List ℤ} {e : List ℕ} → length s ≡ 1024 → slice_index s count_of_ids ≡ 0 → (value s (Equal (Latest pps.pps_no_pic_partition_flag) (Number 0)) == 0) ≡ b
    → Follows (form_of (drop 4 tables.SUBPIC_IDS) s) w e → CountAndIds (items_along (form_of (drop 4 tables.SUBPIC_IDS) s) w)
unfolding form_of part one_field after has_value coding_at limits_at item_of present
count_and_ids s true {w} {e} size zero_count is follows =
    let more : Follows (form_of (drop 6 tables.SUBPIC_IDS) s) w e = rw is at follows in
    rw is (one_id (rw zero_count at (length_and_ids s size more)))
count_and_ids s false {w} size zero_count is follows = rw is (spelled_count s size (rw is at follows))

-- what the table's items are
data HasIds : List Item → Type 0 where
  no_ids : (v u : ℤ) → natural u ≡ 0 → HasIds (item pps.pps_no_pic_partition_flag v ∷ item flag_of_ids u ∷ [])
  with_ids : (v u : ℤ) (items : List Item) → CountAndIds items → HasIds (item pps.pps_no_pic_partition_flag v ∷ item flag_of_ids u ∷ items)

-- behind both flags
behind_flags : (v u : ℤ) (s : List ℕ) (b : Bool) {w : List ℤ} {e : List ℕ} → length s ≡ 1024 → slice_index s flag_of_ids ≡ natural u → (slice_index s flag_of_ids == 0) ≡ b
    → Follows (form_of (drop 2 tables.SUBPIC_IDS) s) w e → HasIds (item pps.pps_no_pic_partition_flag v ∷ item flag_of_ids u ∷ items_along (form_of (drop 2 tables.SUBPIC_IDS) s) w)
unfolding form_of part present value
behind_flags v u s true {w} {e} size same is follows =
    let ends : form_of (drop 2 tables.SUBPIC_IDS) s ≡ done s = rw is refl in
    let none : w ≡ [] = at_end_nothing (subst (λ f. Follows f w e) ends follows) in
    rw (none, ends) (no_ids v u (sym same ∙ eqb-true (slice_index s flag_of_ids) 0 is))
behind_flags v u s false {w} {e} size same is follows =
    let t : List ℕ = slice_set s count_of_ids 0 in
    let form : form_of (drop 2 tables.SUBPIC_IDS) s ≡ form_of (drop 4 tables.SUBPIC_IDS) t = rw is (bind_nothing (form_of (drop 4 tables.SUBPIC_IDS) t) (part 6 0 (drop 3 tables.SUBPIC_IDS)) (λ r. refl)) in
    let zero_count : slice_index t count_of_ids ≡ 0 = get_or-set_same s count_of_ids 0 0 (omega (arith, size)) in
    rw form (with_ids v u _ (count_and_ids t _ (length-set s count_of_ids 0 ∙ size) zero_count refl (subst (λ f. Follows f w e) form follows)))

table_ids : (s : List ℕ) {w : List ℤ} {e : List ℕ} → length s ≡ 1024 → Follows (form_of tables.SUBPIC_IDS s) w e → HasIds (items_along (form_of tables.SUBPIC_IDS s) w)
unfolding form_of part one_field after has_value coding_at limits_at item_of
table_ids s size (through {v} first (through {v = u} second more)) =
    let r : List ℕ = slice_set s pps.pps_no_pic_partition_flag (natural v) in
    let t : List ℕ = slice_set r flag_of_ids (natural u) in
    let long : length r ≡ 1024 = length-set s pps.pps_no_pic_partition_flag (natural v) ∙ size in
    behind_flags v u t _ (length-set r flag_of_ids (natural u) ∙ long) (get_or-set_same r flag_of_ids (natural u) 0 (omega (arith, long))) refl more

-- ---- among the other items

-- a field's number where its item stands behind two parts
number_between : (of : ℕ) (v : ℤ) (a front behind : List Item) → of < 1024 → Lacks of behind → number (a ++ (front ++ item of v ∷ behind)) of ≡ natural v
number_between of v a front behind small lacks =
    ap (λ xs. number xs of) (sym (append_assoc a front (item of v ∷ behind))) ∙ number_of_last of v (a ++ front) behind small lacks

pub lacks_more : (of : ℕ) (x : Item) (items : List Item) → (x.field == of) ≡ false → Lacks of items → Lacks of (x ∷ items)
lacks_more of x items other lacks = All-cons (λ (y : Item). (y.field == of) ≡ false) x items other lacks

pub lacks_both : (of : ℕ) (a b : List Item) → Lacks of a → Lacks of b → Lacks of (a ++ b)
lacks_both of a b one two = All-append (λ (y : Item). (y.field == of) ≡ false) a b one two

-- so many ids stand behind their length
many_ids : (n : ℕ) (items b : List Item) → LengthAndIds n items → Lacks pps.pps_subpic_id b → length (numbers_of (items ++ b) pps.pps_subpic_id) ≡ n
many_ids n items b told none =
    let here : numbers_of items pps.pps_subpic_id ≡ numbers_of told.low.ids pps.pps_subpic_id = ap (λ xs. numbers_of xs pps.pps_subpic_id) told.low.all in
    let all : numbers_of (items ++ b) pps.pps_subpic_id ≡ numbers_of told.low.ids pps.pps_subpic_id
    = numbers_joined pps.pps_subpic_id items b ∙ ap (λ xs. numbers_of items pps.pps_subpic_id ++ xs) (numbers_none pps.pps_subpic_id b none) ∙ append-nil (numbers_of items pps.pps_subpic_id) ∙ here in
    ap length all ∙ told.are.many

no_flag_in : (n : ℕ) (items : List Item) → LengthAndIds n items → Lacks flag_of_ids items
no_flag_in n items told = rw told.low.all (lacks_more flag_of_ids _ told.low.ids refl told.are.no_flag)

no_count_in : (n : ℕ) (items : List Item) → LengthAndIds n items → Lacks count_of_ids items
no_count_in n items told = rw told.low.all (lacks_more count_of_ids _ told.low.ids refl told.are.no_count)

pub front_none : (a rest : List Item) → Lacks pps.pps_subpic_id a → numbers_of (a ++ rest) pps.pps_subpic_id ≡ numbers_of rest pps.pps_subpic_id
front_none a rest none = numbers_joined pps.pps_subpic_id a rest ∙ ap (λ xs. xs ++ numbers_of rest pps.pps_subpic_id) (numbers_none pps.pps_subpic_id a none)

ids_told : (a b t : List Item) → HasIds t → Lacks count_of_ids a → Lacks pps.pps_subpic_id a → Lacks flag_of_ids b → Lacks count_of_ids b → Lacks pps.pps_subpic_id b
    → is_set (number (a ++ (t ++ b)) flag_of_ids) ≡ true → length (numbers_of (a ++ (t ++ b)) pps.pps_subpic_id) ≡ number (a ++ (t ++ b)) count_of_ids + 1
ids_told a b t (no_ids v u none) count_a id_a flag_b count_b id_b flagged =
    let told : number (a ++ (item pps.pps_no_pic_partition_flag v ∷ item flag_of_ids u ∷ b)) flag_of_ids ≡ 0
    = number_between flag_of_ids u a (item pps.pps_no_pic_partition_flag v ∷ []) b (omega arith) flag_b ∙ none in
    absurd (true≢false (sym flagged ∙ ap is_set told))
ids_told a b t (with_ids v u items (one_id told)) count_a id_a flag_b count_b id_b flagged =
    let rest : List Item = item pps.pps_no_pic_partition_flag v ∷ item flag_of_ids u ∷ (items ++ b) in
    let behind : Lacks count_of_ids rest = lacks_more count_of_ids (item pps.pps_no_pic_partition_flag v) (item flag_of_ids u ∷ (items ++ b)) refl (lacks_more count_of_ids (item flag_of_ids u) (items ++ b) refl (lacks_both count_of_ids items b (no_count_in 1 items told) count_b)) in
    let none : number (a ++ rest) count_of_ids ≡ 0 = number_of_none count_of_ids (a ++ rest) (lacks_both count_of_ids a rest count_a behind) in
    ap length (front_none a rest id_a) ∙ many_ids 1 items b told id_b ∙ ap (λ n. n + 1) (sym none)
ids_told a b t (with_ids v u items (counted_ids n more told)) count_a id_a flag_b count_b id_b flagged =
    let rest : List Item = item pps.pps_no_pic_partition_flag v ∷ item flag_of_ids u ∷ item count_of_ids n ∷ (more ++ b) in
    let count : number (a ++ rest) count_of_ids ≡ natural n
    = number_between count_of_ids n a (item pps.pps_no_pic_partition_flag v ∷ item flag_of_ids u ∷ []) (more ++ b) (omega arith)
    (lacks_both count_of_ids more b (no_count_in (natural n + 1) more told) count_b) in
    ap length (front_none a rest id_a) ∙ many_ids (natural n + 1) more b told id_b ∙ ap (λ k. k + 1) (sym count)

-- items none of which has the field of ids
abbrev no_id_among : List Item → Bool
no_id_among [] = true
no_id_among (x ∷ items) = not (x.field == pps.pps_subpic_id) && no_id_among items

other_fields : (items : List Item) → no_id_among items ≡ true → Lacks pps.pps_subpic_id items
other_fields [] none = All-nil (λ (x : Item). (x.field == pps.pps_subpic_id) ≡ false)
other_fields (x ∷ items) none =
    let parts = and_parts (not (x.field == pps.pps_subpic_id)) (no_id_among items) none in
    lacks_more pps.pps_subpic_id x items (not-true (x.field == pps.pps_subpic_id) parts.0) (other_fields items parts.1)

-- ids behind their length, among other items
pub low_told : (of len : ℕ) (a items b : List Item) → len < 1024 → (len == of) ≡ false → LengthAndLow of len items → Lacks of a → Lacks of b → Lacks len b
    → Low (number (a ++ (items ++ b)) len + 1) (numbers_of (a ++ (items ++ b)) of)
low_told of len a items b small apart told none_a none_b no_length =
    let rest : List Item = told.ids ++ b in
    let count : number (a ++ (item len told.length_of ∷ rest)) len ≡ natural told.length_of = number_of_last len told.length_of a rest small (lacks_both len told.ids b told.no_length no_length) in
    let here : numbers_of (item len told.length_of ∷ rest) of ≡ numbers_of rest of = rw apart refl in
    let all : numbers_of (a ++ (item len told.length_of ∷ rest)) of ≡ numbers_of told.ids of
    = numbers_joined of a (item len told.length_of ∷ rest) ∙ ap (λ xs. xs ++ numbers_of (item len told.length_of ∷ rest) of) (numbers_none of a none_a) ∙ here
    ∙ numbers_joined of told.ids b ∙ ap (λ xs. numbers_of told.ids of ++ xs) (numbers_none of b none_b) ∙ append-nil (numbers_of told.ids of) in
    rw (told.all, count, all) told.low

-- those of the table
low_of_table : (a b t : List Item) → HasIds t → Lacks pps.pps_subpic_id a → Lacks flag_of_ids b → Lacks length_of_ids b → Lacks pps.pps_subpic_id b
    → is_set (number (a ++ (t ++ b)) flag_of_ids) ≡ true → Low (number (a ++ (t ++ b)) length_of_ids + 1) (numbers_of (a ++ (t ++ b)) pps.pps_subpic_id)
low_of_table a b t (no_ids v u none) id_a flag_b length_b id_b flagged =
    let told : number (a ++ (item pps.pps_no_pic_partition_flag v ∷ item flag_of_ids u ∷ b)) flag_of_ids ≡ 0
    = number_between flag_of_ids u a (item pps.pps_no_pic_partition_flag v ∷ []) b (omega arith) flag_b ∙ none in
    absurd (true≢false (sym flagged ∙ ap is_set told))
low_of_table a b t (with_ids v u items (one_id told)) id_a flag_b length_b id_b flagged =
    let flags : List Item = item pps.pps_no_pic_partition_flag v ∷ item flag_of_ids u ∷ [] in
    rw (← (append_assoc a flags (items ++ b)))
    (low_told pps.pps_subpic_id length_of_ids (a ++ flags) items b (omega arith) refl told.low (lacks_both pps.pps_subpic_id a flags id_a (other_fields flags refl)) id_b length_b)
low_of_table a b t (with_ids v u items (counted_ids n more told)) id_a flag_b length_b id_b flagged =
    let flags : List Item = item pps.pps_no_pic_partition_flag v ∷ item flag_of_ids u ∷ item count_of_ids n ∷ [] in
    rw (← (append_assoc a flags (more ++ b)))
    (low_told pps.pps_subpic_id length_of_ids (a ++ flags) more b (omega arith) refl told.low (lacks_both pps.pps_subpic_id a flags id_a (other_fields flags refl)) id_b length_b)

-- ---- a whole PPS

abbrev before_ids : List Section
before_ids = always tables.IDS ∷ always tables.NAL_TYPES ∷ always tables.SIZE ∷ always tables.OUTPUT ∷ []

pub fresh_size : length fresh ≡ 1024
unfolding fresh
fresh_size = length-replicate {A = ℕ} 1024 0

record FrontParts (items : List Item) : Type 0 where
  s : List ℕ
  values : List ℤ
  mid : List ℕ
  size : length mid ≡ 1024
  first : Follows (sections_form before_ids fresh) values mid
  table : List ℤ
  end : List ℕ
  second : Follows (form_of tables.SUBPIC_IDS mid) table end
  all : items ≡ items_along (sections_form before_ids fresh) values ++ items_along (form_of tables.SUBPIC_IDS mid) table

last_section : (s : List ℕ) → sections_form (always tables.SUBPIC_IDS ∷ []) s ≡ form_of tables.SUBPIC_IDS s
unfolding sections_form present value
last_section s = bind_nothing (form_of tables.SUBPIC_IDS s) (λ t. done t) (λ t. refl)

front_parts : (items : List Item) (values : List ℤ) (end : List ℕ) → Follows (sections_form before_tiles fresh) values end → items_along (sections_form before_tiles fresh) values ≡ items → FrontParts items
unfolding fresh hides_row hides_counter
front_parts items values end follows given =
    let p = cut before_ids (always tables.SUBPIC_IDS ∷ []) fresh follows in
    let size = (leaves_agree fresh (sections_form before_ids) fresh p.front p.mid (sections_leave fresh before_ids refl) p.first).size in
    let joined : items_along (sections_form before_ids fresh >>= sections_form (always tables.SUBPIC_IDS ∷ [])) (p.front ++ p.others)
    ≡ items_along (sections_form before_ids fresh) p.front ++ items_along (sections_form (always tables.SUBPIC_IDS ∷ []) p.mid) p.others = items_joined (sections_form (always tables.SUBPIC_IDS ∷ [])) p.others p.first in
    record {
      s = fresh;
      values = p.front;
      mid = p.mid;
      size = sym size ∙ fresh_size;
      first = p.first;
      table = p.others;
      end = end;
      second = subst (λ f. Follows f p.others end) (last_section p.mid) p.second;
      all = sym given ∙ ap (λ w. items_along (sections_form before_tiles fresh) w) p.all
          ∙ ap (λ f. items_along f (p.front ++ p.others)) (sections_together before_ids (always tables.SUBPIC_IDS ∷ []) fresh)
          ∙ joined ∙ ap (λ f. items_along (sections_form before_ids fresh) p.front ++ items_along f p.others) (last_section p.mid);
    }

-- what stands behind has none of the fields
divided_lacks : (of : ℕ) (s : List ℕ) {w : List ℤ} {end : Partition} → of < 417 → Follows (partition_at s) w end → Lacks of (items_along (partition_at s) w)
divided_lacks of s below follows =
    items_lack of (each_weaker IsDividing (λ cell. (cell.field == of) ≡ false) (partition_at s) (λ cell is. let high = is.0 in ne_eqb cell.field of (λ same. omega (arith, high, same, below))) (each_division _ _ _)) follows

behind_lacks : (of : ℕ) (items : List Item) (end : Partition) (p : Parts items end) → of < 417 → sections_pass (other_row of) after_slices ≡ true → Lacks of (p.division ++ p.tool_items)
behind_lacks of items end p below test =
    lacks_both of p.division p.tool_items (subst (λ xs. Lacks of xs) p.second.given (divided_lacks of p.scope below p.second.follows))
    (subst (λ xs. Lacks of xs) p.third.given (sections_lack of after_slices p.scope test p.third.follows))

ids_of_pps : (items : List Item) → ArePpsItems items → is_set (number items flag_of_ids) ≡ true → length (numbers_of items pps.pps_subpic_id) ≡ number items count_of_ids + 1
unfolding other_row
ids_of_pps items set flagged =
    let p = cut_parts items set.end set.set in
    let f = front_parts p.front_items p.first.values p.scope p.first.follows p.first.given in
    let a : List Item = items_along (sections_form before_ids fresh) f.values in
    let t : List Item = items_along (form_of tables.SUBPIC_IDS f.mid) f.table in
    let b : List Item = p.division ++ p.tool_items in
    let all : items ≡ a ++ (t ++ b) = p.all ∙ ap (λ xs. xs ++ b) f.all ∙ append_assoc a t b in
    let flag : is_set (number (a ++ (t ++ b)) flag_of_ids) ≡ true = subst (λ xs. is_set (number xs flag_of_ids) ≡ true) all flagged in
    rw all (ids_told a b t (table_ids f.mid f.size f.second) (sections_lack count_of_ids before_ids fresh refl f.first) (sections_lack pps.pps_subpic_id before_ids fresh refl f.first)
    (behind_lacks flag_of_ids items set.end p (omega arith) refl) (behind_lacks count_of_ids items set.end p (omega arith) refl) (behind_lacks pps.pps_subpic_id items set.end p (omega arith) refl) flag)

low_ids_of_pps : (items : List Item) → ArePpsItems items → is_set (number items flag_of_ids) ≡ true → Low (number items length_of_ids + 1) (numbers_of items pps.pps_subpic_id)
unfolding other_row
low_ids_of_pps items set flagged =
    let p = cut_parts items set.end set.set in
    let f = front_parts p.front_items p.first.values p.scope p.first.follows p.first.given in
    let a : List Item = items_along (sections_form before_ids fresh) f.values in
    let t : List Item = items_along (form_of tables.SUBPIC_IDS f.mid) f.table in
    let b : List Item = p.division ++ p.tool_items in
    let all : items ≡ a ++ (t ++ b) = p.all ∙ ap (λ xs. xs ++ b) f.all ∙ append_assoc a t b in
    let flag : is_set (number (a ++ (t ++ b)) flag_of_ids) ≡ true = subst (λ xs. is_set (number xs flag_of_ids) ≡ true) all flagged in
    rw all (low_of_table a b t (table_ids f.mid f.size f.second) (sections_lack pps.pps_subpic_id before_ids fresh refl f.first)
    (behind_lacks flag_of_ids items set.end p (omega arith) refl) (behind_lacks length_of_ids items set.end p (omega arith) refl) (behind_lacks pps.pps_subpic_id items set.end p (omega arith) refl) flag)

-- ---- both sets

pub or_false : (a b : Bool) → (a || b) ≡ false → (a ≡ false) × (b ≡ false)
or_false true b e = absurd (true≢false e)
or_false false b e = (refl, e)

pub and_set : (a b : Bool) → a ≡ true → (a && b) ≡ false → b ≡ false
and_set true b is e = e
and_set false b is e = absurd (true≢false (sym is))

both_true : (a b : Bool) → (a && b) ≡ true → b ≡ true
both_true true b e = e
both_true false b e = absurd (true≢false (sym e))

pub not_false : (b : Bool) → not b ≡ false → b ≡ true
not_false true e = refl
not_false false e = absurd (true≢false e)

pub ids_count : (s p : List Item) → ArePpsItems p → ids_misplaced s p ≡ false → length (ids_of s p) ≡ subpics_of s
unfolding ids_of ids_misplaced
ids_count s p set agree = elim (cases_Bool (are_in_pps s p)) [
  | inl here ↦
      let flagged : is_set (number p flag_of_ids) ≡ true = both_true (is_set (number s sps_fields.sps_subpic_id_mapping_explicitly_signalled_flag)) (is_set (number p flag_of_ids)) here in
      let others = or_false (not (same_flag (is_set (number p flag_of_ids)) (needs_ids s))) ((is_set (number p flag_of_ids) && ids_unlike s p) || ids_too_short s) agree in
      let alike = or_false (is_set (number p flag_of_ids) && ids_unlike s p) (ids_too_short s) others.1 in
      let same = or_false (not (number p count_of_ids == number s sps_fields.sps_num_subpics_minus1)) (not (number p pps.pps_subpic_id_len_minus1 == number s sps_fields.sps_subpic_id_len_minus1))
      (and_set (is_set (number p flag_of_ids)) (ids_unlike s p) flagged alike.0) in
      let count = eqb-true (number p count_of_ids) (number s sps_fields.sps_num_subpics_minus1) (not_false (number p count_of_ids == number s sps_fields.sps_num_subpics_minus1) same.0) in
      rw here (ids_of_pps p set flagged ∙ ap (λ n. n + 1) count)
  | inr none ↦ rw none (length-map-range_with_len (sps_subpic_id_of s) 0 (subpics_of s))
]

-- ids that stand in the PPS have as many bits as the SPS says
pub ids_low_in_pps : (s p : List Item) → ArePpsItems p → ids_misplaced s p ≡ false → are_in_pps s p ≡ true → Low (number s sps_fields.sps_subpic_id_len_minus1 + 1) (ids_of s p)
unfolding ids_of ids_misplaced
ids_low_in_pps s p set agree here =
    let flagged : is_set (number p flag_of_ids) ≡ true = both_true (is_set (number s sps_fields.sps_subpic_id_mapping_explicitly_signalled_flag)) (is_set (number p flag_of_ids)) here in
    let others = or_false (not (same_flag (is_set (number p flag_of_ids)) (needs_ids s))) ((is_set (number p flag_of_ids) && ids_unlike s p) || ids_too_short s) agree in
    let alike = or_false (is_set (number p flag_of_ids) && ids_unlike s p) (ids_too_short s) others.1 in
    let same = or_false (not (number p count_of_ids == number s sps_fields.sps_num_subpics_minus1)) (not (number p length_of_ids == number s sps_fields.sps_subpic_id_len_minus1))
    (and_set (is_set (number p flag_of_ids)) (ids_unlike s p) flagged alike.0) in
    let bits = eqb-true (number p length_of_ids) (number s sps_fields.sps_subpic_id_len_minus1) (not_false (number p length_of_ids == number s sps_fields.sps_subpic_id_len_minus1) same.1) in
    rw here (rw bits at (low_ids_of_pps p set flagged))
