-- What is read of the first bytes of a slice's unit is read of the unit.
use Rattle.std.proofs.Common.{◌≡◌, ℕ, ℤ, zero, suc, ◌+◌, ◌-◌, ◌%◌, ◌^◌, ◌<◌, ◌≤◌, inl, inr, min, Bool, true, false, List, [], ◌∷◌, ◌++◌, length, take, drop, slice_index, refl, sym, ap, subst, ◌∙◌, arith, Ok, Err}
use Rattle.std.specs.Prelude.{Result, None, ok_or, not, nat_le}
use Rattle.std.proofs.lemmas.Bool.{cases_eq, cases_lt, not-true, false_from_ne_true}
use Rattle.std.proofs.lemmas.List.{append-nil, append_assoc, length-append, length-drop, length-take-le, take-append-drop, take-append-le, drop-append-le, take_all}
use Rattle.vx_bits.specs.declared.list.Item.{Item}
use Rattle.vx_bits.specs.declared.refusal.Refusal.{Refusal}
use Rattle.vx_bits.specs.Codes.{bits_of}
use Rattle.vx_bits.specs.Place.{Place}
use Rattle.vx_bits.proofs.Bits.{length-bits_of, bits_of-append}
use Rattle.vx_annexb.specs.NalUnit.{HasHeader, header_of}
use Rattle.vx_annexb.specs.Places.{IsFirstFrom}
use Rattle.vx_annexb.specs.ByteStream.{IsSound}
use Rattle.vx_annexb.specs.Emulation.{is_emulation, BreaksRule, unescaped_to, unescaped}
use Rattle.vx_annexb.proofs.Places.{index_on, mark_on}
use Rattle.vx_annexb.proofs.EmulationBytes.{emulation_is, same_emulation, same_unescaped}
use Rattle.vx_table.specs.declared.rows.Term.TheVariants.{Latest}
use Rattle.vx_table.specs.declared.rows.Formula.{Formula}
use Rattle.vx_table.specs.declared.rows.Formula.TheVariants.{Plain}
use Rattle.vx_table.specs.declared.rows.Coding.{Coding}
use Rattle.vx_table.specs.declared.rows.Coding.TheVariants.{Fixed, Golomb, SignedGolomb, Zeros, OneAndZeros, Trailing, Absent, Refused as NotThere}
use Rattle.vx_table.specs.declared.rows.Cell.{Cell}
use Rattle.vx_table.specs.declared.rows.Presence.TheVariants.{When}
use Rattle.vx_table.specs.declared.rows.Row.{Row}
use Rattle.vx_table.specs.declared.rows.Row.TheVariants.{Field, Block, Name}
use Rattle.vx_table.specs.Scope.{fresh}
use Rattle.vx_table.specs.Forms.{Form, done, ◌>>=◌, coding_at, cell_at, form_of}
use Rattle.vx_table.specs.Spelling.{MayEnd, BeginsField, Spells, at_end, behind, code_of}
use Rattle.vx_table.specs.Loaded.{number}
use Rattle.vx_table.specs.Reading.{at_front}
use Rattle.vx_table.specs.laws.Trailing.{is_trailing}
use Rattle.vx_table.proofs.Closing.{IsNoTrailing, IsOpen}
use Rattle.vx_table.proofs.EachField.{each_then, each_present, each_of_rows, each_of_sections}
use Rattle.vx_fields.specs.declared.ph.TheConstants.{ph_pic_parameter_set_id}
use Rattle.vx_fields.specs.declared.sh.TheConstants.{sh_picture_header_in_slice_header_flag}
use Rattle.vx_rpl.specs.declared.entry.RplTable.{RplTable}
use Rattle.vx_ph.specs.Header.{header_form}
use Rattle.vx_ph.specs.Id.{pps_id_form, to_id}
use Rattle.vx_ph.specs.InForce.{in_force, structures}
use Rattle.vx_ph.proofs.Passing.{header_each}
use Rattle.vx_sh.specs.declared.tables.TheConstants.{HEADER_INSIDE}
use Rattle.vx_sh.specs.Whole.{At, behind_header, header_inside, slice_form}
use Rattle.vx_sh.specs.declared.header.SliceHeader.{SliceHeader as SliceValue}
use Rattle.vx_sh.specs.Value.{BeginsSlice, values_of}
use Rattle.vx_sh.proofs.Depending.{Pass, behind_each}
use Rattle.vx_pic.specs.Answers.{refuse_if}
use Rattle.vx_bits.specs.declared.rules.TheConstants as rules
use Rattle.vx_pic.specs.declared.sets.TheConstants as sets
use Rattle.vx_pic.specs.Sets.{SliceHeader, referred_sps, same_size}
use Rattle.vx_pic.specs.Readings.{Begun, Reading, stored_pps, stored_sps}
use Rattle.vx_pic.specs.Rules.{Readers, begins, missing, structure}
use Rattle.vx_pic.specs.Units.{rbsp_of, temporal_id, has_header_inside}
use Rattle.vx_pic.specs.UnderSets.{at_slice_of}
use Rattle.vx_pic.specs.H266.{AnswersAt, header_place, IsReferredPps, IsSlice, IsSliceAnswer, AreOfH266}
use Rattle.vx_pic.proofs.Determined.{one_at, one_slice}
use Rattle.vx_assemble.specs.inner.Fronts.{IsFront}
use Rattle.vx_assemble.proofs.Steps.{bind_on}

-- ---- forms without a trailing

row_opens : Row → Bool
row_opens (Field c) = not (is_trailing c.coding)
row_opens (Block presence n) = true
row_opens (Name name formula) = true

same_kind : (s : List ℕ) (coding : Coding Formula) → is_trailing coding ≡ false → is_trailing (coding_at s coding) ≡ false
unfolding is_trailing coding_at
same_kind s (Fixed width) none = refl
same_kind s Golomb none = refl
same_kind s SignedGolomb none = refl
same_kind s Zeros none = refl
same_kind s OneAndZeros none = refl
same_kind s Trailing none = none
same_kind s Absent none = refl
same_kind s NotThere none = refl

sound : (c : Cell Formula) (s : List ℕ) → row_opens (Field c) ≡ true → IsNoTrailing (cell_at s c)
unfolding row_opens
sound c s is = same_kind s c.coding (not-true (is_trailing c.coding) is)

header_opens : (table : RplTable) (sets : List ℕ) → IsOpen (header_form table sets)
unfolding row_opens is_trailing
header_opens table sets =
    header_each IsNoTrailing row_opens sound table sets (record { front = refl; lists = refl; middle = refl; weights = refl; back = refl })

id_opens : IsOpen pps_id_form
unfolding row_opens is_trailing pps_id_form
id_opens = each_of_sections IsNoTrailing row_opens sound to_id fresh refl

pub slice_opens : (n : At) → IsOpen (slice_form n)
unfolding row_opens is_trailing slice_form
slice_opens n =
    let pass : Pass row_opens = record { id = refl; known = refl; address = refl; before_lists = refl; lists = refl; between = refl; weights = refl; behind_weights = refl } in
    each_then IsNoTrailing (form_of HEADER_INSIDE n.slice >>= header_inside n.table n.sets) (behind_header n.table n.ids n.layout)
    (each_then IsNoTrailing (form_of HEADER_INSIDE n.slice) (header_inside n.table n.sets) (each_of_rows IsNoTrailing row_opens sound HEADER_INSIDE n.slice refl)
    (λ t. each_present IsNoTrailing (When (Plain (Latest sh_picture_header_in_slice_header_flag))) (λ u. header_form n.table n.sets >>= λ v. done u) t
    (λ u. each_then IsNoTrailing (header_form n.table n.sets) (λ v. done u) (header_opens n.table n.sets) (λ v. tt))))
    (λ t. behind_each IsNoTrailing row_opens sound n.table n.ids n.layout t pass)

-- ---- more bits behind what is spelled

may_end : (coding : Coding ℕ) (rest : List Bool) → is_trailing coding ≡ false → MayEnd coding rest
unfolding MayEnd is_trailing
may_end (Fixed n) rest none = tt
may_end Golomb rest none = tt
may_end SignedGolomb rest none = tt
may_end Zeros rest none = tt
may_end OneAndZeros rest none = tt
may_end Trailing rest none = absurd (cc)
may_end Absent rest none = tt
may_end NotThere rest none = tt

field_longer : (cell : Cell ℕ) (total : ℕ) (v : ℤ) (left mid more : List Bool) → IsNoTrailing cell → length left ≤ total → BeginsField cell total v left mid
    → BeginsField cell (total + length more) v (left ++ more) (mid ++ more)
field_longer cell total v left mid more is within begins =
    let place : (total + length more) - length (left ++ more) ≡ total - length left = omega (arith, within, length-append left more) in
    record {
      code = record {
        value = begins.code.value;
        bits = rw place (ap (λ x. x ++ more) begins.code.bits ∙ append_assoc (code_of cell.coding (total - length left) v) mid more);
        end = may_end cell.coding (mid ++ more) is;
      };
      range = begins.range;
    }

spells_longer : {A : Type 0} (total : ℕ) (more : List Bool) {form : Form A} {v : List ℤ} {left rest : List Bool} → IsOpen form → length left ≤ total
    → Spells total form v left rest → Spells (total + length more) form v (left ++ more) (rest ++ more)
spells_longer total more is within at_end = at_end
spells_longer total more {left} is within (behind {cell} {v} {mid} first on) =
    let short : length mid ≤ total = omega (arith, within, ap length first.code.bits, length-append (code_of cell.coding (total - length left) v) mid) in
    behind (field_longer cell total v left mid more is.0 within first) (spells_longer total more (is.1 v) short on)

-- ---- at a longer place

-- the second place has more bits behind those of the first
pub record IsLonger (p q : Place) : Type 0 where
  pub more : List Bool
  pub within : length p.left ≤ p.total
  pub total : q.total ≡ p.total + length more
  pub left : q.left ≡ p.left ++ more

pub spelled_on : {A : Type 0} (form : Form A) (p q : Place) (values : List ℤ) (rest : List Bool) (longer : IsLonger p q) → IsOpen form
    → Spells p.total form values p.left rest → Spells q.total form values q.left (rest ++ longer.more)
spelled_on form p q values rest longer is spelled = rw (longer.total, longer.left) (spells_longer p.total longer.more is longer.within spelled)

answers_on : {A : Type 0} (form : Form A) (p q : Place) (answer : Result (List Item) Refusal) (items : List Item) → IsLonger p q → IsOpen form
    → AnswersAt form p (Ok items) → AnswersAt form q answer → answer ≡ Ok items
answers_on form p q answer items longer is here there = one_at form q answer (Ok items) there (record {
  values = here.values;
  rest = here.rest ++ longer.more;
  spelled = spelled_on form p q here.values here.rest longer is here.spelled;
  all = here.all;
})

-- behind the first bit of bytes of which there are some
longer_inside : (rbsp more : List ℕ) → 0 < length rbsp → IsLonger (header_place true rbsp) (header_place true (rbsp ++ more))
longer_inside rbsp more some =
    let size = length-bits_of rbsp in
    record {
      more = bits_of more;
      within = omega (arith, size, length-drop 1 (bits_of rbsp));
      total = omega (arith, length-append rbsp more, length-bits_of more);
      left = ap (λ x. drop 1 x) (bits_of-append rbsp more) ∙ drop-append-le 1 (bits_of rbsp) (bits_of more) (omega (arith, size, some));
    }

pub longer_front : (rbsp more : List ℕ) → IsLonger (at_front rbsp) (at_front (rbsp ++ more))
longer_front rbsp more = record {
  more = bits_of more;
  within = omega (arith, length-bits_of rbsp);
  total = omega (arith, length-append rbsp more, length-bits_of more);
  left = bits_of-append rbsp more;
}

-- ---- headers

id_answers : (answer : Result ℕ Refusal) (rbsp more : List ℕ) (id : ℕ) → 0 < length rbsp → IsReferredPps true rbsp (Ok id)
    → IsReferredPps true (rbsp ++ more) answer → answer ≡ Ok id
id_answers (Ok other) rbsp more id some here there =
    let same = answers_on pps_id_form (header_place true rbsp) (header_place true (rbsp ++ more)) (Ok there.0) here.0 (longer_inside rbsp more some) id_opens here.1 there.1 in
    let items : there.0 ≡ here.0 = cc in
    ap Ok (there.2 ∙ ap (λ xs. number xs ph_pic_parameter_set_id) items ∙ sym here.2)
id_answers (Err r) rbsp more id some here there =
    let none = answers_on pps_id_form (header_place true rbsp) (header_place true (rbsp ++ more)) (Err r) here.0 (longer_inside rbsp more some) id_opens here.1 there in
    absurd (cc)

id_on : (R : Readers) (rbsp more : List ℕ) (id : ℕ) → AreOfH266 R → 0 < length rbsp → R.referred_pps true rbsp ≡ Ok id → R.referred_pps true (rbsp ++ more) ≡ Ok id
id_on R rbsp more id are some read =
    let here : IsReferredPps true rbsp (Ok id) = subst (λ x. IsReferredPps true rbsp x) read (are.referred_pps true rbsp) in
    id_answers (R.referred_pps true (rbsp ++ more)) rbsp more id some here (are.referred_pps true (rbsp ++ more))

header_on : (R : Readers) (sps pps : List Item) (rbsp more : List ℕ) (items : List Item) → AreOfH266 R → 0 < length rbsp → R.header true sps pps rbsp ≡ Ok items
    → R.header true sps pps (rbsp ++ more) ≡ Ok items
header_on R sps pps rbsp more items are some read =
    let form = header_form (structures sps) (in_force sps pps) in
    let here : AnswersAt form (header_place true rbsp) (Ok items) = subst (λ x. AnswersAt form (header_place true rbsp) x) read (are.header true sps pps rbsp) in
    answers_on form (header_place true rbsp) (header_place true (rbsp ++ more)) (R.header true sps pps (rbsp ++ more)) items (longer_inside rbsp more some)
    (header_opens (structures sps) (in_force sps pps)) here (are.header true sps pps (rbsp ++ more))

-- ---- units

-- more bytes are taken behind those that were
one_more : (n taken m : List ℕ) (j : ℕ) (b : Bool) → unescaped_to n j ≡ taken ++ m → is_emulation n j ≡ b
    → (l : List ℕ) × (unescaped_to n (suc j) ≡ taken ++ l)
one_more n taken m j true before is = (m, rw is before)
one_more n taken m j false before is =
    (m ++ slice_index n j ∷ [], rw is (ap (λ l. l ++ slice_index n j ∷ []) before ∙ append_assoc taken m (slice_index n j ∷ [])))

taken_behind : (n : List ℕ) (k j : ℕ) → k ≤ j → (m : List ℕ) × (unescaped_to n j ≡ unescaped_to n k ++ m)
taken_behind n k zero upto = let first : k ≡ 0 = omega (arith, upto) in rw first ([], refl)
taken_behind n k (suc j) upto = elim (cases_eq k (suc j)) [
  | inl same ↦ rw same ([], sym (append-nil (unescaped_to n (suc j))))
  | inr other ↦ let before = taken_behind n k j (omega (arith, upto, other)) in one_more n (unescaped_to n k) before.0 j (is_emulation n j) before.1 refl
]

-- the header's second byte isn't 0, so the first three bytes are taken
three_taken : (n : List ℕ) → HasHeader n → length (unescaped_to n 3) ≡ 3
three_taken n h =
    let low : 1 ≤ slice_index n 1 % 8 = h.temporal in
    let plain : is_emulation n 2 ≡ false = false_from_ne_true (is_emulation n 2) (λ e. let zero_byte : slice_index n 1 ≡ 0 = (emulation_is n 2 e).second in omega (arith, low, zero_byte)) in
    rw plain refl

-- the RBSP of three bytes at least is a front of that of more
pub record IsRbspFront (f u : List ℕ) : Type 0 where
  pub more : List ℕ
  pub all : rbsp_of u ≡ rbsp_of f ++ more
  pub some : 0 < length (rbsp_of f)

pub rbsp_front : (f more : List ℕ) → HasHeader f → 3 ≤ length f → IsRbspFront f (f ++ more)
unfolding rbsp_of
rbsp_front f more h long =
    let three = taken_behind f 3 (length f) long in
    let some : 3 ≤ length (unescaped f) = omega (arith, ap length three.1, length-append (unescaped_to f 3) three.0, three_taken f h) in
    let rest = taken_behind (f ++ more) (length f) (length (f ++ more)) (omega (arith, length-append f more)) in
    let here : unescaped_to (f ++ more) (length f) ≡ unescaped f = same_unescaped (f ++ more) f (length f) (λ i lt. index_on f more i lt) in
    record {
      more = rest.0;
      all = ap (λ x. drop 2 x) (rest.1 ∙ ap (λ x. x ++ rest.0) here) ∙ drop-append-le 2 (unescaped f) rest.0 (omega (arith, some));
      some = omega (arith, some, length-drop 2 (unescaped f));
    }

same_tid : (f more : List ℕ) → 2 ≤ length f → temporal_id (f ++ more) ≡ temporal_id f
same_tid f more long = rw (index_on f more 1 (omega (arith, long))) refl

-- ---- slices

begins_on : (n : At) (rbsp more : List ℕ) (value : SliceValue) (size : ℕ) → BeginsSlice n rbsp value size → BeginsSlice n (rbsp ++ more) value size
unfolding longer_front
begins_on n rbsp more value size begins =
    let longer = longer_front rbsp more in
    let within : size ≤ length rbsp = omega (arith, begins.size) in
    record {
      inside = begins.inside;
      fields = begins.fields;
      rest = begins.rest ++ bits_of more;
      spelled = spelled_on (slice_form n) (at_front rbsp) (at_front (rbsp ++ more)) (values_of begins.fields) begins.rest longer (slice_opens n) begins.spelled;
      numbers = begins.numbers;
      size = omega (arith, begins.size, length-append begins.rest (bits_of more), length-bits_of more, length-append rbsp more);
      last = rw (take-append-le size rbsp more within) begins.last;
    }

place_on : (f more : List ℕ) (n p : ℕ) → p ≤ length f → IsFirstFrom (λ place. length (unescaped_to f place) ≡ n) 0 p
    → IsFirstFrom (λ place. length (unescaped_to (f ++ more) place) ≡ n) 0 p
place_on f more n p within first =
    let same : (k : ℕ) → k ≤ p → unescaped_to (f ++ more) k ≡ unescaped_to f k = λ k upto.
    same_unescaped (f ++ more) f k (λ i lt. index_on f more i (omega (arith, within, upto, lt))) in
    record {
      order = first.order;
      here = ap length (same p (omega arith)) ∙ first.here;
      before = λ k from below here. first.before k from below (sym (ap length (same k (omega (arith, below)))) ∙ here);
    }

slice_longer : (R : Readers) (t : ℕ) (b : Begun) (f more : List ℕ) (h : SliceHeader) → AreOfH266 R → HasHeader f → 3 ≤ length f → h.payload ≤ length f
    → R.slice t b f ≡ Ok h → R.slice t b (f ++ more) ≡ Ok h
slice_longer R t b f more h are head long within read =
    let u = f ++ more in
    let here : IsSlice t b f h = subst (λ x. IsSliceAnswer t b f x) read (are.slice t b f) in
    let front = rbsp_front f more head long in
    one_slice t b u (R.slice t b u) (Ok h) (are.slice t b u) (record {
      value = here.value;
      size = here.size;
      begins = rw front.all (begins_on (at_slice_of t b) (rbsp_of f) front.more here.value here.size here.begins);
      fields = here.fields;
      subpic = here.subpic;
      payload = place_on f more (2 + here.size) h.payload within here.payload;
    })

-- a front is the unit, or begins it with three bytes at least
pub data IsPart (f u : List ℕ) : Type 0 where
  is_all : f ≡ u → IsPart f u
  is_long : (more : List ℕ) → u ≡ f ++ more → 3 ≤ length f → IsPart f u

pub part_of : (f u : List ℕ) → IsFront f u → IsPart f u
part_of f u front = elim (cases_lt (length f) 3) [
  | inl few ↦ is_all (front.all few)
  | inr long ↦ is_long (drop (length f) u) (sym (take-append-drop (length f) u) ∙ ap (λ x. x ++ drop (length f) u) (sym front.first)) long
]

slice_by : (R : Readers) (t : ℕ) (b : Begun) (f u : List ℕ) (h : SliceHeader) → AreOfH266 R → IsPart f u → HasHeader f → h.payload ≤ length f
    → R.slice t b f ≡ Ok h → R.slice t b u ≡ Ok h
slice_by R t b f u h are (is_all same) head within read = subst (λ x. R.slice t b x ≡ Ok h) same read
slice_by R t b f u h are (is_long more all long) head within read = rw all (slice_longer R t b f more h are head long within read)

pub slice_on : (R : Readers) (t : ℕ) (b : Begun) (f u : List ℕ) (h : SliceHeader) → AreOfH266 R → IsFront f u → HasHeader f → h.payload ≤ length f
    → R.slice t b f ≡ Ok h → R.slice t b u ≡ Ok h
slice_on R t b f u h are front head within read = slice_by R t b f u h are (part_of f u front) head within read

-- ---- picture headers inside

begun_longer : (R : Readers) (before : List Reading) (f more : List ℕ) (b : Begun) → AreOfH266 R → HasHeader f → 3 ≤ length f → begins R before f None ≡ Ok b
    → begins R before (f ++ more) None ≡ Ok b
begun_longer R before f more b are head long is =
    let front = rbsp_front f more head long in
    let tid = same_tid f more head.bytes in
    bind_on (R.referred_pps true (rbsp_of f)) (R.referred_pps true (rbsp_of (f ++ more))) _ _ b
    (λ id e. rw front.all (id_on R (rbsp_of f) front.more id are front.some e))
    (λ id. bind_on (ok_or (stored_pps id before) (missing sets.PPS id)) _ _ _ b (λ pps e. e)
    (λ pps. bind_on (ok_or (stored_sps (referred_sps pps) before) (missing sets.SPS (referred_sps pps))) _ _ _ b (λ sps e. e)
    (λ sps. bind_on (refuse_if (not (same_size sps pps)) (structure rules.SIZE_DIFFERS)) _ _ _ b (λ x e. e)
    (λ x. bind_on (R.layout sps pps) _ _ _ b (λ layout e. e)
    (λ layout. bind_on (R.header true sps pps (rbsp_of f)) (R.header true sps pps (rbsp_of (f ++ more))) _ _ b
    (λ header e. rw front.all (header_on R sps pps (rbsp_of f) front.more header are front.some e))
    (λ header e. rw tid e))))))
    is

begun_by : (R : Readers) (before : List Reading) (f u : List ℕ) (b : Begun) → AreOfH266 R → IsPart f u → HasHeader f → begins R before f None ≡ Ok b
    → begins R before u None ≡ Ok b
begun_by R before f u b are (is_all same) head is = subst (λ x. begins R before x None ≡ Ok b) same is
begun_by R before f u b are (is_long more all long) head is = rw all (begun_longer R before f more b are head long is)

pub begun_on : (R : Readers) (before : List Reading) (f u : List ℕ) (b : Begun) → AreOfH266 R → IsFront f u → HasHeader f → begins R before f None ≡ Ok b
    → begins R before u None ≡ Ok b
begun_on R before f u b are front head is = begun_by R before f u b are (part_of f u front) head is

-- ---- the front that is taken

-- so many bytes are taken
taken_size : (u : List ℕ) → length (take (min (length u) 512) u) ≡ min (length u) 512
taken_size u = length-take-le (min (length u) 512) u (omega arith)

pub front_is : (u f : List ℕ) → f ≡ take (min (length u) 512) u → IsFront f u
front_is u f is = rw is record {
  first = ap (λ n. take n u) (sym (taken_size u));
  all = λ few. take_all (min (length u) 512) u (omega (arith, few, taken_size u));
}

-- of a sound unit at least two bytes are taken
two_taken : (u : List ℕ) → IsSound u → 2 ≤ length (take (min (length u) 512) u)
two_taken u sound = let two : 2 ≤ length u = sound.header.bytes in rw (taken_size u) (omega (arith, two))

breaks_on : (f more : List ℕ) (k : ℕ) → BreaksRule f k → BreaksRule (f ++ more) k
breaks_on f more k (inl x) = inl (x.0, mark_on f more 2 (k - 2) x.1)
breaks_on f more k (inr x) = inr (
  x.0,
  omega (arith, x.1, length-append f more),
  same_emulation (f ++ more) f (k - 1) (λ i le. index_on f more i (omega (arith, x.1, x.0))) ∙ x.2,
  rw (index_on f more k x.1) x.3,
)

header_before : (f more : List ℕ) → 2 ≤ length f → HasHeader (f ++ more) → HasHeader f
header_before f more two h =
    let a = index_on f more 0 (omega (arith, two)) in
    let b = index_on f more 1 (omega (arith, two)) in
    record { bytes = two; forbidden = rw a at h.forbidden; temporal = rw b at h.temporal }

sound_front : (f more : List ℕ) → 2 ≤ length f → IsSound (f ++ more) → IsSound f
sound_front f more two sound = record {
  header = header_before f more two sound.header;
  emulation = λ k breaks. sound.emulation k (breaks_on f more k breaks);
  size = let all : length (f ++ more) ≤ 2 ^ 23 = sound.size in omega (arith, all, length-append f more);
}

pub front_sound : (u f : List ℕ) → IsSound u → f ≡ take (min (length u) 512) u → IsSound f
front_sound u f sound is =
    let n = min (length u) 512 in
    rw is (sound_front (take n u) (drop n u) (two_taken u sound) (rw (take-append-drop n u) sound))

header_front : (f more : List ℕ) → 2 ≤ length f → header_of f ≡ header_of (f ++ more)
header_front f more two = rw (index_on f more 0 (omega (arith, two)), index_on f more 1 (omega (arith, two))) refl

pub front_header : (u f : List ℕ) → IsSound u → f ≡ take (min (length u) 512) u → header_of f ≡ header_of u
front_header u f sound is =
    let n = min (length u) 512 in
    rw is (header_front (take n u) (drop n u) (two_taken u sound) ∙ ap header_of (take-append-drop n u))

-- the first bit of the RBSP
inside_by : (f u : List ℕ) → IsPart f u → HasHeader f → has_header_inside f ≡ has_header_inside u
unfolding has_header_inside
inside_by f u (is_all same) head = ap (λ x. nat_le 128 (slice_index (rbsp_of x) 0)) same
inside_by f u (is_long more all long) head =
    let rbsp = rbsp_front f more head long in
    rw all (sym (ap (λ n. nat_le 128 n) (ap (λ x. slice_index x 0) rbsp.all ∙ index_on (rbsp_of f) rbsp.more 0 rbsp.some)))

pub inside_on : (f u : List ℕ) → IsFront f u → HasHeader f → has_header_inside f ≡ has_header_inside u
inside_on f u front head = inside_by f u (part_of f u front) head
