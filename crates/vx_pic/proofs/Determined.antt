-- Bytes and sets have one answer at most.
use Rattle.std.proofs.Common.{◌≡◌, inl, inr, ℕ, ℤ, ◌+◌, ◌*◌, Bool, List, [], ◌++◌, length, slice_index, Result, Ok, Err, refl, ap, sym, subst, ◌∙◌, arith}
use Rattle.std.proofs.lemmas.Bool.{cases_lt}
use Rattle.vx_bits.specs.declared.list.Item.{Item}
use Rattle.vx_bits.specs.declared.refusal.Refusal.{Refusal}
use Rattle.vx_bits.specs.Codes.{bits_of}
use Rattle.vx_bits.specs.Place.{Place}
use Rattle.vx_annexb.specs.Places.{IsFirstFrom}
use Rattle.vx_annexb.specs.Emulation.{unescaped_to}
use Rattle.vx_aps.specs.laws.Answers.{OneAnswer}
use Rattle.vx_fields.specs.declared.ph.TheConstants.{ph_pic_parameter_set_id}
use Rattle.vx_fields.specs.declared.names.sh.TheConstants.{SUBPIC}
use Rattle.vx_layout.specs.declared.numbers.Numbers.{Numbers}
use Rattle.vx_layout.proofs.Lowest.{layout-faultless, lowest-one}
use Rattle.vx_table.specs.declared.rows.Cell.{Cell}
use Rattle.vx_table.specs.Forms.{Form, done, field, ◌>>=◌, form_of}
use Rattle.vx_table.specs.Loaded.{number}
use Rattle.vx_table.specs.Reading.{at_front}
use Rattle.vx_table.specs.Spelling.{Spells, at_end, behind, Reaches, here, later, items_along}
use Rattle.vx_table.specs.Values.{Follows, to_end, through}
use Rattle.vx_table.proofs.Apart.{reads_one_way, answers_one_way}
use Rattle.vx_table.proofs.Joined.{joined}
use Rattle.vx_sei.specs.Sei.{Carries, carried}
use Rattle.vx_sei.proofs.Messages.{sei_unique}
use Rattle.vx_sh.specs.declared.header.SliceHeader.{SliceHeader as SliceValue}
use Rattle.vx_sh.specs.declared.tables.TheConstants.{HEADER_INSIDE}
use Rattle.vx_sh.specs.Value.{AreFields, BeginsSlice, values_of}
use Rattle.vx_sh.specs.Whole.{At, behind_header, header_inside, slice_form}
use Rattle.vx_sh.proofs.Sized.{all_follow}
use Rattle.vx_pic.specs.Units.{rbsp_of}
use Rattle.vx_pic.specs.Sets.{SliceHeader}
use Rattle.vx_pic.specs.Readings.{Begun}
use Rattle.vx_pic.specs.PictureLayout.{IsFault, ctu_sizes, ids_differ, numbers, IsLayoutAnswer, layout_refusal, MakeLayout}
use Rattle.vx_pic.specs.UnderSets.{at_slice_of}
use Rattle.vx_pic.specs.H266.{BeginsItems, IsRefusedAt, AnswersAt, IsReferredPps, IsSlice, IsSliceAnswer}
use Rattle.vx_pic.specs.H266Laws.{AtMostOne, HaveOneAnswer}

-- ---- forms

-- a form without what is at its end, which changes nothing of how it is spelled
abbrev pub bare : {A : Type 0} → Form A → Form (List ℕ)
bare form = form >>= λ a. done []

bare_spells : {total : ℕ} {A : Type 0} {form : Form A} {w : List ℤ} {left rest : List Bool} → Spells total form w left rest → Spells total (bare form) w left rest
bare_spells at_end = at_end
bare_spells (behind begins more) = behind begins (bare_spells more)

bare_reaches : {total : ℕ} {A : Type 0} {form : Form A} {w : List ℤ} {left rest : List Bool} {cell : Cell ℕ} → Reaches total form w left cell rest → Reaches total (bare form) w left cell rest
bare_reaches here = here
bare_reaches (later begins more) = later begins (bare_reaches more)

-- two values
pub one_value : {A : Type 0} {form : Form A} {place : Place} {items others : List Item} → BeginsItems form place items → BeginsItems form place others → items ≡ others
one_value {form} {place} one two =
    let same = reads_one_way (bare form) place.total one.values two.values place.left one.rest two.rest (bare_spells one.spelled) (bare_spells two.spelled) in
    one.all ∙ ap (λ v. items_along form v) same.0 ∙ sym two.all

-- a value and a refusal
not_refused : {A : Type 0} {form : Form A} {place : Place} {items : List Item} {r : Refusal} → BeginsItems form place items → IsRefusedAt form place r → ⊥
not_refused {form} {place} {r} one two =
    (answers_one_way (bare form) place.total two.values one.values place.left two.rest one.rest two.cell r (bare_reaches two.reached) two.refused).0 (bare_spells one.spelled)

-- two refusals
same_refusal : {A : Type 0} {form : Form A} {place : Place} {q r : Refusal} → IsRefusedAt form place q → IsRefusedAt form place r → q ≡ r
same_refusal {form} {place} {q} {r} one two =
    let once = answers_one_way (bare form) place.total one.values two.values place.left one.rest two.rest one.cell q (bare_reaches one.reached) one.refused in
    (once.1 two.cell r (bare_reaches two.reached) two.refused).3

pub one_at : {A : Type 0} (form : Form A) (place : Place) → AtMostOne (AnswersAt form place)
one_at form place (Ok items) (Ok others) one two = ap (λ (xs : List Item). let r : Result (List Item) Refusal = Ok xs in r) (one_value one two)
one_at form place (Ok items) (Err r) one two = absurd (not_refused one two)
one_at form place (Err r) (Ok items) one two = absurd (not_refused two one)
one_at form place (Err q) (Err r) one two = ap (λ (p : Refusal). let e : Result (List Item) Refusal = Err p in e) (same_refusal one two)

pub one_id : (inside : Bool) (rbsp : List ℕ) → AtMostOne (IsReferredPps inside rbsp)
one_id inside rbsp (Ok id) (Ok other) one two =
    ap (λ (n : ℕ). let r : Result ℕ Refusal = Ok n in r) (one.2 ∙ ap (λ (xs : List Item). number xs ph_pic_parameter_set_id) (one_value one.1 two.1) ∙ sym two.2)
one_id inside rbsp (Ok id) (Err r) one two = absurd (not_refused one.1 two)
one_id inside rbsp (Err r) (Ok id) one two = absurd (not_refused two.1 one)
one_id inside rbsp (Err q) (Err r) one two = ap (λ (p : Refusal). let e : Result ℕ Refusal = Err p in e) (same_refusal one two)

-- ---- messages

pub one_carried : (rbsp : List ℕ) → AtMostOne (Carries rbsp)
one_carried rbsp ms ns (inl one) (inl two) = one.2 ∙ ap carried (sei_unique rbsp one.0 two.0 one.1 two.1) ∙ sym two.2
one_carried rbsp ms ns (inl one) (inr two) = absurd (two.0 one.0 one.1)
one_carried rbsp ms ns (inr one) (inl two) = absurd (one.0 two.0 two.1)
one_carried rbsp ms ns (inr one) (inr two) = one.1 ∙ sym two.1

-- ---- the layout

not_both : (s p : List Item) {k : ℕ} → MakeLayout s p → IsFault s p k → ⊥
not_both s p make (ctu_sizes differ) = let same = make.ctus in cc
not_both s p make (ids_differ same disagree) = disagree make.ids
not_both s p make (numbers same agree lowest) = layout-faultless _ _ make.layout lowest

one_fault : (s p : List Item) {j k : ℕ} → IsFault s p j → IsFault s p k → j ≡ k
one_fault s p (ctu_sizes one) (ctu_sizes two) = refl
one_fault s p (ctu_sizes one) (ids_differ two disagree) = absurd (cc)
one_fault s p (ctu_sizes one) (numbers two agree lowest) = absurd (cc)
one_fault s p (ids_differ one disagree) (ctu_sizes two) = absurd (cc)
one_fault s p (ids_differ one disagree) (ids_differ two other) = refl
one_fault s p (ids_differ one disagree) (numbers two agree lowest) = absurd (disagree agree)
one_fault s p (numbers one agree lowest) (ctu_sizes two) = absurd (cc)
one_fault s p (numbers one agree lowest) (ids_differ two disagree) = absurd (disagree agree)
one_fault s p (numbers one agree lowest) (numbers two other lower) = lowest-one _ _ _ lowest lower

pub one_layout : (s p : List Item) → AtMostOne (IsLayoutAnswer s p)
one_layout s p (Ok n) (Ok m) one two = ap (λ (x : Numbers). let r : Result Numbers Refusal = Ok x in r) (one.1 ∙ sym two.1)
one_layout s p (Ok n) (Err r) one two = absurd (not_both s p one.0 two.1)
one_layout s p (Err r) (Ok n) one two = absurd (not_both s p two.0 one.1)
one_layout s p (Err q) (Err r) one two =
    ap (λ (x : Refusal). let e : Result Numbers Refusal = Err x in e) (one.2 ∙ ap layout_refusal (one_fault s p one.1 two.1) ∙ sym two.2)

-- ---- slices

-- values of one form in front of others, in two ways, are the same
fronts_apart : {A : Type 0} {f : Form A} {v w x y : List ℤ} {a b : A} → Follows f v a → Follows f w b → v ++ x ≡ w ++ y → (v ≡ w) × (x ≡ y) × (a ≡ b)
fronts_apart to_end to_end same = (refl, same, refl)
fronts_apart {f = field cell goes} {x} {y} {b} (through {v} {w} value more) (through {v = u} {w = z} other others) same =
    let first : v ≡ u = cc in
    let behind : w ++ x ≡ z ++ y = cc in
    let rest = fronts_apart more (subst (λ k. Follows (goes k) z b) (sym first) others) behind in
    (rw (first, rest.0) refl, rest.1, rest.2)

-- the same values have the same fields and the same end
record SameFields (n : At) (fields others : List Item) (inside within : List ℤ) (f : AreFields n fields inside) (g : AreFields n others within) : Type 0 where
  items : fields ≡ others
  end : f.end ≡ g.end

same_fields : (n : At) (fields others : List Item) (inside within : List ℤ) (f : AreFields n fields inside) (g : AreFields n others within) → values_of f ≡ values_of g
    → SameFields n fields others inside within f g
same_fields n fields others inside within f g same =
    let one = fronts_apart (joined (header_inside n.table n.sets) f.begins f.goes_on) (joined (header_inside n.table n.sets) g.begins g.goes_on) same in
    let two = fronts_apart f.begins g.begins one.0 in
    let ends = fronts_apart (all_follow n fields inside f) (all_follow n others within g) (ap (λ v. v ++ []) same) in
    record {
      items = f.all ∙ ap (λ v. items_along (form_of HEADER_INSIDE n.slice) v ++ items_along (behind_header n.table n.ids n.layout f.at) f.behind) two.0
          ∙ ap (λ w. items_along (form_of HEADER_INSIDE n.slice) g.first ++ items_along (behind_header n.table n.ids n.layout f.at) w) one.1
          ∙ ap (λ s. items_along (form_of HEADER_INSIDE n.slice) g.first ++ items_along (behind_header n.table n.ids n.layout s) g.behind) two.2 ∙ sym g.all;
      end = ends.2;
    }

record SameSlice (x y : SliceValue) (n m : ℕ) : Type 0 where
  fields : x.fields ≡ y.fields
  subpic : x.subpic ≡ y.subpic
  size : n ≡ m

same_slice : (n : At) (rbsp : List ℕ) (x y : SliceValue) (a b : ℕ) → BeginsSlice n rbsp x a → BeginsSlice n rbsp y b → SameSlice x y a b
same_slice n rbsp x y a b one two =
    let same = reads_one_way (slice_form n) (8 * length rbsp) (values_of one.fields) (values_of two.fields) (bits_of rbsp) one.rest two.rest one.spelled two.spelled in
    let told = same_fields n x.fields y.fields one.inside two.inside one.fields two.fields same.0 in
    record {
      fields = told.items;
      subpic = one.numbers.subpic ∙ ap (λ s. slice_index s SUBPIC) told.end ∙ sym two.numbers.subpic;
      size = omega (arith, one.size, two.size, ap length same.1);
    }

one_first : (P : ℕ → Type 0) (a b : ℕ) → IsFirstFrom P 0 a → IsFirstFrom P 0 b → a ≡ b
one_first P a b one two = elim (cases_lt a b) [
  | inl less ↦ absurd (two.before a (omega arith) less one.here)
  | inr most ↦ elim (cases_lt b a) [
    | inl less ↦ absurd (one.before b (omega arith) less two.here)
    | inr more ↦ omega (arith, most, more)
  ]
]

same_header : (x y : SliceHeader) → x.fields ≡ y.fields → x.subpic ≡ y.subpic → x.payload ≡ y.payload → x ≡ y
same_header x y fields subpic payload =
    ap (λ (f : List Item). let h : SliceHeader = record { fields = f; subpic = x.subpic; payload = x.payload } in h) fields
    ∙ ap (λ (k : ℕ). let h : SliceHeader = record { fields = y.fields; subpic = k; payload = x.payload } in h) subpic
    ∙ ap (λ (k : ℕ). let h : SliceHeader = record { fields = y.fields; subpic = y.subpic; payload = k } in h) payload

same_read : (nal_type : ℕ) (b : Begun) (unit : List ℕ) (x y : SliceHeader) → IsSlice nal_type b unit x → IsSlice nal_type b unit y → x ≡ y
same_read nal_type b unit x y one two =
    let same = same_slice (at_slice_of nal_type b) (rbsp_of unit) one.value two.value one.size two.size one.begins two.begins in
    let first = subst (λ n. IsFirstFrom (λ place. length (unescaped_to unit place) ≡ 2 + n) 0 x.payload) same.size one.payload in
    same_header x y (one.fields ∙ same.fields ∙ sym two.fields) (one.subpic ∙ same.subpic ∙ sym two.subpic)
    (one_first (λ place. length (unescaped_to unit place) ≡ 2 + two.size) x.payload y.payload first two.payload)

-- what is spelled of one isn't refused
slice_items : {n : At} {rbsp : List ℕ} {x : SliceValue} {size : ℕ} (begins : BeginsSlice n rbsp x size) → BeginsItems (slice_form n) (at_front rbsp) (items_along (slice_form n) (values_of begins.fields))
slice_items begins = record { values = values_of begins.fields; rest = begins.rest; spelled = begins.spelled; all = refl }

pub one_slice : (nal_type : ℕ) (b : Begun) (unit : List ℕ) → AtMostOne (IsSliceAnswer nal_type b unit)
one_slice nal_type b unit (Ok x) (Ok y) one two = ap (λ (h : SliceHeader). let r : Result SliceHeader Refusal = Ok h in r) (same_read nal_type b unit x y one two)
one_slice nal_type b unit (Ok x) (Err r) one two = absurd (not_refused (slice_items one.begins) two)
one_slice nal_type b unit (Err r) (Ok x) one two = absurd (not_refused (slice_items two.begins) one)
one_slice nal_type b unit (Err q) (Err r) one two =
    ap (λ (x : Refusal). let e : Result SliceHeader Refusal = Err x in e) (same_refusal one two)

pub have_one_answer : OneAnswer → HaveOneAnswer
have_one_answer one_aps = record {
  vps = λ rbsp. one_at _ (at_front rbsp);
  sps = λ rbsp. one_at _ (at_front rbsp);
  pps = λ rbsp. one_at _ (at_front rbsp);
  aps = one_aps;
  sei = one_carried;
  layout = one_layout;
  referred_pps = one_id;
  header = λ inside s p rbsp. one_at _ _;
  slice = one_slice;
}
