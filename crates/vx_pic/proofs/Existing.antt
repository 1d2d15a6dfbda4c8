-- There are readers of H.266: each list of bytes has an answer.
use Rattle.std.proofs.Common.{◌≡◌, ◌⊎◌, inl, inr, ℕ, ℤ, zero, suc, ◌+◌, ◌-◌, ◌*◌, ◌/◌, ◌%◌, ◌<◌, ◌≤◌, Bool, true, false, List, [], ◌∷◌, ◌++◌, length, take, drop, replicate, slice_index, Option, Some, None, Result, Ok, Err, refl, ap, sym, subst, ◌∙◌, arith, length-append}
use Rattle.std.proofs.Math.Nat.{div-add-mod}
use Rattle.std.proofs.lemmas.Bool.{cases_Bool, cases_lt, cases_eq, ne_eqb}
use Rattle.vx_table.specs.Values.{bits_along}
use Rattle.std.proofs.lemmas.List.{length-drop, take-append-drop, length-take-le}
use Rattle.vx_bits.specs.declared.list.Item.{Item}
use Rattle.vx_bits.specs.declared.refusal.Refusal.{Refusal}
use Rattle.vx_bits.specs.Codes.{bits_of, one_from, EndsInNoZero}
use Rattle.vx_bits.specs.Place.{Place}
use Rattle.vx_bits.proofs.Bits.{length-bits_of}
use Rattle.vx_annexb.specs.Places.{IsFirstFrom}
use Rattle.vx_annexb.specs.Emulation.{is_emulation, unescaped_to, unescaped}
use Rattle.vx_aps.specs.declared.aps.Aps.{Aps}
use Rattle.vx_aps.specs.declared.aps.TheConstants.{SCALING}
use Rattle.vx_aps.specs.Aps as aps
use Rattle.vx_fields.specs.declared.ph.TheConstants.{ph_pic_parameter_set_id}
use Rattle.vx_fields.specs.declared.sh.TheConstants.{sh_picture_header_in_slice_header_flag, sh_slice_address}
use Rattle.vx_fields.specs.declared.names.sh.TheConstants.{SUBPIC}
use Rattle.vx_layout.specs.declared.numbers.Numbers.{Numbers}
use Rattle.vx_ph.specs.Header.{header_form}
use Rattle.vx_ph.specs.Id.{pps_id_form}
use Rattle.vx_ph.specs.InForce.{in_force, structures}
use Rattle.vx_pps.specs.Pps.{pps_form}
use Rattle.vx_ptl.specs.Structures.{vps}
use Rattle.vx_rpl.specs.declared.entry.RplTable.{RplTable}
use Rattle.vx_rpl.specs.HeaderLists.{lists_of}
use Rattle.vx_sei.specs.declared.message.Message.{Message}
use Rattle.vx_sei.specs.Sei.{Carries, carried, ff_coded, sei_message}
use Rattle.vx_sei.specs.inner.Front.{BeginsWithMessage}
use Rattle.vx_sei.proofs.Messages.{HasTaken, all_taken, ff_front, message_front, message_size, no_size, not_ended, take_turn, too_short}
use Rattle.vx_sh.specs.declared.header.SliceHeader.{SliceHeader as SliceValue}
use Rattle.vx_sh.specs.declared.tables.TheConstants.{HEADER_INSIDE}
use Rattle.vx_sh.specs.Value.{AreFields, BeginsSlice, values_of}
use Rattle.vx_sh.specs.Whole.{At, behind_header, header_inside, slice_form}
use Rattle.vx_sh.proofs.Sized.{sized}
use Rattle.vx_sh.proofs.Stopped.{slice_ends}
use Rattle.vx_sps.specs.Structure.{sps_form}
use Rattle.vx_table.specs.declared.rows.Cell.{Cell}
use Rattle.vx_table.specs.Forms.{Form, done, field, ◌>>=◌, form_of, present}
use Rattle.vx_table.specs.Loaded.{number}
use Rattle.vx_table.specs.Reading.{at_front}
use Rattle.vx_table.specs.Scope.{is_set, value}
use Rattle.vx_table.specs.Spelling.{Spells, at_end, behind, Reaches, here, later, items_along}
use Rattle.vx_table.specs.Values.{Follows, to_end, through}
use Rattle.vx_table.proofs.Every.{answers_always}
use Rattle.vx_table.proofs.Joined.{parted}
use Rattle.vx_table.proofs.Spelled.{both_ways}
use Rattle.vx_pic.specs.Units.{rbsp_of}
use Rattle.vx_pic.specs.Sets.{SliceHeader}
use Rattle.vx_pic.specs.Readings.{Begun}
use Rattle.vx_pic.specs.Rules.{Readers}
use Rattle.vx_pic.specs.PictureLayout.{ctu_sizes_differ, ids_misplaced, ids_of, IdsAgree, ctu_sizes, ids_differ, numbers, ctu_size_fault, ids_fault, numbers_in, IsLayoutAnswer, layout_refusal}
use Rattle.vx_pic.specs.UnderSets.{at_slice_of}
use Rattle.vx_pic.specs.H266.{AnswersAt, header_place, form_in, IsReferredPps, IsSliceAnswer}
use Rattle.vx_pic.specs.H266Laws.{ThereAreReaders}
use Rattle.vx_pic.proofs.Determined.{bare}
use Rattle.vx_pic.proofs.Deciding.{layouts_are_decided}
use Rattle.vx_pic.proofs.Distinct.{distinct_or_not}

-- ---- forms

ended_spells : {A : Type 0} (form : Form A) {total : ℕ} {w : List ℤ} {left rest : List Bool} → Spells total (bare form) w left rest → Spells total form w left rest
ended_spells (done a) at_end = at_end
ended_spells (field cell goes) (behind {v} begins more) = behind begins (ended_spells (goes v) more)

ended_reaches : {A : Type 0} (form : Form A) {total : ℕ} {w : List ℤ} {left rest : List Bool} {cell : Cell ℕ} → Reaches total (bare form) w left cell rest
    → Reaches total form w left cell rest
ended_reaches (done a) reach = elim reach [ ]
ended_reaches (field cell goes) here = here
ended_reaches (field cell goes) (later {v} begins more) = later begins (ended_reaches (goes v) more)

answer_at : {A : Type 0} (form : Form A) (place : Place) → (x : Result (List Item) Refusal) × AnswersAt form place x
answer_at form place = elim (answers_always (bare form) place.total place.left) [
  | inl (values, rest, spelled) ↦
      (Ok (items_along form values), record { values = values; rest = rest; spelled = ended_spells form spelled; all = refl })
  | inr (values, cell, rest, r, reached, out) ↦
      (Err r, record { values = values; cell = cell; rest = rest; reached = ended_reaches form reached; refused = out })
]

id_of_items : (inside : Bool) (rbsp : List ℕ) (x : Result (List Item) Refusal) → AnswersAt pps_id_form (header_place inside rbsp) x → (y : Result ℕ Refusal) × IsReferredPps inside rbsp y
id_of_items inside rbsp (Ok items) answer = (Ok (number items ph_pic_parameter_set_id), (items, answer, refl))
id_of_items inside rbsp (Err r) answer = (Err r, answer)

id_answer : (inside : Bool) (rbsp : List ℕ) → (y : Result ℕ Refusal) × IsReferredPps inside rbsp y
id_answer inside rbsp = let read = answer_at pps_id_form (header_place inside rbsp) in id_of_items inside rbsp read.0 read.1

-- ---- adaptation parameter sets

last_or_not : (bytes : List ℕ) (k : ℕ) → length bytes ≡ k + 1 → EndsInNoZero bytes ⊎ ¬ EndsInNoZero bytes
last_or_not bytes k size = elim (cases_eq (slice_index bytes k) 0) [
  | inl none ↦ inr (λ ends. ends k size none)
  | inr other ↦ inl (λ j long. let same : j ≡ k = omega (arith, long, size) in rw same other)
]

aps_valid : (kind id : ℕ) (body : List ℕ) → kind ≤ SCALING → id < aps.ids_of_type kind → 0 < length body → EndsInNoZero body → aps.IsValid (record { kind = kind; id = id; body = body })
aps_valid kind id body is few some ends = record { kind = is; id = few; some = some; ends = ends }

aps_body : (kind id : ℕ) (body rbsp : List ℕ) → rbsp ≡ aps.spelled kind id body → kind ≤ SCALING → id < aps.ids_of_type kind → (x : Result (Option Aps) Refusal) × aps.IsAnswer rbsp x
aps_body kind id [] rbsp is known few = (Err _, aps.no_body kind id is known few)
aps_body kind id (byte ∷ body) rbsp is known few = elim (last_or_not (byte ∷ body) (length body) (omega arith)) [
  | inl ends ↦ (Ok (Some (record { kind = kind; id = id; body = byte ∷ body })), record { valid = aps_valid kind id (byte ∷ body) known few (omega arith) ends; bytes = is })
  | inr zero_last ↦ (Err _, aps.bad_end kind id (byte ∷ body) is known few zero_last)
]

aps_answer : (rbsp : List ℕ) → (x : Result (Option Aps) Refusal) × aps.IsAnswer rbsp x
aps_answer [] = (Err _, aps.no_type refl)
aps_answer (byte ∷ body) =
    let kind : ℕ = byte / 32 in
    let id : ℕ = byte % 32 in
    let same : byte ≡ 32 * kind + id = omega (arith, div-add-mod byte 32) in
    let is : byte ∷ body ≡ aps.spelled kind id body = ap (λ n. n ∷ body) same in
    elim (cases_lt SCALING kind) [
      | inl reserved ↦ (Ok None, record { kind = kind; id = id; body = body; bytes = is; five_bits = omega arith; reserved = reserved })
      | inr known ↦ elim (cases_lt id (aps.ids_of_type kind)) [
        | inl few ↦ aps_body kind id body (byte ∷ body) is known few
        | inr many ↦ (Err _, aps.no_such_id kind id body is known (omega arith) many)
      ]
    ]

-- ---- messages

-- bytes begin with the code of a number, or of none
abbrev CodeOrNone : List ℕ → Type 0
CodeOrNone bytes = ((n : ℕ) × (rest : List ℕ) × (bytes ≡ ff_coded n ++ rest)) ⊎ ((n : ℕ) (rest : List ℕ) → bytes ≡ ff_coded n ++ rest → ⊥)

one_byte : (b : ℕ) (bytes : List ℕ) → b < 255 → b ∷ bytes ≡ ff_coded b ++ bytes
one_byte b bytes small =
    let none : b / 255 ≡ 0 = omega (arith, small) in
    let same : b % 255 ≡ b = omega (arith, small) in
    rw (none, same) refl

longer : (n : ℕ) (bytes rest : List ℕ) → bytes ≡ ff_coded n ++ rest → 255 ∷ bytes ≡ ff_coded (n + 255) ++ rest
longer n bytes rest is =
    let runs : (n + 255) / 255 ≡ suc (n / 255) = omega arith in
    let last : (n + 255) % 255 ≡ n % 255 = omega arith in
    rw (runs, last) (ap (λ l. 255 ∷ l) is)

-- what a run of FF and a byte below begins with
first_below : (k c b : ℕ) (bytes rest : List ℕ) → b ∷ bytes ≡ replicate k 255 ++ c ∷ rest → c < 255 → 255 < b → ⊥
first_below zero c b bytes rest is small large = let same : b ≡ c = cc in omega (arith, same, small, large)
first_below (suc k) c b bytes rest is small large = let same : b ≡ 255 = cc in omega (arith, same, large)

shorter : (k c : ℕ) (bytes rest : List ℕ) → 255 ∷ bytes ≡ replicate k 255 ++ c ∷ rest → c < 255 → (j : ℕ) × (bytes ≡ replicate j 255 ++ c ∷ rest)
shorter zero c bytes rest is small = let same : 255 ≡ c = cc in absurd (omega (arith, same, small))
shorter (suc k) c bytes rest is small = (k, cc)

code_of_run : (k c : ℕ) (rest : List ℕ) → c < 255 → replicate k 255 ++ c ∷ rest ≡ ff_coded (255 * k + c) ++ rest
code_of_run k c rest small =
    let runs : (255 * k + c) / 255 ≡ k = omega (arith, small) in
    let last : (255 * k + c) % 255 ≡ c = omega (arith, small) in
    sym (ff_front (255 * k + c) rest ∙ rw (runs, last) refl)

code_or_none : (bytes : List ℕ) → CodeOrNone bytes
code_or_none [] = inr (λ n rest is. omega (arith, ap length is, length-append (ff_coded n) rest, length-append (replicate (n / 255) 255) (n % 255 ∷ [])))
code_or_none (b ∷ bytes) = elim (cases_lt b 255) [
  | inl small ↦ inl (b, bytes, one_byte b bytes small)
  | inr most ↦ elim (cases_lt 255 b) [
    | inl large ↦ inr (λ n rest is. first_below (n / 255) (n % 255) b bytes rest (is ∙ ff_front n rest) (omega arith) large)
    | inr few ↦
        let same : b ≡ 255 = omega (arith, most, few) in
        rw same (elim (code_or_none bytes) [
          | inl (n, rest, is) ↦ inl (n + 255, rest, longer n bytes rest is)
          | inr none ↦ inr (λ n rest is.
              let run = shorter (n / 255) (n % 255) bytes rest (is ∙ ff_front n rest) (omega arith) in
              none (255 * run.0 + n % 255) rest (run.1 ∙ code_of_run run.0 (n % 255) rest (omega arith)))
        ])
  ]
]

-- a message of this type and size
message_of : (bytes sized_bytes rest : List ℕ) (kind size : ℕ) → bytes ≡ ff_coded kind ++ sized_bytes → sized_bytes ≡ ff_coded size ++ rest → size ≤ length rest → BeginsWithMessage bytes
message_of bytes sized_bytes rest kind size is so fits =
    let m : Message = record { kind = kind; bytes = take size rest } in
    let long : length (take size rest) ≡ size = length-take-le size rest fits in
    let whole : rest ≡ take size rest ++ drop size rest = sym (take-append-drop size rest) in
    let code : ff_coded size ≡ ff_coded (length (take size rest)) = ap ff_coded (sym long) in
    (m, (drop size rest, is ∙ ap (λ l. ff_coded kind ++ l) (so ∙ ap (λ l. l ++ rest) code ∙ ap (λ l. ff_coded (length (take size rest)) ++ l) whole) ∙ sym (message_front m (drop size rest))))

message_or_none : (bytes : List ℕ) → BeginsWithMessage bytes ⊎ ¬ BeginsWithMessage bytes
message_or_none bytes = elim (code_or_none bytes) [
  | inr none ↦ inr (λ w. none w.0.kind _ (w.1.1 ∙ message_front w.0 w.1.0))
  | inl (kind, sized_bytes, is) ↦ elim (code_or_none sized_bytes) [
    | inr none ↦ inr (no_size bytes sized_bytes kind is none)
    | inl (size, rest, so) ↦ elim (cases_lt (length rest) size) [
      | inl short ↦ inr (too_short bytes sized_bytes rest kind size is so short)
      | inr fits ↦ inl (message_of bytes sized_bytes rest kind size is so fits)
    ]
  ]
]

record AllTaken (rbsp : List ℕ) : Type 0 where
  rest : List ℕ
  gathered : List Message
  taken : HasTaken rbsp rest gathered
  none : ¬ BeginsWithMessage rest

take_all_messages : (fuel : ℕ) (rbsp rest : List ℕ) (gathered : List Message) → length rest ≤ fuel → HasTaken rbsp rest gathered → AllTaken rbsp
take_all_messages zero rbsp rest gathered few taken = record {
  rest = rest;
  gathered = gathered;
  taken = taken;
  none = λ w. omega (arith, ap length w.1.1, length-append (sei_message w.0) w.1.0, message_size w.0, few);
}
take_all_messages (suc fuel) rbsp rest gathered few taken = elim (message_or_none rest) [
  | inl (m, (others, is)) ↦
      take_all_messages fuel rbsp others (gathered ++ carried (m ∷ [])) (omega (arith, few, ap length is, length-append (sei_message m) others, message_size m))
      (take_turn rbsp rest others gathered (gathered ++ carried (m ∷ [])) m taken is refl)
  | inr none ↦ record { rest = rest; gathered = gathered; taken = taken; none = none }
]

abbrev IsEnd : List ℕ → List ℕ → Type 0
IsEnd rbsp rest = (length rest < length rbsp) × (rest ≡ 128 ∷ [])

byte_or_not : (rest : List ℕ) → (rest ≡ 128 ∷ []) ⊎ ¬ (rest ≡ 128 ∷ [])
byte_or_not [] = inr (λ is. cc)
byte_or_not (b ∷ []) = elim (cases_eq b 128) [ inl same ↦ inl (ap (λ n. n ∷ []) same) | inr other ↦ inr (λ is. other cc) ]
byte_or_not (b ∷ next ∷ rest) = inr (λ is. omega (arith, ap length is))

ended_or_not : (rbsp rest : List ℕ) → IsEnd rbsp rest ⊎ ¬ IsEnd rbsp rest
ended_or_not rbsp rest = elim (byte_or_not rest) [
  | inr other ↦ inr (λ end. other end.1)
  | inl same ↦ elim (cases_lt (length rest) (length rbsp)) [
    | inl less ↦ inl (less, same)
    | inr all ↦ inr (λ end. omega (arith, end.0, all))
  ]
]

sei_answer : (rbsp : List ℕ) → (ms : List Message) × Carries rbsp ms
sei_answer rbsp =
    let all = take_all_messages (length rbsp) rbsp rbsp [] (omega arith) (record { messages = []; bytes = refl; carries = refl }) in
    elim (ended_or_not rbsp all.rest) [
      | inl end ↦ (all.gathered, inl (all_taken rbsp all.rest all.gathered all.taken end))
      | inr other ↦ ([], inr (λ ms. not_ended rbsp all.rest all.gathered ms all.taken all.none other, refl))
    ]

-- ---- the layout

numbers_answer : (s p : List Item) → ctu_sizes_differ s p ≡ false → IdsAgree s p → (x : Result Numbers Refusal) × IsLayoutAnswer s p x
numbers_answer s p same agree = elim (layouts_are_decided (numbers_in s p)) [
  | inl layout ↦ (Ok (numbers_in s p), (record { ctus = same; ids = agree; layout = layout }, refl))
  | inr (k, lowest) ↦ (Err (layout_refusal k), (k, numbers same agree lowest, refl))
]

layout_answer : (s p : List Item) → (x : Result Numbers Refusal) × IsLayoutAnswer s p x
layout_answer s p = elim (cases_Bool (ctu_sizes_differ s p)) [
  | inl differ ↦ (Err (layout_refusal ctu_size_fault), (ctu_size_fault, ctu_sizes differ, refl))
  | inr same ↦ elim (cases_Bool (ids_misplaced s p)) [
    | inl misplaced ↦ (Err (layout_refusal ids_fault), (ids_fault, ids_differ same (λ agree. let placed = agree.placed in cc), refl))
    | inr placed ↦ elim (distinct_or_not (ids_of s p)) [
      | inl distinct ↦ numbers_answer s p same (record { placed = placed; distinct = distinct })
      | inr doubled ↦ (Err (layout_refusal ids_fault), (ids_fault, ids_differ same (λ agree. doubled agree.distinct), refl))
    ]
  ]
]

-- ---- slices

-- a picture header inside leaves the numbers of the slice
same_scope : (form : Form (List ℕ)) (s : List ℕ) {w : List ℤ} {e : List ℕ} → Follows (form >>= λ t. done s) w e → e ≡ s
same_scope (done a) s to_end = refl
same_scope (field cell goes) s (through {v} is more) = same_scope (goes v) s more

done_scope : (s : List ℕ) {w : List ℤ} {e : List ℕ} → Follows (done s) w e → e ≡ s
done_scope s to_end = refl

leaves_slice : (table : RplTable) (sets s : List ℕ) {w : List ℤ} {e : List ℕ} → Follows (header_inside table sets s) w e → e ≡ s
unfolding present value
leaves_slice table sets s follows = elim (cases_eq (slice_index s sh_picture_header_in_slice_header_flag) 0) [
  | inl none ↦ done_scope s (rw none at follows)
  | inr some ↦ let there = ne_eqb (slice_index s sh_picture_header_in_slice_header_flag) 0 some in same_scope (header_form table sets) s (rw there at follows)
]

-- the fields of a slice header that is spelled
record HasFields (n : At) (values : List ℤ) : Type 0 where
  inside : List ℤ
  items : List Item
  fields : AreFields n items inside
  all : values ≡ values_of fields

cut_fields : (n : At) (values : List ℤ) (end : List ℕ) → Follows (slice_form n) values end → HasFields n values
unfolding slice_form
cut_fields n values end follows =
    let one = parted (form_of HEADER_INSIDE n.slice >>= header_inside n.table n.sets) (behind_header n.table n.ids n.layout) follows in
    let two = parted (form_of HEADER_INSIDE n.slice) (header_inside n.table n.sets) one.first in
    let same : one.mid ≡ two.mid = leaves_slice n.table n.sets two.mid two.second in
    record {
      inside = two.others;
      items = items_along (form_of HEADER_INSIDE n.slice) two.front ++ items_along (behind_header n.table n.ids n.layout two.mid) one.others;
      fields = record {
        first = two.front;
        behind = one.others;
        at = two.mid;
        end = end;
        begins = two.first;
        goes_on = subst (λ s. Follows (header_inside n.table n.sets two.mid) two.others s) same two.second;
        ends = subst (λ s. Follows (behind_header n.table n.ids n.layout s) one.others end) same one.second;
        all = refl;
      };
      all = one.all ∙ ap (λ v. v ++ one.others) two.all;
    }

record HasSlice (n : At) (rbsp : List ℕ) : Type 0 where
  value : SliceValue
  size : ℕ
  begins : BeginsSlice n rbsp value size

slice_begun : (n : At) (rbsp : List ℕ) (values : List ℤ) (rest : List Bool) → Spells (8 * length rbsp) (slice_form n) values (bits_of rbsp) rest → HasSlice n rbsp
slice_begun n rbsp values rest spelled =
    let told = (both_ways (slice_form n) (8 * length rbsp) values (bits_of rbsp) rest (omega (arith, length-bits_of rbsp))).0 spelled in
    let parts = cut_fields n values told.0 told.1 in
    let at : ℕ = 8 * length rbsp - length rest in
    let sum : at + length rest ≡ 8 * length rbsp = omega (arith, ap length told.2, length-bits_of rbsp, length-append (bits_along (slice_form n) (8 * length rbsp - length (bits_of rbsp)) values) rest) in
    let size = sized n rbsp values told.0 rest at spelled told.1 sum in
    let f = parts.fields in
    record {
      value = record {
        inside = is_set (slice_index f.end sh_picture_header_in_slice_header_flag);
        fields = parts.items;
        subpic = slice_index f.end SUBPIC;
        address = slice_index f.end sh_slice_address;
        lists = lists_of n.table n.sets parts.items;
      };
      size = at / 8;
      begins = record {
        inside = parts.inside;
        fields = f;
        rest = rest;
        spelled = subst (λ v. Spells (8 * length rbsp) (slice_form n) v (bits_of rbsp) rest) parts.all spelled;
        numbers = record { inside = refl; subpic = refl; address = refl; lists = refl };
        size = size.0;
        last = size.1;
      };
    }

-- the first place of a unit up to which so many bytes stand
unescaped_more : (unit : List ℕ) (k : ℕ) (b : Bool) → is_emulation unit k ≡ b → (length (unescaped_to unit k) ≤ length (unescaped_to unit (suc k))) × (length (unescaped_to unit (suc k)) ≤ length (unescaped_to unit k) + 1)
unescaped_more unit k true is = rw is (omega arith, omega arith)
unescaped_more unit k false is = rw is (omega (arith, length-append (unescaped_to unit k) (slice_index unit k ∷ [])), omega (arith, length-append (unescaped_to unit k) (slice_index unit k ∷ [])))

unescaped_rises : (unit : List ℕ) (j k : ℕ) → j ≤ k → length (unescaped_to unit j) ≤ length (unescaped_to unit k)
unescaped_rises unit j zero upto = let first : j ≡ 0 = omega (arith, upto) in rw first (omega arith)
unescaped_rises unit j (suc k) upto = elim (cases_eq j (suc k)) [
  | inl same ↦ rw same (omega arith)
  | inr other ↦ omega (arith, unescaped_rises unit j k (omega (arith, upto, other)), (unescaped_more unit k (is_emulation unit k) refl).0)
]

abbrev FirstPlace : List ℕ → ℕ → ℕ → Type 0
FirstPlace unit n p = IsFirstFrom (λ place. length (unescaped_to unit place) ≡ n) 0 p

first_place : (unit : List ℕ) (n k : ℕ) → n ≤ length (unescaped_to unit k) → (p : ℕ) × FirstPlace unit n p
first_place unit n zero few = (0, record { order = omega arith; here = omega (arith, few); before = λ j from below. absurd (omega (arith, below)) })
first_place unit n (suc k) few = elim (cases_lt (length (unescaped_to unit k)) n) [
  | inr most ↦ first_place unit n k most
  | inl less ↦ (
    suc k,
    record {
      order = omega arith;
      here = omega (arith, few, less, (unescaped_more unit k (is_emulation unit k) refl).1);
      before = λ j from below here. omega (arith, here, less, unescaped_rises unit j k (omega (arith, below)));
    },
  )
]

-- a slice header lies in its unit
some_bytes : (n : At) (rbsp : List ℕ) (value : SliceValue) (size : ℕ) → BeginsSlice n rbsp value size → 0 < length rbsp
some_bytes n rbsp value size begins =
    let values = values_of begins.fields in
    let told = (both_ways (slice_form n) (8 * length rbsp) values (bits_of rbsp) begins.rest (omega (arith, length-bits_of rbsp))).0 begins.spelled in
    let from_front : 8 * length rbsp - length (bits_of rbsp) ≡ 0 = omega (arith, length-bits_of rbsp) in
    let all : bits_of rbsp ≡ bits_along (slice_form n) 0 values ++ begins.rest = rw from_front at told.2 in
    let ends = slice_ends n values told.0 told.1 in
    let one : 1 ≤ length (one_from (0 + length ends.front)) = omega arith in
    omega (arith, one, ap length all, length-append (bits_along (slice_form n) 0 values) begins.rest, ap length ends.all, length-append ends.front (one_from (0 + length ends.front)), length-bits_of rbsp)

pub fits_unit : (n : At) (unit : List ℕ) (value : SliceValue) (size : ℕ) → BeginsSlice n (rbsp_of unit) value size → 2 + size ≤ length (unescaped unit)
unfolding rbsp_of
fits_unit n unit value size begins = omega (arith, some_bytes n (drop 2 (unescaped unit)) value size begins, begins.size, length-drop 2 (unescaped unit))

slice_answer : (nal_type : ℕ) (b : Begun) (unit : List ℕ) → (x : Result SliceHeader Refusal) × IsSliceAnswer nal_type b unit x
slice_answer nal_type b unit =
    let n : At = at_slice_of nal_type b in
    elim (answers_always (slice_form n) (8 * length (rbsp_of unit)) (bits_of (rbsp_of unit))) [
      | inl (values, rest, spelled) ↦
          let begun = slice_begun n (rbsp_of unit) values rest spelled in
          let place = first_place unit (2 + begun.size) (length unit) (fits_unit n unit begun.value begun.size begun.begins) in (
            Ok (record { fields = begun.value.fields; subpic = begun.value.subpic; payload = place.0 }),
            record {
              value = begun.value;
              size = begun.size;
              begins = begun.begins;
              fields = refl;
              subpic = refl;
              payload = place.1;
            },
          )
      | inr (values, cell, rest, r, reached, out) ↦
          (Err r, record { values = values; cell = cell; rest = rest; reached = reached; refused = out })
    ]

-- ---- all of them

pub there_are_readers : ThereAreReaders
there_are_readers =
    let R : Readers = record {
      vps = λ rbsp. (answer_at vps (at_front rbsp)).0;
      sps = λ rbsp. (answer_at sps_form (at_front rbsp)).0;
      pps = λ rbsp. (answer_at pps_form (at_front rbsp)).0;
      aps = λ rbsp. (aps_answer rbsp).0;
      sei = λ rbsp. (sei_answer rbsp).0;
      layout = λ s p. (layout_answer s p).0;
      referred_pps = λ inside rbsp. (id_answer inside rbsp).0;
      header = λ inside s p rbsp. (answer_at (form_in inside (structures s) (in_force s p)) (header_place inside rbsp)).0;
      slice = λ nal_type b unit. (slice_answer nal_type b unit).0;
    } in (
      R,
      record {
        vps = λ rbsp. (answer_at vps (at_front rbsp)).1;
        sps = λ rbsp. (answer_at sps_form (at_front rbsp)).1;
        pps = λ rbsp. (answer_at pps_form (at_front rbsp)).1;
        aps = λ rbsp. (aps_answer rbsp).1;
        sei = λ rbsp. (sei_answer rbsp).1;
        layout = λ s p. (layout_answer s p).1;
        referred_pps = λ inside rbsp. (id_answer inside rbsp).1;
        header = λ inside s p rbsp. (answer_at (form_in inside (structures s) (in_force s p)) (header_place inside rbsp)).1;
        slice = λ nal_type b unit. (slice_answer nal_type b unit).1;
      },
    )
