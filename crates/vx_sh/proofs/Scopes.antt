-- Scopes of slices under sets and picture headers that give fields the same numbers.
use Rattle.std.proofs.Common.{◌≡◌, ◌≢◌, ℕ, ◌<◌, ◌≤◌, IsTrue, IsFalse, List, [], ◌∷◌, length, slice_index, slice_set, inl, inr, refl, sym, ◌∙◌, arith}
use Rattle.std.specs.Prelude.{All}
use Rattle.std.proofs.lemmas.Bool.{cases_Bool, cases_eq, cases_lt}
use Rattle.std.proofs.lemmas.Grind.{get_or-set_at}
use Rattle.std.proofs.lemmas.List.{get_or-set_other, get_or_past, length-set, set_past}
use Rattle.std.proofs.lemmas.List.Elements.{All-nil, All-cons}
use Rattle.vx_bits.specs.declared.list.Item.{Item}
use Rattle.vx_table.specs.Scope.{fresh, loaded, joined}
use Rattle.vx_table.specs.Depends.{has}
use Rattle.vx_table.specs.Loaded.{number}
use Rattle.vx_fields.specs.declared.names.rpl.TheConstants.{ENTRIES_0, ENTRIES_1}
use Rattle.vx_fields.specs.declared.names.sh.TheConstants.{NAL_TYPE, EXTRA_SH_BITS, DEFAULT_ACTIVE_0, DEFAULT_ACTIVE_1}
use Rattle.vx_fields.specs.declared.pps.TheConstants.{pps_pic_parameter_set_id}
use Rattle.vx_fields.specs.declared.ph.TheConstants.{ph_gdr_or_irap_pic_flag}
use Rattle.vx_sps.specs.Set.{extra_sh_bits_of}
use Rattle.vx_pps.specs.Pps.{default_active}
use Rattle.vx_ph.specs.InForce.{in_force}
use Rattle.vx_pps.proofs.Fields.{named}
use Rattle.vx_ph.proofs.Sets.{joined_length, joined_below, joined_from, fresh_length, in_force_length, of_sps, of_pps}
use Rattle.vx_sh.specs.InForce.{beside, SliceScopesAgree, SliceScopesAreWhole}

-- ---- the sets' numbers and the header's

unfoldable pub with_header : List Item → List Item → List Item → List ℕ
with_header sps pps header = joined ph_gdr_or_irap_pic_flag (in_force sps pps) (loaded fresh header)

pub with_header_length : (sps pps header : List Item) → length (with_header sps pps header) ≡ 1024
unfolding with_header
with_header_length sps pps header =
    joined_length ph_gdr_or_irap_pic_flag (in_force sps pps) (loaded fresh header) (in_force_length sps pps ∙ sym (fresh_length header))
    (omega (arith, in_force_length sps pps)) ∙ in_force_length sps pps

pub header_from_sps : (sps pps header : List Item) (n : ℕ) → n < pps_pic_parameter_set_id → slice_index (with_header sps pps header) n ≡ number sps n
unfolding with_header
header_from_sps sps pps header n below =
    joined_below ph_gdr_or_irap_pic_flag (in_force sps pps) (loaded fresh header) n (omega (arith, in_force_length sps pps)) (omega (arith, below)) ∙ of_sps sps pps n below

pub header_from_pps : (sps pps header : List Item) (n : ℕ) → pps_pic_parameter_set_id ≤ n → n < ph_gdr_or_irap_pic_flag → slice_index (with_header sps pps header) n ≡ number pps n
unfolding with_header
header_from_pps sps pps header n past below =
    joined_below ph_gdr_or_irap_pic_flag (in_force sps pps) (loaded fresh header) n (omega (arith, in_force_length sps pps)) below
    ∙ of_pps sps pps n past (λ is. absurd (omega (arith, is, below)))

pub header_from_header : (sps pps header : List Item) (n : ℕ) → ph_gdr_or_irap_pic_flag ≤ n → slice_index (with_header sps pps header) n ≡ number header n
unfolding with_header
header_from_header sps pps header n past = joined_from ph_gdr_or_irap_pic_flag (in_force sps pps) (loaded fresh header) n (omega (arith, in_force_length sps pps)) past

-- ---- what is beside

-- both give the numbers that a predicate holds of the same
record Same (P : ℕ → Type 0) (s t : List ℕ) : Type 0 where
  size : length s ≡ length t
  same : (n : ℕ) → P n → slice_index s n ≡ slice_index t n

put : {P : ℕ → Type 0} {s t : List ℕ} (n v w : ℕ) → v ≡ w → Same (λ m. P m × (m ≢ n)) s t → Same P (slice_set s n v) (slice_set t n w)
put {P} {s} {t} n v w is both = rw is record {
  size = length-set s n w ∙ both.size ∙ sym (length-set t n w);
  same = λ m h. elim (cases_eq m n) [
    | inl here ↦ elim (cases_lt n (length s)) [
      | inl within ↦ get_or-set_at s n m w 0 here within ∙ sym (get_or-set_at t n m w 0 here (omega (arith, both.size)))
      | inr past ↦ rw (set_past s n w past, set_past t n w (omega (arith, both.size))) (get_or_past s m 0 (omega (arith, here)) ∙ sym (get_or_past t m 0 (omega (arith, here, both.size))))
    ]
    | inr other ↦ get_or-set_other s n m w 0 other ∙ both.same m (h, other) ∙ sym (get_or-set_other t n m w 0 other)
  ];
}

-- a number that is none of them
is_field : (n : ℕ) → n ≢ ENTRIES_0 → n ≢ ENTRIES_1 → n ≢ NAL_TYPE → n ≢ EXTRA_SH_BITS → n ≢ DEFAULT_ACTIVE_0 → n ≢ DEFAULT_ACTIVE_1 → IsFalse (has beside n)
is_field n a b c d e f = elim (cases_Bool (has beside n)) [
  | inl is ↦
      let P : ℕ → Type 0 = λ m. n ≢ m in
      let last : All P (DEFAULT_ACTIVE_1 ∷ []) = All-cons P DEFAULT_ACTIVE_1 [] f (All-nil P) in
      let two : All P (DEFAULT_ACTIVE_0 ∷ DEFAULT_ACTIVE_1 ∷ []) = All-cons P DEFAULT_ACTIVE_0 (DEFAULT_ACTIVE_1 ∷ []) e last in
      let three : All P (EXTRA_SH_BITS ∷ DEFAULT_ACTIVE_0 ∷ DEFAULT_ACTIVE_1 ∷ []) = All-cons P EXTRA_SH_BITS (DEFAULT_ACTIVE_0 ∷ DEFAULT_ACTIVE_1 ∷ []) d two in
      let four : All P (NAL_TYPE ∷ EXTRA_SH_BITS ∷ DEFAULT_ACTIVE_0 ∷ DEFAULT_ACTIVE_1 ∷ []) = All-cons P NAL_TYPE (EXTRA_SH_BITS ∷ DEFAULT_ACTIVE_0 ∷ DEFAULT_ACTIVE_1 ∷ []) c three in
      let five = All-cons P ENTRIES_1 (NAL_TYPE ∷ EXTRA_SH_BITS ∷ DEFAULT_ACTIVE_0 ∷ DEFAULT_ACTIVE_1 ∷ []) b four in
      let all : All P beside = All-cons P ENTRIES_0 (ENTRIES_1 ∷ NAL_TYPE ∷ EXTRA_SH_BITS ∷ DEFAULT_ACTIVE_0 ∷ DEFAULT_ACTIVE_1 ∷ []) a five in
      absurd (named P beside n all is refl)
  | inr is_not ↦ is_not
]

pub slice_scopes_agree : SliceScopesAgree
unfolding with_header
slice_scopes_agree fields nal_type sps other_sps pps other_pps header other same_sps same_pps same_header extra first_default second_default first second =
    let is = put {P = λ n. IsTrue (has fields n)} DEFAULT_ACTIVE_1 (default_active pps 1) (default_active other_pps 1) second_default
    (put DEFAULT_ACTIVE_0 (default_active pps 0) (default_active other_pps 0) first_default
    (put EXTRA_SH_BITS (extra_sh_bits_of sps) (extra_sh_bits_of other_sps) extra
    (put NAL_TYPE nal_type nal_type refl
    (put ENTRIES_1 (length header.lists.second) (length other.lists.second) second
    (put ENTRIES_0 (length header.lists.first) (length other.lists.first) first
    (record {
      size = with_header_length sps pps header.fields ∙ sym (with_header_length other_sps other_pps other.fields);
      same = λ n h.
          let ((((((there, f), e), d), c), b), a) = h in
          elim (cases_lt n pps_pic_parameter_set_id) [
            | inl below ↦ header_from_sps sps pps header.fields n below ∙ named (λ m. m < pps_pic_parameter_set_id → number sps m ≡ number other_sps m) fields n same_sps there below
                ∙ sym (header_from_sps other_sps other_pps other.fields n below)
            | inr past ↦ elim (cases_lt n ph_gdr_or_irap_pic_flag) [
              | inl below ↦ header_from_pps sps pps header.fields n past below
                  ∙ named (λ m. pps_pic_parameter_set_id ≤ m → m < ph_gdr_or_irap_pic_flag → number pps m ≡ number other_pps m) fields n same_pps there past below
                  ∙ sym (header_from_pps other_sps other_pps other.fields n past below)
              | inr behind ↦ header_from_header sps pps header.fields n behind
                  ∙ named (λ m. ph_gdr_or_irap_pic_flag ≤ m → IsFalse (has beside m) → number header.fields m ≡ number other.fields m) fields n same_header there behind (is_field n a b c d e f)
                  ∙ sym (header_from_header other_sps other_pps other.fields n behind)
            ]
          ];
    })))))) in
    record { size = is.size; same = is.same }

pub slice_scopes_are_whole : SliceScopesAreWhole
unfolding with_header
slice_scopes_are_whole nal_type sps pps header =
    length-set _ DEFAULT_ACTIVE_1 (default_active pps 1) ∙ length-set _ DEFAULT_ACTIVE_0 (default_active pps 0) ∙ length-set _ EXTRA_SH_BITS (extra_sh_bits_of sps)
    ∙ length-set _ NAL_TYPE nal_type ∙ length-set _ ENTRIES_1 (length header.lists.second) ∙ length-set _ ENTRIES_0 (length header.lists.first)
    ∙ with_header_length sps pps header.fields
