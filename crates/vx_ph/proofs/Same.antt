-- Sets with the same kept fields are the same for headers.
use Rattle.std.proofs.Common.{◌≡◌, ◌≢◌, ℕ, ◌<◌, ◌≤◌, ◌==◌, ◌&&◌, ◌||◌, true, Bool, IsTrue, List, [], ◌∷◌, refl, ap, sym, ◌∙◌, inl, inr, arith}
use Rattle.std.specs.Prelude.{All, nat_le, nat_lt}
use Rattle.std.proofs.lemmas.Bool.{and_parts, eqb-true, leb-true, ltb-true, or_cases}
use Rattle.std.proofs.lemmas.List.Elements.{All-cons, All-nil}
use Rattle.vx_bits.specs.declared.list.Item.{Item}
use Rattle.vx_fields.specs.declared.sps.TheConstants as sps_fields
use Rattle.vx_fields.specs.declared.names.ph.TheConstants.{EXTRA_PH_BITS}
use Rattle.vx_table.specs.Depends.{Agree, has}
use Rattle.vx_table.specs.Loaded.{number}
use Rattle.vx_table.specs.Scope.{capped, fresh, is_set, natural}
use Rattle.vx_table.proofs.Loading.{number_of_shown}
use Rattle.vx_layout.proofs.Counting.{count_by-filter_all}
use Rattle.vx_rpl.specs.HeaderLists.{lists_of}
use Rattle.vx_rpl.specs.Resolved.{table_of}
use Rattle.vx_rpl.proofs.Following.{lists_follow_items, tables_follow_items}
use Rattle.vx_sps.specs.Depends as sps_set
use Rattle.vx_sps.specs.Set.{extra_ph_bits_of, extra_sh_bits_of, is_weighted, set_flags}
use Rattle.vx_pps.specs.Pps.{default_active, kept_pps_fields}
use Rattle.vx_pps.specs.laws.Sets as pps_set
use Rattle.vx_pps.proofs.Fields.{all_pass, passes, same_with, with_field}
use Rattle.vx_pps.proofs.Numbered.{kept_tells_numbers}
use Rattle.vx_ph.specs.Depends.{kept_for_starred}
use Rattle.vx_ph.specs.InForce.{in_force, structures}
use Rattle.vx_ph.specs.Reshaped.{AgreeOnKept, HaveSameKept, SameKeptAgree}
use Rattle.vx_ph.proofs.Sets.{sets_agree}

-- ---- flags of a field

every : (P : Item → Type 0) → ((x : Item) → P x) → (items : List Item) → All P items
every P each [] = All-nil P
every P each (x ∷ items) = All-cons P x items (each x) (every P each items)

-- they are told by its items
flags_with : (of : ℕ) (items : List Item) → set_flags of items ≡ set_flags of (with_field of items)
flags_with of items =
    let test : Item → Bool = λ item. item.field == of && is_set (natural item.value) in
    ap capped (sym (count_by-filter_all test (λ item. item.field == of) items (every (λ x. test x ≡ true → (x.field == of) ≡ true) (λ x h. (and_parts (x.field == of) (is_set (natural x.value)) h).0) items)))

same_flags : (of : ℕ) (items others : List Item) → with_field of items ≡ with_field of others → set_flags of items ≡ set_flags of others
same_flags of items others same = flags_with of items ∙ ap (λ xs. set_flags of xs) same ∙ sym (flags_with of others)

-- ---- numbers

-- kept fields of an SPS, and what is none of one; kept fields of a PPS, and what is none of one
abbrev pub of_sps : ℕ → Bool
of_sps n = nat_le 400 n || has sps_set.kept_sps_fields n

abbrev pub of_pps : ℕ → Bool
of_pps n = (nat_lt n 400 || nat_le 600 n) || has kept_pps_fields n

-- and the one that isn't a field
abbrev of_headers : ℕ → Bool
of_headers n = of_pps n && (nat_lt n 600 || n == EXTRA_PH_BITS)

all_are : (passes of_sps kept_for_starred ≡ true) × (passes of_headers kept_for_starred ≡ true)
unfolding fresh
all_are = (refl, refl)

module _ (sps pps other_sps other_pps : List Item) (same : HaveSameKept sps pps other_sps other_pps) where
  same_sps : sps_set.kept_sps_items sps ≡ sps_set.kept_sps_items other_sps
  same_sps = sym same.of_sps

  pub sps_number : (n : ℕ) → IsTrue (has sps_set.kept_sps_fields n) → number sps n ≡ number other_sps n
  sps_number n is = number_of_shown sps_set.kept_sps_fields n sps is ∙ ap (λ xs. number xs n) same_sps ∙ sym (number_of_shown sps_set.kept_sps_fields n other_sps is)

  pub sps_numbers : (n : ℕ) → of_sps n ≡ true → n < 400 → number sps n ≡ number other_sps n
  sps_numbers n pass low = elim (or_cases (nat_le 400 n) (has sps_set.kept_sps_fields n) pass) [
    | inl high ↦ absurd (omega (arith, low, leb-true 400 n high))
    | inr is ↦ sps_number n is
  ]

  gives : pps_set.GiveSame pps other_pps
  gives = kept_tells_numbers pps other_pps same.is_pps same.is_other_pps (sym same.of_pps)

  pub pps_numbers : (n : ℕ) → of_pps n ≡ true → 400 ≤ n → n < 600 → number pps n ≡ number other_pps n
  pps_numbers n pass from upto = elim (or_cases (nat_lt n 400 || nat_le 600 n) (has kept_pps_fields n) pass) [
    | inl out ↦ elim (or_cases (nat_lt n 400) (nat_le 600 n) out) [
      | inl low ↦ absurd (omega (arith, from, ltb-true n 400 low))
      | inr high ↦ absurd (omega (arith, upto, leb-true 600 n high))
    ]
    | inr is ↦ gives.numbers n is
  ]

  pub active : (list : ℕ) → default_active pps list ≡ default_active other_pps list
  active list = gives.active list

  extra_ph : extra_ph_bits_of sps ≡ extra_ph_bits_of other_sps
  unfolding fresh
  extra_ph = same_flags sps_fields.sps_extra_ph_bit_present_flag sps other_sps (same_with sps_set.kept_sps_fields sps_fields.sps_extra_ph_bit_present_flag sps other_sps refl same_sps)

  pub extra_sh : extra_sh_bits_of sps ≡ extra_sh_bits_of other_sps
  unfolding fresh
  extra_sh = same_flags sps_fields.sps_extra_sh_bit_present_flag sps other_sps (same_with sps_set.kept_sps_fields sps_fields.sps_extra_sh_bit_present_flag sps other_sps refl same_sps)

  weighted : is_weighted sps ≡ is_weighted other_sps
  unfolding fresh
  weighted =
      let first = sps_number sps_fields.sps_weighted_pred_flag refl in
      let second = sps_number sps_fields.sps_weighted_bipred_flag refl in
      rw (first, second) refl

  same_tables : structures sps ≡ structures other_sps
  unfolding fresh
  same_tables = ap (λ b. table_of b sps) weighted ∙ tables_follow_items (is_weighted other_sps) sps_set.kept_sps_fields sps other_sps refl refl same_sps

  numbers_agree : Agree kept_for_starred (in_force sps pps) (in_force other_sps other_pps)
  numbers_agree = sets_agree kept_for_starred sps other_sps pps other_pps
      (all_pass of_sps (λ n. n < 400 → number sps n ≡ number other_sps n) sps_numbers kept_for_starred all_are.0)
      (all_pass of_headers (λ n. 400 ≤ n → n ≢ EXTRA_PH_BITS → number pps n ≡ number other_pps n)
      (λ n pass from other. let parts = and_parts (of_pps n) (nat_lt n 600 || n == EXTRA_PH_BITS) pass in elim (or_cases (nat_lt n 600) (n == EXTRA_PH_BITS) parts.1) [
        | inl low ↦ pps_numbers n parts.0 from (ltb-true n 600 low)
        | inr is ↦ absurd (other (eqb-true n EXTRA_PH_BITS is))
      ]) kept_for_starred all_are.1)
      extra_ph

  pub agree_on_kept : AgreeOnKept sps pps other_sps other_pps
  unfolding fresh
  agree_on_kept = record {
    same_structures = same_tables;
    numbers = numbers_agree;
    lists = λ names items others run alike.
        lists_follow_items (structures sps) kept_for_starred (in_force sps pps) (in_force other_sps other_pps) names items others numbers_agree refl refl refl refl run alike
        ∙ ap (λ t. lists_of t (in_force other_sps other_pps) others) same_tables;
  }

pub same_kept_agree : SameKeptAgree
same_kept_agree sps pps other_sps other_pps same = agree_on_kept sps pps other_sps other_pps same
