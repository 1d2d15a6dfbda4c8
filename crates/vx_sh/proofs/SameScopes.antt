-- Slices under sets and picture headers with the same kept fields find the same numbers in them.
use Rattle.std.proofs.Common.{◌≡◌, ℕ, ◌<◌, ◌≤◌, ◌||◌, true, Bool, IsFalse, List, length, slice_index, inl, inr, refl, ap, sym, ◌∙◌, arith}
use Rattle.std.specs.Prelude.{nat_lt}
use Rattle.std.proofs.lemmas.Bool.{both_ways, ltb-true, or_cases}
use Rattle.std.proofs.lemmas.List.{get_or-set_other}
use Rattle.vx_bits.specs.declared.list.Item.{Item}
use Rattle.vx_fields.specs.declared.names.rpl.TheConstants.{ENTRIES_0, ENTRIES_1}
use Rattle.vx_fields.specs.declared.names.sh.TheConstants.{NAL_TYPE, EXTRA_SH_BITS, DEFAULT_ACTIVE_0, DEFAULT_ACTIVE_1}
use Rattle.vx_table.specs.Depends.{has}
use Rattle.vx_table.specs.Loaded.{number}
use Rattle.vx_table.specs.Scope.{fresh}
use Rattle.vx_table.proofs.Loading.{number_of_shown}
use Rattle.vx_sps.specs.Set.{extra_sh_bits_of}
use Rattle.vx_pps.specs.Pps.{default_active}
use Rattle.vx_pps.proofs.Fields.{all_pass, passes}
use Rattle.vx_ph.specs.declared.header.PictureHeader.{PictureHeader}
use Rattle.vx_ph.specs.Depends as ph
use Rattle.vx_ph.specs.InForce.{in_force}
use Rattle.vx_ph.proofs.Same.{active, extra_sh, of_pps, of_sps, pps_numbers, sps_numbers}
use Rattle.vx_sh.specs.InForce.{beside, slice_scope}
use Rattle.vx_sh.specs.Reshaped.{AreSameForSlices, SlicesAgreeOnKept, kept_in_force}
use Rattle.vx_sh.proofs.Scopes.{header_from_header, header_from_pps, header_from_sps, slice_scopes_agree, with_header}

-- kept fields of a picture header, what stands beside, and what is neither
abbrev of_header : ℕ → Bool
of_header n = nat_lt n 600 || (has beside n || has ph.kept_ph_fields n)

all_are : (passes of_sps kept_in_force ≡ true) × (passes of_pps kept_in_force ≡ true) × (passes of_header kept_in_force ≡ true)
unfolding fresh
all_are = (refl, refl, refl)

header_number : (header other : PictureHeader) → AreSameForSlices header other → (n : ℕ) → of_header n ≡ true → 600 ≤ n → IsFalse (has beside n)
    → number header.fields n ≡ number other.fields n
header_number header other same n pass from out = elim (or_cases (nat_lt n 600) (has beside n || has ph.kept_ph_fields n) pass) [
  | inl low ↦ absurd (omega (arith, from, ltb-true n 600 low))
  | inr some ↦ elim (or_cases (has beside n) (has ph.kept_ph_fields n) some) [
    | inl is_beside ↦ absurd (both_ways _ out is_beside)
    | inr is ↦ number_of_shown ph.kept_ph_fields n header.fields is ∙ ap (λ xs. number xs n) (sym same.fields) ∙ sym (number_of_shown ph.kept_ph_fields n other.fields is)
  ]
]

pub slices_agree_on_kept : SlicesAgreeOnKept
slices_agree_on_kept nal_type sps pps other_sps other_pps header other same same_header =
    slice_scopes_agree kept_in_force nal_type sps other_sps pps other_pps header other
    (all_pass of_sps (λ n. n < 400 → number sps n ≡ number other_sps n) (sps_numbers sps pps other_sps other_pps same) kept_in_force all_are.0)
    (all_pass of_pps (λ n. 400 ≤ n → n < 600 → number pps n ≡ number other_pps n) (pps_numbers sps pps other_sps other_pps same) kept_in_force all_are.1)
    (all_pass of_header (λ n. 600 ≤ n → IsFalse (has beside n) → number header.fields n ≡ number other.fields n) (header_number header other same_header) kept_in_force all_are.2)
    (extra_sh sps pps other_sps other_pps same) (active sps pps other_sps other_pps same 0) (active sps pps other_sps other_pps same 1) (sym same_header.first) (sym same_header.second)

-- ---- the numbers of fields in the scope of a slice

module _ (nal_type : ℕ) (sps pps : List Item) (header : PictureHeader) where
  from_sets : (n : ℕ) → n < 800 → slice_index (slice_scope nal_type sps pps header (in_force sps pps)) n ≡ slice_index (with_header sps pps header.fields) n
  unfolding with_header
  from_sets n low =
      get_or-set_other _ DEFAULT_ACTIVE_1 n (default_active pps 1) 0 (λ e. absurd (omega (arith, e, low)))
      ∙ get_or-set_other _ DEFAULT_ACTIVE_0 n (default_active pps 0) 0 (λ e. absurd (omega (arith, e, low)))
      ∙ get_or-set_other _ EXTRA_SH_BITS n (extra_sh_bits_of sps) 0 (λ e. absurd (omega (arith, e, low)))
      ∙ get_or-set_other _ NAL_TYPE n nal_type 0 (λ e. absurd (omega (arith, e, low)))
      ∙ get_or-set_other _ ENTRIES_1 n (length header.lists.second) 0 (λ e. absurd (omega (arith, e, low)))
      ∙ get_or-set_other _ ENTRIES_0 n (length header.lists.first) 0 (λ e. absurd (omega (arith, e, low)))

  pub sps_told : (n : ℕ) → n < 400 → slice_index (slice_scope nal_type sps pps header (in_force sps pps)) n ≡ number sps n
  sps_told n low = from_sets n (omega (arith, low)) ∙ header_from_sps sps pps header.fields n low

  pub pps_told : (n : ℕ) → 400 ≤ n → n < 600 → slice_index (slice_scope nal_type sps pps header (in_force sps pps)) n ≡ number pps n
  pps_told n from low = from_sets n (omega (arith, low)) ∙ header_from_pps sps pps header.fields n from low

  pub header_told : (n : ℕ) → 600 ≤ n → n < 800 → slice_index (slice_scope nal_type sps pps header (in_force sps pps)) n ≡ number header.fields n
  header_told n from low = from_sets n low ∙ header_from_header sps pps header.fields n from
