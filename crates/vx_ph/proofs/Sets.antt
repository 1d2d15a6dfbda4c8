-- Scopes of sets that give fields the same numbers.
use Rattle.std.proofs.Common.{◌≡◌, ◌≢◌, ℕ, ◌<◌, ◌≤◌, List, [], ◌∷◌, length, ◌-◌, take, drop, replicate, slice_index, slice_set, inl, inr, refl, ap, sym, ◌∙◌, arith}
use Rattle.std.proofs.lemmas.Bool.{cases_eq, cases_lt}
use Rattle.std.proofs.lemmas.Grind.{get_or-set_at}
use Rattle.std.proofs.lemmas.List.{get_or_append_left, get_or-append_right, get_or-take, get_or-drop, get_or-set_other, length-append, length-take, length-drop, length-set, length-replicate}
use Rattle.vx_bits.specs.declared.list.Item.{Item}
use Rattle.vx_table.specs.Scope.{natural, fresh, loaded, joined}
use Rattle.vx_table.specs.Loaded.{number}
use Rattle.vx_fields.specs.declared.pps.TheConstants.{pps_pic_parameter_set_id}
use Rattle.vx_fields.specs.declared.names.ph.TheConstants.{EXTRA_PH_BITS}
use Rattle.vx_sps.specs.Set.{extra_ph_bits_of}
use Rattle.vx_pps.proofs.Fields.{named}
use Rattle.vx_ph.specs.InForce.{both_sets, in_force, SetsAgree}

-- ---- two scopes joined

pub joined_length : (from : ℕ) (s t : List ℕ) → length s ≡ length t → from ≤ length s → length (joined from s t) ≡ length s
joined_length from s t same within =
    length-append (take from s) (drop from t) ∙ omega (arith, length-take from s, length-drop from t, same, within)

pub joined_below : (from : ℕ) (s t : List ℕ) (n : ℕ) → from ≤ length s → n < from → slice_index (joined from s t) n ≡ slice_index s n
joined_below from s t n within below =
    get_or_append_left (take from s) (drop from t) 0 n (omega (arith, length-take from s, within, below)) ∙ get_or-take from s n 0 below

pub joined_from : (from : ℕ) (s t : List ℕ) (n : ℕ) → from ≤ length s → from ≤ n → slice_index (joined from s t) n ≡ slice_index t n
joined_from from s t n within past =
    get_or-append_right (take from s) (drop from t) from n 0 (omega (arith, length-take from s, within)) past
    ∙ get_or-drop from t (n - from) 0 ∙ ap (slice_index t) (omega (arith, past))

-- ---- sets in force

loaded_length : (s : List ℕ) (items : List Item) → length (loaded s items) ≡ length s
loaded_length s [] = refl
loaded_length s (item ∷ items) = loaded_length (slice_set s item.field (natural item.value)) items ∙ length-set s item.field (natural item.value)

pub fresh_length : (items : List Item) → length (loaded fresh items) ≡ 1024
unfolding fresh
fresh_length items = loaded_length (replicate 1024 0) items ∙ length-replicate {A = ℕ} 1024 0

both_length : (sps pps : List Item) → length (joined pps_pic_parameter_set_id (loaded fresh sps) (loaded fresh pps)) ≡ 1024
both_length sps pps = joined_length pps_pic_parameter_set_id (loaded fresh sps) (loaded fresh pps) (fresh_length sps ∙ sym (fresh_length pps)) (omega (arith, fresh_length sps)) ∙ fresh_length sps

pub in_force_length : (sps pps : List Item) → length (in_force sps pps) ≡ 1024
unfolding both_sets in_force
in_force_length sps pps = length-set (joined pps_pic_parameter_set_id (loaded fresh sps) (loaded fresh pps)) EXTRA_PH_BITS (extra_ph_bits_of sps) ∙ both_length sps pps

-- a number is the SPS's, the PPS's or that of the extra bits
pub of_sps : (sps pps : List Item) (n : ℕ) → n < pps_pic_parameter_set_id → slice_index (in_force sps pps) n ≡ number sps n
unfolding both_sets in_force
of_sps sps pps n below =
    let both = joined pps_pic_parameter_set_id (loaded fresh sps) (loaded fresh pps) in
    get_or-set_other both EXTRA_PH_BITS n (extra_ph_bits_of sps) 0 (λ is. absurd (omega (arith, is, below)))
    ∙ joined_below pps_pic_parameter_set_id (loaded fresh sps) (loaded fresh pps) n (omega (arith, fresh_length sps)) below

pub of_pps : (sps pps : List Item) (n : ℕ) → pps_pic_parameter_set_id ≤ n → n ≢ EXTRA_PH_BITS → slice_index (in_force sps pps) n ≡ number pps n
unfolding both_sets in_force
of_pps sps pps n past other =
    let both = joined pps_pic_parameter_set_id (loaded fresh sps) (loaded fresh pps) in
    get_or-set_other both EXTRA_PH_BITS n (extra_ph_bits_of sps) 0 other
    ∙ joined_from pps_pic_parameter_set_id (loaded fresh sps) (loaded fresh pps) n (omega (arith, fresh_length sps)) past

pub of_extra : (sps pps : List Item) → slice_index (in_force sps pps) EXTRA_PH_BITS ≡ extra_ph_bits_of sps
unfolding both_sets in_force
of_extra sps pps =
    let both = joined pps_pic_parameter_set_id (loaded fresh sps) (loaded fresh pps) in
    get_or-set_at both EXTRA_PH_BITS EXTRA_PH_BITS (extra_ph_bits_of sps) 0 refl (omega (arith, both_length sps pps))

pub sets_agree : SetsAgree
sets_agree fields sps other_sps pps other_pps same_sps same_pps same_extra = record {
  size = in_force_length sps pps ∙ sym (in_force_length other_sps other_pps);
  same = λ n there. elim (cases_lt n pps_pic_parameter_set_id) [
    | inl below ↦ of_sps sps pps n below ∙ named (λ m. m < pps_pic_parameter_set_id → number sps m ≡ number other_sps m) fields n same_sps there below
        ∙ sym (of_sps other_sps other_pps n below)
    | inr past ↦ elim (cases_eq n EXTRA_PH_BITS) [
      | inl is ↦ rw is (of_extra sps pps ∙ same_extra ∙ sym (of_extra other_sps other_pps))
      | inr other ↦ of_pps sps pps n past other
          ∙ named (λ m. pps_pic_parameter_set_id ≤ m → m ≢ EXTRA_PH_BITS → number pps m ≡ number other_pps m) fields n same_pps there past other
          ∙ sym (of_pps other_sps other_pps n past other)
    ]
  ];
}
