-- The TemporalId of a unit that is made.
use Rattle.std.proofs.Common.{◌≡◌, ℕ, zero, suc, ◌+◌, ◌*◌, ◌<◌, ◌%◌, Bool, List, [], ◌∷◌, ◌++◌, length, refl, ap, ◌∙◌, inl, inr, arith}
use Rattle.std.specs.Prelude.{slice_index, if◌then◌else◌}
use Rattle.std.proofs.lemmas.Bool.{cases_Bool}
use Rattle.vx_annexb.specs.Emulation.{is_emulation, unescaped_to}
use Rattle.vx_pic.specs.declared.unit_types.TheConstants as types
use Rattle.vx_pic.specs.Units.{temporal_id}
use Rattle.vx_pic.specs.Written.{Set, an_sps, a_pps, an_aps}
use Rattle.vx_write.specs.Units.{IsUnitOf, IsSetUnit}
use Rattle.vx_write.specs.Sets.{unit_tid}

-- emulation prevention leaves the first two bytes
first_two : (n : List ℕ) (k : ℕ) → (more : List ℕ) × (unescaped_to n (suc (suc k)) ≡ slice_index n 0 ∷ slice_index n 1 ∷ more)
first_two n zero = ([], refl)
first_two n (suc k) =
    let front = first_two n k in
    let place : ℕ = suc (suc k) in
    let taken = λ (b : Bool). if b then unescaped_to n place else unescaped_to n place ++ slice_index n place ∷ [] in
    elim (cases_Bool (is_emulation n place)) [
      | inl stuffed ↦ (front.0, ap taken stuffed ∙ front.1)
      | inr plain ↦ (front.0 ++ slice_index n place ∷ [], ap taken plain ∙ ap (λ xs. xs ++ slice_index n place ∷ []) front.1)
    ]

second : (nal t : ℕ) (rbsp unit : List ℕ) → IsUnitOf nal t rbsp unit → slice_index unit 1 ≡ nal * 8 + (t + 1)
second nal t rbsp [] is = let e = is.is in absurd (cc)
second nal t rbsp (x ∷ []) is = let e = is.is in absurd (cc)
second nal t rbsp (x ∷ y ∷ rest) is =
    let e = is.is ∙ (first_two (x ∷ y ∷ rest) (length rest)).1 in cc

tid : (nal t : ℕ) (rbsp unit : List ℕ) → t < 7 → IsUnitOf nal t rbsp unit → t ≡ temporal_id unit
tid nal t rbsp unit small is =
    let e = second nal t rbsp unit is in
    let m : slice_index unit 1 % 8 ≡ t + 1 = rw e (omega arith) in
    omega (arith, m)

pub tid_is : (t : ℕ) (s : Set) (unit : List ℕ) → t < 7 → IsSetUnit t s unit → unit_tid t s ≡ temporal_id unit
tid_is t (an_sps items) unit small is = let low : 0 < 7 = omega arith in tid types.SPS_NUT 0 is.0 unit low is.2
tid_is t (a_pps items) unit small is = tid types.PPS_NUT t is.0 unit small is.2
tid_is t (an_aps a) unit small is = tid types.PREFIX_APS_NUT t _ unit small is
