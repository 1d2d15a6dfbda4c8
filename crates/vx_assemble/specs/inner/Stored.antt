-- Parameter sets that are stored, each read from an RBSP as readers of H.266 do.
use Rattle.std.specs.Prelude.{◌≡◌, ◌==◌, ℕ, cond, List, length, Option, Some, None, Result, Ok}
use Rattle.std.specs.List.{slice_index_or}
use Rattle.std.specs.Option.{option_or}
use Rattle.vx_bits.specs.declared.refusal.Refusal.{Refusal}
use Rattle.vx_pic.specs.Rules.{Readers}
use Rattle.vx_pic.specs.H266.{AreOfH266}

-- The set is read from these bytes.
abbrev pub IsReadAs : {S : Type 0} → (Readers → List ℕ → Result S Refusal) → S → List ℕ → Type 0
IsReadAs reads set rbsp = (R : Readers) → AreOfH266 R → reads R rbsp ≡ Ok set

-- A set that is stored under this id, which is its own, is read from these bytes.
pub record IsSentAgain {S : Type 0} (reads : Readers → List ℕ → Result S Refusal) (id_of : S → ℕ) (sets : List (Option S)) (rbsp : List ℕ) (id : ℕ)
    : Type 0 where
  pub set : S
  pub stored : slice_index_or sets id None ≡ Some set
  pub own : id ≡ id_of set
  pub read : IsReadAs reads set rbsp

-- What sets made up is kept if they are stored unchanged, or isn't kept.
abbrev pub KeepsMade : {S M : Type 0} → List (Option S) → List (Option S) → Option M → Option M → Type 0
KeepsMade old new made None = Unit {0}
KeepsMade old new made (Some m) = (new ≡ old) × (made ≡ Some m)

-- The set of these bytes is stored under its id, and each other one is unchanged.
pub record IsPut {S M : Type 0} (reads : Readers → List ℕ → Result S Refusal) (id_of : S → ℕ) (old new : List (Option S)) (made made' : Option M)
    (rbsp : List ℕ) (id : ℕ) : Type 0 where
  pub set : S
  pub read : IsReadAs reads set rbsp
  pub own : id ≡ id_of set
  pub stands : (n : ℕ) → slice_index_or new n None ≡ option_or (cond (id_of set == n) (Some set) None) (slice_index_or old n None)
  pub places : length new ≡ length old
  pub kept : KeepsMade old new made made'
