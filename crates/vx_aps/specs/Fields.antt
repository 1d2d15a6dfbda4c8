-- The fields of an adaptation parameter set in bytes (H.266 7.3.2.6), up to the first that is refused. The contract of
-- `read_aps_fields` relies on it.
use Rattle.std.specs.Prelude.{◌≡◌, ℕ, pos, List, [], ◌∷◌, length, Option, Some, None, Result, Ok, Err}
use Rattle.vx_bits.specs.declared.list.Item.{Item}
use Rattle.vx_bits.specs.declared.refusal.Refusal.{Refusal}
use Rattle.vx_fields.specs.declared.aps.TheConstants.{aps_params_type, aps_adaptation_parameter_set_id}
use Rattle.vx_aps.specs.declared.aps.Aps.{Aps}
use Rattle.vx_aps.specs.declared.fields.ApsFields.{ApsFields}
use Rattle.vx_aps.specs.Aps.{IsAnswer, IsRefusedAps, no_type, no_such_id, no_body, bad_end}

-- aps_params_type, and aps_adaptation_parameter_set_id (7.3.2.6).
abbrev pub type_item : ℕ → Item
type_item kind = record { field = aps_params_type; value = pos kind }

abbrev pub id_item : ℕ → Item
id_item id = record { field = aps_adaptation_parameter_set_id; value = pos id }

-- Only a type, whose id is refused (our own).
abbrev pub with_type : ℕ → ApsFields
with_type kind = record { items = type_item kind ∷ []; body = None }

-- A type and an id, and a body with this number of bytes, unless it is refused (our own).
abbrev pub with_id : ℕ → ℕ → Option ℕ → ApsFields
with_id kind id body = record { items = type_item kind ∷ id_item id ∷ []; body = body }

-- Those before a refusal (our own).
abbrev pub before_refusal : (rbsp : List ℕ) (r : Refusal) → IsRefusedAps rbsp r → ApsFields
before_refusal rbsp r (no_type none) = record { items = []; body = None }
before_refusal rbsp r (no_such_id kind id body bytes known five_bits lacks) = with_type kind
before_refusal rbsp r (no_body kind id bytes known has) = with_id kind id None
before_refusal rbsp r (bad_end kind id body bytes known has ends) = with_id kind id None

-- Those of bytes, by what they are (our own).
abbrev pub fields_in : (rbsp : List ℕ) (answer : Result (Option Aps) Refusal) → IsAnswer rbsp answer → ApsFields
fields_in rbsp (Ok (Some aps)) is = with_id aps.kind aps.id (Some (length aps.body))
fields_in rbsp (Ok None) is = with_id is.kind is.id (Some (length is.body))
fields_in rbsp (Err r) is = before_refusal rbsp r is

-- They are the fields of these bytes.
abbrev pub AreFields : List ℕ → ApsFields → Type 0
AreFields rbsp fields = (answer : Result (Option Aps) Refusal) (is : IsAnswer rbsp answer) → fields ≡ fields_in rbsp answer is
