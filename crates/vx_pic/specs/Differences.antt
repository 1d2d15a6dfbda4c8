-- The first difference of two decoding inputs. Our own. The contract of `same_input` relies on it.
use Rattle.std.specs.Prelude.{◌≡◌, ◌⊎◌, ℕ, ◌+◌, cond, List, [], ◌∷◌, ◌++◌, Option, Some, None, unwrap_or}
use Rattle.vx_bits.specs.declared.list.Item.{Item}
use Rattle.vx_pic.specs.declared.compare.Difference.{Difference}
use Rattle.vx_pic.specs.Sets.{same_item}
use Rattle.vx_pic.specs.Inputs.{Input}

-- The field at the first place where two lists of items differ: the first list's there, or the second's if the first has ended.
abbrev pub differing_field : List Item → List Item → Option ℕ
differing_field [] [] = None
differing_field [] (b ∷ others) = Some b.field
differing_field (a ∷ items) [] = Some a.field
differing_field (a ∷ items) (b ∷ others) = cond (same_item a b) (differing_field items others) (Some a.field)

-- A part of two inputs: that they are the same in it, and the field that is named if they aren't.
pub record Part : Type 1 where
  pub same : Type 0
  pub field : ℕ

-- A list of kept fields, and any other part, for which no field is named.
abbrev pub fields_part : List Item → List Item → Part
fields_part items others = record { same = items ≡ others; field = unwrap_or (differing_field items others) 0 }

abbrev pub whole_part : {A : Type 0} → A → A → Part
whole_part x y = record { same = x ≡ y; field = 0 }

-- The parts, in their order.
abbrev pub parts_in_headers : Input → Input → List Part
parts_in_headers a b =
    whole_part a.kind b.kind ∷ fields_part a.sps b.sps ∷ fields_part a.pps b.pps ∷ fields_part a.header b.header
    ∷ fields_part a.slice b.slice ∷ []

abbrev pub parts_in_force : Input → Input → List Part
parts_in_force a b =
    whole_part a.alf b.alf ∷ whole_part a.lmcs b.lmcs ∷ whole_part a.scaling b.scaling ∷ whole_part a.lists b.lists
    ∷ whole_part a.slice_qp b.slice_qp ∷ whole_part a.place b.place ∷ whole_part a.payload b.payload ∷ []

-- This is the first part in which they aren't the same; parts are numbered from here on.
abbrev pub DiffersFirst : List Part → ℕ → Difference → Type 0
DiffersFirst [] n d = ⊥
DiffersFirst (p ∷ more) n d = (¬ p.same × (d ≡ record { part = n; field = p.field })) ⊎ (p.same × DiffersFirst more (n + 1) d)

-- The result for two inputs: that they are equal, or their first difference.
abbrev pub IsDifference : Input → Input → Option Difference → Type 0
IsDifference a b None = a ≡ b
IsDifference a b (Some d) = DiffersFirst (parts_in_headers a b ++ parts_in_force a b) 1 d
