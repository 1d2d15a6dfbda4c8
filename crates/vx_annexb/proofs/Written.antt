-- Units that are written one behind the other are Annex B's concatenation.
use Rattle.std.proofs.Common.{◌≡◌, ℕ, true, List, [], ◌∷◌, ◌++◌, None, replicate, flat_map, map, sym, ap, subst, ◌∙◌, refl, append_assoc}
use Rattle.std.specs.List.{All}
use Rattle.vx_annexb.specs.ByteStream.{unit_bytes, IsStream}
use Rattle.vx_annexb.specs.Laws.{Part, part_bytes, annex_b, places_from, units_of, CanStand, written, WrittenIsAnnexB, WrittenIsStream}
use Rattle.vx_annexb.proofs.AnnexB.{annex_b_is_stream}

-- a zero_byte stands before units, if there are any
abbrev zeros_before : List (List ℕ) → ℕ
zeros_before [] = 0
zeros_before (u ∷ us) = 1

abbrev parts_of : List (List ℕ) → List Part
parts_of [] = []
parts_of (u ∷ us) = record { unit = u; zeros = zeros_before us } ∷ parts_of us

parts_units : (units : List (List ℕ)) → units_of (parts_of units) ≡ units
parts_units [] = refl
parts_units (u ∷ us) = ap (λ (xs : List (List ℕ)). u ∷ xs) (parts_units us)

written_parts : (units : List (List ℕ)) → written units ≡ annex_b (zeros_before units) (parts_of units)
written_parts [] = refl
written_parts (u ∷ us) =
    ap (λ (xs : List ℕ). 0 ∷ 0 ∷ 0 ∷ 1 ∷ xs)
    (ap (λ xs. u ++ xs) (written_parts us) ∙ sym (append_assoc u (replicate (zeros_before us) 0) (flat_map part_bytes (parts_of us))))

pub written_is_annex_b : WrittenIsAnnexB
written_is_annex_b units = (zeros_before units, parts_of units, written_parts units, parts_units units)

pub written_is_stream : WrittenIsStream
written_is_stream units stand =
    let same = parts_units units in
    let places = places_from (zeros_before units) (parts_of units) in
    let P : List (List ℕ) → Type 0 = λ us. All CanStand us in
    let stream = annex_b_is_stream (zeros_before units) (parts_of units) (subst P (sym same) stand) in
    let Q : List ℕ → Type 0 = λ b. IsStream b true places None × (map (unit_bytes b) places ≡ units) in
    let found : Q (written units) = subst Q (sym (written_parts units)) (stream.0, stream.1 ∙ same) in
    (places, found.0, found.1)
