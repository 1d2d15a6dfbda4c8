-- How many adaptation parameter sets are kept.
use Rattle.std.proofs.Common.{◌≡◌, ℕ, zero, suc, ◌<◌, ◌≤◌, List, [], ◌∷◌, length, replicate, slice_set, get_or, refl, ◌∙◌, arith, length-set}
use Rattle.std.specs.Prelude.{Option, Some, None, is_some}
use Rattle.std.specs.List.{count_by}
use Rattle.std.proofs.lemmas.List.{get_or-set_other, get_or-replicate}
use Rattle.std.proofs.lemmas.List.Sums.{count_by-le-length}
use Rattle.vx_aps.specs.declared.aps.Aps.{Aps}
use Rattle.vx_aps.specs.Aps.{IsValid, ids_of_type}
use Rattle.vx_pic.specs.Parts.{slot_of}
use Rattle.vx_assemble.specs.Held.{AreFewBodies}
use Rattle.vx_assemble.specs.inner.Order.{AreBodies}

-- ---- their places

pub no_bodies : AreBodies (replicate 24 None)
no_bodies = record { places = refl; lmcs = λ i past within. get_or-replicate 24 i None None (omega (arith, within)) }

-- no set has a place that LMCS has no id for
apart : (kind id i : ℕ) → kind ≤ 2 → id < ids_of_type kind → 12 ≤ i → i < 16 → i ≡ slot_of kind id → ⊥
apart zero id i few low past within same = omega (arith, low, past, same)
apart (suc zero) id i few low past within same = omega (arith, low, past, same)
apart (suc (suc zero)) id i few low past within same = omega (arith, within, same)
apart (suc (suc (suc kind))) id i few low past within same = omega (arith, few)

pub put_bodies : (a : Aps) (sets : List (Option Aps)) → IsValid a → AreBodies sets → AreBodies (slice_set sets (slot_of a.kind a.id) (Some a))
put_bodies a sets valid are = record {
  places = length-set sets (slot_of a.kind a.id) (Some a) ∙ are.places;
  lmcs = λ i past within.
      get_or-set_other sets (slot_of a.kind a.id) i (Some a) None (apart a.kind a.id i valid.kind valid.id past within) ∙ are.lmcs i past within;
}

-- ---- how many there are

few_of : (sets : List (Option Aps)) → length sets ≡ 8 → count_by is_some sets ≤ 8
few_of sets all = let few = count_by-le-length is_some sets in omega (arith, few, all)

four_of : (a b c d e f g h : Option Aps) → e ≡ None → f ≡ None → g ≡ None → h ≡ None → count_by is_some (a ∷ b ∷ c ∷ d ∷ e ∷ f ∷ g ∷ h ∷ []) ≤ 4
four_of a b c d e f g h ne nf ng nh =
    rw (ne, nf, ng, nh)
    (let few : count_by is_some (a ∷ b ∷ c ∷ d ∷ []) ≤ 4 = count_by-le-length is_some (a ∷ b ∷ c ∷ d ∷ []) in omega (arith, few))

pub few_bodies : (sets : List (Option Aps)) → AreBodies sets → AreFewBodies sets
few_bodies sets are =
    let at : ℕ → Option Aps = λ i. get_or sets i None in
    record {
      places = are.places;
      alf = few_of (at 0 ∷ at 1 ∷ at 2 ∷ at 3 ∷ at 4 ∷ at 5 ∷ at 6 ∷ at 7 ∷ []) refl;
      lmcs = four_of (at 8) (at 9) (at 10) (at 11) (at 12) (at 13) (at 14) (at 15) (are.lmcs 12 (omega arith) (omega arith))
          (are.lmcs 13 (omega arith) (omega arith)) (are.lmcs 14 (omega arith) (omega arith)) (are.lmcs 15 (omega arith) (omega arith));
      scaling = few_of (at 16 ∷ at 17 ∷ at 18 ∷ at 19 ∷ at 20 ∷ at 21 ∷ at 22 ∷ at 23 ∷ []) refl;
    }
