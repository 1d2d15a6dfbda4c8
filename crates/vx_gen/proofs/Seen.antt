-- What callers see of generated pictures.
use Rattle.std.proofs.Common.{◌≡◌, ℕ, zero, suc, ◌+◌, ◌*◌, List, [], ◌∷◌, ◌++◌, map, Option, None, refl, ap, ◌∙◌}
use Rattle.std.specs.List.{range_with_len}
use Rattle.std.proofs.Math.Path.{fun_ext}
use Rattle.vx_aps.specs.declared.aps.Aps.{Aps}
use Rattle.vx_rpl.specs.HeaderLists.{behind_list_0, list_0, list_1, list_of, lists_of}
use Rattle.vx_rpl.specs.Resolved.{table_of}
use Rattle.vx_table.specs.Scope.{fresh, natural}
use Rattle.vx_ph.specs.InForce.{both_sets, in_force}
use Rattle.vx_pic.specs.PictureLayout.{ids_of}
use Rattle.vx_pic.specs.Parts.{id_count, parts_of, stored_of, stored_sets}
use Rattle.vx_pic.specs.Readings.{Reading, first_slice, gathered, stored_aps}
use Rattle.vx_pic.specs.Resident.{planned_of, readings_of_plans}
use Rattle.vx_pic.specs.Sets.{address_of}
use Rattle.vx_pic.specs.Written.{before_slices, planned}
use Rattle.vx_gen.specs.Laws.{PlannedAreShown}
use Rattle.vx_gen.specs.Pictures.{generated_begun, kind, plan, plans, slice_header}
use Rattle.vx_gen.specs.Shown.{generated_parts}
use Rattle.vx_gen.specs.Units.{slice}

-- what comes before picture p
abbrev earlier : (seed n k p : ℕ) → List Reading
earlier seed n k p = before_slices (readings_of_plans (plans seed n k p)) (plan seed (n + 5 * p) k p)

-- behind the first it is the picture before, and what came before that
one_before : (seed n k p : ℕ)
    → earlier seed n k (suc p) ≡ first_slice (generated_begun k p) (kind p) (record { unit = slice seed (n + 5 * p) p; header = slice_header p }) ∷ earlier seed n k p
one_before seed n k zero = refl
one_before seed n k (suc p) = refl

none_stored : (seed n k p of id : ℕ) → stored_aps of id (earlier seed n k p) ≡ None
none_stored seed n k zero of id = refl
none_stored seed n k (suc p) of id = ap (stored_aps of id) (one_before seed n k p) ∙ none_stored seed n k p of id

none_gathered : (seed n k p : ℕ) → gathered (earlier seed n k p) ≡ []
none_gathered seed n k zero = refl
none_gathered seed n k (suc p) = ap gathered (one_before seed n k p)

none_of : (seed n k p of : ℕ) → stored_of of (earlier seed n k p) ≡ map (λ id. None) (range_with_len 0 id_count)
none_of seed n k p of = ap (λ (f : ℕ → Option Aps). map f (range_with_len 0 id_count)) (fun_ext (λ id. none_stored seed n k p of id))

no_bodies : (seed n k p : ℕ) → stored_sets (earlier seed n k p) ≡ (generated_parts seed (n + 5 * p) k p).bodies
no_bodies seed n k p = let all = none_of seed n k p in λ j. all 0 j ++ (all 1 j ++ all 2 j)

pub one_shown : (seed n k p : ℕ) → parts_of (planned (readings_of_plans (plans seed n k p)) (plan seed (n + 5 * p) k p)) ≡ generated_parts seed (n + 5 * p) k p
unfolding fresh natural table_of both_sets in_force lists_of list_0 list_1 list_of behind_list_0 ids_of address_of
one_shown seed n k zero =
    let bodies = no_bodies seed n k 0 in
    let messages = none_gathered seed n k 0 in
    λ j. record (generated_parts seed (n + 5 * 0) k 0) { bodies = bodies j; messages = messages j }
one_shown seed n k (suc p) =
    let bodies = no_bodies seed n k (suc p) in
    let messages = none_gathered seed n k (suc p) in
    λ j. record (generated_parts seed (n + 5 * suc p) k (suc p)) { bodies = bodies j; messages = messages j }

pub are_shown : PlannedAreShown
are_shown seed n k zero = refl
are_shown seed n k (suc p) =
    ap (λ q. q ∷ map parts_of (planned_of (plans seed n k p))) (one_shown seed n k p)
    ∙ ap (λ qs. generated_parts seed (n + 5 * p) k p ∷ qs) (are_shown seed n k p)
