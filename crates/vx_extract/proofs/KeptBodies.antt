-- The adaptation parameter sets that are named have the picture's bodies in what is read again.
use Rattle.std.proofs.Common.{◌≡◌, ℕ, zero, suc, ◌<◌, List, [], ◌∷◌, Option, Some, refl, ap, sym, subst, ◌∙◌, inl, inr, arith}
use Rattle.std.specs.Prelude.{option_map}
use Rattle.std.specs.List.{AllByRecursion}
use Rattle.vx_aps.specs.declared.aps.Aps.{Aps}
use Rattle.vx_pic.specs.Sets.{Slot}
use Rattle.vx_pic.specs.Readings.{Picture, Reading, stored_aps}
use Rattle.vx_pic.specs.Parts.{aps_at, id_count, parts_of, stored_sets}
use Rattle.vx_pic.specs.Inputs.{body_of}
use Rattle.vx_pic.specs.Written.{Plan, Set, SetUnit, planned}
use Rattle.vx_pic.specs.Resident.{HasSet, IsBodyOf, NeededIsBody, readings_of_plans}
use Rattle.vx_extract.specs.Written.{IsExtracted, named_in}
use Rattle.vx_extract.specs.Again.{ExtractedSendsItsSets, IsReady}
use Rattle.vx_extract.proofs.AgainBodies.{Has, body_needed, set_at, there_of}

-- a set in force stands at the place of its type and id
pub at_place : (before : List Reading) (kind id : ℕ) → kind < 3 → id < id_count → aps_at (stored_sets before) kind id ≡ stored_aps kind id before
at_place before zero zero few low = refl
at_place before zero (suc zero) few low = refl
at_place before zero (suc (suc zero)) few low = refl
at_place before zero (suc (suc (suc zero))) few low = refl
at_place before zero (suc (suc (suc (suc zero)))) few low = refl
at_place before zero (suc (suc (suc (suc (suc zero))))) few low = refl
at_place before zero (suc (suc (suc (suc (suc (suc zero)))))) few low = refl
at_place before zero (suc (suc (suc (suc (suc (suc (suc zero))))))) few low = refl
at_place before (suc zero) zero few low = refl
at_place before (suc zero) (suc zero) few low = refl
at_place before (suc zero) (suc (suc zero)) few low = refl
at_place before (suc zero) (suc (suc (suc zero))) few low = refl
at_place before (suc zero) (suc (suc (suc (suc zero)))) few low = refl
at_place before (suc zero) (suc (suc (suc (suc (suc zero))))) few low = refl
at_place before (suc zero) (suc (suc (suc (suc (suc (suc zero)))))) few low = refl
at_place before (suc zero) (suc (suc (suc (suc (suc (suc (suc zero))))))) few low = refl
at_place before (suc (suc zero)) zero few low = refl
at_place before (suc (suc zero)) (suc zero) few low = refl
at_place before (suc (suc zero)) (suc (suc zero)) few low = refl
at_place before (suc (suc zero)) (suc (suc (suc zero))) few low = refl
at_place before (suc (suc zero)) (suc (suc (suc (suc zero)))) few low = refl
at_place before (suc (suc zero)) (suc (suc (suc (suc (suc zero))))) few low = refl
at_place before (suc (suc zero)) (suc (suc (suc (suc (suc (suc zero)))))) few low = refl
at_place before (suc (suc zero)) (suc (suc (suc (suc (suc (suc (suc zero))))))) few low = refl
at_place before zero (suc (suc (suc (suc (suc (suc (suc (suc id)))))))) few low = absurd (omega (arith, low))
at_place before (suc zero) (suc (suc (suc (suc (suc (suc (suc (suc id)))))))) few low = absurd (omega (arith, low))
at_place before (suc (suc zero)) (suc (suc (suc (suc (suc (suc (suc (suc id)))))))) few low = absurd (omega (arith, low))
at_place before (suc (suc (suc kind))) id few low = absurd (omega (arith, few))

-- what holds of all needed sets holds of one of them
of_set : (P : Set → Type 0) (needed : List SetUnit) (s : Set) → AllByRecursion (λ (x : SetUnit). P x.set) needed → HasSet needed s → P s
of_set P [] s all is = absurd is
of_set P (x ∷ needed) s all (inl same) = subst P same all.0
of_set P (x ∷ needed) s all (inr more) = of_set P needed s all.1 more

each_named : (P : Slot → Type 0) (slots : List Slot) → ((s : Slot) → Has slots s → P s) → AllByRecursion P slots
each_named P [] each = tt
each_named P (s ∷ slots) each = (each s (inl refl), each_named P slots (λ t is. each t (inr is)))

module _ (needs : NeededIsBody) (sends : ExtractedSendsItsSets) (target : ℕ) (level : Option ℕ) (pic : Picture) (done : List Plan) (p : Plan) (ready : IsReady target pic) (ex : IsExtracted target level (parts_of pic) done p) where
  abbrev again : Picture
  again = planned (readings_of_plans done) p

  all_bodies : AllByRecursion (λ (x : SetUnit). IsBodyOf again x.set) ex.needed
  all_bodies =
      let sent = sends target level (parts_of pic) done p ex in
      subst (λ xs. AllByRecursion (λ (x : SetUnit). IsBodyOf again x.set) xs) sent.same (needs done p sent.sends)

  one_body : (s : Slot) → Has (named_in (parts_of pic) target) s → body_of (parts_of again) s.kind s.id ≡ body_of (parts_of pic) s.kind s.id
  one_body s is =
      let at = there_of target level (parts_of pic) done p ready.in_force ready.readable ready.there ex s is in
      let stored : stored_aps s.kind s.id again.before ≡ Some (record { kind = s.kind; id = s.id; body = at.aps.body }) =
      of_set (IsBodyOf again) ex.needed (set_at s at.aps) all_bodies (body_needed target level (parts_of pic) done p ready.in_force ready.readable ready.there ex s is) in
      ap (λ o. option_map (λ (a : Aps). a.body) o) (at_place again.before s.kind s.id at.kind at.id ∙ stored)
      ∙ sym (ap (λ o. option_map (λ (a : Aps). a.body) o) at.found)

  pub bodies_kept : AllByRecursion (λ s. body_of (parts_of again) s.kind s.id ≡ body_of (parts_of pic) s.kind s.id) (named_in (parts_of pic) target)
  bodies_kept = each_named (λ s. body_of (parts_of again) s.kind s.id ≡ body_of (parts_of pic) s.kind s.id) (named_in (parts_of pic) target) one_body
