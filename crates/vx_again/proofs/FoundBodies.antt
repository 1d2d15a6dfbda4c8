-- Each adaptation parameter set that a merged picture needs has its body, at the id that it takes, where the picture is read again.
use Rattle.std.proofs.Common.{◌≡◌, ℕ, ◌<◌, ◌≤◌, true, cond, List, [], ◌∷◌, ◌++◌, length, slice_get, Option, Some, None, refl, ap, sym, subst}
use Rattle.std.proofs.Common.{◌∙◌, inl, inr, arith}
use Rattle.std.specs.Prelude.{flat_map, option_map, option_to_list}
use Rattle.std.specs.List.{AllByRecursion}
use Rattle.vx_aps.specs.declared.aps.Aps.{Aps}
use Rattle.vx_aps.specs.declared.aps.TheConstants as aps
use Rattle.vx_pic.specs.Inputs.{body_of}
use Rattle.vx_pic.specs.Parts.{Parts, id_count, parts_of}
use Rattle.vx_pic.specs.Readings.{Picture, stored_aps}
use Rattle.vx_pic.specs.Resident.{HasSet, IsBodyOf, NeededIsBody, readings_of_plans, sent_before}
use Rattle.vx_pic.specs.Written.{Plan, Set, SetUnit, planned}
use Rattle.vx_write.specs.Again.{SendsItsSets}
use Rattle.vx_write.proofs.OwnSets.{IsAmong, among_first, among_second, has_set}
use Rattle.vx_write.proofs.Vacant.{itself_bytes}
use Rattle.vx_extract.proofs.KeptBodies.{at_place}
use Rattle.vx_frame.specs.declared.corner.Corner.{Corner}
use Rattle.vx_frame.specs.Bodies.{filters_in, has_lmcs, has_scaling, is_among, lmcs_body, scaling_body, alf_bodies}
use Rattle.vx_frame.specs.Shapes.{of_lowest}
use Rattle.vx_frame.specs.Counts.{alf_slots, lmcs_slots, scaling_slots}
use Rattle.vx_merge.specs.Needed.{aps_of_body, by_ids, id_of_body, lmcs_bodies, scaling_bodies}
use Rattle.vx_merge.specs.Slots.{TakeSlots}
use Rattle.vx_merge.specs.Written.{IsMerged}
use Rattle.vx_merge.proofs.SliceFilters.{id_low, slots_low}
use Rattle.vx_again.proofs.Bodies.{HasBody, by_its_id, once_has, set_at}

-- what holds of all needed sets holds of one of them
of_set : (P : Set → Type 0) (needed : List SetUnit) (s : Set) → AllByRecursion (λ (x : SetUnit). P x.set) needed → HasSet needed s → P s
of_set P [] s all is = absurd is
of_set P (x ∷ needed) s all (inl same) = subst P same all.0
of_set P (x ∷ needed) s all (inr more) = of_set P needed s all.1 more

-- ---- a body that is the only one of its type

-- it has one id, at which a picture has it
pub record HasOne (r : Parts) (kind : ℕ) (ids : List ℕ) (body : List ℕ) : Type 0 where
  pub id : ℕ
  pub first : slice_get ids 0 ≡ Some id
  pub low : id < 8
  pub found : body_of r kind id ≡ Some body

first_id : (body : List ℕ) (ids : List ℕ) → length ids ≡ 1 → slice_get ids 0 ≡ Some (id_of_body (body ∷ []) ids body)
first_id body [] one = absurd (omega (arith, one))
first_id body (i ∷ ids) one = sym (ap (λ b. Some (cond b i (id_of_body [] ids body))) (itself_bytes body))

no_id : (ids : List ℕ) → length ids ≡ 0 → slice_get ids 0 ≡ None
no_id [] none = refl
no_id (i ∷ ids) none = absurd (omega (arith, none))

-- ---- a round

module _ (needs : NeededIsBody) (corners : List Corner) (level : Option ℕ) (round : List Parts) (done : List Plan) (p : Plan)
    (is : IsMerged corners level round done p) (sent : SendsItsSets is.needed done p) where
  abbrev again : Picture
  again = planned (readings_of_plans done) p

  -- those of all types
  abbrev alfs : List Set
  alfs = by_ids aps.ALF alf_slots (alf_bodies round) is.ids.alf

  abbrev maps : List Set
  maps = by_ids aps.LMCS lmcs_slots (lmcs_bodies round) is.ids.lmcs

  abbrev lists : List Set
  lists = by_ids aps.SCALING scaling_slots (scaling_bodies round) is.ids.scaling

  all_bodies : AllByRecursion (λ (x : SetUnit). IsBodyOf again x.set) is.needed
  all_bodies = subst (AllByRecursion (λ (x : SetUnit). IsBodyOf again x.set)) sent.same (needs done p sent.sends)

  has_body : (kind id : ℕ) (body : List ℕ) → kind < 3 → id < id_count → IsAmong (alfs ++ (maps ++ lists)) (set_at kind id body)
      → body_of (parts_of again) kind id ≡ Some body
  has_body kind id body known low among =
      let s : Set = set_at kind id body in
      let needed : HasSet is.needed s = has_set is.needed s (subst (λ xs. IsAmong xs s) (sym is.sets) (inr (inr among))) in
      let stored : stored_aps kind id again.before ≡ Some (record { kind = kind; id = id; body = body })
      = of_set (IsBodyOf again) is.needed s all_bodies needed in
      ap (option_map (λ (a : Aps). a.body)) (at_place again.before kind id known low ∙ stored)

  -- a body at the id that it takes among those of its type
  taken : (kind count : ℕ) (bodies : List (List ℕ)) (ids : List ℕ) (body : List ℕ) → kind < 3 → 0 < count → count ≤ 8
      → TakeSlots count (length bodies) p.kind.temporal_id (sent_before done p) (aps_of_body kind bodies) ids → is_among body bodies ≡ true
      → ((s : Set) → IsAmong (by_ids kind count bodies ids) s → IsAmong (alfs ++ (maps ++ lists)) s)
      → (id_of_body bodies ids body < 8) × (body_of (parts_of again) kind (id_of_body bodies ids body) ≡ Some body)
  taken kind count bodies ids body known some few slots among inside =
      let low : id_of_body bodies ids body < count
      = id_low bodies ids body count some (slots_low count (length bodies) p.kind.temporal_id (sent_before done p) (aps_of_body kind bodies) ids slots) in
      let small : id_of_body bodies ids body < 8 = omega (arith, low, few) in
      let its = by_its_id kind count bodies ids body among slots.one_each low in
      (small, has_body kind (id_of_body bodies ids body) body known small (inside (set_at kind (id_of_body bodies ids body) body) its))

  -- a filter's
  pub alf_low : (body : List ℕ) → id_of_body (alf_bodies round) is.ids.alf body < 8
  alf_low body =
      let at = aps_of_body aps.ALF (alf_bodies round) in
      id_low (alf_bodies round) is.ids.alf body 8 (omega arith)
      (slots_low alf_slots (length (alf_bodies round)) p.kind.temporal_id (sent_before done p) at is.ids.alf is.taken.of_alf)

  pub alf_found : (body : List ℕ) → HasBody (flat_map filters_in round) body
      → body_of (parts_of again) aps.ALF (id_of_body (alf_bodies round) is.ids.alf body) ≡ Some body
  alf_found body has_ =
      (taken aps.ALF alf_slots (alf_bodies round) is.ids.alf body (omega arith) (omega arith) (omega arith) is.taken.of_alf
      (once_has (flat_map filters_in round) body has_) (λ s among. among_first alfs (maps ++ lists) s among)).1

  -- that of LMCS, and of scaling lists
  one : (kind count : ℕ) (bodies : List (List ℕ)) (ids : List ℕ) (body : List ℕ) → kind < 3 → 0 < count → count ≤ 8
      → TakeSlots count (length bodies) p.kind.temporal_id (sent_before done p) (aps_of_body kind bodies) ids → bodies ≡ body ∷ []
      → ((s : Set) → IsAmong (by_ids kind count bodies ids) s → IsAmong (alfs ++ (maps ++ lists)) s)
      → HasOne (parts_of again) kind ids body
  one kind count bodies ids body known some few slots lone inside =
      let among : is_among body bodies ≡ true = ap (is_among body) lone ∙ rw (itself_bytes body) refl in
      let its = taken kind count bodies ids body known some few slots among inside in
      record {
        id = id_of_body bodies ids body;
        first = first_id body ids (slots.one_each ∙ ap (λ bs. length bs) lone) ∙ ap (λ bs. Some (id_of_body bs ids body)) (sym lone);
        low = its.0;
        found = its.1;
      }

  pub lmcs_found : (body : List ℕ) → of_lowest has_lmcs lmcs_body None round ≡ Some body → HasOne (parts_of again) aps.LMCS is.ids.lmcs body
  lmcs_found body at =
      one aps.LMCS lmcs_slots (lmcs_bodies round) is.ids.lmcs body (omega arith) (omega arith) (omega arith) is.taken.of_lmcs
      (ap (λ o. option_to_list o) at) (λ s among. among_second alfs (maps ++ lists) s (among_first maps lists s among))

  pub scaling_found : (body : List ℕ) → of_lowest has_scaling scaling_body None round ≡ Some body
      → HasOne (parts_of again) aps.SCALING is.ids.scaling body
  scaling_found body at =
      one aps.SCALING scaling_slots (scaling_bodies round) is.ids.scaling body (omega arith) (omega arith) (omega arith) is.taken.of_scaling
      (ap (λ o. option_to_list o) at) (λ s among. among_second alfs (maps ++ lists) s (among_second maps lists s among))

  -- none of which there is no body
  pub no_lmcs : of_lowest has_lmcs lmcs_body None round ≡ None → slice_get is.ids.lmcs 0 ≡ None
  no_lmcs none = no_id is.ids.lmcs (is.taken.of_lmcs.one_each ∙ ap (λ o. length (option_to_list o)) none)

  pub no_scaling : of_lowest has_scaling scaling_body None round ≡ None → slice_get is.ids.scaling 0 ≡ None
  no_scaling none = no_id is.ids.scaling (is.taken.of_scaling.one_each ∙ ap (λ o. length (option_to_list o)) none)
