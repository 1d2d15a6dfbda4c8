-- A merged picture has the adaptation parameter sets that it names.
use Rattle.std.proofs.Common.{◌≡◌, ℕ, suc, ◌+◌, ◌<◌, ◌≤◌, ◌==◌, Bool, true, false, cond, List, [], ◌∷◌, ◌++◌, length, map, slice_get, slice_index, Option, Some, None, refl, ap, sym, subst, ◌∙◌, inl, inr, arith}
use Rattle.std.specs.Prelude.{flat_map, option_map, unwrap_or}
use Rattle.std.specs.List.{AllByRecursion, AllZip}
use Rattle.std.proofs.lemmas.Bool.{eq-eqb}
use Rattle.std.proofs.lemmas.Option.{none-some, same_Some}
use Rattle.vx_bits.specs.declared.list.Item.{Item}
use Rattle.vx_fields.specs.declared.ph.TheConstants as ph
use Rattle.vx_fields.specs.declared.sps.TheConstants as sps_fields
use Rattle.vx_table.specs.Loaded.{number}
use Rattle.vx_table.specs.Scope.{fresh, is_set}
use Rattle.vx_table.proofs.With.{others_with, with_field}
use Rattle.vx_aps.specs.declared.aps.TheConstants as aps
use Rattle.vx_layout.proofs.Parts.{Each-append}
use Rattle.vx_pps.specs.laws.Sets.{ReadSlicesAreListable, SetsTellPartitions}
use Rattle.vx_table.specs.Rewritten.{where_so}
use Rattle.vx_ph.specs.Depends as ph_kept
use Rattle.vx_ph.specs.Filter.{FilterNamesOnce, NamesOnce, filter_of, with_ids}
use Rattle.vx_ph.specs.InForce.{in_force}
use Rattle.vx_ph.specs.declared.shape.LmcsShape.{LmcsShape}
use Rattle.vx_sh.specs.laws.Filter.{SliceHasFilter}
use Rattle.vx_pic.specs.Inputs.{body_of}
use Rattle.vx_pic.specs.Parts.{AreThere, Parts, SlicePart, read_of}
use Rattle.vx_pic.specs.Readings.{Slice}
use Rattle.vx_pic.specs.Resident.{HasSet, HaveNamed, sent_before}
use Rattle.vx_pic.specs.Sets.{filter_items, named, named_filters, names_of}
use Rattle.vx_pic.specs.Written as written
use Rattle.vx_pic.specs.Written.{Plan, Set}
use Rattle.vx_write.specs.Again.{HasItsBodies, IsReadable}
use Rattle.vx_write.proofs.OwnSets.{IsAmong, among_first, among_second, has_set, units_hold}
use Rattle.vx_frame.specs.declared.corner.Corner.{Corner}
use Rattle.vx_frame.specs.Bodies.{filters_in, filters_of, has_lmcs, has_scaling, alf_bodies}
use Rattle.vx_frame.specs.Rounds.{picture_at}
use Rattle.vx_frame.specs.Counts.{alf_slots, lmcs_slots, scaling_slots}
use Rattle.vx_merge.specs.Headers.{IsMergedSlice, id_for, lmcs_shape, ph_shape, sourced}
use Rattle.vx_merge.specs.Merging.{Judges}
use Rattle.vx_merge.specs.Needed.{aps_of_body, by_ids, id_of_body, lmcs_bodies, sets_of_round, scaling_bodies, sets_with_id}
use Rattle.vx_merge.specs.Written.{IsMerged}
use Rattle.vx_merge.specs.inner.Sending.{HasEnds}
use Rattle.vx_merge.proofs.BodyEnds.{ends_alf_bodies, ends_lowest}
use Rattle.vx_merge.proofs.SliceFilters.{filter_takes, id_low, slots_low}
use Rattle.vx_again.specs.Frames.{IsReadyRound}
use Rattle.vx_again.specs.Rounds.{MergedHasItsBodies}
use Rattle.vx_again.specs.Sources.{IsSource, IsSourceSlice}
use Rattle.vx_again.proofs.Bodies.{HasBody, body_first, body_second, by_its_id, by_range, has_ends, once_has, readable_by_ids, set_at}
use Rattle.vx_again.proofs.Facts.{apart, each_weaker, kept_same, sets_of, source_at}
use Rattle.vx_again.proofs.Named.{filter_named, filter_written, have_append, lmcs_named, lmcs_stated, scaling_named, scaling_stated, there_front}

-- ---- slices by their sources

-- a slice of source k: its filters are among those of a round
record IsOfRound (round : List Parts) (x : ℕ × SlicePart) : Type 0 where
  short : x.0 < length round
  source : IsSourceSlice (picture_at round x.0) x.1
  inside : (b : List ℕ) → HasBody (filters_of (picture_at round x.0) x.1) b → HasBody (flat_map filters_in round) b

of_picture : (round : List Parts) (k : ℕ) (q : Parts) (ss : List SlicePart) → q ≡ picture_at round k → k < length round
    → AllByRecursion (IsSourceSlice q) ss
    → ((b : List ℕ) → HasBody (flat_map (filters_of q) ss) b → HasBody (flat_map filters_in round) b)
    → AllByRecursion (IsOfRound round) (map (λ s. (k, s)) ss)
of_picture round k q [] same short each inside = tt
of_picture round k q (s ∷ ss) same short each inside = (
  record {
    short = short;
    source = subst (λ r. IsSourceSlice r s) same each.0;
    inside = λ b is. inside b (body_first (filters_of q s) (flat_map (filters_of q) ss) b (subst (λ r. HasBody (filters_of r s) b) (sym same) is));
  },
  of_picture round k q ss same short each.1 (λ b is. inside b (body_second (filters_of q s) (flat_map (filters_of q) ss) b is)),
)

of_pictures : (round : List Parts) (k : ℕ) (qs : List Parts)
    → ((i : ℕ) → i < length qs → (picture_at qs i ≡ picture_at round (k + i)) × (k + i < length round)) → AllByRecursion IsSource qs
    → ((b : List ℕ) → HasBody (flat_map filters_in qs) b → HasBody (flat_map filters_in round) b)
    → AllByRecursion (IsOfRound round) (sourced k qs)
of_pictures round k [] at each inside = tt
of_pictures round k (q ∷ qs) at each inside =
    let here : k + 0 ≡ k = omega arith in
    let first = at 0 (omega arith) in
    Each-append (IsOfRound round) (map (λ s. (k, s)) q.slices) (sourced (k + 1) qs)
    (of_picture round k q q.slices (first.0 ∙ ap (picture_at round) here) (omega (arith, first.1)) each.0.slices (λ b is. inside b (body_first (filters_in q) (flat_map filters_in qs) b is)))
    (of_pictures round (k + 1) qs (λ i less. let next : k + suc i ≡ (k + 1) + i = omega arith in let more = at (suc i) (omega (arith, less)) in (more.0 ∙ ap (picture_at round) next, omega (arith, more.1))) each.1
    (λ b is. inside b (body_second (filters_in q) (flat_map filters_in qs) b is)))

-- ---- the first set of a type

first_among : (kind count : ℕ) (bodies : List (List ℕ)) (ids : List ℕ) (i : ℕ) → slice_get ids 0 ≡ Some i → length ids ≡ length bodies
    → i < count → (body : List ℕ) × IsAmong (by_ids kind count bodies ids) (set_at kind i body)
first_among kind count [] [] i at same low = absurd (none-some i at)
first_among kind count [] (n ∷ ids) i at same low = absurd (omega (arith, same))
first_among kind count (b ∷ bodies) [] i at same low = absurd (omega (arith, same))
first_among kind count (b ∷ bodies) (n ∷ ids) i at same low =
    let is : n ≡ i = same_Some n i at in
    let here : (n == n) ≡ true = eq-eqb n n refl in
    let one : IsAmong (sets_with_id kind (b ∷ bodies) (n ∷ ids) n) (set_at kind n b) = rw here (inl refl) in
    (b, subst (λ j. IsAmong (by_ids kind count (b ∷ bodies) (n ∷ ids)) (set_at kind j b)) is (by_range kind (b ∷ bodies) (n ∷ ids) (set_at kind n b) n 0 count (omega arith) (omega (arith, low, is)) one))

first_index : (ids : List ℕ) (i : ℕ) → slice_get ids 0 ≡ Some i → (slice_index ids 0 ≡ i) × (0 < length ids)
first_index [] i at = absurd (none-some i at)
first_index (n ∷ ids) i at = (same_Some n i at, omega arith)

mapped : (f : ℕ → LmcsShape) (o : Option ℕ) (shape : LmcsShape) → option_map f o ≡ Some shape → (i : ℕ) × (o ≡ Some i) × (f i ≡ shape)
mapped f None shape same = absurd (none-some shape same)
mapped f (Some i) shape same = (i, refl, same_Some (f i) shape same)

-- ---- a round

module _ (tells : SetsTellPartitions) (reads : ReadSlicesAreListable) (has_filter : SliceHasFilter) (names_once : FilterNamesOnce)
    (corners : List Corner) (level : Option ℕ) (round : List Parts) (done : List Plan) (p : Plan)
    (ready : IsReadyRound corners round) (passes : Judges corners round None) (is : IsMerged corners level round done p) where
  abbrev t : ℕ
  t = p.kind.temporal_id

  in_needed : (s : Set)
      → IsAmong (by_ids aps.ALF alf_slots (alf_bodies round) is.ids.alf ++ (by_ids aps.LMCS lmcs_slots (lmcs_bodies round) is.ids.lmcs ++ by_ids aps.SCALING scaling_slots (scaling_bodies round) is.ids.scaling)) s
      → HasSet is.needed s
  in_needed s among = has_set is.needed s (subst (λ xs. IsAmong xs s) (sym is.sets) (inr (inr among)))

  -- ---- filters

  alf_low : (body : List ℕ) → id_of_body (alf_bodies round) is.ids.alf body < 8
  alf_low body = id_low (alf_bodies round) is.ids.alf body 8 (omega arith) (slots_low alf_slots (length (alf_bodies round)) t (sent_before done p) (aps_of_body aps.ALF (alf_bodies round)) is.ids.alf is.taken.of_alf)

  alf_needed : (body : List ℕ) → HasBody (flat_map filters_in round) body
      → HasSet is.needed (set_at aps.ALF (id_of_body (alf_bodies round) is.ids.alf body) body)
  alf_needed body has_ =
      in_needed (set_at aps.ALF (id_of_body (alf_bodies round) is.ids.alf body) body)
      (among_first (by_ids aps.ALF alf_slots (alf_bodies round) is.ids.alf) (by_ids aps.LMCS lmcs_slots (lmcs_bodies round) is.ids.lmcs ++ by_ids aps.SCALING scaling_slots (scaling_bodies round) is.ids.scaling) _
      (by_its_id aps.ALF alf_slots (alf_bodies round) is.ids.alf body (once_has (flat_map filters_in round) body has_) is.taken.of_alf.one_each (alf_low body)))

  module _ (k : ℕ) (s : SlicePart) (of_round : IsOfRound round (k, s)) where
    abbrev q : Parts
    q = picture_at round k

    abbrev items : List Item
    items = filter_items q.pps q.header.fields (read_of s.header)

    filters_there : AreThere q.bodies (named_filters items)
    unfolding names_of
    filters_there = there_front q.bodies (named_filters items) (named aps.LMCS ph.ph_lmcs_aps_id q.header.fields ++ named aps.SCALING ph.ph_scaling_list_aps_id q.header.fields) of_round.source.there

    once_in : is_set (number p.begun.sps sps_fields.sps_alf_enabled_flag) ≡ true
        → NamesOnce (with_ids (id_for round is.ids q) (filter_of items))
    once_in enabled =
        names_once (in_force p.begun.sps p.begun.pps) (with_ids (id_for round is.ids q) (filter_of items))
        (filter_takes has_filter (id_for round is.ids q) (λ n. alf_low (unwrap_or (body_of q aps.ALF n) [])) q s.header p.begun.sps p.begun.pps
        (kept_same tells reads corners round ready passes p.begun.layout is.frame level is.ids.pps p.begun.sps p.begun.pps (sets_of corners level round done p is) k of_round.short)
        (source_at tells reads corners round ready passes k of_round.short).header of_round.source.read enabled)

    all_filters : (b : Bool) → is_set (number p.begun.sps sps_fields.sps_alf_enabled_flag) ≡ b
        → HaveNamed is.needed (named_filters (where_so b (with_ids (id_for round is.ids q) (filter_of items))))
    all_filters false off = tt
    all_filters true on =
        filter_named q items filters_there is.needed (id_for round is.ids q) (id_of_body (alf_bodies round) is.ids.alf) (λ n. alf_low (unwrap_or (body_of q aps.ALF n) [])) (λ n. refl)
        (λ body in_slice. alf_needed body (of_round.inside body in_slice)) (once_in on)

    slice_filters : (w : Slice) → IsMergedSlice round is.ids p.kind.nal_type p.begun k s w
        → HaveNamed is.needed (named_filters (filter_items p.begun.pps p.begun.header w.header))
    slice_filters w own =
        let stands : filter_items p.begun.pps p.begun.header w.header ≡ own.is.header.fields =
        ap (λ n. cond (is_set n) p.begun.header w.header.fields) (apart tells reads corners round ready passes p.begun.layout is.frame level is.ids.pps p.begun.sps p.begun.pps (sets_of corners level round done p is)).filter
        ∙ ap (λ h. h.fields) own.read in
        let told = filter_written own.is.numbers own.is.shape s.header.fields own.is.header.fields own.is.reshaped.fields in
        let same : named_filters (filter_items p.begun.pps p.begun.header w.header) ≡ named_filters (where_so (is_set (number p.begun.sps sps_fields.sps_alf_enabled_flag)) (with_ids (id_for round is.ids q) (filter_of items))) =
        ap named_filters stands ∙ told
        ∙ ap (λ x. named_filters (where_so (is_set (number x sps_fields.sps_alf_enabled_flag)) own.is.shape.filter.now)) own.is.at.sps
        ∙ ap (λ xs. named_filters (where_so (is_set (number p.begun.sps sps_fields.sps_alf_enabled_flag)) xs)) own.is.says.filter in
        subst (HaveNamed is.needed) (sym same) (all_filters (is_set (number p.begun.sps sps_fields.sps_alf_enabled_flag)) refl)

  -- ---- the sets of the header

  header_lmcs : HaveNamed is.needed (named aps.LMCS ph.ph_lmcs_aps_id p.begun.header)
  unfolding fresh
  header_lmcs =
      lmcs_named (is_set (number p.begun.sps sps_fields.sps_lmcs_enabled_flag)) (number p.begun.sps sps_fields.sps_chroma_format_idc) (option_map (lmcs_shape round) (slice_get is.ids.lmcs 0)) p.begun.header is.needed
      (sym (others_with ph_kept.kept_ph_fields ph.ph_lmcs_aps_id p.begun.header refl) ∙ ap (with_field ph.ph_lmcs_aps_id) is.header.says.fields.other_ones ∙ lmcs_stated p.begun.sps (ph_shape round is.ids))
      (λ shape at.
      let from = mapped (lmcs_shape round) (slice_get is.ids.lmcs 0) shape at in
      let index = first_index is.ids.lmcs from.0 from.1 in
      let low = slots_low lmcs_slots (length (lmcs_bodies round)) t (sent_before done p) (aps_of_body aps.LMCS (lmcs_bodies round)) is.ids.lmcs is.taken.of_lmcs 0 index.1 in
      let among = first_among aps.LMCS lmcs_slots (lmcs_bodies round) is.ids.lmcs from.0 from.1 is.taken.of_lmcs.one_each (omega (arith, low, index.0)) in
      let id : from.0 ≡ shape.id = ap (λ (x : LmcsShape). x.id) from.2 in (
        omega (arith, low, index.0, id),
        (
          among.0,
          subst (λ i. HasSet is.needed (set_at aps.LMCS i among.0)) id (in_needed (set_at aps.LMCS from.0 among.0)
              (among_second (by_ids aps.ALF alf_slots (alf_bodies round) is.ids.alf) (by_ids aps.LMCS lmcs_slots (lmcs_bodies round) is.ids.lmcs ++ by_ids aps.SCALING scaling_slots (scaling_bodies round) is.ids.scaling) _
              (among_first (by_ids aps.LMCS lmcs_slots (lmcs_bodies round) is.ids.lmcs) (by_ids aps.SCALING scaling_slots (scaling_bodies round) is.ids.scaling) _ among.1))),
        ),
      ))

  header_scaling : HaveNamed is.needed (named aps.SCALING ph.ph_scaling_list_aps_id p.begun.header)
  unfolding fresh
  header_scaling =
      scaling_named (is_set (number p.begun.sps sps_fields.sps_explicit_scaling_list_enabled_flag)) (slice_get is.ids.scaling 0) p.begun.header is.needed
      (sym (others_with ph_kept.kept_ph_fields ph.ph_scaling_list_aps_id p.begun.header refl) ∙ ap (with_field ph.ph_scaling_list_aps_id) is.header.says.fields.other_ones ∙ scaling_stated p.begun.sps (ph_shape round is.ids))
      (λ id at.
      let index = first_index is.ids.scaling id at in
      let low = slots_low scaling_slots (length (scaling_bodies round)) t (sent_before done p) (aps_of_body aps.SCALING (scaling_bodies round)) is.ids.scaling is.taken.of_scaling 0 index.1 in
      let among = first_among aps.SCALING scaling_slots (scaling_bodies round) is.ids.scaling id at is.taken.of_scaling.one_each (omega (arith, low, index.0)) in (
        omega (arith, low, index.0),
        (
          among.0,
          in_needed (set_at aps.SCALING id among.0)
              (among_second (by_ids aps.ALF alf_slots (alf_bodies round) is.ids.alf) (by_ids aps.LMCS lmcs_slots (lmcs_bodies round) is.ids.lmcs ++ by_ids aps.SCALING scaling_slots (scaling_bodies round) is.ids.scaling) _
              (among_second (by_ids aps.LMCS lmcs_slots (lmcs_bodies round) is.ids.lmcs) (by_ids aps.SCALING scaling_slots (scaling_bodies round) is.ids.scaling) _ among.1)),
        ),
      ))

  -- ---- all slices

  slice_named : (x : ℕ × SlicePart) (w : Slice) → IsOfRound round x → IsMergedSlice round is.ids p.kind.nal_type p.begun x.0 x.1 w
      → HaveNamed is.needed (names_of p.begun.pps p.begun.header w.header)
  unfolding names_of
  slice_named (k, s) w of_round own =
      have_append is.needed (named_filters (filter_items p.begun.pps p.begun.header w.header)) (named aps.LMCS ph.ph_lmcs_aps_id p.begun.header ++ named aps.SCALING ph.ph_scaling_list_aps_id p.begun.header) (slice_filters k s of_round w own)
      (have_append is.needed (named aps.LMCS ph.ph_lmcs_aps_id p.begun.header) (named aps.SCALING ph.ph_scaling_list_aps_id p.begun.header) header_lmcs header_scaling)

  each_named : (xs : List (ℕ × SlicePart)) (ws : List Slice) → AllZip (λ x w. IsMergedSlice round is.ids p.kind.nal_type p.begun x.0 x.1 w) xs ws
      → AllByRecursion (IsOfRound round) xs
      → AllByRecursion (λ (w : Slice). HaveNamed is.needed (names_of p.begun.pps p.begun.header w.header)) ws
  each_named [] [] own of_round = tt
  each_named [] (w ∷ ws) own of_round = absurd own
  each_named (x ∷ xs) [] own of_round = tt
  each_named (x ∷ xs) (w ∷ ws) own of_round = (slice_named x w of_round.0 own.0, each_named xs ws own.1 of_round.1)

  all_of_round : AllByRecursion (IsOfRound round) (sourced 0 round)
  all_of_round = of_pictures round 0 round (λ i less. let same : 0 + i ≡ i = omega arith in (ap (picture_at round) (sym same), omega (arith, less))) ready.each (λ b has_. has_)

  -- ---- they can be read again

  ends : AllByRecursion HasEnds round
  ends = each_weaker IsSource HasEnds (λ q source. has_ends q source.readable) round ready.each

  eight : 8 ≤ 8
  eight = omega arith

  four : 4 ≤ 4
  four = omega arith

  can_be_read : AllByRecursion IsReadable (sets_of_round round is.ids p.begun.sps p.begun.pps)
  can_be_read = (
    tt,
    (
      tt,
      Each-append IsReadable (by_ids aps.ALF alf_slots (alf_bodies round) is.ids.alf) (by_ids aps.LMCS lmcs_slots (lmcs_bodies round) is.ids.lmcs ++ by_ids aps.SCALING scaling_slots (scaling_bodies round) is.ids.scaling)
          (readable_by_ids aps.ALF alf_slots (alf_bodies round) is.ids.alf (omega arith) eight (ends_alf_bodies round ends))
          (Each-append IsReadable (by_ids aps.LMCS lmcs_slots (lmcs_bodies round) is.ids.lmcs) (by_ids aps.SCALING scaling_slots (scaling_bodies round) is.ids.scaling)
          (readable_by_ids aps.LMCS lmcs_slots (lmcs_bodies round) is.ids.lmcs (omega arith) four (ends_lowest has_lmcs aps.LMCS ph.ph_lmcs_aps_id round ends))
          (readable_by_ids aps.SCALING scaling_slots (scaling_bodies round) is.ids.scaling (omega arith) eight (ends_lowest has_scaling aps.SCALING ph.ph_scaling_list_aps_id round ends))),
    ),
  )

  pub its_bodies : HasItsBodies is.needed p
  its_bodies = record {
    readable = units_hold IsReadable is.needed (subst (AllByRecursion IsReadable) (sym is.sets) can_be_read);
    bodies = each_named (sourced 0 round) (written.planned_slices p) is.slices all_of_round;
  }

pub has_its_bodies : SetsTellPartitions → ReadSlicesAreListable → SliceHasFilter → FilterNamesOnce → MergedHasItsBodies
has_its_bodies tells reads has_filter names_once corners level round done p ready passes is = its_bodies tells reads has_filter names_once corners level round done p ready passes is
