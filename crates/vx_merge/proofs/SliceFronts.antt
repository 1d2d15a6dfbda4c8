-- The slices of a round go again in its frame, and their fronts stand one behind another.
use Rattle.std.proofs.Common.{◌≡◌, ℕ, ℤ, pos, negsuc, neg_ℤ, ◌≤ℤ◌, ◌+ℤ◌, ◌-ℤ◌, zero, suc, ◌+◌, ◌<◌, ◌≤◌, ◌^◌, List, [], ◌∷◌, ◌++◌, length, get_or, map, take, slice_get, Some, unwrap_or, refl, ap, sym, subst, ◌∙◌, inl, inr, arith}
use Rattle.std.specs.Prelude.{IfSome}
use Rattle.std.specs.List.{AllByRecursion, AllZip}
use Rattle.std.proofs.lemmas.Bool.{true≢false}
use Rattle.std.proofs.lemmas.Int.{ints}
use Rattle.std.proofs.lemmas.List.{append-nil, append_assoc, map-append, take_all, take_more}
use Rattle.std.proofs.lemmas.Option.{get_or_from_slice_get, slice_get_cases, slice_get_within}
use Rattle.vx_bits.specs.Codes.{IsCodeNumber, code_number}
use Rattle.vx_bits.specs.declared.list.Item.{Item}
use Rattle.vx_fields.specs.declared.sps.TheConstants as sps_fields
use Rattle.vx_fields.specs.declared.ph.TheConstants as ph
use Rattle.vx_fields.specs.declared.sh.TheConstants as sh
use Rattle.vx_aps.specs.declared.aps.TheConstants as aps
use Rattle.vx_table.specs.Loaded.{number}
use Rattle.vx_table.specs.Scope.{fresh, is_set}
use Rattle.vx_table.specs.Shown.{shown_items}
use Rattle.vx_sps.specs.Subpictures.{subpics_of}
use Rattle.vx_ph.specs.Depends as ph_kept
use Rattle.vx_ph.specs.Filter.{filter_of, with_ids}
use Rattle.vx_ph.specs.InForce.{in_force, structures}
use Rattle.vx_ph.specs.Picture.{IsHeader}
use Rattle.vx_ph.specs.Reshaped.{HaveSameKept, IsApart}
use Rattle.vx_ph.proofs.Same.{same_kept_agree}
use Rattle.vx_sh.specs.declared.header.SliceHeader.{SliceHeader as SliceValue}
use Rattle.vx_sh.specs.declared.numbers.SliceNumbers.{SliceNumbers}
use Rattle.vx_sh.specs.declared.shape.ShShape.{ShShape}
use Rattle.vx_sh.specs.laws.Filter.{SliceHasFilter}
use Rattle.vx_sh.specs.InForce.{in_force_at}
use Rattle.vx_sh.specs.Reshaped as sh_reshaped
use Rattle.vx_sh.specs.Reshaped.{AreSameForSlices, GoesAt, HaveSameSlices, IsSent, IsShape}
use Rattle.vx_sh.specs.Value.{IsSliceHeaderSpelling}
use Rattle.vx_sh.specs.Whole.{index_of}
use Rattle.vx_pic.specs.declared.kind.Kind.{Kind}
use Rattle.vx_pic.specs.Inputs.{body_of, is_used}
use Rattle.vx_pic.specs.Parts.{IsReadAt, Parts, SlicePart, read_of}
use Rattle.vx_pic.specs.PictureLayout.{ids_of}
use Rattle.vx_pic.specs.Readings.{Begun}
use Rattle.vx_pic.specs.Sets.{filter_items, slice_qp}
use Rattle.vx_sh.specs.InForce.{at_sets}
use Rattle.vx_write.specs.InForce.{AreInForce}
use Rattle.vx_write.specs.Units.{IsUnitOf}
use Rattle.vx_write.proofs.Sizes.{subpics_count}
use Rattle.vx_frame.specs.Bodies.{alf_bodies}
use Rattle.vx_frame.specs.Regions.{corners_in, layout_of}
use Rattle.vx_frame.specs.Rounds.{no_picture, picture_at}
use Rattle.vx_frame.specs.Rules.{kept_header, shared_kind}
use Rattle.vx_frame.specs.Shapes.{frame_sps_shape}
use Rattle.vx_frame.specs.Counts.{alf_slots}
use Rattle.vx_frame.proofs.Passing.{header_alike, kind_alike, one_subpic}
use Rattle.vx_merge.specs.declared.needed.RoundSets.{RoundSets}
use Rattle.vx_merge.specs.Headers.{IsFront, SaysSlice, id_for, sourced}
use Rattle.vx_merge.specs.Needed.{id_of_body}
use Rattle.vx_merge.specs.inner.Fronts.{HasShape, IsBegun, IsInForce, new_filter, new_id}
use Rattle.vx_merge.specs.inner.Ready.{IsReady, ids_in}
use Rattle.vx_merge.proofs.KeptSame.{apart as sent_apart, kept_same}
use Rattle.vx_merge.proofs.SliceFilters.{filter_takes, id_low, slots_low}
use Rattle.vx_merge.proofs.SliceIds.{HaveIndices, have_indices}
use Rattle.vx_merge.proofs.SliceRegions.{frame_count, frame_layout, region_is, same_slices}

-- ---- one behind another

zip_more : {A B : Type 0} (P : A → B → Type 0) (xs : List A) (ys : List B) (x : A) (y : B) → AllZip P xs ys → P x y
    → AllZip P (xs ++ x ∷ []) (ys ++ y ∷ [])
zip_more P [] [] x y all holds = (holds, tt)
zip_more P [] (z ∷ ys) x y all holds = absurd all
zip_more P (z ∷ xs) [] x y all holds = absurd all
zip_more P (w ∷ xs) (z ∷ ys) x y all holds = (all.0, zip_more P xs ys x y all.1 holds)

map_more : {A B : Type 0} (f : A → B) (xs : List A) (i : ℕ) (x : A) → slice_get xs i ≡ Some x
    → map f (take (i + 1) xs) ≡ map f (take i xs) ++ f x ∷ []
map_more f xs i x at =
    let is : get_or xs i x ≡ x = get_or_from_slice_get xs i x x at in
    ap (map f) (take_more xs i x (slice_get_within xs i x at) ∙ ap (λ y. take i xs ++ y ∷ []) is) ∙ map-append f (take i xs) (x ∷ [])

-- one slice more
pub fronts_more : {A : Type 0} (P : ℕ × SlicePart → List ℕ → Type 0) (items : A → List ℕ) (before : List (ℕ × SlicePart)) (k : ℕ)
    (slices : List SlicePart) (i : ℕ) (fronts : List A) (front : A) → i < length slices
    → AllZip P (before ++ map (λ s. (k, s)) (take i slices)) (map items fronts) → IfSome (slice_get slices i) (λ s. P (k, s) (items front))
    → AllZip P (before ++ map (λ s. (k, s)) (take (i + 1) slices)) (map items (fronts ++ front ∷ []))
fronts_more P items before k slices i fronts front short all holds =
    elim (slice_get_cases slices i).1 [
      | inl p ↦
          let is : P (k, p.0) (items front) = subst (λ o. IfSome o (λ s. P (k, s) (items front))) p.2 holds in
          subst (λ xs. AllZip P xs (map items (fronts ++ front ∷ [])))
          (append_assoc before (map (λ s. (k, s)) (take i slices)) ((k, p.0) ∷ [])
          ∙ ap (λ xs. before ++ xs) (sym (map_more (λ s. (k, s)) slices i p.0 p.2)))
          (subst (AllZip P ((before ++ map (λ s. (k, s)) (take i slices)) ++ (k, p.0) ∷ [])) (sym (map-append items fronts (front ∷ [])))
          (zip_more P (before ++ map (λ s. (k, s)) (take i slices)) (map items fronts) (k, p.0) (items front) all is))
      | inr p ↦ let past = p.0 in absurd (omega (arith, short, past))
    ]

-- the slices of one source more
sourced_suc : (round : List Parts) (from k : ℕ) → k < length round
    → sourced from (take (suc k) round) ≡ sourced from (take k round) ++ map (λ s. (from + k, s)) (get_or round k no_picture).slices
sourced_suc [] from k short = absurd (omega (arith, short))
sourced_suc (q ∷ round) from zero short =
    let here : from + 0 ≡ from = omega arith in
    append-nil (map (λ s. (from, s)) q.slices) ∙ ap (λ n. map (λ s. (n, s)) q.slices) (sym here)
sourced_suc (q ∷ round) from (suc k) short =
    let next : (from + 1) + k ≡ from + suc k = omega arith in
    ap (λ xs. map (λ s. (from, s)) q.slices ++ xs) (sourced_suc round (from + 1) k (omega (arith, short)))
    ∙ sym (append_assoc (map (λ s. (from, s)) q.slices) (sourced (from + 1) (take k round))
    (map (λ s. ((from + 1) + k, s)) (get_or round k no_picture).slices))
    ∙ ap (λ n. (map (λ s. (from, s)) q.slices ++ sourced (from + 1) (take k round)) ++ map (λ s. (n, s))
    (get_or round k no_picture).slices) next

pub sourced_more : (round : List Parts) (k : ℕ) → k < length round → sourced 0 (take (k + 1) round) ≡ sourced 0 (take k round) ++ map
    (λ s. (k, s)) (picture_at round k).slices
sourced_more round k short =
    let one : suc k ≡ k + 1 = omega arith in
    let here : 0 + k ≡ k = omega arith in
    ap (λ n. sourced 0 (take n round)) (sym one) ∙ sourced_suc round 0 k short ∙ ap
    (λ n. sourced 0 (take k round) ++ map (λ s. (n, s)) (picture_at round k).slices) here

pub sourced_all : (round : List Parts) (k : ℕ) → length round ≤ k → sourced 0 (take k round) ≡ sourced 0 round
sourced_all round k past = ap (sourced 0) (take_all k round past)

-- a fact of all pictures, at one
picture_all : (P : Parts → Type 0) (round : List Parts) (k : ℕ) → k < length round → AllByRecursion P round → P (picture_at round k)
picture_all P [] k short all = absurd (omega (arith, short))
picture_all P (q ∷ round) zero short all = all.0
picture_all P (q ∷ round) (suc k) short all = picture_all P round k (omega (arith, short)) all.1

-- ---- a difference of QPs has a code

pub qp_coded : (delta : ℤ) → neg_ℤ (pos 75) ≤ℤ delta → delta ≤ℤ pos 75 → IsCodeNumber (code_number delta)
qp_coded (pos zero) low high = omega arith
qp_coded (pos (suc n)) low high = omega (arith, ints, low, high)
qp_coded (negsuc n) low high = omega (arith, ints, low, high)

pub moved_sum : (init delta first : ℤ) → (pos 26 +ℤ first) +ℤ ((init +ℤ delta) -ℤ first) ≡ (init +ℤ delta) +ℤ pos 26
moved_sum init delta first = omega (arith, ints)

-- ---- what is known of a picture of a round that passes

-- its kind, its kept header fields, its one subpicture; and its kept fields are those of the sets that are sent
record IsAlike (round : List Parts) (n : RoundSets) (q : Parts) : Type 0 where
  kind : shared_kind q ≡ shared_kind (picture_at round 0)
  header : kept_header q ≡ kept_header (picture_at round 0)
  alone : subpics_of q.sps ≡ 1
  kept : HaveSameKept q.sps q.pps n.sps.now n.pps.now

module _ (round : List Parts) (n : RoundSets) (m : SliceNumbers) (are : IsInForce round n m) where
  ready : IsReady are.ready.0 round m.layout.now are.ready.1.0 n
  ready = are.ready.1.1

  pub some_round : 0 < length round
  some_round = let some = ready.made.can.are.some in let same = ready.same in omega (arith, some, same)

  few_round : length round ≤ 64
  few_round = let few = ready.made.can.are.few in let same = ready.same in omega (arith, few, same)

  alike : (k : ℕ) → k < length round → IsAlike round n (picture_at round k)
  alike k short = record {
    kind = kind_alike ready.corners round ready.same ready.passes k short;
    header = header_alike ready.corners round ready.same ready.passes k short;
    alone = one_subpic ready.corners round ready.same ready.passes k short;
    kept = kept_same are.ready.0 round m.layout.now are.ready.1.0 n ready k short;
  }

  -- ---- ids

  regions_count : length (corners_in ready.corners round) ≡ length round
  regions_count = ap (λ x. length x.subpics) (sym ready.made.is.pictures) ∙ frame_count ready.corners round m.layout.now ready.made
      ready.shapes

  indices : HaveIndices n.sps.now n.pps.now (length round)
  indices =
      let count = regions_count in
      let few = few_round in
      subst (HaveIndices n.sps.now n.pps.now) regions_count
      (have_indices (picture_at round 0).sps n.sps.now n.pps.now (frame_sps_shape ready.corners round are.ready.0) (corners_in ready.corners round)
      (picture_all AreInForce round 0 some_round ready.made.are).sps (ready.shapes.sps are.ready.0) ready.needed.sps refl
      (omega (arith, count, few)))

  ids_count : length m.ids.now ≡ length round
  ids_count = ap (λ xs. length xs) are.ids ∙ indices.count

  pub few_ids : length m.ids.now ≤ 1000
  few_ids = let count = ids_count in let few = few_round in omega (arith, count, few)

  pub one_each : length m.ids.now ≡ length m.layout.now.subpics
  one_each = ids_count ∙ sym (frame_count ready.corners round m.layout.now ready.made ready.shapes)

  index_is : (k : ℕ) → k < length round → index_of k m.ids.now ≡ k
  index_is k short = ap (λ xs. index_of k xs) are.ids ∙ indices.index k short

  -- ---- bodies

  new_low : (q : Parts) (id : ℕ) → new_id n.alf q id < 8
  new_low q id = id_low (map (λ b. b.now) n.alf.bodies) n.alf.ids.items (unwrap_or (body_of q aps.ALF id) []) alf_slots (omega arith)
      (slots_low alf_slots (length (alf_bodies round)) _ _ _ n.alf.ids.items ready.needed.taken.of_alf)

  -- with them, the filter in force of a slice is that of its picture
  abbrev filter_of_header : Parts → SliceValue → List Item
  filter_of_header q h = with_ids (id_for round (ids_in n) q) (filter_of (filter_items q.pps q.header.fields (read_of h)))

  new_is : (q : Parts) (h : SliceValue) → new_filter n.alf q h ≡ filter_of_header q h
  new_is q h = ap (λ bs. with_ids (λ id. id_of_body bs n.alf.ids.items (unwrap_or (body_of q aps.ALF id) []))
      (filter_of (filter_items q.pps q.header.fields (read_of h)))) ready.needed.alf

  -- ---- a slice

  module _ (has_filter : SliceHasFilter) (k : ℕ) (short : k < length round) (q : Parts) (q_is : q ≡ picture_at round k) (h : SliceValue)
      (header : IsHeader (structures q.sps) (in_force q.sps q.pps) q.header) (within : h.subpic < length q.layout.subpics)
      (read : IsReadAt (at_sets q.kind.nal_type q.sps q.pps q.header q.ids q.layout) h) where
    alike_here : IsAlike round n q
    alike_here = subst (IsAlike round n) (sym q_is) (alike k short)

    in_force_here : AreInForce q
    in_force_here = subst AreInForce (sym q_is) (picture_all AreInForce round k short ready.made.are)

    kept : HaveSameKept q.sps q.pps m.sps.now m.pps.now
    kept = subst (λ s. HaveSameKept q.sps q.pps s m.pps.now) (sym are.sps)
        (subst (λ p. HaveSameKept q.sps q.pps n.sps.now p) (sym are.pps) alike_here.kept)

    is_header : IsHeader (structures m.sps.now) (in_force m.sps.now m.pps.now) m.header.now
    is_header = subst (λ s. IsHeader (structures s) (in_force s m.pps.now) m.header.now) (sym are.sps)
        (subst (λ p. IsHeader (structures n.sps.now) (in_force n.sps.now p) m.header.now) (sym are.pps) are.is)

    fields_same : shown_items ph_kept.kept_ph_fields m.header.now.fields ≡ shown_items ph_kept.kept_ph_fields q.header.fields
    fields_same = are.says.fields.shown_ones ∙ sym alike_here.header

    lists_same : q.header.lists ≡ m.header.now.lists
    unfolding fresh
    lists_same = header.lists ∙ (same_kept_agree q.sps q.pps m.sps.now m.pps.now kept).lists ph_kept.kept_ph_fields q.header.fields
        m.header.now.fields refl (sym fields_same) ∙ sym is_header.lists

    same_header : AreSameForSlices q.header m.header.now
    same_header = record {
      fields = fields_same;
      first = ap (λ l. length l.first) (sym lists_same);
      second = ap (λ l. length l.second) (sym lists_same);
    }

    one_there : length q.layout.subpics ≡ 1
    one_there = subpics_count q in_force_here ∙ alike_here.alone

    first_subpic : h.subpic ≡ 0
    first_subpic = let one = one_there in omega (arith, within, one)

    slices_there : HaveSameSlices q.layout h.subpic m.layout.now (index_of k m.ids.now)
    slices_there =
        let one = one_there in
        let count = frame_count ready.corners round m.layout.now ready.made ready.shapes in
        let same : HaveSameSlices q.layout 0 m.layout.now k =
        same_slices q.layout m.layout.now 0 k in_force_here.layout (frame_layout ready.corners round m.layout.now ready.made
        ready.shapes) (omega (arith, one)) (omega (arith, count, short))
        (ap layout_of q_is ∙ sym (region_is ready.corners round m.layout.now ready.made ready.shapes k short)) in
        subst (λ j. HaveSameSlices q.layout j m.layout.now (index_of k m.ids.now)) (sym first_subpic)
        (subst (λ j. HaveSameSlices q.layout 0 m.layout.now j) (sym (index_is k short)) same)

    type_is : q.kind.nal_type ≡ m.nal_type
    type_is = ap (λ t. t.0) alike_here.kind ∙ sym are.type

    read_there : IsReadAt (at_sets m.nal_type q.sps q.pps q.header q.ids q.layout) h
    read_there = subst (λ t. IsReadAt (at_sets t q.sps q.pps q.header q.ids q.layout) h) type_is read

    pub goes_at : (id : ℕ) → id ≡ k → GoesAt h id m
    goes_at id is = subst (λ i. GoesAt h i m) (sym is) (record {
      sps = q.sps;
      pps = q.pps;
      header = q.header;
      ids = q.ids;
      layout = q.layout;
      inside = read_there.inside;
      fields = read_there.fields;
      numbers = read_there.numbers;
      same = kept;
      apart = subst IsApart (sym are.pps) (sent_apart are.ready.0 round m.layout.now are.ready.1.0 n ready);
      is_header = is_header;
      same_header = same_header;
      same_slices = slices_there;
    })

    module _ (shape : ShShape) (has : HasShape (picture_at round 0) q k h (new_filter n.alf q h) shape) where
      pub is_shape : IsShape m shape
      is_shape = record {
        known = let count = ids_count in let at : index_of shape.subpic_id m.ids.now ≡ k = ap (λ i. index_of i m.ids.now) has.subpic
            ∙ index_is k short in omega (arith, count, at, short);
        spelled = λ described. subst (λ s. shape.subpic_id < 2 ^ (number s sps_fields.sps_subpic_id_len_minus1 + 1)) (sym are.sps)
            (subst (λ i. i < 2 ^ (number n.sps.now sps_fields.sps_subpic_id_len_minus1 + 1)) (sym has.subpic) (indices.bits k short));
        unspelled = λ none. absurd (true≢false (sym (ap is_set (ap (λ s. number s sps_fields.sps_subpic_info_present_flag) are.sps
            ∙ indices.described)) ∙ none));
        filter = λ enabled. rw has.filter (filter_takes has_filter (new_id n.alf q) (new_low q) q h m.sps.now m.pps.now kept header read
            enabled);
        qp = qp_coded shape.qp_delta has.low has.high;
      }

      says_slice : (s : SlicePart) → s.header ≡ h → SaysSlice round (ids_in n) k s shape
      says_slice s is = record {
        subpic = has.subpic;
        filter = has.filter ∙ new_is q h ∙ ap (λ x. filter_of_header x h) q_is ∙ ap (λ x. filter_of_header (picture_at round k) x) (sym is);
        lmcs = has.lmcs ∙ ap (λ (x : Parts). is_used x.header.fields h ph.ph_lmcs_enabled_flag sh.sh_lmcs_used_flag) q_is
            ∙ ap (λ x. is_used (picture_at round k).header.fields x ph.ph_lmcs_enabled_flag sh.sh_lmcs_used_flag) (sym is);
        scaling = has.scaling ∙ ap (λ (x : Parts). is_used x.header.fields h ph.ph_explicit_scaling_list_enabled_flag
            sh.sh_explicit_scaling_list_used_flag) q_is
            ∙ ap (λ x. is_used (picture_at round k).header.fields x ph.ph_explicit_scaling_list_enabled_flag
            sh.sh_explicit_scaling_list_used_flag) (sym is);
        qp = has.qp ∙ ap (λ (x : Parts). slice_qp x.pps x.header.fields (read_of h)) q_is
            ∙ ap (λ x. slice_qp (picture_at round k).pps (picture_at round k).header.fields (read_of x)) (sym is);
      }

      pub is_front : (s : SlicePart) → s.header ≡ h → (bytes : List ℕ) → IsSent h shape m bytes → (front : List ℕ) (kind : Kind)
          → kind ≡ (picture_at round 0).kind
          → IsUnitOf kind.nal_type kind.temporal_id bytes front → (b : Begun) → IsBegun round n m.header.now m.layout.now b
          → IsFront round (ids_in n) (picture_at round 0).kind.nal_type b k s front
      is_front s is bytes written front kind kind_is made b begun = record {
        numbers = m;
        at = record {
          type = are.type;
          sps = are.sps ∙ sym begun.sps;
          pps = are.pps ∙ sym begun.pps;
          header = sym begun.header;
          layout = sym begun.layout;
          ids = are.ids ∙ ap (λ s. ids_of s n.pps.now) (sym begun.sps) ∙ ap (λ p. ids_of b.sps p) (sym begun.pps);
        };
        shape = shape;
        says = says_slice s is;
        header = written.header;
        reshaped = subst (λ x. sh_reshaped.IsReshapedSliceHeader x shape m written.header) (sym is) written.reshaped;
        bytes = bytes;
        spelled = subst (λ xs. IsSliceHeaderSpelling (in_force_at m) written.header.fields xs bytes) (ap (λ x. x.fields) (sym begun.header))
            written.spelled;
        made = subst (λ t. IsUnitOf (picture_at round 0).kind.nal_type t bytes front) (sym begun.temporal_id)
            (subst (λ (x : Kind). IsUnitOf x.nal_type x.temporal_id bytes front) kind_is made);
      }
