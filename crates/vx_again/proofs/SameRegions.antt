-- Region k of a merged picture that is read again has the decoding inputs of source k.
use Rattle.std.proofs.Common.{◌≡◌, ℕ, zero, suc, ◌+◌, ◌<◌, ◌==◌, true, false, List, [], ◌∷◌, ◌++◌, length, map, slice_get, Option, Some, None}
use Rattle.std.proofs.Common.{refl, ap, sym, subst, ◌∙◌, inl, inr, arith}
use Rattle.std.specs.Prelude.{filter, flat_map}
use Rattle.std.specs.List.{AllByRecursion, AllZip}
use Rattle.std.proofs.lemmas.Bool.{cases_Bool, eq-eqb, eqb-true, false_from_ne_true}
use Rattle.std.proofs.lemmas.List.{append-nil}
use Rattle.std.proofs.lemmas.List.Elements.{filter-append}
use Rattle.std.proofs.lemmas.Option.{none-some, same_Some}
use Rattle.vx_layout.proofs.Parts.{Each-append}
use Rattle.vx_pps.specs.laws.Sets.{ReadSlicesAreListable, SetsTellPartitions}
use Rattle.vx_sps.specs.Subpictures.{subpics_of}
use Rattle.vx_pic.specs.Inputs.{input_in, input_of, inputs_in, inputs_of, place_in}
use Rattle.vx_pic.specs.Parts.{Parts, SlicePart, parts_of}
use Rattle.vx_pic.specs.Readings.{Picture, Slice}
use Rattle.vx_pic.specs.Resident.{NeededIsBody, readings_of_plans}
use Rattle.vx_pic.specs.Sets.{address_of}
use Rattle.vx_pic.specs.Written as written
use Rattle.vx_pic.specs.Written.{Plan, planned}
use Rattle.vx_pic.proofs.ByAddress.{inputs_are_shown}
use Rattle.vx_write.specs.Again.{SendsItsSets}
use Rattle.vx_frame.specs.declared.corner.Corner.{Corner}
use Rattle.vx_frame.specs.Bodies.{filters_in, filters_of}
use Rattle.vx_frame.specs.Rounds.{picture_at}
use Rattle.vx_frame.proofs.Passing.{one_subpic}
use Rattle.vx_merge.specs.Headers.{IsMergedSlice, sourced}
use Rattle.vx_merge.specs.Merging.{Judges}
use Rattle.vx_merge.specs.Written.{IsMerged}
use Rattle.vx_again.specs.Frames.{IsReadyRound, MakeTheFrame}
use Rattle.vx_again.specs.Rounds.{MergedKeepsInputs}
use Rattle.vx_again.specs.Sources.{IsSourceSlice}
use Rattle.vx_again.proofs.Bodies.{HasBody, body_first, body_second}
use Rattle.vx_again.proofs.Facts.{sets_of, source_at}
use Rattle.vx_again.proofs.Frames.{make_the_frame}
use Rattle.vx_again.proofs.Orders.{subpic_is}
use Rattle.vx_again.proofs.SameInputs.{one_input}
use Rattle.vx_again.proofs.Slices.{SliceLaws}

-- ---- the slices of pictures, each with the index of its source

pairs_of : (k : ℕ) (P : ℕ × SlicePart → Type 0) (slices : List SlicePart)
    → AllByRecursion (λ (s : SlicePart). P (k, s)) slices → AllByRecursion P (map (λ s. (k, s)) slices)
pairs_of k P [] all = tt
pairs_of k P (s ∷ slices) all = (all.0, pairs_of k P slices all.1)

-- what holds of the slices of each picture holds of all
each_sourced : (P : ℕ × SlicePart → Type 0) (from : ℕ) (round : List Parts)
    → ((i : ℕ) → i < length round → AllByRecursion (λ (s : SlicePart). P (from + i, s)) (picture_at round i).slices)
    → AllByRecursion P (sourced from round)
each_sourced P from [] each = tt
each_sourced P from (q ∷ round) each =
    let here : from + 0 ≡ from = omega arith in
    let first : AllByRecursion (λ (s : SlicePart). P (from, s)) q.slices
    = subst (λ k. AllByRecursion (λ (s : SlicePart). P (k, s)) q.slices) here (each 0 (omega arith)) in
    Each-append P (map (λ s. (from, s)) q.slices) (sourced (from + 1) round) (pairs_of from P q.slices first)
    (each_sourced P (from + 1) round
    (λ i less.
    let next : from + suc i ≡ (from + 1) + i = omega arith in
    subst (λ k. AllByRecursion (λ (s : SlicePart). P (k, s)) (picture_at round i).slices) next (each (suc i) (omega (arith, less)))))

-- those of one source
all_own : (k : ℕ) (slices : List SlicePart) → filter (λ (x : ℕ × SlicePart). x.0 == k) (map (λ s. (k, s)) slices) ≡ map (λ s. (k, s)) slices
all_own k [] = refl
all_own k (s ∷ slices) = let own : (k == k) ≡ true = eq-eqb k k refl in rw own (ap (λ xs. (k, s) ∷ xs) (all_own k slices))

none_own : (j k : ℕ) (slices : List SlicePart) → (j == k) ≡ false → filter (λ (x : ℕ × SlicePart). x.0 == k) (map (λ s. (j, s)) slices) ≡ []
none_own j k [] other = refl
none_own j k (s ∷ slices) other = rw other (none_own j k slices other)

not_equal : (j k : ℕ) → j < k → (j == k) ≡ false
not_equal j k less = false_from_ne_true (j == k) (λ on. let same = eqb-true j k on in absurd (omega (arith, less, same)))

not_behind : (j k : ℕ) → k < j → (j == k) ≡ false
not_behind j k less = false_from_ne_true (j == k) (λ on. let same = eqb-true j k on in absurd (omega (arith, less, same)))

none_later : (k from : ℕ) (round : List Parts) → k < from → filter (λ (x : ℕ × SlicePart). x.0 == k) (sourced from round) ≡ []
none_later k from [] less = refl
none_later k from (q ∷ round) less =
    filter-append (λ (x : ℕ × SlicePart). x.0 == k) (map (λ s. (from, s)) q.slices) (sourced (from + 1) round)
    ∙ ap (λ xs. xs ++ filter (λ (x : ℕ × SlicePart). x.0 == k) (sourced (from + 1) round)) (none_own from k q.slices (not_behind from k less))
    ∙ none_later k (from + 1) round (omega (arith, less))

own_slices : (k from i : ℕ) (round : List Parts) → from + i ≡ k → i < length round
    → filter (λ (x : ℕ × SlicePart). x.0 == k) (sourced from round) ≡ map (λ s. (k, s)) (picture_at round i).slices
own_slices k from i [] at less = absurd (omega (arith, less))
own_slices k from zero (q ∷ round) at less =
    let is : from ≡ k = omega (arith, at) in
    filter-append (λ (x : ℕ × SlicePart). x.0 == k) (map (λ s. (from, s)) q.slices) (sourced (from + 1) round)
    ∙ ap (λ xs. filter (λ (x : ℕ × SlicePart). x.0 == k) (map (λ s. (from, s)) q.slices) ++ xs) (none_later k (from + 1) round (omega (arith, is)))
    ∙ append-nil (filter (λ (x : ℕ × SlicePart). x.0 == k) (map (λ s. (from, s)) q.slices))
    ∙ ap (λ j. filter (λ (x : ℕ × SlicePart). x.0 == k) (map (λ s. (j, s)) q.slices)) is ∙ all_own k q.slices
own_slices k from (suc i) (q ∷ round) at less =
    filter-append (λ (x : ℕ × SlicePart). x.0 == k) (map (λ s. (from, s)) q.slices) (sourced (from + 1) round)
    ∙ ap (λ xs. xs ++ filter (λ (x : ℕ × SlicePart). x.0 == k) (sourced (from + 1) round))
    (none_own from k q.slices (not_equal from k (omega (arith, at))))
    ∙ own_slices k (from + 1) i round (omega (arith, at)) (omega (arith, less))

-- ---- filters of a slice are among those of its round

each_filters : (q : Parts) (X : List ℕ → Type 0) (slices : List SlicePart) → ((b : List ℕ) → HasBody (flat_map (filters_of q) slices) b → X b)
    → AllByRecursion (λ (s : SlicePart). (b : List ℕ) → HasBody (filters_of q s) b → X b) slices
each_filters q X [] inside = tt
each_filters q X (s ∷ slices) inside = (
  λ b is. inside b (body_first (filters_of q s) (flat_map (filters_of q) slices) b is),
  each_filters q X slices (λ b is. inside b (body_second (filters_of q s) (flat_map (filters_of q) slices) b is)),
)

filters_at : (round : List Parts) (k : ℕ) → k < length round → (b : List ℕ) → HasBody (filters_in (picture_at round k)) b
    → HasBody (flat_map filters_in round) b
filters_at [] k short b is = absurd (omega (arith, short))
filters_at (q ∷ round) zero short b is = body_first (filters_in q) (flat_map filters_in round) b is
filters_at (q ∷ round) (suc k) short b is = body_second (filters_in q) (flat_map filters_in round) b (filters_at round k (omega (arith, short)) b is)

-- ---- slices that are written, with those of sources

-- what is told of those with an index
record IsSame (r : Picture) (round : List Parts) (x : ℕ × SlicePart) (w : Slice) : Type 0 where
  subpic : w.header.subpic ≡ x.0
  input : input_of r w ≡ input_in (picture_at round x.0) x.1

same_inputs : (r : Picture) (round : List Parts) (k : ℕ) (xs : List (ℕ × SlicePart)) (ws : List Slice) → AllZip (IsSame r round) xs ws
    → map (input_of r) (filter (λ (w : Slice). w.header.subpic == k) ws)
    ≡ map (λ (x : ℕ × SlicePart). input_in (picture_at round x.0) x.1) (filter (λ (x : ℕ × SlicePart). x.0 == k) xs)
same_inputs r round k [] [] all = refl
same_inputs r round k [] (w ∷ ws) all = absurd all
same_inputs r round k (x ∷ xs) [] all = absurd all
same_inputs r round k (x ∷ xs) (w ∷ ws) all =
    let more = same_inputs r round k xs ws all.1 in
    let alike : (w.header.subpic == k) ≡ (x.0 == k) = ap (λ j. j == k) all.0.subpic in
    elim (cases_Bool (x.0 == k)) [
      | inl on ↦
          let there : (w.header.subpic == k) ≡ true = alike ∙ on in
          rw (there, on)
          (ap (λ i. i ∷ map (input_of r) (filter (λ (v : Slice). v.header.subpic == k) ws)) all.0.input
          ∙ ap (λ is. input_in (picture_at round x.0) x.1 ∷ is) more)
      | inr off ↦
          let there : (w.header.subpic == k) ≡ false = alike ∙ off in
          rw (there, off) more
    ]

-- what is known of the one makes the other so
zip_with : {A B : Type 0} (P : A → Type 0) (Q R : A → B → Type 0) → ((x : A) (y : B) → P x → Q x y → R x y)
    → (xs : List A) (ys : List B) → AllByRecursion P xs → AllZip Q xs ys → AllZip R xs ys
zip_with P Q R move [] [] all zip = tt
zip_with P Q R move [] (y ∷ ys) all zip = absurd zip
zip_with P Q R move (x ∷ xs) [] all zip = absurd zip
zip_with P Q R move (x ∷ xs) (y ∷ ys) all zip = (move x y all.0 zip.0, zip_with P Q R move xs ys all.1 zip.1)

own_inputs : (round : List Parts) (k : ℕ) (slices : List SlicePart)
    → map (λ (x : ℕ × SlicePart). input_in (picture_at round x.0) x.1) (map (λ s. (k, s)) slices) ≡ map (input_in (picture_at round k)) slices
own_inputs round k [] = refl
own_inputs round k (s ∷ slices) = ap (λ is. input_in (picture_at round k) s ∷ is) (own_inputs round k slices)

-- all slices of a source are of its one subpicture
all_of_one : (q : Parts) (n : ℕ) (slices : List SlicePart) → n ≡ 1 → ((s : SlicePart) → IsSourceSlice q s → s.header.subpic < n)
    → AllByRecursion (IsSourceSlice q) slices → filter (λ (s : SlicePart). s.header.subpic == 0) slices ≡ slices
all_of_one q n [] one low all = refl
all_of_one q n (s ∷ slices) one low all =
    let less = low s all.0 in
    let here : (s.header.subpic == 0) ≡ true = eq-eqb s.header.subpic 0 (omega (arith, less, one)) in
    rw here (ap (λ xs. s ∷ xs) (all_of_one q n slices one low all.1))

-- ---- a round

-- what is known of a slice with its source
record IsKnown (round : List Parts) (x : ℕ × SlicePart) : Type 0 where
  short : x.0 < length round
  source : IsSourceSlice (picture_at round x.0) x.1
  inside : (b : List ℕ) → HasBody (filters_of (picture_at round x.0) x.1) b → HasBody (flat_map filters_in round) b

-- what another module tells of places: that of a slice is the one that it has in its source
abbrev pub KeepPlaces : (corners : List Corner) (level : Option ℕ) (round : List Parts) (done : List Plan) (p : Plan)
    → IsMerged corners level round done p → Type 0
KeepPlaces corners level round done p is =
    (k : ℕ) → k < length round → (s : SlicePart) (w : Slice) → IsSourceSlice (picture_at round k) s
    → IsMergedSlice round is.ids p.kind.nal_type p.begun k s w
    → place_in (parts_of (planned (readings_of_plans done) p)) w.header.subpic (address_of w.header)
    ≡ place_in (picture_at round k) s.header.subpic s.header.address

module _ (tells : SetsTellPartitions) (reads : ReadSlicesAreListable) (laws : SliceLaws) (needs : NeededIsBody)
    (corners : List Corner) (level : Option ℕ) (round : List Parts) (done : List Plan) (p : Plan) (ready : IsReadyRound corners round) (passes : Judges corners round None)
    (is : IsMerged corners level round done p) (sent : SendsItsSets is.needed done p) (places : KeepPlaces corners level round done p is)
    (kinds : (k : ℕ) → k < length round → (picture_at round k).kind ≡ p.kind) where
  abbrev again : Picture
  again = planned (readings_of_plans done) p

  both_known : (k : ℕ) → k < length round → (slices : List SlicePart) → AllByRecursion (IsSourceSlice (picture_at round k)) slices
      → AllByRecursion (λ (s : SlicePart). (b : List ℕ) → HasBody (filters_of (picture_at round k) s) b
      → HasBody (flat_map filters_in round) b) slices
      → AllByRecursion (λ (s : SlicePart). IsKnown round (k, s)) slices
  both_known k short [] sources insides = tt
  both_known k short (s ∷ slices) sources insides =
      (record { short = short; source = sources.0; inside = insides.0 }, both_known k short slices sources.1 insides.1)

  all_known : AllByRecursion (IsKnown round) (sourced 0 round)
  all_known = each_sourced (IsKnown round) 0 round (λ i less.
      let here : 0 + i ≡ i = omega arith in
      let own = source_at tells reads corners round ready passes i less in
      subst (λ k. AllByRecursion (λ (s : SlicePart). IsKnown round (k, s)) (picture_at round i).slices) (sym here)
      (both_known i less (picture_at round i).slices own.slices
      (each_filters (picture_at round i) (HasBody (flat_map filters_in round)) (picture_at round i).slices (filters_at round i less))))

  abbrev IsItsSlice : ℕ × SlicePart → Slice → Type 0
  IsItsSlice x w = IsMergedSlice round is.ids p.kind.nal_type p.begun x.0 x.1 w

  make : MakeTheFrame (length round) p.begun.layout is.ids.pps p.begun.sps p.begun.pps
  make = make_the_frame tells reads corners level round p.begun.layout is.ids.pps p.begun.sps p.begun.pps ready passes is.frame
      (sets_of corners level round done p is)

  one_same : (x : ℕ × SlicePart) (w : Slice) → IsKnown round x → IsItsSlice x w → IsSame again round x w
  one_same (k, s) w known own = record {
    subpic = subpic_is tells reads corners level round done p ready passes is make k known.short s w own;
    input = one_input tells reads laws needs corners level round done p ready passes is sent k known.short s w known.source known.inside own
        (sym (kinds k known.short)) (places k known.short s w known.source own);
  }

  pub inputs_kept : (k : ℕ) → k < length round → inputs_of again k ≡ inputs_in (picture_at round k) 0
  inputs_kept k short =
      let q = picture_at round k in
      let own = source_at tells reads corners round ready passes k short in
      let one = one_subpic corners round ready.same passes k short in
      same_inputs again round k (sourced 0 round) (written.planned_slices p)
      (zip_with (IsKnown round) IsItsSlice (IsSame again round) one_same (sourced 0 round) (written.planned_slices p) all_known is.slices)
      ∙ ap (map (λ (x : ℕ × SlicePart). input_in (picture_at round x.0) x.1)) (own_slices k 0 k round (omega arith) short)
      ∙ own_inputs round k q.slices
      ∙ ap (map (input_in q)) (sym (all_of_one q (subpics_of q.sps) q.slices one (λ s is_own. is_own.subpic) own.slices))

-- ---- pictures

-- the picture at an index of a round of pictures
at_index : (pics : List Picture) (k : ℕ) (q : Picture) → slice_get pics k ≡ Some q
    → (k < length (map parts_of pics)) × (picture_at (map parts_of pics) k ≡ parts_of q)
at_index [] k q at = absurd (none-some q at)
at_index (x ∷ pics) zero q at = (omega arith, ap parts_of (same_Some x q at))
at_index (x ∷ pics) (suc k) q at = let more = at_index pics k q at in (omega (arith, more.0), more.1)

kind_at : (pics : List Picture) (p : Plan) → AllByRecursion (λ q. q.kind ≡ p.kind) pics
    → (k : ℕ) → k < length (map parts_of pics) → (picture_at (map parts_of pics) k).kind ≡ p.kind
kind_at [] p all k short = absurd (omega (arith, short))
kind_at (q ∷ pics) p all zero short = all.0
kind_at (q ∷ pics) p all (suc k) short = kind_at pics p all.1 k (omega (arith, short))

pub keeps_inputs : SetsTellPartitions → ReadSlicesAreListable → SliceLaws → NeededIsBody
    → ((corners : List Corner) (level : Option ℕ) (round : List Parts) (done : List Plan) (p : Plan)
    → IsReadyRound corners round → Judges corners round None → (is : IsMerged corners level round done p) → KeepPlaces corners level round done p is) → MergedKeepsInputs
keeps_inputs tells reads laws needs places corners level pics done p ready passes is sent kinds k q at =
    let index = at_index pics k q at in
    inputs_kept tells reads laws needs corners level (map parts_of pics) done p ready passes is sent
    (places corners level (map parts_of pics) done p ready passes is)
    (kind_at pics p kinds) k index.0
    ∙ ap (λ (x : Parts). inputs_in x 0) index.1 ∙ inputs_are_shown q 0
