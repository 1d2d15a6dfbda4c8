-- The slices of a merged picture are those of its frame, in order: by source, and then by address.
use Rattle.std.proofs.Common.{◌≡◌, ℕ, zero, suc, ◌+◌, ◌<◌, ◌≤◌, ◌==◌, true, List, [], ◌∷◌, ◌++◌, length, length-append, map, take, Option, None, refl, ap, sym, subst, ◌∙◌, arith}
use Rattle.std.specs.Prelude.{filter, sum_by}
use Rattle.std.specs.List.{AllByRecursion, AllZip, range_with_len}
use Rattle.std.proofs.lemmas.Bool.{eq-eqb}
use Rattle.std.proofs.lemmas.List.{append-nil, length-map, take_more}
use Rattle.std.proofs.lemmas.List.Concat.{flat_map-append}
use Rattle.std.proofs.lemmas.List.FromFn.{length-range_with_len}
use Rattle.std.proofs.lemmas.List.Sums.{sum_by-cons}
use Rattle.vx_fields.specs.declared.sh.TheConstants.{sh_slice_address}
use Rattle.vx_table.specs.Loaded.{number}
use Rattle.vx_table.specs.Scope.{fresh}
use Rattle.vx_table.proofs.Loading.{number_of_shown}
use Rattle.vx_layout.specs.declared.numbers.Numbers.{Numbers}
use Rattle.vx_layout.specs.declared.rect.Rect.{Rect}
use Rattle.vx_layout.specs.Layouts.{no_rect, slices_in, subpic_at}
use Rattle.vx_layout.specs.Rects.{in_order, slices_of_subpicture}
use Rattle.vx_layout.specs.Regions.{counted_from}
use Rattle.vx_layout.proofs.FrameSlices.{AllZip-long}
use Rattle.vx_pps.specs.laws.Sets.{ReadSlicesAreListable, SetsTellPartitions}
use Rattle.vx_sh.specs.Depends.{kept_fields}
use Rattle.vx_sh.specs.Whole.{index_of}
use Rattle.vx_pic.specs.Parts.{Parts, SlicePart}
use Rattle.vx_pic.specs.PictureLayout.{ids_of}
use Rattle.vx_pic.specs.Readings.{Begun, Slice}
use Rattle.vx_pic.specs.Rules.{picture_limit, unit_size}
use Rattle.vx_pic.specs.Sets.{address_of, slices_before}
use Rattle.vx_pic.specs.Written as written
use Rattle.vx_pic.specs.Written.{AreInOrder, Plan}
use Rattle.vx_write.proofs.Sizes.{subpics_count}
use Rattle.vx_frame.specs.declared.corner.Corner.{Corner}
use Rattle.vx_frame.specs.Regions.{corners_in, layout_of, layouts_in}
use Rattle.vx_frame.specs.Rounds.{picture_at}
use Rattle.vx_frame.proofs.FrameShaping.{slices_count}
use Rattle.vx_frame.proofs.Passing.{none_broken, one_subpic}
use Rattle.vx_merge.specs.Headers.{IsMergedSlice, sourced}
use Rattle.vx_merge.specs.Merging.{Judges, Passes}
use Rattle.vx_merge.specs.Written.{IsMerged, limits_of}
use Rattle.vx_merge.proofs.SliceRegions.{frame_count, region_is}
use Rattle.vx_again.specs.Frames.{IsReadyRound, MakeTheFrame}
use Rattle.vx_again.specs.Rounds.{MergedIsWhole}
use Rattle.vx_again.specs.Sources.{IsSource, IsSourceSlice}
use Rattle.vx_again.proofs.Facts.{made, sets_of, shapes, source_at}
use Rattle.vx_again.proofs.Frames.{count_rects, make_the_frame}

-- ---- a picture of one subpicture

all_first : (slices : List SlicePart) → AllByRecursion (λ (s : SlicePart). s.header.subpic ≡ 0) slices
    → filter (λ (s : SlicePart). s.header.subpic == 0) slices ≡ slices
all_first [] all = refl
all_first (s ∷ slices) all = let here : (s.header.subpic == 0) ≡ true = eq-eqb s.header.subpic 0 all.0 in rw here (ap (λ xs. s ∷ xs) (all_first slices all.1))

each_first : (q : Parts) (n : ℕ) (slices : List SlicePart) → n ≡ 1 → ((s : SlicePart) → IsSourceSlice q s → s.header.subpic < n)
    → AllByRecursion (IsSourceSlice q) slices → AllByRecursion (λ (s : SlicePart). s.header.subpic ≡ 0) slices
each_first q n [] one low all = tt
each_first q n (s ∷ slices) one low all = let less = low s all.0 in (omega (arith, less, one), each_first q n slices one low all.1)

-- its slices have the addresses 0, 1, ..
pub lone_rise : (q : Parts) → IsSource q → length q.layout.subpics ≡ 1
    → map (λ (s : SlicePart). s.header.address) q.slices ≡ range_with_len 0 (length (slices_in q.layout 0))
lone_rise q is one =
    let first = each_first q (length q.layout.subpics) q.slices one (λ s own. let low = own.subpic in let count = subpics_count q is.sets in omega (arith, low, count)) is.slices in
    ap (λ xs. map (λ (s : SlicePart). s.header.address) xs) (sym (all_first q.slices first)) ∙ is.order 0 (omega (arith, one))

-- ---- slices one behind another

head_of : List ℕ → ℕ
head_of [] = 0
head_of (n ∷ ns) = n

tail_of : List ℕ → List ℕ
tail_of [] = []
tail_of (n ∷ ns) = ns

module _ (b : Begun) (P : ℕ × SlicePart → Slice → Type 0) where
  -- those of one source, and others behind them
  one_source : (q : Parts) (k base : ℕ) (ss : List SlicePart) (a m n : ℕ) (rest : List (ℕ × SlicePart)) (ws : List Slice)
      → map (λ (s : SlicePart). s.header.address) ss ≡ range_with_len a m → base + a ≡ n
      → ((s : SlicePart) (w : Slice) → IsSourceSlice q s → P (k, s) w → slices_before b.layout w.header ≡ base + s.header.address)
      → AllByRecursion (IsSourceSlice q) ss
      → AllZip P (map (λ s. (k, s)) ss ++ rest) ws → ((vs : List Slice) → AllZip P rest vs → AreInOrder b (base + (a + m)) vs)
      → AreInOrder b n ws
  unfolding head_of tail_of
  one_source q k base [] a zero n rest ws rise from place each all on =
      let end : base + (a + 0) ≡ n = omega (arith, from) in
      subst (λ j. AreInOrder b j ws) end (on ws all)
  one_source q k base [] a (suc m) n rest ws rise from place each all on = absurd (omega (arith, ap (λ xs. length xs) rise))
  one_source q k base (s ∷ ss) a zero n rest ws rise from place each all on = absurd (omega (arith, ap (λ xs. length xs) rise))
  one_source q k base (s ∷ ss) a (suc m) n rest [] rise from place each all on = absurd all
  one_source q k base (s ∷ ss) a (suc m) n rest (w ∷ ws) rise from place each all on =
      let first : s.header.address ≡ a = ap head_of rise in
      let at = place s w each.0 all.0 in
      let more = one_source q k base ss (a + 1) m (n + 1) rest ws (ap tail_of rise) (omega (arith, from)) place each.1 all.1
      (λ vs others. let end : base + ((a + 1) + m) ≡ base + (a + suc m) = omega arith in subst (λ j. AreInOrder b j vs) (sym end) (on vs others)) in
      (omega (arith, at, first, from), more)

-- what is known of a source at its place
record StandsAt (b : Begun) (P : ℕ × SlicePart → Slice → Type 0) (before : ℕ → ℕ) (k : ℕ) (q : Parts) : Type 0 where
  count : ℕ
  rise : map (λ (s : SlicePart). s.header.address) q.slices ≡ range_with_len 0 count
  next : before (suc k) ≡ before k + count
  place : (s : SlicePart) (w : Slice) → IsSourceSlice q s → P (k, s) w → slices_before b.layout w.header ≡ before k + s.header.address
  each : AllByRecursion (IsSourceSlice q) q.slices

all_sources : (b : Begun) (P : ℕ × SlicePart → Slice → Type 0) (before : ℕ → ℕ) (k : ℕ) (qs : List Parts) (ws : List Slice)
    → ((i : ℕ) → i < length qs → StandsAt b P before (k + i) (picture_at qs i)) → AllZip P (sourced k qs) ws → AreInOrder b (before k) ws
all_sources b P before k [] [] stand all = tt
all_sources b P before k [] (w ∷ ws) stand all = absurd all
all_sources b P before k (q ∷ qs) ws stand all =
    let here : k + 0 ≡ k = omega arith in
    let first : StandsAt b P before k q = subst (λ j. StandsAt b P before j q) here (stand 0 (omega arith)) in
    one_source b P q k (before k) q.slices 0 first.count (before k) (sourced (k + 1) qs) ws first.rise (omega arith) first.place first.each all
    (λ vs others.
    let one : k + 1 ≡ suc k = omega arith in
    let end : before (k + 1) ≡ before k + (0 + first.count) = let more = first.next in ap before one ∙ omega (arith, more) in
    subst (λ j. AreInOrder b j vs) end
    (all_sources b P before (k + 1) qs vs (λ i less. let there : k + suc i ≡ (k + 1) + i = omega arith in subst (λ j. StandsAt b P before j (picture_at qs i)) there (stand (suc i) (omega (arith, less)))) others))

-- ---- how many there are

sourced_count : (k : ℕ) (qs : List Parts) → length (sourced k qs) ≡ sum_by (λ (q : Parts). length q.slices) qs
sourced_count k [] = refl
sourced_count k (q ∷ qs) =
    length-append (map (λ s. (k, s)) q.slices) (sourced (k + 1) qs)
    ∙ ap (λ n. n + length (sourced (k + 1) qs)) (length-map q.slices (λ s. (k, s)))
    ∙ ap (λ n. length q.slices + n) (sourced_count (k + 1) qs) ∙ sym (sum_by-cons (λ (p : Parts). length p.slices) q qs)

layouts_count : (qs : List Parts)
    → ((i : ℕ) → i < length qs → length (picture_at qs i).slices ≡ length (layout_of (picture_at qs i)).slices)
    → sum_by (λ (q : Parts). length q.slices) qs ≡ sum_by (λ (n : Numbers). length n.slices) (layouts_in qs)
layouts_count [] each = refl
layouts_count (q ∷ qs) each =
    sum_by-cons (λ (p : Parts). length p.slices) q qs ∙ ap (λ n. n + sum_by (λ (p : Parts). length p.slices) qs) (each 0 (omega arith))
    ∙ ap (λ n. length (layout_of q).slices + n) (layouts_count qs (λ i less. each (suc i) (omega (arith, less))))
    ∙ sym (sum_by-cons (λ (n : Numbers). length n.slices) (layout_of q) (layouts_in qs))

-- ---- the frame

region_count : (n m : Numbers) (k : ℕ)
    → length (map (counted_from (subpic_at n k)) (slices_in n k)) ≡ length (map (counted_from (subpic_at m 0)) (slices_in m 0))
    → length (slices_in n k) ≡ length (slices_in m 0)
region_count n m k same = sym (length-map (slices_in n k) (counted_from (subpic_at n k))) ∙ same
    ∙ length-map (slices_in m 0) (counted_from (subpic_at m 0))

-- how many slices stand before those of a subpicture
abbrev pub before_in : Numbers → ℕ → ℕ
before_in n k = length (in_order n.slices (take k n.subpics))

before_more : (n : Numbers) (k : ℕ) → k < length n.subpics → before_in n (suc k) ≡ before_in n k + length (slices_in n k)
before_more n k short =
    let one : k + 1 ≡ suc k = omega arith in
    let last_ : List Rect = subpic_at n k ∷ [] in
    ap (before_in n) (sym one) ∙ ap (λ rs. length (in_order n.slices rs)) (take_more n.subpics k no_rect short)
    ∙ ap (λ rs. length rs) (flat_map-append (slices_of_subpicture n.slices) (take k n.subpics) last_)
    ∙ length-append (in_order n.slices (take k n.subpics)) (in_order n.slices last_)
    ∙ ap (λ m. before_in n k + m) (ap (λ rs. length rs) (append-nil (slices_in n k)))

module _ (tells : SetsTellPartitions) (reads : ReadSlicesAreListable) (corners : List Corner) (level : Option ℕ) (round : List Parts)
    (done : List Plan) (p : Plan)
    (ready : IsReadyRound corners round) (passes : Judges corners round None) (is : IsMerged corners level round done p)
    (make : MakeTheFrame (length round) p.begun.layout is.ids.pps p.begun.sps p.begun.pps) where
  abbrev frame : Numbers
  frame = p.begun.layout

  abbrev IsOf : ℕ × SlicePart → Slice → Type 0
  IsOf x w = IsMergedSlice round is.ids p.kind.nal_type p.begun x.0 x.1 w

  lone : (k : ℕ) → k < length round → length (picture_at round k).layout.subpics ≡ 1
  lone k short = subpics_count (picture_at round k) (source_at tells reads corners round ready passes k short).sets
      ∙ one_subpic corners round ready.same passes k short

  -- region k has the slices of source k
  same_count : (k : ℕ) → k < length round → length (slices_in frame k) ≡ length (slices_in (picture_at round k).layout 0)
  same_count k short = region_count frame (picture_at round k).layout k
      (ap (λ (n : Numbers). length n.slices) (region_is corners round frame (made tells reads corners round ready passes frame is.frame) (shapes tells reads corners round ready passes frame is.frame) k short))

  -- a slice of source k is of subpicture k, with its own address
  pub subpic_is : (k : ℕ) → k < length round → (s : SlicePart) (w : Slice) → IsMergedSlice round is.ids p.kind.nal_type p.begun k s w
      → w.header.subpic ≡ k
  subpic_is k short s w own =
      ap (λ h. h.subpic) own.read ∙ own.is.reshaped.subpic ∙ ap (λ ids. index_of own.is.shape.subpic_id ids) own.is.at.ids
      ∙ ap (λ i. index_of i (ids_of p.begun.sps p.begun.pps)) own.is.says.subpic ∙ make.index k short

  pub address_is : (q : Parts) (k : ℕ) (s : SlicePart) (w : Slice) → IsSourceSlice q s → IsMergedSlice round is.ids p.kind.nal_type p.begun k s w
      → address_of w.header ≡ s.header.address
  unfolding address_of fresh
  address_is q k s w source own =
      ap (λ h. number h.fields sh_slice_address) own.read
      ∙ number_of_shown kept_fields sh_slice_address own.is.header.fields refl
      ∙ ap (λ xs. number xs sh_slice_address) own.is.reshaped.fields.kept
      ∙ sym (number_of_shown kept_fields sh_slice_address s.header.fields refl) ∙ sym source.address

  place_is : (k : ℕ) → k < length round → (s : SlicePart) (w : Slice) → IsSourceSlice (picture_at round k) s
      → IsMergedSlice round is.ids p.kind.nal_type p.begun k s w → slices_before frame w.header ≡ before_in frame k + s.header.address
  unfolding slices_before
  place_is k short s w source own =
      ap (λ j. length (in_order frame.slices (take j frame.subpics)) + address_of w.header) (subpic_is k short s w own)
      ∙ ap (λ a. before_in frame k + a) (address_is (picture_at round k) k s w source own)

  stand : (k : ℕ) → k < length round → StandsAt p.begun IsOf (before_in frame) k (picture_at round k)
  stand k short =
      let count = frame_count corners round frame (made tells reads corners round ready passes frame is.frame) (shapes tells reads corners round ready passes frame is.frame) in record {
        count = length (slices_in frame k);
        rise = lone_rise (picture_at round k) (source_at tells reads corners round ready passes k short) (lone k short)
            ∙ ap (range_with_len 0) (sym (same_count k short));
        next = before_more frame k (omega (arith, count, short));
        place = place_is k short;
        each = (source_at tells reads corners round ready passes k short).slices;
      }

  in_their_order : AreInOrder p.begun 0 (written.planned_slices p)
  in_their_order =
      all_sources p.begun IsOf (before_in frame) 0 round (written.planned_slices p) (λ i short. let same : 0 + i ≡ i = omega arith in subst (λ j. StandsAt p.begun IsOf (before_in frame) j (picture_at round i)) (sym same) (stand i short)) is.slices

  -- a source has as many slices as its layout
  own_count : (k : ℕ) → k < length round → length (picture_at round k).slices ≡ length (layout_of (picture_at round k)).slices
  own_count k short =
      let q : Parts = picture_at round k in
      sym (length-map q.slices (λ (s : SlicePart). s.header.address))
      ∙ ap (λ ns. length ns) (lone_rise q (source_at tells reads corners round ready passes k short) (lone k short))
      ∙ length-range_with_len 0 (length (slices_in q.layout 0))
      ∙ sym (length-map (slices_in q.layout 0) (counted_from (subpic_at q.layout 0)))

  all_there : length (written.planned_slices p) ≡ length frame.slices
  all_there =
      let long : length (corners_in corners round) ≡ length (layouts_in round) = count_rects tells reads corners level round frame is.ids.pps p.begun.sps p.begun.pps ready passes is.frame (sets_of corners level round done p is) ∙ sym (length-map round layout_of) in
      sym (AllZip-long IsOf (sourced 0 round) (written.planned_slices p) is.slices) ∙ sourced_count 0 round ∙ layouts_count round own_count
      ∙ sym (ap (λ (n : Numbers). length n.slices) is.frame.pictures ∙ slices_count (corners_in corners round) (layouts_in round) long)

-- ---- limits

few_bytes : (corners : List Corner) (level : Option ℕ) (round : List Parts) (done : List Plan) (p : Plan) → IsReadyRound corners round
    → Passes corners level round done p
    → unit_size p.begun.unit + sum_by (λ (s : Slice). length s.unit) (written.planned_slices p) ≤ picture_limit
few_bytes corners level round done p ready passes =
    let none = (none_broken (length corners) (limits_of done p) passes.limits).1.0 0 ready.are.some in
    omega (arith, none)

pub is_whole_plan : SetsTellPartitions → ReadSlicesAreListable → MergedIsWhole
is_whole_plan tells reads corners level round done p ready passes =
    let is : IsMerged corners level round done p = passes.is in
    let make = make_the_frame tells reads corners level round p.begun.layout is.ids.pps p.begun.sps p.begun.pps ready passes.verdict is.frame (sets_of corners level round done p is) in
    record {
      order = in_their_order tells reads corners level round done p ready passes.verdict is make;
      all = all_there tells reads corners level round done p ready passes.verdict is make;
      size = few_bytes corners level round done p ready passes;
    }
