-- Slices are read under the rewritten sets as under the source's, as those of the one subpicture.
use Rattle.std.proofs.Common.{◌≡◌, ◌⊎◌, ℕ, zero, suc, ◌+◌, ◌-◌, ◌*◌, ◌<◌, ◌≤◌, ◌==◌, ◌&&◌, Bool, true, false, cond, List, [], ◌∷◌, length, length-append, map, slice_index, Ok, refl, ap, sym, subst, ◌∙◌, inl, inr, arith}
use Rattle.std.specs.Prelude.{filter, nat_lt, slice_index_or}
use Rattle.std.proofs.lemmas.Bool.{cases_Bool, cases_eq, eq-eqb, eqb-true, lt-ltb, ltb-true, true≢false}
use Rattle.std.proofs.lemmas.List.{length-map}
use Rattle.vx_bits.specs.declared.list.Item.{Item}
use Rattle.vx_fields.specs.declared.sh.TheConstants.{sh_subpic_id}
use Rattle.vx_table.specs.Depends.{Agree}
use Rattle.vx_table.specs.Loaded.{number}
use Rattle.vx_layout.specs.declared.numbers.Numbers.{Numbers}
use Rattle.vx_layout.specs.declared.rect.Rect.{Rect}
use Rattle.vx_layout.specs.Bounds.{last}
use Rattle.vx_layout.specs.Faults.{height, width}
use Rattle.vx_layout.specs.laws.Layouts.{CutsNest, RegionKeepsSlices}
use Rattle.vx_layout.specs.Layouts.{HasLayout, no_rect, slice_at, slices_in, subpic_at}
use Rattle.vx_layout.specs.Rects.{IsPart, fits}
use Rattle.vx_layout.specs.Regions.{counted_from, cut_bounds, inner, region_of}
use Rattle.vx_layout.specs.Scan.{entries}
use Rattle.vx_layout.proofs.Entries.{entries-empty, entries-is, rows_met}
use Rattle.vx_layout.proofs.Holding.{fits_tells}
use Rattle.vx_layout.proofs.Moving.{last-cut}
use Rattle.vx_ph.specs.InForce.{in_force}
use Rattle.vx_sps.specs.Subpictures.{subpics_of}
use Rattle.vx_sh.specs.Elsewhere.{AgreeAt, HaveSubpicture, SliceReadElsewhere, given}
use Rattle.vx_sh.specs.InForce.{SliceScopesAreWhole, slice_scope}
use Rattle.vx_sh.specs.Value.{NumbersAreTold}
use Rattle.vx_sh.specs.Whole.{At, index_of, points_at, num_slices_in_subpic}
use Rattle.vx_pic.specs.Sets.{SliceHeader}
use Rattle.vx_pic.specs.Parts.{Parts}
use Rattle.vx_pic.specs.Rules.{Readers}
use Rattle.vx_pic.specs.UnderSets.{picture_header_of}
use Rattle.vx_pic.specs.UnderSets as under
use Rattle.vx_pic.specs.PictureLayout.{ids_of}
use Rattle.vx_pic.specs.H266.{AreOfH266, IsSlice, IsSliceAnswer}
use Rattle.vx_pic.specs.H266Laws.{HaveOneAnswer}
use Rattle.vx_pic.proofs.Ids.{ids_count}
use Rattle.vx_extract.specs.Again.{AgreeForHeaders, MakeRegion, header_alone, begun_alone, begun_in}
use Rattle.vx_extract.specs.Shapes.{id_in}
use Rattle.vx_write.specs.InForce.{AreInForce}
use Rattle.vx_write.proofs.Sizes.{subpics_count}

-- ---- entry points

pub cut_length : (bounds : List ℕ) (from size : ℕ) → length (cut_bounds bounds from size) ≡ length (inner bounds from size) + 2
cut_length bounds from size = omega (arith, length-append (map (λ b. b - from) (inner bounds from size)) (size ∷ []), length-map (inner bounds from size) (λ b. b - from))

-- as many bounds pass through a rectangle of a region
inner_same : CutsNest → (bounds : List ℕ) (from size at wide : ℕ) → from ≤ at → at + wide ≤ from + size → length (inner (cut_bounds bounds from size) (at - from) wide) ≡ length (inner bounds at wide)
inner_same nest bounds from size at wide behind inside =
    let there : from + (at - from) ≡ at = omega (arith, behind) in
    let same : cut_bounds (cut_bounds bounds from size) (at - from) wide ≡ cut_bounds bounds at wide = nest bounds from size (at - from) wide (omega (arith, behind, inside)) ∙ ap (λ n. cut_bounds bounds n wide) there in
    omega (arith, cut_length (cut_bounds bounds from size) (at - from) wide, cut_length bounds at wide, ap (λ xs. length xs) same)

rows_same : CutsNest → (sync : Bool) (bounds : List ℕ) (from size at wide : ℕ) → from ≤ at → at + wide ≤ from + size → rows_met sync (cut_bounds bounds from size) (at - from) wide ≡ rows_met sync bounds at wide
unfolding rows_met
rows_same nest true bounds from size at wide behind inside = refl
rows_same nest false bounds from size at wide behind inside = ap (λ n. n + 1) (inner_same nest bounds from size at wide behind inside)

first_at : (p : Rect → Bool) (x : Rect) (rest : List Rect) (i : ℕ) (d : Rect) → ((j : ℕ) → j < length rest → p (slice_index_or rest j d) ≡ true) → p x ≡ true → i < length (x ∷ rest) → p (slice_index_or (x ∷ rest) i d) ≡ true
first_at p x rest zero d later on short = on
first_at p x rest (suc i) d later on short = later i (omega (arith, short))

filtered_at : (p : Rect → Bool) (xs : List Rect) (i : ℕ) (d : Rect) → i < length (filter p xs) → p (slice_index_or (filter p xs) i d) ≡ true
filtered_at p [] i d short = absurd (omega (arith, short))
filtered_at p (x ∷ xs) i d short = elim (cases_Bool (p x)) [
  | inl on ↦ rw on (first_at p x (filter p xs) i d (λ j less. filtered_at p xs j d less) on (rw on at short))
  | inr off ↦ rw off (filtered_at p xs i d (rw off at short))
]

module _ (nest : CutsNest) (keeps : RegionKeepsSlices) (regions : (n : Numbers) (k : ℕ) → HasLayout n → k < length n.subpics → HasLayout (region_of n k)) where
  -- a slice of a region has the entry points of the subpicture's
  points_same : (n : Numbers) (k m : ℕ) (sync : Bool) → HasLayout n → k < length n.subpics → m < length (slices_in n k)
      → entries n.columns n.rows (slice_at n k m) sync ≡ entries (region_of n k).columns (region_of n k).rows (slice_at (region_of n k) 0 m) sync
  points_same n k m sync layout within short =
      let s : Rect = subpic_at n k in
      let r : Rect = slice_at n k m in
      let region = regions n k layout within in
      let part : IsPart (width n) (height n) s = layout.faultless.subpics.parts k no_rect within in
      let across = part.across in
      let down = part.down in
      let slice : slice_at (region_of n k) 0 m ≡ counted_from s r = keeps n k m short in
      let fit : fits r s ≡ true = filtered_at (λ t. fits t s) n.slices m no_rect short in
      let to_slice : entries (region_of n k).columns (region_of n k).rows (slice_at (region_of n k) 0 m) sync ≡ entries (region_of n k).columns (region_of n k).rows (counted_from s r) sync =
      ap (λ t. entries (region_of n k).columns (region_of n k).rows t sync) slice in
      let none : (r.w ≡ 0) ⊎ (r.h ≡ 0) → entries n.columns n.rows r sync ≡ entries (region_of n k).columns (region_of n k).rows (slice_at (region_of n k) 0 m) sync =
      λ e. entries-empty n.columns n.rows r sync e ∙ sym (to_slice ∙ entries-empty (region_of n k).columns (region_of n k).rows (counted_from s r) sync e) in
      elim (fits_tells r s fit) [
        | inl e ↦ none e
        | inr inside ↦ elim (cases_eq r.w 0) [
          | inl e ↦ none (inl e)
          | inr wide ↦ elim (cases_eq r.h 0) [
            | inl e ↦ none (inr e)
            | inr high ↦
                let some : 0 < r.w = omega (arith, wide) in
                let tall : 0 < r.h = omega (arith, high) in
                let w_is : last (cut_bounds n.columns s.x s.w) ≡ s.w = last-cut n.columns s.x s.w in
                let h_is : last (cut_bounds n.rows s.y s.h) ≡ s.h = last-cut n.rows s.y s.h in
                entries-is n.columns n.rows r sync layout.columns layout.rows some tall (omega (arith, inside, across)) (omega (arith, inside, down))
                ∙ ap (λ c. (c + 1) * rows_met sync n.rows r.y r.h - 1) (sym (inner_same nest n.columns s.x s.w r.x r.w inside.0 inside.1))
                ∙ ap (λ t. (length (inner (cut_bounds n.columns s.x s.w) (r.x - s.x) r.w) + 1) * t - 1) (sym (rows_same nest sync n.rows s.y s.h r.y r.h inside.2 inside.3))
                ∙ sym (to_slice ∙ entries-is (region_of n k).columns (region_of n k).rows (counted_from s r) sync region.columns region.rows some tall
                (omega (arith, inside, w_is)) (omega (arith, inside, h_is)))
          ]
        ]
      ]

-- ---- the subpicture

-- a region has the slices of the subpicture
count_same : ((n : Numbers) (k : ℕ) → region_of (region_of n k) 0 ≡ region_of n k) → (n : Numbers) (k : ℕ) → length (slices_in (region_of n k) 0) ≡ length (slices_in n k)
count_same nest n k =
    sym (length-map (slices_in (region_of n k) 0) (counted_from (subpic_at (region_of n k) 0))) ∙ ap (λ t. length t.slices) (nest n k) ∙ length-map (slices_in n k) (counted_from (subpic_at n k))

choose_same : (on a b : Bool) (x y : ℕ) → a ≡ b → (a ≡ true → x ≡ y) → cond (on && a) x 0 ≡ cond (on && b) y 0
choose_same true true true x y same then = then refl
choose_same true false false x y same then = refl
choose_same true true false x y same then = absurd (true≢false same)
choose_same true false true x y same then = absurd (true≢false (sym same))
choose_same false a b x y same then = refl

-- an id stands at its index
at_index : (id : ℕ) (ids : List ℕ) → index_of id ids < length ids → slice_index ids (index_of id ids) ≡ id
at_index id [] short = absurd (omega (arith, short))
at_index id (n ∷ more) short = elim (cases_Bool (n == id)) [
  | inl is ↦ rw is (eqb-true n id is)
  | inr other ↦
      let step : index_of id more + 1 ≡ suc (index_of id more) = omega arith in
      rw (other, step) (at_index id more (omega (arith, (rw other at short))))
]

module _ (nest : CutsNest) (keeps : RegionKeepsSlices) (regions : (n : Numbers) (k : ℕ) → HasLayout n → k < length n.subpics → HasLayout (region_of n k)) (again : (n : Numbers) (k : ℕ) → region_of (region_of n k) 0 ≡ region_of n k)
    (target : ℕ) (q : Parts) (s p : List Item) (are : AreInForce q) (within : target < subpics_of q.sps) (agree : AgreeForHeaders q s p) (make : MakeRegion target q s p) where
  there : target < length q.layout.subpics
  there = let count = subpics_count q are in omega (arith, within, count)

  slices_same : num_slices_in_subpic q.layout target ≡ num_slices_in_subpic (region_of q.layout target) 0
  slices_same =
      let here : nat_lt target (length q.layout.subpics) ≡ true = lt-ltb target (length q.layout.subpics) there in
      ap (λ b. cond b (length (slices_in q.layout target)) 0) here ∙ sym (count_same again q.layout target)

  points_at_same : (has_points sync : Bool) (address : ℕ) → points_at q.layout has_points sync target address ≡ points_at (region_of q.layout target) has_points sync 0 address
  unfolding points_at
  points_at_same has_points sync address =
      choose_same has_points (nat_lt address (num_slices_in_subpic q.layout target)) (nat_lt address (num_slices_in_subpic (region_of q.layout target) 0))
      (entries q.layout.columns q.layout.rows (slice_at q.layout target address) sync)
      (entries (region_of q.layout target).columns (region_of q.layout target).rows (slice_at (region_of q.layout target) 0 address) sync)
      (ap (λ n. nat_lt address n) slices_same)
      (λ low.
      let short : address < num_slices_in_subpic (region_of q.layout target) 0 = let less = ltb-true address (num_slices_in_subpic q.layout target) low in subst (λ n. address < n) slices_same less in
      let count = count_same again q.layout target in
      points_same nest keeps regions q.layout target address sync are.layout there (omega (arith, short, count)))

  module _ (nal_type id : ℕ) (index : index_of id q.ids ≡ target) where
    ids_there : length q.ids ≡ subpics_of q.sps
    ids_there = ap (λ xs. length xs) are.ids ∙ ids_count q.sps q.pps are.pps are.made.ids.placed

    the_id : id_in q target ≡ id
    the_id =
        let known : index_of id q.ids < length q.ids = let count = ids_there in omega (arith, index, within, count) in
        ap (λ k. slice_index q.ids k) (sym index) ∙ at_index id q.ids known

    first : index_of id (ids_of s p) ≡ 0
    first = ap (λ xs. index_of id xs) make.ids ∙ rw (eq-eqb (id_in q target) id the_id) refl

    index_there : index_of id (ids_of q.sps q.pps) ≡ target
    index_there = ap (λ xs. index_of id xs) (sym are.ids) ∙ index

    subpicture : HaveSubpicture (under.at_slice_of nal_type (begun_in q)) (under.at_slice_of nal_type (begun_alone target q s p)) id
    subpicture = record {
      known = let count = ap (λ xs. length xs) make.ids in omega (arith, first, count);
      slices = ap (λ k. num_slices_in_subpic q.layout k) index_there ∙ slices_same ∙ ap (λ k. num_slices_in_subpic (region_of q.layout target) k) (sym first);
      points = λ has_points sync address. ap (λ k. points_at q.layout has_points sync k address) index_there ∙ points_at_same has_points sync address
          ∙ ap (λ k. points_at (region_of q.layout target) has_points sync k address) (sym first);
    }

    headers_same : picture_header_of (begun_in q) ≡ picture_header_of (begun_alone target q s p)
    headers_same = ap (λ l. record { fields = q.header.fields; lists = l }) (sym (agree.lists q.header.fields))

    agree_at : AgreeAt (under.at_slice_of nal_type (begun_in q)) (under.at_slice_of nal_type (begun_alone target q s p)) id
    agree_at = record {
      table = sym agree.same_structures;
      sets = agree.sets;
      slice = subst (λ h. Agree given (slice_scope nal_type q.sps q.pps (picture_header_of (begun_in q)) (in_force q.sps q.pps)) (slice_scope nal_type s p h (in_force s p))) headers_same
          (agree.slices nal_type (picture_header_of (begun_in q)));
      subpic = subpicture;
    }

  -- ---- a slice

  module _ (elsewhere : SliceReadElsewhere) (scopes : SliceScopesAreWhole) (told : NumbersAreTold) (nal_type : ℕ) (unit : List ℕ) (h : SliceHeader) where
    slice_moved : h.subpic ≡ target → IsSlice nal_type (begun_in q) unit h → IsSlice nal_type (begun_alone target q s p) unit (header_alone h)
    slice_moved mine is =
        let n : At = under.at_slice_of nal_type (begun_in q) in
        let size : length n.slice ≡ 1024 = scopes nal_type q.sps q.pps (picture_header_of (begun_in q)) in
        let numbers = told n is.value.fields is.begins.inside is.begins.fields size in
        let id : ℕ = number is.value.fields sh_subpic_id in
        let at : index_of id (ids_of q.sps q.pps) ≡ target = sym numbers.subpic ∙ sym is.begins.numbers.subpic ∙ sym is.subpic ∙ mine in
        let index : index_of id q.ids ≡ target = ap (λ xs. index_of id xs) are.ids ∙ at in
        let moved = elsewhere n (under.at_slice_of nal_type (begun_alone target q s p)) _ is.value is.size size (agree_at nal_type id index) is.begins in
        record {
          value = moved.0;
          size = is.size;
          begins = moved.1;
          fields = is.fields ∙ sym moved.2.fields;
          subpic = sym (moved.3 ∙ first nal_type id index);
          payload = is.payload;
        }

    pub slice_read : HaveOneAnswer → (R : Readers) → AreOfH266 R → h.subpic ≡ target → R.slice nal_type (begun_in q) unit ≡ Ok h → R.slice nal_type (begun_alone target q s p) unit ≡ Ok (header_alone h)
    slice_read unique R of mine reads =
        let old : IsSliceAnswer nal_type (begun_in q) unit (Ok h) = subst (λ x. IsSliceAnswer nal_type (begun_in q) unit x) reads (of.slice nal_type (begun_in q) unit) in
        unique.slice nal_type (begun_alone target q s p) unit (R.slice nal_type (begun_alone target q s p) unit) (Ok (header_alone h)) (of.slice nal_type (begun_alone target q s p) unit) (slice_moved mine old)
