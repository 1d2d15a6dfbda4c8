-- The regions of pictures in CTUs, and their layouts, are of one size.
use Rattle.std.proofs.Common.{◌≡◌, ℕ, zero, suc, ◌+◌, ◌-◌, ◌^◌, ◌<◌, List, [], ◌∷◌, ◌++◌, length, get_or, map, take, refl, ap, sym, subst, ◌∙◌, arith}
use Rattle.std.specs.Int.{div_ceil}
use Rattle.std.proofs.lemmas.List.{take_more}
use Rattle.std.specs.List.{AllPairs, AllZip}
use Rattle.vx_bits.specs.declared.list.Item.{Item}
use Rattle.vx_fields.specs.declared.sps.TheConstants.{sps_log2_ctu_size_minus5}
use Rattle.vx_table.specs.Loaded.{number}
use Rattle.vx_table.specs.Scope.{fresh}
use Rattle.vx_table.proofs.Loading.{number_of_shown}
use Rattle.vx_layout.specs.declared.rect.Rect.{Rect}
use Rattle.vx_layout.specs.Borders.{Ends}
use Rattle.vx_layout.specs.Faults.{height, width}
use Rattle.vx_layout.specs.Layouts.{no_rect, subpic_at}
use Rattle.vx_layout.specs.Rects.{IsPart, Precedes}
use Rattle.vx_layout.proofs.Corners.{first-begins, last-ends}
use Rattle.vx_layout.proofs.Moving.{Rises-cut, last-cut}
use Rattle.vx_fit.specs.declared.placed.Placed.{Placed}
use Rattle.vx_fit.specs.Placing.{IsInRange, in_ctus}
use Rattle.vx_fit.specs.Sources.{IsSized}
use Rattle.vx_sps.specs.Depends as sps_kept
use Rattle.vx_sps.specs.Set.{ctb_size_of}
use Rattle.vx_sps.specs.Subpictures.{subpics_of}
use Rattle.vx_pps.specs.laws.Sets.{SetsTellPartitions}
use Rattle.vx_pic.specs.Parts.{Parts}
use Rattle.vx_pic.proofs.PictureSizes.{both_sizes, small_sides}
use Rattle.vx_pic.proofs.Sizes.{has_sides}
use Rattle.vx_write.specs.InForce.{AreInForce}
use Rattle.vx_write.proofs.Sizes.{has_size, subpics_count}
use Rattle.vx_frame.specs.declared.corner.Corner.{Corner}
use Rattle.vx_frame.specs.Corners.{IsCorner}
use Rattle.vx_frame.specs.Regions.{layout_of, layouts_in, placed_at, placed_in}

-- ---- one picture

-- numbers that its region may have
pub in_range : (corner : Corner) (q : Parts) → IsCorner corner → AreInForce q → IsInRange (placed_at corner q)
in_range corner q is are =
    let both = both_sizes q.sps q.pps are.size in
    let small = small_sides q.sps are.sps in
    let some = has_sides q.sps are.sps in
    record {
      left = omega (arith, is.0);
      top = omega (arith, is.1);
      wide = (omega (arith, both.0, some.wide), omega (arith, both.0, small.0));
      high = (omega (arith, both.1, some.high), omega (arith, both.1, small.1));
    }

-- the CTU size is a kept field
pub same_ctb : (s t : List Item) → sps_kept.kept_sps_items s ≡ sps_kept.kept_sps_items t → ctb_size_of s ≡ ctb_size_of t
unfolding fresh
same_ctb s t same =
    let one : number s sps_log2_ctu_size_minus5 ≡ number t sps_log2_ctu_size_minus5 =
    number_of_shown sps_kept.kept_sps_fields sps_log2_ctu_size_minus5 s refl
    ∙ (ap (λ items. number items sps_log2_ctu_size_minus5) same ∙ sym (number_of_shown sps_kept.kept_sps_fields sps_log2_ctu_size_minus5 t refl)) in
    ap (λ n. 2 ^ (n + 5)) one

-- the one subpicture of a picture is all of it
record IsWhole (q : Parts) : Type 0 where
  wide : (subpic_at q.layout 0).w ≡ width q.layout
  high : (subpic_at q.layout 0).h ≡ height q.layout
  part : IsPart (width q.layout) (height q.layout) (subpic_at q.layout 0)

no_pair : {A : Type 0} (R : A → A → Type 0) (xs : List A) → length xs ≡ 1 → AllPairs R xs
no_pair R xs one = λ i j d less short. absurd (omega (arith, one, less, short))

lone_subpic : (q : Parts) → AreInForce q → subpics_of q.sps ≡ 1 → IsWhole q
lone_subpic q are one =
    let rects : List Rect = q.layout.subpics in
    let count : length rects ≡ 1 = subpics_count q are ∙ one in
    let cover = are.layout.faultless.subpics in
    let part : IsPart (width q.layout) (height q.layout) (subpic_at q.layout 0) = cover.parts 0 no_rect (omega (arith, count)) in
    let first = first-begins rects (width q.layout) (height q.layout) no_rect cover.once (no_pair Precedes rects count) (omega (arith, count)) part in
    let last_one : length rects - 1 ≡ 0 = omega (arith, count) in
    let behind = last-ends rects (width q.layout) (height q.layout) no_rect cover.once (no_pair Precedes rects count) (omega (arith, count)) (rw last_one part) in
    let ends : Ends (width q.layout) (height q.layout) (subpic_at q.layout 0) = subst (λ i. Ends (width q.layout) (height q.layout) (get_or rects i no_rect)) last_one behind in
    record { wide = omega (arith, first.left, ends.right); high = omega (arith, first.top, ends.bottom); part = part }

pub is_sized : SetsTellPartitions → (corner : Corner) (q : Parts) (ctb : ℕ) → AreInForce q → subpics_of q.sps ≡ 1 → ctb ≡ ctb_size_of q.sps
    → IsSized (in_ctus ctb (placed_at corner q)) (layout_of q)
is_sized tells corner q ctb are one same =
    let size = has_size tells q are in
    let whole = lone_subpic q are one in
    let s : Rect = subpic_at q.layout 0 in
    let wide : s.w ≡ div_ceil (placed_at corner q).w ctb = whole.wide ∙ (size.wide ∙ ap (λ c. div_ceil (placed_at corner q).w c) (sym same)) in
    let high : s.h ≡ div_ceil (placed_at corner q).h ctb = whole.high ∙ (size.high ∙ ap (λ c. div_ceil (placed_at corner q).h c) (sym same)) in
    record {
      columns = Rises-cut q.layout.columns s.x s.w are.layout.columns whole.part.wide;
      rows = Rises-cut q.layout.rows s.y s.h are.layout.rows whole.part.high;
      wide = (subst (λ n. 0 < n) wide whole.part.wide, last-cut q.layout.columns s.x s.w ∙ wide);
      high = (subst (λ n. 0 < n) high whole.part.high, last-cut q.layout.rows s.y s.h ∙ high);
    }

-- ---- all pictures

pub placed_length : (corners : List Corner) (round : List Parts) → length corners ≡ length round → length (placed_in corners round) ≡ length round
placed_length [] [] same = refl
placed_length [] (q ∷ round) same = absurd (omega (arith, same))
placed_length (c ∷ corners) [] same = absurd (omega (arith, same))
placed_length (c ∷ corners) (q ∷ round) same = let more = placed_length corners round (omega (arith, same)) in omega (arith, more)

placed_get : (corners : List Corner) (round : List Parts) (k : ℕ) (d : Corner) (e : Parts) (f : Placed) → k < length corners → k < length round
    → get_or (placed_in corners round) k f ≡ placed_at (get_or corners k d) (get_or round k e)
placed_get [] round k d e f short less = absurd (omega (arith, short))
placed_get (c ∷ corners) [] k d e f short less = absurd (omega (arith, less))
placed_get (c ∷ corners) (q ∷ round) zero d e f short less = refl
placed_get (c ∷ corners) (q ∷ round) (suc k) d e f short less = placed_get corners round k d e f (omega (arith, short)) (omega (arith, less))

pub placed_more : (corners : List Corner) (round : List Parts) (k : ℕ) (d : Corner) (q : Parts) → length corners ≡ length round → k < length round → q ≡ get_or round k q
    → take (k + 1) (placed_in corners round) ≡ take k (placed_in corners round) ++ placed_at (get_or corners k d) q ∷ []
placed_more corners round k d q same short is =
    let size = placed_length corners round same in
    let f : Placed = placed_at (get_or corners k d) q in
    take_more (placed_in corners round) k f (omega (arith, size, short))
    ∙ ap (λ p. take k (placed_in corners round) ++ p ∷ []) (placed_get corners round k d q f (omega (arith, same, short)) short ∙ ap (placed_at (get_or corners k d)) (sym is))

-- regions in CTUs, and layouts, are of one size, place by place
pub all_sized : SetsTellPartitions → (corners : List Corner) (round : List Parts) (ctb : ℕ) → length corners ≡ length round
    → ((k : ℕ) (d : Parts) → k < length round → AreInForce (get_or round k d) × ((subpics_of (get_or round k d).sps ≡ 1) × (ctb ≡ ctb_size_of (get_or round k d).sps)))
    → AllZip IsSized (map (in_ctus ctb) (placed_in corners round)) (layouts_in round)
all_sized tells [] [] ctb same each = tt
all_sized tells [] (q ∷ round) ctb same each = absurd (omega (arith, same))
all_sized tells (c ∷ corners) [] ctb same each = absurd (omega (arith, same))
all_sized tells (c ∷ corners) (q ∷ round) ctb same each =
    let here = each 0 q (omega arith) in
    (is_sized tells c q ctb here.0 here.1.0 here.1.1, all_sized tells corners round ctb (omega (arith, same)) (λ k d short. each (suc k) d (omega (arith, short))))
