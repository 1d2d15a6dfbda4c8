-- The shape of the PPS is one that a set can have.
use Rattle.std.proofs.Common.{◌≡◌, ℕ, ◌+◌, ◌<◌, ◌≤◌, ◌^◌, true, not, [], ◌∷◌, length, refl, ap, sym, subst, ◌∙◌, inl, inr, arith}
use Rattle.std.proofs.lemmas.Int.{ints}
use Rattle.std.specs.Prelude.{IfSome}
use Rattle.std.proofs.lemmas.Bool.{cases_Bool}
use Rattle.vx_fields.specs.declared.sps.TheConstants as sps_fields
use Rattle.vx_fields.specs.declared.pps.TheConstants as pps_fields
use Rattle.vx_layout.specs.declared.numbers.Numbers.{Numbers}
use Rattle.vx_layout.specs.Bounds.{last}
use Rattle.vx_layout.specs.laws.Layouts.{RegionIsListable}
use Rattle.vx_layout.specs.Layouts.{HasLayout, subpic_at}
use Rattle.vx_layout.specs.Rects.{whole_picture}
use Rattle.vx_layout.specs.Regions.{cut_bounds, region_of}
use Rattle.vx_layout.proofs.Moving.{last-cut}
use Rattle.vx_layout.proofs.Nested.{same_numbers}
use Rattle.vx_table.specs.Loaded.{number}
use Rattle.vx_table.specs.Scope.{is_set}
use Rattle.vx_sps.specs.Subpictures.{subpics_of}
use Rattle.vx_sps.proofs.Bounded.{ctu_below}
use Rattle.vx_pps.specs.Reshaped.{picture_of}
use Rattle.vx_pps.specs.Pps as pps
use Rattle.vx_pps.specs.Reshaped.{CanBeDivided, IsShape, IsSize}
use Rattle.vx_pps.specs.laws.Sets.{ReadSlicesAreListable, SetsTellPartitions}
use Rattle.vx_pic.specs.Parts.{Parts}
use Rattle.vx_pic.specs.PictureLayout.{needs_ids}
use Rattle.vx_pic.specs.Sets.{pps_id, referred_sps}
use Rattle.vx_pic.proofs.Sizes.{id_length_below}
use Rattle.vx_extract.specs.Shapes.{id_in_pps, pps_shape}
use Rattle.vx_write.specs.InForce.{AreInForce}
use Rattle.vx_pps.proofs.Ids.{id_below, sps_id_below}
use Rattle.vx_extract.proofs.ShapesIdBits.{id_low_in_pps}
use Rattle.vx_write.proofs.Listable.{listable}
use Rattle.vx_write.proofs.Sizes.{IsSide, subpic_is, subpics_count}
use Rattle.vx_extract.proofs.ShapesSizes.{has_sides_in}

size_from : (n ctus ctb : ℕ) → IsSide n ctus ctb → IsSize n
size_from n ctus ctb side = record { some = side.some; small = side.small; whole = side.whole }

id_fits : (q : Parts) (k : ℕ) → AreInForce q → k < subpics_of q.sps → IfSome (id_in_pps q k) (λ (bits, id). (bits ≤ 15) × (id < 2 ^ (bits + 1)))
id_fits q k are within = elim (cases_Bool (needs_ids q.sps)) [
  | inl needed ↦
      let few : number q.sps sps_fields.sps_subpic_id_len_minus1 < 16 = id_length_below q.sps are.sps in
      rw needed (omega (arith, few), id_low_in_pps q k are within needed)
  | inr none ↦ rw none tt
]

-- the region as a picture of its own
region_is : (n : Numbers) (k : ℕ) → picture_of (record { columns = (region_of n k).columns; rows = (region_of n k).rows }) (region_of n k).slices ≡ region_of n k
region_is n k = same_numbers _ (region_of n k) refl refl refl
    (ap (λ w. whole_picture w (last (cut_bounds n.rows (subpic_at n k).y (subpic_at n k).h)) ∷ []) (last-cut n.columns (subpic_at n k).x (subpic_at n k).w)
    ∙ ap (λ h. whole_picture (subpic_at n k).w h ∷ []) (last-cut n.rows (subpic_at n k).y (subpic_at n k).h))

can_be_divided : SetsTellPartitions → ReadSlicesAreListable → RegionIsListable → ((n : Numbers) (k : ℕ) → HasLayout n → k < length n.subpics → HasLayout (region_of n k))
    → (q : Parts) (k : ℕ) → AreInForce q → k < subpics_of q.sps → pps.is_partitioned q.pps ≡ true → CanBeDivided (pps_shape q k)
can_be_divided tells reads listables regions q k are within is =
    let sides = has_sides_in tells q k are within in
    let here : k < length q.layout.subpics = let count = subpics_count q are in omega (arith, within, count) in
    let rect = subpic_is q k are within in
    record {
      ctb = (number q.sps sps_fields.sps_log2_ctu_size_minus5, ctu_below q.sps are.sps, refl);
      columns = last-cut q.layout.columns (subpic_at q.layout k).x (subpic_at q.layout k).w ∙ ap (λ r. r.w) rect ∙ sides.wide.held;
      rows = last-cut q.layout.rows (subpic_at q.layout k).y (subpic_at q.layout k).h ∙ ap (λ r. r.h) rect ∙ sides.high.held;
      layout = subst HasLayout (sym (region_is q.layout k)) (regions q.layout k are.layout here);
      listable = listable reads listables q k are here is (pps.slice_list_of q.pps) refl;
    }

partitioned : (n : ℕ) → n ≡ 0 → not (is_set n) ≡ true
partitioned n is = rw is refl

pub pps_is_shape : SetsTellPartitions → ReadSlicesAreListable → RegionIsListable → ((n : Numbers) (k : ℕ) → HasLayout n → k < length n.subpics → HasLayout (region_of n k))
    → (q : Parts) (k : ℕ) → AreInForce q → k < subpics_of q.sps → IsShape q.pps (pps_shape q k)
unfolding pps_id referred_sps
pps_is_shape tells reads listables regions q k are within =
    let sides = has_sides_in tells q k are within in
    record {
      id = id_below q.pps are.pps;
      sps_id = sps_id_below q.pps are.pps;
      width = size_from _ _ _ sides.wide;
      height = size_from _ _ _ sides.high;
      subpic_id = id_fits q k are within;
      init_qp = (omega (arith, ints), omega (arith, ints));
      divided = λ is. can_be_divided tells reads listables regions q k are within (partitioned (number q.pps pps_fields.pps_no_pic_partition_flag) is);
    }
