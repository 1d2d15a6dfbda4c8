-- The sets in force for the pictures of a stream make up their layouts.
use Rattle.std.proofs.Common.{◌≡◌, ℕ, true, List, [], ◌∷◌, Option, Some, None, Ok, refl, sym, subst, inl, inr}
use Rattle.std.specs.List.{AllByRecursion}
use Rattle.std.proofs.lemmas.Bool.{cases_Bool}
use Rattle.vx_bits.specs.declared.list.Item.{Item}
use Rattle.vx_layout.specs.declared.numbers.Numbers.{Numbers}
use Rattle.vx_layout.specs.Bounds.{Rises}
use Rattle.vx_layout.specs.Faults.{IsLayout}
use Rattle.vx_sps.specs.Set as sps
use Rattle.vx_pps.specs.Pps as pps
use Rattle.vx_pps.specs.laws.Sets.{SetsTellPartitions}
use Rattle.vx_pic.specs.Sets.{same_size}
use Rattle.vx_pic.specs.Readings.{Begun, Picture, Slice}
use Rattle.vx_pic.specs.PictureLayout.{IsLayoutAnswer, columns_in_picture, rows_in_picture}
use Rattle.vx_pic.specs.Parts.{parts_of}
use Rattle.vx_pic.specs.Rules.{Readers}
use Rattle.vx_pic.specs.H266.{AreOfH266}
use Rattle.vx_pic.specs.Written.{HeadReads}
use Rattle.vx_pic.specs.Finished.{AreFinished, IsSoundPicture, PicturesAreFinished}
use Rattle.vx_pic.specs.Streams.{pictures_of}
use Rattle.vx_pic.specs.Whole.{HasSets, PicturesHaveSets}
use Rattle.vx_pic.proofs.Answering.{limits_of}
use Rattle.vx_pic.proofs.ByAddress.{sps_items, pps_items}
use Rattle.vx_pic.proofs.Sizes.{has_ctus, one_tile_rises}
use Rattle.vx_extract.specs.Ready.{PicturesAreInForce}
use Rattle.vx_write.specs.InForce.{AreInForce}

-- ---- the layout

columns_rise : SetsTellPartitions → (s p : List Item) → sps.AreSpsItems s → pps.ArePpsItems p → Rises (columns_in_picture s p)
columns_rise tells s p set other = elim (cases_Bool (pps.is_partitioned p)) [
  | inl is ↦ rw is ((tells p other).columns is).rises
  | inr none ↦ rw none (one_tile_rises (sps.ctu_columns_of s) (has_ctus s set).columns.0)
]

rows_rise : SetsTellPartitions → (s p : List Item) → sps.AreSpsItems s → pps.ArePpsItems p → Rises (rows_in_picture s p)
rows_rise tells s p set other = elim (cases_Bool (pps.is_partitioned p)) [
  | inl is ↦ rw is ((tells p other).rows is).rises
  | inr none ↦ rw none (one_tile_rises (sps.ctu_rows_of s) (has_ctus s set).rows.0)
]

-- what was read with the header
record HeadSays (R : Readers) (b : Begun) : Type 0 where
  size : same_size b.sps b.pps ≡ true
  layout : R.layout b.sps b.pps ≡ Ok b.layout

head_says : (R : Readers) (unit : Option (List ℕ)) (b : Begun) (first : Slice) → HeadReads R unit b first → HeadSays R b
head_says R None b first head = record { size = head.0.size; layout = head.0.layout }
head_says R (Some u) b first head = record { size = head.1.size; layout = head.1.layout }

module _ (tells : SetsTellPartitions) (R : Readers) (of : AreOfH266 R) where
  one_in_force : (earlier : List Picture) (p : Picture) → IsSoundPicture R earlier p → HasSets R p.begun → AreInForce (parts_of p)
  one_in_force earlier p sound has =
      let b : Begun = p.begun in
      let head = head_says R b.unit b sound.first sound.head in
      let answer : IsLayoutAnswer b.sps b.pps (Ok b.layout) = subst (IsLayoutAnswer b.sps b.pps) head.layout (of.layout b.sps b.pps) in
      let set = sps_items has.sps_rbsp (R.sps has.sps_rbsp) b.sps (of.sps has.sps_rbsp) has.sps in
      let other = pps_items has.pps_rbsp (R.pps has.pps_rbsp) b.pps (of.pps has.pps_rbsp) has.pps in
      record {
        sps = set;
        pps = other;
        size = head.size;
        made = answer.0;
        ids = refl;
        numbers = answer.1;
        layout = record {
          faultless = subst IsLayout (sym answer.1) answer.0.layout;
          limits = limits_of tells b.sps b.pps b.layout set other answer.1;
          columns = subst (λ (n : Numbers). Rises n.columns) (sym answer.1) (columns_rise tells b.sps b.pps set other);
          rows = subst (λ (n : Numbers). Rises n.rows) (sym answer.1) (rows_rise tells b.sps b.pps set other);
        };
      }

  each_in_force : (ps : List Picture) → AreFinished R ps → AllByRecursion (λ p. HasSets R p.begun) ps → AllByRecursion (λ p. AreInForce (parts_of p)) ps
  each_in_force [] finished have = tt
  each_in_force (p ∷ earlier) finished have = (one_in_force earlier p finished.0 have.0, each_in_force earlier finished.2 have.1)

pub pictures_are_in_force : SetsTellPartitions → PicturesAreFinished → PicturesHaveSets → PicturesAreInForce
pictures_are_in_force tells finished have R units of = each_in_force tells R of (pictures_of R units) (finished R units) (have R units)
