-- The header and the SPS of a merged picture tell the same of counts as those of each picture of its round.
use Rattle.std.proofs.Common.{◌≡◌, ℕ, suc, ◌+◌, ◌<◌, ◌^◌, IsTrue, List, [], ◌∷◌, length, map, Option, None, refl, ap, sym, ◌∙◌, arith}
use Rattle.std.specs.List.{AllByRecursion}
use Rattle.vx_bits.specs.declared.list.Item.{Item}
use Rattle.vx_fields.specs.declared.sps.TheConstants as sps_fields
use Rattle.vx_fields.specs.declared.ph.TheConstants as ph
use Rattle.vx_table.specs.Depends.{has}
use Rattle.vx_table.specs.Loaded.{number}
use Rattle.vx_table.specs.Scope.{fresh}
use Rattle.vx_table.specs.Shown.{shown_items}
use Rattle.vx_table.proofs.Loading.{number_of_shown}
use Rattle.vx_sps.specs.Depends as sps_kept
use Rattle.vx_sps.proofs.Says.{reshaped_keeps}
use Rattle.vx_ph.specs.Depends as ph_kept
use Rattle.vx_pic.specs.Alike.{AlikeForCounts}
use Rattle.vx_pic.specs.Parts.{Parts, parts_of}
use Rattle.vx_pic.specs.Readings.{Begun, Picture}
use Rattle.vx_pic.specs.Sets.{is_non_ref, lsb_of, max_lsb, msb_cycle}
use Rattle.vx_pic.specs.Written.{Plan}
use Rattle.vx_frame.specs.declared.corner.Corner.{Corner}
use Rattle.vx_frame.specs.Rounds.{picture_at}
use Rattle.vx_frame.specs.Shapes.{frame_sps_shape}
use Rattle.vx_frame.proofs.Passing.{header_alike, sps_alike}
use Rattle.vx_merge.specs.Merging.{Judges}
use Rattle.vx_merge.specs.Written.{IsMerged}
use Rattle.vx_again.specs.Frames.{IsReadyRound}
use Rattle.vx_again.specs.Rounds.{MergedIsAlike}

-- ---- lists

-- what holds at each place holds of all
pub all_at : (P : Parts → Type 0) (round : List Parts) → ((k : ℕ) → k < length round → P (picture_at round k)) → AllByRecursion P round
all_at P [] each = tt
all_at P (q ∷ round) each = (each 0 (omega arith), all_at P round (λ k short. each (suc k) (omega (arith, short))))

-- what holds of the parts of pictures
pub of_parts : (P : Parts → Type 0) (pics : List Picture) → AllByRecursion P (map parts_of pics) → AllByRecursion (λ q. P (parts_of q)) pics
of_parts P [] all = tt
of_parts P (q ∷ pics) all = (all.0, of_parts P pics all.1)

-- ---- numbers of kept fields

header_number : (of : ℕ) (a b : List Item) → IsTrue (has ph_kept.kept_ph_fields of)
    → shown_items ph_kept.kept_ph_fields a ≡ shown_items ph_kept.kept_ph_fields b → number a of ≡ number b of
header_number of a b is same = number_of_shown ph_kept.kept_ph_fields of a is ∙ ap (λ xs. number xs of) same
    ∙ sym (number_of_shown ph_kept.kept_ph_fields of b is)

sps_number : (of : ℕ) (a b : List Item) → IsTrue (has sps_kept.kept_sps_fields of) → sps_kept.kept_sps_items a ≡ sps_kept.kept_sps_items b
    → number a of ≡ number b of
sps_number of a b is same = number_of_shown sps_kept.kept_sps_fields of a is ∙ ap (λ xs. number xs of) same
    ∙ sym (number_of_shown sps_kept.kept_sps_fields of b is)

record TellsAlike (b : Begun) (q : Parts) : Type 0 where
  lsb : lsb_of q.header.fields ≡ lsb_of b.header
  cycle : msb_cycle q.header.fields ≡ msb_cycle b.header
  non_ref : is_non_ref q.header.fields ≡ is_non_ref b.header
  max : max_lsb q.sps ≡ max_lsb b.sps

tells_alike : (b : Begun) (q : Parts) → shown_items ph_kept.kept_ph_fields q.header.fields ≡ shown_items ph_kept.kept_ph_fields b.header
    → sps_kept.kept_sps_items q.sps ≡ sps_kept.kept_sps_items b.sps → TellsAlike b q
unfolding lsb_of msb_cycle is_non_ref max_lsb fresh
tells_alike b q header sps =
    let present = header_number ph.ph_poc_msb_cycle_present_flag q.header.fields b.header refl header in
    let value = header_number ph.ph_poc_msb_cycle_val q.header.fields b.header refl header in
    record {
      lsb = header_number ph.ph_pic_order_cnt_lsb q.header.fields b.header refl header;
      cycle = rw (present, value) refl;
      non_ref = rw (header_number ph.ph_non_ref_pic_flag q.header.fields b.header refl header) refl;
      max = ap (λ n. 2 ^ (n + 4)) (sps_number sps_fields.sps_log2_max_pic_order_cnt_lsb_minus4 q.sps b.sps refl sps);
    }

-- ---- a round

module _ (corners : List Corner) (level : Option ℕ) (round : List Parts) (done : List Plan) (p : Plan) (ready : IsReadyRound corners round)
    (passes : Judges corners round None) (is : IsMerged corners level round done p) where
  alike_at : (k : ℕ) → k < length round → TellsAlike p.begun (picture_at round k)
  alike_at k short = tells_alike p.begun (picture_at round k)
      (header_alike corners round ready.same passes k short ∙ sym is.header.says.fields.shown_ones)
      (sps_alike corners round ready.same passes k short ∙ sym (reshaped_keeps (picture_at round 0).sps p.begun.sps (frame_sps_shape corners round level) is.sps))

  alike_all : AllByRecursion (TellsAlike p.begun) round
  alike_all = all_at (TellsAlike p.begun) round alike_at

to_pictures : (b : Begun) (pics : List Picture) → AllByRecursion (λ q. TellsAlike b (parts_of q)) pics
    → AllByRecursion (λ q. AlikeForCounts q.begun b) pics
to_pictures b [] all = tt
to_pictures b (q ∷ pics) all = (record { lsb = all.0.lsb; cycle = all.0.cycle; non_ref = all.0.non_ref; max = all.0.max }, to_pictures b pics all.1)

pub is_alike : MergedIsAlike
is_alike corners level pics done p ready passes is = to_pictures p.begun pics (of_parts (TellsAlike p.begun) pics (alike_all corners level (map parts_of pics) done p ready passes is))
