-- Picture order count (H.266 8.3.1), and what else the kind of a picture is, from the pictures before it, the latest first. The
-- kinds of pictures rely on it.
use Rattle.std.specs.Prelude.{ℕ, ◌-◌, ◌*◌, ◌^◌, ◌==◌, ◌&&◌, ◌||◌, not, nat_le, nat_lt, ℤ, pos, neg_ℤ, ◌+ℤ◌, ◌-ℤ◌, int_le, int_lt}
use Rattle.std.specs.Prelude.{Bool, true, false, cond, List, [], ◌∷◌, Option, Some, None, find}
use Rattle.vx_bits.specs.declared.list.Item.{Item}
use Rattle.vx_pic.specs.declared.kind.Kind.{Kind}
use Rattle.vx_pic.specs.declared.unit_types.TheConstants.{RADL_NUT, RASL_NUT}
use Rattle.vx_pic.specs.Units.{is_idr, is_cra_or_gdr}
use Rattle.vx_pic.specs.Sets.{max_lsb, lsb_of, msb_cycle, is_non_ref, same_items}
use Rattle.vx_pic.specs.Readings.{Begun, Picture}

-- ---- prevTid0Pic (8.3.1)

-- A picture that can be it: with TemporalId 0 and ph_non_ref_pic_flag 0, and neither RADL nor RASL (8.3.1).
abbrev pub is_tid0 : Begun → Kind → Bool
is_tid0 b k = (k.temporal_id == 0) && (not (is_non_ref b.header) && (not (k.nal_type == RADL_NUT) && not (k.nal_type == RASL_NUT)))

abbrev pub is_tid0_picture : Picture → Bool
is_tid0_picture p = is_tid0 p.begun p.kind

-- PrevPicOrderCntLsb and prevPicOrderCntMsb (8.3.1).
pub record Previous : Type 0 where
  pub lsb : ℕ
  pub msb : ℤ

abbrev pub counts_of : Picture → Previous
counts_of p = record { lsb = lsb_of p.begun.header; msb = p.kind.poc -ℤ pos (lsb_of p.begun.header) }

-- 0 if there is none (our own; nothing comes before).
abbrev pub no_counts : Previous
no_counts = record { lsb = 0; msb = pos 0 }

abbrev pub counts_or_none : Option Picture → Previous
counts_or_none (Some p) = counts_of p
counts_or_none None = no_counts

-- Those of prevTid0Pic, the last such picture (8.3.1).
abbrev pub previous : List Picture → Previous
previous earlier = counts_or_none (find is_tid0_picture earlier)

-- ---- PicOrderCntMsb (8.3.1)

-- From those of prevTid0Pic: the one with which the count is nearest to its own; `max` is MaxPicOrderCntLsb (8.3.1).
abbrev pub nearest_msb : ℕ → ℕ → Previous → ℤ
nearest_msb max lsb a =
    cond (nat_lt lsb a.lsb && nat_le max (2 * (a.lsb - lsb))) (a.msb +ℤ pos max)
    (cond (nat_lt a.lsb lsb && nat_lt max (2 * (lsb - a.lsb))) (a.msb -ℤ pos max) a.msb)

-- ph_poc_msb_cycle_val determines it if it is present; at the start of a coded layer video sequence it is 0 (8.3.1).
abbrev pub msb_by : Option ℕ → Bool → ℕ → ℕ → Previous → ℤ
msb_by (Some cycle) clvss max lsb a = pos (cycle * max)
msb_by None true max lsb a = pos 0
msb_by None false max lsb a = nearest_msb max lsb a

-- PicOrderCntVal (8.3.1).
abbrev pub pic_order_count : Option ℕ → Bool → ℕ → ℕ → Previous → ℤ
pic_order_count cycle clvss max lsb a = msb_by cycle clvss max lsb a +ℤ pos lsb

-- From the SPS and the header (8.3.1).
abbrev pub count_by : List Item → List Item → Bool → Previous → ℤ
count_by sps header clvss a = pic_order_count (msb_cycle header) clvss (max_lsb sps) (lsb_of header) a

-- That of a picture after these (8.3.1).
abbrev pub count : List Picture → Begun → Bool → ℤ
count earlier b clvss = count_by b.sps b.header clvss (previous earlier)

-- It has 32 bits (8.3.1).
abbrev pub fits_count : ℤ → Bool
fits_count z = int_le (neg_ℤ (pos (2 ^ 31))) z && int_lt z (pos (2 ^ 31))

-- ---- the kind (7.4.2.4.2)

-- Nothing is in it (our own).
abbrev pub is_empty : {A : Type 0} → List A → Bool
is_empty [] = true
is_empty (x ∷ xs) = false

-- The first picture, or the first after an end of sequence (7.4.2.4.2).
abbrev pub begins_anew : List Picture → Bool → Bool
begins_anew earlier ended = ended || is_empty earlier

-- It starts a coded layer video sequence (CLVSS, 7.4.2.4.2): an IDR picture, or a CRA or GDR picture that begins anew.
abbrev pub is_clvss : List Picture → Bool → ℕ → Bool
is_clvss earlier ended t = is_idr t || (is_cra_or_gdr t && begins_anew earlier ended)

-- The kind of the picture whose first slice has this type and TemporalId (our own).
abbrev pub kind_of : List Picture → Bool → Begun → ℕ → ℕ → Kind
kind_of earlier ended b t tid = record {
  nal_type = t;
  temporal_id = tid;
  clvss = is_clvss earlier ended t;
  after_eos = ended && not (is_empty earlier);
  poc = count earlier b (is_clvss earlier ended t);
}

-- The SPS is another one than that of the picture before (our own).
abbrev pub is_changed : List Picture → List Item → Bool
is_changed [] sps = false
is_changed (p ∷ earlier) sps = not (same_items p.begun.sps sps)
