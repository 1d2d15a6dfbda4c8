-- What the SPS says that is rewritten for a subpicture.
use Rattle.std.proofs.Common.{◌≡◌, ℕ, ◌<◌, Bool, true, false, cond, IsTrue, List, Option, refl, ap, sym, ◌∙◌, arith}
use Rattle.vx_bits.specs.declared.list.Item.{Item}
use Rattle.vx_fields.specs.declared.sps.TheConstants as fields
use Rattle.vx_table.specs.Depends.{has}
use Rattle.vx_table.specs.Loaded.{number}
use Rattle.vx_table.specs.Scope.{is_set}
use Rattle.vx_table.proofs.Loading.{number_of_shown}
use Rattle.vx_sps.specs.declared.shape.SubpicPlan.{SubpicPlan}
use Rattle.vx_sps.specs.declared.shape.SubpicPlan.TheVariants.{Absent, One}
use Rattle.vx_sps.specs.Depends.{taken_sps_fields}
use Rattle.vx_sps.specs.Reshaped.{IsReshapedSps}
use Rattle.vx_sps.specs.laws.Reread.{Signals, count_in, id_len_in}
use Rattle.vx_sps.proofs.Signals.{reshaped_signals}
use Rattle.vx_pic.specs.Parts.{Parts}
use Rattle.vx_pic.specs.Sets.{sps_id}
use Rattle.vx_pic.proofs.Sizes.{id_length_below}
use Rattle.vx_extract.specs.Shapes.{id_in_sps, plan_of, sps_shape}
use Rattle.vx_write.specs.InForce.{AreInForce}
use Rattle.vx_sps.proofs.Bounded.{id_below}

-- a plan of one subpicture, or of none
pub data IsAlone : SubpicPlan → Type 0 where
  not_described : IsAlone Absent
  described : (id_len : ℕ) (id : Option ℕ) → IsAlone (One id_len id)

pub plan_alone : (q : Parts) (target : ℕ) → IsAlone (plan_of q target)
plan_alone q target = choose (is_set (number q.sps fields.sps_subpic_info_present_flag)) _ _
  where
    choose : (b : Bool) (id_len : ℕ) (id : Option ℕ) → IsAlone (cond b (One id_len id) Absent)
    choose true id_len id = described id_len id
    choose false id_len id = not_described

pub alone_count : (plan : SubpicPlan) → IsAlone plan → count_in plan ≡ 1
alone_count _ not_described = refl
alone_count _ (described id_len id) = refl

module _ (q : Parts) (target : ℕ) (level : Option ℕ) (items : List Item) (re : IsReshapedSps q.sps (sps_shape q target level) items) where
  -- a field that is taken over
  pub sps_taken : (of : ℕ) → IsTrue (has taken_sps_fields of) → number items of ≡ number q.sps of
  sps_taken of is = number_of_shown taken_sps_fields of items is ∙ ap (λ xs. number xs of) re.shown_ones ∙ sym (number_of_shown taken_sps_fields of q.sps is)

  -- ids
  pub sps_signals : AreInForce q → Signals (sps_shape q target level) items
  unfolding sps_id
  sps_signals are = reshaped_signals q.sps items (sps_shape q target level) (id_below q.sps are.sps) (id_len_low (is_set (number q.sps fields.sps_subpic_info_present_flag)) (number q.sps fields.sps_subpic_id_len_minus1) (id_in_sps q target) (id_length_below q.sps are.sps)) re
    where
      id_len_low : (b : Bool) (id_len : ℕ) (id : Option ℕ) → id_len < 16 → id_len_in (cond b (One id_len id) Absent) < 16
      id_len_low true id_len id low = low
      id_len_low false id_len id low = omega arith
