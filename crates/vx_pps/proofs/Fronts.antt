-- The front of a picture parameter set, rewritten: ids, size and whether it is partitioned are stated, the rest is taken over.
use Rattle.std.proofs.Common.{◌≡◌, ℕ, ℤ, pos, zero, suc, ◌+◌, ◌%◌, ◌^◌, ◌<◌, ◌≤◌, min, Bool, List, [], ◌∷◌, ◌++◌, Option, Some, None, IfSome, arith, refl}
use Rattle.std.proofs.lemmas.Bool.{eq-eqb, le-leb}
use Rattle.vx_fields.specs.declared.pps.TheConstants as pps
use Rattle.vx_table.specs.declared.rows.Fault.{Fault}
use Rattle.vx_table.specs.declared.rows.Limits.TheVariants.{Any, Multiple, Within}
use Rattle.vx_table.specs.Scope.{capped, fresh, natural, value}
use Rattle.vx_table.specs.Forms.{after, coding_at, form_of, has_value, limits_at, one_field, part, present, turns}
use Rattle.vx_table.specs.Parts.{sections_form}
use Rattle.vx_table.specs.Spelling.{HasCode, fault_of, item_of, items_along}
use Rattle.vx_table.specs.Values.{Follows}
use Rattle.vx_table.specs.Rewrites.{Goes, Takes}
use Rattle.vx_table.specs.Shown.{shown_items}
use Rattle.vx_table.proofs.Agreeing.{agree_itself, inside_itself}
use Rattle.vx_table.proofs.Groups.{Onward, agree_given, copied_first, replaced_first, replaced_group, takes_at}
use Rattle.vx_table.proofs.Rewrites.{values_take}
use Rattle.vx_pps.specs.declared.shape.PpsShape.{PpsShape}
use Rattle.vx_pps.specs.Pps.{before_tiles}
use Rattle.vx_pps.specs.Reshaped.{IsSize, front_items, pps_subpic_id_items}
use Rattle.vx_pps.specs.Written.{only_item}
use Rattle.vx_pps.proofs.Testing.{ids, ids_read, ids_replaced, nal_types, nal_types_taken, names, output, output_taken, size, size_read, size_replaced, subpic_ids, subpic_ids_read, subpic_ids_replaced}

-- ---- ids and size

ids_at : (id sps_id : ℕ) → id < 64 → sps_id < 16 → Takes (sections_form ids fresh) (only_item pps.pps_pic_parameter_set_id (pos id) ++ only_item pps.pps_seq_parameter_set_id (pos sps_id))
unfolding fresh sections_form form_of part one_field after present turns value natural coding_at limits_at has_value HasCode fault_of item_of
ids_at id sps_id low few = values_take (sections_form ids fresh) (pos id ∷ pos sps_id ∷ []) _ (record { code = low; range = refl }, (record { code = few; range = refl }, tt)) refl

size_range : (n : ℕ) (fault : Fault) → IsSize n → fault_of (Multiple 8 16384 fault) (pos n) ≡ None
unfolding fault_of
size_range zero fault is = absurd (omega (arith, is.some))
size_range (suc n) fault is = let h = le-leb (suc n) 16384 is.small in let e = eq-eqb (suc n % 8) 0 is.whole in rw (h, e) refl

any_range : (v : ℤ) → fault_of Any v ≡ None
unfolding fault_of
any_range v = refl

size_at : (width height : ℕ) → IsSize width → IsSize height
    → Takes (sections_form size fresh) (only_item pps.pps_pic_width_in_luma_samples (pos width) ++ (only_item pps.pps_pic_height_in_luma_samples (pos height) ++ only_item pps.pps_conformance_window_flag (pos 0)))
unfolding fresh sections_form form_of part one_field after present turns value natural coding_at limits_at has_value HasCode item_of
size_at width height wide high =
    values_take (sections_form size fresh) (pos width ∷ pos height ∷ pos 0 ∷ []) _
    (record { code = omega (arith, wide.small); range = size_range width _ wide }, (record { code = omega (arith, high.small); range = size_range height _ high }, (record { code = omega arith; range = any_range (pos 0) }, tt))) refl

-- ---- ids of subpictures

short_range : (n : ℕ) (fault : Fault) → n ≤ 15 → fault_of (Within (pos 0) 15 fault) (pos n) ≡ None
unfolding fault_of
short_range n fault few = let z = le-leb 0 n (omega arith) in let h = le-leb n 15 few in rw (z, h) refl

id_fits : (bits id : ℕ) → bits ≤ 15 → id < 2 ^ (bits + 1) → id < 2 ^ min (capped (capped bits + 1)) 32
id_fits bits id few fits = let e : min (capped (capped bits + 1)) 32 ≡ bits + 1 = omega arith in rw e fits

-- such an id
abbrev pub IsId : ℕ × ℕ → Type 0
IsId (bits, id) = (bits ≤ 15) × (id < 2 ^ (bits + 1))

subpics_at : (whole : ℕ) (id : Option (ℕ × ℕ)) → whole < 2 → IfSome id IsId → Takes (sections_form subpic_ids fresh) (only_item pps.pps_no_pic_partition_flag (pos whole) ++ pps_subpic_id_items whole id)
unfolding fresh sections_form form_of part one_field after present turns value natural coding_at limits_at has_value HasCode fault_of item_of
subpics_at zero None low is =
    values_take (sections_form subpic_ids fresh) (pos 0 ∷ pos 0 ∷ []) _ (record { code = omega arith; range = refl }, (record { code = omega arith; range = refl }, tt)) refl
subpics_at (suc zero) None low is =
    values_take (sections_form subpic_ids fresh) (pos 1 ∷ pos 0 ∷ []) _ (record { code = omega arith; range = refl }, (record { code = omega arith; range = refl }, tt)) refl
subpics_at zero (Some (bits, id)) low is =
    values_take (sections_form subpic_ids fresh) (pos 0 ∷ pos 1 ∷ pos 0 ∷ pos bits ∷ pos id ∷ []) _ (
      record { code = omega arith; range = refl },
      (
        record { code = omega arith; range = refl },
        (
          record { code = omega arith; range = refl },
          (record { code = omega (arith, is.0); range = short_range bits _ is.0 }, (record { code = id_fits bits id is.0 is.1; range = refl }, tt)),
        ),
      ),
    ) refl
subpics_at (suc zero) (Some (bits, id)) low is =
    values_take (sections_form subpic_ids fresh) (pos 1 ∷ pos 1 ∷ pos bits ∷ pos id ∷ []) _ (
      record { code = omega arith; range = refl },
      (
        record { code = omega arith; range = refl },
        (record { code = omega (arith, is.0); range = short_range bits _ is.0 }, (record { code = id_fits bits id is.0 is.1; range = refl }, tt)),
      ),
    ) refl
subpics_at (suc (suc n)) id low is = absurd (omega arith)

-- ---- the front

-- what is known of a shape's numbers
pub record HasFront (whole : ℕ) (shape : PpsShape) : Type 0 where
  pub whole_is : whole < 2
  pub id : shape.id < 64
  pub sps_id : shape.sps_id < 16
  pub width : IsSize shape.width
  pub height : IsSize shape.height
  pub subpic_id : IfSome shape.subpic_id IsId

module _ (merged : Bool) (whole : ℕ) (shape : PpsShape) (has : HasFront whole shape) where
  from_ids : (last : List ℕ) → Onward (names merged) [] subpic_ids last (only_item pps.pps_no_pic_partition_flag (pos whole) ++ pps_subpic_id_items whole shape.subpic_id)
  from_ids last s values follows =
      replaced_group (names merged) [] subpic_ids (subpic_ids_replaced merged).0 follows
      (λ t agree empty. takes_at [] subpic_ids fresh t subpic_ids_read.0 subpic_ids_read.1 (agree_given [] empty.size tt) (subpics_at whole shape.subpic_id has.whole_is has.subpic_id))

  from_size : (last : List ℕ) → Onward (names merged) [] (size ++ (output ++ subpic_ids)) last
      ((only_item pps.pps_pic_width_in_luma_samples (pos shape.width) ++ (only_item pps.pps_pic_height_in_luma_samples (pos shape.height) ++ only_item pps.pps_conformance_window_flag (pos 0)))
      ++ (only_item pps.pps_no_pic_partition_flag (pos whole) ++ pps_subpic_id_items whole shape.subpic_id))
  from_size last =
      replaced_first (names merged) [] [] size (output ++ subpic_ids) (inside_itself []) (size_replaced merged).0 (size_replaced merged).1
      (λ s t w ends agree empty. takes_at [] size fresh t size_read.0 size_read.1 (agree_given [] empty.size tt) (size_at shape.width shape.height has.width has.height))
      (copied_first (names merged) [] output subpic_ids (output_taken merged).0 (output_taken merged).1 (output_taken merged).2 (from_ids last))

  from_first : (last : List ℕ) → Onward (names merged) [] before_tiles last (front_items whole shape)
  from_first last =
      replaced_first (names merged) [] [] ids (nal_types ++ (size ++ (output ++ subpic_ids))) (inside_itself []) (ids_replaced merged).0 (ids_replaced merged).1
      (λ s t w ends agree empty. takes_at [] ids fresh t ids_read.0 ids_read.1 (agree_given [] empty.size tt) (ids_at shape.id shape.sps_id has.id has.sps_id))
      (copied_first (names merged) [] nal_types (size ++ (output ++ subpic_ids)) (nal_types_taken merged).0 (nal_types_taken merged).1 (nal_types_taken merged).2 (from_size last))

  -- it goes, with what is stated in place of the source's
  pub front_goes : {values : List ℤ} {last : List ℕ} → Follows (sections_form before_tiles fresh) values last
      → Goes (names merged) last (shown_items (names merged) (items_along (sections_form before_tiles fresh) values)) (front_items whole shape) (sections_form before_tiles fresh)
  front_goes {values} {last} follows = (from_first last fresh values follows).at fresh (agree_itself (names merged) fresh) (agree_itself [] fresh)
