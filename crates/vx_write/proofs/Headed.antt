-- A PPS begins with its id, which is its only item of that field: what is the same PPS but for the id.
use Rattle.std.proofs.Common.{◌≡◌, ℕ, ℤ, pos, ◌<◌, ◌^◌, ◌==◌, true, false, List, [], ◌∷◌, ◌++◌, take, slice_set, Option, Some, None, refl, sym, ap, subst, ◌∙◌, arith}
use Rattle.std.proofs.lemmas.Bool.{eq-eqb, ne_eqb}
use Rattle.std.proofs.lemmas.List.Elements.{All-append, All-weaker}
use Rattle.vx_bits.specs.declared.list.Item.{Item}
use Rattle.vx_fields.specs.declared.pps.TheConstants.{pps_pic_parameter_set_id, pps_seq_parameter_set_id}
use Rattle.vx_table.specs.Forms.{after, coding_at, form_of, has_value, limits_at, one_field, part, present}
use Rattle.vx_table.specs.Loaded.{number}
use Rattle.vx_table.specs.Parts.{Section, always, sections_form}
use Rattle.vx_table.specs.Scope.{fresh, natural, value}
use Rattle.vx_table.specs.Spelling.{item_of, items_along}
use Rattle.vx_table.specs.Values.{Follows, through}
use Rattle.vx_table.proofs.EachField.{each_of_sections}
use Rattle.vx_table.proofs.Loading.{number_of_last}
use Rattle.vx_pps.specs.declared.partition.Partition.{Partition}
use Rattle.vx_pps.specs.declared.tables.TheConstants as tables
use Rattle.vx_pps.specs.Pps.{ArePpsItems, before_tiles, partition_at, after_slices}
use Rattle.vx_pps.proofs.Cutting.{cut_parts, each_weaker}
use Rattle.vx_pps.proofs.Division.{IsDividing, each_division}
use Rattle.vx_pic.specs.Sets.{pps_id}
use Rattle.vx_pic.specs.Written.{Set, a_pps}
use Rattle.vx_pic.specs.Resident.{same_slot}
use Rattle.vx_pic.proofs.Ids.{Lacks, items_lack, other_row, other_sound, sections_lack}
use Rattle.vx_write.specs.Slots.{Sent, a_pps_of, pps_with_id}
use Rattle.vx_write.specs.inner.Places.{IsPlace, NoneIsOf}
use Rattle.vx_write.proofs.Held.{right_alike}
use Rattle.vx_write.proofs.Vacant.{pps_id_of}

-- ---- its items

-- the tables behind its ids
abbrev behind : List Section
behind = always tables.NAL_TYPES ∷ always tables.SIZE ∷ always tables.OUTPUT ∷ always tables.SUBPIC_IDS ∷ []

-- the first field of the front, behind which it doesn't come again
front_headed : (s : List ℕ) {w : List ℤ} {e : List ℕ} → Follows (sections_form before_tiles s) w e
    → (v : ℤ) × (more : List Item) × (items_along (sections_form before_tiles s) w ≡ record { field = pps_pic_parameter_set_id; value = v } ∷ more) × Lacks pps_pic_parameter_set_id more
unfolding sections_form present form_of part one_field after value coding_at limits_at has_value item_of other_row
front_headed s (through {cell} {goes} {v} {w} is more) = (
  v,
  items_along (goes v) w,
  refl,
  items_lack pps_pic_parameter_set_id (
    refl,
    λ id. each_of_sections (λ cell. (cell.field == pps_pic_parameter_set_id) ≡ false) (other_row pps_pic_parameter_set_id) (other_sound pps_pic_parameter_set_id) behind
        (slice_set (slice_set s pps_pic_parameter_set_id (natural v)) pps_seq_parameter_set_id (natural id)) refl,
  ) more,
)

division_lacks : (of : ℕ) (s : List ℕ) {w : List ℤ} {end : Partition} → of < 417 → Follows (partition_at s) w end → Lacks of (items_along (partition_at s) w)
division_lacks of s below follows =
    items_lack of (each_weaker IsDividing (λ cell. (cell.field == of) ≡ false) (partition_at s) (λ cell is. let high = is.0 in ne_eqb cell.field of (λ same. omega (arith, high, same, below))) (each_division _ _ _)) follows

-- the first item is the id, and no other
headed : (items : List Item) → ArePpsItems items → (v : ℤ) × (more : List Item) × (items ≡ record { field = pps_pic_parameter_set_id; value = v } ∷ more) × Lacks pps_pic_parameter_set_id more
unfolding other_row
headed items set =
    let p = cut_parts items set.end set.set in
    let f = front_headed fresh p.first.follows in
    let rest : List Item = p.division ++ p.tool_items in
    let division = subst (Lacks pps_pic_parameter_set_id) p.second.given (division_lacks pps_pic_parameter_set_id p.scope (omega arith) p.second.follows) in
    let tool = subst (Lacks pps_pic_parameter_set_id) p.third.given (sections_lack pps_pic_parameter_set_id after_slices p.scope refl p.third.follows) in
    let lacking = λ (xs ys : List Item). All-append (λ (item : Item). (item.field == pps_pic_parameter_set_id) ≡ false) xs ys in
    (f.0, f.1 ++ rest, p.all ∙ ap (λ xs. xs ++ rest) (sym p.first.given ∙ f.2), lacking f.1 rest f.3 (lacking p.division p.tool_items division tool))

pub with_id_is : (id : ℕ) (items : List Item) → id < 2 ^ 32 → ArePpsItems items → pps_id (pps_with_id id items) ≡ id
unfolding pps_id natural
with_id_is id items small set =
    let h = headed items set in
    let same : pps_with_id id items ≡ record { field = pps_pic_parameter_set_id; value = pos id } ∷ h.1 = ap (pps_with_id id) h.2 in
    ap (λ xs. number xs pps_pic_parameter_set_id) same
    ∙ number_of_last pps_pic_parameter_set_id (pos id) [] h.1 (omega arith) h.3 ∙ omega (arith, small)

-- ---- its slot

-- with that id it is of the slot of all PPSs of the id
pub with_id_slot : (id : ℕ) (items : List Item) → id < 2 ^ 32 → ArePpsItems items → same_slot (a_pps_of id) (a_pps (pps_with_id id items)) ≡ true
with_id_slot id items small set =
    eq-eqb (pps_id (record { field = pps_pic_parameter_set_id; value = pos id } ∷ [])) (pps_id (pps_with_id id items)) (pps_id_of id small ∙ sym (with_id_is id items small set))

none_alike : (a b : Set) (slots : List Sent) → same_slot a b ≡ true → NoneIsOf a slots → NoneIsOf b slots
none_alike a b slots own = All-weaker (λ x. same_slot x.set a ≡ false) (λ x. same_slot x.set b ≡ false) (λ x other. sym (right_alike x.set a b own) ∙ other) slots

-- sets of one slot have one place
pub place_alike : (a b : Set) (slots : List Sent) (o : Option ℕ) → same_slot a b ≡ true → IsPlace a slots o → IsPlace b slots o
place_alike a b slots None own none = none_alike a b slots own none
place_alike a b slots (Some i) own place = (place.0, place.1, sym (right_alike place.0.set a b own) ∙ place.2, none_alike a b (take i slots) own place.3)
