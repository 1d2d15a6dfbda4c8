-- The width and the height of a picture, which a set always tells.
use Rattle.std.proofs.Common.{◌≡◌, ℕ, ℤ, pos, negsuc, ◌<◌, true, List, [], ◌∷◌, ◌++◌, length, slice_index, slice_set, refl, sym, subst, ◌∙◌, arith, inl, inr, append_assoc}
use Rattle.std.specs.Prelude.{int_le, replicate}
use Rattle.std.proofs.lemmas.Bool.{and_parts, cases_eq, leb-true}
use Rattle.std.proofs.lemmas.Grind.{get_or-set_at}
use Rattle.std.proofs.lemmas.List.{get_or-set_other, length-set}
use Rattle.std.proofs.lemmas.List.Elements.{All-head, All-tail}
use Rattle.std.specs.List.{All}
use Rattle.vx_bits.specs.declared.list.Item.{Item}
use Rattle.vx_fields.specs.declared.pps.TheConstants as pps
use Rattle.vx_table.specs.laws.Bounds.{LiesIn, lies}
use Rattle.vx_table.specs.Forms.{coding_at, form_of, has_value, limits_at, one_field, part, present}
use Rattle.vx_table.specs.Parts.{sections_form}
use Rattle.vx_table.specs.Scope.{fresh, loaded, natural, value}
use Rattle.vx_table.specs.Spelling.{item_of, items_along}
use Rattle.vx_table.specs.Values.{Follows, through}
use Rattle.vx_table.proofs.Bounds.{parts_lie_in_range}
use Rattle.vx_table.proofs.Loading.{loaded_then}
use Rattle.vx_pps.specs.Pps.{before_tiles}
use Rattle.vx_pps.specs.laws.Sets.{IsWide}
use Rattle.vx_pps.specs.Written.{only_item}
use Rattle.vx_pps.proofs.Testing.{widths_lie}

natural_wide : (v : ℤ) → lies 1 16384 v ≡ true → IsWide (natural v)
unfolding natural
natural_wide (pos n) is =
    let parts = and_parts (int_le (pos 1) (pos n)) (int_le (pos n) (pos 16384)) is in
    record { some = omega (arith, leb-true 1 n parts.0, leb-true n 16384 parts.1); most = omega (arith, leb-true n 16384 parts.1) }
natural_wide (negsuc n) is = let parts = and_parts (int_le (pos 1) (negsuc n)) (int_le (negsuc n) (pos 16384)) is in absurd (cc)

long_loaded : (s : List ℕ) (items : List Item) → length (loaded s items) ≡ length s
long_loaded s [] = refl
long_loaded s (item ∷ items) = long_loaded (slice_set s item.field (natural item.value)) items ∙ length-set s item.field (natural item.value)

-- a number in the range stays in it, whatever items come behind
set_wide : (of : ℕ) (s : List ℕ) (item : Item) → of < length s → LiesIn of 1 16384 item → IsWide (slice_index s of) → IsWide (slice_index (slice_set s item.field (natural item.value)) of)
set_wide of s item short lie wide = elim (cases_eq of item.field) [
  | inl same ↦ rw (get_or-set_at s item.field of (natural item.value) 0 same (omega (arith, short, same))) (natural_wide item.value (lie (sym same)))
  | inr other ↦ rw (get_or-set_other s item.field of (natural item.value) 0 other) wide
]

stays_wide : (of : ℕ) (s : List ℕ) (items : List Item) → of < length s → All (LiesIn of 1 16384) items → IsWide (slice_index s of) → IsWide (slice_index (loaded s items) of)
stays_wide of s [] short lie wide = wide
stays_wide of s (item ∷ items) short lie wide =
    stays_wide of (slice_set s item.field (natural item.value)) items (omega (arith, short, length-set s item.field (natural item.value))) (All-tail (LiesIn of 1 16384) item items lie)
    (set_wide of s item short (All-head (LiesIn of 1 16384) item items lie) wide)

All-behind : (P : Item → Type 0) (xs ys : List Item) → All P (xs ++ ys) → All P ys
All-behind P [] ys all = all
All-behind P (x ∷ xs) ys all = All-behind P xs ys (All-tail P x (xs ++ ys) all)

number_wide : (of : ℕ) (v : ℤ) (before behind : List Item) → of < 1024 → All (LiesIn of 1 16384) (before ++ (only_item of v ++ behind)) → IsWide (slice_index (loaded fresh (before ++ (only_item of v ++ behind))) of)
unfolding fresh
number_wide of v before behind low lie =
    let s : List ℕ = loaded (replicate 1024 0) before in
    let long : length s ≡ 1024 = long_loaded (replicate 1024 0) before ∙ refl in
    let behind_lie : All (LiesIn of 1 16384) (only_item of v ++ behind) = All-behind (LiesIn of 1 16384) before (only_item of v ++ behind) lie in
    let here : IsWide (slice_index (slice_set s of (natural v)) of) = rw (get_or-set_at s of of (natural v) 0 refl (omega (arith, long, low))) (natural_wide v (All-head (LiesIn of 1 16384) (record { field = of; value = v }) behind behind_lie refl)) in
    rw (loaded_then (replicate 1024 0) before (only_item of v ++ behind))
    (stays_wide of (slice_set s of (natural v)) behind (omega (arith, long, low, length-set s of (natural v))) (All-tail (LiesIn of 1 16384) (record { field = of; value = v }) behind behind_lie) here)

-- a set begins with its ids, the kinds of its units, and its size
record Begins (items : List Item) : Type 0 where
  pub before : List Item
  pub behind : List Item
  pub width : ℤ
  pub height : ℤ
  pub all : items ≡ before ++ (only_item pps.pps_pic_width_in_luma_samples width ++ (only_item pps.pps_pic_height_in_luma_samples height ++ behind))

begins : {w : List ℤ} {s : List ℕ} → Follows (sections_form before_tiles fresh) w s → Begins (items_along (sections_form before_tiles fresh) w)
unfolding sections_form present value form_of part one_field item_of has_value coding_at limits_at
begins (through {v = a} is_a (through {v = b} is_b (through {v = c} is_c (through {v = d} is_d (through {goes} {v = e} {w} is_e more))))) = record {
  before = only_item pps.pps_pic_parameter_set_id a ++ (only_item pps.pps_seq_parameter_set_id b ++ only_item pps.pps_mixed_nalu_types_in_pic_flag c);
  behind = items_along (goes e) w;
  width = d;
  height = e;
  all = refl;
}

pub front_wide : {w : List ℤ} {s : List ℕ} → Follows (sections_form before_tiles fresh) w s
    → IsWide (slice_index (loaded fresh (items_along (sections_form before_tiles fresh) w)) pps.pps_pic_width_in_luma_samples) × IsWide (slice_index (loaded fresh (items_along (sections_form before_tiles fresh) w)) pps.pps_pic_height_in_luma_samples)
front_wide {w} {s} follows =
    let b = begins follows in
    let width_item : List Item = only_item pps.pps_pic_width_in_luma_samples b.width in
    let height_item : List Item = only_item pps.pps_pic_height_in_luma_samples b.height in
    let wide_lie = parts_lie_in_range pps.pps_pic_width_in_luma_samples 1 16384 before_tiles fresh w s widths_lie.0 follows in
    let high_lie = parts_lie_in_range pps.pps_pic_height_in_luma_samples 1 16384 before_tiles fresh w s widths_lie.1 follows in
    let later : b.before ++ (width_item ++ (height_item ++ b.behind)) ≡ (b.before ++ width_item) ++ (height_item ++ b.behind) = sym (append_assoc b.before width_item (height_item ++ b.behind)) in (
      subst (λ xs. IsWide (slice_index (loaded fresh xs) pps.pps_pic_width_in_luma_samples)) (sym b.all)
          (number_wide pps.pps_pic_width_in_luma_samples b.width b.before (height_item ++ b.behind) (omega arith) (subst (λ xs. All (LiesIn pps.pps_pic_width_in_luma_samples 1 16384) xs) b.all wide_lie)),
      subst (λ xs. IsWide (slice_index (loaded fresh xs) pps.pps_pic_height_in_luma_samples)) (sym (b.all ∙ later))
          (number_wide pps.pps_pic_height_in_luma_samples b.height (b.before ++ width_item) b.behind (omega arith) (subst (λ xs. All (LiesIn pps.pps_pic_height_in_luma_samples 1 16384) xs) (b.all ∙ later) high_lie)),
    )
