-- The sizes of pictures and of ids that an SPS has.
use Rattle.std.proofs.Common.{◌≡◌, ℕ, ℤ, pos, negsuc, zero, suc, ◌+◌, ◌*◌, ◌%◌, ◌^◌, ◌<◌, ◌≤◌, ◌==◌, true, List, [], ◌∷◌, ◌++◌, length, slice_index, slice_set, None, refl, sym, subst, ◌∙◌, arith, inl, inr}
use Rattle.std.specs.Int.{div_ceil}
use Rattle.std.proofs.Math.Pow.{pow_mono}
use Rattle.std.proofs.Math.Nat.{mul-le-mul_right}
use Rattle.std.proofs.lemmas.Bool.{cases_lt, eqb-true, leb-true, ne_eqb}
use Rattle.vx_table.specs.EachField.{sections_pass}
use Rattle.std.proofs.lemmas.Grind.{div_ceil_times}
use Rattle.std.proofs.lemmas.List.{length-replicate, length-set, get_or-set_same, get_or-set_other}
use Rattle.std.proofs.lemmas.Option.{none-some}
use Rattle.std.specs.Prelude.{drop, int_le}
use Rattle.vx_bits.specs.declared.list.Item.{Item}
use Rattle.vx_fields.specs.declared.sps.TheConstants as sps
use Rattle.vx_table.specs.declared.rows.Fault.{Fault}
use Rattle.vx_table.specs.declared.rows.Limits.TheVariants.{Multiple}
use Rattle.vx_table.specs.Claims.{hides_counter, hides_row}
use Rattle.vx_table.specs.Depends.{Agree}
use Rattle.vx_table.specs.Forms.{has_value, form_of, part, one_field, after, coding_at, limits_at}
use Rattle.vx_table.specs.Loaded.{number, code_below, range_below, row_below, names_none}
use Rattle.vx_table.specs.Parts.{Section, always, sections_form}
use Rattle.vx_table.specs.Scope.{fresh, natural, quotient}
use Rattle.vx_table.specs.Spelling.{fault_of}
use Rattle.vx_table.specs.Values.{Follows, through}
use Rattle.vx_table.proofs.Bounds.{unbroken_multiple}
use Rattle.vx_table.proofs.Groups.{cut}
use Rattle.vx_table.proofs.Loading.{number_below, sections_load, sections_stay_below}
use Rattle.vx_table.specs.Forms.{present}
use Rattle.vx_table.specs.Scope.{value}
use Rattle.vx_table.proofs.Joined.{parted}
use Rattle.vx_table.proofs.Rewrites.{leaves_agree, sections_leave, tables_leave}
use Rattle.vx_layout.specs.Bounds.{Rises}
use Rattle.vx_sps.specs.declared.tables.TheConstants.{SIZE}
use Rattle.vx_sps.specs.Structure as structure
use Rattle.vx_sps.specs.Structure.{sps_sections, sps_form}
use Rattle.vx_sps.specs.Set.{AreSpsItems, width_of, height_of, ctb_size_of, ctu_columns_of, ctu_rows_of}

-- ids have 16 bits at most
pub id_length_below : (items : List Item) → AreSpsItems items → number items sps.sps_subpic_id_len_minus1 < 16
unfolding has_value code_below range_below row_below
id_length_below items set = subst (λ x. number x sps.sps_subpic_id_len_minus1 < 16) (sym set.all)
    (number_below sps.sps_subpic_id_len_minus1 16 sps_form set.values set.end (omega arith) (sections_stay_below sps.sps_subpic_id_len_minus1 16 sps_sections fresh (omega arith) refl) set.follows)

-- so there are no more than 2 ^ 16 of a length
pub ids_of_length : (n : ℕ) → n < 16 → 1 * 2 ^ (n + 1) % 4294967296 ≡ 2 ^ (n + 1)
ids_of_length n few =
    let small : n + 1 ≤ 16 = omega arith in
    let less : 2 ^ (n + 1) ≤ 2 ^ 16 = pow_mono small in
    omega (arith, less)

-- one tile
pub one_tile_rises : (size : ℕ) → 0 < size → Rises (0 ∷ size ∷ [])
one_tile_rises size some = (refl, (some, tt))

-- ---- the size of a picture

-- a number that is 8, 16, 24 .. is above 0, and whole times 8
multiple_some : (v : ℤ) (fault : Fault) → fault_of (Multiple 8 16384 fault) v ≡ None → 0 < natural v
unfolding fault_of natural
multiple_some (pos zero) fault range = absurd (none-some _ (sym range))
multiple_some (pos (suc n)) fault range = omega arith
multiple_some (negsuc n) fault range = absurd (none-some _ (sym range))

multiple_whole : (v : ℤ) (fault : Fault) → fault_of (Multiple 8 16384 fault) v ≡ None → natural v % 8 ≡ 0
unfolding fault_of natural
multiple_whole (pos zero) fault range = refl
multiple_whole (pos (suc n)) fault range =
    let both = unbroken_multiple (int_le (pos (suc n)) (pos 16384)) (suc n % 8 == 0) fault range in
    omega (arith, leb-true (suc n) 16384 both.0, eqb-true (suc n % 8) 0 both.1)
multiple_whole (negsuc n) fault range = refl

-- the fields of the size
abbrev sides : List ℕ
sides = sps.sps_pic_width_max_in_luma_samples ∷ sps.sps_pic_height_max_in_luma_samples ∷ []

record HasSize (s : List ℕ) : Type 0 where
  wide : 0 < slice_index s sps.sps_pic_width_max_in_luma_samples
  high : 0 < slice_index s sps.sps_pic_height_max_in_luma_samples
  wide_whole : slice_index s sps.sps_pic_width_max_in_luma_samples % 8 ≡ 0
  high_whole : slice_index s sps.sps_pic_height_max_in_luma_samples % 8 ≡ 0

same_size : (s t : List ℕ) → Agree sides s t → HasSize s → HasSize t
unfolding fresh
same_size s t agree size = record {
  wide = rw (← (agree.same sps.sps_pic_width_max_in_luma_samples refl)) size.wide;
  high = rw (← (agree.same sps.sps_pic_height_max_in_luma_samples refl)) size.high;
  wide_whole = rw (← (agree.same sps.sps_pic_width_max_in_luma_samples refl)) size.wide_whole;
  high_whole = rw (← (agree.same sps.sps_pic_height_max_in_luma_samples refl)) size.high_whole;
}

-- behind the first two rows of its table it is told
set_both : (s : List ℕ) (w h : ℕ) → length s ≡ 1024 → 0 < w → 0 < h → w % 8 ≡ 0 → h % 8 ≡ 0 → HasSize (slice_set (slice_set s sps.sps_pic_width_max_in_luma_samples w) sps.sps_pic_height_max_in_luma_samples h)
set_both s w h size some more whole all =
    let first = slice_set s sps.sps_pic_width_max_in_luma_samples w in
    let same : length first ≡ 1024 = length-set s sps.sps_pic_width_max_in_luma_samples w ∙ size in
    let wide = get_or-set_other first sps.sps_pic_height_max_in_luma_samples sps.sps_pic_width_max_in_luma_samples h 0 (omega arith) ∙ get_or-set_same s sps.sps_pic_width_max_in_luma_samples w 0 (omega (arith, size)) in
    let high = get_or-set_same first sps.sps_pic_height_max_in_luma_samples h 0 (omega (arith, same)) in
    record { wide = rw wide some; high = rw high more; wide_whole = rw wide whole; high_whole = rw high all }

table_sizes : (s : List ℕ) {w : List ℤ} {e : List ℕ} → length s ≡ 1024 → Follows (form_of SIZE s) w e → HasSize e
unfolding fresh form_of part one_field after has_value coding_at limits_at hides_row hides_counter
table_sizes s {e} size (through {v} first (through {v = u} {w} second more)) =
    let at : List ℕ = slice_set (slice_set s sps.sps_pic_width_max_in_luma_samples (natural v)) sps.sps_pic_height_max_in_luma_samples (natural u) in
    same_size at e (leaves_agree sides (form_of (drop 2 SIZE)) at w e (tables_leave sides (drop 2 SIZE) refl) more)
    (set_both s (natural v) (natural u) size (multiple_some v _ first.range) (multiple_some u _ second.range) (multiple_whole v _ first.range) (multiple_whole u _ second.range))

-- the tables before that of the size, and those behind it
abbrev before : List Section
before = structure.ids ++ (structure.start ++ (structure.profile ++ structure.resampling))

abbrev behind : List Section
behind = drop 1 structure.picture ++ (structure.counts ++ (structure.dpb ++ (structure.tools ++ (structure.timing ++ structure.end))))

fresh_size : length fresh ≡ 1024
unfolding fresh
fresh_size = length-replicate {A = ℕ} 1024 0

form_sizes : {w : List ℤ} {e : List ℕ} → Follows sps_form w e → HasSize e
unfolding fresh sections_form present value hides_row hides_counter
form_sizes {e} follows =
    let p = cut before (always SIZE ∷ behind) fresh follows in
    let size = (leaves_agree fresh (sections_form before) fresh p.front p.mid (sections_leave fresh before refl) p.first).size in
    let q = parted (form_of SIZE p.mid) (sections_form behind) p.second in
    same_size q.mid e (leaves_agree sides (sections_form behind) q.mid q.others e (sections_leave sides behind refl) q.second) (table_sizes p.mid (sym size ∙ fresh_size) q.first)

-- pictures have a size, in whole blocks of 8 luma samples
pub record HasSides (items : List Item) : Type 0 where
  pub wide : 0 < width_of items
  pub high : 0 < height_of items
  pub wide_whole : width_of items % 8 ≡ 0
  pub high_whole : height_of items % 8 ≡ 0

pub has_sides : (items : List Item) → AreSpsItems items → HasSides items
unfolding fresh names_none hides_counter
has_sides items set =
    let size = form_sizes set.follows in
    let loads = (sections_load sides sps_sections refl).at fresh set.values set.end set.follows in
    record {
      wide = rw (set.all, loads.same sps.sps_pic_width_max_in_luma_samples refl) size.wide;
      high = rw (set.all, loads.same sps.sps_pic_height_max_in_luma_samples refl) size.high;
      wide_whole = rw (set.all, loads.same sps.sps_pic_width_max_in_luma_samples refl) size.wide_whole;
      high_whole = rw (set.all, loads.same sps.sps_pic_height_max_in_luma_samples refl) size.high_whole;
    }

positive : (k unit : ℕ) → 0 < k * unit → 0 < k
positive zero unit some = absurd (omega (arith, some))
positive (suc k) unit some = omega arith

at_most : (k unit : ℕ) → k * unit < 16384 + unit → 32 ≤ unit → k ≤ 512
at_most k unit below large = elim (cases_lt 512 k) [
  | inl more ↦
      let most : 513 * unit ≤ k * unit = mul-le-mul_right unit (omega (arith, more)) in
      absurd (omega (arith, most, below, large))
  | inr fine ↦ fine
]

-- a length in units
units : (n unit : ℕ) → 0 < n → n ≤ 16384 → 32 ≤ unit → (0 < div_ceil n unit) × (div_ceil n unit ≤ 512)
units n unit some few large =
    let times = div_ceil_times n unit (omega arith) in
    (positive (div_ceil n unit) unit (omega (arith, times.0, some)), at_most (div_ceil n unit) unit (omega (arith, times.1, few)) large)

pub quotient_is : (n unit : ℕ) → 32 ≤ unit → quotient n unit ≡ div_ceil n unit
quotient_is n zero large = absurd (omega arith)
quotient_is n (suc unit) large = let other = ne_eqb (suc unit) 0 (omega arith) in rw other refl

-- so pictures have one to 512 columns and rows
pub record HasCtus (items : List Item) : Type 0 where
  pub columns : (0 < ctu_columns_of items) × (ctu_columns_of items ≤ 512)
  pub rows : (0 < ctu_rows_of items) × (ctu_rows_of items ≤ 512)

-- a number of at most 16,384
pub side_below : (of : ℕ) (items : List Item) (set : AreSpsItems items) → sections_pass (row_below of 16385) sps_sections ≡ true → number items of < 16385
side_below of items set test = subst (λ x. number x of < 16385) (sym set.all)
    (number_below of 16385 sps_form set.values set.end (omega arith) (sections_stay_below of 16385 sps_sections fresh (omega arith) test) set.follows)

pub has_ctus : (items : List Item) → AreSpsItems items → HasCtus items
unfolding has_value code_below range_below row_below
has_ctus items set =
    let sides = has_sides items set in
    let wide : width_of items < 16385 = side_below sps.sps_pic_width_max_in_luma_samples items set refl in
    let high : height_of items < 16385 = side_below sps.sps_pic_height_max_in_luma_samples items set refl in
    let more : 5 ≤ number items sps.sps_log2_ctu_size_minus5 + 5 = omega arith in
    let large : 2 ^ 5 ≤ ctb_size_of items = pow_mono more in
    let unit : 32 ≤ ctb_size_of items = large in
    record {
      columns = rw (quotient_is (width_of items) (ctb_size_of items) unit) (units (width_of items) (ctb_size_of items) sides.wide (omega (arith, wide)) unit);
      rows = rw (quotient_is (height_of items) (ctb_size_of items) unit) (units (height_of items) (ctb_size_of items) sides.high (omega (arith, high)) unit);
    }
