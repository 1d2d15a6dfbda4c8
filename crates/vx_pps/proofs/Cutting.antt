-- A picture parameter set cut in its front, its tiles and slices, and its tools; and the numbers that its items give its fields.
use Rattle.std.proofs.Common.{◌≡◌, ◌≢◌, ℕ, ℤ, ◌<◌, ◌≤◌, ltb, ◌&&◌, ◌||◌, Bool, true, false, IsTrue, IsFalse, List, [], ◌∷◌, ◌++◌, slice_index, sym, ap, ◌∙◌, subst, inl, inr, arith, refl}
use Rattle.std.specs.Prelude.{filter}
use Rattle.std.proofs.lemmas.Bool.{and_parts, both_ways, cases_Bool, cases_eq, false_from_ne_true, ltb-true, not-true, or_cases}
use Rattle.std.proofs.lemmas.List.{append-nil}
use Rattle.std.proofs.lemmas.List.Elements.{filter-append}
use Rattle.vx_bits.specs.declared.list.Item.{Item}
use Rattle.vx_fields.specs.declared.pps.TheConstants as pps
use Rattle.vx_table.specs.declared.rows.Cell.{Cell}
use Rattle.vx_table.specs.EachField.{EachField, sections_pass}
use Rattle.vx_table.specs.Forms.{Form, done, field, ◌>>=◌, form_of, present}
use Rattle.vx_table.specs.Parts.{Section, always, sections_form}
use Rattle.vx_table.specs.Spelling.{item_of, items_along}
use Rattle.vx_table.specs.Values.{Follows, to_end, through}
use Rattle.vx_table.specs.declared.rows.Formula.{Formula}
use Rattle.vx_table.specs.declared.rows.Row.{Row}
use Rattle.vx_table.specs.declared.rows.Row.TheVariants.{Field}
use Rattle.vx_table.specs.Claims.{hides_row}
use Rattle.vx_table.specs.Depends.{Agree, has}
use Rattle.vx_table.specs.Loaded.{StaysBelow, number, row_below}
use Rattle.vx_table.specs.Rewritten.{other_items}
use Rattle.vx_table.specs.Scope.{fresh, loaded, value}
use Rattle.vx_table.specs.Shown.{shown_items}
use Rattle.vx_table.proofs.Agreeing.{agree_back, agree_itself, agree_on, others_too}
use Rattle.vx_table.proofs.EachField.{each_of_sections, each_then}
use Rattle.vx_table.proofs.Groups.{cut}
use Rattle.vx_table.proofs.Joined.{items_joined, parted}
use Rattle.vx_table.proofs.Loading.{loaded_then, number_below, number_of_shown, sections_load, sections_stay_below}
use Rattle.vx_table.proofs.Rewriting.{no_other_here, other_here}
use Rattle.vx_table.proofs.Rewrites.{leaves_agree, sections_leave, sections_together}
use Rattle.vx_table.proofs.Shown.{hidden_here, scopes_follow_items}
use Rattle.vx_pps.specs.declared.partition.Partition.{Partition}
use Rattle.vx_pps.specs.Pps.{before_tiles, partition_at, pps_form, after_slices}
use Rattle.vx_pps.specs.Written.{Gives}
use Rattle.vx_pps.proofs.Division.{IsDividing, each_division}
use Rattle.vx_pps.proofs.Giving.{gives_end, gives_then}
use Rattle.vx_pps.proofs.Testing.{IsFlag, before_control, dbf_control, early, from_dbf, front_numbered, numbered, override, override_stands, override_unshown, tools_early, tools_numbered}
use Rattle.vx_pps.proofs.Tooled.{control_loads}
use Rattle.vx_pps.specs.declared.tables.TheConstants as tables

-- ---- the parts

pub record Parts (items : List Item) (end : Partition) : Type 0 where
  pub scope : List ℕ
  pub last : List ℕ
  pub front_items : List Item
  pub division : List Item
  pub tool_items : List Item
  pub first : Gives (sections_form before_tiles fresh) front_items scope
  pub second : Gives (partition_at scope) division end
  pub third : Gives (sections_form after_slices scope) tool_items last
  pub all : items ≡ front_items ++ (division ++ tool_items)

-- items of values of one form behind another
pub gives_parts : {A B : Type 0} (form : Form A) (next : A → Form B) {items : List Item} {end : B} → Gives (form >>= next) items end
    → (mid : A) × (xs : List Item) × (ys : List Item) × Gives form xs mid × Gives (next mid) ys end × (items ≡ xs ++ ys)
gives_parts form next {items} {end} gives =
    let p = parted form next gives.follows in (
      p.mid,
      items_along form p.front,
      items_along (next p.mid) p.others,
      record { values = p.front; follows = p.first; given = refl },
      record { values = p.others; follows = p.second; given = refl },
      sym gives.given ∙ ap (λ w. items_along (form >>= next) w) p.all ∙ items_joined next p.others p.first,
    )

at_end_of : {B : Type 0} {b end : B} {w : List ℤ} → Follows (done b) w end → (w ≡ []) × (b ≡ end)
at_end_of to_end = (refl, refl)

done_only : {B : Type 0} {b end : B} {w : List ℤ} {items : List Item} → Follows (done b) w end → items_along (done b) w ≡ items → (items ≡ []) × (b ≡ end)
done_only to_end given = (sym given, refl)

pub at_done : {B : Type 0} {b end : B} {items : List Item} → Gives (done b) items end → (items ≡ []) × (b ≡ end)
at_done gives = done_only gives.follows gives.given

-- behind a form nothing is left
gives_back : {A B : Type 0} (form : Form A) (b : B) {items : List Item} {end : B} → Gives (form >>= λ a. done b) items end → (mid : A) × Gives form items mid × (b ≡ end)
gives_back form b {items} {end} gives =
    let p = gives_parts form (λ a. done b) gives in
    let behind = at_done p.4 in
    (p.0, subst (λ xs. Gives form xs p.0) (sym (p.5 ∙ ap (λ ys. p.1 ++ ys) behind.0 ∙ append-nil p.1)) p.3, behind.1)

pub cut_parts : (items : List Item) (end : Partition) → Gives pps_form items end → Parts items end
unfolding pps_form
cut_parts items end gives =
    let one = gives_parts (sections_form before_tiles fresh) (λ s. partition_at s >>= λ p. sections_form after_slices s >>= λ t. done p) gives in
    let two = gives_parts (partition_at one.0) (λ p. sections_form after_slices one.0 >>= λ t. done p) one.4 in
    let three = gives_back (sections_form after_slices one.0) two.0 two.4 in
    record {
      scope = one.0;
      last = three.0;
      front_items = one.1;
      division = two.1;
      tool_items = two.2;
      first = one.3;
      second = subst (λ p. Gives (partition_at one.0) two.1 p) three.2 two.3;
      third = three.1;
      all = one.5 ∙ ap (λ xs. one.1 ++ xs) two.5;
    }

pub put_parts : {xs ys zs : List Item} {s t : List ℕ} {end : Partition} → Gives (sections_form before_tiles fresh) xs s → Gives (partition_at s) ys end → Gives (sections_form after_slices s) zs t → Gives pps_form (xs ++ (ys ++ zs)) end
unfolding pps_form
put_parts {s} {end} first second third =
    gives_then (λ u. partition_at u >>= λ p. sections_form after_slices u >>= λ t. done p) first
    (gives_then (λ p. sections_form after_slices s >>= λ t. done p) second (gives_end (λ t. end) third))

-- ---- the fields of tiles and slices

pub each_weaker : {A : Type 0} (P Q : Cell ℕ → Type 0) (f : Form A) → ((cell : Cell ℕ) → P cell → Q cell) → EachField P f → EachField Q f
each_weaker P Q (done a) weaker each = tt
each_weaker P Q (field cell goes) weaker each = (weaker cell each.0, λ v. each_weaker P Q (goes v) weaker (each.1 v))

-- a set that has none of them
abbrev pub Clear : List ℕ → Type 0
Clear names = (n : ℕ) → 417 ≤ n → n ≤ 432 → IsFalse (has names n)

-- a form none of whose fields is in a set
pub none_shown : {A : Type 0} (names : List ℕ) {f : Form A} {w : List ℤ} {a : A} → EachField (λ cell. IsFalse (has names cell.field)) f → Follows f w a → shown_items names (items_along f w) ≡ []
none_shown names each to_end = refl
none_shown names each (through {cell} {goes} {v} {w} value on) = hidden_here names cell v (items_along (goes v) w) each.0 ∙ none_shown names (each.1 v) on

pub all_other : {A : Type 0} (names : List ℕ) {f : Form A} {w : List ℤ} {a : A} → EachField (λ cell. IsFalse (has names cell.field)) f → Follows f w a → other_items names (items_along f w) ≡ items_along f w
all_other names each to_end = refl
all_other names each (through {cell} {goes} {v} {w} value on) = other_here names cell v (items_along (goes v) w) each.0 ∙ ap (λ x. item_of cell v ++ x) (all_other names (each.1 v) on)

pub none_other : {A : Type 0} (names : List ℕ) {f : Form A} {w : List ℤ} {a : A} → EachField (λ cell. IsTrue (has names cell.field)) f → Follows f w a → other_items names (items_along f w) ≡ []
none_other names each to_end = refl
none_other names each (through {cell} {goes} {v} {w} value on) = no_other_here names cell v (items_along (goes v) w) each.0 ∙ none_other names (each.1 v) on

pub division_clear : (names s : List ℕ) → Clear names → EachField (λ cell. IsFalse (has names cell.field)) (partition_at s)
division_clear names s clear = each_weaker IsDividing (λ cell. IsFalse (has names cell.field)) (partition_at s) (λ cell is. clear cell.field is.0 is.1) (each_division _ _ _)

pub division_unshown : (names s : List ℕ) {items : List Item} {end : Partition} → Clear names → Gives (partition_at s) items end → (shown_items names items ≡ []) × (other_items names items ≡ items)
division_unshown names s clear gives =
    let each = division_clear names s clear in
    (ap (λ xs. shown_items names xs) (sym gives.given) ∙ none_shown names each gives.follows, ap (λ xs. other_items names xs) (sym gives.given) ∙ all_other names each gives.follows ∙ gives.given)

-- ---- numbers

-- a scope after items of other fields
pub unloaded : (names s : List ℕ) (items : List Item) → shown_items names items ≡ [] → Agree names s (loaded s items)
unloaded names s items none = agree_back (scopes_follow_items names s s items [] (agree_itself names s) none)

-- a set of one has no other
pub one_has : (of n : ℕ) → IsTrue (has (of ∷ []) n) → n ≡ of
one_has of n h = elim (cases_eq n of) [
  | inl same ↦ same
  | inr other ↦ absurd (both_ways _ refl (others_too [] of n other h))
]

-- the number of a field that isn't in a set, by the other items
picked : (names : List ℕ) (of : ℕ) (items : List Item) → IsFalse (has names of) → shown_items (of ∷ []) (other_items names items) ≡ shown_items (of ∷ []) items
picked names of [] out = refl
picked names of (item ∷ items) out =
    let rest = picked names of items out in
    elim (cases_Bool (has names item.field)) [
      | inl taken ↦
          let gone : has (of ∷ []) item.field ≡ false = false_from_ne_true _ (λ h. both_ways _ out (ap (λ n. has names n) (sym (one_has of item.field h)) ∙ taken)) in
          rw (taken, gone) rest
      | inr free ↦ elim (cases_Bool (has (of ∷ []) item.field)) [
        | inl is ↦ rw (free, is) (ap (λ xs. item ∷ xs) rest)
        | inr is_not ↦ rw (free, is_not) rest
      ]
    ]

pub number_by_others : (names : List ℕ) (of : ℕ) (items : List Item) → IsTrue (has (of ∷ []) of) → IsFalse (has names of) → number items of ≡ number (other_items names items) of
number_by_others names of items is out =
    number_of_shown (of ∷ []) of items is ∙ ap (λ xs. number xs of) (sym (picked names of items out)) ∙ sym (number_of_shown (of ∷ []) of (other_items names items) is)

-- sets that have none of the fields of tiles and slices
abbrev pub is_clear : List ℕ → Bool
is_clear [] = true
is_clear (x ∷ xs) = (ltb x 417 || ltb 432 x) && is_clear xs

pub clear_from : (xs : List ℕ) → is_clear xs ≡ true → Clear xs
clear_from [] clear n low high = refl
clear_from (x ∷ xs) clear n low high =
    let parts = and_parts (ltb x 417 || ltb 432 x) (is_clear xs) clear in
    let other : n ≢ x = λ e. elim (or_cases (ltb x 417) (ltb 432 x) parts.0) [
      | inl below ↦ absurd (omega (arith, e, ltb-true x 417 below))
      | inr above ↦ absurd (omega (arith, e, ltb-true 432 x above))
    ] in
    false_from_ne_true _ (λ h. both_ways _ (clear_from xs parts.1 n low high) (others_too xs x n other h))

hidden_row : (names : List ℕ) (c : Cell Formula) → hides_row names (Field c) ≡ true → IsFalse (has names c.field)
unfolding hides_row
hidden_row names c h = not-true (has names c.field) h

-- no field of these sections is in a set
pub sections_unshown : (names : List ℕ) (sections : List Section) (s : List ℕ) → sections_pass (hides_row names) sections ≡ true → EachField (λ cell. IsFalse (has names cell.field)) (sections_form sections s)
sections_unshown names sections s test = each_of_sections (λ cell. IsFalse (has names cell.field)) (hides_row names) (λ c t h. hidden_row names c h) sections s test

-- one table alone
one_table : (rows : List Row) (s : List ℕ) {w : List ℤ} {e : List ℕ} → Follows (sections_form (always rows ∷ []) s) w e → Follows (form_of rows s) w e × (items_along (sections_form (always rows ∷ []) s) w ≡ items_along (form_of rows s) w)
unfolding sections_form present value
one_table rows s {w} {e} follows =
    let q = parted (form_of rows s) (λ t. done t) follows in
    let behind = at_end_of q.second in
    let same : w ≡ q.front = q.all ∙ ap (λ x. q.front ++ x) behind.0 ∙ append-nil q.front in (
      subst (λ v. Follows (form_of rows s) v e) (sym same) (subst (λ t. Follows (form_of rows s) q.front t) behind.1 q.first),
      ap (λ v. items_along (form_of rows s >>= λ t. done t) v) q.all ∙ items_joined (λ t. done t) q.others q.first ∙ append-nil (items_along (form_of rows s) q.front) ∙ ap (λ v. items_along (form_of rows s) v) (sym same),
    )

-- the items of a structure cut in two
pub cut_items : (first more : List Section) (s : List ℕ) {v : List ℤ} (w : List ℤ) {mid : List ℕ} → Follows (sections_form first s) v mid
    → items_along (sections_form (first ++ more) s) (v ++ w) ≡ items_along (sections_form first s) v ++ items_along (sections_form more mid) w
cut_items first more s {v} w {mid} follows = ap (λ f. items_along f (v ++ w)) (sections_together first more s) ∙ items_joined (sections_form more) w follows

-- the shown items of five parts, of which one alone has some
pub only_middle : (names : List ℕ) (a b c d e : List Item) → shown_items names a ≡ [] → shown_items names b ≡ [] → shown_items names c ≡ [] → shown_items names e ≡ [] → shown_items names (a ++ (b ++ (c ++ (d ++ e)))) ≡ shown_items names d
only_middle names a b c d e no_a no_b no_c no_e =
    let p : Item → Bool = λ item. has names item.field in
    filter-append p a (b ++ (c ++ (d ++ e))) ∙ ap (λ xs. xs ++ filter p (b ++ (c ++ (d ++ e)))) no_a
    ∙ filter-append p b (c ++ (d ++ e)) ∙ ap (λ xs. xs ++ filter p (c ++ (d ++ e))) no_b
    ∙ filter-append p c (d ++ e) ∙ ap (λ xs. xs ++ filter p (d ++ e)) no_c
    ∙ filter-append p d e ∙ ap (λ xs. filter p d ++ xs) no_e ∙ append-nil (filter p d)

numbered_clear : Clear numbered
numbered_clear = clear_from (pps.pps_pic_width_in_luma_samples ∷ pps.pps_pic_height_in_luma_samples ∷ pps.pps_no_pic_partition_flag ∷ pps.pps_weighted_pred_flag ∷ pps.pps_weighted_bipred_flag ∷ []) refl

override_clear : Clear override
override_clear = clear_from (pps.pps_deblocking_filter_override_enabled_flag ∷ []) refl

module _ {items : List Item} {end : Partition} (p : Parts items end) where
  -- ---- numbers of the scope at the end

  loaded_all : loaded fresh items ≡ loaded (loaded (loaded fresh p.front_items) p.division) p.tool_items
  loaded_all = ap (λ xs. loaded fresh xs) p.all ∙ loaded_then fresh p.front_items (p.division ++ p.tool_items) ∙ loaded_then (loaded fresh p.front_items) p.division p.tool_items

  pub front_loads : Agree numbered (loaded fresh p.front_items) p.scope
  front_loads = subst (λ xs. Agree numbered (loaded fresh xs) p.scope) p.first.given ((sections_load numbered before_tiles front_numbered).at fresh p.first.values p.scope p.first.follows)

  pub numbers_told : (n : ℕ) → IsTrue (has numbered n) → slice_index p.last n ≡ number items n
  numbers_told n is =
      let unshown = (division_unshown numbered p.scope numbered_clear p.second).0 in
      let mid : Agree numbered (loaded (loaded fresh p.front_items) p.division) p.scope = agree_on (agree_back (unloaded numbered (loaded fresh p.front_items) p.division unshown)) front_loads in
      let rest : Agree numbered (loaded p.scope p.tool_items) p.last = subst (λ xs. Agree numbered (loaded p.scope xs) p.last) p.third.given ((sections_load numbered after_slices tools_numbered).at p.scope p.third.values p.last p.third.follows) in
      let all : Agree numbered (loaded fresh items) p.last = subst (λ t. Agree numbered t p.last) (sym loaded_all)
      (agree_on (scopes_follow_items numbered (loaded (loaded fresh p.front_items) p.division) p.scope p.tool_items p.tool_items mid refl) rest) in
      sym (all.same n is)

  -- and of that before the tools
  pub numbers_before : (n : ℕ) → IsTrue (has numbered n) → IsTrue (has early n) → slice_index p.scope n ≡ number items n
  numbers_before n is is_early = (leaves_agree early (sections_form after_slices) p.scope p.third.values p.last (sections_leave early after_slices tools_early) p.third.follows).same n is_early ∙ numbers_told n is

  -- ---- flags

  scopes : Form (List ℕ)
  scopes = sections_form before_tiles fresh >>= λ s. (partition_at s >>= λ d. done s) >>= λ t. sections_form after_slices t

  pub number_low : (of bound : ℕ) → 0 < bound → sections_pass (row_below of bound) before_tiles ≡ true → sections_pass (row_below of bound) after_slices ≡ true → (417 ≤ of → of ≤ 432 → ⊥) → number items of < bound
  unfolding scopes
  number_low of bound some in_front in_tools outside =
      let given = gives_then (λ s. (partition_at s >>= λ d. done s) >>= λ t. sections_form after_slices t) p.first (gives_then (λ t. sections_form after_slices t) (gives_end (λ d. p.scope) p.second) p.third) in
      let each : EachField (StaysBelow of bound) scopes =
      each_then (StaysBelow of bound) (sections_form before_tiles fresh) (λ s. (partition_at s >>= λ d. done s) >>= λ t. sections_form after_slices t) (sections_stay_below of bound before_tiles fresh some in_front)
      (λ s. each_then (StaysBelow of bound) (partition_at s >>= λ d. done s) (λ t. sections_form after_slices t)
      (each_then (StaysBelow of bound) (partition_at s) (λ d. done s)
      (each_weaker IsDividing (StaysBelow of bound) (partition_at s) (λ cell is has_one same v value. absurd (outside (subst (λ n. 417 ≤ n) same is.0) (subst (λ n. n ≤ 432) same is.1))) (each_division _ _ _)) (λ d. tt))
      (λ t. sections_stay_below of bound after_slices t some in_tools)) in
      subst (λ xs. number xs of < bound) (given.given ∙ sym p.all) (number_below of bound scopes given.values p.last some each given.follows)

  pub flag_below : (of : ℕ) → IsFlag of → (417 ≤ of → of ≤ 432 → ⊥) → number items of < 2
  flag_below of test outside = number_low of 2 (omega arith) test.0 test.1 outside

  -- ---- the number that a table sets to 0 before its field

  pub override_told : slice_index p.last pps.pps_deblocking_filter_override_enabled_flag ≡ number items pps.pps_deblocking_filter_override_enabled_flag
  unfolding fresh
  override_told =
      let of : ℕ = pps.pps_deblocking_filter_override_enabled_flag in
      let one = cut before_control (dbf_control ++ from_dbf) p.scope p.third.follows in
      let two = cut dbf_control from_dbf one.mid one.second in
      let table = one_table tables.DBF_CONTROL one.mid two.first in
      let ps : List Item = items_along (sections_form before_control p.scope) one.front in
      let cs : List Item = items_along (form_of tables.DBF_CONTROL one.mid) two.front in
      let rs : List Item = items_along (sections_form from_dbf two.mid) two.others in
      let tools_are : p.tool_items ≡ ps ++ (cs ++ rs) = sym p.third.given ∙ ap (λ w. items_along (sections_form after_slices p.scope) w) one.all
      ∙ cut_items before_control (dbf_control ++ from_dbf) p.scope one.others one.first
      ∙ ap (λ xs. ps ++ xs) (ap (λ w. items_along (sections_form (dbf_control ++ from_dbf) one.mid) w) two.all ∙ cut_items dbf_control from_dbf one.mid two.others two.first ∙ ap (λ xs. xs ++ rs) table.1) in
      let from_fresh = leaves_agree override (sections_form before_tiles) fresh p.first.values p.scope (sections_leave override before_tiles override_stands.0) p.first.follows in
      let from_scope = leaves_agree override (sections_form before_control) p.scope one.front one.mid (sections_leave override before_control override_stands.1) one.first in
      let empty : Agree override fresh one.mid = agree_on from_fresh from_scope in
      let none : slice_index one.mid of ≡ 0 = sym (empty.same of refl) in
      let behind = leaves_agree override (sections_form from_dbf) two.mid two.others p.last (sections_leave override from_dbf override_stands.2) two.second in
      let no_front : shown_items override p.front_items ≡ [] = ap (λ xs. shown_items override xs) (sym p.first.given) ∙ none_shown override (sections_unshown override before_tiles fresh override_unshown.0) p.first.follows in
      let no_division = (division_unshown override p.scope override_clear p.second).0 in
      let no_ps : shown_items override ps ≡ [] = none_shown override (sections_unshown override before_control p.scope override_unshown.1) one.first in
      let no_rs : shown_items override rs ≡ [] = none_shown override (sections_unshown override from_dbf two.mid override_unshown.2) two.second in
      let only : shown_items override items ≡ shown_items override cs = ap (λ xs. shown_items override xs) (p.all ∙ ap (λ xs. p.front_items ++ (p.division ++ xs)) tools_are) ∙ only_middle override p.front_items p.division ps cs rs no_front no_division no_ps no_rs in
      sym (behind.same of refl) ∙ control_loads one.mid none table.0
      ∙ sym ((scopes_follow_items override fresh one.mid cs cs empty refl).same of refl)
      ∙ number_of_shown override of cs refl ∙ ap (λ xs. number xs of) (sym only) ∙ sym (number_of_shown override of items refl)
