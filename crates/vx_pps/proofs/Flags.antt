-- Flags of picture headers that a picture parameter set keeps in the place of absent ones too, by their numbers.
use Rattle.std.proofs.Common.{◌≡◌, ℕ, ℤ, pos, negsuc, zero, suc, ◌<◌, ◌||◌, ◌&&◌, false, List, ◌++◌, length, slice_index, slice_set, sym, ap, ◌∙◌, subst, arith, refl}
use Rattle.std.proofs.lemmas.Bool.{true≢false}
use Rattle.vx_bits.specs.declared.list.Item.{Item}
use Rattle.vx_fields.specs.declared.pps.TheConstants as pps
use Rattle.vx_table.specs.declared.rows.Coding.TheVariants.{Fixed}
use Rattle.vx_table.specs.Depends.{Agree}
use Rattle.vx_table.specs.Forms.{after, coding_at, form_of, has_value, limits_at, one_field, part, present, turns}
use Rattle.vx_table.specs.Kept.{kept_along, stands_for_field}
use Rattle.vx_table.specs.Loaded.{number}
use Rattle.vx_table.specs.Named.{named_by_all}
use Rattle.vx_table.specs.Parts.{Section, sections_form}
use Rattle.vx_table.specs.Scope.{fresh, is_set, natural, value}
use Rattle.vx_table.specs.Spelling.{HasCode, item_of, items_along}
use Rattle.vx_table.specs.Values.{Follows, to_end, through}
use Rattle.vx_table.proofs.Again.{follows_again, sections_show}
use Rattle.vx_table.proofs.Chains.{structure_depends_only_on}
use Rattle.vx_table.proofs.Groups.{agree_given}
use Rattle.vx_pps.specs.Written.{only_item}
use Rattle.vx_pps.proofs.Alike.{kept_alike}
use Rattle.vx_pps.proofs.Testing.{ReadsOnly, dbf_given, dbf_info, dbf_info_read, header_info, header_info_read, info_given}

-- ---- the number of a flag that stands in the place of an absent one too

flag_is : (v : ℤ) → HasCode (Fixed 1) v → pos (natural v) ≡ v
unfolding HasCode natural
flag_is (pos n) code = let same : natural (pos n) ≡ n = omega (arith, code) in ap pos same
flag_is (negsuc n) code = absurd code

-- whether the deblocking filter's parameters stand in picture headers: where it can't be overridden they don't
pub record DbfKept (n : ℕ) (items kept : List Item) : Type 0 where
  pub kept_is : kept ≡ only_item pps.pps_dbf_info_in_ph_flag (pos (number items pps.pps_dbf_info_in_ph_flag))
  pub none : n ≡ 0 → number items pps.pps_dbf_info_in_ph_flag ≡ 0

dbf_at : ℕ → ℕ → List ℕ
dbf_at p n = slice_set (slice_set fresh pps.pps_no_pic_partition_flag p) pps.pps_deblocking_filter_override_enabled_flag n

dbf_here : (p n : ℕ) {w : List ℤ} {last : List ℕ} → p < 2 → n < 2 → Follows (sections_form dbf_info (dbf_at p n)) w last
    → DbfKept n (items_along (sections_form dbf_info (dbf_at p n)) w) (kept_along (sections_form dbf_info (dbf_at p n)) w)
unfolding dbf_at fresh sections_form form_of part one_field after present turns value natural coding_at limits_at has_value HasCode stands_for_field item_of
dbf_here zero zero low few (through {v} is to_end) = record { kept_is = ap (only_item pps.pps_dbf_info_in_ph_flag) is.code; none = λ e. refl }
dbf_here zero (suc zero) low few (through {v} is to_end) = record { kept_is = ap (only_item pps.pps_dbf_info_in_ph_flag) (sym (flag_is v is.code)); none = λ e. absurd (omega (arith, e)) }
dbf_here (suc zero) zero low few (through {v} is to_end) = record { kept_is = ap (only_item pps.pps_dbf_info_in_ph_flag) is.code; none = λ e. refl }
dbf_here (suc zero) (suc zero) low few (through {v} is to_end) = record { kept_is = ap (only_item pps.pps_dbf_info_in_ph_flag) is.code; none = λ e. refl }
dbf_here (suc (suc p)) n low few on = absurd (omega (arith, low))
dbf_here zero (suc (suc n)) low few on = absurd (omega (arith, few))
dbf_here (suc zero) (suc (suc n)) low few on = absurd (omega (arith, few))

-- what else stands there: weights where there are some, and lists stand there
abbrev pub flag_items : ℕ → ℕ → ℕ → List Item
flag_items lists sao weights = only_item pps.pps_rpl_info_in_ph_flag (pos lists) ++ (only_item pps.pps_sao_info_in_ph_flag (pos sao) ++ only_item pps.pps_wp_info_in_ph_flag (pos weights))

pub record InfoKept (a b : ℕ) (items kept : List Item) : Type 0 where
  pub kept_is : kept ≡ flag_items (number items pps.pps_rpl_info_in_ph_flag) (number items pps.pps_sao_info_in_ph_flag) (number items pps.pps_wp_info_in_ph_flag)
  pub none : ((is_set a || is_set b) && is_set (number items pps.pps_rpl_info_in_ph_flag)) ≡ false → number items pps.pps_wp_info_in_ph_flag ≡ 0

info_at : ℕ → ℕ → ℕ → List ℕ
info_at p a b = slice_set (slice_set (slice_set fresh pps.pps_no_pic_partition_flag p) pps.pps_weighted_pred_flag a) pps.pps_weighted_bipred_flag b

three : (u v w x y z : ℤ) → u ≡ x → v ≡ y → w ≡ z
    → only_item pps.pps_rpl_info_in_ph_flag u ++ (only_item pps.pps_sao_info_in_ph_flag v ++ only_item pps.pps_wp_info_in_ph_flag w) ≡ only_item pps.pps_rpl_info_in_ph_flag x ++ (only_item pps.pps_sao_info_in_ph_flag y ++ only_item pps.pps_wp_info_in_ph_flag z)
three u v w x y z e f g =
    ap (λ n. only_item pps.pps_rpl_info_in_ph_flag n ++ (only_item pps.pps_sao_info_in_ph_flag v ++ only_item pps.pps_wp_info_in_ph_flag w)) e
    ∙ ap (λ n. only_item pps.pps_rpl_info_in_ph_flag x ++ (only_item pps.pps_sao_info_in_ph_flag n ++ only_item pps.pps_wp_info_in_ph_flag w)) f
    ∙ ap (λ n. only_item pps.pps_rpl_info_in_ph_flag x ++ (only_item pps.pps_sao_info_in_ph_flag y ++ only_item pps.pps_wp_info_in_ph_flag n)) g

info_here : (p a b : ℕ) {w : List ℤ} {last : List ℕ} → p < 2 → a < 2 → b < 2 → Follows (sections_form header_info (info_at p a b)) w last
    → InfoKept a b (items_along (sections_form header_info (info_at p a b)) w) (kept_along (sections_form header_info (info_at p a b)) w)
unfolding info_at fresh sections_form form_of part one_field after present turns value natural coding_at limits_at has_value HasCode stands_for_field item_of
info_here (suc zero) a b low la lb (through {v = l} is_l (through {v = s} is_s (through {v = w} is_w to_end))) = record {
  kept_is = three l s w (pos 0) (pos 0) (pos 0) is_l.code is_s.code is_w.code;
  none = λ e. refl;
}
info_here zero zero zero low la lb (through {v = l} is_l (through {v = s} is_s (through is_f (through {v = w} is_w (through is_q to_end))))) = record {
  kept_is = three l s w (pos (natural l)) (pos (natural s)) (pos 0) (sym (flag_is l is_l.code)) (sym (flag_is s is_s.code)) is_w.code;
  none = λ e. refl;
}
info_here zero zero (suc zero) low la lb (through {v = pos zero} is_l (through {v = s} is_s (through is_f (through {v = w} is_w (through is_q to_end))))) = record {
  kept_is = three (pos 0) s w (pos 0) (pos (natural s)) (pos 0) refl (sym (flag_is s is_s.code)) is_w.code;
  none = λ e. refl;
}
info_here zero zero (suc zero) low la lb (through {v = pos (suc zero)} is_l (through {v = s} is_s (through is_f (through {v = w} is_w (through is_q to_end))))) = record {
  kept_is = three (pos 1) s w (pos 1) (pos (natural s)) (pos (natural w)) refl (sym (flag_is s is_s.code)) (sym (flag_is w is_w.code));
  none = λ e. absurd (true≢false e);
}
info_here zero zero (suc zero) low la lb (through {v = pos (suc (suc n))} is_l on) = absurd (omega (arith, is_l.code))
info_here zero zero (suc zero) low la lb (through {v = negsuc n} is_l on) = absurd is_l.code
info_here zero (suc zero) zero low la lb (through {v = pos zero} is_l (through {v = s} is_s (through is_f (through {v = w} is_w (through is_q to_end))))) = record {
  kept_is = three (pos 0) s w (pos 0) (pos (natural s)) (pos 0) refl (sym (flag_is s is_s.code)) is_w.code;
  none = λ e. refl;
}
info_here zero (suc zero) zero low la lb (through {v = pos (suc zero)} is_l (through {v = s} is_s (through is_f (through {v = w} is_w (through is_q to_end))))) = record {
  kept_is = three (pos 1) s w (pos 1) (pos (natural s)) (pos (natural w)) refl (sym (flag_is s is_s.code)) (sym (flag_is w is_w.code));
  none = λ e. absurd (true≢false e);
}
info_here zero (suc zero) zero low la lb (through {v = pos (suc (suc n))} is_l on) = absurd (omega (arith, is_l.code))
info_here zero (suc zero) zero low la lb (through {v = negsuc n} is_l on) = absurd is_l.code
info_here zero (suc zero) (suc zero) low la lb (through {v = pos zero} is_l (through {v = s} is_s (through is_f (through {v = w} is_w (through is_q to_end))))) = record {
  kept_is = three (pos 0) s w (pos 0) (pos (natural s)) (pos 0) refl (sym (flag_is s is_s.code)) is_w.code;
  none = λ e. refl;
}
info_here zero (suc zero) (suc zero) low la lb (through {v = pos (suc zero)} is_l (through {v = s} is_s (through is_f (through {v = w} is_w (through is_q to_end))))) = record {
  kept_is = three (pos 1) s w (pos 1) (pos (natural s)) (pos (natural w)) refl (sym (flag_is s is_s.code)) (sym (flag_is w is_w.code));
  none = λ e. absurd (true≢false e);
}
info_here zero (suc zero) (suc zero) low la lb (through {v = pos (suc (suc n))} is_l on) = absurd (omega (arith, is_l.code))
info_here zero (suc zero) (suc zero) low la lb (through {v = negsuc n} is_l on) = absurd is_l.code
info_here zero (suc (suc a)) b low la lb on = absurd (omega (arith, la))
info_here zero zero (suc (suc b)) low la lb on = absurd (omega (arith, lb))
info_here zero (suc zero) (suc (suc b)) low la lb on = absurd (omega (arith, lb))
info_here (suc (suc p)) a b low la lb on = absurd (omega (arith, low))

-- ---- these at any scope

-- what a table reads tells what it keeps
alike_there : (given : List ℕ) (group : List Section) {s t : List ℕ} {w : List ℤ} {last : List ℕ} → ReadsOnly given group → Agree given s t → Follows (sections_form group s) w last
    → (e : List ℕ) × Follows (sections_form group t) w e × (items_along (sections_form group t) w ≡ items_along (sections_form group s) w) × (kept_along (sections_form group s) w ≡ kept_along (sections_form group t) w)
alike_there given group {s} {t} {w} {last} reads agree follows =
    let shown : List ℕ = given ++ named_by_all group in
    let alike = (structure_depends_only_on given (named_by_all group) group reads.0).alike s t agree in
    let all = sections_show shown group reads.1 in
    let again = follows_again shown given (sections_form group s) (sections_form group t) w last alike (all.at s) (all.at t) follows in
    (again.last, again.follows, again.items, kept_alike alike (all.at s) (all.at t) follows again.follows)

pub dbf_kept : (s : List ℕ) {w : List ℤ} {last : List ℕ} → length fresh ≡ length s → slice_index s pps.pps_no_pic_partition_flag < 2 → slice_index s pps.pps_deblocking_filter_override_enabled_flag < 2
    → Follows (sections_form dbf_info s) w last
    → DbfKept (slice_index s pps.pps_deblocking_filter_override_enabled_flag) (items_along (sections_form dbf_info s) w) (kept_along (sections_form dbf_info s) w)
unfolding fresh dbf_at
dbf_kept s {w} long low few follows =
    let p : ℕ = slice_index s pps.pps_no_pic_partition_flag in
    let n : ℕ = slice_index s pps.pps_deblocking_filter_override_enabled_flag in
    let there = alike_there dbf_given dbf_info {t = dbf_at p n} dbf_info_read (agree_given dbf_given (sym long) (refl, (refl, tt))) follows in
    subst (λ k. DbfKept n (items_along (sections_form dbf_info s) w) k) (sym there.3)
    (subst (λ i. DbfKept n i (kept_along (sections_form dbf_info (dbf_at p n)) w)) there.2 (dbf_here p n low few there.1))

pub info_kept : (s : List ℕ) {w : List ℤ} {last : List ℕ} → length fresh ≡ length s → slice_index s pps.pps_no_pic_partition_flag < 2 → slice_index s pps.pps_weighted_pred_flag < 2
    → slice_index s pps.pps_weighted_bipred_flag < 2 → Follows (sections_form header_info s) w last
    → InfoKept (slice_index s pps.pps_weighted_pred_flag) (slice_index s pps.pps_weighted_bipred_flag) (items_along (sections_form header_info s) w) (kept_along (sections_form header_info s) w)
unfolding fresh info_at
info_kept s {w} long low la lb follows =
    let p : ℕ = slice_index s pps.pps_no_pic_partition_flag in
    let a : ℕ = slice_index s pps.pps_weighted_pred_flag in
    let b : ℕ = slice_index s pps.pps_weighted_bipred_flag in
    let there = alike_there info_given header_info {t = info_at p a b} header_info_read (agree_given info_given (sym long) (refl, (refl, (refl, tt)))) follows in
    subst (λ k. InfoKept a b (items_along (sections_form header_info s) w) k) (sym there.3)
    (subst (λ i. InfoKept a b i (kept_along (sections_form header_info (info_at p a b)) w)) there.2 (info_here p a b low la lb there.1))
