-- What a set keeps, by its parts.
use Rattle.std.proofs.Common.{◌≡◌, ℕ, ℤ, false, List, [], ◌++◌, sym, ap, ◌∙◌, refl, append_assoc}
use Rattle.std.proofs.lemmas.List.{append-nil}
use Rattle.vx_bits.specs.declared.list.Item.{Item}
use Rattle.vx_table.specs.EachField.{EachField}
use Rattle.vx_table.specs.Forms.{Form, done, ◌>>=◌}
use Rattle.vx_table.specs.Kept.{kept_along, kept_item}
use Rattle.vx_table.specs.Parts.{Section, sections_form}
use Rattle.vx_table.specs.Scope.{fresh}
use Rattle.vx_table.specs.Spelling.{items_along}
use Rattle.vx_table.specs.Values.{Follows, to_end, through}
use Rattle.vx_table.proofs.Joined.{items_joined, joined}
use Rattle.vx_table.proofs.Rewrites.{sections_together}
use Rattle.vx_table.proofs.Starred.{not_kept}
use Rattle.vx_pps.specs.declared.partition.Partition.{Partition}
use Rattle.vx_pps.specs.Items.{values_in}
use Rattle.vx_pps.specs.Pps.{before_tiles, kept_pps_items, partition_at, pps_form, after_slices}
use Rattle.vx_pps.specs.Written.{Gives}
use Rattle.vx_pps.proofs.Cutting.{each_weaker}
use Rattle.vx_pps.proofs.Division.{IsDividing, each_division}
use Rattle.vx_pps.proofs.Told.{values_back}

-- what one form keeps behind another
kept_joined : {A B : Type 0} {f : Form A} (next : A → Form B) {v : List ℤ} (w : List ℤ) {a : A} → Follows f v a → kept_along (f >>= next) (v ++ w) ≡ kept_along f v ++ kept_along (next a) w
kept_joined next w to_end = refl
kept_joined next w (through {cell} {goes} {v} {w = more} value on) = ap (λ x. kept_item cell v ++ x) (kept_joined next w on) ∙ sym (append_assoc (kept_item cell v) (kept_along (goes v) more) _)

-- what a structure cut in two keeps
pub cut_kept : (first more : List Section) (s : List ℕ) {v : List ℤ} (w : List ℤ) {mid : List ℕ} → Follows (sections_form first s) v mid
    → kept_along (sections_form (first ++ more) s) (v ++ w) ≡ kept_along (sections_form first s) v ++ kept_along (sections_form more mid) w
cut_kept first more s {v} w follows = ap (λ f. kept_along f (v ++ w)) (sections_together first more s) ∙ kept_joined (sections_form more) w follows

-- a form that keeps no field
kept_none : {A : Type 0} {f : Form A} {w : List ℤ} {a : A} → EachField (λ cell. cell.kept ≡ false) f → Follows f w a → kept_along f w ≡ []
kept_none each to_end = refl
kept_none each (through {cell} {goes} {v} {w} value on) = ap (λ x. x ++ kept_along (goes v) w) (not_kept cell v (λ stands. each.0)) ∙ kept_none (each.1 v) on

-- a set keeps what its front and its tools keep
pub kept_put : {xs ys zs : List Item} {s t : List ℕ} {end : Partition} (first : Gives (sections_form before_tiles fresh) xs s) (second : Gives (partition_at s) ys end) (third : Gives (sections_form after_slices s) zs t)
    → kept_pps_items (xs ++ (ys ++ zs)) ≡ kept_along (sections_form before_tiles fresh) first.values ++ kept_along (sections_form after_slices s) third.values
unfolding pps_form
kept_put {xs} {ys} {zs} {s} {t} {end} first second third =
    let last : List ℕ → Form Partition = λ u. done end in
    let next : Partition → Form Partition = λ p. sections_form after_slices s >>= λ u. done p in
    let behind : List ℕ → Form Partition = λ u. partition_at u >>= λ p. sections_form after_slices u >>= λ v. done p in
    let c : List ℤ = third.values ++ [] in
    let b : List ℤ = second.values ++ c in
    let a : List ℤ = first.values ++ b in
    let follows_c : Follows (sections_form after_slices s >>= last) c end = joined last third.follows to_end in
    let follows_b : Follows (partition_at s >>= next) b end = joined next second.follows follows_c in
    let follows_a : Follows (sections_form before_tiles fresh >>= behind) a end = joined behind first.follows follows_b in
    let items_c : items_along (sections_form after_slices s >>= last) c ≡ zs = items_joined last [] third.follows ∙ append-nil (items_along (sections_form after_slices s) third.values) ∙ third.given in
    let items_b : items_along (partition_at s >>= next) b ≡ ys ++ zs = items_joined next c second.follows ∙ ap (λ x. x ++ items_along (next end) c) second.given ∙ ap (λ x. ys ++ x) items_c in
    let items_a : items_along (sections_form before_tiles fresh >>= behind) a ≡ xs ++ (ys ++ zs) = items_joined behind b first.follows ∙ ap (λ x. x ++ items_along (behind s) b) first.given ∙ ap (λ x. xs ++ x) items_b in
    let values : values_in pps_form (xs ++ (ys ++ zs)) ≡ a = ap (values_in pps_form) (sym items_a) ∙ values_back follows_a in
    let none : kept_along (partition_at s) second.values ≡ [] = kept_none (each_weaker IsDividing (λ cell. cell.kept ≡ false) (partition_at s) (λ cell is. is.2) (each_division _ _ _)) second.follows in
    let kept_c : kept_along (sections_form after_slices s >>= last) c ≡ kept_along (sections_form after_slices s) third.values = kept_joined last [] third.follows ∙ append-nil (kept_along (sections_form after_slices s) third.values) in
    let kept_b : kept_along (partition_at s >>= next) b ≡ kept_along (sections_form after_slices s) third.values = kept_joined next c second.follows ∙ ap (λ x. x ++ kept_along (next end) c) none ∙ kept_c in
    ap (kept_along pps_form) values ∙ kept_joined behind b first.follows ∙ ap (λ x. kept_along (sections_form before_tiles fresh) first.values ++ x) kept_b
