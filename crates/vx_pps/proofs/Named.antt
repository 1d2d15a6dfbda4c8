-- The slices at the end of a slice list are those of groups, one group behind another.
use Rattle.std.proofs.Common.{◌≡◌, ◌==◌, ℕ, ℤ, zero, suc, ◌+◌, ◌-◌, ◌*◌, ◌/◌, ◌%◌, ◌<◌, ◌≤◌, ◌&&◌, eqb, ltb, Bool, true, cond, List, [], ◌∷◌, ◌++◌, length, replicate, sum, Some, sym, ap, ◌∙◌, subst, inl, inr, arith, refl, append_assoc}
use Rattle.std.proofs.lemmas.Bool.{and_parts, cases_Bool, eqb-false, eqb-true, ltb-true}
use Rattle.std.proofs.lemmas.List.{append-nil}
use Rattle.std.proofs.lemmas.List.Elements.{All-append, All-cons, All-nil}
use Rattle.std.proofs.lemmas.List.Sums.{sum_by-append, sum_by-cons}
use Rattle.std.proofs.lemmas.Nat.{div-add-mod'}
use Rattle.std.proofs.lemmas.Option.{none-some}
use Rattle.std.specs.List.{All}
use Rattle.vx_layout.specs.declared.rect.Rect.{Rect}
use Rattle.vx_layout.specs.Bounds.{Rises, repeated_sizes}
use Rattle.vx_table.specs.Forms.{done}
use Rattle.vx_table.specs.Scope.{natural}
use Rattle.vx_table.specs.Values.{Follows, to_end, through}
use Rattle.vx_table.proofs.Joined.{parted}
use Rattle.vx_pps.specs.declared.list.Listed.{Listed}
use Rattle.vx_pps.specs.declared.tiles.Tiles.{Tiles}
use Rattle.vx_pps.specs.Tiles.{IsGrid, across, column, down, row, tile}
use Rattle.vx_pps.specs.Groups.{Group, cut, slices_of_group, slices_of_all, strips, whole}
use Rattle.vx_pps.specs.Slices.{all_slices, goes_on, height_in_tiles, height_limits, list_from, may_be_cut, none_listed, slices_from_tile, slices_in_tile, spells_delta, strips_from, tile_after, turn, turns_from, width_in_tiles}
use Rattle.vx_pps.specs.inner.Found.{AreGroups, LiesInside}
use Rattle.vx_pps.proofs.Blocks.{row_inside}
use Rattle.vx_pps.proofs.Ended.{Listing, at_done, column_inside, height_end, none_listing, repeated_some, turn_end, width_end}
use Rattle.vx_pps.proofs.Ranges.{golomb_range, height_fits}
use Rattle.vx_pps.proofs.Turning.{sum-same}

-- groups whose slices they are
pub record Named (g : Tiles) (slices : List Rect) : Type 0 where
  pub groups : List Group
  pub are : AreGroups g groups slices

slices-append : (g : Tiles) (xs ys : List Group) → slices_of_all g (xs ++ ys) ≡ slices_of_all g xs ++ slices_of_all g ys
slices-append g [] ys = refl
slices-append g (x ∷ xs) ys = ap (λ rs. slices_of_group g x ++ rs) (slices-append g xs ys) ∙ sym (append_assoc (slices_of_group g x) (slices_of_all g xs) (slices_of_all g ys))

one_more : (g : Tiles) (slices : List Rect) (group : Group) → Named g slices → LiesInside g group → Named g (slices ++ slices_of_group g group)
one_more g slices group named inside = record {
  groups = named.groups ++ group ∷ [];
  are = record {
    same = slices-append g named.groups (group ∷ []) ∙ ap (λ rs. rs ++ slices_of_all g (group ∷ [])) named.are.same ∙ ap (λ rs. slices ++ rs) (append-nil (slices_of_group g group));
    inside = All-append (LiesInside g) named.groups (group ∷ []) named.are.inside (All-cons (LiesInside g) group [] inside (All-nil (LiesInside g)));
  };
}

-- ---- the slices of a tile

sum-rest : (rest : ℕ) → sum (cond (rest == 0) [] (rest ∷ [])) ≡ rest
sum-rest rest = elim (cases_Bool (rest == 0)) [
  | inl none ↦ rw none (sym (eqb-true _ _ none))
  | inr some ↦ rw some (omega (arith, sum_by-cons (λ n. n) rest []))
]

sum-repeated : (size left : ℕ) → sum (repeated_sizes size left) ≡ left
sum-repeated size left =
    let parts = sum_by-append (λ n. n) (replicate (left / size) size) (cond (left % size == 0) [] (left % size ∷ [])) in
    omega (arith, parts, sum-same (left / size) size, sum-rest (left % size), div-add-mod' left size)

-- strips of a tile from CTU row y on, down to its end
record Strips (t : Rect) (y : ℕ) (slices all : List Rect) : Type 0 where
  pub heights : List ℕ
  pub same : slices ++ strips t y heights ≡ all
  pub each : All (λ h. 1 ≤ h) heights
  pub whole : y + sum heights ≡ t.y + t.h

strips_named : (t : Rect) (last more y size : ℕ) (slices : List Rect) {w : List ℤ} {all : List Rect} → Follows (strips_from t last more y size slices) w all → y ≤ t.y + t.h → (more ≡ 0 → 1 ≤ size) → Strips t y slices all
strips_named t last zero y size slices to_end down some =
    let left : ℕ = t.y + t.h - y in
    record { heights = repeated_sizes size left; same = refl; each = repeated_some size left (some refl); whole = omega (arith, sum-repeated size left, down) }
strips_named t last (suc more) y size slices (through {v} is rest) down some =
    let left : ℕ = t.y + t.h - y in
    let space : ℕ = last + 1 - length slices in
    let h : ℕ = natural v + 1 in
    let fits : h ≤ left = height_fits (more == 0) left space (natural v) (golomb_range (height_limits (more == 0) left space) v is.code is.range) in
    let behind = strips_named t last more (y + h) h (slices ++ strips t y (h ∷ [])) rest (omega (arith, fits, down)) (λ _. omega arith) in
    record {
      heights = h ∷ behind.heights;
      same = sym (append_assoc slices (strips t y (h ∷ [])) (strips t (y + h) behind.heights)) ∙ behind.same;
      each = All-cons (λ h. 1 ≤ h) h behind.heights (omega arith) behind.each;
      whole = omega (arith, sum_by-cons (λ n. n) h behind.heights, behind.whole);
    }

-- where it is one strip, it is the tile
cut_named : (g : Tiles) (t : ℕ) (heights : List ℕ) (slices all : List Rect) → LiesInside g (whole t 1 1) → 0 < (tile g t).h → All (λ h. 1 ≤ h) heights → sum heights ≡ (tile g t).h → slices ++ strips (tile g t) (tile g t).y heights ≡ all → Named g slices → Named g all
cut_named g t [] slices all inside high each sums same named = absurd (omega (arith, high, sums))
cut_named g t (h ∷ []) slices all inside high each sums same named =
    let u : Rect = tile g t in
    let level : u.h ≡ h = omega (arith, sums, sum_by-cons (λ n. n) h []) in
    subst (Named g) (ap (λ n. slices ++ record { x = u.x; y = u.y; w = u.w; h = n } ∷ []) level ∙ same) (one_more g slices (whole t 1 1) named inside)
cut_named g t (h ∷ k ∷ more) slices all inside high each sums same named =
    subst (Named g) same (one_more g slices (cut t (h ∷ k ∷ more)) named (record { inside = inside.inside; lies = (omega arith, each, sums) }))

tile_named : (g : Tiles) (t last : ℕ) (slices : List Rect) {w : List ℤ} {all : List Rect} → Follows (slices_in_tile (tile g t) last slices) w all → LiesInside g (whole t 1 1) → 0 < (tile g t).h → Named g slices → Named g all
tile_named g t last slices {w} {all} (through {v} is rest) inside high named = elim (cases_Bool (eqb (natural v) 0)) [
  | inl none ↦ subst (Named g) (at_done (rw none at rest)) (one_more g slices (whole t 1 1) named inside)
  | inr several ↦
      let u : Rect = tile g t in
      let c = strips_named u last (natural v) u.y 0 slices (rw several at rest) (omega arith) (λ z. absurd (eqb-false _ _ several z)) in
      cut_named g t c.heights slices all inside high c.each (omega (arith, c.whole)) c.same named
]

slices_named : (g : Tiles) (last t width height : ℕ) (slices : List Rect) {w : List ℤ} {all : List Rect} → t < across g * down g → column g t + width < across g → row g t + height < down g → Named g slices → Follows (slices_from_tile g last t width height slices) w all → Named g all
slices_named g last t width height slices inside in_columns in_rows named follows = elim (cases_Bool (may_be_cut width height (tile g t))) [
  | inl one ↦
      let high : 1 < (tile g t).h = ltb-true 1 (tile g t).h (and_parts (eqb width 0 && eqb height 0) (ltb 1 (tile g t).h) one).1 in
      tile_named g t last slices (rw one at follows) (record { inside = inside; lies = (omega arith, omega arith, omega (arith, in_columns), omega (arith, in_rows)) }) (omega (arith, high)) named
  | inr whole_tiles ↦ subst (Named g) (at_done (rw whole_tiles at follows)) (one_more g slices (whole t (width + 1) (height + 1)) named
      (record { inside = inside; lies = (omega arith, omega arith, omega (arith, in_columns), omega (arith, in_rows)) }))
]

-- ---- the list

turn_named : (g : Tiles) (last : ℕ) (deltas : Bool) (at : Listed) {w : List ℤ} {next : Listed} → IsGrid g → goes_on g last at ≡ true → Listing g last deltas at → Named g at.slices → Follows (turn g last deltas at) w next → Named g next.slices
turn_named g last deltas at grid goes is named follows =
    let inside = ltb-true _ _ (and_parts (ltb (length at.slices) last) (ltb at.next (across g * down g)) goes).1 in
    let one = parted (width_in_tiles g at.next) _ follows in
    let two = parted (height_in_tiles g deltas at.next at.before) _ one.second in
    let three = parted (slices_from_tile g last at.next one.mid two.mid at.slices) _ two.second in
    let four = parted (tile_after g (spells_delta deltas three.mid last) at.next one.mid two.mid) _ three.second in
    let in_columns = width_end g at.next grid one.first in
    let in_rows = height_end g deltas at.next at.before inside is.level two.first in
    subst (λ (n : Listed). Named g n.slices) (at_done four.second) (slices_named g last at.next one.mid two.mid at.slices inside in_columns in_rows named three.first)

turns_named : (g : Tiles) (last : ℕ) (deltas : Bool) (more : ℕ) (at : Listed) {w : List ℤ} {end : Listed} → IsGrid g → Rises g.columns → Rises g.rows → Listing g last deltas at → Named g at.slices → Follows (turns_from g last deltas more at) w end → Named g end.slices
turns_named g last deltas zero at grid rises_columns rises_rows is named to_end = named
turns_named g last deltas (suc more) at grid rises_columns rises_rows is named follows = elim (cases_Bool (goes_on g last at)) [
  | inr over ↦ subst (λ (n : Listed). Named g n.slices) (at_done (rw over at follows)) named
  | inl goes ↦
      let one = parted (turn g last deltas at) (turns_from g last deltas more) (rw goes at follows) in
      turns_named g last deltas more one.mid grid rises_columns rises_rows (turn_end g last deltas at grid rises_columns rises_rows goes is one.first) (turn_named g last deltas at grid goes is named one.first) one.second
]

all_named : (g : Tiles) (last : ℕ) (at : Listed) (all : List Rect) → IsGrid g → Named g at.slices → all_slices g last at ≡ Some all → Named g all
all_named g last at all grid named e = elim (cases_Bool (ltb last (length at.slices))) [
  | inl full ↦
      let whole_list : Some at.slices ≡ Some all = rw full at e in
      let same : at.slices ≡ all = cc in
      subst (Named g) same named
  | inr room ↦ elim (cases_Bool (ltb at.next (across g * down g))) [
    | inr out ↦ absurd (none-some all (rw (room, out) at e))
    | inl inside ↦
        let t : ℕ = at.next in
        let low = ltb-true _ _ inside in
        let in_row : row g t < down g = row_inside g t low in
        let in_column : column g t < across g = column_inside g t grid in
        let group : Group = whole t (across g - column g t) (down g - row g t) in
        let whole_list : Some (at.slices ++ slices_of_group g group) ≡ Some all = rw (room, inside) at e in
        let same : at.slices ++ slices_of_group g group ≡ all = cc in
        subst (Named g) same (one_more g at.slices group named (record { inside = low; lies = (omega (arith, in_column), omega (arith, in_row), omega (arith, in_column), omega (arith, in_row)) }))
  ]
]

none_named : (g : Tiles) → Named g []
none_named g = record { groups = []; are = record { same = refl; inside = All-nil (LiesInside g) } }

pub list_named : (g : Tiles) (last : ℕ) (deltas : Bool) {w : List ℤ} {all : List Rect} → IsGrid g → Rises g.columns → Rises g.rows → Follows (list_from g last deltas) w (Some all) → Named g all
list_named g last deltas {all} grid rises_columns rises_rows follows =
    let one = parted (turns_from g last deltas last none_listed) (λ at. done (all_slices g last at)) follows in
    all_named g last one.mid all grid (turns_named g last deltas last none_listed grid rises_columns rises_rows (none_listing g last deltas grid) (none_named g) one.first) (at_done one.second)
