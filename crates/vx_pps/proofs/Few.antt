-- One or two slices can be listed without tile indices.
use Rattle.std.proofs.Common.{◌≡◌, ℕ, suc, ◌+◌, ◌-◌, ◌*◌, ◌%◌, ◌<◌, ◌≤◌, true, false, List, [], ◌∷◌, length, get_or, sym, ap, ◌∙◌, subst, inl, inr, arith, refl, length-append}
use Rattle.std.proofs.Math.Nat.{div-add-mod, div-eq_of_lt, mod-eq_of_lt, mod_self}
use Rattle.std.proofs.lemmas.Bool.{cases_lt, eq-eqb, ne_eqb, true≢false}
use Rattle.vx_layout.specs.declared.rect.Rect.{Rect}
use Rattle.vx_layout.specs.Bounds.{last}
use Rattle.vx_layout.specs.Layouts.{no_rect}
use Rattle.vx_layout.specs.Rects.{holds}
use Rattle.vx_layout.proofs.Corners.{first-begins, holder}
use Rattle.vx_layout.proofs.Holding.{holds_from, holds_tells}
use Rattle.vx_pps.specs.declared.tiles.Tiles.{Tiles}
use Rattle.vx_pps.specs.Tiles.{across, block, column, down, row, tile, tile_behind}
use Rattle.vx_pps.specs.Groups.{Ends, Follow, Group, IsList, Lies, GroupStands, cut, high_of, slices_of_group, slices_of_all, spells_height, first_tile_of, strips, whole}
use Rattle.vx_pps.specs.laws.Lists.{FewFallIntoGroups}
use Rattle.vx_pps.proofs.Blocks.{row_inside, same_index}
use Rattle.vx_pps.proofs.Grouping.{first_bound, last_index, lists_fall}
use Rattle.vx_pps.proofs.Runs.{corner_on, nth, ordered, part_of, same_slice}

-- of two slices the second holds what the first doesn't
in_second : (g : Tiles) (slices : List Rect) (x y : ℕ) → IsList g slices → length slices ≡ 2 → x < last g.columns → y < last g.rows → (holds (nth slices 0) x y ≡ true → ⊥) → holds (nth slices 1) x y ≡ true
in_second g slices x y l two in_w in_h not_first =
    let k = holder slices (last g.columns) (last g.rows) x y (ordered g slices l) in_w in_h in
    elim (cases_lt k.place 1) [
      | inl less ↦ let e : k.place ≡ 0 = omega arith in absurd (not_first (subst (λ j. holds (nth slices j) x y ≡ true) e (k.passes no_rect)))
      | inr more ↦ let e : k.place ≡ 1 = omega (arith, k.low) in subst (λ j. holds (nth slices j) x y ≡ true) e (k.passes no_rect)
    ]

-- the second stands beside the first, which is as high as the picture, or under it, which is then as wide
pub record Beside (g : Tiles) (r s : Rect) : Type 0 where
  pub high : r.h ≡ last g.rows
  pub left : s.x ≡ r.w
  pub top : s.y ≡ 0

pub record Under (g : Tiles) (r s : Rect) : Type 0 where
  pub wide : r.w ≡ last g.columns
  pub left : s.x ≡ 0
  pub top : s.y ≡ r.h

apart : (g : Tiles) (slices : List Rect) (x y : ℕ) → IsList g slices → length slices ≡ 2 → holds (nth slices 0) x y ≡ true → holds (nth slices 1) x y ≡ true → ⊥
apart g slices x y l two on off = let e = same_slice g slices 0 1 x y l (omega arith) (omega arith) on off in omega (arith, e)

two_beside : (g : Tiles) (slices : List Rect) → IsList g slices → length slices ≡ 2 → (nth slices 0).x ≡ 0 → (nth slices 0).y ≡ 0 → (nth slices 0).w < last g.columns → Beside g (nth slices 0) (nth slices 1)
two_beside g slices l two left top narrow =
    let r : Rect = nth slices 0 in
    let s : Rect = nth slices 1 in
    let p = part_of g slices 0 l (omega arith) in
    let q = part_of g slices 1 l (omega arith) in
    let a = holds_tells s r.w 0 (in_second g slices r.w 0 l two narrow (omega (arith, p.high, p.down)) (λ on. omega (arith, holds_tells r r.w 0 on, left))) in
    let high : last g.rows ≤ r.h = elim (cases_lt r.h (last g.rows)) [
      | inr fine ↦ fine
      | inl low ↦
          let b = holds_tells s 0 r.h (in_second g slices 0 r.h l two (omega (arith, narrow)) low (λ on. omega (arith, holds_tells r 0 r.h on, top))) in
          absurd (apart g slices 0 0 l two (holds_from r 0 0 (omega arith) (omega (arith, p.wide)) (omega arith) (omega (arith, p.high))) (holds_from s 0 0 (omega (arith, b)) (omega (arith, q.wide)) (omega (arith, a)) (omega (arith, q.high))))
    ] in
    let right : r.w ≤ s.x = elim (cases_lt s.x r.w) [
      | inr fine ↦ fine
      | inl less ↦ absurd (apart g slices s.x 0 l two (holds_from r s.x 0 (omega arith) (omega arith) (omega arith) (omega (arith, p.high))) (holds_from s s.x 0 (omega arith) (omega (arith, q.wide)) (omega (arith, a)) (omega (arith, q.high))))
    ] in
    record { high = omega (arith, high, p.down); left = omega (arith, right, a); top = omega (arith, a) }

two_under : (g : Tiles) (slices : List Rect) → IsList g slices → length slices ≡ 2 → (nth slices 0).x ≡ 0 → (nth slices 0).y ≡ 0 → last g.columns ≤ (nth slices 0).w → Under g (nth slices 0) (nth slices 1)
two_under g slices l two left top wide =
    let r : Rect = nth slices 0 in
    let s : Rect = nth slices 1 in
    let p = part_of g slices 0 l (omega arith) in
    let q = part_of g slices 1 l (omega arith) in
    let on_s = corner_on g slices 1 l (omega arith) in
    let below : r.h ≤ s.y = elim (cases_lt s.y r.h) [
      | inr fine ↦ fine
      | inl less ↦ absurd (apart g slices s.x s.y l two (holds_from r s.x s.y (omega arith) (omega (arith, q.across, q.wide)) (omega arith) (omega arith)) on_s)
    ] in
    let a = holds_tells s 0 r.h (in_second g slices 0 r.h l two (omega (arith, p.wide, p.across)) (omega (arith, below, q.high, q.down)) (λ on. omega (arith, holds_tells r 0 r.h on, top))) in
    record { wide = omega (arith, p.across); left = omega (arith, a); top = omega (arith, below, a) }

-- the height of a slice in the first column is spelled
spelled_first : (g : Tiles) (t before high : ℕ) → column g t ≡ 0 → spells_height g false t ≡ false → row g t + 1 < down g → before ≡ high - 1
spelled_first g t before high first e up = absurd (true≢false (sym (eq-eqb (column g t) 0 first) ∙ e))

-- where the second begins
behind_beside : (g : Tiles) (u wide high : ℕ) → 1 ≤ wide → wide < across g → u ≡ wide → u ≡ tile_behind g 0 (wide - 1) (high - 1)
behind_beside g u wide high some less e =
    let back : 0 + (wide - 1 + 1) ≡ wide = omega arith in
    rw (back, mod-eq_of_lt less, ne_eqb wide 0 (omega arith)) (omega arith)

behind_under : (g : Tiles) (u wide high : ℕ) → 1 ≤ wide → 1 ≤ high → wide ≡ across g → u ≡ across g * high → u ≡ tile_behind g 0 (wide - 1) (high - 1)
behind_under g u wide high some tall full e =
    let back : 0 + (wide - 1 + 1) ≡ across g = omega arith in
    let none : across g % across g ≡ 0 = mod_self (across g) in
    let up : high ≡ high - 1 + 1 = omega arith in
    rw (back, none) (e ∙ ap (λ k. across g * k) up ∙ omega arith)

-- two slices of whole tiles
two_follow : (g : Tiles) (slices : List Rect) (wide high u wider higher : ℕ) → IsList g slices → block g 0 wide high ∷ block g u wider higher ∷ [] ≡ slices → 0 < across g * down g → Lies g (whole 0 wide high) → u < across g * down g → Lies g (whole u wider higher) → Ends g (whole u wider higher)
    → Follow g false 0 (whole 0 wide high ∷ whole u wider higher ∷ [])
two_follow g slices wide high u wider higher l same inside lies inside_u lies_u ends =
    let two : length slices ≡ 2 = sym (ap length same) in
    let is_r : block g 0 wide high ≡ nth slices 0 = ap (λ ss. nth ss 0) same in
    let is_s : block g u wider higher ≡ nth slices 1 = ap (λ ss. nth ss 1) same in
    let begin = first-begins slices (last g.columns) (last g.rows) no_rect l.once l.order (omega arith) (part_of g slices 0 l (omega arith)) in
    let grid = l.grid in
    let in_column : column g u < across g = omega (arith, grid.columns) in
    let in_row : row g u < down g = row_inside g u inside_u in
    let zero_column : column g 0 ≡ 0 = mod-eq_of_lt (omega (arith, grid.columns)) in
    let zero_row : row g 0 ≡ 0 = div-eq_of_lt (omega (arith, grid.columns)) in
    let first : GroupStands g false 0 (whole 0 wide high) = record { inside = inside; lies = lies; height = spelled_first g 0 0 high zero_column } in
    let left : get_or g.columns (column g u) 0 ≡ (nth slices 1).x = ap (λ (r : Rect). r.x) is_s in
    let top : get_or g.rows (row g u) 0 ≡ (nth slices 1).y = ap (λ (r : Rect). r.y) is_s in
    let zero_left : get_or g.columns (column g 0) 0 ≡ 0 = ap (λ i. get_or g.columns i 0) zero_column ∙ first_bound g.columns l.columns in
    let zero_top : get_or g.rows (row g 0) 0 ≡ 0 = ap (λ i. get_or g.rows i 0) zero_row ∙ first_bound g.rows l.rows in
    let width : get_or g.columns (column g 0 + wide) 0 ≡ (nth slices 0).w = omega (arith, ap (λ (r : Rect). r.w) is_r, zero_left) in
    let height : get_or g.rows (row g 0 + high) 0 ≡ (nth slices 0).h = omega (arith, ap (λ (r : Rect). r.h) is_r, zero_top) in
    elim (cases_lt (nth slices 0).w (last g.columns)) [
      | inl narrow ↦
          let b = two_beside g slices l two begin.left begin.top narrow in
          let at_column : column g u ≡ column g 0 + wide = same_index g.columns (column g u) (column g 0 + wide) l.columns (omega arith) (omega (arith, lies.2, grid.columns)) (left ∙ b.left ∙ sym width) in
          let at_row : row g u ≡ 0 = same_index g.rows (row g u) 0 l.rows (omega arith) (omega (arith, grid.rows)) (top ∙ b.top ∙ sym (first_bound g.rows l.rows)) in
          let full : row g 0 + high ≡ length g.rows - 1 = last_index g.rows (row g 0 + high) l.rows (omega (arith, lies.3, grid.rows)) (height ∙ b.high) in
          let u_is : u ≡ wide = sym (div-add-mod u (across g)) ∙ ap (λ k. across g * k + column g u) at_row ∙ omega (arith, at_column, zero_column) in (
            first,
            λ _. behind_beside g u wide high lies.0 (omega (arith, at_column, zero_column, in_column)) u_is,
            (record { inside = inside_u; lies = lies_u; height = λ e up. omega (arith, full, zero_row, at_row, ends.1) }, ends),
          )
      | inr wide_enough ↦
          let b = two_under g slices l two begin.left begin.top wide_enough in
          let at_column : column g u ≡ 0 = same_index g.columns (column g u) 0 l.columns (omega arith) (omega (arith, grid.columns)) (left ∙ b.left ∙ sym (first_bound g.columns l.columns)) in
          let at_row : row g u ≡ row g 0 + high = same_index g.rows (row g u) (row g 0 + high) l.rows (omega arith) (omega (arith, lies.3, grid.rows)) (top ∙ b.top ∙ sym height) in
          let full : column g 0 + wide ≡ length g.columns - 1 = last_index g.columns (column g 0 + wide) l.columns (omega (arith, lies.2, grid.columns)) (width ∙ b.wide) in
          let row_is : row g u ≡ high = omega (arith, at_row, zero_row) in
          let u_is : u ≡ across g * high = sym (div-add-mod u (across g)) ∙ ap (λ k. across g * k + column g u) row_is ∙ omega (arith, at_column) in (
            first,
            λ _. behind_under g u wide high lies.0 lies.1 (omega (arith, full, zero_column)) u_is,
            (record { inside = inside_u; lies = lies_u; height = spelled_first g u (high - 1) higher at_column }, ends),
          )
    ]

pub strips_length : (t : Rect) (y : ℕ) (heights : List ℕ) → length (strips t y heights) ≡ length heights
strips_length t y [] = refl
strips_length t y (height ∷ heights) = ap suc (strips_length t (y + height) heights)

-- a group has a slice at least, and where it is cut two
pub group_some : (g : Tiles) (group : Group) → Lies g group → 1 ≤ length (slices_of_group g group)
group_some g (whole t wide high) lies = omega arith
group_some g (cut t heights) lies = omega (arith, strips_length (tile g t) (tile g t).y heights, lies.0)

rest_some : (g : Tiles) (before : ℕ) (group : Group) (groups : List Group) → Follow g true before (group ∷ groups) → 1 ≤ length (slices_of_group g group)
rest_some g before group [] follow = group_some g group follow.0.lies
rest_some g before group (next ∷ more) follow = group_some g group follow.0.lies

cut_several : (g : Tiles) (before t : ℕ) (heights : List ℕ) (groups : List Group) → Follow g true before (cut t heights ∷ groups) → 2 ≤ length heights
cut_several g before t heights [] follow = follow.0.lies.0
cut_several g before t heights (next ∷ more) follow = follow.0.lies.0

-- the first group stands without tile indices too
first_stands : (g : Tiles) (slices : List Rect) (group : Group) → IsList g slices → first_tile_of group ≡ 0 → GroupStands g true 0 group → GroupStands g false 0 group
first_stands g slices group l first s =
    let zero_column : column g (first_tile_of group) ≡ 0 = ap (column g) first ∙ mod-eq_of_lt (omega (arith, l.grid.columns)) in
    record { inside = s.inside; lies = s.lies; height = spelled_first g (first_tile_of group) 0 (high_of group) zero_column }

-- groups that can be listed with tile indices, where their slices are one or two
few_follow : (g : Tiles) (slices : List Rect) (group : Group) (groups : List Group) → IsList g slices → slices_of_all g (group ∷ groups) ≡ slices → length slices ≤ 2 → first_tile_of group ≡ 0 → Follow g true 0 (group ∷ groups) → Follow g false 0 (group ∷ groups)
few_follow g slices group [] l same few first follow = (first_stands g slices group l first follow.0, follow.1)
few_follow g slices (cut t heights) (next ∷ more) l same few first follow =
    absurd (omega (arith, ap length same, length-append (strips (tile g t) (tile g t).y heights) (slices_of_all g (next ∷ more)), strips_length (tile g t) (tile g t).y heights, follow.0.lies.0, length-append (slices_of_group g next) (slices_of_all g more), rest_some g 0 next more follow.2))
few_follow g slices (whole t wide high) (cut u heights ∷ more) l same few first follow =
    absurd (omega (arith, ap length same, length-append (strips (tile g u) (tile g u).y heights) (slices_of_all g more), strips_length (tile g u) (tile g u).y heights, cut_several g (high - 1) u heights more follow.2))
few_follow g slices (whole t wide high) (whole u wider higher ∷ []) l same few first follow =
    rw first (two_follow g slices wide high u wider higher l (subst (λ k. block g k wide high ∷ block g u wider higher ∷ [] ≡ slices) first same) (subst (λ k. k < across g * down g) first follow.0.inside) (subst (λ k. Lies g (whole k wide high)) first follow.0.lies) follow.2.0.inside follow.2.0.lies follow.2.1)
few_follow g slices (whole t wide high) (whole u wider higher ∷ (third ∷ more)) l same few first follow =
    absurd (omega (arith, ap length same, length-append (slices_of_group g third) (slices_of_all g more), rest_some g (higher - 1) third more follow.2.2))

pub few_fall : FewFallIntoGroups
few_fall g slices l some few =
    let all = lists_fall g slices l some in
    record { group = all.group; groups = all.groups; same = all.same; first = all.first; follow = few_follow g slices all.group all.groups l all.same few all.first all.follow }
