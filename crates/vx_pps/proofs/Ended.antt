-- The slices at the end of a slice list: each holds a CTU, and there are no more than the picture has.
use Rattle.std.proofs.Common.{◌≡◌, ◌==◌, ℕ, ℤ, zero, suc, pos, ◌+◌, ◌-◌, ◌*◌, ◌/◌, ◌%◌, ◌<◌, ◌≤◌, eqb, ltb, Bool, true, false, cond, List, [], ◌∷◌, ◌++◌, length, Some, None, sym, ap, ◌∙◌, subst, inl, inr, arith, refl, length-append, replicate}
use Rattle.std.proofs.Math.Nat.{add-mul-mod_self_right, mul-le-mul_left, zero-mod}
use Rattle.std.proofs.lemmas.Bool.{and_parts, cases_Bool, cases_lt, eq-eqb, eqb-false, eqb-true, lt-ltb, ltb-false, ltb-true, or_parts}
use Rattle.std.proofs.lemmas.Option.{none-some}
use Rattle.std.proofs.lemmas.Nat.{div-add-mod', div-mul-add}
use Rattle.std.proofs.lemmas.List.Elements.{All-append, All-cons, All-head, All-nil, All-replicate, All-tail}
use Rattle.std.proofs.lemmas.List.{length-replicate}
use Rattle.std.specs.List.{All}
use Rattle.vx_fields.specs.declared.pps.TheConstants as pps
use Rattle.vx_layout.specs.declared.rect.Rect.{Rect}
use Rattle.vx_layout.specs.Bounds.{Rises, repeated_sizes}
use Rattle.vx_layout.specs.Shapes.{HasCtu}
use Rattle.vx_layout.proofs.Rising.{Rises-apart}
use Rattle.vx_table.specs.Forms.{done}
use Rattle.vx_table.specs.Scope.{natural}
use Rattle.vx_table.specs.Spelling.{fault_of}
use Rattle.vx_table.specs.Values.{Follows, to_end, through}
use Rattle.vx_table.proofs.Joined.{parted}
use Rattle.vx_pps.specs.declared.list.Listed.{Listed}
use Rattle.vx_pps.specs.declared.tiles.Tiles.{Tiles}
use Rattle.vx_pps.specs.Tiles.{IsGrid, across, block, column, down, row, tile, tile_behind}
use Rattle.vx_pps.specs.Groups.{spells_height, strips}
use Rattle.vx_pps.specs.Slices.{all_slices, below, goes_on, height_in_tiles, height_limits, list_from, may_be_cut, none_listed, golomb_form, slices_from_tile, slices_in_tile, spells_delta, strips_from, tile_after, turn, turns_from, width_in_tiles}
use Rattle.vx_pps.proofs.Blocks.{place_in_grid, row_inside}
use Rattle.vx_pps.proofs.Few.{strips_length}
use Rattle.vx_pps.proofs.Ranges.{below_bound, golomb_range, height_fits, height_suffices}

-- slices so far, of a picture of `last` + 1
pub record Stood (last : ℕ) (slices : List Rect) : Type 0 where
  pub each : All HasCtu slices
  pub few : length slices ≤ last + 1

one_more : (last : ℕ) (slices : List Rect) (r : Rect) → Stood last slices → length slices ≤ last → HasCtu r → Stood last (slices ++ r ∷ [])
one_more last slices r stood room some = record {
  each = All-append HasCtu slices (r ∷ []) stood.each (All-cons HasCtu r [] some (All-nil HasCtu));
  few = omega (arith, room, length-append slices (r ∷ []));
}

pub at_done : {A : Type 0} {a end : A} {w : List ℤ} → Follows (done a) w end → a ≡ end
at_done to_end = refl

-- ---- the slices of a tile

strips_some : (t : Rect) (y : ℕ) (heights : List ℕ) → 0 < t.w → All (λ h. 1 ≤ h) heights → All HasCtu (strips t y heights)
strips_some t y [] wide some = All-nil HasCtu
strips_some t y (h ∷ hs) wide some =
    All-cons HasCtu (record { x = t.x; y = y; w = t.w; h = h }) (strips t (y + h) hs) (wide, All-head (λ h. 1 ≤ h) h hs some) (strips_some t (y + h) hs wide (All-tail (λ h. 1 ≤ h) h hs some))

rest_some : (rest : ℕ) → All (λ h. 1 ≤ h) (cond (rest == 0) [] (rest ∷ []))
rest_some rest = elim (cases_Bool (rest == 0)) [
  | inl none ↦ rw none (All-nil (λ h. 1 ≤ h))
  | inr some ↦
      let more : 1 ≤ rest = elim (cases_lt 0 rest) [ inl fine ↦ omega (arith, fine) | inr low ↦ absurd (eqb-false _ _ some (omega (arith, low))) ] in
      rw some (All-cons (λ h. 1 ≤ h) rest [] more (All-nil (λ h. 1 ≤ h)))
]

pub repeated_some : (size left : ℕ) → 1 ≤ size → All (λ h. 1 ≤ h) (repeated_sizes size left)
repeated_some size left some = All-append (λ h. 1 ≤ h) (replicate (left / size) size) _ (All-replicate (λ h. 1 ≤ h) (left / size) size some) (rest_some (left % size))

rest_few : (rest : ℕ) → rest ≡ 0 → length (cond (rest == 0) [] (rest ∷ [])) ≤ 0
rest_few rest none = let is : (rest == 0) ≡ true = eq-eqb _ _ none in rw is (omega arith)

rest_one : (rest : ℕ) → length (cond (rest == 0) [] (rest ∷ [])) ≤ 1
rest_one rest = elim (cases_Bool (rest == 0)) [
  | inl none ↦ rw none (omega arith)
  | inr some ↦ rw some (omega arith)
]

-- sizes that cover what is left are as many at least as there are repeated ones
repeated_few : (size left room : ℕ) → 1 ≤ size → left ≤ room * size → length (repeated_sizes size left) ≤ room
repeated_few size left room some covers =
    let times : ℕ = left / size in
    let rest : ℕ = left % size in
    let all = div-add-mod' left size in
    let long = length-append (replicate times size) (cond (rest == 0) [] (rest ∷ [])) in
    let same = length-replicate times size in
    elim (cases_lt times room) [
      | inl less ↦ omega (arith, long, same, rest_one rest, less)
      | inr more ↦
          let up : size * room ≤ size * times = mul-le-mul_left size more in
          let none : rest ≡ 0 = omega (arith, up, all, covers) in
          let level : times ≤ room = elim (cases_lt room times) [
            | inr fine ↦ fine
            | inl past ↦ let up_more : size * (room + 1) ≤ size * times = mul-le-mul_left size (omega (arith, past)) in absurd (omega (arith, up_more, all, covers, some))
          ] in
          omega (arith, long, same, rest_few rest none, level)
    ]

-- what one of them leaves is covered by one less
one_less : (room left size : ℕ) → 1 ≤ room → left ≤ room * size → left - size ≤ (room - 1) * size
one_less room left size some covers =
    let one : room ≡ (room - 1) + 1 = omega (arith, some) in
    let product : ((room - 1) + 1) * size ≡ (room - 1) * size + size = omega arith in
    let all : left ≤ ((room - 1) + 1) * size = subst (λ n. left ≤ n * size) one covers in
    omega (arith, product, all)

strips_end : (t : Rect) (last more y size : ℕ) (slices : List Rect) {w : List ℤ} {all : List Rect} → Follows (strips_from t last more y size slices) w all → 0 < t.w → Stood last slices
    → (more ≡ 0 → (1 ≤ size) × (t.y + t.h - y ≤ (last + 1 - length slices) * size)) → length slices + more ≤ last + 1 → Stood last all
strips_end t last zero y size slices to_end wide stood covers room =
    let c = covers refl in
    let left : ℕ = t.y + t.h - y in
    let sizes : List ℕ = repeated_sizes size left in
    record {
      each = All-append HasCtu slices (strips t y sizes) stood.each (strips_some t y sizes wide (repeated_some size left c.0));
      few = omega (arith, length-append slices (strips t y sizes), strips_length t y sizes, repeated_few size left (last + 1 - length slices) c.0 c.1, stood.few);
    }
strips_end t last (suc more) y size slices (through {v} is rest) wide stood covers room =
    let left : ℕ = t.y + t.h - y in
    let space : ℕ = last + 1 - length slices in
    let h : ℕ = natural v + 1 in
    let range : fault_of (height_limits (more == 0) left space) (pos (natural v)) ≡ None = golomb_range (height_limits (more == 0) left space) v is.code is.range in
    let fits : h ≤ left = height_fits (more == 0) left space (natural v) range in
    let long : length (slices ++ strips t y (h ∷ [])) ≡ length slices + 1 = length-append slices (strips t y (h ∷ [])) in
    let cover : more ≡ 0 → (1 ≤ h) × (t.y + t.h - (y + h) ≤ (last + 1 - length (slices ++ strips t y (h ∷ []))) * h) = λ none.
    let is_last : (more == 0) ≡ true = eq-eqb _ _ none in
    let all_left : left ≤ space * h = height_suffices left space (natural v) (omega (arith, room)) (omega (arith, fits)) (rw is_last at range) in
    let less : left - h ≤ (space - 1) * h = one_less space left h (omega (arith, room)) all_left in
    let left_is : t.y + t.h - (y + h) ≡ left - h = omega arith in
    let space_is : last + 1 - length (slices ++ strips t y (h ∷ [])) ≡ space - 1 = omega (arith, long) in
    (omega arith, rw (left_is, space_is) less) in
    strips_end t last more (y + h) h (slices ++ strips t y (h ∷ [])) rest wide (one_more last slices (record { x = t.x; y = y; w = t.w; h = h }) stood (omega (arith, room)) (wide, omega arith)) cover (omega (arith, long, room))

tile_end : (t : Rect) (last : ℕ) (slices : List Rect) {w : List ℤ} {all : List Rect} → Follows (slices_in_tile t last slices) w all → HasCtu t → Stood last slices → length slices ≤ last → Stood last all
tile_end t last slices (through {v} is rest) some stood room =
    let n : ℕ = natural v in
    let less : n < last + 2 - length slices = below_bound (last + 2 - length slices) n (golomb_range (below (last + 2 - length slices)) v is.code is.range) in
    elim (cases_Bool (eqb n 0)) [
      | inl none ↦ subst (Stood last) (at_done (rw none at rest)) (one_more last slices t stood room some)
      | inr several ↦ strips_end t last n t.y 0 slices (rw several at rest) some.0 stood (λ z. absurd (eqb-false _ _ several z)) (omega (arith, less))
    ]

-- ---- slices of whole tiles

block_some : (g : Tiles) (t wide high : ℕ) → IsGrid g → Rises g.columns → Rises g.rows → 1 ≤ wide → 1 ≤ high → column g t + wide ≤ across g → row g t + high ≤ down g → HasCtu (block g t wide high)
block_some g t wide high grid rises_columns rises_rows some_wide some_high in_columns in_rows = (
  omega (arith, Rises-apart g.columns (column g t) (column g t + wide) rises_columns (omega (arith, some_wide)) (omega (arith, in_columns, grid.columns))),
  omega (arith, Rises-apart g.rows (row g t) (row g t + high) rises_rows (omega (arith, some_high)) (omega (arith, in_rows, grid.rows))),
)

pub column_inside : (g : Tiles) (t : ℕ) → IsGrid g → column g t < across g
column_inside g t grid = omega (arith, grid.columns)

-- the width and the height, less 1, stay in the picture
number_end : (of bound : ℕ) {w : List ℤ} {n : ℕ} → Follows (golomb_form of (below bound)) w n → n < bound
number_end of bound (through {v} is to_end) = below_bound bound (natural v) (golomb_range (below bound) v is.code is.range)

pub width_end : (g : Tiles) (t : ℕ) {w : List ℤ} {width : ℕ} → IsGrid g → Follows (width_in_tiles g t) w width → column g t + width < across g
width_end g t {w} {width} grid follows = elim (cases_Bool (eqb (column g t + 1) (across g))) [
  | inl end ↦ omega (arith, eqb-true _ _ end, at_done (rw end at follows))
  | inr more ↦ omega (arith, column_inside g t grid, number_end pps.pps_slice_width_in_tiles_minus1 (across g - column g t) (rw more at follows))
]

-- the height before can be taken over
abbrev pub Level : Tiles → Bool → ℕ → ℕ → Type 0
Level g deltas t before = spells_height g deltas t ≡ false → row g t + before < down g

pub height_end : (g : Tiles) (deltas : Bool) (t before : ℕ) {w : List ℤ} {height : ℕ} → t < across g * down g → Level g deltas t before → Follows (height_in_tiles g deltas t before) w height → row g t + height < down g
height_end g deltas t before inside level follows =
    let low : row g t < down g = row_inside g t inside in
    elim (cases_Bool (eqb (row g t + 1) (down g))) [
      | inl end ↦ omega (arith, eqb-true _ _ end, at_done (rw end at follows))
      | inr more ↦ elim (cases_Bool (spells_height g deltas t)) [
        | inl spelled ↦ omega (arith, low, number_end pps.pps_slice_height_in_tiles_minus1 (down g - row g t) (rw (more, spelled) at follows))
        | inr taken ↦ omega (arith, level taken, at_done (rw (more, taken) at follows))
      ]
    ]

slices_end : (g : Tiles) (last t width height : ℕ) (slices : List Rect) {w : List ℤ} {all : List Rect} → IsGrid g → Rises g.columns → Rises g.rows → column g t + width < across g → row g t + height < down g
    → Stood last slices → length slices ≤ last → Follows (slices_from_tile g last t width height slices) w all → Stood last all
slices_end g last t width height slices grid rises_columns rises_rows in_columns in_rows stood room follows =
    elim (cases_Bool (may_be_cut width height (tile g t))) [
      | inl cut ↦ tile_end (tile g t) last slices (rw cut at follows) (block_some g t 1 1 grid rises_columns rises_rows (omega arith) (omega arith) (omega (arith, in_columns)) (omega (arith, in_rows))) stood room
      | inr whole ↦ subst (Stood last) (at_done (rw whole at follows)) (one_more last slices (block g t (width + 1) (height + 1)) stood room
          (block_some g t (width + 1) (height + 1) grid rises_columns rises_rows (omega arith) (omega arith) (omega (arith, in_columns)) (omega (arith, in_rows))))
    ]

-- ---- turns

-- a list that was walked so far: its slices stand, and the height before can be taken over
pub record Listing (g : Tiles) (last : ℕ) (deltas : Bool) (at : Listed) : Type 0 where
  pub stood : Stood last at.slices
  pub level : Level g deltas at.next at.before

-- behind a slice that stays in the picture
behind_level : (g : Tiles) (deltas : Bool) (t width height : ℕ) → IsGrid g → column g t + width < across g → row g t + height < down g → Level g deltas (tile_behind g t width height) height
behind_level g deltas t width height grid in_columns in_rows beside =
    let beyond : ℕ = t + (width + 1) in
    let parts : row g t * across g + column g t ≡ t = div-add-mod' t (across g) in
    let other : column g (tile_behind g t width height) ≡ 0 → ⊥ = λ e. eqb-false _ _ (or_parts deltas (eqb (column g (tile_behind g t width height)) 0) beside).1 e in
    elim (cases_Bool (eqb (beyond % across g) 0)) [
      | inl under ↦
          let zero_column : (beyond + height * across g) % across g ≡ 0 = add-mul-mod_self_right beyond height (across g) ∙ eqb-true _ _ under in
          absurd (rw under at other zero_column)
      | inr here ↦
          let split : row g t * across g + (column g t + width + 1) ≡ beyond + 0 = omega (arith, parts) in
          let short : column g t + width + 1 < across g = elim (cases_lt (column g t + width + 1) (across g)) [
            | inl fine ↦ fine
            | inr full ↦
                let whole : 0 + (row g t + 1) * across g ≡ beyond = omega (arith, parts, full, in_columns) in
                let even : beyond % across g ≡ 0 = ap (λ n. n % across g) (sym whole) ∙ add-mul-mod_self_right 0 (row g t + 1) (across g) ∙ zero-mod (across g) in
                absurd (eqb-false _ _ here even)
          ] in
          let same : (beyond + 0) / across g ≡ row g t = ap (λ n. n / across g) (sym split) ∙ div-mul-add (row g t) (across g) (column g t + width + 1) short in
          rw here (omega (arith, same, in_rows))
    ]

after_level : (g : Tiles) (deltas : Bool) (slices : List Rect) (last t width height : ℕ) {w : List ℤ} {next : ℕ} → IsGrid g → column g t + width < across g → row g t + height < down g
    → Follows (tile_after g (spells_delta deltas slices last) t width height) w next → Level g deltas next height
after_level g true slices last t width height grid in_columns in_rows follows = λ e. absurd (grind (arith, e))
after_level g false slices last t width height grid in_columns in_rows follows = subst (λ n. Level g false n height) (at_done follows) (behind_level g false t width height grid in_columns in_rows)

pub turn_end : (g : Tiles) (last : ℕ) (deltas : Bool) (at : Listed) {w : List ℤ} {next : Listed} → IsGrid g → Rises g.columns → Rises g.rows → goes_on g last at ≡ true → Listing g last deltas at → Follows (turn g last deltas at) w next → Listing g last deltas next
turn_end g last deltas at {next} grid rises_columns rises_rows goes is follows =
    let more = and_parts (ltb (length at.slices) last) (ltb at.next (across g * down g)) goes in
    let one = parted (width_in_tiles g at.next) _ follows in
    let two = parted (height_in_tiles g deltas at.next at.before) _ one.second in
    let three = parted (slices_from_tile g last at.next one.mid two.mid at.slices) _ two.second in
    let four = parted (tile_after g (spells_delta deltas three.mid last) at.next one.mid two.mid) _ three.second in
    let in_columns = width_end g at.next grid one.first in
    let in_rows = height_end g deltas at.next at.before (ltb-true _ _ more.1) is.level two.first in
    subst (Listing g last deltas) (at_done four.second) (record {
      stood = slices_end g last at.next one.mid two.mid at.slices grid rises_columns rises_rows in_columns in_rows is.stood (omega (arith, ltb-true _ _ more.0)) three.first;
      level = after_level g deltas three.mid last at.next one.mid two.mid grid in_columns in_rows four.first;
    })

turns_end : (g : Tiles) (last : ℕ) (deltas : Bool) (more : ℕ) (at : Listed) {w : List ℤ} {end : Listed} → IsGrid g → Rises g.columns → Rises g.rows → Listing g last deltas at → Follows (turns_from g last deltas more at) w end → Listing g last deltas end
turns_end g last deltas zero at grid rises_columns rises_rows is to_end = is
turns_end g last deltas (suc more) at grid rises_columns rises_rows is follows = elim (cases_Bool (goes_on g last at)) [
  | inr over ↦ subst (Listing g last deltas) (at_done (rw over at follows)) is
  | inl goes ↦
      let one = parted (turn g last deltas at) (turns_from g last deltas more) (rw goes at follows) in
      turns_end g last deltas more one.mid grid rises_columns rises_rows (turn_end g last deltas at grid rises_columns rises_rows goes is one.first) one.second
]

-- ---- the list

first_inside : (g : Tiles) → IsGrid g → 0 < across g * down g
first_inside g grid =
    let low : 0 * across g + 0 < across g * down g = place_in_grid (across g) (down g) 0 0 (omega (arith, grid.columns)) (omega (arith, grid.rows)) in
    omega (arith, low)

pub none_listing : (g : Tiles) (last : ℕ) (deltas : Bool) → IsGrid g → Listing g last deltas none_listed
none_listing g last deltas grid = record {
  stood = record { each = All-nil HasCtu; few = omega arith };
  level = λ e. omega (arith, grid.rows, row_inside g 0 (first_inside g grid));
}

all_end : (g : Tiles) (last : ℕ) (deltas : Bool) (at : Listed) (all : List Rect) → IsGrid g → Rises g.columns → Rises g.rows → Listing g last deltas at → all_slices g last at ≡ Some all → (1 ≤ length all) × Stood last all
all_end g last deltas at all grid rises_columns rises_rows is e = elim (cases_Bool (ltb last (length at.slices))) [
  | inl full ↦ let whole : Some at.slices ≡ Some all = rw full at e in
      let same : at.slices ≡ all = cc in
      subst (λ s. (1 ≤ length s) × Stood last s) same (omega (arith, ltb-true _ _ full), is.stood)
  | inr room ↦ elim (cases_Bool (ltb at.next (across g * down g))) [
    | inr out ↦ absurd (none-some all (rw (room, out) at e))
    | inl inside ↦
        let t : ℕ = at.next in
        let in_row : row g t < down g = row_inside g t (ltb-true _ _ inside) in
        let in_column : column g t < across g = column_inside g t grid in
        let r : Rect = block g t (across g - column g t) (down g - row g t) in
        let some : HasCtu r = block_some g t (across g - column g t) (down g - row g t) grid rises_columns rises_rows (omega (arith, in_column)) (omega (arith, in_row)) (omega (arith, in_column)) (omega (arith, in_row)) in
        let whole : Some (at.slices ++ r ∷ []) ≡ Some all = rw (room, inside) at e in
        let same : at.slices ++ r ∷ [] ≡ all = cc in
        subst (λ s. (1 ≤ length s) × Stood last s) same (omega (arith, length-append at.slices (r ∷ [])), one_more last at.slices r is.stood (ltb-false _ _ room) some)
  ]
]

pub list_end : (g : Tiles) (last : ℕ) (deltas : Bool) {w : List ℤ} {all : List Rect} → IsGrid g → Rises g.columns → Rises g.rows → Follows (list_from g last deltas) w (Some all) → (1 ≤ length all) × Stood last all
list_end g last deltas {all} grid rises_columns rises_rows follows =
    let one = parted (turns_from g last deltas last none_listed) (λ at. done (all_slices g last at)) follows in
    all_end g last deltas one.mid all grid rises_columns rises_rows (turns_end g last deltas last none_listed grid rises_columns rises_rows (none_listing g last deltas grid) one.first) (at_done one.second)

-- one slice never leads out of the tiles
pub one_inside : (g : Tiles) (deltas : Bool) {w : List ℤ} → IsGrid g → Follows (list_from g 0 deltas) w None → ⊥
one_inside g deltas grid follows =
    let there : ltb 0 (across g * down g) ≡ true = lt-ltb _ _ (first_inside g grid) in
    let ended : all_slices g 0 none_listed ≡ None = at_done follows in
    let r : Rect = block g 0 (across g - column g 0) (down g - row g 0) in
    let leads : Some (r ∷ []) ≡ None = rw there at ended in
    absurd (none-some (r ∷ []) (sym leads))
