-- What is written of groups of slices gives them: one lemma for each part of the list's form.
use Rattle.std.proofs.Common.{◌≡◌, ℕ, pos, ◌+◌, ◌-◌, ◌*◌, ◌^◌, ◌<◌, ◌≤◌, eqb, leb, ltb, Bool, true, false, List, [], ◌∷◌, ◌++◌, length, sum, None, sym, ap, ◌∙◌, subst, inl, inr, arith, refl, append_assoc, length-append}
use Rattle.std.proofs.lemmas.Bool.{cases_Bool, cases_lt, eqb-true, eqb-false, le-leb, lt-ltb}
use Rattle.std.proofs.lemmas.List.{append-nil}
use Rattle.vx_bits.specs.declared.list.Item.{Item}
use Rattle.vx_table.specs.declared.rows.Limits.{Limits}
use Rattle.vx_table.specs.Forms.{Form, done, ◌>>=◌, has_value}
use Rattle.vx_table.specs.Scope.{natural}
use Rattle.vx_table.specs.Spelling.{HasCode, fault_of, item_of, items_along}
use Rattle.vx_table.specs.Values.{Follows, to_end, through}
use Rattle.vx_table.proofs.Joined.{items_joined, joined}
use Rattle.std.proofs.Math.Nat.{mul-le-mul_left}
use Rattle.std.proofs.lemmas.Grind.{div_ceil_times}
use Rattle.std.proofs.lemmas.List.Elements.{All-head, All-tail}
use Rattle.std.proofs.lemmas.List.Sums.{sum_by-cons}
use Rattle.std.specs.Int.{div_ceil}
use Rattle.std.specs.List.{All}
use Rattle.vx_fields.specs.declared.pps.TheConstants as pps
use Rattle.vx_layout.specs.declared.rect.Rect.{Rect}
use Rattle.vx_layout.specs.Bounds.{last, last_after, repeated_sizes, sizes_between}
use Rattle.vx_layout.proofs.ReadBack.{bounds_of-sizes, length-sizes_between, sizes_between-some, sum-sizes_between}
use Rattle.vx_pps.specs.declared.tiles.Tiles.{Tiles}
use Rattle.vx_pps.specs.Tiles.{IsGrid, across, column, down, row}
use Rattle.vx_pps.specs.Groups.{spells_height, strips}
use Rattle.vx_pps.specs.laws.Lists.{BoundsAreReadBack}
use Rattle.vx_pps.specs.Slices.{below, height_in_tiles, height_limits, golomb_form, tile_size_form, sizes_from, strip_height, strips_from, width_in_tiles}
use Rattle.vx_pps.specs.Written.{Gives, height_items, only_item, tile_size_items, strip_items, width_items}

pub gives_done : {A : Type 0} (a : A) → Gives (done a) [] a
gives_done a = record { values = []; follows = to_end; given = refl }

pub gives_then : {A B : Type 0} {form : Form A} (next : A → Form B) {xs ys : List Item} {a : A} {b : B} → Gives form xs a → Gives (next a) ys b → Gives (form >>= next) (xs ++ ys) b
gives_then next {xs} {ys} {a} f g = record {
  values = f.values ++ g.values;
  follows = joined next f.follows g.follows;
  given = items_joined next g.values f.follows ∙ (ap (λ t. t ++ items_along (next a) g.values) f.given ∙ ap (λ t. xs ++ t) g.given);
}

pub gives_end : {A B : Type 0} {form : Form A} (end : A → B) {xs : List Item} {a : A} → Gives form xs a → Gives (form >>= λ v. done (end v)) xs (end a)
gives_end {A} {B} {form} end {xs} {a} f = subst (λ t. Gives (form >>= λ v. done (end v)) t (end a)) (append-nil xs) (gives_then (λ v. done (end v)) f (gives_done (end a)))

pub natural_is : (n : ℕ) → n < 2 ^ 32 → natural (pos n) ≡ n
unfolding natural
natural_is n short = omega arith

pub below_allows : (n bound : ℕ) → n < bound → fault_of (below bound) (pos n) ≡ None
unfolding fault_of
below_allows n bound less =
    let from_zero : leb 0 n ≡ true = le-leb 0 n (omega arith) in
    let upto : ltb n bound ≡ true = lt-ltb n bound less in
    rw (from_zero, upto) refl

pub gives_number : (of n : ℕ) (limits : Limits ℕ) → n + 1 < 2 ^ 32 → fault_of limits (pos n) ≡ None → Gives (golomb_form of limits) (only_item of (pos n)) n
unfolding HasCode item_of has_value
gives_number of n limits short range = record {
  values = pos n ∷ [];
  follows = subst (λ m. Follows (golomb_form of limits) (pos n ∷ []) m) (natural_is n (omega arith)) (through (record { code = short; range = range }) to_end);
  given = refl;
}

-- ---- tile sizes

pub gives_size : (of left size : ℕ) → 1 ≤ size → size ≤ left → left < 2 ^ 20 → Gives (tile_size_form of left) (only_item of (pos (size - 1))) size
gives_size of left size some fits low =
    let back : size - 1 + 1 ≡ size = omega arith in
    subst (λ end. Gives (tile_size_form of left) (only_item of (pos (size - 1))) end) back
    (gives_end (λ (v : ℕ). v + 1) (gives_number of (size - 1) (below left) (omega arith) (below_allows (size - 1) left (omega arith))))

pub gives_sizes : (of left : ℕ) (sizes taken : List ℕ) → All (λ s. 1 ≤ s) sizes → sum sizes ≤ left → left < 2 ^ 20 → Gives (sizes_from of (length sizes) left taken) (tile_size_items of sizes) (taken ++ sizes)
gives_sizes of left [] taken some fits low = subst (λ end. Gives (done taken) [] end) (sym (append-nil taken)) (gives_done taken)
gives_sizes of left (size ∷ sizes) taken some fits low =
    let first : 1 ≤ size = All-head (λ s. 1 ≤ s) size sizes some in
    let whole : sum (size ∷ sizes) ≡ size + sum sizes = sum_by-cons (λ n. n) size sizes in
    let rest = gives_sizes of (left - size) sizes (taken ++ size ∷ []) (All-tail (λ s. 1 ≤ s) size sizes some) (omega arith) (omega arith) in
    subst (λ end. Gives (sizes_from of (length (size ∷ sizes)) left taken) (tile_size_items of (size ∷ sizes)) end) (append_assoc taken (size ∷ []) sizes)
    (gives_then (λ s. sizes_from of (length sizes) (left - s) (taken ++ s ∷ [])) (gives_size of left size first (omega arith) low) rest)

pub bounds_read : BoundsAreReadBack
bounds_read of bounds rises several low =
    let sizes : List ℕ = sizes_between bounds in
    let all = gives_sizes of (last bounds) sizes [] (sizes_between-some bounds rises) (omega (arith, sum-sizes_between bounds rises)) low in
    (subst (λ n. Gives (sizes_from of n (last bounds) []) (tile_size_items of sizes) sizes) (length-sizes_between bounds) all, bounds_of-sizes bounds rises several)

-- ---- a slice's tiles across and down

pub gives_width : (g : Tiles) (t wide : ℕ) → IsGrid g → 1 ≤ wide → column g t + wide ≤ across g → Gives (width_in_tiles g t) (width_items g t wide) (wide - 1)
gives_width g t wide grid some inside =
    elim (cases_Bool (eqb (column g t + 1) (across g))) [
      | inl end ↦
          let e : column g t + 1 ≡ across g = eqb-true _ _ end in
          let zero_ : 0 ≡ wide - 1 = omega arith in
          rw end (subst (λ v. Gives (done 0) [] v) zero_ (gives_done 0))
      | inr more ↦ rw more (gives_number pps.pps_slice_width_in_tiles_minus1 (wide - 1) (below (across g - column g t)) (omega (arith, grid.columns)) (below_allows (wide - 1) (across g - column g t) (omega arith)))
    ]

pub gives_height : (g : Tiles) (deltas : Bool) (t before high : ℕ) → IsGrid g → 1 ≤ high → row g t + high ≤ down g → (spells_height g deltas t ≡ false → row g t + 1 < down g → before ≡ high - 1)
    → Gives (height_in_tiles g deltas t before) (height_items g deltas t high) (high - 1)
gives_height g deltas t before high grid some inside same =
    elim (cases_Bool (eqb (row g t + 1) (down g))) [
      | inl end ↦
          let e : row g t + 1 ≡ down g = eqb-true _ _ end in
          let zero_ : 0 ≡ high - 1 = omega arith in
          rw end (subst (λ v. Gives (done 0) [] v) zero_ (gives_done 0))
      | inr more ↦
          let ne : row g t + 1 ≡ down g → ⊥ = eqb-false _ _ more in
          rw more
          (elim (cases_Bool (spells_height g deltas t)) [
            | inl spelled ↦ rw spelled (gives_number pps.pps_slice_height_in_tiles_minus1 (high - 1) (below (down g - row g t)) (omega (arith, grid.rows)) (below_allows (high - 1) (down g - row g t) (omega arith)))
            | inr taken ↦ rw taken (subst (λ v. Gives (done before) [] v) (same taken (omega arith)) (gives_done before))
          ])
    ]

-- ---- heights of slices of a tile

-- the quotient, rounded up, of what so many of a size cover
ceil_upto : (left room size : ℕ) → 1 ≤ room → left ≤ room * size → div_ceil left room ≤ size
ceil_upto left room size some covers =
    let both = div_ceil_times left room (omega arith) in
    elim (cases_lt size (div_ceil left room)) [
      | inr fine ↦ fine
      | inl more ↦
          let up = mul-le-mul_left room more in
          absurd (omega (arith, up, both.1, covers))
    ]

pub height_allows : (is_last : Bool) (left room high : ℕ) → 1 ≤ high → high ≤ left → 1 ≤ room → (is_last ≡ true → left ≤ room * high) → fault_of (height_limits is_last left room) (pos (high - 1)) ≡ None
unfolding fault_of
height_allows false left room high some fits has covers = below_allows (high - 1) left (omega arith)
height_allows true left room high some fits has covers =
    let left_some : leb 1 left ≡ true = le-leb 1 left (omega arith) in
    let ceil = ceil_upto left room high has (covers refl) in
    let from : leb (div_ceil left room - 1) (high - 1) ≡ true = le-leb _ _ (omega (arith, ceil)) in
    let upto : leb (high - 1) (left - 1) ≡ true = le-leb _ _ (omega arith) in
    rw left_some (rw (from, upto) refl)

pub gives_strip : (t : Rect) (last more y high : ℕ) (slices : List Rect) → 1 ≤ high → high ≤ t.y + t.h - y → 1 ≤ last + 1 - length slices → (more ≡ 0 → t.y + t.h - y ≤ (last + 1 - length slices) * high) → t.y + t.h < 2 ^ 21
    → Gives (strip_height t last more y slices) (only_item pps.pps_exp_slice_height_in_ctus_minus1 (pos (high - 1))) high
gives_strip t last more y high slices some fits room covers low =
    let back : high - 1 + 1 ≡ high = omega arith in
    subst (λ end. Gives (strip_height t last more y slices) (only_item pps.pps_exp_slice_height_in_ctus_minus1 (pos (high - 1))) end) back
    (gives_end (λ (v : ℕ). v + 1) (gives_number pps.pps_exp_slice_height_in_ctus_minus1 (high - 1) (height_limits (eqb more 0) (t.y + t.h - y) (last + 1 - length slices)) (omega arith)
    (height_allows (eqb more 0) (t.y + t.h - y) (last + 1 - length slices) high some fits room (λ is. covers (eqb-true _ _ is)))))

-- heights that can be spelled where so many CTU rows and slices are left
abbrev pub FitHeights : List ℕ → ℕ → ℕ → Type 0
FitHeights [] left room = Unit {0}
FitHeights (e ∷ es) left room = (1 ≤ e) × (e ≤ left) × (1 ≤ room) × (es ≡ [] → left ≤ room * e) × FitHeights es (left - e) (room - 1)

none_left : (heights : List ℕ) → length heights ≡ 0 → heights ≡ []
none_left [] e = refl
none_left (high ∷ heights) e = absurd (omega arith)

pub gives_strips : (t : Rect) (last : ℕ) (heights : List ℕ) (y size : ℕ) (slices : List Rect) → t.y + t.h < 2 ^ 21 → FitHeights heights (t.y + t.h - y) (last + 1 - length slices)
    → Gives (strips_from t last (length heights) y size slices) (strip_items heights) (slices ++ strips t y (heights ++ repeated_sizes (last_after size heights) (t.y + t.h - y - sum heights)))
gives_strips t last [] y size slices low fit =
    let none : t.y + t.h - y - sum [] ≡ t.y + t.h - y = omega arith in
    subst (λ left. Gives (strips_from t last 0 y size slices) [] (slices ++ strips t y (repeated_sizes size left))) (sym none) (gives_done (slices ++ strips t y (repeated_sizes size (t.y + t.h - y))))
gives_strips t last (high ∷ heights) y size slices low fit =
    let more : List Rect = slices ++ strips t y (high ∷ []) in
    let whole : sum (high ∷ heights) ≡ high + sum heights = sum_by-cons (λ n. n) high heights in
    let left : t.y + t.h - y - high ≡ t.y + t.h - (y + high) = omega arith in
    let room : last + 1 - length slices - 1 ≡ last + 1 - length more = omega (arith, length-append slices (strips t y (high ∷ []))) in
    let fit_rest : FitHeights heights (t.y + t.h - (y + high)) (last + 1 - length more) = subst (λ n. FitHeights heights n (last + 1 - length more)) left (subst (λ n. FitHeights heights (t.y + t.h - y - high) n) room fit.4) in
    let rest = gives_strips t last heights (y + high) high more low fit_rest in
    let covers : length heights ≡ 0 → t.y + t.h - y ≤ (last + 1 - length slices) * high = λ e. fit.3 (none_left heights e) in
    let first = gives_strip t last (length heights) y high slices fit.0 fit.1 fit.2 covers low in
    let after : t.y + t.h - (y + high) - sum heights ≡ t.y + t.h - y - sum (high ∷ heights) = omega arith in
    let tail : List ℕ = heights ++ repeated_sizes (last_after high heights) (t.y + t.h - y - sum (high ∷ heights)) in
    subst (λ end. Gives (strips_from t last (length (high ∷ heights)) y size slices) (strip_items (high ∷ heights)) end)
    (ap (λ n. more ++ strips t (y + high) (heights ++ repeated_sizes (last_after high heights) n)) after ∙ append_assoc slices (strips t y (high ∷ [])) (strips t (y + high) tail))
    (gives_then (λ h. strips_from t last (length heights) (y + h) h (slices ++ strips t y (h ∷ []))) first rest)
