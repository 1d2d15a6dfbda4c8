-- How often a list changes, part by part.
use Rattle.std.proofs.Common.{◌≡◌, ◌≢◌, ℕ, suc, zero, ◌+◌, ◌-◌, ◌*◌, ◌≤◌, min, Bool, true, false, cond, not, ◌&&◌, eqb, List, [], ◌∷◌, ◌++◌, length, filter, map, refl, ap, sym, ◌∙◌, arith}
use Rattle.std.proofs.lemmas.Bool.{eq-eqb, ne_eqb, and_from, and_right, or_left, or_right, or_from, not_from_true, not_from_false}
use Rattle.std.proofs.lemmas.List.Sums.{sum_by-cons}
use Rattle.std.proofs.lemmas.List.{length-map}
use Rattle.std.proofs.Math.Nat.{mul-le-mul_left}
use Rattle.std.specs.List.{flat_map, sum_by, AllByRecursion as Each}
use Rattle.vx_layout.specs.Scan.{changes, changes_after, raster, starts_entry}

-- one more than the changes, and 0 for no element
abbrev pub parts : {X : Type 0} → (X → X → Bool) → List X → ℕ
parts d [] = 0
parts d (a ∷ bs) = suc (changes_after d a bs)

pub changes-parts : {X : Type 0} (d : X → X → Bool) (xs : List X) → changes d xs ≡ parts d xs - 1
changes-parts d [] = omega arith
changes-parts d (x ∷ xs) = omega arith

parts-append_after : {X : Type 0} (d : X → X → Bool) (P Q : X → Type 0) (a : X) (xs ys : List X) → ((p c : X) → P p → Q c → d p c ≡ true) → P a → Each P xs → Each Q ys → changes_after d a (xs ++ ys) ≡ changes_after d a xs + parts d ys
parts-append_after d P Q a [] [] apart pa ps qs = omega arith
parts-append_after d P Q a [] (y ∷ ys) apart pa ps qs = rw (apart a y pa qs.0) (omega arith)
parts-append_after d P Q a (x ∷ xs) ys apart pa ps qs =
    omega (arith, parts-append_after d P Q x xs ys apart ps.0 ps.1 qs)

-- parts that differ wherever they meet add up
pub parts-append : {X : Type 0} (d : X → X → Bool) (P Q : X → Type 0) (xs ys : List X) → ((p c : X) → P p → Q c → d p c ≡ true) → Each P xs → Each Q ys → parts d (xs ++ ys) ≡ parts d xs + parts d ys
parts-append d P Q [] ys apart ps qs = omega arith
parts-append d P Q (x ∷ xs) ys apart ps qs = omega (arith, parts-append_after d P Q x xs ys apart ps.0 ps.1 qs)

alike_after : {X : Type 0} (d : X → X → Bool) (P : X → Type 0) (a : X) (xs : List X) → ((p c : X) → P p → P c → d p c ≡ false) → P a → Each P xs → changes_after d a xs ≡ 0
alike_after d P a [] alike pa ps = refl
alike_after d P a (x ∷ xs) alike pa ps = rw (alike a x pa ps.0) (omega (arith, alike_after d P x xs alike ps.0 ps.1))

-- elements that are alike are one part
pub parts-alike : {X : Type 0} (d : X → X → Bool) (P : X → Type 0) (xs : List X) → ((p c : X) → P p → P c → d p c ≡ false) → Each P xs → parts d xs ≡ min 1 (length xs)
parts-alike d P [] alike ps = omega arith
parts-alike d P (x ∷ xs) alike ps = omega (arith, alike_after d P x xs alike ps.0 ps.1)

pub Each-append : {X : Type 0} (P : X → Type 0) (xs ys : List X) → Each P xs → Each P ys → Each P (xs ++ ys)
Each-append P [] ys ps qs = qs
Each-append P (x ∷ xs) ys ps qs = (ps.0, Each-append P xs ys ps.1 qs)

pub Each-weaker : {X : Type 0} (P Q : X → Type 0) → ((x : X) → P x → Q x) → (xs : List X) → Each P xs → Each Q xs
Each-weaker P Q f [] ps = tt
Each-weaker P Q f (x ∷ xs) ps = (f x ps.0, Each-weaker P Q f xs ps.1)

pub Each-filter : {X : Type 0} (P : X → Type 0) (t : X → Bool) (xs : List X) → Each P xs → Each P (filter t xs)
Each-filter P t [] ps = tt
Each-filter P t (x ∷ xs) ps =
    elim (t x) as (λ b. Each P (cond b (x ∷ filter t xs) (filter t xs))) [ true ↦ (ps.0, Each-filter P t xs ps.1) | false ↦ Each-filter P t xs ps.1 ]

-- what holds of columns and of rows holds of the CTUs in them
Each-row : (P : ℕ × ℕ → Type 0) (Q : ℕ → Type 0) (y : ℕ) (xs : List ℕ) → ((x : ℕ) → Q x → P (x, y)) → Each Q xs → Each P (map (λ x. (x, y)) xs)
Each-row P Q y [] f qs = tt
Each-row P Q y (x ∷ xs) f qs = (f x qs.0, Each-row P Q y xs f qs.1)

pub Each-raster : (P : ℕ × ℕ → Type 0) (Q R : ℕ → Type 0) (xs ys : List ℕ) → ((x y : ℕ) → Q x → R y → P (x, y)) → Each Q xs → Each R ys → Each P (raster xs ys)
Each-raster P Q R xs [] f qs rs = tt
Each-raster P Q R xs (y ∷ ys) f qs rs =
    Each-append P (map (λ x. (x, y)) xs) (raster xs ys) (Each-row P Q y xs (λ x q. f x y q rs.0) qs) (Each-raster P Q R xs ys f qs rs.1)

-- what holds of each element of each list holds of each of the lists joined
pub Each-flat_map : {X Y : Type 0} (P : Y → Type 0) (Q : X → Type 0) (f : X → List Y) (xs : List X) → ((x : X) → Q x → Each P (f x)) → Each Q xs → Each P (flat_map f xs)
Each-flat_map P Q f [] g qs = tt
Each-flat_map P Q f (x ∷ xs) g qs = Each-append P (f x) (flat_map f xs) (g x qs.0) (Each-flat_map P Q f xs g qs.1)

pub Each-any : {X : Type 0} (xs : List X) → Each (λ _. Unit {0}) xs
Each-any [] = tt
Each-any (x ∷ xs) = (tt, Each-any xs)

-- each list has a key that no later list has
abbrev pub Keyed : (ℕ → ℕ) → List (List ℕ) → Type 0
Keyed key [] = Unit {0}
Keyed key (r ∷ rs) = ((n : ℕ) × Each (λ x. key x ≡ n) r × Each (λ s. Each (λ z. key z ≢ n) s) rs) × Keyed key rs

-- no number comes twice
abbrev pub Distinct : List ℕ → Type 0
Distinct [] = Unit {0}
Distinct (x ∷ xs) = Each (λ z. z ≢ x) xs × Distinct xs

-- when a CTU starts an entry
starts_column : (column row : ℕ → ℕ) (sync : Bool) (p c : ℕ × ℕ) → column c.0 ≢ column p.0 → starts_entry column row sync p c ≡ true
starts_column column row sync p c ne = or_left _ _ (not_from_false _ (ne_eqb _ _ (λ e. ne (sym e))))

starts_row : (column row : ℕ → ℕ) (sync : Bool) (p c : ℕ × ℕ) → row c.1 ≢ row p.1 → starts_entry column row sync p c ≡ true
starts_row column row sync p c ne = or_right _ _ (or_left _ _ (not_from_false _ (ne_eqb _ _ (λ e. ne (sym e)))))

starts_line : (column row : ℕ → ℕ) (p c : ℕ × ℕ) → c.1 ≢ p.1 → starts_entry column row true p c ≡ true
starts_line column row p c ne = or_right _ _ (or_right _ _ (and_from _ _ refl (not_from_false _ (ne_eqb _ _ (λ e. ne (sym e))))))

starts_none : (column row : ℕ → ℕ) (sync : Bool) (p c : ℕ × ℕ) → column p.0 ≡ column c.0 → row p.1 ≡ row c.1 → (sync && not (eqb p.1 c.1)) ≡ false → starts_entry column row sync p c ≡ false
starts_none column row sync p c e f g = or_from _ _ (not_from_true _ (eq-eqb _ _ e)) (or_from _ _ (not_from_true _ (eq-eqb _ _ f)) g)

length-row : (y : ℕ) (xs : List ℕ) → length {A = ℕ × ℕ} (map (λ x. (x, y)) xs) ≡ length xs
length-row y xs = length-map xs (λ x. (x, y))

-- the parts of one tile's CTUs: one, or with sync one for each row
unfoldable pub rows_of : Bool → List ℕ → ℕ
rows_of true ys = length ys
rows_of false ys = min 1 (length ys)

parts-row : (column row : ℕ → ℕ) (sync : Bool) (n y : ℕ) (xs : List ℕ) → Each (λ x. column x ≡ n) xs → parts (starts_entry column row sync) (map (λ x. (x, y)) xs) ≡ min 1 (length xs)
parts-row column row sync n y xs keyed =
    let P : ℕ × ℕ → Type 0 = λ c. (column c.0 ≡ n) × (c.1 ≡ y) in
    parts-alike (starts_entry column row sync) P (map (λ x. (x, y)) xs)
    (λ p c hp hc. starts_none column row sync p c (hp.0 ∙ sym hc.0) (ap row (hp.1 ∙ sym hc.1)) (and_right _ _ (not_from_true _ (eq-eqb _ _ (hp.1 ∙ sym hc.1)))))
    (Each-row P (λ x. column x ≡ n) y xs (λ x e. (e, refl)) keyed)
    ∙ ap (λ m. min 1 m) (length-row y xs)

parts-lines : (column row : ℕ → ℕ) (n : ℕ) (xs ys : List ℕ) → Each (λ x. column x ≡ n) xs → Distinct ys → parts (starts_entry column row true) (raster xs ys) ≡ min 1 (length xs) * length ys
parts-lines column row n xs [] keyed distinct = omega arith
parts-lines column row n xs (y ∷ ys) keyed distinct =
    let d = starts_entry column row true in
    let P : ℕ × ℕ → Type 0 = λ c. c.1 ≡ y in
    let Q : ℕ × ℕ → Type 0 = λ c. c.1 ≢ y in
    let split : parts d (raster xs (y ∷ ys)) ≡ parts d (map (λ x. (x, y)) xs) + parts d (raster xs ys) =
    parts-append d P Q (map (λ x. (x, y)) xs) (raster xs ys)
    (λ p c hp hc. starts_line column row p c (λ e. hc (e ∙ hp)))
    (Each-row P (λ _. Unit {0}) y xs (λ x _. refl) (Each-any xs))
    (Each-raster Q (λ _. Unit {0}) (λ z. z ≢ y) xs ys (λ x z _ ne. ne) (Each-any xs) distinct.0)
    in
    split ∙ (omega (arith, parts-row column row true n y xs keyed, parts-lines column row n xs ys keyed distinct.1))

length-raster : (xs ys : List ℕ) → length (raster xs ys) ≡ length xs * length ys
length-raster xs [] = omega arith
length-raster xs (y ∷ ys) = Rattle.std.proofs.Common.length-append (map (λ x. (x, y)) xs) (raster xs ys) ∙ omega (arith, length-row y xs, length-raster xs ys)

-- at most one of a product
min_product : (m n : ℕ) → min 1 (m * n) ≡ min 1 m * min 1 n
min_product zero n = omega arith
min_product (suc m) zero = omega arith
min_product (suc m) (suc n) =
    let some : suc m * 1 ≤ suc m * suc n = mul-le-mul_left (suc m) (omega arith) in
    let a : min 1 (suc m) ≡ 1 = omega arith in
    let b : min 1 (suc n) ≡ 1 = omega arith in
    rw (a, b) (omega arith)

pub parts-tile : (column row : ℕ → ℕ) (sync : Bool) (n m : ℕ) (xs ys : List ℕ) → Each (λ x. column x ≡ n) xs → Each (λ y. row y ≡ m) ys → Distinct ys → parts (starts_entry column row sync) (raster xs ys) ≡ min 1 (length xs) * rows_of sync ys
unfolding rows_of
parts-tile column row true n m xs ys kx ky distinct = parts-lines column row n xs ys kx distinct
parts-tile column row false n m xs ys kx ky distinct =
    let P : ℕ × ℕ → Type 0 = λ c. (column c.0 ≡ n) × (row c.1 ≡ m) in
    parts-alike (starts_entry column row false) P (raster xs ys) (λ p c hp hc. starts_none column row false p c (hp.0 ∙ sym hc.0) (hp.1 ∙ sym hc.1) refl)
    (Each-raster P (λ x. column x ≡ n) (λ y. row y ≡ m) xs ys (λ x y e f. (e, f)) kx ky)
    ∙ (ap (λ k. min 1 k) (length-raster xs ys) ∙ min_product (length xs) (length ys))

add_times : (a b c : ℕ) → (a + b) * c ≡ a * c + b * c
add_times a b c = omega arith

times_add : (a b c : ℕ) → a * (b + c) ≡ a * b + a * c
times_add a b c = omega arith

-- a tile row, tile by tile
pub parts-columns : (column row : ℕ → ℕ) (sync : Bool) (m : ℕ) (XS : List (List ℕ)) (ys : List ℕ) → Keyed column XS → Each (λ y. row y ≡ m) ys → Distinct ys → parts (starts_entry column row sync) (flat_map (λ xs. raster xs ys) XS) ≡ sum_by (λ xs. min 1 (length xs)) XS * rows_of sync ys
parts-columns column row sync m [] ys keyed ky distinct = omega arith
parts-columns column row sync m (xs ∷ XS) ys keyed ky distinct =
    let d = starts_entry column row sync in
    let n : ℕ = keyed.0.0 in
    let P : ℕ × ℕ → Type 0 = λ c. column c.0 ≡ n in
    let Q : ℕ × ℕ → Type 0 = λ c. column c.0 ≢ n in
    let split : parts d (flat_map (λ xs. raster xs ys) (xs ∷ XS)) ≡ parts d (raster xs ys) + parts d (flat_map (λ xs. raster xs ys) XS) =
    parts-append d P Q (raster xs ys) (flat_map (λ xs. raster xs ys) XS)
    (λ p c hp hc. starts_column column row sync p c (λ e. hc (e ∙ hp)))
    (Each-raster P (λ x. column x ≡ n) (λ _. Unit {0}) xs ys (λ x y e _. e) keyed.0.1 (Each-any ys))
    (Each-flat_map Q (λ s. Each (λ z. column z ≢ n) s) (λ s. raster s ys) XS (λ s each. Each-raster Q (λ z. column z ≢ n) (λ _. Unit {0}) s ys (λ x y ne _. ne) each (Each-any ys)) keyed.0.2)
    in
    let rest = parts-columns column row sync m XS ys keyed.1 ky distinct in
    let more : sum_by (λ xs. min 1 (length xs)) (xs ∷ XS) * rows_of sync ys ≡ min 1 (length xs) * rows_of sync ys + sum_by (λ xs. min 1 (length xs)) XS * rows_of sync ys =
    ap (λ t. t * rows_of sync ys) (sum_by-cons (λ xs. min 1 (length xs)) xs XS) ∙ add_times (min 1 (length xs)) (sum_by (λ xs. min 1 (length xs)) XS) (rows_of sync ys)
    in
    split ∙ (omega (arith, parts-tile column row sync n m xs ys keyed.0.1 ky distinct, rest, more))

-- the picture, tile row by tile row
pub parts-rows : (column row : ℕ → ℕ) (sync : Bool) (XS YS : List (List ℕ)) → Keyed column XS → Keyed row YS → Each Distinct YS → parts (starts_entry column row sync) (flat_map (λ ys. flat_map (λ xs. raster xs ys) XS) YS) ≡ sum_by (λ xs. min 1 (length xs)) XS * sum_by (rows_of sync) YS
parts-rows column row sync XS [] kx ky distinct = omega arith
parts-rows column row sync XS (ys ∷ YS) kx ky distinct =
    let d = starts_entry column row sync in
    let m : ℕ = ky.0.0 in
    let tiles : List ℕ → List (ℕ × ℕ) = λ ys. flat_map (λ xs. raster xs ys) XS in
    let P : ℕ × ℕ → Type 0 = λ c. row c.1 ≡ m in
    let Q : ℕ × ℕ → Type 0 = λ c. row c.1 ≢ m in
    let split : parts d (flat_map tiles (ys ∷ YS)) ≡ parts d (tiles ys) + parts d (flat_map tiles YS) =
    parts-append d P Q (tiles ys) (flat_map tiles YS)
    (λ p c hp hc. starts_row column row sync p c (λ e. hc (e ∙ hp)))
    (Each-flat_map P (λ _. Unit {0}) (λ xs. raster xs ys) XS (λ xs _. Each-raster P (λ _. Unit {0}) (λ y. row y ≡ m) xs ys (λ x y _ e. e) (Each-any xs) ky.0.1) (Each-any XS))
    (Each-flat_map Q (λ s. Each (λ z. row z ≢ m) s) tiles YS
    (λ s each. Each-flat_map Q (λ _. Unit {0}) (λ xs. raster xs s) XS (λ xs _. Each-raster Q (λ _. Unit {0}) (λ z. row z ≢ m) xs s (λ x y _ ne. ne) (Each-any xs) each) (Each-any XS)) ky.0.2)
    in
    let first = parts-columns column row sync m XS ys kx ky.0.1 distinct.0 in
    let rest = parts-rows column row sync XS YS kx ky.1 distinct.1 in
    let wide : ℕ = sum_by (λ xs. min 1 (length xs)) XS in
    let more : wide * sum_by (rows_of sync) (ys ∷ YS) ≡ wide * rows_of sync ys + wide * sum_by (rows_of sync) YS =
    ap (λ t. wide * t) (sum_by-cons (rows_of sync) ys YS) ∙ times_add wide (rows_of sync ys) (sum_by (rows_of sync) YS)
    in
    split ∙ (omega (arith, first, rest, more))
