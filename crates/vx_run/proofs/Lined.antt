-- The lines of units that are read one behind another, as the units and the bytes go on.
use Rattle.std.proofs.Common.{◌≡◌, ℕ, ◌+◌, ◌-◌, ◌≤◌, List, [], ◌∷◌, ◌++◌, ◌∙◌, Some, None, Result, Ok, Err, Bool, true, false, cond, length, take, drop, slice_range, sym, ap, ap₂, refl, arith, length-append, append_assoc, append-nil, ⊎_elim}
use Rattle.std.proofs.lemmas.List.{drop-append-le, length-drop, take-append-le, map-append}
use Rattle.vx_bits.specs.declared.refusal.Refusal.{Refusal}
use Rattle.vx_annexb.specs.ByteStream.{UnitPlace, unit_bytes, IsUnit, FollowsFrom}
use Rattle.vx_pic.specs.Readings.{Reading, completed, pictures, current, picture_if_whole, Current, nothing, headed, going, is_slice, Picture, is_whole}
use Rattle.vx_pic.specs.Rules.{Readers, reads}
use Rattle.vx_pic.specs.Streams.{StreamReading, read_on, all_read, one_more, unless_refused}
use Rattle.vx_pic.specs.Bytes.{units_at}
use Rattle.vx_pic.proofs.Going.{goes_on}
use Rattle.vx_run.specs.Show.{Teller, shown_line, set_lines, picture_lines, told_lines, where_read, lines_behind}

-- ---- readings

abbrev head_of : Reading → List Reading → Reading
head_of other [] = other
head_of other (r ∷ before) = r

-- behind units that were read so, others are read
pub read_behind : (R : Readers) (us vs : List (List ℕ)) (before : List Reading) → read_on R [] us ≡ all_read before → read_on R [] (us ++ vs) ≡ read_on R before vs
read_behind R us vs before is =
    goes_on R [] us vs ∙ ap (λ (o : StreamReading). unless_refused o.refusal o.before (λ after. read_on R after vs)) is

-- a unit that is read, and all behind it
all_of : (x : Result Reading Refusal) (before after : List Reading) (f : List Reading → StreamReading) → one_more x before f ≡ all_read after → (r : Reading) × (x ≡ Ok r) × (f (r ∷ before) ≡ all_read after)
all_of (Ok r) before after f is = (r, refl, is)
all_of (Err e) before after f is = let no : Some e ≡ None = ap (λ (o : StreamReading). o.refusal) is in absurd (cc)

-- one more unit
pub read_one : (R : Readers) (before : List Reading) (r : Reading) (u : List ℕ) → read_on R before (u ∷ []) ≡ all_read (r ∷ before) → reads R before u ≡ Ok r
read_one R before r u is =
    let one = all_of (reads R before u) before (r ∷ before) (λ after. all_read after) is in
    let same : one.0 ≡ r = ap (λ (o : StreamReading). head_of r o.before) one.2 in
    one.1 ∙ ap (λ (x : Reading). let y : Result Reading Refusal = Ok x in y) same

-- as many readings as units
counts : (x : Result Reading Refusal) (before after : List Reading) (f : List Reading → StreamReading) (n : ℕ) → one_more x before f ≡ all_read after
    → ((b : List Reading) → f b ≡ all_read after → length after ≡ length b + n) → length after ≡ length before + (1 + n)
counts x before after f n is rest =
    let one = all_of x before after f is in
    omega (arith, rest (one.0 ∷ before) one.2)

pub read_length : (R : Readers) (before after : List Reading) (us : List (List ℕ)) → read_on R before us ≡ all_read after → length after ≡ length before + length us
read_length R before after [] is = omega (arith, ap (λ (o : StreamReading). length o.before) is)
read_length R before after (u ∷ us) is = omega (arith, counts (reads R before u) before after (λ b. read_on R b us) (length us) is (λ b same. read_length R b after us same))

units_length : (b : List ℕ) (us : List UnitPlace) → length (units_at b us) ≡ length us
units_length b [] = refl
units_length b (u ∷ us) = omega (arith, units_length b us)

-- of all units from the first on
pub all_length : (R : Readers) (b : List ℕ) (us : List UnitPlace) (before : List Reading) → read_on R [] (units_at b us) ≡ all_read before → length before ≡ length us
all_length R b us before is = omega (arith, read_length R [] before (units_at b us) is, units_length b us)

-- more units
pub units_more : (b : List ℕ) (us vs : List UnitPlace) → units_at b (us ++ vs) ≡ units_at b us ++ units_at b vs
units_more b us vs = map-append (unit_bytes b) us vs

-- ---- pictures

few_whole : (p : Picture) (w : Bool) → length (cond w (p ∷ []) []) ≤ 1
few_whole p true = omega arith
few_whole p false = omega arith

few_parts : (c : Current) → length (picture_if_whole c) ≤ 1
few_parts nothing = omega arith
few_parts (headed b) = omega arith
few_parts (going p) = few_whole p (is_whole p)

few_completed : (s : Bool) (c : Current) → length (cond s (picture_if_whole c) []) ≤ 1
few_completed true c = few_parts c
few_completed false c = omega arith

-- no more pictures than units
pub few_pictures : (before : List Reading) → length (pictures before) ≤ length before
few_pictures [] = omega arith
few_pictures (r ∷ before) =
    omega (arith, few_pictures before, few_completed (is_slice r) (current (r ∷ before)), length-append (completed r before) (pictures before))

-- ---- lines, as the units go on

more_lines : (x : Result Reading Refusal) (before after : List Reading) (f : List Reading → StreamReading) (line : Reading → List ℕ) (g h : List Reading → List ℕ) (rest told : List ℕ) → one_more x before f ≡ all_read after
    → ((b : List Reading) → f b ≡ all_read after → h b ≡ g b ++ rest) → where_read x (λ r. line r ++ h (r ∷ before)) told ≡ where_read x (λ r. line r ++ g (r ∷ before)) told ++ rest
more_lines (Ok r) before after f line g h rest told is more = ap (λ l. line r ++ l) (more (r ∷ before) is) ∙ sym (append_assoc (line r) (g (r ∷ before)) rest)
more_lines (Err e) before after f line g h rest told is more = let no : Some e ≡ None = ap (λ (o : StreamReading). o.refusal) is in absurd (cc)

-- the lines of units, and those of others behind them
pub lines_more : (R : Readers) (T : Teller) (b : List ℕ) (before after : List Reading) (us vs : List UnitPlace) → read_on R before (units_at b us) ≡ all_read after
    → lines_behind R T b before (us ++ vs) ≡ lines_behind R T b before us ++ lines_behind R T b after vs
lines_more R T b before after [] vs is = ap (λ (o : StreamReading). lines_behind R T b o.before vs) is
lines_more R T b before after (u ∷ us) vs is =
    more_lines (reads R before (unit_bytes b u)) before after (λ a. read_on R a (units_at b us)) (λ r. told_lines T b u r before)
    (λ a. lines_behind R T b a us) (λ a. lines_behind R T b a (us ++ vs)) (lines_behind R T b after vs) (T before (unit_bytes b u)) is
    (λ a same. lines_more R T b a after us vs same)

-- of one unit
pub lines_one : (R : Readers) (T : Teller) (b : List ℕ) (before : List Reading) (u : UnitPlace) (r : Reading) → reads R before (unit_bytes b u) ≡ Ok r → lines_behind R T b before (u ∷ []) ≡ told_lines T b u r before
lines_one R T b before u r is = ap (λ x. where_read x (λ r. told_lines T b u r before ++ []) (T before (unit_bytes b u))) is ∙ append-nil (told_lines T b u r before)

-- what is told of a unit that is refused, and nothing behind it
pub lines_refused : (R : Readers) (T : Teller) (b : List ℕ) (before : List Reading) (u : UnitPlace) (us : List UnitPlace) (e : Refusal) → reads R before (unit_bytes b u) ≡ Err e → lines_behind R T b before (u ∷ us) ≡ T before (unit_bytes b u)
lines_refused R T b before u us e is = ap (λ x. where_read x (λ r. told_lines T b u r before ++ lines_behind R T b (r ∷ before) us) (T before (unit_bytes b u))) is

-- ---- lines, as the bytes go on

same_lines : (x : Result Reading Refusal) (f g : Reading → List ℕ) (told : List ℕ) → ((r : Reading) → f r ≡ g r) → where_read x f told ≡ where_read x g told
same_lines (Ok r) f g told same = same r
same_lines (Err e) f g told same = refl

-- bytes inside a front
range_on : (b more : List ℕ) (s e : ℕ) → s ≤ e → e ≤ length b → slice_range (b ++ more) s e ≡ slice_range b s e
range_on b more s e order within =
    ap (take (e - s)) (drop-append-le s b more (omega arith)) ∙ take-append-le (e - s) (drop s b) more (omega (arith, length-drop s b))

-- a unit lies in the bytes
pub unit_within : (b : List ℕ) (all : Bool) (p : ℕ) (u : UnitPlace) → IsUnit b all p u → (u.start ≤ u.end) × (u.end ≤ length b) × (p ≤ u.start)
unit_within b all p u is = (is.ends.order, ⊎_elim (λ m. omega (arith, m.within)) (λ z. z.1.order) is.ends.here, omega (arith, is.starts.prefix))

same_bytes : (b more : List ℕ) (all : Bool) (p : ℕ) (u : UnitPlace) → IsUnit b all p u → unit_bytes (b ++ more) u ≡ unit_bytes b u
same_bytes b more all p u is = let at = unit_within b all p u is in range_on b more u.start u.end at.0 at.1

-- units keep their bytes
pub units_on : (b more : List ℕ) (all : Bool) (p : ℕ) (us : List UnitPlace) → FollowsFrom b all p us → units_at (b ++ more) us ≡ units_at b us
units_on b more all p [] f = refl
units_on b more all p (u ∷ us) f = ap₂ (λ (x : List ℕ) (xs : List (List ℕ)). x ∷ xs) (same_bytes b more all p u f.0) (units_on b more all u.end us f.2)

-- the lines of a unit of these bytes, and those of others
abbrev line_by : Readers → Teller → List Reading → ℕ → (List Reading → List ℕ) → List ℕ → List ℕ
line_by R T before start rest unit =
    where_read (reads R before unit) (λ r. ((shown_line unit start ++ (set_lines r ++ picture_lines r before)) ++ T before unit) ++ rest (r ∷ before)) (T before unit)

-- and their lines
pub lines_on : (R : Readers) (T : Teller) (b more : List ℕ) (all : Bool) (p : ℕ) (before : List Reading) (us : List UnitPlace) → FollowsFrom b all p us → lines_behind R T (b ++ more) before us ≡ lines_behind R T b before us
lines_on R T b more all p before [] f = refl
lines_on R T b more all p before (u ∷ us) f =
    ap (line_by R T before u.start (λ a. lines_behind R T (b ++ more) a us)) (same_bytes b more all p u f.0)
    ∙ same_lines (reads R before (unit_bytes b u)) (λ r. told_lines T b u r before ++ lines_behind R T (b ++ more) (r ∷ before) us) (λ r. told_lines T b u r before ++ lines_behind R T b (r ∷ before) us) (T before (unit_bytes b u))
    (λ r. ap (λ l. told_lines T b u r before ++ l) (lines_on R T b more all u.end (r ∷ before) us f.2))
