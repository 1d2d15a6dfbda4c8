-- Words `X,Y=FILE`: what they spell, and that they spell one thing.
use Rattle.std.proofs.Common.{◌≡◌, ◌≢◌, ℕ, zero, suc, ◌+◌, ◌-◌, ◌<◌, ◌≤◌, ◌^◌, List, [], ◌∷◌, ◌++◌, ◌∙◌, Option, Some, None, Bool, true, false, length, get_or, take, drop, map, codes, decimal, eqb, inl, inr, sym, ap, ap₂, refl, subst, arith, append_assoc, add-one, length-append, slice_get}
use Rattle.std.specs.Prelude.{◌↔◌, All, IsTrue, is_some, MatchOption, String, option_map, string_bytes}
use denote.Ref.{Bor}
use Rattle.std.specs.List.{AllByRecursion, position_or_len, before_first, after_first}
use Rattle.std.specs.Str.Parse.{digits_value}
use Rattle.std.proofs.Math.ListN.{get_or-append}
use Rattle.std.proofs.Math.Seq.{get_or-append_right, get_or-append_seam, take-append_seam, drop-append-add}
use borrow.Author.Tests.{eqb-true}
use Rattle.std.proofs.lemmas.Bool.{cases_lt, eqb-false, ne_eqb}
use Rattle.std.proofs.lemmas.Str.Parse.{digit_at}
use Rattle.std.proofs.lemmas.Str.Pattern.{IsSplitOnceResult, split_after, split_parts}
use Rattle.std.proofs.lemmas.Option.{MatchOption-at_some, MatchOption-at_none, same_Some, slice_get-map}
use Rattle.std.proofs.lemmas.Fmt.{decimal_is_IsNumeral}
use Rattle.std.proofs.lemmas.List.Elements.{All-nil, All-cons, All-head, All-tail}
use Rattle.std.proofs.lemmas.List.Sums.{position_or_len_is}
use Rattle.vx_run.specs.Grammar.{Placing, placing_word, IsPlacing, check_merge, verify, AskFor, texts}
use Rattle.vx_run.specs.inner.Placings.{is_comma, is_equals, placing_in, Spells, IsPlacingWord, PlaceFiles, SpellsItsParts}

-- ---- the first byte of a kind

-- a list doesn't have it
abbrev pub HasNone : ℕ → List ℕ → Type 0
HasNone c xs = (i : ℕ) → i < length xs → get_or xs i 0 ≢ c

none_cons : (c b : ℕ) (ys : List ℕ) → b ≢ c → HasNone c ys → HasNone c (b ∷ ys)
none_cons c b ys other none zero within is = other is
none_cons c b ys other none (suc i) within is = none i (omega arith) is

none_append : (c : ℕ) (xs ys : List ℕ) → HasNone c xs → HasNone c ys → HasNone c (xs ++ ys)
none_append c xs ys p q i within is = elim (cases_lt i (length xs)) [
  | inl low ↦ p i low (sym (get_or-append xs ys 0 i low) ∙ is)
  | inr high ↦ q (i - length xs) (omega (arith, length-append xs ys)) (sym (get_or-append_right xs ys i 0 high) ∙ is)
]

first_place : (c : ℕ) (xs ys : List ℕ) → HasNone c xs → position_or_len (λ b. eqb b c) (xs ++ (c ∷ ys)) ≡ length xs
first_place c xs ys none =
    let p : ℕ → Bool = λ b. eqb b c in
    position_or_len_is p (xs ++ (c ∷ ys)) (length xs) 0 (omega (arith, length-append xs (c ∷ ys)))
    (λ k within. ap p (get_or-append xs (c ∷ ys) 0 k within) ∙ ne_eqb (get_or xs k 0) c (none k within))
    (λ within. ap p (get_or-append_seam xs c ys 0) ∙ grind arith)

-- what stands before it and behind it
pub first_parts : (c : ℕ) (xs ys : List ℕ) → HasNone c xs → (before_first (λ b. eqb b c) (xs ++ (c ∷ ys)) ≡ xs) × (after_first (λ b. eqb b c) (xs ++ (c ∷ ys)) ≡ ys)
first_parts c xs ys none =
    let at = first_place c xs ys none in (
      ap (λ (i : ℕ). take i (xs ++ (c ∷ ys))) at ∙ take-append_seam xs (c ∷ ys),
      ap (λ (i : ℕ). drop (i + 1) (xs ++ (c ∷ ys))) at ∙ drop-append-add xs (c ∷ ys) 1,
    )

-- ---- a word

digits_only : (n i : ℕ) → n < 2 ^ 64 → i < length (decimal n) → (48 ≤ get_or (decimal n) i 0) × (get_or (decimal n) i 0 ≤ 57)
digits_only n i small within = digit_at (decimal n) i (decimal_is_IsNumeral n small).0.1 within

pub no_comma : (n : ℕ) → n < 2 ^ 64 → HasNone 44 (decimal n)
no_comma n small i within is = let r = digits_only n i small within in omega (arith, r.0, is)

pub no_equals : (n : ℕ) → n < 2 ^ 64 → HasNone 61 (decimal n)
no_equals n small i within is = let r = digits_only n i small within in omega (arith, r.1, is)

-- what stands before its `=`
abbrev pub corner_word : Placing → List ℕ
corner_word p = decimal p.x ++ (44 ∷ decimal p.y)

pub word_parts : (p : Placing) → placing_word p ≡ corner_word p ++ (61 ∷ p.file)
word_parts p = sym (append_assoc (decimal p.x) (44 ∷ decimal p.y) (61 ∷ p.file))

pub corner_no_equals : (p : Placing) → IsPlacing p → HasNone 61 (corner_word p)
corner_no_equals p named =
    let small : (p.x < 2 ^ 64) × (p.y < 2 ^ 64) = (omega (arith, named.0), omega (arith, named.1)) in
    let other : 44 ≢ 61 = λ is. omega (arith, is) in
    none_append 61 (decimal p.x) (44 ∷ decimal p.y) (no_equals p.x small.0) (none_cons 61 44 (decimal p.y) other (no_equals p.y small.1))

same_placing : (p q : Placing) → p.x ≡ q.x → p.y ≡ q.y → p.file ≡ q.file → p ≡ q
same_placing p q x y file =
    ap (λ (n : ℕ). let r : Placing = record { x = n; y = p.y; file = p.file } in r) x
    ∙ ap (λ (n : ℕ). let r : Placing = record { x = q.x; y = n; file = p.file } in r) y
    ∙ ap (λ (l : List ℕ). let r : Placing = record { x = q.x; y = q.y; file = l } in r) file

-- it is read as what it spells
placing_read : (p : Placing) → IsPlacing p → placing_in (placing_word p) ≡ p
placing_read p named =
    let parts = first_parts 61 (corner_word p) p.file (corner_no_equals p named) in
    let corner : before_first is_equals (placing_word p) ≡ corner_word p = ap (before_first is_equals) (word_parts p) ∙ parts.0 in
    let numbers = first_parts 44 (decimal p.x) (decimal p.y) (no_comma p.x (omega (arith, named.0))) in
    same_placing (placing_in (placing_word p)) p
    (ap (λ (w : List ℕ). digits_value 10 (before_first is_comma w)) corner ∙ ap (digits_value 10) numbers.0 ∙ (decimal_is_IsNumeral p.x (omega (arith, named.0))).1)
    (ap (λ (w : List ℕ). digits_value 10 (after_first is_comma w)) corner ∙ ap (digits_value 10) numbers.1 ∙ (decimal_is_IsNumeral p.y (omega (arith, named.1))).1)
    (ap (after_first is_equals) (word_parts p) ∙ parts.1)

pub reads_one : (word : List ℕ) (p : Placing) → Spells word p → placing_in word ≡ p
reads_one word p spells = ap placing_in spells.spelled ∙ placing_read p spells.named

-- ---- a word that is cut in parts

pub no_bytes : (xs : List ℕ) → eqb (length xs) 0 ≡ true → xs ≡ []
no_bytes [] is = refl
no_bytes (x ∷ xs) is = absurd (omega (arith, eqb-true (length (x ∷ xs)) 0 is))

pub some_bytes : (xs : List ℕ) → eqb (length xs) 0 ≡ false → xs ≡ [] → ⊥
some_bytes xs is empty = eqb-false (length xs) 0 is (ap (λ (l : List ℕ). length l) empty)

abbrev pub Parts : Type 0
Parts = Option (Bor (List ℕ) × Bor (List ℕ))

-- those of what it spells
pub parts_of_word : (word : List ℕ) (r : Parts) → IsSplitOnceResult 61 word r → (p : Placing) → Spells word p → MatchOption r ⊥ (λ x. (x.0.now ≡ corner_word p) × (x.1.now ≡ p.file))
parts_of_word word r splits p spells = split_after 61 word (corner_word p) p.file r splits (omega arith) (spells.spelled ∙ word_parts p) (corner_no_equals p spells.named)

pub parts_of_corner : (corner : List ℕ) (r : Parts) → IsSplitOnceResult 44 corner r → (p : Placing) → IsPlacing p → corner ≡ corner_word p → MatchOption r ⊥ (λ x. (x.0.now ≡ decimal p.x) × (x.1.now ≡ decimal p.y))
parts_of_corner corner r splits p named is = split_after 44 corner (decimal p.x) (decimal p.y) r splits (omega arith) is (no_comma p.x (omega (arith, named.0)))

-- where it has none it spells none
pub lacks_equals : (word : List ℕ) (r : Parts) → IsSplitOnceResult 61 word r → r ≡ None → IsPlacingWord word → ⊥
lacks_equals word r splits none (p, spells) = MatchOption-at_none _ _ none (parts_of_word word r splits p spells)

module _ (word : List ℕ) (r : Parts) (corner file : Bor (List ℕ)) (splits : IsSplitOnceResult 61 word r) (was : r ≡ Some (corner, file)) where
  its : (p : Placing) → Spells word p → (corner.now ≡ corner_word p) × (file.now ≡ p.file)
  its p spells = MatchOption-at_some _ _ _ was (parts_of_word word r splits p spells)

  pub lacks_file : file.now ≡ [] → IsPlacingWord word → ⊥
  lacks_file empty (p, spells) = spells.named.2 (sym (its p spells).1 ∙ empty)

  module _ (s : Parts) (cuts : IsSplitOnceResult 44 corner.now s) where
    pub lacks_comma : s ≡ None → IsPlacingWord word → ⊥
    lacks_comma none (p, spells) = MatchOption-at_none _ _ none (parts_of_corner corner.now s cuts p spells.named (its p spells).0)

    module _ (x y : Bor (List ℕ)) (were : s ≡ Some (x, y)) where
      numbers_of : (p : Placing) → Spells word p → (x.now ≡ decimal p.x) × (y.now ≡ decimal p.y)
      numbers_of p spells = MatchOption-at_some _ _ _ were (parts_of_corner corner.now s cuts p spells.named (its p spells).0)

      pub lacks_x : ((n : ℕ) → n ≤ 16383 → x.now ≡ decimal n → ⊥) → IsPlacingWord word → ⊥
      lacks_x none (p, spells) = none p.x spells.named.0 (numbers_of p spells).0

      pub lacks_y : ((n : ℕ) → n ≤ 16383 → y.now ≡ decimal n → ⊥) → IsPlacingWord word → ⊥
      lacks_y none (p, spells) = none p.y spells.named.1 (numbers_of p spells).1

      -- where they are numbers it spells them
      pub spells_so : (n m : ℕ) → (x.now ≡ decimal n) × (n ≤ 16383) → (y.now ≡ decimal m) × (m ≤ 16383) → (file.now ≡ [] → ⊥) → Spells word (record { x = n; y = m; file = file.now })
      spells_so n m first second some =
          let p : Placing = record { x = n; y = m; file = file.now } in
          let whole : word ≡ corner.now ++ (61 ∷ file.now) = (MatchOption-at_some _ _ _ was (split_parts 61 word r splits (omega arith))).0 in
          let front : corner.now ≡ x.now ++ (44 ∷ y.now) = (MatchOption-at_some _ _ _ were (split_parts 44 corner.now s cuts (omega arith))).0 in
          let numbers : corner.now ≡ corner_word p = front ∙ ap₂ (λ (a b : List ℕ). a ++ (44 ∷ b)) first.0 second.0 in
          record { spelled = whole ∙ ap (λ (l : List ℕ). l ++ (61 ∷ file.now)) numbers ∙ sym (word_parts p); named = (first.1, second.1, some) }

-- ---- words

pub words_read : (words : List (List ℕ)) → AllByRecursion IsPlacingWord words → (words ≡ map placing_word (map placing_in words)) × AllByRecursion IsPlacing (map placing_in words)
words_read [] all = (refl, tt)
words_read (w ∷ words) all =
    let read : placing_in w ≡ all.0.0 = reads_one w all.0.0 all.0.1 in
    let rest = words_read words all.1 in
    let spelled : w ≡ placing_word (placing_in w) = all.0.1.spelled ∙ ap placing_word (sym read) in (
      ap (λ (x : List ℕ). x ∷ words) spelled ∙ ap (λ (l : List (List ℕ)). placing_word (placing_in w) ∷ l) rest.0,
      (subst IsPlacing (sym read) all.0.1.named, rest.1),
    )

pub placings_read : (ps : List Placing) → AllByRecursion IsPlacing ps → map placing_in (map placing_word ps) ≡ ps
placings_read [] all = refl
placings_read (p ∷ ps) all = ap (λ (q : Placing). q ∷ map placing_in (map placing_word ps)) (placing_read p all.0) ∙ ap (λ (l : List Placing). p ∷ l) (placings_read ps all.1)

are_words : (ps : List Placing) → AllByRecursion IsPlacing ps → AllByRecursion IsPlacingWord (map placing_word ps)
are_words [] all = tt
are_words (p ∷ ps) all = ((p, record { spelled = refl; named = all.0 }), are_words ps all.1)

-- words that spell placings place files
pub placings_are : (ps : List Placing) → (ps ≡ [] → ⊥) → AllByRecursion IsPlacing ps → PlaceFiles (map placing_word ps)
placings_are [] some all = absurd (some refl)
placings_are (p ∷ ps) some all = (omega arith, are_words (p ∷ ps) all)

pub some_placings : (words : List (List ℕ)) → 0 < length words → map placing_in words ≡ [] → ⊥
some_placings [] some is = omega (arith, some)
some_placings (w ∷ words) some is = absurd (cc)

-- words that begin with `check` and `merge` ask whether files can be merged where those that follow place them
pub asks_for_merge : (words : List (List ℕ)) → PlaceFiles words → AskFor (codes "check" ∷ codes "merge" ∷ words) (check_merge (map placing_in words))
asks_for_merge words place =
    let read = words_read words place.1 in
    record { spelled = ap (λ (l : List (List ℕ)). codes "check" ∷ codes "merge" ∷ l) read.0; named = (some_placings words place.0, read.1) }

-- and only then
pub merge_words : (words : List (List ℕ)) (ps : List Placing) → AskFor (codes "check" ∷ codes "merge" ∷ words) (check_merge ps) → PlaceFiles words
merge_words words ps asks =
    let same : words ≡ map placing_word ps = ap (λ (l : List (List ℕ)). drop 2 l) asks.spelled in
    subst PlaceFiles (sym same) (placings_are ps asks.named.0 asks.named.1)

-- words that begin with `verify`, `merge` and a file ask whether that is those put together that the others place
pub asks_to_verify : (words rest : List (List ℕ)) (finished : List ℕ) → words ≡ codes "merge" ∷ finished ∷ rest → (finished ≡ [] → ⊥) → PlaceFiles rest → AskFor (codes "verify" ∷ words) (verify finished (map placing_in rest))
asks_to_verify words rest finished is some place =
    let read = words_read rest place.1 in
    record {
      spelled = ap (λ (l : List (List ℕ)). codes "verify" ∷ l) (is ∙ ap (λ (l : List (List ℕ)). codes "merge" ∷ finished ∷ l) read.0);
      named = (some, some_placings rest place.0, read.1);
    }

-- and only then
module _ (words : List (List ℕ)) (finished : List ℕ) (ps : List Placing) (asks : AskFor (codes "verify" ∷ words) (verify finished ps)) where
  pub verify_words : words ≡ codes "merge" ∷ finished ∷ map placing_word ps
  verify_words = ap (λ (l : List (List ℕ)). drop 1 l) asks.spelled

  pub verify_not_merge : ((rest : List (List ℕ)) → words ≡ codes "merge" ∷ rest → ⊥) → ⊥
  verify_not_merge none = none (finished ∷ map placing_word ps) verify_words

  pub verify_not_file : (rest : List (List ℕ)) → words ≡ codes "merge" ∷ rest → ((file : List ℕ) (after : List (List ℕ)) → rest ≡ file ∷ after → file ≡ []) → ⊥
  verify_not_file rest is none = asks.named.0 (none finished (map placing_word ps) (ap (λ (l : List (List ℕ)). drop 1 l) (sym is ∙ verify_words)))

  pub verify_not_placed : (rest : List (List ℕ)) (file : List ℕ) → words ≡ codes "merge" ∷ file ∷ rest → (PlaceFiles rest → ⊥) → ⊥
  verify_not_placed rest file is none =
      let same : rest ≡ map placing_word ps = ap (λ (l : List (List ℕ)). drop 2 l) (sym is ∙ verify_words) in
      none (subst PlaceFiles (sym same) (placings_are ps asks.named.1 asks.named.2))

-- words that spell placings, each by its parts

own_parts : (word : List ℕ) → IsPlacingWord word → SpellsItsParts word
own_parts word (p, spells) =
    let read : placing_in word ≡ p = reads_one word p spells in
    (spells.spelled ∙ ap placing_word (sym read), subst IsPlacing (sym read) spells.named)

pub parts_of_words : (words : List (List ℕ)) → AllByRecursion IsPlacingWord words → All SpellsItsParts words
parts_of_words [] all = All-nil SpellsItsParts
parts_of_words (w ∷ words) all = All-cons SpellsItsParts w words (own_parts w all.0) (parts_of_words words all.1)

pub words_of_parts : (words : List (List ℕ)) → All SpellsItsParts words → AllByRecursion IsPlacingWord words
words_of_parts [] all = tt
words_of_parts (w ∷ words) all =
    let own = All-head SpellsItsParts w words all in
    ((placing_in w, record { spelled = own.0; named = own.1 }), words_of_parts words (All-tail SpellsItsParts w words all))

-- ---- word by word

first_suc : {A : Type 0} (words : List (String A)) (i : ℕ) (w : String A) → i < length words → w ≡ get_or words i w → AllByRecursion IsPlacingWord (texts (take i words)) → IsPlacingWord (string_bytes w) → AllByRecursion IsPlacingWord (texts (take (suc i) words))
first_suc [] i w within at all one = absurd (omega arith)
first_suc {A = A} (x ∷ words) zero w within at all one = (subst (λ (y : String A). IsPlacingWord (string_bytes y)) at one, tt)
first_suc (x ∷ words) (suc i) w within at all one = (all.0, first_suc words i w (omega arith) at all.1 one)

pub first_are : {A : Type 0} (words : List (String A)) (i : ℕ) (w : String A) → i < length words → w ≡ get_or words i w → AllByRecursion IsPlacingWord (texts (take i words)) → IsPlacingWord (string_bytes w) → AllByRecursion IsPlacingWord (texts (take (i + 1) words))
first_are words i w within at all one = rw add-one (first_suc words i w within at all one)

pub one_of_them : {A : Type 0} (words : List (String A)) (i : ℕ) (w : String A) → slice_get words i ≡ Some w → AllByRecursion IsPlacingWord (texts words) → IsPlacingWord (string_bytes w)
one_of_them [] i w at all = absurd (cc)
one_of_them {A = A} (x ∷ words) zero w at all = subst (λ (y : String A). IsPlacingWord (string_bytes y)) (same_Some x w at) all.0
one_of_them (x ∷ words) (suc i) w at all = one_of_them words i w at all.1

-- what one of them spells
pub spelled_at : {A : Type 0} (words : List (String A)) (i : ℕ) (w : String A) (p : Placing) → slice_get words i ≡ Some w → Spells (string_bytes w) p → slice_get (map placing_in (texts words)) i ≡ Some p
spelled_at [] i w p at spells = absurd (cc)
spelled_at {A = A} (x ∷ words) zero w p at spells = ap Some (ap (λ (y : String A). placing_in (string_bytes y)) (same_Some x w at) ∙ reads_one (string_bytes w) p spells)
spelled_at (x ∷ words) (suc i) w p at spells = spelled_at words i w p at spells

-- ---- one more of a list

take_next_suc : {X : Type 0} (xs : List X) (i : ℕ) (x : X) → slice_get xs i ≡ Some x → take i xs ++ x ∷ [] ≡ take (suc i) xs
take_next_suc [] i x at = absurd (cc)
take_next_suc {X = X} (y ∷ xs) zero x at = ap (λ (z : X). z ∷ []) (sym (same_Some y x at))
take_next_suc {X = X} (y ∷ xs) (suc i) x at = ap (λ (l : List X). y ∷ l) (take_next_suc xs i x at)

pub take_next : {X : Type 0} (xs : List X) (i : ℕ) (x : X) → slice_get xs i ≡ Some x → take i xs ++ x ∷ [] ≡ take (i + 1) xs
take_next xs i x at = rw add-one (take_next_suc xs i x at)

-- what is made of one of them
pub made_at : {X Y : Type 0} (f : X → Y) (xs : List X) (i : ℕ) (x : X) → slice_get xs i ≡ Some x → slice_get (map f xs) i ≡ Some (f x)
made_at f xs i x at = slice_get-map f xs i ∙ ap (option_map f) at

-- ---- what an answer says

pub no_words : {A : Type 0} (words : List (String A)) → eqb (length words) 0 ≡ true → 0 < length (texts words) → ⊥
no_words [] is some = omega (arith, some)
no_words (w ∷ words) is some = omega (arith, eqb-true (length (w ∷ words)) 0 is)

pub some_texts : {A : Type 0} (words : List (String A)) → 0 < length words → 0 < length (texts words)
some_texts [] some = absurd (omega (arith, some))
some_texts (w ∷ words) some = omega arith

pub some_there : {A : Type 0} (words : List (String A)) → 0 < length (texts words) → 0 < length words
some_there [] some = absurd (omega (arith, some))
some_there (w ∷ words) some = omega arith

pub some_words : {A : Type 0} (words : List (String A)) → eqb (length words) 0 ≡ false → 0 < length (texts words)
some_words [] is = absurd (eqb-false 0 0 is refl)
some_words (w ∷ words) is = omega arith

pub where_none : {X : Type 0} (r : Option X) (P : Type 0) (Q : X → Type 0) → is_some r ≡ false → MatchOption r P Q → P
where_none None P Q is h = h
where_none (Some x) P Q is h = absurd (cc)

pub where_some : {X S : Type 0} (r : Option X) (P : Type 0) (Q : X → Type 0) → is_some r ≡ true → MatchOption r P Q → ((x : X) → Q x → S) → S
where_some None P Q is h then_ = absurd (cc)
where_some (Some x) P Q is h then_ = then_ x h

pub are_not : (P : Type 0) → (P → ⊥) → IsTrue false ↔ P
are_not P none = (λ is. absurd (cc), λ p. absurd (none p))

pub are_so : (P : Type 0) → P → IsTrue true ↔ P
are_so P p = (λ is. p, λ q. refl)
