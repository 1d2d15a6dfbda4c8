-- Words, read from the front on: what they spell, and that they spell one thing.
use Rattle.std.proofs.Common.{◌≡◌, ℕ, zero, suc, ◌<◌, ◌≤◌, ◌^◌, List, [], ◌∷◌, ◌++◌, ◌∙◌, Option, Some, None, IfSome, Result, Ok, Err, length, get_or, take, drop, ◌-◌, nat_le, inl, inr, codes, decimal, cond, eqb, sym, ap, refl, subst, arith, Bool, true, false}
use Rattle.std.specs.Str.Parse.{AllDigits, ParsesUnsigned, IsNumeral, digits_value}
use Rattle.std.specs.Result.{OkIff}
use Rattle.std.proofs.lemmas.Str.Parse.{IsNumeralModel}
use Rattle.std.specs.Bool.{then_some}
use Rattle.std.specs.Prelude.{MatchOption, IfNone, String, string_bytes}
use Rattle.std.proofs.lemmas.Bool.{cases_lt}
use Rattle.std.proofs.lemmas.List.{length-drop}
use Rattle.std.proofs.Math.Seq.{take_all}
use borrow.Author.Tests.{eqb-true, leb-true, leb-false}
use Rattle.std.proofs.lemmas.Fmt.{decimal_digit, first_decimal, decimal-digits_value, decimal_injective, parse-decimal}
use Rattle.vx_run.specs.Grammar.{extract, check_extract, AskFor, texts, option_words, tid_words, level_words, IsTid, IsLevel, IsIndex}
use Rattle.vx_run.specs.inner.Words.{BeginsNot, IsNumberFirst, IsOptionFirst}

-- ---- numbers

-- a number begins with a digit,
pub first_digit : (n : ℕ) → n < 2 ^ 64 → 48 ≤ get_or (decimal n) 0 0
first_digit zero small = omega (arith, ap (λ (l : List ℕ). get_or l 0 0) (decimal_digit 0 (omega arith)))
first_digit (suc n) small = omega (arith, first_decimal (suc n) (omega arith) small)

-- and with none but 1 to 9 where it has several
pub no_further_zero : (n : ℕ) → n < 2 ^ 64 → 1 < length (decimal n) → 49 ≤ get_or (decimal n) 0 0
no_further_zero zero small long = absurd (omega (arith, ap (λ (l : List ℕ). length l) (decimal_digit 0 (omega arith))))
no_further_zero (suc n) small long = omega (arith, first_decimal (suc n) (omega arith) small)

as_digits : IsNumeralModel (AllDigits 10) (digits_value 10)
as_digits = record { to = λ ds p. p; from = λ ds p. p; same = λ ds d. refl }

-- digits that are read with no plus and no further zero are the number's
read_digits : {E : Type 0} (word : List ℕ) (n : ℕ) (plus : Bool) (r : Result ℕ E)
    → OkIff r (IsNumeral 10 (drop (cond plus 1 0) word) × (digits_value 10 (drop (cond plus 1 0) word) < 2 ^ 32)) (digits_value 10 (drop (cond plus 1 0) word))
    → r ≡ Ok n → (plus ≡ true → length word ≤ 1) → (48 ≡ get_or word 0 0 → length word ≤ 1) → word ≡ decimal n
read_digits word n true (Ok m) reads is short lead = absurd (omega (arith, reads.0.0.0, short refl, length-drop 1 word))
read_digits word n false (Ok m) reads is short lead =
    let same : m ≡ n = cc in
    sym (decimal-digits_value as_digits word reads.0.0.1 reads.0.0.0 (λ zero_. let few = lead (sym zero_) in omega (arith, reads.0.0.0, few)) (omega (arith, reads.0.1))) ∙ ap decimal (sym reads.1 ∙ same)
read_digits word n plus (Err e) reads is short lead = absurd (cc)

-- a word whose first byte is below 49 has one byte
short_word : (word : List ℕ) → (1 < length word → 49 ≤ get_or word 0 0) → get_or word 0 0 < 49 → length word ≤ 1
short_word word lead low = elim (cases_lt 1 (length word)) [ inl long ↦ absurd (omega (arith, lead long, low)) | inr few ↦ few ]

pub number_read : {E : Type 0} (word : List ℕ) (n : ℕ) (r : Result ℕ E) → ParsesUnsigned 32 10 word r → r ≡ Ok n → (1 < length word → 49 ≤ get_or word 0 0) → word ≡ decimal n
number_read word n r reads is lead =
    read_digits word n (eqb (get_or word 0 0) 43) r reads is
    (λ plus. let first = eqb-true (get_or word 0 0) 43 plus in short_word word lead (omega (arith, first)))
    (λ zero_. short_word word lead (omega (arith, zero_)))

-- it is answered where it isn't too great
pub number_answer : {E : Type 0} (word : List ℕ) (n most : ℕ) (o : Option ℕ) (r : Result ℕ E) → most < 2 ^ 32 → ParsesUnsigned 32 10 word r → r ≡ Ok n → (1 < length word → 49 ≤ get_or word 0 0)
    → (b : Bool) → nat_le n most ≡ b → o ≡ then_some b n → MatchOption o ((m : ℕ) → m ≤ most → word ≡ decimal m → ⊥) (λ k. (word ≡ decimal k) × (k ≤ most))
number_answer word n most o r small reads is lead true test gives = rw gives (number_read word n r reads is lead, leb-true n most test)
number_answer word n most o r small reads is lead false test gives =
    rw gives (λ m within spells.
    let same : r ≡ Ok m = parse-decimal 32 m word r (omega (arith, within, small)) (omega (arith, within, small)) spells reads in
    let one : n ≡ m = cc in
    omega (arith, leb-false n most test, one, within))

-- ---- the words behind the first

pub if_none : {A : Type 0} (o : Option A) (P : Type 0) → P → IfNone o P
if_none None P p = p
if_none (Some a) P p = tt

pub first_text : {A : Type 0} (words : List (String A)) (w : String A) (name : List ℕ) (rest : List (List ℕ)) → 0 < length words → w ≡ get_or words 0 w → texts words ≡ name ∷ rest → string_bytes w ≡ name
first_text [] w name rest some at is = absurd (omega (arith, some))
first_text (x ∷ xs) w name rest some at is =
    let first : string_bytes x ≡ name = ap (λ (ws : List (List ℕ)). get_or ws 0 []) is in
    ap string_bytes at ∙ first

pub behind_text : {A : Type 0} (words : List (String A)) (w : String A) (name : List ℕ) → 0 < length words → w ≡ get_or words 0 w → string_bytes w ≡ name → texts words ≡ name ∷ texts (take (length words - 1) (drop 1 words))
behind_text {A = A} [] w name some at is = absurd (omega (arith, some))
behind_text {A = A} (x ∷ xs) w name some at is =
    let first : string_bytes x ≡ name = ap string_bytes (sym at) ∙ is in
    let rest : take (length (x ∷ xs) - 1) xs ≡ xs = take_all (length (x ∷ xs) - 1) xs (omega arith) in
    ap (λ (b : List ℕ). b ∷ texts xs) first ∙ ap (λ (l : List (String A)). name ∷ texts l) (sym rest)

-- ---- what comes first

-- one number does, with the words behind it
pub number_once : (most : ℕ) (words : List (List ℕ)) (n m : ℕ) (rest others : List (List ℕ)) → most < 2 ^ 32 → IsNumberFirst most words n rest → IsNumberFirst most words m others → (n ≡ m) × (rest ≡ others)
number_once most words n m rest others small p q =
    let both = sym p.spelled ∙ q.spelled in (
      decimal_injective n m (omega (arith, p.within)) (omega (arith, q.within)) (ap (λ (ws : List (List ℕ)). get_or ws 0 []) both),
      ap (λ (ws : List (List ℕ)). drop 1 ws) both,
    )

-- and one option, or none
pub option_once : (name : List ℕ) (most : ℕ) (words : List (List ℕ)) (a b : Option ℕ) (rest others : List (List ℕ)) → most < 2 ^ 32 → IsOptionFirst name most words a rest → IsOptionFirst name most words b others → (a ≡ b) × (rest ≡ others)
option_once name most words None None rest others small p q = (refl, p.0 ∙ sym q.0)
option_once name most words None (Some m) rest others small p q = absurd (p.1 q.0 q.1)
option_once name most words (Some n) None rest others small p q = absurd (q.1 p.0 p.1)
option_once name most words (Some n) (Some m) rest others small p q =
    let same : p.0 ≡ q.0 = ap (λ (ws : List (List ℕ)). drop 1 ws) (sym p.1 ∙ q.1) in
    let one = number_once most q.0 n m rest others small (subst (λ (ws : List (List ℕ)). IsNumberFirst most ws n rest) same p.2) q.2 in
    (ap (λ (k : ℕ). let o : Option ℕ = Some k in o) one.0, one.1)

-- words that begin with an option
pub option_spelled : (name : List ℕ) (most : ℕ) (words : List (List ℕ)) (o : Option ℕ) (rest : List (List ℕ)) → IsOptionFirst name most words o rest → (words ≡ option_words name o ++ rest) × IfSome o (λ n. n ≤ most)
option_spelled name most words None rest p = (sym p.0, tt)
option_spelled name most words (Some n) rest p = (p.1 ∙ ap (λ (ws : List (List ℕ)). name ∷ ws) p.2.spelled, p.2.within)

pub option_first : (name : List ℕ) (most : ℕ) (o : Option ℕ) (rest : List (List ℕ)) → IfSome o (λ n. n ≤ most) → BeginsNot name rest → IsOptionFirst name most (option_words name o ++ rest) o rest
option_first name most None rest within other = (refl, other)
option_first name most (Some n) rest within other = (decimal n ∷ rest, refl, record { spelled = refl; within = within })

-- no number has the name of an option, and none has that of the other
number_is_no_option : (name : List ℕ) (n : ℕ) (more : List (List ℕ)) → n < 2 ^ 64 → get_or name 0 0 ≡ 45 → BeginsNot name (decimal n ∷ more)
number_is_no_option name n more small dash rest is =
    let same : decimal n ≡ name = ap (λ (ws : List (List ℕ)). get_or ws 0 []) is in
    omega (arith, first_digit n small, ap (λ (l : List ℕ). get_or l 0 0) same, dash)

level_is_no_tid : (level : Option ℕ) (n : ℕ) (more : List (List ℕ)) → n < 2 ^ 64 → BeginsNot (codes "--tid") (level_words level ++ (decimal n ∷ more))
level_is_no_tid None n more small rest is = number_is_no_option (codes "--tid") n more small refl rest is
level_is_no_tid (Some l) n more small rest is =
    let same : length (codes "--level") ≡ length (codes "--tid") = ap (λ (ws : List (List ℕ)). length (get_or ws 0 [])) is in
    absurd (omega (arith, same))

-- ---- what is spelled behind the names of commands

abbrev pub behind_level : ℕ → List ℕ → List (List ℕ)
behind_level index file = decimal index ∷ file ∷ []

abbrev pub behind_tid : Option ℕ → ℕ → List ℕ → List (List ℕ)
behind_tid level index file = level_words level ++ behind_level index file

pub index_first : (index : ℕ) (file : List ℕ) → IsIndex index → IsNumberFirst 999 (behind_level index file) index (file ∷ [])
index_first index file within = record { spelled = refl; within = within }

pub level_first : (level : Option ℕ) (index : ℕ) (file : List ℕ) → IsLevel level → IsIndex index → IsOptionFirst (codes "--level") 255 (behind_tid level index file) level (behind_level index file)
level_first level index file within small = option_first (codes "--level") 255 level (behind_level index file) within (number_is_no_option (codes "--level") index (file ∷ []) (omega (arith, small)) refl)

pub tid_first : (tid level : Option ℕ) (index : ℕ) (file : List ℕ) → IsTid tid → IsIndex index → IsOptionFirst (codes "--tid") 6 (tid_words tid ++ behind_tid level index file) tid (behind_tid level index file)
tid_first tid level index file within small = option_first (codes "--tid") 6 tid (behind_tid level index file) within (level_is_no_tid level index (file ∷ []) (omega (arith, small)))

pub only_tid_first : (tid : Option ℕ) (index : ℕ) (file : List ℕ) → IsTid tid → IsIndex index → IsOptionFirst (codes "--tid") 6 (tid_words tid ++ behind_level index file) tid (behind_level index file)
only_tid_first tid index file within small = option_first (codes "--tid") 6 tid (behind_level index file) within (number_is_no_option (codes "--tid") index (file ∷ []) (omega (arith, small)) refl)

-- ---- words that are no extraction

module _ (ws : List (List ℕ)) (tid level : Option ℕ) (index : ℕ) (file : List ℕ) (p : AskFor (codes "extract" ∷ ws) (extract tid level index file)) where
  spelled_so : ws ≡ tid_words tid ++ behind_tid level index file
  spelled_so = ap (λ (l : List (List ℕ)). drop 1 l) p.spelled

  tid_there : IsOptionFirst (codes "--tid") 6 ws tid (behind_tid level index file)
  tid_there = rw spelled_so (tid_first tid level index file p.named.0 p.named.2)

  pub not_tid : ((n : Option ℕ) (rest : List (List ℕ)) → IsOptionFirst (codes "--tid") 6 ws n rest → ⊥) → ⊥
  not_tid none = none tid (behind_tid level index file) tid_there

  module _ (t : Option ℕ) (rest : List (List ℕ)) (first : IsOptionFirst (codes "--tid") 6 ws t rest) where
    level_there : IsOptionFirst (codes "--level") 255 rest level (behind_level index file)
    level_there =
        let one = option_once (codes "--tid") 6 ws t tid rest (behind_tid level index file) (omega arith) first tid_there in
        rw one.1 (level_first level index file p.named.1 p.named.2)

    pub not_level : ((n : Option ℕ) (r : List (List ℕ)) → IsOptionFirst (codes "--level") 255 rest n r → ⊥) → ⊥
    not_level none = none level (behind_level index file) level_there

    pub not_index : (l : Option ℕ) (more : List (List ℕ)) → IsOptionFirst (codes "--level") 255 rest l more → ((n : ℕ) (r : List (List ℕ)) → IsNumberFirst 999 more n r → ⊥) → ⊥
    not_index l more second none =
        let one = option_once (codes "--level") 255 rest l level more (behind_level index file) (omega arith) second level_there in
        none index (file ∷ []) (rw one.1 (index_first index file p.named.2))

module _ (ws : List (List ℕ)) (tid : Option ℕ) (index : ℕ) (file : List ℕ) (p : AskFor (codes "check" ∷ codes "extract" ∷ ws) (check_extract tid index file)) where
  check_spelled : ws ≡ tid_words tid ++ behind_level index file
  check_spelled = ap (λ (l : List (List ℕ)). drop 2 l) p.spelled

  check_there : IsOptionFirst (codes "--tid") 6 ws tid (behind_level index file)
  check_there = rw check_spelled (only_tid_first tid index file p.named.0 p.named.1)

  pub check_not_tid : ((n : Option ℕ) (rest : List (List ℕ)) → IsOptionFirst (codes "--tid") 6 ws n rest → ⊥) → ⊥
  check_not_tid none = none tid (behind_level index file) check_there

  pub check_not_index : (t : Option ℕ) (rest : List (List ℕ)) → IsOptionFirst (codes "--tid") 6 ws t rest → ((n : ℕ) (r : List (List ℕ)) → IsNumberFirst 999 rest n r → ⊥) → ⊥
  check_not_index t rest first none =
      let one = option_once (codes "--tid") 6 ws t tid rest (behind_level index file) (omega arith) first check_there in
      none index (file ∷ []) (rw one.1 (index_first index file p.named.1))
