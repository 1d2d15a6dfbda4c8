-- Words spell one command.
use Rattle.std.proofs.Common.{◌≡◌, ◌≢◌, ◌∙◌, sym, ap, true, false, Bool, ℕ, List, [], ◌∷◌, ◌++◌, Option, length, map, codes, decimal, get_or, drop, arith, refl}
use Rattle.std.specs.List.{AllByRecursion}
use Rattle.std.proofs.lemmas.Fmt.{decimal_injective}
use Rattle.vx_run.specs.Grammar.{Command, show, extract, check_extract, merge, play, check_merge, verify, trial, help, version, explain, fields_words, inputs_words, tid_words, level_words, Placing, placing_word, AskFor, IsLevel, IsPlacing}
use Rattle.vx_run.specs.inner.Placings.{placing_in}
use Rattle.vx_run.proofs.Numbering.{behind_tid, behind_level, tid_first, only_tid_first, level_first, index_first, option_once, number_once}
use Rattle.vx_run.proofs.PlacingWords.{placings_read}
use Rattle.vx_run.proofs.MergeWords.{merge_level}

-- words that begin with two words are not the same
other_first : (words : List (List ℕ)) (x y : List ℕ) (xs ys : List (List ℕ)) → words ≡ x ∷ xs → words ≡ y ∷ ys → length x ≢ length y → ⊥
other_first words x y xs ys p q other = other (ap (λ ws. length (get_or ws 0 [])) (sym p ∙ q))

other_letter : (words : List (List ℕ)) (x y : List ℕ) (xs ys : List (List ℕ)) → words ≡ x ∷ xs → words ≡ y ∷ ys → get_or x 0 0 ≢ get_or y 0 0 → ⊥
other_letter words x y xs ys p q other = other (ap (λ ws. get_or (get_or ws 0 []) 0 0) (sym p ∙ q))

other_second : (words : List (List ℕ)) (x y z w : List ℕ) (xs ys : List (List ℕ)) → words ≡ x ∷ z ∷ xs → words ≡ y ∷ w ∷ ys → length z ≢ length w → ⊥
other_second words x y z w xs ys p q other = other (ap (λ ws. length (get_or ws 1 [])) (sym p ∙ q))

same_extract : (t u l m : Option ℕ) (i j : ℕ) (f g : List ℕ) → t ≡ u → l ≡ m → i ≡ j → f ≡ g → extract t l i f ≡ extract u m j g
same_extract t u l m i j f g p q r s = cc

same_check : (t u : Option ℕ) (i j : ℕ) (f g : List ℕ) → t ≡ u → i ≡ j → f ≡ g → check_extract t i f ≡ check_extract u j g
same_check t u i j f g p q r = cc

same_merge : (l m : Option ℕ) (ps qs : List Placing) → l ≡ m → ps ≡ qs → merge l ps ≡ merge m qs
same_merge l m ps qs p q = cc

same_play : (l m : Option ℕ) (ps qs : List Placing) → l ≡ m → ps ≡ qs → play l ps ≡ play m qs
same_play l m ps qs p q = cc

same_verify : (f g : List ℕ) (ps qs : List Placing) → f ≡ g → ps ≡ qs → verify f ps ≡ verify g qs
same_verify f g ps qs p q = cc

-- what is spelled behind the name of a merge
abbrev behind_name : Option ℕ → List Placing → List (List ℕ)
behind_name l ps = level_words l ++ map placing_word ps

-- which spells one level and some placings
same_names : (words : List (List ℕ)) (name : List ℕ) (l m : Option ℕ) (ps qs : List Placing) → words ≡ name ∷ behind_name l ps → words ≡ name ∷ behind_name m qs
    → IsLevel l → AllByRecursion IsPlacing ps → IsLevel m → AllByRecursion IsPlacing qs → (l ≡ m) × (ps ≡ qs)
same_names words name l m ps qs p q within are fits being =
    let same : behind_name l ps ≡ behind_name m qs = ap (λ (ws : List (List ℕ)). drop 1 ws) (sym p ∙ q) in
    let level = option_once (codes "--level") 255 (behind_name l ps) l m (map placing_word ps) (map placing_word qs) (omega arith) (merge_level l ps within are) (rw same (merge_level m qs fits being)) in
    (level.0, sym (placings_read ps are) ∙ ap (λ (ws : List (List ℕ)). map placing_in ws) level.1 ∙ placings_read qs being)

-- what is spelled behind the name of a trial
abbrev numbers : (seed sources pictures : ℕ) → List (List ℕ)
numbers seed sources pictures = decimal seed ∷ decimal sources ∷ decimal pictures ∷ []

same_trial : (words : List (List ℕ)) (s t n m k j : ℕ) → AskFor words (trial s n k) → AskFor words (trial t m j) → trial s n k ≡ trial t m j
same_trial words s t n m k j p q =
    let both = sym p.spelled ∙ q.spelled in
    let seed = decimal_injective s t (omega (arith, p.named.0)) (omega (arith, q.named.0)) (ap (λ (ws : List (List ℕ)). get_or ws 1 []) both) in
    let sources = decimal_injective n m (omega (arith, p.named.1)) (omega (arith, q.named.1)) (ap (λ (ws : List (List ℕ)). get_or ws 2 []) both) in
    let pictures = decimal_injective k j (omega (arith, p.named.2)) (omega (arith, q.named.2)) (ap (λ (ws : List (List ℕ)). get_or ws 3 []) both) in
    cc

-- what is spelled behind the name of `show`
abbrev show_words : (fields inputs : Bool) → List ℕ → List (List ℕ)
show_words fields inputs file = fields_words fields ++ (inputs_words inputs ++ file ∷ [])

-- which spells the options and the file
shown_once : (a x b y : Bool) (f g : List ℕ) → show_words a x f ≡ show_words b y g → show a x f ≡ show b y g
shown_once true true true true f g same = ap (λ (ws : List (List ℕ)). show true true (get_or ws 2 [])) same
shown_once true false true false f g same = ap (λ (ws : List (List ℕ)). show true false (get_or ws 1 [])) same
shown_once false true false true f g same = ap (λ (ws : List (List ℕ)). show false true (get_or ws 1 [])) same
shown_once false false false false f g same = ap (λ (ws : List (List ℕ)). show false false (get_or ws 0 [])) same
shown_once true false false true f g same = absurd (omega (arith, ap (λ (ws : List (List ℕ)). get_or (get_or ws 0 []) 2 0) same))
shown_once false true true false f g same = absurd (omega (arith, ap (λ (ws : List (List ℕ)). get_or (get_or ws 0 []) 2 0) same))
shown_once true true true false f g same = absurd (omega (arith, ap (λ (ws : List (List ℕ)). length ws) same))
shown_once true true false true f g same = absurd (omega (arith, ap (λ (ws : List (List ℕ)). length ws) same))
shown_once true true false false f g same = absurd (omega (arith, ap (λ (ws : List (List ℕ)). length ws) same))
shown_once true false true true f g same = absurd (omega (arith, ap (λ (ws : List (List ℕ)). length ws) same))
shown_once true false false false f g same = absurd (omega (arith, ap (λ (ws : List (List ℕ)). length ws) same))
shown_once false true true true f g same = absurd (omega (arith, ap (λ (ws : List (List ℕ)). length ws) same))
shown_once false true false false f g same = absurd (omega (arith, ap (λ (ws : List (List ℕ)). length ws) same))
shown_once false false true true f g same = absurd (omega (arith, ap (λ (ws : List (List ℕ)). length ws) same))
shown_once false false true false f g same = absurd (omega (arith, ap (λ (ws : List (List ℕ)). length ws) same))
shown_once false false false true f g same = absurd (omega (arith, ap (λ (ws : List (List ℕ)). length ws) same))

-- the words spell one command
pub spelled_once : (words : List (List ℕ)) (c d : Command) → AskFor words c → AskFor words d → c ≡ d
spelled_once words (show a x f) (show b y g) p q = shown_once a x b y f g (ap (λ (ws : List (List ℕ)). drop 1 ws) (sym p.spelled ∙ q.spelled))
spelled_once words (show a x f) (extract u m j g) p q = absurd (other_first words (codes "show") (codes "extract") (show_words a x f) (tid_words u ++ behind_tid m j g) p.spelled q.spelled (omega arith))
spelled_once words (show a x f) (check_extract u j g) p q = absurd (other_first words (codes "show") (codes "check") (show_words a x f) (codes "extract" ∷ (tid_words u ++ behind_level j g)) p.spelled q.spelled (omega arith))
spelled_once words (show a x f) (merge m qs) p q = absurd (other_first words (codes "show") (codes "merge") (show_words a x f) (behind_name m qs) p.spelled q.spelled (omega arith))
spelled_once words (show a x f) (play m qs) p q = absurd (other_letter words (codes "show") (codes "play") (show_words a x f) (behind_name m qs) p.spelled q.spelled (omega arith))
spelled_once words (show a x f) (check_merge qs) p q = absurd (other_first words (codes "show") (codes "check") (show_words a x f) (codes "merge" ∷ map placing_word qs) p.spelled q.spelled (omega arith))
spelled_once words (show a x f) (verify g qs) p q = absurd (other_first words (codes "show") (codes "verify") (show_words a x f) (codes "merge" ∷ g ∷ map placing_word qs) p.spelled q.spelled (omega arith))
spelled_once words (show a x f) (trial u m j) p q = absurd (other_first words (codes "show") (codes "trial") (show_words a x f) (numbers u m j) p.spelled q.spelled (omega arith))
spelled_once words (show a x f) help p q = absurd (other_first words (codes "show") (codes "--help") (show_words a x f) [] p.spelled q.spelled (omega arith))
spelled_once words (show a x f) version p q = absurd (other_first words (codes "show") (codes "--version") (show_words a x f) [] p.spelled q.spelled (omega arith))
spelled_once words (show a x f) (explain w) p q = absurd (other_first words (codes "show") (codes "--explain") (show_words a x f) (w ∷ []) p.spelled q.spelled (omega arith))
spelled_once words (extract t l i f) (show b y g) p q = absurd (other_first words (codes "extract") (codes "show") (tid_words t ++ behind_tid l i f) (show_words b y g) p.spelled q.spelled (omega arith))
spelled_once words (extract t l i f) (extract u m j g) p q =
    let words_same : tid_words t ++ behind_tid l i f ≡ tid_words u ++ behind_tid m j g = ap (λ (ws : List (List ℕ)). drop 1 ws) (sym p.spelled ∙ q.spelled) in
    let tid = option_once (codes "--tid") 6 (tid_words t ++ behind_tid l i f) t u (behind_tid l i f) (behind_tid m j g) (omega arith) (tid_first t l i f p.named.0 p.named.2) (rw words_same (tid_first u m j g q.named.0 q.named.2)) in
    let level = option_once (codes "--level") 255 (behind_tid l i f) l m (behind_level i f) (behind_level j g) (omega arith) (level_first l i f p.named.1 p.named.2) (rw tid.1 (level_first m j g q.named.1 q.named.2)) in
    let index = number_once 999 (behind_level i f) i j (f ∷ []) (g ∷ []) (omega arith) (index_first i f p.named.2) (rw level.1 (index_first j g q.named.2)) in
    let file : f ≡ g = ap (λ (ws : List (List ℕ)). get_or ws 0 []) index.1 in
    same_extract t u l m i j f g tid.0 level.0 index.0 file
spelled_once words (extract t l i f) (check_extract u j g) p q = absurd (other_first words (codes "extract") (codes "check") (tid_words t ++ behind_tid l i f) (codes "extract" ∷ (tid_words u ++ behind_level j g)) p.spelled q.spelled (omega arith))
spelled_once words (extract t l i f) (merge m qs) p q = absurd (other_first words (codes "extract") (codes "merge") (tid_words t ++ behind_tid l i f) (behind_name m qs) p.spelled q.spelled (omega arith))
spelled_once words (extract t l i f) (play m qs) p q = absurd (other_first words (codes "extract") (codes "play") (tid_words t ++ behind_tid l i f) (behind_name m qs) p.spelled q.spelled (omega arith))
spelled_once words (extract t l i f) (check_merge qs) p q = absurd (other_first words (codes "extract") (codes "check") (tid_words t ++ behind_tid l i f) (codes "merge" ∷ map placing_word qs) p.spelled q.spelled (omega arith))
spelled_once words (extract t l i f) (verify g qs) p q = absurd (other_first words (codes "extract") (codes "verify") (tid_words t ++ behind_tid l i f) (codes "merge" ∷ g ∷ map placing_word qs) p.spelled q.spelled (omega arith))
spelled_once words (extract t l i f) (trial u m j) p q = absurd (other_first words (codes "extract") (codes "trial") (tid_words t ++ behind_tid l i f) (numbers u m j) p.spelled q.spelled (omega arith))
spelled_once words (extract t l i f) help p q = absurd (other_first words (codes "extract") (codes "--help") (tid_words t ++ behind_tid l i f) [] p.spelled q.spelled (omega arith))
spelled_once words (extract t l i f) version p q = absurd (other_first words (codes "extract") (codes "--version") (tid_words t ++ behind_tid l i f) [] p.spelled q.spelled (omega arith))
spelled_once words (extract t l i f) (explain w) p q = absurd (other_first words (codes "extract") (codes "--explain") (tid_words t ++ behind_tid l i f) (w ∷ []) p.spelled q.spelled (omega arith))
spelled_once words (check_extract t i f) (show b y g) p q = absurd (other_first words (codes "check") (codes "show") (codes "extract" ∷ (tid_words t ++ behind_level i f)) (show_words b y g) p.spelled q.spelled (omega arith))
spelled_once words (check_extract t i f) (extract u m j g) p q = absurd (other_first words (codes "check") (codes "extract") (codes "extract" ∷ (tid_words t ++ behind_level i f)) (tid_words u ++ behind_tid m j g) p.spelled q.spelled (omega arith))
spelled_once words (check_extract t i f) (check_extract u j g) p q =
    let words_same : tid_words t ++ behind_level i f ≡ tid_words u ++ behind_level j g = ap (λ (ws : List (List ℕ)). drop 2 ws) (sym p.spelled ∙ q.spelled) in
    let tid = option_once (codes "--tid") 6 (tid_words t ++ behind_level i f) t u (behind_level i f) (behind_level j g) (omega arith) (only_tid_first t i f p.named.0 p.named.1) (rw words_same (only_tid_first u j g q.named.0 q.named.1)) in
    let index = number_once 999 (behind_level i f) i j (f ∷ []) (g ∷ []) (omega arith) (index_first i f p.named.1) (rw tid.1 (index_first j g q.named.1)) in
    let file : f ≡ g = ap (λ (ws : List (List ℕ)). get_or ws 0 []) index.1 in
    same_check t u i j f g tid.0 index.0 file
spelled_once words (check_extract t i f) (merge m qs) p q = absurd (other_letter words (codes "check") (codes "merge") (codes "extract" ∷ (tid_words t ++ behind_level i f)) (behind_name m qs) p.spelled q.spelled (omega arith))
spelled_once words (check_extract t i f) (play m qs) p q = absurd (other_first words (codes "check") (codes "play") (codes "extract" ∷ (tid_words t ++ behind_level i f)) (behind_name m qs) p.spelled q.spelled (omega arith))
spelled_once words (check_extract t i f) (check_merge qs) p q = absurd (other_second words (codes "check") (codes "check") (codes "extract") (codes "merge") (tid_words t ++ behind_level i f) (map placing_word qs) p.spelled q.spelled (omega arith))
spelled_once words (check_extract t i f) (verify g qs) p q = absurd (other_first words (codes "check") (codes "verify") (codes "extract" ∷ (tid_words t ++ behind_level i f)) (codes "merge" ∷ g ∷ map placing_word qs) p.spelled q.spelled (omega arith))
spelled_once words (check_extract t i f) (trial u m j) p q = absurd (other_letter words (codes "check") (codes "trial") (codes "extract" ∷ (tid_words t ++ behind_level i f)) (numbers u m j) p.spelled q.spelled (omega arith))
spelled_once words (check_extract t i f) help p q = absurd (other_first words (codes "check") (codes "--help") (codes "extract" ∷ (tid_words t ++ behind_level i f)) [] p.spelled q.spelled (omega arith))
spelled_once words (check_extract t i f) version p q = absurd (other_first words (codes "check") (codes "--version") (codes "extract" ∷ (tid_words t ++ behind_level i f)) [] p.spelled q.spelled (omega arith))
spelled_once words (check_extract t i f) (explain w) p q = absurd (other_first words (codes "check") (codes "--explain") (codes "extract" ∷ (tid_words t ++ behind_level i f)) (w ∷ []) p.spelled q.spelled (omega arith))
spelled_once words (merge l ps) (show b y g) p q = absurd (other_first words (codes "merge") (codes "show") (behind_name l ps) (show_words b y g) p.spelled q.spelled (omega arith))
spelled_once words (merge l ps) (extract u m j g) p q = absurd (other_first words (codes "merge") (codes "extract") (behind_name l ps) (tid_words u ++ behind_tid m j g) p.spelled q.spelled (omega arith))
spelled_once words (merge l ps) (check_extract u j g) p q = absurd (other_letter words (codes "merge") (codes "check") (behind_name l ps) (codes "extract" ∷ (tid_words u ++ behind_level j g)) p.spelled q.spelled (omega arith))
spelled_once words (merge l ps) (merge m qs) p q =
    let one = same_names words (codes "merge") l m ps qs p.spelled q.spelled p.named.0 p.named.2 q.named.0 q.named.2 in
    same_merge l m ps qs one.0 one.1
spelled_once words (merge l ps) (play m qs) p q = absurd (other_first words (codes "merge") (codes "play") (behind_name l ps) (behind_name m qs) p.spelled q.spelled (omega arith))
spelled_once words (merge l ps) (check_merge qs) p q = absurd (other_letter words (codes "merge") (codes "check") (behind_name l ps) (codes "merge" ∷ map placing_word qs) p.spelled q.spelled (omega arith))
spelled_once words (merge l ps) (verify g qs) p q = absurd (other_first words (codes "merge") (codes "verify") (behind_name l ps) (codes "merge" ∷ g ∷ map placing_word qs) p.spelled q.spelled (omega arith))
spelled_once words (merge l ps) (trial u m j) p q = absurd (other_letter words (codes "merge") (codes "trial") (behind_name l ps) (numbers u m j) p.spelled q.spelled (omega arith))
spelled_once words (merge l ps) help p q = absurd (other_first words (codes "merge") (codes "--help") (behind_name l ps) [] p.spelled q.spelled (omega arith))
spelled_once words (merge l ps) version p q = absurd (other_first words (codes "merge") (codes "--version") (behind_name l ps) [] p.spelled q.spelled (omega arith))
spelled_once words (merge l ps) (explain w) p q = absurd (other_first words (codes "merge") (codes "--explain") (behind_name l ps) (w ∷ []) p.spelled q.spelled (omega arith))
spelled_once words (play l ps) (show b y g) p q = absurd (other_letter words (codes "play") (codes "show") (behind_name l ps) (show_words b y g) p.spelled q.spelled (omega arith))
spelled_once words (play l ps) (extract u m j g) p q = absurd (other_first words (codes "play") (codes "extract") (behind_name l ps) (tid_words u ++ behind_tid m j g) p.spelled q.spelled (omega arith))
spelled_once words (play l ps) (check_extract u j g) p q = absurd (other_first words (codes "play") (codes "check") (behind_name l ps) (codes "extract" ∷ (tid_words u ++ behind_level j g)) p.spelled q.spelled (omega arith))
spelled_once words (play l ps) (merge m qs) p q = absurd (other_first words (codes "play") (codes "merge") (behind_name l ps) (behind_name m qs) p.spelled q.spelled (omega arith))
spelled_once words (play l ps) (play m qs) p q =
    let one = same_names words (codes "play") l m ps qs p.spelled q.spelled p.named.0 p.named.2 q.named.0 q.named.2 in
    same_play l m ps qs one.0 one.1
spelled_once words (play l ps) (check_merge qs) p q = absurd (other_first words (codes "play") (codes "check") (behind_name l ps) (codes "merge" ∷ map placing_word qs) p.spelled q.spelled (omega arith))
spelled_once words (play l ps) (verify g qs) p q = absurd (other_first words (codes "play") (codes "verify") (behind_name l ps) (codes "merge" ∷ g ∷ map placing_word qs) p.spelled q.spelled (omega arith))
spelled_once words (play l ps) (trial u m j) p q = absurd (other_first words (codes "play") (codes "trial") (behind_name l ps) (numbers u m j) p.spelled q.spelled (omega arith))
spelled_once words (play l ps) help p q = absurd (other_first words (codes "play") (codes "--help") (behind_name l ps) [] p.spelled q.spelled (omega arith))
spelled_once words (play l ps) version p q = absurd (other_first words (codes "play") (codes "--version") (behind_name l ps) [] p.spelled q.spelled (omega arith))
spelled_once words (play l ps) (explain w) p q = absurd (other_first words (codes "play") (codes "--explain") (behind_name l ps) (w ∷ []) p.spelled q.spelled (omega arith))
spelled_once words (check_merge ps) (show b y g) p q = absurd (other_first words (codes "check") (codes "show") (codes "merge" ∷ map placing_word ps) (show_words b y g) p.spelled q.spelled (omega arith))
spelled_once words (check_merge ps) (extract u m j g) p q = absurd (other_first words (codes "check") (codes "extract") (codes "merge" ∷ map placing_word ps) (tid_words u ++ behind_tid m j g) p.spelled q.spelled (omega arith))
spelled_once words (check_merge ps) (check_extract u j g) p q = absurd (other_second words (codes "check") (codes "check") (codes "merge") (codes "extract") (map placing_word ps) (tid_words u ++ behind_level j g) p.spelled q.spelled (omega arith))
spelled_once words (check_merge ps) (merge m qs) p q = absurd (other_letter words (codes "check") (codes "merge") (codes "merge" ∷ map placing_word ps) (behind_name m qs) p.spelled q.spelled (omega arith))
spelled_once words (check_merge ps) (play m qs) p q = absurd (other_first words (codes "check") (codes "play") (codes "merge" ∷ map placing_word ps) (behind_name m qs) p.spelled q.spelled (omega arith))
spelled_once words (check_merge ps) (check_merge qs) p q =
    let same : map placing_word ps ≡ map placing_word qs = ap (λ (ws : List (List ℕ)). drop 2 ws) (sym p.spelled ∙ q.spelled) in
    ap check_merge (sym (placings_read ps p.named.1) ∙ ap (λ (ws : List (List ℕ)). map placing_in ws) same ∙ placings_read qs q.named.1)
spelled_once words (check_merge ps) (verify g qs) p q = absurd (other_first words (codes "check") (codes "verify") (codes "merge" ∷ map placing_word ps) (codes "merge" ∷ g ∷ map placing_word qs) p.spelled q.spelled (omega arith))
spelled_once words (check_merge ps) (trial u m j) p q = absurd (other_letter words (codes "check") (codes "trial") (codes "merge" ∷ map placing_word ps) (numbers u m j) p.spelled q.spelled (omega arith))
spelled_once words (check_merge ps) help p q = absurd (other_first words (codes "check") (codes "--help") (codes "merge" ∷ map placing_word ps) ([]) p.spelled q.spelled (omega arith))
spelled_once words (check_merge ps) version p q = absurd (other_first words (codes "check") (codes "--version") (codes "merge" ∷ map placing_word ps) ([]) p.spelled q.spelled (omega arith))
spelled_once words (check_merge ps) (explain w) p q = absurd (other_first words (codes "check") (codes "--explain") (codes "merge" ∷ map placing_word ps) (w ∷ []) p.spelled q.spelled (omega arith))
spelled_once words (verify f ps) (show b y g) p q = absurd (other_first words (codes "verify") (codes "show") (codes "merge" ∷ f ∷ map placing_word ps) (show_words b y g) p.spelled q.spelled (omega arith))
spelled_once words (verify f ps) (extract u m j g) p q = absurd (other_first words (codes "verify") (codes "extract") (codes "merge" ∷ f ∷ map placing_word ps) (tid_words u ++ behind_tid m j g) p.spelled q.spelled (omega arith))
spelled_once words (verify f ps) (check_extract u j g) p q = absurd (other_first words (codes "verify") (codes "check") (codes "merge" ∷ f ∷ map placing_word ps) (codes "extract" ∷ (tid_words u ++ behind_level j g)) p.spelled q.spelled (omega arith))
spelled_once words (verify f ps) (merge m qs) p q = absurd (other_first words (codes "verify") (codes "merge") (codes "merge" ∷ f ∷ map placing_word ps) (behind_name m qs) p.spelled q.spelled (omega arith))
spelled_once words (verify f ps) (play m qs) p q = absurd (other_first words (codes "verify") (codes "play") (codes "merge" ∷ f ∷ map placing_word ps) (behind_name m qs) p.spelled q.spelled (omega arith))
spelled_once words (verify f ps) (check_merge qs) p q = absurd (other_first words (codes "verify") (codes "check") (codes "merge" ∷ f ∷ map placing_word ps) (codes "merge" ∷ map placing_word qs) p.spelled q.spelled (omega arith))
spelled_once words (verify f ps) (verify g qs) p q =
    let file : f ≡ g = ap (λ (ws : List (List ℕ)). get_or ws 2 []) (sym p.spelled ∙ q.spelled) in
    let same : map placing_word ps ≡ map placing_word qs = ap (λ (ws : List (List ℕ)). drop 3 ws) (sym p.spelled ∙ q.spelled) in
    same_verify f g ps qs file (sym (placings_read ps p.named.2) ∙ ap (λ (ws : List (List ℕ)). map placing_in ws) same ∙ placings_read qs q.named.2)
spelled_once words (verify f ps) (trial u m j) p q = absurd (other_first words (codes "verify") (codes "trial") (codes "merge" ∷ f ∷ map placing_word ps) (numbers u m j) p.spelled q.spelled (omega arith))
spelled_once words (verify f ps) help p q = absurd (other_letter words (codes "verify") (codes "--help") (codes "merge" ∷ f ∷ map placing_word ps) [] p.spelled q.spelled (omega arith))
spelled_once words (verify f ps) version p q = absurd (other_first words (codes "verify") (codes "--version") (codes "merge" ∷ f ∷ map placing_word ps) [] p.spelled q.spelled (omega arith))
spelled_once words (verify f ps) (explain w) p q = absurd (other_first words (codes "verify") (codes "--explain") (codes "merge" ∷ f ∷ map placing_word ps) (w ∷ []) p.spelled q.spelled (omega arith))
spelled_once words (trial s n k) (show b y g) p q = absurd (other_first words (codes "trial") (codes "show") (numbers s n k) (show_words b y g) p.spelled q.spelled (omega arith))
spelled_once words (trial s n k) (extract u m j g) p q = absurd (other_first words (codes "trial") (codes "extract") (numbers s n k) (tid_words u ++ behind_tid m j g) p.spelled q.spelled (omega arith))
spelled_once words (trial s n k) (check_extract u j g) p q = absurd (other_letter words (codes "trial") (codes "check") (numbers s n k) (codes "extract" ∷ (tid_words u ++ behind_level j g)) p.spelled q.spelled (omega arith))
spelled_once words (trial s n k) (merge m qs) p q = absurd (other_letter words (codes "trial") (codes "merge") (numbers s n k) (behind_name m qs) p.spelled q.spelled (omega arith))
spelled_once words (trial s n k) (play m qs) p q = absurd (other_first words (codes "trial") (codes "play") (numbers s n k) (behind_name m qs) p.spelled q.spelled (omega arith))
spelled_once words (trial s n k) (check_merge qs) p q = absurd (other_letter words (codes "trial") (codes "check") (numbers s n k) (codes "merge" ∷ map placing_word qs) p.spelled q.spelled (omega arith))
spelled_once words (trial s n k) (verify g qs) p q = absurd (other_first words (codes "trial") (codes "verify") (numbers s n k) (codes "merge" ∷ g ∷ map placing_word qs) p.spelled q.spelled (omega arith))
spelled_once words (trial s n k) (trial u m j) p q = same_trial words s u n m k j p q
spelled_once words (trial s n k) help p q = absurd (other_first words (codes "trial") (codes "--help") (numbers s n k) [] p.spelled q.spelled (omega arith))
spelled_once words (trial s n k) version p q = absurd (other_first words (codes "trial") (codes "--version") (numbers s n k) [] p.spelled q.spelled (omega arith))
spelled_once words (trial s n k) (explain w) p q = absurd (other_first words (codes "trial") (codes "--explain") (numbers s n k) (w ∷ []) p.spelled q.spelled (omega arith))
spelled_once words help (show b y g) p q = absurd (other_first words (codes "--help") (codes "show") [] (show_words b y g) p.spelled q.spelled (omega arith))
spelled_once words help (extract u m j g) p q = absurd (other_first words (codes "--help") (codes "extract") [] (tid_words u ++ behind_tid m j g) p.spelled q.spelled (omega arith))
spelled_once words help (check_extract u j g) p q = absurd (other_first words (codes "--help") (codes "check") [] (codes "extract" ∷ (tid_words u ++ behind_level j g)) p.spelled q.spelled (omega arith))
spelled_once words help (merge m qs) p q = absurd (other_first words (codes "--help") (codes "merge") [] (behind_name m qs) p.spelled q.spelled (omega arith))
spelled_once words help (play m qs) p q = absurd (other_first words (codes "--help") (codes "play") [] (behind_name m qs) p.spelled q.spelled (omega arith))
spelled_once words help (check_merge qs) p q = absurd (other_first words (codes "--help") (codes "check") ([]) (codes "merge" ∷ map placing_word qs) p.spelled q.spelled (omega arith))
spelled_once words help (verify g qs) p q = absurd (other_letter words (codes "--help") (codes "verify") [] (codes "merge" ∷ g ∷ map placing_word qs) p.spelled q.spelled (omega arith))
spelled_once words help (trial u m j) p q = absurd (other_first words (codes "--help") (codes "trial") [] (numbers u m j) p.spelled q.spelled (omega arith))
spelled_once words help help p q = refl
spelled_once words help version p q = absurd (other_first words (codes "--help") (codes "--version") [] [] p.spelled q.spelled (omega arith))
spelled_once words help (explain w) p q = absurd (other_first words (codes "--help") (codes "--explain") [] (w ∷ []) p.spelled q.spelled (omega arith))
spelled_once words version (show b y g) p q = absurd (other_first words (codes "--version") (codes "show") [] (show_words b y g) p.spelled q.spelled (omega arith))
spelled_once words version (extract u m j g) p q = absurd (other_first words (codes "--version") (codes "extract") [] (tid_words u ++ behind_tid m j g) p.spelled q.spelled (omega arith))
spelled_once words version (check_extract u j g) p q = absurd (other_first words (codes "--version") (codes "check") [] (codes "extract" ∷ (tid_words u ++ behind_level j g)) p.spelled q.spelled (omega arith))
spelled_once words version (merge m qs) p q = absurd (other_first words (codes "--version") (codes "merge") [] (behind_name m qs) p.spelled q.spelled (omega arith))
spelled_once words version (play m qs) p q = absurd (other_first words (codes "--version") (codes "play") [] (behind_name m qs) p.spelled q.spelled (omega arith))
spelled_once words version (check_merge qs) p q = absurd (other_first words (codes "--version") (codes "check") ([]) (codes "merge" ∷ map placing_word qs) p.spelled q.spelled (omega arith))
spelled_once words version (verify g qs) p q = absurd (other_first words (codes "--version") (codes "verify") [] (codes "merge" ∷ g ∷ map placing_word qs) p.spelled q.spelled (omega arith))
spelled_once words version (trial u m j) p q = absurd (other_first words (codes "--version") (codes "trial") [] (numbers u m j) p.spelled q.spelled (omega arith))
spelled_once words version help p q = absurd (other_first words (codes "--version") (codes "--help") [] [] p.spelled q.spelled (omega arith))
spelled_once words version version p q = refl
spelled_once words version (explain w) p q = absurd (omega (arith, ap (λ (ws : List (List ℕ)). length ws) (sym p.spelled ∙ q.spelled)))
spelled_once words (explain v) (show b y g) p q = absurd (other_first words (codes "--explain") (codes "show") (v ∷ []) (show_words b y g) p.spelled q.spelled (omega arith))
spelled_once words (explain v) (extract u m j g) p q = absurd (other_first words (codes "--explain") (codes "extract") (v ∷ []) (tid_words u ++ behind_tid m j g) p.spelled q.spelled (omega arith))
spelled_once words (explain v) (check_extract u j g) p q = absurd (other_first words (codes "--explain") (codes "check") (v ∷ []) (codes "extract" ∷ (tid_words u ++ behind_level j g)) p.spelled q.spelled (omega arith))
spelled_once words (explain v) (merge m qs) p q = absurd (other_first words (codes "--explain") (codes "merge") (v ∷ []) (behind_name m qs) p.spelled q.spelled (omega arith))
spelled_once words (explain v) (play m qs) p q = absurd (other_first words (codes "--explain") (codes "play") (v ∷ []) (behind_name m qs) p.spelled q.spelled (omega arith))
spelled_once words (explain v) (check_merge qs) p q = absurd (other_first words (codes "--explain") (codes "check") (v ∷ []) (codes "merge" ∷ map placing_word qs) p.spelled q.spelled (omega arith))
spelled_once words (explain v) (verify g qs) p q = absurd (other_first words (codes "--explain") (codes "verify") (v ∷ []) (codes "merge" ∷ g ∷ map placing_word qs) p.spelled q.spelled (omega arith))
spelled_once words (explain v) (trial u m j) p q = absurd (other_first words (codes "--explain") (codes "trial") (v ∷ []) (numbers u m j) p.spelled q.spelled (omega arith))
spelled_once words (explain v) help p q = absurd (other_first words (codes "--explain") (codes "--help") (v ∷ []) [] p.spelled q.spelled (omega arith))
spelled_once words (explain v) version p q = absurd (omega (arith, ap (λ (ws : List (List ℕ)). length ws) (sym p.spelled ∙ q.spelled)))
spelled_once words (explain v) (explain w) p q = ap (λ ws. explain (get_or ws 1 [])) (sym p.spelled ∙ q.spelled)
