-- Streams that are cut off the front of bytes, one after another.
use Rattle.std.proofs.Common.{◌≡◌, ◌≢◌, ℕ, ◌+◌, ◌<◌, ◌≤◌, All, List, [], ◌∷◌, ◌++◌, length, map, take, get_or, refl, sym, ap, ◌∙◌, subst, arith}
use Rattle.std.specs.List.{concat, sum, IsSplitAt}
use Rattle.vx_run.specs.Grammar.{IsUnderstood, NamesFiles}
use Rattle.vx_c.specs.InMemory.{AreStreams}
use Rattle.std.proofs.lemmas.List.{take_more, take_all, map-append, length-append, append-nil, append_assoc, take-append-drop, length-map}
use Rattle.std.proofs.lemmas.List.Elements.{All-get_or}
use Rattle.std.proofs.lemmas.List.Folds.{concat-append}
use Rattle.std.proofs.lemmas.List.Sums.{sum_by_more_le, sum_by-append}

-- what is cut in two is its parts
cut_joined : (rest front behind : List ℕ) (n : ℕ) → IsSplitAt rest n front behind → front ++ behind ≡ rest
cut_joined rest front behind n (_, is_front, is_behind, _, _) = rw (is_front, is_behind) (take-append-drop n rest)

cut_size : (rest front behind : List ℕ) (n : ℕ) → IsSplitAt rest n front behind → length front ≡ n
cut_size rest front behind n (_, _, _, size, _) = size

-- one more of them
pub joined_more : {A : Type 0} (f : A → List ℕ) (xs all : List A) (y : A) (bytes rest front behind : List ℕ) (n : ℕ)
    → all ≡ xs ++ y ∷ [] → concat (map f xs) ++ rest ≡ bytes → f y ≡ front → IsSplitAt rest n front behind → concat (map f all) ++ behind ≡ bytes
joined_more f xs all y bytes rest front behind n pushed so is cut =
    let a : concat (map f (xs ++ y ∷ [])) ≡ concat (map f xs) ++ concat (map f (y ∷ [])) =
    rw (map-append f xs (y ∷ [])) (concat-append (map f xs) (map f (y ∷ []))) in
    rw (pushed, a, is, append-nil front, append_assoc (concat (map f xs)) front behind, cut_joined rest front behind n cut) so

-- and its size
pub sized_more : {A : Type 0} (f : A → List ℕ) (xs all : List A) (y : A) (rest front behind : List ℕ) (n : ℕ) (sizes : List ℕ) (i : ℕ)
    → all ≡ xs ++ y ∷ [] → i < length sizes → map length (map f xs) ≡ take i sizes → f y ≡ front → IsSplitAt rest n front behind
    → n ≡ get_or sizes i 0 → map length (map f all) ≡ take (i + 1) sizes
sized_more f xs all y rest front behind n sizes i pushed within so is cut size =
    let one : length (f y) ≡ get_or sizes i 0 = ap length is ∙ cut_size rest front behind n cut ∙ size in
    rw (pushed, map-append f xs (y ∷ []), map-append length (map f xs) (map f (y ∷ [])), take_more sizes i 0 within, so, one) refl

-- they have as many bytes as their sizes come to
joined_size : (streams : List (List ℕ)) → length (concat streams) ≡ sum (map length streams)
joined_size [] = refl
joined_size (s ∷ ss) =
    let a : length (s ++ concat ss) ≡ length s + length (concat ss) = length-append s (concat ss) in
    let b : length (concat ss) ≡ sum (map length ss) = joined_size ss in
    let c : sum (length s ∷ map length ss) ≡ (0 + length s) + sum (map length ss) = sum_by-append (λ x. x) (length s ∷ []) (map length ss) in
    omega (arith, a, b, c)

-- one that is longer than what is left: the sizes come to more than the bytes
pub longer : {A : Type 0} (f : A → List ℕ) (xs : List A) (bytes rest : List ℕ) (sizes : List ℕ) (i : ℕ) → i < length sizes
    → concat (map f xs) ++ rest ≡ bytes → map length (map f xs) ≡ take i sizes → length rest < get_or sizes i 0 → sum sizes ≢ length bytes
longer f xs bytes rest sizes i within so sized short same =
    let a : length bytes ≡ sum (take i sizes) + length rest =
    rw (sym so, length-append (concat (map f xs)) rest, joined_size (map f xs), sized) refl in
    let b : sum (take i sizes) + get_or sizes i 0 ≤ sum sizes = sum_by_more_le (λ x. x) sizes i 0 within in
    absurd (omega (arith, a, b, short, same))

-- bytes that are left behind the last: the sizes come to fewer
pub shorter : {A : Type 0} (f : A → List ℕ) (xs : List A) (bytes rest : List ℕ) (sizes : List ℕ) (i : ℕ) → length sizes ≤ i
    → concat (map f xs) ++ rest ≡ bytes → map length (map f xs) ≡ take i sizes → 0 < length rest → sum sizes ≢ length bytes
shorter f xs bytes rest sizes i all so sized some same =
    let whole : take i sizes ≡ sizes = take_all i sizes all in
    let a : length bytes ≡ sum sizes + length rest =
    rw (sym so, length-append (concat (map f xs)) rest, joined_size (map f xs), sized, whole) refl in
    absurd (omega (arith, a, some, same))

-- none are left
pub joined_all : {A : Type 0} (f : A → List ℕ) (xs : List A) (bytes rest : List ℕ) → concat (map f xs) ++ rest ≡ bytes → length rest ≡ 0
    → concat (map f xs) ≡ bytes
joined_all f xs bytes [] so none = subst (λ ys. ys ≡ bytes) (append-nil (concat (map f xs))) so
joined_all f xs bytes (b ∷ bs) so none = absurd (omega (arith, none))

pub sized_all : {A : Type 0} (f : A → List ℕ) (xs : List A) (sizes : List ℕ) (i : ℕ) → map length (map f xs) ≡ take i sizes → length sizes ≤ i
    → map length (map f xs) ≡ sizes
sized_all f xs sizes i so all = subst (λ ys. map length (map f xs) ≡ ys) (take_all i sizes all) so

-- words that are the same as pieces, and one more of each
pub same_more : {A B : Type 0} (f : A → List ℕ) (g : B → List ℕ) (xs all : List A) (ys : List B) (x : A) (y : B) → all ≡ xs ++ x ∷ []
    → map f xs ≡ map g ys → f x ≡ g y → map f all ≡ map g (ys ++ y ∷ [])
same_more f g xs all ys x y pushed so is = rw (pushed, map-append f xs (x ∷ []), map-append g ys (y ∷ []), so, is) refl

-- the sizes of streams that stand one after another come to the bytes
pub sized : (bytes sizes : List ℕ) (streams : List (List ℕ)) → AreStreams bytes sizes streams → sum sizes ≡ length bytes
sized bytes sizes streams are = sym (ap length (sym are.joined) ∙ joined_size streams ∙ ap sum are.lengths)

-- there are as many as there are sizes
pub counted : {A : Type 0} (f : A → List ℕ) (xs : List A) (sizes : List ℕ) → map length (map f xs) ≡ sizes → length xs ≡ length sizes
counted f xs sizes e = sym (length-map xs f) ∙ sym (length-map (map f xs) length) ∙ ap length e

-- where one isn't so, not all are
pub not_all : (P : List ℕ → Type 0) (words : List (List ℕ)) (word : List ℕ) (k : ℕ) → (k < length words) × (word ≡ get_or words k word) → ¬ P word → ¬ All P words
not_all P words word k (within, is) wrong every = wrong (subst P (sym is) (All-get_or P words k word within every))

-- words name one number of files
pub unlike : (words same : List (List ℕ)) (n m : ℕ) → NamesFiles words n → words ≡ same → n ≢ m → ¬ NamesFiles same m
unlike words same n m mine is differ other =
    let theirs : NamesFiles words m = rw is other in
    let nothing : ¬ IsUnderstood words = λ understood. differ (mine.command understood.0 understood.1 ∙ sym (theirs.command understood.0 understood.1)) in
    differ (mine.other nothing ∙ sym (theirs.other nothing))
