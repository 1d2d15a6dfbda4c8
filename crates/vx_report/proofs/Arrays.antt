-- JSON arrays, as their values are pushed.
use Rattle.std.proofs.Common.{◌≡◌, ℕ, ◌+◌, ◌≤◌, List, [], ◌∷◌, ◌++◌, ◌∙◌, take, map, slice_get, Some, length, take_all, Bor, refl, sym, ap}
use Rattle.std.proofs.lemmas.List.{map-append, take_more}
use Rattle.std.proofs.lemmas.Option.{slice_get_within, get_or_from_slice_get}
use Rattle.serde_json.specs.Data.{Data}
use Rattle.serde_json.specs.View.{view}
use Rattle.serde_json.specs.declared.value.Value.{Value}
use Rattle.vx_layout.specs.declared.rect.Rect.{Rect}
use Rattle.vx_rpl.specs.declared.entry.RefEntry.{RefEntry}
use Rattle.vx_report.specs.SliceLine.{natural_data, bytes_data, entry_data, rect_data}

-- so far, and one more
more : {A : Type 0} (f : A → Data) (xs : List A) (i : ℕ) (x : A) (old new : List Value) (value : Value) → slice_get xs i ≡ Some x
    → map view old ≡ map f (take i xs) → view value ≡ f x → new ≡ old ++ value ∷ [] → map view new ≡ map f (take (i + 1) xs)
more f xs i x old new value at is one pushed =
    ap (map view) pushed
    ∙ map-append view old (value ∷ [])
    ∙ ap (λ ys. ys ++ view value ∷ []) is
    ∙ ap (λ y. map f (take i xs) ++ y ∷ []) one
    ∙ sym (map-append f (take i xs) (x ∷ []))
    ∙ ap (λ y. map f (take i xs ++ y ∷ [])) (sym (get_or_from_slice_get xs i x x at))
    ∙ ap (map f) (sym (take_more xs i x (slice_get_within xs i x at)))

pub numbers_more : (xs : List ℕ) (i x : ℕ) (old new : List Value) (value : Value) → slice_get xs i ≡ Some x
    → map view old ≡ map natural_data (take i xs) → view value ≡ natural_data x → new ≡ old ++ value ∷ []
    → map view new ≡ map natural_data (take (i + 1) xs)
numbers_more = more natural_data

-- borrowed bodies
pub bodies_more : (xs : List (Bor (List ℕ))) (i : ℕ) (x : Bor (List ℕ)) (old new : List Value) (value : Value) → slice_get xs i ≡ Some x
    → map view old ≡ map (λ body. bytes_data body.now) (take i xs) → view value ≡ bytes_data x.now → new ≡ old ++ value ∷ []
    → map view new ≡ map (λ body. bytes_data body.now) (take (i + 1) xs)
bodies_more = more (λ body. bytes_data body.now)

each_now : (xs : List (Bor (List ℕ))) → map (λ body. bytes_data body.now) xs ≡ map bytes_data (map (λ body. body.now) xs)
each_now [] = refl
each_now (x ∷ xs) = ap (λ ds. bytes_data x.now ∷ ds) (each_now xs)

pub bodies_all : (xs : List (Bor (List ℕ))) (i : ℕ) (values : List Value) → length xs ≤ i
    → map view values ≡ map (λ body. bytes_data body.now) (take i xs) → map view values ≡ map bytes_data (map (λ body. body.now) xs)
bodies_all xs i values long is = is ∙ ap (map (λ body. bytes_data body.now)) (take_all i xs long) ∙ each_now xs

pub entries_more : (xs : List RefEntry) (i : ℕ) (x : RefEntry) (old new : List Value) (value : Value) → slice_get xs i ≡ Some x
    → map view old ≡ map entry_data (take i xs) → view value ≡ entry_data x → new ≡ old ++ value ∷ []
    → map view new ≡ map entry_data (take (i + 1) xs)
entries_more = more entry_data

pub rects_more : (xs : List Rect) (i : ℕ) (x : Rect) (old new : List Value) (value : Value) → slice_get xs i ≡ Some x
    → map view old ≡ map rect_data (take i xs) → view value ≡ rect_data x → new ≡ old ++ value ∷ []
    → map view new ≡ map rect_data (take (i + 1) xs)
rects_more = more rect_data
