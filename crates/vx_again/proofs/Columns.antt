-- Rounds that are taken off all of several streams at once.
use Rattle.std.proofs.Common.{◌≡◌, ℕ, zero, suc, List, [], ◌∷◌, length, map, slice_get, Some, refl, ap, sym, subst, ◌∙◌, arith}
use Rattle.std.specs.Prelude.{drop, option_map}
use Rattle.std.specs.List.{AllByRecursion, AllZip}
use Rattle.std.proofs.lemmas.List.{length-map}
use Rattle.std.proofs.lemmas.Option.{none-some, same_Some, slice_get-map}
use Rattle.vx_pic.specs.Finished.{IsSoundPicture}
use Rattle.vx_pic.specs.Parts.{Parts, parts_of}
use Rattle.vx_pic.specs.Readings.{Picture}
use Rattle.vx_pic.specs.Rules.{Readers}
use Rattle.vx_frame.specs.declared.corner.Corner.{Corner}
use Rattle.vx_frame.specs.Corners.{AreCorners}
use Rattle.vx_again.specs.Frames.{IsReadyRound}
use Rattle.vx_again.specs.Sources.{CanBeMerged, IsSource}
use Rattle.vx_again.specs.Streams.{earlier, lasts}

-- ---- lists

head_or : {A : Type 0} → A → List A → A
head_or d [] = d
head_or d (x ∷ xs) = x

tail_of : {A : Type 0} → List A → List A
tail_of [] = []
tail_of (x ∷ xs) = xs

pub cons_parts : {A : Type 0} (x y : A) (xs ys : List A) → x ∷ xs ≡ y ∷ ys → (x ≡ y) × (xs ≡ ys)
unfolding head_or tail_of
cons_parts x y xs ys same = (ap (head_or x) same, ap tail_of same)

zip_long : {A B : Type 0} (P : A → B → Type 0) (xs : List A) (ys : List B) → AllZip P xs ys → length xs ≡ length ys
zip_long P [] [] all = refl
zip_long P [] (y ∷ ys) all = absurd all
zip_long P (x ∷ xs) [] all = absurd all
zip_long P (x ∷ xs) (y ∷ ys) all = ap suc (zip_long P xs ys all.1)

to_parts : (P : Parts → Type 0) (pics : List Picture) → AllByRecursion (λ q. P (parts_of q)) pics → AllByRecursion P (map parts_of pics)
to_parts P [] all = tt
to_parts P (q ∷ pics) all = (all.0, to_parts P pics all.1)

-- ---- a stream and its last picture

pub record IsLast (ps : List Picture) (q : Picture) : Type 0 where
  pub is : ps ≡ q ∷ drop 1 ps

last_is : (ps : List Picture) (q : Picture) → slice_get ps 0 ≡ Some q → IsLast ps q
last_is [] q at = absurd (none-some q at)
last_is (p ∷ ps) q at = record { is = ap (λ x. x ∷ ps) (same_Some p q at) }

pub all_last : (sources : List (List Picture)) (round : List Picture) → lasts sources ≡ map (λ q. Some q) round
    → AllZip IsLast sources round
all_last [] [] same = tt
all_last [] (q ∷ round) same = absurd (omega (arith, ap (λ xs. length xs) same))
all_last (ps ∷ sources) [] same = absurd (omega (arith, ap (λ xs. length xs) same))
all_last (ps ∷ sources) (q ∷ round) same =
    let parts = cons_parts (slice_get ps 0) (Some q) (lasts sources) (map (λ x. Some x) round) same in
    (last_is ps q parts.0, all_last sources round parts.1)

-- ---- what is known of it

pub record IsSoundLast (R : Readers) (ps : List Picture) (q : Picture) : Type 0 where
  pub sound : IsSoundPicture R (drop 1 ps) q
  pub source : IsSource (parts_of q)

can_last : (R : Readers) (q : Picture) (before : List Picture) → CanBeMerged R (q ∷ before) → IsSoundPicture R before q × IsSource (parts_of q)
can_last R q before can = (can.finished.0, can.each.0)

sound_last : (R : Readers) (ps : List Picture) (q : Picture) → IsLast ps q → CanBeMerged R ps → IsSoundLast R ps q
sound_last R ps q last_ can =
    let both = can_last R q (drop 1 ps) (subst (CanBeMerged R) last_.is can) in
    record { sound = both.0; source = both.1 }

pub sound_lasts : (R : Readers) (sources : List (List Picture)) (round : List Picture) → AllZip IsLast sources round
    → AllByRecursion (CanBeMerged R) sources → AllZip (IsSoundLast R) sources round
sound_lasts R [] [] all can = tt
sound_lasts R [] (q ∷ round) all can = absurd all
sound_lasts R (ps ∷ sources) [] all can = absurd all
sound_lasts R (ps ∷ sources) (q ∷ round) all can = (sound_last R ps q all.0 can.0, sound_lasts R sources round all.1 can.1)

pub sources_are : (R : Readers) (sources : List (List Picture)) (round : List Picture) → AllZip (IsSoundLast R) sources round
    → AllByRecursion (λ q. IsSource (parts_of q)) round
sources_are R [] [] sounds = tt
sources_are R [] (q ∷ round) sounds = absurd sounds
sources_are R (ps ∷ sources) [] sounds = absurd sounds
sources_are R (ps ∷ sources) (q ∷ round) sounds = (sounds.0.source, sources_are R sources round sounds.1)

-- it holds of those before it
drop_can : (R : Readers) (ps : List Picture) → CanBeMerged R ps → CanBeMerged R (drop 1 ps)
drop_can R [] can = can
drop_can R (p ∷ ps) can = record { finished = can.finished.2; each = can.each.1 }

pub earlier_can : (R : Readers) (sources : List (List Picture)) → AllByRecursion (CanBeMerged R) sources
    → AllByRecursion (CanBeMerged R) (earlier sources)
earlier_can R [] can = tt
earlier_can R (ps ∷ sources) can = (drop_can R ps can.0, earlier_can R sources can.1)

-- there are as many before them
pub earlier_long : (corners : List Corner) (sources : List (List Picture)) → length corners ≡ length sources
    → length corners ≡ length (earlier sources)
earlier_long corners sources same = same ∙ sym (length-map sources (λ ps. drop 1 ps))

-- ---- the round that they make up

pub ready_round : (R : Readers) (corners : List Corner) (sources : List (List Picture)) (round : List Picture) → AreCorners corners
    → length corners ≡ length sources
    → AllZip (IsSoundLast R) sources round → IsReadyRound corners (map parts_of round)
ready_round R corners sources round are same sounds = record {
  are = are;
  same = same ∙ zip_long (IsSoundLast R) sources round sounds ∙ sym (length-map round parts_of);
  each = to_parts IsSource round (sources_are R sources round sounds);
}

-- ---- stream k

pub last_at : (sources : List (List Picture)) (round : List Picture) (k : ℕ) (ps : List Picture) → AllZip IsLast sources round
    → slice_get sources k ≡ Some ps → (q : Picture) × (slice_get round k ≡ Some q) × IsLast ps q
last_at [] round k ps all at = absurd (none-some ps at)
last_at (s ∷ sources) [] k ps all at = absurd all
last_at (s ∷ sources) (q ∷ round) zero ps all at = (q, refl, subst (λ x. IsLast x q) (same_Some s ps at) all.0)
last_at (s ∷ sources) (q ∷ round) (suc k) ps all at = last_at sources round k ps all.1 at

pub earlier_at : (sources : List (List Picture)) (k : ℕ) (ps : List Picture) → slice_get sources k ≡ Some ps
    → slice_get (earlier sources) k ≡ Some (drop 1 ps)
earlier_at sources k ps at = slice_get-map (λ (xs : List Picture). drop 1 xs) sources k
    ∙ ap (option_map (λ (xs : List Picture). drop 1 xs)) at
