-- Units that are written one behind another.
use Rattle.std.proofs.Common.{◌≡◌, ℕ, ◌+◌, ◌<◌, List, [], ◌∷◌, ◌++◌, take, drop, length, map, get_or, Option, Result, Ok, Err, sym, ap, subst, ◌∙◌}
use Rattle.std.specs.Io.KnownBytes.{Appends}
use Rattle.std.proofs.KnownBytes.{Appends-trans}
use Rattle.std.proofs.lemmas.Grind.{flat_map-append}
use Rattle.std.proofs.lemmas.List.{map-append, take_more, take-append-drop}
use Rattle.vx_io.specs.Faults.{Rose}
use Rattle.vx_io.specs.Written.{AppendsFront}
use Rattle.vx_io.specs.declared.write.SinkFailed.{SinkFailed}
use Rattle.vx_io.proofs.WrittenLemmas.{AppendsFront-append, AppendsFront-after}
use Rattle.vx_annexb.specs.ByteStream.{long_start_code}
use Rattle.vx_annexb.specs.Laws.{written}
use Rattle.vx_write.specs.Writing.{Takes}

written_append : (xs ys : List (List ℕ)) → written (xs ++ ys) ≡ written xs ++ written ys
written_append xs ys = flat_map-append (λ unit. long_start_code ++ unit) xs ys

-- units, and then others
pub takes_then : (a b c : Option (List ℕ)) (k l m : ℕ) (xs ys : List (List ℕ)) (r : Result (Unit {0}) SinkFailed)
    → Takes a b k l xs (Ok tt) → Takes b c l m ys r → Takes a c k m (xs ++ ys) r
takes_then a b c k l m xs ys (Ok _) first rest = record {
  ok = subst (Appends a c) (sym (written_append xs ys)) (Appends-trans a b c (written xs) (written ys) first.ok rest.ok);
  err = tt;
  faults = rest.faults ∙ first.faults;
}
takes_then a b c k l m xs ys (Err _) first rest = record {
  ok = tt;
  err = subst (AppendsFront a c) (sym (written_append xs ys)) (AppendsFront-after a b c (written xs) (written ys) first.ok rest.err);
  faults = subst (λ n. Rose n m) first.faults rest.faults;
}

-- a front of units is one of these and others
pub takes_cut : (a b : Option (List ℕ)) (k l : ℕ) (xs ys : List (List ℕ)) (e other : SinkFailed) → Takes a b k l xs (Err e) → Takes a b k l (xs ++ ys) (Err other)
takes_cut a b k l xs ys e other part = record {
  ok = tt;
  err = subst (AppendsFront a b) (sym (written_append xs ys)) (AppendsFront-append a b (written xs) (written ys) part.err);
  faults = part.faults;
}

-- all units are the first ones, one more, and others
pub list_split : {V : Type 0} (f : V → List ℕ) (xs : List V) (i : ℕ) (x : V) → i < length xs → x ≡ get_or xs i x
    → (rest : List (List ℕ)) × (map f xs ≡ (map f (take i xs) ++ f x ∷ []) ++ rest)
list_split f xs i x within at = (
  map f (drop (i + 1) xs),
  ap (map f) (sym (take-append-drop (i + 1) xs))
      ∙ map-append f (take (i + 1) xs) (drop (i + 1) xs)
      ∙ ap (λ ys. map f ys ++ map f (drop (i + 1) xs)) (take_more xs i x within ∙ ap (λ y. take i xs ++ y ∷ []) (sym at))
      ∙ ap (λ ys. ys ++ map f (drop (i + 1) xs)) (map-append f (take i xs) (x ∷ [])),
)

-- the first units were written, and a front of what comes behind them
pub takes_stop : (a b c : Option (List ℕ)) (k l m : ℕ) (xs ys all : List (List ℕ)) (e other : SinkFailed)
    → (rest : List (List ℕ)) × (all ≡ (xs ++ ys) ++ rest) → Takes a b k l xs (Ok tt) → Takes b c l m ys (Err e) → Takes a c k m all (Err other)
takes_stop a b c k l m xs ys all e other split first part =
    subst (λ us. Takes a c k m us (Err other)) (sym split.1) (takes_cut a c k m (xs ++ ys) split.0 e other (takes_then a b c k l m xs ys (Err e) first part))
