-- The rounds of joined streams.
use Rattle.std.proofs.Common.{◌≡◌, List, [], ◌∷◌, ◌++◌, map, drop, slice_get, Option, Some, refl, sym, ◌∙◌, ap, subst}
use Rattle.std.specs.Prelude.{option_map}
use Rattle.std.specs.List.{AllByRecursion, AllZip}
use Rattle.std.proofs.lemmas.Option.{same_Some}
use Rattle.vx_pic.specs.Parts.{Parts, parts_of}
use Rattle.vx_pic.specs.Readings.{Picture}
use Rattle.vx_segments.specs.Alike.{IsReadAlike}
use Rattle.vx_segments.specs.Streams.{IsJoined, MakeRounds, PicturesAlike, RoundsAreReadAlike, CutStream}

abbrev pub head_of : List Picture → Option Parts
head_of ps = option_map parts_of (slice_get ps 0)

abbrev pub there : Parts → Option Parts
there q = Some q

-- ---- one source

-- its latest picture, alone and behind others
record Latest (s : CutStream) (r : Parts) : Type 0 where
  other : Parts
  alike : IsReadAlike r other
  head : head_of s.all ≡ Some other
  rest : IsJoined (record { before = s.before; own = drop 1 s.own; all = drop 1 s.all })

latest_by : (before own all qs : List Picture) (r : Parts) → all ≡ qs ++ before → PicturesAlike own qs → head_of own ≡ Some r
    → Latest (record { before = before; own = own; all = all }) r
latest_by before [] all qs r is alike head = absurd (cc)
latest_by before (p ∷ own) all [] r is alike head = absurd alike
latest_by before (p ∷ own) all (q ∷ qs) r is alike head =
    let same : parts_of p ≡ r = same_Some (parts_of p) r head in
    record {
      other = parts_of q;
      alike = subst (λ (x : Parts). IsReadAlike x (parts_of q)) same alike.0;
      head = ap head_of is;
      rest = (qs, ap (λ (l : List Picture). drop 1 l) is, alike.1);
    }

latest : (s : CutStream) (r : Parts) → IsJoined s → head_of s.own ≡ Some r → Latest s r
latest s r is head = latest_by s.before s.own s.all is.0 r is.1 is.2 head

-- ---- all of them

abbrev befores : List CutStream → List (List Picture)
befores sources = map (λ s. s.before) sources

abbrev owns : List CutStream → List (List Picture)
owns sources = map (λ s. s.own) sources

abbrev alls : List CutStream → List (List Picture)
alls sources = map (λ s. s.all) sources

-- without their latest pictures
record Popped (sources : List CutStream) (round : List Parts) : Type 0 where
  other : List Parts
  alike : AllZip IsReadAlike round other
  less : List CutStream
  joined : AllByRecursion IsJoined less
  before : befores less ≡ befores sources
  own : owns less ≡ map (drop 1) (owns sources)
  all : alls less ≡ map (drop 1) (alls sources)
  heads : map head_of (alls sources) ≡ map there other

popped : (sources : List CutStream) (round : List Parts) → AllByRecursion IsJoined sources → map head_of (owns sources) ≡ map there round → Popped sources round
popped [] [] are heads = record { other = []; alike = tt; less = []; joined = tt; before = refl; own = refl; all = refl; heads = refl }
popped [] (r ∷ round) are heads = absurd (cc)
popped (s ∷ sources) [] are heads = absurd (cc)
popped (s ∷ sources) (r ∷ round) are heads =
    let first : head_of s.own ≡ Some r = cc in
    let rest : map head_of (owns sources) ≡ map there round = cc in
    let one = latest s r are.0 first in
    let more = popped sources round are.1 rest in
    record {
      other = one.other ∷ more.other;
      alike = (one.alike, more.alike);
      less = record { before = s.before; own = drop 1 s.own; all = drop 1 s.all } ∷ more.less;
      joined = (one.rest, more.joined);
      before = ap (λ (l : List (List Picture)). s.before ∷ l) more.before;
      own = ap (λ (l : List (List Picture)). drop 1 s.own ∷ l) more.own;
      all = ap (λ (l : List (List Picture)). drop 1 s.all ∷ l) more.all;
      heads = ap (λ (o : Option Parts). o ∷ map head_of (alls sources)) one.head ∙ ap (λ (l : List (Option Parts)). Some one.other ∷ l) more.heads;
    }

-- where none has a picture of its own
no_own : (before own all qs : List Picture) → own ≡ [] → all ≡ qs ++ before → PicturesAlike own qs → all ≡ before
no_own before [] all [] none is alike = is
no_own before [] all (q ∷ qs) none is alike = absurd alike
no_own before (p ∷ own) all qs none is alike = absurd (cc)

none_own : (sources : List CutStream) → AllByRecursion IsJoined sources → AllByRecursion (λ (ps : List Picture). ps ≡ []) (owns sources) → alls sources ≡ befores sources
none_own [] are none = refl
none_own (s ∷ sources) are none =
    ap (λ (l : List Picture). l ∷ alls sources) (no_own s.before s.own s.all are.0.0 none.0 are.0.1 are.0.2)
    ∙ ap (λ (l : List (List Picture)). s.before ∷ l) (none_own sources are.1 none.1)

pub rounds_are_read_alike : RoundsAreReadAlike
rounds_are_read_alike sources first [] are before own =
    ([], tt, subst (λ (l : List (List Picture)). MakeRounds l first) (sym (none_own sources are own)) before)
rounds_are_read_alike sources first (round ∷ alone) are before own =
    let p = popped sources round are own.0 in
    let more = rounds_are_read_alike p.less first alone p.joined (subst (λ (l : List (List Picture)). MakeRounds l first) (sym p.before) before)
    (subst (λ (l : List (List Picture)). MakeRounds l alone) (sym p.own) own.1) in
    (p.other ∷ more.0, (p.alike, more.1), (p.heads, subst (λ (l : List (List Picture)). MakeRounds l (more.0 ++ first)) p.all more.2))
