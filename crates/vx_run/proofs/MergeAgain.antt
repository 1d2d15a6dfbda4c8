-- What `merge` writes of rounds is read again as the merge of the pictures that they were made of.
use Rattle.std.proofs.Common.{◌≡◌, ℕ, zero, suc, ◌<◌, ◌≤◌, nat_le, List, [], ◌∷◌, ◌++◌, ◌∙◌, Option, Some, None, Result, Ok, Err}
use Rattle.std.proofs.Common.{length, map, take, slice_get, sym, ap, refl, subst, arith}
use Rattle.std.specs.Prelude.{String, drop, option_map, reverse}
use Rattle.std.specs.List.{AllByRecursion}
use Rattle.std.proofs.Math.Seq.{take-suc, take_all}
use Rattle.std.proofs.lemmas.List.{length-map, length-reverse, reverse-append, reverse-reverse, take-append-drop}
use Rattle.std.proofs.lemmas.Option.{get_or_from_slice_get, same_Some, slice_get_within}
use Rattle.vx_annexb.specs.ByteStream.{source_limit}
use Rattle.vx_annexb.specs.Laws.{UnitsCanStand}
use Rattle.vx_pic.specs.Bytes.{units_at}
use Rattle.vx_pic.specs.H266.{AreOfH266}
use Rattle.vx_pic.specs.Parts.{Parts, parts_of}
use Rattle.vx_pic.specs.Readings.{Picture}
use Rattle.vx_pic.specs.Resident.{planned_of}
use Rattle.vx_pic.specs.Rules.{Readers}
use Rattle.vx_pic.specs.Written.{Plan}
use Rattle.vx_frame.specs.declared.corner.Corner.{Corner}
use Rattle.vx_merge.specs.Merging.{Passes}
use Rattle.vx_again.specs.Sources.{CanBeMerged, PicturesCanBeMerged}
use Rattle.vx_again.specs.Streams.{AreMerged, earlier, lasts}
use Rattle.vx_again.specs.Whole.{MergeIsReadAgain}
use Rattle.vx_again.proofs.Played.{can_before}
use Rattle.vx_run.specs.declared.merge.Work.TheVariants.{Write}
use Rattle.vx_run.specs.declared.stop.Stop.{Stop}
use Rattle.vx_run.specs.declared.stop.Stop.TheVariants.{NotUnderstood, Mismatched, Refused, ReadFault, WriteFault, NoMemory}
use Rattle.vx_run.specs.Change.{Change, Sources}
use Rattle.vx_run.specs.Grammar.{texts}
use Rattle.vx_run.specs.Merge.{AreRoundsWritten, EndsWritten, MergesBy, WrittenIsReadAgain, bytes_of, corners_of}
use Rattle.vx_run.specs.MergeAgain.{IsMergedAgain, IsToldBy, first_pictures}
use Rattle.vx_run.specs.Rounds.{AllEnded, AreTold, IsRound, Stream, most_sources, picture_in}
use Rattle.vx_run.specs.inner.Merging.{TakesRounds, outcome_of}
use Rattle.vx_run.specs.inner.Placings.{IsPlacingWord, placing_in}
use Rattle.vx_run.proofs.Corners.{are_corners, many_corners}
use Rattle.vx_run.proofs.ReadAgain.{of_source, units_stand}

-- ---- the first pictures of a stream

-- one more of them
pub first_more : (n : ℕ) (s : Stream) (p : Picture) → picture_in n s ≡ Some p → first_pictures (suc n) s ≡ p ∷ first_pictures n s
first_more n s p at =
    let ps : List Picture = reverse s.pictures in
    let more : take (suc n) ps ≡ take n ps ++ p ∷ [] =
    take-suc ps n p (slice_get_within ps n p at) ∙ ap (λ (q : Picture). take n ps ++ q ∷ []) (get_or_from_slice_get ps n p p at) in
    ap (λ (l : List Picture). reverse l) more ∙ reverse-append (take n ps) (p ∷ [])

-- all of them
first_all : (n : ℕ) (s : Stream) → length s.pictures ≡ n → first_pictures n s ≡ s.pictures
first_all n s many =
    let short : length (reverse s.pictures) ≤ n = omega (arith, many, length-reverse s.pictures) in
    ap (λ (l : List Picture). reverse l) (take_all n (reverse s.pictures) short) ∙ reverse-reverse s.pictures

-- and those behind them
pub first_front : (n : ℕ) (s : Stream) → reverse (drop n (reverse s.pictures)) ++ first_pictures n s ≡ s.pictures
first_front n s =
    let ps : List Picture = reverse s.pictures in
    sym (reverse-append (take n ps) (drop n ps)) ∙ ap (λ (l : List Picture). reverse l) (take-append-drop n ps) ∙ reverse-reverse s.pictures

-- of streams that have all ended behind n rounds
pub all_first : (n : ℕ) (ss : List Stream) → AllEnded ss n → map (first_pictures n) ss ≡ map (λ (s : Stream). s.pictures) ss
all_first n [] ended = refl
all_first n (s ∷ ss) ended =
    ap (λ (l : List Picture). l ∷ map (first_pictures n) ss) (first_all n s (ended zero s (omega arith) refl).0)
    ∙ ap (λ (l : List (List Picture)). s.pictures ∷ l) (all_first n ss (λ k t within. ended (suc k) t (omega (arith, within))))

-- ---- rounds

-- round n, the last of the rounds of the first n + 1 pictures
pub record IsOfFirst (ss : List Stream) (n : ℕ) (round : List Parts) : Type 0 where
  pub pictures : List Picture
  pub parts : map parts_of pictures ≡ round
  pub last : lasts (map (first_pictures (suc n)) ss) ≡ map (λ (q : Picture). let o : Option Picture = Some q in o) pictures
  pub before : earlier (map (first_pictures (suc n)) ss) ≡ map (first_pictures n) ss

picture_of : (o : Option Picture) (q : Parts) → option_map parts_of o ≡ Some q → (p : Picture) × (o ≡ Some p) × (parts_of p ≡ q)
picture_of None q is = absurd (cc)
picture_of (Some p) q is = (p, refl, same_Some (parts_of p) q is)

-- with one more stream,
round_more : (s : Stream) (ss : List Stream) (n : ℕ) (p : Picture) (q : Parts) (round : List Parts)
    → picture_in n s ≡ Some p → parts_of p ≡ q → IsOfFirst ss n round → IsOfFirst (s ∷ ss) n (q ∷ round)
round_more s ss n p q round at is others =
    let more : first_pictures (suc n) s ≡ p ∷ first_pictures n s = first_more n s p at in
    let last_ : List Picture → List (Option Picture) = λ l. slice_get l 0 ∷ lasts (map (first_pictures (suc n)) ss) in
    let before_ : List Picture → List (List Picture) = λ l. drop 1 l ∷ earlier (map (first_pictures (suc n)) ss) in
    record {
      pictures = p ∷ others.pictures;
      parts = ap (λ (x : Parts). x ∷ map parts_of others.pictures) is ∙ ap (λ (l : List Parts). q ∷ l) others.parts;
      last = ap last_ more ∙ ap (λ (l : List (Option Picture)). Some p ∷ l) others.last;
      before = ap before_ more ∙ ap (λ (l : List (List Picture)). first_pictures n s ∷ l) others.before;
    }

-- and of all
pub round_of : (ss : List Stream) (n : ℕ) (round : List Parts) → IsRound ss n round → IsOfFirst ss n round
round_of [] n [] is = record { pictures = []; parts = refl; last = refl; before = refl }
round_of [] n (q ∷ round) is = absurd (omega (arith, ap (λ l. length l) is))
round_of (s ∷ ss) n [] is = absurd (omega (arith, ap (λ l. length l) is))
round_of (s ∷ ss) n (q ∷ round) is =
    let here : option_map parts_of (picture_in n s) ≡ Some q = cc in
    let rest : IsRound ss n round = cc in
    let p = picture_of (picture_in n s) q here in
    round_more s ss n p.0 q round p.1 p.2 (round_of ss n round rest)

-- before the first round there are none
none_first : (ss : List Stream) → AllByRecursion (λ (ps : List Picture). ps ≡ []) (map (first_pictures 0) ss)
none_first [] = tt
none_first (s ∷ ss) = (refl, none_first ss)

-- rounds that are written are those of the first pictures
merged_of : (corners : List Corner) (level : Option ℕ) (ss : List Stream) (done : List Plan)
    → AreRoundsWritten corners level ss done → AreMerged corners level (map (first_pictures (length done)) ss) done
merged_of corners level ss [] plans = none_first ss
merged_of corners level ss (p ∷ done) plans =
    let of = round_of ss (length done) plans.0.0 plans.0.1 in (
      (of.pictures, of.last, subst (λ (r : List Parts). Passes corners level r done p) (sym of.parts) plans.0.2),
      subst (λ (l : List (List Picture)). AreMerged corners level l done) (sym of.before) (merged_of corners level ss done plans.1),
    )

-- ---- pictures that can be merged

module _ (R : Readers) where
  module _ (units : UnitsCanStand) (law : PicturesCanBeMerged) (of : AreOfH266 R) where
    -- those of bytes
    pub told_can : (s : Stream) → IsToldBy R s → CanBeMerged R s.pictures
    told_can s told =
        let b : List ℕ = take source_limit told.0 in
        let stand = units_stand units b (nat_le (length told.0) source_limit) told.1.places told.1.stream.follow in
        subst (CanBeMerged R) (sym told.1.done) (law R (units_at b told.1.places) of stand)

    first_can : (n : ℕ) (ss : List Stream) → AllByRecursion (IsToldBy R) ss → AllByRecursion (CanBeMerged R) (map (first_pictures n) ss)
    first_can n [] told = tt
    first_can n (s ∷ ss) told = (
      can_before R (reverse (drop n (reverse s.pictures))) (first_pictures n s) (subst (CanBeMerged R) (sym (first_front n s)) (told_can s told.0)),
      first_can n ss told.1,
    )

-- ---- what is written

pub written_again : UnitsCanStand → PicturesCanBeMerged → MergeIsReadAgain → WrittenIsReadAgain
written_again units can law R corners level ss done of are same told plans =
    let sources : List (List Picture) = map (first_pictures (length done)) ss in
    let merge = law R corners level sources done of (record {
      are = are;
      same = omega (arith, same, length-map ss (first_pictures (length done)));
      can = first_can R units can of (length done) ss told;
      merged = merged_of corners level ss done plans;
    }) in
    record { pictures = planned_of done; merge = merge; source = of_source R (bytes_of done) (planned_of done) merge.read merge.short }

-- each stream of a list is as it is by its index
all_streams : (P : Stream → Type 0) (ss : List Stream) → ((k : ℕ) (s : Stream) → slice_get ss k ≡ Some s → P s) → AllByRecursion P ss
all_streams P [] each = tt
all_streams P (s ∷ ss) each = (each zero s refl, all_streams P ss (λ k. each (suc k)))

-- sources tell their streams
pub all_told : {A : Type 0} (R : Readers) (sources : Sources A) (ss : List Stream) → AreTold R sources ss → AllByRecursion (IsToldBy R) ss
all_told R sources ss told = all_streams (IsToldBy R) ss (λ k s at. let t = told.each k s at in (t.0, t.2))

-- ---- what the command did

module _ (law : WrittenIsReadAgain) (R : Readers) (of : AreOfH266 R) {Z : Type 0} (words : List (String Z))
    (spell : AllByRecursion IsPlacingWord (texts words)) (some : 0 < length words) (few : length words ≤ most_sources)
    {A K : Type 0} (sources : Sources A) (count : length sources.old ≡ length words) (out : Change K) (level : Option ℕ) where
  abbrev corners : List Corner
  corners = corners_of (map placing_in (texts words))

  again : (ss : List Stream) (done : List Plan) → AreTold R sources ss → AreRoundsWritten corners level ss done
      → IsMergedAgain R corners (map (first_pictures (length done)) ss) (bytes_of done)
  again ss done told plans =
      law R corners level ss done of (are_corners words spell some few) (omega (arith, many_corners words, count, told.count)) (all_told R sources ss told) plans

  again_all : (ss : List Stream) (done : List Plan) → AreTold R sources ss → EndsWritten corners level ss done (Ok tt)
      → IsMergedAgain R corners (map (λ (s : Stream). s.pictures) ss) (bytes_of done)
  again_all ss done told ends =
      let all = all_first (length done) ss ends.1 in
      subst (λ (l : List (List Picture)). IsMergedAgain R corners l (bytes_of done)) all (again ss done told ends.0)

  -- all rounds were written, or not
  pub merged : (result : Result ℕ Stop) → TakesRounds R Write corners level sources out result
      → MergesBy R corners level sources out (outcome_of result)
  merged (Ok n) takes = (takes.0, takes.1, λ ss told. let x = takes.2 ss told in (x.0, x.2, (x.3, again_all ss x.0 told x.2)))
  merged (Err (Refused r place)) takes = (
    takes.0,
    takes.1,
    takes.2,
    λ ss told. let x = takes.3 ss told in (x.0, x.1, x.2, (x.3, again ss x.0 told x.2.0)),
  )
  merged (Err (ReadFault k)) takes =
      let seen = takes.3 in (
        takes.0,
        takes.1,
        takes.2,
        (seen.0, seen.1, seen.2, λ ss told. let x = seen.3 ss told in (x.0, x.1, x.2, x.3, (x.4, again ss x.0 told x.2))),
      )
  merged (Err WriteFault) takes =
      let cut = takes.1 in
      (cut.0, cut.1, cut.2, λ ss told. let x = cut.3 ss told in (x.0, x.1, x.2, x.3, x.4, again ss x.0 told x.3.1))
  merged (Err NoMemory) takes = (takes.0, takes.1, λ ss told. let x = takes.2 ss told in (x.0, x.1, (x.2, again ss x.0 told x.1)))
  merged (Err NotUnderstood) takes = absurd takes
  merged (Err (Mismatched x y)) takes = absurd takes
