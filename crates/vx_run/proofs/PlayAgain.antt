-- What `play` writes of rounds is read again as the merge of the pictures that they were made of, as they are played.
use Rattle.std.proofs.Common.{◌≡◌, ℕ, zero, suc, ◌<◌, ◌≤◌, nat_lt, Bool, true, false, cond, List, [], ◌∷◌, ◌∙◌, Option, Some, None, Ok, Err}
use Rattle.std.proofs.Common.{length, map, slice_get, take, inl, inr, sym, ap, refl, subst, arith}
use Rattle.std.specs.Prelude.{drop, is_none, option_map, reverse}
use Rattle.std.specs.List.{AllByRecursion, list_any, range_with_len}
use Rattle.std.proofs.lemmas.Bool.{lt-ltb, true≢false}
use Rattle.std.proofs.lemmas.List.{length-map, length-reverse, length-take-le}
use Rattle.std.proofs.lemmas.Option.{get_or_from_slice_get, same_Some, slice_get-map, slice_get_within}
use Rattle.vx_annexb.specs.Laws.{UnitsCanStand}
use Rattle.vx_pic.specs.H266.{AreOfH266}
use Rattle.vx_pic.specs.Joined.{AreJoined, StartWhere, Starts, after_end, played}
use Rattle.vx_pic.specs.Parts.{Parts, parts_of}
use Rattle.vx_pic.specs.Readings.{Picture}
use Rattle.vx_pic.specs.Resident.{planned_of}
use Rattle.vx_pic.specs.Rules.{Readers}
use Rattle.vx_pic.specs.Written.{Plan}
use Rattle.vx_frame.specs.declared.corner.Corner.{Corner}
use Rattle.vx_frame.specs.Corners.{AreCorners}
use Rattle.vx_frame.specs.Rounds.{no_picture, picture_at}
use Rattle.vx_merge.specs.Joins.{CanStart, JudgesJoin, after_end_of_sequence}
use Rattle.vx_merge.specs.Merging.{Passes}
use Rattle.vx_play.specs.Scheduled.{files_of_region}
use Rattle.vx_again.specs.Played.{PlayedCanBeMerged}
use Rattle.vx_again.specs.Sources.{CanBeMerged, PicturesCanBeMerged}
use Rattle.vx_again.specs.Streams.{AreMerged, earlier, lasts}
use Rattle.vx_again.specs.Whole.{MergeIsReadAgain}
use Rattle.vx_run.specs.declared.stop.Stop.TheVariants.{NotUnderstood, Mismatched, Refused, ReadFault, WriteFault, NoMemory}
use Rattle.vx_run.specs.Change.{Change, Sources}
use Rattle.vx_run.specs.Conclusion.{Outcome}
use Rattle.vx_run.specs.Merge.{bytes_of}
use Rattle.vx_run.specs.MergeAgain.{IsMergedAgain, IsToldBy, first_pictures}
use Rattle.vx_run.specs.Play.{ArePlayed, ArePlayedOf, EndsPlayed, PlayedIsReadAgain, PlaysBy, begins_in, file_in, is_join, marked, pictures_in, played_first, played_whole, region_stream, region_streams}
use Rattle.vx_run.specs.Rounds.{AreTold, GoesOn, IsRound, Stream, picture_in}
use Rattle.vx_run.specs.inner.Playing.{PlaysRounds}
use Rattle.vx_run.proofs.MergeAgain.{all_first, all_told, first_front, first_more, round_of, told_can}
use Rattle.vx_run.proofs.Once.{round_there}
use Rattle.vx_run.proofs.ReadAgain.{of_source}
use Rattle.vx_run.proofs.RegionRounds.{any_there, many_streams, of_each}

-- ---- pictures that are joined

-- a picture where it is joined or not, and those of a round
abbrev as_played : Bool → Picture → Picture
as_played b p = cond b (after_end p) p

marked_parts : (b : Bool) (ps : List Picture) → map parts_of (map (as_played b) ps) ≡ marked b (map parts_of ps)
marked_parts true [] = refl
marked_parts true (p ∷ ps) = ap (λ (l : List Parts). after_end_of_sequence (parts_of p) ∷ l) (marked_parts true ps)
marked_parts false [] = refl
marked_parts false (p ∷ ps) = ap (λ (l : List Parts). parts_of p ∷ l) (marked_parts false ps)

-- the first ones of a stream that goes on with another one
first_many : (n : ℕ) (s : Stream) → n ≤ length s.pictures → length (first_pictures n s) ≡ n
first_many n s within =
    let ps : List Picture = reverse s.pictures in
    omega (arith, within, length-reverse s.pictures, length-reverse (take n ps), length-take-le n ps (omega (arith, within, length-reverse s.pictures)))

-- ---- rounds

module _ (joins : ℕ → Bool) where
  one_last : (n : ℕ) (ps : List Picture) (q : Picture) → length ps ≡ suc n → slice_get ps 0 ≡ Some q
      → slice_get (played joins ps) 0 ≡ Some (as_played (joins n) q)
  one_last n [] q many at = absurd (omega (arith, many))
  one_last n (p ∷ ps) q many at =
      let count : length ps ≡ n = omega (arith, many) in
      ap (λ (k : ℕ). let o : Option Picture = Some (as_played (joins k) p) in o) count
      ∙ ap (λ (x : Picture). let o : Option Picture = Some (as_played (joins n) x) in o) (same_Some p q at)

  one_before : (ps : List Picture) → drop 1 (played joins ps) ≡ played joins (drop 1 ps)
  one_before [] = refl
  one_before (p ∷ ps) = refl

  played_before : (sources : List (List Picture)) → earlier (map (played joins) sources) ≡ map (played joins) (earlier sources)
  played_before [] = refl
  played_before (ps ∷ sources) =
      ap (λ (l : List Picture). l ∷ earlier (map (played joins) sources)) (one_before ps)
      ∙ ap (λ (l : List (List Picture)). played joins (drop 1 ps) ∷ l) (played_before sources)

  played_last : (n : ℕ) (sources : List (List Picture)) (round : List Picture) → AllByRecursion (λ (ps : List Picture). length ps ≡ suc n) sources
      → lasts sources ≡ map (λ (q : Picture). let o : Option Picture = Some q in o) round
      → lasts (map (played joins) sources) ≡ map (λ (q : Picture). let o : Option Picture = Some q in o) (map (as_played (joins n)) round)
  played_last n [] [] many last = refl
  played_last n [] (q ∷ round) many last = absurd (omega (arith, ap (λ l. length l) last))
  played_last n (ps ∷ sources) [] many last = absurd (omega (arith, ap (λ l. length l) last))
  played_last n (ps ∷ sources) (q ∷ round) many last =
      let here : slice_get ps 0 ≡ Some q = cc in
      let rest : lasts sources ≡ map (λ (x : Picture). let o : Option Picture = Some x in o) round = cc in
      ap (λ (o : Option Picture). o ∷ lasts (map (played joins) sources)) (one_last n ps q many.0 here)
      ∙ ap (λ (l : List (Option Picture)). Some (as_played (joins n) q) ∷ l) (played_last n sources round many.1 rest)

  -- before the first round there are none
  none_played : (ss : List Stream) → AllByRecursion (λ (ps : List Picture). ps ≡ []) (map (played joins) (map (first_pictures 0) ss))
  none_played [] = tt
  none_played (s ∷ ss) = (refl, none_played ss)

  -- in a round each stream has a picture
  goes_on : (ss : List Stream) (n : ℕ) (round : List Parts) → IsRound ss n round → AllByRecursion (λ (ps : List Picture). length ps ≡ suc n) (map (first_pictures (suc n)) ss)
  goes_on ss n round is = firsts ss (λ k s at. round_there ss n round k s is at)
    where
      firsts : (ts : List Stream) → ((k : ℕ) (s : Stream) → slice_get ts k ≡ Some s → GoesOn n s) → AllByRecursion (λ (ps : List Picture). length ps ≡ suc n) (map (first_pictures (suc n)) ts)
      firsts [] each = tt
      firsts (t ∷ ts) each = (first_many (suc n) t (omega (arith, each zero t refl)), firsts ts (λ k. each (suc k)))

  -- rounds that are played are those of the first pictures
  played_of : (corners : List Corner) (level : Option ℕ) (ss : List Stream) (done : List Plan) → ArePlayed corners level joins ss done
      → AreMerged corners level (map (played joins) (map (first_pictures (length done)) ss)) done
  played_of corners level ss [] plans = none_played ss
  played_of corners level ss (p ∷ done) plans =
      let n = length done in
      let of = round_of ss n plans.0.0 plans.0.1 in
      let sources : List (List Picture) = map (first_pictures (suc n)) ss in
      let parts : marked (joins n) plans.0.0 ≡ map parts_of (map (as_played (joins n)) of.pictures)
      = ap (marked (joins n)) (sym of.parts) ∙ sym (marked_parts (joins n) of.pictures) in
      let before : earlier (map (played joins) sources) ≡ map (played joins) (map (first_pictures n) ss)
      = played_before sources ∙ ap (λ (l : List (List Picture)). map (played joins) l) of.before in (
        (
          map (as_played (joins n)) of.pictures,
          played_last n sources of.pictures (goes_on ss n plans.0.0 plans.0.1) of.last,
          subst (λ (r : List Parts). Passes corners level r done p) parts plans.0.2.passes,
        ),
        subst (λ (l : List (List Picture)). AreMerged corners level l done) (sym before) (played_of corners level ss done plans.1),
      )

-- ---- where a round is joined

-- what can't be denied is so
stays_true : (b : Bool) → ¬ (¬ (b ≡ true)) → b ≡ true
stays_true true never = refl
stays_true false never = absurd (never (λ is. true≢false (sym is)))

stays_false : (b : Bool) → ¬ (¬ (b ≡ false)) → b ≡ false
stays_false false never = refl
stays_false true never = absurd (never true≢false)

stays_zero : (n : ℕ) → ¬ (¬ (n ≡ 0)) → n ≡ 0
stays_zero zero never = refl
stays_zero (suc n) never = absurd (never (λ is. omega (arith, is)))

can_start : (q : Parts) → ¬ (¬ CanStart q) → CanStart q
can_start q never = record {
  clvss = stays_true _ (λ isnt. never (λ can. isnt can.clvss));
  tid = stays_zero _ (λ isnt. never (λ can. isnt can.tid));
  ref = stays_false _ (λ isnt. never (λ can. isnt can.ref));
}

each_starts : (corners : List Corner) (round : List Parts) → JudgesJoin true corners round None → (k : ℕ) → k < length corners → CanStart (picture_at round k)
each_starts corners round (inl none) k within = can_start (picture_at round k) (none.0 k within)
each_starts corners round (inr first) k within = absurd (cc)

-- the picture of stream k
part_there : (o : Option Picture) (q : Parts) → option_map parts_of o ≡ Some q → (p : Picture) × (o ≡ Some p) × ((let r : Option Parts = Some q in r) ≡ Some (parts_of p))
part_there None q is = absurd (cc)
part_there (Some p) q is = (p, refl, sym is)

round_picture : (ss : List Stream) (n : ℕ) (round : List Parts) (k : ℕ) (s : Stream) → IsRound ss n round → slice_get ss k ≡ Some s
    → (p : Picture) × (picture_in n s ≡ Some p) × (slice_get round k ≡ Some (parts_of p))
round_picture [] n round k s is at = absurd (cc)
round_picture (t ∷ ss) n [] k s is at = absurd (omega (arith, ap (λ l. length l) is))
round_picture (t ∷ ss) n (q ∷ round) zero s is at =
    let here : option_map parts_of (picture_in n t) ≡ Some q = cc in
    part_there (picture_in n s) q (subst (λ (x : Stream). option_map parts_of (picture_in n x) ≡ Some q) (same_Some t s at) here)
round_picture (t ∷ ss) n (q ∷ round) (suc k) s is at =
    let rest : IsRound ss n round = cc in
    round_picture ss n round k s rest at

module _ (corners : List Corner) (level : Option ℕ) (joins : ℕ → Bool) (ss : List Stream) (count : length ss ≡ length corners) where
  -- the first pictures of a stream may come there
  starts_there : (done : List Plan) → ArePlayed corners level joins ss done → (k : ℕ) (s : Stream) → slice_get ss k ≡ Some s → StartWhere joins (first_pictures (length done) s)
  starts_there [] plans k s at = tt
  starts_there (p ∷ done) plans k s at =
      let n = length done in
      let pic = round_picture ss n plans.0.0 k s plans.0.1 at in
      let long : length (first_pictures n s) ≡ n = let goes = round_there ss n plans.0.0 k s plans.0.1 at in first_many n s (omega (arith, goes)) in
      subst (StartWhere joins) (sym (first_more n s pic.0 pic.1)) (
        λ is. start n plans.0.0 k pic.0 (omega (arith, count, slice_get_within ss k s at)) (ap joins (sym long) ∙ is) plans.0.2.starts pic.2,
        starts_there done plans.1 k s at,
      )
    where
      start : (n : ℕ) (round : List Parts) (k : ℕ) (p : Picture) → k < length corners → joins n ≡ true → JudgesJoin (joins n) corners (marked (joins n) round) None
          → slice_get round k ≡ Some (parts_of p) → Starts p
      start n round k p within is starts there =
          let by : JudgesJoin true corners (map after_end_of_sequence round) None = subst (λ (b : Bool). JudgesJoin b corners (marked b round) None) is starts in
          let at_ : slice_get (map after_end_of_sequence round) k ≡ Some (after_end_of_sequence (parts_of p)) = slice_get-map after_end_of_sequence round k ∙ ap (option_map after_end_of_sequence) there in
          let can : CanStart (after_end_of_sequence (parts_of p))
          = subst CanStart (get_or_from_slice_get (map after_end_of_sequence round) k (after_end_of_sequence (parts_of p)) no_picture at_) (each_starts corners (map after_end_of_sequence round) by k within) in
          record { clvss = can.clvss; tid = can.tid; ref = can.ref }

-- a round in which a file of a region begins is one
module _ (count : ℕ) (regions : List ℕ) (files : List Stream) where
  region_joined : (k : ℕ) → k < count → AreJoined (is_join count regions files) (pictures_in files (files_of_region regions k))
  region_joined k within = record {
    first = refl;
    begun = λ n some begins.
        let any : list_any (begins_in regions files n) (range_with_len 0 count) ≡ true = any_there count (begins_in regions files n) k within begins in
        let later : nat_lt 0 n ≡ true = lt-ltb 0 n some in
        rw later any;
  }

-- ---- pictures that can be merged

module _ (R : Readers) (units : UnitsCanStand) (pictures : PicturesCanBeMerged) (law : PlayedCanBeMerged) (of : AreOfH266 R)
    (files : List Stream) (told : AllByRecursion (IsToldBy R) files) where
  file_can : (j : ℕ) → CanBeMerged R (file_in files j).pictures
  file_can j = at files told j
    where
      at : (ts : List Stream) → AllByRecursion (IsToldBy R) ts → (j : ℕ) → CanBeMerged R (file_in ts j).pictures
      at [] each j = record { finished = tt; each = tt }
      at (t ∷ ts) each zero = told_can R units pictures of t each.0
      at (t ∷ ts) each (suc j) = at ts each.1 j

  behind : (b : Bool) (more : List (List Picture)) → AllByRecursion (CanBeMerged R) more → AllByRecursion (CanBeMerged R) (cond b more [])
  behind true more can = can
  behind false more can = tt

  region_can : (js : List ℕ) → AllByRecursion (CanBeMerged R) (pictures_in files js)
  region_can [] = tt
  region_can (j ∷ js) = (file_can j, behind (is_none (file_in files j).ending) (pictures_in files js) (region_can js))

  module _ (corners : List Corner) (level : Option ℕ) (regions : List ℕ) (done : List Plan) (plans : ArePlayedOf corners level regions files done) where
    abbrev joins : ℕ → Bool
    joins = is_join (length corners) regions files

    abbrev ss : List Stream
    ss = region_streams (length corners) regions files

    first_can : (k : ℕ) (s : Stream) → slice_get ss k ≡ Some s → CanBeMerged R (played joins (first_pictures (length done) s))
    first_can k s at = of_each (length corners) regions files (λ (t : Stream). StartWhere joins (first_pictures (length done) t) → CanBeMerged R (played joins (first_pictures (length done) t))) k s at
        (λ within starts.
        let n = length done in
        let js = files_of_region regions k in
        let t = region_stream files js in
        law R joins (pictures_in files js) (reverse (drop n (reverse t.pictures))) (first_pictures n t) (region_joined (length corners) regions files k within) (region_can js) (sym (first_front n t)) starts)
        (starts_there corners level joins ss (many_streams (length corners) regions files) done plans k s at)

    all_can : AllByRecursion (CanBeMerged R) (played_first (length corners) regions files (length done))
    all_can = each ss first_can
      where
        each : (ts : List Stream) → ((k : ℕ) (s : Stream) → slice_get ts k ≡ Some s → CanBeMerged R (played joins (first_pictures (length done) s))) → AllByRecursion (CanBeMerged R) (map (played joins) (map (first_pictures (length done)) ts))
        each [] can = tt
        each (t ∷ ts) can = (can zero t refl, each ts (λ k. can (suc k)))

-- ---- what is written

pub played_again : UnitsCanStand → PicturesCanBeMerged → PlayedCanBeMerged → MergeIsReadAgain → PlayedIsReadAgain
played_again units pictures can law R corners level regions files done of are told plans =
    let joins : ℕ → Bool = is_join (length corners) regions files in
    let ss : List Stream = region_streams (length corners) regions files in
    let merge = law R corners level (played_first (length corners) regions files (length done)) done of (record {
      are = are;
      same = omega (arith, many_streams (length corners) regions files, length-map ss (first_pictures (length done)), length-map (map (first_pictures (length done)) ss) (played joins));
      can = all_can R units pictures can of files told corners level regions done plans;
      merged = played_of joins corners level ss done plans;
    }) in
    record { pictures = planned_of done; merge = merge; source = of_source R (bytes_of done) (planned_of done) merge.read merge.short }

-- ---- what the command did

module _ (law : PlayedIsReadAgain) (R : Readers) (of : AreOfH266 R) (corners : List Corner) (are : AreCorners corners) (level : Option ℕ) (regions : List ℕ)
    {A K : Type 0} (sources : Sources A) (out : Change K) where
  again : (files : List Stream) (done : List Plan) → AreTold R sources files → ArePlayedOf corners level regions files done
      → IsMergedAgain R corners (played_first (length corners) regions files (length done)) (bytes_of done)
  again files done told plans = law R corners level regions files done of are (all_told R sources files told) plans

  again_whole : (files : List Stream) (done : List Plan) → AreTold R sources files → EndsPlayed corners level regions files done (Ok tt)
      → IsMergedAgain R corners (played_whole (length corners) regions files) (bytes_of done)
  again_whole files done told ends =
      let all = all_first (length done) (region_streams (length corners) regions files) ends.1 in
      subst (λ (l : List (List Picture)). IsMergedAgain R corners (map (played (is_join (length corners) regions files)) l) (bytes_of done)) all (again files done told ends.0)

  -- all rounds were written, or not
  pub plays : (outcome : Outcome) → PlaysRounds R corners level regions sources out outcome → PlaysBy R corners level regions sources out outcome
  plays (Ok _) did = (did.0, did.1, λ files told. let x = did.2 files told in (x.0, x.1, (x.2, again_whole files x.0 told x.1)))
  plays (Err (Refused r place)) did = (
    did.0,
    did.1,
    did.2,
    λ files told. let x = did.3 files told in (x.0, x.1, x.2, (x.3, again files x.0 told x.2.0)),
  )
  plays (Err (ReadFault j)) did =
      let seen = did.3 in (
        did.0,
        did.1,
        did.2,
        (seen.0, seen.1, seen.2, seen.3, seen.4, λ files told. let x = seen.5 files told in (x.0, x.1, x.2, x.3, (x.4, again files x.0 told x.2))),
      )
  plays (Err WriteFault) did = (
    did.0,
    did.1,
    did.2,
    λ files told. let x = did.3 files told in (x.0, x.1, x.2, x.3, x.4, again files x.0 told x.3.1),
  )
  plays (Err NoMemory) did = (did.0, did.1, λ files told. let x = did.2 files told in (x.0, x.1, (x.2, again files x.0 told x.1)))
  plays (Err NotUnderstood) did = absurd did
  plays (Err (Mismatched x y)) did = absurd did
