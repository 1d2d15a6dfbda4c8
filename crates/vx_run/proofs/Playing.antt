-- What rounds that are played come to.
use Rattle.std.proofs.Common.{◌≡◌, ◌≢◌, ℕ, zero, suc, ◌+◌, ◌^◌, ◌<◌, ◌≤◌, ◌⊎◌, List, [], ◌∷◌, ◌++◌, ◌∙◌, Option, Some, Result, Ok, Err, Bool, true, false, not, ◌&&◌, nat_lt, length, map, get_or, slice_get, inl, inr, sym, ap, refl, subst, arith}
use Rattle.std.specs.Prelude.{option_map, slice_index}
use Rattle.std.specs.List.{All, AllByRecursion, list_any, range_with_len}
use Rattle.std.proofs.Math.Nat.{le-max_left, le-max_right}
use Rattle.std.proofs.lemmas.Bool.{lt-ltb}
use Rattle.std.proofs.lemmas.List.{length-map}
use Rattle.std.proofs.lemmas.Option.{slice_get_within, slice_get-get_or, same_Some}
use Rattle.vx_bits.specs.declared.refusal.Refusal.{Refusal}
use Rattle.vx_annexb.specs.Laws.{written}
use Rattle.vx_pic.specs.Bytes.{Ending}
use Rattle.vx_pic.specs.Counts.{is_empty}
use Rattle.vx_pic.specs.Joined.{begins_file, one_behind_another}
use Rattle.vx_pic.specs.Parts.{Parts, parts_of}
use Rattle.vx_pic.specs.Readings.{Picture}
use Rattle.vx_pic.specs.Rules.{Readers}
use Rattle.vx_pic.specs.Written.{Plan, units_of}
use Rattle.vx_run.specs.declared.stop.Place.{Place}
use Rattle.vx_run.specs.declared.stop.Place.TheVariants as places
use Rattle.vx_assemble.specs.Feed.{Feeding}
use Rattle.vx_assemble.specs.Held.{HasPicture, lent_by}
use Rattle.vx_write.specs.declared.fault.WriteError.{WriteError}
use Rattle.vx_write.specs.declared.fault.WriteError.TheVariants as errors
use Rattle.vx_frame.specs.declared.corner.Corner.{Corner}
use Rattle.vx_merge.specs.declared.ended.Lengths.TheVariants as lengths
use Rattle.vx_merge.specs.declared.ended.Lengths.TheVariants.{AllGo, Differ}
use Rattle.vx_merge.specs.Ends.{IsLengths}
use Rattle.vx_merge.specs.Joins.{after_end_of_sequence, IsBarredWhere}
use Rattle.vx_merge.specs.Merging.{Merging, SameTask, Stands}
use Rattle.vx_play.specs.Scheduled.{Scheduled, files_of_region, regions_counted}
use Rattle.vx_run.specs.declared.merge.Work.TheVariants.{Write}
use Rattle.vx_run.specs.declared.stop.Stop.{Stop}
use Rattle.vx_run.specs.declared.stop.Stop.TheVariants.{NotUnderstood, Mismatched, Refused, ReadFault, WriteFault, NoMemory}
use Rattle.vx_run.specs.Change.{Change, Sources, change, sources_change, source_at, Gains}
use Rattle.vx_run.specs.Conclusion.{Outcome}
use Rattle.vx_run.specs.Merge.{bytes_of, length_refused, GainsInto}
use Rattle.vx_run.specs.Play.{ArePlayedFor, ArePlayedInRound, ArePlayedOf, ComesAt, EndsPlayed, IsBehind, OthersArePlayed, PassesWhere, at_file, at_played_round, begins_in, count_of, is_join, marked, pictures_in, play_telling, region_stream, region_streams, refused_file}
use Rattle.vx_run.specs.Rounds.{Stream, picture_in, AllEnded, AreTold, GoesOn, HasEnded, IsRead, IsReadOut, IsRound, NoneRefused, OfEachSource, StopsIn, by_round, by_stream}
use Rattle.vx_run.specs.inner.Playing.{AdvancesRegions, AllRead, HasPlayed, HasTakenSo, IsPlaced, PlaysRound, PlaysRounds, StopsAt, Takes, Went, WentOn, WritesRound}
use Rattle.vx_run.proofs.Advancing.{each_holds, length_stops, unread}
use Rattle.vx_run.proofs.Gained.{Gains-nothing}
use Rattle.vx_run.proofs.Indexed.{any_default, choose, mapped_at, same_lists, some_at, where_is}
use Rattle.vx_run.proofs.RegionFiles.{AreOfRegion, at_read, behind_current, behind_of, behind_read, few_files, file_has, files_are, out_out, out_read}
use Rattle.vx_run.proofs.RegionRounds.{any_moved, at_for, behind_count, cut_told, ends_in, ends_told, flags_ended, flags_first, many_streams, of_each, stream_at, takes_in, takes_told}
use Rattle.vx_run.proofs.Sources.{part_in, takes_read}
use Rattle.vx_run.proofs.Working.{did_front, did_nothing, did_one}

-- ---- a round that was written, or not

module _ {K : Type 0} (taken : K → Option (List ℕ)) (writes : K → ℕ) (o o' o'' : K) (m : Merging) (round : List Parts) (done : List Plan) (gained : Gains (change taken writes o o') (bytes_of done)) where
  abbrev Wrote : Bool → Result (Unit {0}) WriteError → Type 0
  Wrote joins answer = WritesRound joins round done m (taken o') (taken o'') (writes o') (writes o'') answer

  -- it was written behind the others
  wrote_one : (joins : Bool) → Wrote joins (Ok tt) → (p : Plan) × PassesWhere joins m.corners m.level (marked joins round) done p × Stands m (p ∷ done) × Gains (change taken writes o o'') (bytes_of (p ∷ done))
  wrote_one true did =
      let one = did_one taken writes o o' o'' m (map after_end_of_sequence round) done Write gained did.1 in
      (one.0, record { starts = did.0; passes = one.1 }, one.2, one.3)
  wrote_one false did =
      let one = did_one taken writes o o' o'' m round done Write gained did in
      (one.0, record { starts = refl; passes = one.1 }, one.2, one.3)

  -- nothing was, for a rule or a limit
  wrote_barred : (joins : Bool) (r : Refusal) → Wrote joins (Err (errors.Refused r)) → Gains (change taken writes o o'') (bytes_of done) × IsBarredWhere joins m.corners m.level (marked joins round) done r
  wrote_barred true r did = (did_nothing taken writes o o' o'' m (map after_end_of_sequence round) done Write gained (did.0, did.1), did.2)
  wrote_barred false r did = (did_nothing taken writes o o' o'' m round done Write gained (did.0, did.1), inr (refl, did.2))

  -- or for want of memory
  wrote_nothing : (joins : Bool) → Wrote joins (Err errors.Memory) → Gains (change taken writes o o'') (bytes_of done)
  wrote_nothing true did = did_nothing taken writes o o' o'' m (map after_end_of_sequence round) done Write gained did
  wrote_nothing false did = did_nothing taken writes o o' o'' m round done Write gained did

  -- or a front of it was
  wrote_front : (joins : Bool) → Wrote joins (Err errors.SinkFailed) → (p : Plan) × PassesWhere joins m.corners m.level (marked joins round) done p × GainsInto (change taken writes o o'') (bytes_of done) (written (units_of p))
  wrote_front true did =
      let one = (did_front taken writes o o' o'' m (map after_end_of_sequence round) done Write gained did.1).1 in
      (one.0, record { starts = did.0; passes = one.1 }, one.2)
  wrote_front false did =
      let one = (did_front taken writes o o' o'' m round done Write gained did).1 in
      (one.0, record { starts = refl; passes = one.1 }, one.2)

-- what a merger says of its regions
module _ (m : Merging) (corners : List Corner) (level : Option ℕ) (same : m.corners ≡ corners) (alike : m.level ≡ level) (joins : Bool) (round : List Parts) (done : List Plan) where
  passes_so : (p : Plan) → PassesWhere joins m.corners m.level round done p → PassesWhere joins corners level round done p
  passes_so p passes = subst (λ (c : List Corner). PassesWhere joins c level round done p) same (subst (λ (n : Option ℕ). PassesWhere joins m.corners n round done p) alike passes)

  barred_so : (r : Refusal) → IsBarredWhere joins m.corners m.level round done r → IsBarredWhere joins corners level round done r
  barred_so r barred = subst (λ (c : List Corner). IsBarredWhere joins c level round done r) same (subst (λ (n : Option ℕ). IsBarredWhere joins m.corners n round done r) alike barred)

-- whether round n is joined
join_is : (n : ℕ) (any b : Bool) → (n ≡ 0 → b ≡ false) → (0 < n → any ≡ b) → (nat_lt 0 n && any) ≡ b
join_is zero any b first more = sym (first refl)
join_is (suc n) any b first more =
    let some : nat_lt 0 (suc n) ≡ true = lt-ltb 0 (suc n) (omega arith) in
    rw some (more (omega arith))

-- no pictures
none_there : (xs : List Picture) → is_empty xs ≡ true → xs ≡ []
none_there [] is = refl
none_there (x ∷ xs) is = let no : false ≡ true = is in absurd (cc)

-- the region of each file is one of them
region_below : (regions : List ℕ) (j : ℕ) → j < length regions → slice_index regions j < regions_counted regions
region_below [] j within = absurd (omega (arith, within))
region_below (r ∷ regions) zero within = omega (arith, le-max_left (r + 1) (regions_counted regions))
region_below (r ∷ regions) (suc j) within = omega (arith, region_below regions j (omega (arith, within)), le-max_right (r + 1) (regions_counted regions))

-- ---- round by round

-- there was no memory to begin
pub play_unmade : {A K : Type 0} (bytes : A → Option (List ℕ)) (faults : A → ℕ) (taken_ : K → Option (List ℕ)) (writes : K → ℕ) (R : Readers) (first : List A) (o : K) (corners : List Corner) (level : Option ℕ) (regions : List ℕ)
    → PlaysRounds R corners level regions (sources_change bytes faults first first) (change taken_ writes o o) (Err NoMemory)
play_unmade bytes faults taken_ writes R first o corners level regions = (unread bytes faults R first, refl, λ files are. ([], tt, Gains-nothing taken_ writes o o refl))

module _ {A K : Type 0} (bytes : A → Option (List ℕ)) (faults : A → ℕ) (taken_ : K → Option (List ℕ)) (writes : K → ℕ) (R : Readers) (first : List A) (o : K) (corners : List Corner) (level : Option ℕ)
    (s : Scheduled) (many : length s.regions ≡ length first) (enough : regions_counted s.regions ≡ length corners) where
  abbrev Src : List A → Sources A
  Src l = sources_change bytes faults first l

  abbrev At : List A → ℕ → Change (Option A)
  At l k = source_at (Src l) k

  abbrev Out : K → Change K
  Out o' = change taken_ writes o o'

  abbrev Comes : List A → K → Outcome → Type 0
  Comes l o' outcome = PlaysRounds R corners level s.regions (Src l) (Out o') outcome

  abbrev Js : ℕ → List ℕ
  Js k = files_of_region s.regions k

  abbrev Streams : List Stream → List Stream
  Streams files = region_streams (length corners) s.regions files

  of : (k : ℕ) → AreOfRegion s.regions k (length first) 0 (Js k)
  of k = subst (λ (n : ℕ). AreOfRegion s.regions k n 0 (Js k)) many (files_are s.regions k)

  each_source : (P : ℕ → Type 0) → ((k : ℕ) → k < length corners → AllByRecursion P (Js k)) → (j : ℕ) → j < length first → P j
  each_source P each j within =
      let fits : j < length s.regions = omega (arith, within, many) in
      file_has s.regions (slice_index s.regions j) P j fits refl (each (slice_index s.regions j) (omega (arith, region_below s.regions j fits, enough)))

  -- none was taken yet
  pub played_none : (feeds : List Feeding) (m : Merging) → length feeds ≡ length corners → ((k : ℕ) (f : Feeding) → slice_get feeds k ≡ Some f → IsPlaced R (Src first) s k f [] []) → Stands m [] → HasPlayed R corners level (Src first) (Out o) s feeds m 0
  played_none feeds m count placed stands = record {
    passed = λ k. [];
    own = λ k. [];
    placed = placed;
    taken = λ k within. (refl, λ none. refl);
    done = [];
    count = refl;
    stands = stands;
    plans = λ files are. tt;
    gained = Gains-nothing taken_ writes o o refl;
  }

  -- ---- behind n rounds that were written

  module _ (l : List A) (s' : Scheduled) (feeds : List Feeding) (ended : List Bool) (fits : length feeds ≡ length corners) (passed : ℕ → List (List Picture)) (own : ℕ → List Picture) (n : ℕ)
      (so : (k : ℕ) → k < length feeds → HasTakenSo n (passed k) (own k)) (o' : K) (done : List Plan) (count : length done ≡ n) (plans : (files : List Stream) → AreTold R (Src l) files → ArePlayedOf corners level s.regions files done)
      (gained : Gains (Out o') (bytes_of done)) where
    abbrev From : ℕ → Feeding → Bool → Type 0
    From k f go = Went R (Src l) s s' k f passed own (Ok go)

    -- what is told of a region that was gone on with
    kept_so : (k : ℕ) (f : Feeding) (go : Bool) → k < length feeds → From k f go → (files : List Stream) → AreTold R (Src l) files → GoesOn n (region_stream files (Js k)) ⊎ HasEnded n (region_stream files (Js k))
    kept_so k f true within t files are = inl (takes_told bytes faults R first l s.regions k (of k) (passed k) (own k) n (so k within).0 (slice_index s.gone k) (slice_index s'.gone k) f t files are).1
    kept_so k f false within e files are = inr (ends_told bytes faults R first l s.regions k (of k) (passed k) (own k) n (so k within).0 e files are)

    goes_so : (k : ℕ) (f : Feeding) (flag : Bool) → k < length feeds → flag ≡ false → From k f (not flag) → (files : List Stream) → AreTold R (Src l) files → GoesOn n (region_stream files (Js k))
    goes_so k f true within is t files are = let no : true ≡ false = is in absurd (cc)
    goes_so k f false within is t files are = (takes_told bytes faults R first l s.regions k (of k) (passed k) (own k) n (so k within).0 (slice_index s.gone k) (slice_index s'.gone k) f t files are).1

    ends_so : (k : ℕ) (f : Feeding) (flag : Bool) → k < length feeds → flag ≡ true → From k f (not flag) → (files : List Stream) → AreTold R (Src l) files → HasEnded n (region_stream files (Js k))
    ends_so k f false within is e files are = let no : false ≡ true = is in absurd (cc)
    ends_so k f true within is e files are = ends_told bytes faults R first l s.regions k (of k) (passed k) (own k) n (so k within).0 e files are

    in_so : (k : ℕ) (f : Feeding) (go : Bool) → k < length feeds → From k f go → ArePlayedInRound R (Src l) n (Js k)
    in_so k f true within t = inl (takes_in bytes faults R first l s.regions k (of k) (passed k) (own k) n (so k within).0 (slice_index s.gone k) (slice_index s'.gone k) f t)
    in_so k f false within e = ends_in bytes faults R first l s.regions k (of k) (passed k) (own k) n (so k within).0 e

    read_so : (k : ℕ) (f : Feeding) (go : Bool) → From k f go → AllRead (Src l) (Js k)
    read_so k f true t = behind_read bytes faults R first l (Js k) t.more t.j t.behind (takes_read bytes faults R first l t.j f t.others t.takes)
    read_so k f false e = out_read bytes faults R first l (Js k) e.more e.out

    -- what ends it behind them
    ends_behind : (files : List Stream) → AreTold R (Src l) files → (stop : Stop) → StopsIn (play_telling corners level (is_join (length corners) s.regions files) (λ k. refused_file files (Js k)) done) (Streams files) n stop → EndsPlayed corners level s.regions files done (Err stop)
    ends_behind files are stop stops =
        (plans files are, subst (λ (k : ℕ). StopsIn (play_telling corners level (is_join (length corners) s.regions files) (λ i. refused_file files (Js i)) done) (Streams files) k stop) (sym count) stops)

    -- ---- a region stopped it

    module _ (stop : Stop) (at : StopsAt R (Src l) s s' feeds ended passed own stop) where
      k_fits : at.k < length feeds
      k_fits = slice_get_within feeds at.k at.f at.there

      none_before : (files : List Stream) → AreTold R (Src l) files → NoneRefused at.k (Streams files) n
      none_before files are j t before there = of_each (length corners) s.regions files (λ (x : Stream). GoesOn n x ⊎ HasEnded n x) j t there (λ within.
          let inside : j < length feeds = omega (arith, within, fits) in
          let f = some_at feeds j inside in
          kept_so j f.0 (not (get_or ended j false)) inside (at.others.went j f.0 before f.1) files are)

      others_so : OthersArePlayed R (Src l) (length corners) s.regions n at.k
      others_so i within =
          let inside : i < length feeds = omega (arith, within, fits) in
          let f = some_at feeds i inside in (
            λ before. in_so i f.0 (not (get_or ended i false)) inside (at.others.went i f.0 before f.1),
            λ behind. at_for bytes faults R first l (Js i) f.0 (passed i) (own i) n (so i inside) (at.others.stays i f.0 (omega (arith, behind)) f.1).0,
          )

      comes_at : (others : List Picture) (more : List (List Picture)) (j : ℕ) → IsBehind R (Src l) j (Js at.k) more → others ++ one_behind_another [] more ≡ own at.k ++ one_behind_another [] (passed at.k) → ComesAt R (Src l) (length corners) s.regions n at.k j (length others)
      comes_at others more j behind same = record {
        within = omega (arith, k_fits, fits);
        passed = more;
        behind = behind;
        so_far = behind_count bytes faults R first l s.regions at.k (of at.k) (passed at.k) (own at.k) n (so at.k k_fits).0 others more same;
        others = others_so;
      }

      all_read : AllRead (Src l) (Js at.k) → OfEachSource (Src l) IsRead
      all_read here = each_source (λ j. IsRead (At l j)) (λ i within.
          let inside : i < length feeds = omega (arith, within, fits) in
          let f = some_at feeds i inside in
          elim (where_is i at.k) [
            | inl before ↦ read_so i f.0 (not (get_or ended i false)) (at.others.went i f.0 before f.1)
            | inr (inl same) ↦ subst (λ (x : ℕ). AllRead (Src l) (Js x)) (sym same) here
            | inr (inr behind) ↦ at_read bytes faults R first l (Js i) f.0 (passed i) (own i) (at.others.stays i f.0 (omega (arith, behind)) f.1).0
          ])

    cut_stops : (r : Refusal) (place : Place) (at : StopsAt R (Src l) s s' feeds ended passed own (Refused r place)) (files : List Stream) → AreTold R (Src l) files → EndsPlayed corners level s.regions files done (Err (Refused r place))
    cut_stops r place at files are =
        let c = at.went in
        let stop : Stop = Refused r place in
        let e : Ending = record { units = c.units; refusal = r } in
        let inside = k_fits stop at in
        let told = cut_told bytes faults R first l s.regions at.k (of at.k) (passed at.k) (own at.k) n (so at.k inside).0 c.others c.more c.j e c.behind c.same c.told files are in
        let within : at.k < length corners = omega (arith, inside, fits) in
        let is : stop ≡ Refused r (places.Unit (refused_file files (Js at.k)) c.units) = ap (λ (p : Place). Refused r p) (c.is ∙ ap (λ (j : ℕ). places.Unit j c.units) (sym told.1)) in
        ends_behind files are stop (by_stream at.k e (region_stream files (Js at.k), stream_at (length corners) s.regions files at.k within, told.0) (none_before stop at files are) is)

    pub play_halted : (stop : Stop) → StopsAt R (Src l) s s' feeds ended passed own stop → Comes l o' (Err stop)
    play_halted (Refused r place) at =
        let c = at.went in (
          n,
          at_file at.k c.j (length c.others) c.units (comes_at (Refused r place) at c.others c.more c.j c.behind c.same) c.read c.is,
          gained.kept,
          λ files are. (done, count, cut_stops r place at files are, gained),
        )
    play_halted (ReadFault j) at =
        let c = at.went in (
          (behind_of bytes faults R first s.regions at.k (length first) 0 l (Js at.k) c.more j (of at.k) c.behind).1,
          c.failed,
          gained.kept,
          (
            n,
            at.k,
            length c.others,
            comes_at (ReadFault j) at c.others c.more j c.behind c.same,
            c.sees,
            λ files are. (done, count, plans files are, none_before (ReadFault j) at files are, gained),
          ),
        )
    play_halted NoMemory at = (all_read NoMemory at at.went, gained.kept, λ files are. (done, plans files are, gained))
    play_halted NotUnderstood at = absurd at.went
    play_halted (Mismatched x y) at = absurd at.went
    play_halted WriteFault at = absurd at.went

    -- ---- each region was gone on with

    module _ (on : WentOn R (Src l) s s' feeds ended passed own (length feeds) (length feeds)) (flags : length ended ≡ length feeds) where
      region_goes : (files : List Stream) → AreTold R (Src l) files → (k : ℕ) (t : Stream) → slice_get (Streams files) k ≡ Some t → get_or ended k false ≡ false → GoesOn n t
      region_goes files are k t there is = of_each (length corners) s.regions files (λ (x : Stream). GoesOn n x) k t there (λ within.
          let inside : k < length feeds = omega (arith, within, fits) in
          let f = some_at feeds k inside in
          goes_so k f.0 (get_or ended k false) inside is (on.went k f.0 inside f.1) files are)

      region_ends : (files : List Stream) → AreTold R (Src l) files → (k : ℕ) (t : Stream) → slice_get (Streams files) k ≡ Some t → get_or ended k false ≡ true → HasEnded n t
      region_ends files are k t there is = of_each (length corners) s.regions files (λ (x : Stream). HasEnded n x) k t there (λ within.
          let inside : k < length feeds = omega (arith, within, fits) in
          let f = some_at feeds k inside in
          ends_so k f.0 (get_or ended k false) inside is (on.went k f.0 inside f.1) files are)

      many_flags : (files : List Stream) → length ended ≡ length (Streams files)
      many_flags files = omega (arith, flags, fits, many_streams (length corners) s.regions files)

      all_in : (k : ℕ) → k < length corners → ArePlayedInRound R (Src l) n (Js k)
      all_in k within =
          let inside : k < length feeds = omega (arith, within, fits) in
          let f = some_at feeds k inside in
          in_so k f.0 (not (get_or ended k false)) inside (on.went k f.0 inside f.1)

      -- it ends by their lengths
      pub play_uneven : (k : ℕ) → IsLengths ended (Differ k) → Comes l o' (Err (length_refused n k))
      play_uneven k lowest = (
        n,
        at_played_round refl all_in,
        gained.kept,
        λ files are.
            let first_ended = flags_first (Streams files) n ended (many_flags files) (region_goes files are) (region_ends files are) k lowest in (
              done,
              count,
              ends_behind files are (length_refused n k) (length_stops (play_telling corners level (is_join (length corners) s.regions files) (λ i. refused_file files (Js i)) done) (Streams files) n k (length_refused n k) refl first_ended),
              gained,
            ),
      )

      -- or all have ended
      out_at : IsLengths ended lengths.AllEnded → (k : ℕ) → k < length corners → AllByRecursion (λ j. IsReadOut (At l j)) (Js k)
      out_at all k within =
          let inside : k < length feeds = omega (arith, within, fits) in
          let f = some_at feeds k inside in
          gone f.0 (get_or ended k false) (all k (omega (arith, inside, flags))) (on.went k f.0 inside f.1)
        where
          gone : (f : Feeding) (flag : Bool) → flag ≡ true → From k f (not flag) → AllByRecursion (λ j. IsReadOut (At l j)) (Js k)
          gone f true is e = out_out bytes faults R first l (Js k) e.more e.out
          gone f false is e = let no : false ≡ true = is in absurd (cc)

      pub play_done : IsLengths ended lengths.AllEnded → Comes l o' (Ok tt)
      play_done all = (
        each_source (λ j. IsReadOut (At l j)) (out_at all),
        gained.kept,
        λ files are. (
          done,
          (plans files are, subst (λ (k : ℕ). AllEnded (Streams files) k) (sym count) (flags_ended (Streams files) n ended (many_flags files) (region_goes files are) (region_ends files are) all)),
          gained,
        ),
      )

      -- ---- a picture of each was taken

      module _ (go : IsLengths ended AllGo) where
        takes_at : (k : ℕ) (f : Feeding) → slice_get feeds k ≡ Some f → Takes R (Src l) (Js k) (slice_index s.gone k) (slice_index s'.gone k) f (passed k) (own k)
        takes_at k f there =
            let inside : k < length feeds = slice_get_within feeds k f there in
            taken (get_or ended k false) (any_default ended k false true (omega (arith, inside, flags)) ∙ go k (omega (arith, inside, flags))) (on.went k f inside there)
          where
            taken : (flag : Bool) → flag ≡ false → From k f (not flag) → Takes R (Src l) (Js k) (slice_index s.gone k) (slice_index s'.gone k) f (passed k) (own k)
            taken false is t = t
            taken true is t = let no : true ≡ false = is in absurd (cc)

        pub play_holds : All (λ (f : Feeding). HasPicture f.assembler) feeds
        play_holds = each_holds feeds (λ k f at. (takes_at k f at).takes.holds)

        told_at : (k : ℕ) (f : Feeding) (there : slice_get feeds k ≡ Some f) (files : List Stream) → AreTold R (Src l) files
            → let t = takes_at k f there in (picture_in n (region_stream files (Js k)) ≡ Some t.takes.one.picture) × GoesOn n (region_stream files (Js k)) × (begins_file 0 (pictures_in files (Js k)) n ≡ is_empty t.others)
        told_at k f there files are = takes_told bytes faults R first l s.regions k (of k) (passed k) (own k) n (so k (slice_get_within feeds k f there)).0 (slice_index s.gone k) (slice_index s'.gone k) f (takes_at k f there) files are

        abbrev round : List Parts
        round = map (λ (f : Feeding). lent_by f.assembler) feeds

        round_there : (files : List Stream) → AreTold R (Src l) files → IsRound (Streams files) n round
        round_there files are =
            same_lists (map (part_in n) (Streams files)) (map (λ (q : Parts). let x : Option Parts = Some q in x) round)
            (omega (arith, many_streams (length corners) s.regions files, length-map (Streams files) (part_in n), length-map feeds (λ (f : Feeding). lent_by f.assembler), length-map round (λ (q : Parts). let x : Option Parts = Some q in x), fits))
            (λ k x y at there.
            let t = mapped_at (part_in n) (Streams files) k x at in
            let q = mapped_at (λ (p : Parts). let z : Option Parts = Some p in z) round k y there in
            let f = mapped_at (λ (g : Feeding). lent_by g.assembler) feeds k q.0 q.1 in
            let here = takes_at k f.0 f.1 in
            let told : part_in n t.0 ≡ Some (parts_of here.takes.one.picture) =
            of_each (length corners) s.regions files (λ (z : Stream). part_in n z ≡ Some (parts_of here.takes.one.picture)) k t.0 t.1 (λ within. ap (option_map parts_of) (told_at k f.0 f.1 files are).0) in
            sym t.2 ∙ told ∙ ap (λ (z : Parts). let w : Option Parts = Some z in w) (sym here.takes.lent ∙ f.2) ∙ q.2)

        -- files have no more pictures than so many
        pub play_below : 0 < length feeds → length s.regions ≤ 256 → n < 2 ^ 49
        play_below some few =
            let f = some_at feeds 0 some in
            let t = takes_at 0 f.0 f.1 in
            let held = behind_count bytes faults R first l s.regions 0 (of 0) (passed 0) (own 0) n (so 0 some).0 t.others t.more t.same in
            let gone = slice_get_within (Js 0) (length t.more) t.j (behind_current bytes faults R first l (Js 0) t.more t.j t.behind) in
            let files = few_files s.regions 0 (length first) 0 (Js 0) (of 0) (omega arith) in
            omega (arith, held, gone, files, many, few, t.below, t.few.passed_few)

        -- whether it is joined
        module _ (b : Bool) (regions_gone : length s.gone ≡ length feeds) (still : length s'.gone ≡ length s.gone) (moved : b ≡ true → (0 < n) × (s.gone ≢ s'.gone)) (stayed : b ≡ false → (n ≡ 0) ⊎ (s.gone ≡ s'.gone)) where
          own_empty : (k : ℕ) → k < length feeds → own k ≡ [] → n ≡ 0
          own_empty k inside none =
              let empty = (so k inside).1 none in
              omega (arith, (so k inside).0, ap (λ (x : List Picture). length x) none, ap (λ (x : List (List Picture)). count_of x) empty)

          join_there : (files : List Stream) → AreTold R (Src l) files → is_join (length corners) s.regions files n ≡ b
          join_there files are =
              join_is n (list_any (begins_in s.regions files n) (range_with_len 0 (length corners))) b none_first (λ some.
              any_moved (length corners) (begins_in s.regions files n) s.gone s'.gone (omega (arith, regions_gone, fits)) (omega (arith, still, regions_gone, fits)) (moves some) (rests some) b (λ is. (moved is).1) (unmoved some))
            where
              none_first : n ≡ 0 → b ≡ false
              none_first zero_ = flag b refl
                where
                  flag : (x : Bool) → b ≡ x → b ≡ false
                  flag true is = absurd (omega (arith, (moved is).0, zero_))
                  flag false is = is

              unmoved : 0 < n → b ≡ false → s.gone ≡ s'.gone
              unmoved some is = elim (stayed is) [ inl zero_ ↦ absurd (omega (arith, some, zero_)) | inr same ↦ same ]

              moves : 0 < n → (k : ℕ) → k < length corners → begins_in s.regions files n k ≡ true → slice_index s.gone k ≢ slice_index s'.gone k
              moves some k within is same =
                  let inside : k < length feeds = omega (arith, within, fits) in
                  let f = some_at feeds k inside in
                  let t = takes_at k f.0 f.1 in
                  let empty : t.others ≡ [] = none_there t.others (sym (told_at k f.0 f.1 files are).2 ∙ is) in
                  elim t.stays [
                    | inl stays ↦ omega (arith, some, own_empty k inside (sym stays.1 ∙ empty))
                    | inr begins ↦ omega (arith, begins.0, same)
                  ]

              rests : 0 < n → (k : ℕ) → k < length corners → begins_in s.regions files n k ≡ false → slice_index s'.gone k ≡ slice_index s.gone k
              rests some k within is =
                  let inside : k < length feeds = omega (arith, within, fits) in
                  let f = some_at feeds k inside in
                  let t = takes_at k f.0 f.1 in
                  let not_empty : is_empty t.others ≡ false = sym (told_at k f.0 f.1 files are).2 ∙ is in
                  elim t.stays [
                    | inl stays ↦ stays.0
                    | inr begins ↦ let no : true ≡ false = sym (ap (λ (x : List Picture). is_empty x) begins.1) ∙ not_empty in absurd (cc)
                  ]

          -- ---- the round was written, or not

          module _ (o'' : K) (m m' : Merging) (corners_same : m.corners ≡ corners) (level_same : m.level ≡ level) (task : SameTask m m') (stands : Stands m done) where
            abbrev Played : Outcome → Type 0
            Played outcome = PlaysRound b round done m' (change taken_ writes o' o'') n outcome

            own_passes : (p : Plan) → PassesWhere b m'.corners m'.level (marked b round) done p → PassesWhere b corners level (marked b round) done p
            own_passes p = passes_so m' corners level (task.corners ∙ corners_same) (task.level ∙ level_same) b (marked b round) done p

            more_plans : (p : Plan) → PassesWhere b corners level (marked b round) done p → (files : List Stream) → AreTold R (Src l) files → ArePlayedOf corners level s.regions files (p ∷ done)
            more_plans p passes files are =
                let joins : is_join (length corners) s.regions files (length done) ≡ b = ap (is_join (length corners) s.regions files) count ∙ join_there files are in (
                  (
                    round,
                    subst (λ (k : ℕ). IsRound (Streams files) k round) (sym count) (round_there files are),
                    subst (λ (x : Bool). PassesWhere x corners level (marked x round) done p) (sym joins) passes,
                  ),
                  plans files are,
                )

            barred_there : (r : Refusal) → IsBarredWhere b corners level (marked b round) done r → (files : List Stream) → AreTold R (Src l) files → EndsPlayed corners level s.regions files done (Err (Refused r (places.Picture n)))
            barred_there r barred files are =
                let joins = join_there files are in
                ends_behind files are (Refused r (places.Picture n)) (by_round round (round_there files are) (r, subst (λ (x : Bool). IsBarredWhere x corners level (marked x round) done r) (sym joins) barred, refl))

            for_it : (k : ℕ) → k < length corners → ArePlayedFor R (Src l) (n + 1) (Js k)
            for_it k within =
                let inside : k < length feeds = omega (arith, within, fits) in
                let f = some_at feeds k inside in
                takes_in bytes faults R first l s.regions k (of k) (passed k) (own k) n (so k inside).0 (slice_index s.gone k) (slice_index s'.gone k) f.0 (takes_at k f.0 f.1)

            all_taken : OfEachSource (Src l) IsRead
            all_taken = each_source (λ j. IsRead (At l j)) (λ k within.
                let inside : k < length feeds = omega (arith, within, fits) in
                let f = some_at feeds k inside in
                read_so k f.0 true (takes_at k f.0 f.1))

            pub play_stopped : (stop : Stop) → Played (Err stop) → Comes l o'' (Err stop)
            play_stopped (Refused r place) did =
                let none = wrote_barred taken_ writes o o' o'' m' round done gained b r did.0 in
                let barred = barred_so m' corners level (task.corners ∙ corners_same) (task.level ∙ level_same) b (marked b round) done r none.1 in
                subst (λ (p : Place). Comes l o'' (Err (Refused r p))) (sym did.1)
                (n, at_played_round refl (λ k within. inl (for_it k within)), none.0.kept, λ files are. (done, count, barred_there r barred files are, none.0))
            play_stopped WriteFault did =
                let part = wrote_front taken_ writes o o' o'' m' round done gained b did in
                let p = part.0 in
                (n, for_it, part.2.failed, λ files are. (done, p, count, more_plans p (own_passes p part.1) files are, part.2))
            play_stopped NoMemory did =
                let none = wrote_nothing taken_ writes o o' o'' m' round done gained b did in
                (all_taken, none.kept, λ files are. (done, plans files are, none))
            play_stopped NotUnderstood did = absurd did
            play_stopped (Mismatched x y) did = absurd did
            play_stopped (ReadFault k) did = absurd did

            -- ---- one more round

            abbrev Two : Type 0
            Two = List (List Picture) × List Picture

            abbrev IsNext : Scheduled → ℕ → Two → Type 0
            IsNext s'' k y = (f : Feeding) → slice_get feeds k ≡ Some f → IsPlaced R (Src l) s'' k f y.0 y.1 × HasTakenSo (n + 1) y.0 y.1

            module _ (s'' : Scheduled) (regions_same : s''.regions ≡ s.regions) (gone_same : s''.gone ≡ s'.gone) where
              next_at : (k : ℕ) (f : Feeding) → slice_get feeds k ≡ Some f → (y : Two) × (IsPlaced R (Src l) s'' k f y.0 y.1 × HasTakenSo (n + 1) y.0 y.1)
              next_at k f there =
                  let t = takes_at k f there in
                  let inside : k < length feeds = slice_get_within feeds k f there in
                  let js : files_of_region s''.regions k ≡ Js k = ap (λ (x : List ℕ). files_of_region x k) regions_same in
                  let behind : IsBehind R (Src l) t.j (files_of_region s''.regions k) t.more = subst (λ (x : List ℕ). IsBehind R (Src l) t.j x t.more) (sym js) t.behind in
                  let held = behind_count bytes faults R first l s.regions k (of k) (passed k) (own k) n (so k inside).0 t.others t.more t.same in (
                    (t.more, t.takes.one.picture ∷ t.others),
                    (
                      (inl (t.j, behind, (t.takes.one, refl)), record { own_few = omega (arith, t.below); passed_few = t.few.passed_few }, t.place ∙ ap (λ (x : List ℕ). slice_index x k) (sym gone_same)),
                      (omega (arith, held), λ none. absurd (omega (arith, ap (λ (x : List Picture). length x) none))),
                    ),
                  )

              picked : (ys : List Two) × (length ys ≡ length feeds) × ((k : ℕ) (y : Two) → slice_get ys k ≡ Some y → IsNext s'' k y)
              picked = choose (length feeds) (IsNext s'') (λ k within.
                  let f = some_at feeds k within in
                  let y = next_at k f.0 f.1 in
                  (y.0, λ g there. subst (λ (x : Feeding). IsPlaced R (Src l) s'' k x y.0.0 y.0.1 × HasTakenSo (n + 1) y.0.0 y.0.1) (same_Some f.0 g (sym f.1 ∙ there)) y.1))

              abbrev pick : ℕ → Two
              pick k = get_or picked.0 k ([], [])

              pick_at : (k : ℕ) (f : Feeding) → slice_get feeds k ≡ Some f → IsPlaced R (Src l) s'' k f (pick k).0 (pick k).1 × HasTakenSo (n + 1) (pick k).0 (pick k).1
              pick_at k f there =
                  let inside : k < length picked.0 = omega (arith, slice_get_within feeds k f there, picked.1) in
                  picked.2 k (pick k) (slice_get-get_or picked.0 k ([], []) inside) f there

              pub play_more : Played (Ok tt) → HasPlayed R corners level (Src l) (Out o'') s'' feeds m' (n + 1)
              play_more did =
                  let one = wrote_one taken_ writes o o' o'' m' round done gained b did in
                  let p = one.0 in
                  record {
                    passed = λ k. (pick k).0;
                    own = λ k. (pick k).1;
                    placed = λ k f there. (pick_at k f there).0;
                    taken = λ k within. let f = some_at feeds k within in (pick_at k f.0 f.1).1;
                    done = p ∷ done;
                    count = omega (arith, count);
                    stands = one.2;
                    plans = λ files are. subst (λ (x : List ℕ). ArePlayedOf corners level x files (p ∷ done)) (sym regions_same) (more_plans p (own_passes p one.1) files are);
                    gained = one.3;
                  }

-- ---- what was answered of all regions

module _ {A K : Type 0} (bytes : A → Option (List ℕ)) (faults : A → ℕ) (taken_ : K → Option (List ℕ)) (writes : K → ℕ) (R : Readers) (first : List A) (o : K) (corners : List Corner) (level : Option ℕ)
    (s : Scheduled) (many : length s.regions ≡ length first) (enough : regions_counted s.regions ≡ length corners) (l l' : List A) (s' : Scheduled) (feeds fs : List Feeding) (ended : List Bool) (fits : length fs ≡ length corners)
    (alike : length fs ≡ length feeds) (flags : length ended ≡ length fs) (n : ℕ) (o' : K) (m : Merging) (h : HasPlayed R corners level (sources_change bytes faults first l) (change taken_ writes o o') s feeds m n) where
  abbrev Own : Sources A
  Own = sources_change bytes faults first l'

  abbrev Advanced : Result Bool Stop → Type 0
  Advanced result = AdvancesRegions R Own s s' fs ended h.passed h.own n result

  so_taken : (k : ℕ) → k < length fs → HasTakenSo n (h.passed k) (h.own k)
  so_taken k within = h.taken k (omega (arith, within, alike))

  plans_told : (files : List Stream) → AreTold R Own files → ArePlayedOf corners level s.regions files h.done
  plans_told files are = h.plans files (record { count = are.count; each = are.each })

  -- a region, or their lengths, stopped it
  pub advance_stops : (stop : Stop) → Advanced (Err stop) → PlaysRounds R corners level s.regions Own (change taken_ writes o o') (Err stop)
  advance_stops stop (inl at) = play_halted bytes faults taken_ writes R first o corners level s many enough l' s' fs ended fits h.passed h.own n so_taken o' h.done h.count plans_told h.gained stop at
  advance_stops stop (inr by) =
      subst (λ (x : Stop). PlaysRounds R corners level s.regions Own (change taken_ writes o o') (Err x)) (sym by.1.2)
      (play_uneven bytes faults taken_ writes R first o corners level s many enough l' s' fs ended fits h.passed h.own n so_taken o' h.done h.count plans_told h.gained by.0 flags by.1.0 by.1.1)

  pub advance_done : Advanced (Ok false) → PlaysRounds R corners level s.regions Own (change taken_ writes o o') (Ok tt)
  advance_done by = play_done bytes faults taken_ writes R first o corners level s many enough l' s' fs ended fits h.passed h.own n so_taken o' h.done h.count plans_told h.gained by.0 flags by.1

  -- ---- a picture of each was taken

  module _ (by : Advanced (Ok true)) where
    pub advance_holds : All (λ (f : Feeding). HasPicture f.assembler) fs
    advance_holds = play_holds bytes faults taken_ writes R first o corners level s many enough l' s' fs ended fits h.passed h.own n so_taken o' h.done h.count plans_told h.gained by.0 flags by.1

    -- there are fewer rounds than files can have
    pub advance_below : 0 < length fs → length s.regions ≤ 256 → n < 2 ^ 49
    advance_below some few = play_below bytes faults taken_ writes R first o corners level s many enough l' s' fs ended fits h.passed h.own n so_taken o' h.done h.count plans_told h.gained by.0 flags by.1 some few

    module _ (b : Bool) (regions_gone : length s.gone ≡ length fs) (still : length s'.gone ≡ length s.gone) (moved : b ≡ true → (0 < n) × (s.gone ≢ s'.gone)) (stayed : b ≡ false → (n ≡ 0) ⊎ (s.gone ≡ s'.gone))
        (o'' : K) (m' : Merging) (corners_same : m.corners ≡ corners) (level_same : m.level ≡ level) (task : SameTask m m') where
      abbrev Answered : Outcome → Type 0
      Answered outcome = (done : List Plan) → Stands m done → PlaysRound b (map (λ (f : Feeding). lent_by f.assembler) fs) done m' (change taken_ writes o' o'') n outcome

      pub round_stops : (stop : Stop) → Answered (Err stop) → PlaysRounds R corners level s.regions Own (change taken_ writes o o'') (Err stop)
      round_stops stop did = play_stopped bytes faults taken_ writes R first o corners level s many enough l' s' fs ended fits h.passed h.own n so_taken o' h.done h.count plans_told h.gained by.0 flags by.1 b regions_gone still moved stayed o'' m m' corners_same level_same task h.stands stop (did h.done h.stands)

      pub round_goes : (s'' : Scheduled) → s''.regions ≡ s.regions → s''.gone ≡ s'.gone → Answered (Ok tt) → HasPlayed R corners level Own (change taken_ writes o o'') s'' fs m' (n + 1)
      round_goes s'' regions gone did = play_more bytes faults taken_ writes R first o corners level s many enough l' s' fs ended fits h.passed h.own n so_taken o' h.done h.count plans_told h.gained by.0 flags by.1 b regions_gone still moved stayed o'' m m' corners_same level_same task h.stands s'' regions gone (did h.done h.stands)
