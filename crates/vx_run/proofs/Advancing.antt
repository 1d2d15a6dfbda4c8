-- What sources come to, round by round.
use Rattle.std.proofs.Common.{◌≡◌, ◌≢◌, ℕ, ◌+◌, ◌<◌, ◌≤◌, ◌⊎◌, List, [], ◌∙◌, Option, Some, Result, Ok, Err, Bool, true, false, not, ◌^◌, length, map, get_or, slice_get, slice_set, inl, inr, sym, ap, refl, subst, arith}
use Rattle.std.specs.Prelude.{option_and_then}
use Rattle.std.specs.Option.{option_map_or}
use Rattle.std.specs.List.{All}
use Rattle.std.proofs.lemmas.List.{get_or-set_same}
use Rattle.std.proofs.lemmas.List.{length-map, length-set}
use Rattle.std.proofs.lemmas.Option.{slice_get_within, slice_get-get_or, slice_get_read, same_Some}
use Rattle.vx_io.specs.Listed.{bytes_at, faults_at}
use Rattle.vx_bits.specs.declared.refusal.Refusal.{Refusal}
use Rattle.vx_annexb.specs.ByteStream.{UnitPlace}
use Rattle.vx_annexb.specs.Reading.{LastWasNeeded}
use Rattle.vx_pic.specs.Readings.{Reading, Picture}
use Rattle.vx_pic.specs.Rules.{Readers}
use Rattle.vx_pic.specs.Bytes.{Ending}
use Rattle.vx_run.specs.declared.stop.Place.{Place}
use Rattle.vx_assemble.specs.Held.{HasPicture, lent_by}
use Rattle.vx_assemble.specs.Feed.{Feeding, EndsAtEnd, HasFed}
use Rattle.vx_merge.specs.declared.ended.Lengths.TheVariants as lengths
use Rattle.vx_merge.specs.declared.ended.Lengths.TheVariants.{AllGo, Differ}
use Rattle.vx_merge.specs.Ends.{IsLengths}
use Rattle.vx_run.specs.declared.stop.Stop.{Stop}
use Rattle.vx_run.specs.declared.stop.Stop.TheVariants.{NotUnderstood, Mismatched, Refused, ReadFault, WriteFault, NoMemory}
use Rattle.vx_run.specs.Change.{Change, Sources, sources_change, source_at}
use Rattle.vx_run.specs.Extract.{WhereTold, BeginsWithPictures}
use Rattle.vx_run.specs.Rounds.{Stream, GoesOn, HasEnded, IsRound, NoneRefused, Telling, StopsIn, by_stream, by_length, stream_refused, AllEnded, AreTold, OfEachSource, Sees}
use Rattle.vx_run.specs.Rounds.{IsRead, IsReadOut, IsReadFor, IsReadInRound, OthersAreRead}
use Rattle.vx_run.specs.inner.Advancing.{OfAll, IsUnfed, LendsLatest, Waits, TakesOne, Came, AreWaiting, AreAdvancing, AdvancesOf, AllTake, AllEnd, GoesBy, Begin, IsFirstRefused, EndsFirst, HaltsAtSource, AdvancesAll}
use Rattle.vx_run.proofs.Taking.{taken_below}
use Rattle.vx_run.proofs.Indexed.{some_at, mapped_at, any_default, set_there, set_other, get_set_there, get_set_other, where_is}
use Rattle.vx_run.proofs.Sources.{untouched_read, untouched_waits, Advanced, HasRound, round_stays, waits_still, came_still, waits_read, waits_for, waits_begin, takes_read, takes_for, takes_goes, ends_there, came_read, came_in, came_begin, came_kept, waits_taken, went, step_takes, step_ends, step_refused, step_unread, step_none, told_of}
use Rattle.vx_run.proofs.Told.{refused_at}

-- what holds at each index does of each element
pub each_holds : {B : Type 0} {P : B → Type 0} (xs : List B) → ((k : ℕ) (x : B) → slice_get xs k ≡ Some x → P x) → All P xs
each_holds xs each k d within = each k (get_or xs k d) (slice_get-get_or xs k d within)

module _ {A : Type 0} (bytes : A → Option (List ℕ)) (faults : A → ℕ) (R : Readers) (first : List A) where
  abbrev Src : List A → Sources A
  Src l = sources_change bytes faults first l

  abbrev At : List A → ℕ → Change (Option A)
  At l k = source_at (Src l) k

  -- ---- the streams that are told

  pub counted : (l : List A) (ss : List Stream) (taken : List (List Picture)) → AreTold R (Src l) ss → length taken ≡ length first → length ss ≡ length taken
  counted l ss taken are count = are.count ∙ sym count

  pub begin_told : (l : List A) (taken : List (List Picture)) → OfAll (λ k ps. WhereTold R (At l k) (λ qs e. BeginsWithPictures qs ps)) taken → (ss : List Stream) → AreTold R (Src l) ss → Begin ss taken
  begin_told l taken each ss are k s ps at there = told_of bytes faults R first l ss k s (λ qs e. BeginsWithPictures qs ps) are at (each k ps there)

  -- ---- all have ended

  module _ (l : List A) (taken : List (List Picture)) (n : ℕ) (all : AllEnd R (Src l) taken n) where
    pub all_out : OfEachSource (Src l) IsReadOut
    all_out k within =
        let fits : k < length taken = omega (arith, within, all.taken_count) in
        let ps = some_at taken k fits in
        (all.each k ps.0 ps.1).read

    pub end_begin : (ss : List Stream) → AreTold R (Src l) ss → Begin ss taken
    end_begin = begin_told l taken (λ k ps there b qs e told is. ([], ((all.each k ps there).told b qs e told is).0))

    pub all_ended : (ss : List Stream) → AreTold R (Src l) ss → AllEnded ss n
    all_ended ss are k s within at =
        let fits : k < length taken = omega (arith, within, counted l ss taken are all.taken_count) in
        let ps = some_at taken k fits in
        subst (λ (m : ℕ). HasEnded m s) (all.rounds k ps.0 ps.1)
        (told_of bytes faults R first l ss k s (λ qs e. HasEnded (length ps.0) (record { pictures = qs; ending = e })) are at (ends_there bytes faults R first l k ps.0 (all.each k ps.0 ps.1)))

  -- ---- a picture of each was taken

  module _ (l : List A) (feeds : List Feeding) (taken : List (List Picture)) (n : ℕ) (all : AllTake R (Src l) feeds taken n) where
    taker : (k : ℕ) → k < length first → (f : Feeding) × (ps : List Picture) × TakesOne R (At l k) f ps × (length ps ≡ n)
    taker k within =
        let fits : k < length feeds = omega (arith, within, all.feeds_count) in
        let fitting : k < length taken = omega (arith, within, all.taken_count) in
        let f = some_at feeds k fits in
        let ps = some_at taken k fitting in
        (f.0, ps.0, all.each k f.0 ps.0 f.1 ps.1, all.rounds k ps.0 ps.1)

    pub take_begin : (ss : List Stream) → AreTold R (Src l) ss → Begin ss taken
    take_begin = begin_told l taken taken_begin
      where
        taken_begin : OfAll (λ k ps. WhereTold R (At l k) (λ qs e. BeginsWithPictures qs ps)) taken
        taken_begin k ps there =
            let fits : k < length feeds = omega (arith, slice_get_within taken k ps there, all.feeds_count, all.taken_count) in
            let f = some_at feeds k fits in
            came_begin bytes faults R first l k f.0 ps false (all.each k f.0 ps f.1 there)

    pub take_read : OfEachSource (Src l) IsRead
    take_read k within = let t = taker k within in takes_read bytes faults R first l k t.0 t.1 t.2

    pub take_for : OfEachSource (Src l) (IsReadFor R (n + 1))
    take_for k within = let t = taker k within in takes_for bytes faults R first l k n t.0 t.1 t.3 t.2

    -- the round of the pictures that are lent is that of the streams
    pub round_told : (h : HasRound bytes faults R first l feeds taken n) (ss : List Stream) → AreTold R (Src l) ss → IsRound ss n (map (λ (f : Feeding). lent_by f.assembler) feeds)
    round_told h ss are =
        let count : length ss ≡ length h.next = counted l ss h.next are h.waiting.taken_count in
        round_stays ss h.next (n + 1) n count h.waiting.rounds (begin_told l h.next h.ahead ss are) (omega arith) ∙ h.round

  -- ---- all sources were gone on with

  module _ (l : List A) (feeds : List Feeding) (taken : List (List Picture)) (n : ℕ) (ended : List Bool) (same : length ended ≡ length first) (adv : AreAdvancing R (Src l) feeds taken n ended (length first)) where
    came_at : (k : ℕ) (f : Feeding) (ps : List Picture) → slice_get feeds k ≡ Some f → slice_get taken k ≡ Some ps → Came R (At l k) f ps (get_or ended k false)
    came_at k f ps at there =
        let within : k < length first = omega (arith, slice_get_within feeds k f at, adv.feeds_count) in
        adv.came k f ps at there within

    go_flag : (k : ℕ) → k < length first → get_or ended k true ≡ false → get_or ended k false ≡ false
    go_flag k within is = any_default ended k false true (omega (arith, within, same)) ∙ is

    all_take : IsLengths ended AllGo → AllTake R (Src l) feeds taken n
    all_take go = record {
      feeds_count = adv.feeds_count;
      taken_count = adv.taken_count;
      rounds = adv.rounds;
      each = λ k f ps at there.
          let within : k < length first = omega (arith, slice_get_within feeds k f at, adv.feeds_count) in
          subst (λ (b : Bool). Came R (At l k) f ps b) (go_flag k within (go k (omega (arith, within, same)))) (came_at k f ps at there);
    }

    all_end : IsLengths ended lengths.AllEnded → AllEnd R (Src l) taken n
    all_end ends = record {
      taken_count = adv.taken_count;
      rounds = adv.rounds;
      each = λ k ps there.
          let within : k < length first = omega (arith, slice_get_within taken k ps there, adv.taken_count) in
          let fits : k < length feeds = omega (arith, within, adv.feeds_count) in
          let f = some_at feeds k fits in
          subst (λ (b : Bool). Came R (At l k) f.0 ps b) (ends k (omega (arith, within, same))) (came_at k f.0 ps f.1 there);
    }

    comer : (k : ℕ) → k < length first → (f : Feeding) × (ps : List Picture) × (slice_get taken k ≡ Some ps) × Came R (At l k) f ps (get_or ended k false)
    comer k within =
        let fits : k < length feeds = omega (arith, within, adv.feeds_count) in
        let fitting : k < length taken = omega (arith, within, adv.taken_count) in
        let f = some_at feeds k fits in
        let ps = some_at taken k fitting in
        (f.0, ps.0, ps.1, came_at k f.0 ps.0 f.1 ps.1)

    come_begin : OfAll (λ k ps. WhereTold R (At l k) (λ qs e. BeginsWithPictures qs ps)) taken
    come_begin k ps there =
        let within : k < length first = omega (arith, slice_get_within taken k ps there, adv.taken_count) in
        let fits : k < length feeds = omega (arith, within, adv.feeds_count) in
        let f = some_at feeds k fits in
        came_begin bytes faults R first l k f.0 ps (get_or ended k false) (came_at k f.0 ps f.1 there)

    -- what a stream does that is told
    module _ (ss : List Stream) (are : AreTold R (Src l) ss) (k : ℕ) (s : Stream) (at : slice_get ss k ≡ Some s) where
      within_ : k < length first
      within_ = omega (arith, slice_get_within ss k s at, are.count)

      stream_goes : get_or ended k false ≡ false → GoesOn n s
      stream_goes go =
          let c = comer k within_ in
          subst (λ (m : ℕ). GoesOn m s) (adv.rounds k c.1 c.2)
          (told_of bytes faults R first l ss k s (λ qs e. GoesOn (length c.1) (record { pictures = qs; ending = e })) are at (takes_goes bytes faults R first l k c.0 c.1 (subst (λ (b : Bool). Came R (At l k) c.0 c.1 b) go c.3)))

      stream_ends : get_or ended k false ≡ true → HasEnded n s
      stream_ends end =
          let c = comer k within_ in
          subst (λ (m : ℕ). HasEnded m s) (adv.rounds k c.1 c.2)
          (told_of bytes faults R first l ss k s (λ qs e. HasEnded (length c.1) (record { pictures = qs; ending = e })) are at (ends_there bytes faults R first l k c.1 (subst (λ (b : Bool). Came R (At l k) c.0 c.1 b) end c.3)))

      stream_keeps : GoesOn n s ⊎ HasEnded n s
      stream_keeps =
          let c = comer k within_ in
          subst (λ (m : ℕ). GoesOn m s ⊎ HasEnded m s) (adv.rounds k c.1 c.2)
          (told_of bytes faults R first l ss k s (λ qs e. let t : Stream = record { pictures = qs; ending = e } in GoesOn (length c.1) t ⊎ HasEnded (length c.1) t) are at (came_kept bytes faults R first l k c.0 c.1 (get_or ended k false) c.3))

    flag_cases : (b : Bool) → (b ≡ true) ⊎ (b ≡ false)
    flag_cases true = inl refl
    flag_cases false = inr refl

    all_in : OfEachSource (Src l) (IsReadInRound R n)
    all_in j within = let c = comer j within in came_in bytes faults R first l j n c.0 c.1 (get_or ended j false) (adv.rounds j c.1 c.2) c.3

    -- the lowest that has ended, where another one hasn't
    ends_first : (k : ℕ) → IsLengths ended (Differ k) → (ss : List Stream) → AreTold R (Src l) ss → EndsFirst ss n k
    ends_first k lowest ss are =
        let fits : k < length ss = omega (arith, lowest.0.in_range, same, are.count) in
        let s = some_at ss k fits in
        let fitting : lowest.1.0 < length ss = omega (arith, lowest.1.1, same, are.count) in
        let u = some_at ss lowest.1.0 fitting in
        record {
          none = λ j v before there. stream_keeps ss are j v there;
          lowest = record {
            in_range = fits;
            breaks = (s.0, s.1, stream_ends ss are k s.0 s.1 lowest.0.breaks);
            lower = λ j before of. elim (flag_cases (get_or ended j false)) [
              | inl end ↦ lowest.0.lower j before end
              | inr go ↦ let goes = stream_goes ss are j of.0 of.1 go in omega (arith, goes, of.2.0)
            ];
          };
          goes = (lowest.1.0, (u.0, u.1, stream_goes ss are lowest.1.0 u.0 u.1 (go_flag lowest.1.0 (omega (arith, lowest.1.1, same)) lowest.1.2)));
        }

    pub goes_so : (of_length : ℕ → ℕ → Stop) (result : Result Bool Stop) → GoesBy of_length ended n result → AdvancesAll of_length R (Src l) feeds taken n result
    goes_so of_length (Ok true) by = all_take by
    goes_so of_length (Ok false) by = all_end by
    goes_so of_length (Err stop) by = inr (record { k = by.0; is = by.2; read = all_in; told = λ ss are. (begin_told l taken come_begin ss are, ends_first by.0 by.1 ss are) })

  -- ---- all sources

  -- none was read yet
  pub unread : OfEachSource (Src first) IsRead
  unread k within = untouched_read (At first k) refl

  -- none was taken yet
  pub waiting_none : (feeds : List Feeding) → length feeds ≡ length first → OfAll (λ k f. IsUnfed f) feeds → AreWaiting R (Src first) feeds (map (λ (f : Feeding). let ps : List Picture = [] in ps) feeds) 0
  waiting_none feeds count unfed =
      let none : Feeding → List Picture = λ f. [] in
      record {
        feeds_count = count;
        taken_count = length-map feeds none ∙ count;
        rounds = λ k ps at. let m = mapped_at none feeds k ps at in ap (λ (l : List Picture). length l) (sym m.2);
        waits = λ k f ps at there.
            let m = mapped_at none feeds k ps there in
            subst (λ (l : List Picture). Waits R (At first k) f l) m.2 (untouched_waits bytes faults R first first k f refl (unfed k f at));
      }

  module _ (l : List A) (feeds : List Feeding) (taken : List (List Picture)) (n : ℕ) (all : AllTake R (Src l) feeds taken n) where
    -- there are fewer than units were taken
    pub rounds_below : (f : Feeding) → slice_get feeds 0 ≡ Some f → n < f.units
    rounds_below f at =
        let fits : 0 < length taken = omega (arith, slice_get_within feeds 0 f at, all.feeds_count, all.taken_count) in
        let ps = some_at taken 0 fits in
        let t = all.each 0 f ps.0 at ps.1 in
        omega (arith, taken_below (option_and_then bytes) (λ x. option_map_or faults x 0) R (slice_get first 0) (slice_get l 0) f ps.0 t.one, all.rounds 0 ps.0 ps.1)

    pub all_hold : All (λ (f : Feeding). HasPicture f.assembler) feeds
    all_hold =
        each_holds feeds (λ k f at.
        let fits : k < length taken = omega (arith, slice_get_within feeds k f at, all.feeds_count, all.taken_count) in
        let ps = some_at taken k fits in
        (all.each k f ps.0 at ps.1).holds)

  -- ---- one source after another

  -- none was gone on with yet
  pub advancing_none : (l : List A) (feeds : List Feeding) (taken : List (List Picture)) (n : ℕ) (ended : List Bool) → AreWaiting R (Src l) feeds taken n → AreAdvancing R (Src l) feeds taken n ended 0
  advancing_none l feeds taken n ended w = record {
    feeds_count = w.feeds_count;
    taken_count = w.taken_count;
    rounds = w.rounds;
    came = λ k f ps at there before. absurd (omega (arith, before));
    waits = λ k f ps at there behind. w.waits k f ps at there;
  }

  -- all were
  pub advancing_all : (l : List A) (feeds : List Feeding) (taken : List (List Picture)) (n : ℕ) (ended : List Bool) (k : ℕ) → AreAdvancing R (Src l) feeds taken n ended k → k ≡ length first → AreAdvancing R (Src l) feeds taken n ended (length first)
  advancing_all l feeds taken n ended k adv all = subst (λ (i : ℕ). AreAdvancing R (Src l) feeds taken n ended i) all adv

  -- what a source in a box tells is what is told of it in the list
  module _ (l : List A) (k : ℕ) (s s' : A) (within : k < length l) (at : s ≡ get_or l k s) where
    abbrev After : List A
    After = slice_set l k s'

    old_at : slice_get l k ≡ Some s
    old_at = slice_get_read l (length l) k s refl within at

    new_at : slice_get After k ≡ Some s'
    new_at =
        let fits : k < length After = omega (arith, within, length-set l k s') in
        slice_get_read After (length After) k s' refl fits (sym (get_or-set_same l k s' s' within))

    pub advanced_at : (f f' : Feeding) (ps : List Picture) (w : Waits R (At l k) f ps) (result : Result Bool Stop)
        → ((g : List ℕ) (units : List UnitPlace) (readings : List Reading) → HasFed R f g units readings → LastWasNeeded g units → AdvancesOf k R g units readings f' (bytes s) (bytes s') (faults s) (faults s') result)
        → Advanced bytes faults R first l After k f f' ps w result
    advanced_at f f' ps w result answer g units readings fed needed =
        let b : bytes_at bytes l k ≡ bytes s = ap (option_and_then bytes) old_at in
        let b' : bytes_at bytes After k ≡ bytes s' = ap (option_and_then bytes) new_at in
        let c : faults_at faults l k ≡ faults s = ap (λ (o : Option A). option_map_or faults o 0) old_at in
        let c' : faults_at faults After k ≡ faults s' = ap (λ (o : Option A). option_map_or faults o 0) new_at in
        rw (b, b', c, c') (answer g units readings fed needed)

  -- it met its end where that is told
  pub taken_ended : (l : List A) (k : ℕ) (f : Feeding) (ps : List Picture) → Waits R (At l k) f ps → EndsAtEnd f (bytes_at bytes l k)
  taken_ended l k f ps w = (waits_taken bytes faults R first l k f ps w).ended

  -- it came to a picture, or to its end
  pub step_flag : (l l' : List A) (k : ℕ) (f f' : Feeding) (ps : List Picture) (w : Waits R (At l k) f ps) → EndsAtEnd f' (bytes_at bytes l' k) → (goes : Bool) → ((let r : Result Bool Stop = Ok goes in r) ≡ Ok true → LendsLatest f')
      → Advanced bytes faults R first l l' k f f' ps w (Ok goes) → Came R (At l' k) f' ps (not goes)
  step_flag l l' k f f' ps w end true lends advanced = step_takes bytes faults R first l l' k f f' ps w end (lends refl) advanced
  step_flag l l' k f f' ps w end false lends advanced = step_ends bytes faults R first l l' k f f' ps w end advanced

  -- ---- source k was gone on with, behind those before it

  module _ (l l' : List A) (feeds : List Feeding) (taken : List (List Picture)) (n k : ℕ) (ended : List Bool) (adv : AreAdvancing R (Src l) feeds taken n ended k)
      (f f' : Feeding) (ps : List Picture) (at : slice_get feeds k ≡ Some f) (there : slice_get taken k ≡ Some ps) (others : (j : ℕ) → j ≢ k → slice_get l' j ≡ slice_get l j) where
    pub waits_here : Waits R (At l k) f ps
    waits_here = adv.waits k f ps at there (omega arith)

    -- it came to a picture, or to its end
    pub advancing_more : (flag : Bool) → k < length ended → Came R (At l' k) f' ps flag → AreAdvancing R (Src l') (slice_set feeds k f') taken n (slice_set ended k flag) (k + 1)
    advancing_more flag within came = record {
      feeds_count = length-set feeds k f' ∙ adv.feeds_count;
      taken_count = adv.taken_count;
      rounds = adv.rounds;
      came = λ j g qs got was before. elim (where_is j k) [
        | inl earlier ↦
            let other : j ≢ k = λ same. omega (arith, same, earlier) in
            subst (λ (b : Bool). Came R (At l' j) g qs b) (sym (get_set_other ended j k flag false other))
            (came_still bytes faults R first l l' j (others j other) g qs (get_or ended j false) (adv.came j g qs (sym (set_other feeds j k f' other) ∙ got) was earlier))
        | inr (inl same) ↦
            let got_ : slice_get (slice_set feeds k f') k ≡ Some g = subst (λ (i : ℕ). slice_get (slice_set feeds k f') i ≡ Some g) same got in
            let was_ : slice_get taken k ≡ Some qs = subst (λ (i : ℕ). slice_get taken i ≡ Some qs) same was in
            let feed : f' ≡ g = set_there feeds k f' g got_ in
            let pictures : ps ≡ qs = same_Some ps qs (sym there ∙ was_) in
            let here : Came R (At l' k) f' ps (get_or (slice_set ended k flag) k false) = subst (λ (b : Bool). Came R (At l' k) f' ps b) (sym (get_set_there ended k flag false within)) came in
            let moved : Came R (At l' k) g qs (get_or (slice_set ended k flag) k false) = subst (λ (x : Feeding). Came R (At l' k) x qs (get_or (slice_set ended k flag) k false)) feed (subst (λ (x : List Picture). Came R (At l' k) f' x (get_or (slice_set ended k flag) k false)) pictures here) in
            subst (λ (i : ℕ). Came R (At l' i) g qs (get_or (slice_set ended k flag) i false)) (sym same) moved
        | inr (inr later) ↦ absurd (omega (arith, later, before))
      ];
      waits = λ j g qs got was behind.
          let other : j ≢ k = λ same. omega (arith, same, behind) in
          waits_still bytes faults R first l l' j (others j other) g qs (adv.waits j g qs (sym (set_other feeds j k f' other) ∙ got) was (omega (arith, behind)));
    }

    -- or it stopped there
    record IsOther (j : ℕ) : Type 0 where
      read : IsRead (At l' j)
      before_k : j < k → IsReadInRound R n (At l' j)
      behind_k : k < j → IsReadFor R n (At l' j)
      begin : (qs : List Picture) → slice_get taken j ≡ Some qs → WhereTold R (At l' j) (λ ws e. BeginsWithPictures ws qs)
      keeps : j < k → WhereTold R (At l' j) (λ ws e. let s : Stream = record { pictures = ws; ending = e } in GoesOn n s ⊎ HasEnded n s)

    other_at : (j : ℕ) → j < length first → j ≢ k → IsOther j
    other_at j within other =
        let fits : j < length feeds = omega (arith, within, adv.feeds_count) in
        let fitting : j < length taken = omega (arith, within, adv.taken_count) in
        let g = some_at feeds j fits in
        let qs = some_at taken j fitting in
        let once : (ws : List Picture) → slice_get taken j ≡ Some ws → qs.0 ≡ ws = λ ws was. same_Some qs.0 ws (sym qs.1 ∙ was) in
        elim (where_is j k) [
          | inl earlier ↦
              let came = came_still bytes faults R first l l' j (others j other) g.0 qs.0 (get_or ended j false) (adv.came j g.0 qs.0 g.1 qs.1 earlier) in
              record {
                read = came_read bytes faults R first l' j g.0 qs.0 (get_or ended j false) came;
                before_k = λ before. came_in bytes faults R first l' j n g.0 qs.0 (get_or ended j false) (adv.rounds j qs.0 qs.1) came;
                behind_k = λ behind. absurd (omega (arith, behind, earlier));
                begin = λ ws was b xs e told are. subst (λ (x : List Picture). BeginsWithPictures xs x) (once ws was) (came_begin bytes faults R first l' j g.0 qs.0 (get_or ended j false) came b xs e told are);
                keeps = λ before b xs e told are.
                    subst (λ (m : ℕ). let s : Stream = record { pictures = xs; ending = e } in GoesOn m s ⊎ HasEnded m s) (adv.rounds j qs.0 qs.1) (came_kept bytes faults R first l' j g.0 qs.0 (get_or ended j false) came b xs e told are);
              }
          | inr (inl same) ↦ absurd (other same)
          | inr (inr later) ↦
              let waits = waits_still bytes faults R first l l' j (others j other) g.0 qs.0 (adv.waits j g.0 qs.0 g.1 qs.1 (omega (arith, later))) in
              record {
                read = waits_read bytes faults R first l' j g.0 qs.0 waits;
                before_k = λ before. absurd (omega (arith, before, later));
                behind_k = λ behind. waits_for bytes faults R first l' j n g.0 qs.0 (adv.rounds j qs.0 qs.1) waits;
                begin = λ ws was b xs e told are. subst (λ (x : List Picture). BeginsWithPictures xs x) (once ws was) (waits_begin bytes faults R first l' j g.0 qs.0 waits b xs e told are);
                keeps = λ before. absurd (omega (arith, before, later));
              }
        ]

    all_read : IsRead (At l' k) → (j : ℕ) → j < length first → IsRead (At l' j)
    all_read here j within = elim (where_is j k) [
      | inl earlier ↦ (other_at j within (λ same. omega (arith, same, earlier))).read
      | inr (inl same) ↦ subst (λ (i : ℕ). IsRead (At l' i)) (sym same) here
      | inr (inr later) ↦ (other_at j within (λ same. omega (arith, same, later))).read
    ]

    others_read : OthersAreRead R n k (Src l')
    others_read j within = (
      λ before. (other_at j within (λ same. omega (arith, same, before))).before_k before,
      λ behind. (other_at j within (λ same. omega (arith, same, behind))).behind_k behind,
    )

    begins_all : OfAll (λ j qs. WhereTold R (At l' j) (λ ws e. BeginsWithPictures ws qs)) taken
    begins_all j qs was =
        let within : j < length first = omega (arith, slice_get_within taken j qs was, adv.taken_count) in
        elim (where_is j k) [
          | inl earlier ↦ (other_at j within (λ same. omega (arith, same, earlier))).begin qs was
          | inr (inl same) ↦
              let was_ : slice_get taken k ≡ Some qs = subst (λ (i : ℕ). slice_get taken i ≡ Some qs) same was in
              let here : WhereTold R (At l' k) (λ ws e. BeginsWithPictures ws qs) = λ b xs e told are. subst (λ (x : List Picture). BeginsWithPictures xs x) (same_Some ps qs (sym there ∙ was_)) (waits_begin bytes faults R first l k f ps waits_here b xs e told are) in
              subst (λ (i : ℕ). WhereTold R (At l' i) (λ ws e. BeginsWithPictures ws qs)) (sym same) here
          | inr (inr later) ↦ (other_at j within (λ same. omega (arith, same, later))).begin qs was
        ]

    none_before : (ss : List Stream) → AreTold R (Src l') ss → NoneRefused k ss n
    none_before ss are j s before got =
        let within : j < length first = omega (arith, slice_get_within ss j s got, are.count) in
        told_of bytes faults R first l' ss j s (λ ws e. let t : Stream = record { pictures = ws; ending = e } in GoesOn n t ⊎ HasEnded n t) are got ((other_at j within (λ same. omega (arith, same, before))).keeps before)

    k_within : k < length first
    k_within = omega (arith, slice_get_within feeds k f at, adv.feeds_count)

    stops_refused : EndsAtEnd f' (bytes_at bytes l' k) → (r : Refusal) (place : Place) → Advanced bytes faults R first l l' k f f' ps waits_here (Err (Refused r place)) → HaltsAtSource R (Src l') taken n (Refused r place)
    stops_refused end r place advanced =
        let stop = step_refused bytes faults R first l l' k f f' ps waits_here end r place advanced in (
          record { k = k; units = f'.units; is = stop.2; within = k_within; read = stop.0; others = others_read },
          λ ss are.
              let fits : k < length ss = omega (arith, k_within, are.count) in
              let s = some_at ss k fits in
              let is = told_of bytes faults R first l' ss k s.0 (λ qs e. (qs ≡ ps) × (e ≡ refused_at f'.units r)) are s.1 stop.1 in (
                begin_told l' taken begins_all ss are,
                record {
                  k = k;
                  ending = record { units = f'.units; refusal = r };
                  of = (s.0, s.1, (ap (λ (x : List Picture). length x) is.0 ∙ adv.rounds k ps there, is.1));
                  none = none_before ss are;
                  is = ap (λ (x : Place). Refused r x) stop.2;
                },
              ),
        )

    stops_unread : (j : ℕ) → Advanced bytes faults R first l l' k f f' ps waits_here (Err (ReadFault j)) → HaltsAtSource R (Src l') taken n (ReadFault j)
    stops_unread j advanced =
        let stop = step_unread bytes faults R first l l' k f f' ps waits_here j advanced in
        subst (λ (i : ℕ). HaltsAtSource R (Src l') taken n (ReadFault i)) (sym stop.2) (
          k_within,
          stop.0,
          subst (λ (m : ℕ). Sees R (At l' k) m) (adv.rounds k ps there) stop.1,
          others_read,
          λ ss are. (begin_told l' taken begins_all ss are, none_before ss are),
        )

    pub source_stops : EndsAtEnd f' (bytes_at bytes l' k) → (stop : Stop) → Advanced bytes faults R first l l' k f f' ps waits_here (Err stop) → HaltsAtSource R (Src l') taken n stop
    source_stops end (Refused r place) advanced = stops_refused end r place advanced
    source_stops end (ReadFault j) advanced = stops_unread j advanced
    source_stops end NoMemory advanced = (all_read (step_none bytes faults R first l l' k f f' ps waits_here advanced).0, λ ss are. begin_told l' taken begins_all ss are)
    source_stops end NotUnderstood advanced = absurd (went bytes faults R first l l' k f f' ps waits_here (Err NotUnderstood) advanced)
    source_stops end (Mismatched x y) advanced = absurd (went bytes faults R first l l' k f f' ps waits_here (Err (Mismatched x y)) advanced)
    source_stops end WriteFault advanced = absurd (went bytes faults R first l l' k f f' ps waits_here (Err WriteFault) advanced)

-- few units were taken by each
pub few_more : (feeds : List Feeding) (k : ℕ) (f' : Feeding) → ((j : ℕ) (f : Feeding) → j < k → slice_get feeds j ≡ Some f → f.units ≤ 2 ^ 40) → f'.units ≤ 2 ^ 40
    → (j : ℕ) (f : Feeding) → j < k + 1 → slice_get (slice_set feeds k f') j ≡ Some f → f.units ≤ 2 ^ 40
few_more feeds k f' few one j f before at = elim (where_is j k) [
  | inl earlier ↦ few j f earlier (sym (set_other feeds j k f' (λ same. omega (arith, same, earlier))) ∙ at)
  | inr (inl same) ↦
      let here : slice_get (slice_set feeds k f') k ≡ Some f = subst (λ (i : ℕ). slice_get (slice_set feeds k f') i ≡ Some f) same at in
      subst (λ (g : Feeding). g.units ≤ 2 ^ 40) (set_there feeds k f' f here) one
  | inr (inr later) ↦ absurd (omega (arith, later, before))
]

-- a feed that met the end of a source in a box met that of the one in the list
pub end_after : {A : Type 0} (bytes : A → Option (List ℕ)) (l : List A) (k : ℕ) (s s' : A) → k < length l → s ≡ get_or l k s → (f f' : Feeding) → (EndsAtEnd f (bytes s) → EndsAtEnd f' (bytes s'))
    → EndsAtEnd f (bytes_at bytes l k) → EndsAtEnd f' (bytes_at bytes (slice_set l k s') k)
end_after bytes l k s s' within at f f' ends before =
    let old : slice_get l k ≡ Some s = slice_get_read l (length l) k s refl within at in
    let fits : k < length (slice_set l k s') = omega (arith, within, length-set l k s') in
    let new : slice_get (slice_set l k s') k ≡ Some s' = slice_get_read (slice_set l k s') (length (slice_set l k s')) k s' refl fits (sym (get_or-set_same l k s' s' within)) in
    subst (λ (b : Option (List ℕ)). EndsAtEnd f' b) (sym (ap (option_and_then bytes) new)) (ends (subst (λ (b : Option (List ℕ)). EndsAtEnd f b) (ap (option_and_then bytes) old) before))

-- ---- the same lists

pub goes_same : (of_length : ℕ → ℕ → Stop) (ended flags : List Bool) (n : ℕ) (result : Result Bool Stop) → ended ≡ flags → GoesBy of_length ended n result → GoesBy of_length flags n result
goes_same of_length ended flags n result same by = subst (λ (l : List Bool). GoesBy of_length l n result) same by

-- ---- what is told

pub first_stops : (t : Telling) → ((k : ℕ) (e : Ending) → t.of_stream k e ≡ stream_refused k e) → (ss : List Stream) (n : ℕ) (stop : Stop) → IsFirstRefused ss n stop → StopsIn t ss n stop
first_stops t so ss n stop first = by_stream first.k first.ending first.of first.none (first.is ∙ sym (so first.k first.ending))

pub length_stops : (t : Telling) (ss : List Stream) (n k : ℕ) (stop : Stop) → stop ≡ t.of_length n k → EndsFirst ss n k → StopsIn t ss n stop
length_stops t ss n k stop is ends = by_length k ends.none ends.lowest ends.goes is
