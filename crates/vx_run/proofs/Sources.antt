-- Pictures of several sources that are taken round by round.
use Rattle.std.proofs.Common.{◌≡◌, ℕ, ◌+◌, ◌<◌, ◌⊎◌, List, [], ◌∷◌, ◌++◌, ◌∙◌, Option, Some, None, Result, Ok, Err, Bool, true, false, length, map, slice_get, inl, inr, sym, ap, refl, subst, arith}
use Rattle.std.specs.Prelude.{option_map, option_and_then, reverse}
use Rattle.std.specs.Option.{option_map_or}
use Rattle.std.specs.Io.KnownBytes.{Consumes}
use Rattle.std.proofs.KnownBytes.{Consumes-nil}
use Rattle.std.proofs.lemmas.List.{length-map}
use Rattle.std.proofs.lemmas.Option.{same_Some}
use Rattle.vx_io.specs.Listed.{bytes_at, faults_at}
use Rattle.vx_bits.specs.declared.refusal.Refusal.{Refusal}
use Rattle.vx_annexb.specs.ByteStream.{UnitPlace}
use Rattle.vx_annexb.specs.Reading.{LastWasNeeded}
use Rattle.vx_pic.specs.Readings.{Reading, Picture}
use Rattle.vx_pic.specs.Rules.{Readers}
use Rattle.vx_pic.specs.Bytes.{Ending}
use Rattle.vx_pic.specs.Parts.{Parts, parts_of}
use Rattle.vx_run.specs.declared.stop.Place.{Place}
use Rattle.vx_run.specs.declared.stop.Place.TheVariants as places
use Rattle.vx_assemble.specs.Held.{ShowsLatest, lent_by}
use Rattle.vx_assemble.specs.Feed.{Feeding, EndsAtEnd, HasFed}
use Rattle.vx_run.specs.declared.stop.Stop.{Stop}
use Rattle.vx_run.specs.declared.stop.Stop.TheVariants.{Refused, ReadFault, NoMemory}
use Rattle.vx_run.specs.Change.{Change, Sources, change, sources_change, source_at, IsUntouched, HasNoFault, HasFault}
use Rattle.vx_run.specs.Extract.{WhereTold, BeginsWithPictures}
use Rattle.vx_run.specs.Rounds.{Stream, picture_in, GoesOn, HasEnded, IsRound, AreTold, IsRead, IsReadFor, IsReadInRound, Sees}
use Rattle.vx_run.specs.inner.Extracting.{HasTaken, HasTakenOne}
use Rattle.vx_run.specs.inner.Advancing.{OfAll, Begin, IsUnfed, AdvancesOf, LendsLatest, Waits, TakesOne, EndsBehind, Came, AreWaiting, AllTake, so_far}
use Rattle.vx_run.proofs.Indexed.{some_at, same_lists, mapped_at, choose, earlier_stay, latest_at}
use Rattle.vx_run.proofs.Taking.{taken_none, taken_first, taken_stops, takes_one, takes_end, takes_refused, takes_unread, takes_none}
use Rattle.vx_run.proofs.Told.{refused_at}

-- ---- streams that go on as pictures that were taken begin

abbrev pub part_in : ℕ → Stream → Option Parts
part_in r s = option_map parts_of (picture_in r s)

abbrev pub stream_of : List Picture → Stream
stream_of ps = record { pictures = ps; ending = None }

-- their first rounds are the same
part_stays : (r : ℕ) (s : Stream) (ps : List Picture) → r < length ps → BeginsWithPictures s.pictures ps → part_in r s ≡ part_in r (stream_of ps)
part_stays r s ps within begins =
    ap (λ (l : List Picture). option_map parts_of (slice_get (reverse l) r)) begins.1 ∙ ap (option_map parts_of) (earlier_stay begins.0 ps r within)

pub round_stays : (ss : List Stream) (taken : List (List Picture)) (n r : ℕ) → length ss ≡ length taken → OfAll (λ k ps. length ps ≡ n) taken → Begin ss taken → r < n
    → map (part_in r) ss ≡ map (part_in r) (so_far taken)
round_stays ss taken n r count rounds begin within =
    same_lists (map (part_in r) ss) (map (part_in r) (so_far taken)) (omega (arith, count, length-map ss (part_in r), length-map taken stream_of, length-map (so_far taken) (part_in r)))
    (λ k x y at there.
    let s = mapped_at (part_in r) ss k x at in
    let t = mapped_at (part_in r) (so_far taken) k y there in
    let ps = mapped_at stream_of taken k t.0 t.1 in
    let fits : r < length ps.0 = omega (arith, within, rounds k ps.0 ps.1) in
    sym s.2 ∙ part_stays r s.0 ps.0 fits (begin k s.0 ps.0 s.1 ps.1) ∙ ap (part_in r) ps.2 ∙ t.2)

-- ---- a source that nothing was done to

-- no read of it failed, it has the same bytes left, and gave none
module _ {A : Type 0} (c : Change A) (same : IsUntouched c) where
  untouched_faults : HasNoFault c
  untouched_faults = ap c.faults same

  untouched_bytes : c.bytes c.new ≡ c.bytes c.old
  untouched_bytes = ap c.bytes same

  pub untouched_read : IsRead c
  untouched_read = (untouched_faults, ([], subst (λ (b : Option (List ℕ)). Consumes (c.bytes c.old) b []) (sym untouched_bytes) (Consumes-nil (c.bytes c.old))))

-- ---- a source of a list

module _ {A : Type 0} (bytes : A → Option (List ℕ)) (faults : A → ℕ) (R : Readers) (first : List A) where
  abbrev pub Src : List A → Sources A
  Src l = sources_change bytes faults first l

  abbrev pub At : List A → ℕ → Change (Option A)
  At l k = source_at (Src l) k

  abbrev Left : Option A → Option (List ℕ)
  Left = option_and_then bytes

  abbrev Count : Option A → ℕ
  Count x = option_map_or faults x 0

  -- ---- where another one was read

  module _ (l l' : List A) (j : ℕ) (same : slice_get l' j ≡ slice_get l j) where
    -- what holds of this one still does
    pub still : (P : Change (Option A) → Type 0) → P (At l j) → P (At l' j)
    still P = subst (λ (x : Option A). P (change Left Count (slice_get first j) x)) (sym same)

    pub waits_still : (f : Feeding) (ps : List Picture) → Waits R (At l j) f ps → Waits R (At l' j) f ps
    waits_still f ps = still (λ c. Waits R c f ps)

    pub came_still : (f : Feeding) (ps : List Picture) (ended : Bool) → Came R (At l j) f ps ended → Came R (At l' j) f ps ended
    came_still f ps ended = still (λ c. Came R c f ps ended)

  -- ---- what was done to it

  module _ (l : List A) (k : ℕ) where
    -- by a new feed where nothing was done to it
    pub untouched_waits : (f : Feeding) → IsUntouched (At l k) → IsUnfed f → Waits R (At l k) f []
    untouched_waits f same new =
        (still first l k same (λ c. HasTaken R c f []) (taken_none Left Count R (slice_get first k) f new.open_.reader (new.fed R) new.needed), same)

    pub waits_taken : (f : Feeding) (ps : List Picture) → Waits R (At l k) f ps → HasTaken R (At l k) f ps
    waits_taken f [] w = w.0
    waits_taken f (p ∷ ps) w = subst (λ (q : Picture). HasTaken R (At l k) f (q ∷ ps)) w.1 w.0.taken

    pub waits_read : (f : Feeding) (ps : List Picture) → Waits R (At l k) f ps → IsRead (At l k)
    waits_read f ps w = let t = waits_taken f ps w in (t.kept, (t.given, t.gave))

    -- it was read for the pictures that were taken
    one_for : (m : ℕ) (f : Feeding) (ps : List Picture) → m ≡ length ps + 1 → HasTakenOne R (At l k) f ps → IsReadFor R m (At l k)
    one_for m f ps many one = ((one.taken.kept, (one.taken.given, one.taken.gave)), inr (one.picture, ps, taken_stops Left Count R (slice_get first k) (slice_get l k) f ps one, many))

    pub waits_for : (n : ℕ) (f : Feeding) (ps : List Picture) → length ps ≡ n → Waits R (At l k) f ps → IsReadFor R n (At l k)
    waits_for n f [] many w = (waits_read f [] w, inl (sym many, w.1))
    waits_for n f (p ∷ ps) many w = one_for n f ps (omega (arith, many)) w.0

    pub waits_begin : (f : Feeding) (ps : List Picture) → Waits R (At l k) f ps → WhereTold R (At l k) (λ qs e. BeginsWithPictures qs ps)
    waits_begin f ps w = taken_first Left Count R (slice_get first k) (slice_get l k) f ps (waits_taken f ps w)

    pub takes_read : (f : Feeding) (ps : List Picture) → TakesOne R (At l k) f ps → IsRead (At l k)
    takes_read f ps t = (t.one.taken.kept, (t.one.taken.given, t.one.taken.gave))

    pub takes_for : (n : ℕ) (f : Feeding) (ps : List Picture) → length ps ≡ n → TakesOne R (At l k) f ps → IsReadFor R (n + 1) (At l k)
    takes_for n f ps many t = one_for (n + 1) f ps (omega (arith, many)) t.one

    pub takes_begin : (f : Feeding) (ps : List Picture) (t : TakesOne R (At l k) f ps) → WhereTold R (At l k) (λ qs e. BeginsWithPictures qs (t.one.picture ∷ ps))
    takes_begin f ps t = taken_first Left Count R (slice_get first k) (slice_get l k) f (t.one.picture ∷ ps) t.one.taken

    pub came_read : (f : Feeding) (ps : List Picture) (ended : Bool) → Came R (At l k) f ps ended → IsRead (At l k)
    came_read f ps false came = takes_read f ps came
    came_read f ps true came = (came.read.0, came.read.1)

    -- it begins with those that were taken before
    begin_less : (qs ps : List Picture) (p : Picture) → BeginsWithPictures qs (p ∷ ps) → BeginsWithPictures qs ps
    begin_less qs ps p begins = (begins.0 ++ p ∷ [], begins.1 ∙ shifted begins.0)
      where
        shifted : (later : List Picture) → later ++ p ∷ ps ≡ (later ++ p ∷ []) ++ ps
        shifted [] = refl
        shifted (q ∷ later) = ap (λ (x : List Picture). q ∷ x) (shifted later)

    begin_whole : (qs ps : List Picture) → qs ≡ ps → BeginsWithPictures qs ps
    begin_whole qs ps same = ([], same)

    pub came_begin : (f : Feeding) (ps : List Picture) (ended : Bool) → Came R (At l k) f ps ended → WhereTold R (At l k) (λ qs e. BeginsWithPictures qs ps)
    came_begin f ps false came b qs e told are = begin_less qs ps came.one.picture (takes_begin f ps came b qs e told are)
    came_begin f ps true came b qs e told are = begin_whole qs ps (came.told b qs e told are).0

    -- behind them it goes on with another one, or has ended
    longer : (qs ps : List Picture) (p : Picture) → BeginsWithPictures qs (p ∷ ps) → length ps < length qs
    longer qs ps p begins = omega (arith, ap (λ (x : List Picture). length x) begins.1, length_more begins.0)
      where
        length_more : (later : List Picture) → length ps < length (later ++ p ∷ ps)
        length_more [] = omega arith
        length_more (q ∷ later) = omega (arith, length_more later)

    pub takes_goes : (f : Feeding) (ps : List Picture) → TakesOne R (At l k) f ps → WhereTold R (At l k) (λ qs e. GoesOn (length ps) (record { pictures = qs; ending = e }))
    takes_goes f ps t b qs e told are = longer qs ps t.one.picture (takes_begin f ps t b qs e told are)

    pub ends_there : (ps : List Picture) → EndsBehind R (At l k) ps → WhereTold R (At l k) (λ qs e. HasEnded (length ps) (record { pictures = qs; ending = e }))
    ends_there ps ends b qs e told are = let is = ends.told b qs e told are in (ap (λ (x : List Picture). length x) is.0, is.1)

    pub came_in : (n : ℕ) (f : Feeding) (ps : List Picture) (ended : Bool) → length ps ≡ n → Came R (At l k) f ps ended → IsReadInRound R n (At l k)
    came_in n f ps false many came = inl (takes_for n f ps many came)
    came_in n f ps true many came =
        inr (came.read, λ b qs e told are. subst (λ (m : ℕ). HasEnded m (record { pictures = qs; ending = e })) many (ends_there ps came b qs e told are))

    pub came_kept : (f : Feeding) (ps : List Picture) (ended : Bool) → Came R (At l k) f ps ended
        → WhereTold R (At l k) (λ qs e. let s : Stream = record { pictures = qs; ending = e } in GoesOn (length ps) s ⊎ HasEnded (length ps) s)
    came_kept f ps false came b qs e told are = inl (takes_goes f ps came b qs e told are)
    came_kept f ps true came b qs e told are = inr (ends_there ps came b qs e told are)

  -- ---- from one picture to the next

  module _ (l l' : List A) (k : ℕ) (f f' : Feeding) (ps : List Picture) (w : Waits R (At l k) f ps) where
    abbrev pub Advanced : Result Bool Stop → Type 0
    Advanced result = (g : List ℕ) (units : List UnitPlace) (readings : List Reading) → HasFed R f g units readings → LastWasNeeded g units
        → AdvancesOf k R g units readings f' (bytes_at bytes l k) (bytes_at bytes l' k) (faults_at faults l k) (faults_at faults l' k) result

    pub was : HasTaken R (At l k) f ps
    was = waits_taken l k f ps w

    pub went : (result : Result Bool Stop) → Advanced result
        → AdvancesOf k R was.given was.units was.readings f' (bytes_at bytes l k) (bytes_at bytes l' k) (faults_at faults l k) (faults_at faults l' k) result
    went result advanced = advanced was.given was.units was.readings was.fed was.needed

    module _ (ended : EndsAtEnd f' (bytes_at bytes l' k)) where
      pub step_takes : LendsLatest f' → Advanced (Ok true) → TakesOne R (At l' k) f' ps
      step_takes lends advanced =
          let one = takes_one Left Count R (slice_get first k) (slice_get l k) (slice_get l' k) f f' ps was ended lends.holds (went (Ok true) advanced) in
          let t = one.taken in
          record { holds = lends.holds; one = one; lent = subst (λ (x : List Picture). ShowsLatest (lent_by f'.assembler) x) t.done (lends.shows R t.given t.units t.readings t.fed) }

      pub step_ends : Advanced (Ok false) → EndsBehind R (At l' k) ps
      step_ends advanced =
          let end = takes_end Left Count R (slice_get first k) (slice_get l k) (slice_get l' k) f f' ps was ended (went (Ok false) advanced) in
          record { read = (end.0, end.1, end.2); told = end.3 }

      pub step_came : (go : Bool) (flag : Bool) → go ≡ true → LendsLatest f' → flag ≡ false → Advanced (Ok go) → Came R (At l' k) f' ps flag
      step_came go flag goes lends is advanced =
          subst (λ (b : Bool). Came R (At l' k) f' ps b) (sym is) (step_takes lends (subst (λ (g : Bool). Advanced (Ok g)) goes advanced))

      pub step_refused : (r : Refusal) (place : Place) → Advanced (Err (Refused r place))
          → IsRead (At l' k) × WhereTold R (At l' k) (λ qs e. (qs ≡ ps) × (e ≡ refused_at f'.units r)) × (place ≡ places.Unit k f'.units)
      step_refused r place advanced =
          let at = went (Err (Refused r place)) advanced in
          let end = takes_refused Left Count R (slice_get first k) (slice_get l k) (slice_get l' k) f f' ps was ended r at.0 in
          ((end.0, end.1), end.2, at.1)

    pub step_unread : (j : ℕ) → Advanced (Err (ReadFault j)) → HasFault (At l' k) × Sees R (At l' k) (length ps) × (j ≡ k)
    step_unread j advanced =
        let at = went (Err (ReadFault j)) advanced in
        let end = takes_unread Left Count R (slice_get first k) (slice_get l k) (slice_get l' k) f f' ps was at.0 in
        (end.0, record { given = end.1.0; pictures = ps; gave = end.1.1; seen = end.1.2; count = refl }, at.1)

    pub step_none : Advanced (Err NoMemory) → IsRead (At l' k) × WhereTold R (At l' k) (λ qs e. BeginsWithPictures qs ps)
    step_none advanced =
        let end = takes_none Left Count R (slice_get first k) (slice_get l k) (slice_get l' k) f f' ps was (went (Err NoMemory) advanced) in
        ((end.0, end.1), end.2)

  -- ---- one more round

  -- what is told of a stream
  pub told_of : (l : List A) (ss : List Stream) (k : ℕ) (s : Stream) (P : List Picture → Option Ending → Type 0) → AreTold R (Src l) ss → slice_get ss k ≡ Some s → WhereTold R (At l k) P → P s.pictures s.ending
  told_of l ss k s P are at where_ = let e = are.each k s at in where_ e.0 s.pictures s.ending e.1 e.2

  -- those that were taken, with one more each
  pub record HasRound (l : List A) (feeds : List Feeding) (taken : List (List Picture)) (n : ℕ) : Type 0 where
    pub next : List (List Picture)
    pub waiting : AreWaiting R (Src l) feeds next (n + 1)
    pub begin : Begin (so_far next) taken
    pub ahead : (k : ℕ) (ps : List Picture) → slice_get next k ≡ Some ps → WhereTold R (At l k) (λ qs e. BeginsWithPictures qs ps)
    pub round : IsRound (so_far next) n (map (λ (f : Feeding). lent_by f.assembler) feeds)

  module _ (l : List A) (feeds : List Feeding) (taken : List (List Picture)) (n : ℕ) (all : AllTake R (Src l) feeds taken n) where
    -- the pictures of source k
    record Next (k : ℕ) (next : List Picture) : Type 0 where
      feed : Feeding
      before : List Picture
      at : slice_get feeds k ≡ Some feed
      was_ : slice_get taken k ≡ Some before
      takes : TakesOne R (At l k) feed before
      is : next ≡ takes.one.picture ∷ before

    next_of : (k : ℕ) → k < length feeds → (next : List Picture) × Next k next
    next_of k within =
        let f = some_at feeds k within in
        let fits : k < length taken = omega (arith, within, all.feeds_count, all.taken_count) in
        let ps = some_at taken k fits in
        let t = all.each k f.0 ps.0 f.1 ps.1 in
        (t.one.picture ∷ ps.0, record { feed = f.0; before = ps.0; at = f.1; was_ = ps.1; takes = t; is = refl })

    picked : (next : List (List Picture)) × (length next ≡ length feeds) × ((k : ℕ) (ps : List Picture) → slice_get next k ≡ Some ps → Next k ps)
    picked = choose (length feeds) Next next_of

    next_waits : (k : ℕ) (f : Feeding) (ps : List Picture) → slice_get feeds k ≡ Some f → slice_get picked.0 k ≡ Some ps → Waits R (At l k) f ps
    next_waits k f ps at there =
        let x = picked.2 k ps there in
        let one : Waits R (At l k) x.feed ps = subst (λ (qs : List Picture). Waits R (At l k) x.feed qs) (sym x.is) (x.takes.one, refl) in
        subst (λ (g : Feeding). Waits R (At l k) g ps) (same_Some x.feed f (sym x.at ∙ at)) one

    next_length : (k : ℕ) (ps : List Picture) → slice_get picked.0 k ≡ Some ps → length ps ≡ n + 1
    next_length k ps there =
        let x = picked.2 k ps there in
        omega (arith, ap (λ (qs : List Picture). length qs) x.is, all.rounds k x.before x.was_)

    next_begin : Begin (so_far picked.0) taken
    next_begin k s ps at was__ =
        let m = mapped_at stream_of picked.0 k s at in
        let x = picked.2 k m.0 m.1 in
        let same : x.before ≡ ps = same_Some x.before ps (sym x.was_ ∙ was__) in
        (x.takes.one.picture ∷ [], ap (λ (t : Stream). t.pictures) (sym m.2) ∙ x.is ∙ ap (λ (qs : List Picture). x.takes.one.picture ∷ qs) same)

    next_ahead : (k : ℕ) (ps : List Picture) → slice_get picked.0 k ≡ Some ps → WhereTold R (At l k) (λ qs e. BeginsWithPictures qs ps)
    next_ahead k ps there b qs e told are =
        let x = picked.2 k ps there in
        subst (λ (x_ : List Picture). BeginsWithPictures qs x_) (sym x.is) (takes_begin l k x.feed x.before x.takes b qs e told are)

    next_part : (k : ℕ) (x y : Option Parts) → slice_get (map (part_in n) (so_far picked.0)) k ≡ Some x → slice_get (map (λ (q : Parts). let o : Option Parts = Some q in o) (map (λ (f : Feeding). lent_by f.assembler) feeds)) k ≡ Some y → x ≡ y
    next_part k x y at there =
        let s = mapped_at (part_in n) (so_far picked.0) k x at in
        let ps = mapped_at stream_of picked.0 k s.0 s.1 in
        let q = mapped_at (λ (q : Parts). let o : Option Parts = Some q in o) (map (λ (f : Feeding). lent_by f.assembler) feeds) k y there in
        let f = mapped_at (λ (f : Feeding). lent_by f.assembler) feeds k q.0 q.1 in
        let z = picked.2 k ps.0 ps.1 in
        let last : slice_get (reverse ps.0) n ≡ Some z.takes.one.picture = ap (λ (l : List Picture). slice_get (reverse l) n) z.is ∙ latest_at z.takes.one.picture z.before n (all.rounds k z.before z.was_) in
        let here : part_in n (stream_of ps.0) ≡ Some (parts_of z.takes.one.picture) = ap (option_map parts_of) last in
        let lent : lent_by f.0.assembler ≡ parts_of z.takes.one.picture = ap (λ (g : Feeding). lent_by g.assembler) (same_Some f.0 z.feed (sym f.1 ∙ z.at)) ∙ z.takes.lent in
        sym s.2 ∙ ap (part_in n) (sym ps.2) ∙ here ∙ ap (λ (r : Parts). let o : Option Parts = Some r in o) (sym lent ∙ f.2) ∙ q.2

    pub has_round : HasRound l feeds taken n
    has_round = record {
      next = picked.0;
      waiting = record {
        feeds_count = all.feeds_count;
        taken_count = picked.1 ∙ all.feeds_count;
        rounds = next_length;
        waits = next_waits;
      };
      begin = next_begin;
      ahead = next_ahead;
      round =
          same_lists (map (part_in n) (so_far picked.0)) (map (λ (q : Parts). let o : Option Parts = Some q in o) (map (λ (f : Feeding). lent_by f.assembler) feeds))
          (omega (arith, picked.1, length-map picked.0 stream_of, length-map (so_far picked.0) (part_in n), length-map feeds (λ (f : Feeding). lent_by f.assembler), length-map (map (λ (f : Feeding). lent_by f.assembler) feeds) (λ (q : Parts). let o : Option Parts = Some q in o)))
          next_part;
    }
