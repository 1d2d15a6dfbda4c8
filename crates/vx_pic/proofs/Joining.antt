-- Pictures that are joined behind others, behind an end of sequence, are finished.
use Rattle.std.proofs.Common.{◌≡◌, ℕ, ◌+◌, ◌<◌, ◌≤◌, ◌==◌, Bool, true, false, not, cond, ◌&&◌, ◌||◌, List, [], ◌∷◌, ◌++◌, length, Option, Some, find, refl, sym, ◌∙◌, ap, inl, inr, arith, length-append}
use Rattle.std.specs.Prelude.{None}
use Rattle.std.specs.List.{AllByRecursion}
use Rattle.std.proofs.lemmas.Bool.{true≢false, eq-eqb, ne_eqb}
use Rattle.std.proofs.lemmas.Bool.Decides.{eqb_tells}
use Rattle.vx_bits.specs.declared.list.Item.{Item}
use Rattle.vx_pic.specs.declared.kind.Kind.{Kind}
use Rattle.vx_pic.specs.declared.unit_types.TheConstants as types
use Rattle.vx_pic.specs.Units.{is_cra_or_gdr, is_idr, is_irap_or_gdr}
use Rattle.vx_pic.specs.Sets.{lsb_of, max_lsb, msb_cycle}
use Rattle.vx_pic.specs.Readings.{Begun, Picture, is_whole}
use Rattle.vx_pic.specs.Counts.{Previous, begins_anew, count_by, pic_order_count, counts_or_none, is_changed, is_clvss, is_empty, is_tid0_picture, kind_of, previous}
use Rattle.vx_pic.specs.Rules.{Readers}
use Rattle.vx_pic.specs.Alike.{IsNext}
use Rattle.vx_pic.specs.Finished.{AreFinished, IsSoundPicture}
use Rattle.vx_pic.specs.Joined.{BeginsWhereFirst, JoinedAreFinished, PlayedAreFinished, StartWhere, Starts, after_end, begins_file, one_behind_another, played}

-- ---- lists that tell the same of what comes behind them

record TellSame (xs ys : List Picture) : Type 0 where
  empty : is_empty xs ≡ is_empty ys
  counts : previous xs ≡ previous ys
  changed : (sps : List Item) → is_changed xs sps ≡ is_changed ys sps

same_kind : (xs ys : List Picture) → is_empty xs ≡ is_empty ys → previous xs ≡ previous ys
    → (b : Begun) (ended : Bool) (t n : ℕ) → kind_of xs ended b t n ≡ kind_of ys ended b t n
same_kind xs ys empty counts b ended t n = rw (empty, counts) refl

-- the same pictures come next behind them
next_behind : (xs ys : List Picture) → TellSame xs ys → (b : Begun) (k : Kind) → IsNext xs b k → IsNext ys b k
next_behind xs ys same b k next = record {
  ends = λ h. sym same.empty ∙ next.ends h;
  kind = next.kind ∙ same_kind xs ys same.empty same.counts b k.after_eos k.nal_type k.temporal_id;
  begins = λ h. next.begins (ap (λ e. k.after_eos || e) same.empty ∙ h);
  same = λ h. sym (same.changed b.sps) ∙ next.same h;
  fits = next.fits;
}

sound_behind : (R : Readers) (xs ys : List Picture) → TellSame xs ys → (p : Picture) → IsSoundPicture R xs p → IsSoundPicture R ys p
sound_behind R xs ys same p sound = record {
  first = sound.first;
  more = sound.more;
  slices = sound.slices;
  head = sound.head;
  refers = sound.refers;
  outside = sound.outside;
  each = sound.each;
  order = sound.order;
  bodies = sound.bodies;
  size = sound.size;
  messages = sound.messages;
  tid = sound.tid;
  next = next_behind xs ys same p.begun p.kind sound.next;
}

-- with one more picture
one_found : (b : Bool) (p : Picture) (o other : Option Picture) → counts_or_none o ≡ counts_or_none other
    → counts_or_none (cond b (Some p) o) ≡ counts_or_none (cond b (Some p) other)
one_found true p o other same = refl
one_found false p o other same = same

more_tell : (p : Picture) (xs ys : List Picture) → TellSame xs ys → TellSame (p ∷ xs) (p ∷ ys)
more_tell p xs ys same = record {
  empty = refl;
  counts = one_found (is_tid0_picture p) p (find is_tid0_picture xs) (find is_tid0_picture ys) same.counts;
  changed = λ sps. refl;
}

-- ---- a picture that starts a coded layer video sequence

-- is an IRAP or GDR picture
starts_irap : (idr cra anew : Bool) → (idr || (cra && anew)) ≡ true → (idr || cra) ≡ true
starts_irap true cra anew is = refl
starts_irap false true anew is = refl
starts_irap false false anew is = is

-- and starts one behind an end of sequence too
starts_anew : (idr cra anew : Bool) → (idr || (cra && anew)) ≡ true → (idr || (cra && true)) ≡ true
starts_anew true cra anew is = refl
starts_anew false true anew is = refl
starts_anew false false anew is = is

-- its count reads nothing of those before it
own_count : (cycle : Option ℕ) (max lsb : ℕ) (a c : Previous) → pic_order_count cycle true max lsb a ≡ pic_order_count cycle true max lsb c
own_count (Some cycle) max lsb a c = refl
own_count None max lsb a c = refl

module _ (b : Begun) (k : Kind) (clvss : k.clvss ≡ true) where
  module _ (earlier : List Picture) (next : IsNext earlier b k) where
    is_start : is_clvss earlier k.after_eos k.nal_type ≡ true
    is_start = sym (ap (λ (j : Kind). j.clvss) next.kind) ∙ clvss

    start_type : is_irap_or_gdr k.nal_type ≡ true
    start_type = starts_irap (is_idr k.nal_type) (is_cra_or_gdr k.nal_type) (begins_anew earlier k.after_eos) is_start

    start_count : (c : Previous) → k.poc ≡ count_by b.sps b.header true c
    start_count c =
        ap (λ (j : Kind). j.poc) next.kind
        ∙ (ap (λ s. count_by b.sps b.header s (previous earlier)) is_start
        ∙ own_count (msb_cycle b.header) (max_lsb b.sps) (lsb_of b.header) (previous earlier) c)

    module _ (others : List Picture) (some : is_empty others ≡ false) where
      start_again : is_clvss others true k.nal_type ≡ true
      start_again = starts_anew (is_idr k.nal_type) (is_cra_or_gdr k.nal_type) (begins_anew earlier k.after_eos) is_start

      joined_kind : record k { after_eos = true } ≡ kind_of others true b k.nal_type k.temporal_id
      joined_kind =
          let clvss_is : k.clvss ≡ is_clvss others true k.nal_type = clvss ∙ sym start_again in
          let after_is : true ≡ (true && not (is_empty others)) = sym (ap not some) in
          let poc_is : k.poc ≡ count_by b.sps b.header (is_clvss others true k.nal_type) (previous others)
          = start_count (previous others) ∙ ap (λ s. count_by b.sps b.header s (previous others)) (sym start_again) in
          cc

      joined_next : IsNext others b (record k { after_eos = true })
      joined_next = record {
        ends = λ h. some;
        kind = joined_kind;
        begins = λ h. start_type;
        same = λ h. absurd (true≢false (sym clvss ∙ h));
        fits = next.fits;
      }

joined_sound : (R : Readers) (earlier others : List Picture) (p : Picture) → p.kind.clvss ≡ true → is_empty others ≡ false
    → IsSoundPicture R earlier p → IsSoundPicture R others (after_end p)
joined_sound R earlier others p clvss some sound = record {
  first = sound.first;
  more = sound.more;
  slices = sound.slices;
  head = sound.head;
  refers = sound.refers;
  outside = sound.outside;
  each = sound.each;
  order = sound.order;
  bodies = sound.bodies;
  size = sound.size;
  messages = sound.messages;
  tid = sound.tid;
  next = joined_next p.begun p.kind clvss earlier sound.next others some;
}

-- it can be prevTid0Pic
another : (t n : ℕ) → is_irap_or_gdr t ≡ true → is_irap_or_gdr n ≡ false → not (t == n) ≡ true
another t n is other = elim (eqb_tells t n) [
  | inl same ↦ absurd (true≢false (sym is ∙ (ap is_irap_or_gdr same.1 ∙ other)))
  | inr apart ↦ ap not apart.0
]

no_leading : (t : ℕ) → is_irap_or_gdr t ≡ true → (not (t == types.RADL_NUT) && not (t == types.RASL_NUT)) ≡ true
no_leading t is = rw (another t types.RADL_NUT is refl, another t types.RASL_NUT is refl) refl

is_previous : (earlier : List Picture) (p : Picture) → Starts p → IsNext earlier p.begun p.kind → is_tid0_picture p ≡ true
is_previous earlier p starts next =
    let lead = no_leading p.kind.nal_type (start_type p.begun p.kind starts.clvss earlier next) in
    rw (starts.tid, starts.ref, lead) refl

start_found : (b : Bool) (p : Picture) (o other : Option Picture) → b ≡ true
    → counts_or_none (cond b (Some p) o) ≡ counts_or_none (cond b (Some (after_end p)) other)
start_found true p o other is = refl
start_found false p o other is = absurd (true≢false (sym is))

-- so what came before it isn't seen behind it
starts_tell : (earlier others : List Picture) (p : Picture) → Starts p → IsNext earlier p.begun p.kind → TellSame (p ∷ earlier) (after_end p ∷ others)
starts_tell earlier others p starts next = record {
  empty = refl;
  counts = start_found (is_tid0_picture p) p (find is_tid0_picture earlier) (find is_tid0_picture others) (is_previous earlier p starts next);
  changed = λ sps. refl;
}

-- ---- pictures from a start on

module _ (R : Readers) (earlier others : List Picture) (p : Picture) (starts : Starts p) (some : is_empty others ≡ false) (before : AreFinished R others) where
  later_tell : (later : List Picture) → AreFinished R (later ++ p ∷ earlier) → TellSame (later ++ p ∷ earlier) (later ++ after_end p ∷ others)
  later_tell [] finished = starts_tell earlier others p starts finished.0.next
  later_tell (q ∷ later) finished = more_tell q (later ++ p ∷ earlier) (later ++ after_end p ∷ others) (later_tell later finished.2)

  later_finished : (later : List Picture) → AreFinished R (later ++ p ∷ earlier) → AreFinished R (later ++ after_end p ∷ others)
  later_finished [] finished = (joined_sound R earlier others p starts.clvss some finished.0, finished.1, before)
  later_finished (q ∷ later) finished =
      (sound_behind R (later ++ p ∷ earlier) (later ++ after_end p ∷ others) (later_tell later finished.2) q finished.0, finished.1, later_finished later finished.2)

pub joined_are_finished : JoinedAreFinished
joined_are_finished R later earlier others p starts some finished before = later_finished R earlier others p starts some before later finished

-- ---- one more picture as it is played

-- its picture, where it is joined or not
abbrev marked : Bool → Picture → Picture
marked j p = cond j (after_end p) p

record GoesOn (R : Readers) (own others : List Picture) (p q : Picture) : Type 0 where
  sound : IsSoundPicture R others q
  whole : is_whole q ≡ true
  same : TellSame (p ∷ own) (q ∷ others)

one_played : (R : Readers) (own others : List Picture) (p : Picture) (j : Bool) → (j ≡ false → TellSame own others) → (j ≡ true → Starts p)
    → (j ≡ true → is_empty others ≡ false) → IsSoundPicture R own p → is_whole p ≡ true → GoesOn R own others p (marked j p)
one_played R own others p true same starts some sound whole = record {
  sound = joined_sound R own others p (starts refl).clvss (some refl) sound;
  whole = whole;
  same = starts_tell own others p (starts refl) sound.next;
}
one_played R own others p false same starts some sound whole = record {
  sound = sound_behind R own others (same refl) p sound;
  whole = whole;
  same = more_tell p own others (same refl);
}

-- what is told of the pictures before a file, where its first one isn't joined
none_before : (joins : ℕ → Bool) (before : List Picture) → (is_empty before ≡ false → joins (length before) ≡ true) → joins (length before) ≡ false
    → TellSame [] (played joins before)
none_before joins [] begun unjoined = record { empty = refl; counts = refl; changed = λ sps. refl }
none_before joins (p ∷ before) begun unjoined = absurd (true≢false (sym (begun refl) ∙ unjoined))

-- a picture that is joined has others before it
some_before : (joins : ℕ → Bool) (ps : List Picture) → joins 0 ≡ false → joins (length ps) ≡ true → is_empty (played joins ps) ≡ false
some_before joins [] first is = absurd (true≢false (sym is ∙ first))
some_before joins (p ∷ ps) first is = refl

-- ---- a file

module _ (R : Readers) (joins : ℕ → Bool) (not_first : joins 0 ≡ false) where
  -- a file that begins behind these pictures
  module _ (before : List Picture) (begun : is_empty before ≡ false → joins (length before) ≡ true) (so_far : AreFinished R (played joins before)) where
    -- A front of it: it is finished behind them, and tells the same as alone, where it isn't empty.
    record FrontPlayed (own : List Picture) : Type 0 where
      finished : AreFinished R (played joins (own ++ before))
      same : is_empty own ≡ false → TellSame own (played joins (own ++ before))

    tell_before : (own : List Picture) → FrontPlayed own → joins (length (own ++ before)) ≡ false → TellSame own (played joins (own ++ before))
    tell_before [] front unjoined = none_before joins before begun unjoined
    tell_before (p ∷ own) front unjoined = front.same refl

    file_played : (own : List Picture) → AreFinished R own → StartWhere joins (own ++ before) → FrontPlayed own
    file_played [] own_finished starts = record { finished = so_far; same = λ h. absurd (true≢false h) }
    file_played (p ∷ own) own_finished starts =
        let front = file_played own own_finished.2 starts.1 in
        let one = one_played R own (played joins (own ++ before)) p (joins (length (own ++ before))) (tell_before own front) starts.0 (some_before joins (own ++ before) not_first) own_finished.0 own_finished.1 in
        record { finished = (one.sound, one.whole, front.finished); same = λ h. one.same }

-- ---- the files

start_behind : (joins : ℕ → Bool) (own before : List Picture) → StartWhere joins (own ++ before) → StartWhere joins before
start_behind joins [] before starts = starts
start_behind joins (p ∷ own) before starts = start_behind joins own before starts.1

start_front : (joins : ℕ → Bool) (before : List Picture) (files : List (List Picture)) → StartWhere joins (one_behind_another before files) → StartWhere joins before
start_front joins before [] starts = starts
start_front joins before (f ∷ files) starts = start_behind joins f before (start_front joins (f ++ before) files starts)

positive : (ps : List Picture) → is_empty ps ≡ false → 0 < length ps
positive [] some = absurd (true≢false some)
positive (p ∷ ps) some = omega arith

or_right : (a b : Bool) → b ≡ true → (a || b) ≡ true
or_right true b h = refl
or_right false b h = h

begins_here : (p : Picture) (f : List Picture) (files : List (List Picture)) (n : ℕ) → begins_file n ((p ∷ f) ∷ files) n ≡ true
begins_here p f files n = rw (eq-eqb n n refl) refl

begins_behind : (f before : List Picture) (files : List (List Picture)) (n : ℕ) → begins_file (length (f ++ before)) files n ≡ true
    → begins_file (length before) (f ∷ files) n ≡ true
begins_behind f before files n is =
    let at : length (f ++ before) ≡ length before + length f = omega (arith, length-append f before) in
    let behind : begins_file (length before + length f) files n ≡ true = ap (λ m. begins_file m files n) (sym at) ∙ is in
    or_right (not (is_empty f) && length before == n) (begins_file (length before + length f) files n) behind

module _ (R : Readers) (joins : ℕ → Bool) (not_first : joins 0 ≡ false) where
  one_file : (f before : List Picture) (files : List (List Picture)) → AreFinished R (played joins before)
      → ((n : ℕ) → 0 < n → begins_file (length before) (f ∷ files) n ≡ true → joins n ≡ true) → AreFinished R f → StartWhere joins (f ++ before)
      → AreFinished R (played joins (f ++ before))
  one_file [] before files finished begun own starts = finished
  one_file (p ∷ f) before files finished begun own starts =
      let here : is_empty before ≡ false → joins (length before) ≡ true = λ some. begun (length before) (positive before some) (begins_here p f files (length before)) in
      (file_played R joins not_first before here finished (p ∷ f) own starts).finished

  all_played : (files : List (List Picture)) (before : List Picture) → AreFinished R (played joins before)
      → ((n : ℕ) → 0 < n → begins_file (length before) files n ≡ true → joins n ≡ true) → AllByRecursion (AreFinished R) files
      → StartWhere joins (one_behind_another before files) → AreFinished R (played joins (one_behind_another before files))
  all_played [] before finished begun all starts = finished
  all_played (f ∷ files) before finished begun all starts =
      let front = one_file f before files finished begun all.0 (start_front joins (f ++ before) files starts) in
      all_played files (f ++ before) front (λ n some is. begun n some (begins_behind f before files n is)) all.1 starts

pub played_are_finished : PlayedAreFinished
played_are_finished R joins files joined all starts = all_played R joins joined.first files [] tt joined.begun all starts

-- ---- where a file begins

begins_none : (f : List Picture) (here behind : Bool) → here ≡ false → behind ≡ false → ((not (is_empty f) && here) || behind) ≡ false
begins_none [] here behind not_here not_behind = not_behind
begins_none (p ∷ f) here behind not_here not_behind = rw (not_here, not_behind) refl

-- files begin no sooner than behind those before them
late : (b n : ℕ) (files : List (List Picture)) → n < b → begins_file b files n ≡ false
late b n [] low = refl
late b n (f ∷ files) low =
    begins_none f (b == n) (begins_file (b + length f) files n) (ne_eqb b n (λ same. absurd (omega (arith, same)))) (late (b + length f) n files (omega (arith, low)))

longer : (before : List Picture) (files : List (List Picture)) → length before ≤ length (one_behind_another before files)
longer before [] = omega arith
longer before (f ∷ files) = omega (arith, longer (f ++ before) files, length-append f before)

-- a file that is read to its end, or from its start
past_file : (f before : List Picture) (n : ℕ) → length (f ++ before) ≤ n → (not (is_empty f) && length before == n) ≡ false
past_file [] before n past = refl
past_file (p ∷ f) before n past = ne_eqb (length before) n (λ same. absurd (omega (arith, same, past, length-append f before)))

at_start : (others before : List Picture) → (length before == length (others ++ before)) ≡ is_empty others
at_start [] before = eq-eqb (length before) (length before) refl
at_start (q ∷ others) before = ne_eqb (length before) (length ((q ∷ others) ++ before)) (λ same. absurd (omega (arith, same, length-append others before)))

some_file : (later others : List Picture) (p : Picture) → is_empty (later ++ p ∷ others) ≡ false
some_file [] others p = refl
some_file (q ∷ later) others p = refl

or_none : (b : Bool) → (b || false) ≡ b
or_none true = refl
or_none false = refl

here_alone : (empty here behind b : Bool) → empty ≡ false → here ≡ b → behind ≡ false → ((not empty && here) || behind) ≡ b
here_alone empty here behind b some is none = rw (some, is, none) (or_none b)

behind_alone : (here behind b : Bool) → here ≡ false → behind ≡ b → (here || behind) ≡ b
behind_alone here behind b none is = rw (none, is) refl

module _ (others : List Picture) (p : Picture) (later : List Picture) (rest : List (List Picture)) where
  begins_where : (more : List (List Picture)) (before : List Picture)
      → begins_file (length before) (more ++ (later ++ p ∷ others) ∷ rest) (length (one_behind_another before (more ++ others ∷ []))) ≡ is_empty others
  begins_where [] before =
      let f : List Picture = later ++ p ∷ others in
      let n : ℕ = length (others ++ before) in
      let low : n < length before + length f = omega (arith, length-append others before, length-append later (p ∷ others)) in
      here_alone (is_empty f) (length before == n) (begins_file (length before + length f) rest n) (is_empty others) (some_file later others p) (at_start others before)
      (late (length before + length f) n rest low)
  begins_where (m ∷ more) before =
      let files : List (List Picture) = more ++ (later ++ p ∷ others) ∷ rest in
      let n : ℕ = length (one_behind_another (m ++ before) (more ++ others ∷ [])) in
      let at : length (m ++ before) ≡ length before + length m = omega (arith, length-append m before) in
      let behind : begins_file (length before + length m) files n ≡ is_empty others = ap (λ b. begins_file b files n) (sym at) ∙ begins_where more (m ++ before) in
      behind_alone (not (is_empty m) && length before == n) (begins_file (length before + length m) files n) (is_empty others)
      (past_file m before n (longer (m ++ before) (more ++ others ∷ []))) behind

pub begins_where_first : BeginsWhereFirst
begins_where_first more others p later rest = begins_where others p later rest more []
