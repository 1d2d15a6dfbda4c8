-- What a source has given, and the units of all the bytes that it tells.
use Rattle.std.proofs.Common.{◌≡◌, ℕ, ◌+◌, ◌-◌, ◌<◌, ◌≤◌, List, [], ◌∷◌, ◌++◌, ◌∙◌, Option, Some, None, Err, Bool, true, false, length, take, drop, option_map, sym, ap, ap₂, refl, subst, arith, length-append, append-nil, append_assoc, ⊎_elim}
use Rattle.std.proofs.lemmas.Bool.{cases_lt, le-leb, lt-leb}
use Rattle.std.proofs.lemmas.List.{take-append-le}
use Rattle.std.proofs.Math.Seq.{take-append-add, take_all, drop-append_seam}
use Rattle.vx_annexb.specs.ByteStream.{source_limit, UnitPlace, unit_bytes, IsUnit, SeesNoMore, IsStream, FollowsFrom, end_of}
use Rattle.vx_annexb.proofs.Places.{end_of_more}
use Rattle.vx_annexb.proofs.Exists.{stream_exists}
use Rattle.vx_annexb.proofs.Unseen.{later_unseen}
use Rattle.vx_annexb.proofs.Unique.{stream_unique, stream_goes_on, follow_front}
use Rattle.vx_bits.specs.declared.refusal.Refusal.{Refusal}
use Rattle.vx_bits.specs.declared.refusal.Refusal.TheVariants.{Limit}
use Rattle.vx_bits.specs.declared.rules.TheConstants.{LONG_SOURCE}
use Rattle.vx_pic.specs.Readings.{Reading}
use Rattle.vx_pic.specs.Rules.{Readers, reads}
use Rattle.vx_pic.specs.Streams.{read_on, all_read, stopped, one_more, lacks_slice}
use Rattle.vx_pic.specs.Bytes.{Ending, units_at, ending_by}
use Rattle.vx_run.specs.Show.{Teller, read_len, shown_by, is_within_limit, shown_lines, lines_behind, IsShown}
use Rattle.vx_assemble.specs.Feed.{seen_of}
use Rattle.vx_run.proofs.Lined.{read_behind, all_length, units_more, lines_more, lines_refused, unit_within, units_on, lines_on}

-- ---- bytes that go on

-- the front of bytes that go on goes on
front_goes_on : (n : ℕ) (g more : List ℕ) → (later : List ℕ) × (take n (g ++ more) ≡ take n g ++ later)
front_goes_on n g more = ⊎_elim
    (λ long. ([], take-append-le n g more (omega arith) ∙ sym (append-nil (take n g))))
    (λ short.
    let split : length g + (n - length g) ≡ n = omega arith in
    (take (n - length g) more, ap (λ k. take k (g ++ more)) (sym split) ∙ take-append-add g more (n - length g) ∙ ap (λ l. l ++ take (n - length g) more) (sym (take_all n g short))))
    (cases_lt n (length g))

-- units follow one another upward
ends_rise : (b : List ℕ) (all : Bool) (p : ℕ) (us : List UnitPlace) → FollowsFrom b all p us → p ≤ end_of p us
ends_rise b all p [] f = omega arith
ends_rise b all p (u ∷ us) f =
    let at = unit_within b all p u f.0 in
    omega (arith, at.0, at.2, ends_rise b all u.end us f.2)

-- fewer than so many bytes past the end of each unit that can come next are fewer past the end of the last one
pub last_beyond : (b : List ℕ) (all : Bool) (p n k : ℕ) (us : List UnitPlace) (last : UnitPlace) → FollowsFrom b all p (us ++ last ∷ []) → ((u : UnitPlace) → IsUnit b all p u → n < shown_by u + k) → n < shown_by last + k
last_beyond b all p n k [] last f beyond = beyond last f.0
last_beyond b all p n k (u ∷ us) last f beyond =
    omega (arith, beyond u f.0, ends_rise b all u.end (us ++ last ∷ []) f.2, end_of_more u.end us last)

-- the units behind others
pub follows_behind : (b : List ℕ) (all : Bool) (p : ℕ) (us vs : List UnitPlace) → FollowsFrom b all p (us ++ vs) → FollowsFrom b all (end_of p us) vs
follows_behind b all p [] vs f = f
follows_behind b all p (u ∷ us) vs f = follows_behind b all u.end us vs f.2

-- a unit whose end is seen in one more piece, and not before it
pub near : (g piece : List ℕ) (p : ℕ) (u : UnitPlace) → length g ≤ source_limit → length piece ≤ read_len → SeesNoMore (seen_of g) false p → IsUnit (seen_of (g ++ piece)) false p u → length (g ++ piece) < shown_by u + read_len
near g piece p u within fits none is =
    let on = front_goes_on source_limit g piece in
    let whole : seen_of g ≡ g = take_all source_limit g within in
    let later = subst (λ (l : List ℕ). IsUnit l false p u) (on.1 ∙ ap (λ l. l ++ on.0) whole) is in
    let seen = later_unseen g on.0 false p u (subst (λ (l : List ℕ). SeesNoMore l false p) whole none) later in
    omega (arith, seen, fits, length-append g piece)

-- lines that were shown stay, however the source goes on
pub shown_lines_on : (R : Readers) (T : Teller) (g piece : List ℕ) (all : Bool) (us : List UnitPlace) → FollowsFrom (seen_of g) all 0 us → shown_lines R T (g ++ piece) us ≡ shown_lines R T g us
shown_lines_on R T g piece all us f =
    let on = front_goes_on source_limit g piece in
    ap (λ l. lines_behind R T l [] us) on.1 ∙ lines_on R T (seen_of g) on.0 all 0 [] us f

-- ---- what was given of the bytes that a source tells

-- of the bytes b these were given, and `all` says that they are all there are and within the limit
pub record IsGiven (b given : List ℕ) (all : Bool) : Type 0 where
  pub rest : List ℕ
  pub front : b ≡ given ++ rest
  pub whole : all ≡ true → (rest ≡ []) × (length given ≤ source_limit)

-- what is looked at goes on behind what was given
seen_goes_on : (b given : List ℕ) (all : Bool) → IsGiven b given all → (later : List ℕ) × (seen_of b ≡ seen_of given ++ later)
seen_goes_on b given all is =
    let on = front_goes_on source_limit given is.rest in
    (on.0, ap seen_of is.front ∙ on.1)

-- all that there is
pub all_given : (b given : List ℕ) → IsGiven b given true → (b ≡ given) × (is_within_limit b ≡ true)
all_given b given is =
    let whole = is.whole refl in
    let same : b ≡ given = is.front ∙ ap (λ l. given ++ l) whole.0 ∙ append-nil given in
    (same, le-leb (length b) source_limit (subst (λ (l : List ℕ). length l ≤ source_limit) (sym same) whole.1))

-- the lines of the first units stay
pub lines_of_given : (R : Readers) (T : Teller) (b given : List ℕ) (all : Bool) (us : List UnitPlace) → IsGiven b given all → FollowsFrom (seen_of given) all 0 us → shown_lines R T b us ≡ shown_lines R T given us
lines_of_given R T b given all us is f =
    ap (λ l. shown_lines R T l us) is.front ∙ shown_lines_on R T given is.rest all us f

-- and their bytes
pub units_of_given : (b given : List ℕ) (all : Bool) (us : List UnitPlace) → IsGiven b given all → FollowsFrom (seen_of given) all 0 us → units_at (seen_of b) us ≡ units_at (seen_of given) us
units_of_given b given all us is f =
    let on = seen_goes_on b given all is in
    ap (λ l. units_at l us) on.1 ∙ units_on (seen_of given) on.0 all 0 us f

-- Of a source whose units these are, with this ending by framing.
abbrev pub IsOf : List ℕ → List UnitPlace → Option Refusal → Type 0
IsOf b vs framing = IsStream (seen_of b) (is_within_limit b) vs framing

-- the units seen in what was given are the first ones
pub first_of_given : (b given : List ℕ) (all : Bool) (us vs : List UnitPlace) (t : Option Refusal) → IsGiven b given all → FollowsFrom (seen_of given) all 0 us → IsOf b vs t → (more : List UnitPlace) × (vs ≡ us ++ more)
first_of_given b given true us vs t is f whole =
    let same = all_given b given is in
    let follow = subst (λ (w : Bool). FollowsFrom (seen_of b) w 0 us) (sym same.1) (subst (λ (l : List ℕ). FollowsFrom (seen_of l) true 0 us) (sym same.0) f) in
    follow_front (seen_of b) (is_within_limit b) 0 us vs t follow whole.follow whole.behind
first_of_given b given false us vs t is f whole =
    let on = seen_goes_on b given false is in
    let there = stream_exists (seen_of given) false in
    let front = follow_front (seen_of given) false 0 us there.0 there.1 f there.2.follow there.2.behind in
    let stream = subst (λ (l : List ℕ). IsStream l (is_within_limit b) vs t) on.1 whole in
    let later = (stream_goes_on (seen_of given) on.0 (is_within_limit b) there.0 vs there.1 t there.2 stream).0 in
    (front.0 ++ later.0, later.1 ∙ ap (λ l. l ++ later.0) front.1 ∙ append_assoc us front.0 later.0)

-- a refusal by framing in what was given is that of the whole
pub refused_of_given : (b given : List ℕ) (all : Bool) (us vs : List UnitPlace) (r : Refusal) (t : Option Refusal) → IsGiven b given all → IsStream (seen_of given) all us (Some r) → IsOf b vs t → (vs ≡ us) × (t ≡ Some r)
refused_of_given b given true us vs r t is stream whole =
    let same = all_given b given is in
    let here = subst (λ (w : Bool). IsStream (seen_of b) w us (Some r)) (sym same.1) (subst (λ (l : List ℕ). IsStream (seen_of l) true us (Some r)) (sym same.0) stream) in
    let one = stream_unique (seen_of b) (is_within_limit b) us vs (Some r) t here whole in
    (sym one.0, sym one.1)
refused_of_given b given false us vs r t is stream whole =
    let on = seen_goes_on b given false is in
    let here = subst (λ (l : List ℕ). IsStream l (is_within_limit b) vs t) on.1 whole in
    (stream_goes_on (seen_of given) on.0 (is_within_limit b) us vs (Some r) t stream here).1 r refl

-- all was given, and framing refuses nothing
pub whole_of_given : (b given : List ℕ) (us vs : List UnitPlace) (t : Option Refusal) → IsGiven b given true → IsStream (seen_of given) true us None → IsOf b vs t → (vs ≡ us) × (t ≡ None)
whole_of_given b given us vs t is stream whole =
    let same = all_given b given is in
    let here = subst (λ (w : Bool). IsStream (seen_of b) w us None) (sym same.1) (subst (λ (l : List ℕ). IsStream (seen_of l) true us None) (sym same.0) stream) in
    let one = stream_unique (seen_of b) (is_within_limit b) us vs None t here whole in
    (sym one.0, sym one.1)

-- more was given than the limit, and framing refuses nothing before it
pub long_of_given : (b given : List ℕ) (us vs : List UnitPlace) (t : Option Refusal) → IsGiven b given false → length given ≡ source_limit + 1 → IsStream (seen_of given) false us None → IsOf b vs t → (vs ≡ us) × (t ≡ None) × (is_within_limit b ≡ false)
long_of_given b given us vs t is long stream whole =
    let same : seen_of b ≡ seen_of given = ap seen_of is.front ∙ take-append-le source_limit given is.rest (omega arith) in
    let len : length b ≡ length given + length is.rest = ap length is.front ∙ length-append given is.rest in
    let beyond : is_within_limit b ≡ false = lt-leb (length b) source_limit (omega (arith, len, long)) in
    let here = subst (λ (w : Bool). IsStream (seen_of b) w us None) (sym beyond) (subst (λ (l : List ℕ). IsStream l false us None) (sym same) stream) in
    let one = stream_unique (seen_of b) (is_within_limit b) us vs None t here whole in
    (sym one.0, sym one.1, beyond)

-- ---- the ending

-- a refusal behind n units
abbrev pub refused_at : ℕ → Refusal → Option Ending
refused_at n r = let e : Ending = record { units = n; refusal = r } in Some e

end_lacking : (before : List Reading) (r : Refusal) → lacks_slice before ≡ Some r → ending_by true None (all_read before) ≡ refused_at (length before) r
end_lacking before r lacks = ap (λ (x : Option Refusal). option_map (λ (y : Refusal). let e : Ending = record { units = length before; refusal = y } in e) x) lacks

end_whole : (before : List Reading) → lacks_slice before ≡ None → ending_by true None (all_read before) ≡ None
end_whole before none = ap (λ (x : Option Refusal). option_map (λ (y : Refusal). let e : Ending = record { units = length before; refusal = y } in e) x) none

abbrev head_or : List ℕ → List (List ℕ) → List ℕ
head_or other [] = other
head_or other (x ∷ xs) = x

-- the last of lists that are the same
last_same : (xs ys : List (List ℕ)) (x y : List ℕ) → xs ≡ ys → xs ++ x ∷ [] ≡ ys ++ y ∷ [] → x ≡ y
last_same xs ys x y same is =
    let drop_front : drop (length xs) (xs ++ x ∷ []) ≡ drop (length ys) (ys ++ y ∷ []) = ap₂ (λ n (l : List (List ℕ)). drop n l) (ap length same) is in
    ap (head_or []) (sym (drop-append_seam xs (x ∷ [])) ∙ drop_front ∙ drop-append_seam ys (y ∷ []))

module _ (R : Readers) (b given : List ℕ) (us vs : List UnitPlace) (before : List Reading) (ending : Option Ending) (shown : IsShown R b vs ending) where
  -- by framing
  pub ends_by_framing : (all : Bool) (r : Refusal) → IsGiven b given all → read_on R [] (units_at (seen_of given) us) ≡ all_read before → IsStream (seen_of given) all us (Some r)
      → (vs ≡ us) × (ending ≡ refused_at (length us) r)
  ends_by_framing all r is read stream =
      let one = refused_of_given b given all us vs r shown.framing is stream shown.stream in
      let whole : read_on R [] (units_at (seen_of b) vs) ≡ all_read before = ap (λ l. read_on R [] (units_at (seen_of b) l)) one.0 ∙ ap (λ l. read_on R [] l) (units_of_given b given all us is stream.follow) ∙ read in (
        one.0,
        shown.ends
            ∙ ap (λ o. ending_by (is_within_limit b) shown.framing o) whole
            ∙ ap (λ t. ending_by (is_within_limit b) t (all_read before)) one.1
            ∙ ap (λ n. refused_at n r) (all_length R (seen_of given) us before read),
      )

  -- by the number of bytes
  pub ends_by_length : (r : Refusal) → r ≡ Limit LONG_SOURCE → IsGiven b given false → length given ≡ source_limit + 1 → read_on R [] (units_at (seen_of given) us) ≡ all_read before → IsStream (seen_of given) false us None
      → (vs ≡ us) × (ending ≡ refused_at (length us) r)
  ends_by_length r limit is long read stream =
      let one = long_of_given b given us vs shown.framing is long stream shown.stream in
      let whole : read_on R [] (units_at (seen_of b) vs) ≡ all_read before = ap (λ l. read_on R [] (units_at (seen_of b) l)) one.0 ∙ ap (λ l. read_on R [] l) (units_of_given b given false us is stream.follow) ∙ read in (
        one.0,
        shown.ends
            ∙ ap (λ o. ending_by (is_within_limit b) shown.framing o) whole
            ∙ ap (λ t. ending_by (is_within_limit b) t (all_read before)) one.1
            ∙ ap (λ w. ending_by w None (all_read before)) one.2
            ∙ ap (λ n. refused_at n (Limit LONG_SOURCE)) (all_length R (seen_of given) us before read)
            ∙ ap (λ x. refused_at (length us) x) (sym limit),
      )

  -- where all was given
  whole_end : IsGiven b given true → read_on R [] (units_at (seen_of given) us) ≡ all_read before → IsStream (seen_of given) true us None
      → (vs ≡ us) × (ending ≡ ending_by true None (all_read before))
  whole_end is read stream =
      let one = whole_of_given b given us vs shown.framing is stream shown.stream in
      let whole : read_on R [] (units_at (seen_of b) vs) ≡ all_read before = ap (λ l. read_on R [] (units_at (seen_of b) l)) one.0 ∙ ap (λ l. read_on R [] l) (units_of_given b given true us is stream.follow) ∙ read in (
        one.0,
        shown.ends
            ∙ ap (λ o. ending_by (is_within_limit b) shown.framing o) whole
            ∙ ap (λ t. ending_by (is_within_limit b) t (all_read before)) one.1
            ∙ ap (λ w. ending_by w None (all_read before)) (all_given b given is).1,
      )

  -- by a picture that lacks a slice
  pub ends_lacking : (r : Refusal) → lacks_slice before ≡ Some r → IsGiven b given true → read_on R [] (units_at (seen_of given) us) ≡ all_read before → IsStream (seen_of given) true us None
      → (vs ≡ us) × (ending ≡ refused_at (length us) r)
  ends_lacking r lacks is read stream =
      let one = whole_end is read stream in
      (one.0, one.1 ∙ end_lacking before r lacks ∙ ap (λ n. refused_at n r) (all_length R (seen_of given) us before read))

  -- by nothing
  pub ends_whole : lacks_slice before ≡ None → IsGiven b given true → read_on R [] (units_at (seen_of given) us) ≡ all_read before → IsStream (seen_of given) true us None
      → (vs ≡ us) × (ending ≡ None)
  ends_whole none is read stream =
      let one = whole_end is read stream in
      (one.0, one.1 ∙ end_whole before none)

  -- by a unit that breaks a rule
  pub ends_by_unit : (all : Bool) (u : UnitPlace) (r : Refusal) → IsGiven b given all → FollowsFrom (seen_of given) all 0 (us ++ u ∷ []) → FollowsFrom (seen_of given) all 0 us → read_on R [] (units_at (seen_of given) us) ≡ all_read before
      → reads R before (unit_bytes (seen_of given) u) ≡ Err r → (ending ≡ refused_at (length us) r) × ((T : Teller) → shown_lines R T b vs ≡ shown_lines R T b us ++ T before (unit_bytes (seen_of given) u)) × (read_on R [] (units_at (seen_of b) vs) ≡ stopped before r)
  ends_by_unit all u r is follow front read refused =
      let first = first_of_given b given all (us ++ u ∷ []) vs shown.framing is follow shown.stream in
      let split : vs ≡ us ++ u ∷ first.0 = first.1 ∙ append_assoc us (u ∷ []) first.0 in
      let here : read_on R [] (units_at (seen_of b) us) ≡ all_read before = ap (λ l. read_on R [] l) (units_of_given b given all us is front) ∙ read in
      let both : units_at (seen_of b) (us ++ u ∷ []) ≡ units_at (seen_of given) (us ++ u ∷ []) = units_of_given b given all (us ++ u ∷ []) is follow in
      let unit : unit_bytes (seen_of b) u ≡ unit_bytes (seen_of given) u = last_same (units_at (seen_of b) us) (units_at (seen_of given) us) (unit_bytes (seen_of b) u) (unit_bytes (seen_of given) u) (units_of_given b given all us is front) (sym (units_more (seen_of b) us (u ∷ [])) ∙ both ∙ units_more (seen_of given) us (u ∷ [])) in
      let answer : reads R before (unit_bytes (seen_of b) u) ≡ Err r = ap (reads R before) unit ∙ refused in
      let whole : read_on R [] (units_at (seen_of b) vs) ≡ stopped before r =
      ap (λ l. read_on R [] (units_at (seen_of b) l)) split
      ∙ ap (λ l. read_on R [] l) (units_more (seen_of b) us (u ∷ first.0))
      ∙ read_behind R (units_at (seen_of b) us) (units_at (seen_of b) (u ∷ first.0)) before here
      ∙ ap (λ x. one_more x before (λ after. read_on R after (units_at (seen_of b) first.0))) answer in (
        shown.ends
            ∙ ap (λ o. ending_by (is_within_limit b) shown.framing o) whole
            ∙ ap (λ n. refused_at n r) (all_length R (seen_of given) us before read),
        λ T. ap (shown_lines R T b) split
            ∙ lines_more R T (seen_of b) [] before us (u ∷ first.0) here
            ∙ ap (λ l. shown_lines R T b us ++ l) (lines_refused R T (seen_of b) before u first.0 r answer ∙ ap (T before) unit),
        whole,
      )
