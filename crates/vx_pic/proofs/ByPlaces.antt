-- Messages and slices, by the places of their units.
use Rattle.std.proofs.Common.{◌≡◌, ℕ, zero, suc, ◌<◌, Bool, true, false, List, [], ◌∷◌, ◌++◌, take, flat_map, refl, sym, ◌∙◌, ap, arith, Some}
use Rattle.std.specs.Prelude.{reverse, slice_get}
use Rattle.std.proofs.lemmas.List.{append-nil}
use Rattle.std.proofs.lemmas.Grind.{reverse_onto, flat_map-append}
use Rattle.std.proofs.lemmas.Option.{none-some}
use Rattle.vx_pic.specs.Readings.{Slice, Reading, dropped, vps_read, sps_read, pps_read, aps_read, messages_read, header_read, first_slice, next_slice, sequence_ended, gathered, Picture, Current, nothing, headed, going, with_slice, is_slice, current}
use Rattle.vx_pic.specs.laws.Pictures.{IsSinceSlice, messages_in, further_in, GatheredByPlaces, is_start, IsPictureAt, CurrentByPlaces}

below : (n k : ℕ) → suc k < suc n → k < n
below n k h = omega arith

-- what one more unit has comes last
one_more : {A : Type 0} (has : Reading → List A) (r : Reading) (before : List Reading)
    → flat_map has (reverse (r ∷ before)) ≡ flat_map has (reverse before) ++ has r
one_more has r before =
    ap (flat_map has) (reverse_onto before r []) ∙ flat_map-append has (reverse before) (r ∷ []) ∙ ap (λ l. flat_map has (reverse before) ++ l) (append-nil (has r))

past : (has : Reading → Bool) (r : Reading) (before : List Reading) (n : ℕ) → has r ≡ false
    → ((k : ℕ) (s : Reading) → k < n → slice_get before k ≡ Some s → has s ≡ false)
    → (k : ℕ) (s : Reading) → k < suc n → slice_get (r ∷ before) k ≡ Some s → has s ≡ false
past has r before n none more zero s lt is = cc
past has r before n none more (suc k) s lt is = more k s (below n k lt) is

-- ---- messages

at_slice : (r : Reading) (before : List Reading) → is_slice r ≡ true → gathered (r ∷ before) ≡ []
at_slice dropped before is = absurd (cc)
at_slice (vps_read v) before is = absurd (cc)
at_slice (sps_read v) before is = absurd (cc)
at_slice (pps_read v) before is = absurd (cc)
at_slice (aps_read v) before is = absurd (cc)
at_slice (messages_read v) before is = absurd (cc)
at_slice (header_read v) before is = absurd (cc)
at_slice (first_slice b k s) before is = refl
at_slice (next_slice s) before is = refl
at_slice sequence_ended before is = absurd (cc)

behind_slice : (r : Reading) (before : List Reading) → is_slice r ≡ false → gathered (r ∷ before) ≡ gathered before ++ messages_in r
behind_slice dropped before is = sym (append-nil (gathered before))
behind_slice (vps_read v) before is = sym (append-nil (gathered before))
behind_slice (sps_read v) before is = sym (append-nil (gathered before))
behind_slice (pps_read v) before is = sym (append-nil (gathered before))
behind_slice (aps_read v) before is = sym (append-nil (gathered before))
behind_slice (messages_read v) before is = refl
behind_slice (header_read v) before is = sym (append-nil (gathered before))
behind_slice (first_slice b k s) before is = absurd (cc)
behind_slice (next_slice s) before is = absurd (cc)
behind_slice sequence_ended before is = sym (append-nil (gathered before))

gathered_at : (before : List Reading) (n : ℕ) → IsSinceSlice before n → gathered before ≡ flat_map messages_in (reverse (take n before))
gathered_at [] zero at = refl
gathered_at [] (suc n) at = refl
gathered_at (r ∷ before) zero at = at_slice r before (at.slice r refl)
gathered_at (r ∷ before) (suc n) at =
    let none : is_slice r ≡ false = at.later 0 r (omega arith) refl in
    let more = gathered_at before n (record {
      within = omega (arith, at.within);
      later = λ k s lt is. at.later (suc k) s (omega (arith, lt)) is;
      slice = at.slice;
    }) in
    behind_slice r before none ∙ ap (λ l. l ++ messages_in r) more ∙ sym (one_more messages_in r (take n before))

-- of one more unit, by whether it is a slice
one_since : (b : Bool) (r : Reading) (before : List Reading) → is_slice r ≡ b → (n : ℕ) × IsSinceSlice before n → (n : ℕ) × IsSinceSlice (r ∷ before) n
one_since true r before is since =
    (0, record { within = omega arith; later = λ k s lt. absurd (omega arith); slice = λ s here. let same : r ≡ s = cc in rw (sym same) is })
one_since false r before is since = (
  suc since.0,
  record { within = omega (arith, since.1.within); later = past is_slice r before since.0 is since.1.later; slice = since.1.slice },
)

since : (before : List Reading) → (n : ℕ) × IsSinceSlice before n
since [] = (0, record { within = omega arith; later = λ k r lt. absurd (omega arith); slice = λ r is. absurd (none-some r is) })
since (r ∷ before) = one_since (is_slice r) r before refl (since before)

pub gathered_by_places : GatheredByPlaces
gathered_by_places before = (since before, gathered_at before)

-- ---- slices

-- a picture with one more slice
abbrev longer : Slice → Picture → Picture
longer s p = record p { slices = p.slices ++ s ∷ [] }

abbrev picture_or : Picture → Current → Picture
picture_or p nothing = p
picture_or p (headed b) = p
picture_or p (going q) = q

same_going : (p q : Picture) → going p ≡ going q → p ≡ q
same_going p q is = ap (picture_or p) is

built : (p : Picture) (before : List Reading) (slices : List Slice) → p.before ≡ before → p.slices ≡ slices
    → record { begun = p.begun; kind = p.kind; before = before; slices = slices } ≡ p
built p before slices e f = rw (sym e, sym f) refl

-- a unit with which no picture begins adds the further slice that it is
one_later : (r : Reading) (before : List Reading) (n : ℕ) (p q : Picture) → is_start r ≡ false → IsPictureAt before n p
    → q.begun ≡ p.begun → q.kind ≡ p.kind → q.before ≡ p.before → q.slices ≡ p.slices ++ further_in r → IsPictureAt (r ∷ before) (suc n) q
one_later r before n p q none at begun kind earlier slices = record {
  slice = at.slice;
  here = at.here ∙ ap (λ b. Some (first_slice b p.kind at.slice)) (sym begun) ∙ ap (λ k. Some (first_slice q.begun k at.slice)) (sym kind);
  later = past is_start r before n none at.later;
  earlier = earlier ∙ at.earlier;
  slices = slices ∙ ap (λ l. l ++ further_in r) at.slices ∙ ap (λ l. at.slice ∷ l) (sym (one_more further_in r (take n before)));
}

kept : (r : Reading) (before : List Reading) (p : Picture) → is_start r ≡ false → further_in r ≡ []
    → (n : ℕ) × IsPictureAt before n p → (n : ℕ) × IsPictureAt (r ∷ before) n p
kept r before p none alone at =
    (suc at.0, one_later r before at.0 p p none at.1 refl refl refl (sym (ap (λ l. p.slices ++ l) alone ∙ append-nil p.slices)))

of_longer : (s : Slice) (before : List Reading) (c : Current) (p : Picture) → with_slice s c ≡ going p
    → ((q : Picture) → c ≡ going q → (n : ℕ) × IsPictureAt before n q) → (n : ℕ) × IsPictureAt (next_slice s ∷ before) n p
of_longer s before nothing p is found = absurd (cc)
of_longer s before (headed b) p is found = absurd (cc)
of_longer s before (going q) p is found =
    let at = found q refl in
    let same : p ≡ longer s q = sym (same_going (longer s q) p is) in (
      suc at.0,
      one_later (next_slice s) before at.0 q p refl at.1 (ap (λ (x : Picture). x.begun) same) (ap (λ (x : Picture). x.kind) same) (
          ap (λ (x : Picture). x.before) same
          ) (ap (λ (x : Picture). x.slices) same),
    )

of_current : (before : List Reading) (p : Picture) → current before ≡ going p → (n : ℕ) × IsPictureAt before n p
of_current [] p is = absurd (cc)
of_current (dropped ∷ before) p is = kept dropped before p refl refl (of_current before p is)
of_current (vps_read v ∷ before) p is = kept (vps_read v) before p refl refl (of_current before p is)
of_current (sps_read v ∷ before) p is = kept (sps_read v) before p refl refl (of_current before p is)
of_current (pps_read v ∷ before) p is = kept (pps_read v) before p refl refl (of_current before p is)
of_current (aps_read v ∷ before) p is = kept (aps_read v) before p refl refl (of_current before p is)
of_current (messages_read v ∷ before) p is = kept (messages_read v) before p refl refl (of_current before p is)
of_current (header_read b ∷ before) p is = absurd (cc)
of_current (first_slice b k s ∷ before) p is =
    let same : record { begun = b; kind = k; before = before; slices = s ∷ [] } ≡ p = same_going (record { begun = b; kind = k; before = before; slices = s ∷ [] }) p is in (
      0,
      record {
        slice = s;
        here = ap (λ (x : Picture). Some (first_slice x.begun x.kind s)) same;
        later = λ j r lt. absurd (omega arith);
        earlier = ap (λ (x : Picture). x.before) (sym same);
        slices = ap (λ (x : Picture). x.slices) (sym same);
      },
    )
of_current (next_slice s ∷ before) p is = of_longer s before (current before) p is (λ q found. of_current before q found)
of_current (sequence_ended ∷ before) p is = kept sequence_ended before p refl refl (of_current before p is)

-- one unit earlier, a picture of the same start
one_earlier : (r : Reading) (before : List Reading) (n : ℕ) (p : Picture) (at : IsPictureAt (r ∷ before) (suc n) p)
    → IsPictureAt before n (record p { slices = at.slice ∷ flat_map further_in (reverse (take n before)) })
one_earlier r before n p at = record {
  slice = at.slice;
  here = at.here;
  later = λ k s lt is. at.later (suc k) s (omega (arith, lt)) is;
  earlier = at.earlier;
  slices = refl;
}

-- what a unit that no picture begins with makes of the picture
goes_on : (r : Reading) (before : List Reading) (n : ℕ) (p : Picture) (at : IsPictureAt (r ∷ before) (suc n) p)
    → p.slices ≡ (at.slice ∷ flat_map further_in (reverse (take n before))) ++ further_in r
goes_on r before n p at = at.slices ∙ ap (λ l. at.slice ∷ l) (one_more further_in r (take n before))

unchanged : (r : Reading) (before : List Reading) (n : ℕ) (p : Picture) (at : IsPictureAt (r ∷ before) (suc n) p) → further_in r ≡ []
    → current before ≡ going (record p { slices = at.slice ∷ flat_map further_in (reverse (take n before)) }) → current before ≡ going p
unchanged r before n p at alone is =
    let rest = at.slice ∷ flat_map further_in (reverse (take n before)) in
    is ∙ ap going (built p p.before rest refl (goes_on r before n p at ∙ ap (λ l. rest ++ l) alone ∙ append-nil rest))

behind : (r : Reading) (before : List Reading) (n : ℕ) (p : Picture) (at : IsPictureAt (r ∷ before) (suc n) p) → is_start r ≡ false
    → current before ≡ going (record p { slices = at.slice ∷ flat_map further_in (reverse (take n before)) }) → current (r ∷ before) ≡ going p
behind dropped before n p at none is = unchanged dropped before n p at refl is
behind (vps_read v) before n p at none is = unchanged (vps_read v) before n p at refl is
behind (sps_read v) before n p at none is = unchanged (sps_read v) before n p at refl is
behind (pps_read v) before n p at none is = unchanged (pps_read v) before n p at refl is
behind (aps_read v) before n p at none is = unchanged (aps_read v) before n p at refl is
behind (messages_read v) before n p at none is = unchanged (messages_read v) before n p at refl is
behind (header_read b) before n p at none is = absurd (cc)
behind (first_slice b k s) before n p at none is = absurd (cc)
behind (next_slice s) before n p at none is =
    let rest = at.slice ∷ flat_map further_in (reverse (take n before)) in
    ap (with_slice s) is ∙ ap going (built p p.before (rest ++ s ∷ []) refl (goes_on (next_slice s) before n p at))
behind sequence_ended before n p at none is = unchanged sequence_ended before n p at refl is

at_current : (before : List Reading) (n : ℕ) (p : Picture) → IsPictureAt before n p → current before ≡ going p
at_current [] n p at = absurd (none-some (first_slice p.begun p.kind at.slice) at.here)
at_current (r ∷ before) zero p at =
    let here = at.here in
    let same : r ≡ first_slice p.begun p.kind at.slice = cc in
    rw same (ap going (built p before (at.slice ∷ []) at.earlier at.slices))
at_current (r ∷ before) (suc n) p at = behind r before n p at (at.later 0 r (omega arith) refl) (at_current before n (record p { slices = at.slice ∷ flat_map further_in (reverse (take n before)) }) (one_earlier r before n p at))

pub current_by_places : CurrentByPlaces
current_by_places before p = (of_current before p, λ n at. at_current before n p at)
