-- How each step of a splitter carries on what ties it to the bytes that it was fed.
use Rattle.std.proofs.Common.{◌≡◌, ℕ, ◌+◌, ◌-◌, ◌<◌, ◌≤◌, inl, inr, Bool, true, false, List, [], ◌∷◌, ◌++◌, Option, Some, None, IsSome, length, drop, slice_index, slice_range, sym, ap, subst, ◌∙◌, arith, length-append, length-drop, ⊎_elim, refl}
use Rattle.std.proofs.lemmas.List.{append-nil}
use Rattle.vx_bits.specs.declared.refusal.Refusal.{Refusal}
use Rattle.vx_annexb.specs.Places.{AreZeros, IsMark, IsFirstFrom}
use Rattle.vx_annexb.specs.ByteStream.{StartsAt, CanEnd, UnitPlace, unit_bytes, IsUnit, IsStray, IsSound, RefusesUnit, RefusesNext, FollowsFrom, end_of, IsStream}
use Rattle.vx_annexb.specs.Held.{place_of}
use Rattle.vx_annexb.specs.inner.Held.{Held, fed, IsDoomedBy, HasSought, Stands}
use Rattle.vx_annexb.specs.inner.Order.{HasBegun, IsStarted, IsInOrder, cut_held, IsCut}
use Rattle.vx_annexb.specs.declared.span.Span.{Span}
use Rattle.vx_bits.specs.declared.refusal.Refusal.TheVariants.{Framing}
use Rattle.std.proofs.lemmas.List.{drop-append-le, drop-drop}
use Rattle.std.proofs.lemmas.Bool.{cases_lt, false≢true}
use Rattle.vx_annexb.proofs.Places.{index_kept, zeros_stream, zeros_kept, mark_stream, mark_kept, zeros_join, zeros_mark, mark_wider, slice_kept, follows_more, end_of_more, zeros_on, mark_before, starts_on, follows_on, refuses_on, bytes_on}

-- the bytes are all there are
finish_follows : (g : List ℕ) (all : Bool) (p : ℕ) (us : List UnitPlace) → FollowsFrom g all p us → FollowsFrom g true p us
finish_follows g true p us f = f
finish_follows g false p us f = let e = follows_on g [] true p us f in rw append-nil at e

finish_refuses : (g : List ℕ) (all : Bool) (p : ℕ) (r : Refusal) → RefusesNext g all p r → RefusesNext g true p r
finish_refuses g true p r f = f
finish_refuses g false p r f = let e = refuses_on g [] true p r f in rw append-nil at e

finish_sought : (h : Held) (g : List ℕ) (start : Option ℕ) (refused : Option Refusal) → HasSought h g start refused → HasSought (record h { all = true }) g start refused
finish_sought h g start (Some r) s = finish_refuses g h.all h.from r s
finish_sought h g None None s = s
finish_sought h g (Some p) None s = s

pub Stands-finish : (h : Held) (g : List ℕ) (units : List UnitPlace) → Stands h g units → Stands (record h { all = true }) g units
Stands-finish h g units s = record {
  taken = s.taken;
  kept = s.kept;
  given = finish_follows g h.all 0 units s.given;
  behind = s.behind;
  sought = finish_sought h g h.start h.refused s.sought;
}

-- room is another
room_sought : (h : Held) (room : ℕ) (g : List ℕ) (start : Option ℕ) (refused : Option Refusal) → HasSought h g start refused → HasSought (record h { room = room }) g start refused
room_sought h room g start (Some r) s = s
room_sought h room g None None s = s
room_sought h room g (Some p) None s = s

pub Stands-room : (h : Held) (room : ℕ) (g : List ℕ) (units : List UnitPlace) → Stands h g units → Stands (record h { room = room }) g units
Stands-room h room g units s = record { taken = s.taken; kept = s.kept; given = s.given; behind = s.behind; sought = room_sought h room g h.start h.refused s.sought }

-- the first bytes given up
pub Stands-cut : (h : Held) (base : ℕ) (doomed : Option Refusal) → IsInOrder h → IsCut h base doomed → (g : List ℕ) (units : List UnitPlace) → Stands h g units → Stands (cut_held h base doomed) g units
Stands-cut h base doomed order cut g units s =
    let e : h.base + (base - h.base) ≡ base = omega (arith, cut.low) in
    record {
      taken = omega (arith, s.taken, cut.low, cut.high, order.sought, length-drop (base - h.base) h.kept);
      kept = ap (λ xs. drop (base - h.base) xs) s.kept ∙ drop-drop (base - h.base) h.base g ∙ ap (λ n. drop n g) e;
      given = s.given;
      behind = s.behind;
      sought = cut.sought g units s;
    }

-- further bytes
module _ (h : Held) (g piece : List ℕ) (len : length g ≡ fed h) (going : h.all ≡ false) where
  more_doomed : (p : ℕ) (doomed : Option Refusal) → h.doomed ≡ doomed → HasBegun h p → IsDoomedBy g (h.base + 3) p h.doomed → IsDoomedBy (g ++ piece) (h.base + 3) p h.doomed
  more_doomed p None is begun d = rw is tt
  more_doomed p (Some r) is begun d =
      let held = rw is at begun.held in
      let same = bytes_on g piece (record { start = p; end = h.base + 3 }) (omega (arith, held.0)) (omega (arith, held.1, begun.sought, len)) in
      rw is (rw same (rw is at d))

  more_sought : (start : Option ℕ) (refused : Option Refusal) → IsStarted h start → HasSought h g start refused → HasSought (record h { kept = h.kept ++ piece }) (g ++ piece) start refused
  more_sought start (Some r) begun s = rw going (refuses_on g piece false h.from r (rw going at s))
  more_sought None None begun s = zeros_on g piece h.from h.sought s
  more_sought (Some p) None begun s =
      (starts_on g piece h.from p s.0, (λ k le lt m. s.1 k le lt (mark_before g piece 1 k (omega (arith, begun.sought, begun.order)) m)), more_doomed p h.doomed refl begun s.2)

pub Stands-more : (h : Held) (piece : List ℕ) → IsInOrder h → h.all ≡ false → (g : List ℕ) (units : List UnitPlace) → Stands h g units → Stands (record h { kept = h.kept ++ piece }) (g ++ piece) units
Stands-more h piece order going g units s = record {
  taken = omega (arith, length-append g piece, length-append h.kept piece, s.taken);
  kept = ap (λ xs. xs ++ piece) s.kept ∙ sym (drop-append-le h.base g piece (omega (arith, s.taken)));
  given = rw going (follows_on g piece false 0 units (rw going at s.given));
  behind = s.behind;
  sought = more_sought h g piece s.taken going h.start h.refused order.start s.sought;
}

pub Stands-fed : (h : Held) (piece kept : List ℕ) (room : ℕ) → IsInOrder h → h.all ≡ false → kept ≡ h.kept ++ piece → (g : List ℕ) (units : List UnitPlace) → Stands h g units → Stands (record h { kept = kept; room = room }) (g ++ piece) units
Stands-fed h piece kept room order going is g units s =
    let P : List ℕ → Type 0 = λ xs. Stands (record h { kept = xs; room = room }) (g ++ piece) units in
    subst P (sym is) (Stands-room (record h { kept = h.kept ++ piece }) room (g ++ piece) units (Stands-more h piece order going g units s))

-- the next start code, behind zeros
module _ (h : Held) (g : List ℕ) (units : List UnitPlace) (order : IsInOrder h) (unbegun : h.start ≡ None) (open_ : h.refused ≡ None) (place : ℕ) (zeros : AreZeros h.kept (h.sought - h.base) place) (s : Stands h g units) where
  zeros_from : AreZeros g h.from (h.base + place)
  zeros_from =
      let before : AreZeros g h.from h.sought = rw (unbegun, open_) at s.sought in
      let e : h.base + (h.sought - h.base) ≡ h.sought = omega (arith, order.base) in
      let behind = zeros_stream g h.kept h.base s.kept s.taken (h.sought - h.base) place zeros in
      zeros_join g h.from h.sought (h.base + place) before (rw e at behind)

  pub Stands-zeros : place ≡ length h.kept → Stands (record h { sought = h.base + place }) g units × IsStream g h.all units None
  Stands-zeros at_end =
      let e : h.base + place ≡ length g = omega (arith, s.taken) in (
        record { taken = s.taken; kept = s.kept; given = s.given; behind = s.behind; sought = rw (unbegun, open_) zeros_from },
        record { follow = s.given; behind = inl (rw (← s.behind) (rw e at zeros_from)) },
      )

  pub Stands-stray : place < length h.kept → (slice_index h.kept place ≡ 0 → ⊥) → (slice_index h.kept place ≡ 1 → h.base + place < h.from + 2) → Stands (record h { sought = h.base + place; refused = Some (Framing 1 (h.base + place)) }) g units × IsStream g h.all units (Some (Framing 1 (h.base + place)))
  Stands-stray within nonzero no_code =
      let same = index_kept g h.kept h.base s.kept place in
      let stray : IsStray g h.from (h.base + place) = record {
        zeros = zeros_from;
        within = omega (arith, s.taken);
        nonzero = λ e. nonzero (same ∙ e);
        no_code = λ e. no_code (same ∙ e);
      } in
      let refuses : RefusesNext g h.all h.from (Framing 1 (h.base + place)) = inl (h.base + place, stray, refl) in (
        record { taken = s.taken; kept = s.kept; given = s.given; behind = s.behind; sought = refuses },
        record { follow = s.given; behind = rw (← s.behind) refuses },
      )

  pub Stands-code : place < length h.kept → slice_index h.kept place ≡ 1 → h.from + 2 ≤ h.base + place → Stands (record h { start = Some (h.base + place + 1); sought = h.base + place + 1; clear = h.base + place + 1 }) g units
  Stands-code within one code =
      let e : h.base + place + 1 - 1 ≡ h.base + place = omega arith in
      let starts : StartsAt g h.from (h.base + place + 1) = record {
        prefix = omega arith;
        within = omega (arith, s.taken);
        zeros = rw e zeros_from;
        one = rw e (sym (index_kept g h.kept h.base s.kept place) ∙ one);
      } in
      let kept : h.doomed ≡ None = rw unbegun at order.start in
      record { taken = s.taken; kept = s.kept; given = s.given; behind = s.behind; sought = rw (open_, kept) (starts, (λ k le lt. absurd (omega arith)), tt) }

-- no end of the unit that has begun is seen
pub Stands-no_more : (h : Held) (g : List ℕ) (units : List UnitPlace) (start : ℕ) → h.start ≡ Some start → h.refused ≡ None → Stands h g units → ((k : ℕ) → start ≤ k → ¬ CanEnd g h.all k) → IsStream g h.all units None
Stands-no_more h g units start begun open_ s none =
    let sought : HasSought h g (Some start) None = rw (begun, open_) at s.sought in
    record { follow = s.given; behind = inr (rw (← s.behind) (start, sought.0, none)) }

-- the unit that has begun is passed up to a place before which no mark of at most 3 stands
module _ (h : Held) (place : ℕ) (none : (k : ℕ) → h.sought - h.base ≤ k → k < place → ¬ IsMark 3 h.kept k) where
  sought_passed : (g : List ℕ) (start : Option ℕ) (refused : Option Refusal) → IsSome start → refused ≡ None → ((k : ℕ) → h.sought ≤ k → k < h.base + place → ¬ IsMark 1 g k) → HasSought h g start refused → HasSought (record h { sought = h.base + place; clear = h.base + place }) g start refused
  sought_passed g start (Some r) some open_ before s = cc
  sought_passed g None None some open_ before s = cc
  sought_passed g (Some p) None some open_ before s = (s.0, (λ k le lt. ⊎_elim (λ below. s.1 k le below) (λ above. before k above lt) (cases_lt k h.sought)), s.2)

  pub Stands-passed : (g : List ℕ) (units : List UnitPlace) → IsInOrder h → IsSome h.start → h.refused ≡ None → Stands h g units → Stands (record h { sought = h.base + place; clear = h.base + place }) g units
  Stands-passed g units order some open_ s = record {
    taken = s.taken;
    kept = s.kept;
    given = s.given;
    behind = s.behind;
    sought = sought_passed g h.start h.refused some open_
        (λ k low lt m. none (k - h.base) (omega arith) (omega (arith, order.base)) (mark_wider 1 3 h.kept (k - h.base) (omega arith) (mark_kept g h.kept h.base s.kept s.taken 1 k (omega (arith, order.base)) m)))
        s.sought;
  }

-- what stands in order of a unit that has begun
pub has_begun : (h : Held) (o : Option ℕ) (start : ℕ) → o ≡ Some start → IsStarted h o → HasBegun h start
has_begun h None start is begun = cc
has_begun h (Some s) start is begun = let same : s ≡ start = (cc) in let P : ℕ → Type 0 = λ k. HasBegun h k in subst P same begun

-- the end of the unit that has begun
module _ (h : Held) (g : List ℕ) (units : List UnitPlace) (order : IsInOrder h) (start : ℕ) (begun : h.start ≡ Some start) (open_ : h.refused ≡ None) (s : Stands h g units) where
  pub sought_start : StartsAt g h.from start × ((k : ℕ) → start ≤ k → k < h.sought → ¬ IsMark 1 g k) × IsDoomedBy g (h.base + 3) start h.doomed
  sought_start = rw (begun, open_) at s.sought

  in_order : HasBegun h start
  in_order = has_begun h h.start start begun order.start

  -- nothing in what is kept ends the unit
  no_mark : ((k : ℕ) → h.sought - h.base ≤ k → ¬ IsMark 1 h.kept k) → (k : ℕ) → start ≤ k → ¬ IsMark 1 g k
  no_mark none k le m = ⊎_elim
      (λ below. sought_start.1 k le below m)
      (λ above. none (k - h.base) (omega arith) (mark_kept g h.kept h.base s.kept s.taken 1 k (omega (arith, order.base)) m))
      (cases_lt k h.sought)

  pub Stands-no_end : h.all ≡ false → ((k : ℕ) → h.sought - h.base ≤ k → ¬ IsMark 1 h.kept k) → (sought : ℕ) → Stands (record h { sought = sought }) g units × ((k : ℕ) → start ≤ k → ¬ CanEnd g h.all k)
  Stands-no_end more none sought = (
    record {
      taken = s.taken;
      kept = s.kept;
      given = s.given;
      behind = s.behind;
      sought = rw (begun, open_) (sought_start.0, (λ k le _. no_mark none k le), sought_start.2);
    },
    λ k le. ⊎_elim (no_mark none k le) (λ z. false≢true (sym more ∙ z.0)),
  )

  pub ends_at_mark : (end : ℕ) → IsFirstFrom (IsMark 1 h.kept) (h.sought - h.base) end → IsFirstFrom (CanEnd g h.all) start (h.base + end)
  ends_at_mark end first =
      let mark = mark_stream g h.kept h.base s.kept s.taken 1 end first.here in
      let no : (k : ℕ) → start ≤ k → k < h.base + end → ¬ IsMark 1 g k = λ k le lt m. ⊎_elim
      (λ below. sought_start.1 k le below m)
      (λ above. first.before (k - h.base) (omega arith) (omega (arith, order.base)) (mark_kept g h.kept h.base s.kept s.taken 1 k (omega (arith, order.base)) m))
      (cases_lt k h.sought) in
      record {
        order = omega (arith, first.order, in_order.order, order.base);
        here = inl mark;
        before = λ k le lt. ⊎_elim (no k le lt) (λ z. no k le lt (zeros_mark g k (length g) z.1 (omega (arith, mark.within))));
      }

  pub ends_at_zeros : (end : ℕ) → h.all ≡ true → ((k : ℕ) → h.sought - h.base ≤ k → ¬ IsMark 1 h.kept k) → IsFirstFrom (λ k. AreZeros h.kept k (length h.kept)) (h.sought - h.base) end → IsFirstFrom (CanEnd g h.all) start (h.base + end)
  ends_at_zeros end done none first =
      let zeros = zeros_stream g h.kept h.base s.kept s.taken end (length h.kept) first.here in
      let e : h.base + length h.kept ≡ length g = sym s.taken in
      let n : length g - h.base ≡ length h.kept = omega (arith, s.taken) in
      record {
        order = omega (arith, first.order, in_order.order, order.base);
        here = inr (done, rw e at zeros);
        before = λ k le lt. ⊎_elim (no_mark none k le) (λ z. ⊎_elim
            (λ below. sought_start.1 k le below (zeros_mark g k (length g) z.1 (omega (arith, in_order.sought, s.taken))))
            (λ above. first.before (k - h.base) (omega arith) (omega (arith, order.base)) (rw n at (zeros_kept g h.kept h.base s.kept s.taken k (length g) (omega (arith, order.base)) z.1)))
            (cases_lt k h.sought));
      }

  module _ (end : ℕ) (first : IsFirstFrom (CanEnd g h.all) start end) where
    unit_is : IsUnit g h.all h.from (record { start = start; end = end })
    unit_is = record { starts = sought_start.0; ends = first }

    within : end ≤ length g
    within = ⊎_elim (λ m. omega (arith, m.within)) (λ z. z.1.order) first.here

    pub Stands-refused : (r : Refusal) → RefusesUnit (slice_range g start end) start r → Stands (record h { refused = Some r }) g units × IsStream g h.all units (Some r)
    Stands-refused r why =
        let refuses : RefusesNext g h.all h.from r = inr (record { start = start; end = end }, unit_is, why) in (
          record { taken = s.taken; kept = s.kept; given = s.given; behind = s.behind; sought = refuses },
          record { follow = s.given; behind = rw (← s.behind) refuses },
        )

    pub Stands-given : h.doomed ≡ None → IsSound (slice_range h.kept (start - h.base) (end - h.base)) → (span : Span) → span.start ≡ start - h.base → span.end ≡ end - h.base → span.offset ≡ start → Stands (record h { from = end; start = None; sought = end }) g (units ++ place_of span ∷ []) × (unit_bytes g (place_of span) ≡ slice_range h.kept (start - h.base) (end - h.base))
    Stands-given whole sound span a b c =
        let low : h.base ≤ start = (rw whole at in_order.held).0 in
        let same_bytes = slice_kept g h.kept h.base start end s.kept low in
        let n : span.offset + (span.end - span.start) ≡ end = omega (arith, low, first.order) in
        let u : UnitPlace = record { start = start; end = end } in
        let place : place_of span ≡ u = rw (n, c) refl in
        let next : IsUnit g h.all (end_of 0 units) u = rw s.behind at unit_is in
        let P : UnitPlace → Type 0 = λ v. Stands (record h { from = end; start = None; sought = end }) g (units ++ v ∷ []) × (unit_bytes g v ≡ slice_range h.kept (start - h.base) (end - h.base)) in
        subst P (sym place) (
          record {
            taken = s.taken;
            kept = s.kept;
            given = follows_more g h.all 0 units u s.given next (rw same_bytes at sound);
            behind = sym (end_of_more 0 units u);
            sought = rw open_ (record { order = omega arith; within = within; each = λ k le lt. absurd (omega arith) });
          },
          sym same_bytes,
        )
