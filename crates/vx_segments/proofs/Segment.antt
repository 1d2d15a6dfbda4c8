-- The pictures of a segment are read behind others as they are read alone.
use Rattle.std.proofs.Common.{◌≡◌, ℕ, ℤ, ◌+◌, Bool, false, List, [], ◌∷◌, ◌++◌, map, Option, Some, None, refl, sym, ◌∙◌, ap, subst, inl, inr, not}
use Rattle.std.specs.Prelude.{is_none}
use Rattle.std.specs.List.{AllByRecursion, AllZip}
use Rattle.std.proofs.lemmas.Bool.{cases_lt, le-ltb, lt-ltb, true≢false}
use Rattle.vx_aps.specs.declared.aps.Aps.{Aps}
use Rattle.vx_aps.specs.declared.aps.TheConstants.{SCALING}
use Rattle.vx_sei.specs.declared.message.Message.{Message}
use Rattle.vx_pic.specs.declared.kind.Kind.{Kind}
use Rattle.vx_pic.specs.Finished.{AreFinished, IsSoundPicture, PicturesAreFinished}
use Rattle.vx_pic.specs.Parts.{Parts, aps_at, id_count, parts_of, slice_part, stored_sets}
use Rattle.vx_pic.specs.PictureLayout.{ids_of}
use Rattle.vx_pic.specs.Readings.{Begun, Current, Picture, Reading, Slice, current, gathered, going, headed, is_open, nothing, pictures, stored_aps}
use Rattle.vx_pic.specs.Rules.{Readers}
use Rattle.vx_pic.specs.Sets.{Slot, filter_items, named_filters, names_of}
use Rattle.vx_pic.specs.Streams.{StreamReading, all_read, read_on, unless_refused}
use Rattle.vx_pic.specs.UnderSets.{picture_header_of}
use Rattle.vx_pic.specs.Written.{AreInForce, Rests}
use Rattle.vx_pic.proofs.Going.{goes_on}
use Rattle.vx_extract.proofs.KeptBodies.{at_place}
use Rattle.vx_segments.specs.Alike.{HaveAlike, IsReadAlike, header_names, slice_names}
use Rattle.vx_segments.specs.Streams.{HaveNoEnd, JoinedRests, PicturesAlike, SegmentIsReadAlike}
use Rattle.vx_segments.proofs.Behind.{CurrentAgain, PictureAgain, Stands, aps_kept, gathered_behind, nothing_read, whole_again}
use Rattle.vx_segments.proofs.Reading.{units_again}

-- ---- a picture

-- a kind that is another but for two things is so with its own
own_kind : (k j : Kind) (clvss : Bool) (poc : ℤ) → k ≡ record j { clvss = clvss; poc = poc } → k ≡ record j { clvss = k.clvss; poc = k.poc }
own_kind k j clvss poc is =
    let first : clvss ≡ k.clvss = sym (ap (λ (x : Kind). x.clvss) is) in
    let second : poc ≡ k.poc = sym (ap (λ (x : Kind). x.poc) is) in
    is ∙ (ap (λ b. let o : Kind = record j { clvss = b; poc = poc } in o) first ∙ ap (λ n. let o : Kind = record j { clvss = k.clvss; poc = n } in o) second)

abbrev parts_by : Kind → Begun → List Slice → List (Option Aps) → List Message → Parts
parts_by k b slices bodies messages = record {
  kind = k;
  sps = b.sps;
  pps = b.pps;
  layout = b.layout;
  header = picture_header_of b;
  ids = ids_of b.sps b.pps;
  unit = b.unit;
  slices = map (slice_part b) slices;
  bodies = bodies;
  messages = messages;
}

in_front : (before : List Reading) (xs ys : List Slot) → AreInForce before (xs ++ ys) → AreInForce before xs
in_front before [] ys all = tt
in_front before (x ∷ xs) ys all = (all.0, in_front before xs ys all.1)

in_back : (before : List Reading) (xs ys : List Slot) → AreInForce before (xs ++ ys) → AreInForce before ys
in_back before [] ys all = all
in_back before (x ∷ xs) ys all = in_back before xs ys all.1

module _ (before : List Reading) (p q : Picture) (is : PictureAgain before p q) where
  -- a set in force is the same one
  one_same : (kind id : ℕ) → is_none (stored_aps kind id p.before) ≡ false → aps_at (stored_sets p.before) kind id ≡ aps_at (stored_sets q.before) kind id
  one_same kind id there = elim (cases_lt kind (SCALING + 1)) [
    | inr past ↦ rw (le-ltb kind (SCALING + 1) past) refl
    | inl known ↦ elim (cases_lt id id_count) [
      | inr past ↦ rw (lt-ltb kind (SCALING + 1) known, le-ltb id id_count past) refl
      | inl low ↦ at_place p.before kind id known low ∙ (stored (stored_aps kind id p.before) refl there ∙ sym (at_place q.before kind id known low))
    ]
  ]
    where
      stored : (o : Option Aps) → o ≡ stored_aps kind id p.before → is_none o ≡ false → stored_aps kind id p.before ≡ stored_aps kind id q.before
      stored None same none = absurd (true≢false none)
      stored (Some a) same some = sym same ∙ sym (aps_kept before p.before q.before kind id a is.behind (sym same))

  all_same : (slots : List Slot) → AreInForce p.before slots → HaveAlike (parts_of p) (parts_of q) slots
  all_same [] all = tt
  all_same (slot ∷ slots) all = (one_same slot.kind slot.id all.0, all_same slots all.1)

  -- what a slice names
  abbrev Names : Slice → Type 0
  Names s = AreInForce p.before (names_of p.begun.pps p.begun.header s.header)

  filters_alike : (s : Slice) → Names s → HaveAlike (parts_of p) (parts_of q) (slice_names (parts_of p) (slice_part p.begun s))
  unfolding names_of
  filters_alike s names = all_same _ (in_front p.before (named_filters (filter_items p.begun.pps p.begun.header s.header)) _ names)

  header_alike : (s : Slice) → Names s → HaveAlike (parts_of p) (parts_of q) (header_names (parts_of p))
  unfolding names_of
  header_alike s names = all_same _ (in_back p.before (named_filters (filter_items p.begun.pps p.begun.header s.header)) _ names)

  slices_alike : (slices : List Slice) → AllByRecursion Names slices
      → AllByRecursion (λ s. HaveAlike (parts_of p) (parts_of q) (slice_names (parts_of p) s)) (map (slice_part p.begun) slices)
  slices_alike [] all = tt
  slices_alike (s ∷ slices) all = (filters_alike s all.0, slices_alike slices all.1)

  parts_same : gathered before ≡ []
      → parts_of q ≡ record (parts_of p) { kind = record p.kind { clvss = q.kind.clvss; poc = q.kind.poc }; bodies = stored_sets q.before }
  parts_same none =
      let sets = stored_sets q.before in
      let messages = gathered q.before in
      ap (λ b. parts_by q.kind b q.slices sets messages) is.begun
      ∙ (ap (λ l. parts_by q.kind p.begun l sets messages) is.slices
      ∙ (ap (λ m. parts_by q.kind p.begun p.slices sets m) (gathered_behind before p.before q.before none is.behind)
      ∙ ap (λ k. parts_by k p.begun p.slices sets (gathered p.before)) (own_kind q.kind p.kind is.clvss is.poc is.kind)))

  picture_alike : (R : Readers) (earlier : List Picture) → gathered before ≡ [] → IsSoundPicture R earlier p → IsReadAlike (parts_of p) (parts_of q)
  picture_alike R earlier none sound =
      let names = subst (AllByRecursion Names) sound.slices sound.bodies in
      record { same = parts_same none; header = header_alike sound.first names.0; slices = slices_alike p.slices sound.bodies }

pictures_alike : (R : Readers) (before : List Reading) (ps qs : List Picture) → gathered before ≡ [] → AreFinished R ps → AllZip (PictureAgain before) ps qs
    → PicturesAlike ps qs
pictures_alike R before [] [] none finished each = tt
pictures_alike R before [] (q ∷ qs) none finished each = absurd each
pictures_alike R before (p ∷ ps) [] none finished each = absurd each
pictures_alike R before (p ∷ ps) (q ∷ qs) none finished each =
    (picture_alike before p q each.0 R ps none finished.0, pictures_alike R before ps qs none finished.2 each.1)

-- ---- the segment

module _ (R : Readers) (first later : List (List ℕ)) (before own all : List Reading) (one : read_on R [] first ≡ all_read before) (rests : Rests before)
    (none : HaveNoEnd later) (is : read_on R [] later ≡ all_read own) (are : read_on R [] (first ++ later) ≡ all_read all) where
  stands : Stands before own all
  stands =
      let on : read_on R [] (first ++ later) ≡ read_on R before later
      = goes_on R [] first later ∙ ap (λ (o : StreamReading). unless_refused o.refusal o.before (λ after. read_on R after later)) one in
      units_again R before later [] before own all (nothing_read before rests) none is (sym on ∙ are)

closed_again : (before : List Reading) (c d : Current) → CurrentAgain before c d → is_open c ≡ false → is_open d ≡ false
closed_again before nothing d same closed = same
closed_again before (headed b) d same closed = absurd (true≢false closed)
closed_again before (going p) d same closed = ap is_open same.1 ∙ (ap not (whole_again before p same.0 same.2) ∙ closed)

pub joined_rests : JoinedRests
joined_rests R first later before own all one rests none is are rest =
    let it = stands R first later before own all one rests none is are in
    record {
      closed = closed_again before (current own) (current all) it.current rest.closed;
      goes_on = it.still;
      none = gathered_behind before own all rests.none it.behind ∙ rest.none;
    }

pub segment_is_read_alike : PicturesAreFinished → SegmentIsReadAlike
segment_is_read_alike finished R first later before own all one rests none is are =
    let it = stands R first later before own all one rests none is are in
    let sound : AreFinished R (pictures own) = subst (λ (o : StreamReading). AreFinished R (pictures o.before)) is (finished R later) in
    (it.pictures.qs, it.pictures.are, pictures_alike R before (pictures own) it.pictures.qs rests.none sound it.pictures.each)
