-- A stream of bytes that is cut into segments.
use Rattle.std.proofs.Common.{◌≡◌, ℕ, true, List, [], ◌++◌, Option, Some, None, refl, sym, ◌∙◌, ap, subst}
use Rattle.std.specs.Prelude.{option_map}
use Rattle.std.specs.Option.{option_or}
use Rattle.vx_bits.specs.declared.refusal.Refusal.{Refusal}
use Rattle.vx_annexb.specs.ByteStream.{IsStream, UnitPlace}
use Rattle.vx_annexb.specs.Laws.{StreamIsUnique}
use Rattle.vx_pic.specs.Bytes.{ArePictures, units_at}
use Rattle.vx_pic.specs.Readings.{Picture, Reading, pictures}
use Rattle.vx_pic.specs.Rules.{Readers}
use Rattle.vx_pic.specs.Streams.{StreamReading, all_read, lacks_slice, read_on}
use Rattle.vx_pic.specs.Written.{Rests}
use Rattle.vx_segments.specs.Streams.{BytesJoin, CutIsJoined, PicturesAlike, SegmentIsReadAlike}

-- ---- bytes that end well

neither : {A : Type 0} (a b : Option A) → option_or a b ≡ None → (a ≡ None) × (b ≡ None)
neither None b is = (refl, is)
neither (Some a) b is = absurd (cc)

not_mapped : {A B : Type 0} (f : A → B) (o : Option A) → option_map f o ≡ None → o ≡ None
not_mapped f None is = refl
not_mapped f (Some a) is = absurd (cc)

-- their units, which are all read
record EndsWell (R : Readers) (b : List ℕ) (ps : List Picture) : Type 0 where
  places : List UnitPlace
  stream : IsStream b true places None
  before : List Reading
  read : read_on R [] (units_at b places) ≡ all_read before
  done : ps ≡ pictures before

ends_well : (R : Readers) (b : List ℕ) (ps : List Picture) → ArePictures R b true ps None → EndsWell R b ps
ends_well R b ps are =
    let o : StreamReading = read_on R [] (units_at b are.places) in
    let none = neither o.refusal (option_or are.framing (lacks_slice o.before)) (not_mapped _ _ (sym are.ends)) in
    let framing = neither are.framing (lacks_slice o.before) none.1 in
    record {
      places = are.places;
      stream = subst (λ (f : Option Refusal). IsStream b true are.places f) framing.0 are.stream;
      before = o.before;
      read = ap (λ (r : Option Refusal). let x : StreamReading = record { before = o.before; refusal = r } in x) none.0;
      done = are.done;
    }

pub cut_is_joined : StreamIsUnique → BytesJoin → SegmentIsReadAlike → CutIsJoined
cut_is_joined unique join alike R b c s cut =
    let x = ends_well R b s.before cut.before in
    let y = ends_well R c s.own cut.own in
    let z = ends_well R (b ++ c) s.all cut.all in
    let j = join b c x.places y.places x.stream y.stream in
    let same : j.0 ≡ z.places = (unique (b ++ c) true j.0 z.places None None j.1 z.stream).0 in
    let units : units_at (b ++ c) z.places ≡ units_at b x.places ++ units_at c y.places = ap (units_at (b ++ c)) (sym same) ∙ j.2 in
    let rests = subst (λ (o : StreamReading). Rests o.before) x.read (cut.rests x.places x.stream) in
    let all = ap (read_on R []) (sym units) ∙ z.read in
    let is = alike R (units_at b x.places) (units_at c y.places) x.before y.before z.before x.read rests (cut.goes_on y.places y.stream) y.read all in (
      is.0,
      z.done ∙ (is.1 ∙ ap (λ (l : List Picture). is.0 ++ l) (sym x.done)),
      subst (λ (l : List Picture). PicturesAlike l is.0) (sym y.done) is.2,
    )
