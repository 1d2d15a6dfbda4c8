-- The pictures of bytes: there are some, and no others, and those that are seen stay.
use Rattle.std.specs.Prelude.{true, None}
use Rattle.std.proofs.Common.{◌≡◌, [], ◌++◌, refl, sym, ◌∙◌, ap}
use Rattle.std.proofs.lemmas.List.{map-append}
use Rattle.vx_annexb.specs.ByteStream.{unit_bytes}
use Rattle.vx_annexb.proofs.Unique.{stream_unique, stream_goes_on}
use Rattle.vx_annexb.proofs.Exists.{stream_exists}
use Rattle.vx_annexb.proofs.Unseen.{seen_stays}
use Rattle.vx_annexb.proofs.Written.{written_is_stream}
use Rattle.vx_pic.specs.Readings.{pictures}
use Rattle.vx_pic.specs.Streams.{read_on, pictures_of}
use Rattle.vx_pic.specs.Bytes.{ending_by, units_at}
use Rattle.vx_pic.specs.laws.Pictures.{PicturesAreUnique, PicturesExist, SeenPicturesStay, WrittenHasPictures}
use Rattle.vx_pic.proofs.Going.{pictures_stay}

pub pictures_unique : PicturesAreUnique
pictures_unique R b all ps qs e f is other =
    let same = stream_unique b all is.places other.places is.framing other.framing is.stream other.stream in (
      is.done ∙ ap (λ places. pictures (read_on R [] (units_at b places)).before) same.0 ∙ sym other.done,
      is.ends
          ∙ ap (λ places. ending_by all is.framing (read_on R [] (units_at b places))) same.0
          ∙ ap (λ framing. ending_by all framing (read_on R [] (units_at b other.places))) same.1
          ∙ sym other.ends,
    )

pub pictures_exist : PicturesExist
pictures_exist R b all =
    let s = stream_exists b all in
    let o = read_on R [] (units_at b s.0) in
    (pictures o.before, ending_by all s.1 o, record { places = s.0; framing = s.1; stream = s.2; done = refl; ends = refl })

pub seen_pictures_stay : SeenPicturesStay
seen_pictures_stay R b more all ps qs e seen is =
    let s = seen.1 in
    let went = stream_goes_on b more all s.places is.places s.framing is.framing s.stream is.stream in
    let later = went.0.0 in
    let kept : units_at (b ++ more) s.places ≡ units_at b s.places = (seen_stays b more all 0 s.places s.stream.follow).1 in
    let units : units_at (b ++ more) is.places ≡ units_at b s.places ++ units_at (b ++ more) later =
    ap (units_at (b ++ more)) went.0.1 ∙ map-append (unit_bytes (b ++ more)) s.places later ∙ ap (λ us. us ++ units_at (b ++ more) later) kept in
    let stay = pictures_stay R (units_at b s.places) (units_at (b ++ more) later) in
    (stay.0, is.done ∙ ap (pictures_of R) units ∙ stay.1 ∙ ap (λ ps. stay.0 ++ ps) (sym s.done))

pub written_has_pictures : WrittenHasPictures
written_has_pictures R units stand =
    let s = written_is_stream units stand in
    record {
      places = s.0;
      framing = None;
      stream = s.1;
      done = ap (pictures_of R) (sym s.2);
      ends = ap (λ us. ending_by true None (read_on R [] us)) (sym s.2);
    }
