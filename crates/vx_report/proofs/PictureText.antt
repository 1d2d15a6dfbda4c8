-- The text of a picture's JSON object, by its truth value and the sign of its count.
use Rattle.std.proofs.Common.{◌≡◌, ℤ, pos, negsuc, Bool, true, false, refl}
use Rattle.serde_json.specs.Written.{compact_text, has_float}
use Rattle.serde_json.proofs.OnLiterals.{serde_json_on_literals}
use Rattle.vx_report.specs.declared.picture.PictureNumbers.{PictureNumbers}
use Rattle.vx_report.specs.PictureLine.{picture_object, picture_json}

abbrev HasText : PictureNumbers → Type 0
HasText p = (has_float (picture_object p) ≡ false) × (compact_text (picture_object p) ≡ picture_json p)

by_cases : (p : PictureNumbers) (clvss : Bool) (poc : ℤ) → p.clvss ≡ clvss → p.poc ≡ poc → HasText p
unfolding serde_json_on_literals
by_cases p true (pos n) first count = (rw count refl, rw (first, count) refl)
by_cases p true (negsuc n) first count = (rw count refl, rw (first, count) refl)
by_cases p false (pos n) first count = (rw count refl, rw (first, count) refl)
by_cases p false (negsuc n) first count = (rw count refl, rw (first, count) refl)

-- it has no float, and its text is that of a picture
pub has_text : (p : PictureNumbers) → HasText p
has_text p = by_cases p p.clvss p.poc refl refl
