-- The line of a picture, as `{"clvss":true,"picture":0,"poc":0,"slices":1,"subpictures":1}`. Our own.
use Rattle.std.specs.Prelude.{ℕ, Bool, true, false, List, [], ◌∷◌, ◌++◌, length, codes, decimal}
use Rattle.std.specs.Fmt.{signed_decimal}
use Rattle.std.specs.List.{concat}
use Rattle.serde_json.specs.Data.{Data, boolean, number, unsigned, object, member, no_members}
use Rattle.serde_json.specs.Find.{of_integer}
use Rattle.vx_sps.specs.Subpictures.{subpics_of}
use Rattle.vx_pic.specs.Parts.{Parts}
use Rattle.vx_report.specs.declared.picture.PictureNumbers.{PictureNumbers}

-- The numbers shown of a picture after `before` others.
abbrev pub picture_numbers : ℕ → Parts → PictureNumbers
picture_numbers before p = record {
  picture = before;
  clvss = p.kind.clvss;
  poc = p.kind.poc;
  slices = length p.slices;
  subpictures = subpics_of p.sps;
}

-- The picture as a JSON object, its keys in byte order.
abbrev pub picture_object : PictureNumbers → Data
picture_object p =
    object (member (codes "clvss") (boolean p.clvss)
    (member (codes "picture") (number (unsigned p.picture))
    (member (codes "poc") (number (of_integer p.poc))
    (member (codes "slices") (number (unsigned p.slices))
    (member (codes "subpictures") (number (unsigned p.subpictures)) no_members)))))

abbrev pub truth : Bool → List ℕ
truth true = codes "true"
truth false = codes "false"

-- The object's text, byte for byte.
abbrev pub picture_json : PictureNumbers → List ℕ
picture_json p = concat
    (codes "{\"clvss\":" ∷ truth p.clvss
    ∷ codes ",\"picture\":" ∷ decimal p.picture
    ∷ codes ",\"poc\":" ∷ signed_decimal p.poc
    ∷ codes ",\"slices\":" ∷ decimal p.slices
    ∷ codes ",\"subpictures\":" ∷ decimal p.subpictures
    ∷ codes "}" ∷ [])

-- The line, with its line feed.
abbrev pub picture_text : PictureNumbers → List ℕ
picture_text p = picture_json p ++ codes "\n"
