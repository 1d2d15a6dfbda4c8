-- The line of a NAL unit, as `{"bytes":20,"offset":4,"tid":0,"type":15}`. Our own.
use Rattle.std.specs.Prelude.{ℕ, List, [], ◌∷◌, ◌++◌, codes, decimal}
use Rattle.std.specs.List.{concat}
use Rattle.serde_json.specs.Data.{Data, number, unsigned, object, member, no_members}
use Rattle.vx_annexb.specs.declared.header.NalHeader.{NalHeader}

-- The unit as a JSON object, its keys in byte order.
abbrev pub unit_object : NalHeader → ℕ → ℕ → Data
unit_object header offset bytes =
    object (member (codes "bytes") (number (unsigned bytes))
    (member (codes "offset") (number (unsigned offset))
    (member (codes "tid") (number (unsigned header.temporal_id))
    (member (codes "type") (number (unsigned header.nal_type)) no_members))))

-- The object's text, byte for byte.
abbrev pub unit_json : NalHeader → ℕ → ℕ → List ℕ
unit_json header offset bytes = concat
    (codes "{\"bytes\":" ∷ decimal bytes
    ∷ codes ",\"offset\":" ∷ decimal offset
    ∷ codes ",\"tid\":" ∷ decimal header.temporal_id
    ∷ codes ",\"type\":" ∷ decimal header.nal_type
    ∷ codes "}" ∷ [])

-- The line, with its line feed.
abbrev pub unit_text : NalHeader → ℕ → ℕ → List ℕ
unit_text header offset bytes = unit_json header offset bytes ++ codes "\n"
