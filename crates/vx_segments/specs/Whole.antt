-- Merges of segments that are read by themselves, one after another, are the merge of the joined streams. Our own.
use Rattle.std.specs.Prelude.{◌≡◌, ℕ, ◌+◌, ◌<◌, ◌≤◌, List, ◌∷◌, ◌++◌, length, map, Option}
use Rattle.std.specs.List.{AllByRecursion, AllZip}
use Rattle.vx_bits.specs.declared.refusal.Refusal.{Refusal}
use Rattle.vx_annexb.specs.ByteStream.{source_limit}
use Rattle.vx_pic.specs.Finished.{AreFinished}
use Rattle.vx_pic.specs.Parts.{Parts}
use Rattle.vx_pic.specs.Readings.{Picture}
use Rattle.vx_pic.specs.Rules.{Readers}
use Rattle.vx_pic.specs.Resident.{units_written}
use Rattle.vx_pic.specs.Written.{Plan}
use Rattle.vx_frame.specs.declared.corner.Corner.{Corner}
use Rattle.vx_merge.specs.Merging.{IsBarred}
use Rattle.vx_segments.specs.Alike.{IsReadAlike}
use Rattle.vx_segments.specs.Streams.{AreReadAlike, IsJoined, MakeRounds, CutStream}
use Rattle.vx_segments.specs.Segments.{AreOneMerge, AreWrittenInTurn, BeginAnew, merge_of}

-- Rounds that are read alike are written alike, unit by unit.
abbrev pub AlikeAreWrittenAlike : Type 0
AlikeAreWrittenAlike =
    (corners : List Corner) (level : Option ℕ) (alone behind : List (List Parts)) (ps : List Plan) → AreReadAlike alone behind
    → AreWrittenInTurn corners level alone ps
    → (qs : List Plan) × AreWrittenInTurn corners level behind qs × (units_written qs ≡ units_written ps)

-- For a segment that begins anew: `first` are the rounds of the segments before it, and its own are `alone` as it is read by itself, and
-- `later` as the joined streams are read. The merge of all are the bytes that were merged before and those of the segment's own merge.
abbrev pub SegmentsAreOneMerge : Type 0
SegmentsAreOneMerge =
    (corners : List Corner) (level : Option ℕ) (first alone later : List (List Parts)) (ps qs : List Plan) → BeginAnew alone
    → AreReadAlike alone later → AreWrittenInTurn corners level first ps → AreWrittenInTurn corners level alone qs
    → length (merge_of ps) + length (merge_of qs) ≤ source_limit
    → (rs : List Plan) × AreOneMerge corners level first later ps rs × (merge_of rs ≡ merge_of qs)

-- If the next round of the segment is barred by itself, then it is barred in the merge of all, after the same bytes.
abbrev pub SegmentIsBarredAlike : Type 0
SegmentIsBarredAlike =
    (corners : List Corner) (level : Option ℕ) (round other : List Parts) (first alone later : List (List Parts)) (ps qs : List Plan)
    (r : Refusal) → BeginAnew (round ∷ alone) → AllZip IsReadAlike round other → AreReadAlike alone later
    → AreWrittenInTurn corners level first ps → AreWrittenInTurn corners level alone qs
    → length (merge_of ps) + length (merge_of qs) ≤ source_limit → IsBarred corners level round qs r
    → (rs : List Plan) × AreOneMerge corners level first later ps rs × (merge_of rs ≡ merge_of qs) × IsBarred corners level other (rs ++ ps) r

-- The rounds of streams begin anew: each stream begins with an IRAP or GDR picture.
abbrev pub StreamsBeginAnew : Type 0
StreamsBeginAnew =
    (R : Readers) (sources : List (List Picture)) (rounds : List (List Parts)) → 0 < length sources → AllByRecursion (AreFinished R) sources
    → MakeRounds sources rounds → BeginAnew rounds

-- What several sources make, as segments and joined: `first` are the rounds of the segments before, and `alone` those of a segment that
-- begins anew, each of these read by itself. Then the rounds of the joined streams are written as the merge of the segments before, and
-- after it that of the segment, byte for byte.
abbrev pub MergesAreOne : Type 0
MergesAreOne =
    (corners : List Corner) (level : Option ℕ) (sources : List CutStream) (first alone : List (List Parts)) (ps qs : List Plan)
    → AllByRecursion IsJoined sources → MakeRounds (map (λ s. s.before) sources) first → MakeRounds (map (λ s. s.own) sources) alone
    → BeginAnew alone → AreWrittenInTurn corners level first ps → AreWrittenInTurn corners level alone qs
    → length (merge_of ps) + length (merge_of qs) ≤ source_limit
    → (rounds : List (List Parts)) × (rs : List Plan) × MakeRounds (map (λ s. s.all) sources) rounds
    × AreWrittenInTurn corners level rounds rs × (merge_of rs ≡ merge_of ps ++ merge_of qs)
