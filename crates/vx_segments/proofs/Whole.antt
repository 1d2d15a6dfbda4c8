-- Merges of segments that are read alone, one after another, are the merge of all.
use Rattle.std.proofs.Common.{◌≡◌, ℕ, ◌+◌, ◌≤◌, true, List, [], ◌∷◌, ◌++◌, length, sym, ap, subst, ◌∙◌, refl}
use Rattle.std.specs.List.{AllZip}
use Rattle.vx_annexb.specs.ByteStream.{source_limit}
use Rattle.vx_annexb.specs.Laws.{written}
use Rattle.vx_pic.specs.Parts.{Parts}
use Rattle.vx_pic.specs.Units.{is_irap_or_gdr}
use Rattle.vx_frame.specs.Rounds.{picture_at}
use Rattle.vx_segments.specs.Alike.{IsReadAlike}
use Rattle.vx_segments.specs.Segments.{BeginAnew, merge_of}
use Rattle.vx_segments.specs.Streams.{AreReadAlike, RoundsAreReadAlike}
use Rattle.vx_segments.specs.Whole.{MergesAreOne, SegmentIsBarredAlike, SegmentsAreOneMerge}
use Rattle.vx_segments.proofs.Joining.{barred_all, before, segments_join}
use Rattle.vx_segments.proofs.Rounds.{at_same, plainly}
use Rattle.vx_segments.proofs.SameWritten.{barred_elsewhere, written_alike}

-- rounds that are read alike begin anew alike
one_anew : (round other : List Parts) → AllZip IsReadAlike round other → is_irap_or_gdr (picture_at round 0).kind.nal_type ≡ true
    → is_irap_or_gdr (picture_at other 0).kind.nal_type ≡ true
one_anew round other alike is =
    let same = at_same (λ q. q.kind.nal_type) (plainly _ (λ p clvss poc bodies. refl)) round other alike 0 in
    subst (λ t. is_irap_or_gdr t ≡ true) same is

begin_alike : (alone later : List (List Parts)) → AreReadAlike alone later → BeginAnew alone → BeginAnew later
begin_alike [] [] alike begin = tt
begin_alike [] (other ∷ later) alike begin = absurd alike
begin_alike (round ∷ alone) [] alike begin = absurd alike
begin_alike (round ∷ []) (other ∷ []) alike begin = one_anew round other alike.0 begin
begin_alike (round ∷ []) (other ∷ next ∷ later) alike begin = absurd alike.1
begin_alike (round ∷ before ∷ alone) (other ∷ []) alike begin = absurd alike.1
begin_alike (round ∷ before ∷ alone) (other ∷ next ∷ later) alike begin = begin_alike (before ∷ alone) (next ∷ later) alike.1 begin

pub segments_are_one_merge : SegmentsAreOneMerge
segments_are_one_merge corners level first alone later ps qs begin alike are more few =
    let same = written_alike corners level alone later qs alike more in
    let bytes : merge_of same.qs ≡ merge_of qs = ap written same.units in
    let within = subst (λ (b : List ℕ). length (merge_of ps) + length b ≤ source_limit) (sym bytes) few in
    (same.qs, segments_join corners level first later ps same.qs (begin_alike alone later alike begin) are same.are within, bytes)

pub segment_is_barred_alike : SegmentIsBarredAlike
segment_is_barred_alike corners level round other first alone later ps qs r begin alike alikes are more few barred =
    let all = begin_alike (round ∷ alone) (other ∷ later) (alike, alikes) begin in
    let same = written_alike corners level alone later qs alikes more in
    let bytes : merge_of same.qs ≡ merge_of qs = ap written same.units in
    let within = subst (λ (b : List ℕ). length (merge_of ps) + length b ≤ source_limit) (sym bytes) few in
    let here = barred_elsewhere corners level round other alike qs same.qs r same.history same.units barred in (
      same.qs,
      segments_join corners level first later ps same.qs (before other later all) are same.are within,
      bytes,
      barred_all corners level other later ps same.qs all same.are r here,
    )

pub merges_are_one : RoundsAreReadAlike → MergesAreOne
merges_are_one read corners level sources first alone ps qs joined befores owns begin are more few =
    let later = read sources first alone joined befores owns in
    let whole = segments_are_one_merge corners level first alone later.0 ps qs begin later.1 are more few in
    (later.0 ++ first, whole.0 ++ ps, later.2, whole.1.merged, whole.1.bytes ∙ ap (λ (b : List ℕ). merge_of ps ++ b) whole.2)
