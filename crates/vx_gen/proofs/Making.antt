-- How a stream grows by a picture, and the streams by one.
use Rattle.std.proofs.Common.{◌≡◌, ◌≢◌, ℕ, zero, suc, ◌+◌, ◌*◌, ◌/◌, ◌%◌, List, [], ◌∷◌, ◌++◌, ap, refl, ◌∙◌, arith}
use Rattle.std.proofs.lemmas.Grind.{flat_map-append}
use Rattle.std.proofs.lemmas.List.FromFn.{map-range_with_len_more}
use Rattle.vx_annexb.specs.ByteStream.{long_start_code}
use Rattle.vx_annexb.specs.Laws.{written}
use Rattle.vx_gen.specs.Streams.{generated, stream, units}
use Rattle.vx_gen.specs.Units.{pps, slice, slice_front, sps}

-- the front of a slice of a picture that isn't the first
pub trailing_front : (p : ℕ) → p ≢ 0 → 0 ∷ 1 ∷ (136 + p % 16 / 2) ∷ (120 + 128 * (p % 16 % 2)) ∷ [] ≡ slice_front p
trailing_front zero some = absurd (some refl)
trailing_front (suc p) some = refl

-- units that are written behind others
pub written_on : (first more : List (List ℕ)) → written (first ++ more) ≡ written first ++ written more
written_on first more = flat_map-append (λ unit. long_start_code ++ unit) first more

pub picture_more : (seed n k p : ℕ) → written (units seed n k (p + 1)) ≡ written (units seed n k p) ++ written (slice seed (n + 5 * p) p ∷ [])
picture_more seed n k p =
    ap (λ slices. written (sps ∷ pps k ∷ slices)) (map-range_with_len_more (λ p. slice seed (n + 5 * p) p) 0 p p (omega arith))
    ∙ written_on (units seed n k p) (slice seed (n + 5 * p) p ∷ [])

pub stream_more : (seed pictures k : ℕ) → generated seed (k + 1) pictures ≡ generated seed k pictures ++ stream seed pictures k ∷ []
stream_more seed pictures k = map-range_with_len_more (stream seed pictures) 0 k k (omega arith)
