-- Generated streams. Our own.
use Rattle.std.specs.Prelude.{ℕ, ◌+◌, ◌*◌, List, ◌∷◌, map}
use Rattle.std.specs.List.{range_with_len}
use Rattle.vx_annexb.specs.Laws.{written}
use Rattle.vx_gen.specs.Units.{pps, slice, sps}

-- The units of source k with `pictures` pictures, whose data is drawn from draw n on: five bytes a picture.
abbrev pub units : (seed n k pictures : ℕ) → List (List ℕ)
units seed n k pictures = sps ∷ pps k ∷ map (λ p. slice seed (n + 5 * p) p) (range_with_len 0 pictures)

-- The bytes of source k, if as many pictures of each source before it were drawn.
abbrev pub stream : (seed pictures k : ℕ) → List ℕ
stream seed pictures k = written (units seed (5 * (k * pictures)) k pictures)

-- The streams of the sources.
abbrev pub generated : (seed sources pictures : ℕ) → List (List ℕ)
generated seed sources pictures = map (stream seed pictures) (range_with_len 0 sources)
