-- Arguments and streams in the memory of a caller in C. Our own.
use Rattle.std.specs.Prelude.{◌≡◌, ◌≢◌, ◌⊎◌, ◌==◌, ℕ, All, List, [], ◌++◌, map, length}
use Rattle.std.specs.List.{concat, slice_split, sum}
use Rattle.std.specs.Str.{IsUtf8}
use Rattle.vx_run.specs.Grammar.{IsUnderstood, NamesFiles}
use Rattle.vx_run.specs.declared.stop.Stop.{Stop}
use Rattle.vx_run.specs.Conclusion.{status_of, line_of}

-- The arguments of a text, separated by line feeds.
abbrev pub words_in : List ℕ → List (List ℕ)
words_in text = slice_split (λ byte. byte == 10) text

-- These streams, of these sizes, are the bytes, one after another.
pub record AreStreams (bytes : List ℕ) (sizes : List ℕ) (streams : List (List ℕ)) : Type 0 where
  pub joined : concat streams ≡ bytes
  pub lengths : map length streams ≡ sizes

-- Why arguments aren't run over streams: they aren't valid UTF-8, or not understood; the streams aren't as many as the arguments name, or
-- their lengths don't add up to all of the bytes.
pub data IsMisused (text bytes sizes : List ℕ) : Type 0 where
  no_text : ¬ All IsUtf8 (words_in text) → IsMisused text bytes sizes
  not_understood : ¬ IsUnderstood (words_in text) → IsMisused text bytes sizes
  unlike_files : ¬ NamesFiles (words_in text) (length sizes) → IsMisused text bytes sizes
  unlike_sizes : sum sizes ≢ length bytes → IsMisused text bytes sizes

-- Bytes that a line begins with.
abbrev pub IsFrontOf : List ℕ → List ℕ → Type 0
IsFrontOf line front = (rest : List ℕ) × (line ≡ front ++ rest)

-- The line for a status: none if all is done; otherwise the line of a stop that has this status, or a prefix of it.
abbrev pub TellsWhy : ℕ → List ℕ → Type 0
TellsWhy status told = ((status ≡ 0) × (told ≡ [])) ⊎ ((stop : Stop) × (status ≡ status_of stop) × IsFrontOf (line_of stop) told)
