-- What follows from the definition of an SEI RBSP, for any program.
use Rattle.std.specs.Prelude.{◌≡◌, ℕ, ◌≤◌, List, [], ◌∷◌, ◌++◌, All, IsTrue, length}
use Rattle.vx_bits.specs.Codes.{EndsInNoZero}
use Rattle.vx_sei.specs.declared.message.Message.{Message}
use Rattle.vx_sei.specs.Sei.{IsSei, is_carried, spelled_length, Carries}

-- An RBSP is that of one list of messages at most.
abbrev pub SeiIsUnique : Type 0
SeiIsUnique = (rbsp : List ℕ) (ms ns : List Message) → IsSei rbsp ms → IsSei rbsp ns → ms ≡ ns

-- The RBSP of carried messages carries these, and nothing else.
abbrev pub WrittenIsRead : Type 0
WrittenIsRead =
    (rbsp : List ℕ) (ms read : List Message) → All (λ m. IsTrue (is_carried m.kind)) ms → IsSei rbsp ms → Carries rbsp read → read ≡ ms

-- An SEI RBSP ends in 80, and so not in 00.
abbrev pub SeiEndsIn80 : Type 0
SeiEndsIn80 = (rbsp : List ℕ) (ms : List Message) → IsSei rbsp ms → ((front : List ℕ) × (rbsp ≡ front ++ 128 ∷ [])) × EndsInNoZero rbsp

-- What is carried of an RBSP has no more bytes than it.
abbrev pub CarriedIsShorter : Type 0
CarriedIsShorter = (rbsp : List ℕ) (ms : List Message) → Carries rbsp ms → spelled_length ms ≤ length rbsp
