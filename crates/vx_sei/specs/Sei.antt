-- SEI messages and their RBSP (H.266 7.3.2.9, 7.3.6). A message's type and its payload may have any size. The contracts of
-- `read_sei` and `write_sei` rely on it.
use Rattle.std.specs.Prelude.{◌≡◌, ◌⊎◌, ℕ, ◌/◌, ◌%◌, ◌<◌, ◌==◌, ◌||◌, Bool, List, [], ◌∷◌, ◌++◌, filter, flat_map, length, replicate}
use Rattle.vx_sei.specs.declared.message.Message.{Message}

-- A number as bytes FF, each for 255, and a last byte below: payload_type_byte and payload_size_byte (7.3.6).
abbrev pub ff_coded : ℕ → List ℕ
ff_coded n = replicate (n / 255) 255 ++ n % 255 ∷ []

-- sei_message( ): the type, the size of the payload, and the payload (7.3.6).
abbrev pub sei_message : Message → List ℕ
sei_message m = ff_coded m.kind ++ ff_coded (length m.bytes) ++ m.bytes

-- Coded messages, one after another (7.3.2.9).
abbrev pub sei_messages : List Message → List ℕ
sei_messages ms = flat_map sei_message ms

-- sei_rbsp( ): one or more messages, and rbsp_trailing_bits( ), which is the byte 80 at a byte boundary (7.3.2.9).
pub record IsSei (rbsp : List ℕ) (ms : List Message) : Type 0 where
  pub some : 0 < length ms
  pub bytes : rbsp ≡ sei_messages ms ++ 128 ∷ []

-- Mastering display colour volume, content light level, and alternative transfer characteristics (their types are in D.2; that
-- these are copied is our own choice).
abbrev pub is_carried : ℕ → Bool
is_carried kind = kind == 137 || (kind == 144 || kind == 147)

-- The messages that are carried through (our own).
abbrev pub carried : List Message → List Message
carried ms = filter (λ m. is_carried m.kind) ms

-- The number of bytes that messages count against a limit: those of their types, sizes and payloads (our own).
abbrev pub spelled_length : List Message → ℕ
spelled_length ms = length (sei_messages ms)

-- The messages that are copied from an RBSP: none if it is no SEI RBSP (7.3.2.9).
abbrev pub Carries : List ℕ → List Message → Type 0
Carries rbsp ms =
    ((all : List Message) × IsSei rbsp all × (ms ≡ carried all))
    ⊎ (((all : List Message) → ¬ IsSei rbsp all) × (ms ≡ []))
