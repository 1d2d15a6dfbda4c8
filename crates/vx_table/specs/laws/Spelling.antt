-- Laws on the spelling of all tables.
use Rattle.std.specs.Prelude.{◌≡◌, ◌↔◌, ◌⊎◌, ℕ, ℤ, ◌+◌, ◌-◌, ◌≤◌, Bool, List, ◌++◌, length}
use Rattle.vx_bits.specs.declared.list.Item.{Item}
use Rattle.vx_bits.specs.declared.refusal.Refusal.{Refusal}
use Rattle.vx_table.specs.declared.rows.Cell.{Cell}
use Rattle.vx_table.specs.Forms.{Form, ◌>>=◌}
use Rattle.vx_table.specs.Spelling.{Spells, Reaches, IsRefusedField, items_along}
use Rattle.vx_table.specs.Values.{Follows, Parted, ComesTo, bits_along, Closes}

-- Bits that begin with spellings of two lists of values begin with one: the lists are the same.
abbrev pub ReadsOneWay : Type 0
ReadsOneWay = (form : Form (List ℕ)) (total : ℕ) (v w : List ℤ) (left r s : List Bool)
    → Spells total form v left r → Spells total form w left s → (v ≡ w) × (r ≡ s)

-- Bits that are refused aren't spelled, and are refused at one field, after one prefix, in one way.
abbrev pub AnswersOneWay : Type 0
AnswersOneWay = (form : Form (List ℕ)) (total : ℕ) (v w : List ℤ) (left r s : List Bool) (cell : Cell ℕ) (refusal : Refusal)
    → Reaches total form v left cell r → IsRefusedField cell total r refusal
    → (Spells total form w left s → ⊥)
    × ((next : Cell ℕ) (other : Refusal) → Reaches total form w left next s → IsRefusedField next total s other
    → (v ≡ w) × (r ≡ s) × (cell ≡ next) × (refusal ≡ other))

-- All bits begin with the spelling of some values, or the field after a prefix of them is refused.
abbrev pub AnswersAlways : Type 0
AnswersAlways = (form : Form (List ℕ)) (total : ℕ) (left : List Bool)
    → ((values : List ℤ) × (rest : List Bool) × Spells total form values left rest)
    ⊎ ((values : List ℤ) × (cell : Cell ℕ) × (rest : List Bool) × (refusal : Refusal) × Reaches total form values left cell rest
    × IsRefusedField cell total rest refusal)

-- Bits spell values exactly if the values follow the form and the bits are their codes, one after another.
abbrev pub SpellsBothWays : Type 0
SpellsBothWays = (form : Form (List ℕ)) (total : ℕ) (values : List ℤ) (left rest : List Bool) → length left ≤ total
    → Spells total form values left rest
    ↔ ((end : List ℕ) × Follows form values end × (left ≡ bits_along form (total - length left) values ++ rest)
    × Closes form (total - length left) values rest)

-- They reach a field exactly if the values go along the form up to it and the bits are their codes.
abbrev pub ReachesBothWays : Type 0
ReachesBothWays = (form : Form (List ℕ)) (total : ℕ) (values : List ℤ) (left rest : List Bool) (cell : Cell ℕ) → length left ≤ total
    → Reaches total form values left cell rest
    ↔ (ComesTo form values cell × (left ≡ bits_along form (total - length left) values ++ rest)
    × Closes form (total - length left) values rest)

-- Values that follow the form are read back from their spelling, at every place and whatever follows that may follow.
abbrev pub ReadsBack : Type 0
ReadsBack = (form : Form (List ℕ)) (place : ℕ) (values : List ℤ) (end : List ℕ) (rest : List Bool) → Follows form values end
    → Closes form place values rest
    → Spells (place + length (bits_along form place values ++ rest)) form values (bits_along form place values ++ rest) rest

-- If two lists of bits begin with spellings of values and are equal, then the values are equal; so no spelling is a proper prefix
-- of another.
abbrev pub SpellsApart : Type 0
SpellsApart = (form : Form (List ℕ)) (place : ℕ) (v w : List ℤ) (a b : List ℕ) (r s : List Bool) → Follows form v a → Follows form w b
    → bits_along form place v ++ r ≡ bits_along form place w ++ s → (v ≡ w) × (r ≡ s) × (a ≡ b)

-- If two lists of items begin with those of values and are equal, then the values are equal.
abbrev pub ItemsApart : Type 0
ItemsApart = (form : Form (List ℕ)) (v w : List ℤ) (a b : List ℕ) (r s : List Item) → Follows form v a → Follows form w b
    → items_along form v ++ r ≡ items_along form w ++ s → (v ≡ w) × (r ≡ s) × (a ≡ b)

-- Values follow one structure after another exactly if they part between the two.
abbrev pub FollowsTogether : Type 0
FollowsTogether = (form : Form (List ℕ)) (next : List ℕ → Form (List ℕ)) (values : List ℤ) (end : List ℕ)
    → Follows (form >>= next) values end ↔ Parted form next values end

-- Their items come one after another,
abbrev pub ItemsTogether : Type 0
ItemsTogether = (form : Form (List ℕ)) (next : List ℕ → Form (List ℕ)) (v w : List ℤ) (mid : List ℕ) → Follows form v mid
    → items_along (form >>= next) (v ++ w) ≡ items_along form v ++ items_along (next mid) w

-- and so do their bits, the latter from the place on where the former end.
abbrev pub BitsTogether : Type 0
BitsTogether = (form : Form (List ℕ)) (next : List ℕ → Form (List ℕ)) (place : ℕ) (v w : List ℤ) (mid : List ℕ) → Follows form v mid
    → bits_along (form >>= next) place (v ++ w)
    ≡ bits_along form place v ++ bits_along (next mid) (place + length (bits_along form place v)) w

-- Bits spell values of the two, parted in this way, exactly if they spell those of the first and after them those of the next.
abbrev pub SpellsTogether : Type 0
SpellsTogether = (form : Form (List ℕ)) (next : List ℕ → Form (List ℕ)) (total : ℕ) (v w : List ℤ) (mid : List ℕ) (left rest : List Bool)
    → Follows form v mid
    → Spells total (form >>= next) (v ++ w) left rest
    ↔ ((between : List Bool) × Spells total form v left between × Spells total (next mid) w between rest)
