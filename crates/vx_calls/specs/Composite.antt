-- A structure: a table, a part in direct style, and a table; and claims on it. Our own.
use Rattle.std.specs.Prelude.{◌≡◌, ℕ, ℤ, ◌+◌, ◌-◌, zero, suc, Bool, true, false, List, [], ◌∷◌, ◌++◌, slice_index}
use Rattle.vx_bits.specs.declared.list.Item.{Item}
use Rattle.vx_table.specs.declared.rows.Coding.TheVariants.{Golomb}
use Rattle.vx_table.specs.declared.rows.Fault.TheVariants.{OutOfRange}
use Rattle.vx_table.specs.declared.rows.Limits.TheVariants.{Below}
use Rattle.vx_table.specs.declared.rows.Cell.{Cell}
use Rattle.vx_table.specs.declared.rows.Row.{Row}
use Rattle.vx_table.specs.Scope.{fresh, natural}
use Rattle.vx_table.specs.Forms.{Form, done, field, ◌>>=◌, form_of}
use Rattle.vx_table.specs.Spelling.{items_along}
use Rattle.vx_table.specs.Values.{Follows}
use Rattle.vx_table.specs.Depends.{DependsOnlyOn}
use Rattle.vx_table.specs.Claims.{table_depends, behind_table}
use Rattle.vx_table.specs.Shown.{shown_items}
use Rattle.vx_table.specs.Rewritten.{IsRewritten}
use Rattle.vx_table.specs.Rewrites.{Takes}

-- n shares of what is left of a total, each at least 1 and coded minus 1: no table can state the range of one.
abbrev pub share : ℕ → Cell ℕ
share left = record { field = 33; kept = true; coding = Golomb; limits = Below left OutOfRange }

abbrev pub one_share : ℕ → Form ℕ
one_share left = field (share left) (λ v. done (left - (natural v + 1)))

abbrev pub shares : List ℕ → ℕ → ℕ → Form (List ℕ)
shares s zero left = done s
shares s (suc more) left = one_share left >>= shares s more

-- Field 30 says how many, and field 31 the total.
abbrev pub shares_of : List ℕ → Form (List ℕ)
shares_of s = shares s (slice_index s 30) (slice_index s 31)

unfoldable pub composite : List Row → List Row → List ℕ → Form (List ℕ)
composite front behind s = form_of front s >>= λ t. shares_of t >>= form_of behind

-- All its fields depend on nothing.
abbrev pub CompositeDepends : List Row → List Row → Type 0
CompositeDepends front behind = DependsOnlyOn [] (30 ∷ 31 ∷ 32 ∷ 33 ∷ 34 ∷ 35 ∷ 36 ∷ []) (composite front behind)

-- Wrong claims: the table after it reads 32, and 30, which aren't known if they aren't shown.
abbrev pub is_claimed : List ℕ → List Row → List Row → Bool
is_claimed shown front behind = table_depends shown (behind_table shown [] front) behind

abbrev pub WrongClaimsFail : List Row → List Row → Type 0
WrongClaimsFail front behind = (is_claimed (30 ∷ 31 ∷ 33 ∷ 34 ∷ 35 ∷ 36 ∷ []) front behind ≡ false)
    × (is_claimed (31 ∷ 32 ∷ 33 ∷ 34 ∷ 35 ∷ 36 ∷ []) front behind ≡ false)

-- The fields of the two tables.
abbrev pub of_tables : List ℕ
of_tables = 30 ∷ 31 ∷ 32 ∷ 34 ∷ 35 ∷ 36 ∷ []

-- with other shares that fit the number and the total of a value, there is a rewritten one
abbrev pub CompositeIsRewritten : List Row → List Row → Type 0
CompositeIsRewritten front behind = (mid end : List ℕ) (first values : List ℤ) (here : List Item) → Follows (form_of front fresh) first mid
    → Follows (shares_of mid >>= form_of behind) values end
    → ((t : List ℕ) → slice_index mid 30 ≡ slice_index t 30 → slice_index mid 31 ≡ slice_index t 31 → Takes (shares_of t) here)
    → (items : List Item)
    × IsRewritten (composite front behind fresh) of_tables
    (shown_items of_tables (items_along (composite front behind fresh) (first ++ values))) here items
