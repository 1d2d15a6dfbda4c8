-- The latest numbers of fields and names, and the values of a row's formulas at them. Our own, except the meaning of formulas. All
-- definitions of syntax structures rely on it.
use Rattle.std.specs.Prelude.{◌↔◌, ◌≤◌, ℕ, ℤ, pos, negsuc, zero, suc, ◌+◌, ◌-◌, ◌*◌, ◌^◌, min, Bool, cond, not, ◌&&◌, ◌||◌, ◌==◌, nat_lt}
use Rattle.std.specs.Prelude.{nat_le, List, slice_index, [], ◌∷◌, ◌++◌, take, drop, replicate, slice_set}
use Rattle.vx_bits.specs.declared.list.Item.{Item}
use Rattle.std.specs.Int.{div_ceil}
use Rattle.vx_table.specs.declared.rows.Term.{Term}
use Rattle.vx_table.specs.declared.rows.Term.TheVariants.{Number, Latest}
use Rattle.vx_table.specs.declared.rows.Formula.{Formula}
use Rattle.vx_table.specs.declared.rows.Formula.TheVariants.{Plain, Plus, Minus, Times, Quotient, Least, PowerOfTwo, CeilLog2, Equal}
use Rattle.vx_table.specs.declared.rows.Formula.TheVariants.{Differs, Below, AtMost, Both, Either}

-- Numbers are limited to 32 bits, as wide as any field; no sum or product that H.266 needs comes near the last of them.
abbrev pub most : ℕ
most = 4294967295

abbrev pub capped : ℕ → ℕ
capped n = min n most

abbrev pub one_if : Bool → ℕ
one_if holds = cond holds 1 0

abbrev pub is_set : ℕ → Bool
is_set n = not (n == 0)

-- How many of the first k powers of two are below n; for 32 of them this is Ceil(Log2(n)) (clause 5).
unfoldable pub powers_below : ℕ → ℕ → ℕ
powers_below zero n = 0
powers_below (suc k) n = powers_below k n + one_if (nat_lt (2 ^ k) n)

-- So it is the least k for which 2^k isn't below n.
abbrev pub CeilLog2IsLeast : Type 0
CeilLog2IsLeast = (n k : ℕ) → n ≤ 2 ^ 32 → n ≤ 2 ^ k ↔ powers_below 32 n ≤ k

-- The quotient, rounded up; 0 if the divisor is 0 (Ceil, clause 5).
abbrev pub quotient : ℕ → ℕ → ℕ
quotient n d = cond (d == 0) 0 (div_ceil n d)

-- A scope in which no field or name has a number yet: 0 means none.
unfoldable pub fresh : List ℕ
fresh = replicate 1024 0

-- The number of a field or name in a scope.
abbrev pub latest : List ℕ → Term → ℕ
latest scope (Number n) = n
latest scope (Latest of) = slice_index scope of

-- The value of a formula (clause 5).
unfoldable pub value : List ℕ → Formula → ℕ
value s (Plain a) = latest s a
value s (Plus a b) = capped (latest s a + latest s b)
value s (Minus a b) = latest s a - latest s b
value s (Times a b) = capped (latest s a * latest s b)
value s (Quotient a b) = quotient (latest s a) (latest s b)
value s (Least a b) = min (latest s a) (latest s b)
value s (PowerOfTwo a) = cond (nat_lt (latest s a) 32) (2 ^ latest s a) most
value s (CeilLog2 a) = powers_below 32 (latest s a)
value s (Equal a b) = one_if (latest s a == latest s b)
value s (Differs a b) = one_if (not (latest s a == latest s b))
value s (Below a b) = one_if (nat_lt (latest s a) (latest s b))
value s (AtMost a b) = one_if (nat_le (latest s a) (latest s b))
value s (Both a b) = one_if (is_set (latest s a) && is_set (latest s b))
value s (Either a b) = one_if (is_set (latest s a) || is_set (latest s b))

-- The number that formulas see for a field's value: 0 for a negative one, which no formula uses.
unfoldable pub natural : ℤ → ℕ
natural (pos n) = capped n
natural (negsuc n) = 0

-- A scope after the items of another structure.
abbrev pub loaded : List ℕ → List Item → List ℕ
loaded s [] = s
loaded s (item ∷ items) = loaded (slice_set s item.field (natural item.value)) items

-- A scope with the numbers of one below a field or name, and those of another from it on.
abbrev pub joined : ℕ → List ℕ → List ℕ → List ℕ
joined from s t = take from s ++ drop from t
