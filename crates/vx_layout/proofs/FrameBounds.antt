-- The members of bounds that are cut to a region, and a region that has bounds of its own.
use Rattle.std.proofs.Common.{◌≡◌, ℕ, ◌+◌, ◌-◌, ◌<◌, ◌≤◌, Bool, true, ◌&&◌, ltb, List, [], ◌∷◌, ◌++◌, get_or, filter, map, ap, sym, ◌∙◌, subst, inl, inr, arith, ◌⊎◌}
use Rattle.std.proofs.lemmas.Bool.{and_from, and_parts, both_ways, cases_Bool, cases_lt, ltb-true, lt-ltb}
use Rattle.std.proofs.lemmas.List.{get_or-map, length-map}
use Rattle.std.proofs.lemmas.List.Elements.{All-contains, All-contains_itself, All-filter, All-map, Contains-append_cases, Contains-append_left, filter_passes}
use Rattle.std.specs.List.{Contains}
use Rattle.vx_layout.specs.Borders.{SameInside}
use Rattle.vx_layout.specs.Bounds.{Rises, last}
use Rattle.vx_layout.specs.Regions.{cut_bounds, inner}
use Rattle.vx_layout.proofs.Members.{Rises-members}
use Rattle.vx_layout.proofs.Moving.{Rises-cut, cut_first, cut_last}
use Rattle.vx_layout.proofs.Rising.{Contains-first, Contains-last, Contains-le-last}
use Rattle.vx_layout.proofs.Splitting.{Contains-cases, Contains-cons}

Contains-kept : (p : ℕ → Bool) (bs : List ℕ) (c : ℕ) → Contains bs c → p c ≡ true → Contains (filter p bs) c
Contains-kept p [] c inside on = inside
Contains-kept p (b ∷ bs) c inside on =
    elim (cases_Bool (p b)) [
      | inl here ↦ rw here (elim (Contains-cases b bs c inside) [ inl e ↦ (0, omega arith, e) | inr later ↦ Contains-cons b (filter p bs) c (Contains-kept p bs c later on) ])
      | inr off ↦ rw off (elim (Contains-cases b bs c inside) [ inl e ↦ absurd (both_ways _ off (subst (λ m. p m ≡ true) (sym e) on)) | inr later ↦ Contains-kept p bs c later on ])
    ]

Contains-image : {X Y : Type 0} (f : X → Y) (xs : List X) (x : X) → Contains xs x → Contains (map f xs) (f x)
Contains-image f xs x (k, short, is) = (k, omega (arith, length-map xs f), get_or-map f xs k x (f x) short ∙ ap f is)

-- a bound strictly inside, counted from the first column or row
inner_tells : (bounds : List ℕ) (from size n : ℕ) → Contains (map (λ b. b - from) (inner bounds from size)) n → Contains bounds (from + n) × (0 < n) × (n < size)
inner_tells bounds from size n inside =
    let test : ℕ → Bool = λ b. ltb from b && ltb b (from + size) in
    let P : ℕ → Type 0 = λ m. Contains bounds (from + m) × (0 < m) × (m < size) in
    let Q : ℕ → Type 0 = λ b. Contains bounds b in
    All-contains P (map (λ b. b - from) (inner bounds from size)) n
    (All-map P (λ b. b - from) (inner bounds from size)
    (λ k d short.
    let b : ℕ = get_or (inner bounds from size) k d in
    let passes = and_parts _ _ (filter_passes test bounds k d short) in
    let above : from < b = ltb-true _ _ passes.0 in
    let below : b < from + size = ltb-true _ _ passes.1 in
    let back : b ≡ from + (b - from) = omega arith in
    (subst (λ m. Contains bounds m) back (All-filter test Q bounds (All-contains_itself bounds) k d short), omega arith, omega arith)))
    inside

inner_from : (bounds : List ℕ) (from size n : ℕ) → Contains bounds (from + n) → 0 < n → n < size → Contains (map (λ b. b - from) (inner bounds from size)) n
inner_from bounds from size n inside some below =
    let back : from + n - from ≡ n = omega arith in
    let above : from < from + n = omega arith in
    let under : from + n < from + size = omega arith in
    subst (λ m. Contains (map (λ b. b - from) (inner bounds from size)) m) back
    (Contains-image (λ b. b - from) (inner bounds from size) (from + n)
    (Contains-kept (λ b. ltb from b && ltb b (from + size)) bounds (from + n) inside (and_from _ _ (lt-ltb _ _ above) (lt-ltb _ _ under))))

-- what the cut bounds are: the first, the last, and those inside
pub cut_tells : (bounds : List ℕ) (from size n : ℕ) → Contains (cut_bounds bounds from size) n → (0 ≡ n) ⊎ ((size ≡ n) ⊎ (Contains bounds (from + n) × (0 < n) × (n < size)))
cut_tells bounds from size n inside =
    let between : List ℕ = map (λ b. b - from) (inner bounds from size) in
    elim (Contains-cases 0 (between ++ size ∷ []) n inside) [
      | inl first ↦ inl first
      | inr later ↦
          elim (Contains-append_cases between (size ∷ []) n later) [
            | inl mid ↦ inr (inr (inner_tells bounds from size n mid))
            | inr final ↦ elim (Contains-cases size [] n final) [ inl end ↦ inr (inl end) | inr none ↦ absurd (omega (arith, none.1)) ]
          ]
    ]

pub cut_inner : (bounds : List ℕ) (from size n : ℕ) → Contains bounds (from + n) → 0 < n → n < size → Contains (cut_bounds bounds from size) n
cut_inner bounds from size n inside above below =
    let between : List ℕ = map (λ b. b - from) (inner bounds from size) in
    Contains-cons 0 (between ++ size ∷ []) n (Contains-append_left between (size ∷ []) n (inner_from bounds from size n inside above below))

-- where the bounds inside a region are its own, so are the cut bounds
pub cut-own : (bounds own : List ℕ) (from : ℕ) → Rises bounds → Rises own → 0 < last own → SameInside bounds from own → cut_bounds bounds from (last own) ≡ own
cut-own bounds own from rises own_rises some same =
    let size : ℕ = last own in
    Rises-members (cut_bounds bounds from size) own (Rises-cut bounds from size rises some) own_rises
    (λ n. (
      λ cut_has.
          elim (cut_tells bounds from size n cut_has) [
            | inl first ↦ subst (λ m. Contains own m) first (Contains-first own own_rises some)
            | inr (inl end) ↦ subst (λ m. Contains own m) end (Contains-last own some)
            | inr (inr is) ↦ (same n is.1 is.2).0 is.0
          ],
      λ own_has.
          let upto : n ≤ size = Contains-le-last own n own_rises own_has in
          elim (cases_lt 0 n) [
            | inr none ↦ let first : 0 ≡ n = omega arith in subst (λ m. Contains (cut_bounds bounds from size) m) first (cut_first bounds from size)
            | inl above ↦
                elim (cases_lt n size) [
                  | inl below ↦ cut_inner bounds from size n ((same n above below).1 own_has) above below
                  | inr past ↦ let end : size ≡ n = omega arith in subst (λ m. Contains (cut_bounds bounds from size) m) end (cut_last bounds from size)
                ]
          ],
    ))
