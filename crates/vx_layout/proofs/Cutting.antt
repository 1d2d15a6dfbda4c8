-- Bounds cut to some columns or rows.
use Rattle.std.proofs.Common.{◌≡◌, ℕ, ◌+◌, ◌-◌, ◌<◌, ◌≤◌, Bool, true, false, cond, ◌&&◌, ltb, List, [], ◌∷◌, ◌++◌, length, get_or, take, map, refl, ap, sym, ◌∙◌, arith, append-nil}
use Rattle.std.proofs.lemmas.Bool.{ltb-true, and_parts}
use Rattle.std.proofs.lemmas.List.{map-append, take_all}
use Rattle.std.proofs.lemmas.List.Elements.{filter_more}
use Rattle.vx_layout.specs.Bounds.{Rises, last}
use Rattle.vx_layout.specs.Regions.{inner, cut_bounds}
use Rattle.vx_layout.proofs.Rising.{Rises-apart}
use Rattle.vx_layout.proofs.Tiling.{Rises-push, last_after-push}

-- the first i bounds, cut
pub record CutSoFar (bounds : List ℕ) (from size : ℕ) (out : List ℕ) (i : ℕ) : Type 0 where
  pub cut_are : out ≡ 0 ∷ map (λ b. b - from) (inner (take i bounds) from size)
  pub rises : Rises out
  pub room : last out < size
  pub ahead : (j : ℕ) → i ≤ j → j < length bounds → from < get_or bounds j 0 → last out + from < get_or bounds j 0

inner-more : (bounds : List ℕ) (from size i : ℕ) → i < length bounds → inner (take (i + 1) bounds) from size ≡ inner (take i bounds) from size ++ cond (ltb from (get_or bounds i 0) && ltb (get_or bounds i 0) (from + size)) (get_or bounds i 0 ∷ []) []
inner-more bounds from size i short = filter_more (λ b. ltb from b && ltb b (from + size)) bounds i 0 short

pub CutSoFar-start : (bounds : List ℕ) (from size : ℕ) → 0 < size → CutSoFar bounds from size (0 ∷ []) 0
CutSoFar-start bounds from size some = record {
  cut_are = refl;
  rises = (refl, tt);
  room = some;
  ahead = λ j a b above. omega arith;
}

-- a bound strictly inside may follow
pub CutSoFar-may : (bounds : List ℕ) (from size : ℕ) (out : List ℕ) (i b : ℕ) → b ≡ get_or bounds i 0 → i < length bounds → CutSoFar bounds from size out i → from < b → Rises (out ++ (b - from) ∷ [])
CutSoFar-may bounds from size out i b is short c above =
    let low = c.ahead i (omega arith) short (omega arith) in
    Rises-push out (b - from) c.rises (omega (arith, ap length c.cut_are)) (omega (arith, low))

CutSoFar-cases : (bounds : List ℕ) (from size : ℕ) (out : List ℕ) (i b : ℕ) (t : Bool) → (ltb from b && ltb b (from + size)) ≡ t → Rises bounds → b ≡ get_or bounds i 0 → i < length bounds → CutSoFar bounds from size out i →
    CutSoFar bounds from size (out ++ cond t ((b - from) ∷ []) []) (i + 1)
CutSoFar-cases bounds from size out i b true test rises is short c =
    let both = and_parts _ _ test in
    let above : from < b = ltb-true from b both.0 in
    let below : b < from + size = ltb-true b (from + size) both.1 in
    let more : inner (take (i + 1) bounds) from size ≡ inner (take i bounds) from size ++ b ∷ [] =
    inner-more bounds from size i short
    ∙ (ap (λ n. inner (take i bounds) from size ++ cond (ltb from n && ltb n (from + size)) (n ∷ []) []) (sym is) ∙ ap (λ t. inner (take i bounds) from size ++ cond t (b ∷ []) []) test)
    in
    let new : last (out ++ (b - from) ∷ []) ≡ b - from = last_after-push 0 out (b - from) in
    record {
      cut_are =
          ap (λ t. t ++ (b - from) ∷ []) c.cut_are
          ∙ ap (λ t. 0 ∷ t) (sym (map-append (λ b. b - from) (inner (take i bounds) from size) (b ∷ [])) ∙ ap (λ t. map (λ b. b - from) t) (sym more));
      rises = CutSoFar-may bounds from size out i b is short c above;
      room = omega arith;
      ahead = λ j a d up. let apart = Rises-apart bounds i j rises (omega arith) d in omega (arith, apart);
    }
CutSoFar-cases bounds from size out i b false test rises is short c =
    let more : inner (take (i + 1) bounds) from size ≡ inner (take i bounds) from size =
    inner-more bounds from size i short
    ∙ (ap (λ n. inner (take i bounds) from size ++ cond (ltb from n && ltb n (from + size)) (n ∷ []) []) (sym is)
    ∙ (ap (λ t. inner (take i bounds) from size ++ cond t (b ∷ []) []) test ∙ append-nil (inner (take i bounds) from size)))
    in
    let same : out ++ [] ≡ out = append-nil out in
    record {
      cut_are = same ∙ (c.cut_are ∙ ap (λ t. 0 ∷ map (λ b. b - from) t) (sym more));
      rises = rw same c.rises;
      room = rw same c.room;
      ahead = λ j a d up. rw same (c.ahead j (omega arith) d up);
    }

-- one more bound, which follows where it stands strictly inside
pub CutSoFar-more : (bounds : List ℕ) (from size : ℕ) (out new : List ℕ) (i b : ℕ) → Rises bounds → b ≡ get_or bounds i 0 → i < length bounds → new ≡ out ++ cond (ltb from b && ltb b (from + size)) ((b - from) ∷ []) [] → CutSoFar bounds from size out i → CutSoFar bounds from size new (i + 1)
CutSoFar-more bounds from size out new i b rises is short e c = rw e (CutSoFar-cases bounds from size out i b (ltb from b && ltb b (from + size)) refl rises is short c)

pub cut-all : (bounds : List ℕ) (from size : ℕ) (out : List ℕ) (i : ℕ) → length bounds ≤ i → CutSoFar bounds from size out i → out ++ size ∷ [] ≡ cut_bounds bounds from size
cut-all bounds from size out i all c =
    ap (λ t. t ++ size ∷ []) c.cut_are ∙ ap (λ t. 0 ∷ (map (λ b. b - from) (inner t from size) ++ size ∷ [])) (take_all i bounds all)

pub cut-may : (bounds : List ℕ) (from size : ℕ) (out : List ℕ) (i : ℕ) → CutSoFar bounds from size out i → Rises (out ++ size ∷ [])
cut-may bounds from size out i c = Rises-push out size c.rises (omega (arith, ap length c.cut_are)) c.room
