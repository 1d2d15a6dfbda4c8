-- The weight of bytes with one more.
use Rattle.std.proofs.Common.{◌≡◌, ℕ, ◌+◌, ◌*◌, ◌%◌, ◌^◌, List, [], ◌∷◌, ◌++◌, ◌∙◌, ◌<◌, length, take, append_assoc, sym, ap, subst, arith}
use Rattle.std.specs.List.{slice_index_or}
use Rattle.std.proofs.Math.Nat.{add-mod-mod, mod-add-mod}
use Rattle.std.proofs.lemmas.Nat.{mul-mod_first}
use Rattle.std.proofs.lemmas.List.{length-append, take_more}
use Rattle.vx_trial.specs.Trial.{weighted}
use Rattle.vx_trial.specs.inner.Weighing.{Weighs}
use Rattle.vx_trial.specs.declared.weight.Weight.{Weight}

weighted_more : (place : ℕ) (bytes : List ℕ) (b : ℕ) → weighted place (bytes ++ b ∷ []) ≡ weighted place bytes + (place + length bytes) * b
weighted_more place [] b = omega arith
weighted_more place (x ∷ bytes) b =
    let rest : weighted (place + 1) (bytes ++ b ∷ []) ≡ weighted (place + 1) bytes + ((place + 1) + length bytes) * b = weighted_more (place + 1) bytes b in
    let same : ((place + 1) + length bytes) * b ≡ (place + length (x ∷ bytes)) * b = ap (λ n. n * b) (omega arith) in
    omega (arith, rest, same)

-- a byte behind those that were weighed,
weighs_more : (bytes : List ℕ) (b : ℕ) (w : Weight) → Weighs bytes w
    → Weighs (bytes ++ b ∷ []) (record { place = (w.place + 1) % 2 ^ 32; sum = (w.sum + w.place * b % 2 ^ 32) % 2 ^ 32 })
weighs_more bytes b w is =
    let n : ℕ = 1 + length bytes in
    let m : ℕ = 2 ^ 32 in
    record {
      place = ap (λ (p : ℕ). (p + 1) % m) is.place ∙ mod-add-mod n m 1 ∙ ap (λ (p : ℕ). p % m) (omega (arith, length-append bytes (b ∷ [])));
      sum =
          ap (λ (s : ℕ). (s + w.place * b % m) % m) is.sum
          ∙ mod-add-mod (weighted 1 bytes) m (w.place * b % m)
          ∙ add-mod-mod (weighted 1 bytes) (w.place * b) m
          ∙ ap (λ (p : ℕ). (weighted 1 bytes + p * b) % m) is.place
          ∙ sym (add-mod-mod (weighted 1 bytes) (n % m * b) m)
          ∙ ap (λ (x : ℕ). (weighted 1 bytes + x) % m) (mul-mod_first n b m)
          ∙ add-mod-mod (weighted 1 bytes) (n * b) m
          ∙ ap (λ (x : ℕ). x % m) (sym (weighted_more 1 bytes b));
    }

-- the next one of a piece
pub weighs_next : (before bytes : List ℕ) (i b : ℕ) (w : Weight) → i < length bytes → b ≡ slice_index_or bytes i 0 → Weighs (before ++ take i bytes) w
    → Weighs (before ++ take (i + 1) bytes) (record { place = (w.place + 1) % 2 ^ 32; sum = (w.sum + w.place * b % 2 ^ 32) % 2 ^ 32 })
weighs_next before bytes i b w within is so_far =
    let next : Weight = record { place = (w.place + 1) % 2 ^ 32; sum = (w.sum + w.place * b % 2 ^ 32) % 2 ^ 32 } in
    let more : take (i + 1) bytes ≡ take i bytes ++ b ∷ [] = take_more bytes i 0 within ∙ ap (λ (x : ℕ). take i bytes ++ x ∷ []) (sym is) in
    let all : (before ++ take i bytes) ++ b ∷ [] ≡ before ++ take (i + 1) bytes =
    append_assoc before (take i bytes) (b ∷ []) ∙ ap (λ (l : List ℕ). before ++ l) (sym more) in
    subst (λ (l : List ℕ). Weighs l next) all (weighs_more (before ++ take i bytes) b w so_far)
