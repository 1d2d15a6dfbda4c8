-- The fields without a star of tables, appended table by table.
use Rattle.std.proofs.Common.{◌≡◌, ℕ, List, [], ◌++◌, ap, ◌∙◌}
use Rattle.std.proofs.lemmas.List.{append_assoc}

-- those of one table behind others
pub marked : {more all : List ℕ} (names a b : List ℕ) → more ≡ names ++ a → all ≡ more ++ b → all ≡ names ++ (a ++ b)
marked names a b first rest = rest ∙ ap (λ s. s ++ b) first ∙ append_assoc names a b

-- from none on, they are a set
pub marked_all : {names all : List ℕ} (fields : List ℕ) → names ≡ [] → all ≡ names ++ fields → all ≡ fields
marked_all fields none rest = rest ∙ ap (λ s. s ++ fields) none
