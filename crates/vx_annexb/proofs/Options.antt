-- An option by the test of its variant.
use Rattle.std.proofs.Common.{◌≡◌, Option, Some, None, is_some, false, refl}

pub none_is : {A : Type 0} (o : Option A) → is_some o ≡ false → o ≡ None
none_is None e = refl
none_is (Some x) e = cc
