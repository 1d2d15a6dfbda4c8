use Rattle.std.proofs.Common.{refl}
use Rattle.std.specs.Fmt.{digits}
use Rattle.vx_explain.proofs.Listing.{all_explained}
use Rattle.vx_explain.proofs.laws.rules_and_fields_are_explained.Goals as goal

pub returns : goal.returns
unfolding digits
returns c = all_explained refl
