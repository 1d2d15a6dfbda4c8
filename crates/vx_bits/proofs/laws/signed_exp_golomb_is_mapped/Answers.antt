use Rattle.std.proofs.Common.{◌∙◌, ap}
use Rattle.vx_bits.specs.Codes.{code_number}
use Rattle.vx_bits.specs.laws.Codes.{mapped}
use Rattle.vx_bits.proofs.Golomb.{mapped_code, code_mapped}
use Rattle.vx_bits.proofs.laws.signed_exp_golomb_is_mapped.Goals as goal

pub returns : goal.returns
returns c = λ v k. (
  λ is. mapped_code v ∙ ap mapped is,
  λ is. ap code_number is ∙ code_mapped k,
)
