use Rattle.vx_bits.specs.Codes.{code_number}
use Rattle.vx_bits.proofs.Golomb.{exp_golomb_apart, signed_once}
use Rattle.vx_bits.proofs.laws.signed_exp_golomb_tells_apart.Goals as goal

pub returns : goal.returns
returns c = λ v w r s valid also same.
    let apart = exp_golomb_apart (code_number v) (code_number w) r s valid also same in
    (signed_once v w apart.0, apart.1)
