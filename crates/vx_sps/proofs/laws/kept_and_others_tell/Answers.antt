use Rattle.std.proofs.Common.{refl, sym}
use Rattle.vx_table.specs.Rewritten.{other_items}
use Rattle.vx_table.specs.Shown.{shown_items}
use Rattle.vx_table.proofs.Rewriting.{rewrites_one_way}
use Rattle.vx_sps.specs.Depends.{kept_sps_fields}
use Rattle.vx_sps.specs.Structure.{sps_form}
use Rattle.vx_sps.proofs.laws.kept_and_others_tell.Goals as goal

pub returns : goal.returns
returns c = λ items others is of same rest.
    rewrites_one_way sps_form kept_sps_fields (shown_items kept_sps_fields items) (other_items kept_sps_fields items) items others
    (record { values = is.values; end = is.end; follows = is.follows; all = is.all; shown_ones = refl; other_ones = refl })
    (record { values = of.values; end = of.end; follows = of.follows; all = of.all; shown_ones = sym same; other_ones = sym rest })
