use Rattle.vx_merge.proofs.FilterFields.{from_first, up_to_last}
use Rattle.vx_merge.proofs.slice_shape.is_of_filter.Goals as goal

pub returns-then-field-ge-alf_enabled_flag : goal.returns-then-field-ge-alf_enabled_flag
returns-then-field-ge-alf_enabled_flag c = up_to_last c.args.field c.if-field-ge-alf_enabled_flag.true

pub returns-else-field-ge-alf_enabled_flag : goal.returns-else-field-ge-alf_enabled_flag
returns-else-field-ge-alf_enabled_flag c = from_first c.args.field c.if-field-ge-alf_enabled_flag.false
