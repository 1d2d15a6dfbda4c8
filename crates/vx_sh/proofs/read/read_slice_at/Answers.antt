use Rattle.std.proofs.Common.{rules, ◌*◌, length, slice_index, ap, sym, ◌∙◌}
use Rattle.vx_table.specs.Scope.{is_set}
use Rattle.vx_fields.specs.declared.sh.TheConstants.{sh_picture_header_in_slice_header_flag, sh_slice_address}
use Rattle.vx_fields.specs.declared.names.sh.TheConstants.{SUBPIC}
use Rattle.vx_bits.specs.Codes.{bits_of}
use Rattle.vx_table.specs.Spelling.{Spells}
use Rattle.vx_sh.specs.Whole.{at_of, slice_form}
use Rattle.vx_sh.specs.Value.{values_of}
use Rattle.vx_sh.proofs.Sized.{all_follow, sized}
use Rattle.vx_sh.proofs.read.read_slice_at.Goals as goal

pub returns : goal.returns
returns c =
    let n = at_of c.args.n.now c.args.scope.now in
    let rbsp = c.args.rbsp.now in
    let read = rw c.in_ok-read_fields.was at c.read_fields.ensures in
    let rest = c.read_fields.new.bits.left in
    let spelled : Spells (8 * length rbsp) (slice_form n) (values_of read.fields) (bits_of rbsp) rest = rw (← c.new-bits.ensures.total, ← c.new-bits.ensures.left) read.spelled in
    let size = sized n rbsp (values_of read.fields) read.fields.end rest c.at.result spelled (all_follow n c.read_fields.new.into read.inside read.fields)
    (c.at.ensures.within ∙ read.total ∙ c.new-bits.ensures.total) in
    record {
      inside = read.inside;
      fields = read.fields;
      rest = rest;
      spelled = spelled;
      numbers = record {
        inside = ap is_set (c.latest.ensures ∙ ap (λ s. slice_index s sh_picture_header_in_slice_header_flag) (sym read.ends));
        subpic = c.latest-2.ensures ∙ ap (λ s. slice_index s SUBPIC) (sym read.ends);
        address = c.latest-3.ensures ∙ ap (λ s. slice_index s sh_slice_address) (sym read.ends);
        lists = search rules;
      };
      size = size.0;
      last = size.1;
    }
