use Rattle.std.proofs.Common.{◌≡◌, true, false}
use Rattle.vx_pic.specs.Units.{is_irap_or_gdr}
use Rattle.vx_write.proofs.Held.{still_last, none_last}
use Rattle.vx_write.proofs.sending.forget_before.Goals as goal

pub returns-then-not-is_irap_or_gdr : goal.returns-then-not-is_irap_or_gdr
returns-then-not-is_irap_or_gdr c history last =
    let is : is_irap_or_gdr c.args.nal_type ≡ false = cc in
    still_last c.args.nal_type history c.args.slots.now is last

pub returns : goal.returns
returns c history last =
    let is : is_irap_or_gdr c.args.nal_type ≡ true = cc in
    rw c.clear.ensures (none_last c.args.nal_type history is)
