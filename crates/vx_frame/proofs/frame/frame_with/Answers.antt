use Rattle.std.proofs.Common.{sym, subst}
use Rattle.vx_frame.specs.inner.Frames.{IsFrameOf}
use Rattle.vx_frame.proofs.frame.frame_with.Goals as goal

pub parts_for-requires : goal.parts_for-requires
parts_for-requires c = c.requires

pub returns : goal.returns
returns c corners is =
    subst (IsFrameOf corners c.args.level c.args.round.now) (sym c.in_ok-new.ensures.ok) (record {
      is = record {
        geometry = is.is;
        made = is.made;
        layout = c.in_ok-sources.ensures.layout;
        sps = c.in_ok-sources.ensures.sps corners is.is;
        plain = c.in_ok-sources.ensures.plain corners is.is;
        renamed = tt;
      };
      sets = c.in_ok-sources.ensures.sources;
    })
