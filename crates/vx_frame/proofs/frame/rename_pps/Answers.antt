use Rattle.std.proofs.Common.{refl}
use Rattle.std.proofs.lemmas.Bool.{ne_eqb}
use Rattle.vx_frame.proofs.frame.rename_pps.Goals as goal

pub returns-clause-same : goal.returns-clause-same
returns-clause-same c = record {
  sources = refl;
  plain = refl;
  used = λ corners level used. record {
    are = used.are;
    count = used.count;
    passes = used.passes;
    is = record {
      geometry = used.is.geometry;
      made = used.is.made;
      layout = used.is.layout;
      sps = used.is.sps;
      plain = used.is.plain;
      renamed = rw c.replace.ensures.after (c.in_ok-pps.ensures corners used.is.geometry);
    };
  };
}

pub returns-clause-pps : goal.returns-clause-pps
returns-clause-pps c = λ corners level used. rw (ne_eqb c.args.id 0 c.requires.other, c.replace.ensures.after) (c.in_ok-pps.ensures corners used.is.geometry)
