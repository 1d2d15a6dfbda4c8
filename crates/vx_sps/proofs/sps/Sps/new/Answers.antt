use Rattle.vx_sps.proofs.Bounded.{ctu_below, subpics_below}
use Rattle.vx_sps.proofs.sps.Sps.new.Goals as goal

pub ctb_size-ctb-requires : goal.ctb_size-ctb-requires
ctb_size-ctb-requires c = rw (c.deref.ensures, c.load.ensures, c.deref_mut.ensures.value, c.in_ok-scope.ensures.ok, c.new.ensures) (ctu_below c.args.fields c.requires.items)

pub subpictures-requires-clause-most : goal.subpictures-requires-clause-most
subpictures-requires-clause-most c = subpics_below c.args.fields c.requires.items
