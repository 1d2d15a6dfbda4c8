use Rattle.vx_merge.proofs.round.header_units.Goals as goal

pub picture_header-requires : goal.picture_header-requires
picture_header-requires c = record { ready = (c.requires.0, (c.args.layout.now, c.requires.1)) }

pub units_with_header-requires-clause-ready : goal.units_with_header-requires-clause-ready
units_with_header-requires-clause-ready c = c.requires

pub units_with_header-requires-clause-says : goal.units_with_header-requires-clause-says
units_with_header-requires-clause-says c = c.in-Ok.ensures.says

pub units_with_header-requires-clause-is : goal.units_with_header-requires-clause-is
units_with_header-requires-clause-is c = c.in-Ok.ensures.is

pub returns-in-Ok : goal.returns-in-Ok
returns-in-Ok c = c.units_with_header.ensures
