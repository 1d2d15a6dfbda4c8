use Rattle.vx_sh.proofs.Scopes as scopes
use Rattle.vx_sh.proofs.laws.slice_scopes_agree.Goals as goal

pub returns : goal.returns
returns c = record { agree = scopes.slice_scopes_agree; whole = scopes.slice_scopes_are_whole }
