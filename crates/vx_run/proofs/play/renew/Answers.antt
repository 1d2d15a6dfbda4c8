use Rattle.vx_run.proofs.play.renew.Goals as goal

pub returns : goal.returns
returns c =
    rw c.replace.ensures.after (record { fed = c.in_ok-fresh.ensures.fed; needed = c.in_ok-fresh.ensures.needed; open_ = c.in_ok-fresh.ensures.«open» })
