use Rattle.std.proofs.Common.{refl, arith}
use Rattle.serve_loop.proofs.Resting.{leads_still}
use Rattle.serve_loop.proofs.served.ServedNodeCore.rest.Goals as goal

pub returns-in-Some-clause-keeps : goal.returns-in-Some-clause-keeps
returns-in-Some-clause-keeps g c before event outs made =
    leads_still _ _ _ _ _ _ _ _ _ _ _ _ _ event outs (record { disk = refl; engine = refl; faults = omega arith; stays = c.tell_at.ensures.engine })
    c.tell_at.ensures.told made

pub returns-in-Some-clause-stands : goal.returns-in-Some-clause-stands
returns-in-Some-clause-stands g c = record { sound = c.requires.sound; up = c.requires.up; agrees = c.tell_at.ensures.agrees }
