-- The calls that a dialer over memory tells.
use Rattle.std.proofs.Common.{◌≡◌, Bool, true, false, List, Option, Some, None, refl, sym, subst, true≢false}
use Rattle.client.specs.declared.dialer.NetCall.{NetCall}
use Rattle.client.specs.Net.{Tells}
use Rattle.client.specs.Memory.{noted, Notes}

pub lost : (old new : Option (List NetCall)) (call : NetCall) → new ≡ None → Tells old new call
lost old new call e = subst (λ (n : Option (List NetCall)). Tells old n call) (sym e) tt

pub tells : (old new : Option (List NetCall)) (call : NetCall) → new ≡ noted old call → Tells old new call
tells None new call e = lost None new call e
tells (Some calls) new call e = subst (λ (n : Option (List NetCall)). Tells (Some calls) n call) (sym e) refl

pub note_tells : (old new : Option (List NetCall)) (call : NetCall) (b : Bool) → Notes old new call b → Tells old new call
note_tells old new call true h = tells old new call h
note_tells old new call false h = lost old new call h

-- if memory ran out nothing is reported of any call
pub dropped : (old new : Option (List NetCall)) (call other : NetCall) (b : Bool) → b ≡ false → Notes old new call b → Tells old new other
dropped old new call other true e h = absurd (true≢false e)
dropped old new call other false e h = lost old new other h
