-- How it ended for a client over a dialer.
use Rattle.std.proofs.Common.{ℕ, List, [], length, Option, Some, None, sym, subst}
use Rattle.std.proofs.lemmas.List.{append-nil}
use Rattle.std.specs.Io.KnownBytes.{Appends}
use Rattle.client.specs.declared.events.ClientEnd.{ClientEnd}
use Rattle.client.specs.declared.run.Run.{Run}
use Rattle.client.specs.declared.dialer.NetCall.{NetCall}
use Rattle.client.specs.declared.status.ClientStatus.{ClientStatus}
use Rattle.client.specs.declared.status.ClientStatus.TheVariants.{Ended, WriteFault, NoMemory}
use Rattle.client.specs.Net.{Net}
use Rattle.client.specs.Running.{EndHasCause}
use Rattle.client.specs.Driving.{HaveNamed, HaveEnded}
use Rattle.client.specs.Status.{HasRun, IsOf}

-- nothing is printed
pub unprinted : (written : Option (List ℕ)) → Appends written written []
unprinted None = tt
unprinted (Some bytes) = sym (append-nil bytes)

ended_named : (first : Run) (before now : Option (List NetCall)) (end : ClientEnd) → HaveEnded first before now end → HaveNamed first before now
ended_named first before None end h = tt
ended_named first None (Some all) end h = absurd h
ended_named first (Some before) (Some all) end (calls, is, named, done) = (calls, is, named)

-- what is reported of an end to which a client was driven
pub told_as : (start : Net) (first : Run) (now : Net) (end : ClientEnd) (r : ClientStatus) → IsOf end r
    → HaveEnded first start.calls now.calls end × EndHasCause start now (length first.core.addresses) end → HasRun start first now r
told_as start first now end (Ended told) is h =
    subst (λ (e : ClientEnd). HaveEnded first start.calls now.calls e × EndHasCause start now (length first.core.addresses) e) (sym is) h
told_as start first now end WriteFault is h = ended_named first start.calls now.calls end h.0
told_as start first now end NoMemory is h = ended_named first start.calls now.calls end h.0
