-- Clients that stand over a state machine: at the start, and if a command is done.
use Rattle.std.proofs.Common.{◌≡◌, List, [], sym, subst}
use Rattle.std.specs.Prelude.{Result, Ok, Err, OnOk, OnErr}
use Rattle.log_commands.specs.declared.command.Command.{Command}
use Rattle.database_state.specs.declared.database.Database.{Database}
use Rattle.database_state.specs.Databases.{act}
use Rattle.database_state.specs.Pins.{Pinning, StillPinned}
use Rattle.database_state.specs.Machines.{IsMachine}
use Rattle.session_gateway.proofs.Numbering.{acted_agree}
use Rattle.client_sessions.specs.Seen.{Agrees, AreValidOver, HasNoMarks}
use Rattle.client_sessions.specs.declared.clients.Clients.{Clients as Held}
use Rattle.client_sessions.proofs.Standing.{still_stand}

pub begun : (held : Held) (databases : List Database) → databases ≡ [] → ((ds : List Database) → HasNoMarks ds → AreValidOver held ds) → AreValidOver held databases
begun held databases none stand = subst (AreValidOver held) (sym none) (stand [] (λ pin live. live))

pub acted : {F : Type 0} (result : Result (Unit {0}) F) (old new : List Database) (command : Command) (held : Held) → OnOk result (new ≡ act old command) → OnErr result (new ≡ old)
    → ((pin : Pinning) → StillPinned old new pin) → AreValidOver held old → AreValidOver held new
acted (Ok u) old new command held did kept still stand =
    subst (AreValidOver held) (sym did) (still_stand held old command (λ pin. subst (λ (ds : List Database). StillPinned old ds pin) did (still pin)) stand)
acted (Err f) old new command held did kept still stand = subst (AreValidOver held) (sym kept) stand

pub agree_still : (old new : List Database) (command : Command) (held : Held) → IsMachine old → IsMachine new → new ≡ act old command → Agrees [] held old → Agrees [] held new
agree_still old new command held before after did agrees = subst (Agrees [] held) (sym did) (acted_agree [] held.gateway old command before (subst IsMachine did after) agrees)
