-- How it ends where the leader of a cluster is to run a statement.
use Rattle.std.specs.Prelude.{◌≡◌, ◌⊎◌, ◌<◌, ℕ, List, [], length, Option}
use Rattle.std.specs.Io.KnownBytes.{Appends}
use Rattle.dq_base.specs.Sink.{AppendsFront}
use Rattle.client.specs.declared.events.ClientEnd.{ClientEnd}
use Rattle.client.specs.declared.events.ClientEnd.TheVariants as ends
use Rattle.client.specs.declared.course.Course.{Course}
use Rattle.client.specs.declared.status.ClientStatus.{ClientStatus}
use Rattle.client.specs.declared.status.ClientStatus.TheVariants as client
use Rattle.client.specs.Course.{begun}
use Rattle.client.specs.Net.{Net}
use Rattle.client.specs.Running.{started, EndHasCause}
use Rattle.client.specs.Driving.{HaveNamed, HaveEnded}
use Rattle.client.specs.Printing.{end_text}
use Rattle.arguments.specs.declared.invocation.Statement.{Statement}
use Rattle.dqnode.specs.declared.status.Status.{Status}
use Rattle.dqnode.specs.declared.status.Status.TheVariants.{Done, WriteFault, NoMemory, Refused, NoLeader, Unknown}
use Rattle.dqnode.specs.Status.{status_code}

-- the client that has a statement run, before its first step
abbrev pub client_of : Statement → Course
client_of statement = begun statement.addresses statement.name statement.sql statement.query

-- the status for an end of a client
abbrev pub end_status : ClientEnd → Status
end_status (ends.Result changed) = Done
end_status (ends.Rows parts) = Done
end_status (ends.Refused code text) = Refused
end_status (ends.NoLeader tries) = NoLeader
end_status ends.Unknown = Unknown

abbrev pub client_status : ClientStatus → Status
client_status (client.Ended end) = end_status end
client_status client.WriteFault = WriteFault
client_status client.NoMemory = NoMemory

-- The client ended as this status says, by the calls that it named and the events that their answers make,
-- if these are told; it dialled for it; and what is printed of the end was printed.
pub record ClientReaches (statement : Statement) (start now : Net) (written written' : Option (List ℕ)) (code : ℕ) : Type 0 where
  pub end : ClientEnd
  pub code_is : code ≡ status_code (end_status end)
  pub driven : HaveEnded (started (client_of statement)) start.calls now.calls end
  pub dialled : EndHasCause start now (length statement.addresses) end
  pub printed : Appends written written' (end_text end)

-- The output failed, or memory ran out: the calls are those that the client named, if they are known, and a front of what is printed
-- of an end was printed, which is nothing if memory ran out.
pub record BreaksOff (statement : Statement) (start now : Net) (written written' : Option (List ℕ)) (code : ℕ) : Type 0 where
  pub cause : (code ≡ 4) ⊎ (code ≡ 7)
  pub named : HaveNamed (started (client_of statement)) start.calls now.calls
  pub printed : (end : ClientEnd) × AppendsFront written written' (end_text end)
  pub unprinted : code ≡ 7 → Appends written written' []

abbrev pub StatementEnds : Statement → Net → Net → Option (List ℕ) → Option (List ℕ) → ℕ → Type 0
StatementEnds statement start now written written' code = ClientReaches statement start now written written' code ⊎ BreaksOff statement start now written written' code

-- a server has answered it: by a result or rows, by a refusal, or so that nobody knows what came of it
abbrev pub IsAnswered : ℕ → Type 0
IsAnswered code = (code ≡ 0) ⊎ (code ≡ 11) ⊎ (code ≡ 13)

-- only statements end so
abbrev pub IsOfStatement : ℕ → Type 0
IsOfStatement code = (code ≡ 11) ⊎ (code ≡ 12) ⊎ (code ≡ 13)

-- an address was dialled
abbrev pub HasLinked : Net → Net → Type 0
HasLinked start now = start.dialled < now.dialled
