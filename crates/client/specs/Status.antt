-- How it ended for a client over a dialer, and what was printed of it.
use Rattle.std.specs.Prelude.{◌≡◌, ℕ, List, [], length, Option}
use Rattle.std.specs.Io.KnownBytes.{Appends}
use Rattle.dq_base.specs.Sink.{AppendsFront}
use Rattle.client.specs.declared.events.ClientEnd.{ClientEnd}
use Rattle.client.specs.declared.run.Run.{Run}
use Rattle.client.specs.declared.status.ClientStatus.{ClientStatus}
use Rattle.client.specs.declared.status.ClientStatus.TheVariants.{Ended, WriteFault, NoMemory}
use Rattle.client.specs.Net.{Net}
use Rattle.client.specs.Running.{EndHasCause}
use Rattle.client.specs.Driving.{HaveNamed, HaveEnded}
use Rattle.client.specs.Printing.{end_text}

-- A client was driven to the end that is told; or its calls at least are those that it named.
abbrev pub HasRun : Net → Run → Net → ClientStatus → Type 0
HasRun start first now (Ended end) = HaveEnded first start.calls now.calls end × EndHasCause start now (length first.core.addresses) end
HasRun start first now WriteFault = HaveNamed first start.calls now.calls
HasRun start first now NoMemory = HaveNamed first start.calls now.calls

-- What is printed of the end was printed; or a front of it, if the sink failed; or nothing.
abbrev pub HasPrinted : Option (List ℕ) → Option (List ℕ) → ClientStatus → Type 0
HasPrinted old new (Ended end) = Appends old new (end_text end)
HasPrinted old new WriteFault = (end : ClientEnd) × AppendsFront old new (end_text end)
HasPrinted old new NoMemory = Appends old new []

-- where an end is told, it is this one
abbrev pub IsOf : ClientEnd → ClientStatus → Type 0
IsOf end (Ended told) = told ≡ end
IsOf end WriteFault = Unit {0}
IsOf end NoMemory = Unit {0}
