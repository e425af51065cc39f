-- What a call of the program shows: a record for each thing that it may be asked for, for what it then leaves alone, and for its status.
use Rattle.std.specs.Prelude.{◌≡◌, ◌≤◌, ◌⊎◌, ◌+◌, ◌*◌, ℕ, Bool, List, [], length, Option, Some}
use Rattle.std.specs.Io.KnownBytes.{Appends, Keeps}
use Rattle.dq_base.specs.Faults.{Rose}
use Rattle.dq_base.specs.Sink.{AppendsFront}
use Rattle.disk_model.specs.Disk.{Disk}
use Rattle.disk_model.specs.Trait.{Text}
use Rattle.script_cluster.specs.Outcomes.{Item}
use Rattle.script_cluster.specs.Run.{Line, Large}
use Rattle.script_runner.specs.Ending.{MayFollow, Anything}
use Rattle.client.specs.Net.{Net, HaveFailed}
use Rattle.client.specs.Running.{HaveDialled}
use Rattle.arguments.specs.declared.invocation.Invocation.{Invocation}
use Rattle.arguments.specs.declared.invocation.Statement.{Statement}
use Rattle.arguments.specs.declared.invocation.Serve.{Serve}
use Rattle.session_outcomes.specs.declared.job.Read.{Read}
use Rattle.serve_traits.specs.Looping.{Taken}
use Rattle.serve_threads.specs.declared.host_counts.HostCounts.{HostCounts}
use Rattle.serve_node.specs.Rules.{GoesWell}
use Rattle.dqnode.specs.Asks.{ForStatement, ForGenerated, ForRun, ForServed, IsScript, IsRun, IsStatement, IsServed, IsCheck, IsNothing, RunsWith}
use Rattle.dqnode.specs.Program.{words_error, Gives, Completes, BreaksOff, RunsSafely}
use Rattle.dqnode.specs.Status.{IsStatus, IsBroken, IsBrokenOff, IsServeCode}
use Rattle.dqnode.specs.Statements.{StatementEnds, IsAnswered, IsOfStatement, HasLinked}
use Rattle.dqnode.specs.Checks.{CheckEnds}
use Rattle.dqnode.specs.Generating.{GenerateEnds, RunEnds}
use Rattle.dqnode.specs.Serving.{WasServed, NotServed}

-- The script that was asked for was run.
pub record ScriptRun (asked : Option Invocation) (journal : List Item) (left left' written written' : Option (List ℕ)) (code : ℕ) : Type 0 where
  -- 0: it was read to its end, it has no fault, and all that its run prints was written; the journal is what the run notes
  pub done : IsScript asked → code ≡ 0 → RunsWith asked (λ kind. Completes kind journal left left' written written')
  -- 2: its first fault is a line that isn't in the grammar there; the bytes read show it, and it is named
  pub faulty : IsScript asked → code ≡ 2 → RunsWith asked (λ kind. (line : ℕ) × Gives kind (Some (Line line)) journal left left' written written')
  -- 9: its first fault is that it has too much; the bytes read show it, and it is said
  pub large : IsScript asked → code ≡ 9 → RunsWith asked (λ kind. Gives kind (Some Large) journal left left' written written')
  -- However it ended, all that its run prints was written, or a front of it: what came of that run's events is what whole nodes do, and
  -- it is safe, at each moment and at a later one.
  pub safe : IsScript asked → RunsWith asked (λ kind. RunsSafely kind journal left left' written written')
  -- 3: a front was written of what the script gives, whatever bytes follow those read
  pub cut : code ≡ 3 → RunsWith asked (λ kind. BreaksOff kind Anything left left' written written')
  -- 4, 7 and 15: this holds too; but if the input is at its end nothing follows
  pub broken : IsScript asked → IsBrokenOff code → RunsWith asked (λ kind. BreaksOff kind (MayFollow left') left left' written written')

-- Arguments that ask for nothing are refused, with 1 and an error line, unless it can't be written or there is not enough memory to read them; then
-- a front of that line was written.
pub record RefusesArguments (asked : Option Invocation) (written written' : Option (List ℕ)) (code : ℕ) : Type 0 where
  pub told : code ≡ 1 → IsNothing asked × Appends written written' words_error
  pub only : IsNothing asked → (code ≡ 1) ⊎ IsBroken code
  pub broken : IsNothing asked → IsBroken code → AppendsFront written written' words_error

-- A statement that was asked for was run: the client that finds the leader and has it run that came to an end, which the status tells and
-- which was printed, unless the output failed or memory ran out.
pub record StatementRun (asked : Option Invocation) (start now : Net) (written written' : Option (List ℕ)) (code : ℕ) : Type 0 where
  pub ended : (statement : Statement) → ForStatement statement asked → StatementEnds statement start now written written' code
  -- an answer comes only if an address was dialled
  pub linked : IsStatement asked → IsAnswered code → HasLinked start now
  -- 12, no leader, comes only after three dials for each address
  pub no_leader : (statement : Statement) → ForStatement statement asked → code ≡ 12 → HaveDialled start now (3 * length statement.addresses)
  -- each dial and each call of the dialer that failed is counted
  pub failed : HaveFailed start now

-- The files were looked at: every file stays as it is, and the lines of what they hold were printed, or the line of their fault; if the
-- disk failed or there is not enough memory, nothing was.
pub record CheckRun {K : Type 0} (asked : Option Invocation) (files files' : Disk Text → Type 0) (written : K → Option (List ℕ)) (output output' : K)
    (code : ℕ) : Type 0 where
  pub ended : IsCheck asked → CheckEnds files files' (written output) (written output') code
  pub unprinted : IsCheck asked → (code ≡ 5) ⊎ (code ≡ 7) → output' ≡ output

-- The script of a number and a count of writes was made: with 0 it was written whole and nothing else; with 4 and 7, and there is no other
-- status, a front of it. Or it was run: with 0 it was written how its nodes are at its end, with 2 and 9 its fault too, and with 4, 7 and 15
-- a front of it.
pub record GenerateRun (asked : Option Invocation) (journal : List Item) (written written' : Option (List ℕ)) (code : ℕ) : Type 0 where
  pub made : (number writes : ℕ) → ForGenerated number writes asked → GenerateEnds number writes written written' code
  pub run : (number writes : ℕ) → ForRun number writes asked → RunEnds number writes journal written written' code

-- How a host and a disk are seen where a node is served.
pub record ServeViews (D H : Type 0) : Type 0 where
  pub tells : Bool
  pub disk_faults : D → ℕ
  pub done : H → HostCounts
  pub taken : H → Taken Read
  pub host_faults : H → ℕ

-- A node was served. With an engine of the kind that is named, which knew no image, the node that is asked for was started over the disk; then
-- the host listened and took all workers, and the node made a step for each event that the host gave. If there is not enough memory to read the
-- arguments, nothing was done.
pub record ServeRun {D H : Type 0} (files : D → Disk Text → Type 0) (views : ServeViews D H) (asked : Option Invocation) (host host' : H)
    (disk disk' : D) (code : ℕ) : Type 0 where
  pub codes : IsServed asked → IsServeCode code
  pub serves : (served : Serve) → ForServed served asked →
      WasServed views.tells files views.disk_faults views.done served host disk disk' (views.taken host) (views.taken host') code
      ⊎ NotServed disk disk' host host' code
  -- 10: as many events were taken as are asked for
  pub spent : (served : Serve) → ForServed served asked → code ≡ 10 → (views.taken host').count ≡ (views.taken host).count + served.events
  -- over the files of a node, if neither the disk nor the host failed, all events were taken, or memory ran out, or a step failed because of a
  -- bug of the program
  pub well : IsServed asked → GoesWell (files disk) (views.disk_faults disk) (views.disk_faults disk') (views.host_faults host) (views.host_faults host') →
      (code ≡ 10) ⊎ (code ≡ 7) ⊎ (code ≡ 15)

-- What is not asked for is left alone: the input and its count of faults where it is no script, the dialer where it is no statement, the disk
-- if neither files are looked at nor a node is served, the host where no node is. If no script is run the journal is as it was, or it has
-- nothing in it, if there is not enough memory.
pub record Untouched {N D H : Type 0} (asked : Option Invocation) (left left' : Option (List ℕ)) (read_faults read_faults' : ℕ) (journal journal' : List Item)
    (dialer dialer' : N) (disk disk' : D) (host host' : H) (code : ℕ) : Type 0 where
  pub input : (IsScript asked → ⊥) → Keeps left left' × (read_faults ≡ read_faults')
  pub noted : (IsScript asked → ⊥) → (IsRun asked → ⊥) → (journal' ≡ journal) ⊎ ((code ≡ 7) × (journal' ≡ []))
  pub dials : (IsStatement asked → ⊥) → dialer' ≡ dialer
  pub files : (IsCheck asked → ⊥) → (IsServed asked → ⊥) → disk' ≡ disk
  pub serves : (IsServed asked → ⊥) → host' ≡ host

-- how many calls of the input, the output, the disk and the host failed so far
pub record FaultCounts : Type 0 where
  pub input : ℕ
  pub output : ℕ
  pub disk : ℕ
  pub host : ℕ

-- The status is one of those that there are, and for what it is asked; 3, 4, 5 and 6 only if the input, the output, the disk, the host failed
-- in this call. No count of faults falls.
pub record StatusTells (asked : Option Invocation) (old now : FaultCounts) (code : ℕ) : Type 0 where
  pub known : IsStatus code
  pub of_script : (code ≡ 2) ⊎ (code ≡ 9) → IsScript asked ⊎ IsRun asked
  pub of_statement : IsOfStatement code → IsStatement asked
  pub of_files : code ≡ 8 → IsCheck asked ⊎ IsServed asked
  pub of_spent : code ≡ 10 → IsServed asked
  -- a bug of the program shows only if nodes run: in a script, read or made, or in a served node
  pub of_internal : code ≡ 15 → IsScript asked ⊎ IsRun asked ⊎ IsServed asked
  pub read_fault : code ≡ 3 → IsScript asked × Rose old.input now.input
  pub write_fault : code ≡ 4 → Rose old.output now.output
  pub disk_fault : code ≡ 5 → (IsCheck asked ⊎ IsServed asked) × Rose old.disk now.disk
  pub host_fault : code ≡ 6 → IsServed asked × Rose old.host now.host
  pub inputs : old.input ≤ now.input
  pub outputs : old.output ≤ now.output
  pub disks : old.disk ≤ now.disk
