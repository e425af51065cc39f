use Rattle.node_core.proofs.RaftExactly.{installs_exactly}
use Rattle.std.proofs.Common.{sym, ap, subst, ◌∙◌}
use Rattle.raft_on_disk.specs.Replicas.{ReplicaValue, IsKept, kept_of}
use Rattle.node_core.specs.declared.running.Running.{Running}
use Rattle.node_core.specs.Waiting.{HasTurns}
use Rattle.node_core.proofs.Followed.{tells_or, beside_installed}
use Rattle.node_core.proofs.Installed.{installs_so, installs_on, installed_led, placed_clients, brings_intake, follows_behind_snapshot}
use Rattle.node_core.proofs.Installing.{holds_installed}
use Rattle.raft_membership.specs.Members.{read_setup}
use Rattle.raft_core.specs.Events.{input_of}
use Rattle.node_core.specs.Finding.{StopsIn, StopsTelling, StopsInstalling, in_install}
use Rattle.node_core.specs.Taking.{bytes_with}
use Rattle.node_core.specs.Account.{bytes_in}
use Rattle.node_core.proofs.Finding.{failed, more, kept_finds, made_left}
use Rattle.node_core.proofs.StopsOfTurns.{behind_placing, behind_placed}
use Rattle.node_core.proofs.running.Running.step_install.Goals as goal

pub look_at_servers-requires-clause-holds : goal.look_at_servers-requires-clause-holds
look_at_servers-requires-clause-holds g c =
    holds_installed c.args.self.now c.keep_step.new.self c.lose.new.self c.replace.new.self c.tell_servers.new.self c.args.event c.in_ok-keep_step.field-0 c.args.applied c.requires.going c.requires.brings c.in_ok-keep_step.ensures.stepped
    c.lose.ensures.replica c.lose.ensures.rest c.in_ok-replace.ensures.applied c.in_ok-replace.ensures.at c.in_ok-replace.ensures.stand c.in_ok-replace.ensures.is
    c.requires.brings.restored.spelled.servers.is (c.clients_change_databases.ensures.stand c.lose.new.self.clients c.lose.new.self.applied.machine c.args.applied.machine c.in_ok-lose.ensures.unmarked c.requires.brings.unpinned c.in_ok-lose.ensures.stand)
    (subst HasTurns (sym (c.clients_change_databases.ensures.clients c.lose.new.self.clients c.lose.new.self.applied.machine c.args.applied.machine c.in_ok-lose.ensures.unmarked c.in_ok-lose.ensures.stand)) c.in_ok-lose.ensures.turns)
    c.in_ok-tell_servers.ensures.told

pub returns-clause-stored : goal.returns-clause-stored
returns-clause-stored g c = λ has.
    subst (λ (r : ReplicaValue). IsKept g.D.Disk.tells (g.D.Disk.states c.tell_servers.new.disk) r) (sym (ap (λ (n : Running). n.replica) c.look_at_servers.ensures.rest))
    (c.in_ok-tell_servers.ensures.stored (subst (λ (r : ReplicaValue). IsKept g.D.Disk.tells (g.D.Disk.states c.keep_step.new.disk) r) (sym (ap (λ (n : Running). n.replica) c.in_ok-replace.ensures.is ∙ c.lose.ensures.replica)) (c.in_ok-keep_step.ensures.stored has)))

pub returns-clause-led : goal.returns-clause-led
returns-clause-led g c =
    installed_led c.args.self.now c.keep_step.new.self c.lose.new.self c.replace.new.self c.tell_servers.new.self c.look_at_servers.new.self c.args.event c.in_ok-keep_step.field-0 c.args.applied c.requires.going c.requires.idle
    c.requires.brings c.in_ok-keep_step.ensures.stepped c.in_ok-keep_step.ensures.serves c.in_ok-lose.ensures.loses c.lose.ensures.rest c.lose.ensures.replica c.lose.ensures.office c.in_ok-replace.ensures.is
    (placed_clients c.lose.new.self c.replace.new.self c.args.applied c.in_ok-replace.ensures.is c.in_ok-replace.ensures.applied
    (c.clients_change_databases.ensures.clients c.lose.new.self.clients c.lose.new.self.applied.machine c.args.applied.machine c.in_ok-lose.ensures.unmarked c.in_ok-lose.ensures.stand))
    c.in_ok-tell_servers.ensures.told (tells_or c.replace.new.self c.tell_servers.new.self c.in_ok-tell_servers.ensures.tells) c.look_at_servers.ensures.rest c.look_at_servers.ensures.serving

pub returns-clause-began : goal.returns-clause-began
returns-clause-began g c = λ opening.
    installs_on opening c.args.self.now c.replace.new.self c.tell_servers.new.self c.look_at_servers.new.self c.args.event c.args.applied c.requires.brings
    (installs_so opening c.args.self.now c.keep_step.new.self c.lose.new.self c.replace.new.self c.args.event c.in_ok-keep_step.field-0 c.args.applied c.requires.going c.requires.led c.requires.idle c.requires.brings
    c.in_ok-keep_step.ensures.stepped c.in_ok-keep_step.ensures.posts c.in_ok-keep_step.ensures.offices c.in_ok-lose.ensures.loses c.lose.ensures.rest c.lose.ensures.replica c.lose.ensures.mail c.lose.ensures.office.1
    c.in_ok-replace.ensures.is c.in_ok-replace.ensures.applied c.in_ok-replace.ensures.machine
    (placed_clients c.lose.new.self c.replace.new.self c.args.applied c.in_ok-replace.ensures.is c.in_ok-replace.ensures.applied
    (c.clients_change_databases.ensures.clients c.lose.new.self.clients c.lose.new.self.applied.machine c.args.applied.machine c.in_ok-lose.ensures.unmarked c.in_ok-lose.ensures.stand)))
    (tells_or c.replace.new.self c.tell_servers.new.self c.in_ok-tell_servers.ensures.tells)
    (beside_installed opening c.args.self.now c.keep_step.new.self c.lose.new.self c.replace.new.self c.tell_servers.new.self c.args.event c.in_ok-keep_step.field-0 c.args.applied c.requires.going c.requires.brings
    c.in_ok-keep_step.ensures.stepped c.lose.ensures.replica c.lose.ensures.rest.links c.in_ok-replace.ensures.is c.in_ok-replace.ensures.from
    (installs_so opening c.args.self.now c.keep_step.new.self c.lose.new.self c.replace.new.self c.args.event c.in_ok-keep_step.field-0 c.args.applied c.requires.going c.requires.led c.requires.idle c.requires.brings
    c.in_ok-keep_step.ensures.stepped c.in_ok-keep_step.ensures.posts c.in_ok-keep_step.ensures.offices c.in_ok-lose.ensures.loses c.lose.ensures.rest c.lose.ensures.replica c.lose.ensures.mail c.lose.ensures.office.1
    c.in_ok-replace.ensures.is c.in_ok-replace.ensures.applied c.in_ok-replace.ensures.machine
    (placed_clients c.lose.new.self c.replace.new.self c.args.applied c.in_ok-replace.ensures.is c.in_ok-replace.ensures.applied
    (c.clients_change_databases.ensures.clients c.lose.new.self.clients c.lose.new.self.applied.machine c.args.applied.machine c.in_ok-lose.ensures.unmarked c.in_ok-lose.ensures.stand)))
    (follows_behind_snapshot c.args.self.now c.keep_step.new.self c.args.event c.args.applied c.requires.going c.requires.brings c.in_ok-keep_step.ensures.stepped.node)
    c.in_ok-tell_servers.ensures.told c.in_ok-tell_servers.ensures.tells)
    c.look_at_servers.ensures.rest c.look_at_servers.ensures.serving

pub returns-in_err-keep_step-clause-stops : goal.returns-in_err-keep_step-clause-stops
returns-in_err-keep_step-clause-stops g c = λ opening has.
    failed c.from_residual.result
    (more g.D.Disk.tells (g.D.Disk.states c.keep_step.new.disk) (StopsIn (read_setup opening) (bytes_with c.args.event) c.args.self.now (input_of c.args.event)) (StopsInstalling (read_setup opening) c.args.self.now c.args.event)
    (λ kept s. in_install s) (c.in_err-keep_step.ensures.stops opening has))

pub returns-in_err-lose-clause-stops : goal.returns-in_err-lose-clause-stops
returns-in_err-lose-clause-stops g c = λ opening has.
    failed c.from_residual-in_err-lose.result
    (kept_finds g.D.Disk.tells (g.D.Disk.states c.keep_step.new.disk) c.keep_step.new.self.replica (StopsInstalling (read_setup opening) c.args.self.now c.args.event)
    (in_install (made_left (read_setup opening) c.args.self.now c.keep_step.new.self.replica c.args.event c.requires.going.holds.replica (brings_intake c.args.self.now.replica c.args.event c.args.applied c.requires.brings)
    c.in_ok-keep_step.ensures.stepped.node c.in_ok-keep_step.ensures.stepped.bytes))
    (c.in_ok-keep_step.ensures.stored has))

pub returns-in_err-replace-clause-stops : goal.returns-in_err-replace-clause-stops
returns-in_err-replace-clause-stops g c = λ opening has.
    failed c.from_residual-in_err-replace.result
    (kept_finds g.D.Disk.tells (g.D.Disk.states c.keep_step.new.disk) c.keep_step.new.self.replica (StopsInstalling (read_setup opening) c.args.self.now c.args.event)
    (in_install (made_left (read_setup opening) c.args.self.now c.keep_step.new.self.replica c.args.event c.requires.going.holds.replica (brings_intake c.args.self.now.replica c.args.event c.args.applied c.requires.brings)
    c.in_ok-keep_step.ensures.stepped.node c.in_ok-keep_step.ensures.stepped.bytes))
    (c.in_ok-keep_step.ensures.stored has))

pub returns-in_err-tell_servers-clause-stops : goal.returns-in_err-tell_servers-clause-stops
returns-in_err-tell_servers-clause-stops g c = λ opening has.
    failed c.from_residual-in_err-tell_servers.result
    (more g.D.Disk.tells (g.D.Disk.states c.tell_servers.new.disk) (StopsTelling (read_setup opening) (bytes_in c.requires.brings.message.what) c.replace.new.self) (StopsInstalling (read_setup opening) c.args.self.now c.args.event)
    (λ kept s. behind_placing (read_setup opening) c.args.self.now c.replace.new.self c.args.event c.requires.brings.message kept c.requires.brings.event_is
    (installs_so opening c.args.self.now c.keep_step.new.self c.lose.new.self c.replace.new.self c.args.event c.in_ok-keep_step.field-0 c.args.applied c.requires.going c.requires.led c.requires.idle c.requires.brings
    c.in_ok-keep_step.ensures.stepped c.in_ok-keep_step.ensures.posts c.in_ok-keep_step.ensures.offices c.in_ok-lose.ensures.loses c.lose.ensures.rest c.lose.ensures.replica c.lose.ensures.mail c.lose.ensures.office.1
    c.in_ok-replace.ensures.is c.in_ok-replace.ensures.applied c.in_ok-replace.ensures.machine
    (placed_clients c.lose.new.self c.replace.new.self c.args.applied c.in_ok-replace.ensures.is c.in_ok-replace.ensures.applied
    (c.clients_change_databases.ensures.clients c.lose.new.self.clients c.lose.new.self.applied.machine c.args.applied.machine c.in_ok-lose.ensures.unmarked c.in_ok-lose.ensures.stand)))
    (subst (λ (r : ReplicaValue). StopsIn (read_setup opening) (bytes_with c.args.event) c.args.self.now (input_of c.args.event) (kept_of r)) (sym (ap (λ (n : Running). n.replica) c.in_ok-replace.ensures.is ∙ c.lose.ensures.replica))
    (made_left (read_setup opening) c.args.self.now c.keep_step.new.self.replica c.args.event c.requires.going.holds.replica (brings_intake c.args.self.now.replica c.args.event c.args.applied c.requires.brings)
    c.in_ok-keep_step.ensures.stepped.node c.in_ok-keep_step.ensures.stepped.bytes)) s)
    (c.in_err-tell_servers.ensures.stops opening (bytes_in c.requires.brings.message.what)
    (subst (λ (r : ReplicaValue). IsKept g.D.Disk.tells (g.D.Disk.states c.keep_step.new.disk) r) (sym (ap (λ (n : Running). n.replica) c.in_ok-replace.ensures.is ∙ c.lose.ensures.replica)) (c.in_ok-keep_step.ensures.stored has))))

pub returns-in_err-look_at_servers-clause-stops : goal.returns-in_err-look_at_servers-clause-stops
returns-in_err-look_at_servers-clause-stops g c = λ opening has.
    failed c.from_residual-in_err-look_at_servers.result
    (kept_finds g.D.Disk.tells (g.D.Disk.states c.tell_servers.new.disk) c.tell_servers.new.self.replica (StopsInstalling (read_setup opening) c.args.self.now c.args.event)
    (behind_placed (read_setup opening) c.args.self.now c.replace.new.self c.tell_servers.new.self c.args.event c.requires.brings.message c.requires.brings.event_is
    (installs_so opening c.args.self.now c.keep_step.new.self c.lose.new.self c.replace.new.self c.args.event c.in_ok-keep_step.field-0 c.args.applied c.requires.going c.requires.led c.requires.idle c.requires.brings
    c.in_ok-keep_step.ensures.stepped c.in_ok-keep_step.ensures.posts c.in_ok-keep_step.ensures.offices c.in_ok-lose.ensures.loses c.lose.ensures.rest c.lose.ensures.replica c.lose.ensures.mail c.lose.ensures.office.1
    c.in_ok-replace.ensures.is c.in_ok-replace.ensures.applied c.in_ok-replace.ensures.machine
    (placed_clients c.lose.new.self c.replace.new.self c.args.applied c.in_ok-replace.ensures.is c.in_ok-replace.ensures.applied
    (c.clients_change_databases.ensures.clients c.lose.new.self.clients c.lose.new.self.applied.machine c.args.applied.machine c.in_ok-lose.ensures.unmarked c.in_ok-lose.ensures.stand)))
    (subst (λ (r : ReplicaValue). StopsIn (read_setup opening) (bytes_with c.args.event) c.args.self.now (input_of c.args.event) (kept_of r)) (sym (ap (λ (n : Running). n.replica) c.in_ok-replace.ensures.is ∙ c.lose.ensures.replica))
    (made_left (read_setup opening) c.args.self.now c.keep_step.new.self.replica c.args.event c.requires.going.holds.replica (brings_intake c.args.self.now.replica c.args.event c.args.applied c.requires.brings)
    c.in_ok-keep_step.ensures.stepped.node c.in_ok-keep_step.ensures.stepped.bytes)) (tells_or c.replace.new.self c.tell_servers.new.self c.in_ok-tell_servers.ensures.tells))
    (c.in_ok-tell_servers.ensures.stored
    (subst (λ (r : ReplicaValue). IsKept g.D.Disk.tells (g.D.Disk.states c.keep_step.new.disk) r) (sym (ap (λ (n : Running). n.replica) c.in_ok-replace.ensures.is ∙ c.lose.ensures.replica)) (c.in_ok-keep_step.ensures.stored has))))

pub returns-clause-exact : goal.returns-clause-exact
returns-clause-exact g c = λ s from.
    installs_exactly c.args.event _ s c.args.applied c.args.self.now c.keep_step.new.self c.lose.new.self c.replace.new.self c.tell_servers.new.self c.look_at_servers.new.self
    c.in_ok-keep_step.ensures.exact c.in_ok-lose.ensures.exact c.in_ok-replace.ensures.is c.in_ok-replace.ensures.applied
    (c.clients_change_databases.ensures.clients c.lose.new.self.clients c.lose.new.self.applied.machine c.args.applied.machine c.in_ok-lose.ensures.unmarked c.in_ok-lose.ensures.stand)
    c.in_ok-replace.ensures.members c.in_ok-tell_servers.ensures.exact c.in_ok-look_at_servers.ensures.exact from
