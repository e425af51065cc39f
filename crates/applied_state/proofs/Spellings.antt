-- What was read of an entry, and that it could be written again.
use Rattle.std.proofs.Common.{◌≡◌, ℕ, Bool, true, false, cond, List, take, length, Some, None, Result, Ok, Err, refl, sym, ap, subst}
use Rattle.std.specs.Prelude.{◌==◌}
use Rattle.log_commands.specs.declared.command.Command.{Command}
use Rattle.log_commands.specs.declared.fault.CommandFault.{CommandFault}
use Rattle.log_commands.specs.Numbers.{HasLowNumbers}
use Rattle.log_commands.specs.Spelling.{Writes, command_bytes}
use Rattle.log_commands.proofs.InOtherWords.{fit_low}
use Rattle.raft_spec.specs.Node.{Server}
use Rattle.raft_messages.specs.declared.servers_fault.ServersFault.{ServersFault}
use Rattle.raft_messages.specs.Servers.{servers_of, whole_servers, configuration_of, WritesServers}
use Rattle.session_spec.specs.Entries as seen
use Rattle.session_spec.specs.Seen.{command_seen, servers_seen, HasSpelling}
use Rattle.applied_state.specs.Reading.{command_read, servers_read}

some_same : {A : Type 0} {a b : A} → Some a ≡ Some b → a ≡ b
some_same q = cc

none_some : {A : Type 0} {a : A} → None ≡ Some a → ⊥
none_some q = cc

-- ---- commands

pub command_again : (command : Command) (bytes : List ℕ) → Writes command bytes → Writes command (command_bytes command)
command_again command bytes w = subst (Writes command) w.parts w

pub low_again : (command : Command) (bytes : List ℕ) → Writes command bytes → HasLowNumbers command
low_again command bytes w = fit_low command w.fits

pub command_is_seen : (command : Command) (r : Result Command CommandFault) → Some command ≡ command_read r → seen.Does command ≡ command_seen r
command_is_seen command (Ok other) e = ap seen.Does (some_same e)
command_is_seen command (Err fault) e = absurd (none_some (sym e))

pub nothing_is_seen : (r : Result Command CommandFault) → None ≡ command_read r → seen.Other ≡ command_seen r
nothing_is_seen (Ok command) e = absurd (none_some e)
nothing_is_seen (Err fault) e = refl

-- ---- changes

pub change_is_seen : (bytes : List ℕ) (read : List Server × ℕ) → Some read ≡ servers_read (servers_of bytes) → servers_seen (cond (read.1 == length bytes) (Some read.0) None) ≡ servers_seen (configuration_of bytes)
change_is_seen bytes read e = by (servers_of bytes) e
  where
    by : (r : Result (List Server × ℕ) ServersFault) → Some read ≡ servers_read r → servers_seen (cond (read.1 == length bytes) (Some read.0) None) ≡ servers_seen (whole_servers bytes r)
    by (Ok other) e = ap (λ (x : List Server × ℕ). servers_seen (cond (x.1 == length bytes) (Some x.0) None)) (some_same e)
    by (Err fault) e = absurd (none_some (sym e))

pub no_change_is_seen : (bytes : List ℕ) → None ≡ servers_read (servers_of bytes) → seen.Other ≡ servers_seen (configuration_of bytes)
no_change_is_seen bytes e = by (servers_of bytes) e
  where
    by : (r : Result (List Server × ℕ) ServersFault) → None ≡ servers_read r → seen.Other ≡ servers_seen (whole_servers bytes r)
    by (Ok read) e = absurd (none_some e)
    by (Err fault) e = refl

pub change_spelled : (b : Bool) (bytes : List ℕ) (servers : List Server) (place : ℕ) → WritesServers servers (take place bytes) → HasSpelling (servers_seen (cond b (Some servers) None))
change_spelled true bytes servers place w = subst (WritesServers servers) w.parts w
change_spelled false bytes servers place w = tt
