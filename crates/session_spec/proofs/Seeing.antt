-- Entries that are written are seen again.
use Rattle.std.proofs.Common.{◌≡◌, ℕ, List, [], ◌∷◌, length, refl, sym, ap, ◌∙◌}
use Rattle.std.specs.Prelude.{◌==◌, Some, None, Ok}
use Rattle.std.proofs.lemmas.Bool.{cond-true, eq-eqb}
use Rattle.std.proofs.lemmas.List.{append-nil}
use Rattle.raft_spec.specs.Node.{Server}
use Rattle.raft_messages.specs.Servers.{servers_bytes, whole_servers, WritesServers}
use Rattle.raft_messages.proofs.ServerLaws.{servers_read}
use Rattle.log_commands.specs.Spelling.{command_bytes}
use Rattle.log_commands.proofs.CommandLaws.{command_read}
use Rattle.session_spec.specs.Entries.{Content, Does, Configures, Other, Entry, written_in, written}
use Rattle.session_spec.specs.Seen.{command_seen, servers_seen, entry_seen, log_seen, HasSpelling, WrittenIsSeen}

servers_are_seen : (servers : List Server) → WritesServers servers (servers_bytes servers) → whole_servers (servers_bytes servers) (Ok (servers, length (servers_bytes servers))) ≡ Some servers
servers_are_seen servers w = cond-true (length (servers_bytes servers) == length (servers_bytes servers)) (Some servers) None (eq-eqb _ _ refl)

is_seen : (term : ℕ) (content : Content) → HasSpelling content → entry_seen (written_in term content) ≡ record { term = term; content = content }
is_seen term (Does command) w = ap (λ r. record { term = term; content = command_seen r }) (command_read command (command_bytes command) w)
is_seen term (Configures servers) w =
    ap (λ r. record { term = term; content = servers_seen (whole_servers (servers_bytes servers) r) }) (servers_read (servers_bytes servers) servers (servers_bytes servers) [] w (sym (append-nil (servers_bytes servers))))
    ∙ ap (λ o. record { term = term; content = servers_seen o }) (servers_are_seen servers w)
is_seen term Other w = refl

pub written_is_seen_holds : WrittenIsSeen
written_is_seen_holds term [] all = refl
written_is_seen_holds term (content ∷ contents) all = ap (λ (e : Entry). e ∷ log_seen (written term contents)) (is_seen term content all.0) ∙ ap (λ (es : List Entry). record { term = term; content = content } ∷ es) (written_is_seen_holds term contents all.1)
