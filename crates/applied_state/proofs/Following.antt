-- What is applied follows the front of a log, entry by entry.
use Rattle.std.proofs.Common.{◌≡◌, ℕ, zero, suc, take, ◌+◌, cond, List, [], ◌∷◌, ◌++◌, length, Option, Some, None, Result, Ok, Err, refl, sym, ap, subst, ◌∙◌, arith, ◌&&◌}
use Rattle.std.proofs.lemmas.List.{length_push, map-append}
use Rattle.database_state.specs.declared.database.Database.{Database}
use Rattle.database_state.specs.Machines.{IsMachine}
use Rattle.log_commands.specs.declared.command.Command.{Command}
use Rattle.log_commands.specs.declared.fault.CommandFault.{CommandFault}
use Rattle.log_commands.specs.Reading.{command_of}
use Rattle.raft_spec.specs.Log as raft
use Rattle.raft_spec.specs.Node.{Server}
use Rattle.raft_messages.specs.Servers.{configuration_of}
use Rattle.raft_safety.specs.Members.{Setup, is_change, reads, servers_read, changes, configuration_from, configuration}
use Rattle.raft_membership.specs.Members.{read_setup}
use Rattle.session_spec.specs.Entries.{Content, Does, Configures, Other, Entry}
use Rattle.session_spec.specs.Machine.{Machine, machine_of, done, files}
use Rattle.session_spec.specs.Restarts.{restarted}
use Rattle.session_spec.specs.Seen.{command_seen, servers_seen, content_seen, entry_seen, log_seen}
use Rattle.session_spec.proofs.Following.{machines_follow_hold}
use Rattle.session_spec.proofs.RestartedEvents.{commands_restart_hold}
use Rattle.session_safety.proofs.Files.{files_append}
use Rattle.applied_state.specs.declared.applied.Applied.{Applied}
use Rattle.applied_state.specs.Laws.{LivesAreShown}
use Rattle.applied_state.specs.Applied.{databases_after, servers_after, with_entry, ShowsFiles, HasApplied}

-- ---- servers

conf_append : (setup : Setup) (servers : List Server) (xs ys : List raft.Entry) → configuration_from setup servers (xs ++ ys) ≡ configuration_from setup (configuration_from setup servers xs) ys
conf_append setup servers [] ys = refl
conf_append setup servers (e ∷ xs) ys = conf_append setup (cond (changes setup e) (servers_read (setup.read e.bytes)) servers) xs ys

by_command : (servers : List Server) (r : Result Command CommandFault) → servers ≡ servers_after servers (command_seen r)
by_command servers (Ok command) = refl
by_command servers (Err fault) = refl

by_change : (servers : List Server) (o : Option (List Server)) → cond (reads o) (servers_read o) servers ≡ servers_after servers (servers_seen o)
by_change servers None = refl
by_change servers (Some others) = refl

one_entry : (servers : List Server) (kind : raft.EntryKind) (bytes : List ℕ) →
    cond (is_change kind && reads (configuration_of bytes)) (servers_read (configuration_of bytes)) servers ≡ servers_after servers (content_seen kind bytes)
one_entry servers raft.Command bytes = by_command servers (command_of bytes)
one_entry servers raft.Barrier bytes = refl
one_entry servers raft.Change bytes = by_change servers (configuration_of bytes)

configured : (opening : List Server) (front : List raft.Entry) (e : raft.Entry) →
    configuration (read_setup opening) (front ++ e ∷ []) ≡ servers_after (configuration (read_setup opening) front) (entry_seen e).content
unfolding configuration
configured opening front e =
    conf_append (read_setup opening) opening front (e ∷ [])
    ∙ one_entry (configuration_from (read_setup opening) opening front) e.kind e.bytes

-- ---- databases

one_done : (ds : List Database) (content : Content) → IsMachine ds → done (machine_of ds) content ≡ machine_of (databases_after ds content)
one_done ds (Does command) stand = sym (machines_follow_hold ds command stand)
one_done ds (Configures servers) stand = refl
one_done ds Other stand = refl

again : (lacks since : List ℕ → ℕ) (m : Machine) (content : Content) → (later : List ℕ → ℕ) × (done (restarted lacks since m) content ≡ restarted lacks later (done m content))
again lacks since m (Does command) = commands_restart_hold lacks since m command
again lacks since m (Configures servers) = (since, refl)
again lacks since m Other = (since, refl)

seen_more : (front : List raft.Entry) (e : raft.Entry) → files (log_seen (front ++ e ∷ [])) ≡ done (files (log_seen front)) (entry_seen e).content
seen_more front e = ap files (map-append entry_seen front (e ∷ [])) ∙ files_append (log_seen front) (entry_seen e ∷ [])

shows_more : (lacks : List ℕ → ℕ) (front : List raft.Entry) (e : raft.Entry) (ds : List Database) → IsMachine ds → ShowsFiles lacks (files (log_seen front)) ds
    → ShowsFiles lacks (files (log_seen (front ++ e ∷ []))) (databases_after ds (entry_seen e).content)
shows_more lacks front e ds stand shows =
    let content = (entry_seen e).content in
    let later = again lacks shows.0 (machine_of ds) content in (
      later.0,
      seen_more front e ∙ ap (λ (m : Machine). done m content) shows.1 ∙ later.1 ∙ ap (restarted lacks later.0) (one_done ds content stand),
    )

-- ---- one more entry

pub follows_one : (e : raft.Entry) (a : Applied) → IsMachine a.machine → (opening : List Server) (lacks : List ℕ → ℕ) (front : List raft.Entry) → HasApplied opening lacks front a → HasApplied opening lacks (front ++ e ∷ []) (with_entry a e)
follows_one e a stand opening lacks front h =
    let count : length (front ++ e ∷ []) ≡ length front + 1 = length_push front e in
    let same : a.index ≡ length front = h.index in
    record {
      index = omega (arith, count, same);
      servers = ap (λ (servers : List Server). servers_after servers (entry_seen e).content) h.servers ∙ sym (configured opening front e);
      databases = shows_more lacks front e a.machine stand h.databases;
    }

-- ---- the first one

pub nothing_applied : (servers : List Server) (ds : List Database) → ds ≡ [] → HasApplied servers (λ name. 0) [] (record { machine = ds; servers = servers; index = 0 })
unfolding configuration files
nothing_applied servers ds none = subst (λ (xs : List Database). HasApplied servers (λ name. 0) [] (record { machine = xs; servers = servers; index = 0 })) (sym none)
    (record { index = refl; servers = refl; databases = ((λ name. 0), refl) })

-- ---- the databases of a life

seen_front : (n : ℕ) (log : List raft.Entry) → log_seen (take n log) ≡ take n (log_seen log)
seen_front zero log = refl
seen_front (suc n) [] = refl
seen_front (suc n) (e ∷ log) = ap (λ (es : List Entry). entry_seen e ∷ es) (seen_front n log)

pub lives_are_shown_hold : LivesAreShown
lives_are_shown_hold opening lacks log w a same h =
    subst (λ (es : List Entry). ShowsFiles lacks (files es) a.machine) (seen_front w.applied log ∙ ap (take w.applied) (sym same)) h.databases
