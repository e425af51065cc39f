-- What an entry, a leader's duties and an own snapshot make of what decides at a node.
use Rattle.std.proofs.Common.{rules, deque_len, ◌≡◌, ◌≢◌, ◌<◌, ◌≤◌, ◌-◌, ℕ, zero, suc, Bool, true, false, true≢false, cond, List, [], ◌∷◌, ◌++◌, length, drop, get_or, Option, Some, None, Ok, Err, Result, refl, sym, ap, subst, ◌∙◌, arith}
use Rattle.std.specs.Prelude.{◌==◌, ◌&&◌, ◌+◌, OnOk, not, is_none, is_some, slice_index_or}
use Rattle.std.specs.List.{list_all, slice_get}
use Rattle.std.proofs.lemmas.Bool.{and_left, and_right, eqb-true, eq-eqb, ne_eqb}
use Rattle.std.proofs.lemmas.List.{drop_at, length-append, length-replicate}
use Rattle.dq_base.specs.declared.pages.PageSet.{PageSet}
use Rattle.database_state.specs.declared.database.Database.{Database}
use Rattle.database_state.specs.Databases.{named, tx_pending}
use Rattle.database_state.specs.Machines.{IsMachine, names_of}
use Rattle.session_spec.specs.Entries.{Content, Does, Configures, Other, written}
use Rattle.session_spec.specs.Machine.{base_of, machine_of, done}
use Rattle.session_spec.specs.Seen.{entry_seen, log_seen}
use Rattle.session_spec.proofs.Following.{machines_follow_hold}
use Rattle.sql_engine.specs.declared.kind.EngineKind.{EngineKind}
use Rattle.sql_engine.specs.Meanings.{Meaning, Told}
use Rattle.session_gateway.specs.Later.{first_due}
use Rattle.client_sessions.specs.Calls.{landed_at, told_at, told_conns, sent}
use Rattle.client_sessions.specs.Clients.{Clients}
use Rattle.client_sessions.specs.Seen.{clients_of}
use Rattle.raft_spec.specs.Compaction.{compacted}
use Rattle.raft_spec.specs.Log.{Entry}
use Rattle.raft_spec.specs.Node.{Node}
use Rattle.raft_spec.specs.NodeValues.{NodeValue, node_of}
use Rattle.raft_core.specs.declared.event.RaftEvent.{RaftEvent}
use Rattle.raft_core.specs.declared.event.RaftEvent.TheVariants.{Propose}
use Rattle.raft_membership.specs.Members.{settled}
use Rattle.raft_log.specs.Compacting.{is_due}
use Rattle.raft_messages.specs.declared.message.RaftMessage.{RaftMessage}
use Rattle.store_laws.specs.Store.{Snap}
use Rattle.raft_on_disk.specs.Letters.{Tells}
use Rattle.raft_on_disk.specs.Mails.{MailValue, all_posted}
use Rattle.raft_on_disk.specs.Replicas.{ReplicaValue, IsWhole, stepped, said, snapped, own_snap}
use Rattle.applied_state.specs.declared.applied.Applied.{Applied}
use Rattle.applied_state.specs.declared.effect.AppliedEffect.{AppliedEffect}
use Rattle.applied_state.specs.declared.effect.AppliedEffect.TheVariants as effects
use Rattle.applied_state.specs.declared.leadership.Leadership.{Leadership}
use Rattle.applied_state.specs.Applied.{databases_after, with_entry}
use Rattle.applied_state.specs.Content.{effect_of, effect_of_command}
use Rattle.applied_state.specs.Office.{owed, office_after, serves}
use Rattle.applied_state.specs.Snapshot.{snapshot_bytes, contents_in}
use Rattle.log_commands.specs.declared.command.Command.{Command}
use Rattle.log_commands.specs.declared.command.Command.TheVariants.{OpenDb, Frames, Undo, Checkpoint}
use Rattle.node_core.specs.declared.running.Running.{Running}
use Rattle.node_core.specs.Plain.{plain_gate}
use Rattle.node_core.specs.Core.{Core, core_of, looked, showing_servers, entry_at, entered, shown, landing, entry_done, is_calm, none_due, is_settled, serving_from, giving, owing, duty_of, dutiful}
use Rattle.node_core.specs.Exact as whole_turns
use Rattle.node_core.specs.Exact.{ExactWaitingQueries, ExactEntry, MayCompact}
use Rattle.node_core.specs.ExactParts.{Answered, ExactTake, entered_shown, ExactCompactionIfDue}
use Rattle.node_core.specs.Values.{clients_in}
use Rattle.node_core.proofs.ApplyingTurns.{entry_read}
use Rattle.node_core.proofs.PlainGates.{applied_plain, told_plain}

-- ---- an entry

pub entry_made : (ds : List Database) (content : Content) → IsMachine ds → machine_of (databases_after ds content) ≡ done (machine_of ds) content
entry_made ds (Does command) stand = machines_follow_hold ds command stand
entry_made ds (Configures servers) stand = refl
entry_made ds Other stand = refl

pub made_by_entry : {E : Type 0} (r : Result AppliedEffect E) (old new : Applied) (entry : Entry) → IsMachine old.machine → OnOk r (new ≡ with_entry old entry)
    → OnOk r (machine_of new.machine ≡ done (machine_of old.machine) (entry_seen entry).content)
made_by_entry (Ok effect) old new entry stand is = ap (λ (a : Applied). machine_of a.machine) is ∙ entry_made old.machine (entry_seen entry).content stand
made_by_entry (Err fault) old new entry stand is = tt

-- what is held is the log after the cut
held_is : (h : NodeValue) → drop h.base (node_of h).log ≡ h.entries
held_is h = drop_at (compacted h.snapshot h.base) h.entries h.base (length-replicate h.base _)

-- the entry after the applied ones, as the next index finds it
pub next_found : (h : NodeValue) (applied index : ℕ) (e : Entry) → index ≡ suc applied → (h.base < index) × (index ≤ length (node_of h).log) → e ≡ slice_index_or h.entries (index - h.base - 1) e
    → slice_get h.entries (applied - h.base) ≡ Some e
next_found h applied index e is held found =
    let long : length (node_of h).log ≡ length (compacted h.snapshot h.base) + length h.entries = length-append (compacted h.snapshot h.base) h.entries in
    let cut : length (compacted h.snapshot h.base) ≡ h.base = length-replicate h.base _ in
    let under : h.base < index = held.0 in
    let within : index ≤ length (node_of h).log = held.1 in
    entry_read h.entries index applied h.base e is (omega (arith, is, under)) (omega (arith, long, cut, under, within)) found

next_entry : (n : Running) (entry : Entry) → slice_get n.replica.raft.entries (n.applied.index - n.replica.raft.base) ≡ Some entry → entry_at (core_of n) ≡ Some entry
unfolding core_of
next_entry n entry is = ap (λ (es : List Entry). slice_get es (n.applied.index - n.replica.raft.base)) (held_is n.replica.raft) ∙ is

-- only a configuration is told as one
not_configured : (content : Content) → effect_of content ≢ effects.Configured → (w : Core) → shown content w ≡ w
not_configured (Does command) apart w = refl
not_configured (Configures servers) apart w = absurd (apart refl)
not_configured Other apart w = refl

configured : (content : Content) → effect_of content ≡ effects.Configured → (w : Core) → shown content w ≡ showing_servers w
configured (Does command) is w = absurd (by command is)
  where
    by : (c : Command) → effect_of_command c ≡ effects.Configured → ⊥
    by (OpenDb name) is = cc
    by (Frames name tx truncate true pages) is = cc
    by (Frames name tx truncate false pages) is = cc
    by (Undo tx) is = cc
    by (Checkpoint name) is = cc
configured (Configures servers) is w = refl
configured Other is w = absurd cc

-- The entry is applied, and the sessions' view has not followed yet.
entered_core : (old new : Running) (entry : Entry) → new.applied ≡ with_entry old.applied entry → machine_of new.applied.machine ≡ done (machine_of old.applied.machine) (entry_seen entry).content
    → clients_in new ≡ clients_in old → new.members ≡ settled old.members (suc old.applied.index) → new ≡ record old { applied = new.applied; members = new.members } → core_of new ≡ entered (entry_seen entry).content (core_of old)
unfolding core_of
entered_core old new entry applied files same members is =
    let clients : clients_of old.clients new.applied.machine ≡ clients_in old = sym (ap clients_in is) ∙ same in
    ap core_of is ∙ (λ i. record (core_of old) {
      applied = (applied i).index;
      servers = (applied i).servers;
      files = files i;
      members = members i;
      sessions = plain_gate (clients i).sessions;
      streams = (clients i).streams;
      turns = (clients i).turns;
    })

-- Nothing else follows where no configuration was applied.
pub takes_other : (old new : Running) (entry : Entry) (effect : AppliedEffect) → slice_get old.replica.raft.entries (old.applied.index - old.replica.raft.base) ≡ Some entry → effect ≡ effect_of (entry_seen entry).content → effect ≢ effects.Configured
    → new.applied ≡ with_entry old.applied entry → machine_of new.applied.machine ≡ done (machine_of old.applied.machine) (entry_seen entry).content → clients_in new ≡ clients_in old
    → new.members ≡ settled old.members (suc old.applied.index) → new ≡ record old { applied = new.applied; members = new.members } → ExactTake entered_shown (core_of old) (core_of new) effect
takes_other old new entry effect is told apart applied files same members rest =
    let content = (entry_seen entry).content in
    record {
      entry = entry;
      is = next_entry old entry is;
      told = told;
      by = entered_core old new entry applied files same members rest ∙ sym (not_configured content (λ e. apart (told ∙ e)) (entered content (core_of old)));
    }

-- the sessions see its servers where one was
pub takes_servers : (old mid new : Running) (entry : Entry) (effect : AppliedEffect) → slice_get old.replica.raft.entries (old.applied.index - old.replica.raft.base) ≡ Some entry → effect ≡ effect_of (entry_seen entry).content → effect ≡ effects.Configured
    → mid.applied ≡ with_entry old.applied entry → machine_of mid.applied.machine ≡ done (machine_of old.applied.machine) (entry_seen entry).content → clients_in mid ≡ clients_in old
    → mid.members ≡ settled old.members (suc old.applied.index) → mid ≡ record old { applied = mid.applied; members = mid.members } → core_of new ≡ showing_servers (core_of mid) → ExactTake entered_shown (core_of old) (core_of new) effect
takes_servers old mid new entry effect is told one applied files same members rest seen =
    let content = (entry_seen entry).content in
    record {
      entry = entry;
      is = next_entry old entry is;
      told = told;
      by = seen ∙ ap showing_servers (entered_core old mid entry applied files same members rest) ∙ sym (configured content (sym told ∙ one) (entered content (core_of old)));
    }

-- whoever waited for it is informed
pub landed_core : (old new : Running) → clients_in new ≡ landed_at old.applied.index (clients_in old) → new.outs.replies.items ≡ old.outs.replies.items ++ told_at old.applied.index (clients_in old) → new.outs.closed.items ≡ old.outs.closed.items
    → machine_of new.applied.machine ≡ machine_of old.applied.machine → new ≡ record old { clients = new.clients; applied = record old.applied { machine = new.applied.machine }; outs = new.outs } → core_of new ≡ landing (core_of old)
unfolding core_of
landed_core old new landed said closed files is =
    let g = (clients_in old).sessions in
    let index = old.applied.index in
    ap core_of is ∙ (λ i. record (core_of old) {
      files = files i;
      sessions = (ap (λ (k : Clients). plain_gate k.sessions) landed ∙ applied_plain index g) i;
      streams = (landed i).streams;
      turns = (ap (λ (k : Clients). k.turns) landed ∙ ap (λ told. (clients_in old).turns ++ told_conns told) (sym (told_plain index g))) i;
      replies = (said ∙ ap (λ told. old.outs.replies.items ++ sent told) (sym (told_plain index g))) i;
      closed = closed i;
    })

pub taken_and_told : (old mid new : Running) (effect : AppliedEffect) → ExactTake entered_shown (core_of old) (core_of mid) effect → core_of new ≡ landing (core_of mid) → ExactTake entry_done (core_of old) (core_of new) effect
taken_and_told old mid new effect t land = record { entry = t.entry; is = t.is; told = t.told; by = land ∙ ap landing t.by }

pub entry_by : (m : Meaning) (kind : EngineKind) (before now : Option Told) (old one two new : Running) (effect : AppliedEffect) → ExactTake entry_done (core_of old) (core_of one) effect
    → Answered before now (ExactWaitingQueries m kind (first_due (core_of one).sessions) (core_of one) (core_of two)) → core_of new ≡ dutiful effect (core_of two) → Answered before now (ExactEntry m kind (core_of old) (core_of new))
entry_by m kind before now old one two new effect t ran owes = record {
  answers = ran.answers;
  told = ran.told;
  by = record {
    entry = t.entry;
    is = t.is;
    last = core_of two;
    runs = subst (λ (c : Core). ExactWaitingQueries m kind (first_due c.sessions) c (core_of two) ran.answers) t.by ran.by;
    owes = owes ∙ ap (λ (e : AppliedEffect). dutiful e (core_of two)) t.told;
  };
}

-- ---- no pages are pending

none_pending : (o : Option Database) → is_none (base_of o).pending ≡ is_none (tx_pending o)
none_pending None = refl
none_pending (Some d) = by d.pending
  where
    by : (o : Option PageSet) → is_none o ≡ is_none (tx_pending (Some (record d { pending = o })))
    by None = refl
    by (Some set) = refl

-- a database of these
abbrev is_quiet : List Database → List ℕ → Bool
is_quiet ds name = is_none (base_of (named name ds)).pending

quiet_by : (ds : List Database) (xs : List Database) (place : ℕ) (d : Database) → place < length xs → is_quiet ds (get_or xs place d).name ≡ false → list_all (is_quiet ds) (names_of xs) ≡ false
quiet_by ds [] place d within off = absurd (omega (arith, within))
quiet_by ds (x ∷ xs) zero d within off = and_left (is_quiet ds x.name) (list_all (is_quiet ds) (names_of xs)) off
quiet_by ds (x ∷ xs) (suc place) d within off = and_right (is_quiet ds x.name) (list_all (is_quiet ds) (names_of xs)) (quiet_by ds xs place d (omega (arith, within)) off)

not_none : (o : Option ℕ) → is_some o ≡ true → is_none o ≡ false
not_none None e = absurd (true≢false (sym e))
not_none (Some n) e = refl

pub not_calm : (ds : List Database) (place : ℕ) (d e : Database) (pending : Option ℕ) → place < length ds → d ≡ get_or ds place e → pending ≡ tx_pending (named d.name ds) → is_some pending ≡ true → is_calm (machine_of ds) ≡ false
not_calm ds place d e pending within is tx there =
    quiet_by ds ds place e within
    (subst (λ (x : Database). is_quiet ds x.name ≡ false) is (none_pending (named d.name ds) ∙ ap is_none (sym tx) ∙ not_none pending there))

all_quiet : (ds : List Database) (names : List (List ℕ)) → ((name : List ℕ) → (base_of (named name ds)).pending ≡ None) → list_all (is_quiet ds) names ≡ true
all_quiet ds [] calm = refl
all_quiet ds (n ∷ names) calm = λ i. is_none (calm n i) && all_quiet ds names calm i

pub calm_is : (ds : List Database) → ((name : List ℕ) → ((machine_of ds).base name).pending ≡ None) → is_calm (machine_of ds) ≡ true
calm_is ds calm = all_quiet ds (names_of ds) calm

-- ---- a node that is settled

settled_core : (n : Running) → is_settled (core_of n) ≡ (none_due n.due.items && (n.applied.index == n.view.last) && is_calm (machine_of n.applied.machine))
unfolding core_of
settled_core n = refl

due_some : (es : List RaftEvent) → (length es == 0) ≡ false → none_due es ≡ false
due_some [] e = absurd (true≢false e)
due_some (x ∷ es) e = refl

due_none : (es : List RaftEvent) → (length es == 0) ≡ true → none_due es ≡ true
due_none [] e = refl
due_none (x ∷ es) e = absurd (cc (eqb-true (suc (length es)) 0 e))

unsettled_due : (n : Running) → (length n.due.items == 0) ≡ false → false ≡ is_settled (core_of n)
unsettled_due n e =
    sym (settled_core n ∙ and_left (none_due n.due.items && (n.applied.index == n.view.last)) (is_calm (machine_of n.applied.machine)) (and_left (none_due n.due.items) (n.applied.index == n.view.last) (due_some n.due.items e)))

pub unsettled_queue : (n : Running) → (deque_len n.due == 0) ≡ false → false ≡ is_settled (core_of n)
unsettled_queue n e =
    let long : deque_len n.due ≡ length n.due.items = search rules in
    unsettled_due n (ap (λ (k : ℕ). k == 0) (sym long) ∙ e)

pub unsettled_last : (n : Running) → n.applied.index ≢ n.view.last → false ≡ is_settled (core_of n)
unsettled_last n e =
    sym (settled_core n ∙ and_left (none_due n.due.items && (n.applied.index == n.view.last)) (is_calm (machine_of n.applied.machine)) (and_right (none_due n.due.items) (n.applied.index == n.view.last) (ne_eqb n.applied.index n.view.last e)))

settled_if : (n : Running) (calm : Bool) → (length n.due.items == 0) ≡ true → n.applied.index ≡ n.view.last → calm ≡ is_calm (machine_of n.applied.machine) → calm ≡ is_settled (core_of n)
settled_if n calm idle all is =
    is
    ∙ (λ i. sym (due_none n.due.items idle) i && sym (eq-eqb n.applied.index n.view.last all) i && is_calm (machine_of n.applied.machine))
    ∙ sym (settled_core n)

pub settled_queue : (n : Running) (calm : Bool) → (deque_len n.due == 0) ≡ true → n.applied.index ≡ n.view.last → calm ≡ is_calm (machine_of n.applied.machine) → calm ≡ is_settled (core_of n)
settled_queue n calm e all is =
    let long : deque_len n.due ≡ length n.due.items = search rules in
    settled_if n calm (ap (λ (k : ℕ). k == 0) (sym long) ∙ e) all is

-- ---- it serves

serving_core : (old : Running) → core_of (record old { view = record old.view { serving = true } }) ≡ record (core_of old) { view = record (core_of old).view { serving = true } }
unfolding core_of
serving_core old = refl

serving_view : (n : Running) → (core_of n).view.serving ≡ n.view.serving
unfolding core_of
serving_view n = refl

serves_if : (may serving ready : Bool) (w : Core) → w.view.serving ≡ serving → is_settled w ≡ ready → serving_from may w ≡ cond (may && not serving && ready) (record w { view = record w.view { serving = true } }) w
serves_if may serving ready w is so = λ i. cond (may && not (is i) && so i) (record w { view = record w.view { serving = true } }) w

-- it must not, or it does so already, or it is not settled
pub serves_not : (n : Running) (may : Bool) → may ≡ false → core_of n ≡ serving_from may (core_of n)
serves_not n may off = sym (ap (λ (b : Bool). serving_from b (core_of n)) off)

pub serves_already : (n : Running) (may : Bool) → n.view.serving ≡ true → core_of n ≡ serving_from may (core_of n)
serves_already n may does =
    sym (serves_if may true (is_settled (core_of n)) (core_of n) (serving_view n ∙ does) refl ∙ by may)
  where
    by : (b : Bool) → cond (b && false && is_settled (core_of n)) (record (core_of n) { view = record (core_of n).view { serving = true } }) (core_of n) ≡ core_of n
    by true = refl
    by false = refl

pub serves_unsettled : (n : Running) (may ready : Bool) → ready ≡ is_settled (core_of n) → ready ≡ false → core_of n ≡ serving_from may (core_of n)
serves_unsettled n may ready is off =
    sym (serves_if may (core_of n).view.serving false (core_of n) refl (sym is ∙ off) ∙ by may (core_of n).view.serving)
  where
    by : (b c : Bool) → cond (b && not c && false) (record (core_of n) { view = record (core_of n).view { serving = true } }) (core_of n) ≡ core_of n
    by true true = refl
    by true false = refl
    by false true = refl
    by false false = refl

pub serves_now : (n : Running) (may ready : Bool) → may ≡ true → n.view.serving ≡ false → ready ≡ is_settled (core_of n) → ready ≡ true
    → core_of (record n { view = record n.view { serving = true } }) ≡ serving_from may (core_of n)
serves_now n may ready does off is so =
    serving_core n ∙ sym (serves_if may false true (core_of n) (serving_view n ∙ off) (sym is ∙ so) ∙ (λ i. cond (does i && true && true) (record (core_of n) { view = record (core_of n).view { serving = true } }) (core_of n)))

-- ---- what a leader owes

idle_duty : (o : Option Leadership) (effect : AppliedEffect) (w : Core) → o ≡ None → duty_of o effect w ≡ w
idle_duty None effect w e = refl
idle_duty (Some office) effect w e = absurd cc

pub duty_none : (n : Running) (effect : AppliedEffect) → n.office ≡ None → core_of n ≡ dutiful effect (core_of n)
unfolding core_of
duty_none n effect none = sym (idle_duty n.office effect (core_of n) none)

-- in its leadership, after an entry
office_core : (old mid : Running) (office : Leadership) → mid ≡ record old { office = Some office } → core_of mid ≡ record (core_of old) { office = Some office }
unfolding core_of
office_core old mid office set = ap core_of set

owes_core : (old : Running) (office : Leadership) (effect : AppliedEffect) (rest : List Entry) → old.office ≡ Some office → rest ≡ drop old.applied.index (node_of old.replica.raft).log
    → dutiful effect (core_of old) ≡ owing (office_after office old.applied.index (machine_of old.applied.machine)) (owed office.phase old.applied.index (machine_of old.applied.machine) effect (log_seen rest))
    (record (core_of old) { office = Some (office_after office old.applied.index (machine_of old.applied.machine)) })
unfolding core_of
owes_core old office effect rest is tail =
    ap (λ (o : Option Leadership). duty_of o effect (core_of old)) is
    ∙ ap (λ (es : List Entry). owing (office_after office old.applied.index (machine_of old.applied.machine)) (owed office.phase old.applied.index (machine_of old.applied.machine) effect (log_seen es))
    (record (core_of old) { office = Some (office_after office old.applied.index (machine_of old.applied.machine)) })) (sym tail)

nothing_owed : (office : Leadership) (contents : List Content) (w : Core) → (length (written office.term contents) == 0) ≡ true → owing office contents w ≡ serving_from (serves office.phase) w
nothing_owed office [] w e = refl
nothing_owed office (c ∷ cs) w e = absurd (cc (eqb-true (suc (length (written office.term cs))) 0 e))

something_owed : (office : Leadership) (contents : List Content) (w : Core) → (length (written office.term contents) == 0) ≡ false → owing office contents w ≡ giving (Propose (written office.term contents)) w
something_owed office [] w e = absurd (true≢false e)
something_owed office (c ∷ cs) w e = refl

module _ (old mid new : Running) (office : Leadership) (effect : AppliedEffect) (rest : List Entry) (entries : List Entry) (is : old.office ≡ Some office) (tail : rest ≡ drop old.applied.index (node_of old.replica.raft).log)
    (set : mid ≡ record old { office = Some (office_after office old.applied.index (machine_of old.applied.machine)) })
    (are : entries ≡ written office.term (owed office.phase old.applied.index (machine_of old.applied.machine) effect (log_seen rest))) where
  abbrev later : Leadership
  later = office_after office old.applied.index (machine_of old.applied.machine)

  abbrev owes : List Content
  owes = owed office.phase old.applied.index (machine_of old.applied.machine) effect (log_seen rest)

  pub duty_serves : (may : Bool) → (length entries == 0) ≡ true → may ≡ serves later.phase → core_of new ≡ serving_from may (core_of mid) → core_of new ≡ dutiful effect (core_of old)
  duty_serves may none phase serves_on =
      serves_on
      ∙ (λ i. serving_from (phase i) (office_core old mid later set i))
      ∙ sym (nothing_owed later owes (record (core_of old) { office = Some later }) (sym (ap (λ (es : List Entry). length es == 0) are) ∙ none))
      ∙ sym (owes_core old office effect rest is tail)

  pub duty_gives : (length entries == 0) ≡ false → core_of new ≡ giving (Propose entries) (core_of mid) → core_of new ≡ dutiful effect (core_of old)
  duty_gives some gives =
      gives
      ∙ (λ i. giving (Propose (are i)) (office_core old mid later set i))
      ∙ sym (something_owed later owes (record (core_of old) { office = Some later }) (sym (ap (λ (es : List Entry). length es == 0) are) ∙ some))
      ∙ sym (owes_core old office effect rest is tail)

-- the entries after the applied ones, as they are found by the next index
pub tail_is : (rest log : List Entry) (index next : ℕ) → rest ≡ drop (next - 1) log → next ≡ suc index → rest ≡ drop index log
tail_is rest log index next is at = let n : next - 1 ≡ index = omega (arith, at) in subst (λ (k : ℕ). rest ≡ drop k log) n is

-- ---- an own snapshot

due_core : (n : Running) → is_due (core_of n).raft.snapshot (core_of n).applied ≡ is_due n.replica.raft.snapshot n.applied.index
unfolding core_of
due_core n = refl

servers_core : (n : Running) → (core_of n).members.servers ≡ (core_of n).servers → n.members.servers ≡ n.applied.servers
unfolding core_of
servers_core n e = e

pub none_due_yet : (n : Running) (due : Bool) → due ≡ is_due n.replica.raft.snapshot n.applied.index → due ≡ false → ExactCompactionIfDue (core_of n) (core_of n) false
none_due_yet n due is off = ((λ may. true≢false (sym may.0 ∙ due_core n ∙ sym is ∙ off)), refl)

pub servers_differ : (n : Running) → n.members.servers ≢ n.applied.servers → ExactCompactionIfDue (core_of n) (core_of n) false
servers_differ n differ = ((λ may. differ (servers_core n may.1)), refl)

may_compact : (n : Running) → is_due n.replica.raft.snapshot n.applied.index ≡ true → n.members.servers ≡ n.applied.servers → MayCompact (core_of n)
unfolding core_of
may_compact n due same = (due, same)

-- the step of Raft that is told of it
own_step : (n : Running) → n.replica.raft.id ≡ n.replica.id → (whole_turns.step_of (core_of n) (whole_turns.own_event (core_of n))).node ≡ stepped n.replica (snapped n.replica n.applied.index)
unfolding core_of
own_step n me = ap (λ (id : ℕ). (whole_turns.step_of (record (core_of n) { me = id }) (whole_turns.own_event (core_of n))).node) (sym me)

own_said : (n : Running) → n.replica.raft.id ≡ n.replica.id → (whole_turns.step_of (core_of n) (whole_turns.own_event (core_of n))).out ≡ said n.replica (snapped n.replica n.applied.index)
unfolding core_of
own_said n me = ap (λ (id : ℕ). (whole_turns.step_of (record (core_of n) { me = id }) (whole_turns.own_event (core_of n))).out) (sym me)

own_kept : (n : Running) (bytes : List ℕ) → bytes ≡ snapshot_bytes n.applied.servers (contents_in (machine_of n.applied.machine)) → own_snap n.replica n.applied.index bytes ≡ whole_turns.own_snap (core_of n)
unfolding core_of
own_kept n bytes is = ap (own_snap n.replica n.applied.index) is

compacted_core : (old : Running) (r : ReplicaValue) (mail : MailValue) (node : Node) (snap : Snap) (posted : MailValue) → r.id ≡ old.replica.id → node_of r.raft ≡ node → r.snap ≡ snap → mail ≡ posted
    → core_of (record old { replica = r; mail = mail }) ≡ record (core_of old) { raft = node; snap = snap; mail = posted }
unfolding core_of
compacted_core old r mail node snap posted id made kept sent = λ i. record (core_of old) { me = id i; raft = made i; snap = kept i; mail = sent i }

mail_core : (n : Running) → (core_of n).mail ≡ n.mail
unfolding core_of
mail_core n = refl

pub compacts_exact : (old new : Running) (r : ReplicaValue) (mail : MailValue) (bytes : List ℕ) (messages : List RaftMessage) (due : Bool) → IsWhole old.replica → due ≡ is_due old.replica.raft.snapshot old.applied.index → due ≡ true
    → old.members.servers ≡ old.applied.servers → bytes ≡ snapshot_bytes old.applied.servers (contents_in (machine_of old.applied.machine)) → node_of r.raft ≡ stepped old.replica (snapped old.replica old.applied.index)
    → r.id ≡ old.replica.id → r.snap ≡ own_snap old.replica old.applied.index bytes → Tells (said old.replica (snapped old.replica old.applied.index)) r.snap messages → mail ≡ all_posted old.mail messages
    → core_of new ≡ looked (core_of (record old { replica = r; mail = mail })) → ExactCompactionIfDue (core_of old) (core_of new) true
compacts_exact old new r mail bytes messages due whole is_due_now is same text made id snap tells posted sees =
    let kept : r.snap ≡ whole_turns.own_snap (core_of old) = snap ∙ own_kept old bytes text in
    let out = own_said old whole.id in (
      may_compact old (sym is_due_now ∙ is) same,
      record {
        posted = messages;
        tells = subst (λ (s : Snap). Tells (whole_turns.step_of (core_of old) (whole_turns.own_event (core_of old))).out s messages) kept
            (subst (λ o. Tells o r.snap messages) (sym out) tells);
        is = sees ∙ ap looked (compacted_core old r mail (whole_turns.step_of (core_of old) (whole_turns.own_event (core_of old))).node (whole_turns.own_snap (core_of old)) (all_posted (core_of old).mail messages) id
            (made ∙ sym (own_step old whole.id)) kept (posted ∙ ap (λ (m : MailValue). all_posted m messages) (sym (mail_core old))));
      },
    )
