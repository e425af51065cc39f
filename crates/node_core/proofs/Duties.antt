-- What a leader does after an entry, as a stretch of an act.
use Rattle.std.proofs.Common.{◌≡◌, ◌<◌, ◌≤◌, inl, inr, ⊎_elim, ℕ, ◌+◌, Bool, true, false, true≢false, cond, List, [], ◌∷◌, ◌++◌, length, take, get_or, Option, Some, None, refl, sym, ap, subst, ◌∙◌}
use Rattle.std.specs.Prelude.{◌==◌, ◌||◌, bytes_eq, is_some}
use Rattle.std.specs.List.{AllByRecursion}
use Rattle.std.proofs.lemmas.Bool.{cond_both, cases_Bool}
use Rattle.std.proofs.lemmas.List.{take_all, take_more}
use Rattle.dq_base.specs.declared.pages.PageSet.{PageSet}
use Rattle.log_commands.specs.declared.command.Command.TheVariants.{Checkpoint}
use Rattle.database_state.specs.declared.database.Database.{Database}
use Rattle.database_state.specs.Databases.{named, tx_pending}
use Rattle.database_state.specs.Machines.{IsMachine, names_of}
use Rattle.session_spec.specs.Entries.{Content, Does, Entry as Line, written}
use Rattle.session_spec.specs.Machine.{Machine, base_of, machine_of, is_named}
use Rattle.session_spec.specs.Seen.{HasSpelling}
use Rattle.session_spec.proofs.Names.{name_is}
use Rattle.session_safety.specs.Life.{ArePlain}
use Rattle.session_safety.specs.Logs.{with_undo, undos_for, undos}
use Rattle.raft_spec.specs.Log.{Entry}
use Rattle.raft_spec.specs.Node.{is_leader}
use Rattle.raft_spec.specs.NodeValues.{node_of}
use Rattle.raft_core.specs.declared.event.RaftEvent.TheVariants.{Propose}
use Rattle.client_sessions.specs.declared.clients.Clients.{Clients as Held}
use Rattle.client_sessions.specs.Clients.{Clients}
use Rattle.client_sessions.specs.Seen.{clients_of}
use Rattle.applied_state.specs.declared.applied.Applied.{Applied}
use Rattle.applied_state.specs.declared.effect.AppliedEffect.{AppliedEffect}
use Rattle.applied_state.specs.declared.effect.AppliedEffect.TheVariants as effect
use Rattle.applied_state.specs.declared.leadership.Leadership.{Leadership}
use Rattle.applied_state.specs.declared.leadership.LeadershipPhase.{LeadershipPhase}
use Rattle.applied_state.specs.declared.leadership.LeadershipPhase.TheVariants.{Barrier, Undos, Serving}
use Rattle.applied_state.specs.Office.{owed, phase_after, office_after, checkpoint_behind, serves}
use Rattle.raft_on_disk.specs.Replicas.{ReplicaValue, kept_of}
use Rattle.node_core.specs.declared.running.Running.{Running}
use Rattle.node_core.specs.Account.{proposals_in, moment_of}
use Rattle.node_core.specs.Duties.{IsCalm, IsSettled, ServesFrom, PerformsDuty}
use Rattle.node_core.specs.Values.{clients_in, waiting_on}
use Rattle.node_core.specs.Whole.{InOffice, LeadsInOffice, ServesLast, IsFree, IsGoing, IsLed}
use Rattle.node_core.proofs.ClientMoves.{stays_so}
use Rattle.node_core.proofs.ClientTurns.{keeps_raft}
use Rattle.node_core.proofs.Performing.{due_more}

-- ---- no pages are pending

-- of each of these databases
abbrev pub AreCalm : List Database → List Database → Type 0
AreCalm ds [] = Unit {0}
AreCalm ds (x ∷ xs) = (tx_pending (named x.name ds) ≡ None) × AreCalm ds xs

calm_append : (ds xs ys : List Database) → AreCalm ds xs → AreCalm ds ys → AreCalm ds (xs ++ ys)
calm_append ds [] ys a b = b
calm_append ds (x ∷ xs) ys a b = (a.0, calm_append ds xs ys a.1 b)

none_some : (o : Option ℕ) → is_some o ≡ false → o ≡ None
none_some None e = refl
none_some (Some n) e = absurd cc

pub calm_more : (ds : List Database) (place : ℕ) (d e : Database) (pending : Option ℕ) → place < length ds → d ≡ get_or ds place e → pending ≡ tx_pending (named d.name ds) → is_some pending ≡ false → AreCalm ds (take place ds)
    → AreCalm ds (take (place + 1) ds)
calm_more ds place d e pending within is tx none before =
    subst (AreCalm ds) (ap (λ (x : Database). take place ds ++ x ∷ []) is ∙ sym (take_more ds place e within))
    (calm_append ds (take place ds) (d ∷ []) before (sym tx ∙ none_some pending none, tt))

-- a database that isn't pending
quiet : (o : Option Database) → tx_pending o ≡ None → (base_of o).pending ≡ None
quiet None e = refl
quiet (Some d) e = by d.pending e
  where
    by : (o : Option PageSet) → tx_pending (Some (record d { pending = o })) ≡ None → o ≡ None
    by None e = refl
    by (Some set) e = absurd cc

calm_named : (ds xs : List Database) (name : List ℕ) → AreCalm ds xs → is_named (names_of xs) name ≡ true → tx_pending (named name ds) ≡ None
calm_named ds [] name c there = absurd (true≢false (sym there))
calm_named ds (x ∷ xs) name c there = by (bytes_eq name x.name) refl (λ there. calm_named ds xs name c.1 there)
  where
    by : (b : Bool) → bytes_eq name x.name ≡ b → (is_named (names_of xs) name ≡ true → tx_pending (named name ds) ≡ None) → tx_pending (named name ds) ≡ None
    by true e rest = subst (λ (k : List ℕ). tx_pending (named k ds) ≡ None) (sym (name_is name x.name e)) c.0
    by false e rest = rest (subst (λ (b : Bool). (b || is_named (names_of xs) name) ≡ true) e there)

unnamed : (ds : List Database) (name : List ℕ) → is_named (names_of ds) name ≡ false → named name ds ≡ None
unnamed [] name apart = refl
unnamed (d ∷ ds) name apart = by (bytes_eq name d.name) refl (λ apart. unnamed ds name apart)
  where
    by : (b : Bool) → bytes_eq name d.name ≡ b → (is_named (names_of ds) name ≡ false → named name ds ≡ None) → named name (d ∷ ds) ≡ None
    by true e rest = absurd (true≢false (subst (λ (b : Bool). (b || is_named (names_of ds) name) ≡ false) e apart))
    by false e rest = subst (λ (b : Bool). cond b (Some d) (named name ds) ≡ None) (sym e) (rest (subst (λ (b : Bool). (b || is_named (names_of ds) name) ≡ false) e apart))

pub all_calm : (ds : List Database) (place : ℕ) → length ds ≤ place → AreCalm ds (take place ds) → IsCalm (machine_of ds)
all_calm ds place all c name = ⊎_elim
    (λ (there : is_named (names_of ds) name ≡ true). quiet (named name ds) (calm_named ds ds name (subst (AreCalm ds) (take_all place ds all) c) there))
    (λ (apart : is_named (names_of ds) name ≡ false). ap (λ (o : Option Database). (base_of o).pending) (unnamed ds name apart))
    (cases_Bool (is_named (names_of ds) name))

-- ---- Undos and checkpoints

plain_with : (serving : Bool) (o : Option PageSet) (contents : List Content) → serving ≡ false → ArePlain serving contents → ArePlain serving (with_undo o contents)
plain_with serving None contents idle plain = plain
plain_with serving (Some set) contents idle plain = (idle, plain)

undos_plain : (serving : Bool) (m : Machine) → serving ≡ false → ArePlain serving (undos m)
unfolding undos
undos_plain serving m idle = go m.names
  where
    go : (names : List (List ℕ)) → ArePlain serving (undos_for m names)
    go [] = tt
    go (n ∷ names) = plain_with serving (m.base n).pending (undos_for m names) idle (go names)

checkpoints_plain : (serving : Bool) (m : Machine) (what : AppliedEffect) (waiting : List Line) → ArePlain serving (checkpoint_behind m what waiting)
checkpoints_plain serving m (effect.Committed name) waiting = cond_both _ (Does (Checkpoint name) ∷ []) [] (ArePlain serving) (λ e. (tt, tt)) (λ e. tt)
checkpoints_plain serving m effect.Configured waiting = tt
checkpoints_plain serving m effect.Other waiting = tt

-- what is owed has no pages, if a leader serves in its last phase only
owed_plain : (serving : Bool) (phase : LeadershipPhase) (index : ℕ) (m : Machine) (what : AppliedEffect) (waiting : List Line) → (serves phase ≡ false → serving ≡ false) → ArePlain serving (owed phase index m what waiting)
owed_plain serving (Barrier barrier) index m what waiting last = cond_both (index == barrier) (undos m) [] (ArePlain serving) (λ e. undos_plain serving m (last refl)) (λ e. tt)
owed_plain serving (Undos end) index m what waiting last = tt
owed_plain serving Serving index m what waiting last = checkpoints_plain serving m what waiting

-- who serves in its leadership continues
serves_on : (phase : LeadershipPhase) (index : ℕ) (m : Machine) → serves (phase_after phase index m) ≡ false → serves phase ≡ false
serves_on (Barrier barrier) index m e = refl
serves_on (Undos end) index m e = refl
serves_on Serving index m e = absurd cc

-- ---- duties

-- all but the leadership, the service and what is due stays
pub record KeepsMost (old new : Running) : Type 0 where
  pub replica : new.replica ≡ old.replica
  pub applied : new.applied ≡ old.applied
  pub clients : new.clients ≡ old.clients

module _ (old new : Running) (keeps : KeepsMost old new) (stands : IsMachine old.applied.machine) where
  clients_stay : clients_in new ≡ clients_in old
  clients_stay = ap (λ (h : Held). clients_of h new.applied.machine) keeps.clients ∙ ap (λ (a : Applied). clients_of old.clients a.machine) keeps.applied

  stands_on : IsMachine new.applied.machine
  stands_on = subst (λ (a : Applied). IsMachine a.machine) (sym keeps.applied) stands

  index_stays : new.applied.index ≡ old.applied.index
  index_stays = ap (λ (a : Applied). a.index) keeps.applied

  files_stay : machine_of new.applied.machine ≡ machine_of old.applied.machine
  files_stay = ap (λ (a : Applied). machine_of a.machine) keeps.applied

  pub does_nothing : new.view.serving ≡ old.view.serving → proposals_in new.due.items ≡ proposals_in old.due.items → PerformsDuty old new
  does_nothing serving due =
      inl (stays_so old new (record { replica = keeps.replica; index = index_stays; serving = serving; due = due; machine = stands_on; files = files_stay }) clients_stay)

  pub begins_service : is_leader old.replica.raft.role ≡ true → old.view.last ≡ length (node_of old.replica.raft).log → IsSettled old → new.view.serving ≡ true → proposals_in new.due.items ≡ proposals_in old.due.items → PerformsDuty old new
  begins_service leads last settled serving due = inr (inl (record {
    leads = leads;
    idle = ap proposals_in settled.idle;
    all = settled.all ∙ last;
    calm = settled.calm;
    serving = serving;
    sessions = ap (λ (k : Clients). k.sessions) clients_stay;
    same = record { waiting = λ conn. ap (λ (k : Clients). waiting_on (k.streams conn)) clients_stay; due = due };
    raft = ap (λ (r : ReplicaValue). r.raft) keeps.replica;
    kept = ap kept_of keeps.replica;
    applied = index_stays;
    machine = stands_on;
    files = files_stay;
  }))

  pub proposes : (contents : List Content) → is_leader old.replica.raft.role ≡ true → ArePlain old.view.serving contents → AllByRecursion HasSpelling contents → new.view.serving ≡ old.view.serving
      → proposals_in new.due.items ≡ proposals_in old.due.items ++ written old.replica.raft.term contents ∷ [] → PerformsDuty old new
  proposes contents leads plain spelled serving due = inr (inr (
    contents,
    record {
      leads = leads;
      plain = plain;
      spelled = spelled;
      due = due;
      sessions = ap (λ (k : Clients). k.sessions) clients_stay;
      waiting = λ conn. ap (λ (k : Clients). waiting_on (k.streams conn)) clients_stay;
      rest = keeps_raft old new keeps.replica index_stays serving stands_on files_stay;
    },
  ))

-- ---- as the code has it

module _ (old : Running) (office : Leadership) (is : old.office ≡ Some office) (going : IsGoing old) (led : IsLed old) where
  in_office : (is_leader old.replica.raft.role ≡ true) × (office.term ≡ old.replica.raft.term)
  in_office = subst (λ (o : Option Leadership). InOffice o old.view.serving old.replica.raft) is going.office

  last_phase : serves office.phase ≡ false → old.view.serving ≡ false
  last_phase = subst (λ (o : Option Leadership). ServesLast o old.view.serving) is led.serves

  -- nothing is owed: the node may serve from then on
  pub duty_served : (index : ℕ) (m : Machine) (mid new : Running) → IsMachine old.applied.machine → mid ≡ record old { office = Some (office_after office index m) } → ServesFrom mid new → PerformsDuty old new
  duty_served index m mid new stands set (inl same) =
      let e = same ∙ set in
      does_nothing old new (record { replica = ap (λ (n : Running). n.replica) e; applied = ap (λ (n : Running). n.applied) e; clients = ap (λ (n : Running). n.clients) e }) stands
      (ap (λ (n : Running). n.view.serving) e) (ap (λ (n : Running). proposals_in n.due.items) e)
  duty_served index m mid new stands set (inr (settled, same)) =
      let e : new ≡ record old { office = Some (office_after office index m); view = record old.view { serving = true } } = same ∙ ap (λ (n : Running). record n { view = record n.view { serving = true } }) set in
      begins_service old new (record { replica = ap (λ (n : Running). n.replica) e; applied = ap (λ (n : Running). n.applied) e; clients = ap (λ (n : Running). n.clients) e }) stands
      in_office.0 going.last
      (record {
        idle = sym (ap (λ (n : Running). n.due.items) set) ∙ settled.idle;
        all = sym (ap (λ (n : Running). n.applied.index) set) ∙ settled.all ∙ ap (λ (n : Running). n.view.last) set;
        calm = λ name. sym (ap (λ (n : Running). ((machine_of n.applied.machine).base name).pending) set) ∙ settled.calm name;
      })
      (ap (λ (n : Running). n.view.serving) e) (ap (λ (n : Running). proposals_in n.due.items) e)

  pub led_served : (index : ℕ) (m : Machine) (mid new : Running) → mid ≡ record old { office = Some (office_after office index m) } → ServesFrom mid new → (serves (office_after office index m).phase ≡ false → new ≡ mid) → IsLed new
  led_served index m mid new set from unless =
      let now : new.office ≡ Some (office_after office index m) = by from in
      record {
        leads = subst (λ (o : Option Leadership). LeadsInOffice o new.replica.raft) (sym now) tt;
        serves = subst (λ (o : Option Leadership). ServesLast o new.view.serving) (sym now)
            (λ off. ap (λ (n : Running). n.view.serving) (unless off ∙ set) ∙ last_phase (serves_on office.phase index m off));
        free = subst (λ (o : Option Leadership). IsFree o (moment_of new)) (sym now) tt;
      }
    where
      by : ServesFrom mid new → new.office ≡ Some (office_after office index m)
      by (inl same) = ap (λ (n : Running). n.office) (same ∙ set)
      by (inr (settled, same)) = ap (λ (n : Running). n.office) (same ∙ ap (λ (n : Running). record n { view = record n.view { serving = true } }) set)

  -- what is owed is due
  pub duty_owed : (what : AppliedEffect) (waiting : List Line) (entries : List Entry) (mid new : Running) → IsMachine old.applied.machine → mid ≡ record old { office = Some (office_after office old.applied.index (machine_of old.applied.machine)) }
      → entries ≡ written office.term (owed office.phase old.applied.index (machine_of old.applied.machine) what waiting) → AllByRecursion HasSpelling (owed office.phase old.applied.index (machine_of old.applied.machine) what waiting)
      → new.due.items ≡ mid.due.items ++ Propose entries ∷ [] → new ≡ record mid { due = new.due } → PerformsDuty old new
  duty_owed what waiting entries mid new stands set are spelled due is_new =
      let contents = owed office.phase old.applied.index (machine_of old.applied.machine) what waiting in
      let replica : new.replica ≡ old.replica = ap (λ (n : Running). n.replica) is_new ∙ ap (λ (n : Running). n.replica) set in
      proposes old new (record {
        replica = replica;
        applied = ap (λ (n : Running). n.applied) is_new ∙ ap (λ (n : Running). n.applied) set;
        clients = ap (λ (n : Running). n.clients) is_new ∙ ap (λ (n : Running). n.clients) set;
      }) stands contents in_office.0 (owed_plain old.view.serving office.phase old.applied.index (machine_of old.applied.machine) what waiting last_phase) spelled
      (ap (λ (n : Running). n.view.serving) is_new ∙ ap (λ (n : Running). n.view.serving) set)
      (due_more mid new (Propose entries) due ∙ ap (λ (n : Running). proposals_in n.due.items ++ entries ∷ []) set
      ∙ ap (λ (es : List Entry). proposals_in old.due.items ++ es ∷ []) (are ∙ ap (λ (term : ℕ). written term contents) in_office.1))

  pub led_owed : (index : ℕ) (m : Machine) (mid new : Running) → mid ≡ record old { office = Some (office_after office index m) } → new ≡ record mid { due = new.due } → IsLed new
  led_owed index m mid new set is_new =
      let now : new.office ≡ Some (office_after office index m) = ap (λ (n : Running). n.office) is_new ∙ ap (λ (n : Running). n.office) set in
      record {
        leads = subst (λ (o : Option Leadership). LeadsInOffice o new.replica.raft) (sym now) tt;
        serves = subst (λ (o : Option Leadership). ServesLast o new.view.serving) (sym now)
            (λ off. ap (λ (n : Running). n.view.serving) is_new ∙ ap (λ (n : Running). n.view.serving) set ∙ last_phase (serves_on office.phase index m off));
        free = subst (λ (o : Option Leadership). IsFree o (moment_of new)) (sym now) tt;
      }
