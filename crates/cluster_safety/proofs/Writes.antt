-- The only voter elects itself, and a client writes there.
use Rattle.std.proofs.Common.{◌≡◌, inl, ℕ, ◌+◌, Bool, true, false, true≢false, cond, List, [], ◌∷◌, ◌++◌, length, map, take, drop, refl, sym, ap, ◌∙◌, subst, arith}
use Rattle.std.specs.Prelude.{◌==◌, ◌&&◌, codes, Option, Some, None, Ok}
use Rattle.std.specs.Option.{option_map}
use Rattle.std.proofs.Math.Seq.{drop-append_seam}
use Rattle.std.proofs.lemmas.Bool.{cond_both, cond-true}
use Rattle.std.proofs.lemmas.List.{append-nil, drop_all, length-map}
use Rattle.sql_engine.specs.declared.kind.EngineKind.TheVariants.{Cells}
use Rattle.sql_engine.specs.Cells.{cells, cell_page, with_page, with_cell, wiped, outcome_of}
use Rattle.sql_engine.specs.Replies.{Statement}
use Rattle.log_commands.specs.Numbers.{AreLow}
use Rattle.wire_msgs.specs.declared.request.Request.{Request}
use Rattle.database_state.specs.declared.database.Database.{Database}
use Rattle.database_state.specs.Files.{empty_image}
use Rattle.database_state.specs.Machines.{IsMachine}
use Rattle.database_state.proofs.Acting.{act_machine}
use Rattle.std.specs.List.Sorted.{IsStrictlySortedBy}
use Rattle.session_spec.specs.Entries.{Content, Other, entries_of, written_in, written, tx_of}
use Rattle.session_spec.specs.Machine.{Machine, nothing, machine_of, with_commit, framed, act, files}
use Rattle.session_spec.specs.Restarts.{shifted_tx, shifted_session, shifted, restarted}
use Rattle.session_spec.specs.Seen.{log_seen}
use Rattle.session_spec.specs.Sessions.{is_due, Reply, Kind, Opening, Writing, Flight, Session, Gateway, absent, no_sessions, db, result}
use Rattle.session_spec.proofs.Following.{machines_follow_hold}
use Rattle.session_safety.specs.Answering.{asks_for, outcome, transaction_ran, Handled, comes}
use Rattle.session_safety.specs.Examples as lives
use Rattle.session_safety.specs.Lending.{lent_in, answers_in}
use Rattle.session_safety.specs.Life.{Event as Doing, Connect as Comes_in, Apply, Lose, Lead, Serve, Append, happens as goes_on, run_from as lives_on}
use Rattle.session_safety.specs.Nodes.{Said, Trail, Node as Life}
use Rattle.session_safety.proofs.Examples.{may_set}
use Rattle.raft_spec.specs.Log as raft_log
use Rattle.raft_spec.specs.Node as raft
use Rattle.raft_spec.specs.Account.{steps, said}
use Rattle.raft_spec.specs.Compaction.{with_whole_log, compacted_step}
use Rattle.raft_spec.specs.NodeValues.{node_of}
use Rattle.raft_safety.specs.Cuts.{Twin, AlikeInput, AlikeInputs, SameVoters}
use Rattle.cluster_model.specs.Clusters.{said_in, InTerm, StepFits}
use Rattle.cluster_model.specs.Examples.{opening, writing}
use Rattle.cluster_model.proofs.Examples.{opening_spelled, same_log, first_seen, two_seen, three_seen, plain_weaves, writing_weaves}
use Rattle.node_spec.specs.Nodes.{Node, Stands}
use Rattle.node_spec.specs.Steps.{Letter, Taken, ArePartOf, JoinsOnly, Handles, Completes, StepHolds, told}
use Rattle.node_spec.proofs.Voters.{fixed_tells_hold, fixed_counts_hold}
use Rattle.cluster_safety.specs.Runs.{Connect, Asks, Timeout, first_run, nothing_kept, taken}
use Rattle.cluster_safety.specs.Examples.{lone, only, client, opens_it, writes_it, opened, wrote, leading, asks_open, asks_set, RunWrites}
use Rattle.raft_membership.specs.Members.{Configurations}
use Rattle.cluster_safety.proofs.Examples.{lone_starts}
use Rattle.sql_scan.specs.Bytes.{is_space, is_digit, is_letter, is_word_start, is_word_part, is_sigil, is_quote, is_in_line}
use Rattle.sql_scan.specs.Grammar.{has_end}
use Rattle.sql_scan.specs.Kinds.{kind_of}
use Rattle.sql_scan.specs.Lengths.{quoted, starred}
use Rattle.sql_scan.specs.Statements.{decimal, in_range, parameter, solid, extended, finished, statements_from, scan_of}
use Rattle.sql_scan.specs.Tokens.{sigil_token, dash_token, slash_token, sign_token, token_of, tokens_past}
use Rattle.sql_scan.specs.Words.{is_write, is_left_out, keyword_of, followed_by, kind_so_far}
use Rattle.wire_rows.specs.Answering.{parts_of}
use Rattle.wire_rows.specs.Cut.{first_count, cut}
use Rattle.wire_rows.specs.Nuls.{first_nul}
use Rattle.dq_base.specs.Images.{zeros, resized, page_from, sizes_page, page_at}
use Rattle.dq_base.specs.Applying.{stated_main, stated_side, replaced, put_pages, applied, is_sizes, order_fault, length_fault, fault_before}
use Rattle.dq_base.specs.Changes.{changed_from, changed}
use Rattle.database_state.specs.ByName.{at_name, change_first}
use Rattle.log_commands.specs.Splitting.{split_from}
use Rattle.session_spec.specs.Asking.{asked_unless_lost, asked_by}
use Rattle.session_spec.specs.Engines.{Answer, takes, runs, used}
use Rattle.session_spec.specs.Events.{tidy, landed, settled_by, on_applied, told_applied, on_lost, told_lost, on_hangup, connects, connected}
use Rattle.session_spec.specs.Limits.{holds, other_holds, change_in_flight, all_names, one_too_many, pending_pages, pages_with, too_full, change_refusal}
use Rattle.session_spec.specs.Requests.{row_cause, outside_write, outside, inside, committed, does, on_request, handed, with_session}
use Rattle.session_spec.specs.Sessions.{may_ask}
use Rattle.raft_spec.specs.Log.{term_at, log_end, matches, merged, conflict_place, accept, first_replaced, accept_above, first_replaced_above, is_up_to_date}
use Rattle.raft_spec.specs.Node.{voters, others, peers, majority}
use Rattle.raft_spec.specs.Elections.{on_grants, may_start_election, start_election, on_ask_vote, grants_with, on_vote, may_grant}
use Rattle.raft_spec.specs.Replication.{agrees, take_entries, replaces_committed, on_append, on_ack, on_propose, on_beat, on_transfer}
use Rattle.raft_spec.specs.Snapshots.{on_install, on_snapped, needs_snapshot}
use Rattle.raft_spec.specs.Membership.{on_servers}
use Rattle.raft_spec.specs.Commitment.{is_stored_by_majority, commit_up_to, majority_stores, commit_below, commit_index}
use Rattle.raft_spec.specs.Receiving.{in_range as message_in_range, on_message}
use Rattle.raft_spec.specs.Steps.{message_to, finish, serve, raft_step}
use Rattle.raft_spec.specs.Account.{step_acts}
use Rattle.raft_safety.specs.Members.{fixed, change_at, configuration, voters_after, may_change, member_step}
use Rattle.raft_safety.specs.World.{put, run}

-- ---- what a node without open transactions represents

twin_is : (s v : raft.Node) → v.base ≡ 0 → Twin s v → s ≡ v
twin_is s v e t =
    let b : s.base ≡ 0 = sym (ap (λ (z : raft.Node). z.base) t.node) ∙ e in
    let log : s.log ≡ t.log = ap (λ k. drop k s.log) (sym b) ∙ t.same.rest ∙ ap (λ k. drop k t.log) b in
    let whole : s ≡ with_whole_log s t.log = ap (λ (l : List raft_log.Entry). with_whole_log s l) log in
    whole ∙ sym t.node

-- no transaction is open
abbrev NoneOpen : Gateway → Type 0
NoneOpen g = (conn : ℕ) → (g.session conn).tx ≡ None

still_session : (lacks : List ℕ → ℕ) (s : Session) → s.tx ≡ None → shifted_session lacks s ≡ s
still_session lacks s e = λ i. record { there = s.there; hung = s.hung; database = s.database; barriers = s.barriers; later = s.later; statements = s.statements; tx = (ap (option_map (shifted_tx lacks)) e ∙ sym e) i; lost = s.lost; flight = s.flight }

still_gate : (lacks : List ℕ → ℕ) (g : Gateway) → NoneOpen g → shifted lacks g ≡ g
still_gate lacks g none = λ i. record { conns = g.conns; session = λ conn. still_session lacks (g.session conn) (none conn) i; weight = g.weight }

same_counts : (m : Machine) → restarted (λ name. 0) (λ name. (m.base name).since) m ≡ m
same_counts m = λ i. record { names = m.names; base = λ name. record { image = (m.base name).image; pending = (m.base name).pending; newest = none_more (m.base name).newest i; since = (m.base name).since } }
  where
    none_more : (n : ℕ) → 0 + n ≡ n
    none_more n = omega arith

none_in : NoneOpen no_sessions
none_in conn = refl

none_at : (name : List ℕ) → NoneOpen (client name)
none_at name conn = cond_both (conn == 5) (record { there = true; hung = false; database = name; barriers = false; later = None; statements = []; tx = None; lost = false; flight = None }) absent (λ (s : Session). s.tx ≡ None) (λ e. refl) (λ e. refl)

-- no query of a client is due
client_runs : (name : List ℕ) (conn : ℕ) → is_due ((client name).session conn).later ≡ false
client_runs name conn = cond_both (conn == 5) (record { there = true; hung = false; database = name; barriers = false; later = None; statements = []; tx = None; lost = false; flight = None }) absent (λ (s : Session). is_due s.later ≡ false) (λ e. refl) (λ e. refl)

-- the life of a leader of term 1 that has applied these contents
abbrev life_of : List Content → Gateway → (ℕ → Trail) → List Said → Life
life_of contents g trail said = record { term = 1; leads = true; serving = true; log = entries_of 1 contents; applied = length contents; gate = g; trail = trail; said = said }

life_is : (contents : List Content) (g : Gateway) (m : List Database) (s : raft.Node) (w : Life) → log_seen (written 1 contents) ≡ entries_of 1 contents → NoneOpen g → s ≡ node_of (leading contents g m).raft → Stands (fixed only) (leading contents g m) s w → w ≡ life_of contents g w.trail w.said
life_is contents g m s w seen none is st =
    let term : w.term ≡ 1 = st.coherent.term ∙ ap (λ (z : raft.Node). z.term) is in
    let leads : w.leads ≡ true = st.coherent.leads ∙ ap (λ (z : raft.Node). raft.is_leader z.role) is in
    let log : w.log ≡ entries_of 1 contents = st.coherent.log ∙ ap (λ (z : raft.Node). log_seen z.log) is ∙ seen in
    let applied : w.applied ≡ length contents = st.coherent.applied ∙ ap (λ (z : raft.Node). z.commit) is in
    let gate : w.gate ≡ g = st.sessions ∙ still_gate st.lacks g none in
    λ i. record { term = term i; leads = leads i; serving = st.serving i; log = log i; applied = applied i; gate = gate i; trail = w.trail; said = w.said }

-- ---- from such a moment

no_more : (is : List raft.Input) → AlikeInputs is [] → is ≡ []
no_more [] a = refl
no_more (i ∷ is) a = absurd (no a.0 a.1 a.2)
  where
    no : (j : raft.Input) (rest : List raft.Input) → [] ≡ j ∷ rest → ⊥
    no j rest e = cc

abbrev AlikeOne : raft.Input → raft.Input → Type 0
AlikeOne i j = AlikeInput i j

one_input : (local : raft.LocalEvent) (is : List raft.Input) → AlikeInputs is (raft.Local local ∷ []) → is ≡ raft.Local local ∷ []
one_input local [] a = absurd cc
one_input local (i ∷ is) a =
    let first : raft.Local local ≡ a.0 = heads (raft.Local local) a.0 [] a.1 a.2 in
    let rest : [] ≡ a.1 = tails (raft.Local local) a.0 [] a.1 a.2 in
    let none : is ≡ [] = no_more is (subst (AlikeInputs is) (sym rest) a.4) in
    ap (λ (j : raft.Input). j ∷ is) (same i (subst (λ (j : raft.Input). AlikeOne i j) (sym first) a.3)) ∙ ap (λ (l : List raft.Input). raft.Local local ∷ l) none
  where
    heads : (x y : raft.Input) (xs ys : List raft.Input) → x ∷ xs ≡ y ∷ ys → x ≡ y
    heads x y xs ys e = cc

    tails : (x y : raft.Input) (xs ys : List raft.Input) → x ∷ xs ≡ y ∷ ys → xs ≡ ys
    tails x y xs ys e = cc

    same : (i : raft.Input) → AlikeOne i (raft.Local local) → i ≡ raft.Local local
    same (raft.Local other) e = sym e
    same (raft.Receive m) e = absurd (unlike e.0 e.1)
      where
        unlike : (w : raft.What) → raft.Local local ≡ raft.Receive (record { from = m.from; to = m.to; term = m.term; what = w }) → ⊥
        unlike w q = cc

-- what a call shows at a node of the world and a life
abbrev Shows : Node → Node → Taken → List Letter → List (ℕ × Reply) → List Answer → raft.Node → Life → List raft.Input → Type 0
Shows old new x letters replies answers s w is =
    (life : List Doing) × StepFits cells Cells (fixed only) 1 s is w life
    × Stands (fixed only) new (steps (member_step (fixed only) 1) s is) (lives_on w life)
    × (map (λ (l : Letter). l.message) letters ≡ said (compacted_step 1) (node_of old.raft) x.inputs)
    × (replies ≡ map told (said_in w life))
    × ([] ≡ lent_in w life)
    × (answers ≡ answers_in w life)
    × JoinsOnly x.joins life
    × Handles old new.waiting x life
    × Completes old new x w life

at_life : (old new : Node) (x : Taken) (letters : List Letter) (replies : List (ℕ × Reply)) (answers : List Answer) (s t : raft.Node) (w v : Life) (is js : List raft.Input) → s ≡ t → w ≡ v → is ≡ js → Shows old new x letters replies answers t v js → Shows old new x letters replies answers s w is
at_life old new x letters replies answers s t w v is js p q r h =
    subst (λ (z : raft.Node). Shows old new x letters replies answers z w is) (sym p)
    (subst (λ (z : Life). Shows old new x letters replies answers t z is) (sym q)
    (subst (λ (z : List raft.Input). Shows old new x letters replies answers t v z) (sym r) h))

-- a call at a leader that has applied these contents, which takes in what is local
holds_at : (contents : List Content) (g : Gateway) (m : List Database) (new : Node) (x : Taken) (replies : List (ℕ × Reply)) (answers : List Answer) (js : List raft.Input) → log_seen (written 1 contents) ≡ entries_of 1 contents → NoneOpen g → SameVoters (raft.voters only) x.inputs → ((is : List raft.Input) → AlikeInputs is x.inputs → is ≡ js) →
    new.members ≡ record { at = 0; servers = only; later = [] } → ((trail : ℕ → Trail) (before : List Said) → Shows (leading contents g m) new x [] replies answers (node_of (leading contents g m).raft) (life_of contents g trail before) js) → StepHolds {E = ℕ} cells Cells (fixed only) 1 (leading contents g m) new new.kept x (Ok (record { letters = []; replies = replies; jobs = []; answers = answers }))
holds_at contents g m new x replies answers js seen none voters only_these members shows = record {
  tells = fixed_tells_hold only 1 (leading contents g m) x voters;
  counts = fixed_counts_hold only 1 (leading contents g m) new x voters (let at : new.members.at ≡ 0 = ap (λ (c : Configurations). c.at) members in omega (arith, at)) (ap (λ (c : Configurations). c.servers) members) (ap (λ (c : Configurations). c.later) members);
  whole = λ s w is st t told_so reads served.
      let node = twin_is s (node_of (leading contents g m).raft) refl st.twin in
      at_life (leading contents g m) new x [] replies answers s (node_of (leading contents g m).raft) w (life_of contents g w.trail w.said) is js node (life_is contents g m s w seen none node st) (only_these is t.alike) (shows w.trail w.said);
  sent = tt;
  failed = tt;
}

-- ---- what stands afterwards

machine_none : IsMachine []
unfolding IsStrictlySortedBy
machine_none = record { in_order = tt; below = tt; apart = tt; marks = tt; numbers = tt }

machine_opened : IsMachine opened
machine_opened = act_machine [] opens_it tt machine_none

files_none : nothing ≡ machine_of []
files_none = refl

files_opened : act nothing opens_it ≡ machine_of opened
files_opened = sym (machines_follow_hold [] opens_it machine_none)

files_wrote : act (act nothing opens_it) writes_it ≡ machine_of wrote
files_wrote = ap (λ m. act m writes_it) files_opened ∙ sym (machines_follow_hold opened writes_it machine_opened)

low_numbers : AreLow (changed empty_image (lives.one 7))
unfolding is_space is_digit is_letter is_word_start is_word_part is_sigil is_quote is_in_line has_end kind_of quoted starred decimal in_range parameter solid extended finished statements_from scan_of sigil_token dash_token slash_token sign_token token_of tokens_past is_write is_left_out keyword_of followed_by kind_so_far parts_of first_count cut first_nul zeros resized page_from sizes_page page_at stated_main stated_side replaced put_pages applied is_sizes order_fault length_fault fault_before changed_from changed at_name change_first split_from asked_by asked_unless_lost takes runs tx_of tidy on_applied told_applied on_lost told_lost on_hangup connects connected holds other_holds change_in_flight all_names one_too_many pending_pages pages_with too_full change_refusal with_commit framed act files row_cause outside_write outside inside committed does on_request handed with_session may_ask goes_on cell_page with_page with_cell wiped outcome_of change_at configuration voters_after may_change member_step log_end matches merged conflict_place accept first_replaced accept_above first_replaced_above is_up_to_date term_at voters others peers majority on_grants may_start_election start_election on_ask_vote grants_with on_vote agrees take_entries replaces_committed on_append on_install on_snapped on_ack message_in_range on_message on_propose on_beat on_transfer on_servers majority_stores commit_below commit_index needs_snapshot message_to finish serve raft_step step_acts put run is_stored_by_majority commit_up_to may_grant compacted_step writes_it writing
low_numbers = (omega arith, (omega arith, (omega arith, tt)))

machine_wrote : IsMachine wrote
unfolding writes_it
machine_wrote = act_machine opened writes_it low_numbers machine_opened

stands_leading : (contents : List Content) (g : Gateway) (m : List Database) (trail : ℕ → Trail) (before : List Said) → log_seen (written 1 contents) ≡ entries_of 1 contents → NoneOpen g → IsMachine m → files (take (length contents) (entries_of 1 contents)) ≡ machine_of m →
    Stands (fixed only) (leading contents g m) (node_of (leading contents g m).raft) (life_of contents g trail before)
unfolding peers others voters
stands_leading contents g m trail before seen none machine made =
    let size = length-map contents (written_in 1) in
    record {
      twin = record { log = written 1 contents; node = refl; same = record { len = refl; rest = refl; snapshot = refl } };
      raft = record { low = omega arith; applied = omega arith; within = omega (arith, size); rows = refl };
      up = refl;
      coherent = record { log = sym seen; applied = refl; term = refl; leads = refl };
      serving = refl;
      machine = machine;
      lacks = λ name. 0;
      since = λ name. ((machine_of m).base name).since;
      files = made ∙ sym (same_counts (machine_of m));
      sessions = sym (still_gate (λ name. 0) g none);
      kept = record { term = refl; vote = refl; log = refl; index = refl; snap_term = refl; bytes = λ h. absurd (omega (arith, h)) };
    }

stands_after : (contents : List Content) (g : Gateway) (m : List Database) (t : raft.Node) (v : Life) (trail : ℕ → Trail) (before : List Said) → t ≡ node_of (leading contents g m).raft → v ≡ life_of contents g trail before → Stands (fixed only) (leading contents g m) (node_of (leading contents g m).raft) (life_of contents g trail before) → Stands (fixed only) (leading contents g m) t v
stands_after contents g m t v trail before p q h = subst (λ (z : raft.Node). Stands (fixed only) (leading contents g m) z v) (sym p) (subst (λ (z : Life). Stands (fixed only) (leading contents g m) (node_of (leading contents g m).raft) z) (sym q) h)

-- ---- the election

-- the life of a node that was started over nothing
abbrev blank_life : (ℕ → Trail) → List Said → Life
blank_life trail before = record { term = 0; leads = false; serving = false; log = []; applied = 0; gate = no_sessions; trail = trail; said = before }

blank_is : (s : raft.Node) (w : Life) → s ≡ node_of (lone only only).raft → Stands (fixed only) (lone only only) s w → w ≡ blank_life w.trail w.said
blank_is s w is st =
    let term : w.term ≡ 0 = st.coherent.term ∙ ap (λ (z : raft.Node). z.term) is in
    let leads : w.leads ≡ false = st.coherent.leads ∙ ap (λ (z : raft.Node). raft.is_leader z.role) is in
    let log : w.log ≡ [] = st.coherent.log ∙ ap (λ (z : raft.Node). log_seen z.log) is in
    let applied : w.applied ≡ 0 = st.coherent.applied ∙ ap (λ (z : raft.Node). z.commit) is in
    let gate : w.gate ≡ no_sessions = st.sessions ∙ still_gate st.lacks no_sessions none_in in
    λ i. record { term = term i; leads = leads i; serving = st.serving i; log = log i; applied = applied i; gate = gate i; trail = w.trail; said = w.said }

abbrev elects : List Doing
elects = Lose 1 ∷ Lead 1 ∷ Append (Other ∷ []) ∷ Apply ∷ Serve ∷ []

nothing_said : (before : List Said) → drop (length before) ((before ++ []) ++ []) ≡ []
nothing_said before = ap (drop (length before)) (append-nil (before ++ []) ∙ append-nil before) ∙ drop_all (length before) before (omega arith)

elects_so : (trail : ℕ → Trail) (before : List Said) → Shows (lone only only) (leading (Other ∷ []) no_sessions []) (taken first_run 1 Timeout []) [] [] [] (node_of (lone only only).raft) (blank_life trail before) (raft.Local raft.Timeout ∷ [])
unfolding is_space is_digit is_letter is_word_start is_word_part is_sigil is_quote is_in_line has_end kind_of quoted starred decimal in_range parameter solid extended finished statements_from scan_of sigil_token dash_token slash_token sign_token token_of tokens_past is_write is_left_out keyword_of followed_by kind_so_far parts_of first_count cut first_nul zeros resized page_from sizes_page page_at stated_main stated_side replaced put_pages applied is_sizes order_fault length_fault fault_before changed_from changed at_name change_first split_from asked_by asked_unless_lost takes runs tx_of tidy on_applied told_applied on_lost told_lost on_hangup connects connected holds other_holds change_in_flight all_names one_too_many pending_pages pages_with too_full change_refusal with_commit framed act files row_cause outside_write outside inside committed does on_request handed with_session may_ask goes_on cell_page with_page with_cell wiped outcome_of change_at configuration voters_after may_change member_step log_end matches merged conflict_place accept first_replaced accept_above first_replaced_above is_up_to_date term_at voters others peers majority on_grants may_start_election start_election on_ask_vote grants_with on_vote agrees take_entries replaces_committed on_append on_install on_snapped on_ack message_in_range on_message on_propose on_beat on_transfer on_servers majority_stores commit_below commit_index needs_snapshot message_to finish serve raft_step step_acts put run is_stored_by_majority commit_up_to may_grant compacted_step writes_it writing
elects_so trail before =
    let v = lives_on (blank_life trail before) elects in
    let quiet : said_in (blank_life trail before) elects ≡ [] = nothing_said before in (
      elects,
      record {
        weaves = (tt, tt);
        fits = (omega arith, ((refl, omega arith), ((refl, (tt, tt)), (omega arith, ((refl, refl, λ n. refl), tt)))));
        terms = subst (InTerm v) (sym quiet) tt;
        coherent = record { log = same_log (entries_of 1 (Other ∷ [])) (written 1 (Other ∷ [])) refl refl first_seen; applied = refl; term = refl; leads = refl };
      },
      stands_after (Other ∷ []) no_sessions [] (steps (member_step (fixed only) 1) (node_of (lone only only).raft) (raft.Local raft.Timeout ∷ [])) v v.trail v.said refl refl (stands_leading (Other ∷ []) no_sessions [] v.trail v.said first_seen none_in machine_none files_none),
      refl,
      sym (ap (map told) quiet),
      refl,
      refl,
      (λ conn j. ((λ q. cc), ((λ q. cc), ((λ q. cc), ((λ q. cc), ((λ q. cc), tt)))))),
      (λ conn. tt),
      (λ conn o j. record { all = refl; handled = refl; waits = λ e. refl; run = refl }),
    )

elects_hold : StepHolds {E = ℕ} cells Cells (fixed only) 1 (lone only only) (leading (Other ∷ []) no_sessions []) (leading (Other ∷ []) no_sessions []).kept (taken first_run 1 Timeout []) (Ok (record { letters = []; replies = []; jobs = []; answers = [] }))
elects_hold = record {
  tells = fixed_tells_hold only 1 (lone only only) (taken first_run 1 Timeout []) tt;
  counts = fixed_counts_hold only 1 (lone only only) (leading (Other ∷ []) no_sessions []) (taken first_run 1 Timeout []) tt (omega arith) refl refl;
  whole = λ s w is st t told_so reads served.
      let node = twin_is s (node_of (lone only only).raft) refl st.twin in
      at_life (lone only only) (leading (Other ∷ []) no_sessions []) (taken first_run 1 Timeout []) [] [] [] s (node_of (lone only only).raft) w (blank_life w.trail w.said) is (raft.Local raft.Timeout ∷ []) node (blank_is s w node st) (one_input raft.Timeout is t.alike) (elects_so w.trail w.said);
  sent = tt;
  failed = tt;
}

-- ---- a client comes

same_number : (n k : ℕ) → Comes_in n ≡ Comes_in k → n ≡ k
same_number n k e = cc

comes_so : (trail : ℕ → Trail) (before : List Said) → Shows (leading (Other ∷ []) no_sessions []) (leading (Other ∷ []) (client []) []) (taken first_run 1 (Connect 5) []) [] [] [] (node_of (leading (Other ∷ []) no_sessions []).raft) (life_of (Other ∷ []) no_sessions trail before) []
unfolding is_space is_digit is_letter is_word_start is_word_part is_sigil is_quote is_in_line has_end kind_of quoted starred decimal in_range parameter solid extended finished statements_from scan_of sigil_token dash_token slash_token sign_token token_of tokens_past is_write is_left_out keyword_of followed_by kind_so_far parts_of first_count cut first_nul zeros resized page_from sizes_page page_at stated_main stated_side replaced put_pages applied is_sizes order_fault length_fault fault_before changed_from changed at_name change_first split_from asked_by asked_unless_lost takes runs tx_of tidy on_applied told_applied on_lost told_lost on_hangup connects connected holds other_holds change_in_flight all_names one_too_many pending_pages pages_with too_full change_refusal with_commit framed act files row_cause outside_write outside inside committed does on_request handed with_session may_ask goes_on cell_page with_page with_cell wiped outcome_of change_at configuration voters_after may_change member_step log_end matches merged conflict_place accept first_replaced accept_above first_replaced_above is_up_to_date term_at voters others peers majority on_grants may_start_election start_election on_ask_vote grants_with on_vote agrees take_entries replaces_committed on_append on_install on_snapped on_ack message_in_range on_message on_propose on_beat on_transfer on_servers majority_stores commit_below commit_index needs_snapshot message_to finish serve raft_step step_acts put run is_stored_by_majority commit_up_to may_grant compacted_step writes_it writing
comes_so trail before =
    let w = life_of (Other ∷ []) no_sessions trail before in
    let life = Comes_in 5 ∷ [] in
    let v = lives_on w life in
    let quiet : said_in w life ≡ [] = drop_all (length before) before (omega arith) in (
      life,
      record { weaves = tt; fits = (tt, tt); terms = subst (InTerm v) (sym quiet) tt; coherent = record { log = sym first_seen; applied = refl; term = refl; leads = refl } },
      stands_after (Other ∷ []) (client []) [] (node_of (leading (Other ∷ []) no_sessions []).raft) v v.trail v.said refl refl (stands_leading (Other ∷ []) (client []) [] v.trail v.said first_seen (none_at []) machine_none files_none),
      refl,
      sym (ap (map told) quiet),
      refl,
      refl,
      (λ conn j. ((λ q. j (ap (λ k. Some k) (same_number 5 conn q))), tt)),
      (λ conn. tt),
      (λ conn o j. record { all = refl; handled = refl; waits = λ e. refl; run = client_runs [] conn }),
    )

-- ---- its requests

abbrev number_of : List Handled → List Request
number_of hs = map (λ (h : Handled). h.request) hs

one_handled : (b c : Bool) (h : Handled) (r : Request) → c ≡ true → h.request ≡ r → number_of (cond (b && c) (h ∷ []) [] ++ []) ≡ cond b (r ∷ []) [] ++ []
one_handled true true h r e q = ap (λ (x : Request). x ∷ []) q
one_handled true false h r e q = absurd (true≢false (sym e))
one_handled false c h r e q = refl

all_asked : (b : Bool) (r : Request) → (cond b (r ∷ []) [] ++ []) ++ [] ≡ cond b (r ∷ []) []
all_asked true r = refl
all_asked false r = refl

part_asked : (b : Bool) (r : Request) → ArePartOf ((cond b (r ∷ []) [] ++ []) ++ []) (cond b (r ∷ []) [])
part_asked true r = inl (refl, tt)
part_asked false r = tt

-- the session of a client whose proposal is pending, and then applied
abbrev session_at : List ℕ → Option Flight → Session
session_at name flight = record { there = true; hung = false; database = name; barriers = false; later = None; statements = []; tx = None; lost = false; flight = flight }

abbrev flying_at : ℕ → ℕ → Kind → Flight
flying_at index pages kind = record { name = codes "d"; first = index; last = index; term = 1; pages = pages; kind = kind }

settles : (b : Bool) (index pages : ℕ) (kind : Kind) (old : List ℕ) → landed (session_at old (Some (flying_at index pages kind))) (flying_at index pages kind) kind ≡ session_at (codes "d") None → (index == index) ≡ true →
    settled_by index (cond b (session_at old (Some (flying_at index pages kind))) (cond b (session_at old None) absent)) (cond b (session_at old (Some (flying_at index pages kind))) (cond b (session_at old None) absent)).flight ≡ cond b (session_at (codes "d") None) absent
settles true index pages kind old e q = cond-true (index == index) (landed (session_at old (Some (flying_at index pages kind))) (flying_at index pages kind) kind) (session_at old (Some (flying_at index pages kind))) q ∙ e
settles false index pages kind old e q = refl

abbrev opens_life : List Doing
opens_life = lives.opens 5 ∷ Apply ∷ []

opens_so : (trail : ℕ → Trail) (before : List Said) → Shows (leading (Other ∷ []) (client []) []) (leading (Other ∷ opening ∷ []) (client (codes "d")) opened) (taken first_run 1 (Asks 5 (asks_open ∷ [])) (raft.Propose (written 0 (opening ∷ [])) ∷ [])) [] ((5, db) ∷ []) [] (node_of (leading (Other ∷ []) (client []) []).raft) (life_of (Other ∷ []) (client []) trail before) (raft.Local (raft.Propose (written 0 (opening ∷ []))) ∷ [])
unfolding is_space is_digit is_letter is_word_start is_word_part is_sigil is_quote is_in_line has_end kind_of quoted starred decimal in_range parameter solid extended finished statements_from scan_of sigil_token dash_token slash_token sign_token token_of tokens_past is_write is_left_out keyword_of followed_by kind_so_far parts_of first_count cut first_nul zeros resized page_from sizes_page page_at stated_main stated_side replaced put_pages applied is_sizes order_fault length_fault fault_before changed_from changed at_name change_first split_from asked_by asked_unless_lost takes runs tx_of tidy on_applied told_applied on_lost told_lost on_hangup connects connected holds other_holds change_in_flight all_names one_too_many pending_pages pages_with too_full change_refusal with_commit framed act files row_cause outside_write outside inside committed does on_request handed with_session may_ask goes_on cell_page with_page with_cell wiped outcome_of change_at configuration voters_after may_change member_step log_end matches merged conflict_place accept first_replaced accept_above first_replaced_above is_up_to_date term_at voters others peers majority on_grants may_start_election start_election on_ask_vote grants_with on_vote agrees take_entries replaces_committed on_append on_install on_snapped on_ack message_in_range on_message on_propose on_beat on_transfer on_servers majority_stores commit_below commit_index needs_snapshot message_to finish serve raft_step step_acts put run is_stored_by_majority commit_up_to may_grant compacted_step writes_it writing
opens_so trail before =
    let w = life_of (Other ∷ []) (client []) trail before in
    let v = lives_on w opens_life in
    let x : Said = record { conn = 5; reply = db; query = None; commit = None; opened = Some (codes "d"); index = 2; term = 1 } in
    let says : said_in w opens_life ≡ x ∷ [] = drop-append_seam before (x ∷ []) in
    let gate : v.gate ≡ client (codes "d") = λ i. record { conns = 5 ∷ []; session = λ conn. settles (conn == 5) 2 0 Opening [] refl refl i; weight = 0 } in
    let is : v ≡ life_of (Other ∷ opening ∷ []) (client (codes "d")) v.trail v.said = λ i. record { term = 1; leads = true; serving = true; log = v.log; applied = 2; gate = gate i; trail = v.trail; said = v.said } in (
      opens_life,
      record {
        weaves = ((λ r s. plain_weaves 1 (written 1 (Other ∷ [])) (opening ∷ []) (opening_spelled, tt) (tt, tt) s), tt);
        fits = ((λ h. tt), (omega arith, tt));
        terms = subst (InTerm v) (sym says) ((λ h. (refl, refl)), tt);
        coherent = record { log = same_log (entries_of 1 (Other ∷ opening ∷ [])) (written 1 (Other ∷ opening ∷ [])) refl refl two_seen; applied = refl; term = refl; leads = refl };
      },
      stands_after (Other ∷ opening ∷ []) (client (codes "d")) opened (steps (member_step (fixed only) 1) (node_of (leading (Other ∷ []) (client []) []).raft) (raft.Local (raft.Propose (written 0 (opening ∷ []))) ∷ [])) v v.trail v.said refl is (stands_leading (Other ∷ opening ∷ []) (client (codes "d")) opened v.trail v.said two_seen (none_at (codes "d")) machine_opened files_opened),
      refl,
      sym (ap (map told) says),
      refl,
      refl,
      (λ conn j. ((λ q. cc), ((λ q. cc), tt))),
      (λ conn. part_asked (5 == conn) asks_open),
      (λ conn o j. record { all = all_asked (5 == conn) asks_open; handled = one_handled (5 == conn) (may_ask (w.gate.session 5) && comes (outcome w 5 lives.alone_here asks_open [])) (record { request = asks_open; before = transaction_ran w 5; own = asks_for w 5 lives.alone_here asks_open }) asks_open refl refl; waits = λ e. refl; run = client_runs (codes "d") conn }),
    )

abbrev writes_life : List Doing
writes_life = lives.sets 5 empty_image 7 ∷ Apply ∷ []

-- what the engine said of it
abbrev set_answers : List Answer
set_answers = Ok (lives.set_on empty_image 7) ∷ []

writes_so : (trail : ℕ → Trail) (before : List Said) → Shows (leading (Other ∷ opening ∷ []) (client (codes "d")) opened) (leading (Other ∷ opening ∷ writing ∷ []) (client (codes "d")) wrote) (taken first_run 1 (Asks 5 (asks_set ∷ [])) (raft.Propose (written 0 (writing ∷ [])) ∷ [])) [] ((5, result 1) ∷ []) set_answers (node_of (leading (Other ∷ opening ∷ []) (client (codes "d")) opened).raft) (life_of (Other ∷ opening ∷ []) (client (codes "d")) trail before) (raft.Local (raft.Propose (written 0 (writing ∷ []))) ∷ [])
unfolding used is_space is_digit is_letter is_word_start is_word_part is_sigil is_quote is_in_line has_end kind_of quoted starred decimal in_range parameter solid extended finished statements_from scan_of sigil_token dash_token slash_token sign_token token_of tokens_past is_write is_left_out keyword_of followed_by kind_so_far parts_of first_count cut first_nul zeros resized page_from sizes_page page_at stated_main stated_side replaced put_pages applied is_sizes order_fault length_fault fault_before changed_from changed at_name change_first split_from asked_by asked_unless_lost takes runs tx_of tidy on_applied told_applied on_lost told_lost on_hangup connects connected holds other_holds change_in_flight all_names one_too_many pending_pages pages_with too_full change_refusal with_commit framed act files row_cause outside_write outside inside committed does on_request handed with_session may_ask goes_on cell_page with_page with_cell wiped outcome_of change_at configuration voters_after may_change member_step log_end matches merged conflict_place accept first_replaced accept_above first_replaced_above is_up_to_date term_at voters others peers majority on_grants may_start_election start_election on_ask_vote grants_with on_vote agrees take_entries replaces_committed on_append on_install on_snapped on_ack message_in_range on_message on_propose on_beat on_transfer on_servers majority_stores commit_below commit_index needs_snapshot message_to finish serve raft_step step_acts put run is_stored_by_majority commit_up_to may_grant compacted_step writes_it writing
writes_so trail before =
    let w = life_of (Other ∷ opening ∷ []) (client (codes "d")) trail before in
    let v = lives_on w writes_life in
    let statement : Statement = record { text = lives.set_text 7; params = [] } in
    let x : Said = record { conn = 5; reply = result 1; query = None; commit = Some (record { name = codes "d"; first = 3; last = 3; term = 1; statements = statement ∷ [] }); opened = None; index = 3; term = 1 } in
    let says : said_in w writes_life ≡ x ∷ [] = drop-append_seam before (x ∷ []) in
    let gate : v.gate ≡ client (codes "d") = λ i. record { conns = 5 ∷ []; session = λ conn. settles (conn == 5) 3 3 (Writing (result 1)) (codes "d") refl refl i; weight = 0 } in
    let is : v ≡ life_of (Other ∷ opening ∷ writing ∷ []) (client (codes "d")) v.trail v.said = λ i. record { term = 1; leads = true; serving = true; log = v.log; applied = 3; gate = gate i; trail = v.trail; said = v.said } in (
      writes_life,
      record {
        weaves = ((λ r s. writing_weaves s), tt);
        fits = ((λ h. ((0, may_set), tt)), (omega arith, tt));
        terms = subst (InTerm v) (sym says) ((λ h. (refl, refl)), tt);
        coherent = record { log = same_log (entries_of 1 (Other ∷ opening ∷ writing ∷ [])) (written 1 (Other ∷ opening ∷ writing ∷ [])) refl refl three_seen; applied = refl; term = refl; leads = refl };
      },
      stands_after (Other ∷ opening ∷ writing ∷ []) (client (codes "d")) wrote (steps (member_step (fixed only) 1) (node_of (leading (Other ∷ opening ∷ []) (client (codes "d")) opened).raft) (raft.Local (raft.Propose (written 0 (writing ∷ []))) ∷ [])) v v.trail v.said refl is (stands_leading (Other ∷ opening ∷ writing ∷ []) (client (codes "d")) wrote v.trail v.said three_seen (none_at (codes "d")) machine_wrote files_wrote),
      refl,
      sym (ap (map told) says),
      refl,
      refl,
      (λ conn j. ((λ q. cc), ((λ q. cc), tt))),
      (λ conn. part_asked (5 == conn) asks_set),
      (λ conn o j. record { all = all_asked (5 == conn) asks_set; handled = one_handled (5 == conn) (may_ask (w.gate.session 5) && comes (outcome w 5 lives.alone_here asks_set (Ok (lives.set_on empty_image 7) ∷ []))) (record { request = asks_set; before = transaction_ran w 5; own = asks_for w 5 lives.alone_here asks_set }) asks_set refl refl; waits = λ e. refl; run = client_runs (codes "d") conn }),
    )

-- ---- the run

pub run_writes_holds : RunWrites
unfolding voters configuration voters_after peers others
run_writes_holds = (
  (nothing_kept, refl, lone_starts (fixed only) only refl refl),
  (
    (lone only only, [], refl, tt, elects_hold),
    (
      (leading (Other ∷ []) no_sessions [], [], refl, tt, holds_at (Other ∷ []) no_sessions [] (leading (Other ∷ []) (client []) []) _ [] [] [] first_seen none_in tt (λ is a. no_more is a) refl comes_so),
      (
        (leading (Other ∷ []) (client []) [], [], refl, tt, holds_at (Other ∷ []) (client []) [] (leading (Other ∷ opening ∷ []) (client (codes "d")) opened) _ ((5, db) ∷ []) [] (raft.Local (raft.Propose (written 0 (opening ∷ []))) ∷ []) first_seen (none_at []) tt (λ is a. one_input (raft.Propose (written 0 (opening ∷ []))) is a) refl opens_so),
        (
          (leading (Other ∷ opening ∷ []) (client (codes "d")) opened, set_answers, refl, tt, holds_at (Other ∷ opening ∷ []) (client (codes "d")) opened (leading (Other ∷ opening ∷ writing ∷ []) (client (codes "d")) wrote) _ ((5, result 1) ∷ []) set_answers (raft.Local (raft.Propose (written 0 (writing ∷ []))) ∷ []) two_seen (none_at (codes "d")) tt (λ is a. one_input (raft.Propose (written 0 (writing ∷ []))) is a) refl writes_so),
          tt,
        ),
      ),
    ),
  ),
)
