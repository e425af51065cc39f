-- The small cluster, computed.
use Rattle.std.proofs.Common.{◌≡◌, ℕ, zero, suc, true, true≢false, List, [], ◌∷◌, ◌++◌, map, refl, sym, ap, ◌∙◌, subst, arith}
use Rattle.std.specs.Prelude.{codes, bytes_eq, None}
use Rattle.std.specs.List.{AllByRecursion}
use Rattle.std.specs.Str.{IsAscii}
use Rattle.std.proofs.lemmas.Str.{IsUtf8-from_ascii}
use Rattle.std.proofs.lemmas.Str.Ascii.{IsAscii-nil}
use Rattle.log_commands.specs.Numbers.{numbers_ascend, ends_with, frames_fit}
use Rattle.log_commands.specs.Spelling.{IsTextName, HaveNumbers, HaveSizes}
use Rattle.std.proofs.lemmas.Bool.{cond_both}
use Rattle.database_state.specs.Files.{empty_image}
use Rattle.sql_scan.specs.Bytes.{is_space, is_digit, is_letter, is_word_start, is_word_part, is_sigil, is_quote, is_in_line}
use Rattle.sql_scan.specs.Grammar.{has_end}
use Rattle.sql_scan.specs.Kinds.{kind_of}
use Rattle.sql_scan.specs.Lengths.{quoted, starred}
use Rattle.sql_scan.specs.Statements.{decimal, in_range, parameter, solid, extended, finished, statements_from, scan_of}
use Rattle.sql_scan.specs.Tokens.{sigil_token, dash_token, slash_token, sign_token, token_of, tokens_past}
use Rattle.sql_scan.specs.Words.{is_write, is_left_out, keyword_of, followed_by, kind_so_far}
use Rattle.wire_rows.specs.Answering.{parts_of}
use Rattle.wire_rows.specs.Cut.{first_count, cut}
use Rattle.wire_rows.specs.Nuls.{first_nul}
use Rattle.dq_base.specs.Images.{zeros, resized, page_from, sizes_page, page_at}
use Rattle.dq_base.specs.Applying.{stated_main, stated_side, replaced, put_pages, applied, is_sizes, order_fault, length_fault, fault_before}
use Rattle.dq_base.specs.Changes.{changed_from, changed}
use Rattle.database_state.specs.ByName.{at_name, change_first}
use Rattle.log_commands.specs.Splitting.{split_from, split}
use Rattle.session_spec.specs.Asking.{asked_unless_lost, asked_by}
use Rattle.session_spec.specs.Engines.{takes, runs}
use Rattle.session_spec.specs.Entries.{Content, Does, Other, Entry, entries_of, written, tx_of}
use Rattle.session_spec.specs.Seen.{log_seen, HasSpelling}
use Rattle.session_spec.proofs.Seeing.{written_is_seen_holds}
use Rattle.sql_engine.specs.declared.kind.EngineKind.TheVariants.{Cells}
use Rattle.session_safety.specs.Woven.{Woven}
use Rattle.session_safety.specs.Examples as lives
use Rattle.session_safety.proofs.Weaves.{woven_plain, woven_split}
use Rattle.session_safety.proofs.Examples.{may_set, may_get}
use Rattle.raft_spec.specs.Log as raft
use Rattle.session_spec.specs.Events.{tidy, on_applied, told_applied, on_lost, told_lost, on_hangup, connects, connected}
use Rattle.session_spec.specs.Limits.{holds, other_holds, change_in_flight, all_names, one_too_many, pending_pages, pages_with, too_full, change_refusal}
use Rattle.session_spec.specs.Machine.{Base, blank, base_at, with_commit, framed, act, files}
use Rattle.session_spec.specs.Requests.{row_cause, outside_write, outside, inside, committed, does, on_request, handed, with_session}
use Rattle.session_spec.specs.Sessions.{may_ask}
use Rattle.session_safety.specs.Life.{ArePlain, happens as goes_on}
use Rattle.sql_engine.specs.Cells.{cells, cell_page, with_page, with_cell, wiped, outcome_of}
use Rattle.raft_spec.specs.Log.{term_at, log_end, matches, merged, conflict_place, accept, first_replaced, accept_above, first_replaced_above, is_up_to_date}
use Rattle.raft_spec.specs.Node.{voters, others, peers, majority}
use Rattle.raft_spec.specs.Elections.{on_grants, may_start_election, start_election, on_ask_vote, grants_with, on_vote, may_grant}
use Rattle.raft_spec.specs.Replication.{agrees, take_entries, replaces_committed, on_append, on_ack, on_propose, on_beat, on_transfer}
use Rattle.raft_spec.specs.Snapshots.{on_install, on_snapped, needs_snapshot}
use Rattle.raft_spec.specs.Membership.{on_servers}
use Rattle.raft_spec.specs.Commitment.{is_stored_by_majority, commit_up_to, majority_stores, commit_below, commit_index}
use Rattle.raft_spec.specs.Receiving.{in_range as message_in_range, on_message}
use Rattle.raft_spec.specs.Steps.{message_to, finish, serve, raft_step}
use Rattle.raft_spec.specs.Account.{step_acts}
use Rattle.raft_spec.specs.Outcomes.{with_term}
use Rattle.raft_safety.specs.Members.{fixed, change_at, configuration, voters_after, may_change, member_step}
use Rattle.raft_safety.specs.World.{put, run}
use Rattle.cluster_model.specs.Weaving.{IsWoven}
use Rattle.cluster_model.specs.Clusters.{Act, Cluster, acted, first_cluster, cluster_from, cluster, ActsFit}
use Rattle.cluster_model.proofs.Proposals.{proposals_seen_hold}
use Rattle.cluster_model.proofs.Clusters.{cluster_join, clusters_are_safe_hold}
use Rattle.cluster_model.proofs.Lines.{seen_append}
use Rattle.cluster_model.specs.Examples.{opening, writing, three, elects, opens, writes, moves_on, turns, after, RunSays, SecondLeads, RunFits, RunIsSafe}

pub run_says_holds : RunSays
unfolding is_space is_digit is_letter is_word_start is_word_part is_sigil is_quote is_in_line has_end kind_of quoted starred decimal in_range parameter solid extended finished statements_from scan_of sigil_token dash_token slash_token sign_token token_of tokens_past is_write is_left_out keyword_of followed_by kind_so_far parts_of first_count cut first_nul zeros resized page_from sizes_page page_at stated_main stated_side replaced put_pages applied is_sizes order_fault length_fault fault_before changed_from changed at_name change_first split_from asked_by asked_unless_lost takes runs tx_of tidy on_applied told_applied on_lost told_lost on_hangup connects connected holds other_holds change_in_flight all_names one_too_many pending_pages pages_with too_full change_refusal with_commit framed act files row_cause outside_write outside inside committed does on_request handed with_session may_ask goes_on cell_page with_page with_cell wiped outcome_of change_at configuration voters_after may_change member_step log_end matches merged conflict_place accept first_replaced accept_above first_replaced_above is_up_to_date term_at voters others peers majority on_grants may_start_election start_election on_ask_vote grants_with on_vote agrees take_entries replaces_committed on_append on_install on_snapped on_ack message_in_range on_message on_propose on_beat on_transfer on_servers majority_stores commit_below commit_index needs_snapshot message_to finish serve raft_step step_acts put run is_stored_by_majority commit_up_to may_grant writing elects opens writes moves_on turns after acted cluster
run_says_holds = refl

pub second_leads_holds : SecondLeads
unfolding is_space is_digit is_letter is_word_start is_word_part is_sigil is_quote is_in_line has_end kind_of quoted starred decimal in_range parameter solid extended finished statements_from scan_of sigil_token dash_token slash_token sign_token token_of tokens_past is_write is_left_out keyword_of followed_by kind_so_far parts_of first_count cut first_nul zeros resized page_from sizes_page page_at stated_main stated_side replaced put_pages applied is_sizes order_fault length_fault fault_before changed_from changed at_name change_first split_from asked_by asked_unless_lost takes runs tx_of tidy on_applied told_applied on_lost told_lost on_hangup connects connected holds other_holds change_in_flight all_names one_too_many pending_pages pages_with too_full change_refusal with_commit framed act files row_cause outside_write outside inside committed does on_request handed with_session may_ask goes_on cell_page with_page with_cell wiped outcome_of change_at configuration voters_after may_change member_step log_end matches merged conflict_place accept first_replaced accept_above first_replaced_above is_up_to_date term_at voters others peers majority on_grants may_start_election start_election on_ask_vote grants_with on_vote agrees take_entries replaces_committed on_append on_install on_snapped on_ack message_in_range on_message on_propose on_beat on_transfer on_servers majority_stores commit_below commit_index needs_snapshot message_to finish serve raft_step step_acts put run is_stored_by_majority commit_up_to may_grant writing elects opens writes moves_on turns after acted cluster
second_leads_holds = refl

-- ---- what is written reads back

ascii : IsAscii (codes "d")
ascii zero = omega arith
ascii (suc i) = IsAscii-nil i

pub named : IsTextName (codes "d")
named = (record { not_empty = omega arith; short = omega arith; no_nul = refl }, IsUtf8-from_ascii (codes "d") ascii)

pub opening_spelled : HasSpelling opening
opening_spelled = record { in_range = named; fits = refl; parts = refl }

pages_numbered : HaveNumbers (changed empty_image (lives.one 7))
unfolding is_space is_digit is_letter is_word_start is_word_part is_sigil is_quote is_in_line has_end kind_of quoted starred decimal in_range parameter solid extended finished statements_from scan_of sigil_token dash_token slash_token sign_token token_of tokens_past is_write is_left_out keyword_of followed_by kind_so_far parts_of first_count cut first_nul zeros resized page_from sizes_page page_at stated_main stated_side replaced put_pages applied is_sizes order_fault length_fault fault_before changed_from changed at_name change_first split_from asked_by asked_unless_lost takes runs tx_of tidy on_applied told_applied on_lost told_lost on_hangup connects connected holds other_holds change_in_flight all_names one_too_many pending_pages pages_with too_full change_refusal with_commit framed act files row_cause outside_write outside inside committed does on_request handed with_session may_ask goes_on cell_page with_page with_cell wiped outcome_of change_at configuration voters_after may_change member_step log_end matches merged conflict_place accept first_replaced accept_above first_replaced_above is_up_to_date term_at voters others peers majority on_grants may_start_election start_election on_ask_vote grants_with on_vote agrees take_entries replaces_committed on_append on_install on_snapped on_ack message_in_range on_message on_propose on_beat on_transfer on_servers majority_stores commit_below commit_index needs_snapshot message_to finish serve raft_step step_acts put run is_stored_by_majority commit_up_to may_grant writing elects opens writes moves_on turns after acted cluster
pages_numbered = (omega arith, (omega arith, (omega arith, tt)))

pages_sized : HaveSizes (changed empty_image (lives.one 7))
unfolding is_space is_digit is_letter is_word_start is_word_part is_sigil is_quote is_in_line has_end kind_of quoted starred decimal in_range parameter solid extended finished statements_from scan_of sigil_token dash_token slash_token sign_token token_of tokens_past is_write is_left_out keyword_of followed_by kind_so_far parts_of first_count cut first_nul zeros resized page_from sizes_page page_at stated_main stated_side replaced put_pages applied is_sizes order_fault length_fault fault_before changed_from changed at_name change_first split_from asked_by asked_unless_lost takes runs tx_of tidy on_applied told_applied on_lost told_lost on_hangup connects connected holds other_holds change_in_flight all_names one_too_many pending_pages pages_with too_full change_refusal with_commit framed act files row_cause outside_write outside inside committed does on_request handed with_session may_ask goes_on cell_page with_page with_cell wiped outcome_of change_at configuration voters_after may_change member_step log_end matches merged conflict_place accept first_replaced accept_above first_replaced_above is_up_to_date term_at voters others peers majority on_grants may_start_election start_election on_ask_vote grants_with on_vote agrees take_entries replaces_committed on_append on_install on_snapped on_ack message_in_range on_message on_propose on_beat on_transfer on_servers majority_stores commit_below commit_index needs_snapshot message_to finish serve raft_step step_acts put run is_stored_by_majority commit_up_to may_grant writing elects opens writes moves_on turns after acted cluster
pages_sized = (refl, (refl, (refl, tt)))

pub writing_spelled : HasSpelling writing
unfolding is_space is_digit is_letter is_word_start is_word_part is_sigil is_quote is_in_line has_end kind_of quoted starred decimal in_range parameter solid extended finished statements_from scan_of sigil_token dash_token slash_token sign_token token_of tokens_past is_write is_left_out keyword_of followed_by kind_so_far parts_of first_count cut first_nul zeros resized page_from sizes_page page_at stated_main stated_side replaced put_pages applied is_sizes order_fault length_fault fault_before changed_from changed at_name change_first split_from asked_by asked_unless_lost takes runs tx_of tidy on_applied told_applied on_lost told_lost on_hangup connects connected holds other_holds change_in_flight all_names one_too_many pending_pages pages_with too_full change_refusal with_commit framed act files row_cause outside_write outside inside committed does on_request handed with_session may_ask goes_on cell_page with_page with_cell wiped outcome_of change_at configuration voters_after may_change member_step log_end matches merged conflict_place accept first_replaced accept_above first_replaced_above is_up_to_date term_at voters others peers majority on_grants may_start_election start_election on_ask_vote grants_with on_vote agrees take_entries replaces_committed on_append on_install on_snapped on_ack message_in_range on_message on_propose on_beat on_transfer on_servers majority_stores commit_below commit_index needs_snapshot message_to finish serve raft_step step_acts put run is_stored_by_majority commit_up_to may_grant writing elects opens writes moves_on turns after acted cluster frames_fit ends_with numbers_ascend
writing_spelled = record { in_range = (named, omega arith, omega arith, pages_numbered, pages_sized); fits = refl; parts = refl }

-- the log with these, in terms 1 and 2, as sessions see it
seen_all : (rest : List Content) → AllByRecursion HasSpelling rest → log_seen (written 1 (Other ∷ opening ∷ writing ∷ []) ++ written 2 rest) ≡ entries_of 1 (Other ∷ opening ∷ writing ∷ []) ++ entries_of 2 rest
seen_all rest h = seen_append (written 1 (Other ∷ opening ∷ writing ∷ [])) (written 2 rest) ∙ ap (λ l. l ++ log_seen (written 2 rest)) (written_is_seen_holds 1 (Other ∷ opening ∷ writing ∷ []) (tt, (opening_spelled, (writing_spelled, tt)))) ∙ ap (λ l. entries_of 1 (Other ∷ opening ∷ writing ∷ []) ++ l) (written_is_seen_holds 2 rest h)

four_seen : log_seen (written 1 (Other ∷ opening ∷ writing ∷ []) ++ written 2 (Other ∷ [])) ≡ entries_of 1 (Other ∷ opening ∷ writing ∷ []) ++ entries_of 2 (Other ∷ [])
four_seen = seen_all (Other ∷ []) (tt, tt)

-- ---- each act fits

-- a life's log is the one that is seen in a node's
pub same_log : {a : List Entry} {b : List raft.Entry} (l : List Entry) (r : List raft.Entry) → a ≡ l → b ≡ r → log_seen r ≡ l → a ≡ log_seen b
same_log l r p q s = p ∙ sym (ap log_seen q ∙ s)

pub first_seen : log_seen (written 1 (Other ∷ [])) ≡ entries_of 1 (Other ∷ [])
first_seen = written_is_seen_holds 1 (Other ∷ []) (tt, tt)

pub two_seen : log_seen (written 1 (Other ∷ opening ∷ [])) ≡ entries_of 1 (Other ∷ opening ∷ [])
two_seen = written_is_seen_holds 1 (Other ∷ opening ∷ []) (tt, (opening_spelled, tt))

pub three_seen : log_seen (written 1 (Other ∷ opening ∷ writing ∷ [])) ≡ entries_of 1 (Other ∷ opening ∷ writing ∷ [])
three_seen = written_is_seen_holds 1 (Other ∷ opening ∷ writing ∷ []) (tt, (opening_spelled, (writing_spelled, tt)))

pub plain_weaves : (term : ℕ) (log : List raft.Entry) (contents : List Content) → AllByRecursion HasSpelling contents → ArePlain true contents → IsWoven log → IsWoven (log ++ with_term term (written 0 contents))
plain_weaves term log contents h plain w = subst Woven (sym (proposals_seen_hold log 0 term contents h)) (woven_plain true term (log_seen log) contents plain w)

pub writing_is : map Does (split (codes "d") (record { tx = tx_of 1 3; pages = changed empty_image (lives.one 7) })) ≡ writing ∷ []
unfolding is_space is_digit is_letter is_word_start is_word_part is_sigil is_quote is_in_line has_end kind_of quoted starred decimal in_range parameter solid extended finished statements_from scan_of sigil_token dash_token slash_token sign_token token_of tokens_past is_write is_left_out keyword_of followed_by kind_so_far parts_of first_count cut first_nul zeros resized page_from sizes_page page_at stated_main stated_side replaced put_pages applied is_sizes order_fault length_fault fault_before changed_from changed at_name change_first split_from asked_by asked_unless_lost takes runs tx_of tidy on_applied told_applied on_lost told_lost on_hangup connects connected holds other_holds change_in_flight all_names one_too_many pending_pages pages_with too_full change_refusal with_commit framed act files row_cause outside_write outside inside committed does on_request handed with_session may_ask goes_on cell_page with_page with_cell wiped outcome_of change_at configuration voters_after may_change member_step log_end matches merged conflict_place accept first_replaced accept_above first_replaced_above is_up_to_date term_at voters others peers majority on_grants may_start_election start_election on_ask_vote grants_with on_vote agrees take_entries replaces_committed on_append on_install on_snapped on_ack message_in_range on_message on_propose on_beat on_transfer on_servers majority_stores commit_below commit_index needs_snapshot message_to finish serve raft_step step_acts put run is_stored_by_majority commit_up_to may_grant writing elects opens writes moves_on turns after acted cluster
writing_is = refl

pub writing_weaves : IsWoven (written 1 (Other ∷ opening ∷ [])) → IsWoven (written 1 (Other ∷ opening ∷ []) ++ with_term 1 (written 0 (writing ∷ [])))
writing_weaves w =
    let log = written 1 (Other ∷ opening ∷ []) in
    subst Woven (sym (proposals_seen_hold log 0 1 (writing ∷ []) (writing_spelled, tt)))
    (subst (λ (cs : List Content). Woven (log_seen log ++ entries_of 1 cs)) writing_is (woven_split 1 (codes "d") (log_seen log) (changed empty_image (lives.one 7)) (omega arith) w))

elects_fit : ActsFit cells Cells (fixed three) first_cluster elects
unfolding is_space is_digit is_letter is_word_start is_word_part is_sigil is_quote is_in_line has_end kind_of quoted starred decimal in_range parameter solid extended finished statements_from scan_of sigil_token dash_token slash_token sign_token token_of tokens_past is_write is_left_out keyword_of followed_by kind_so_far parts_of first_count cut first_nul zeros resized page_from sizes_page page_at stated_main stated_side replaced put_pages applied is_sizes order_fault length_fault fault_before changed_from changed at_name change_first split_from asked_by asked_unless_lost takes runs tx_of tidy on_applied told_applied on_lost told_lost on_hangup connects connected holds other_holds change_in_flight all_names one_too_many pending_pages pages_with too_full change_refusal with_commit framed act files row_cause outside_write outside inside committed does on_request handed with_session may_ask goes_on cell_page with_page with_cell wiped outcome_of change_at configuration voters_after may_change member_step log_end matches merged conflict_place accept first_replaced accept_above first_replaced_above is_up_to_date term_at voters others peers majority on_grants may_start_election start_election on_ask_vote grants_with on_vote agrees take_entries replaces_committed on_append on_install on_snapped on_ack message_in_range on_message on_propose on_beat on_transfer on_servers majority_stores commit_below commit_index needs_snapshot message_to finish serve raft_step step_acts put run is_stored_by_majority commit_up_to may_grant writing elects opens writes moves_on turns after acted cluster
elects_fit = (
  (refl, record { weaves = (tt, tt); fits = (omega arith, tt); terms = tt; coherent = record { log = refl; applied = refl; term = refl; leads = refl } }),
  (
    (refl, record { weaves = (tt, tt); fits = (omega arith, tt); terms = tt; coherent = record { log = refl; applied = refl; term = refl; leads = refl } }),
    (
      (refl, record { weaves = (tt, tt); fits = ((refl, omega arith), ((refl, (tt, tt)), tt)); terms = tt; coherent = record { log = same_log (entries_of 1 (Other ∷ [])) (written 1 (Other ∷ [])) refl refl first_seen; applied = refl; term = refl; leads = refl } }),
      (
        (refl, record { weaves = (tt, tt); fits = ((refl, 1, [], sym (same_log (entries_of 1 (Other ∷ [])) (written 1 (Other ∷ [])) refl refl first_seen)), tt); terms = tt; coherent = record { log = same_log (entries_of 1 (Other ∷ [])) (written 1 (Other ∷ [])) refl refl first_seen; applied = refl; term = refl; leads = refl } }),
        tt,
      ),
    ),
  ),
)

opens_fit : ActsFit cells Cells (fixed three) (cluster_from (fixed three) first_cluster elects) opens
unfolding is_space is_digit is_letter is_word_start is_word_part is_sigil is_quote is_in_line has_end kind_of quoted starred decimal in_range parameter solid extended finished statements_from scan_of sigil_token dash_token slash_token sign_token token_of tokens_past is_write is_left_out keyword_of followed_by kind_so_far parts_of first_count cut first_nul zeros resized page_from sizes_page page_at stated_main stated_side replaced put_pages applied is_sizes order_fault length_fault fault_before changed_from changed at_name change_first split_from asked_by asked_unless_lost takes runs tx_of tidy on_applied told_applied on_lost told_lost on_hangup connects connected holds other_holds change_in_flight all_names one_too_many pending_pages pages_with too_full change_refusal with_commit framed act files row_cause outside_write outside inside committed does on_request handed with_session may_ask goes_on cell_page with_page with_cell wiped outcome_of change_at configuration voters_after may_change member_step log_end matches merged conflict_place accept first_replaced accept_above first_replaced_above is_up_to_date term_at voters others peers majority on_grants may_start_election start_election on_ask_vote grants_with on_vote agrees take_entries replaces_committed on_append on_install on_snapped on_ack message_in_range on_message on_propose on_beat on_transfer on_servers majority_stores commit_below commit_index needs_snapshot message_to finish serve raft_step step_acts put run is_stored_by_majority commit_up_to may_grant writing elects opens writes moves_on turns after acted cluster
opens_fit = (
  (refl, record { weaves = (tt, tt); fits = (omega arith, ((refl, refl, λ n. refl), (tt, tt))); terms = tt; coherent = record { log = same_log (entries_of 1 (Other ∷ [])) (written 1 (Other ∷ [])) refl refl first_seen; applied = refl; term = refl; leads = refl } }),
  (
    (refl, record { weaves = ((λ r w. plain_weaves 1 (written 1 (Other ∷ [])) (opening ∷ []) (opening_spelled, tt) (tt, tt) w), tt); fits = ((λ h. tt), tt); terms = tt; coherent = record { log = same_log (entries_of 1 (Other ∷ opening ∷ [])) (written 1 (Other ∷ opening ∷ [])) refl refl two_seen; applied = refl; term = refl; leads = refl } }),
    (
      (refl, record { weaves = (tt, tt); fits = ((refl, 1, [], sym (same_log (entries_of 1 (Other ∷ opening ∷ [])) (written 1 (Other ∷ opening ∷ [])) refl refl two_seen)), (omega arith, tt)); terms = tt; coherent = record { log = same_log (entries_of 1 (Other ∷ opening ∷ [])) (written 1 (Other ∷ opening ∷ [])) refl refl two_seen; applied = refl; term = refl; leads = refl } }),
      (
        (refl, record { weaves = (tt, tt); fits = (omega arith, tt); terms = ((λ h. (refl, refl)), tt); coherent = record { log = same_log (entries_of 1 (Other ∷ opening ∷ [])) (written 1 (Other ∷ opening ∷ [])) refl refl two_seen; applied = refl; term = refl; leads = refl } }),
        tt,
      ),
    ),
  ),
)

writes_fit : ActsFit cells Cells (fixed three) (cluster_from (fixed three) first_cluster (elects ++ opens)) writes
unfolding is_space is_digit is_letter is_word_start is_word_part is_sigil is_quote is_in_line has_end kind_of quoted starred decimal in_range parameter solid extended finished statements_from scan_of sigil_token dash_token slash_token sign_token token_of tokens_past is_write is_left_out keyword_of followed_by kind_so_far parts_of first_count cut first_nul zeros resized page_from sizes_page page_at stated_main stated_side replaced put_pages applied is_sizes order_fault length_fault fault_before changed_from changed at_name change_first split_from asked_by asked_unless_lost takes runs tx_of tidy on_applied told_applied on_lost told_lost on_hangup connects connected holds other_holds change_in_flight all_names one_too_many pending_pages pages_with too_full change_refusal with_commit framed act files row_cause outside_write outside inside committed does on_request handed with_session may_ask goes_on cell_page with_page with_cell wiped outcome_of change_at configuration voters_after may_change member_step log_end matches merged conflict_place accept first_replaced accept_above first_replaced_above is_up_to_date term_at voters others peers majority on_grants may_start_election start_election on_ask_vote grants_with on_vote agrees take_entries replaces_committed on_append on_install on_snapped on_ack message_in_range on_message on_propose on_beat on_transfer on_servers majority_stores commit_below commit_index needs_snapshot message_to finish serve raft_step step_acts put run is_stored_by_majority commit_up_to may_grant writing elects opens writes moves_on turns after acted cluster
writes_fit = (
  (refl, record { weaves = ((λ r w. writing_weaves w), tt); fits = ((λ h. ((0, may_set), tt)), tt); terms = tt; coherent = record { log = same_log (entries_of 1 (Other ∷ opening ∷ writing ∷ [])) (written 1 (Other ∷ opening ∷ writing ∷ [])) refl refl three_seen; applied = refl; term = refl; leads = refl } }),
  (
    ((λ u. record { weaves = (tt, tt); fits = (omega arith, ((refl, 1, [], sym (same_log (entries_of 1 (Other ∷ opening ∷ writing ∷ [])) (written 1 (Other ∷ opening ∷ writing ∷ [])) refl refl three_seen)), (omega arith, tt))); ended = record { applied = refl; front = same_log (entries_of 1 (Other ∷ [])) (written 1 (Other ∷ [])) refl refl first_seen } }), (λ d. absurd (true≢false d))),
    (
      tt,
      (
        (refl, record { weaves = (tt, tt); fits = ((refl, 1, [], sym (same_log (entries_of 1 (Other ∷ opening ∷ writing ∷ [])) (written 1 (Other ∷ opening ∷ writing ∷ [])) refl refl three_seen)), (omega arith, tt)); terms = tt; coherent = record { log = same_log (entries_of 1 (Other ∷ opening ∷ writing ∷ [])) (written 1 (Other ∷ opening ∷ writing ∷ [])) refl refl three_seen; applied = refl; term = refl; leads = refl } }),
        (
          (refl, record { weaves = (tt, tt); fits = (omega arith, tt); terms = ((λ h. (refl, refl)), tt); coherent = record { log = same_log (entries_of 1 (Other ∷ opening ∷ writing ∷ [])) (written 1 (Other ∷ opening ∷ writing ∷ [])) refl refl three_seen; applied = refl; term = refl; leads = refl } }),
          tt,
        ),
      ),
    ),
  ),
)

-- no pages are pending at the end
nothing_pending : (n : List ℕ) → (base_at (entries_of 1 (Other ∷ opening ∷ writing ∷ []) ++ entries_of 2 (Other ∷ [])) 4 n).pending ≡ None
unfolding files act framed writing
nothing_pending n = cond_both (bytes_eq n (codes "d")) (framed 4294967299 true (changed empty_image (lives.one 7)) blank) blank (λ (b : Base). b.pending ≡ None) (λ e. refl) (λ e. refl)

moves_fit : ActsFit cells Cells (fixed three) (cluster_from (fixed three) first_cluster (elects ++ (opens ++ writes))) moves_on
unfolding is_space is_digit is_letter is_word_start is_word_part is_sigil is_quote is_in_line has_end kind_of quoted starred decimal in_range parameter solid extended finished statements_from scan_of sigil_token dash_token slash_token sign_token token_of tokens_past is_write is_left_out keyword_of followed_by kind_so_far parts_of first_count cut first_nul zeros resized page_from sizes_page page_at stated_main stated_side replaced put_pages applied is_sizes order_fault length_fault fault_before changed_from changed at_name change_first split_from asked_by asked_unless_lost takes runs tx_of tidy on_applied told_applied on_lost told_lost on_hangup connects connected holds other_holds change_in_flight all_names one_too_many pending_pages pages_with too_full change_refusal with_commit framed act files row_cause outside_write outside inside committed does on_request handed with_session may_ask goes_on cell_page with_page with_cell wiped outcome_of change_at configuration voters_after may_change member_step log_end matches merged conflict_place accept first_replaced accept_above first_replaced_above is_up_to_date term_at voters others peers majority on_grants may_start_election start_election on_ask_vote grants_with on_vote agrees take_entries replaces_committed on_append on_install on_snapped on_ack message_in_range on_message on_propose on_beat on_transfer on_servers majority_stores commit_below commit_index needs_snapshot message_to finish serve raft_step step_acts put run is_stored_by_majority commit_up_to may_grant writing elects opens writes moves_on turns after acted cluster
moves_fit = (
  tt,
  (
    (refl, record { weaves = (tt, tt); fits = (omega arith, tt); terms = tt; coherent = record { log = same_log (entries_of 1 (Other ∷ opening ∷ writing ∷ [])) (written 1 (Other ∷ opening ∷ writing ∷ [])) refl refl three_seen; applied = refl; term = refl; leads = refl } }),
    (
      (refl, record { weaves = (tt, tt); fits = (omega arith, tt); terms = tt; coherent = record { log = same_log (entries_of 1 (Other ∷ opening ∷ writing ∷ [])) (written 1 (Other ∷ opening ∷ writing ∷ [])) refl refl three_seen; applied = refl; term = refl; leads = refl } }),
      (
        (refl, record { weaves = (tt, tt); fits = ((refl, omega arith), ((refl, (tt, tt)), tt)); terms = tt; coherent = record { log = same_log (entries_of 1 (Other ∷ opening ∷ writing ∷ []) ++ entries_of 2 (Other ∷ [])) (written 1 (Other ∷ opening ∷ writing ∷ []) ++ written 2 (Other ∷ [])) refl refl four_seen; applied = refl; term = refl; leads = refl } }),
        (
          (refl, record { weaves = (tt, tt); fits = ((refl, 1, [], sym (same_log (entries_of 1 (Other ∷ opening ∷ writing ∷ []) ++ entries_of 2 (Other ∷ [])) (written 1 (Other ∷ opening ∷ writing ∷ []) ++ written 2 (Other ∷ [])) refl refl four_seen)), tt); terms = tt; coherent = record { log = same_log (entries_of 1 (Other ∷ opening ∷ writing ∷ []) ++ entries_of 2 (Other ∷ [])) (written 1 (Other ∷ opening ∷ writing ∷ []) ++ written 2 (Other ∷ [])) refl refl four_seen; applied = refl; term = refl; leads = refl } }),
          (
            (refl, record { weaves = (tt, tt); fits = (omega arith, (omega arith, ((refl, refl, λ n. nothing_pending n), (tt, ((λ h. tt), ((λ h. ((0, may_get), tt)), tt)))))); terms = ((λ h. absurd (omega arith)), ((λ h. absurd (omega arith)), tt)); coherent = record { log = same_log (entries_of 1 (Other ∷ opening ∷ writing ∷ []) ++ entries_of 2 (Other ∷ [])) (written 1 (Other ∷ opening ∷ writing ∷ []) ++ written 2 (Other ∷ [])) refl refl four_seen; applied = refl; term = refl; leads = refl } }),
            tt,
          ),
        ),
      ),
    ),
  ),
)

-- the parts, one after another
fit_join : (xs ys : List Act) (c : Cluster) → ActsFit cells Cells (fixed three) c xs → ActsFit cells Cells (fixed three) (cluster_from (fixed three) c xs) ys → ActsFit cells Cells (fixed three) c (xs ++ ys)
fit_join [] ys c a b = b
fit_join (x ∷ xs) ys c a b = (a.0, fit_join xs ys (acted (fixed three) c x) a.1 b)

pub run_fits_holds : RunFits
unfolding turns
run_fits_holds =
    let s = fixed three in
    let c = cluster_from s first_cluster elects in
    let d = cluster_from s c opens in
    fit_join elects (opens ++ (writes ++ moves_on)) first_cluster elects_fit
    (fit_join opens (writes ++ moves_on) c opens_fit
    (fit_join writes moves_on d
    (subst (λ x. ActsFit cells Cells s x writes) (cluster_join s elects opens first_cluster) writes_fit)
    (subst (λ x. ActsFit cells Cells s x moves_on) (cluster_join s elects (opens ++ writes) first_cluster ∙ cluster_join s opens writes c) moves_fit)))

pub run_is_safe_holds : RunIsSafe
unfolding after
run_is_safe_holds = clusters_are_safe_hold cells Cells (fixed three) turns run_fits_holds
