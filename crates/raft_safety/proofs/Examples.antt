-- The example runs, computed.
use Rattle.std.proofs.Common.{refl}
use Rattle.raft_spec.specs.Log.{term_at, log_end, matches, merged, conflict_place, accept, first_replaced, accept_above, first_replaced_above, is_up_to_date}
use Rattle.raft_spec.specs.Node.{voters, others, peers, majority}
use Rattle.raft_spec.specs.Elections.{on_grants, may_start_election, on_yield, start_election, on_ask_vote, grants_with, on_vote, may_grant}
use Rattle.raft_spec.specs.Replication.{agrees, take_entries, replaces_committed, on_append, on_ack, on_propose, on_beat, on_transfer}
use Rattle.raft_spec.specs.Snapshots.{on_install, on_snapped, needs_snapshot}
use Rattle.raft_spec.specs.Membership.{on_servers}
use Rattle.raft_spec.specs.Commitment.{is_stored_by_majority, commit_up_to, majority_stores, commit_below, commit_index}
use Rattle.raft_spec.specs.Receiving.{in_range, on_message}
use Rattle.raft_spec.specs.Steps.{message_to, finish, serve, raft_step}
use Rattle.raft_spec.specs.Account.{step_acts}
use Rattle.raft_safety.specs.Members.{change_at, configuration, voters_after, may_change, member_step}
use Rattle.raft_safety.specs.World.{put, run}
use Rattle.raft_safety.specs.Chosen.{chosen}
use Rattle.raft_safety.specs.Examples.{elected_and_committed, with_a_fourth, with_an_install, whole_example, older_entry_spreads, older_entry_replaced, LeaderCommits, FourthJoins, InstallServes, OlderEntryWaits, OlderEntryGoes, OlderTermsDontCount, OfficePasses, StopsKeep, LeadsMidway, handed_over, stopped_after, stopped_alone}

pub leader_commits_holds : LeaderCommits
unfolding handed_over stopped_after stopped_alone elected_and_committed with_a_fourth with_an_install whole_example older_entry_spreads older_entry_replaced chosen change_at configuration voters_after may_change member_step log_end matches merged conflict_place accept first_replaced accept_above first_replaced_above is_up_to_date term_at voters others peers majority on_grants may_start_election start_election on_ask_vote grants_with on_vote agrees take_entries replaces_committed on_append on_install on_snapped on_ack in_range on_message on_propose on_beat on_transfer on_servers majority_stores commit_below commit_index needs_snapshot message_to finish serve raft_step step_acts put run is_stored_by_majority commit_up_to may_grant
leader_commits_holds = refl

pub fourth_joins_holds : FourthJoins
unfolding handed_over stopped_after stopped_alone elected_and_committed with_a_fourth with_an_install whole_example older_entry_spreads older_entry_replaced chosen change_at configuration voters_after may_change member_step log_end matches merged conflict_place accept first_replaced accept_above first_replaced_above is_up_to_date term_at voters others peers majority on_grants may_start_election start_election on_ask_vote grants_with on_vote agrees take_entries replaces_committed on_append on_install on_snapped on_ack in_range on_message on_propose on_beat on_transfer on_servers majority_stores commit_below commit_index needs_snapshot message_to finish serve raft_step step_acts put run is_stored_by_majority commit_up_to may_grant
fourth_joins_holds = (refl, refl)

pub install_serves_holds : InstallServes
unfolding handed_over stopped_after stopped_alone elected_and_committed with_a_fourth with_an_install whole_example older_entry_spreads older_entry_replaced chosen change_at configuration voters_after may_change member_step log_end matches merged conflict_place accept first_replaced accept_above first_replaced_above is_up_to_date term_at voters others peers majority on_grants may_start_election start_election on_ask_vote grants_with on_vote agrees take_entries replaces_committed on_append on_install on_snapped on_ack in_range on_message on_propose on_beat on_transfer on_servers majority_stores commit_below commit_index needs_snapshot message_to finish serve raft_step step_acts put run is_stored_by_majority commit_up_to may_grant
install_serves_holds = (refl, refl, refl)

pub older_entry_waits_holds : OlderEntryWaits
unfolding handed_over stopped_after stopped_alone elected_and_committed with_a_fourth with_an_install whole_example older_entry_spreads older_entry_replaced chosen change_at configuration voters_after may_change member_step log_end matches merged conflict_place accept first_replaced accept_above first_replaced_above is_up_to_date term_at voters others peers majority on_grants may_start_election start_election on_ask_vote grants_with on_vote agrees take_entries replaces_committed on_append on_install on_snapped on_ack in_range on_message on_propose on_beat on_transfer on_servers majority_stores commit_below commit_index needs_snapshot message_to finish serve raft_step step_acts put run is_stored_by_majority commit_up_to may_grant
older_entry_waits_holds = (refl, refl, refl)

pub older_entry_goes_holds : OlderEntryGoes
unfolding handed_over stopped_after stopped_alone elected_and_committed with_a_fourth with_an_install whole_example older_entry_spreads older_entry_replaced chosen change_at configuration voters_after may_change member_step log_end matches merged conflict_place accept first_replaced accept_above first_replaced_above is_up_to_date term_at voters others peers majority on_grants may_start_election start_election on_ask_vote grants_with on_vote agrees take_entries replaces_committed on_append on_install on_snapped on_ack in_range on_message on_propose on_beat on_transfer on_servers majority_stores commit_below commit_index needs_snapshot message_to finish serve raft_step step_acts put run is_stored_by_majority commit_up_to may_grant
older_entry_goes_holds = (refl, refl)

pub older_terms_dont_count_holds : OlderTermsDontCount
unfolding handed_over stopped_after stopped_alone elected_and_committed with_a_fourth with_an_install whole_example older_entry_spreads older_entry_replaced chosen change_at configuration voters_after may_change member_step log_end matches merged conflict_place accept first_replaced accept_above first_replaced_above is_up_to_date term_at voters others peers majority on_grants may_start_election start_election on_ask_vote grants_with on_vote agrees take_entries replaces_committed on_append on_install on_snapped on_ack in_range on_message on_propose on_beat on_transfer on_servers majority_stores commit_below commit_index needs_snapshot message_to finish serve raft_step step_acts put run is_stored_by_majority commit_up_to may_grant
older_terms_dont_count_holds = (refl, refl, refl)

pub office_passes_holds : OfficePasses
unfolding handed_over stopped_after stopped_alone elected_and_committed with_a_fourth with_an_install whole_example older_entry_spreads older_entry_replaced chosen change_at configuration voters_after may_change member_step log_end matches merged conflict_place accept first_replaced accept_above first_replaced_above is_up_to_date term_at voters others peers majority on_grants may_start_election start_election on_ask_vote grants_with on_vote agrees take_entries replaces_committed on_append on_install on_snapped on_ack in_range on_message on_propose on_beat on_transfer on_servers majority_stores commit_below commit_index needs_snapshot message_to finish serve raft_step step_acts put run is_stored_by_majority commit_up_to may_grant
office_passes_holds = (refl, refl)

pub stops_keep_holds : StopsKeep
unfolding handed_over stopped_after stopped_alone elected_and_committed with_a_fourth with_an_install whole_example older_entry_spreads older_entry_replaced chosen change_at configuration voters_after may_change member_step log_end matches merged conflict_place accept first_replaced accept_above first_replaced_above is_up_to_date term_at voters others peers majority on_grants may_start_election start_election on_ask_vote grants_with on_vote agrees take_entries replaces_committed on_append on_install on_snapped on_ack in_range on_message on_propose on_beat on_transfer on_servers majority_stores commit_below commit_index needs_snapshot message_to finish serve raft_step step_acts put run is_stored_by_majority commit_up_to may_grant
stops_keep_holds = (refl, refl)

pub leads_midway_holds : LeadsMidway
unfolding handed_over stopped_after stopped_alone elected_and_committed with_a_fourth with_an_install whole_example older_entry_spreads older_entry_replaced chosen change_at configuration voters_after may_change member_step log_end matches merged conflict_place accept first_replaced accept_above first_replaced_above is_up_to_date term_at voters others peers majority on_grants may_start_election start_election on_ask_vote grants_with on_vote agrees take_entries replaces_committed on_append on_install on_snapped on_ack in_range on_message on_propose on_beat on_transfer on_servers majority_stores commit_below commit_index needs_snapshot message_to finish serve raft_step step_acts put run is_stored_by_majority commit_up_to may_grant
leads_midway_holds = (refl, refl, refl)
