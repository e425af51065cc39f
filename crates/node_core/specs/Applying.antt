-- An entry is applied, and the clients whose proposals end with it are told.
use Rattle.std.specs.Prelude.{◌≡◌, suc, ◌-◌, ◌++◌, Some}
use Rattle.std.specs.List.{slice_get}
use Rattle.raft_spec.specs.Log.{Entry}
use Rattle.session_spec.specs.Events.{told_applied}
use Rattle.client_sessions.specs.Calls.{told_at}
use Rattle.applied_state.specs.Applied.{with_entry}
use Rattle.node_spec.specs.ClientTurns.{Applies}
use Rattle.node_core.specs.declared.running.Running.{Running}
use Rattle.node_core.specs.Account.{moment_of}
use Rattle.node_core.specs.Values.{clients_in}
use Rattle.node_core.specs.Voters.{RestsBeside}

-- the next entry of the log was applied
pub record TakesEntry (old new : Running) : Type 0 where
  pub entry : Entry
  pub is : slice_get old.replica.raft.entries (old.applied.index - old.replica.raft.base) ≡ Some entry
  pub applied : new.applied ≡ with_entry old.applied entry

-- and whoever waited for it was informed
pub record AppliesEntry (old new : Running) : Type 0 where
  pub applies : Applies (moment_of old) (moment_of new) (told_applied (suc old.applied.index) (clients_in old).sessions)
  pub mail : new.mail ≡ old.mail
  pub outs : new.outs.replies.items ≡ old.outs.replies.items ++ told_at (suc old.applied.index) (clients_in old)
  pub reads : new.outs.reads.items ≡ old.outs.reads.items
  pub beside : RestsBeside old new
