-- What a node begins with, exactly: what was kept decides it.
use Rattle.std.specs.Prelude.{◌≡◌, ℕ, suc, ◌-◌, ◌==◌, Bool, false, true, cond, List, [], length, drop, Option, Some, None}
use Rattle.raft_spec.specs.Account.{loaded}
use Rattle.raft_spec.specs.Node.{Server}
use Rattle.raft_membership.specs.Members.{Configurations, all_changed, first_of, last_servers}
use Rattle.session_spec.specs.Machine.{machine_of}
use Rattle.session_spec.specs.Sessions.{no_sessions}
use Rattle.database_state.specs.Restoring.{restored}
use Rattle.store_laws.specs.Store.{Snap, Kept}
use Rattle.raft_on_disk.specs.Mails.{no_mail}
use Rattle.raft_on_disk.specs.Replicas.{stored_at}
use Rattle.applied_state.specs.declared.applied.Applied.{Applied}
use Rattle.applied_state.specs.Snapshot.{NodeSnapshot, snapshot_in}
use Rattle.node_core.specs.Core.{Core}

-- What is applied where a node starts: nothing, with the servers of the opening, or what the kept snapshot says.
abbrev pub kept_state : List Server → Snap → Option NodeSnapshot
kept_state opening snap = cond (snap.index == 0) (Some (record { servers = opening; contents = [] })) (snapshot_in snap.bytes)

-- This is applied of it.
pub record AppliesExactly (opening : List Server) (snap : Snap) (a : Applied) : Type 0 where
  pub state : NodeSnapshot
  pub found : kept_state opening snap ≡ Some state
  pub servers : a.servers ≡ state.servers
  pub machine : a.machine ≡ restored state.contents

-- what the configurations are over what was kept, by the servers that are applied
abbrev pub kept_members : List Server → Kept → Configurations
kept_members servers kept =
    all_changed (first_of servers kept.snap.index) (suc kept.snap.index) (drop (suc kept.snap.index - kept.log.first) kept.log.entries)

-- a node of this id and with peer connections and readers or not, over what was kept, with what is applied of it
abbrev pub started : ℕ → Bool → Bool → Kept → NodeSnapshot → Core
started me links readers kept s =
    let raft = loaded true (last_servers (kept_members s.servers kept)) (stored_at kept) in
    record {
      me = me;
      raft = raft;
      snap = kept.snap;
      members = kept_members s.servers kept;
      applied = kept.snap.index;
      servers = s.servers;
      files = machine_of (restored s.contents);
      sessions = no_sessions;
      streams = λ conn. None;
      turns = [];
      view = record {
        id = me;
        leader = None;
        serving = false;
        term = raft.term;
        last = length raft.log;
        servers = s.servers;
        links = links;
        readers = readers;
        even = [];
        near = [];
      };
      office = None;
      due = [];
      heard = None;
      links = [];
      mail = no_mail;
      replies = [];
      closed = [];
    }

-- A start over what was kept, with these servers of the opening.
pub record StartsExactly (me : ℕ) (links readers : Bool) (opening : List Server) (kept : Kept) (v : Core) : Type 0 where
  pub state : NodeSnapshot
  pub found : kept_state opening kept.snap ≡ Some state
  pub is : v ≡ started me links readers kept state
