-- A snapshot that is encoded as one of a node reads as one.
use Rattle.std.proofs.Common.{ℕ, List, length, drop, Result, refl, ap, ◌∙◌}
use Rattle.std.proofs.lemmas.List.{drop_at}
use Rattle.raft_spec.specs.Node.{Server}
use Rattle.raft_messages.specs.declared.servers_fault.ServersFault.{ServersFault}
use Rattle.raft_messages.specs.Servers.{servers_bytes}
use Rattle.raft_messages.proofs.ServerLaws.{servers_read}
use Rattle.database_state.specs.declared.fault.SnapFault.{SnapFault}
use Rattle.database_state.specs.Files.{Content}
use Rattle.database_state.specs.Restoring.{snapshot_of}
use Rattle.database_state.specs.Snapshot.{snapshot_text}
use Rattle.database_state.proofs.SnapshotLaws.{snapshot_stood}
use Rattle.applied_state.specs.Laws.{SnapshotsRead}
use Rattle.applied_state.specs.Reading as reading
use Rattle.applied_state.specs.Snapshot.{of_parts, snapshot_body, snapshot_in, with_databases}

pub snapshots_read : SnapshotsRead
unfolding snapshot_in
snapshots_read s bytes spelled =
    let front = servers_bytes s.servers in
    let text = snapshot_text s.contents in
    let body = snapshot_body bytes in
    ap (λ (r : Result (List Server × ℕ) ServersFault). of_parts body (reading.servers_read r)) (servers_read body s.servers front text spelled.servers spelled.parts)
    ∙ ap (λ (left : List ℕ). with_databases s.servers (reading.contents_read (snapshot_of left))) (ap (drop (length front)) spelled.parts ∙ drop_at front text (length front) refl)
    ∙ ap (λ (r : Result (List Content) SnapFault). with_databases s.servers (reading.contents_read r)) (snapshot_stood text s.contents spelled.databases)
