use Rattle.std.proofs.Common.{◌≡◌, ◌+◌, ◌<◌, ◌^◌}
use Rattle.std.specs.BTreeMap.{values}
use Rattle.wire_rows.specs.Answering.{held}
use Rattle.client_sessions.specs.Sizes.{streams_size}
use Rattle.client_sessions.proofs.clients.with_streams.Given as goal

abbrev pub invariant-loop-stream : goal.invariant-loop-stream
invariant-loop-stream l = (held (l.size + streams_size l.stream-iterator) ≡ held (l.initial.size + streams_size (values l.connections))) × (l.size < 2 ^ 64)
