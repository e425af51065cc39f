-- Sources and sinks over memory: bytes, and calls some of which are to fail.
use Rattle.std.specs.Prelude.{ℕ, List, ◌++◌, drop}
use Rattle.dq_base.specs.Calls.{Counted, after_call, after_fault}

-- the bytes that a source has left or that a sink holds, and the calls so far
pub record InMemory : Type 0 where
  pub bytes : List ℕ
  pub calls : Counted

-- after a read that moved n bytes
abbrev pub after_read : InMemory → ℕ → InMemory
after_read memory n = record { bytes = drop n memory.bytes; calls = after_call memory.calls }

-- after a write of these bytes
abbrev pub after_write : InMemory → List ℕ → InMemory
after_write memory bytes = record { bytes = memory.bytes ++ bytes; calls = after_call memory.calls }

-- after a call that failed: no byte moved
abbrev pub after_failure : InMemory → InMemory
after_failure memory = record memory { calls = after_fault memory.calls }
