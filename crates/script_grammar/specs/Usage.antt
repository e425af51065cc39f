-- How much of what a script may have was used.
use Rattle.std.specs.Prelude.{◌+◌, ℕ, nat_le, nat_lt, Option, Some, None, if◌then◌else◌}
use Rattle.script_grammar.specs.ScriptSize.{event_limit, message_bytes_limit}
use Rattle.script_grammar.specs.declared.usage.Usage.{Usage}

abbrev pub no_usage : Usage
no_usage = record { events = 0; message_bytes = 0 }

-- one event more, if a script may have it
abbrev pub with_event : Usage → Option Usage
with_event usage =
    if nat_lt usage.events event_limit
    then Some (record { events = usage.events + 1; message_bytes = usage.message_bytes })
    else None

-- this many bytes of messages more, if a script may make them
abbrev pub with_messages : Usage → ℕ → Option Usage
with_messages usage bytes =
    if nat_le (usage.message_bytes + bytes) message_bytes_limit
    then Some (record { events = usage.events; message_bytes = usage.message_bytes + bytes })
    else None
