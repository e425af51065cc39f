-- What a list of commands states, after one more.
use Rattle.std.proofs.Common.{◌≡◌, List, [], ◌∷◌, ◌++◌, ap, ◌∙◌, append-nil}
use Rattle.std.proofs.lemmas.Grind.{fold-append, flat_map-append}
use Rattle.log_commands.specs.declared.command.Command.{Command}
use Rattle.script_machines.specs.declared.stated.Stated.{Stated}
use Rattle.script_machines.specs.Limits.{note, noted, stated_by, statements, table_of}

statements_more : (commands : List Command) (command : Command) → statements (commands ++ command ∷ []) ≡ statements commands ++ stated_by command
statements_more commands command = flat_map-append stated_by commands (command ∷ []) ∙ ap (λ (x : List Stated). statements commands ++ x) (append-nil (stated_by command))

pub table_more : (commands : List Command) (command : Command) → table_of (commands ++ command ∷ []) ≡ noted (table_of commands) (stated_by command)
table_more commands command =
    ap (noted []) (statements_more commands command)
    ∙ fold-append (λ (table : List Stated) (s : Stated). note table s.name s.length) [] (statements commands) (stated_by command)
