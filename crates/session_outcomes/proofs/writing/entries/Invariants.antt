use Rattle.std.proofs.Common.{◌≡◌, map, take}
use Rattle.std.specs.List.{AllByRecursion}
use Rattle.session_spec.specs.Entries.{Does, written}
use Rattle.session_spec.specs.Seen.{HasSpelling}
use Rattle.session_outcomes.proofs.writing.entries.Given as goal

abbrev pub invariant-loop-command : goal.invariant-loop-command
invariant-loop-command l = record {
  so_far : l.entries.items ≡ written l.term (map Does (take l.command-index l.commands));
  spelled : AllByRecursion HasSpelling (map Does (take l.command-index l.commands));
}
