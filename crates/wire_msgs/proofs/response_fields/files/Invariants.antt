use Rattle.std.proofs.Common.{◌≡◌, ◌++◌, take}
use Rattle.std.specs.List.{flat_map}
use Rattle.wire_msgs.specs.Fields.{AllFit, body_bytes}
use Rattle.wire_msgs.specs.Responses.{file_fields}
use Rattle.wire_msgs.proofs.response_fields.files.Given as goal

abbrev pub invariant-loop-item : goal.invariant-loop-item
invariant-loop-item l = record {
  written : l.out ≡ l.initial.out ++ body_bytes (flat_map file_fields (take l.item-index l.files));
  fit : AllFit (flat_map file_fields (take l.item-index l.files));
}
