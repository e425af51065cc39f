use Rattle.std.proofs.Common.{◌≡◌, take}
use Rattle.std.specs.Prelude.{vec_capacity}
use Rattle.page_store.specs.Laying.{Room}
use Rattle.page_store.proofs.files.make_room_for.Given as goal

abbrev pub invariant-loop-i : goal.invariant-loop-i
invariant-loop-i l =
    record {
      items : l.file.items ≡ l.initial.file.items;
      room : Room l.parity (take l.i l.log.lengths) (vec_capacity l.file);
    }
