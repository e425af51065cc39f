use Rattle.std.proofs.Common.{◌≡◌, ◌≤◌, take}
use Rattle.std.specs.Prelude.{vec_capacity}
use Rattle.page_store.specs.Laying.{laid}
use Rattle.page_store.proofs.files.lay.Given as goal

abbrev pub invariant-loop-i : goal.invariant-loop-i
invariant-loop-i l =
    record {
      items : l.file.items ≡ laid l.parity (take l.i l.log.pages) (take l.i l.log.lengths) l.initial.file.items;
      capacity : vec_capacity l.initial.file ≤ vec_capacity l.file;
    }
