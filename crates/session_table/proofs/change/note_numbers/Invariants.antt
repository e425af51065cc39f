use Rattle.std.proofs.Common.{◌≡◌, ◌≤◌, ◌+◌, ◌-◌, ◌++◌, length, drop, vec_len, vec_capacity}
use Rattle.session_spec.specs.Touched.{numbers_of}
use Rattle.session_table.proofs.change.note_numbers.Given as goal

abbrev pub invariant-loop-page : goal.invariant-loop-page
invariant-loop-page l = record {
  noted : l.touched.items ++ numbers_of (drop l.page-index l.pages) ≡ l.initial.touched.items ++ numbers_of l.pages;
  room : vec_len l.initial.touched + length l.pages ≤ vec_capacity l.initial.touched → vec_len l.touched + (length l.pages - l.page-index) ≤ vec_capacity l.touched;
}
