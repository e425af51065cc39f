use Rattle.std.proofs.Common.{◌≡◌, ◌++◌, drop}
use Rattle.log_commands.specs.Spelling.{page_bytes, HaveSizes}
use Rattle.log_commands.proofs.writing.put_pages.Given as goal

abbrev pub invariant-loop-page : goal.invariant-loop-page
invariant-loop-page l = (l.out ++ page_bytes (drop l.page-index l.pages) ≡ l.initial.out ++ page_bytes l.pages) × (HaveSizes (drop l.page-index l.pages) → HaveSizes l.pages)
