use Rattle.std.proofs.Common.{ℕ, ◌*◌, ◌++◌, List, take}
use Rattle.sha2.specs.Hashers.{Holds256}
use Rattle.page_store.specs.Store.{newest_image}
use Rattle.file_digest.specs.Pages.{bytes_of}
use Rattle.file_digest.proofs.hashing.add_pages.Given as goal

abbrev pub invariant-loop-place : goal.invariant-loop-place
invariant-loop-place l = (m : List ℕ) → Holds256 l.initial.hasher m → Holds256 l.hasher (m ++ take (4096 * l.place) (bytes_of l.file (newest_image l.database.store)))
