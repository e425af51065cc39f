-- Syncing each file and then the names.
use Rattle.std.specs.Prelude.{◌≡◌, ◌⊎◌, true, List, [], ◌∷◌}
use Rattle.disk_model.specs.Disk.{Files, Disk, Leaves}
use Rattle.disk_model.specs.Calls.{Call, Sync, SyncNames, Done, Until}
use Rattle.disk_model.specs.Rest.{Rest}

abbrev pub sync_all : {N : Type 0} → List N → List (Call N)
sync_all [] = SyncNames ∷ []
sync_all (n ∷ ns) = Sync n ∷ sync_all ns

abbrev pub Among : {N : Type 0} → N → List N → Type 0
Among n [] = ⊥
Among n (m ∷ ns) = (n ≡ m) ⊎ Among n ns

-- whatever is there is named
abbrev pub Names : {N : Type 0} → Disk N → List N → Type 0
Names {N} d ns = (n : N) → (d.read n).there ≡ true → Among n ns

-- while everything is synced a crash leaves what it might have left before; then all is at rest, and reads as before
abbrev pub SyncAll : Type 0 → Type 0
SyncAll N = (d : Disk N) → Leaves d d.read → (ns : List N) → Names d ns
    → ((e : Disk N) → Until (sync_all ns) d e → (g : Files N) → Leaves e g → Leaves d g)
    × ((e : Disk N) → Done (sync_all ns) d e → ((n : N) → e.read n ≡ d.read n) × ((n : N) → Rest (e.held n) (e.read n)))
