-- The names of a node's files are the same or not.
use Rattle.std.proofs.Common.{◌≡◌, inl, inr, refl, ap}
use Rattle.std.proofs.lemmas.Bool.{cases_eq}
use Rattle.store_laws.specs.Names.{Name, First, Second, Segment, Snapshot}
use Rattle.disk_model.specs.SyncAll.{SyncAll}
use Rattle.disk_model.proofs.Syncs.{sync_all_holds}
use Rattle.disk_model.proofs.Names.{Apart, same, apart}

pub tell : (m n : Name) → Apart m n
tell First First = same refl
tell First Second = apart (λ q. absurd cc)
tell First (Segment k) = apart (λ q. absurd cc)
tell First (Snapshot k) = apart (λ q. absurd cc)
tell Second First = apart (λ q. absurd cc)
tell Second Second = same refl
tell Second (Segment k) = apart (λ q. absurd cc)
tell Second (Snapshot k) = apart (λ q. absurd cc)
tell (Segment j) First = apart (λ q. absurd cc)
tell (Segment j) Second = apart (λ q. absurd cc)
tell (Segment j) (Segment k) = elim (cases_eq j k) [ inl e ↦ same (ap Segment e) | inr ne ↦ apart (λ q. let z : j ≡ k = cc in ne z) ]
tell (Segment j) (Snapshot k) = apart (λ q. absurd cc)
tell (Snapshot j) First = apart (λ q. absurd cc)
tell (Snapshot j) Second = apart (λ q. absurd cc)
tell (Snapshot j) (Segment k) = apart (λ q. absurd cc)
tell (Snapshot j) (Snapshot k) = elim (cases_eq j k) [ inl e ↦ same (ap Snapshot e) | inr ne ↦ apart (λ q. let z : j ≡ k = cc in ne z) ]

pub sync_all_names : SyncAll Name
sync_all_names = sync_all_holds tell
