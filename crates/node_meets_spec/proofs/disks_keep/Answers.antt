use Rattle.node_meets_spec.proofs.Starting.{open_keeps_hold, crash_keeps_hold, crash_leaves_kept_hold, start_finds_hold, start_leaves_kept_hold}
use Rattle.node_meets_spec.proofs.FirstDisk.{first_disk_holds}
use Rattle.node_meets_spec.proofs.disks_keep.Goals as goal

pub returns-clause-opened : goal.returns-clause-opened
returns-clause-opened c = open_keeps_hold

pub returns-clause-crash : goal.returns-clause-crash
returns-clause-crash c = crash_keeps_hold

pub returns-clause-crashed : goal.returns-clause-crashed
returns-clause-crashed c = crash_leaves_kept_hold

pub returns-clause-finds : goal.returns-clause-finds
returns-clause-finds c = start_finds_hold

pub returns-clause-fails : goal.returns-clause-fails
returns-clause-fails c = start_leaves_kept_hold

pub returns-clause-first : goal.returns-clause-first
returns-clause-first c = first_disk_holds
