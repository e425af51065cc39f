-- What a load does to the last segment.
use Rattle.std.specs.Prelude.{ℕ, ◌==◌, cond, List, [], ◌∷◌, Option, Some, None}
use Rattle.disk_model.specs.Calls.{CutTo, Sync, Remove, SyncNames}
use Rattle.store_laws.specs.Names.{Segment, NodeCall}
use Rattle.store_format.specs.declared.segment_log.LastSegment.{LastSegment}

-- one without its first word goes; one that is whole stays; a torn tail is truncated
abbrev pub repairs : LastSegment → List NodeCall
repairs x = cond (x.good == 0) (Remove (Segment x.number) ∷ SyncNames ∷ []) (cond (x.good == x.size) [] (CutTo (Segment x.number) x.good ∷ Sync (Segment x.number) ∷ []))

abbrev pub repairs_of : Option LastSegment → List NodeCall
repairs_of None = []
repairs_of (Some x) = repairs x

-- the number of the last segment, and 0 without one
abbrev pub last_number : Option LastSegment → ℕ
last_number None = 0
last_number (Some x) = x.number
