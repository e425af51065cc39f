-- The end of a part of a step.
use Rattle.std.specs.Prelude.{Result, Ok, Err, OnOk}

-- what holds at each end holds at a good one
pub always_ok : {T F : Type 0} {P : Type 0} (result : Result T F) → P → OnOk result P
always_ok (Ok x) p = p
always_ok (Err f) p = tt
