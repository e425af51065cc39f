-- A dialer over memory.
use Rattle.std.specs.Prelude.{◌≡◌, ◌+◌, ℕ, Bool, true, false, List, [], ◌∷◌, ◌++◌, Option, Some, None}
use Rattle.dq_base.specs.Calls.{Counted}
use Rattle.client.specs.declared.dialer.NetCall.{NetCall}
use Rattle.client.specs.Net.{Net}

-- the bytes of the connections to come, what is left of those of its connection, its calls, the counts of its dials, and its calls where they
-- are told
pub record Linked : Type 0 where
  pub answers : List (List ℕ)
  pub left : List ℕ
  pub calls : Counted
  pub dialled : ℕ
  pub undialled : ℕ
  pub told : Option (List NetCall)

abbrev pub net_of : Linked → Net
net_of linked = record { faults = linked.calls.faults; dialled = linked.dialled; undialled = linked.undialled; calls = linked.told }

-- the calls that are told with one more
abbrev pub noted : Option (List NetCall) → NetCall → Option (List NetCall)
noted None call = None
noted (Some calls) call = Some (calls ++ call ∷ [])

-- A call was noted; or memory ran out, and from now on they aren't told.
abbrev pub Notes : Option (List NetCall) → Option (List NetCall) → NetCall → Bool → Type 0
Notes old new call true = new ≡ noted old call
Notes old new call false = new ≡ None
