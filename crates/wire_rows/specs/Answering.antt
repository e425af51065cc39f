-- What cutting an answer into parts gives.
use Rattle.std.specs.Prelude.{◌≡◌, ◌^◌, ◌-◌, ℕ, List, min, nat_lt, if◌then◌else◌, Option, Some, None, Result, Ok, Err, MatchResult}
use Rattle.wire_rows.specs.declared.fault.RowFault.{RowFault}
use Rattle.wire_rows.specs.declared.fault.RowFault.TheVariants.{Nul, TooBig, NoMemory}
use Rattle.wire_rows.specs.Cut.{Rows, cut, bodies, total_size}
use Rattle.wire_rows.specs.Nuls.{first_nul}

-- the number, or the last one of 64 bits where it is above that
abbrev pub held : ℕ → ℕ
held n = min n (2 ^ 64 - 1)

-- the bodies, if all together they have at most 16,777,216 bytes
abbrev pub limited : List (List ℕ) → Result (List (List ℕ)) RowFault
limited parts = if nat_lt 16777216 (total_size parts) then Err (TooBig (held (total_size parts))) else Ok parts

-- the bodies, if no text holds a NUL
abbrev pub without_nul : Option (ℕ × ℕ) → List (List ℕ) → Result (List (List ℕ)) RowFault
without_nul (Some place) parts = Err (Nul place.0 place.1)
without_nul None parts = limited parts

-- the bodies of the parts, or the first fault
unfoldable pub parts_of : List (List ℕ) → Rows → Result (List (List ℕ)) RowFault
parts_of columns rows = without_nul (first_nul rows) (bodies columns (cut columns rows))

-- A fault is this one, unless memory ran out.
abbrev pub FailsAs : {X : Type 0} → RowFault → Result X RowFault → Type 0
FailsAs NoMemory answer = Unit {0}
FailsAs fault answer = answer ≡ Err fault

-- A call gave this answer, seen by view, unless memory ran out.
abbrev pub Answers : {X Y : Type 0} → (X → Y) → Result Y RowFault → Result X RowFault → Type 0
Answers view answer result = MatchResult result (λ x. answer ≡ Ok (view x)) (λ fault. FailsAs fault answer)
