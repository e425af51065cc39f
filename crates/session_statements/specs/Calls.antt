-- An engine over a call: what travels together of the moments before and after.
use Rattle.std.specs.Prelude.{Option}
use Rattle.sql_engine.specs.declared.kind.EngineKind.{EngineKind}
use Rattle.sql_engine.specs.Meanings.{Meaning, Told}

-- What its answers mean, of which kind it is, and what it had told before the call and has told after it, if it reports its answers.
pub record EngineCall : Type 1 where
  pub meaning : Meaning
  pub kind : EngineKind
  pub told_before : Option Told
  pub told_now : Option Told

abbrev pub call_of : Meaning → EngineKind → Option Told → Option Told → EngineCall
call_of meaning kind told_before told_now = record { meaning = meaning; kind = kind; told_before = told_before; told_now = told_now }

-- a call from one state of an engine to another one, by the ghost members of its trait
abbrev pub call_on : {T : Type 0} → (EngineKind → Meaning) → (T → EngineKind) → (T → Option Told) → T → T → EngineCall
call_on meaning kind told old new = call_of (meaning (kind old)) (kind old) (told old) (told new)
