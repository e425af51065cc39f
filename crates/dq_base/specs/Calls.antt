-- Calls that are counted, some of which are to fail.
use Rattle.std.specs.Prelude.{ℕ, List, ◌==◌, Bool}
use Rattle.std.specs.List.{list_any}
use Rattle.dq_base.specs.Faults.{one_more}

-- how many calls were made, how many failed, and the numbers, from 1, of those that are to fail
pub record Counted : Type 0 where
  pub made : ℕ
  pub faults : ℕ
  pub fails : List ℕ

-- before the first call
abbrev pub no_calls : List ℕ → Counted
no_calls fails = record { made = 0; faults = 0; fails = fails }

-- whether the next call is one that is to fail
abbrev pub next_fails : Counted → Bool
next_fails calls = list_any (λ number. number == one_more calls.made) calls.fails

-- after a call that did not fail
abbrev pub after_call : Counted → Counted
after_call calls = record calls { made = one_more calls.made }

-- after a call that failed
abbrev pub after_fault : Counted → Counted
after_fault calls = record calls { made = one_more calls.made; faults = one_more calls.faults }
