-- Counts of faults that rose.
use Rattle.std.proofs.Common.{◌≡◌, ℕ, ◌≤◌, true, false, refl, sym, ◌∙◌, Result, Ok, Err, arith}
use Rattle.std.specs.declared.alloc.AllocError.{AllocError}
use Rattle.dq_base.specs.Faults.{one_more, Rose}
use Rattle.disk_model.specs.Trait.{HasCause, HasWant}
use Rattle.disk_model.specs.Armed.{Counted, IsTurn, fails_next, finished, with_end}
use Rattle.disk_model.specs.declared.armed.FaultInjector.{FaultInjector}
use Rattle.disk_model.specs.declared.armed.CallOutcome.{CallOutcome}
use Rattle.disk_model.specs.declared.armed.CallOutcome.TheVariants.{Goes, Stops}
use Rattle.disk_model.specs.declared.faults.DiskFault.{DiskFault}
use Rattle.disk_model.specs.declared.faults.DiskFault.TheVariants.{Failed, NoMemory}

rises : (old mid new : ℕ) → old ≤ mid → new ≡ one_more mid → Rose old new
rises old mid new l e = omega (arith, l, e)

-- one fault more
pub caused : {T : Type 0} (old mid new : ℕ) (result : Result T DiskFault) → old ≤ mid → mid ≤ new → new ≡ one_more mid → HasCause old new result
caused old mid new result l k e = record { never_falls = omega (arith, l, k); failed = λ r. rises old mid new l e }

-- no answer of a failure
pub spared : {T : Type 0} (old new : ℕ) (result : Result T DiskFault) → old ≤ new → (result ≡ Err Failed → ⊥) → HasCause old new result
spared old new result l no_failure = record { never_falls = l; failed = λ r. absurd (no_failure r) }

-- the counts after one fault more, if the call was to answer so
pub counted_more : (old mid new : FaultInjector) → Counted old mid → fails_next old ≡ true → new ≡ record mid { faults = one_more mid.faults } → Counted old new
counted_more old mid new c fails e = record {
  made = (λ i. (e i).made) ∙ c.made;
  stop = (λ i. (e i).stop) ∙ c.stop;
  fail = (λ i. (e i).fail) ∙ c.fail;
  stopped = (λ i. (e i).stopped) ∙ c.stopped;
  faults = λ f. let z : true ≡ false = sym fails ∙ f in absurd cc;
}

-- the end of a call that went on
pub ended_counts : (old mid new : FaultInjector) (turn : CallOutcome) (done : Result Unit AllocError) → Counted old mid → IsTurn (fails_next old) turn → new ≡ with_end turn done mid → Counted old new
ended_counts old mid new turn (Err x) c is e = record { made = (λ i. (e i).made) ∙ c.made; stop = (λ i. (e i).stop) ∙ c.stop; fail = (λ i. (e i).fail) ∙ c.fail; stopped = (λ i. (e i).stopped) ∙ c.stopped; faults = λ f. (λ i. (e i).faults) ∙ c.faults f }
ended_counts old mid new Goes (Ok x) c is e = record { made = (λ i. (e i).made) ∙ c.made; stop = (λ i. (e i).stop) ∙ c.stop; fail = (λ i. (e i).fail) ∙ c.fail; stopped = (λ i. (e i).stopped) ∙ c.stopped; faults = λ f. (λ i. (e i).faults) ∙ c.faults f }
ended_counts old mid new Stops (Ok x) c is e = counted_more old mid new c is e

pub ended_cause : (old : ℕ) (mid new : FaultInjector) (turn : CallOutcome) (done : Result Unit AllocError) → old ≤ mid.faults → mid.faults ≤ new.faults → new ≡ with_end turn done mid → HasCause old new.faults (finished turn done)
ended_cause old mid new turn (Err x) l k e = spared old new.faults (Err NoMemory) (omega (arith, l, k)) (λ q. absurd cc)
ended_cause old mid new Goes (Ok x) l k e = spared old new.faults (Ok x) (omega (arith, l, k)) (λ q. absurd cc)
ended_cause old mid new Stops (Ok x) l k e = caused old mid.faults new.faults (Err Failed) l k (λ i. (e i).faults)

-- a failure is no want
pub not_wanted : {T : Type 0} (old new : ℕ) (x : DiskFault) → old ≤ new → x ≡ Failed → HasWant {T = T} old new (Err x)
not_wanted old new x l is = record { never_falls = l; wanted = λ q. let z : x ≡ NoMemory = cc in let w : Failed ≡ NoMemory = sym is ∙ z in absurd cc }

-- one want more
pub wanted_more : {T : Type 0} (old mid new : ℕ) (x : DiskFault) → old ≤ mid → mid ≤ new → new ≡ one_more mid → HasWant {T = T} old new (Err x)
wanted_more old mid new x l k e = record { never_falls = omega (arith, l, k); wanted = λ q. rises old mid new l e }

pub ended_want : (old : ℕ) (mid new : FaultInjector) (turn : CallOutcome) (done : Result Unit AllocError) → old ≤ mid.wants → mid.wants ≤ new.wants → new ≡ with_end turn done mid → HasWant old new.wants (finished turn done)
ended_want old mid new turn (Err x) l k e = wanted_more old mid.wants new.wants NoMemory l k (λ i. (e i).wants)
ended_want old mid new Goes (Ok x) l k e = record { never_falls = omega (arith, l, k); wanted = λ q. absurd cc }
ended_want old mid new Stops (Ok x) l k e = not_wanted old new.wants Failed (omega (arith, l, k)) refl
