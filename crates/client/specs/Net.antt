-- What a call does to a dialer.
use Rattle.std.specs.Prelude.{◌≡◌, ◌≤◌, ◌+◌, ◌⊎◌, ℕ, Bool, true, false, not, cond, List, [], ◌∷◌, ◌++◌, length, take, Option, Some, None, Result, Ok, Err, IfOk}
use Rattle.dq_base.specs.declared.faults.Failed.{Failed}
use Rattle.dq_base.specs.Faults.{HasCause, one_more, last_count}
use Rattle.client.specs.declared.dialer.NetCall.{NetCall}
use Rattle.client.specs.declared.dialer.NetCall.TheVariants.{Dial, Write, Read}

-- how many times a call failed, an address was dialled, and one could not be; and the calls so far, if they are known
pub record Net : Type 0 where
  pub faults : ℕ
  pub dialled : ℕ
  pub undialled : ℕ
  pub calls : Option (List NetCall)

-- if the calls are reported after this one, it follows those that were told before it
abbrev pub Tells : Option (List NetCall) → Option (List NetCall) → NetCall → Type 0
Tells before None call = Unit {0}
Tells None (Some calls) call = ⊥
Tells (Some before) (Some calls) call = calls ≡ before ++ call ∷ []

abbrev pub succeeded : {T : Type 0} → Result T Failed → Bool
succeeded (Ok x) = true
succeeded (Err fault) = false

-- the counts of dials after one
abbrev pub Counts : Net → Net → Result Unit Failed → Type 0
Counts old new (Ok x) = (new.dialled ≡ old.dialled + 1) × (new.undialled ≡ old.undialled)
Counts old new (Err fault) = (new.dialled ≡ old.dialled) × (new.undialled ≡ one_more old.undialled)

pub record Dials (old new : Net) (address : List ℕ) (result : Result Unit Failed) : Type 0 where
  pub cause : HasCause old.faults new.faults result
  pub counts : Counts old new result
  pub bound : new.dialled ≤ last_count
  pub told : Tells old.calls new.calls (Dial address (succeeded result))

-- no address was dialled
pub record SameDials (old new : Net) : Type 0 where
  pub dialled : new.dialled ≡ old.dialled
  pub undialled : new.undialled ≡ old.undialled

pub record Writes (old new : Net) (bytes : List ℕ) (result : Result Unit Failed) : Type 0 where
  pub cause : HasCause old.faults new.faults result
  pub counts : SameDials old new
  pub told : Tells old.calls new.calls (Write bytes (succeeded result))

-- the bytes of a read, which are at the front of the buffer
abbrev pub read_bytes : List ℕ → Result ℕ Failed → Option (List ℕ)
read_bytes buffer (Ok n) = Some (take n buffer)
read_bytes buffer (Err fault) = None

pub record Reads (old new : Net) (buffer : List ℕ) (result : Result ℕ Failed) : Type 0 where
  pub cause : HasCause old.faults new.faults result
  pub counts : SameDials old new
  pub fits : IfOk result (λ n. n ≤ length buffer)
  pub told : Tells old.calls new.calls (Read (read_bytes buffer result))

-- whether a call failed
abbrev pub has_failed : NetCall → Bool
has_failed (Dial address linked) = not linked
has_failed (Write bytes done) = not done
has_failed (Read None) = true
has_failed (Read (Some bytes)) = false

-- how many of the calls failed
abbrev pub failures : List NetCall → ℕ
failures [] = 0
failures (call ∷ calls) = cond (has_failed call) 1 0 + failures calls

-- if the calls are reported, the count of faults rose by as many at least as failed of those since then, or is at its last value
abbrev pub FailuresCount : ℕ → ℕ → Option (List NetCall) → Option (List NetCall) → Type 0
FailuresCount faults_before faults_now before None = Unit {0}
FailuresCount faults_before faults_now None (Some all) = ⊥
FailuresCount faults_before faults_now (Some before) (Some all) =
    (faults_before + failures all ≤ faults_now + failures before) ⊎ (last_count ≤ faults_now)

-- The count of faults did not fall; and it rose once at least for each dial and each call that failed, or is at its last value.
pub record HaveFailed (start now : Net) : Type 0 where
  pub never_falls : start.faults ≤ now.faults
  pub dials : (start.faults + now.undialled ≤ now.faults + start.undialled) ⊎ (last_count ≤ now.faults)
  pub calls : FailuresCount start.faults now.faults start.calls now.calls
