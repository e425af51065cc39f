-- Calls of a disk in a row, and what is known of its states.
use Rattle.std.proofs.Common.{◌≡◌, inl, inr, ℕ, Bool, true, false, List, [], ◌∷◌, refl, sym, subst, Result, Ok, Err, OnOk, OnErr}
use Rattle.disk_model.specs.Disk.{Disk}
use Rattle.disk_model.specs.Calls.{Call, WriteAt, Sync, SyncNames, Does, Fails, Done, Until}
use Rattle.disk_model.specs.Writing.{replace_calls}
use Rattle.disk_model.specs.Trait.{Text, Known, told, untold, Steps, Ran}
use Rattle.disk_model.specs.declared.faults.DiskFault.{DiskFault}

-- no call was made
pub ran_none : {T : Type 0} (states : Disk Text → Type 0) (x : T) → Ran {T = T} [] states states (Ok x)
ran_none states x = record { each = λ d y. (d, (y, (refl, tt))) }

-- one call
pub ran_last : {T : Type 0} (c : Call Text) (old new : Disk Text → Type 0) (result : Result T DiskFault) → Steps c old new result → Ran (c ∷ []) old new result
ran_last {T} c old new (Ok x) steps = record { each = λ d y. let z = steps.each d y in (z.0, (z.1.0, ((z.0, (z.1.1.0, refl)), tt))) }
ran_last {T} c old new (Err x) steps = record { each = λ d y. let z = steps.each d y in (z.0, (z.1.0, (tt, inr (inl z.1.1.1)))) }

-- a call that failed, before others
pub ran_stops : {S T : Type 0} (c : Call Text) (cs : List (Call Text)) (old new : Disk Text → Type 0) (x y : DiskFault) → Steps {T = S} c old new (Err x) → Ran {T = T} (c ∷ cs) old new (Err y)
ran_stops {S} {T} c cs old new x y steps = record { each = λ d was. let z = steps.each d was in (z.0, (z.1.0, (tt, inr (inl z.1.1.1)))) }

-- a call that was Ok, and then others
pub ran_then : {S T : Type 0} (c : Call Text) (cs : List (Call Text)) (old mid new : Disk Text → Type 0) (first : S) (result : Result T DiskFault) → Steps {T = S} c old mid (Ok first) → Ran cs mid new result → Ran (c ∷ cs) old new result
ran_then {S} {T} c cs old mid new first (Ok x) steps ran = record {
  each = λ d y. let z = steps.each d y in let w = ran.each z.0 z.1.0 in (w.0, (w.1.0, ((z.0, (z.1.1.0, w.1.1.0)), tt)));
}
ran_then {S} {T} c cs old mid new first (Err x) steps ran = record {
  each = λ d y. let z = steps.each d y in let w = ran.each z.0 z.1.0 in (w.0, (w.1.0, (tt, inr (inr (z.0, (z.1.1.0, w.1.1.1))))));
}

-- a file written whole: without the sync of the names where it was there
pub ran_replace_new : {T : Type 0} (n : Text) (bytes : List ℕ) (is_there : Bool) (old new : Disk Text → Type 0) (result : Result T DiskFault) → is_there ≡ false → Ran (WriteAt n 0 bytes ∷ Sync n ∷ SyncNames ∷ []) old new result → Ran (replace_calls n bytes is_there) old new result
ran_replace_new n bytes is_there old new result e ran = subst (λ (b : Bool). Ran (replace_calls n bytes b) old new result) (sym e) ran

pub ran_replace_there : {T : Type 0} (n : Text) (bytes : List ℕ) (is_there : Bool) (old new : Disk Text → Type 0) (result : Result T DiskFault) → is_there ≡ true → Ran (WriteAt n 0 bytes ∷ Sync n ∷ []) old new result → Ran (replace_calls n bytes is_there) old new result
ran_replace_there n bytes is_there old new result e ran = subst (λ (b : Bool). Ran (replace_calls n bytes b) old new result) (sym e) ran

-- what is known of the states before calls says what is known after them
pub known_steps : {T : Type 0} (c : Call Text) (old new : Disk Text → Type 0) (result : Result T DiskFault) (tells : Bool) (P Q : Disk Text → Type 0) → Known tells old P → Steps c old new result
    → ((d e : Disk Text) → P d → OnOk result (Does c d e) × OnErr result (Fails c d e) → Q e) → Known tells new Q
known_steps c old new result tells P Q (told d y p) steps leads = let z = steps.each d y in told z.0 z.1.0 (leads d z.0 p z.1.1)
known_steps c old new result tells P Q (untold e) steps leads = untold e

pub known_ran : {T : Type 0} (cs : List (Call Text)) (old new : Disk Text → Type 0) (result : Result T DiskFault) (tells : Bool) (P Q : Disk Text → Type 0) → Known tells old P → Ran cs old new result
    → ((d e : Disk Text) → P d → OnOk result (Done cs d e) × OnErr result (Until cs d e) → Q e) → Known tells new Q
known_ran cs old new result tells P Q (told d y p) ran leads = let z = ran.each d y in told z.0 z.1.0 (leads d z.0 p z.1.1)
known_ran cs old new result tells P Q (untold e) ran leads = untold e

pub known_map : (tells : Bool) (states : Disk Text → Type 0) (P Q : Disk Text → Type 0) → Known tells states P → ((d : Disk Text) → P d → Q d) → Known tells states Q
known_map tells states P Q (told d y p) leads = told d y (leads d p)
known_map tells states P Q (untold e) leads = untold e
