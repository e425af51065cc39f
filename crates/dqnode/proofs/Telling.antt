-- How it ends where a check is asked for.
use Rattle.std.proofs.Common.{◌≡◌, ◌⊎◌, inl, inr, ℕ, List, Option, refl, subst}
use Rattle.std.specs.Io.KnownBytes.{Appends}
use Rattle.dq_base.specs.Sink.{AppendsFront}
use Rattle.disk_model.specs.Disk.{Disk}
use Rattle.disk_model.specs.Trait.{Text}
use Rattle.segment_store.specs.declared.load_fault.LoadFault.{LoadFault}
use Rattle.folder_check.specs.declared.ends.CheckEnd.{CheckEnd}
use Rattle.folder_check.specs.declared.ends.CheckEnd.TheVariants as ends
use Rattle.folder_check.specs.Checking.{Checks, CheckShows}
use Rattle.dqnode.specs.declared.status.Status.{Status}
use Rattle.dqnode.specs.declared.status.Status.TheVariants as status
use Rattle.dqnode.specs.Status.{status_code}
use Rattle.dqnode.specs.Checks.{fault_line, HaveFault, CheckEnds}

module _ (before after : Disk Text → Type 0) (was now : Option (List ℕ)) where
  pub all_told : Checks before after was now ends.Done → CheckEnds before after was now 0
  all_told c d b p = let x = c.each d b p in (x.0, record { done = λ e. (x.1.0, x.1.1.0, x.1.1.1); fault = λ e. absurd cc; broken = λ e. absurd cc })

  pub cut_told : Checks before after was now ends.WriteFault → CheckEnds before after was now 4
  cut_told c d b p = let x = c.each d b p in (x.0, record { done = λ e. absurd cc; fault = λ e. absurd cc; broken = λ e. (x.1.0, inl x.1.1.0, x.1.1.1) })

  pub disk_failed : Checks before after was now ends.DiskFault → CheckEnds before after was now 5
  disk_failed c d b p = let x = c.each d b p in (x.0, record { done = λ e. absurd cc; fault = λ e. absurd cc; broken = λ e. absurd cc })

  pub no_room : Checks before after was now ends.NoMemory → CheckEnds before after was now 7
  no_room c d b p = let x = c.each d b p in (x.0, record { done = λ e. absurd cc; fault = λ e. absurd cc; broken = λ e. absurd cc })

-- what the files have at an end that is a fault of theirs
abbrev pub IsOfFault : CheckEnd → Type 0
IsOfFault end = (was now : Option (List ℕ)) (d : Disk Text) → CheckShows end was now d → HaveFault end d

pub damaged : (fault : LoadFault) → IsOfFault (ends.Damaged fault)
damaged fault was now d h = h

pub no_snapshot : (index : ℕ) → IsOfFault (ends.Snapshot index)
no_snapshot index was now d h = h

-- the line of the fault was written, or a front of it, or nothing
pub fault_told : (before after : Disk Text → Type 0) (first was now : Option (List ℕ)) (end : CheckEnd) (r : Status) → IsOfFault end →
    Checks before after first was end → was ≡ first
    → (r ≡ status.Files → Appends was now (fault_line end)) → (r ≡ status.WriteFault → AppendsFront was now (fault_line end))
    → (r ≡ status.Files) ⊎ ((r ≡ status.WriteFault) ⊎ (r ≡ status.NoMemory)) → CheckEnds before after first now (status_code r)
fault_told before after first was now end r of c same whole front (inl e) d b p =
    let x = c.each d b p in
    let line = subst (λ (w : Option (List ℕ)). Appends w now (fault_line end)) same (whole e) in
    (x.0, rw e (record { done = λ i. absurd cc; fault = λ i. (end, of first was d x.1, line); broken = λ i. absurd cc }))
fault_told before after first was now end r of c same whole front (inr (inl e)) d b p =
    let x = c.each d b p in
    let line = subst (λ (w : Option (List ℕ)). AppendsFront w now (fault_line end)) same (front e) in
    (x.0, rw e (record { done = λ i. absurd cc; fault = λ i. absurd cc; broken = λ i. (fault_line end, inr (end, of first was d x.1, refl), line) }))
fault_told before after first was now end r of c same whole front (inr (inr e)) d b p =
    let x = c.each d b p in
    (x.0, rw e (record { done = λ i. absurd cc; fault = λ i. absurd cc; broken = λ i. absurd cc }))
