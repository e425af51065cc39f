-- The newest whole snapshot of a table.
use Rattle.std.proofs.Common.{◌≡◌, ◌≢◌, inl, inr, ℕ, zero, suc, ◌≤◌, ◌<◌, List, refl, sym, ap, ◌∙◌, arith, cond}
use Rattle.std.specs.Prelude.{◌==◌}
use Rattle.std.proofs.lemmas.Bool.{cond-false, cases_eq}
use Rattle.store_laws.specs.Names.{Snapshot, NodeFiles, NodeDisk}
use Rattle.disk_model.specs.Disk.{Found, LeavesFile}
use Rattle.disk_model.specs.Rest.{Rest}
use Rattle.store_laws.specs.Store.{Format, Snap, newest_snap, snap_in, snap_files}
use Rattle.store_laws.specs.Chance.{Lawful}
use Rattle.disk_model.proofs.Rests.{rest_only}
use Rattle.store_laws.proofs.Fronts.{not_zero}

module _ (snap : ℕ → List ℕ → Snap) (number : (j : ℕ) (x : List ℕ) → (snap j x).index ≢ 0 → (snap j x).index ≡ j) where
  step_none : (n : ℕ) (files : ℕ → Found) → (snap n (files n).bytes).index ≡ 0 → newest_snap snap (suc n) files ≡ newest_snap snap n files
  unfolding newest_snap
  step_none n files z = ap (λ (k : ℕ). cond (k == 0) (newest_snap snap n files) (snap n (files n).bytes)) z

  step_some : (n : ℕ) (files : ℕ → Found) → (snap n (files n).bytes).index ≢ 0 → newest_snap snap (suc n) files ≡ snap n (files n).bytes
  unfolding newest_snap
  step_some n files ne = cond-false _ _ _ (not_zero _ ne)

  below : (bound : ℕ) (files : ℕ → Found) → (newest_snap snap bound files).index ≢ 0 → (newest_snap snap bound files).index < bound
  unfolding newest_snap
  below zero files ne = absurd (ne refl)
  below (suc n) files ne = elim (cases_eq (snap n (files n).bytes).index 0) [
    | inl z ↦
        let e = ap (λ (s : Snap). s.index) (step_none n files z) in
        let lt = below n files (λ y. ne (e ∙ y)) in
        omega arith
    | inr nz ↦
        let e = ap (λ (s : Snap). s.index) (step_some n files nz) in
        let i = number n (files n).bytes nz in
        omega arith
  ]

  -- what is below the newest one doesn't count
  pub same_newest : (bound : ℕ) (files more : ℕ → Found) → ((n : ℕ) → (newest_snap snap bound files).index ≤ n → n < bound → snap n (more n).bytes ≡ snap n (files n).bytes) → newest_snap snap bound more ≡ newest_snap snap bound files
  unfolding newest_snap
  same_newest zero files more same = refl
  same_newest (suc n) files more same = elim (cases_eq (snap n (files n).bytes).index 0) [
    | inl z ↦
        let e = step_none n files z in
        let i = ap (λ (s : Snap). s.index) e in
        let low : (newest_snap snap (suc n) files).index ≤ n = elim (cases_eq (newest_snap snap n files).index 0) [
          | inl y ↦ omega arith
          | inr ny ↦ let lt = below n files ny in omega arith
        ] in
        let here = same n low (omega arith) in
        step_none n more (ap (λ (s : Snap). s.index) here ∙ z) ∙ same_newest n files more (λ m h k. same m (omega arith) (omega arith)) ∙ sym e
    | inr nz ↦
        let e = step_some n files nz in
        let i = ap (λ (s : Snap). s.index) e in
        let j = number n (files n).bytes nz in
        let here = same n (omega arith) (omega arith) in
        step_some n more (λ y. nz (sym (ap (λ (s : Snap). s.index) here) ∙ y)) ∙ here ∙ sym e
  ]

  -- a whole one with none above it
  pub newest_at : (bound j : ℕ) (files : ℕ → Found) → j < bound → (snap j (files j).bytes).index ≢ 0 → ((n : ℕ) → j < n → n < bound → (snap n (files n).bytes).index ≡ 0) → newest_snap snap bound files ≡ snap j (files j).bytes
  newest_at zero j files lt some none = absurd (omega arith)
  newest_at (suc n) j files lt some none = elim (cases_eq j n) [
    | inl e ↦ step_some n files (λ y. some (ap (λ (i : ℕ). (snap i (files i).bytes).index) e ∙ y)) ∙ ap (λ (i : ℕ). snap i (files i).bytes) (sym e)
    | inr ne ↦ step_none n files (none n (omega arith) (omega arith)) ∙ newest_at n j files (omega arith) some (λ m h k. none m h (omega arith))
  ]

  pub none_above : (bound n : ℕ) (files : ℕ → Found) → n < bound → (newest_snap snap bound files).index < n → (snap n (files n).bytes).index ≡ 0
  none_above zero n files lt above = absurd (omega arith)
  none_above (suc m) n files lt above = elim (cases_eq (snap m (files m).bytes).index 0) [
    | inl z ↦ elim (cases_eq n m) [
      | inl e ↦ ap (λ (i : ℕ). (snap i (files i).bytes).index) e ∙ z
      | inr ne ↦ let i = ap (λ (s : Snap). s.index) (step_none m files z) in none_above m n files (omega arith) (omega arith)
    ]
    | inr nz ↦
        let i = ap (λ (s : Snap). s.index) (step_some m files nz) in
        let j = number m (files m).bytes nz in
        absurd (omega arith)
  ]

-- the newest one and what is above it are at rest: each crash leaves the same newest one
pub snap_images : (f : Format) → Lawful f → (d : NodeDisk) → ((k : ℕ) → (snap_in f d.read).index ≤ k → Rest (d.held (Snapshot k)) (d.read (Snapshot k)))
    → (g : NodeFiles) → ((k : ℕ) → LeavesFile (d.held (Snapshot k)) (g (Snapshot k))) → snap_in f g ≡ snap_in f d.read
snap_images f law d rest g left =
    same_newest f.snap law.snap_number f.numbers (snap_files d.read) (snap_files g)
    (λ n h k. ap (λ (x : Found). f.snap n x.bytes) (rest_only _ _ _ (rest n h) (left n)))
