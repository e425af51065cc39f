-- A disk without files represents nothing.
use Rattle.std.proofs.Common.{◌≡◌, ℕ, zero, suc, Bool, true, false, [], ◌∷◌, ◌++◌, refl, ap, ◌∙◌}
use Rattle.std.specs.Prelude.{cond, ◌==◌}
use Rattle.std.proofs.lemmas.Bool.{cond-true, cond-false, eq-eqb}
use Rattle.disk_model.specs.Disk.{Sure, Absent}
use Rattle.store_laws.specs.Chance.{Lawful}
use Rattle.store_laws.specs.Names.{Name, First, Second, Segment, Snapshot, NodeFiles}
use Rattle.store_laws.specs.Store.{Format, Meta, no_snap, Loaded, segments, newest_snap, snap_files, snap_in, newest, meta_of, sound, all_batches, log_of, behind, answer, kept}
use Rattle.store_format.specs.NodeFormat.{node_format}
use Rattle.store_format.proofs.BatchesLawful.{is_lawful}
use Rattle.cluster_safety.specs.Runs.{nothing_kept}
use Rattle.node_meets_spec.specs.Starts.{FirstDisk}

absent_sure : Absent ≡ Sure → ⊥
absent_sure e = cc

false_true : false ≡ true → ⊥
false_true e = cc

module _ (f : Format) (lawful : Lawful f) (g : NodeFiles) (gone : (n : Name) → (g n).there ≡ false) (empty : (n : Name) → (g n).bytes ≡ []) where
  no_segments : (top : ℕ) → segments top g ≡ []
  unfolding segments
  no_segments zero = refl
  no_segments (suc n) = ap (λ l. l ++ cond (g (Segment n)).there ((g (Segment n)).bytes ∷ []) []) (no_segments n) ∙ cond-false (g (Segment n)).there ((g (Segment n)).bytes ∷ []) [] (gone (Segment n))

  none_newest : (top : ℕ) → newest_snap f.snap top (snap_files g) ≡ no_snap
  unfolding newest_snap
  none_newest zero = refl
  none_newest (suc n) =
      let none : (f.snap n (g (Snapshot n)).bytes).index ≡ 0 = ap (λ b. (f.snap n b).index) (empty (Snapshot n)) ∙ lawful.snap_nil n in
      cond-true ((f.snap n (g (Snapshot n)).bytes).index == 0) (newest_snap f.snap n (snap_files g)) (f.snap n (g (Snapshot n)).bytes) (eq-eqb _ 0 none) ∙ none_newest n

  abbrev no_meta : Meta
  no_meta = record { stamp = 0; term = 0; vote = 0 }

  none_in : (side : Bool) (n : Name) → f.meta side (g n).bytes ≡ no_meta
  none_in side n = lawful.meta_none side (g n).bytes (ap (λ b. (f.meta side b).stamp) (empty n) ∙ lawful.meta_nil side)

  none_met : meta_of f g ≡ no_meta
  unfolding meta_of newest
  none_met = ap (λ a. newest a (f.meta false (g Second).bytes)) (none_in true First) ∙ ap (newest no_meta) (none_in false Second)

  nothing_answers : answer no_meta no_snap (sound f []) (all_batches f []) ≡ Loaded nothing_kept
  unfolding answer sound all_batches log_of behind
  nothing_answers = refl

  nothing_there : (top : ℕ) → kept f top g ≡ Loaded nothing_kept
  unfolding kept
  nothing_there top =
      ap (λ a. answer a (snap_in f g) (sound f (segments top g)) (all_batches f (segments top g))) none_met
      ∙ ap (λ a. answer no_meta a (sound f (segments top g)) (all_batches f (segments top g))) (none_newest f.numbers)
      ∙ ap (λ a. answer no_meta no_snap (sound f a) (all_batches f a)) (no_segments top)
      ∙ nothing_answers

pub first_disk_holds : FirstDisk
first_disk_holds = record {
  crash = λ g left fair. nothing_there node_format is_lawful g (λ n. (left.each n).absent refl) (λ n. (left.each n).empty ((left.each n).absent refl)) 10000000000000000;
  seen = record { each = λ n. record { sure = λ e. absurd (absent_sure e); absent = λ e. refl; empty = λ e. refl; left = λ e. absurd (false_true e) } };
}
