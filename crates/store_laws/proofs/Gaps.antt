-- What goes wrong where a metadata file is longer than a block: the write is Ok, synced, and doesn't count.
use Rattle.std.proofs.Common.{◌≡◌, inl, inr, ℕ, ◌+◌, ◌<◌, Bool, List, length, drop, arith, length-append, length-drop}
use Rattle.std.proofs.lemmas.Bool.{cases_eq}
use Rattle.store_laws.specs.Store.{Format}
use Rattle.disk_model.specs.Calls.{put}
use Rattle.store_laws.specs.Chance.{Lawful}

pub too_long : (f : Format) → Lawful f → (side : Bool) (enc old : List ℕ) → length enc ≡ 40 → 40 < length old → (f.meta side (put 0 enc old)).stamp ≡ 0
too_long f law side enc old len long = elim (cases_eq (f.meta side (put 0 enc old)).stamp 0) [
  | inl z ↦ z
  | inr ne ↦
      let e : length (put 0 enc old) ≡ 40 = law.meta_long side (put 0 enc old) ne in
      absurd (omega (arith, length-append enc (drop (0 + length enc) old), length-drop (0 + length enc) old))
]
