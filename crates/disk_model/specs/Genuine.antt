-- Bytes on a disk that came there whole.
use Rattle.std.specs.Prelude.{◌≡◌, ◌⊎◌, ℕ, ◌-◌, ◌≤◌, List, [], ◌∷◌, length, take, drop}
use Rattle.disk_model.specs.Disk.{Change, Wrote, Cut, Held}

-- bytes were written whole at a place since the last sync, by one write
abbrev pub WasWritten : List Change → ℕ → List ℕ → Type 0
WasWritten [] p x = ⊥
WasWritten (Wrote at bytes ∷ since) p x = ((at ≤ p) × (take (length x) (drop (p - at) bytes) ≡ x)) ⊎ WasWritten since p x
WasWritten (Cut n ∷ since) p x = WasWritten since p x

-- or was there at the last sync
pub record Genuine (h : Held) (p : ℕ) (x : List ℕ) : Type 0 where
  pub why : (take (length x) (drop p h.bytes) ≡ x) ⊎ WasWritten h.since p x
