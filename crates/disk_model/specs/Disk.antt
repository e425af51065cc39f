-- A flat folder on a disk: what a read gives, what was there at the last syncs, and what a crash may leave. The
-- definitions say nothing of what a name is.
use Rattle.std.specs.Prelude.{◌≡◌, ℕ, zero, suc, ◌+◌, ◌<◌, ◌≤◌, max, Bool, true, false, ◌&&◌, ◌||◌, nat_le, nat_lt, List, [], ◌∷◌, length}

-- a file as it is found; one that isn't there reads as an empty one
pub record Found : Type 0 where
  pub there : Bool
  pub bytes : List ℕ

abbrev pub found : List ℕ → Found
found c = record { there = true; bytes = c }

abbrev pub missing : Found
missing = record { there = false; bytes = [] }

-- what is found under each name
abbrev pub Files : Type 0 → Type 0
Files N = N → Found

-- what a call did to a file since its last sync
pub data Change : Type 0 where
  Wrote : ℕ → List ℕ → Change
  Cut : ℕ → Change

-- a name on the disk: certainly, maybe since it was made, maybe since it was removed, or
-- not
pub data Standing : Type 0 where
  Sure Made Gone Absent : Standing

-- what the disk holds of a file: its name, its bytes at the last sync, and the changes since, newest first
pub record Held : Type 0 where
  pub standing : Standing
  pub bytes : List ℕ
  pub since : List Change

-- a disk: what a read gives, and what it holds
pub record Disk (N : Type 0) : Type 0 where
  pub read : N → Found
  pub held : N → Held

-- one more than the byte at a place, 0 past the end
abbrev pub byte_at : List ℕ → ℕ → ℕ
byte_at [] i = 0
byte_at (x ∷ xs) zero = suc x
byte_at (x ∷ xs) (suc i) = byte_at xs i

-- the place was written over or truncated since
abbrev pub loose : List Change → ℕ → Bool
loose [] i = false
loose (Wrote at bytes ∷ since) i = (nat_le at i && nat_lt i (at + length bytes)) || loose since i
loose (Cut n ∷ since) i = nat_le n i || loose since i

-- the greatest length that the file had since
abbrev pub reach : ℕ → List Change → ℕ
reach n [] = n
reach n (Wrote at bytes ∷ since) = max (at + length bytes) (reach n since)
reach n (Cut k ∷ since) = reach n since

-- a crash may leave these bytes: what wasn't touched since stands, and nothing is longer than it ever was
pub record LeavesBytes (held : List ℕ) (since : List Change) (c : List ℕ) : Type 0 where
  pub stays : (i : ℕ) → i < length held → loose since i ≡ false → byte_at c i ≡ byte_at held i
  pub no_longer : length c ≤ reach (length held) since

-- a crash may leave this file
pub record LeavesFile (h : Held) (f : Found) : Type 0 where
  pub sure : h.standing ≡ Sure → f.there ≡ true
  pub absent : h.standing ≡ Absent → f.there ≡ false
  pub empty : f.there ≡ false → f.bytes ≡ []
  pub left : f.there ≡ true → LeavesBytes h.bytes h.since f.bytes

-- the files that a crash may leave
pub record Leaves {N : Type 0} (d : Disk N) (g : Files N) : Type 0 where
  pub each : (n : N) → LeavesFile (d.held n) (g n)

-- a disk without files
abbrev pub no_files : {N : Type 0} → Disk N
no_files {N} = record { read = λ n. missing; held = λ n. record { standing = Absent; bytes = []; since = [] } }
