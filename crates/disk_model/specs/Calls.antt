-- The calls of a disk, and runs of them that end anywhere.
use Rattle.std.specs.Prelude.{◌≡◌, ◌≢◌, ◌≤◌, ◌⊎◌, ℕ, ◌+◌, cond, List, [], ◌∷◌, ◌++◌, length, take, drop}
use Rattle.disk_model.specs.Disk.{Found, found, missing, Wrote, Cut, Standing, Sure, Made, Gone, Absent, Held, Disk, LeavesFile}

-- a call that may change the disk
pub data Call (N : Type 0) : Type 0 where
  WriteAt : N → ℕ → List ℕ → Call N
  CutTo : N → ℕ → Call N
  Sync Remove : N → Call N
  SyncNames : Call N

-- each other name stays as it is
pub record Others {N : Type 0} (n : N) (d e : Disk N) : Type 0 where
  pub read : (m : N) → (m ≡ n → ⊥) → e.read m ≡ d.read m
  pub held : (m : N) → (m ≡ n → ⊥) → e.held m ≡ d.held m

-- a name after its file was written, and after it was removed
abbrev pub made : Standing → Standing
made Sure = Sure
made Made = Made
made Gone = Made
made Absent = Made

abbrev pub gone : Standing → Standing
gone Sure = Gone
gone Made = Gone
gone Gone = Gone
gone Absent = Absent

-- what is held of a file after a write
abbrev pub after_write : ℕ → List ℕ → Held → Held
after_write at bytes h = record { standing = made h.standing; bytes = h.bytes; since = Wrote at bytes ∷ h.since }

abbrev pub after_cut : ℕ → Held → Held
after_cut n h = record { standing = h.standing; bytes = h.bytes; since = Cut n ∷ h.since }

-- a sync puts what is read on the disk
abbrev pub after_sync : Found → Held → Held
after_sync f h = cond f.there (record { standing = h.standing; bytes = f.bytes; since = [] }) h

abbrev pub after_remove : Held → Held
after_remove h = record { standing = gone h.standing; bytes = h.bytes; since = h.since }

-- a sync of the names makes each name sure that is there, and the others absent
abbrev pub after_names : Found → Held → Held
after_names f h = cond f.there (record { standing = Sure; bytes = h.bytes; since = h.since }) (record { standing = Absent; bytes = []; since = [] })

-- bytes with others written over them from a place on
abbrev pub put : ℕ → List ℕ → List ℕ → List ℕ
put at bytes old = take at old ++ bytes ++ drop (at + length bytes) old

-- one file after a call on it
pub record Turns {N : Type 0} (n : N) (d e : Disk N) (h : Held) (f : Found) : Type 0 where
  pub others : Others n d e
  pub held : e.held n ≡ h
  pub read : e.read n ≡ f

-- after a call that failed or was stopped: it may have done any part
pub record Breaks {N : Type 0} (n : N) (d e : Disk N) (h : Held) : Type 0 where
  pub others : Others n d e
  pub held : e.held n ≡ h
  pub part : LeavesFile h (e.read n)

-- after a sync of the names
pub record NamesSynced {N : Type 0} (d e : Disk N) : Type 0 where
  pub read : (m : N) → e.read m ≡ d.read m
  pub held : (m : N) → e.held m ≡ after_names (d.read m) (d.held m)

-- an Ok call; a missing file is truncated, synced and removed without a change
abbrev pub Does : {N : Type 0} → Call N → Disk N → Disk N → Type 0
Does (WriteAt n at bytes) d e = Turns n d e (after_write at bytes (d.held n)) (found (put at bytes (d.read n).bytes))
Does (CutTo n k) d e = Turns n d e (cond (d.read n).there (after_cut k (d.held n)) (d.held n)) (record { there = (d.read n).there; bytes = take k (d.read n).bytes })
Does (Sync n) d e = Turns n d e (after_sync (d.read n) (d.held n)) (d.read n)
Does (Remove n) d e = Turns n d e (cond (d.read n).there (after_remove (d.held n)) (d.held n)) missing
Does SyncNames d e = NamesSynced d e

-- a call that failed or was stopped; a sync that failed makes nothing sure
abbrev pub Fails : {N : Type 0} → Call N → Disk N → Disk N → Type 0
Fails (WriteAt n at bytes) d e = Breaks n d e (after_write at bytes (d.held n))
Fails (CutTo n k) d e = Breaks n d e (cond (d.read n).there (after_cut k (d.held n)) (d.held n))
Fails (Sync n) d e = e ≡ d
Fails (Remove n) d e = Breaks n d e (cond (d.read n).there (after_remove (d.held n)) (d.held n))
Fails SyncNames d e = e ≡ d

-- all calls were Ok
abbrev pub Done : {N : Type 0} → List (Call N) → Disk N → Disk N → Type 0
Done {N} [] d e = e ≡ d
Done {N} (c ∷ cs) d e = (m : Disk N) × (Does c d m × Done cs m e)

-- the calls up to some moment, of which the last may have failed
abbrev pub Until : {N : Type 0} → List (Call N) → Disk N → Disk N → Type 0
Until {N} [] d e = e ≡ d
Until {N} (c ∷ cs) d e = (e ≡ d) ⊎ (Fails c d e ⊎ ((m : Disk N) × (Does c d m × Until cs m e)))

-- a write that may be made: it begins inside the file or at its end, and no removal of the name waits for a sync of
-- the names
pub record MayWrite {N : Type 0} (n : N) (at : ℕ) (d : Disk N) : Type 0 where
  pub within : at ≤ length (d.read n).bytes
  pub no_removal : (d.held n).standing ≢ Gone
