-- A disk over memory: what is read, what is durable, and the calls that no sync covers yet. And which of these calls
-- a crash keeps, by a number that picks.
use Rattle.std.specs.Prelude.{ℕ, ◌+◌, ◌/◌, ◌%◌, Bool, true, false, cond, ◌==◌, nat_lt, List, [], ◌∷◌, ◌++◌, length, take, drop}
use Rattle.std.specs.Str.{bytes_eq}
use Rattle.disk_model.specs.Disk.{Found, found, missing, Files}
use Rattle.disk_model.specs.Calls.{put}
use Rattle.disk_model.specs.Trait.{Text}
use Rattle.disk_model.specs.declared.open_calls.UnsyncedEffect.{UnsyncedEffect}
use Rattle.disk_model.specs.declared.open_calls.UnsyncedEffect.TheVariants.{Creation, Naming, Write, Truncation, Removal, Nothing}
use Rattle.disk_model.specs.declared.open_calls.UnsyncedCall.{UnsyncedCall}

-- What is read of each file; what is durable of it, if one that isn't sure to be there may have bytes that were
-- synced; and the calls that no sync covers yet, in order.
pub record Memory : Type 0 where
  pub read : Files Text
  pub base : Files Text
  pub uncovered : List UnsyncedCall

abbrev pub no_memory : Memory
no_memory = record { read = λ n. missing; base = λ n. missing; uncovered = [] }

-- what an effect makes of a file
abbrev pub done_to : UnsyncedEffect → Found → Found
done_to (Creation bytes) f = found (put 0 bytes f.bytes)
done_to Naming f = found f.bytes
done_to (Write at bytes) f = record { there = f.there; bytes = put at bytes f.bytes }
done_to (Truncation k) f = record { there = f.there; bytes = take k f.bytes }
done_to Removal f = record { there = false; bytes = f.bytes }
done_to Nothing f = f

-- the first half of the bytes, rounded down
abbrev pub half : List ℕ → List ℕ
half bytes = take (length bytes / 2) bytes

-- what half of a call does: a write writes half of its bytes, and nothing else is done by halves
abbrev pub half_of : UnsyncedEffect → UnsyncedEffect
half_of (Creation bytes) = Creation (half bytes)
half_of Naming = Nothing
half_of (Write at bytes) = Write at (half bytes)
half_of (Truncation k) = Nothing
half_of Removal = Nothing
half_of Nothing = Nothing

-- effects in turn
abbrev pub done_in_turn : List UnsyncedEffect → Found → Found
done_in_turn [] f = f
done_in_turn (c ∷ cs) f = done_in_turn cs (done_to c f)

-- the effects on one file
abbrev pub effects_on : Text → List UnsyncedCall → List UnsyncedEffect
effects_on n [] = []
effects_on n (u ∷ us) = cond (bytes_eq u.name n) (u.effect ∷ effects_on n us) (effects_on n us)

-- what shows of a file: nothing if it isn't there
abbrev pub shown : Found → Found
shown f = cond f.there (found f.bytes) missing

-- the half of the first call of a list
abbrev pub first_half : List UnsyncedCall → List UnsyncedCall
first_half [] = []
first_half (u ∷ us) = record { name = u.name; effect = half_of u.effect } ∷ []

-- how many calls a pick keeps whole, of n, and whether half of the next one too
abbrev pub whole_calls : ℕ → ℕ → ℕ
whole_calls pick n = pick % (n + 1)

abbrev pub keeps_half : ℕ → ℕ → Bool
keeps_half pick n = (pick / (n + 1)) % 2 == 1

-- the calls that a pick keeps: the first this many whole, and maybe half of the next one
abbrev pub kept : ℕ → List UnsyncedCall → List UnsyncedCall
kept pick us = take (whole_calls pick (length us)) us ++ cond (keeps_half pick (length us)) (first_half (drop (whole_calls pick (length us)) us)) []

-- The outcome of a crash by a pick: what is durable, with the calls that the pick keeps.
abbrev pub outcome : ℕ → Memory → Files Text
outcome pick m n = shown (done_in_turn (effects_on n (kept pick m.uncovered)) (m.base n))

-- after a crash the outcome is read, and lasts
abbrev pub crashed : ℕ → Memory → Memory
crashed pick m = record { read = outcome pick m; base = outcome pick m; uncovered = [] }

-- files with one of them changed
abbrev pub at_name : Text → (Found → Found) → Files Text → Files Text
at_name n change files m = cond (bytes_eq n m) (change (files m)) (files m)

-- one more call that no sync covers
abbrev pub noted : Text → UnsyncedEffect → (Found → Found) → Memory → Memory
noted n effect change m = record { read = at_name n change m.read; base = m.base; uncovered = m.uncovered ++ record { name = n; effect = effect } ∷ [] }

-- whether a list has no items
abbrev pub is_none : List ℕ → Bool
is_none [] = true
is_none (x ∷ xs) = false

-- a write; one of no bytes to a file that is there changes nothing
abbrev pub wrote : Text → ℕ → List ℕ → Memory → Memory
wrote n at bytes m =
    cond (m.read n).there
    (cond (is_none bytes) m (noted n (Write at bytes) (done_to (Write at bytes)) m))
    (noted n (Creation bytes) (done_to (Creation bytes)) m)

-- a cut, which changes nothing if the file isn't longer
abbrev pub truncated : Text → ℕ → Memory → Memory
truncated n k m = cond (nat_lt k (length (m.read n).bytes)) (noted n (Truncation k) (done_to (Truncation k)) m) m

-- a removal, which changes nothing if the file isn't there
abbrev pub removed : Text → Memory → Memory
removed n m = cond (m.read n).there (noted n Removal (λ f. missing) m) m

-- what a sync of its file leaves of an effect uncovered: of the making of the file its name
abbrev pub after_file_sync : UnsyncedEffect → List UnsyncedEffect
after_file_sync (Creation bytes) = Naming ∷ []
after_file_sync Naming = Naming ∷ []
after_file_sync (Write at bytes) = []
after_file_sync (Truncation k) = []
after_file_sync Removal = Removal ∷ []
after_file_sync Nothing = []

-- what a sync of the names leaves uncovered: of a file that is there its bytes; of one that is gone nothing that can be
-- seen, but its writes and cuts are still counted
abbrev pub after_names_sync : Bool → UnsyncedEffect → List UnsyncedEffect
after_names_sync true (Creation bytes) = Write 0 bytes ∷ []
after_names_sync true Naming = []
after_names_sync true (Write at bytes) = Write at bytes ∷ []
after_names_sync true (Truncation k) = Truncation k ∷ []
after_names_sync true Removal = []
after_names_sync true Nothing = Nothing ∷ []
after_names_sync false (Creation bytes) = Nothing ∷ []
after_names_sync false Naming = []
after_names_sync false (Write at bytes) = Nothing ∷ []
after_names_sync false (Truncation k) = Nothing ∷ []
after_names_sync false Removal = []
after_names_sync false Nothing = Nothing ∷ []

-- effects on one file
abbrev pub all_on : Text → List UnsyncedEffect → List UnsyncedCall
all_on n [] = []
all_on n (c ∷ cs) = record { name = n; effect = c } ∷ all_on n cs

abbrev pub left_by_file_sync : Text → UnsyncedCall → List UnsyncedCall
left_by_file_sync n u = cond (bytes_eq u.name n) (all_on u.name (after_file_sync u.effect)) (u ∷ [])

abbrev pub left_by_names_sync : Files Text → UnsyncedCall → List UnsyncedCall
left_by_names_sync read u = all_on u.name (after_names_sync (read u.name).there u.effect)

-- each call by what is left of it
abbrev pub each_left : (UnsyncedCall → List UnsyncedCall) → List UnsyncedCall → List UnsyncedCall
each_left left [] = []
each_left left (u ∷ us) = left u ++ each_left left us

-- a sync of a file that is there
abbrev pub synced : Text → Memory → Memory
synced n m =
    cond (m.read n).there
    (record { read = m.read; base = at_name n (λ f. record { there = f.there; bytes = (m.read n).bytes }) m.base; uncovered = each_left (left_by_file_sync n) m.uncovered })
    m

-- what is durable after a sync of the names
abbrev pub named : Found → Found → Found
named read base = cond read.there (found base.bytes) missing

abbrev pub names_synced : Memory → Memory
names_synced m = record { read = m.read; base = λ n. named (m.read n) (m.base n); uncovered = each_left (left_by_names_sync m.read) m.uncovered }
