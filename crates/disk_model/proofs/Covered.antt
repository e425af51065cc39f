-- One file of a disk over memory, through syncs and crashes.
use Rattle.std.proofs.Common.{◌≡◌, inl, inr, ℕ, Bool, true, false, cond, List, [], ◌∷◌, ◌++◌, refl, sym, ap, ◌∙◌, subst}
use Rattle.std.proofs.lemmas.Bool.{cases_Bool, cond-true, cond-false}
use Rattle.disk_model.specs.Disk.{Found, found, missing, Held, Sure, Absent, LeavesBytes}
use Rattle.disk_model.specs.Calls.{after_names}
use Rattle.disk_model.specs.Memory.{done_to, half_of, done_in_turn, shown, named, after_file_sync, after_names_sync}
use Rattle.disk_model.specs.Holds.{Fits, Allows, HoldsFile}
use Rattle.disk_model.specs.declared.open_calls.UnsyncedEffect.{UnsyncedEffect}
use Rattle.disk_model.specs.declared.open_calls.UnsyncedEffect.TheVariants.{Creation, Naming, Write, Truncation, Removal, Nothing}
use Rattle.disk_model.proofs.Changes.{same_bytes}
use Rattle.disk_model.proofs.Fitting.{shown_there, shown_not}

-- the effects that are left of each
abbrev pub all_left : (UnsyncedEffect → List UnsyncedEffect) → List UnsyncedEffect → List UnsyncedEffect
all_left left [] = []
all_left left (c ∷ cs) = left c ++ all_left left cs

-- whether a file is there after these effects, whatever its bytes
left_there : (cs : List UnsyncedEffect) (f g : Found) → f.there ≡ g.there → (done_in_turn cs f).there ≡ (done_in_turn cs g).there
left_there [] f g e = e
left_there (Creation b ∷ cs) f g e = left_there cs (done_to (Creation b) f) (done_to (Creation b) g) refl
left_there (Naming ∷ cs) f g e = left_there cs (done_to Naming f) (done_to Naming g) refl
left_there (Write at b ∷ cs) f g e = left_there cs (done_to (Write at b) f) (done_to (Write at b) g) e
left_there (Truncation k ∷ cs) f g e = left_there cs (done_to (Truncation k) f) (done_to (Truncation k) g) e
left_there (Removal ∷ cs) f g e = left_there cs (done_to Removal f) (done_to Removal g) refl
left_there (Nothing ∷ cs) f g e = left_there cs f g e

-- a file with other bytes
abbrev with_bytes : List ℕ → Found → Found
with_bytes bytes f = record { there = f.there; bytes = bytes }

-- a sync of a file keeps whether it is there, and no effect that is left touches its bytes
synced_now : (cs : List UnsyncedEffect) (bytes : List ℕ) (f : Found) → done_in_turn (all_left after_file_sync cs) (with_bytes bytes f) ≡ with_bytes bytes (done_in_turn cs f)
synced_now [] bytes f = refl
synced_now (Creation b ∷ cs) bytes f = synced_now cs bytes (done_to (Creation b) f)
synced_now (Naming ∷ cs) bytes f = synced_now cs bytes (done_to Naming f)
synced_now (Write at b ∷ cs) bytes f = synced_now cs bytes (done_to (Write at b) f)
synced_now (Truncation k ∷ cs) bytes f = synced_now cs bytes (done_to (Truncation k) f)
synced_now (Removal ∷ cs) bytes f = synced_now cs bytes (done_to Removal f)
synced_now (Nothing ∷ cs) bytes f = synced_now cs bytes f

-- standing and bytes alone decide whether a synced file fits
synced_fits : (h : Held) (bytes : List ℕ) (x f : Found) → Fits h f → x.there ≡ f.there → x.bytes ≡ bytes → Fits (record { standing = h.standing; bytes = bytes; since = [] }) x
synced_fits h bytes x f fits t b = record {
  sure = λ e. t ∙ fits.sure e;
  absent = λ e. t ∙ fits.absent e;
  left = subst (LeavesBytes bytes []) (sym b) (same_bytes bytes);
}

synced_allows : (h : Held) (bytes : List ℕ) (cs : List UnsyncedEffect) (f : Found) → Allows h f cs → Allows (record { standing = h.standing; bytes = bytes; since = [] }) (with_bytes bytes f) (all_left after_file_sync cs)
synced_allows h bytes [] f a = synced_fits h bytes (with_bytes bytes f) f a refl refl
synced_allows h bytes (Creation b ∷ cs) f a = (synced_fits h bytes (with_bytes bytes f) f a.0 refl refl, synced_fits h bytes (with_bytes bytes f) f a.0 refl refl, synced_allows h bytes cs (done_to (Creation b) f) a.2)
synced_allows h bytes (Naming ∷ cs) f a = (synced_fits h bytes (with_bytes bytes f) f a.0 refl refl, synced_fits h bytes (with_bytes bytes f) f a.0 refl refl, synced_allows h bytes cs (done_to Naming f) a.2)
synced_allows h bytes (Write at b ∷ cs) f a = synced_allows h bytes cs (done_to (Write at b) f) a.2
synced_allows h bytes (Truncation k ∷ cs) f a = synced_allows h bytes cs (done_to (Truncation k) f) a.2
synced_allows h bytes (Removal ∷ cs) f a = (synced_fits h bytes (with_bytes bytes f) f a.0 refl refl, synced_fits h bytes (with_bytes bytes f) f a.0 refl refl, synced_allows h bytes cs (done_to Removal f) a.2)
synced_allows h bytes (Nothing ∷ cs) f a = synced_allows h bytes cs f a.2

-- a sync of a file that is there
pub file_synced : (h : Held) (r base : Found) (cs : List UnsyncedEffect) → HoldsFile h r base cs → r.there ≡ true
    → HoldsFile (record { standing = h.standing; bytes = r.bytes; since = [] }) r (record { there = base.there; bytes = r.bytes }) (all_left after_file_sync cs)
file_synced h r base cs holds t =
    let now : Found = done_in_turn cs base in
    let end : done_in_turn (all_left after_file_sync cs) (with_bytes r.bytes base) ≡ with_bytes r.bytes now = synced_now cs r.bytes base in
    let is_there : now.there ≡ true = now_there holds t in
    record {
      read = (λ i. record { there = t i; bytes = r.bytes }) ∙ sym (shown_there (with_bytes r.bytes now) is_there) ∙ sym (ap shown end);
      allows = synced_allows h r.bytes cs base holds.allows;
      clean = λ e. let z : true ≡ false = sym is_there ∙ sym (ap (λ (x : Found). x.there) end) ∙ e in absurd cc;
    }
  where
    now_there : HoldsFile h r base cs → r.there ≡ true → (done_in_turn cs base).there ≡ true
    now_there holds t = elim (cases_Bool (done_in_turn cs base).there) [
      | inl y ↦ y
      | inr y ↦ let z : true ≡ false = sym t ∙ ap (λ (x : Found). x.there) (holds.read ∙ shown_not (done_in_turn cs base) y) in absurd cc
    ]

-- a file whose name is sure
sure_fits : (h : Held) (x f : Found) → Fits h f → x.there ≡ true → x.bytes ≡ f.bytes → Fits (record { standing = Sure; bytes = h.bytes; since = h.since }) x
sure_fits h x f fits t b = record {
  sure = λ e. t;
  absent = λ e. absurd cc;
  left = subst (LeavesBytes h.bytes h.since) (sym b) fits.left;
}

named_allows : (h : Held) (cs : List UnsyncedEffect) (f : Found) → Allows h f cs → Allows (record { standing = Sure; bytes = h.bytes; since = h.since }) (found f.bytes) (all_left (after_names_sync true) cs)
named_allows h [] f a = sure_fits h (found f.bytes) f a refl refl
named_allows h (Creation b ∷ cs) f a = (sure_fits h (found f.bytes) f a.0 refl refl, sure_fits h _ (done_to (half_of (Creation b)) f) a.1 refl refl, named_allows h cs (done_to (Creation b) f) a.2)
named_allows h (Naming ∷ cs) f a = named_allows h cs (done_to Naming f) a.2
named_allows h (Write at b ∷ cs) f a = (sure_fits h (found f.bytes) f a.0 refl refl, sure_fits h _ (done_to (half_of (Write at b)) f) a.1 refl refl, named_allows h cs (done_to (Write at b) f) a.2)
named_allows h (Truncation k ∷ cs) f a = (sure_fits h (found f.bytes) f a.0 refl refl, sure_fits h (found f.bytes) f a.0 refl refl, named_allows h cs (done_to (Truncation k) f) a.2)
named_allows h (Removal ∷ cs) f a = named_allows h cs (done_to Removal f) a.2
named_allows h (Nothing ∷ cs) f a = (sure_fits h (found f.bytes) f a.0 refl refl, sure_fits h (found f.bytes) f a.0 refl refl, named_allows h cs f a.2)

named_now : (cs : List UnsyncedEffect) (f : Found) → done_in_turn (all_left (after_names_sync true) cs) (found f.bytes) ≡ found (done_in_turn cs f).bytes
named_now [] f = refl
named_now (Creation b ∷ cs) f = named_now cs (done_to (Creation b) f)
named_now (Naming ∷ cs) f = named_now cs (done_to Naming f)
named_now (Write at b ∷ cs) f = named_now cs (done_to (Write at b) f)
named_now (Truncation k ∷ cs) f = named_now cs (done_to (Truncation k) f)
named_now (Removal ∷ cs) f = named_now cs (done_to Removal f)
named_now (Nothing ∷ cs) f = named_now cs f

-- a file that is gone
gone_fits : Fits (record { standing = Absent; bytes = []; since = [] }) missing
gone_fits = record { sure = λ e. absurd cc; absent = λ e. refl; left = same_bytes [] }

gone_allows : (cs : List UnsyncedEffect) → Allows (record { standing = Absent; bytes = []; since = [] }) missing (all_left (after_names_sync false) cs)
gone_allows [] = gone_fits
gone_allows (Creation b ∷ cs) = (gone_fits, gone_fits, gone_allows cs)
gone_allows (Naming ∷ cs) = gone_allows cs
gone_allows (Write at b ∷ cs) = (gone_fits, gone_fits, gone_allows cs)
gone_allows (Truncation k ∷ cs) = (gone_fits, gone_fits, gone_allows cs)
gone_allows (Removal ∷ cs) = gone_allows cs
gone_allows (Nothing ∷ cs) = (gone_fits, gone_fits, gone_allows cs)

gone_now : (cs : List UnsyncedEffect) → done_in_turn (all_left (after_names_sync false) cs) missing ≡ missing
gone_now [] = refl
gone_now (Creation b ∷ cs) = gone_now cs
gone_now (Naming ∷ cs) = gone_now cs
gone_now (Write at b ∷ cs) = gone_now cs
gone_now (Truncation k ∷ cs) = gone_now cs
gone_now (Removal ∷ cs) = gone_now cs
gone_now (Nothing ∷ cs) = gone_now cs

-- a sync of the names, for each file
module _ (h : Held) (r base : Found) (cs : List UnsyncedEffect) (holds : HoldsFile h r base cs) where
  abbrev now : Found
  now = done_in_turn cs base

  abbrev Named : Bool → Type 0
  Named b = HoldsFile (cond b (record { standing = Sure; bytes = h.bytes; since = h.since }) (record { standing = Absent; bytes = []; since = [] })) r (cond b (found base.bytes) missing) (all_left (after_names_sync b) cs)

  now_there : r.there ≡ true → now.there ≡ true
  now_there t = elim (cases_Bool now.there) [
    | inl y ↦ y
    | inr y ↦ let z : true ≡ false = sym t ∙ ap (λ (x : Found). x.there) (holds.read ∙ shown_not now y) in absurd cc
  ]

  now_gone : r.there ≡ false → now.there ≡ false
  now_gone t = elim (cases_Bool now.there) [
    | inr y ↦ y
    | inl y ↦ let z : false ≡ true = sym t ∙ ap (λ (x : Found). x.there) (holds.read ∙ shown_there now y) in absurd cc
  ]

  there : r.there ≡ true → Named true
  there t =
      let is : r ≡ found now.bytes = holds.read ∙ shown_there now (now_there t) in
      record {
        read = is ∙ sym (ap shown (named_now cs base));
        allows = named_allows h cs base holds.allows;
        clean = λ e. let y : true ≡ false = sym (ap (λ (x : Found). x.there) (named_now cs base)) ∙ e in absurd cc;
      }

  not : r.there ≡ false → Named false
  not t =
      let is : r ≡ missing = holds.read ∙ shown_not now (now_gone t) in
      record {
        read = is ∙ sym (ap shown (gone_now cs));
        allows = gone_allows cs;
        clean = λ e. inr (ap (λ (x : Found). x.bytes) (gone_now cs));
      }

  pub file_named : HoldsFile (after_names r h) r (named r base) (all_left (after_names_sync r.there) cs)
  file_named = elim (cases_Bool r.there) [ inl t ↦ subst Named (sym t) (there t) | inr t ↦ subst Named (sym t) (not t) ]

-- a file at rest
pub at_rest : (f : Found) → HoldsFile (record { standing = cond f.there Sure Absent; bytes = (shown f).bytes; since = [] }) (shown f) (shown f) []
at_rest f = elim (cases_Bool f.there) [
  | inl t ↦ subst (λ (x : Found). HoldsFile (record { standing = cond f.there Sure Absent; bytes = x.bytes; since = [] }) x x []) (sym (shown_there f t)) (record {
    read = refl;
    allows = record { sure = λ e. refl; absent = λ e. let z : Sure ≡ Absent = sym (cond-true f.there Sure Absent t) ∙ e in absurd cc; left = same_bytes f.bytes };
    clean = λ e. absurd cc;
  })
  | inr t ↦ subst (λ (x : Found). HoldsFile (record { standing = cond f.there Sure Absent; bytes = x.bytes; since = [] }) x x []) (sym (shown_not f t)) (record {
    read = refl;
    allows = record { sure = λ e. let z : Absent ≡ Sure = sym (cond-false f.there Sure Absent t) ∙ e in absurd cc; absent = λ e. refl; left = same_bytes [] };
    clean = λ e. inr refl;
  })
]
