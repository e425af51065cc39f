-- A disk over memory through its calls: the state that it may be said to be in goes along.
use Rattle.std.proofs.Common.{◌≡◌, inl, inr, ℕ, ◌<◌, ◌≤◌, nat_lt, Bool, true, false, cond, List, [], ◌∷◌, ◌++◌, length, take, refl, sym, ap, ◌∙◌, subst, arith}
use Rattle.std.specs.Str.{bytes_eq}
use Rattle.std.proofs.lemmas.Bool.{cases_Bool, cond-true, cond-false, ltb-false, ltb-true}
use Rattle.std.proofs.lemmas.List.{take_all}
use Rattle.disk_model.specs.Disk.{Found, found, missing, Held, Disk, Sure, Absent, LeavesFile, no_files}
use Rattle.disk_model.specs.Calls.{WriteAt, CutTo, Sync, Remove, SyncNames, Does, Fails, Turns, Breaks, MayWrite, put, after_write, after_cut, after_sync, after_remove, after_names}
use Rattle.disk_model.specs.Rest.{Rest, AfterCrash}
use Rattle.disk_model.specs.Trait.{Text}
use Rattle.disk_model.specs.Memory.{Memory, no_memory, effects_on, done_to, done_in_turn, kept, each_left, left_by_file_sync, after_file_sync, shown, at_name, noted, is_none, wrote, truncated, removed, synced, names_synced, crashed, named}
use Rattle.disk_model.specs.Holds.{HoldsFile, Holds}
use Rattle.disk_model.specs.declared.open_calls.UnsyncedEffect.{UnsyncedEffect}
use Rattle.disk_model.specs.declared.open_calls.UnsyncedEffect.TheVariants.{Creation, Write, Truncation, Removal}
use Rattle.disk_model.proofs.Changes.{same_bytes}
use Rattle.disk_model.proofs.Fitting.{fits_left, there_shown, shown_empty, read_left, written, written_nothing, cut_down, cut_not, taken_away, not_taken, made_new, not_written, no_bytes}
use Rattle.disk_model.proofs.Covered.{file_synced, file_named, at_rest, all_left}
use Rattle.disk_model.proofs.Effects.{eq_here, eq_else, tell, on_one, on_other, left_here, left_else, left_named, pick_fits}
use Rattle.disk_model.proofs.Names.{same, apart}

pub holds_none : Holds no_memory no_files
holds_none = record {
  read = λ n. refl;
  file = λ n. record {
    read = refl;
    allows = record { sure = λ e. absurd cc; absent = λ e. refl; left = same_bytes [] };
    clean = λ e. inr refl;
  };
}

-- the files other than n are the same in two memories
pub record Alike (n : Text) (m k : Memory) : Type 0 where
  pub read : (j : Text) → (j ≡ n → ⊥) → k.read j ≡ m.read j
  pub base : (j : Text) → (j ≡ n → ⊥) → k.base j ≡ m.base j
  pub effects : (j : Text) → (j ≡ n → ⊥) → effects_on j k.uncovered ≡ effects_on j m.uncovered

alike : (n : Text) (m : Memory) → Alike n m m
alike n m = record { read = λ j h. refl; base = λ j h. refl; effects = λ j h. refl }

-- a disk with one file changed
abbrev turned : Text → Held → Found → Disk Text → Disk Text
turned n h f d = record { read = λ j. cond (bytes_eq n j) f (d.read j); held = λ j. cond (bytes_eq n j) h (d.held j) }

-- a call on one file, which the disk holds so afterwards
module _ (n : Text) (m k : Memory) (d : Disk Text) (holds : Holds m d) (same_else : Alike n m k) (h : Held) (file : HoldsFile h (k.read n) (k.base n) (effects_on n k.uncovered)) where
  abbrev e : Disk Text
  e = turned n h (k.read n) d

  other : (j : Text) → (j ≡ n → ⊥) → bytes_eq n j ≡ false
  other j a = eq_else n j (λ q. a (sym q))

  else_read : (j : Text) → (j ≡ n → ⊥) → e.read j ≡ d.read j
  else_read j a = cond-false (bytes_eq n j) (k.read n) (d.read j) (other j a)

  else_held : (j : Text) → (j ≡ n → ⊥) → e.held j ≡ d.held j
  else_held j a = cond-false (bytes_eq n j) h (d.held j) (other j a)

  here_held : e.held n ≡ h
  here_held = cond-true (bytes_eq n n) h (d.held n) (eq_here n)

  here_read : e.read n ≡ k.read n
  here_read = cond-true (bytes_eq n n) (k.read n) (d.read n) (eq_here n)

  reads : (j : Text) → e.read j ≡ k.read j
  reads j = elim (tell j n) [
    | same q ↦ subst (λ (i : Text). e.read i ≡ k.read i) (sym q) here_read
    | apart a ↦ else_read j a ∙ holds.read j ∙ sym (same_else.read j a)
  ]

  files : (j : Text) → HoldsFile (e.held j) (k.read j) (k.base j) (effects_on j k.uncovered)
  files j = elim (tell j n) [
    | same q ↦ subst (λ (i : Text). HoldsFile (e.held i) (k.read i) (k.base i) (effects_on i k.uncovered)) (sym q) (subst (λ (x : Held). HoldsFile x (k.read n) (k.base n) (effects_on n k.uncovered)) (sym here_held) file)
    | apart a ↦ subst (λ (x : Held). HoldsFile x (k.read j) (k.base j) (effects_on j k.uncovered)) (sym (else_held j a))
        (subst (λ (x : Found). HoldsFile (d.held j) x (k.base j) (effects_on j k.uncovered)) (sym (same_else.read j a))
        (subst (λ (x : Found). HoldsFile (d.held j) (m.read j) x (effects_on j k.uncovered)) (sym (same_else.base j a))
        (subst (λ (x : List UnsyncedEffect). HoldsFile (d.held j) (m.read j) (m.base j) x) (sym (same_else.effects j a)) (holds.file j))))
  ]

  turn : (e : Disk Text) × (Holds k e × Turns n d e h (k.read n))
  turn = (e, (record { read = reads; file = files }, record { others = record { read = else_read; held = else_held }; held = here_held; read = here_read }))

-- one more call that is noted
noted_alike : (n : Text) (c : UnsyncedEffect) (change : Found → Found) (m : Memory) → Alike n m (noted n c change m)
noted_alike n c change m = record {
  read = λ j a. cond-false (bytes_eq n j) (change (m.read j)) (m.read j) (eq_else n j (λ q. a (sym q)));
  base = λ j a. refl;
  effects = λ j a. on_other n j m.uncovered c (λ q. a (sym q));
}

noted_turn : (n : Text) (c : UnsyncedEffect) (change : Found → Found) (m : Memory) (d : Disk Text) → Holds m d → (h : Held) → HoldsFile h (change (m.read n)) (m.base n) (effects_on n m.uncovered ++ c ∷ [])
    → (e : Disk Text) × (Holds (noted n c change m) e × Turns n d e h (change (m.read n)))
noted_turn n c change m d holds h file =
    let here : (noted n c change m).read n ≡ change (m.read n) = cond-true (bytes_eq n n) (change (m.read n)) (m.read n) (eq_here n) in
    let z = turn n m (noted n c change m) d holds (noted_alike n c change m) h
    (subst (λ (x : List UnsyncedEffect). HoldsFile h ((noted n c change m).read n) (m.base n) x) (sym (on_one n m.uncovered c)) (subst (λ (x : Found). HoldsFile h x (m.base n) (effects_on n m.uncovered ++ c ∷ [])) (sym here) file)) in
    (z.0, (z.1.0, subst (λ (x : Found). Turns n d z.0 h x) here z.1.1))

-- a write that may be made, as the memory alone tells
pub record Writable (n : Text) (at : ℕ) (m : Memory) : Type 0 where
  pub within : at ≤ length (m.read n).bytes
  pub blank : (done_in_turn (effects_on n m.uncovered) (m.base n)).there ≡ false → (done_in_turn (effects_on n m.uncovered) (m.base n)).bytes ≡ []

pub writable : (n : Text) (at : ℕ) (m : Memory) (d : Disk Text) → Holds m d → MayWrite n at d → Writable n at m
writable n at m d holds may = record {
  within = subst (λ (x : Found). at ≤ length x.bytes) (holds.read n) may.within;
  blank = no_bytes (d.held n) (m.read n) (m.base n) (effects_on n m.uncovered) (holds.file n) may.no_removal;
}

module _ (n : Text) (m : Memory) (d : Disk Text) (holds : Holds m d) where
  abbrev h : Held
  h = d.held n

  abbrev file : HoldsFile h (m.read n) (m.base n) (effects_on n m.uncovered)
  file = holds.file n

  -- a call that did nothing, and that the disk holds so
  idle : (k : Held) → HoldsFile k (m.read n) (m.base n) (effects_on n m.uncovered) → (e : Disk Text) × (Holds m e × Turns n d e k (m.read n))
  idle k f = turn n m m d holds (alike n m) k f

  broken : (k : Held) → HoldsFile k (m.read n) (m.base n) (effects_on n m.uncovered) → (e : Disk Text) × (Holds m e × Breaks n d e k)
  broken k f =
      let z = idle k f in
      (z.0, (z.1.0, record { others = z.1.1.others; held = z.1.1.held; part = subst (LeavesFile k) (sym z.1.1.read) (read_left k (m.read n) (m.base n) (effects_on n m.uncovered) f) }))

  -- what is read as the disk reads it
  as_read : (k : Held) (change : Found → Found) (e : Disk Text) → Turns n d e k (change (m.read n)) → Turns n d e k (change (d.read n))
  as_read k change e t = subst (λ (x : Found). Turns n d e k (change x)) (sym (holds.read n)) t

  there_read : (d.read n).there ≡ (m.read n).there
  there_read = ap (λ (x : Found). x.there) (holds.read n)

  module _ (at : ℕ) (bytes : List ℕ) (may : Writable n at m) where
    within : at ≤ length (m.read n).bytes
    within = may.within

    abbrev Wrote : Memory → Type 0
    Wrote k = (e : Disk Text) × (Holds k e × Does (WriteAt n at bytes) d e)

    over : (m.read n).there ≡ true → Wrote (cond (is_none bytes) m (noted n (Write at bytes) (done_to (Write at bytes)) m))
    over t = elim (cases_Bool (is_none bytes)) [
      | inl q ↦
          let empty : bytes ≡ [] = none bytes q in
          let f = written_nothing h (m.read n) (m.base n) (effects_on n m.uncovered) file t at bytes empty in
          let kept_read : found (put at bytes (m.read n).bytes) ≡ m.read n = same_read t empty in
          let z = idle (after_write at bytes h) (subst (λ (x : Found). HoldsFile (after_write at bytes h) x (m.base n) (effects_on n m.uncovered)) kept_read f) in
          subst Wrote (sym (cond-true (is_none bytes) m _ q)) (z.0, (z.1.0, as_read (after_write at bytes h) (λ x. found (put at bytes x.bytes)) z.0 (subst (λ (x : Found). Turns n d z.0 (after_write at bytes h) x) (sym kept_read) z.1.1)))
      | inr q ↦
          let f = written h (m.read n) (m.base n) (effects_on n m.uncovered) file t at bytes within in
          let same_read : found (put at bytes (m.read n).bytes) ≡ done_to (Write at bytes) (m.read n) = (λ i. record { there = sym t i; bytes = put at bytes (m.read n).bytes }) in
          let z = noted_turn n (Write at bytes) (done_to (Write at bytes)) m d holds (after_write at bytes h) (subst (λ (x : Found). HoldsFile (after_write at bytes h) x (m.base n) (effects_on n m.uncovered ++ Write at bytes ∷ [])) same_read f) in
          subst Wrote (sym (cond-false (is_none bytes) m _ q)) (z.0, (z.1.0, as_read (after_write at bytes h) (λ x. found (put at bytes x.bytes)) z.0 (subst (λ (x : Found). Turns n d z.0 (after_write at bytes h) x) (sym same_read) z.1.1)))
    ]
      where
        none : (bytes : List ℕ) → is_none bytes ≡ true → bytes ≡ []
        none [] e = refl
        none (x ∷ xs) e = absurd cc

        same_read : (m.read n).there ≡ true → bytes ≡ [] → found (put at bytes (m.read n).bytes) ≡ m.read n
        same_read t e = (written_nothing h (m.read n) (m.base n) (effects_on n m.uncovered) file t at bytes e).read ∙ sym file.read

    new : (m.read n).there ≡ false → Wrote (noted n (Creation bytes) (done_to (Creation bytes)) m)
    new t =
        let f = made_new h (m.read n) (m.base n) (effects_on n m.uncovered) file t may.blank at bytes within in
        let nothing : m.read n ≡ missing = not_there t in
        let len : length (m.read n).bytes ≡ 0 = ap (λ (x : Found). length x.bytes) nothing in
        let start : at ≡ 0 = omega (arith, len, within) in
        let is : found (put at bytes (m.read n).bytes) ≡ done_to (Creation bytes) (m.read n) = (λ i. found (put (start i) bytes (m.read n).bytes)) in
        let z = noted_turn n (Creation bytes) (done_to (Creation bytes)) m d holds (after_write at bytes h) (subst (λ (x : Found). HoldsFile (after_write at bytes h) x (m.base n) (effects_on n m.uncovered ++ Creation bytes ∷ [])) is f) in
        (z.0, (z.1.0, as_read (after_write at bytes h) (λ x. found (put at bytes x.bytes)) z.0 (subst (λ (x : Found). Turns n d z.0 (after_write at bytes h) x) (sym is) z.1.1)))
      where
        not_there : (m.read n).there ≡ false → m.read n ≡ missing
        not_there t =
            let l = read_left h (m.read n) (m.base n) (effects_on n m.uncovered) file in
            λ i. record { there = t i; bytes = l.empty t i }

    pub write_does : Wrote (wrote n at bytes m)
    write_does = elim (cases_Bool (m.read n).there) [
      | inl t ↦ subst Wrote (sym (cond-true (m.read n).there _ _ t)) (over t)
      | inr t ↦ subst Wrote (sym (cond-false (m.read n).there _ _ t)) (new t)
    ]

    pub write_fails : (e : Disk Text) × (Holds m e × Fails (WriteAt n at bytes) d e)
    write_fails = broken (after_write at bytes h) (not_written h (m.read n) (m.base n) (effects_on n m.uncovered) file may.blank at bytes)

  -- after a call that changes a file only if it is there
  where_there : (k : Held) (P : Held → Type 0) → ((m.read n).there ≡ true → P k) → ((m.read n).there ≡ false → P h) → P (cond (d.read n).there k h)
  where_there k P if_there if_not = elim (cases_Bool (m.read n).there) [
    | inl t ↦ subst P (sym (cond-true (d.read n).there k h (there_read ∙ t))) (if_there t)
    | inr t ↦ subst P (sym (cond-false (d.read n).there k h (there_read ∙ t))) (if_not t)
  ]

  module _ (k : ℕ) where
    abbrev CutIs : Memory → Held → Type 0
    CutIs x held = (e : Disk Text) × (Holds x e × Turns n d e held (record { there = (d.read n).there; bytes = take k (d.read n).bytes }))

    shorter : length (m.read n).bytes ≤ k → m.read n ≡ record { there = (m.read n).there; bytes = take k (m.read n).bytes }
    shorter l = λ i. record { there = (m.read n).there; bytes = sym (take_all k (m.read n).bytes l) i }

    cut_idle : length (m.read n).bytes ≤ k → (held : Held) → HoldsFile held (m.read n) (m.base n) (effects_on n m.uncovered) → CutIs m held
    cut_idle l held f = let z = idle held f in (z.0, (z.1.0, as_read held (λ x. record { there = x.there; bytes = take k x.bytes }) z.0 (subst (λ (x : Found). Turns n d z.0 held x) (shorter l) z.1.1)))

    pub cut_does : (e : Disk Text) × (Holds (truncated n k m) e × Does (CutTo n k) d e)
    cut_does = elim (cases_Bool (nat_lt k (length (m.read n).bytes))) [
      | inl q ↦ subst (λ (x : Memory). CutIs x (cond (d.read n).there (after_cut k h) h)) (sym (cond-true (nat_lt k (length (m.read n).bytes)) _ _ q))
          (where_there (after_cut k h) (CutIs (noted n (Truncation k) (done_to (Truncation k)) m)) (λ t. longer t) (λ t. absurd (not_empty t q)))
      | inr q ↦ subst (λ (x : Memory). CutIs x (cond (d.read n).there (after_cut k h) h)) (sym (cond-false (nat_lt k (length (m.read n).bytes)) _ _ q))
          (let l : length (m.read n).bytes ≤ k = ltb-false k (length (m.read n).bytes) q in
          where_there (after_cut k h) (CutIs m) (λ t. cut_idle l (after_cut k h) (cut_not h (m.read n) (m.base n) (effects_on n m.uncovered) file t k)) (λ t. cut_idle l h file))
    ]
      where
        longer : (m.read n).there ≡ true → CutIs (noted n (Truncation k) (done_to (Truncation k)) m) (after_cut k h)
        longer t =
            let z = noted_turn n (Truncation k) (done_to (Truncation k)) m d holds (after_cut k h) (cut_down h (m.read n) (m.base n) (effects_on n m.uncovered) file t k) in
            (z.0, (z.1.0, as_read (after_cut k h) (done_to (Truncation k)) z.0 z.1.1))

        not_empty : (m.read n).there ≡ false → nat_lt k (length (m.read n).bytes) ≡ true → ⊥
        not_empty t q =
            let l = read_left h (m.read n) (m.base n) (effects_on n m.uncovered) file in
            let z : nat_lt k 0 ≡ true = ap (λ (x : List ℕ). nat_lt k (length x)) (sym (l.empty t)) ∙ q in
            let lt : k < 0 = ltb-true k 0 z in
            absurd (omega arith)

    pub cut_fails : (e : Disk Text) × (Holds m e × Fails (CutTo n k) d e)
    cut_fails = where_there (after_cut k h) (λ (x : Held). (e : Disk Text) × (Holds m e × Breaks n d e x))
        (λ t. broken (after_cut k h) (cut_not h (m.read n) (m.base n) (effects_on n m.uncovered) file t k)) (λ t. broken h file)

  abbrev RemoveIs : Memory → Held → Type 0
  RemoveIs x held = (e : Disk Text) × (Holds x e × Turns n d e held missing)

  pub remove_does : (e : Disk Text) × (Holds (removed n m) e × Does (Remove n) d e)
  remove_does = elim (cases_Bool (m.read n).there) [
    | inl t ↦ subst (λ (x : Memory). RemoveIs x (cond (d.read n).there (after_remove h) h)) (sym (cond-true (m.read n).there _ _ t))
        (subst (RemoveIs (noted n Removal (λ f. missing) m)) (sym (cond-true (d.read n).there (after_remove h) h (there_read ∙ t)))
        (noted_turn n Removal (λ f. missing) m d holds (after_remove h) (taken_away h (m.read n) (m.base n) (effects_on n m.uncovered) file t)))
    | inr t ↦
        let l = read_left h (m.read n) (m.base n) (effects_on n m.uncovered) file in
        let z = idle h file in
        let none : m.read n ≡ missing = (λ i. record { there = t i; bytes = l.empty t i }) in
        subst (λ (x : Memory). RemoveIs x (cond (d.read n).there (after_remove h) h)) (sym (cond-false (m.read n).there _ _ t))
        (subst (RemoveIs m) (sym (cond-false (d.read n).there (after_remove h) h (there_read ∙ t)))
        (z.0, (z.1.0, subst (λ (x : Found). Turns n d z.0 h x) none z.1.1)))
  ]

  pub remove_fails : (e : Disk Text) × (Holds m e × Fails (Remove n) d e)
  remove_fails = where_there (after_remove h) (λ (x : Held). (e : Disk Text) × (Holds m e × Breaks n d e x))
      (λ t. broken (after_remove h) (not_taken h (m.read n) (m.base n) (effects_on n m.uncovered) file t)) (λ t. broken h file)

  abbrev SyncIs : Memory → Held → Type 0
  SyncIs x held = (e : Disk Text) × (Holds x e × Turns n d e held (d.read n))

  pub sync_does : (e : Disk Text) × (Holds (synced n m) e × Does (Sync n) d e)
  sync_does = elim (cases_Bool (m.read n).there) [
    | inl t ↦
        let k : Memory = record { read = m.read; base = at_name n (λ f. record { there = f.there; bytes = (m.read n).bytes }) m.base; uncovered = each_left (left_by_file_sync n) m.uncovered } in
        let held : Held = record { standing = h.standing; bytes = (m.read n).bytes; since = [] } in
        let here : k.base n ≡ record { there = (m.base n).there; bytes = (m.read n).bytes } = cond-true (bytes_eq n n) _ (m.base n) (eq_here n) in
        let same_else : Alike n m k = record {
          read = λ j a. refl;
          base = λ j a. cond-false (bytes_eq n j) _ (m.base j) (eq_else n j (λ q. a (sym q)));
          effects = λ j a. left_else n j m.uncovered a;
        } in
        let f = file_synced h (m.read n) (m.base n) (effects_on n m.uncovered) file t in
        let z = turn n m k d holds same_else held
        (subst (λ (x : List UnsyncedEffect). HoldsFile held (m.read n) (k.base n) x) (sym (left_here n m.uncovered)) (subst (λ (x : Found). HoldsFile held (m.read n) x (all_left after_file_sync (effects_on n m.uncovered))) (sym here) f)) in
        let becomes : after_sync (d.read n) h ≡ held = cond-true (d.read n).there _ h (there_read ∙ t) ∙ (λ i. record { standing = h.standing; bytes = (holds.read n i).bytes; since = [] }) in
        subst (λ (x : Memory). SyncIs x (after_sync (d.read n) h)) (sym (cond-true (m.read n).there k m t))
        (subst (SyncIs k) (sym becomes) (z.0, (z.1.0, as_read held (λ x. x) z.0 z.1.1)))
    | inr t ↦
        let z = idle h file in
        subst (λ (x : Memory). SyncIs x (after_sync (d.read n) h)) (sym (cond-false (m.read n).there _ m t))
        (subst (SyncIs m) (sym (cond-false (d.read n).there _ h (there_read ∙ t))) (z.0, (z.1.0, as_read h (λ x. x) z.0 z.1.1)))
  ]

module _ (m : Memory) (d : Disk Text) (holds : Holds m d) where
  abbrev after_them : Disk Text
  after_them = record { read = d.read; held = λ n. after_names (d.read n) (d.held n) }

  files_named : (n : Text) → HoldsFile (after_them.held n) (m.read n) ((names_synced m).base n) (effects_on n (names_synced m).uncovered)
  files_named n =
      subst (λ (x : Found). HoldsFile (after_names x (d.held n)) (m.read n) ((names_synced m).base n) (effects_on n (names_synced m).uncovered)) (sym (holds.read n))
      (subst (λ (x : List UnsyncedEffect). HoldsFile (after_names (m.read n) (d.held n)) (m.read n) (named (m.read n) (m.base n)) x) (sym (left_named m.read n m.uncovered))
      (file_named (d.held n) (m.read n) (m.base n) (effects_on n m.uncovered) (holds.file n)))

  pub names_does : (e : Disk Text) × (Holds (names_synced m) e × Does SyncNames d e)
  names_does = (after_them, (record { read = holds.read; file = files_named }, record { read = λ n. refl; held = λ n. refl }))

  abbrev last : ℕ → Text → Found
  last pick n = done_in_turn (effects_on n (kept pick m.uncovered)) (m.base n)

  abbrev after_crash : ℕ → Disk Text
  after_crash pick = record { read = λ n. shown (last pick n); held = λ n. record { standing = cond (last pick n).there Sure Absent; bytes = (shown (last pick n)).bytes; since = [] } }

  rests : (pick : ℕ) (n : Text) → Rest ((after_crash pick).held n) ((after_crash pick).read n)
  rests pick n = record {
    since = refl;
    bytes = refl;
    standing = ap (λ (b : Bool). cond b Sure Absent) (sym (there_shown (last pick n)));
    empty = λ t. shown_empty (last pick n) t;
  }

  -- whatever a pick makes of the memory is what a crash may leave
  pub crash_does : (pick : ℕ) → (e : Disk Text) × (Holds (crashed pick m) e × AfterCrash d e)
  crash_does pick = (
    after_crash pick,
    (
      record { read = λ n. refl; file = λ n. at_rest (last pick n) },
      record { left = record { each = λ n. fits_left (d.held n) (last pick n) (pick_fits (d.held n) n m.uncovered pick (m.base n) (holds.file n).allows) }; rest = rests pick },
    ),
  )
