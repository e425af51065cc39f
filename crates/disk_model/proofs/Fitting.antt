-- One file of a disk over memory, through calls that succeed and calls that fail.
use Rattle.std.proofs.Common.{◌≡◌, inl, inr, ⊎_elim, ℕ, ◌+◌, ◌/◌, ◌≤◌, Bool, true, false, List, [], ◌∷◌, ◌++◌, length, take, drop, refl, sym, ap, ◌∙◌, subst, arith}
use Rattle.std.proofs.lemmas.Bool.{cases_Bool, cond-true, cond-false}
use Rattle.std.proofs.lemmas.List.{take-append-drop, append-nil}
use Rattle.disk_model.specs.Disk.{Found, found, missing, Wrote, Held, Gone, Absent, LeavesBytes, LeavesFile}
use Rattle.disk_model.specs.Calls.{put, after_write, after_cut, after_remove}
use Rattle.disk_model.specs.Memory.{done_to, half_of, half, done_in_turn, shown}
use Rattle.disk_model.specs.Holds.{Fits, Allows, HoldsFile}
use Rattle.disk_model.specs.declared.open_calls.UnsyncedEffect.{UnsyncedEffect}
use Rattle.disk_model.specs.declared.open_calls.UnsyncedEffect.TheVariants.{Creation, Write, Truncation, Removal}
use Rattle.disk_model.proofs.Changes.{still_bytes, put_bytes, put_front, cut_bytes, made_sure, made_present, gone_unsure, gone_absent, gone_now}

pub shown_there : (f : Found) → f.there ≡ true → shown f ≡ found f.bytes
shown_there f t = cond-true f.there (found f.bytes) missing t

pub shown_not : (f : Found) → f.there ≡ false → shown f ≡ missing
shown_not f t = cond-false f.there (found f.bytes) missing t

pub there_shown : (f : Found) → (shown f).there ≡ f.there
there_shown f = elim (cases_Bool f.there) [
  | inl t ↦ ap (λ (x : Found). x.there) (shown_there f t) ∙ sym t
  | inr t ↦ ap (λ (x : Found). x.there) (shown_not f t) ∙ sym t
]

pub shown_empty : (f : Found) → (shown f).there ≡ false → (shown f).bytes ≡ []
shown_empty f t = elim (cases_Bool f.there) [
  | inl y ↦ let z : true ≡ false = sym y ∙ sym (there_shown f) ∙ t in absurd cc
  | inr y ↦ ap (λ (x : Found). x.bytes) (shown_not f y)
]

-- what shows of a file that fits is what a crash may leave
pub fits_left : (h : Held) (f : Found) → Fits h f → LeavesFile h (shown f)
fits_left h f fits = elim (cases_Bool f.there) [
  | inl t ↦ subst (LeavesFile h) (sym (shown_there f t)) (record { sure = λ e. refl; absent = λ e. let z : true ≡ false = sym t ∙ fits.absent e in absurd cc; empty = λ e. absurd cc; left = λ e. fits.left })
  | inr t ↦ subst (LeavesFile h) (sym (shown_not f t)) (record { sure = λ e. let z : false ≡ true = sym t ∙ fits.sure e in absurd cc; absent = λ e. refl; empty = λ e. refl; left = λ e. absurd cc })
]

pub allows_first : (h : Held) (f : Found) (cs : List UnsyncedEffect) → Allows h f cs → Fits h f
allows_first h f [] a = a
allows_first h f (c ∷ cs) a = a.0

pub allows_now : (h : Held) (f : Found) (cs : List UnsyncedEffect) → Allows h f cs → Fits h (done_in_turn cs f)
allows_now h f [] a = a
allows_now h f (c ∷ cs) a = allows_now h (done_to c f) cs a.2

allows_more : (h k : Held) → ((x : Found) → Fits h x → Fits k x) → (f : Found) (cs : List UnsyncedEffect) → Allows h f cs → Allows k f cs
allows_more h k more f [] a = more f a
allows_more h k more f (c ∷ cs) a = (more f a.0, more (done_to (half_of c) f) a.1, allows_more h k more (done_to c f) cs a.2)

allows_last : (k : Held) (f : Found) (cs : List UnsyncedEffect) (c : UnsyncedEffect) → Allows k f cs → Fits k (done_to (half_of c) (done_in_turn cs f)) → Fits k (done_to c (done_in_turn cs f)) → Allows k f (cs ++ c ∷ [])
allows_last k f [] c a h w = (a, h, w)
allows_last k f (x ∷ cs) c a h w = (a.0, a.1, allows_last k (done_to x f) cs c a.2 h w)

one_more : (f : Found) (cs : List UnsyncedEffect) (c : UnsyncedEffect) → done_in_turn (cs ++ c ∷ []) f ≡ done_to c (done_in_turn cs f)
one_more f [] c = refl
one_more f (x ∷ cs) c = one_more (done_to x f) cs c

still_written : (h : Held) (at : ℕ) (bytes : List ℕ) (x : Found) → Fits h x → Fits (after_write at bytes h) x
still_written h at bytes x fits = record {
  sure = λ e. fits.sure (made_sure h.standing e);
  absent = λ e. absurd (made_present h.standing e);
  left = still_bytes h.bytes h.since _ x.bytes fits.left;
}

still_cut : (h : Held) (k : ℕ) (x : Found) → Fits h x → Fits (after_cut k h) x
still_cut h k x fits = record { sure = fits.sure; absent = fits.absent; left = still_bytes h.bytes h.since _ x.bytes fits.left }

still_removed : (h : Held) (x : Found) → Fits h x → Fits (after_remove h) x
still_removed h x fits = record {
  sure = λ e. absurd (gone_unsure h.standing e);
  absent = λ e. fits.absent (gone_absent h.standing e);
  left = fits.left;
}

module _ (h : Held) (r base : Found) (cs : List UnsyncedEffect) (holds : HoldsFile h r base cs) where
  abbrev now : Found
  now = done_in_turn cs base

  fits : Fits h now
  fits = allows_now h base cs holds.allows

  same_there : r.there ≡ now.there
  same_there = ap (λ (x : Found). x.there) holds.read ∙ there_shown now

  pub read_left : LeavesFile h r
  read_left = subst (LeavesFile h) (sym holds.read) (fits_left h now fits)

  -- what is read is there
  module _ (t : r.there ≡ true) where
    now_there : now.there ≡ true
    now_there = sym same_there ∙ t

    same_bytes_read : r.bytes ≡ now.bytes
    same_bytes_read = ap (λ (x : Found). x.bytes) (holds.read ∙ shown_there now now_there)

    present : h.standing ≡ Absent → ⊥
    present e = let z : true ≡ false = sym now_there ∙ fits.absent e in absurd cc

    -- a change of the bytes, which is done and noted
    noted_bytes : (k : Held) (c : UnsyncedEffect) (bytes : List ℕ) → ((x : Found) → Fits h x → Fits k x) → Fits k (done_to (half_of c) now) → Fits k (done_to c now)
        → done_to c now ≡ found bytes → HoldsFile k (found bytes) base (cs ++ c ∷ [])
    noted_bytes k c bytes more halved whole is =
        let end : done_in_turn (cs ++ c ∷ []) base ≡ found bytes = one_more base cs c ∙ is in
        record {
          read = sym (ap shown end);
          allows = allows_last k base cs c (allows_more h k more base cs holds.allows) halved whole;
          clean = λ e. let z : true ≡ false = sym (ap (λ (x : Found). x.there) end) ∙ e in absurd cc;
        }

    pub written : (at : ℕ) (bytes : List ℕ) → at ≤ length r.bytes → HoldsFile (after_write at bytes h) (found (put at bytes r.bytes)) base (cs ++ Write at bytes ∷ [])
    written at bytes within =
        let len : length r.bytes ≡ length now.bytes = ap length same_bytes_read in
        let fit : at ≤ length now.bytes = omega (arith, len, within) in
        noted_bytes (after_write at bytes h) (Write at bytes) (put at bytes r.bytes) (still_written h at bytes)
        (record { sure = λ e. now_there; absent = λ e. absurd (made_present h.standing e); left = put_front h.bytes h.since at (length bytes / 2) bytes now.bytes fit fits.left })
        (record { sure = λ e. now_there; absent = λ e. absurd (made_present h.standing e); left = put_bytes h.bytes h.since at bytes now.bytes fit fits.left })
        (λ i. record { there = now_there i; bytes = put at bytes (sym same_bytes_read i) })

    pub written_nothing : (at : ℕ) (bytes : List ℕ) → bytes ≡ [] → HoldsFile (after_write at bytes h) (found (put at bytes r.bytes)) base cs
    written_nothing at bytes none =
        let put_none : put at [] r.bytes ≡ r.bytes = nothing_put at r.bytes in
        let is : found (put at bytes r.bytes) ≡ r = (λ i. found (put at (none i) r.bytes)) ∙ (λ i. record { there = sym t i; bytes = put_none i }) in
        record {
          read = is ∙ holds.read;
          allows = allows_more h (after_write at bytes h) (still_written h at bytes) base cs holds.allows;
          clean = λ e. let z : true ≡ false = sym now_there ∙ e in absurd cc;
        }
      where
        plus_zero : (n : ℕ) → n + length {A = ℕ} [] ≡ n
        plus_zero n = omega arith

        nothing_put : (at : ℕ) (old : List ℕ) → put at [] old ≡ old
        nothing_put at old = ap (λ (l : List ℕ). l ++ drop (at + length {A = ℕ} []) old) (append-nil (take at old)) ∙ ap (λ (n : ℕ). take at old ++ drop n old) (plus_zero at) ∙ take-append-drop at old

    pub cut_down : (k : ℕ) → HoldsFile (after_cut k h) (record { there = r.there; bytes = take k r.bytes }) base (cs ++ Truncation k ∷ [])
    cut_down k =
        subst (λ (b : Bool). HoldsFile (after_cut k h) (record { there = b; bytes = take k r.bytes }) base (cs ++ Truncation k ∷ [])) (sym t)
        (noted_bytes (after_cut k h) (Truncation k) (take k r.bytes) (still_cut h k)
        (still_cut h k now fits)
        (record { sure = λ e. now_there; absent = λ e. absurd (present e); left = cut_bytes h.bytes h.since k now.bytes fits.left })
        (λ i. record { there = now_there i; bytes = take k (sym same_bytes_read i) }))

    -- a cut of a file that isn't longer, and one that fails
    pub cut_not : (k : ℕ) → HoldsFile (after_cut k h) r base cs
    cut_not k = record { read = holds.read; allows = allows_more h (after_cut k h) (still_cut h k) base cs holds.allows; clean = holds.clean }

    pub taken_away : HoldsFile (after_remove h) missing base (cs ++ Removal ∷ [])
    taken_away =
        let end : done_in_turn (cs ++ Removal ∷ []) base ≡ record { there = false; bytes = now.bytes } = one_more base cs Removal in
        record {
          read = sym (ap shown end);
          allows = allows_last (after_remove h) base cs Removal (allows_more h (after_remove h) (still_removed h) base cs holds.allows)
              (still_removed h now fits)
              (record { sure = λ e. absurd (gone_unsure h.standing e); absent = λ e. refl; left = fits.left });
          clean = λ e. inl (gone_now h.standing present);
        }

    pub not_taken : HoldsFile (after_remove h) r base cs
    not_taken = record {
      read = holds.read;
      allows = allows_more h (after_remove h) (still_removed h) base cs holds.allows;
      clean = λ e. let z : true ≡ false = sym now_there ∙ e in absurd cc;
    }

  -- if no removal waits, a file that isn't there has no bytes
  pub no_bytes : (h.standing ≡ Gone → ⊥) → now.there ≡ false → now.bytes ≡ []
  no_bytes no_removal t = ⊎_elim (λ q. absurd (no_removal q)) (λ q. q) (holds.clean t)

  -- what is read isn't there
  module _ (t : r.there ≡ false) (blank : now.there ≡ false → now.bytes ≡ []) where
    empty_now : now.bytes ≡ []
    empty_now = blank (sym same_there ∙ t)

    pub made_new : (at : ℕ) (bytes : List ℕ) → at ≤ length r.bytes → HoldsFile (after_write at bytes h) (found (put at bytes r.bytes)) base (cs ++ Creation bytes ∷ [])
    made_new at bytes within =
        let none : r.bytes ≡ [] = ap (λ (x : Found). x.bytes) (holds.read ∙ shown_not now (sym same_there ∙ t)) in
        let len : length r.bytes ≡ 0 = ap length none in
        let start : at ≡ 0 = omega (arith, len, within) in
        let same : now.bytes ≡ r.bytes = empty_now ∙ sym none in
        let zero_fits : 0 ≤ length now.bytes = omega arith in
        let end : done_in_turn (cs ++ Creation bytes ∷ []) base ≡ found (put at bytes r.bytes) = one_more base cs (Creation bytes) ∙ (λ i. found (put (sym start i) bytes (same i))) in
        let k = after_write at bytes h in
        record {
          read = sym (ap shown end);
          allows = allows_last k base cs (Creation bytes) (allows_more h k (still_written h at bytes) base cs holds.allows)
              (record { sure = λ e. refl; absent = λ e. absurd (made_present h.standing e); left = subst (λ (n : ℕ). LeavesBytes h.bytes (Wrote n bytes ∷ h.since) (put 0 (half bytes) now.bytes)) (sym start) (put_front h.bytes h.since 0 (length bytes / 2) bytes now.bytes zero_fits fits.left) })
              (record { sure = λ e. refl; absent = λ e. absurd (made_present h.standing e); left = subst (λ (n : ℕ). LeavesBytes h.bytes (Wrote n bytes ∷ h.since) (put 0 bytes now.bytes)) (sym start) (put_bytes h.bytes h.since 0 bytes now.bytes zero_fits fits.left) });
          clean = λ e. let z : true ≡ false = sym (ap (λ (x : Found). x.there) end) ∙ e in absurd cc;
        }

  -- a write that fails
  pub not_written : (now.there ≡ false → now.bytes ≡ []) → (at : ℕ) (bytes : List ℕ) → HoldsFile (after_write at bytes h) r base cs
  not_written blank at bytes = record {
    read = holds.read;
    allows = allows_more h (after_write at bytes h) (still_written h at bytes) base cs holds.allows;
    clean = λ e. inr (blank e);
  }
