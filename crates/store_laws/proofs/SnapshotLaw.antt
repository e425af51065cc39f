-- The log while a snapshot is kept.
use Rattle.std.proofs.Common.{◌≡◌, inl, inr, ℕ, suc, ◌+◌, ◌-◌, ◌≤◌, ◌<◌, true, List, [], ◌∷◌, ◌++◌, length, take, drop, refl, sym, ap, ◌∙◌, subst, arith, append_assoc}
use Rattle.std.specs.Prelude.{◌==◌}
use Rattle.std.proofs.lemmas.Bool.{cases_Bool, cases_lt}
use Rattle.std.proofs.lemmas.List.{take-append-drop}
use Rattle.raft_spec.specs.Log.{Entry}
use Rattle.store_laws.specs.Store.{Log, Snap, put_batch, behind, nth_term, log_of, empty_log}
use Rattle.store_laws.specs.Settled.{Steady, fits, ends_before}
use Rattle.store_laws.specs.Snapshots.{Longer, Stays, part, nothing, Left, given, earlier, SnapshotLog}
use Rattle.store_laws.proofs.Logs.{put_within, put_past, put_before, behind_past, behind_has, behind_short, behind_other, kept_why, log_push, log_append, nth_take}
use Rattle.store_laws.proofs.SnapshotLogs.{longer_is, put_longer, left_end, nth_longer, ends_alike}

abbrev none_past : Snap → Log
none_past s = record { first = suc s.index; entries = [] }

module _ (t s : Snap) (lt : t.index < s.index) (L new : Log) (steady : Steady t L) (stays : Stays s (behind t L) new) where
  short_is : L.first + length L.entries ≤ t.index → behind t L ≡ none_past t
  short_is h = behind_short t L (omega arith) h

  same_behind : behind s L ≡ behind s (behind t L)
  same_behind = elim steady [
    | fits e ↦ ap (behind s) (sym e)
    | ends_before h ↦
        let k = short_is h in
        behind_short s L (omega arith) (omega arith) ∙ sym (ap (behind s) k ∙ behind_short s (none_past t) (omega arith) (omega arith))
  ]

  pub before_batch : Longer (behind s L) new
  before_batch = elim stays [
    | part e o keep ↦ subst (λ (x : Log). Longer x new) (sym (same_behind ∙ e)) o
    | nothing e n ↦ longer_is _ _ (same_behind ∙ e ∙ sym n)
  ]

  pub left_before : Left s (behind t L) new (behind s L)
  left_before = elim stays [
    | part e o keep ↦ earlier e (longer_is _ _ (sym (same_behind ∙ e)))
    | nothing e n ↦ given (same_behind ∙ e ∙ sym n)
  ]

  -- if the new log begins past the snapshot, its entry is the old log's
  old_term : behind s (behind t L) ≡ behind t L → Longer (behind t L) new → s.index < new.first → (F : Log) → F ≡ put_batch L new → F.first ≤ s.index → (nth_term F.entries (s.index - F.first) == s.term) ≡ true
  old_term e o past F is low = elim steady [
    | ends_before h ↦
        let k = short_is h in
        let y : behind s (none_past t) ≡ none_past t = ap (behind s) (sym k) ∙ e ∙ k in
        let z = (kept_why s (none_past t) (omega arith) y).0 in
        absurd (omega arith)
    | fits k ↦
        let eL : behind s L ≡ L = ap (behind s) (sym k) ∙ e ∙ k in
        let oL : Longer L new = subst (λ (x : Log). Longer x new) k o in
        let f = oL.first in let u = oL.upto in
        let w = put_within L new f u in
        let wf : F.first ≡ L.first = ap (λ (x : Log). x.first) (is ∙ w) in
        let why = kept_why s L (omega arith) eL in
        let lt2 = why.0 in
        (λ i. nth_term (is i).entries (s.index - (is i).first) == s.term)
        ∙ (λ i. nth_term (w i).entries (s.index - (w i).first) == s.term)
        ∙ ap (λ (x : ℕ). x == s.term) (nth_take (new.first - L.first) L.entries new.entries (s.index - L.first) (omega arith) (omega arith))
        ∙ why.1
  ]

  -- a kept log that stays after the snapshot is that of the files
  fit : behind s (behind t L) ≡ behind t L → behind t L ≡ L
  fit e = elim steady [
    | fits k ↦ k
    | ends_before h ↦
        let k = short_is h in
        let y : behind s (none_past t) ≡ none_past t = ap (behind s) (sym k) ∙ e ∙ k in
        let z = (kept_why s (none_past t) (omega arith) y).0 in
        absurd (omega arith)
  ]

  -- with the new batch: M is what is left of the log, the end of the whole one
  module _ (M : Log) (o : Longer M new) (whole : Longer (put_batch L new) M) where
    term : behind s (behind t L) ≡ behind t L → Longer (behind t L) new → behind s new ≡ new → M.first ≤ s.index → (nth_term M.entries (s.index - M.first) == s.term) ≡ true
    term e p keep h = elim (cases_lt s.index new.first) [
      | inl past ↦
          let f = whole.first in
          let low : (put_batch L new).first ≤ s.index = omega arith in
          ap (λ (x : ℕ). x == s.term) (nth_longer (put_batch L new) M whole s.index h) ∙ old_term e p past (put_batch L new) refl low
      | inr low ↦ ap (λ (x : ℕ). x == s.term) (sym (nth_longer M new o s.index low)) ∙ (kept_why s new low keep).1
    ]

    -- if a part of the kept log stays, so does all that is left
    part_stands : behind s (behind t L) ≡ behind t L → Longer (behind t L) new → behind s new ≡ new → behind s M ≡ M
    part_stands e p keep = elim (cases_lt s.index M.first) [
      | inl h ↦ behind_past s M h
      | inr h ↦ elim (cases_lt s.index (M.first + length M.entries)) [
        | inl k ↦ behind_has s M h k (term e p keep h)
        | inr k ↦
            let same = ends_alike M new o in
            let f : new.first ≤ s.index = omega arith in
            let z = (kept_why s new f keep).0 in
            absurd (omega arith)
      ]
    ]

    -- it is the end of the kept log
    part_ends : behind s (behind t L) ≡ behind t L → Longer (behind t L) new → Longer (behind t L) M
    part_ends e p =
        let k = fit e in
        let q : Longer L new = subst (λ (x : Log). Longer x new) k p in
        let w = put_within L new q.first q.upto in
        let es : take (new.first - L.first) L.entries ++ new.entries ≡ L.entries = ap (λ (x : List Entry). take (new.first - L.first) L.entries ++ x) q.entries ∙ take-append-drop (new.first - L.first) L.entries in
        let same : put_batch L new ≡ L = w ∙ (λ i. record { first = L.first; entries = es i }) in
        subst (λ (x : Log). Longer x M) (same ∙ sym k) whole

    -- a whole log that has the snapshot's entry is the kept one, which has it then
    old_has : behind s (behind t L) ≡ none_past s → new ≡ none_past s → (put_batch L new).first ≤ s.index → (nth_term (put_batch L new).entries (s.index - (put_batch L new).first) == s.term) ≡ true → ⊥
    old_has e n low q =
        let nf : new.first ≡ suc s.index = ap (λ (x : Log). x.first) n in
        elim (cases_lt new.first L.first) [
          | inl b ↦ let z : (put_batch L new).first ≡ new.first = ap (λ (x : Log). x.first) (put_before L new b) in omega arith
          | inr b ↦ elim (cases_lt (L.first + length L.entries) new.first) [
            | inl p ↦ let z : (put_batch L new).first ≡ new.first = ap (λ (x : Log). x.first) (put_past L new p) in omega arith
            | inr u ↦
                let w = put_within L new b u in
                let wf : (put_batch L new).first ≡ L.first = ap (λ (x : Log). x.first) w in
                let low_l : L.first ≤ s.index = omega arith in
                let reach : s.index < L.first + length L.entries = omega arith in
                let has : (nth_term L.entries (s.index - L.first) == s.term) ≡ true =
                ap (λ (x : ℕ). x == s.term) (sym (nth_take (new.first - L.first) L.entries new.entries (s.index - L.first) (omega arith) (omega arith)))
                ∙ (λ i. nth_term (sym w i).entries (s.index - (sym w i).first) == s.term) ∙ q in
                let same : L ≡ none_past s = sym (behind_has s L low_l reach has) ∙ same_behind ∙ e in
                let first : L.first ≡ suc s.index = ap (λ (x : Log). x.first) same in
                omega arith
          ]
        ]

    -- if nothing of the kept log stays, nothing is left
    nothing_left : behind s (behind t L) ≡ none_past s → new ≡ none_past s → behind s M ≡ new
    nothing_left e n =
        let nf : new.first ≡ suc s.index = ap (λ (x : Log). x.first) n in
        elim (cases_lt s.index M.first) [
          | inl h ↦
              let low = o.first in
              let f : M.first ≡ new.first = omega arith in
              let z : new.first - M.first ≡ 0 = omega arith in
              let es : M.entries ≡ new.entries = sym (o.entries ∙ ap (λ (k : ℕ). drop k M.entries) z) in
              behind_past s M h ∙ (λ i. record { first = f i; entries = es i })
          | inr h ↦ elim (cases_lt s.index (M.first + length M.entries)) [
            | inl k ↦ elim (cases_Bool (nth_term M.entries (s.index - M.first) == s.term)) [
              | inl q ↦
                  let f = whole.first in
                  absurd (old_has e n (omega arith) (ap (λ (x : ℕ). x == s.term) (sym (nth_longer (put_batch L new) M whole s.index h)) ∙ q))
              | inr q ↦ behind_other s M h q ∙ sym n
            ]
            | inr k ↦ behind_short s M h k ∙ sym n
          ]
        ]

    pub with_batch_kept : Longer (behind s M) new
    with_batch_kept = elim stays [
      | part e p keep ↦ subst (λ (x : Log). Longer x new) (sym (part_stands e p keep)) o
      | nothing e n ↦ longer_is _ _ (nothing_left e n)
    ]

    pub with_batch_left : Left s (behind t L) new (behind s M)
    with_batch_left = elim stays [
      | part e p keep ↦ earlier e (subst (Longer (behind t L)) (sym (part_stands e p keep)) (part_ends e p))
      | nothing e n ↦ given (nothing_left e n)
    ]

pub snapshot_log_holds : SnapshotLog
snapshot_log_holds t s lt gone left new steady stays =
    let L = log_of empty_log (gone ++ left) in
    let M = log_of empty_log (left ++ new ∷ []) in
    let is_m : M ≡ put_batch (log_of empty_log left) new = log_push empty_log left new in
    let o : Longer M new = subst (λ (x : Log). Longer x new) (sym is_m) (put_longer (log_of empty_log left) new) in
    let w : log_of (log_of empty_log gone) (left ++ new ∷ []) ≡ log_of empty_log ((gone ++ left) ++ new ∷ []) = sym (log_append empty_log gone (left ++ new ∷ [])) ∙ ap (log_of empty_log) (sym (append_assoc gone left (new ∷ []))) in
    let whole : Longer (log_of empty_log ((gone ++ left) ++ new ∷ [])) M = subst (λ (x : Log). Longer x M) w (left_end (log_of empty_log gone) new left) in
    let push : log_of empty_log ((gone ++ left) ++ new ∷ []) ≡ put_batch L new = log_push empty_log (gone ++ left) new in (
      before_batch t s lt L new steady stays,
      with_batch_kept t s lt L new steady stays M o (subst (λ (x : Log). Longer x M) push whole),
      left_before t s lt L new steady stays,
      with_batch_left t s lt L new steady stays M o (subst (λ (x : Log). Longer x M) push whole),
      whole,
    )
