-- The moments of writing a file whole.
use Rattle.std.proofs.Common.{◌≡◌, inl, inr, ℕ, ◌≤◌, Bool, true, false, List, [], ◌∷◌, length, refl, sym, ap, ◌∙◌, subst, cond}
use Rattle.std.proofs.lemmas.Bool.{cond-true}
use Rattle.disk_model.specs.Disk.{Found, found, Held, Disk, Sure, Absent}
use Rattle.disk_model.specs.Calls.{WriteAt, Sync, SyncNames, Done, Until, Does, NamesSynced, Others, after_write, after_sync, after_names, made}
use Rattle.disk_model.specs.Rest.{Rest}
use Rattle.disk_model.specs.Writing.{replace_calls}
use Rattle.disk_model.proofs.Bytes.{put_whole}
use Rattle.disk_model.proofs.Elsewhere.{Elsewhere, else_same, else_on, else_names}

-- one file at a moment of the call
pub data Stage (h : Held) (enc : List ℕ) (k : Held) : Type 0 where
  same : k ≡ h → Stage h enc k
  written : k ≡ after_write 0 enc h → Stage h enc k
  synced : k.since ≡ [] → k.bytes ≡ enc → Stage h enc k

pub record Moment {N : Type 0} (n : N) (enc : List ℕ) (d e : Disk N) : Type 0 where
  pub elsewhere : Elsewhere n d e
  pub stage : Stage (d.held n) enc (e.held n)

pub record Ended {N : Type 0} (n : N) (enc : List ℕ) (d e : Disk N) : Type 0 where
  pub elsewhere : Elsewhere n d e
  pub rest : Rest (e.held n) (e.read n)
  pub read : e.read n ≡ found enc

module _ {N : Type 0} (n : N) (enc : List ℕ) (d : Disk N) (short : length (d.read n).bytes ≤ length enc) (rest : Rest (d.held n) (d.read n)) where
  pub record Synced (is_there : Bool) (e : Disk N) : Type 0 where
    pub elsewhere : Elsewhere n d e
    pub held : e.held n ≡ record { standing = made (d.held n).standing; bytes = enc; since = [] }
    pub read : e.read n ≡ found enc

  after_the_sync : (m e : Disk N) → Does (WriteAt n 0 enc) d m → Does (Sync n) m e → Synced true e
  after_the_sync m e w s =
      let read : m.read n ≡ found enc = w.read ∙ ap found (put_whole enc (d.read n).bytes short) in
      record {
        elsewhere = else_on n d m e (else_on n d d m (else_same n d) w.others) s.others;
        held = s.held ∙ (λ i. after_sync (read i) (w.held i));
        read = s.read ∙ read;
      }

  synced_moment : (e : Disk N) → Synced true e → Moment n enc d e
  synced_moment e s = record { elsewhere = s.elsewhere; stage = synced (ap (λ (h : Held). h.since) s.held) (ap (λ (h : Held). h.bytes) s.held) }

  names_held : (m e : Disk N) → Synced true m → NamesSynced m e → e.held n ≡ record { standing = Sure; bytes = enc; since = [] }
  names_held m e s o = o.held n ∙ (λ i. after_names (s.read i) (s.held i))

  names_moment : (m e : Disk N) → Synced true m → NamesSynced m e → Moment n enc d e
  names_moment m e s o = record {
    elsewhere = else_names n d m e s.elsewhere o;
    stage = synced (ap (λ (h : Held). h.since) (names_held m e s o)) (ap (λ (h : Held). h.bytes) (names_held m e s o));
  }

  to : (m e : Disk N) → e ≡ m → Moment n enc d m → Moment n enc d e
  to m e q at = subst (Moment n enc d) (sym q) at

  ends : (b : Bool) (m e : Disk N) → Synced true m → Until (cond b [] (SyncNames ∷ [])) m e → Moment n enc d e
  ends true m e s u = to m e u (synced_moment m s)
  ends false m e s u = elim u [
    | inl q ↦ to m e q (synced_moment m s)
    | inr (inl q) ↦ to m e q (synced_moment m s)
    | inr (inr (p, (o, q))) ↦ to p e q (names_moment m p s o)
  ]

  begun : (e : Disk N) → Others n d e → e.held n ≡ after_write 0 enc (d.held n) → Moment n enc d e
  begun e o h = record { elsewhere = else_on n d d e (else_same n d) o; stage = written h }

  -- the call up to any moment
  pub moments : (b : Bool) (e : Disk N) → Until (replace_calls n enc b) d e → Moment n enc d e
  moments b e u = elim u [
    | inl q ↦ to d e q (record { elsewhere = else_same n d; stage = same refl })
    | inr (inl broke) ↦ begun e broke.others broke.held
    | inr (inr (m, (w, inl q))) ↦ to m e q (begun m w.others w.held)
    | inr (inr (m, (w, inr (inl q)))) ↦ to m e q (begun m w.others w.held)
    | inr (inr (m, (w, inr (inr (p, (s, v)))))) ↦ ends b p e (after_the_sync m p w s) v
  ]

  ended : (e : Disk N) → Elsewhere n d e → e.held n ≡ record { standing = Sure; bytes = enc; since = [] } → e.read n ≡ found enc → Ended n enc d e
  ended e so held read = record {
    elsewhere = so;
    rest = subst (λ (f : Found). Rest (e.held n) f) (sym read) (subst (λ (h : Held). Rest h (found enc)) (sym held) (record { since = refl; bytes = refl; standing = refl; empty = λ z. absurd cc }));
    read = read;
  }

  finish : (b : Bool) (m e : Disk N) → (d.read n).there ≡ b → Synced true m → Done (cond b [] (SyncNames ∷ [])) m e → Ended n enc d e
  finish true m e t s q =
      let sure : (d.held n).standing ≡ Sure = rest.standing ∙ cond-true (d.read n).there Sure Absent t in
      let held : m.held n ≡ record { standing = Sure; bytes = enc; since = [] } = s.held ∙ (λ i. record { standing = made (sure i); bytes = enc; since = [] }) in
      subst (Ended n enc d) (sym q) (ended m s.elsewhere held s.read)
  finish false m e t s (p, (o, q)) =
      subst (Ended n enc d) (sym q) (ended p (else_names n d m p s.elsewhere o) (names_held m p s o) (o.read n ∙ s.read))

  -- the whole call
  pub whole_call : (e : Disk N) → Done (replace_calls n enc (d.read n).there) d e → Ended n enc d e
  whole_call e (m, (w, (p, (s, v)))) = finish (d.read n).there p e refl (after_the_sync m p w s) v
