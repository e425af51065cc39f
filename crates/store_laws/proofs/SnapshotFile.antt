-- The moments of writing a snapshot's file.
use Rattle.std.proofs.Common.{◌≡◌, ◌⊎◌, inl, inr, ⊎_elim, ℕ, ◌≤◌, true, false, List, [], length, take, refl, sym, ap, ◌∙◌, subst, cond, arith}
use Rattle.std.proofs.lemmas.Bool.{cases_Bool, cond-true, cond-false}
use Rattle.disk_model.specs.Disk.{Found, found, Change, Held, Sure}
use Rattle.disk_model.specs.Calls.{WriteAt, CutTo, Sync, Done, Until, Does, NamesSynced, Others, after_write, after_cut, after_sync, after_names}
use Rattle.disk_model.specs.Rest.{Rest}
use Rattle.disk_model.specs.Genuine.{WasWritten}
use Rattle.disk_model.specs.Writing.{replace_calls}
use Rattle.store_laws.specs.Names.{Name, NodeDisk, NodeCall}
use Rattle.store_laws.specs.Snapshots.{snapshot_calls}
use Rattle.disk_model.proofs.Bytes.{put_whole}
use Rattle.disk_model.proofs.Elsewhere.{Elsewhere, else_same, else_on, else_names}

-- what the disk holds of the file is what it held or the new bytes, and nothing else was written since
pub record SnapStage (h : Held) (enc : List ℕ) (k : Held) : Type 0 where
  pub bytes : (k.bytes ≡ h.bytes) ⊎ (k.bytes ≡ enc)
  pub wrote : (x : List ℕ) → WasWritten k.since 0 x → take (length x) enc ≡ x

pub record SnapMoment (n : Name) (enc : List ℕ) (d e : NodeDisk) : Type 0 where
  pub elsewhere : Elsewhere n d e
  pub stage : SnapStage (d.held n) enc (e.held n)

pub record SnapEnded (n : Name) (enc : List ℕ) (d e : NodeDisk) : Type 0 where
  pub elsewhere : Elsewhere n d e
  pub rest : Rest (e.held n) (e.read n)
  pub read : e.read n ≡ found enc

module _ (n : Name) (enc : List ℕ) (d : NodeDisk) (rest : Rest (d.held n) (d.read n)) where
  -- the file is there no more, or empty, and the write may begin
  record Emptied (c : NodeDisk) : Type 0 where
    elsewhere : Elsewhere n d c
    bytes : (c.held n).bytes ≡ (d.held n).bytes
    unwritten : (x : List ℕ) → WasWritten (c.held n).since 0 x → ⊥
    empty : (c.read n).bytes ≡ []

  to : (m e : NodeDisk) → e ≡ m → SnapMoment n enc d m → SnapMoment n enc d e
  to m e q at = subst (SnapMoment n enc d) (sym q) at

  emptied_moment : (c : NodeDisk) → Emptied c → SnapMoment n enc d c
  emptied_moment c r = record { elsewhere = r.elsewhere; stage = record { bytes = inl r.bytes; wrote = λ x w. absurd (r.unwritten x w) } }

  written : (c e : NodeDisk) → Emptied c → Others n c e → e.held n ≡ after_write 0 enc (c.held n) → SnapMoment n enc d e
  written c e r o q = record {
    elsewhere = else_on n d c e r.elsewhere o;
    stage = record {
      bytes = inl (ap (λ (h : Held). h.bytes) q ∙ r.bytes);
      wrote = λ x w. ⊎_elim (λ p. p.1) (λ v. absurd (r.unwritten x v)) (subst (λ (h : Held). WasWritten h.since 0 x) q w);
    };
  }

  record Synced (e : NodeDisk) : Type 0 where
    elsewhere : Elsewhere n d e
    bytes : (e.held n).bytes ≡ enc
    since : (e.held n).since ≡ []
    read : e.read n ≡ found enc

  synced : (c m e : NodeDisk) → Emptied c → Does (WriteAt n 0 enc) c m → Does (Sync n) m e → Synced e
  synced c m e r w s =
      let short : length (c.read n).bytes ≤ length enc = omega (arith, ap length r.empty) in
      let read : m.read n ≡ found enc = w.read ∙ ap found (put_whole enc (c.read n).bytes short) in
      let held : e.held n ≡ record { standing = (m.held n).standing; bytes = enc; since = [] } = s.held ∙ ap (λ (x : Found). after_sync x (m.held n)) read in
      record {
        elsewhere = else_on n d m e (else_on n d c m r.elsewhere w.others) s.others;
        bytes = ap (λ (h : Held). h.bytes) held;
        since = ap (λ (h : Held). h.since) held;
        read = s.read ∙ read;
      }

  synced_moment : (e : NodeDisk) → Synced e → SnapMoment n enc d e
  synced_moment e s = record { elsewhere = s.elsewhere; stage = record { bytes = inr s.bytes; wrote = λ x w. absurd (subst (λ (c : List Change). WasWritten c 0 x) s.since w) } }

  named : (m e : NodeDisk) → Synced m → NamesSynced m e → SnapEnded n enc d e
  named m e s o =
      let read : e.read n ≡ found enc = o.read n ∙ s.read in
      let held : e.held n ≡ record { standing = Sure; bytes = (m.held n).bytes; since = (m.held n).since } = o.held n ∙ ap (λ (x : Found). after_names x (m.held n)) s.read in
      record {
        elsewhere = else_names n d m e s.elsewhere o;
        rest = subst (λ (f : Found). Rest (e.held n) f) (sym read) (subst (λ (h : Held). Rest h (found enc)) (sym held) (record { since = s.since; bytes = s.bytes; standing = refl; empty = λ z. absurd cc }));
        read = read;
      }

  ended_moment : (e : NodeDisk) → SnapEnded n enc d e → SnapMoment n enc d e
  ended_moment e z =
      let h : (e.held n).bytes ≡ enc = z.rest.bytes ∙ ap (λ (x : Found). x.bytes) z.read in
      record { elsewhere = z.elsewhere; stage = record { bytes = inr h; wrote = λ x w. absurd (subst (λ (c : List Change). WasWritten c 0 x) z.rest.since w) } }

  writing : (c e : NodeDisk) → Emptied c → Until (replace_calls n enc false) c e → SnapMoment n enc d e
  writing c e r u = elim u [
    | inl q ↦ to c e q (emptied_moment c r)
    | inr (inl broke) ↦ written c e r broke.others broke.held
    | inr (inr (m, (w, inl q))) ↦ to m e q (written c m r w.others w.held)
    | inr (inr (m, (w, inr (inl q)))) ↦ to m e q (written c m r w.others w.held)
    | inr (inr (m, (w, inr (inr (p, (s, inl q)))))) ↦ to p e q (synced_moment p (synced c m p r w s))
    | inr (inr (m, (w, inr (inr (p, (s, inr (inl q))))))) ↦ to p e q (synced_moment p (synced c m p r w s))
    | inr (inr (m, (w, inr (inr (p, (s, inr (inr (z, (o, q))))))))) ↦ to z e q (ended_moment z (named p z (synced c m p r w s) o))
  ]

  wrote_all : (c e : NodeDisk) → Emptied c → Done (replace_calls n enc false) c e → SnapEnded n enc d e
  wrote_all c e r (m, (w, (p, (s, (z, (o, q)))))) = subst (SnapEnded n enc d) (sym q) (named p z (synced c m p r w s) o)

  none_written : (x : List ℕ) → WasWritten (d.held n).since 0 x → ⊥
  none_written x w = subst (λ (c : List Change). WasWritten c 0 x) rest.since w

  absent : (d.read n).there ≡ false → Emptied d
  absent t = record { elsewhere = else_same n d; bytes = refl; unwritten = none_written; empty = rest.empty t }

  start : SnapMoment n enc d d
  start = record { elsewhere = else_same n d; stage = record { bytes = inl refl; wrote = λ x w. absurd (none_written x w) } }

  cut_held : (h : Held) → (d.read n).there ≡ true → h ≡ cond (d.read n).there (after_cut 0 (d.held n)) (d.held n) → h ≡ after_cut 0 (d.held n)
  cut_held h t q = q ∙ cond-true _ _ _ t

  cut_broke : (e : NodeDisk) → Others n d e → e.held n ≡ after_cut 0 (d.held n) → SnapMoment n enc d e
  cut_broke e o q = record {
    elsewhere = else_on n d d e (else_same n d) o;
    stage = record { bytes = inl (ap (λ (h : Held). h.bytes) q); wrote = λ x w. absurd (none_written x (subst (λ (h : Held). WasWritten h.since 0 x) q w)) };
  }

  cut_done : (m : NodeDisk) → (d.read n).there ≡ true → Does (CutTo n 0) d m → Emptied m
  cut_done m t c =
      let q = cut_held (m.held n) t c.held in
      record {
        elsewhere = else_on n d d m (else_same n d) c.others;
        bytes = ap (λ (h : Held). h.bytes) q;
        unwritten = λ x w. none_written x (subst (λ (h : Held). WasWritten h.since 0 x) q w);
        empty = ap (λ (x : Found). x.bytes) c.read;
      }

  pub file_moments : (e : NodeDisk) → Until (snapshot_calls n (d.read n).there enc) d e → SnapMoment n enc d e
  file_moments e u = elim (cases_Bool (d.read n).there) [
    | inr t ↦ writing d e (absent t) (subst (λ (cs : List NodeCall). Until cs d e) (cond-false _ _ _ t) u)
    | inl t ↦ elim (subst (λ (cs : List NodeCall). Until cs d e) (cond-true _ _ _ t) u) [
      | inl q ↦ to d e q start
      | inr (inl broke) ↦ cut_broke e broke.others (cut_held (e.held n) t broke.held)
      | inr (inr (m, (c, v))) ↦ writing m e (cut_done m t c) v
    ]
  ]

  pub file_ended : (e : NodeDisk) → Done (snapshot_calls n (d.read n).there enc) d e → SnapEnded n enc d e
  file_ended e u = elim (cases_Bool (d.read n).there) [
    | inr t ↦ wrote_all d e (absent t) (subst (λ (cs : List NodeCall). Done cs d e) (cond-false _ _ _ t) u)
    | inl t ↦
        let v = subst (λ (cs : List NodeCall). Done cs d e) (cond-true _ _ _ t) u in
        wrote_all v.0 e (cut_done v.0 t v.1.0) v.1.1
  ]
