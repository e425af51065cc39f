-- The ways that a query may take: after a barrier, at once, to a reader, or later than it was asked.
use Rattle.std.proofs.Common.{◌≡◌, ℕ, Bool, true, false, List, [], ◌∷◌, refl}
use Rattle.std.specs.Prelude.{◌&&◌, Option, Some, None}
use Rattle.std.proofs.lemmas.Bool.{cond_both}
use Rattle.sql_engine.specs.Replies.{Statement}
use Rattle.session_spec.specs.Causes.{NotLeader, LogFull}
use Rattle.session_spec.specs.Entries.{Other}
use Rattle.session_spec.specs.Engines.{Answer, Ending, no_answer, runs}
use Rattle.session_spec.specs.Limits.{log_full}
use Rattle.session_spec.specs.Machine.{Machine}
use Rattle.session_spec.specs.Requests.{with_later, flying, outside, run_in, job_of, was_cut, read_outside, read_in, waits_first, barrier_first, reads, on_later}
use Rattle.session_spec.specs.Sessions.{Querying, Lent, Transaction, Session, Gateway, View, Nothing, Turned, Refused, Proposes, Lends}

module _ (P : Turned → Type 0) (v : View) (m : Machine) (g : Gateway) (c : ℕ) where
  module _ (s : Session) (statement : Statement) where
    -- the query as it is lent
    abbrev pub lent : Turned
    lent = Lends (with_later s (Some (Lent statement))) (job_of m s statement)

    read_both : (end : Ending) → (v.readers ≡ true → P lent) → P (outside v m g c s (statement ∷ []) true end) → P (read_outside v m g c s statement end)
    read_both end a b = cond_both (v.readers && was_cut end) lent (outside v m g c s (statement ∷ []) true end) P (λ e. a (left v.readers (was_cut end) e)) (λ e. b)
      where
        left : (x y : Bool) → (x && y) ≡ true → x ≡ true
        left true y e = refl
        left false y e = e

    pub read_in_both : (o : Option Transaction) (answers : List Answer) → (o ≡ None → v.readers ≡ true → P lent) → P (run_in v m g c s o (statement ∷ []) true answers) → P (read_in v m g c s o statement answers)
    read_in_both None answers a b = read_both (runs (m.base s.database).image no_answer (statement ∷ []) answers) (a refl) b
    read_in_both (Some x) answers a b = b

    pub barrier_both : P (Refused LogFull) → P (Proposes (flying v s [] (Other ∷ []) 0 (Querying statement)) (Other ∷ []) Nothing) → P (barrier_first v s statement)
    barrier_both a b = cond_both (log_full v) (Refused LogFull) (Proposes (flying v s [] (Other ∷ []) 0 (Querying statement)) (Other ∷ []) Nothing) P (λ e. a) (λ e. b)

    pub reads_both : (answers : List Answer) → (waits_first s ≡ true → P (barrier_first v s statement)) → (waits_first s ≡ false → P (read_in v m g c s s.tx statement answers)) → P (reads v m g c s statement answers)
    reads_both answers a b = cond_both (waits_first s) (barrier_first v s statement) (read_in v m g c s s.tx statement answers) P a b

  pub later_both : (statement : Statement) (answers : List Answer) → P (Refused NotLeader) → (v.serving ≡ true → P (run_in v m g c (g.session c) (g.session c).tx (statement ∷ []) true answers)) → P (on_later v m g c statement answers)
  unfolding on_later
  later_both statement answers a b = cond_both v.serving (run_in v m g c (g.session c) (g.session c).tx (statement ∷ []) true answers) (Refused NotLeader) P b (λ e. a)
