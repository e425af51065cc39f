-- The term of a node only grows in a life.
use Rattle.std.proofs.Common.{◌≤◌, List, [], ◌∷◌, arith}
use Rattle.std.proofs.lemmas.Bool.{cond_both}
use Rattle.sql_engine.specs.declared.kind.EngineKind.{EngineKind}
use Rattle.sql_engine.specs.Meanings.{Meaning}
use Rattle.session_spec.specs.Events.{connects}
use Rattle.session_spec.specs.Sessions.{later_query, lent_query}
use Rattle.session_safety.specs.Nodes.{Node as Life}
use Rattle.session_safety.specs.Life.{Event as Doing, Connect, Hangup, Call, Resume, Done, Apply, Lose, Lead, Serve, Append, Follow}
use Rattle.session_safety.specs.Life.{happens as goes_on, run_from as lives_on, Fits, AllFit}
use Rattle.session_safety.proofs.Alones.{call_same, resumed_same, read_same}

module _ (mean : Meaning) (kind : EngineKind) where
  pub term_up : (w : Life) (e : Doing) → Fits mean kind w e → w.term ≤ (goes_on w e).term
  unfolding goes_on
  term_up w (Connect c) h = cond_both (connects w.gate c) _ w (λ (v : Life). w.term ≤ v.term) (λ e. omega arith) (λ e. omega arith)
  term_up w (Hangup c) h = omega arith
  term_up w (Call c standing r answers) h = let s = (call_same w c standing r answers).term in omega arith
  term_up w (Resume c standing answers) h = let s = (resumed_same w c standing answers (later_query (w.gate.session c).later)).term in omega arith
  term_up w (Done c answers) h = let s = (read_same w c answers (lent_query (w.gate.session c).later)).term in omega arith
  term_up w Apply h = omega arith
  term_up w (Lose t) h = omega (arith, h)
  term_up w (Lead t) h = omega (arith, h.1)
  term_up w Serve h = omega arith
  term_up w (Append contents) h = omega arith
  term_up w (Follow es) h = omega arith

  pub terms_up : (es : List Doing) (w : Life) → AllFit mean kind w es → w.term ≤ (lives_on w es).term
  terms_up [] w h = omega arith
  terms_up (e ∷ es) w h = let one = term_up w e h.0 in let rest = terms_up es (goes_on w e) h.1 in omega arith
