-- Sessions of which all that was open or pending has ended.
use Rattle.std.proofs.Common.{◌≡◌, ℕ, zero, suc, ◌+◌, ◌≤◌, Bool, true, false, cond, List, [], ◌∷◌, ◌++◌, length, refl, sym, ap, ◌∙◌, arith, append-nil}
use Rattle.std.specs.Prelude.{Option, None}
use Rattle.std.specs.Option.{option_map}
use Rattle.std.specs.List.{filter}
use Rattle.std.proofs.lemmas.Bool.{cond_both, cond-true, cond-false}
use Rattle.sql_engine.specs.declared.kind.EngineKind.{EngineKind}
use Rattle.sql_engine.specs.Meanings.{Meaning}
use Rattle.session_spec.specs.Entries.{Entry as Line}
use Rattle.session_spec.specs.Events.{tidy, settled_by, on_applied, still_lent, loses, lost, on_lost}
use Rattle.session_spec.specs.Restarts.{shifted_tx, shifted_session, shifted}
use Rattle.session_spec.specs.Sessions.{Flight, Session, Gateway, absent}
use Rattle.session_spec.specs.Requests.{with_tx, with_flight, with_later, with_lost}
use Rattle.session_spec.proofs.RestartedEvents.{events_shift_hold}
use Rattle.session_safety.specs.Nodes.{Trail, Said, Node as Life}
use Rattle.session_safety.specs.Life.{Event as Doing, Apply, said_by, said_applied, happens, run_from as lives_on}
use Rattle.session_safety.specs.Answering.{handled_in}
use Rattle.session_safety.specs.Lending.{lent_in, answers_in}
use Rattle.session_safety.specs.Laws.{NoneComes}
use Rattle.cluster_model.specs.Clusters.{AllFitIn}
use Rattle.node_spec.specs.Steps.{calls}

pub lost_flight : (s : Session) → (lost s).flight ≡ None
lost_flight s = cond_both s.hung absent (with_lost (with_later (with_flight (with_tx s None) None) (still_lent s.later)) (loses s)) (λ (x : Session). x.flight ≡ None) (λ e. refl) (λ e. refl)

lost_tx : (s : Session) → (lost s).tx ≡ None
lost_tx s = cond_both s.hung absent (with_lost (with_later (with_flight (with_tx s None) None) (still_lent s.later)) (loses s)) (λ (x : Session). x.tx ≡ None) (λ e. refl) (λ e. refl)

pub filter_twice : {A : Type 0} (f : A → Bool) (xs : List A) → filter f (filter f xs) ≡ filter f xs
filter_twice {A} f [] = refl
filter_twice {A} f (x ∷ xs) = by (f x) refl (filter_twice f xs)
  where
    by : (b : Bool) → f x ≡ b → filter f (filter f xs) ≡ filter f xs → filter f (cond (f x) (x ∷ filter f xs) (filter f xs)) ≡ cond (f x) (x ∷ filter f xs) (filter f xs)
    by true e rest = ap (filter f) (cond-true (f x) (x ∷ filter f xs) (filter f xs) e) ∙ cond-true (f x) (x ∷ filter f (filter f xs)) (filter f (filter f xs)) e ∙ ap (λ (l : List A). x ∷ l) rest ∙ sym (cond-true (f x) (x ∷ filter f xs) (filter f xs) e)
    by false e rest = ap (filter f) (cond-false (f x) (x ∷ filter f xs) (filter f xs) e) ∙ rest ∙ sym (cond-false (f x) (x ∷ filter f xs) (filter f xs) e)

-- an entry that is applied changes nothing there
pub lost_settled : (index : ℕ) (g : Gateway) → on_applied index (on_lost g) ≡ on_lost g
unfolding on_applied on_lost tidy
lost_settled index g =
    (λ i. record { conns = filter (λ (conn : ℕ). (settled conn i).there) (filter (λ (conn : ℕ). (lost (g.session conn)).there) g.conns); session = λ conn. settled conn i; weight = g.weight })
    ∙ ap (λ (l : List ℕ). record { conns = l; session = λ (conn : ℕ). lost (g.session conn); weight = g.weight }) (filter_twice (λ (conn : ℕ). (lost (g.session conn)).there) g.conns)
  where
    settled : (conn : ℕ) → settled_by index (lost (g.session conn)) (lost (g.session conn)).flight ≡ lost (g.session conn)
    settled conn = ap (settled_by index (lost (g.session conn))) (lost_flight (g.session conn))

-- counts of commits are nothing to them
pub lost_unshifted : (lacks others : List ℕ → ℕ) (g : Gateway) → shifted lacks (on_lost g) ≡ shifted others (on_lost g)
unfolding on_lost tidy
lost_unshifted lacks others g = λ i. record { conns = filter (λ (conn : ℕ). (lost (g.session conn)).there) g.conns; session = λ conn. plain conn i; weight = g.weight }
  where
    plain : (conn : ℕ) → shifted_session lacks (lost (g.session conn)) ≡ shifted_session others (lost (g.session conn))
    plain conn =
        let s = lost (g.session conn) in
        ap (λ (o : Option _). record { there = s.there; hung = s.hung; database = s.database; barriers = s.barriers; later = s.later; statements = s.statements; tx = option_map (shifted_tx lacks) o; lost = s.lost; flight = s.flight }) (lost_tx (g.session conn))
        ∙ sym (ap (λ (o : Option _). record { there = s.there; hung = s.hung; database = s.database; barriers = s.barriers; later = s.later; statements = s.statements; tx = option_map (shifted_tx others) o; lost = s.lost; flight = s.flight }) (lost_tx (g.session conn)))

-- and nobody is answered
lost_silent : (index : ℕ) (trail : ℕ → Trail) (lacks : List ℕ → ℕ) (g : Gateway) (conns : List ℕ) → said_applied index trail (shifted lacks (on_lost g)).session conns ≡ []
unfolding on_lost tidy
lost_silent index trail lacks g [] = refl
lost_silent index trail lacks g (conn ∷ conns) =
    ap (λ (o : Option Flight). said_by index conn (trail conn) (lost (g.session conn)).hung o ++ said_applied index trail (shifted lacks (on_lost g)).session conns) (lost_flight (g.session conn)) ∙ lost_silent index trail lacks g conns

-- This many entries are applied, and all else stays.
pub record Climbs (m : Meaning) (kind : EngineKind) (logs : ℕ → List Line) (w : Life) (count : ℕ) : Type 0 where
  pub life : List Doing
  pub fits : AllFitIn m kind logs w life
  pub log : (lives_on w life).log ≡ w.log
  pub applied : (lives_on w life).applied ≡ w.applied + count
  pub term : (lives_on w life).term ≡ w.term
  pub leads : (lives_on w life).leads ≡ w.leads
  pub serving : (lives_on w life).serving ≡ w.serving
  pub gate : (lives_on w life).gate ≡ w.gate
  pub said : (lives_on w life).said ≡ w.said
  pub none : (conn : ℕ) → NoneComes conn life
  pub calls_none : (conn : ℕ) → calls conn life ≡ []
  pub handled : (conn : ℕ) → handled_in conn w life ≡ []
  pub lends : lent_in w life ≡ []
  pub uses : answers_in w life ≡ []

pub climbs : (m : Meaning) (kind : EngineKind) (logs : ℕ → List Line) (lacks : List ℕ → ℕ) (g : Gateway) (count : ℕ) (w : Life) → w.gate ≡ shifted lacks (on_lost g) → w.applied + count ≤ length w.log → Climbs m kind logs w count
unfolding happens
climbs m kind logs lacks g zero w gate short = record {
  life = [];
  fits = tt;
  log = refl;
  applied = omega arith;
  term = refl;
  leads = refl;
  serving = refl;
  gate = refl;
  said = refl;
  none = λ conn. tt;
  calls_none = λ conn. refl;
  handled = λ conn. refl;
  lends = refl;
  uses = refl;
}
climbs m kind logs lacks g (suc count) w gate short =
    let next : Life = happens w Apply in
    let gate_next : next.gate ≡ shifted lacks (on_lost g) = ap (on_applied (suc w.applied)) gate ∙ (events_shift_hold lacks (on_lost g)).applied (suc w.applied) ∙ ap (shifted lacks) (lost_settled (suc w.applied) g) in
    let quiet : said_applied (suc w.applied) w.trail w.gate.session w.gate.conns ≡ [] = ap (λ (z : Gateway). said_applied (suc w.applied) w.trail z.session z.conns) gate ∙ lost_silent (suc w.applied) w.trail lacks g (shifted lacks (on_lost g)).conns in
    let said_next : next.said ≡ w.said = ap (λ (l : List Said). w.said ++ l) quiet ∙ append-nil w.said in
    let r = climbs m kind logs lacks g count next gate_next (omega (arith, short)) in
    let more : (lives_on next r.life).applied ≡ suc w.applied + count = r.applied in
    record {
      life = Apply ∷ r.life;
      fits = (omega (arith, short), r.fits);
      log = r.log;
      applied = more ∙ omega arith;
      term = r.term;
      leads = r.leads;
      serving = r.serving;
      gate = r.gate ∙ gate_next ∙ sym gate;
      said = r.said ∙ said_next;
      none = λ conn. ((λ q. cc), r.none conn);
      calls_none = λ conn. r.calls_none conn;
      handled = λ conn. r.handled conn;
      lends = r.lends;
      uses = r.uses;
    }
