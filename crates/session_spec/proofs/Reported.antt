-- A transaction that is lost with leadership is reported.
use Rattle.std.proofs.Common.{◌≡◌, ◌⊎◌, inl, inr, ⊎_elim, ℕ, Bool, true, false, true≢false, cond, List, Option, Some, None, refl, sym, ap, ◌∙◌}
use Rattle.std.specs.Prelude.{◌&&◌, ◌||◌, not}
use Rattle.wire_msgs.specs.declared.request.Request.{Request}
use Rattle.wire_msgs.specs.declared.request.Request.TheVariants as requests
use Rattle.wire_msgs.specs.declared.response.Response.{Response}
use Rattle.wire_msgs.specs.declared.response.Response.TheVariants as responses
use Rattle.session_spec.specs.Causes.{NotLeader, failure}
use Rattle.session_spec.specs.Machine.{Machine}
use Rattle.session_spec.specs.Engines.{Answer}
use Rattle.session_spec.specs.Sessions.{Reply, Single, Session, Gateway, View, absent, in_tx}
use Rattle.session_spec.specs.Asking.{Asked, Never, Forgets, asks_lost, unless_lost, asked_unless_lost, asked_by, asked}
use Rattle.session_spec.specs.Allowed.{EndsLost}
use Rattle.session_spec.specs.Requests.{with_tx, with_flight, with_later, with_lost, does, on_request, handed_for, handed}
use Rattle.session_spec.specs.Events.{tidy, still_lent, is_committing, loses, lost, on_lost}
use Rattle.session_spec.specs.Laws.{has_statement, ReportsLoss, LossReported, LossesAreReported, TakesTransaction, LossesAreMarked}
use Rattle.session_spec.proofs.Losing.{OrNone, lost_so}

abbrev IsThere : Option Asked → Type 0
IsThere None = ⊥
IsThere (Some asked) = Unit {0}

there : (s : Session) (r : Request) → has_statement r ≡ true → IsThere (asks_lost s r)
there s requests.Leader h = true≢false (sym h)
there s (requests.Client id) h = true≢false (sym h)
there s (requests.Open name flags vfs) h = true≢false (sym h)
there s (requests.Prepare db sql wide) h = tt
there s (requests.Exec db id params wide) h = tt
there s (requests.Query db id params wide) h = tt
there s (requests.Finalize db id) h = true≢false (sym h)
there s (requests.ExecSql db sql params wide) h = tt
there s (requests.QuerySql db sql params wide) h = tt
there s (requests.Interrupt db) h = true≢false (sym h)
there s (requests.Connect id address) h = true≢false (sym h)
there s (requests.Add id address) h = true≢false (sym h)
there s (requests.Assign id role) h = true≢false (sym h)
there s (requests.Remove id) h = true≢false (sym h)
there s (requests.Dump name) h = true≢false (sym h)
there s (requests.Cluster format) h = true≢false (sym h)
there s (requests.Transfer id) h = true≢false (sym h)
there s (requests.Describe format) h = true≢false (sym h)
there s (requests.Weight weight) h = true≢false (sym h)

lost_here : (P : Asked → Type 0) (b : Bool) (o : Option Asked) (asked : Asked) → b ≡ true → IsThere o → OrNone P o → P (unless_lost b o asked)
lost_here P false o asked e i h = absurd (true≢false (sym e))
lost_here P true None asked e i h = absurd i
lost_here P true (Some lost) asked e i h = h

-- what is asked for by a request with a statement while the transaction is lost
asked_lost : (P : Asked → Type 0) (v : View) (m : Machine) (g : Gateway) (conn : ℕ) (s : Session) (r : Request) → s.lost ≡ true → has_statement r ≡ true → P (Never NotLeader)
    → ((response : Response) → EndsLost s response → P (Forgets response)) → P (asked_by v m g conn s r)
unfolding asked_by
asked_lost P v m g conn s r e has never ends =
    lost_here P s.lost (asks_lost s r) (asked_unless_lost v m g conn s r) e (there s r has)
    (lost_so P s never (ends (failure NotLeader) (record { lost = e; told = inl refl })) (ends (responses.Result 0 0) (record { lost = e; told = inr refl })) r)

abbrev Reports : View → Machine → Gateway → ℕ → List Answer → Asked → Type 0
Reports v m g conn answers x = ReportsLoss (g.session conn) (does v m g conn (g.session conn) x answers) × (handed_for m (g.session conn) x ≡ None)

forgets_reports : (v : View) (m : Machine) (g : Gateway) (conn : ℕ) (answers : List Answer) (response : Response) → EndsLost (g.session conn) response → Reports v m g conn answers (Forgets response)
unfolding does
forgets_reports v m g conn answers response ends =
    ((refl, refl, ⊎_elim (λ (e : response ≡ failure NotLeader). inl (ap (λ (r : Response). Single r) e)) (λ (e : response ≡ responses.Result 0 0). inr (ap (λ (r : Response). Single r) e)) ends.told), refl)

never_reports : (v : View) (m : Machine) (g : Gateway) (conn : ℕ) (answers : List Answer) → Reports v m g conn answers (Never NotLeader)
unfolding does
never_reports v m g conn answers = (refl, refl)

pub losses_reported : LossesAreReported
unfolding on_request handed
losses_reported v m g conn r answers e has =
    let both : Reports v m g conn answers (asked v m g conn r)
    = asked_lost (Reports v m g conn answers) v m g conn (g.session conn) r e has (never_reports v m g conn answers) (forgets_reports v m g conn answers) in
    record { reports = both.0; handed = both.1 }

-- ---- where leadership is lost

opened : (a b c : Bool) → b ≡ true → c ≡ false → (a || (b && not c)) ≡ true
opened true b c p q = refl
opened false true false p q = refl
opened false true true p q = absurd (true≢false q)
opened false false c p q = absurd (true≢false (sym p))

stays : (a b : Bool) → a ≡ true → (a || b) ≡ true
stays true b p = refl
stays false b p = absurd (true≢false (sym p))

marked : (s : Session) → s.hung ≡ false → (lost s).lost ≡ loses s
marked s h = ap (λ (b : Bool). (cond b absent (with_lost (with_later (with_flight (with_tx s None) None) (still_lent s.later)) (loses s))).lost) h

pub losses_marked : LossesAreMarked
unfolding on_lost tidy
losses_marked g conn h =
    let s = g.session conn in
    record {
      opened = λ p q. marked s h ∙ opened s.lost (in_tx s) (is_committing s.flight) p q;
      stays = λ p. marked s h ∙ stays s.lost (in_tx s && not (is_committing s.flight)) p;
    }
