-- What is left of each session is what is left of the table.
use Rattle.std.proofs.Common.{◌≡◌, ◌≢◌, ℕ, cond, List, [], ◌∷◌, ◌++◌, map, inl, inr, refl, sym, ap, subst, ◌∙◌}
use Rattle.std.specs.Prelude.{◌==◌}
use Rattle.std.specs.List.{AllByRecursion, flat_map, filter}
use Rattle.std.proofs.lemmas.Bool.{cases_Bool, eqb-true, eqb-false}
use Rattle.database_state.specs.declared.database.Database.{Database}
use Rattle.session_spec.specs.Sessions.{Session as RuleSession, absent}
use Rattle.session_spec.specs.Events.{tidy}
use Rattle.session_table.specs.declared.session.Session.{Session}
use Rattle.session_table.specs.Table.{session_of, session_at, table_of, AreApart}
use Rattle.session_table.proofs.Found.{here, elsewhere, IsFound, all_found}

pub none_there : (databases : List Database) (ss : List Session) (conn : ℕ) → AllByRecursion (λ (t : Session). conn ≢ t.conn) ss → session_at databases ss conn ≡ absent
unfolding session_at
none_there databases [] conn none = refl
none_there databases (s ∷ ss) conn none = elsewhere databases s ss conn (λ (e : s.conn ≡ conn). none.0 (sym e)) ∙ none_there databases ss conn none.1

pub its_session : (databases : List Database) (s : Session) (ss : List Session) (conn : ℕ) → s.conn ≡ conn → session_at databases (s ∷ ss) conn ≡ session_of databases s
its_session databases s ss conn e = subst (λ (n : ℕ). session_at databases (s ∷ ss) n ≡ session_of databases s) e (here databases s ss)

-- nothing is left of a session, if it is to be absent; or one of its connection, which is what it is to be
abbrev pub Fits : List Database → ℕ → RuleSession → List Session → Type 0
Fits new conn to [] = to ≡ absent
Fits new conn to (t ∷ []) = (t.conn ≡ conn) × (session_of new t ≡ to)
Fits new conn to (t ∷ u ∷ more) = ⊥

conns_one : (new : List Database) (own : ℕ) (to : RuleSession) (left rest : List Session) (conns : List ℕ) → map (λ (s : Session). s.conn) rest ≡ conns → Fits new own to left
    → map (λ (s : Session). s.conn) (left ++ rest) ≡ cond to.there (own ∷ conns) conns
conns_one new own to [] rest conns same fits = same ∙ sym (ap (λ (r : RuleSession). cond r.there (own ∷ conns) conns) fits)
conns_one new own to (t ∷ []) rest conns same fits =
    ap (λ (n : ℕ). n ∷ map (λ (s : Session). s.conn) rest) fits.0 ∙ ap (λ (ns : List ℕ). own ∷ ns) same
    ∙ ap (λ (r : RuleSession). cond r.there (own ∷ conns) conns) fits.1
conns_one new own to (t ∷ u ∷ more) rest conns same fits = absurd fits

at_own : (new : List Database) (conn : ℕ) (to : RuleSession) (left rest : List Session) → session_at new rest conn ≡ absent → Fits new conn to left → session_at new (left ++ rest) conn ≡ to
at_own new conn to [] rest none fits = none ∙ sym fits
at_own new conn to (t ∷ []) rest none fits = its_session new t rest conn fits.0 ∙ fits.1
at_own new conn to (t ∷ u ∷ more) rest none fits = absurd fits

at_other : (new : List Database) (own conn : ℕ) (to : RuleSession) (left rest : List Session) → own ≢ conn → Fits new own to left → session_at new (left ++ rest) conn ≡ session_at new rest conn
at_other new own conn to [] rest other fits = refl
at_other new own conn to (t ∷ []) rest other fits = elsewhere new t rest conn (λ (e : t.conn ≡ conn). other (sym fits.0 ∙ e))
at_other new own conn to (t ∷ u ∷ more) rest other fits = absurd fits

-- what is left of a list, by what is left of each
module _ (old new : List Database) (rule : ℕ → RuleSession → RuleSession) (keep : Session → List Session) where
  abbrev pub Sweeps : Session → Type 0
  Sweeps s = Fits new s.conn (rule s.conn (session_of old s)) (keep s)

  swept_conns : (all ss : List Session) → AllByRecursion (IsFound old all) ss → AllByRecursion Sweeps ss
      → map (λ (s : Session). s.conn) (flat_map keep ss) ≡ filter (λ (conn : ℕ). (rule conn (session_at old all conn)).there) (map (λ (s : Session). s.conn) ss)
  swept_conns all [] found sweeps = refl
  swept_conns all (s ∷ ss) found sweeps =
      let others : List ℕ = filter (λ (conn : ℕ). (rule conn (session_at old all conn)).there) (map (λ (t : Session). t.conn) ss) in
      conns_one new s.conn (rule s.conn (session_of old s)) (keep s) (flat_map keep ss) others (swept_conns all ss found.1 sweeps.1) sweeps.0
      ∙ sym (ap (λ (r : RuleSession). cond (rule s.conn r).there (s.conn ∷ others) others) found.0)

  swept_session : (none : (conn : ℕ) → rule conn absent ≡ absent) (ss : List Session) (conn : ℕ) → AreApart ss → AllByRecursion Sweeps ss
      → session_at new (flat_map keep ss) conn ≡ rule conn (session_at old ss conn)
  unfolding session_at
  swept_session none [] conn apart sweeps = sym (none conn)
  swept_session none (s ∷ ss) conn apart sweeps = elim (cases_Bool (s.conn == conn)) [
    | inl own ↦
        let e : s.conn ≡ conn = eqb-true s.conn conn own in
        let fits : Fits new conn (rule conn (session_of old s)) (keep s) = subst (λ (n : ℕ). Fits new n (rule n (session_of old s)) (keep s)) e sweeps.0 in
        let gone : session_at old ss conn ≡ absent = subst (λ (n : ℕ). session_at old ss n ≡ absent) e (none_there old ss s.conn apart.0) in
        let rest : session_at new (flat_map keep ss) conn ≡ absent = swept_session none ss conn apart.1 sweeps.1 ∙ ap (rule conn) gone ∙ none conn in
        at_own new conn (rule conn (session_of old s)) (keep s) (flat_map keep ss) rest fits ∙ sym (ap (rule conn) (its_session old s ss conn e))
    | inr other ↦
        let differs : s.conn ≢ conn = eqb-false s.conn conn other in
        at_other new s.conn conn (rule s.conn (session_of old s)) (keep s) (flat_map keep ss) differs sweeps.0
        ∙ swept_session none ss conn apart.1 sweeps.1
        ∙ sym (ap (rule conn) (elsewhere old s ss conn differs))
  ]

  pub swept_table : (none : (conn : ℕ) → rule conn absent ≡ absent) (ss : List Session) (weight : ℕ) → AreApart ss → AllByRecursion Sweeps ss
      → table_of new (flat_map keep ss) weight ≡ tidy (table_of old ss weight) (λ (conn : ℕ). rule conn (session_at old ss conn))
  unfolding tidy table_of
  swept_table none ss weight apart sweeps = λ i. record {
    conns = swept_conns ss ss (all_found old ss apart) sweeps i;
    session = λ (conn : ℕ). swept_session none ss conn apart sweeps i;
    weight = weight;
  }
