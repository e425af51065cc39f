-- Servers that vote, and changes of the cluster pending.
use Rattle.std.proofs.Common.{◌≡◌, ℕ, Bool, true, false, cond, ◌&&◌, ◌||◌, List, [], ◌∷◌, map, refl, ap, ◌∙◌}
use Rattle.std.specs.Prelude.{◌==◌}
use Rattle.std.specs.List.{list_any, filter}
use Rattle.raft_spec.specs.Node.{Server, among, voters}
use Rattle.database_state.specs.declared.database.Database.{Database}
use Rattle.session_spec.specs.Limits.{change_in_flight, is_configuring}
use Rattle.session_spec.specs.Sessions.{Session as RuleSession}
use Rattle.session_table.specs.declared.session.Session.{Session}
use Rattle.session_table.specs.Table.{table_of, AreApart}
use Rattle.session_table.proofs.Found.{any_found, all_found}
use Rattle.session_requests.specs.Looking.{is_changing, votes_as}

one_voter : (votes : Bool) (s : Server) (rest : List Server) (id : ℕ) → list_any (λ (v : ℕ). v == id) (map (λ (t : Server). t.id) (cond votes (s ∷ rest) rest)) ≡ ((votes && (s.id == id)) || list_any (λ (v : ℕ). v == id) (map (λ (t : Server). t.id) rest))
one_voter true s rest id = refl
one_voter false s rest id = refl

pub among_voters : (servers : List Server) (id : ℕ) → among (voters servers) id ≡ list_any (votes_as id) servers
unfolding voters
among_voters [] id = refl
among_voters (s ∷ ss) id =
    one_voter (s.role == 0) s (filter (λ (t : Server). t.role == 0) ss) id ∙ ap (λ (b : Bool). ((s.role == 0) && (s.id == id)) || b) (among_voters ss id)

pub all_changing : (databases : List Database) (sessions : List Session) (weight : ℕ) → AreApart sessions → change_in_flight (table_of databases sessions weight) ≡ list_any is_changing sessions
unfolding change_in_flight table_of
all_changing databases sessions weight apart = any_found databases sessions sessions (λ (conn : ℕ) (r : RuleSession). is_configuring r.flight) (all_found databases sessions apart)
