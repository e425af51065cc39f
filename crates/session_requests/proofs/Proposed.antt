-- The names of the databases that there are, with those that sessions' proposals are for.
use Rattle.std.proofs.Common.{◌≡◌, Bool, true, false, not, ◌&&◌, ℕ, ◌+◌, ◌<◌, ◌≤◌, List, [], ◌∷◌, ◌++◌, length, get_or, map, drop, sym, ap, ◌∙◌, refl}
use Rattle.std.specs.List.{AllByRecursion, flat_map}
use Rattle.std.proofs.lemmas.List.{at_drop_more, at_drop_all}
use Rattle.database_state.specs.declared.database.Database.{Database}
use Rattle.session_spec.specs.Sessions.{Session as RuleSession}
use Rattle.session_spec.specs.Limits.{opened_by, with_names, all_names}
use Rattle.std.specs.Prelude.{nat_le}
use Rattle.session_spec.specs.Machine.{machine_of, with_name, is_named}
use Rattle.database_state.specs.Machines.{names_of}
use Rattle.session_table.specs.declared.session.Session.{Session}
use Rattle.session_table.specs.Table.{session_at, table_of, AreApart}
use Rattle.session_table.proofs.Found.{IsFound, all_found}
use Rattle.session_requests.specs.Looking.{proposed_by}

-- what each connection's session opens is what each session opens
flat_found : (databases : List Database) (all sessions : List Session) → AllByRecursion (IsFound databases all) sessions
    → flat_map (λ (conn : ℕ). opened_by (session_at databases all conn).flight) (map (λ (s : Session). s.conn) sessions) ≡ flat_map proposed_by sessions
flat_found databases all [] found = refl
flat_found databases all (s ∷ ss) found =
    ap (λ (r : RuleSession). opened_by r.flight ++ flat_map (λ (conn : ℕ). opened_by (session_at databases all conn).flight) (map (λ (t : Session). t.conn) ss)) found.0
    ∙ ap (λ (ns : List (List ℕ)). proposed_by s ++ ns) (flat_found databases all ss found.1)

pub all_proposed : (databases : List Database) (sessions : List Session) (weight : ℕ) → AreApart sessions
    → all_names (machine_of databases) (table_of databases sessions weight) ≡ with_names (names_of databases) (flat_map proposed_by sessions)
unfolding all_names table_of
all_proposed databases sessions weight apart = ap (with_names (names_of databases)) (flat_found databases sessions sessions (all_found databases sessions apart))

with_both : (names first second : List (List ℕ)) → with_names names (first ++ second) ≡ with_names (with_names names first) second
with_both names [] second = refl
with_both names (n ∷ ns) second = with_both (with_name n names) ns second

-- ---- a loop over the sessions

pub one_more : (sessions : List Session) (i : ℕ) (s : Session) (names now : List (List ℕ)) (whole : List (List ℕ)) → i < length sessions → s ≡ get_or sessions i s
    → with_names names (flat_map proposed_by (drop i sessions)) ≡ whole → now ≡ with_names names (proposed_by s) → with_names now (flat_map proposed_by (drop (i + 1) sessions)) ≡ whole
one_more sessions i s names now whole lt is so_far step =
    ap (λ (ns : List (List ℕ)). with_names ns (flat_map proposed_by (drop (i + 1) sessions))) step
    ∙ sym (with_both names (proposed_by s) (flat_map proposed_by (drop (i + 1) sessions)))
    ∙ ap (λ (t : Session). with_names names (proposed_by t ++ flat_map proposed_by (drop (i + 1) sessions))) is
    ∙ sym (at_drop_more (λ (ss : List Session). with_names names (flat_map proposed_by ss)) sessions i s lt)
    ∙ so_far

pub at_end : (sessions : List Session) (i : ℕ) (names : List (List ℕ)) (whole : List (List ℕ)) → length sessions ≤ i
    → with_names names (flat_map proposed_by (drop i sessions)) ≡ whole → names ≡ whole
at_end sessions i names whole past so_far = sym (at_drop_all (λ (ss : List Session). with_names names (flat_map proposed_by ss)) sessions i past) ∙ so_far

-- ---- the limit on their number

pub is_counted : (names all : List (List ℕ)) (name : List ℕ) → names ≡ all → is_named names name ≡ true → false ≡ (not (is_named all name) && nat_le 16 (length all))
is_counted names all name e there = ap (λ (b : Bool). not b && nat_le 16 (length all)) (sym there ∙ ap (λ (ns : List (List ℕ)). is_named ns name) e)

pub is_beside : (names all : List (List ℕ)) (name : List ℕ) → names ≡ all → is_named names name ≡ false → nat_le 16 (length names) ≡ (not (is_named all name) && nat_le 16 (length all))
is_beside names all name e there =
    ap (λ (ns : List (List ℕ)). nat_le 16 (length ns)) e
    ∙ ap (λ (b : Bool). not b && nat_le 16 (length all)) (sym there ∙ ap (λ (ns : List (List ℕ)). is_named ns name) e)
