-- The votes of one node: term, vote and grants alone, and what each call of its votes makes of them.
use Rattle.std.specs.Prelude.{ℕ, suc, Bool, cond, not, ◌&&◌, nat_lt, List, [], ◌∷◌}
use Rattle.raft_spec.specs.Log.{LogEnd}
use Rattle.raft_spec.specs.Node.{among, majority}
use Rattle.raft_spec.specs.Elections.{may_grant, grants_with}

-- A node's id, its term, to whom it gave its vote in that term (0 for no node), and whose votes it got.
pub record Votes : Type 0 where
  pub id : ℕ
  pub term : ℕ
  pub vote : ℕ
  pub grants : List ℕ

-- Who hears of a greater term takes it, with no vote.
abbrev pub after_term : Votes → ℕ → Votes
after_term v t = cond (nat_lt v.term t) (record v { term = t; vote = 0; grants = [] }) v

-- A timeout is the next term with a vote for itself; at the last term, 4,294,967,295, or past it nothing changes.
abbrev pub after_timeout : Votes → Votes
after_timeout v = cond (nat_lt v.term 4294967295) (record v { term = suc v.term; vote = v.id; grants = v.id ∷ [] }) v

-- A request gets the vote where its term isn't below the own one, no other node has the vote of that term, and the asker's log is at least as up to date.
abbrev pub grants_request : Votes → ℕ → ℕ → LogEnd → LogEnd → Bool
grants_request v from t last own = not (nat_lt t v.term) && may_grant (after_term v t).vote from last own

-- What a request leaves: a greater term is taken, and a granted vote is noted.
abbrev pub after_request : Votes → ℕ → ℕ → LogEnd → LogEnd → Votes
after_request v from t last own = cond (grants_request v from t last own) (record (after_term v t) { vote = from }) (after_term v t)

-- One grant more: it counts once, and only of a voter.
abbrev pub after_grant : Votes → ℕ → List ℕ → Votes
after_grant v from ids = record v { grants = grants_with ids v.grants from }

-- With it a majority of the voters has granted.
abbrev pub wins_with : Votes → ℕ → List ℕ → Bool
wins_with v from ids = majority ids (among (after_grant v from ids).grants)
