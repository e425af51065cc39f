-- A request for a vote in the node's own term.
use Rattle.std.proofs.Common.{◌≡◌, ℕ, ◌<◌, refl, ap, ◌∙◌, arith}
use Rattle.std.specs.Prelude.{Bool, true, false, cond, not, ◌&&◌, nat_lt, []}
use Rattle.std.proofs.lemmas.Bool.{cond-false, ltb-true}
use Rattle.raft_spec.specs.Log.{LogEnd}
use Rattle.raft_spec.specs.Elections.{may_grant}
use Rattle.raft_spec.specs.Votes.{Votes, after_term, grants_request, after_request}
use Rattle.raft_spec.specs.NodeValues.{NodeValue}

not_below : (t : ℕ) → nat_lt t t ≡ false
not_below t = at (nat_lt t t) (λ e. let lt : t < t = ltb-true t t e in omega arith)
  where
    at : (b : Bool) → (b ≡ true → ⊥) → b ≡ false
    at true f = absurd (f refl)
    at false f = refl

term_stays : (v : Votes) → after_term v v.term ≡ v
term_stays v = cond-false (nat_lt v.term v.term) (record v { term = v.term; vote = 0; grants = [] }) v (not_below v.term)

pub grants_now : (v : Votes) (from : ℕ) (last own : LogEnd) → grants_request v from v.term last own ≡ may_grant v.vote from last own
grants_now v from last own = ap (λ b. not b && may_grant (after_term v v.term).vote from last own) (not_below v.term) ∙ ap (λ (w : Votes). may_grant w.vote from last own) (term_stays v)

asked_now : (v : Votes) (from : ℕ) (last own : LogEnd) → after_request v from v.term last own ≡ cond (may_grant v.vote from last own) (record v { vote = from }) v
asked_now v from last own =
    ap (λ b. cond b (record (after_term v v.term) { vote = from }) (after_term v v.term)) (grants_now v from last own) ∙ ap (λ (w : Votes). cond (may_grant v.vote from last own) (record w { vote = from }) w) (term_stays v)

-- a node with these votes
abbrev pub with_votes : NodeValue → Votes → NodeValue
with_votes h v = record h { id = v.id; term = v.term; vote = v.vote; grants = v.grants }

within : (b : Bool) (h : NodeValue) (v w : Votes) → with_votes h (cond b v w) ≡ cond b (with_votes h v) (with_votes h w)
within true h v w = refl
within false h v w = refl

pub node_asked : (h : NodeValue) (v : Votes) (from : ℕ) (last own : LogEnd) → with_votes h (after_request v from v.term last own) ≡ cond (may_grant v.vote from last own) (record (with_votes h v) { vote = from }) (with_votes h v)
node_asked h v from last own = ap (with_votes h) (asked_now v from last own) ∙ within (may_grant v.vote from last own) h (record v { vote = from }) v
