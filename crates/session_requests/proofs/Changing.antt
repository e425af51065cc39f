-- The servers of a cluster by their ids, and what hinders any change of them.
use Rattle.std.proofs.Common.{◌≡◌, ℕ, ◌+◌, ◌<◌, ◌≤◌, Bool, true, false, cond, List, [], ◌∷◌, ◌++◌, length, get_or, take, drop, find, Option, Some, refl, sym, ap, ◌∙◌, append_assoc, arith}
use Rattle.std.specs.Prelude.{◌==◌, nat_lt}
use Rattle.std.proofs.lemmas.List.{drop_more, drop_all, take_more, take_all}
use Rattle.raft_spec.specs.Node.{Server}
use Rattle.session_spec.specs.Asking.{Asked, Never, at_leader, if_settled}
use Rattle.session_spec.specs.Causes.{NotLeader, ChangeInFlight}
use Rattle.session_spec.specs.Limits.{change_in_flight}
use Rattle.session_spec.specs.Servers.{server_of, with_server}
use Rattle.session_spec.specs.Sessions.{Gateway, View}
use Rattle.session_requests.specs.Looking.{StandsAt}

-- ---- the server of an id

pub server_found : (servers : List Server) (id : ℕ) → server_of servers id ≡ find (λ (s : Server). s.id == id) servers
server_found [] id = refl
server_found (s ∷ ss) id = ap (λ (o : Option Server). cond (s.id == id) (Some s) o) (server_found ss id)

-- ---- the place of a server among those whose ids ascend

-- what was found so far: the server isn't in front of the first ones
abbrev pub SoFar : ℕ → List Server → ℕ → Type 0
SoFar id servers i = (new : Server) → new.id ≡ id → with_server new servers ≡ take i servers ++ with_server new (drop i servers)

module _ (id : ℕ) (servers : List Server) (i : ℕ) (x : Server) (lt : i < length servers) (is : x ≡ get_or servers i x) (so_far : SoFar id servers i) where
  rest : drop i servers ≡ x ∷ drop (i + 1) servers
  rest = drop_more servers i x lt ∙ ap (λ (s : Server). s ∷ drop (i + 1) servers) (sym is)

  from_here : (new : Server) → new.id ≡ id → with_server new servers ≡ take i servers ++ cond (nat_lt id x.id) (new ∷ x ∷ drop (i + 1) servers) (x ∷ with_server new (drop (i + 1) servers))
  from_here new e =
      so_far new e ∙ ap (λ (ss : List Server). take i servers ++ with_server new ss) rest
      ∙ ap (λ (n : ℕ). take i servers ++ cond (nat_lt n x.id) (new ∷ x ∷ drop (i + 1) servers) (x ∷ with_server new (drop (i + 1) servers))) e

  pub stands_here : nat_lt id x.id ≡ true → StandsAt id servers i
  stands_here less = record {
    within = omega arith;
    joined = λ new e. from_here new e ∙ rw less (ap (λ (ss : List Server). take i servers ++ new ∷ ss) (sym rest));
  }

  pub stands_later : nat_lt id x.id ≡ false → SoFar id servers (i + 1)
  stands_later more new e =
      let front : take (i + 1) servers ≡ take i servers ++ x ∷ [] = take_more servers i x lt ∙ ap (λ (s : Server). take i servers ++ s ∷ []) (sym is) in
      from_here new e ∙ rw more (rw front (sym (append_assoc (take i servers) (x ∷ []) (with_server new (drop (i + 1) servers)))))

pub stands_last : (id : ℕ) (servers : List Server) (i : ℕ) → length servers ≤ i → SoFar id servers i → StandsAt id servers (length servers)
stands_last id servers i past so_far = record {
  within = omega arith;
  joined = λ new e. so_far new e ∙ rw (drop_all i servers past, take_all i servers past) (rw (take_all (length servers) servers (omega arith), drop_all (length servers) servers (omega arith)) refl);
}

-- ---- what hinders any change

module _ (v : View) (g : Gateway) (asked : Asked) where
  pub not_serving : v.serving ≡ false → at_leader v (if_settled g asked) ≡ Never NotLeader
  not_serving e = ap (λ (b : Bool). cond b (if_settled g asked) (Never NotLeader)) e

  pub is_unsettled : v.serving ≡ true → change_in_flight g ≡ true → at_leader v (if_settled g asked) ≡ Never ChangeInFlight
  is_unsettled e f = ap (λ (b : Bool). cond b (if_settled g asked) (Never NotLeader)) e ∙ ap (λ (b : Bool). cond b (Never ChangeInFlight) asked) f

  pub is_settled : v.serving ≡ true → change_in_flight g ≡ false → at_leader v (if_settled g asked) ≡ asked
  is_settled e f = ap (λ (b : Bool). cond b (if_settled g asked) (Never NotLeader)) e ∙ ap (λ (b : Bool). cond b (Never ChangeInFlight) asked) f
