-- The servers with which a script's cluster is opened may stand together.
use Rattle.std.proofs.Common.{◌≡◌, ◌<◌, ◌≤◌, ◌+◌, ℕ, zero, suc, List, [], ◌∷◌, ◌++◌, length, refl, ap, sym, subst, ◌∙◌, add-one, arith}
use Rattle.std.specs.Prelude.{false, ◌||◌, ◌==◌, codes}
use Rattle.std.specs.Fmt.{decimal}
use Rattle.std.specs.List.{AllByRecursion}
use Rattle.std.proofs.lemmas.Bool.{ne_eqb}
use Rattle.std.proofs.lemmas.Fmt.{decimal_digit}
use Rattle.wire_words.specs.Items.{HasNoNul}
use Rattle.dq_base.specs.Names.{has_nul}
use Rattle.raft_spec.specs.Node.{Server, voters}
use Rattle.raft_messages.specs.Servers.{Ascend, IsServer, IsConfiguration}
use Rattle.script_cluster.specs.Voters.{IsVoterCount, voter, voters_from}

-- one voter more follows the others
voters_more : (count n : ℕ) → voters_from (suc count) n ≡ voters_from count n ++ voter (n + count) ∷ []
voters_more zero n = ap (λ (id : ℕ). voter id ∷ []) (omega arith)
voters_more (suc count) n =
    let same : suc n + count ≡ n + suc count = omega arith in
    ap (λ (rest : List Server). voter n ∷ rest) (voters_more count (suc n) ∙ ap (λ (id : ℕ). voters_from count (suc n) ++ voter id ∷ []) same)

behind : (n : ℕ) → voters_from n 1 ++ voter (suc n) ∷ [] ≡ voters_from (suc n) 1
behind n = let same : suc n ≡ 1 + n = omega arith in ap (λ (id : ℕ). voters_from n 1 ++ voter id ∷ []) same ∙ sym (voters_more n 1)

ends : (n : ℕ) → voters_from n 1 ++ voter (n + 1) ∷ [] ≡ voters_from (n + 1) 1
ends n = rw add-one (behind n)

pub one_more : (all new : List Server) (server : Server) (n : ℕ) → new ≡ all ++ server ∷ [] → server ≡ voter (n + 1) → all ≡ voters_from n 1 → new ≡ voters_from (n + 1) 1
one_more all new server n push is before = push ∙ (λ i. before i ++ is i ∷ []) ∙ ends n

ascending : (last count n : ℕ) → last < n → Ascend last (voters_from count n)
ascending last zero n above = tt
ascending last (suc count) n above = (above, ascending n count (suc n) (omega arith))

plain : (n : ℕ) → n < 10 → HasNoNul (codes "n" ++ decimal n)
plain n few =
    let some : (48 + n == 0) ≡ false = ne_eqb (48 + n) 0 (λ q. absurd (omega (arith, q))) in
    ap (λ (digits : List ℕ). has_nul (codes "n" ++ digits)) (decimal_digit n few) ∙ (λ i. some i || false)

short : (n : ℕ) → n < 10 → length (codes "n" ++ decimal n) ≤ 255
short n few = let two : length (codes "n" ++ decimal n) ≡ 2 = ap (λ (digits : List ℕ). length (codes "n" ++ digits)) (decimal_digit n few) in omega (arith, two)

servers : (count n : ℕ) → count + n ≤ 10 → AllByRecursion IsServer (voters_from count n)
servers zero n few = tt
servers (suc count) n few =
    let small : n < 10 = omega (arith, few) in
    ((omega arith, plain n small, short n small), servers count (suc n) (omega (arith, few)))

so_many : (count n : ℕ) → length (voters_from count n) ≡ count
so_many zero n = refl
so_many (suc count) n = ap suc (so_many count (suc n))

all_vote : (count n : ℕ) → length (voters (voters_from count n)) ≡ count
unfolding voters
all_vote zero n = refl
all_vote (suc count) n = ap suc (all_vote count (suc n))

pub is_configuration : (count : ℕ) → IsVoterCount count → IsConfiguration (voters_from count 1)
is_configuration count h = record {
  ascend = ascending 0 count 1 (omega arith);
  each = servers count 1 (let few : count ≤ 7 = h.1 in omega (arith, few));
  few = (let few : count ≤ 7 = h.1 in omega (arith, few, so_many count 1));
  few_voters = (let few : count ≤ 7 = h.1 in omega (arith, few, all_vote count 1));
}

-- all of them, after the last one
pub opened : (result items : List Server) (place count number voters : ℕ) → result ≡ items → items ≡ voters_from place 1 → count ≤ place → place ≤ count → count ≡ number → number ≡ voters → IsVoterCount voters
    → IsConfiguration result
opened result items place count number voters is made past within counted told range =
    let all : place ≡ voters = omega (arith, past, within, counted, told) in
    subst IsConfiguration (sym (is ∙ made ∙ ap (λ (n : ℕ). voters_from n 1) all)) (is_configuration voters range)
