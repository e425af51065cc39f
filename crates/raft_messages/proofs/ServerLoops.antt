-- The loops over the servers of a configuration.
use Rattle.std.proofs.Common.{◌≡◌, ℕ, suc, ◌+◌, ◌-◌, ◌<◌, ◌≤◌, List, [], ◌∷◌, ◌++◌, length, drop, get_or, Result, Ok, Err, refl, sym, ap, subst, ◌∙◌, append_assoc, arith}
use Rattle.std.specs.Prelude.{◌==◌}
use Rattle.std.specs.List.{AllByRecursion}
use Rattle.std.proofs.lemmas.List.{at_drop_more, at_drop_all}
use Rattle.raft_spec.specs.Node.{Server, voters}
use Rattle.wire_words.specs.Reading.{Unread}
use Rattle.raft_messages.specs.declared.servers_fault.ServersFault.{ServersFault}
use Rattle.raft_messages.specs.declared.servers_fault.ServersFault.TheVariants.{Word, Order, Role, Limit, NoMemory}
use Rattle.raft_messages.specs.Servers.{server_bytes, each_bytes, votes_as, server_at, more_servers_at, ServersFail}
use Rattle.raft_messages.proofs.ServerLaws.{voters_cons}

-- a fault of a step is the fault of the whole
pub fails_so : {A B : Type 0} (e : ServersFault) (step : Result A ServersFault) (whole : Result B ServersFault) → ((f : ServersFault) → step ≡ Err f → whole ≡ Err f) → ServersFail e step → ServersFail e whole
fails_so NoMemory step whole so fails = tt
fails_so (Word w) step whole so fails = so (Word w) fails
fails_so (Order at) step whole so fails = so (Order at) fails
fails_so (Role at) step whole so fails = so (Role at) fails
fails_so (Limit at) step whole so fails = so (Limit at) fails

pub servers_more : (before : List Server) (count i : ℕ) (left next : Unread) (s : Server) (total : Result (List Server × Unread) ServersFault) → i < count → server_at before left ≡ Ok (s, next)
    → more_servers_at before (count - i) left ≡ total → more_servers_at (before ++ s ∷ []) (count - (i + 1)) next ≡ total
unfolding more_servers_at
servers_more before count i left next s total lt is so_far =
    let k : count - i ≡ suc (count - (i + 1)) = omega arith in
    let one : more_servers_at before (count - i) left ≡ more_servers_at (before ++ s ∷ []) (count - (i + 1)) next = rw (k, is) refl in
    sym one ∙ so_far

pub servers_end : (e : ServersFault) (before : List Server) (count i : ℕ) (left : Unread) (total : Result (List Server × Unread) ServersFault) → i < count → ServersFail e (server_at before left)
    → more_servers_at before (count - i) left ≡ total → ServersFail e total
unfolding more_servers_at
servers_end e before count i left total lt fails so_far =
    let k : count - i ≡ suc (count - (i + 1)) = omega arith in
    fails_so e (server_at before left) total (λ f h. let one : more_servers_at before (count - i) left ≡ Err f = rw (k, h) refl in sym so_far ∙ one) fails

pub servers_done : (before : List Server) (count i : ℕ) (left : Unread) (total : Result (List Server × Unread) ServersFault) → count ≤ i → more_servers_at before (count - i) left ≡ total → total ≡ Ok (before, left)
unfolding more_servers_at
servers_done before count i left total le so_far =
    let k : count - i ≡ 0 = omega arith in
    let one : more_servers_at before (count - i) left ≡ Ok (before, left) = rw k refl in
    sym so_far ∙ one

-- ---- over a list

-- a list from an item on
at_server : (ss : List Server) (i : ℕ) (s : Server) → i < length ss → s ≡ get_or ss i s → drop i ss ≡ s ∷ drop (i + 1) ss
at_server ss i s lt is = at_drop_more (λ (l : List Server). l) ss i s lt ∙ ap (λ (t : Server). t ∷ drop (i + 1) ss) (sym is)

pub voters_step : (ss : List Server) (i count : ℕ) (s : Server) (vote whole : ℕ) → i < length ss → s ≡ get_or ss i s → vote ≡ votes_as (s.role == 0)
    → count + length (voters (drop i ss)) ≡ whole → count + vote + length (voters (drop (i + 1) ss)) ≡ whole
voters_step ss i count s vote whole lt is one so_far =
    let step : length (voters (drop i ss)) ≡ votes_as (s.role == 0) + length (voters (drop (i + 1) ss)) = ap (λ (l : List Server). length (voters l)) (at_server ss i s lt is) ∙ voters_cons s (drop (i + 1) ss) in
    omega (arith, step, one, so_far)

no_voters : length (voters []) ≡ 0
unfolding voters
no_voters = refl

pub voters_all : (ss : List Server) (i count whole : ℕ) → length ss ≤ i → count + length (voters (drop i ss)) ≡ whole → count ≡ whole
voters_all ss i count whole le so_far =
    let none : length (voters (drop i ss)) ≡ 0 = at_drop_all (λ (l : List Server). length (voters l)) ss i le ∙ no_voters in
    omega (arith, none, so_far)

pub each_written : (ss : List Server) (i : ℕ) (s : Server) (out next whole : List ℕ) → i < length ss → s ≡ get_or ss i s → next ≡ out ++ server_bytes s
    → out ++ each_bytes (drop i ss) ≡ whole → next ++ each_bytes (drop (i + 1) ss) ≡ whole
each_written ss i s out next whole lt is one so_far =
    let rest = each_bytes (drop (i + 1) ss) in
    ap (λ (l : List ℕ). l ++ rest) one ∙ append_assoc out (server_bytes s) rest ∙ ap (λ (l : List Server). out ++ each_bytes l) (sym (at_server ss i s lt is)) ∙ so_far

pub each_held : (P : Server → Type 0) (ss : List Server) (i : ℕ) (s : Server) → i < length ss → s ≡ get_or ss i s → P s → (AllByRecursion P (drop i ss) → AllByRecursion P ss) → AllByRecursion P (drop (i + 1) ss) → AllByRecursion P ss
each_held P ss i s lt is has so_far rest = so_far (subst (AllByRecursion P) (sym (at_server ss i s lt is)) (has, rest))

-- each from an item on, if all are
pub each_from : (P : Server → Type 0) (ss : List Server) (i : ℕ) (s : Server) → i < length ss → s ≡ get_or ss i s → AllByRecursion P (drop i ss) → P s × AllByRecursion P (drop (i + 1) ss)
each_from P ss i s lt is all = subst (AllByRecursion P) (at_server ss i s lt is) all
