-- The voters before and after each entry of a log are neighbours.
use Rattle.std.proofs.Common.{◌≡◌, inl, inr, ℕ, suc, true, false, List, [], take, sym, ap, ◌∙◌, subst, ⊎_elim, arith}
use Rattle.std.proofs.lemmas.Bool.{cases_Bool}
use Rattle.raft_spec.specs.Log.{Entry, term_at}
use Rattle.raft_safety.specs.Members.{Setup, change_at, voters_after}
use Rattle.raft_safety.specs.Laws.{log_at, Neighbours, NextVoters}
use Rattle.raft_safety.proofs.Logs.{agree_down}
use Rattle.raft_safety.proofs.Confs.{Near, equal, more, fewer, conf_same, change_at-within}
use Rattle.raft_safety.proofs.History.{Hist, Sound, HistOk}
use Rattle.raft_safety.proofs.Nears.{change_of, conf_agree}
use Rattle.raft_safety.proofs.Worlds.{moments}

neighbours : {ids others : List ℕ} → Near ids others → Neighbours ids others
neighbours (equal e) = inl e
neighbours (more e) = inr (inl e)
neighbours (fewer e) = inr (inr e)

next : {vs : Setup} {h : Hist} (xs : List Entry) (j : ℕ) → HistOk vs h → Sound h xs → Neighbours (voters_after vs (take j xs)) (voters_after vs (take (suc j) xs))
next {vs} {h} xs j ok s =
    ⊎_elim
    (λ (e : change_at vs xs (suc j) ≡ true).
    let le = change_at-within vs xs (suc j) e in
    let c = change_of (suc j) ok s le e in
    let t = term_at xs (suc j) in
    let agree = s.at (suc j) le in
    let d = c.settled in
    let early = c.early in
    let cov = d.covers in
    let one : voters_after vs (take j xs) ≡ voters_after vs (take c.at (h.log_of t)) = conf_agree vs (agree_down j (omega arith) agree) ∙ conf_same vs (h.log_of t) c.at j (omega arith) (λ k a b. c.prior k a (omega arith)) in
    let two : voters_after vs (take (suc j) xs) ≡ voters_after vs (take (suc j) (h.log_of t)) = conf_agree vs agree in
    neighbours (subst (λ v. Near v (voters_after vs (take (suc j) xs))) (sym one) (subst (Near (voters_after vs (take c.at (h.log_of t)))) (sym two) c.near)))
    (λ (e : change_at vs xs (suc j) ≡ false). inl (sym (conf_same vs xs j (suc j) (omega arith) (λ k a b. let is : k ≡ suc j = omega arith in ap (change_at vs xs) is ∙ e))))
    (cases_Bool (change_at vs xs (suc j)))

pub next_voters_hold : NextVoters
next_voters_hold vs es n j = let x = moments vs es [] in next (log_at vs es n) j x.world.hist (x.world.nodes n).sound
