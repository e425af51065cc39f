-- A leader's proposals keep its log woven.
use Rattle.std.proofs.Common.{◌≡◌, ℕ, suc, List, [], ◌∷◌, ◌++◌, length, map, refl, sym, ap, ◌∙◌, subst, ⊎_elim, arith, take, drop, take-append-drop}
use Rattle.log_commands.specs.Splitting.{split}
use Rattle.session_spec.specs.Entries.{Content, Does, Configures, Other, Entry as Line, tx_of, entries_of, written_in, written}
use Rattle.session_spec.specs.Seen.{log_seen}
use Rattle.session_spec.proofs.Seeing.{written_is_seen_holds}
use Rattle.session_safety.specs.Woven.{Woven}
use Rattle.session_safety.specs.Life.{ArePlain}
use Rattle.session_safety.proofs.Weaves.{woven_plain, woven_split}
use Rattle.raft_spec.specs.Log.{Entry}
use Rattle.raft_spec.specs.Outcomes.{with_term}
use Rattle.cluster_model.specs.Proposals.{ProposalsSeen, IsNumbered, ProposalsWeave, FollowsLog}
use Rattle.cluster_model.proofs.Lines.{size_of, seen_append, seen_agree}

term_in : (any term : ℕ) (c : Content) → record (written_in any c) { term = term } ≡ written_in term c
term_in any term (Does command) = refl
term_in any term (Configures servers) = refl
term_in any term Other = refl

-- whatever term they were written in, they are proposed in the leader's
in_term : (any term : ℕ) (cs : List Content) → with_term term (written any cs) ≡ written term cs
in_term any term [] = refl
in_term any term (c ∷ cs) = ap (λ (x : Entry). x ∷ with_term term (written any cs)) (term_in any term c) ∙ ap (λ (l : List Entry). written_in term c ∷ l) (in_term any term cs)

pub proposals_seen_hold : ProposalsSeen
proposals_seen_hold log any term cs h = seen_append log (with_term term (written any cs)) ∙ ap (λ (l : List Line). log_seen log ++ l) (ap log_seen (in_term any term cs) ∙ written_is_seen_holds term cs h)

pub proposals_weave_hold : ProposalsWeave
proposals_weave_hold s any cs serving h weaves = λ leads w. subst Woven (sym (proposals_seen_hold s.log any s.term cs h)) (⊎_elim
    (λ (plain : ArePlain serving cs). woven_plain serving s.term (log_seen s.log) cs plain w)
    (λ (x : IsNumbered s cs).
    let size = size_of s.log in
    let low = x.2 in
    let is : cs ≡ map Does (split x.0 (record { tx = tx_of s.term (suc (length (log_seen s.log))); pages = x.1 })) = x.3 ∙ ap (λ k. map Does (split x.0 (record { tx = tx_of s.term (suc k); pages = x.1 }))) (sym size) in
    subst (λ (l : List Content). Woven (log_seen s.log ++ entries_of s.term l)) (sym is) (woven_split s.term x.0 (log_seen s.log) x.1 (omega arith) w))
    weaves)

pub follows_log_holds : FollowsLog
follows_log_holds w s t h same =
    let front : take w.applied w.log ≡ take w.applied (log_seen t.log) =
    ap (take w.applied) h.log ∙ ap (λ k. take k (log_seen s.log)) h.applied ∙ seen_agree s.commit s.log t.log same.2 ∙ ap (λ k. take k (log_seen t.log)) (sym h.applied) in
    sym (take-append-drop w.applied (log_seen t.log)) ∙ ap (λ (l : List Line). l ++ drop w.applied (log_seen t.log)) (sym front)
