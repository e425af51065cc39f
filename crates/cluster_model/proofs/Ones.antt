-- The chosen entries are the front of some node's log at some moment; what is proposed keeps logs woven, in parts of a run.
use Rattle.std.proofs.Common.{◌≡◌, ℕ, ◌≤◌, List, [], ◌∷◌, ◌++◌, length, take, refl, sym, ap, ◌∙◌, subst, ⊎_elim, arith, length-append, append_assoc}
use Rattle.std.proofs.lemmas.List.{take-append-le, take_all, append-nil}
use Rattle.raft_safety.specs.Members.{Setup}
use Rattle.raft_safety.specs.World.{World, Event, happens, start, run_from, run}
use Rattle.raft_safety.specs.Laws.{log_at}
use Rattle.raft_safety.specs.Chosen.{actor, chosen}
use Rattle.raft_safety.specs.Properties.{EventsKeep}
use Rattle.raft_safety.proofs.Properties.{chosen_step}
use Rattle.cluster_model.specs.Weaving.{IsWoven}

-- the chosen entries are a front of the log of this node after this many events
pub record Held (vs : Setup) (es : List Event) : Type 0 where
  pub moment : ℕ
  pub within : moment ≤ length es
  pub node : ℕ
  pub upto : ℕ
  pub is : chosen vs es ≡ take upto (log_at vs (take moment es) node)

held_step : (vs : Setup) (ps : List Event) (e : Event) → Held vs ps → Held vs (ps ++ e ∷ [])
held_step vs ps e a = ⊎_elim
    (λ (kept : chosen vs (ps ++ e ∷ []) ≡ chosen vs ps).
    let low = a.within in
    record { moment = a.moment; within = omega (arith, length-append ps (e ∷ [])); node = a.node; upto = a.upto; is = kept ∙ a.is ∙ ap (λ l. take a.upto (log_at vs l a.node)) (sym (take-append-le a.moment ps (e ∷ []) low)) })
    (λ (new : (k : ℕ) × (chosen vs (ps ++ e ∷ []) ≡ take k (log_at vs (ps ++ e ∷ []) (actor e)))).
    let all = take_all (length (ps ++ e ∷ [])) (ps ++ e ∷ []) (omega arith) in
    record { moment = length (ps ++ e ∷ []); within = omega arith; node = actor e; upto = new.0; is = new.1 ∙ ap (λ l. take new.0 (log_at vs l (actor e))) (sym all) })
    (chosen_step vs ps e)

held_list : (vs : Setup) (es ps : List Event) → Held vs ps → Held vs (ps ++ es)
held_list vs [] ps a = subst (Held vs) (sym (append-nil ps)) a
held_list vs (e ∷ es) ps a = subst (Held vs) (append_assoc ps (e ∷ []) es) (held_list vs es (ps ++ e ∷ []) (held_step vs ps e a))

pub chosen_is : (vs : Setup) (es : List Event) → Held vs es
unfolding chosen
chosen_is vs es = held_list vs es [] (record { moment = 0; within = omega arith; node = 0; upto = 0; is = refl })

-- what is proposed keeps logs woven, in parts of a run

weave_join : (vs : Setup) (xs ys : List Event) (w : World) → EventsKeep IsWoven vs w xs → EventsKeep IsWoven vs (run_from vs w xs) ys → EventsKeep IsWoven vs w (xs ++ ys)
weave_join vs [] ys w a b = b
weave_join vs (x ∷ xs) ys w a b = (a.0, weave_join vs xs ys (happens vs w x) a.1 b)

run_is : (vs : Setup) (es : List Event) → run vs es ≡ run_from vs (start vs) es
unfolding run
run_is vs es = refl

pub weave_next : (vs : Setup) (xs ys : List Event) → EventsKeep IsWoven vs (start vs) xs → EventsKeep IsWoven vs (run vs xs) ys → EventsKeep IsWoven vs (start vs) (xs ++ ys)
weave_next vs xs ys a b = weave_join vs xs ys (start vs) a (subst (λ w. EventsKeep IsWoven vs w ys) (run_is vs xs) b)
