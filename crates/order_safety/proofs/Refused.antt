-- The wrong runs are refused.
use Rattle.std.proofs.Common.{◌<◌, [], ◌∷◌, ◌++◌, refl, sym, subst, arith}
use Rattle.sql_engine.specs.declared.kind.EngineKind.{EngineKind}
use Rattle.sql_engine.specs.Meanings.{Meaning}
use Rattle.session_spec.specs.Entries.{Entry as Line}
use Rattle.cluster_model.specs.Clusters.{cluster}
use Rattle.cluster_model.specs.Laws.{AllBelow, chosen_seen}
use Rattle.order_safety.specs.Order.{HasTerm}
use Rattle.order_safety.specs.Wrong.{NoNewBeforePending, NoNewBeforeAnswered}
use Rattle.order_safety.proofs.Order.{pending_comes_first_holds, answered_comes_first_holds}

first_of : (x y : Line) → HasTerm (x ∷ y ∷ []) 1 x.term
first_of x y = (x.content, refl)

second_of : (x y : Line) → HasTerm (x ∷ y ∷ []) 2 y.term
second_of x y = (y.content, refl)

pub no_new_before_pending : (m : Meaning) (kind : EngineKind) → NoNewBeforePending m kind
no_new_before_pending m kind setup acts more rest n conn k f x y fit up flying may is at_two term =
    let all = chosen_seen setup (cluster setup (acts ++ (more ++ rest))) in
    let first = subst (λ l. HasTerm l 1 x.term) (sym is) (first_of x y) in
    let second = subst (λ l. HasTerm l 2 y.term) (sym is) (second_of x y) in
    let mine = subst (λ i. HasTerm all i f.term) (sym at_two) (subst (λ t. HasTerm all 2 t) (sym term) second) in
    let low : f.last < 1 = pending_comes_first_holds m kind setup acts more rest n conn k x.term 1 f fit up flying may (omega arith) first mine in
    absurd (omega (arith, low, at_two))

pub no_new_before_answered : (m : Meaning) (kind : EngineKind) → NoNewBeforeAnswered m kind
no_new_before_answered m kind setup acts more rest k said x y fit is at_two may applied =
    let first = subst (λ l. HasTerm l 1 x.term) (sym applied) (first_of x y) in
    let all = answered_comes_first_holds m kind setup acts more rest k x.term 1 fit may (omega arith) first in
    let low = (subst (λ l. AllBelow 1 l) is all).0 in
    absurd (omega (arith, low, at_two))
