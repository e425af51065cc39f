-- The wrong runs are refused.
use Rattle.std.proofs.Common.{◌≡◌, ⊎_elim, ℕ, zero, suc, ◌<◌, ◌≤◌, List, [], ◌∷◌, ◌++◌, length, take, sym, ap, ◌∙◌, subst, arith, length-append}
use Rattle.raft_spec.specs.Log.{term_at}
use Rattle.raft_spec.specs.Node.{Leader}
use Rattle.raft_safety.specs.Members.{Setup}
use Rattle.raft_safety.specs.World.{Event, Crash, run}
use Rattle.raft_safety.specs.Chosen.{chosen}
use Rattle.raft_safety.specs.Sources.{midway}
use Rattle.append_safety.specs.Wrong.{NoEntryWithoutLeader, NoSwappedAppends, NoOtherEntryBelow, NoNewBeforeOld, NoAppliedReplaced}
use Rattle.append_safety.proofs.Appending.{chosen_appended_holds, appended_in_order_holds}
use Rattle.append_safety.proofs.Kept.{kept_agrees_holds}
use Rattle.append_safety.proofs.Later.{new_is_later_holds, applied_is_first_holds}

-- a node that crashes leads after no step of this event
crashed : (vs : Setup) (n k : ℕ) → (midway vs (run vs []) (Crash n) k).role ≡ Leader → ⊥
unfolding run
crashed vs n zero leads = absurd cc
crashed vs n (suc k) leads = absurd cc

no_leader : (vs : Setup) (n k : ℕ) (first : List Event) (event : Event) (rest : List Event) → Crash n ∷ [] ≡ first ++ event ∷ rest →
    (midway vs (run vs first) event k).role ≡ Leader → ⊥
no_leader vs n k [] event rest split leads =
    let is : event ≡ Crash n = cc in
    crashed vs n k (subst (λ e. (midway vs (run vs []) e k).role ≡ Leader) is leads)
no_leader vs n k (f ∷ first) event rest split leads =
    let sizes : 1 ≡ suc (length (first ++ event ∷ rest)) = ap length split in
    absurd (omega (arith, sizes, length-append first (event ∷ rest)))

pub no_entry_without_leader : NoEntryWithoutLeader
no_entry_without_leader vs n x is =
    let has : 1 ≤ length (chosen vs (Crash n ∷ [])) = subst (λ l. 1 ≤ length l) (sym is) (omega arith) in
    let w = chosen_appended_holds vs (Crash n ∷ []) 1 (omega arith) has in
    no_leader vs n (suc w.step) w.first w.event w.rest w.split w.leads

pub no_swapped_appends : NoSwappedAppends
no_swapped_appends vs events x y late each =
    let got = appended_in_order_holds vs events (x ∷ y ∷ []) 1 (omega arith) (omega arith) late in
    let after = each got.0 in
    ⊎_elim (λ (lt : length got.0.first < length late.first). absurd (omega (arith, lt, after)))
    (λ (same : (length got.0.first ≡ length late.first) × (got.0.step ≤ late.step)). absurd (omega (arith, same.0, after))) got.1

pub no_other_entry_below : NoOtherEntryBelow
unfolding term_at
no_other_entry_below vs first event rest step x y z apart up made log applied =
    let mine = (midway vs (run vs first) event step).log in
    let all = chosen vs (first ++ event ∷ rest) in
    let fronts : take 2 mine ≡ take 2 all = kept_agrees_holds vs first event rest step 2 up made
    (subst (λ l. 2 ≤ length l) (sym log) (omega arith)) (subst (λ l. 2 ≤ length l) (sym applied) (omega arith))
    (ap (λ l. term_at l 2) log ∙ sym (ap (λ l. term_at l 2) applied)) in
    let lists : x ∷ z ∷ [] ≡ y ∷ z ∷ [] = sym (ap (take 2) log) ∙ fronts ∙ ap (take 2) applied in
    let same : x ≡ y = cc in
    apart same

pub no_new_before_old : NoNewBeforeOld
unfolding term_at
no_new_before_old vs events more rest n k x y z log leads none applied =
    let all = chosen vs (events ++ (more ++ rest)) in
    let lt = new_is_later_holds vs events more rest n k 1 2 y.term (omega arith) (subst (λ l. 2 ≤ length l) (sym log) (omega arith)) leads
    (subst (λ l. length l < 1) (sym none) (omega arith)) (subst (λ l. 1 ≤ length l) (sym applied) (omega arith)) (ap (λ l. term_at l 1) applied)
    (subst (λ l. 2 ≤ length l) (sym applied) (omega arith)) (ap (λ l. term_at l 2) applied ∙ sym (ap (λ l. term_at l 2) log)) in
    absurd (omega (arith, lt))

pub no_applied_replaced : NoAppliedReplaced
unfolding term_at
no_applied_replaced vs events more rest k x y z was leads short applied =
    let lt = applied_is_first_holds vs events more rest k 2 y.term (omega arith) leads (subst (λ l. length l < 2) (sym short) (omega arith))
    (subst (λ l. 2 ≤ length l) (sym applied) (omega arith)) (ap (λ l. term_at l 2) applied) in
    absurd (omega (arith, subst (λ l. length l < 2) was lt))
