-- What is appended later is applied later.
use Rattle.std.proofs.Common.{◌≡◌, ℕ, ◌<◌, ◌≤◌, List, [], ◌++◌, length, take, sym, ap, ◌∙◌, subst, ⊎_elim, arith, append_assoc}
use Rattle.std.proofs.lemmas.Bool.{cases_lt}
use Rattle.std.proofs.lemmas.List.{length-take}
use Rattle.raft_spec.specs.Log.{Entry, term_at}
use Rattle.raft_safety.specs.Members.{Setup}
use Rattle.raft_safety.specs.World.{Event}
use Rattle.raft_safety.specs.Laws.{Leads, log_at}
use Rattle.raft_safety.specs.Chosen.{chosen}
use Rattle.raft_safety.proofs.Chosens.{chosen_grows_holds}
use Rattle.raft_safety.proofs.Logs.{term_at-take, Agree, agree_down, agree_sym, agree_term, agree_trans}
use Rattle.raft_safety.proofs.History.{Hist, HistOk, Sound, Committed, nothing, decided}
use Rattle.raft_safety.proofs.Growth.{sound_later}
use Rattle.raft_safety.proofs.Complete.{meet}
use Rattle.raft_safety.proofs.Laws.{leader_ok}
use Rattle.raft_safety.proofs.Standing.{spans}
use Rattle.raft_safety.proofs.Worlds.{moments}
use Rattle.append_safety.specs.Appending.{NewIsLater, AppliedIsFirst}
use Rattle.append_safety.proofs.Kept.{shown_from, shown_first}

-- a sound log and the applied entries, up to an index at which both have one term
agrees_by : (vs : Setup) (h : Hist) (c log : List Entry) (bound j : ℕ) → HistOk vs h → Sound h log → Committed vs h c bound (length c) → j ≤ length c →
    j ≤ length log → term_at c j ≡ term_at log j → Agree j log c
agrees_by vs h c log bound j ok sound (nothing e) in_c in_log same = record {
  in_left = in_log;
  in_right = in_c;
  same = let z : j ≡ 0 = omega arith in
      ap (λ k. take k log) z ∙ sym (ap (λ k. take k c) z);
}
agrees_by vs h c log bound j ok sound (decided w q le d within agree) in_c in_log same =
    let down = agree_down j in_c agree in
    let right = down.in_right in
    let terms : term_at log j ≡ term_at (h.log_of w) j = sym same ∙ agree_term j in_c agree in
    agree_trans ((meet sound (ok.sound w)).at j in_log right terms) (agree_sym down)

-- a leader's log has each entry of its term that any log had before
has_seen : (vs : Setup) (es more : List Event) (n k i t : ℕ) → i ≤ length (log_at vs es n) → term_at (log_at vs es n) i ≡ t → Leads vs (es ++ more) k t →
    i ≤ length (log_at vs (es ++ more) k)
has_seen vs es more n k i t le is leads =
    let m = moments vs es more in
    let l = leader_ok vs (es ++ more) k t m.world' leads in
    let old : i ≤ length (m.first.log_of t) = subst (λ u. i ≤ length (m.first.log_of u)) is ((m.world.nodes n).sound.at i le).in_right in
    let grown = (m.later.logs t).in_right in
    let log : m.second.log_of t ≡ log_at vs (es ++ more) k = ap m.second.log_of (sym leads.1) ∙ l.log in
    let size = ap length log in
    omega arith

pub new_is_later_holds : NewIsLater
new_is_later_holds vs es more rest n k i j t pos in_log leads ends in_i is in_j same = ⊎_elim
    (λ (lt : j < i). lt)
    (λ (le : i ≤ j).
    let s = spans vs es (more ++ rest) in
    let log = log_at vs es n in
    let agree = agrees_by vs s.second (chosen vs (es ++ (more ++ rest))) log s.list'.bound j s.world'.hist
    (sound_later s.later (s.world.nodes n).sound) s.list'.settled in_j in_log same in
    let here : i ≤ length log = omega arith in
    let has = has_seen vs es more n k i t here (agree_term i le agree ∙ is) leads in
    absurd (omega arith))
    (cases_lt j i)

-- the last of what was applied at a moment is in a log
past_first : (vs : Setup) (es past old more rest : List Event) (n size k i t : ℕ) → es ≡ past ++ old → chosen vs es ≡ take size (log_at vs past n) → 0 < i →
    Leads vs (es ++ more) k t → length (log_at vs (es ++ more) k) < i → i ≤ length (chosen vs (es ++ (more ++ rest))) →
    term_at (chosen vs (es ++ (more ++ rest))) i ≡ t → length (chosen vs es) < i
past_first vs es past old more rest n size k i t split is pos leads ends in_i at_i =
    let c = chosen vs es in
    let all = chosen vs (es ++ (more ++ rest)) in
    let log = log_at vs past n in
    let j = length c in
    let grows : take j all ≡ c = chosen_grows_holds vs es (more ++ rest) in
    let sizes = ap length is in
    let long = length-take size log in
    let wide = ap length grows in
    let most = length-take j all in
    let same_now : es ++ more ≡ past ++ (old ++ more) = ap (λ l. l ++ more) split ∙ append_assoc past old more in
    let same_end : es ++ (more ++ rest) ≡ past ++ ((old ++ more) ++ rest) = sym (append_assoc es more rest) ∙ ap (λ l. l ++ rest) same_now
    ∙ append_assoc past (old ++ more) rest in
    let terms : term_at all j ≡ term_at log j = sym (term_at-take j all j (omega arith)) ∙ ap (λ l. term_at l j) (grows ∙ is) ∙ term_at-take size log j
    (omega arith) in
    new_is_later_holds vs past (old ++ more) rest n k i j t pos (omega arith)
    (subst (λ l. Leads vs l k t) same_now leads) (subst (λ l. length (log_at vs l k) < i) same_now ends)
    (subst (λ l. i ≤ length (chosen vs l)) same_end in_i) (subst (λ l. term_at (chosen vs l) i ≡ t) same_end at_i)
    (subst (λ l. j ≤ length (chosen vs l)) same_end (omega arith)) (subst (λ l. term_at (chosen vs l) j ≡ term_at log j) same_end terms)

pub applied_is_first_holds : AppliedIsFirst
applied_is_first_holds vs es more rest k i t pos leads ends in_i at_i =
    let x = shown_from vs es [] (shown_first vs) in
    past_first vs es x.past x.rest more rest x.node x.size k i t x.split x.is pos leads ends in_i at_i
