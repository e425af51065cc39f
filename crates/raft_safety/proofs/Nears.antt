-- Two logs with all that was decided below a term give voters next to each other.
use Rattle.std.proofs.Common.{◌≡◌, ◌≢◌, ℕ, ◌<◌, ◌≤◌, true, false, List, length, take, sym, ap, ◌∙◌, subst, ⊎_elim, arith, true≢false}
use Rattle.std.proofs.lemmas.Bool.{cases_lt, cases_eq}
use Rattle.raft_spec.specs.Log.{Entry, term_at}
use Rattle.raft_safety.specs.Members.{Setup, change_at, voters_after}
use Rattle.raft_safety.proofs.Logs.{Agree, agree_term, term_at-within, term_at-zero}
use Rattle.raft_safety.proofs.Confs.{Near, equal, near_sym, LastChange, find_change, agree_change, conf_same, conf_whole, change_at-zero}
use Rattle.raft_safety.proofs.History.{Hist, Sound, ChangeOk, HistOk}
use Rattle.raft_safety.proofs.Complete.{Complete, leads_at, terms, sorted, past_front}

off : {A : Type 0} → false ≡ true → A
off e = absurd (true≢false (sym e))

-- a change in a log is one that its term's leader proposed
pub change_of : {vs : Setup} {h : Hist} {xs : List Entry} (b : ℕ) → HistOk vs h → Sound h xs → b ≤ length xs → change_at vs xs b ≡ true → ChangeOk vs h (term_at xs b) b
change_of {vs} {h} {xs} b ok s le e =
    let a = s.at b le in
    let pos : b ≢ 0 = λ z. off (sym (ap (change_at vs xs) z ∙ change_at-zero vs xs) ∙ e) in
    let nz = (terms vs ok s).at b (omega arith) le in
    let leads = leads_at vs b ok s le nz in
    ok.changes (term_at xs b) b leads (past_front vs (term_at xs b) b ok leads (sym (agree_term b (omega arith) a))) (sym (agree_change vs b (omega arith) a) ∙ e)

-- the voters of a log are those at its last change, and at any later place
conf_last : (vs : Setup) (xs : List Entry) (x : LastChange vs xs (length xs)) (i : ℕ) → x.at ≤ i → i ≤ length xs → voters_after vs xs ≡ voters_after vs (take i xs)
conf_last vs xs x i low le =
    sym (conf_whole vs xs (length xs) (omega arith)) ∙ conf_same vs xs i (length xs) le (λ k a b. x.quiet k (omega arith) b)

pub conf_agree : {i : ℕ} {xs ys : List Entry} (vs : Setup) → Agree i xs ys → voters_after vs (take i xs) ≡ voters_after vs (take i ys)
conf_agree vs a = ap (voters_after vs) a.same

near_along : {a b c d : List ℕ} → a ≡ b → c ≡ d → Near b d → Near a c
near_along {a} {b} {c} {d} e f n = subst (λ v. Near v c) (sym e) (subst (Near b) (sym f) n)

near_le : {vs : Setup} {h : Hist} {xs ys : List Entry} (u : ℕ) → HistOk vs h → Sound h xs → Sound h ys → Complete vs h xs u → Complete vs h ys u → ((i : ℕ) → term_at ys i < u) → (x : LastChange vs xs (length xs)) → (y : LastChange vs ys (length ys)) → term_at xs x.at ≤ term_at ys y.at → Near (voters_after vs xs) (voters_after vs ys)
near_le {vs} {h} {xs} {ys} u ok sx sy cx cy below x y le =
    ⊎_elim (λ (z : y.at ≡ 0). none z) (λ (e : change_at vs ys y.at ≡ true). some e) y.is
  where
    none : y.at ≡ 0 → Near (voters_after vs xs) (voters_after vs ys)
    none z =
        let t0 = ap (term_at ys) z ∙ term_at-zero ys in
        let a0 : x.at ≡ 0 = ⊎_elim (λ (e : x.at ≡ 0). e) (λ (e : x.at ≢ 0). absurd ((terms vs ok sx).at x.at (omega arith) x.within (omega arith))) (cases_eq x.at 0) in
        equal (conf_last vs xs x 0 (omega arith) (omega arith) ∙ sym (conf_last vs ys y 0 (omega arith) (omega arith)))

    -- both last changes are of one leader, and the first log's comes later
    beyond : term_at xs x.at ≡ term_at ys y.at → y.at < x.at → change_at vs xs x.at ≡ true → Agree x.at xs (h.log_of (term_at ys y.at)) → voters_after vs xs ≡ voters_after vs (take x.at (h.log_of (term_at ys y.at))) → change_at vs (h.log_of (term_at ys y.at)) y.at ≡ true → Near (voters_after vs xs) (voters_after vs ys)
    beyond same lt is xa at_x there =
        let t = term_at ys y.at in
        let c : ChangeOk vs h t x.at = subst (λ t. ChangeOk vs h t x.at) same (change_of x.at ok sx x.within is) in
        let has = cy.at t c.at (below y.at) c.settled in
        let within = term_at-within ys c.at t has c.settled.term in
        let yl : Agree c.at ys (h.log_of t) = subst (λ t. Agree c.at ys (h.log_of t)) has (sy.at c.at within) in
        let low : y.at ≤ c.at = ⊎_elim (λ (q : c.at < y.at). off (sym (c.prior y.at q lt) ∙ there)) (λ (q : y.at ≤ c.at). q) (cases_lt c.at y.at) in
        near_along at_x (conf_last vs ys y c.at low within ∙ conf_agree vs yl) (near_sym c.near)

    some : change_at vs ys y.at ≡ true → Near (voters_after vs xs) (voters_after vs ys)
    some e =
        let t = term_at ys y.at in
        let c = change_of y.at ok sy y.within e in
        let log = h.log_of t in
        let yl = sy.at y.at y.within in
        let has = cx.at t c.at (below y.at) c.settled in
        let within = term_at-within xs c.at t has c.settled.term in
        let xl : Agree c.at xs log = subst (λ t. Agree c.at xs (h.log_of t)) has (sx.at c.at within) in
        let at_y : voters_after vs ys ≡ voters_after vs (take y.at log) = conf_last vs ys y y.at (omega arith) y.within ∙ conf_agree vs yl in
        ⊎_elim
        (λ (later : c.at < x.at).
        let up = sorted vs c.at x.at ok sx (omega arith) x.within in
        let same : term_at xs x.at ≡ t = omega arith in
        let xa : Agree x.at xs log = subst (λ t. Agree x.at xs (h.log_of t)) same (sx.at x.at x.within) in
        let at_x : voters_after vs xs ≡ voters_after vs (take x.at log) = conf_last vs xs x x.at (omega arith) x.within ∙ conf_agree vs xa in
        let is : change_at vs xs x.at ≡ true = ⊎_elim (λ (z : x.at ≡ 0). absurd (omega arith)) (λ (z : change_at vs xs x.at ≡ true). z) x.is in
        let in_log : change_at vs log x.at ≡ true = sym (agree_change vs x.at (omega arith) xa) ∙ is in
        ⊎_elim
        (λ (q : x.at < y.at). off (sym (c.prior x.at later q) ∙ in_log))
        (λ (q : y.at ≤ x.at).
        ⊎_elim (λ (r : x.at ≡ y.at). equal (at_x ∙ ap (λ n. voters_after vs (take n log)) r ∙ sym at_y))
        (λ (r : x.at ≢ y.at). beyond same (omega arith) is xa at_x (sym (agree_change vs y.at (omega arith) yl) ∙ e))
        (cases_eq x.at y.at))
        (cases_lt x.at y.at))
        (λ (early : x.at ≤ c.at). near_along (conf_last vs xs x c.at early within ∙ conf_agree vs xl) at_y c.near)
        (cases_lt c.at x.at)

pub near_logs : {vs : Setup} {h : Hist} {xs ys : List Entry} (u : ℕ) → HistOk vs h → Sound h xs → Sound h ys → Complete vs h xs u → Complete vs h ys u → ((i : ℕ) → term_at xs i < u) → ((i : ℕ) → term_at ys i < u) → Near (voters_after vs xs) (voters_after vs ys)
near_logs {vs} {h} {xs} {ys} u ok sx sy cx cy bx voters_of =
    let x = find_change vs xs (length xs) in
    let y = find_change vs ys (length ys) in
    ⊎_elim
    (λ (q : term_at ys y.at < term_at xs x.at). near_sym (near_le u ok sy sx cy cx bx y x (omega arith)))
    (λ (q : term_at xs x.at ≤ term_at ys y.at). near_le u ok sx sy cx cy voters_of x y q)
    (cases_lt (term_at ys y.at) (term_at xs x.at))
