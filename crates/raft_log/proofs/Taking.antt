-- What a log is after it has taken entries past a place.
use Rattle.std.proofs.Common.{◌≡◌, ◌≢◌, ◌⊎◌, ℕ, suc, ◌+◌, ◌-◌, ◌<◌, ◌≤◌, List, ◌++◌, length, take, drop, sym, ap, subst, ◌∙◌, arith, length-append, length-drop}
use Rattle.std.specs.Prelude.{max, true, Option, Some, None, Result, Ok, Err, IfOk, OnErr, option_map}
use Rattle.std.proofs.lemmas.List.{length-take-le}
use Rattle.std.proofs.Math.Seq.{drop-append-add}
use Rattle.raft_spec.specs.Log.{Entry, LogEnd, nth_term, accept}
use Rattle.raft_spec.specs.Compaction.{CutLog, compacted, whole_log, meets, Matches, StartsAt}
use Rattle.raft_spec.proofs.Merges.{Alike}
use Rattle.raft_spec.proofs.AcceptPlaces.{accept_stays, accept_moves, accept_starts, accept_past_cut}
use Rattle.raft_spec.proofs.NodeValues.{compacted_length}
use Rattle.raft_log.specs.Agreeing.{agreeing_front, TakesIn, TakesAfter}
use Rattle.raft_log.proofs.Agreeing.{front_alike, front_stops, front_short}
use Rattle.raft_log.proofs.Places.{meets_parts}

-- the log with these entries
abbrev pub with_entries : CutLog → List Entry → CutLog
with_entries l es = record { first = l.first; entries = es }

alike : (old es : List Entry) (place n : ℕ) → agreeing_front (drop place old) es ≡ n → Alike n (drop place old) es
alike old es place n e = subst (λ m. Alike m (drop place old) es) e (front_alike (drop place old) es)

stops : (old es : List Entry) (place n : ℕ) → agreeing_front (drop place old) es ≡ n → n < length es → (n ≡ length (drop place old)) ⊎ (nth_term (drop place old) n ≢ nth_term es n)
stops old es place n e lt = subst (λ m. m < length es → (m ≡ length (drop place old)) ⊎ (nth_term (drop place old) m ≢ nth_term es m)) e (front_stops (drop place old) es) lt

-- the entries are those of the rule
pub entries_taken : (old new es : List Entry) (place : ℕ) (from : Option ℕ) → TakesIn old new place es from → new ≡ accept old place es
entries_taken old new es place None t = t.1 ∙ sym (accept_stays old es place (alike old es place (length es) t.0))
entries_taken old new es place (Some n) t = t.2 ∙ sym (accept_moves n old es place (alike old es place n t.0) t.1 (stops old es place n t.0 t.1))

-- the rest past the cut
pub rest : (l : CutLog) (after : ℕ) → l.first.index ≤ after → drop after (whole_log l) ≡ drop (after - l.first.index) l.entries
rest l after le =
    let n = compacted_length l.first l.first.index in
    let at : after ≡ length (compacted l.first l.first.index) + (after - l.first.index) = omega arith in
    ap (λ k. drop k (whole_log l)) at ∙ drop-append-add (compacted l.first l.first.index) l.entries (after - l.first.index)

-- the whole log is that of the rule
pub whole_taken : (l : CutLog) (new es : List Entry) (after : ℕ) (from : Option ℕ) → l.first.index ≤ after → TakesIn l.entries new (after - l.first.index) es from → whole_log (with_entries l new) ≡ accept (whole_log l) after es
whole_taken l new es after from le t =
    ap (λ x. compacted l.first l.first.index ++ x) (entries_taken l.entries new es (after - l.first.index) from t) ∙ sym (accept_past_cut l.first l.first.index l.entries es after le)

-- and it begins to be another one if the answer says
pub whole_starts : (l : CutLog) (new es : List Entry) (after : ℕ) (from : Option ℕ) → l.first.index ≤ after → after ≤ length (whole_log l) → TakesIn l.entries new (after - l.first.index) es from → StartsAt (whole_log l) (whole_log (with_entries l new)) (option_map (λ n. suc (after + n)) from)
whole_starts l new es after None le within t = ap (λ x. compacted l.first l.first.index ++ x) t.1
whole_starts l new es after (Some n) le within t =
    let place = after - l.first.index in
    let r = rest l after le in
    let same : Alike n (drop after (whole_log l)) es = subst (λ xs. Alike n xs es) (sym r) (alike l.entries es place n t.0) in
    let stop : (n ≡ length (drop after (whole_log l))) ⊎ (nth_term (drop after (whole_log l)) n ≢ nth_term es n) = subst (λ xs. (n ≡ length xs) ⊎ (nth_term xs n ≢ nth_term es n)) (sym r) (stops l.entries es place n t.0 t.1) in
    subst (λ new. StartsAt (whole_log l) new (Some (suc (after + n)))) (sym (whole_taken l new es after (Some n) le t)) (accept_starts n (whole_log l) es after within same t.1 stop)

-- how long the entries can be then
pub taken_length : {E : Type 0} (r : Result (Option ℕ) E) (old new es : List Entry) (place : ℕ) → place ≤ length old → IfOk r (λ from. TakesIn old new place es from) → OnErr r (new ≡ old) → length new ≤ max (length old) (place + length es)
taken_length (Ok None) old new es place le t k = let e = ap length t.1 in omega arith
taken_length (Ok (Some n)) old new es place le t k =
    let short = front_short (drop place old) es in
    let all = length-drop place old in
    let front = t.0 in
    let lt = t.1 in
    let within : place + n ≤ length old = omega arith in
    let size = ap length t.2 ∙ length-append (take (place + n) old) (drop n es) in
    let taken = length-take-le (place + n) old within in
    let left = length-drop n es in
    omega arith
taken_length (Err x) old new es place le t k = let e = ap length k in omega arith

-- so the answer says what the rule says
pub answered : (old new : CutLog) (es : List Entry) (prev : LogEnd) (index : ℕ) (said : Option ℕ) → new.first ≡ old.first → meets old prev ≡ true → index ≡ prev.index + length es → TakesAfter old new prev.index es said → Matches old new prev es index said
answered old new es prev index said f m i t =
    let parts = meets_parts old prev m in
    let w : whole_log new ≡ whole_log (with_entries old new.entries) = ap (λ (e : LogEnd). compacted e e.index ++ new.entries) f in
    let starts = whole_starts old new.entries es prev.index t.0 parts.0 parts.1 t.2 in
    (m, i, w ∙ whole_taken old new.entries es prev.index t.0 parts.0 t.2, subst (λ x. StartsAt (whole_log old) x said) (sym w) (subst (λ o. StartsAt (whole_log old) (whole_log (with_entries old new.entries)) o) (sym t.1) starts))
