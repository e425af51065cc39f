-- If a log that has taken an Append's entries begins to be another one, and the same for a log that is compacted.
use Rattle.std.proofs.Common.{◌≡◌, ◌≢◌, ◌⊎◌, inl, inr, ℕ, zero, suc, ◌+◌, ◌-◌, ◌<◌, ◌≤◌, Some, List, [], ◌∷◌, ◌++◌, length, take, drop, refl, sym, ap, ◌∙◌, ⊎_elim, arith, append_assoc}
use Rattle.std.proofs.lemmas.List.{take-append-drop, length-take-le, length-drop, length-append}
use Rattle.std.proofs.Math.Seq.{take-add, take-append_seam, drop-append-add, take-append-add}
use Rattle.raft_spec.specs.Log.{Entry, LogEnd, nth_term, term_at, merged, accept}
use Rattle.raft_spec.specs.Compaction.{compacted, StartsAt}
use Rattle.raft_spec.proofs.Merges.{Alike, merged_stays, merged_moves}
use Rattle.raft_spec.proofs.NodeValues.{compacted_length, nth_past}

-- all entries that come agree: the log stays
pub accept_stays : (log es : List Entry) (prev : ℕ) → Alike (length es) (drop prev log) es → accept log prev es ≡ log
unfolding accept
accept_stays log es prev a = ap (λ l. take prev log ++ l) (merged_stays (drop prev log) es a) ∙ take-append-drop prev log

-- the first n agree, and there the log ends or the next differs: it keeps all up to there, and gets the rest
pub accept_moves : (n : ℕ) (log es : List Entry) (prev : ℕ) → Alike n (drop prev log) es → n < length es → (n ≡ length (drop prev log)) ⊎ (nth_term (drop prev log) n ≢ nth_term es n) → accept log prev es ≡ take (prev + n) log ++ drop n es
unfolding accept
accept_moves n log es prev a lt x =
    ap (λ l. take prev log ++ l) (merged_moves n (drop prev log) es a lt x) ∙ sym (append_assoc (take prev log) (take n (drop prev log)) (drop n es)) ∙ ap (λ l. l ++ drop n es) (sym (take-add prev n log))

pub nth_dropped : (p : ℕ) (xs : List Entry) (k : ℕ) → nth_term (drop p xs) k ≡ nth_term xs (p + k)
nth_dropped zero xs k = let e : k ≡ 0 + k = omega arith in ap (nth_term xs) e
nth_dropped (suc p) [] k = refl
nth_dropped (suc p) (x ∷ xs) k = let e : suc (p + k) ≡ suc p + k = omega arith in nth_dropped p xs k ∙ ap (nth_term (x ∷ xs)) e

-- the new log, if it is the first p entries of the old one and then others
pub starts : (p : ℕ) (log more new : List Entry) → p ≤ length log → 0 < length more → new ≡ take p log ++ more → (p ≡ length log) ⊎ (nth_term log p ≢ nth_term more 0) → StartsAt log new (Some (suc p))
unfolding term_at
starts p log more new le pos is x =
    let size : length (take p log) ≡ p = length-take-le p log le in
    let long : length new ≡ p + length more = ap length is ∙ length-append (take p log) more ∙ ap (λ k. k + length more) size in
    let less : suc p - 1 ≡ p = omega arith in
    let front : take p new ≡ take p log = ap (take p) is ∙ ap (λ k. take k (take p log ++ more)) (sym size) ∙ take-append_seam (take p log) more in
    let next : nth_term new p ≡ nth_term more 0 = ap (λ l. nth_term l p) is ∙ ap (nth_term (take p log ++ more)) (let e : p ≡ length (take p log) + 0 = omega arith in e) ∙ nth_past (take p log) more 0 in (
      omega arith,
      omega arith,
      ap (λ k. take k new) less ∙ front ∙ ap (λ k. take k log) (sym less),
      ⊎_elim (λ (e : p ≡ length log). inl (ap suc e)) (λ (d : nth_term log p ≢ nth_term more 0). inr (λ z. d (z ∙ next))) x,
    )

pub nth_next : (n : ℕ) (es : List Entry) → nth_term (drop n es) 0 ≡ nth_term es n
nth_next n es = nth_dropped n es 0 ∙ ap (nth_term es) (let e : n + 0 ≡ n = omega arith in e)

-- so that is where it begins to be another one
pub accept_starts : (n : ℕ) (log es : List Entry) (prev : ℕ) → prev ≤ length log → Alike n (drop prev log) es → n < length es → (n ≡ length (drop prev log)) ⊎ (nth_term (drop prev log) n ≢ nth_term es n) → StartsAt log (accept log prev es) (Some (suc (prev + n)))
accept_starts n log es prev le a lt x =
    let size = length-drop prev log in
    let in_rest = a.in_rest in
    let rest = length-drop n es in
    starts (prev + n) log (drop n es) (accept log prev es) (omega arith) (omega arith) (accept_moves n log es prev a lt x)
    (⊎_elim (λ (e : n ≡ length (drop prev log)). inl (omega arith))
    (λ (d : nth_term (drop prev log) n ≢ nth_term es n). inr (λ z. d (nth_dropped prev log n ∙ z ∙ nth_next n es)))
    x)

-- past the cut, what comes is taken into the entries that the log has
pub accept_past_cut : (first : LogEnd) (n : ℕ) (log es : List Entry) (prev : ℕ) → n ≤ prev → accept (compacted first n ++ log) prev es ≡ compacted first n ++ accept log (prev - n) es
unfolding accept
accept_past_cut first n log es prev le =
    let size = compacted_length first n in
    let at : prev ≡ length (compacted first n) + (prev - n) = omega arith in
    let front : take prev (compacted first n ++ log) ≡ compacted first n ++ take (prev - n) log = ap (λ k. take k (compacted first n ++ log)) at ∙ take-append-add (compacted first n) log (prev - n) in
    let rest : drop prev (compacted first n ++ log) ≡ drop (prev - n) log = ap (λ k. drop k (compacted first n ++ log)) at ∙ drop-append-add (compacted first n) log (prev - n) in
    ap (λ l. l ++ merged (drop prev (compacted first n ++ log)) es) front ∙ ap (λ l. (compacted first n ++ take (prev - n) log) ++ merged l es) rest
    ∙ append_assoc (compacted first n) (take (prev - n) log) (merged (drop (prev - n) log) es)
