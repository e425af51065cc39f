use Rattle.std.proofs.Common.{◌≡◌, ◌∙◌, length, drop, sym, ap, arith, ⊎_elim, length-drop}
use Rattle.std.specs.Prelude.{true, false, not}
use Rattle.std.proofs.lemmas.Bool.{cases_Bool}
use Rattle.raft_spec.specs.Log.{Entry, nth_term}
use Rattle.raft_log.specs.Agreeing.{has_term, agreeing_front}
use Rattle.raft_log.proofs.Places.{nth_entry}
use Rattle.raft_log.proofs.Agreeing.{front_more, front_here, front_short, front_within}
use Rattle.raft_log.proofs.queue.agreeing.Goals as goal

pub returns-then-not-is_of_term : goal.returns-then-not-is_of_term
returns-then-not-is_of_term c =
    let rest = drop c.args.place c.args.queue.now in
    let size = length-drop c.args.place c.args.queue.now in
    let short = front_short rest c.args.coming.now in
    let its : c.entry.inside.term ≡ nth_term c.args.coming.now c.loop-n.n = ap (λ (e : Entry). e.term) (c.entry.view_is ∙ c.index-coming-n.is) ∙ sym (nth_entry c.args.coming.now c.loop-n.n c.index-coming-n.result c.loop-n-test.true) in
    let differs : c.is_of_term.result ≡ false = ⊎_elim (λ (h : c.is_of_term.result ≡ true). let n = ap not h in let f = c.if-not-is_of_term.true in cc) (λ (h : c.is_of_term.result ≡ false). h) (cases_Bool c.is_of_term.result) in
    let here = front_here rest c.args.coming.now c.loop-n.n c.loop-n.invariant c.loop-n-test.true (ap (has_term rest c.loop-n.n) (sym its) ∙ sym c.is_of_term.ensures ∙ differs) in
    record { front = sym here; short = omega arith; within = omega arith }

pub loop-n-preserved : goal.loop-n-preserved
loop-n-preserved c =
    let rest = drop c.args.place c.args.queue.now in
    let its : c.entry.inside.term ≡ nth_term c.args.coming.now c.loop-n.n = ap (λ (e : Entry). e.term) (c.entry.view_is ∙ c.index-coming-n.is) ∙ sym (nth_entry c.args.coming.now c.loop-n.n c.index-coming-n.result c.loop-n-test.true) in
    let same : c.is_of_term.result ≡ true = ⊎_elim (λ (h : c.is_of_term.result ≡ true). h) (λ (h : c.is_of_term.result ≡ false). let n = ap not h in let f = c.if-not-is_of_term.false in cc) (cases_Bool c.is_of_term.result) in
    let more = front_more rest c.args.coming.now c.loop-n.n c.loop-n.invariant c.loop-n-test.true (ap (has_term rest c.loop-n.n) (sym its) ∙ sym c.is_of_term.ensures ∙ same) in
    omega arith

pub returns : goal.returns
returns c =
    let rest = drop c.args.place c.args.queue.now in
    let size = length-drop c.args.place c.args.queue.now in
    let short = front_short rest c.args.coming.now in
    let within = front_within rest c.args.coming.now in
    let front : length c.args.coming.now ≡ agreeing_front rest c.args.coming.now = let i = c.loop-n.invariant in omega arith in
    record { front = front; short = omega arith; within = omega arith }
