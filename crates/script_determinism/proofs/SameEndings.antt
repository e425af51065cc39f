-- Statements whose runs end alike, except for the numbers of transactions, come to the
-- same.
use Rattle.std.proofs.Common.{◌≡◌, ℕ, suc, ◌+◌, Bool, true, false, cond, List, [], ◌∷◌, length, Option, Some, None, refl, sym, ap, ◌∙◌}
use Rattle.std.specs.Prelude.{◌&&◌}
use Rattle.dq_base.specs.declared.images.Image.{Image}
use Rattle.dq_base.specs.declared.pages.NumberedPage.{NumberedPage}
use Rattle.dq_base.specs.Images.{page_count}
use Rattle.dq_base.specs.Changes.{changed}
use Rattle.sql_engine.specs.declared.answer.StatementResult.{StatementResult}
use Rattle.sql_engine.specs.Replies.{Statement}
use Rattle.session_spec.specs.Causes.{Cause, LogFull}
use Rattle.session_spec.specs.Entries.{Content}
use Rattle.session_spec.specs.Machine.{Machine}
use Rattle.session_spec.specs.Engines.{no_pages, Ending, Lacking, TooLarge, Stopped, Ended}
use Rattle.session_spec.specs.Sessions.{Reply, Writing, Lent, Transaction, Session, Gateway, View, Note, Inside, Outside, Turned, Answers, Proposes, Lends}
use Rattle.session_spec.specs.Limits.{first_cause, change_refusal, log_full}
use Rattle.session_spec.specs.Requests.{with_flight, with_later, worked, flying, unless, row_cause, reply_of, change_of, outside_write, outside, inside, job_of, was_cut, read_outside}
use Rattle.node_core.specs.Plain.{plain_ran, plain_reply, plain_session}
use Rattle.script_determinism.proofs.CellAnswers.{plain_end}
use Rattle.script_determinism.proofs.PlainAsking.{plain_turned, both, unless_both}

reply_plain : (rows : Bool) (r : StatementResult) → plain_reply (reply_of rows r) ≡ plain_reply (reply_of rows (plain_ran r))
reply_plain true r = refl
reply_plain false r = refl

answers_plain : (s : Session) (rows : Bool) (r : StatementResult) (note : Note) → plain_turned (Answers s (reply_of rows r) note) ≡ plain_turned (Answers s (reply_of rows (plain_ran r)) note)
answers_plain s rows r note = ap (λ (x : Reply). Answers (plain_session s) x note) (reply_plain rows r)

flying_plain : (v : View) (s : Session) (name : List ℕ) (contents : List Content) (pages : ℕ) (rows : Bool) (r : StatementResult) (note : Note)
    → plain_turned (Proposes (flying v s name contents pages (Writing (reply_of rows r))) contents note) ≡ plain_turned (Proposes (flying v s name contents pages (Writing (reply_of rows (plain_ran r)))) contents note)
flying_plain v s name contents pages rows r note =
    ap (λ (x : Reply). Proposes (with_flight (plain_session s) (Some (record { name = name; first = suc v.last; last = v.last + length contents; term = v.term; pages = pages; kind = Writing x }))) contents note) (reply_plain rows r)

-- a read outside a transaction, and a write
abbrev told_outside : Session → List Statement → Bool → StatementResult → Turned
told_outside s ss rows r = unless (row_cause rows r None) (Answers s (reply_of rows r) (Outside s.database ss))

abbrev proposed : View → Session → List Statement → Bool → List NumberedPage → Image → StatementResult → Turned
proposed v s ss rows pages to r = Proposes (flying v s s.database (change_of v s.database pages) (page_count to) (Writing (reply_of rows r))) (change_of v s.database pages) (Outside s.database ss)

told_plain : (s : Session) (ss : List Statement) (rows : Bool) (r : StatementResult) → plain_turned (told_outside s ss rows r) ≡ plain_turned (told_outside s ss rows (plain_ran r))
unfolding row_cause
told_plain s ss rows r = unless_both (row_cause rows r None) (Answers s (reply_of rows r) (Outside s.database ss)) (Answers s (reply_of rows (plain_ran r)) (Outside s.database ss)) (answers_plain s rows r (Outside s.database ss))

write_plain : (v : View) (m : Machine) (g : Gateway) (conn : ℕ) (s : Session) (ss : List Statement) (rows : Bool) (pages : List NumberedPage) (to : Image) (r : StatementResult)
    → plain_turned (outside_write v m g conn s ss rows pages to r) ≡ plain_turned (outside_write v m g conn s ss rows pages to (plain_ran r))
unfolding outside_write row_cause
write_plain v m g conn s ss rows pages to r =
    unless_both (first_cause (log_full v) LogFull (row_cause rows r (change_refusal m g conn s.database (m.base s.database).newest pages to))) (proposed v s ss rows pages to r) (proposed v s ss rows pages to (plain_ran r))
    (flying_plain v s s.database (change_of v s.database pages) (page_count to) rows r (Outside s.database ss))

outside_plain : (v : View) (m : Machine) (g : Gateway) (conn : ℕ) (s : Session) (ss : List Statement) (rows : Bool) (e : Ending)
    → plain_turned (outside v m g conn s ss rows e) ≡ plain_turned (outside v m g conn s ss rows (plain_end e))
unfolding outside row_cause
outside_plain v m g conn s ss rows Lacking = refl
outside_plain v m g conn s ss rows (TooLarge r) = refl
outside_plain v m g conn s ss rows (Stopped fault) = refl
outside_plain v m g conn s ss rows (Ended to r) =
    let pages = changed (m.base s.database).image to in
    both (no_pages pages) (told_outside s ss rows r) (outside_write v m g conn s ss rows pages to r) (told_outside s ss rows (plain_ran r)) (outside_write v m g conn s ss rows pages to (plain_ran r)) (told_plain s ss rows r) (write_plain v m g conn s ss rows pages to r)

-- the same inside a transaction
abbrev told_inside : Option Cause → Session → Transaction → List Statement → Bool → Image → Bool → StatementResult → Turned
told_inside hinders s x ss rows to turn r = unless (row_cause rows r hinders) (Answers (worked s x to turn) (reply_of rows r) (Inside x.name ss))

inside_told : (hinders : Option Cause) (s : Session) (x : Transaction) (ss : List Statement) (rows : Bool) (to : Image) (turn : Bool) (r : StatementResult) → plain_turned (told_inside hinders s x ss rows to turn r) ≡ plain_turned (told_inside hinders s x ss rows to turn (plain_ran r))
unfolding row_cause
inside_told hinders s x ss rows to turn r = unless_both (row_cause rows r hinders) (Answers (worked s x to turn) (reply_of rows r) (Inside x.name ss)) (Answers (worked s x to turn) (reply_of rows (plain_ran r)) (Inside x.name ss)) (answers_plain (worked s x to turn) rows r (Inside x.name ss))

inside_plain : (m : Machine) (g : Gateway) (conn : ℕ) (s : Session) (x : Transaction) (ss : List Statement) (rows : Bool) (e : Ending)
    → plain_turned (inside m g conn s x ss rows e) ≡ plain_turned (inside m g conn s x ss rows (plain_end e))
unfolding inside row_cause
inside_plain m g conn s x ss rows Lacking = refl
inside_plain m g conn s x ss rows (TooLarge r) = refl
inside_plain m g conn s x ss rows (Stopped fault) = refl
inside_plain m g conn s x ss rows (Ended to r) =
    let pages = changed x.working to in
    let hinders = change_refusal m g conn x.name x.mark pages to in
    both (no_pages pages) (told_inside None s x ss rows to x.turn r) (told_inside hinders s x ss rows to true r) (told_inside None s x ss rows to x.turn (plain_ran r)) (told_inside hinders s x ss rows to true (plain_ran r))
    (inside_told None s x ss rows to x.turn r) (inside_told hinders s x ss rows to true r)

-- statements whose runs end alike give the same
pub outside_same : (v : View) (m : Machine) (g : Gateway) (conn : ℕ) (s : Session) (ss : List Statement) (rows : Bool) (e f : Ending) → plain_end e ≡ plain_end f
    → plain_turned (outside v m g conn s ss rows e) ≡ plain_turned (outside v m g conn s ss rows f)
outside_same v m g conn s ss rows e f same = outside_plain v m g conn s ss rows e ∙ ap (λ (x : Ending). plain_turned (outside v m g conn s ss rows x)) same ∙ sym (outside_plain v m g conn s ss rows f)

pub inside_same : (m : Machine) (g : Gateway) (conn : ℕ) (s : Session) (x : Transaction) (ss : List Statement) (rows : Bool) (e f : Ending) → plain_end e ≡ plain_end f
    → plain_turned (inside m g conn s x ss rows e) ≡ plain_turned (inside m g conn s x ss rows f)
inside_same m g conn s x ss rows e f same = inside_plain m g conn s x ss rows e ∙ ap (λ (y : Ending). plain_turned (inside m g conn s x ss rows y)) same ∙ sym (inside_plain m g conn s x ss rows f)

-- a query outside a transaction is lent by how running it ends, and not by the number of its transaction
cut_plain : (e : Ending) → was_cut (plain_end e) ≡ was_cut e
cut_plain Lacking = refl
cut_plain (TooLarge r) = refl
cut_plain (Stopped fault) = refl
cut_plain (Ended to r) = refl

abbrev lent : Machine → Session → Statement → Turned
lent m s statement = Lends (with_later s (Some (Lent statement))) (job_of m s statement)

read_plain : (v : View) (m : Machine) (g : Gateway) (conn : ℕ) (s : Session) (statement : Statement) (e : Ending)
    → plain_turned (read_outside v m g conn s statement e) ≡ plain_turned (read_outside v m g conn s statement (plain_end e))
read_plain v m g conn s statement e =
    both (v.readers && was_cut e) (lent m s statement) (outside v m g conn s (statement ∷ []) true e) (lent m s statement) (outside v m g conn s (statement ∷ []) true (plain_end e)) refl (outside_plain v m g conn s (statement ∷ []) true e)
    ∙ ap (λ (b : Bool). plain_turned (cond (v.readers && b) (lent m s statement) (outside v m g conn s (statement ∷ []) true (plain_end e)))) (sym (cut_plain e))

pub read_same : (v : View) (m : Machine) (g : Gateway) (conn : ℕ) (s : Session) (statement : Statement) (e f : Ending) → plain_end e ≡ plain_end f
    → plain_turned (read_outside v m g conn s statement e) ≡ plain_turned (read_outside v m g conn s statement f)
read_same v m g conn s statement e f same = read_plain v m g conn s statement e ∙ ap (λ (x : Ending). plain_turned (read_outside v m g conn s statement x)) same ∙ sym (read_plain v m g conn s statement f)
