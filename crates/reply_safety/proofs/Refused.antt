-- The wrong answers are refused.
use Rattle.std.proofs.Common.{◌≡◌, ℕ, List, [], ◌∷◌, sym, ap, ◌∙◌, subst}
use Rattle.std.specs.Prelude.{Some}
use Rattle.dq_base.specs.declared.images.Image.{Image}
use Rattle.sql_engine.specs.Meanings.{Meaning}
use Rattle.sql_engine.specs.Replies.{Statement, Reply as StatementReply}
use Rattle.sql_engine.specs.Runs.{RanAll}
use Rattle.session_spec.specs.Entries.{Content}
use Rattle.session_spec.specs.Sessions.{Reply, Rows, result, Kind, Flight, Transaction, Session, Note, Answers, Proposes}
use Rattle.session_safety.specs.Nodes.{Node}
use Rattle.reply_safety.specs.Resting.{IsLastReply, RanWithReply, newest_of, ProposalRests, StatementsRest, CommitRests}
use Rattle.reply_safety.specs.Wrong.{NoDroppedWrite, NoOtherWrite, NoOtherCount, NoStaleBegin, NoDroppedCommit, NoLostUpdate, NoOldReader, NoOtherQuery, NoOtherRows, NoOtherReading}

-- A language in which no statement runs, for the refusals that hold of each language in the same way.
pub silent : Meaning
silent = record { runs = λ before s after r. ⊥; refuses = λ image s r. ⊥ }

-- One statement ran, and the reply is its own.
record OneRan (m : Meaning) (from : Image) (statement : Statement) (to : Image) (reply : Reply) : Type 0 where
  own : StatementReply
  ran : m.runs from statement to own
  last : IsLastReply (own ∷ []) reply

one_of : (m : Meaning) (from to : Image) (statement : Statement) (reply : Reply) (rs : List StatementReply) → RanAll m from (statement ∷ []) to rs →
    IsLastReply rs reply → OneRan m from statement to reply
one_of m from to statement reply [] ran last =
    let none : ⊥ = ran in
    absurd none
one_of m from to statement reply (r ∷ []) ran last = record {
  own = r;
  ran = subst (λ i. m.runs from statement i r) ran.1.1 ran.1.0;
  last = last;
}
one_of m from to statement reply (r ∷ s ∷ rs) ran last =
    let none : ⊥ = ran.1.1 in
    absurd none

one_ran : (m : Meaning) (from to : Image) (statement : Statement) (reply : Reply) → RanWithReply m from (statement ∷ []) to reply →
    OneRan m from statement to reply
one_ran m from to statement reply x = one_of m from to statement reply x.replies x.ran x.last

-- a proposal of statements, by its kind
proposal_is : (m : Meaning) (w : Node) (conn : ℕ) (ss : List Statement) (s : Session) (contents : List Content) (note : Note) (f : Flight) (kind : Kind) →
    s.flight ≡ Some f → f.kind ≡ kind → StatementsRest m w conn (w.gate.session conn).tx ss (Proposes s contents note) →
    ProposalRests m w conn ss contents f kind
proposal_is m w conn ss s contents note f kind is of_kind rests =
    let both : Some rests.1.0 ≡ Some f = sym rests.1.1 ∙ is in
    let same : rests.1.0 ≡ f = cc in
    let here = subst (λ g. ProposalRests m w conn ss contents g g.kind) same rests.1.2 in
    subst (λ k. ProposalRests m w conn ss contents f k) of_kind here

pub no_dropped_write : (m : Meaning) → NoDroppedWrite m
no_dropped_write m w conn count statement s note out moves rests =
    let here = subst (λ o. StatementsRest m w conn o (statement ∷ []) (Answers s (result count) note)) out rests in
    let one = one_ran m (newest_of w conn) (newest_of w conn) statement (result count) here.1 in
    moves (newest_of w conn) one.own one.ran

pub no_other_write : (m : Meaning) → NoOtherWrite m
no_other_write m w conn statement s contents note f reply is of_kind never rests =
    let here = proposal_is m w conn (statement ∷ []) s contents note f _ is of_kind rests in
    let one = one_ran m (newest_of w conn) here.1.0 statement reply here.1.2 in
    never one.own (subst (λ i. m.runs (newest_of w conn) statement i one.own) (sym here.1.1.after) one.ran)

pub no_other_count : (m : Meaning) → NoOtherCount m
no_other_count m w conn count statement s note x inside other rests =
    let here = subst (λ o. StatementsRest m w conn o (statement ∷ []) (Answers s (result count) note)) inside rests in
    let one = one_ran m x.working here.0.working statement (result count) here.3 in
    let told : result count ≡ result one.own.affected = one.last in
    let same : one.own.affected ≡ count = cc in
    other x.working here.0.working one.own one.ran same

pub no_stale_begin : (m : Meaning) → NoStaleBegin m
no_stale_begin m w conn at_once s reply note x is apart rests =
    let both : Some rests.1.0 ≡ Some x = sym rests.1.1 ∙ is in
    let same : rests.1.0 ≡ x = cc in
    apart (ap (λ (t : Transaction). t.pinned) (sym same) ∙ rests.1.3)

pub no_dropped_commit : (m : Meaning) → NoDroppedCommit m
no_dropped_commit m w conn s reply note x is apart rests =
    let here = subst (λ o. CommitRests w o (Answers s reply note)) is rests in
    apart here.2

pub no_lost_update : (m : Meaning) → NoLostUpdate m
no_lost_update m w conn s contents note x is apart rests =
    let here = subst (λ o. CommitRests w o (Proposes s contents note)) is rests in
    apart here.5

pub no_old_reader : (m : Meaning) → NoOldReader m
no_old_reader m w conn statement s job apart rests = apart rests.3

pub no_other_query : (m : Meaning) → NoOtherQuery m
no_other_query m w conn statement other s contents note f is of_kind apart rests =
    let here : statement ∷ [] ≡ other ∷ [] = proposal_is m w conn (statement ∷ []) s contents note f _ is of_kind rests in
    let same : other ≡ statement = cc in
    apart same

pub no_other_rows : (m : Meaning) → NoOtherRows m
no_other_rows m w conn statement s answer note out never rests =
    let here = subst (λ o. StatementsRest m w conn o (statement ∷ []) (Answers s (Rows answer) note)) out rests in
    let one = one_ran m (newest_of w conn) (newest_of w conn) statement (Rows answer) here.1 in
    never (newest_of w conn) (subst (λ r. m.runs (newest_of w conn) statement (newest_of w conn) r) one.last one.ran)

pub no_other_reading : (m : Meaning) → NoOtherReading m
no_other_reading m image statement answer never rests =
    let one = one_ran m image image statement (Rows answer) rests in
    never (subst (λ r. m.runs image statement image r) one.last one.ran)
