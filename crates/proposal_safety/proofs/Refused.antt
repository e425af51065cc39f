-- The wrong proposals and replies are refused.
use Rattle.std.proofs.Common.{◌≡◌, ◌≤◌, [], ◌∷◌, refl, sym, ap, ◌∙◌, subst, arith}
use Rattle.std.specs.Prelude.{Some, None, if◌then◌else◌}
use Rattle.std.proofs.lemmas.Bool.{eq-eqb}
use Rattle.std.proofs.lemmas.List.{append_cancel_left}
use Rattle.session_spec.specs.Entries.{Entry}
use Rattle.session_spec.specs.Sessions.{Refusal, Kind, Opening, Configuring, Writing, Committing, Querying, Flight, Refused}
use Rattle.session_safety.specs.Answering.{said_to}
use Rattle.session_safety.specs.Life.{tells}
use Rattle.session_safety.specs.Nodes.{Said}
use Rattle.proposal_safety.specs.Proposing.{kind_count, FirstIsLossIfRefused}
use Rattle.proposal_safety.specs.Wrong.{NoTwoChanges, NoLooseProposal, NoChangeForQuery, NoProposalForRefused, NoRefusedChange}
use Rattle.proposal_safety.proofs.Counting.{logs_grow_hold}

most_one : (kind : Kind) → kind_count kind ≤ 1
most_one Opening = omega arith
most_one (Configuring short) = omega arith
most_one (Writing reply) = omega arith
most_one Committing = omega arith
most_one (Querying statement) = omega arith

none_flies : (f : Flight) → None ≡ Some f → ⊥
none_flies f e = cc

no_more : (x : Entry) → [] ≡ x ∷ [] → ⊥
no_more x e = cc

pub no_two_changes : NoTwoChanges
no_two_changes s first second note x =
    let two : 2 ≡ kind_count x.flight.kind = x.count in
    absurd (omega (arith, two, most_one x.flight.kind))

pub no_loose_proposal : NoLooseProposal
no_loose_proposal s name note none x = none_flies x.flight (sym none ∙ x.is)

pub no_change_for_query : NoChangeForQuery
no_change_for_query s f statement name tx truncate pages note is of_kind x =
    let both : Some x.flight ≡ Some f = sym x.is ∙ is in
    let same : x.flight ≡ f = cc in
    let none : kind_count x.flight.kind ≡ 0 = ap (λ (g : Flight). kind_count g.kind) same ∙ ap (λ (k : Kind). kind_count k) of_kind in
    let one : 1 ≡ kind_count x.flight.kind = x.count in
    absurd (omega (arith, none, one))

pub no_proposal_for_refused : NoProposalForRefused
no_proposal_for_refused w conn cause x is =
    no_more x (append_cancel_left w.log [] (x ∷ []) (sym (logs_grow_hold w conn (Refused cause)) ∙ is))

pub no_refused_change : NoRefusedChange
no_refused_change w conn cause other x =
    let told : Said = tells conn (Refusal cause) in
    let more : told ∷ [] ≡ x.more = append_cancel_left w.said (told ∷ []) x.more x.said in
    let here : said_to conn x.more ≡ told ∷ [] = ap (said_to conn) (sym more) ∙ ap (λ b. if b then told ∷ [] else []) (eq-eqb conn conn refl) in
    other (subst FirstIsLossIfRefused here x.first)
