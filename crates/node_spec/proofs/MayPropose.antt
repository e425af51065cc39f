-- The outcome of a request may be proposed.
use Rattle.std.proofs.Common.{◌≡◌, inl, inr, ⊎_elim, ◌<◌, Bool, true, false, List, sym, subst}
use Rattle.std.specs.Prelude.{Option}
use Rattle.std.proofs.lemmas.Bool.{leb-false}
use Rattle.dq_base.specs.Changes.{changed}
use Rattle.session_spec.specs.Entries.{Content}
use Rattle.session_spec.specs.Laws.{IsChange, IsSole, ProposalIs}
use Rattle.session_spec.specs.Limits.{log_full}
use Rattle.session_spec.specs.Requests.{on_request, on_later}
use Rattle.session_spec.specs.Sessions.{Flight, View, Turned, Refused, Lacks, Answers, Proposes, Lends, Affects}
use Rattle.session_spec.proofs.Keeping.{proposes_pages_holds, laters_keep_hold}
use Rattle.session_safety.specs.Life.{ArePlain}
use Rattle.node_spec.specs.Turns.{MayPropose, AreSpelled, RequestsMayPropose, LatersMayPropose}
use Rattle.node_spec.proofs.Served.{Next, request_next, later_next}

sole_plain : (serving : Bool) (contents : List Content) → IsSole contents → ArePlain serving contents
sole_plain serving contents (inl x) = subst (ArePlain serving) (sym x.1) (tt, tt)
sole_plain serving contents (inr (inl x)) = subst (ArePlain serving) (sym x.1) (tt, tt)
sole_plain serving contents (inr (inr x)) = subst (ArePlain serving) (sym x) (tt, tt)

has_room : (v : View) → log_full v ≡ false → v.last < 4294900000
has_room v e = leb-false 4294900000 v.last e

may : (v : View) (leads : Bool) (old : Option Flight) (t : Turned) → (v.serving ≡ true → leads ≡ true) → Next v old t → ProposalIs v t → AreSpelled t → MayPropose v leads t
may v leads old (Refused cause) only n p s = tt
may v leads old Lacks only n p s = tt
may v leads old (Answers session reply note) only n p s = tt
may v leads old (Proposes session contents note) only n p s = (
  only n.3,
  s,
  ⊎_elim
      (λ (c : IsChange v contents). inr (c.name, changed c.from c.to, has_room v n.4, c.is))
      (λ (c : IsSole contents). inl (sole_plain v.serving contents c))
      p,
)
may v leads old (Lends session job) only n p s = tt
may v leads old (Affects effect) only n p s = tt

pub requests_may_propose_hold : RequestsMayPropose
requests_may_propose_hold v leads m g conn request answers only spelled =
    may v leads (g.session conn).flight (on_request v m g conn request answers) only (request_next v m g conn request answers) (proposes_pages_holds v m g conn request answers) spelled

pub laters_may_propose_hold : LatersMayPropose
laters_may_propose_hold v leads m g conn statement answers only spelled =
    may v leads (g.session conn).flight (on_later v m g conn statement answers) only (later_next v m g conn statement answers) (laters_keep_hold v m g conn statement answers).proposes spelled
