-- The wrong steps are refused.
use Rattle.std.proofs.Common.{◌≡◌, ⊎_elim, ℕ, true, false, true≢false, List, [], ◌∷◌, refl, sym, ap, ◌∙◌, subst}
use Rattle.std.specs.Prelude.{◌==◌, ◌||◌, not, is_none, Option, Some, None, if◌then◌else◌}
use Rattle.std.proofs.lemmas.Bool.{eq-eqb}
use Rattle.wire_msgs.specs.declared.response.Response.{Response}
use Rattle.wire_msgs.specs.declared.response.Response.TheVariants as responses
use Rattle.sql_engine.specs.Replies.{Statement}
use Rattle.dq_base.specs.declared.images.Image.{Image}
use Rattle.session_spec.specs.Asking.{files_of}
use Rattle.session_spec.specs.Sessions.{Prepared, Transaction, Kind}
use Rattle.headline.specs.Clients.{after_result}
use Rattle.headline.specs.Clients as client
use Rattle.client_view_safety.specs.Views.{KnowsLanded}
use Rattle.client_view_safety.specs.Wrong.{NoOtherStatement, NoStatementForWrongMessage, NoEmptyForDump, NoOtherDatabase, NoLostBegin, NoOpenAfterCommit, NoStatementAfterFinalize}

pub no_other_statement : NoOtherStatement
no_other_statement m s t apart is =
    let both : client.Runs false (s ∷ []) ≡ client.Runs false (t ∷ []) = is in
    let same : s ≡ t = cc in
    apart same

never_runs : (ss : List Statement) → client.Never ≡ client.Runs false ss → ⊥
never_runs ss e = cc

pub no_statement_for_wrong_message : NoStatementForWrongMessage
no_statement_for_wrong_message m s is = never_runs (s ∷ []) is

dump_other : (name : List ℕ) → client.Dumps name ≡ client.Other → ⊥
dump_other name e = cc

dump_empty : (name : List ℕ) → client.Dumps name ≡ client.Empties → ⊥
dump_empty name e = cc

empty_files : (name : List ℕ) (image : Image) → responses.Empty ≡ files_of name image → ⊥
empty_files name image e = cc

pub no_empty_for_dump : NoEmptyForDump
no_empty_for_dump m name is = ⊎_elim
    (λ other. dump_other name other)
    (λ h. ⊎_elim (λ empties. dump_empty name empties.0) (λ files. empty_files files.0 (m.base files.0).image files.2) h)
    is

pub no_other_database : NoOtherDatabase
no_other_database k place name barriers s contents note f is of_kind apart after =
    let answer : List Response = responses.Db 0 ∷ [] in
    let now = after_result k place answer (client.Opens name barriers) in
    let know = subst (λ (kind : Kind). KnowsLanded now s f kind) of_kind (after f is answer) in
    apart (sym know.name)

pub no_lost_begin : NoLostBegin
no_lost_begin k place s note none unlost after =
    let know = after.0 (responses.Result 0 0 ∷ []) refl in
    let same : false ≡ true = know.idle ∙ ap (λ (o : Option Transaction). not (not (is_none o) || s.lost)) none ∙ ap not unlost in
    true≢false (sym same)

pub no_open_after_commit : NoOpenAfterCommit
no_open_after_commit k place s note x open_now after =
    let know = after.0 (responses.Result 0 0 ∷ []) refl in
    let same : true ≡ false = know.idle ∙ ap (λ (o : Option Transaction). not (not (is_none o) || s.lost)) open_now in
    true≢false same

none_some : (p : Prepared) → None ≡ Some p → ⊥
none_some p e = cc

pub no_statement_after_finalize : NoStatementAfterFinalize
no_statement_after_finalize k place id s note p has after =
    let know = after.0 (responses.Empty ∷ []) refl in
    let gone : (if id == id then None else k.prepared id) ≡ None = ap (λ b. if b then None else k.prepared id) (eq-eqb id id refl) in
    none_some p (sym gone ∙ know.prepared id ∙ has)
