use Rattle.std.proofs.Common.{◌≡◌, List, [], ◌∷◌, Ok, get_or, refl, sym, ap, subst, ◌∙◌}
use Rattle.std.proofs.lemmas.Result.{IfOk-weaker}
use Rattle.wire_words.specs.declared.value.Value.{Value}
use Rattle.sql_engine.specs.Replies.{Statement}
use Rattle.session_statements.specs.Texts.{assigned}
use Rattle.session_spec.specs.Asking as asking
use Rattle.session_spec.specs.Statements.{with_all}
use Rattle.session_spec.specs.Sessions.{Prepared, Refused}
use Rattle.session_spec.specs.Machine.{machine_of}
use Rattle.session_spec.specs.Requests.{does}
use Rattle.session_table.specs.Named.{cause_named}
use Rattle.session_table.specs.Table.{session_of, table_of}
use Rattle.session_requests.specs.declared.wanted.RequestPlan.TheVariants as wanted
use Rattle.session_requests.specs.Meant.{CanRun, IsPlainCause}
use Rattle.session_outcomes.specs.declared.decision.Decision.TheVariants as decisions
use Rattle.session_gateway.specs.Calls.{MayConfigure}
use Rattle.session_gateway.proofs.Decided.{nothing_handed, never_unopened, creates_plain, changes_plain, begins_plain, commits_plain}
use Rattle.session_gateway.proofs.Numbering.{idle_agrees}
use Rattle.session_gateway.proofs.RunTurns.{ran}
use Rattle.session_gateway.proofs.Placed.{agree_there, allowed_there, allowed_at, fits_there, listed_there, outside_too, own_there, turned_there, came_there}
use Rattle.session_gateway.proofs.deciding.decision_of.Goals as goal

pub returns-in-Never-clause-ran : goal.returns-in-Never-clause-ran
unfolding does
returns-in-Never-clause-ran g c = λ own weight. turned_there c.args.sessions.now c.args.place c.index-known-place.result c.requires.within c.index-known-place.is _ _ c.args.call.now.view.now c.args.machine.now c.args.params c.args.wanted _ _ own weight _ (nothing_handed _ _ c.args.call.now.view.now (machine_of c.args.machine.now) (table_of c.args.machine.now c.args.sessions.now weight) c.index-known-place.result.conn (session_of c.args.machine.now c.index-known-place.result) c.args.params c.args.wanted _ _ _ c.in-Never.is refl refl)

pub returns-in-Never-clause-unopened : goal.returns-in-Never-clause-unopened
returns-in-Never-clause-unopened g c = λ e.
    let plain : IsPlainCause (cause_named c.in-Never.cause) = allowed_there c.args.sessions.now c.args.place c.index-known-place.result c.requires.within c.index-known-place.is c.args.call.now.view.now c.args.machine.now c.args.params c.args.wanted _ c.in-Never.is c.requires.can in
    absurd (never_unopened c.args.call.now.view.now (machine_of c.args.machine.now) (session_of c.args.machine.now c.index-known-place.result) (Refused (cause_named c.in-Never.cause)) (decisions.Refused c.in-Never.cause) plain refl e)

pub returns-in-Sets-clause-ran : goal.returns-in-Sets-clause-ran
unfolding does
returns-in-Sets-clause-ran g c = λ own weight. turned_there c.args.sessions.now c.args.place c.index-known-place.result c.requires.within c.index-known-place.is _ _ c.args.call.now.view.now c.args.machine.now c.args.params c.args.wanted _ _ own weight _ (nothing_handed _ _ c.args.call.now.view.now (machine_of c.args.machine.now) (table_of c.args.machine.now c.args.sessions.now weight) c.index-known-place.result.conn (session_of c.args.machine.now c.index-known-place.result) c.args.params c.args.wanted _ _ _ c.in-Sets.is refl refl)

pub returns-in-Tells-clause-ran : goal.returns-in-Tells-clause-ran
returns-in-Tells-clause-ran g c = λ own weight. turned_there c.args.sessions.now c.args.place c.index-known-place.result c.requires.within c.index-known-place.is _ _ c.args.call.now.view.now c.args.machine.now c.args.params c.args.wanted _ _ own weight _ (nothing_handed _ _ c.args.call.now.view.now (machine_of c.args.machine.now) (table_of c.args.machine.now c.args.sessions.now weight) c.index-known-place.result.conn (session_of c.args.machine.now c.index-known-place.result) c.args.params c.args.wanted _ _ c.telling.result c.in-Tells.is refl (c.telling.ensures.comes c.args.call.now.view.now (machine_of c.args.machine.now) (table_of c.args.machine.now c.args.sessions.now weight) c.index-known-place.result.conn (session_of c.args.machine.now c.index-known-place.result) []))

pub returns-in-Forgets-clause-ran : goal.returns-in-Forgets-clause-ran
returns-in-Forgets-clause-ran g c = λ own weight. turned_there c.args.sessions.now c.args.place c.index-known-place.result c.requires.within c.index-known-place.is _ _ c.args.call.now.view.now c.args.machine.now c.args.params c.args.wanted _ _ own weight _ (nothing_handed _ _ c.args.call.now.view.now (machine_of c.args.machine.now) (table_of c.args.machine.now c.args.sessions.now weight) c.index-known-place.result.conn (session_of c.args.machine.now c.index-known-place.result) c.args.params c.args.wanted _ _ c.forgetting.result c.in-Forgets.is refl (c.forgetting.ensures.comes c.args.call.now.view.now (machine_of c.args.machine.now) (table_of c.args.machine.now c.args.sessions.now weight) c.index-known-place.result.conn (session_of c.args.machine.now c.index-known-place.result) []))

pub returns-in-Tells-clause-unopened : goal.returns-in-Tells-clause-unopened
unfolding does
returns-in-Tells-clause-unopened g c = λ e. absurd (never_unopened c.args.call.now.view.now (machine_of c.args.machine.now) (session_of c.args.machine.now c.index-known-place.result) (does c.args.call.now.view.now (machine_of c.args.machine.now) (table_of c.args.machine.now c.args.sessions.now 0) c.index-known-place.result.conn (session_of c.args.machine.now c.index-known-place.result) (asking.Tells c.in-Tells.response) []) c.telling.result tt (c.telling.ensures.comes c.args.call.now.view.now (machine_of c.args.machine.now) (table_of c.args.machine.now c.args.sessions.now 0) c.index-known-place.result.conn (session_of c.args.machine.now c.index-known-place.result) []) e)

pub returns-in-Forgets-clause-unopened : goal.returns-in-Forgets-clause-unopened
unfolding does
returns-in-Forgets-clause-unopened g c = λ e. absurd (never_unopened c.args.call.now.view.now (machine_of c.args.machine.now) (session_of c.args.machine.now c.index-known-place.result) (does c.args.call.now.view.now (machine_of c.args.machine.now) (table_of c.args.machine.now c.args.sessions.now 0) c.index-known-place.result.conn (session_of c.args.machine.now c.index-known-place.result) (asking.Forgets c.in-Forgets.response) []) c.forgetting.result tt (c.forgetting.ensures.comes c.args.call.now.view.now (machine_of c.args.machine.now) (table_of c.args.machine.now c.args.sessions.now 0) c.index-known-place.result.conn (session_of c.args.machine.now c.index-known-place.result) []) e)

pub returns-in-Opens-clause-ran : goal.returns-in-Opens-clause-ran
returns-in-Opens-clause-ran g c = λ own weight. turned_there c.args.sessions.now c.args.place c.index-known-place.result c.requires.within c.index-known-place.is _ _ c.args.call.now.view.now c.args.machine.now c.args.params c.args.wanted _ _ own weight _ (nothing_handed _ _ c.args.call.now.view.now (machine_of c.args.machine.now) (table_of c.args.machine.now c.args.sessions.now weight) c.index-known-place.result.conn (session_of c.args.machine.now c.index-known-place.result) c.args.params c.args.wanted _ _ c.opened.result c.in-Opens.is refl (c.opened.ensures.comes c.args.call.now.view.now (machine_of c.args.machine.now) (table_of c.args.machine.now c.args.sessions.now weight) c.index-known-place.result.conn (session_of c.args.machine.now c.index-known-place.result) []))

pub returns-in-Opens-clause-unopened : goal.returns-in-Opens-clause-unopened
unfolding does
returns-in-Opens-clause-unopened g c = λ e. absurd (never_unopened c.args.call.now.view.now (machine_of c.args.machine.now) (session_of c.args.machine.now c.index-known-place.result) (does c.args.call.now.view.now (machine_of c.args.machine.now) (table_of c.args.machine.now c.args.sessions.now 0) c.index-known-place.result.conn (session_of c.args.machine.now c.index-known-place.result) (asking.Opens c.in-Opens.name c.in-Opens.barriers) []) c.opened.result tt (c.opened.ensures.comes c.args.call.now.view.now (machine_of c.args.machine.now) (table_of c.args.machine.now c.args.sessions.now 0) c.index-known-place.result.conn (session_of c.args.machine.now c.index-known-place.result) []) e)

pub returns-in-Prepares-clause-ran : goal.returns-in-Prepares-clause-ran
returns-in-Prepares-clause-ran g c = λ own weight. turned_there c.args.sessions.now c.args.place c.index-known-place.result c.requires.within c.index-known-place.is _ _ c.args.call.now.view.now c.args.machine.now c.args.params c.args.wanted _ _ own weight _ (nothing_handed _ _ c.args.call.now.view.now (machine_of c.args.machine.now) (table_of c.args.machine.now c.args.sessions.now weight) c.index-known-place.result.conn (session_of c.args.machine.now c.index-known-place.result) c.args.params c.args.wanted _ _ c.preparing.result c.in-Prepares.is refl (c.preparing.ensures.comes c.args.call.now.view.now (machine_of c.args.machine.now) (table_of c.args.machine.now c.args.sessions.now weight) c.index-known-place.result.conn c.args.machine.now []))

pub returns-in-Prepares-clause-unopened : goal.returns-in-Prepares-clause-unopened
unfolding does
returns-in-Prepares-clause-unopened g c = λ e. absurd (never_unopened c.args.call.now.view.now (machine_of c.args.machine.now) (session_of c.args.machine.now c.index-known-place.result) (does c.args.call.now.view.now (machine_of c.args.machine.now) (table_of c.args.machine.now c.args.sessions.now 0) c.index-known-place.result.conn (session_of c.args.machine.now c.index-known-place.result) (asking.Prepares c.in-Prepares.prepared c.in-Prepares.tail) []) c.preparing.result tt (c.preparing.ensures.comes c.args.call.now.view.now (machine_of c.args.machine.now) (table_of c.args.machine.now c.args.sessions.now 0) c.index-known-place.result.conn c.args.machine.now []) e)

pub returns-in-Drops-clause-ran : goal.returns-in-Drops-clause-ran
returns-in-Drops-clause-ran g c = λ own weight. turned_there c.args.sessions.now c.args.place c.index-known-place.result c.requires.within c.index-known-place.is _ _ c.args.call.now.view.now c.args.machine.now c.args.params c.args.wanted _ _ own weight _ (nothing_handed _ _ c.args.call.now.view.now (machine_of c.args.machine.now) (table_of c.args.machine.now c.args.sessions.now weight) c.index-known-place.result.conn (session_of c.args.machine.now c.index-known-place.result) c.args.params c.args.wanted _ _ c.finalizing.result c.in-Drops.is refl (c.finalizing.ensures.comes c.args.call.now.view.now (machine_of c.args.machine.now) (table_of c.args.machine.now c.args.sessions.now weight) c.index-known-place.result.conn c.args.machine.now []))

pub returns-in-Drops-clause-unopened : goal.returns-in-Drops-clause-unopened
unfolding does
returns-in-Drops-clause-unopened g c = λ e. absurd (never_unopened c.args.call.now.view.now (machine_of c.args.machine.now) (session_of c.args.machine.now c.index-known-place.result) (does c.args.call.now.view.now (machine_of c.args.machine.now) (table_of c.args.machine.now c.args.sessions.now 0) c.index-known-place.result.conn (session_of c.args.machine.now c.index-known-place.result) (asking.Drops c.in-Drops.id) []) c.finalizing.result tt (c.finalizing.ensures.comes c.args.call.now.view.now (machine_of c.args.machine.now) (table_of c.args.machine.now c.args.sessions.now 0) c.index-known-place.result.conn c.args.machine.now []) e)

pub returns-in-Begins-clause-ran : goal.returns-in-Begins-clause-ran
returns-in-Begins-clause-ran g c = λ own weight. turned_there c.args.sessions.now c.args.place c.index-known-place.result c.requires.within c.index-known-place.is _ _ c.args.call.now.view.now c.args.machine.now c.args.params c.args.wanted _ _ own weight _ (nothing_handed _ _ c.args.call.now.view.now (machine_of c.args.machine.now) (table_of c.args.machine.now c.args.sessions.now weight) c.index-known-place.result.conn (session_of c.args.machine.now c.index-known-place.result) c.args.params c.args.wanted _ _ c.beginning.result c.in-Begins.is refl (c.beginning.ensures.comes c.args.call.now.view.now c.args.machine.now weight []))

pub returns-in-Begins-clause-unopened : goal.returns-in-Begins-clause-unopened
returns-in-Begins-clause-unopened g c = λ e. absurd (never_unopened c.args.call.now.view.now (machine_of c.args.machine.now) (session_of c.args.machine.now c.index-known-place.result) (does c.args.call.now.view.now (machine_of c.args.machine.now) (table_of c.args.machine.now c.args.sessions.now 0) c.index-known-place.result.conn (session_of c.args.machine.now c.index-known-place.result) (asking.Begins c.in-Begins.at_once) []) c.beginning.result (begins_plain c.args.call.now.view.now (machine_of c.args.machine.now) (table_of c.args.machine.now c.args.sessions.now 0) c.index-known-place.result.conn (session_of c.args.machine.now c.index-known-place.result) [] c.in-Begins.at_once) (c.beginning.ensures.comes c.args.call.now.view.now c.args.machine.now 0 []) e)

pub returns-in-RollsBack-clause-ran : goal.returns-in-RollsBack-clause-ran
unfolding does
returns-in-RollsBack-clause-ran g c = λ own weight. turned_there c.args.sessions.now c.args.place c.index-known-place.result c.requires.within c.index-known-place.is _ _ c.args.call.now.view.now c.args.machine.now c.args.params c.args.wanted _ _ own weight _ (nothing_handed _ _ c.args.call.now.view.now (machine_of c.args.machine.now) (table_of c.args.machine.now c.args.sessions.now weight) c.index-known-place.result.conn (session_of c.args.machine.now c.index-known-place.result) c.args.params c.args.wanted _ _ _ c.in-RollsBack.is refl (refl, refl))

pub returns-in-Creates-clause-ran : goal.returns-in-Creates-clause-ran
returns-in-Creates-clause-ran g c = λ own weight. came_there c.args.sessions.now c.args.place c.index-known-place.result c.requires.within c.index-known-place.is _ _ c.args.call.now.view.now c.args.machine.now c.args.params c.args.wanted _ _ own weight c.creating.result (IfOk-weaker c.creating.result _ _ (λ decision h. nothing_handed _ _ c.args.call.now.view.now (machine_of c.args.machine.now) (table_of c.args.machine.now c.args.sessions.now weight) c.index-known-place.result.conn (session_of c.args.machine.now c.index-known-place.result) c.args.params c.args.wanted _ _ decision c.in-Creates.is refl h) (c.creating.ensures.comes weight c.index-known-place.result.conn []))

pub returns-in-Creates-clause-unopened : goal.returns-in-Creates-clause-unopened
returns-in-Creates-clause-unopened g c = IfOk-weaker c.creating.result _ _ (λ decision h e. absurd (never_unopened c.args.call.now.view.now (machine_of c.args.machine.now) (session_of c.args.machine.now c.index-known-place.result) (does c.args.call.now.view.now (machine_of c.args.machine.now) (table_of c.args.machine.now c.args.sessions.now 0) c.index-known-place.result.conn (session_of c.args.machine.now c.index-known-place.result) (asking.Creates c.in-Creates.name c.in-Creates.barriers) []) decision (creates_plain c.args.call.now.view.now (machine_of c.args.machine.now) (table_of c.args.machine.now c.args.sessions.now 0) c.index-known-place.result.conn (session_of c.args.machine.now c.index-known-place.result) [] c.in-Creates.name c.in-Creates.barriers) h e)) (c.creating.ensures.comes 0 c.index-known-place.result.conn [])

pub returns-in-Commits-clause-ran : goal.returns-in-Commits-clause-ran
returns-in-Commits-clause-ran g c = λ own weight. came_there c.args.sessions.now c.args.place c.index-known-place.result c.requires.within c.index-known-place.is _ _ c.args.call.now.view.now c.args.machine.now c.args.params c.args.wanted _ _ own weight c.committing.result (IfOk-weaker c.committing.result _ _ (λ decision h. nothing_handed _ _ c.args.call.now.view.now (machine_of c.args.machine.now) (table_of c.args.machine.now c.args.sessions.now weight) c.index-known-place.result.conn (session_of c.args.machine.now c.index-known-place.result) c.args.params c.args.wanted _ _ decision c.in-Commits.is refl h) (c.committing.ensures.comes weight []))

pub returns-in-Commits-clause-unopened : goal.returns-in-Commits-clause-unopened
returns-in-Commits-clause-unopened g c = IfOk-weaker c.committing.result _ _ (λ decision h e. absurd (never_unopened c.args.call.now.view.now (machine_of c.args.machine.now) (session_of c.args.machine.now c.index-known-place.result) (does c.args.call.now.view.now (machine_of c.args.machine.now) (table_of c.args.machine.now c.args.sessions.now 0) c.index-known-place.result.conn (session_of c.args.machine.now c.index-known-place.result) asking.Commits []) decision (commits_plain c.args.call.now.view.now (machine_of c.args.machine.now) (table_of c.args.machine.now c.args.sessions.now 0) c.index-known-place.result.conn (session_of c.args.machine.now c.index-known-place.result) []) h e)) (c.committing.ensures.comes 0 [])

-- ---- statements that ran

pub returns-in-RunsOne-clause-ran : goal.returns-in-RunsOne-clause-ran
returns-in-RunsOne-clause-ran g c = λ own weight.
    let these : Statement = record { text = c.as_str-text.result.now; params = c.as_slice-params.result.now } in
    let one : Statement = with_all c.in-RunsOne.prepared c.args.params in
    let its_text = c.as_str-text.ensures.same ∙ ap (λ (p : Prepared). p.text) c.prepared.view_is in
    let same : these ∷ [] ≡ one ∷ [] = (λ i. record { text = its_text i; params = c.as_slice-params.ensures i } ∷ []) in
    came_there c.args.sessions.now c.args.place c.index-known-place.result c.requires.within c.index-known-place.is _ _ c.args.call.now.view.now c.args.machine.now c.args.params c.args.wanted _ _ own weight c.run_single.result
    (IfOk-weaker c.run_single.result _ _ (λ decision h. ran _ _ c.args.call.now.view.now (machine_of c.args.machine.now) (table_of c.args.machine.now c.args.sessions.now weight) c.index-known-place.result.conn (session_of c.args.machine.now c.index-known-place.result) _ _ decision c.args.params c.args.wanted _ (one ∷ []) (these ∷ []) c.in-RunsOne.is refl same h) (c.run_single.ensures.ran weight))

pub returns-in-RunsAll-clause-ran : goal.returns-in-RunsAll-clause-ran
returns-in-RunsAll-clause-ran g c = λ own weight.
    let there = get_or c.args.sessions.now c.args.place own in
    let script = c.in-RunsAll.script in
    let same = ap (assigned script.text script.pieces) c.as_slice-params-in-RunsAll.ensures in
    IfOk-weaker c.run_script.result _ _ (λ decision h. ran _ _ c.args.call.now.view.now (machine_of c.args.machine.now) (table_of c.args.machine.now c.args.sessions.now weight) there.conn (session_of c.args.machine.now there) _ _ decision c.args.params c.args.wanted _ (assigned script.text script.pieces c.args.params) (assigned script.text script.pieces c.as_slice-params-in-RunsAll.result.now) c.in-RunsAll.is refl same h) (c.run_script.ensures.ran own weight)

-- ---- no number represents two images

pub returns-in-Never-clause-agree : goal.returns-in-Never-clause-agree
returns-in-Never-clause-agree g c = λ own. idle_agrees _ _ c.args.call.now.number _ (Ok (decisions.Refused c.in-Never.cause)) (get_or c.args.sessions.now c.args.place own).transaction (λ tx. refl) c.requires.agree

pub returns-in-Sets-clause-agree : goal.returns-in-Sets-clause-agree
returns-in-Sets-clause-agree g c = λ own. idle_agrees _ _ c.args.call.now.number _ (Ok (decisions.Affects c.in-Sets.effect)) (get_or c.args.sessions.now c.args.place own).transaction (λ tx. refl) c.requires.agree

pub returns-in-Tells-clause-agree : goal.returns-in-Tells-clause-agree
returns-in-Tells-clause-agree g c = λ own. idle_agrees _ _ c.args.call.now.number _ (Ok c.telling.result) (get_or c.args.sessions.now c.args.place own).transaction c.telling.ensures.works c.requires.agree

pub returns-in-Forgets-clause-agree : goal.returns-in-Forgets-clause-agree
returns-in-Forgets-clause-agree g c = λ own. idle_agrees _ _ c.args.call.now.number _ (Ok c.forgetting.result) (get_or c.args.sessions.now c.args.place own).transaction c.forgetting.ensures.works c.requires.agree

pub returns-in-Opens-clause-agree : goal.returns-in-Opens-clause-agree
returns-in-Opens-clause-agree g c = λ own. idle_agrees _ _ c.args.call.now.number _ (Ok c.opened.result) (get_or c.args.sessions.now c.args.place own).transaction c.opened.ensures.works c.requires.agree

pub returns-in-Prepares-clause-agree : goal.returns-in-Prepares-clause-agree
returns-in-Prepares-clause-agree g c = λ own. idle_agrees _ _ c.args.call.now.number _ (Ok c.preparing.result) (get_or c.args.sessions.now c.args.place own).transaction c.preparing.ensures.works c.requires.agree

pub returns-in-Drops-clause-agree : goal.returns-in-Drops-clause-agree
returns-in-Drops-clause-agree g c = λ own. idle_agrees _ _ c.args.call.now.number _ (Ok c.finalizing.result) (get_or c.args.sessions.now c.args.place own).transaction c.finalizing.ensures.works c.requires.agree

pub returns-in-Begins-clause-agree : goal.returns-in-Begins-clause-agree
returns-in-Begins-clause-agree g c = λ own. idle_agrees _ _ c.args.call.now.number _ (Ok c.beginning.result) (get_or c.args.sessions.now c.args.place own).transaction c.beginning.ensures.works c.requires.agree

pub returns-in-RollsBack-clause-agree : goal.returns-in-RollsBack-clause-agree
returns-in-RollsBack-clause-agree g c = λ own. idle_agrees _ _ c.args.call.now.number _ (Ok decisions.Ends) (get_or c.args.sessions.now c.args.place own).transaction (λ tx. refl) c.requires.agree

pub returns-in-Creates-clause-agree : goal.returns-in-Creates-clause-agree
returns-in-Creates-clause-agree g c = λ own. idle_agrees _ _ c.args.call.now.number _ c.creating.result (get_or c.args.sessions.now c.args.place own).transaction c.creating.ensures.works c.requires.agree

pub returns-in-Commits-clause-agree : goal.returns-in-Commits-clause-agree
returns-in-Commits-clause-agree g c = λ own. idle_agrees _ _ c.args.call.now.number _ c.committing.result (get_or c.args.sessions.now c.args.place own).transaction c.committing.ensures.works c.requires.agree

pub returns-in-RunsOne-clause-agree : goal.returns-in-RunsOne-clause-agree
returns-in-RunsOne-clause-agree g c = λ own. agree_there c.args.sessions.now c.args.place c.index-known-place.result c.requires.within c.index-known-place.is _ _ _ c.run_single.result own c.run_single.ensures.agree

pub returns-in-Reads-clause-agree : goal.returns-in-Reads-clause-agree
returns-in-Reads-clause-agree g c = λ own. agree_there c.args.sessions.now c.args.place c.index-known-place.result c.requires.within c.index-known-place.is _ _ _ c.read_statement.result own c.read_statement.ensures.agree

pub run_single-requires-clause-own : goal.run_single-requires-clause-own
run_single-requires-clause-own g c = own_there c.args.sessions.now c.args.place c.index-known-place.result c.requires.within c.index-known-place.is

pub read_statement-requires-clause-own : goal.read_statement-requires-clause-own
read_statement-requires-clause-own g c = own_there c.args.sessions.now c.args.place c.index-known-place.result c.requires.within c.index-known-place.is

-- ---- what the calls require

pub creating-requires-clause-room : goal.creating-requires-clause-room
creating-requires-clause-room g c = allowed_there c.args.sessions.now c.args.place c.index-known-place.result c.requires.within c.index-known-place.is c.args.call.now.view.now c.args.machine.now c.args.params c.args.wanted _ c.in-Creates.is c.requires.can

pub preparing-requires : goal.preparing-requires
preparing-requires g c = fits_there c.args.sessions.now c.args.place c.index-known-place.result c.requires.within c.index-known-place.is c.args.call.now.view.now c.args.machine.now c.args.params c.args.wanted _ c.in-Prepares.is c.requires.can

pub finalizing-requires : goal.finalizing-requires
finalizing-requires g c = fits_there c.args.sessions.now c.args.place c.index-known-place.result c.requires.within c.index-known-place.is c.args.call.now.view.now c.args.machine.now c.args.params c.args.wanted _ c.in-Drops.is c.requires.can

pub beginning-requires-clause-outside : goal.beginning-requires-clause-outside
beginning-requires-clause-outside g c = λ databases. outside_too c.args.machine.now databases c.index-known-place.result.transaction (allowed_there c.args.sessions.now c.args.place c.index-known-place.result c.requires.within c.index-known-place.is c.args.call.now.view.now c.args.machine.now c.args.params c.args.wanted _ c.in-Begins.is c.requires.can).1

pub beginning-requires-clause-open : goal.beginning-requires-clause-open
beginning-requires-clause-open g c = λ databases. (allowed_there c.args.sessions.now c.args.place c.index-known-place.result c.requires.within c.index-known-place.is c.args.call.now.view.now c.args.machine.now c.args.params c.args.wanted _ c.in-Begins.is c.requires.can).0.opened

pub committing-requires-clause-served : goal.committing-requires-clause-served
committing-requires-clause-served g c = (allowed_there c.args.sessions.now c.args.place c.index-known-place.result c.requires.within c.index-known-place.is c.args.call.now.view.now c.args.machine.now c.args.params c.args.wanted _ c.in-Commits.is c.requires.can).0

pub committing-requires-clause-listed : goal.committing-requires-clause-listed
committing-requires-clause-listed g c = listed_there c.args.sessions.now c.args.place c.index-known-place.result c.requires.within c.index-known-place.is c.args.machine.now c.requires.listed

pub run_single-requires-clause-served : goal.run_single-requires-clause-served
run_single-requires-clause-served g c = allowed_there c.args.sessions.now c.args.place c.index-known-place.result c.requires.within c.index-known-place.is c.args.call.now.view.now c.args.machine.now c.args.params c.args.wanted _ c.in-RunsOne.is c.requires.can

pub run_script-requires-clause-served : goal.run_script-requires-clause-served
run_script-requires-clause-served g c = λ own. allowed_at c.args.sessions.now c.args.place c.index-known-place.result c.requires.within c.index-known-place.is c.args.call.now.view.now c.args.machine.now c.args.params c.args.wanted _ c.in-RunsAll.is c.requires.can own

pub run_script-requires-clause-fits : goal.run_script-requires-clause-fits
run_script-requires-clause-fits g c =
    subst (λ (params : List Value). CanRun params (wanted.RunsAll c.in-RunsAll.script)) (sym c.as_slice-params-in-RunsAll.ensures)
    (fits_there c.args.sessions.now c.args.place c.index-known-place.result c.requires.within c.index-known-place.is c.args.call.now.view.now c.args.machine.now c.args.params c.args.wanted _ c.in-RunsAll.is c.requires.can)

pub read_statement-requires-clause-served :
    goal.read_statement-requires-clause-served
read_statement-requires-clause-served g c = allowed_there c.args.sessions.now c.args.place c.index-known-place.result c.requires.within c.index-known-place.is c.args.call.now.view.now c.args.machine.now c.args.params c.args.wanted _ c.in-Reads.is c.requires.can

-- ---- other servers

pub changing-requires : goal.changing-requires
changing-requires g c = subst MayConfigure c.in-Changes.is c.requires.configures

pub returns-in-Changes-clause-ran : goal.returns-in-Changes-clause-ran
returns-in-Changes-clause-ran g c = λ own weight. came_there c.args.sessions.now c.args.place c.index-known-place.result c.requires.within c.index-known-place.is _ _ c.args.call.now.view.now c.args.machine.now c.args.params c.args.wanted _ _ own weight c.changing.result (IfOk-weaker c.changing.result _ _ (λ decision h. nothing_handed _ _ c.args.call.now.view.now (machine_of c.args.machine.now) (table_of c.args.machine.now c.args.sessions.now weight) c.index-known-place.result.conn (session_of c.args.machine.now c.index-known-place.result) c.args.params c.args.wanted _ _ decision c.in-Changes.is refl h) (c.changing.ensures.comes (machine_of c.args.machine.now) (table_of c.args.machine.now c.args.sessions.now weight) c.index-known-place.result.conn (session_of c.args.machine.now c.index-known-place.result) []))

pub returns-in-Changes-clause-unopened : goal.returns-in-Changes-clause-unopened
returns-in-Changes-clause-unopened g c = IfOk-weaker c.changing.result _ _ (λ decision h e. absurd (never_unopened c.args.call.now.view.now (machine_of c.args.machine.now) (session_of c.args.machine.now c.index-known-place.result) (does c.args.call.now.view.now (machine_of c.args.machine.now) (table_of c.args.machine.now c.args.sessions.now 0) c.index-known-place.result.conn (session_of c.args.machine.now c.index-known-place.result) (asking.Changes c.in-Changes.servers c.in-Changes.reply) []) decision (changes_plain c.args.call.now.view.now (machine_of c.args.machine.now) (table_of c.args.machine.now c.args.sessions.now 0) c.index-known-place.result.conn (session_of c.args.machine.now c.index-known-place.result) [] c.in-Changes.servers c.in-Changes.reply) h e)) (c.changing.ensures.comes (machine_of c.args.machine.now) (table_of c.args.machine.now c.args.sessions.now 0) c.index-known-place.result.conn (session_of c.args.machine.now c.index-known-place.result) [])

pub returns-in-Changes-clause-agree : goal.returns-in-Changes-clause-agree
returns-in-Changes-clause-agree g c = λ own. idle_agrees _ _ c.args.call.now.number _ c.changing.result (get_or c.args.sessions.now c.args.place own).transaction c.changing.ensures.works c.requires.agree
