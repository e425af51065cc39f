use Rattle.std.proofs.Common.{◌≡◌, Some, sym, ap, ◌∙◌}
use Rattle.std.specs.Option.{option_map}
use Rattle.std.proofs.lemmas.Option.{MatchOption-at_some, same_Some}
use Rattle.wire_msgs.specs.declared.response.Response.{Response}
use Rattle.page_store.specs.Store.{newest_image}
use Rattle.database_state.specs.declared.database.Database.{Database}
use Rattle.database_state.specs.Databases.{named}
use Rattle.session_spec.specs.Asking as asking
use Rattle.session_requests.proofs.Opening as opening
use Rattle.session_requests.proofs.databases.wanted_by_dump.Goals as goal

pub returns-in_default : goal.returns-in_default
returns-in_default c = opening.not_there c.args.machine.now c.args.name.now (ap (named c.args.name.now) (sym c.databases.ensures.all) ∙ c.in_default.ensures)

pub returns-then-is_too_big : goal.returns-then-is_too_big
returns-then-is_too_big c =
    let there : named c.args.name.now c.args.machine.now ≡ Some c.in-Some.database.now = ap (named c.args.name.now) (sym c.databases.ensures.all) ∙ MatchOption-at_some _ _ c.in-Some.database c.in-Some.is c.database_named.ensures in
    opening.too_big c.args.machine.now c.args.name.now c.in-Some.database.now there c.lengths.result.main c.lengths.result.side c.lengths.ensures.main c.lengths.ensures.side (sym c.is_too_big.ensures ∙ c.if-is_too_big.true)

pub returns : goal.returns
returns c =
    let there : named c.args.name.now c.args.machine.now ≡ Some c.in-Some.database.now = ap (named c.args.name.now) (sym c.databases.ensures.all) ∙ MatchOption-at_some _ _ c.in-Some.database c.in-Some.is c.database_named.ensures in
    let newest : c.in-Some-2.image ≡ newest_image c.in-Some.database.now.store = same_Some _ _ (sym c.in-Some-2.is ∙ c.in_ok-image.ensures ∙ ap (option_map (λ (d : Database). newest_image d.store)) there) in
    ap (λ (r : Response). asking.Tells r) c.in_ok-files_of.ensures
    ∙ opening.told c.args.machine.now c.args.name.now c.in-Some.database.now there c.lengths.result.main c.lengths.result.side c.lengths.ensures.main c.lengths.ensures.side c.in-Some-2.image newest (sym c.is_too_big.ensures ∙ c.if-is_too_big.false)
