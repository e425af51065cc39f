-- The wrong scripts are refused.
use Rattle.std.proofs.Common.{subst}
use Rattle.sql_engine.specs.declared.kind.EngineKind.{EngineKind}
use Rattle.script_cluster.specs.Outcomes.{Ending}
use Rattle.script_falls.specs.Falls.{EndsWell, UnfallenScriptsAreSafe}
use Rattle.script_falls.specs.Wrong.{NoStopOverlooked, NoFailureOverlooked, NoUnreadableOverlooked, NoOtherImages}

pub no_stop_overlooked : NoStopOverlooked
no_stop_overlooked n keeps doing aim outcome is none = subst (λ (e : Ending). EndsWell e) is none.0

pub no_failure_overlooked : NoFailureOverlooked
no_failure_overlooked n keeps doing aim outcome is none = subst (λ (e : Ending). EndsWell e) is none.0

pub no_unreadable_overlooked : NoUnreadableOverlooked
no_unreadable_overlooked n doing aim outcome is none = subst (λ (e : Ending). EndsWell e) is none.0

pub no_other_images : (kind : EngineKind) → UnfallenScriptsAreSafe kind → NoOtherImages kind
no_other_images kind law script outcomes over of front rest n k v u name split none shows same apart =
    let x = law script outcomes over of front rest split none in
    let at = shows x.is in
    apart ((x.safe.alike n k v u at.0 at.1 same).images name)
