use Rattle.std.proofs.Common.{◌++◌, ◌∷◌, [], ap, sym, subst, ◌∙◌}
use Rattle.std.proofs.lemmas.Result.{IfOk-weaker, on_ok_weaker}
use Rattle.applied_state.specs.Applied.{with_content, HasApplied}
use Rattle.applied_state.specs.Content.{effect_of}
use Rattle.applied_state.proofs.Following.{follows_one}
use Rattle.applied_state.proofs.applied.Applied.apply.Goals as goal

pub returns-clause-applied : goal.returns-clause-applied
returns-clause-applied c = on_ok_weaker c.apply_content.result (λ h. h ∙ ap (with_content c.args.self.now) c.in_ok-content.ensures.means) c.apply_content.ensures.applied

pub returns-clause-follows : goal.returns-clause-follows
returns-clause-follows c =
    on_ok_weaker c.apply_content.result
    (λ h opening lacks front a. subst (HasApplied opening lacks (front ++ c.args.entry.now ∷ [])) (sym (h ∙ ap (with_content c.args.self.now) c.in_ok-content.ensures.means))
    (follows_one c.args.entry.now c.args.self.now c.databases-databases.ensures.stand opening lacks front a))
    c.apply_content.ensures.applied

pub returns-clause-told : goal.returns-clause-told
returns-clause-told c = IfOk-weaker c.apply_content.result _ _ (λ effect h. h ∙ ap effect_of c.in_ok-content.ensures.means) c.apply_content.ensures.told
