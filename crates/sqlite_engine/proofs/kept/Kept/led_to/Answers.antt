use Rattle.std.proofs.Math.Bool.{Bool-set}
use Rattle.std.proofs.Math.Logic.{∥∥₁_elim}
use Rattle.sqlite_engine.proofs.kept.Kept.led_to.Goals as goal

pub led_along-requires-clause-open : goal.led_along-requires-clause-open
led_along-requires-clause-open c = ∥∥₁_elim c.args.self.stands (Bool-set _ _) (λ h. h.opened.is_open)

pub led_along-requires-clause-autocommit : goal.led_along-requires-clause-autocommit
led_along-requires-clause-autocommit c = ∥∥₁_elim c.args.self.stands (Bool-set _ _) (λ h. h.opened.autocommit)
