use Rattle.std.proofs.Common.{subst}
use Rattle.sqlite_engine.specs.Looking.{IsNoted}
use Rattle.sqlite_engine.proofs.OpenImages.{if_some}
use Rattle.sqlite_engine.proofs.Standing.{is_noted}
use Rattle.sqlite_engine.proofs.kept.Kept.names_known.Goals as goal

pub returns : goal.returns
returns c =
    if_some c.names_noted.result _ _ (λ names noted.
    is_noted _ c.args.self.now.looking.items c.args.text.now names c.args.self.now.looks
    (subst (λ texts. IsNoted texts c.args.text.now names) c.as_slice.ensures.value noted)) c.names_noted.ensures
