use Rattle.std.proofs.Common.{subst}
use Rattle.std.specs.List.{All}
use Rattle.std.proofs.lemmas.List.Elements.{All-same}
use Rattle.sql_engine.specs.Known.{MayKnowBeside}
use Rattle.sqlite_engine.specs.Keeping.{known_in}
use Rattle.sqlite_engine.specs.Openings.{Openings}
use Rattle.sqlite_engine.proofs.OpenImages.{known_beside, known_of_some}
use Rattle.sqlite_engine.proofs.engine.SqliteEngine.opened.Goals as goal

pub returns-in-Some-clause-known : goal.returns-in-Some-clause-known
returns-in-Some-clause-known c =
    let were = c.self.inside.images.items in
    let mid = c.take.new.list.items in
    let now = c.with_follower-kept.new.list.items in
    subst (λ (o : Openings). All (MayKnowBeside c.args.image.now c.args.number o.known) (known_in now)) c.self.view_is
    (known_beside c.args.image.now c.args.number (known_in were) (known_in mid) (known_in now) (known_of_some c.args.image.now c.args.number were mid c.in-Some.ensures.keeps) c.with_follower-kept.ensures.known)

pub returns-in-Ok-clause-known : goal.returns-in-Ok-clause-known
returns-in-Ok-clause-known c =
    let were = c.self.inside.images.items in
    let mid = c.take.new.list.items in
    All-same (MayKnowBeside c.args.image.now c.args.number c.args.self.now.known) c.open_anew.new.self.known (known_in mid) c.open_anew.ensures.images.1
    (subst (λ (o : Openings). All (MayKnowBeside c.args.image.now c.args.number o.known) (known_in mid)) c.self.view_is (known_of_some c.args.image.now c.args.number were mid c.in-None.ensures.keeps))

pub returns-in-Err-clause-known : goal.returns-in-Err-clause-known
returns-in-Err-clause-known c =
    let were = c.self.inside.images.items in
    let mid = c.take.new.list.items in
    All-same (MayKnowBeside c.args.image.now c.args.number c.args.self.now.known) c.open_anew.new.self.known (known_in mid) c.open_anew.ensures.images.1
    (subst (λ (o : Openings). All (MayKnowBeside c.args.image.now c.args.number o.known) (known_in mid)) c.self.view_is (known_of_some c.args.image.now c.args.number were mid c.in-None.ensures.keeps))
