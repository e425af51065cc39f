use Rattle.std.proofs.Common.{subst}
use Rattle.std.specs.List.{All}
use Rattle.dq_base.specs.declared.image_number.ImageNumber.TheVariants.{Working}
use Rattle.sql_engine.specs.Known.{MayKnow}
use Rattle.sqlite_engine.specs.Keeping.{known_in}
use Rattle.sqlite_engine.specs.Openings.{Openings}
use Rattle.sqlite_engine.specs.Leaving.{IsLeftBy}
use Rattle.sqlite_engine.proofs.Answering.{known_stayed, known_left}
use Rattle.sqlite_engine.proofs.OpenImages.{added_known, holds_one, still_known}
use Rattle.sqlite_engine.proofs.engine.SqliteEngine.keep.Goals as goal

pub returns-in-Stayed-clause-known : goal.returns-in-Stayed-clause-known
returns-in-Stayed-clause-known c image result h =
    let were = c.self.inside.images.items in
    let it = c.in-Stayed.kept in
    subst (λ (o : Openings). All (MayKnow image c.args.numbers result o.known) (known_in c.add.new.list.items)) c.self.view_is
    (added_known (MayKnow image c.args.numbers result (known_in were)) were c.add.new.list.items _ c.add.ensures (still_known image c.args.numbers result (known_in were))
    (holds_one (MayKnow image c.args.numbers result (known_in were)) c.args.numbers.before it c.args.past (known_stayed image c.args.numbers result (known_in were) it (subst (IsLeftBy image result) c.in-Stayed.is h))))

pub returns-in-WentOn-clause-known : goal.returns-in-WentOn-clause-known
returns-in-WentOn-clause-known c image result h =
    let were = c.self.inside.images.items in
    let it = c.in-WentOn.kept in
    subst (λ (o : Openings). All (MayKnow image c.args.numbers result o.known) (known_in c.add-in-WentOn.new.list.items)) c.self.view_is
    (added_known (MayKnow image c.args.numbers result (known_in were)) were c.add-in-WentOn.new.list.items _ c.add-in-WentOn.ensures (still_known image c.args.numbers result (known_in were))
    (holds_one (MayKnow image c.args.numbers result (known_in were)) (Working c.args.numbers.after) it c.gone_on-past.result (known_left image c.args.numbers result (known_in were) it (subst (IsLeftBy image result) c.in-WentOn.is h))))

pub returns-in-Gone-clause-known : goal.returns-in-Gone-clause-known
returns-in-Gone-clause-known c image result h = still_known image c.args.numbers result c.args.self.now.known
