use Rattle.std.proofs.Common.{sym, ◌∙◌, add-one, length}
use Rattle.std.proofs.lemmas.Bool.{eqb-true}
use Rattle.std.proofs.lemmas.Result.{err_from_is_err_and}
use Rattle.script_grammar.specs.Lines.{to_come}
use Rattle.script_runner.specs.Scenes.{holds, journal_of}
use Rattle.script_runner.proofs.Lining.{some_bytes}
use Rattle.script_runner.proofs.Running.{reached_line, whole_none, whole_last, settles_long, short_reading}
use Rattle.script_runner.proofs.Finishing.{stopped_reading, stopped_feed, stopped_last}
use Rattle.script_runner.proofs.run.run_next.Goals as goal

pub returns-in_err-next_line-clause-goes : goal.returns-in_err-next_line-clause-goes
returns-in_err-next_line-clause-goes g c = λ first written r.
    let p = err_from_is_err_and c.from_residual.result c.from_residual.ensures.1 in
    let left = g.S.Source.left in
    let now = to_come c.args.lines.now (left c.args.source.now) in
    let printed = g.K.Sink.written c.args.sink.now in
    rw (p.1, p.2) (stopped_reading g.P.NodePlace.knows c.in_err-next_line.field-0.0 (journal_of (holds g.P.NodePlace.shows c.args.scene.now)) first (left c.next_line.new.source) written printed
    (λ follows. short_reading g.P.NodePlace.knows first now written printed (holds g.P.NodePlace.shows c.args.scene.now) c.args.number r follows c.next_line.new.self (left c.next_line.new.source) c.next_line.new.self.line c.in_err-next_line.ensures.err))

pub returns-in_err-run_line-in-Feed-clause-goes : goal.returns-in_err-run_line-in-Feed-clause-goes
returns-in_err-run_line-in-Feed-clause-goes g c = λ first written r.
    let p = err_from_is_err_and c.from_residual-in_err-run_line-in-Feed.result c.from_residual-in_err-run_line-in-Feed.ensures.1 in
    let left = g.S.Source.left in
    let now = to_come c.args.lines.now (left c.args.source.now) in
    let printed = g.K.Sink.written c.args.sink.now in
    let ends = rw c.in-Feed.is at c.in_ok-next_line.ensures.ok in
    let breaks = rw c.line.ensures at c.in_err-run_line-in-Feed.ensures.err in
    rw (p.1, p.2) (stopped_feed g.P.NodePlace.knows first now written printed (holds g.P.NodePlace.shows c.args.scene.now) c.args.number r c.in_err-run_line-in-Feed.field-0.0 (g.K.Sink.written c.run_line.new.sink) c.next_line.new.self (left c.next_line.new.source) c.next_line.new.self.line (holds g.P.NodePlace.shows c.run_line.new.scene) ends.0 breaks)

pub returns-in_ok-run_line-in-Feed-clause-goes : goal.returns-in_ok-run_line-in-Feed-clause-goes
returns-in_ok-run_line-in-Feed-clause-goes g c = λ first written r.
    let left = g.S.Source.left in
    let now = to_come c.args.lines.now (left c.args.source.now) in
    let printed = g.K.Sink.written c.args.sink.now in
    let later = to_come c.next_line.new.self (left c.next_line.new.source) in
    let ends = rw c.in-Feed.is at c.in_ok-next_line.ensures.ok in
    let ran = rw c.line.ensures at c.in_ok-run_line-in-Feed.ensures.ok in
    rw add-one (reached_line g.P.NodePlace.knows first now written printed (holds g.P.NodePlace.shows c.args.scene.now) c.args.number r later (g.K.Sink.written c.run_line.new.sink) c.next_line.new.self.line (holds g.P.NodePlace.shows c.run_line.new.scene) ran.said ends.0 ran.goes ran.told)

pub returns-in_err-run_line-in-Input-clause-goes : goal.returns-in_err-run_line-in-Input-clause-goes
returns-in_err-run_line-in-Input-clause-goes g c = λ first written r.
    let p = err_from_is_err_and c.from_residual-in_err-run_line-in-Input.result c.from_residual-in_err-run_line-in-Input.ensures.1 in
    let left = g.S.Source.left in
    let now = to_come c.args.lines.now (left c.args.source.now) in
    let printed = g.K.Sink.written c.args.sink.now in
    let line = c.line-line.ensures in
    let ends = rw c.in-Input.is at c.in_ok-next_line.ensures.ok in
    let empty = rw line at c.is_empty.ensures in
    let some = some_bytes (length c.next_line.new.self.line) (sym empty ∙ c.if-not-is_empty.true) in
    let breaks = rw line at c.in_err-run_line-in-Input.ensures.err in
    rw (p.1, p.2) (stopped_last g.P.NodePlace.knows first now written printed (holds g.P.NodePlace.shows c.args.scene.now) c.args.number r c.in_err-run_line-in-Input.field-0.0 (g.K.Sink.written c.run_line-then-not-is_empty.new.sink) c.next_line.new.self (left c.next_line.new.source) c.next_line.new.self.line
    (holds g.P.NodePlace.shows c.run_line-then-not-is_empty.new.scene) ends.0 ends.2 some breaks)

pub returns-in_ok-run_line-in-Input-clause-goes : goal.returns-in_ok-run_line-in-Input-clause-goes
returns-in_ok-run_line-in-Input-clause-goes g c = λ first written r.
    let left = g.S.Source.left in
    let now = to_come c.args.lines.now (left c.args.source.now) in
    let printed = g.K.Sink.written c.args.sink.now in
    let line = c.line-line.ensures in
    let ends = rw c.in-Input.is at c.in_ok-next_line.ensures.ok in
    let empty = rw line at c.is_empty.ensures in
    let some = some_bytes (length c.next_line.new.self.line) (sym empty ∙ c.if-not-is_empty.true) in
    let ran = rw line at c.in_ok-run_line-in-Input.ensures.ok in
    whole_last g.P.NodePlace.knows first now written printed (holds g.P.NodePlace.shows c.args.scene.now) c.args.number r (g.K.Sink.written c.run_line-then-not-is_empty.new.sink) c.next_line.new.self (left c.next_line.new.source) c.next_line.new.self.line (holds g.P.NodePlace.shows c.run_line-then-not-is_empty.new.scene) ran.said ends.0 ends.2 some
    ran.goes ran.told

pub returns-else-not-is_empty-clause-goes : goal.returns-else-not-is_empty-clause-goes
returns-else-not-is_empty-clause-goes g c = λ first written r.
    let left = g.S.Source.left in
    let now = to_come c.args.lines.now (left c.args.source.now) in
    let printed = g.K.Sink.written c.args.sink.now in
    let ends = rw c.in-Input.is at c.in_ok-next_line.ensures.ok in
    let empty = rw c.line-line.ensures at c.is_empty.ensures in
    let none = eqb-true (length c.next_line.new.self.line) 0 (sym empty ∙ c.if-not-is_empty.false) in
    whole_none g.P.NodePlace.knows first now written printed (holds g.P.NodePlace.shows c.args.scene.now) c.args.number r c.next_line.new.self (left c.next_line.new.source) c.next_line.new.self.line ends.0 ends.2 none

pub returns-in-TooLong-clause-goes : goal.returns-in-TooLong-clause-goes
returns-in-TooLong-clause-goes g c = λ first written r.
    let left = g.S.Source.left in
    let now = to_come c.args.lines.now (left c.args.source.now) in
    let printed = g.K.Sink.written c.args.sink.now in
    let ends = rw c.in-TooLong.is at c.in_ok-next_line.ensures.ok in
    settles_long g.P.NodePlace.knows first now written printed (holds g.P.NodePlace.shows c.args.scene.now) c.args.number r c.next_line.new.self (left c.next_line.new.source) c.next_line.new.self.line c.requires ends.0 ends.1
