use Rattle.std.proofs.Common.{List, ℕ, Some, subst}
use Rattle.sql_engine.specs.declared.kind.EngineKind.TheVariants.{Cells}
use Rattle.script_generator.specs.Generated.{script_text}
use Rattle.dqnode.specs.Status.{OutcomeEnds}
use Rattle.dqnode.proofs.Made.{text_ends}
use Rattle.dqnode.proofs.generating.run_text.Goals as goal

pub returns : goal.returns
returns c =
    let begun = subst (λ (left : List ℕ). OutcomeEnds Cells c.run_over.new.journal c.run_over.result (Some left) (Some c.run_over.new.input) (Some c.args.text.now.bytes) (Some c.run_over.new.output.bytes)) c.in_ok-script.ensures c.run_over.ensures.ended in
    let fresh = subst (λ (text : List ℕ). OutcomeEnds Cells c.run_over.new.journal c.run_over.result (Some (script_text c.args.number c.args.count)) (Some c.run_over.new.input) (Some text) (Some c.run_over.new.output.bytes)) c.requires begun in
    text_ends c.args.number c.args.count c.run_over.result c.run_over.new.journal c.run_over.new.input c.run_over.new.output.bytes fresh
