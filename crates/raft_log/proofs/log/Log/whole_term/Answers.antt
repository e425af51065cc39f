use Rattle.std.proofs.Common.{◌-◌, sym, ap, ◌∙◌, arith}
use Rattle.raft_spec.specs.Log.{nth_term, term_at}
use Rattle.raft_spec.specs.Compaction.{whole_log}
use Rattle.raft_log.proofs.Places.{whole_count, term_none, term_cut, term_past}
use Rattle.raft_log.proofs.log.Log.whole_term.Goals as goal

pub returns-then-index-eq0 : goal.returns-then-index-eq0
returns-then-index-eq0 c = sym (ap (term_at (whole_log c.args.self.now)) c.if-index-eq0.true ∙ term_none c.args.self.now)

pub returns-then-index-cut : goal.returns-then-index-cut
returns-then-index-cut c = let at = c.cut-cut.ensures in c.cut_term.ensures ∙ sym (term_cut c.args.self.now c.args.index (omega arith) (omega arith))

pub entry_term-requires : goal.entry_term-requires
entry_term-requires c = let at = c.cut-cut.ensures in let n = whole_count c.args.self.now in omega arith

pub returns : goal.returns
returns c =
    let at = c.cut-cut.ensures in
    c.entry_term.ensures ∙ ap (λ n. nth_term c.args.self.now.entries (c.args.index - n - 1)) at ∙ sym (term_past c.args.self.now c.args.index (omega arith) c.requires)
