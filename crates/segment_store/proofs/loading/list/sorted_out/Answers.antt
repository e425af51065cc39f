use Rattle.std.proofs.Common.{arith, sym, subst, ◌∙◌}
use Rattle.dq_base.specs.Names.{IsName}
use Rattle.segment_store.proofs.LoadLists.{names_more_by, names_all}
use Rattle.segment_store.proofs.loading.list.sorted_out.Goals as goal

pub loop-name-preserved : goal.loop-name-preserved
loop-name-preserved c =
    names_more_by c.args.names.now c.loop-name.name-index c.name-item.result c.as_str.result.now _ _ c.loop-name-test.true (c.as_str.ensures.value ∙ c.name-item.is) (subst IsName (sym c.as_str.ensures.value) c.as_str.ensures.name) c.loop-name.invariant c.in_ok-take_name.ensures

pub returns : goal.returns
returns c = names_all c.args.names.now c.loop-name.name-index _ (omega (arith, c.loop-name-test.false)) c.loop-name.invariant
