use Rattle.node_core.proofs.RaftExactly.{untold_other, untold_plain, told_change}
use Rattle.std.proofs.Common.{Bool, refl, sym, subst, ◌∙◌, arith}
use Rattle.std.proofs.lemmas.Result.{on_ok_weaker, on_err_weaker}
use Rattle.raft_membership.specs.Members.{read_setup}
use Rattle.raft_spec.specs.Node.{Local, UseServers}
use Rattle.node_core.specs.Finding.{StopsIn, StopsChanging, unchanged_yet, in_change}
use Rattle.node_core.specs.Posting.{MayChangeTo, DecidesChange, no_change, change_told}
use Rattle.node_core.proofs.Finding.{failed, more, kept_finds}
use Rattle.node_core.proofs.OneChange.{unfit_few, unfit_many, unfit_unread, unfit_not, change_event, may_so, may_tell, other_plain}
use Rattle.node_core.proofs.RaftTurns.{told_none}
use Rattle.node_core.proofs.running.Running.tell_change.Goals as goal

pub returns-in_default : goal.returns-in_default
returns-in_default g c = record {
  exact = untold_other c.args.self.now c.args.event.now c.in_default.not-Propose;
  told = told_none c.args.self.now c.requires.whole c.requires.short;
  tells = no_change (other_plain c.args.event.now c.requires.own c.in_default.not-Propose) refl;
  stored = λ has. has;
  stops = λ opening came has. tt;
  unfit = λ q. absurd cc;
  cause = record { never_falls = omega arith; failed = λ q. absurd cc };
  runs = λ q. absurd cc;
}

pub returns-in_default-as_slice-clause-stops : goal.returns-in_default-as_slice-clause-stops
returns-in_default-as_slice-clause-stops g c = λ opening came has. kept_finds g.D.Disk.tells (g.D.Disk.states c.args.disk.now) c.args.self.now.replica (StopsChanging (read_setup opening) came c.args.self.now) (unchanged_yet refl) has

pub returns-in_default-as_slice-2-clause-stops : goal.returns-in_default-as_slice-2-clause-stops
returns-in_default-as_slice-2-clause-stops g c = λ opening came has. kept_finds g.D.Disk.tells (g.D.Disk.states c.args.disk.now) c.args.self.now.replica (StopsChanging (read_setup opening) came c.args.self.now) (unchanged_yet refl) has

pub returns-in_err-servers-clause-stops : goal.returns-in_err-servers-clause-stops
returns-in_err-servers-clause-stops g c = λ opening came has.
    failed c.from_residual.result (kept_finds g.D.Disk.tells (g.D.Disk.states c.args.disk.now) c.args.self.now.replica (StopsChanging (read_setup opening) came c.args.self.now) (unchanged_yet refl) has)

pub returns-in_default-2-clause-stops : goal.returns-in_default-2-clause-stops
returns-in_default-2-clause-stops g c = λ opening came has. kept_finds g.D.Disk.tells (g.D.Disk.states c.args.disk.now) c.args.self.now.replica (StopsChanging (read_setup opening) came c.args.self.now) (unchanged_yet refl) has

pub returns-in_err-may_change_to-clause-stops : goal.returns-in_err-may_change_to-clause-stops
returns-in_err-may_change_to-clause-stops g c = λ opening came has.
    failed c.from_residual-in_err-may_change_to.result
    (kept_finds g.D.Disk.tells (g.D.Disk.states c.args.disk.now) c.args.self.now.replica (StopsChanging (read_setup opening) came c.args.self.now) (unchanged_yet refl) has)

pub returns-then-not-branch-clause-stops : goal.returns-then-not-branch-clause-stops
returns-then-not-branch-clause-stops g c = λ opening came has. kept_finds g.D.Disk.tells (g.D.Disk.states c.args.disk.now) c.args.self.now.replica (StopsChanging (read_setup opening) came c.args.self.now) (unchanged_yet refl) has

pub returns-clause-tells : goal.returns-clause-tells
returns-clause-tells g c =
    let is = (change_event c.args.event.now c.in-Propose.entries c.as_slice-2.result.now c.entry-item.result c.in-Propose.is c.as_slice-2.ensures c.in-len1.len_at_least c.in-len1.len_below c.entry-item.is) in
    let may = may_so c.args.self.now c.args.event.now c.entry-item.result c.in-Some.servers c.requires.whole c.requires.members
    (change_event c.args.event.now c.in-Propose.entries c.as_slice-2.result.now c.entry-item.result c.in-Propose.is c.as_slice-2.ensures c.in-len1.len_at_least c.in-len1.len_below c.entry-item.is)
    c.requires.takes (sym c.in_ok-servers.ensures.is ∙ c.in-Some.is) (subst (MayChangeTo c.args.self.now) c.as_slice-3.ensures (subst (λ (b : Bool). DecidesChange b c.args.self.now c.as_slice-3.result.now) c.if-not-branch.false c.in_ok-may_change_to.ensures)) in
    on_ok_weaker c.tell.result (λ l. change_told c.entry-item.result c.in-Some.servers is may l) c.tell.ensures.tells

pub returns-clause-stops : goal.returns-clause-stops
returns-clause-stops g c = λ opening came has.
    let may = may_so c.args.self.now c.args.event.now c.entry-item.result c.in-Some.servers c.requires.whole c.requires.members
    (change_event c.args.event.now c.in-Propose.entries c.as_slice-2.result.now c.entry-item.result c.in-Propose.is c.as_slice-2.ensures c.in-len1.len_at_least c.in-len1.len_below c.entry-item.is)
    c.requires.takes (sym c.in_ok-servers.ensures.is ∙ c.in-Some.is) (subst (MayChangeTo c.args.self.now) c.as_slice-3.ensures (subst (λ (b : Bool). DecidesChange b c.args.self.now c.as_slice-3.result.now) c.if-not-branch.false c.in_ok-may_change_to.ensures)) in
    on_err_weaker c.tell.result
    (more g.D.Disk.tells (g.D.Disk.states c.tell.new.disk) (StopsIn (read_setup opening) came c.args.self.now (Local (UseServers c.in-Some.servers))) (StopsChanging (read_setup opening) came c.args.self.now)
    (λ kept s. in_change c.in-Some.servers (may_tell opening came c.args.self.now c.entry-item.result c.in-Some.servers may) s)) (c.tell.ensures.stops opening came has)

pub returns-in_default-as_slice-clause-unfit : goal.returns-in_default-as_slice-clause-unfit
returns-in_default-as_slice-clause-unfit g c = λ q. unfit_few c.args.self.now c.args.event.now c.in-Propose.entries c.as_slice.result.now c.as_slice-2.result.now c.in-Propose.is c.as_slice.ensures (c.are_plain.ensures.change c.if-are_plain.false) c.as_slice-2.ensures c.in_default-as_slice.len_below

pub returns-in_default-as_slice-2-clause-unfit : goal.returns-in_default-as_slice-2-clause-unfit
returns-in_default-as_slice-2-clause-unfit g c = λ q. unfit_many c.args.self.now c.args.event.now c.in-Propose.entries c.as_slice.result.now c.as_slice-2.result.now c.in-Propose.is c.as_slice.ensures (c.are_plain.ensures.change c.if-are_plain.false) c.as_slice-2.ensures c.in_default-as_slice.len_at_least

pub returns-in_default-2-clause-unfit : goal.returns-in_default-2-clause-unfit
returns-in_default-2-clause-unfit g c = λ q.
    unfit_unread c.args.self.now c.args.event.now c.in-Propose.entries c.as_slice.result.now c.as_slice-2.result.now c.entry-item.result c.in_ok-servers.field-0
    c.in-Propose.is c.as_slice.ensures (c.are_plain.ensures.change c.if-are_plain.false) c.as_slice-2.ensures c.entry-item.is c.in_ok-servers.ensures.is c.in_default-2.not-Some

pub returns-then-not-branch-clause-unfit : goal.returns-then-not-branch-clause-unfit
returns-then-not-branch-clause-unfit g c = λ q.
    unfit_not c.args.self.now c.args.event.now c.in-Propose.entries c.as_slice.result.now c.as_slice-2.result.now c.entry-item.result c.in-Some.servers c.as_slice-3.result.now
    c.in-Propose.is c.as_slice.ensures (c.are_plain.ensures.change c.if-are_plain.false) c.as_slice-2.ensures c.entry-item.is (sym c.in-Some.is ∙ c.in_ok-servers.ensures.is) c.as_slice-3.ensures
    (subst (λ (b : Bool). DecidesChange b c.args.self.now c.as_slice-3.result.now) c.if-not-branch.true c.in_ok-may_change_to.ensures)

pub returns-then-are_plain-clause-exact : goal.returns-then-are_plain-clause-exact
returns-then-are_plain-clause-exact g c =
    untold_plain c.args.self.now c.args.event.now c.in-Propose.entries c.as_slice.result.now c.in-Propose.is c.as_slice.ensures (c.are_plain.ensures.plain c.if-are_plain.true)

pub returns-clause-exact : goal.returns-clause-exact
returns-clause-exact g c =
    let is = (change_event c.args.event.now c.in-Propose.entries c.as_slice-2.result.now c.entry-item.result c.in-Propose.is c.as_slice-2.ensures c.in-len1.len_at_least c.in-len1.len_below c.entry-item.is) in
    on_ok_weaker c.tell.result
    (told_change c.args.self.now c.tell.new.self c.args.event.now c.entry-item.result c.in-Some.servers is c.requires.takes (sym c.in_ok-servers.ensures.is ∙ c.in-Some.is)) c.tell.ensures.exact
