-- How a place is before an event and after it.
use Rattle.std.proofs.Common.{◌≡◌, ℕ, Bool, true, false, List, [], Option, Some, None, Result, Ok, Err, refl, ap, sym, subst, ◌∙◌}
use Rattle.std.specs.Prelude.{is_some, IfOk}
use Rattle.std.specs.Option.{option_map}
use Rattle.std.proofs.lemmas.Bool.{false≢true, true≢false}
use Rattle.file_digest.specs.Digest.{digest}
use Rattle.database_state.specs.Databases.{contents_of}
use Rattle.sql_engine.specs.Known.{Known}
use Rattle.sqlite_engine.specs.declared.any.AnyEngine.{AnyEngine}
use Rattle.sqlite_engine.specs.Any.{any_kind, any_known}
use Rattle.engine_recording.specs.Noting.{Noting}
use Rattle.disk_model.specs.Stored.{Contents}
use Rattle.store_laws.specs.Store.{Kept}
use Rattle.raft_core.specs.declared.role.RaftRole.{RaftRole}
use Rattle.raft_core.specs.declared.role.RaftRole.TheVariants as roles
use Rattle.raft_core.specs.Roles.{role_value}
use Rattle.node_core.specs.declared.node.Node.{Node}
use Rattle.node_core.specs.Stepping.{IsDown, IsUp}
use Rattle.node_core.specs.declared.event.Event.{Event}
use Rattle.node_core.specs.declared.outs.StepOutputs.{StepOutputs as CoreOuts}
use Rattle.node_core.specs.Values.{raft_of, applied_of, databases_of, has_links}
use Rattle.node_core.specs.Whole.{Agrees, IsSound}
use Rattle.script_cluster.specs.declared.place.EventResult.{EventResult}
use Rattle.script_cluster.specs.declared.place.PlaceFault.{PlaceFault}
use Rattle.script_cluster.specs.declared.place.EventEnd.{EventEnd}
use Rattle.script_cluster.specs.declared.place.EventEnd.TheVariants as ended
use Rattle.script_cluster.specs.declared.place.Outs.{Outs}
use Rattle.script_cluster.specs.Kinds.{role_of}
use Rattle.script_cluster.specs.Places.{IsStart, IsStep, line_of}
use Rattle.script_whole_nodes.specs.declared.node_slot.NodeSlot.{NodeSlot}
use Rattle.script_whole_nodes.specs.Seats.{IsQuiet, IsSeated, RunsWell, Sits, SitsWell, line_with, standing_of}
use Rattle.script_whole_nodes.specs.Turns.{MadeActs, FallsTo}

role_again : (r : RaftRole) → role_of (role_value r) ≡ r
role_again roles.Leader = refl
role_again roles.Candidate = refl
role_again roles.Follower = refl

pub line_is : (term applied : ℕ) (role : RaftRole) (sum : List ℕ) (n : Node) → term ≡ (raft_of n).term → role_value role ≡ (raft_of n).role → applied ≡ applied_of n
    → sum ≡ digest (contents_of (databases_of n)) → line_with term role applied sum ≡ line_of (standing_of n)
line_is term applied role sum n in_term as_role at files = λ i. line_with (in_term i) ((sym (role_again role) ∙ ap role_of as_role) i) (at i) (files i)

-- whether a node runs there, by what the place shows
pub up_by : (seated : Option Node) → is_some (option_map standing_of seated) ≡ true → is_some seated ≡ true
up_by (Some n) up = refl
up_by None up = absurd (false≢true up)

pub none_by : (seated : Option Node) → is_some (option_map standing_of seated) ≡ false → seated ≡ None
none_by (Some n) down = absurd (true≢false down)
none_by None down = refl

-- ---- a place with a node, or without one

pub none_sits : (known : List Known) (failed : Bool) (seated : Option Node) → seated ≡ None → SitsWell known failed seated
none_sits known failed seated none = subst (λ (s : Option Node). SitsWell known failed s) (sym none) tt

none_quiet : (e : Noting AnyEngine) (seated : Option Node) → seated ≡ None → IsQuiet e seated
none_quiet e seated none = subst (IsQuiet e) (sym none) tt

pub none_seated : (seat : NodeSlot) → seat.node ≡ None → any_kind seat.engine.engine ≡ seat.kind → IsSeated seat
none_seated seat none kind = (none_sits (any_known seat.engine.engine) seat.has_failed seat.node none, none_quiet seat.engine seat.node none, kind)

quiet_with : (e : Noting AnyEngine) (seated : Option Node) → (e.noted ≡ []) × (e.cut ≡ false) → IsQuiet e seated
quiet_with e (Some node) quiet = quiet
quiet_with e None quiet = tt

-- what a place holds stays so except for the answers that its engine had kept
pub seated_again : (old new : NodeSlot) → Sits old → any_kind old.engine.engine ≡ old.kind → new.engine.engine ≡ old.engine.engine → new.node ≡ old.node → new.has_failed ≡ old.has_failed → new.kind ≡ old.kind
    → (new.engine.noted ≡ []) × (new.engine.cut ≡ false) → IsSeated new
seated_again old new well kind same node failed of_kind quiet = (
  subst (λ (known : List Known). SitsWell known new.has_failed new.node) (ap any_known (sym same))
      (subst (λ (b : Bool). SitsWell (any_known old.engine.engine) b new.node) (sym failed) (subst (λ (s : Option Node). SitsWell (any_known old.engine.engine) old.has_failed s) (sym node) well)),
  quiet_with new.engine new.node quiet,
  ap any_kind same ∙ kind ∙ sym of_kind,
)

pub runs_well : (known : List Known) (engine mid : Noting AnyEngine) (was now : Node) (event : Event) (outs : CoreOuts) → IsUp now → IsSound now → Agrees known now → MadeActs engine mid was now event outs → has_links was ≡ false
    → RunsWell known now
runs_well known engine mid was now event outs up sound agrees acts none = record { up = up; sound = sound; agrees = agrees; links = (acts []).links ∙ none }

pub begins_well : (known : List Known) (node : Node) → known ≡ [] → IsUp node → IsSound node → Agrees [] node → has_links node ≡ false → RunsWell known node
begins_well known node none up sound agrees links = record { up = up; sound = sound; agrees = subst (λ (k : List Known). Agrees k node) (sym none) agrees; links = links }

pub not_down : (node : Node) → IsUp node → IsDown node → ⊥
not_down node up down = false≢true (sym up ∙ down)

-- ---- how an event ended

pub is_step : (outs : Outs) (r : Result EventResult PlaceFault) → IfOk r (λ (came : EventResult). came.ended ≡ ended.Stepped outs) → IfOk r (λ (came : EventResult). IsStep came.ended)
is_step outs (Err e) told = tt
is_step outs (Ok came) told = subst IsStep (sym told) tt

-- a fall, of a step or of a start
fall_steps : (keeps : ℕ) (old new : Contents) (e : EventEnd) → FallsTo keeps old new e → IsStep e
fall_steps keeps old new (ended.Stepped outs) fall = absurd fall
fall_steps keeps old new (ended.Started loaded) fall = absurd fall
fall_steps keeps old new (ended.Stopped told) fall = tt
fall_steps keeps old new (ended.Failed told) fall = tt
fall_steps keeps old new ended.Unreadable fall = absurd fall

fall_starts : (keeps : ℕ) (old new : Contents) (e : EventEnd) → FallsTo keeps old new e → IsStart e
fall_starts keeps old new (ended.Stepped outs) fall = absurd fall
fall_starts keeps old new (ended.Started loaded) fall = absurd fall
fall_starts keeps old new (ended.Stopped told) fall = tt
fall_starts keeps old new (ended.Failed told) fall = tt
fall_starts keeps old new ended.Unreadable fall = absurd fall

pub is_step_fallen : (keeps : ℕ) (old new : Contents) (e : EventEnd) (r : Result EventResult PlaceFault) → FallsTo keeps old new e → IfOk r (λ (came : EventResult). came.ended ≡ e) → IfOk r (λ (came : EventResult). IsStep came.ended)
is_step_fallen keeps old new e (Err x) fall told = tt
is_step_fallen keeps old new e (Ok came) fall told = subst IsStep (sym told) (fall_steps keeps old new e fall)

pub is_start_fallen : (keeps : ℕ) (old new : Contents) (e : EventEnd) (r : Result EventResult PlaceFault) → FallsTo keeps old new e → IfOk r (λ (came : EventResult). came.ended ≡ e) → IfOk r (λ (came : EventResult). IsStart came.ended)
is_start_fallen keeps old new e (Err x) fall told = tt
is_start_fallen keeps old new e (Ok came) fall told = subst IsStart (sym told) (fall_starts keeps old new e fall)

pub is_start_well : (loaded : Option Kept) (r : Result EventResult PlaceFault) → IfOk r (λ (came : EventResult). came.ended ≡ ended.Started loaded) → IfOk r (λ (came : EventResult). IsStart came.ended)
is_start_well loaded (Err e) told = tt
is_start_well loaded (Ok came) told = subst IsStart (sym told) tt

pub is_start_unread : (r : Result EventResult PlaceFault) → IfOk r (λ (came : EventResult). came.ended ≡ ended.Unreadable) → IfOk r (λ (came : EventResult). IsStart came.ended)
is_start_unread (Err e) told = tt
is_start_unread (Ok came) told = subst IsStart (sym told) tt
