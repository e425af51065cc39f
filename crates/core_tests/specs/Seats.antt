-- A node that runs is as a step wants it.
use Rattle.std.specs.Prelude.{[], Option, Some, None}
use Rattle.node_core.specs.declared.node.Node.{Node}
use Rattle.node_core.specs.Stepping.{IsUp}
use Rattle.node_core.specs.Whole.{Agrees, IsSound}

-- it is sound, and no number represents two images, if it isn't down and the engine knows none
abbrev pub RunsWell : Option Node → Type 0
RunsWell None = Unit {0}
RunsWell (Some node) = IsSound node × (IsUp node → Agrees [] node)
