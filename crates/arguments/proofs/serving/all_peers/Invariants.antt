use Rattle.std.proofs.Common.{◌≡◌, [], map, drop}
use Rattle.arguments.specs.Serving.{peers_behind}
use Rattle.arguments.proofs.serving.all_peers.Given as goal

-- the peers so far, and what the arguments that are left add to them
abbrev pub invariant-loop-word : goal.invariant-loop-word
invariant-loop-word l = peers_behind l.id l.peers.items (map (λ word. word.now) (drop l.word-index l.words)) ≡ peers_behind l.id [] (map (λ word. word.now) l.words)
