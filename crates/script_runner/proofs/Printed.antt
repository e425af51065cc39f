-- The text of what was said, line by line.
use Rattle.std.proofs.Common.{◌≡◌, ℕ, ◌+◌, ◌<◌, List, [], ◌∷◌, ◌++◌, map, Option, length, get_or, take, drop, refl, sym, ap, ◌∙◌, append_assoc}
use Rattle.std.specs.List.{flat_map}
use Rattle.std.proofs.lemmas.List.{take-append-drop, drop_more}
use Rattle.std.proofs.lemmas.Grind.{flat_map-append}
use Rattle.std.specs.Io.KnownBytes.{Appends}
use Rattle.dq_base.specs.Sink.{AppendsFront}
use Rattle.dq_base.proofs.ContentLaws.{AppendsFront-longer, AppendsFront-then}
use Rattle.script_cluster.specs.declared.cluster_line.ClusterLine.{ClusterLine as NodeSaid}
use Rattle.script_cluster.specs.Printed as nodes_text
use Rattle.script_machines.specs.declared.machine_line.MachineLine.{MachineLine as MachineSaid}
use Rattle.script_machines.specs.Printed as pages_text
use Rattle.script_runner.specs.Run.{Said, OfNodes, OfMachines, printed_line, text_of}

pub text_of-append : (a b : List Said) → text_of (a ++ b) ≡ text_of a ++ text_of b
text_of-append a b = flat_map-append printed_line a b

-- ---- the lines of anything

module _ {X : Type 0} (line : X → List ℕ) where
  text_split : (said : List X) (i : ℕ) → flat_map line (take i said) ++ flat_map line (drop i said) ≡ flat_map line said
  text_split said i = sym (flat_map-append line (take i said) (drop i said)) ∙ ap (flat_map line) (take-append-drop i said)

  text_split_at : (said : List X) (i : ℕ) (say : X) → i < length said → say ≡ get_or said i say → (flat_map line (take i said) ++ line say) ++ flat_map line (drop (i + 1) said) ≡ flat_map line said
  text_split_at said i say lt is =
      let rest : drop i said ≡ say ∷ drop (i + 1) said = drop_more said i say lt ∙ ap (λ (s : X). s ∷ drop (i + 1) said) (sym is) in
      append_assoc (flat_map line (take i said)) (line say) (flat_map line (drop (i + 1) said)) ∙ ap (λ (s : List X). flat_map line (take i said) ++ flat_map line s) (sym rest) ∙ text_split said i

  -- what is printed so far is a front of the text
  pub printed_so_far : (a b : Option (List ℕ)) (said : List X) (i : ℕ) → Appends a b (flat_map line (take i said)) → AppendsFront a b (flat_map line said)
  printed_so_far a b said i h = (flat_map line (take i said), flat_map line (drop i said), text_split said i, h)

  -- this holds if the next line was printed in part
  pub printed_in_part : (a b c : Option (List ℕ)) (said : List X) (i : ℕ) (say : X) → i < length said → say ≡ get_or said i say
      → Appends a b (flat_map line (take i said)) → AppendsFront b c (line say) → AppendsFront a c (flat_map line said)
  printed_in_part a b c said i say lt is so_far part =
      let front = AppendsFront-then a b c (flat_map line (take i said)) (line say) so_far part in
      rw (text_split_at said i say lt is) at (AppendsFront-longer a c (flat_map line (take i said) ++ line say) (flat_map line (drop (i + 1) said)) front)

-- ---- of nodes and of state machines

pub nodes_printed : (said : List NodeSaid) → text_of (map OfNodes said) ≡ nodes_text.printed said
nodes_printed [] = refl
nodes_printed (say ∷ said) = ap (λ (text : List ℕ). nodes_text.printed_line say ++ text) (nodes_printed said)

pub machines_printed : (said : List MachineSaid) → text_of (map OfMachines said) ≡ pages_text.printed said
machines_printed [] = refl
machines_printed (say ∷ said) = ap (λ (text : List ℕ). pages_text.printed_line say ++ text) (machines_printed said)
