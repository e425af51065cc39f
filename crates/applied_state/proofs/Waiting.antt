-- Whether a checkpoint waits among entries.
use Rattle.std.proofs.Common.{◌≡◌, ℕ, ◌+◌, ◌<◌, ◌≤◌, Bool, true, false, true≢false, List, length, drop, get_or, Result, Ok, Err, refl, sym, ap, subst, ◌∙◌, ◌||◌, bytes_eq}
use Rattle.std.proofs.lemmas.List.{drop_all, drop_more}
use Rattle.wire_words.specs.Items.{AreBytes}
use Rattle.log_commands.specs.declared.command.Command.{Command}
use Rattle.log_commands.specs.declared.command.Command.TheVariants.{OpenDb, Frames, Undo, Checkpoint}
use Rattle.log_commands.specs.declared.fault.CommandFault.{CommandFault}
use Rattle.log_commands.specs.Reading.{command_of}
use Rattle.log_commands.specs.Spelling.{Writes}
use Rattle.log_commands.proofs.CommandLaws.{command_found, command_read}
use Rattle.raft_spec.specs.Log as raft
use Rattle.session_spec.specs.Seen.{command_seen, entry_seen, log_seen}
use Rattle.session_spec.proofs.Names.{same_name, name_is, is_name}
use Rattle.applied_state.specs.Office.{is_checkpoint, awaits_checkpoint}

pub is_spelled : (bytes own name : List ℕ) → AreBytes bytes → Writes (Checkpoint name) own → bytes_eq bytes own ≡ is_checkpoint name (command_seen (command_of bytes))
is_spelled bytes own name are w = by (bytes_eq bytes own) refl
  where
    own_name : List ℕ → Result Command CommandFault → Bool
    own_name name r = is_checkpoint name (command_seen r)

    other : bytes_eq bytes own ≡ false → (r : Result Command CommandFault) → command_of bytes ≡ r → false ≡ is_checkpoint name (command_seen r)
    other e (Err fault) q = refl
    other e (Ok (OpenDb n)) q = refl
    other e (Ok (Frames n tx truncate commit pages)) q = refl
    other e (Ok (Undo tx)) q = refl
    other e (Ok (Checkpoint n)) q = apart (bytes_eq name n) refl
      where
        apart : (b : Bool) → bytes_eq name n ≡ b → false ≡ bytes_eq name n
        apart false p = sym p
        apart true p =
            let found : Writes (Checkpoint name) bytes = subst (λ (k : List ℕ). Writes (Checkpoint k) bytes) (sym (name_is name n p)) (command_found (Checkpoint n) bytes are q) in
            absurd (true≢false (sym (is_name bytes own (found.parts ∙ sym w.parts)) ∙ e))

    by : (b : Bool) → bytes_eq bytes own ≡ b → bytes_eq bytes own ≡ is_checkpoint name (command_seen (command_of bytes))
    by true e = e ∙ sym (ap (λ (r : Result Command CommandFault). is_checkpoint name (command_seen r)) (ap command_of (name_is bytes own e) ∙ command_read (Checkpoint name) own w) ∙ same_name name)
    by false e = e ∙ other e (command_of bytes) refl

-- ---- one after another

waits_at : (name : List ℕ) (waiting : List raft.Entry) (place : ℕ) (e d : raft.Entry) → place < length waiting → e ≡ get_or waiting place d
    → awaits_checkpoint name (log_seen (drop place waiting)) ≡ (is_checkpoint name (entry_seen e).content || awaits_checkpoint name (log_seen (drop (place + 1) waiting)))
waits_at name waiting place e d within is =
    ap (λ (es : List raft.Entry). awaits_checkpoint name (log_seen es)) (drop_more waiting place d within)
    ∙ ap (λ (x : raft.Entry). is_checkpoint name (entry_seen x).content || awaits_checkpoint name (log_seen (drop (place + 1) waiting))) (sym is)

pub waits_here : (name : List ℕ) (waiting : List raft.Entry) (place : ℕ) (e d : raft.Entry) (b : Bool) → place < length waiting → e ≡ get_or waiting place d → b ≡ is_checkpoint name (entry_seen e).content → b ≡ true
    → awaits_checkpoint name (log_seen waiting) ≡ awaits_checkpoint name (log_seen (drop place waiting)) → true ≡ awaits_checkpoint name (log_seen waiting)
waits_here name waiting place e d b within is same found so_far =
    sym (so_far ∙ waits_at name waiting place e d within is ∙ ap (λ (x : Bool). x || awaits_checkpoint name (log_seen (drop (place + 1) waiting))) (sym same ∙ found))

pub waits_on : (name : List ℕ) (waiting : List raft.Entry) (place : ℕ) (e d : raft.Entry) (b : Bool) → place < length waiting → e ≡ get_or waiting place d → b ≡ is_checkpoint name (entry_seen e).content → b ≡ false
    → awaits_checkpoint name (log_seen waiting) ≡ awaits_checkpoint name (log_seen (drop place waiting)) → awaits_checkpoint name (log_seen waiting) ≡ awaits_checkpoint name (log_seen (drop (place + 1) waiting))
waits_on name waiting place e d b within is same not so_far =
    so_far ∙ waits_at name waiting place e d within is ∙ ap (λ (x : Bool). x || awaits_checkpoint name (log_seen (drop (place + 1) waiting))) (sym same ∙ not)

pub waits_none : (name : List ℕ) (waiting : List raft.Entry) (place : ℕ) → length waiting ≤ place → awaits_checkpoint name (log_seen waiting) ≡ awaits_checkpoint name (log_seen (drop place waiting)) → false ≡ awaits_checkpoint name (log_seen waiting)
waits_none name waiting place all so_far = sym (so_far ∙ ap (λ (es : List raft.Entry). awaits_checkpoint name (log_seen es)) (drop_all place waiting all))
