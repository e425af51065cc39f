-- What a call shows if there was not enough memory to read its arguments, so that nothing was done.
use Rattle.std.proofs.Common.{◌≡◌, ◌⊎◌, inl, inr, ℕ, List, [], Option, Some, None, refl, sym, subst, ◌∙◌, le_refl}
use Rattle.std.specs.Io.KnownBytes.{Keeps}
use Rattle.script_cluster.specs.Outcomes.{Item}
use Rattle.client.specs.Net.{Net}
use Rattle.disk_model.specs.Disk.{Disk}
use Rattle.disk_model.specs.Trait.{Text}
use Rattle.arguments.specs.declared.invocation.Invocation.{Invocation}
use Rattle.dqnode.specs.Statements.{IsAnswered, IsOfStatement}
use Rattle.dqnode.specs.Runs.{ScriptRun, RefusesArguments, StatementRun, CheckRun, GenerateRun, ServeViews, ServeRun, Untouched, FaultCounts, StatusTells}
use Rattle.dqnode.proofs.Endings.{unread_breaks, unread_safely}
use Rattle.dqnode.proofs.Idle.{no_call, nothing_written, unasked, unchecked}
use Rattle.dqnode.proofs.Generated.{ungenerated}
use Rattle.dqnode.proofs.Made.{unrun}
use Rattle.dqnode.proofs.ServeEnds.{unserved}

kept : (left : Option (List ℕ)) → Keeps left left
kept None = tt
kept (Some left) = refl

unanswered : IsAnswered 7 → ⊥
unanswered (inl e) = cc
unanswered (inr (inl e)) = cc
unanswered (inr (inr e)) = cc

of_no_script : (code : ℕ) → code ≡ 7 → (code ≡ 2) ⊎ (code ≡ 9) → ⊥
of_no_script code seven (inl e) = let bad : 7 ≡ 2 = sym seven ∙ e in cc
of_no_script code seven (inr e) = let bad : 7 ≡ 9 = sym seven ∙ e in cc

of_no_statement : IsOfStatement 7 → ⊥
of_no_statement (inl e) = cc
of_no_statement (inr (inl e)) = cc
of_no_statement (inr (inr e)) = cc

module _ (asked : Option Invocation) (code : ℕ) (out_of_memory : code ≡ 7) where
  pub unread_script : (journal : List Item) (left written : Option (List ℕ)) → ScriptRun asked journal left left written written code
  unread_script journal left written = subst (ScriptRun asked journal left left written written) (sym out_of_memory) (record {
    done = λ is e. absurd cc;
    faulty = λ is e. absurd cc;
    large = λ is e. absurd cc;
    safe = λ is. (is.0, is.1, unread_safely is.0 left written journal);
    cut = λ e. absurd cc;
    broken = λ is b. (is.0, is.1, unread_breaks is.0 left written);
  })

  pub unread_arguments : (written : Option (List ℕ)) → RefusesArguments asked written written code
  unread_arguments written = subst (RefusesArguments asked written written) (sym out_of_memory) (record {
    told = λ e. absurd cc;
    only = λ is. inr (inr refl);
    broken = λ is b. nothing_written written _;
  })

  pub unread_statement : (net : Net) (written : Option (List ℕ)) → StatementRun asked net net written written code
  unread_statement net written = subst (StatementRun asked net net written written) (sym out_of_memory) (record {
    ended = λ statement is. unasked statement net written;
    linked = λ is a. absurd (unanswered a);
    no_leader = λ statement is e. absurd cc;
    failed = no_call net;
  })

  pub unread_check : {K : Type 0} (files : Disk Text → Type 0) (written : K → Option (List ℕ)) (output : K)
      → CheckRun asked files files written output output code
  unread_check files written output = subst (CheckRun asked files files written output output) (sym out_of_memory) (record {
    ended = λ is. unchecked files (written output);
    unprinted = λ is e. refl;
  })

  pub unread_generate : (journal : List Item) (written : Option (List ℕ)) → GenerateRun asked journal written written code
  unread_generate journal written = subst (GenerateRun asked journal written written) (sym out_of_memory) (record {
    made = λ number writes is. ungenerated number writes written;
    run = λ number writes is. unrun number writes journal written;
  })

  pub unread_serve : {D H : Type 0} (files : D → Disk Text → Type 0) (views : ServeViews D H) (host : H) (disk : D)
      → ServeRun files views asked host host disk disk code
  unread_serve files views host disk = subst (ServeRun files views asked host host disk disk) (sym out_of_memory) (record {
    codes = λ is. inr (inr (inl refl));
    serves = λ served is. unserved views.tells files views.disk_faults views.done served host disk (views.taken host);
    spent = λ served is e. absurd cc;
    well = λ is goes. inr (inl refl);
  })

  pub unread_untouched : {N D H : Type 0} (left : Option (List ℕ)) (faults : ℕ) (journal journal' : List Item) (dialer : N) (disk : D) (host : H)
      → journal' ≡ []
      → Untouched asked left left faults faults journal journal' dialer dialer disk disk host host code
  unread_untouched left faults journal journal' dialer disk host empty = record {
    input = λ no. (kept left, refl);
    noted = λ no unrun. inr (out_of_memory, empty);
    dials = λ no. refl;
    files = λ no others. refl;
    serves = λ no. refl;
  }

  pub unread_status : (faults : FaultCounts) → StatusTells asked faults faults code
  unread_status faults = subst (StatusTells asked faults faults) (sym out_of_memory) (record {
    known = inr (inl (inr (inr (inr (inr (inl refl))))));
    of_script = λ e. absurd (of_no_script 7 refl e);
    of_statement = λ e. absurd (of_no_statement e);
    of_files = λ e. absurd cc;
    of_spent = λ e. absurd cc;
    of_internal = λ e. absurd cc;
    read_fault = λ e. absurd cc;
    write_fault = λ e. absurd cc;
    disk_fault = λ e. absurd cc;
    host_fault = λ e. absurd cc;
    inputs = le_refl _;
    outputs = le_refl _;
    disks = le_refl _;
  })
