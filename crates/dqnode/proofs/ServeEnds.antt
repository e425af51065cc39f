-- How it ends where a node is served.
use Rattle.std.proofs.Common.{◌≡◌, ◌+◌, ◌⊎◌, inl, inr, ℕ, Bool, Option, Some, refl, sym, ap, subst, ◌∙◌}
use Rattle.disk_model.specs.Disk.{Disk}
use Rattle.disk_model.specs.Trait.{Text}
use Rattle.session_outcomes.specs.declared.job.Read.{Read}
use Rattle.serve_traits.specs.Looping.{Taken}
use Rattle.serve_threads.specs.declared.host_counts.HostCounts.{HostCounts}
use Rattle.arguments.specs.declared.invocation.Invocation.{Invocation}
use Rattle.arguments.specs.declared.invocation.Invocation.TheVariants as asks
use Rattle.arguments.specs.declared.invocation.Serve.{Serve}
use Rattle.serve_node.specs.declared.end.ServeEnd.{ServeEnd}
use Rattle.serve_node.specs.declared.end.ServeEnd.TheVariants as ends
use Rattle.dqnode.specs.declared.status.Status.{Status}
use Rattle.dqnode.specs.declared.status.Status.TheVariants as status
use Rattle.dqnode.specs.Status.{status_code, IsScriptCode, IsStatementCode, IsCheckCode, IsServeCode}
use Rattle.dqnode.specs.Asks.{ForServed}
use Rattle.dqnode.specs.Serving.{serve_status, WasServed, NotServed}

-- the node that was asked for
served_in : Serve → Option Invocation → Serve
served_in other (Some (asks.Serve served)) = served
served_in other asked = other

same_served : (one other : Serve) → ForServed other (Some (asks.Serve one)) → one ≡ other
unfolding served_in
same_served one other e = ap (served_in one) e

pub served_for : {D H : Type 0} (tells : Bool) (states : D → Disk Text → Type 0) (faults : D → ℕ) (done : H → HostCounts) (one : Serve)
    (host : H) (disk disk_after : D) (events events_after : Taken Read) (code : ℕ) →
    WasServed tells states faults done one host disk disk_after events events_after code
    → (served : Serve) → ForServed served (Some (asks.Serve one)) → WasServed tells states faults done served host disk disk_after events events_after code
served_for tells states faults done one host disk disk_after events events_after code h served e =
    subst (λ (s : Serve). WasServed tells states faults done s host disk disk_after events events_after code) (same_served one served e) h

spent_status : (s : Status) → status_code s ≡ 10 → s ≡ status.Spent
spent_status status.Spent e = refl
spent_status status.Done e = absurd cc
spent_status status.Words e = absurd cc
spent_status status.Script e = absurd cc
spent_status status.ReadFault e = absurd cc
spent_status status.WriteFault e = absurd cc
spent_status status.DiskFault e = absurd cc
spent_status status.HostFault e = absurd cc
spent_status status.NoMemory e = absurd cc
spent_status status.Internal e = absurd cc
spent_status status.Files e = absurd cc
spent_status status.Large e = absurd cc
spent_status status.Refused e = absurd cc
spent_status status.NoLeader e = absurd cc
spent_status status.Unknown e = absurd cc

-- as many events were taken as the arguments say
pub spent_for : (was now : ℕ) (one : Serve) (s : Status) → (s ≡ status.Spent → now ≡ was + one.events)
    → (served : Serve) → ForServed served (Some (asks.Serve one)) → status_code s ≡ 10 → now ≡ was + served.events
spent_for was now one s h served e code = subst (λ (x : Serve). now ≡ was + x.events) (same_served one served e) (h (spent_status s code))

-- if nothing is done, as there is not enough memory to read the arguments
pub unserved : {D H : Type 0} (tells : Bool) (states : D → Disk Text → Type 0) (faults : D → ℕ) (done : H → HostCounts) (served : Serve)
    (host : H) (disk : D) (events : Taken Read) → WasServed tells states faults done served host disk disk events events 7 ⊎ NotServed disk disk host host 7
unserved tells states faults done served host disk events = inr (record { code_is = refl; disk_is = refl; host_is = refl })

-- ---- the end of a served node, by its status

end_code : (end : ServeEnd) → IsServeCode (status_code (serve_status end))
end_code ends.Files = inr (inr (inr (inl refl)))
end_code ends.DiskFault = inl refl
end_code ends.HostFault = inr (inl refl)
end_code ends.NoMemory = inr (inr (inl refl))
end_code ends.Spent = inr (inr (inr (inr (inl refl))))
end_code ends.Internal = inr (inr (inr (inr (inr refl))))

pub serve_code : (end : ServeEnd) (s : Status) → s ≡ serve_status end → IsServeCode (status_code s)
serve_code end s is = subst (λ (x : Status). IsServeCode (status_code x)) (sym is) (end_code end)

pub well_code : (end : ServeEnd) (s : Status) → s ≡ serve_status end → (end ≡ ends.Spent) ⊎ (end ≡ ends.NoMemory) ⊎ (end ≡ ends.Internal)
    → (status_code s ≡ 10) ⊎ (status_code s ≡ 7) ⊎ (status_code s ≡ 15)
well_code end s is (inl e) = inl (ap status_code (is ∙ ap serve_status e))
well_code end s is (inr (inl e)) = inr (inl (ap status_code (is ∙ ap serve_status e)))
well_code end s is (inr (inr e)) = inr (inr (ap status_code (is ∙ ap serve_status e)))

pub end_disk : (end : ServeEnd) (s : Status) → s ≡ serve_status end → s ≡ status.DiskFault → end ≡ ends.DiskFault
end_disk ends.Files s is e = let bad : status.Files ≡ status.DiskFault = sym is ∙ e in absurd cc
end_disk ends.DiskFault s is e = refl
end_disk ends.HostFault s is e = let bad : status.HostFault ≡ status.DiskFault = sym is ∙ e in absurd cc
end_disk ends.NoMemory s is e = let bad : status.NoMemory ≡ status.DiskFault = sym is ∙ e in absurd cc
end_disk ends.Internal s is e = let bad : status.Internal ≡ status.DiskFault = sym is ∙ e in absurd cc
end_disk ends.Spent s is e = let bad : status.Spent ≡ status.DiskFault = sym is ∙ e in absurd cc

pub end_host : (end : ServeEnd) (s : Status) → s ≡ serve_status end → s ≡ status.HostFault → end ≡ ends.HostFault
end_host ends.Files s is e = let bad : status.Files ≡ status.HostFault = sym is ∙ e in absurd cc
end_host ends.DiskFault s is e = let bad : status.DiskFault ≡ status.HostFault = sym is ∙ e in absurd cc
end_host ends.HostFault s is e = refl
end_host ends.NoMemory s is e = let bad : status.NoMemory ≡ status.HostFault = sym is ∙ e in absurd cc
end_host ends.Internal s is e = let bad : status.Internal ≡ status.HostFault = sym is ∙ e in absurd cc
end_host ends.Spent s is e = let bad : status.Spent ≡ status.HostFault = sym is ∙ e in absurd cc

pub end_spent : (end : ServeEnd) (s : Status) → s ≡ serve_status end → s ≡ status.Spent → end ≡ ends.Spent
end_spent ends.Files s is e = let bad : status.Files ≡ status.Spent = sym is ∙ e in absurd cc
end_spent ends.DiskFault s is e = let bad : status.DiskFault ≡ status.Spent = sym is ∙ e in absurd cc
end_spent ends.HostFault s is e = let bad : status.HostFault ≡ status.Spent = sym is ∙ e in absurd cc
end_spent ends.NoMemory s is e = let bad : status.NoMemory ≡ status.Spent = sym is ∙ e in absurd cc
end_spent ends.Internal s is e = let bad : status.Internal ≡ status.Spent = sym is ∙ e in absurd cc
end_spent ends.Spent s is e = refl

-- ---- only a served node ends with 10

pub script_not_ten : (code : ℕ) → IsScriptCode code → code ≡ 10 → ⊥
script_not_ten code (inl a) e = let bad : 0 ≡ 10 = sym a ∙ e in cc
script_not_ten code (inr (inl a)) e = let bad : 2 ≡ 10 = sym a ∙ e in cc
script_not_ten code (inr (inr (inl a))) e = let bad : 3 ≡ 10 = sym a ∙ e in cc
script_not_ten code (inr (inr (inr (inl a)))) e = let bad : 4 ≡ 10 = sym a ∙ e in cc
script_not_ten code (inr (inr (inr (inr (inl a))))) e = let bad : 7 ≡ 10 = sym a ∙ e in cc
script_not_ten code (inr (inr (inr (inr (inr (inl a)))))) e = let bad : 9 ≡ 10 = sym a ∙ e in cc
script_not_ten code (inr (inr (inr (inr (inr (inr a)))))) e = let bad : 15 ≡ 10 = sym a ∙ e in cc

pub statement_not_ten : (code : ℕ) → IsStatementCode code → code ≡ 10 → ⊥
statement_not_ten code (inl a) e = let bad : 0 ≡ 10 = sym a ∙ e in cc
statement_not_ten code (inr (inl a)) e = let bad : 4 ≡ 10 = sym a ∙ e in cc
statement_not_ten code (inr (inr (inl a))) e = let bad : 7 ≡ 10 = sym a ∙ e in cc
statement_not_ten code (inr (inr (inr (inl a)))) e = let bad : 11 ≡ 10 = sym a ∙ e in cc
statement_not_ten code (inr (inr (inr (inr (inl a))))) e = let bad : 12 ≡ 10 = sym a ∙ e in cc
statement_not_ten code (inr (inr (inr (inr (inr a))))) e = let bad : 13 ≡ 10 = sym a ∙ e in cc

pub check_not_ten : (code : ℕ) → IsCheckCode code → code ≡ 10 → ⊥
check_not_ten code (inl a) e = let bad : 0 ≡ 10 = sym a ∙ e in cc
check_not_ten code (inr (inl a)) e = let bad : 4 ≡ 10 = sym a ∙ e in cc
check_not_ten code (inr (inr (inl a))) e = let bad : 5 ≡ 10 = sym a ∙ e in cc
check_not_ten code (inr (inr (inr (inl a)))) e = let bad : 7 ≡ 10 = sym a ∙ e in cc
check_not_ten code (inr (inr (inr (inr a)))) e = let bad : 8 ≡ 10 = sym a ∙ e in cc

pub words_not_ten : (s : Status) → (s ≡ status.Words) ⊎ (s ≡ status.WriteFault) → status_code s ≡ 10 → ⊥
words_not_ten s (inl a) e = let bad : 1 ≡ 10 = sym (ap status_code a) ∙ e in cc
words_not_ten s (inr a) e = let bad : 4 ≡ 10 = sym (ap status_code a) ∙ e in cc

-- ---- nor with 6

pub script_not_six : (code : ℕ) → IsScriptCode code → code ≡ 6 → ⊥
script_not_six code (inl a) e = let bad : 0 ≡ 6 = sym a ∙ e in cc
script_not_six code (inr (inl a)) e = let bad : 2 ≡ 6 = sym a ∙ e in cc
script_not_six code (inr (inr (inl a))) e = let bad : 3 ≡ 6 = sym a ∙ e in cc
script_not_six code (inr (inr (inr (inl a)))) e = let bad : 4 ≡ 6 = sym a ∙ e in cc
script_not_six code (inr (inr (inr (inr (inl a))))) e = let bad : 7 ≡ 6 = sym a ∙ e in cc
script_not_six code (inr (inr (inr (inr (inr (inl a)))))) e = let bad : 9 ≡ 6 = sym a ∙ e in cc
script_not_six code (inr (inr (inr (inr (inr (inr a)))))) e = let bad : 15 ≡ 6 = sym a ∙ e in cc

pub statement_not_six : (code : ℕ) → IsStatementCode code → code ≡ 6 → ⊥
statement_not_six code (inl a) e = let bad : 0 ≡ 6 = sym a ∙ e in cc
statement_not_six code (inr (inl a)) e = let bad : 4 ≡ 6 = sym a ∙ e in cc
statement_not_six code (inr (inr (inl a))) e = let bad : 7 ≡ 6 = sym a ∙ e in cc
statement_not_six code (inr (inr (inr (inl a)))) e = let bad : 11 ≡ 6 = sym a ∙ e in cc
statement_not_six code (inr (inr (inr (inr (inl a))))) e = let bad : 12 ≡ 6 = sym a ∙ e in cc
statement_not_six code (inr (inr (inr (inr (inr a))))) e = let bad : 13 ≡ 6 = sym a ∙ e in cc

pub check_not_six : (code : ℕ) → IsCheckCode code → code ≡ 6 → ⊥
check_not_six code (inl a) e = let bad : 0 ≡ 6 = sym a ∙ e in cc
check_not_six code (inr (inl a)) e = let bad : 4 ≡ 6 = sym a ∙ e in cc
check_not_six code (inr (inr (inl a))) e = let bad : 5 ≡ 6 = sym a ∙ e in cc
check_not_six code (inr (inr (inr (inl a)))) e = let bad : 7 ≡ 6 = sym a ∙ e in cc
check_not_six code (inr (inr (inr (inr a)))) e = let bad : 8 ≡ 6 = sym a ∙ e in cc

pub words_not_six : (s : Status) → (s ≡ status.Words) ⊎ (s ≡ status.WriteFault) → status_code s ≡ 6 → ⊥
words_not_six s (inl a) e = let bad : 1 ≡ 6 = sym (ap status_code a) ∙ e in cc
words_not_six s (inr a) e = let bad : 4 ≡ 6 = sym (ap status_code a) ∙ e in cc

-- ---- a script, a statement and refused words don't end with 5

pub script_not_five : (code : ℕ) → IsScriptCode code → code ≡ 5 → ⊥
script_not_five code (inl a) e = let bad : 0 ≡ 5 = sym a ∙ e in cc
script_not_five code (inr (inl a)) e = let bad : 2 ≡ 5 = sym a ∙ e in cc
script_not_five code (inr (inr (inl a))) e = let bad : 3 ≡ 5 = sym a ∙ e in cc
script_not_five code (inr (inr (inr (inl a)))) e = let bad : 4 ≡ 5 = sym a ∙ e in cc
script_not_five code (inr (inr (inr (inr (inl a))))) e = let bad : 7 ≡ 5 = sym a ∙ e in cc
script_not_five code (inr (inr (inr (inr (inr (inl a)))))) e = let bad : 9 ≡ 5 = sym a ∙ e in cc
script_not_five code (inr (inr (inr (inr (inr (inr a)))))) e = let bad : 15 ≡ 5 = sym a ∙ e in cc

pub statement_not_five : (code : ℕ) → IsStatementCode code → code ≡ 5 → ⊥
statement_not_five code (inl a) e = let bad : 0 ≡ 5 = sym a ∙ e in cc
statement_not_five code (inr (inl a)) e = let bad : 4 ≡ 5 = sym a ∙ e in cc
statement_not_five code (inr (inr (inl a))) e = let bad : 7 ≡ 5 = sym a ∙ e in cc
statement_not_five code (inr (inr (inr (inl a)))) e = let bad : 11 ≡ 5 = sym a ∙ e in cc
statement_not_five code (inr (inr (inr (inr (inl a))))) e = let bad : 12 ≡ 5 = sym a ∙ e in cc
statement_not_five code (inr (inr (inr (inr (inr a))))) e = let bad : 13 ≡ 5 = sym a ∙ e in cc

pub words_not_five : (s : Status) → (s ≡ status.Words) ⊎ (s ≡ status.WriteFault) → status_code s ≡ 5 → ⊥
words_not_five s (inl a) e = let bad : 1 ≡ 5 = sym (ap status_code a) ∙ e in cc
words_not_five s (inr a) e = let bad : 4 ≡ 5 = sym (ap status_code a) ∙ e in cc

pub disk_status : (s : Status) → status_code s ≡ 5 → s ≡ status.DiskFault
disk_status status.DiskFault e = refl
disk_status status.Done e = absurd cc
disk_status status.Words e = absurd cc
disk_status status.Script e = absurd cc
disk_status status.ReadFault e = absurd cc
disk_status status.WriteFault e = absurd cc
disk_status status.HostFault e = absurd cc
disk_status status.NoMemory e = absurd cc
disk_status status.Internal e = absurd cc
disk_status status.Files e = absurd cc
disk_status status.Large e = absurd cc
disk_status status.Spent e = absurd cc
disk_status status.Refused e = absurd cc
disk_status status.NoLeader e = absurd cc
disk_status status.Unknown e = absurd cc

pub host_status : (s : Status) → status_code s ≡ 6 → s ≡ status.HostFault
host_status status.Spent e = absurd cc
host_status status.Done e = absurd cc
host_status status.Words e = absurd cc
host_status status.Script e = absurd cc
host_status status.ReadFault e = absurd cc
host_status status.WriteFault e = absurd cc
host_status status.DiskFault e = absurd cc
host_status status.HostFault e = refl
host_status status.NoMemory e = absurd cc
host_status status.Internal e = absurd cc
host_status status.Files e = absurd cc
host_status status.Large e = absurd cc
host_status status.Refused e = absurd cc
host_status status.NoLeader e = absurd cc
host_status status.Unknown e = absurd cc

-- ---- only a script ends with 3

pub statement_not_three : (code : ℕ) → IsStatementCode code → code ≡ 3 → ⊥
statement_not_three code (inl a) e = let bad : 0 ≡ 3 = sym a ∙ e in cc
statement_not_three code (inr (inl a)) e = let bad : 4 ≡ 3 = sym a ∙ e in cc
statement_not_three code (inr (inr (inl a))) e = let bad : 7 ≡ 3 = sym a ∙ e in cc
statement_not_three code (inr (inr (inr (inl a)))) e = let bad : 11 ≡ 3 = sym a ∙ e in cc
statement_not_three code (inr (inr (inr (inr (inl a))))) e = let bad : 12 ≡ 3 = sym a ∙ e in cc
statement_not_three code (inr (inr (inr (inr (inr a))))) e = let bad : 13 ≡ 3 = sym a ∙ e in cc

pub check_not_three : (code : ℕ) → IsCheckCode code → code ≡ 3 → ⊥
check_not_three code (inl a) e = let bad : 0 ≡ 3 = sym a ∙ e in cc
check_not_three code (inr (inl a)) e = let bad : 4 ≡ 3 = sym a ∙ e in cc
check_not_three code (inr (inr (inl a))) e = let bad : 5 ≡ 3 = sym a ∙ e in cc
check_not_three code (inr (inr (inr (inl a)))) e = let bad : 7 ≡ 3 = sym a ∙ e in cc
check_not_three code (inr (inr (inr (inr a)))) e = let bad : 8 ≡ 3 = sym a ∙ e in cc

pub serve_not_three : (code : ℕ) → IsServeCode code → code ≡ 3 → ⊥
serve_not_three code (inl a) e = let bad : 5 ≡ 3 = sym a ∙ e in cc
serve_not_three code (inr (inl a)) e = let bad : 6 ≡ 3 = sym a ∙ e in cc
serve_not_three code (inr (inr (inl a))) e = let bad : 7 ≡ 3 = sym a ∙ e in cc
serve_not_three code (inr (inr (inr (inl a)))) e = let bad : 8 ≡ 3 = sym a ∙ e in cc
serve_not_three code (inr (inr (inr (inr (inl a))))) e = let bad : 10 ≡ 3 = sym a ∙ e in cc
serve_not_three code (inr (inr (inr (inr (inr a))))) e = let bad : 15 ≡ 3 = sym a ∙ e in cc

pub words_not_three : (s : Status) → (s ≡ status.Words) ⊎ (s ≡ status.WriteFault) → status_code s ≡ 3 → ⊥
words_not_three s (inl a) e = let bad : 1 ≡ 3 = sym (ap status_code a) ∙ e in cc
words_not_three s (inr a) e = let bad : 4 ≡ 3 = sym (ap status_code a) ∙ e in cc

pub generated_not_three : (code : ℕ) → (code ≡ 0) ⊎ (code ≡ 4) ⊎ (code ≡ 7) → code ≡ 3 → ⊥
generated_not_three code (inl a) e = let bad : 0 ≡ 3 = sym a ∙ e in cc
generated_not_three code (inr (inl a)) e = let bad : 4 ≡ 3 = sym a ∙ e in cc
generated_not_three code (inr (inr a)) e = let bad : 7 ≡ 3 = sym a ∙ e in cc

pub made_not_three : (code : ℕ) → (code ≡ 0) ⊎ (code ≡ 2) ⊎ (code ≡ 4) ⊎ (code ≡ 7) ⊎ (code ≡ 9) ⊎ (code ≡ 15) → code ≡ 3 → ⊥
made_not_three code (inl a) e = let bad : 0 ≡ 3 = sym a ∙ e in cc
made_not_three code (inr (inl a)) e = let bad : 2 ≡ 3 = sym a ∙ e in cc
made_not_three code (inr (inr (inl a))) e = let bad : 4 ≡ 3 = sym a ∙ e in cc
made_not_three code (inr (inr (inr (inl a)))) e = let bad : 7 ≡ 3 = sym a ∙ e in cc
made_not_three code (inr (inr (inr (inr (inl a))))) e = let bad : 9 ≡ 3 = sym a ∙ e in cc
made_not_three code (inr (inr (inr (inr (inr a))))) e = let bad : 15 ≡ 3 = sym a ∙ e in cc

pub read_status : (s : Status) → status_code s ≡ 3 → s ≡ status.ReadFault
read_status status.Done e = absurd cc
read_status status.Words e = absurd cc
read_status status.Script e = absurd cc
read_status status.ReadFault e = refl
read_status status.WriteFault e = absurd cc
read_status status.DiskFault e = absurd cc
read_status status.HostFault e = absurd cc
read_status status.NoMemory e = absurd cc
read_status status.Internal e = absurd cc
read_status status.Files e = absurd cc
read_status status.Large e = absurd cc
read_status status.Spent e = absurd cc
read_status status.Refused e = absurd cc
read_status status.NoLeader e = absurd cc
read_status status.Unknown e = absurd cc

-- ---- a script, a statement and refused words don't end with 8

pub script_not_eight : (code : ℕ) → IsScriptCode code → code ≡ 8 → ⊥
script_not_eight code (inl a) e = let bad : 0 ≡ 8 = sym a ∙ e in cc
script_not_eight code (inr (inl a)) e = let bad : 2 ≡ 8 = sym a ∙ e in cc
script_not_eight code (inr (inr (inl a))) e = let bad : 3 ≡ 8 = sym a ∙ e in cc
script_not_eight code (inr (inr (inr (inl a)))) e = let bad : 4 ≡ 8 = sym a ∙ e in cc
script_not_eight code (inr (inr (inr (inr (inl a))))) e = let bad : 7 ≡ 8 = sym a ∙ e in cc
script_not_eight code (inr (inr (inr (inr (inr (inl a)))))) e = let bad : 9 ≡ 8 = sym a ∙ e in cc
script_not_eight code (inr (inr (inr (inr (inr (inr a)))))) e = let bad : 15 ≡ 8 = sym a ∙ e in cc

pub statement_not_eight : (code : ℕ) → IsStatementCode code → code ≡ 8 → ⊥
statement_not_eight code (inl a) e = let bad : 0 ≡ 8 = sym a ∙ e in cc
statement_not_eight code (inr (inl a)) e = let bad : 4 ≡ 8 = sym a ∙ e in cc
statement_not_eight code (inr (inr (inl a))) e = let bad : 7 ≡ 8 = sym a ∙ e in cc
statement_not_eight code (inr (inr (inr (inl a)))) e = let bad : 11 ≡ 8 = sym a ∙ e in cc
statement_not_eight code (inr (inr (inr (inr (inl a))))) e = let bad : 12 ≡ 8 = sym a ∙ e in cc
statement_not_eight code (inr (inr (inr (inr (inr a))))) e = let bad : 13 ≡ 8 = sym a ∙ e in cc

pub words_not_eight : (s : Status) → (s ≡ status.Words) ⊎ (s ≡ status.WriteFault) → status_code s ≡ 8 → ⊥
words_not_eight s (inl a) e = let bad : 1 ≡ 8 = sym (ap status_code a) ∙ e in cc
words_not_eight s (inr a) e = let bad : 4 ≡ 8 = sym (ap status_code a) ∙ e in cc

-- ---- a statement, a check, a script that is only made and refused arguments don't end with 15

pub statement_not_fifteen : (code : ℕ) → IsStatementCode code → code ≡ 15 → ⊥
statement_not_fifteen code (inl a) e = let bad : 0 ≡ 15 = sym a ∙ e in cc
statement_not_fifteen code (inr (inl a)) e = let bad : 4 ≡ 15 = sym a ∙ e in cc
statement_not_fifteen code (inr (inr (inl a))) e = let bad : 7 ≡ 15 = sym a ∙ e in cc
statement_not_fifteen code (inr (inr (inr (inl a)))) e = let bad : 11 ≡ 15 = sym a ∙ e in cc
statement_not_fifteen code (inr (inr (inr (inr (inl a))))) e = let bad : 12 ≡ 15 = sym a ∙ e in cc
statement_not_fifteen code (inr (inr (inr (inr (inr a))))) e = let bad : 13 ≡ 15 = sym a ∙ e in cc

pub check_not_fifteen : (code : ℕ) → IsCheckCode code → code ≡ 15 → ⊥
check_not_fifteen code (inl a) e = let bad : 0 ≡ 15 = sym a ∙ e in cc
check_not_fifteen code (inr (inl a)) e = let bad : 4 ≡ 15 = sym a ∙ e in cc
check_not_fifteen code (inr (inr (inl a))) e = let bad : 5 ≡ 15 = sym a ∙ e in cc
check_not_fifteen code (inr (inr (inr (inl a)))) e = let bad : 7 ≡ 15 = sym a ∙ e in cc
check_not_fifteen code (inr (inr (inr (inr a)))) e = let bad : 8 ≡ 15 = sym a ∙ e in cc

pub generated_not_fifteen : (code : ℕ) → (code ≡ 0) ⊎ (code ≡ 4) ⊎ (code ≡ 7) → code ≡ 15 → ⊥
generated_not_fifteen code (inl a) e = let bad : 0 ≡ 15 = sym a ∙ e in cc
generated_not_fifteen code (inr (inl a)) e = let bad : 4 ≡ 15 = sym a ∙ e in cc
generated_not_fifteen code (inr (inr a)) e = let bad : 7 ≡ 15 = sym a ∙ e in cc

pub words_not_fifteen : (s : Status) → (s ≡ status.Words) ⊎ (s ≡ status.WriteFault) → status_code s ≡ 15 → ⊥
words_not_fifteen s (inl a) e = let bad : 1 ≡ 15 = sym (ap status_code a) ∙ e in cc
words_not_fifteen s (inr a) e = let bad : 4 ≡ 15 = sym (ap status_code a) ∙ e in cc

-- what holds of a disk, a network and a status, holds of the same by other names
pub moved : {D N : Type 0} (disk disk_then : D) (network network_then : N) (s t : Status) (code : ℕ) → disk ≡ disk_then → network ≡ network_then → s ≡ t →
    code ≡ status_code s
    → (P : D → N → ℕ → Type 0) → P disk_then network_then (status_code t) → P disk network code
moved disk disk_then network network_then s t code disk_is network_is status_is code_is P h =
    subst (λ d. P d network code) (sym disk_is) (subst (λ n. P disk_then n code) (sym network_is) (subst (λ k. P disk_then network_then k) (sym (code_is ∙ ap status_code status_is)) h))
