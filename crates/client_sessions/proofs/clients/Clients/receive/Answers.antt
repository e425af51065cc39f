use Rattle.std.proofs.Common.{rules, ◌≡◌, [], ◌∷◌, ◌++◌, refl, sym, ap, ◌∙◌}
use Rattle.client_connection.specs.Connection.{received}
use Rattle.client_sessions.proofs.Hearing.{heard_closed, heard_held, heard_stand}
use Rattle.client_sessions.proofs.Standing.{entries_alike, put_back, on_err, same_stand, stream_held}
use Rattle.client_sessions.proofs.clients.Clients.receive.Goals as goal

pub returns-in_default-clause-heard : goal.returns-in_default-clause-heard
returns-in_default-clause-heard c = λ databases.
    entries_alike c.args.self.now _ databases databases refl (ap (λ m. m.entries) c.get_mut.follows.holds-at-none) refl
    ∙ sym (heard_closed _ c.args.conn c.args.bytes.now (stream_held c.args.self.now databases c.args.conn _ (sym c.in_default.ensures.value)))

pub returns-in_err-reserve-clause-stand : goal.returns-in_err-reserve-clause-stand
returns-in_err-reserve-clause-stand c = λ databases stand.
    let back = c.in-Some.stream.now in
    same_stand c.args.self.now _ databases
    (entries_alike c.args.self.now _ databases databases refl
    (put_back c.args.self.now.connections.entries _ c.args.conn back back (c.get_mut.follows.holds back).0 c.in-Some.ensures.value refl) c.reserve.ensures.items)
    stand.pins stand

pub returns-in_err-reserve-clause-failed : goal.returns-in_err-reserve-clause-failed
returns-in_err-reserve-clause-failed c =
    let back = c.in-Some.stream.now in
    on_err c.from_residual.result _ (λ databases.
    entries_alike c.args.self.now _ databases databases refl
    (put_back c.args.self.now.connections.entries _ c.args.conn back back (c.get_mut.follows.holds back).0 c.in-Some.ensures.value refl) c.reserve.ensures.items)

pub returns-in_err-receive-clause-stand : goal.returns-in_err-receive-clause-stand
returns-in_err-receive-clause-stand c = λ databases stand.
    let back = c.receive.new.self in
    let same : back ≡ c.in-Some.stream.now = search rules in
    same_stand c.args.self.now _ databases
    (entries_alike c.args.self.now _ databases databases refl
    (put_back c.args.self.now.connections.entries _ c.args.conn c.in-Some.stream.now back (c.get_mut.follows.holds back).0 c.in-Some.ensures.value same) c.reserve.ensures.items)
    stand.pins stand

pub returns-in_err-receive-clause-failed : goal.returns-in_err-receive-clause-failed
returns-in_err-receive-clause-failed c =
    let back = c.receive.new.self in
    let same : back ≡ c.in-Some.stream.now = search rules in
    on_err c.from_residual-in_err-receive.result _ (λ databases.
    entries_alike c.args.self.now _ databases databases refl
    (put_back c.args.self.now.connections.entries _ c.args.conn c.in-Some.stream.now back (c.get_mut.follows.holds back).0 c.in-Some.ensures.value same) c.reserve.ensures.items)

pub returns-clause-heard : goal.returns-clause-heard
returns-clause-heard c = λ databases.
    let back = c.receive.new.self in
    let put : back ≡ received c.in-Some.stream.now c.args.bytes.now = c.in_ok-receive.ensures.ok in
    heard_held c.args.self.now _ databases c.args.conn c.args.bytes.now c.in-Some.stream.now back c.in-Some.ensures.value put refl
    ((c.get_mut.follows.holds back).3 (search rules)).0 (c.in_ok-push_back.ensures.items ∙ ap (λ ts. ts ++ c.args.conn ∷ []) c.reserve.ensures.items)

pub returns-clause-stand : goal.returns-clause-stand
returns-clause-stand c = λ databases stand.
    let back = c.receive.new.self in
    let put : back ≡ received c.in-Some.stream.now c.args.bytes.now = c.in_ok-receive.ensures.ok in
    heard_stand c.args.self.now _ databases c.args.conn c.args.bytes.now
    (heard_held c.args.self.now _ databases c.args.conn c.args.bytes.now c.in-Some.stream.now back c.in-Some.ensures.value put refl
    ((c.get_mut.follows.holds back).3 (search rules)).0 (c.in_ok-push_back.ensures.items ∙ ap (λ ts. ts ++ c.args.conn ∷ []) c.reserve.ensures.items))
    stand.pins stand
