use Rattle.std.proofs.Common.{◌++◌, ap, arith}
use Rattle.client_connection.specs.Connection.{Conn}
use Rattle.client_connection.proofs.Counting.{counts_read, count_fits}
use Rattle.client_connection.proofs.connection.Connection.read.Goals as goal

pub bytes_of_all-requires : goal.bytes_of_all-requires
bytes_of_all-requires c =
    let counts = counts_read c.args.self.now c.self.inside.splitter c.feed.new.splitter (c.self.inside.earlier.items ++ c.self.inside.latest.items) c.in_ok-messages.messages.items c.args.bytes.now c.self.inside.is_begun c.self.inside.waiting_bytes c.self.invariant (ap (λ (x : Conn). x.end) c.self.view_is) (ap (λ (x : Conn). x.waiting) c.self.view_is) c.requires c.in_ok-messages.ensures.fed c.in_ok-messages.ensures.added in
    let few = count_fits _ _ _ _ counts in
    rw c.as_slice.ensures.value (omega (arith, few))

pub overflow_add-self : goal.overflow_add-self
overflow_add-self c =
    let counts = counts_read c.args.self.now c.self.inside.splitter c.feed.new.splitter (c.self.inside.earlier.items ++ c.self.inside.latest.items) c.in_ok-messages.messages.items c.args.bytes.now c.self.inside.is_begun c.self.inside.waiting_bytes c.self.invariant (ap (λ (x : Conn). x.end) c.self.view_is) (ap (λ (x : Conn). x.waiting) c.self.view_is) c.requires c.in_ok-messages.ensures.fed c.in_ok-messages.ensures.added in
    let few = count_fits _ _ _ _ counts in
    rw (c.bytes_of_all.ensures, c.as_slice.ensures.value) (omega (arith, few))

pub invariant_of-self-2 : goal.invariant_of-self-2
invariant_of-self-2 c =
    let counts = counts_read c.args.self.now c.self.inside.splitter c.feed.new.splitter (c.self.inside.earlier.items ++ c.self.inside.latest.items) c.in_ok-messages.messages.items c.args.bytes.now c.self.inside.is_begun c.self.inside.waiting_bytes c.self.invariant (ap (λ (x : Conn). x.end) c.self.view_is) (ap (λ (x : Conn). x.waiting) c.self.view_is) c.requires c.in_ok-messages.ensures.fed c.in_ok-messages.ensures.added in
    rw (c.in_ok-append.ensures.items, c.from.ensures.0, c.begins-is_begun.ensures, c.held.ensures, c.bytes_of_all.ensures, c.as_slice.ensures.value) counts
