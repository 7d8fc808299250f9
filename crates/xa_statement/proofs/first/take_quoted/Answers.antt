use Rattle.std.proofs.Common.{◌≤◌, ◌+◌, length, rules}
use Rattle.xa_statement.proofs.Ways.{plain_taken}
use Rattle.xa_statement.proofs.first.take_quoted.Goals as goal

pub returns-in-Ok : goal.returns-in-Ok
returns-in-Ok c =
    let plain = c.split_plain.result.0.now in
    let old = c.args.bytes.now in
    let fits : length old.items + length plain ≤ 64 = search rules in
    plain_taken c.args.quote c.args.body.now plain c.split_plain.result.1.now c.in_ok-rest.rest.now old
    c.try_extend_from_slice.new.self
    c.split_plain.ensures.front c.split_plain.ensures.behind c.in_ok-rest.ensures c.requires c.in-Ok.ensures.ok fits
