use Rattle.std.proofs.Common.{rules, arith, ◌≡◌, ◌++◌, ◌∷◌, []}
use Rattle.xa_lines.proofs.Cut.{put_short, put_long}
use Rattle.xa_lines.proofs.begun_line.BegunLine.put.Goals as goal

pub returns-then-len-ge-LINE_BYTES : goal.returns-then-len-ge-LINE_BYTES
returns-then-len-ge-LINE_BYTES c =
    let line = c.args.self.now in
    put_long line.is_long line.bytes.items c.args.byte c.if-self.false (omega (arith, line.bytes.ok.0))

pub returns : goal.returns
returns c =
    let line = c.args.self.now in
    let pushed : c.push.new.self.items ≡ line.bytes.items ++ c.args.byte ∷ [] = search rules in
    put_short line.is_long line.bytes.items c.push.new.self.items c.args.byte c.if-self.false
    (omega (arith, line.bytes.ok.0)) pushed
