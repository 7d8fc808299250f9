use Rattle.std.proofs.Common.{◌≡◌, ◌++◌, ◌+◌, ℕ, List, take, sym, subst, rules, arith, length-append}
use Rattle.std.proofs.{KnownBytes.Consumes-trans, lemmas.{Result.err_from_is_err_and, List.length-take}}
use Rattle.std.specs.Io.KnownBytes.{Consumes}
use Rattle.xa_lines.{specs.Calls.Carries, proofs.Calls.{carries_empty, read_more, stops_for_memory, stops_for_fault}}
use Rattle.xa_lines.proofs.Written.{length-piece}
use Rattle.xa_lines.proofs.streams.read_within.Goals as goal

pub loop-read-init : goal.loop-read-init
loop-read-init g c = record {
  consumed = search rules;
  short = search rules;
  calls = carries_empty g.R.PieceReader.gives c.args.reader.now c.new-text.result.items c.new-text.ensures.items;
}

pub returns-in_err-count-clause-cause : goal.returns-in_err-count-clause-cause
returns-in_err-count-clause-cause g c =
    let p = err_from_is_err_and c.from_residual.result c.from_residual.ensures.1 in
    stops_for_fault g.R.PieceReader.gives g.R.PieceReader.fails c.args.reads c.args.most c.args.reader.now
    c.read_once.new.reader
    c.from_residual.result p.0 _ p.1 p.2 c.in_err-count.ensures.fault (record {
      count = c.loop-read._read;
      text = c.loop-read.text.items;
      last = c.loop-read.reader;
      within = omega (arith, c.loop-read-test.true);
      short = omega (arith, c.loop-read.invariant.short, c.loop-read.text.ok.0);
      calls = c.loop-read.invariant.calls;
      failed = c.in_err-count.ensures.failed;
    })

pub returns-then-count-most-clause-too_long : goal.returns-then-count-most-clause-too_long
returns-then-count-most-clause-too_long g c =
    λ _. (
      c.loop-read.text.items ++ take c.in_ok-count.count c.read_once.new.piece,
      Consumes-trans _ _ _ _ _ c.loop-read.invariant.consumed c.in_ok-count.ensures.bytes.0,
      length-piece c.args.most c.loop-read.text.items c.read_once.new.piece c.in_ok-count.count
          (omega (arith, c.if-count-most.true, c.len.ensures, c.loop-read.text.ok.0)) c.in_ok-count.ensures.bound.0,
    )

pub returns-then-count-most-clause-cause : goal.returns-then-count-most-clause-cause
returns-then-count-most-clause-cause g c = (
  c.loop-read.text.items ++ take c.in_ok-count.count c.read_once.new.piece,
  length-piece c.args.most c.loop-read.text.items c.read_once.new.piece c.in_ok-count.count
      (omega (arith, c.if-count-most.true, c.len.ensures, c.loop-read.text.ok.0)) c.in_ok-count.ensures.bound.0,
  record {
    count = c.loop-read._read + 1;
    within = omega (arith, c.loop-read-test.true);
    calls = read_more g.R.PieceReader.gives c.loop-read._read c.in_ok-count.count c.args.reader.now c.loop-read.reader
        c.read_once.new.reader c.loop-read.text.items
        c.read_once.new.piece (omega (arith, c.if-count-eq0.false)) c.in_ok-count.ensures.bound.0
        c.loop-read.invariant.calls c.in_ok-count.ensures.given;
  },
)

pub returns-in_err-extend_from_slice-clause-cause : goal.returns-in_err-extend_from_slice-clause-cause
returns-in_err-extend_from_slice-clause-cause g c =
    let p = err_from_is_err_and c.from_residual-in_err-extend_from_slice.result
    c.from_residual-in_err-extend_from_slice.ensures.1 in
    stops_for_memory g.R.PieceReader.gives g.R.PieceReader.fails c.args.reads c.args.most c.args.reader.now
    c.read_once.new.reader
    c.from_residual-in_err-extend_from_slice.result p.0 (c.loop-read.text.items
    ++ take c.in_ok-count.count c.read_once.new.piece) p.1 p.2
    (omega (
      arith,
      c.if-count-most.false,
      c.len.ensures,
      c.loop-read.text.ok.0,
      c.loop-read.invariant.short,
      length-append c.loop-read.text.items (take c.in_ok-count.count c.read_once.new.piece),
      length-take c.in_ok-count.count c.read_once.new.piece,
    ))
    (record {
      count = c.loop-read._read + 1;
      within = omega (arith, c.loop-read-test.true);
      calls = read_more g.R.PieceReader.gives c.loop-read._read c.in_ok-count.count c.args.reader.now c.loop-read.reader
          c.read_once.new.reader c.loop-read.text.items
          c.read_once.new.piece (omega (arith, c.if-count-eq0.false)) c.in_ok-count.ensures.bound.0
          c.loop-read.invariant.calls c.in_ok-count.ensures.given;
    })

pub loop-read-preserved : goal.loop-read-preserved
loop-read-preserved g c =
    let P : List ℕ → Type 0 = λ xs. Carries g.R.PieceReader.gives
    (c.loop-read._read + 1) c.args.reader.now xs c.read_once.new.reader in
    let pushed : c.extend_from_slice.new.self.items ≡ c.loop-read.text.items
    ++ take c.in_ok-count.count c.read_once.new.piece = search rules in
    let Q : List ℕ → Type 0 = λ xs. Consumes (g.R.Read.remaining c.args.reader.now)
    (g.R.Read.remaining c.read_once.new.reader) xs in
    record {
      consumed = subst Q (sym pushed)
          (Consumes-trans _ _ _ _ _ c.loop-read.invariant.consumed c.in_ok-count.ensures.bytes.0);
      short = search rules;
      calls = subst P (sym pushed)
          (read_more g.R.PieceReader.gives c.loop-read._read c.in_ok-count.count c.args.reader.now c.loop-read.reader
          c.read_once.new.reader
          c.loop-read.text.items c.read_once.new.piece (omega
          (arith, c.if-count-eq0.false)) c.in_ok-count.ensures.bound.0 c.loop-read.invariant.calls
          c.in_ok-count.ensures.given);
    }
