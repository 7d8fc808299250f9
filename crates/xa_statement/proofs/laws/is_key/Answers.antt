use Rattle.xa_statement.proofs.laws.is_key.Goals as goal

pub returns : goal.returns
returns c = record {
  some = rw c.as_slice.ensures.value at c.as_slice.ensures.not_empty;
  all = rw c.as_slice.ensures.value at c.are_bytes.ensures;
  fits = rw c.as_slice.ensures.value at c.as_slice.ensures.fits;
}
