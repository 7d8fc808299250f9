use Rattle.xa_xid.proofs.laws.is_writable.Goals as goal

pub returns : goal.returns
returns c = record {
  gtrid_bytes = rw c.as_slice.ensures.value at c.are_bytes.ensures;
  gtrid_fits = rw c.as_slice.ensures.value at c.as_slice.ensures.fits;
  bqual_bytes = rw c.as_slice-2.ensures.value at c.are_bytes-2.ensures;
  bqual_fits = rw c.as_slice-2.ensures.value at c.as_slice-2.ensures.fits;
  format_fits = c.is_below_2_to_the_64.ensures;
}
