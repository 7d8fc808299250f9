-- What a handle owns.
--     boxed, holds    what a box of a chair owns, and what a handle owns
use Rattle.std.specs.{Prelude.◌≡◌, Box.Ownership.box_owns, Coded.coded_option, declared.option.Option.Option}
use Rattle.std.specs.{Global.Global, contracts.impls.GlobalAllocator.TheImpl.ghosts}
use Rattle.nigbaru_c.specs.contracts.chair.Chair.{the_row}
use base.Fml.{Fml, ftrue, fex}
use base.Stored.{Coded}
use denote.RawPtr.{Ptr, null_ptr}

-- the C library's heap; a program has only this one
abbrev pub heap : Global
heap = record { memory = record { seal = tt } }

-- the box at this address, from the C library's heap, holds this chair (what a handle points to), with the right to
-- free the box
abbrev pub boxed : Ptr → the_row.Denot → Fml
boxed = box_owns (ghosts.dealloc_token heap) the_row

-- what a handle with this address owns: the box of its chair and the right to free it, or nothing at null
abbrev pub holds : Ptr → Option the_row.Denot → Fml
holds at Option.None = fex (at ≡ null_ptr) (λ _. ftrue)
holds at (Option.Some chair) = boxed at chair

-- what a handle holds is encoded as a chair is, or as nothing
abbrev pub held_coded : Coded (Option the_row.Denot)
held_coded = coded_option the_row.coded
