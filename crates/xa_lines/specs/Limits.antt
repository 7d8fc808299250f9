-- How long a script is at most, and how often it is read (own rule).
use Rattle.std.specs.Prelude.{ℕ}

-- 1 MiB: one byte more can't be read
abbrev pub script_bytes : ℕ
script_bytes = 1048576

-- a reader that gives one byte at a time needs one read for each and one more; twice as many are ample, and with a
-- bound reading comes to an end
abbrev pub script_reads : ℕ
script_reads = 2097152
