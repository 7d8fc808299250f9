-- How many numbers a coordinator's decisions give at most.
use Rattle.std.specs.Prelude.{ℕ}

-- numbers are given from 1 to 1,000,000 (own rule)
abbrev pub most_numbers : ℕ
most_numbers = 1000000
