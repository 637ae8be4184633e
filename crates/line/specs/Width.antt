-- Recipe numbers (document 02, request 5): how many bits a number has, and which part of a buffer is one bit's.
use Rattle.std.specs.Prelude.{ℕ, ◌*◌, ◌/◌, ◌%◌, ◌^◌, List, eqb, take, drop, if◌then◌else◌}
use Rattle.line.specs.Line.{largest_table, table_length}

-- "a number of w bits, w from 1 to 8"
abbrev pub most_bits : ℕ
most_bits = 8

-- the bits of w: "0 standing for 1 there and in every call that takes w"
unfoldable pub bits : ℕ → ℕ
bits w = if eqb w 0 then 1 else w

-- bit b of a number
unfoldable pub bit_of : ℕ → ℕ → ℕ
bit_of m b = m / 2 ^ b % 2

-- "The buffers hold the bits' tables one after another, bit 0 first": the bytes of all tables, and of all logs
abbrev pub tables_length : ℕ → ℕ → ℕ → ℕ
tables_length n t w = bits w * table_length n t

-- .. and the part of bit b, where a part has `size` bytes
unfoldable pub part_of : ℕ → List ℕ → ℕ → List ℕ
part_of size bytes b = take size (drop (b * size) bytes)

-- the most bytes of all tables
abbrev pub largest_tables : ℕ
largest_tables = most_bits * largest_table
