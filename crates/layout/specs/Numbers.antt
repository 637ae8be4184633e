-- A record's numbers together, as the code hands them on.
use Rattle.std.specs.Prelude.{ℕ, ◌+◌, List, if◌then◌else◌}
use Rattle.layout.specs.declared.Record.{Record}
use Rattle.layout.specs.Layout.{byte, two, start}
use Rattle.layout.specs.Chain.{is_record}

-- "round, from, to, ballot, next index (two bytes)", the bit and a zero byte (request 5): of the record that starts at this byte
unfoldable pub numbers_from : List ℕ → ℕ → Record
numbers_from s at = record {
  round = byte s at;
  from = byte s (at + 1);
  to = byte s (at + 2);
  ballot = byte s (at + 3);
  next = two s (at + 4);
  bit = byte s (at + 6);
  rest = byte s (at + 7);
}

-- where no record stands
unfoldable pub no_numbers : Record
no_numbers = record { round = 0; from = 0; to = 0; ballot = 0; next = 0; bit = 0; rest = 0 }

-- of the record with index i
unfoldable pub record_at : List ℕ → ℕ → Record
record_at s i = if is_record s i then numbers_from s (start i) else no_numbers
