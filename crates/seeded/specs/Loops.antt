-- What the private functions do: for their contracts, and no part of what the public call promises.
use Rattle.std.specs.Prelude.{ℕ, ◌-◌, ◌≤◌, ◌≡◌, List, length}
use Rattle.line.specs.Line.{table_length}
use Rattle.line.specs.Width.{part_of}
use Rattle.number.specs.Numbers.{number_outcomes}
use Rattle.recipe.specs.Loops.{InTurn}
use Rattle.header.specs.declared.Header.{Header}
use Rattle.reader.specs.Loops.{SoundHeader}
use Rattle.generator.specs.Tables.{generated, bit_state}
use Rattle.seeded.specs.Promise.{seed_run, last_table, last_log}

-- m bits of an accepted header's run are rehearsed, one after another: table and log are the last one's, and the state is the one that they leave
pub record BitsRun (h : Header) (seed m state : ℕ) (table bytes results : List ℕ) : Type 0 where
  pub sound : SoundHeader h
  pub state_is : state ≡ bit_state h seed m
  pub table_whole : length table ≡ table_length h.line.n h.line.t
  pub table_is : 1 ≤ m → table ≡ part_of (table_length h.line.n h.line.t) (generated h seed) (m - 1)
  pub in_turn : InTurn (seed_run h seed) m bytes results

-- all bits
pub record Ran (h : Header) (seed : ℕ) (table bytes results : List ℕ) : Type 0 where
  pub table_is : table ≡ last_table h seed
  pub log_is : bytes ≡ last_log h seed
  pub outcomes_are : results ≡ number_outcomes (seed_run h seed)
