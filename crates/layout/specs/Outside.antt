-- "A record outside the chain is ignored, its content too.": what is left of a sheet then (`OutsideIgnored` of reader).
use Rattle.std.specs.Prelude.{ℕ, ◌+◌, ◌<◌, ◌≡◌, List, length}
use Rattle.layout.specs.Layout.{byte, start}
use Rattle.layout.specs.Chain.{Record, reached}

-- two sheets of one length with the same header and, wherever the first one's chain comes, the same record
pub record SameChain (s s' : List ℕ) : Type 0 where
  pub length_same : length s ≡ length s'
  pub header_same : (b : ℕ) → b < 12 → byte s b ≡ byte s' b
  pub chain_same : (m b : ℕ) → Record s (reached s m) → b < 8 → byte s (start (reached s m) + b) ≡ byte s' (start (reached s m) + b)
