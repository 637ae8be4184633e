-- Records outside the chain are ignored: two sheets with the same header and the same chained records are read alike. Assumes nothing.
use Prim.Native.Nat.{ℕ, zero, suc}
use mathlib.Core.Path.{◌≡◌, refl, ◌∙◌}
use mathlib.Core.List.{List}
use native.Mathlib.Omega.{arith}
use Rattle.layout.specs.Layout.{header, ballot}
use Rattle.layout.specs.Chain.{Record, reached, Fate, leaves, again, ends}
use Rattle.layout.specs.Outside.{SameChain}
use Rattle.layout.proofs.ChainLaws.{Chained}
use Rattle.judgement.specs.Judgement.{chain_verdict, sheet_verdict}
use Rattle.judgement.proofs.OutsideLaws as same
use Rattle.judgement.proofs.OutsideLaws.{round_same, from_same, to_same, bit_same, ballot_same}
use Rattle.reader.specs.Reading.{place_of, filled, table_of}
use Rattle.reader.proofs.FateLaws.{one_chain}

module _ (s s' : List ℕ) (h : SameChain s s') where
  module _ (m : ℕ) (r : Record s (reached s m)) where
    -- its place
    place_alike : place_of s (reached s m) ≡ place_of s' (reached s' m)
    unfolding place_of
    place_alike =
        let i = reached s m in
        let c = same.same_record s s' h m r in
        rw (← same.reached_alike s s' h m, same.header_alike s s' h, round_same s s' i c, from_same s s' i c, to_same s s' i c, bit_same s s' i c)

    -- its ballot
    ballot_alike : ballot s (reached s m) ≡ ballot s' (reached s' m)
    ballot_alike = rw (← same.reached_alike s s' h m) (ballot_same s s' (reached s m) (same.same_record s s' h m r))

  -- the table after the first m records
  filled_alike : (m : ℕ) → Chained s m → filled s m ≡ filled s' m
  unfolding filled
  filled_alike zero c = rw (same.header_alike s s' h)
  filled_alike (suc m) c =
      let r = c m (omega arith) in
      rw (filled_alike m (λ a l. c a (omega arith)), place_alike m r, ballot_alike m r)

  -- ---- the fates

  -- the second sheet's chain comes to the same
  chain_alike : (f : Fate s) → (g : Fate s') × ((chain_verdict s f ≡ chain_verdict s' g) × (table_of s f ≡ table_of s' g))
  chain_alike (leaves l) =
      let m = l.where_it_does in
      (leaves (record { where_it_does = m; above = rw (← same.reached_alike s s' h m, ← same.records_alike s s' h) l.above }), (refl, refl))
  chain_alike (again a) =
      let e = a.early in
      let l = a.late in (
        again (record {
          early = e;
          late = l;
          order = a.order;
          a_record = same.chained_alike s s' h e a.a_record;
          same = rw (← same.reached_alike s s' h l, ← same.reached_alike s s' h e) a.same;
        }),
        (refl, refl),
      )
  chain_alike (ends m e) = (
    ends m (record { chained = λ a l. same.chained_alike s s' h a (e.chained a l); zero_there = rw (← same.reached_alike s s' h m) e.zero_there }),
    (same.records_verdict_alike s s' h m e.chained, filled_alike m e.chained),
  )

  -- the whole verdict
  verdict_alike : (l : ℕ) (f : Fate s) (f' : Fate s') → sheet_verdict s l f ≡ sheet_verdict s' l f'
  unfolding sheet_verdict
  verdict_alike l f f' =
      let (g, (v, t)) = chain_alike f in
      rw (same.opening_alike s s' h l, v, (one_chain s' g f').0)

  -- the two sheets are read alike, whatever fates they are given
  pub read_alike : (f : Fate s) (f' : Fate s')
      → ((l : ℕ) → sheet_verdict s l f ≡ sheet_verdict s' l f') × ((header s ≡ header s') × (table_of s f ≡ table_of s' f'))
  read_alike f f' =
      let (g, (v, t)) = chain_alike f in
      (λ l. verdict_alike l f f', (same.header_alike s s' h, t ∙ (one_chain s' g f').1))
