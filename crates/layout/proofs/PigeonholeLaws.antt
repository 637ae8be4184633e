-- The pigeonhole principle: of k + 1 numbers from 1 to k, two are the same. Assumes nothing.
use Prim.Native.Nat.{ℕ, zero, suc, ◌-◌, ◌≤◌, ◌<◌}
use mathlib.Core.Path.{◌≡◌}
use mathlib.Core.Logic.{◌⊎◌, inl, inr, ⊎_elim}
use native.Mathlib.Nat.{eq-or-lt_of_le, le_of_suc-le-suc, le_refl}
use native.Mathlib.Omega.{arith}
use lib.Dec.{ltb}
use borrow.Author.Tests.{lt-ltb, le-ltb}
use Rattle.std.specs.Prelude.{if◌then◌else◌}
use Rattle.line.proofs.CountLaws.{le_or_lt, same_or_not}

-- whether v is among the first n values
find : (f : ℕ → ℕ) (v n : ℕ) → ((a : ℕ) × ((a < n) × (f a ≡ v))) ⊎ ((a : ℕ) → a < n → f a ≡ v → ⊥)
find f v zero = inr (λ a h e. omega arith)
find f v (suc n) = ⊎_elim
    (λ p. inl (p.0, (omega (arith, p.1.0), p.1.1)))
    (λ q. ⊎_elim
    (λ (e : f n ≡ v). inl (n, (le_refl _, e)))
    (λ (ne : f n ≡ v → ⊥). inr (λ a h e. ⊎_elim (λ (r : a ≡ n). ne (rw r at e)) (λ (r : a < n). q a r e) (eq-or-lt_of_le (le_of_suc-le-suc h))))
    (same_or_not (f n) v))
    (find f v n)

-- the values above v, one lower
squeeze : ℕ → ℕ → ℕ
squeeze v x = if ltb v x then x - 1 else x

squeezed : (v x : ℕ) → (x ≡ v → ⊥) → ((v < x) × (squeeze v x ≡ x - 1)) ⊎ ((x < v) × (squeeze v x ≡ x))
unfolding squeeze
squeezed v x ne =
    ⊎_elim
    (λ (p : x ≤ v). inr (omega arith, rw (le-ltb v x p)))
    (λ (p : v < x). inl (p, rw (lt-ltb v x p)))
    (le_or_lt x v)

-- two positions up to k with one value
abbrev pub Twice : (ℕ → ℕ) → ℕ → Type 0
Twice f k = (a : ℕ) × ((b : ℕ) × ((a < b) × ((b ≤ k) × (f a ≡ f b))))

pub pigeonhole : (k : ℕ) (f : ℕ → ℕ) → ((m : ℕ) → m ≤ k → (1 ≤ f m) × (f m ≤ k)) → Twice f k
pigeonhole zero f h = absurd (omega (arith, h 0 (le_refl 0)))
pigeonhole (suc k) f h = ⊎_elim
    (λ p. (p.0, (suc k, (p.1.0, (le_refl _, p.1.1)))))
    (λ none.
    let v = f (suc k) in
    let apart : (m : ℕ) → m ≤ k → ((v < f m) × (squeeze v (f m) ≡ f m - 1)) ⊎ ((f m < v) × (squeeze v (f m) ≡ f m)) =
    λ m l. squeezed v (f m) (none m (omega arith)) in
    let t = pigeonhole k (λ m. squeeze v (f m)) (λ m p. ⊎_elim
    (λ q. omega (arith, h m (omega arith), h (suc k) (le_refl _), q.0, q.1))
    (λ q. omega (arith, h m (omega arith), h (suc k) (le_refl _), q.0, q.1))
    (apart m p)) in
    let a = t.0 in
    let b = t.1.0 in
    let ab : a < b = t.1.1.0 in
    let bk : b ≤ k = t.1.1.1.0 in
    let e = t.1.1.1.1 in (
      a,
      (
        b,
        (
          ab,
          (
            omega arith,
            ⊎_elim
                (λ q. ⊎_elim (λ r. omega (arith, e, q.0, q.1, r.0, r.1)) (λ r. omega (arith, e, q.0, q.1, r.0, r.1)) (apart b bk))
                (λ q. ⊎_elim (λ r. omega (arith, e, q.0, q.1, r.0, r.1)) (λ r. omega (arith, e, q.0, q.1, r.0, r.1)) (apart b bk))
                (apart a (omega arith)),
          ),
        ),
      ),
    ))
    (find f (f (suc k)) (suc k))
