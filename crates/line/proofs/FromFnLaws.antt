-- An array that std's `from_fn` makes by calls that change nothing. Assumes nothing.
use Prim.Native.Nat.{ℕ, zero, suc, ◌+◌, ◌≤◌, ◌<◌}
use mathlib.Core.Logic.{⊎_elim}
use mathlib.Core.Path.{◌≡◌, refl, ◌∙◌}
use mathlib.Core.List.{List}
use native.Mathlib.Omega.{arith}
use lib.ListN.{get_or}
use denote.Param.Members.{Mut, Called}
use Rattle.std.proofs.lemmas.Bool.{cases_lt}
use Rattle.std.specs.Array.{IsFromFnResult, IsFromFnResultFrom}
use Rattle.line.specs.Writing.{Each}

module _ {F : Type 0} (g : Mut F (ℕ × Unit {0}) ℕ) (V : ℕ → ℕ) (f : F) (n : ℕ) (call : (i r : ℕ) (f' : F) → i < n → Called g f (i, tt) r f' → (r ≡ V i) × (f' ≡ f)) (ys : List ℕ) where
  from_calls : (i m : ℕ) → i + m ≤ n → (q : F) → q ≡ f → IsFromFnResultFrom g q ys i m → (j : ℕ) → i ≤ j → j < i + m → get_or ys j 0 ≡ V j
  from_calls i zero room q same made j low high = absurd (omega arith)
  from_calls i (suc m) room q same (q', y, here, called, rest) j low high =
      let now = call i y q' (omega arith) (rw same at called) in
      ⊎_elim
      (λ (e : j < i + 1). let at_i : j ≡ i = omega arith in rw at_i (here.1 0 ∙ now.0))
      (λ (more : i + 1 ≤ j). from_calls (i + 1) m (omega arith) q' now.1 rest j more (omega arith))
      (cases_lt j (i + 1))

  pub each_from_fn : IsFromFnResult g f ys n → Each n ys V
  unfolding Each
  each_from_fn made j h = from_calls 0 n (omega arith) f refl made.each j (omega arith) (omega arith)
