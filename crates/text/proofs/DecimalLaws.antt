-- Laws of a number in decimal: it reads back as itself. Assumes nothing.
use Prim.Native.Nat.{ℕ, zero, suc, ◌+◌, ◌-◌, ◌*◌, ◌/◌, ◌%◌, ◌≤◌, ◌<◌}
use mathlib.Core.Bool.{Bool, true, false}
use mathlib.Core.Path.{◌≡◌, refl, sym, ◌∙◌}
use mathlib.Core.List.{List, [], ◌∷◌, ◌++◌}
use native.Mathlib.Omega.{arith}
use lib.Dec.{ltb}
use lib.ListN.{length, get_or, length-append, get_or-append}
use lib.Seq.{get_or_at}
use borrow.Author.Tests.{ltb-true, ltb-false, lt-ltb, le-ltb}
use Rattle.std.specs.Prelude.{if◌then◌else◌}
use Rattle.text.specs.Decimal.{digit, decimal, digits, numeral}
use Rattle.text.specs.Theorems.{read_on, Digits, ReadsBack}

-- ---- numbers

pub decimal_one : (x : ℕ) → x < 10 → digit x ∷ [] ≡ decimal x
unfolding decimal
decimal_one x h = rw (lt-ltb x 10 h)

pub decimal_two : (x : ℕ) → 10 ≤ x → x < 100 → digit (x / 10) ∷ digit (x % 10) ∷ [] ≡ decimal x
unfolding decimal
decimal_two x h k = rw (le-ltb x 10 h, lt-ltb x 100 k)

pub decimal_three : (x : ℕ) → 100 ≤ x → digit (x / 100) ∷ digit (x / 10 % 10) ∷ digit (x % 10) ∷ [] ≡ decimal x
unfolding decimal
decimal_three x h = rw (le-ltb x 10 (omega arith), le-ltb x 100 h)

pub one_digit : (x : ℕ) → x < 10 → length (decimal x) ≡ 1
one_digit x h = rw (← decimal_one x h)

pub two_digits : (x : ℕ) → x < 100 → length (decimal x) ≤ 2
two_digits x h = go (ltb x 10) refl
  where
    go : (b : Bool) → ltb x 10 ≡ b → length (decimal x) ≤ 2
    go true e = omega (arith, one_digit x (ltb-true x 10 e))
    go false e = rw (← decimal_two x (ltb-false x 10 e) h) (omega arith)

-- at most three digits are written
pub decimal_short : (x : ℕ) → length (decimal x) ≤ 3
unfolding decimal
decimal_short x = go (ltb x 10) (ltb x 100)
  where
    go : (a b : Bool)
        → length (if a then digit x ∷ [] else (if b then digit (x / 10) ∷ digit (x % 10) ∷ [] else digit (x / 100) ∷ digit (x / 10 % 10) ∷ digit (x % 10) ∷ [])) ≤ 3
    go true b = omega arith
    go false true = omega arith
    go false false = omega arith

-- ---- a number of any size

-- turns enough are all alike
enough : (f g x : ℕ) → x < f → x < g → digits f x ≡ digits g x
unfolding digits
enough zero g x hf hg = absurd (omega arith)
enough (suc f) zero x hf hg = absurd (omega arith)
enough (suc f) (suc g) x hf hg = go (ltb x 10) refl (λ l. enough f g (x / 10) (omega arith) (omega arith))
  where
    go : (b : Bool) → ltb x 10 ≡ b → (10 ≤ x → digits f (x / 10) ≡ digits g (x / 10))
        → (if b then digit x ∷ [] else (digits f (x / 10) ++ digit (x % 10) ∷ [])) ≡ (if b then digit x ∷ [] else (digits g (x / 10) ++ digit (x % 10) ∷ []))
    go true e h = refl
    go false e h = rw (h (ltb-false x 10 e))

pub numeral_one : (x : ℕ) → x < 10 → digit x ∷ [] ≡ numeral x
unfolding numeral digits
numeral_one x h = rw (lt-ltb x 10 h)

pub numeral_more : (x : ℕ) → 10 ≤ x → numeral (x / 10) ++ digit (x % 10) ∷ [] ≡ numeral x
unfolding numeral digits
numeral_more x h = rw (le-ltb x 10 h, enough x (suc (x / 10)) (x / 10) (omega arith) (omega arith))

pub decimal_numeral : (x : ℕ) → x < 1000 → decimal x ≡ numeral x
decimal_numeral x h = go (ltb x 10) refl (ltb x 100) refl
  where
    go : (a : Bool) → ltb x 10 ≡ a → (b : Bool) → ltb x 100 ≡ b → decimal x ≡ numeral x
    go true p b q = let k = ltb-true x 10 p in sym (decimal_one x k) ∙ numeral_one x k
    go false p true q =
        let l = ltb-false x 10 p in
        let k = ltb-true x 100 q in
        rw (← decimal_two x l k, ← numeral_more x l, ← numeral_one (x / 10) (omega arith))
    go false p false q =
        let l = ltb-false x 100 q in
        let e : x / 10 / 10 ≡ x / 100 = omega arith in
        rw (← decimal_three x l, ← numeral_more x (omega arith), ← numeral_more (x / 10) (omega arith), ← numeral_one (x / 10 / 10) (omega arith), e)

-- ---- read back

none : Digits []
none = record { each = λ k h. absurd (omega arith) }

more : (d : ℕ) {bytes : List ℕ} → d < 10 → Digits bytes → Digits (digit d ∷ bytes)
more d {bytes} l r = record { each = go }
  where
    go : (k : ℕ) → k < suc (length bytes) → (48 ≤ get_or (digit d ∷ bytes) k 0) × (get_or (digit d ∷ bytes) k 0 ≤ 57)
    go zero h = (omega arith, omega arith)
    go (suc k) h = r.each k (omega arith)

one : (x : ℕ) → x < 10 → ReadsBack x (digit x ∷ [])
unfolding read_on
one x h = record {
  same = omega arith;
  some = omega arith;
  digits = more x h none;
  no_leading_zero = λ e. omega arith;
}

two : (x : ℕ) → 10 ≤ x → x < 100 → ReadsBack x (digit (x / 10) ∷ digit (x % 10) ∷ [])
unfolding read_on
two x l h = record {
  same = omega arith;
  some = omega arith;
  digits = more (x / 10) (omega arith) (more (x % 10) (omega arith) none);
  no_leading_zero = λ e. omega arith;
}

three : (x : ℕ) → 100 ≤ x → x < 1000 → ReadsBack x (digit (x / 100) ∷ digit (x / 10 % 10) ∷ digit (x % 10) ∷ [])
unfolding read_on
three x l h = record {
  same = omega arith;
  some = omega arith;
  digits = more (x / 100) (omega arith) (more (x / 10 % 10) (omega arith) (more (x % 10) (omega arith) none));
  no_leading_zero = λ e. omega arith;
}

pub reads_back : (x : ℕ) → x < 1000 → ReadsBack x (decimal x)
reads_back x h = go (ltb x 10) refl (ltb x 100) refl
  where
    go : (a : Bool) → ltb x 10 ≡ a → (b : Bool) → ltb x 100 ≡ b → ReadsBack x (decimal x)
    go true p b q = let k = ltb-true x 10 p in rw (← decimal_one x k) (one x k)
    go false p true q =
        let l = ltb-false x 10 p in let k = ltb-true x 100 q in rw (← decimal_two x l k) (two x l k)
    go false p false q = let l = ltb-false x 100 q in rw (← decimal_three x l) (three x l h)

-- ---- a number of any size, read back

read_then : (xs ys : List ℕ) (x : ℕ) → read_on x (xs ++ ys) ≡ read_on (read_on x xs) ys
unfolding read_on
read_then [] ys x = refl
read_then (b ∷ xs) ys x = read_then xs ys (10 * x + (b - 48))

digits_then : (xs : List ℕ) (d : ℕ) → Digits xs → d < 10 → Digits (xs ++ digit d ∷ [])
digits_then xs d r h = record { each = λ k l. go k (ltb k (length xs)) refl (rw length-append at l) }
  where
    go : (k : ℕ) (b : Bool) → ltb k (length xs) ≡ b → k < length xs + 1
        → (48 ≤ get_or (xs ++ digit d ∷ []) k 0) × (get_or (xs ++ digit d ∷ []) k 0 ≤ 57)
    go k true e l =
        let i = ltb-true k (length xs) e in
        rw (get_or-append xs (digit d ∷ []) 0 k i) (r.each k i)
    go k false e l =
        let i = ltb-false k (length xs) e in
        rw (get_or_at xs (digit d) [] 0 k (omega arith)) (omega arith, omega arith)

last_digit : (x : ℕ) (bytes : List ℕ) → 10 ≤ x → ReadsBack (x / 10) bytes → ReadsBack x (bytes ++ digit (x % 10) ∷ [])
unfolding read_on
last_digit x bytes h r = record {
  same = read_then bytes (digit (x % 10) ∷ []) 0 ∙ rw r.same (omega arith);
  some = simp length-append (omega arith);
  digits = digits_then bytes (x % 10) r.digits (omega arith);
  no_leading_zero =
      λ (e : get_or (bytes ++ digit (x % 10) ∷ []) 0 0 ≡ 48). let z : x / 10 ≡ 0 = r.no_leading_zero (rw (get_or-append bytes (digit (x % 10) ∷ []) 0 0 r.some) at e) in omega arith;
}

all_read_back : (turns x : ℕ) → x < turns → ReadsBack x (digits turns x)
unfolding digits
all_read_back zero x h = absurd (omega arith)
all_read_back (suc turns) x h = go (ltb x 10) refl (λ l. all_read_back turns (x / 10) (omega arith))
  where
    go : (b : Bool) → ltb x 10 ≡ b → (10 ≤ x → ReadsBack (x / 10) (digits turns (x / 10)))
        → ReadsBack x (if b then digit x ∷ [] else (digits turns (x / 10) ++ digit (x % 10) ∷ []))
    go true e r = one x (ltb-true x 10 e)
    go false e r = let l = ltb-false x 10 e in last_digit x (digits turns (x / 10)) l (r l)

pub numeral_reads_back : (x : ℕ) → ReadsBack x (numeral x)
unfolding numeral
numeral_reads_back x = all_read_back (suc x) x (omega arith)
