-- The answer is as promised, and our own logs yield their marks. Assumes nothing.
use Prim.Native.Nat.{ℕ}
use Rattle.refusal.specs.declared.cause.Cause.{Cause}
use Rattle.std.specs.declared.result.Result.{Result}
use Rattle.std.specs.declared.result.Result.TheVariants.{Ok, Err}
use mathlib.Core.Path.{◌≡◌, refl, sym, ap, subst, ◌∙◌}
use mathlib.Core.List.{[], ◌∷◌}
use native.Mathlib.Omega.{arith}
use lib.ListN.{length}
use mathlib.Core.Bool.{false}
use Rattle.line.specs.Line.{table_length, outcomes_length}
use Rattle.line.specs.Marks.{mark_beyond}
use Rattle.refusal.specs.Cause.{code, given, no_cause, answered, single, values}
use Rattle.refusal.specs.Cause.{Verdict}
use Rattle.refusal.proofs.VerdictLaws.{both_accepted, accepted_false}
use Rattle.header.specs.Header.{line_verdict, header_verdict, station_number, bit, marks_within, exact_length}
use Rattle.header.proofs.HeaderLaws.{inside, length_exact, line_sound, line_accepts, number_accepts, length_accepts, header_sound}
use Rattle.broadcast.specs.Bytes.{Run, log, outcomes}
use Rattle.broadcast.proofs.Theorems.{log_bytes, outcome_bytes}
use Rattle.rules.specs.Rules.{Logged, Exactly, broke}
use Rattle.rules.specs.Theorems.{Fitting, Least, logged_of}
use Rattle.rules.proofs.Theorems as rules
use Rattle.rehearsal.specs.Promise.{rehearsal_verdict}
use Rattle.checker.specs.Promise.{logged, check_verdict, verdict_of, check_answer, Checks}
use Rattle.checker.specs.Theorems.{OwnLogs}
use Rattle.checker.specs.Followed.{Checkable}

-- ---- what is not refused

module _ (L : Logged) (accepted : verdict_of L ≡ no_cause) where
  -- by none of the causes
  by_none : (line_verdict L.n L.t L.T ≡ no_cause) × (station_number L.n L.sender ≡ no_cause)
      × (exact_length (table_length L.n L.t) (length L.log) ≡ no_cause)
      × (exact_length (outcomes_length L.n) (length L.outcomes) ≡ no_cause)
  unfolding check_verdict
  by_none =
      let (a, e₂) = both_accepted (line_verdict L.n L.t L.T) _ accepted in
      let (b, e₃) = both_accepted (station_number L.n L.sender) _ e₂ in
      let (c, d) = both_accepted (exact_length (table_length L.n L.t) (length L.log)) _ e₃ in
      (a, b, c, d)

  pub fitting : Fitting L
  unfolding station_number
  fitting =
      let (a, b, c, d) = by_none in
      let sender = inside 1 L.n L.sender (accepted_false _ _ b) in
      record {
        fits = (line_sound L.n L.t L.T a).2;
        sender_low = sender.0;
        sender_high = sender.1;
        log_length = length_exact _ _ c;
      }

  -- as the rounds need it, without the outcomes
  pub checkable_alone : Checkable (logged L.n L.t L.T L.sender L.log [])
  checkable_alone =
      let f = fitting in
      record {
        most = (line_sound L.n L.t L.T by_none.0).1;
        fitting = record { fits = f.fits; sender_low = f.sender_low; sender_high = f.sender_high; log_length = f.log_length };
      }

  pub outcomes_whole : length L.outcomes ≡ outcomes_length L.n
  outcomes_whole = length_exact _ _ by_none.3

-- ---- the promise

answer_case : (v : Verdict) (marks : ℕ)
    → (code (answered v marks) ≡ code v) × ((values single) (answered v marks) ≡ given v (marks ∷ []))
answer_case (Ok _) marks = (refl, refl)
answer_case (Err c) marks = (refl, refl)

-- marks are answered where nothing is refused, and they are the set
told : (v : Verdict) (marks marks' : ℕ) → Ok marks ≡ answered v marks' → (v ≡ no_cause) × (marks' ≡ marks)
told (Ok _) marks marks' e = (refl, cc)
told (Err c) marks marks' e = let z : ◌≡◌ {A = ℕ} 0 1 = cc in absurd (omega arith)

pub checks : (L : Logged) (answer : Result ℕ Cause) → answer ≡ check_answer L → Checks L answer
checks L answer e =
    let (a, b) = answer_case (verdict_of L) (broke L) in
    record {
      answer_is = e;
      number_is = ap code e ∙ a;
      values_are = ap (values single) e ∙ b;
      exactly = λ marks q. subst (Exactly L) (told (verdict_of L) marks (broke L) (sym q ∙ e)).1 (rules.broke_exactly L);
      least = λ marks q.
          let (v, same) = told (verdict_of L) marks (broke L) (sym q ∙ e) in
          subst (Least L) same (rules.broke_least L (fitting L v));
    }

-- ---- our own logs

own_accepted : (R : Run) → header_verdict R.n R.t R.T R.sender R.value R.marks ≡ no_cause
    → verdict_of (logged_of R) ≡ no_cause
unfolding check_verdict
own_accepted R e =
    let h = header_sound R.n R.t R.T R.sender R.value R.marks e in
    rw (line_accepts R.n R.t R.T h.most h.fits, number_accepts R.n R.sender h.sender_low h.sender_high, length_accepts _ _ (log_bytes R).size)
    (length_accepts _ _ (outcome_bytes R).size)

none_beyond : (n t T sender value marks : ℕ) → header_verdict n t T sender value marks ≡ no_cause → mark_beyond n marks ≡ false
unfolding header_verdict marks_within
none_beyond n t T sender value marks e =
    let (_, e₂) = both_accepted (line_verdict n t T) _ e in
    let (_, e₃) = both_accepted (station_number n sender) _ e₂ in
    accepted_false _ _ (both_accepted (bit value) (marks_within n marks) e₃).1

pub own_logs : OwnLogs
unfolding rehearsal_verdict
own_logs R log₀ log₁ outcomes₀ outcomes₁ W =
    let e = (both_accepted _ _ (sym W.judged.answer_is)).0 in
    let h = header_sound R.n R.t R.T R.sender R.value R.marks e in
    let within = none_beyond R.n R.t R.T R.sender R.value R.marks e in
    rw (W.log_is, W.outcomes_are, own_accepted R e, rules.own_logs R h.fits h.sender_low h.sender_high h.value_bit within)
