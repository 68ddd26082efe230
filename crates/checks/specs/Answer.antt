-- What a run of questions answers, as the code has it: the first check that was answered "no", which is an error, or what was taken. Document 01: "First no wins."
use Rattle.std.specs.Prelude.{Bool, true, false, ℕ, zero, suc, Result}
pub use Rattle.std.specs.Prelude.{Err as refused, Ok as taken}
use Rattle.checks.specs.Check.{number_of}
use Rattle.checks.specs.declared.Check.{Check}

abbrev pub Answer : Type 0 → Type 0
Answer A = Result A Check

-- One question: where it is answered "no", its check; where "yes", what follows.
abbrev pub ask : {A : Type 0} → Bool → Check → Answer A → Answer A
ask true c a = a
ask false c a = refused c

-- What follows on what was taken.
abbrev pub next : {A B : Type 0} → Answer A → (A → Answer B) → Answer B
next (refused c) f = refused c
next (taken x) f = f x

-- What a run of questions answers that gives nothing but whether each was answered "yes".
abbrev pub Asked : Type 0
Asked = Answer (Unit {0})

-- A run of questions, and where each of them is answered "yes", what follows.
abbrev pub also : {A : Type 0} → Asked → Answer A → Answer A
also asked a = next asked (λ ok. a)

-- The number of an answer: that of the check, and 0 where the call is taken.
abbrev pub number : {A : Type 0} → Answer A → ℕ
number (refused c) = number_of c
number (taken x) = 0

-- What a buffer or a field holds after a call: `old` where the call is refused, else what the taken value gives.
abbrev pub outcome : {A B : Type 0} → Answer A → B → (A → B) → B
outcome (refused c) old f = old
outcome (taken x) old f = f x

-- Of two numbers of answers the first that is not 0.
abbrev pub first_no : ℕ → ℕ → ℕ
first_no zero later = later
first_no (suc n) later = suc n
