-- Zeros that fill a part of a buffer are stores of as many zeros in turn, from where the part begins.
-- Both leave what is before the part and what is after it.
use mathlib.Core.Path.{◌≡◌, sym, ap, ◌∙◌}
use mathlib.Core.List.{List, ◌++◌, append_assoc}
use Prim.Native.Nat.{ℕ, ◌+◌, ◌≤◌}
use native.Mathlib.Omega.{arith}
use lib.ListN.{length, replicate, take, drop, length-replicate, length-take, length-drop}
use lib.Seq.{sets, sets-eq, drop-drop}
use borrow.Rule.Slice.PartMut.{mid_of, put_mid}

module _ (out : List ℕ) (i k : ℕ) where
  abbrev zeros : List ℕ
  zeros = replicate k 0

  pub zeros_fill : (part : List ℕ) → i + k ≤ length out → part ≡ replicate (length (mid_of i k out)) 0 → put_mid i k out part ≡ sets out i zeros
  zeros_fill part inside filled =
      let many : length (mid_of i k out) ≡ k = simp (length-take, length-drop) (omega arith) in
      let as_many : length zeros ≡ k = length-replicate k 0 in
      let behind : i + k ≡ i + length zeros = omega arith in
      ap (λ (p : List ℕ). take i out ++ (p ++ drop k (drop i out))) (filled ∙ ap (λ (n : ℕ). replicate n 0) many)
      ∙ ap (λ (rest : List ℕ). take i out ++ (zeros ++ rest)) (drop-drop k i out ∙ ap (λ (n : ℕ). drop n out) behind)
      ∙ sym (append_assoc (take i out) zeros (drop (i + length zeros) out)) ∙ sym (sets-eq zeros out i (omega arith))
