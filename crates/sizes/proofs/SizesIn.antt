-- The sizes that the reader took are those that stand in the bytes or words, and those of bytes hang on their own bytes alone.
-- The reader takes a size only as it stands at its place, a step after the size before it.
use mathlib.Core.Path.{◌≡◌, refl, sym, ap, ap₂, ◌∙◌}
use mathlib.Core.List.{List, [], ◌∷◌}
use Prim.Native.Nat.{ℕ, zero, suc, ◌+◌, ◌*◌, ◌<◌}
use native.Mathlib.Omega.{arith}
use lib.ListN.{length, get_or, drop}
use lib.Seq.{drop-drop, get_or-drop}
use Rattle.checks.specs.declared.Check.TheVariants.{Limits, Order}
use Rattle.checks.specs.Answer.{taken}
use Rattle.checks.proofs.Answers.{same_taken, ask_taken, next_taken}
use Rattle.slicing.specs.Item.{Item, size}
use Rattle.sizes.specs.Rules.{Rules}
use Rattle.sizes.specs.GaugeSizes.{size_at, version_rules, limited, in_order, sizes_after, sizes_from}
use Rattle.sizes.specs.inside.Sizes.{sizes_by, sizes_in, SizeIn}
use Rattle.sizes.specs.declared.Size.{Size}

after_by : (rules : Rules) (y : Item) (k : ℕ) (l : List ℕ) (z : List Item) → sizes_after rules y k l ≡ taken z → z ≡ sizes_by rules.step rules.size_of k l
unfolding sizes_after
after_by rules y zero l z e = sym (same_taken [] z e)
after_by rules y (suc k) l z e =
    let x = rules.size_of l in
    let limits = ask_taken (limited x) Limits _ z e in
    let order = ask_taken (in_order rules y x) Order _ z limits.1 in
    let rest = next_taken (sizes_after rules x k (drop rules.step l)) (λ zs. taken (x ∷ zs)) z order.1 in
    sym (same_taken (x ∷ rest.0) z rest.2)
    ∙ ap (λ (zs : List Item). x ∷ zs) (after_by rules x k (drop rules.step l) rest.0 rest.1)

pub from_by : (rules : Rules) (k : ℕ) (l : List ℕ) (z : List Item) → sizes_from rules k l ≡ taken z → z ≡ sizes_by rules.step rules.size_of k l
unfolding sizes_from
from_by rules zero l z e = sym (same_taken [] z e)
from_by rules (suc k) l z e =
    let x = rules.size_of l in
    let limits = ask_taken (limited x) Limits _ z e in
    let rest = next_taken (sizes_after rules x k (drop rules.step l)) (λ zs. taken (x ∷ zs)) z limits.1 in
    sym (same_taken (x ∷ rest.0) z rest.2)
    ∙ ap (λ (zs : List Item). x ∷ zs) (after_by rules x k (drop rules.step l) rest.0 rest.1)

pub from_in : (v k : ℕ) (bytes : List ℕ) (z : List Item) → sizes_from (version_rules v) k bytes ≡ taken z → z ≡ sizes_in k bytes
unfolding sizes_in
from_in v k bytes z e = from_by (version_rules v) k bytes z e

pub in_same : (k : ℕ) (x y : List ℕ) → ((i : ℕ) → i < 4 * k → get_or x i 0 ≡ get_or y i 0) → sizes_in k x ≡ sizes_in k y
unfolding sizes_in
in_same zero x y same = refl
in_same (suc k) x y same =
    ap₂ ◌∷◌
    (ap₂ size (ap₂ (λ (u v : ℕ). 256 * u + v) (same 0 (omega arith)) (same 1 (omega arith))) (ap₂ (λ (u v : ℕ). 256 * u + v) (same 2 (omega arith)) (same 3 (omega arith))))
    (in_same k (drop 4 x) (drop 4 y) (λ i less. get_or-drop 4 x i 0 ∙ same (4 + i) (omega arith) ∙ sym (get_or-drop 4 y i 0)))

pub in_length : (k : ℕ) (x : List ℕ) → length (sizes_in k x) ≡ k
unfolding sizes_in
in_length zero x = refl
in_length (suc k) x = ap suc (in_length k (drop 4 x))

in_at : (n k : ℕ) (x : List ℕ) → k < n → size_at (drop (4 * k) x) ≡ get_or (sizes_in n x) k (size 0 0)
unfolding sizes_in
in_at zero k x h = absurd (omega arith)
in_at (suc n) zero x h = refl
in_at (suc n) (suc k) x h =
    let place : 4 * suc k ≡ 4 + 4 * k = omega arith in
    ap (λ (i : ℕ). size_at (drop i x)) place ∙ sym (ap size_at (drop-drop (4 * k) 4 x)) ∙ in_at n k (drop 4 x) (omega arith)

-- The size that is read at the place of size k.
pub size_in : (x : List ℕ) (k : ℕ) (z : Size) → size z.height z.width ≡ size_at (drop (4 * k) x) → z.height < 65_536 → z.width < 65_536 → SizeIn x k z
size_in x k z e h w = record { same = λ n less. e ∙ in_at n k x less; height_fits = h; width_fits = w }
