-- What an arena holds of a list is what the list carries, entered with the adjusts of its head.
-- The last record with a link before the next one is the record just passed where that has the link, which is how the running sums go on.
use Rattle.std.proofs.Common.{◌≡◌, ℕ, ◌<◌, List, [], ◌∷◌, ◌++◌, refl, ap, ◌∙◌, ap₂, le-ltb, lt-ltb}
use Rattle.slicing.specs.Item.{size}
use Rattle.slicing.specs.Recorded.{Recorded}
use Rattle.arena.specs.Arena.{level, m_word, adjust}
use Rattle.arena.specs.Lazy.{last_with, true_p, held}
use Rattle.arena.specs.inside.Chain.{p_under, after, trues}
use Rattle.arena.proofs.Cases.{lt_or_ge}
use Rattle.arena.proofs.PutLaws.{same_refl}
use Rattle.arena.proofs.ListLaws.{last_more}
use Rattle.arena.proofs.Frames.{all_refl}
use Rattle.arena.specs.inside.Carried.{carried}
use Rattle.arena.proofs.CarriedLaws.{carried_same}

-- The sums behind the head h and the records before.
abbrev pub passed_sums : List ℕ → ℕ → List ℕ → ℕ → ℕ
passed_sums a h before k = adjust a (last_with a k h before) k

pub sums_on : (a : List ℕ) (h : ℕ) (before : List ℕ) (r k : ℕ) → passed_sums a h (before ++ (r ∷ [])) k ≡ after a (passed_sums a h before) r k
unfolding after
sums_on a h before r k =
    ap (λ (x : ℕ). adjust a x k) (last_more a k h before r)
    ∙ lt_or_ge k (level a r) (λ less. rw (lt-ltb k (level a r) less) refl) (λ more. rw (le-ltb k (level a r) more) refl)

pub carried_sums : (a : List ℕ) (f g : ℕ → ℕ) (rs : List ℕ) → ((k : ℕ) → k < 8 → g k ≡ f k) → carried a g rs ≡ carried a f rs
carried_sums a f g rs same = carried_same a a f g rs same (all_refl rs (same_refl a))

true_under : (a : List ℕ) (h : ℕ) (before : List ℕ) (r : ℕ) → true_p a h before r ≡ p_under a (passed_sums a h before) r
unfolding true_p p_under
true_under a h before r = refl

held_from : (a : List ℕ) (h : ℕ) (before rs : List ℕ) → held a h before rs ≡ carried a (passed_sums a h before) rs
unfolding held carried trues
held_from a h before [] = refl
held_from a h before (r ∷ rs) =
    ap₂ (λ (p : ℕ) (l : List Recorded). record { number = r; item = size (m_word a r) p } ∷ l) (true_under a h before r)
    (held_from a h (before ++ (r ∷ [])) rs ∙ carried_sums a (after a (passed_sums a h before) r) (passed_sums a h (before ++ (r ∷ []))) rs (λ k few. sums_on a h before r k))

pub held_carried : (a : List ℕ) (h : ℕ) (rs : List ℕ) → held a h [] rs ≡ carried a (adjust a h) rs
unfolding last_with
held_carried a h rs = held_from a h [] rs
