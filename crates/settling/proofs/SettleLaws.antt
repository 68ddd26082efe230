-- Laws of true p where the sums that enter a list change: at one link, for the records before the first with that link; or at links that no record has.
-- A record reads the sums above its own links alone, and hands on its own adjusts below; so a change at link k is seen up to the first record with link k and not behind it.
use Rattle.std.proofs.Common.{◌≡◌, ℕ, suc, ◌+◌, ◌%◌, ◌^◌, ◌<◌, ◌≤◌, List, [], ◌∷◌, ◌++◌, map, sym, refl, ap, ◌∙◌, ap₂, arith}
use Rattle.arena.specs.Arena.{level, p_word}
use Rattle.arena.specs.Lazy.{sum_from}
use Rattle.arena.specs.inside.Chain.{wrap, All, p_under, after, trues, leaving, Shape, Value}
use Rattle.arena.proofs.Cases.{lt_or_ge}
use Rattle.arena.proofs.SumLaws.{sum_agree, sum_frame, sum_split, add_both}
use Rattle.arena.proofs.Frames.{after_in, after_out, trues_frame}
use Rattle.settling.specs.inside.Lift.{Lifted}
use Rattle.settling.proofs.LiftLaws.{Bumped, under_lifted, after_lifted}

-- The first record, if there is one, has link k: sums that differ at k alone are the same to such a list.
abbrev pub Starts : List ℕ → ℕ → List ℕ → Type 0
Starts a k [] = Unit {0}
Starts a k (r ∷ rs) = k < level a r

module _ (a b : List ℕ) (k : ℕ) (f g : ℕ → ℕ) (e : (j : ℕ) → j < 8 → (j ≡ k → ⊥) → g j ≡ f j) where
  under_fresh : (r : ℕ) → k < level a r → Value a b r → p_under b g r ≡ p_under a f r
  unfolding p_under
  under_fresh r h v =
      ap₂ (λ (x : ℕ) (y : ℕ). (x + y) % 2 ^ 32) v.p_kept
      (ap (λ (n : ℕ). sum_from g n 8) v.level_kept
      ∙ sum_agree f g (level a r) 8 (λ j low high. e j high (omega arith)))

  after_fresh : (r : ℕ) → k < level a r → Value a b r → (j : ℕ) → j < 8 → after b g r j ≡ after a f r j
  after_fresh r h v j few =
      let same = v.level_kept in
      lt_or_ge j (level a r)
      (λ p. after_in b g r j (omega arith) ∙ v.adjust_kept j few ∙ sym (after_in a f r j p))
      (λ p. after_out b g r j (omega arith) ∙ e j few (omega arith) ∙ sym (after_out a f r j p))

  pub trues_fresh : (rs : List ℕ) → Starts a k rs → All (Value a b) rs → trues b g rs ≡ trues a f rs
  unfolding trues
  trues_fresh [] s v = refl
  trues_fresh (r ∷ rs) s v =
      ap₂ ◌∷◌ (under_fresh r s v.0)
      (trues_frame a b (after a f r) (after b g r) rs (after_fresh r s v.0) v.1)

-- The list xs ++ ys, with xs raised by v at link k and the sum of k raised as it is entered, where ys starts with a record that has link k: each true p of xs is raised, and those of ys stay.
module _ (a b : List ℕ) (k v : ℕ) (small : k < 8) (shape : (x : ℕ) → Shape a b x) where
  pub trues_parted : (f g : ℕ → ℕ) → Bumped k v f g → (xs ys : List ℕ) → All (λ x. 1 ≤ level a x) xs → All (λ x. level a x ≤ suc k) xs → All (Lifted a b k v) xs → Starts a k ys → All (Value a b) ys → trues b g (xs ++ ys) ≡ map (λ (t : ℕ). wrap t v) (trues a f xs) ++ trues a (leaving a f xs) ys
  unfolding trues leaving
  trues_parted f g bump [] ys some low l s same = trues_fresh a b k f g bump.other ys s same
  trues_parted f g bump (r ∷ xs) ys some low l s same =
      ap₂ ◌∷◌ (under_lifted a b k v small f g bump r (shape r).level_kept l.0 some.0 low.0)
      (trues_parted (after a f r) (after b g r) (after_lifted a b k v small f g bump r (shape r).level_kept l.0) xs ys some.1 low.1 l.1 s same)

-- Sums that differ at the links from n on, which no record has: each true p differs as those sums do.
plain : (p s x c : ℕ) → ((p + (s + x)) % 2 ^ 32 + c) % 2 ^ 32 ≡ (p + s + (c + x)) % 2 ^ 32
plain p s x c = omega arith

module _ (a : List ℕ) (n c q : ℕ) (most : n ≤ 8) where
  under_above : (f g : ℕ → ℕ) → ((j : ℕ) → j < n → f j ≡ g j) → (c + sum_from f n 8) % 2 ^ 32 ≡ (q + sum_from g n 8) % 2 ^ 32 → (r : ℕ) → level a r ≤ n → wrap (p_under a f r) c ≡ wrap (p_under a g r) q
  unfolding p_under wrap
  under_above f g e d r low =
      let p = p_word a r in
      let s = sum_from g (level a r) n in
      let x = sum_from f n 8 in
      let y = sum_from g n 8 in
      let left : sum_from f (level a r) 8 ≡ s + x = sum_split f (level a r) n 8 low most ∙ ap (λ (t : ℕ). t + x) (sum_frame g f (level a r) n e) in
      let right : sum_from g (level a r) 8 ≡ s + y = sum_split g (level a r) n 8 low most in
      ap (λ (t : ℕ). ((p + t) % 2 ^ 32 + c) % 2 ^ 32) left ∙ plain p s x c ∙ add_both (p + s) (c + x) (q + y) d ∙ sym (plain p s y q)
      ∙ ap (λ (t : ℕ). ((p + t) % 2 ^ 32 + q) % 2 ^ 32) (sym right)

  after_below : (f g : ℕ → ℕ) → ((j : ℕ) → j < n → f j ≡ g j) → (r j : ℕ) → j < n → after a f r j ≡ after a g r j
  after_below f g e r j h =
      lt_or_ge j (level a r) (λ p. after_in a f r j p ∙ sym (after_in a g r j p))
      (λ p. after_out a f r j p ∙ e j h ∙ sym (after_out a g r j p))

  sum_after : (f : ℕ → ℕ) (r : ℕ) → level a r ≤ n → sum_from (after a f r) n 8 ≡ sum_from f n 8
  sum_after f r low = sum_agree f (after a f r) n 8 (λ j above high. after_out a f r j (omega arith))

  pub trues_above : (f g : ℕ → ℕ) → ((j : ℕ) → j < n → f j ≡ g j) → (c + sum_from f n 8) % 2 ^ 32 ≡ (q + sum_from g n 8) % 2 ^ 32 → (rs : List ℕ) → All (λ x. level a x ≤ n) rs → map (λ (t : ℕ). wrap t c) (trues a f rs) ≡ map (λ (t : ℕ). wrap t q) (trues a g rs)
  unfolding trues
  trues_above f g e d [] low = refl
  trues_above f g e d (r ∷ rs) low =
      let next : (c + sum_from (after a f r) n 8) % 2 ^ 32 ≡ (q + sum_from (after a g r) n 8) % 2 ^ 32 = ap (λ (x : ℕ). (c + x) % 2 ^ 32) (sum_after f r low.0) ∙ d ∙ ap (λ (x : ℕ). (q + x) % 2 ^ 32) (sym (sum_after g r low.0)) in
      ap₂ ◌∷◌ (under_above f g e d r low.0)
      (trues_above (after a f r) (after a g r) (after_below f g e r) next rs low.1)
