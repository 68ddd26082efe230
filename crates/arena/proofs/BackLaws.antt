-- The back words of lists one after the other, of a list whose front goes behind another, and of one that words elsewhere leave alone.
-- Each goes by the records of a list in turn: those inside a run that moves stay as they are, so that only its first record's is set.
use Rattle.std.proofs.Common.{◌≡◌, ℕ, ◌≤◌, List, [], ◌∷◌, ◌++◌, refl, ◌∙◌}
use Rattle.arena.specs.Arena.{level, back}
use Rattle.arena.specs.Lazy.{last_with}
use Rattle.arena.specs.inside.Chain.{All}
use Rattle.arena.specs.inside.Backs.{Backs, Inner, last_of}
use Rattle.arena.proofs.ListLaws.{last_here}

-- The last of two lists, one after the other, and of one more record.
pub last_of_append : (before : ℕ) (xs ys : List ℕ) → last_of before (xs ++ ys) ≡ last_of (last_of before xs) ys
unfolding last_of
last_of_append before [] ys = refl
last_of_append before (x ∷ xs) ys = last_of_append x xs ys

pub last_of_more : (before : ℕ) (xs : List ℕ) (r : ℕ) → last_of before (xs ++ (r ∷ [])) ≡ r
unfolding last_of
last_of_more before xs r = last_of_append before xs (r ∷ [])

-- Every record of a list has link 0, so that the last one with it is the last one.
pub last_of_link : (a : List ℕ) (before : ℕ) (rs : List ℕ) → All (λ x. 1 ≤ level a x) rs → last_with a 0 before rs ≡ last_of before rs
unfolding last_with last_of
last_of_link a before [] low = refl
last_of_link a before (r ∷ rs) low = last_here a 0 before r rs low.0 ∙ last_of_link a r rs low.1

pub last_of_all : (P : ℕ → Type 0) (before : ℕ) (rs : List ℕ) → P before → All P rs → P (last_of before rs)
unfolding last_of
last_of_all P before [] p q = p
last_of_all P before (r ∷ rs) p q = last_of_all P r rs q.0 q.1

-- Back words of two lists, one after the other.
module _ (a : List ℕ) where
  pub backs_append : (before : ℕ) (xs ys : List ℕ) → Backs a before xs → Backs a (last_of before xs) ys → Backs a before (xs ++ ys)
  unfolding last_of
  backs_append before [] ys b c = c
  backs_append before (x ∷ xs) ys b c = (b.0, backs_append x xs ys b.1 c)

  backs_left : (before : ℕ) (xs ys : List ℕ) → Backs a before (xs ++ ys) → Backs a before xs
  backs_left before [] ys b = tt
  backs_left before (x ∷ xs) ys b = (b.0, backs_left x xs ys b.1)

  backs_right_of : (before : ℕ) (xs ys : List ℕ) → Backs a before (xs ++ ys) → Backs a (last_of before xs) ys
  unfolding last_of
  backs_right_of before [] ys b = b
  backs_right_of before (x ∷ xs) ys b = backs_right_of x xs ys b.1

  pub backs_inner : (before : ℕ) (rs : List ℕ) → Backs a before rs → Inner a rs
  backs_inner before [] b = tt
  backs_inner before (r ∷ rs) b = b.1

  -- The run r, fs of the list r, fs, rest goes behind the list cs of the head hc, where the back word of r is the last of cs already.
  module _ (hc r : ℕ) (cs fs rest : List ℕ) (waits : Inner a (r ∷ (fs ++ rest))) where
    pub run_backs : Backs a hc cs → back a r ≡ last_of hc cs → Backs a hc (cs ++ (r ∷ fs))
    run_backs done set = backs_append hc cs (r ∷ fs) done (set, backs_left r fs rest waits)

    pub rest_inner : Inner a rest
    rest_inner = backs_inner (last_of r fs) rest (backs_right_of r fs rest waits)

-- What words elsewhere leave.
module _ (a b : List ℕ) where
  pub backs_frame : (before : ℕ) (rs : List ℕ) → All (λ x. back b x ≡ back a x) rs → Backs a before rs → Backs b before rs
  backs_frame before [] same h = tt
  backs_frame before (r ∷ rs) same h = (same.0 ∙ h.0, backs_frame r rs same.1 h.1)

  pub inner_frame : (rs : List ℕ) → All (λ x. back b x ≡ back a x) rs → Inner a rs → Inner b rs
  inner_frame [] same h = tt
  inner_frame (r ∷ rs) same h = backs_frame r rs same.1 h
