-- What a list of records carries is what its parts carry, one after the other, and it hangs on the m and the true p alone.
-- Each goes by the records of the list in turn, with their true p beside them.
use Rattle.std.proofs.Common.{◌≡◌, ℕ, suc, ◌<◌, List, [], ◌∷◌, ◌++◌, length, refl, ap, ◌∙◌, arith}
use Rattle.slicing.specs.Item.{size}
use Rattle.slicing.specs.Recorded.{Recorded}
use Rattle.arena.specs.Arena.{m_word}
use Rattle.arena.specs.inside.Chain.{All, p_under, after, trues, leaving, Same}
use Rattle.arena.proofs.Frames.{all_map, all_refl, same_value, trues_frame}
use Rattle.arena.proofs.ListLaws.{trues_append}
use Rattle.arena.specs.inside.Carried.{paired, carried}

pub trues_length : (a : List ℕ) (f : ℕ → ℕ) (rs : List ℕ) → length (trues a f rs) ≡ length rs
unfolding trues
trues_length a f [] = refl
trues_length a f (r ∷ rs) = ap suc (trues_length a (after a f r) rs)

pub carried_cons : (a : List ℕ) (f : ℕ → ℕ) (r : ℕ) (rs : List ℕ) → carried a f (r ∷ rs) ≡ record { number = r; item = size (m_word a r) (p_under a f r) } ∷ carried a (after a f r) rs
unfolding carried trues
carried_cons a f r rs = refl

pub paired_append : (a xs ys ps qs : List ℕ) → length ps ≡ length xs → paired a (xs ++ ys) (ps ++ qs) ≡ paired a xs ps ++ paired a ys qs
paired_append a [] ys [] qs e = refl
paired_append a [] ys (p ∷ ps) qs e = absurd (omega arith)
paired_append a (x ∷ xs) ys [] qs e = absurd (omega arith)
paired_append a (x ∷ xs) ys (p ∷ ps) qs e =
    ap (λ (l : List Recorded). record { number = x; item = size (m_word a x) p } ∷ l) (paired_append a xs ys ps qs (omega arith))

pub paired_frame : (a b rs ps : List ℕ) → All (λ x. m_word b x ≡ m_word a x) rs → paired b rs ps ≡ paired a rs ps
paired_frame a b [] ps e = refl
paired_frame a b (r ∷ rs) [] e = refl
paired_frame a b (r ∷ rs) (p ∷ ps) e =
    ap (λ (m : ℕ). record { number = r; item = size m p } ∷ paired b rs ps) e.0
    ∙ ap (λ (l : List Recorded). record { number = r; item = size (m_word a r) p } ∷ l) (paired_frame a b rs ps e.1)

pub carried_append : (a : List ℕ) (f : ℕ → ℕ) (xs ys : List ℕ) → carried a f (xs ++ ys) ≡ carried a f xs ++ carried a (leaving a f xs) ys
unfolding carried
carried_append a f xs ys =
    ap (paired a (xs ++ ys)) (trues_append a f xs ys)
    ∙ paired_append a xs ys (trues a f xs) (trues a (leaving a f xs) ys) (trues_length a f xs)

-- The same m and the same true p.
pub carried_frame : (a b : List ℕ) (f g : ℕ → ℕ) (rs : List ℕ) → ((x : ℕ) → m_word b x ≡ m_word a x) → trues b g rs ≡ trues a f rs → carried b g rs ≡ carried a f rs
unfolding carried
carried_frame a b f g rs e t = paired_frame a b rs (trues b g rs) (all_refl rs e) ∙ ap (paired a rs) t

-- The records are as they were, and so are the sums that enter them.
pub carried_same : (a b : List ℕ) (f g : ℕ → ℕ) (rs : List ℕ) → ((k : ℕ) → k < 8 → g k ≡ f k) → All (Same a b) rs → carried b g rs ≡ carried a f rs
unfolding carried
carried_same a b f g rs sums same =
    paired_frame a b rs (trues b g rs) (all_map rs (λ x s. s.at 1 (omega arith)) same)
    ∙ ap (paired a rs) (trues_frame a b f g rs sums (all_map rs (λ x s. same_value a b x s) same))
